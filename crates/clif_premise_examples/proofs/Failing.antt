-- The examples that fail a premise on calls alone.
use Rattle.std.proofs.Common.{◌≡◌, ◌⊎◌, inl, inr, true, false, [], ◌∷◌, refl, arith, Contains}
use Rattle.std.specs.List.{AllByRecursion}
use Rattle.clif_tables.specs.Callees.{types_of}
use Rattle.clif_meaning.specs.BranchExamples.{block}
use Rattle.clif_meaning.specs.CallExamples.{i64}
use Rattle.clif_meaning.specs.Examples.{i32}
use Rattle.clif_meaning.specs.FunctionView.{FunctionView}
use Rattle.clif_meaning.specs.Name.{Name, answer_of}
use Rattle.clif_meaning.specs.Premises.{EntryTakes, IsItemWellTyped}
use Rattle.clif_meaning.specs.WellPlaced.{IsGivenBefore, program_code}
use Rattle.clif_meaning.specs.World.{World}
use Rattle.clif_expansion.specs.ScriptCall.{ledger_of}
use Rattle.clif_meaning.proofs.StraightLine.{nothing_contained}
use Rattle.clif_premise_examples.specs.Examples.{alone, beside, placed}
use Rattle.clif_premise_examples.specs.Premise.{Arguments, ClaimsTrue, FailsAlone, GivenBefore, Holds, IsTyped, LibcAsNamed, Pointers, Situation, Slots, SparesSpills, TargetsFilled, TrackedApart, program_in, run_in}
use Rattle.clif_premise_examples.specs.Scripts.{asking, bare_script, misnamed_script, passing_script, stray_script, taking, to_entry_script, tracked_script, unfilled_script}
use Rattle.clif_premise_examples.proofs.Blocks.{blocks_of, each_item}
use Rattle.clif_premise_examples.proofs.Given.{well_placed}
use Rattle.clif_premise_examples.proofs.Running.{all_spared, all_true}
use Rattle.clif_premise_examples.proofs.Situations.{EachMeets, named, no_slots, targets, tracked}
use Rattle.clif_premise_examples.proofs.Still.{claimed, is_still, spared}

-- what holds of the world, and along a run that leaves memory, before others
of_world : {R : Type 0} (s : Situation) → Holds s Arguments → Holds s Pointers → Holds s Slots → R → Holds s Arguments × (Holds s Pointers × (Holds s Slots × R))
of_world s arguments pointers slots rest = (arguments, (pointers, (slots, rest)))

along : {R : Type 0} (s : Situation) → EachMeets s is_still → R → Holds s SparesSpills × (Holds s ClaimsTrue × R)
along s still rest = (spared s still, (claimed s still, rest))

typed : (s : Situation) → AllByRecursion (λ block. AllByRecursion (IsItemWellTyped (ledger_of s.calls) (program_in s) (types_of s.signature.returns)) ((program_in s).items block)) (blocks_of s.calls)
    → EntryTakes (ledger_of s.calls) (program_in s) (types_of s.signature.params) (program_in s).entry → Holds s IsTyped
typed s items entry = record { items = each_item s.calls _ items; entry = entry }

no_name : (x : Name) → Contains {X = Name} [] x ⊎ ⊥ → ⊥
no_name x (inl there) = nothing_contained x there
no_name x (inr there) = there

module _ (function : FunctionView) (world : World) where
  abbrev unfilled : Situation
  unfilled = alone (asking unfilled_script) (taking [] []) function world

  pub not_filled : FailsAlone TargetsFilled unfilled
  not_filled = record {
    accepted = refl;
    fails = λ good. let no : false ≡ true = (good (block 0)).0.0.filled in cc;
    others =
        of_world unfilled tt refl (no_slots unfilled.world) (
          typed unfilled ((record { made_at = refl; operands = tt; edges = (refl, tt) }, tt), tt) refl,
          (well_placed unfilled.calls (refl, tt), (tracked unfilled (refl, tt), along unfilled (refl, tt) (named unfilled (refl, tt), tt))),
        );
  }

  abbrev to_entry : Situation
  to_entry = alone (asking to_entry_script) (taking [] []) function world

  pub the_entry : FailsAlone TargetsFilled to_entry
  the_entry = record {
    accepted = refl;
    fails = λ good. (good (block 0)).0.0.no_entry refl;
    others =
        of_world to_entry tt refl (no_slots to_entry.world) (
          typed to_entry ((record { made_at = refl; operands = tt; edges = (refl, tt) }, tt), tt) refl,
          (well_placed to_entry.calls (refl, tt), (tracked to_entry (refl, tt), along to_entry (refl, tt) (named to_entry (refl, tt), tt))),
        );
  }

  abbrev bare : Situation
  bare = alone (asking bare_script) (taking [] (i32 ∷ [])) function world

  pub returns_nothing : FailsAlone IsTyped bare
  returns_nothing = record {
    accepted = refl;
    fails = λ typed. let no : [] ≡ i32 ∷ [] = (typed.items (block 0)).0.operands in cc;
    others =
        of_world bare tt refl (no_slots bare.world)
        (targets bare (refl, tt), (well_placed bare.calls (refl, tt), (tracked bare (refl, tt), along bare (refl, tt) (named bare (refl, tt), tt))));
  }

  abbrev taken : Situation
  taken = beside (asking bare_script) (taking (i32 ∷ []) []) [] function (placed (7 ∷ []) 64 0 0 world)

  pub no_parameter : FailsAlone IsTyped taken
  no_parameter = record {
    accepted = refl;
    fails = λ typed. let no : [] ≡ i32 ∷ [] = typed.entry in cc;
    others =
        of_world taken (omega arith, tt) refl (no_slots taken.world)
        (targets taken (refl, tt), (well_placed taken.calls (refl, tt), (tracked taken (refl, tt), along taken (refl, tt) (named taken (refl, tt), tt))));
  }

  abbrev stray : Situation
  stray = alone (asking stray_script) (taking [] (i32 ∷ [])) function world

  pub not_given : FailsAlone GivenBefore stray
  not_given = record {
    accepted = refl;
    fails = λ placed. no_name (answer_of 2 0) (placed.named (record { block = block 0; index = 0 }) (answer_of 2 0) (0, omega arith, refl) [] (refl, (refl, omega arith)));
    others =
        of_world stray tt refl (no_slots stray.world) (
          targets stray (refl, tt),
          (
            typed stray ((record { made_at = refl; operands = refl; edges = tt }, tt), tt) refl,
            (tracked stray (refl, tt), along stray (refl, tt) (named stray (refl, tt), tt)),
          ),
        );
  }

  abbrev passing : Situation
  passing = alone (asking passing_script) (taking [] (i32 ∷ [])) function world

  pub not_passed : FailsAlone GivenBefore passing
  not_passed = record {
    accepted = refl;
    fails = λ placed. none (placed.passed (record { block = block 0; index = 0 }) (answer_of 4 0) (0, omega arith, refl));
    others =
        of_world passing tt refl (no_slots passing.world) (
          targets passing (refl, (refl, tt)),
          (
            typed passing ((record { made_at = refl; operands = tt; edges = (refl, tt) }, tt), ((record { made_at = refl; operands = refl; edges = tt }, tt), tt)) refl,
            (tracked passing (refl, (refl, tt)), along passing (refl, (refl, tt)) (named passing (refl, (refl, tt)), tt)),
          ),
        );
  }
    where
      none : Contains {X = Name} [] (answer_of 4 0) ⊎ IsGivenBefore (program_code (program_in passing)) (answer_of 4 0) (record { block = block 0; index = 0 }) → ⊥
      none (inl there) = nothing_contained (answer_of 4 0) there
      none (inr before) = no_name (answer_of 4 0) (before [] (refl, (refl, omega arith)))

  abbrev marked : Situation
  marked = alone (asking tracked_script) (taking [] []) function world

  pub not_apart : FailsAlone TrackedApart marked
  not_apart = record {
    accepted = refl;
    fails = λ apart. let no : false ≡ true = (apart (block 0)).1.0 refl in cc;
    others =
        of_world marked tt refl (no_slots marked.world) (
          targets marked (refl, tt),
          (
            typed marked ((record { made_at = refl; operands = tt; edges = tt }, (refl, (record { made_at = refl; operands = refl; edges = tt }, tt))), tt) refl,
            (well_placed marked.calls (refl, tt), along marked (refl, tt) (named marked (refl, tt), tt)),
          ),
        );
  }

  abbrev misnamed : Situation
  misnamed = alone (asking misnamed_script) (taking [] []) function world

  pub not_as_named : FailsAlone LibcAsNamed misnamed
  not_as_named = record {
    accepted = refl;
    fails = λ by_name. let no : [] ≡ i64 ∷ i64 ∷ i64 ∷ [] = (by_name (block 0)).0.parameters in cc;
    others =
        of_world misnamed tt refl (no_slots misnamed.world) (
          targets misnamed (refl, tt),
          (
            typed misnamed ((record { made_at = refl; operands = (tt, refl); edges = tt }, (record { made_at = refl; operands = refl; edges = tt }, tt)), tt) refl,
            (well_placed misnamed.calls (refl, tt), (tracked misnamed (refl, tt), (all_spared (run_in misnamed) 1 refl, (all_true (run_in misnamed) 1 refl, tt)))),
          ),
        );
  }
