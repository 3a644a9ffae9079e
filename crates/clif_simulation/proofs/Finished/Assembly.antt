-- A finished function that carries a list of calls means what the list's program means, under any marks: so under those of the calls,
-- and with a collector by maps.
use Rattle.std.proofs.Common.{◌≡◌, ◌⊎◌, ℕ, Bool, List, [], ◌∷◌, Option, Some, None, inl, inr, refl, sym, ◌∙◌, ap, subst, arith}
use Rattle.std.specs.List.{AllByRecursion}
use Rattle.clif_types.specs.declared.target.PointerWidth.{PointerWidth}
use Rattle.clif_ir.specs.Body.{Body, resolved}
use Rattle.clif_ir.specs.Consistent.{IsConsistent}
use Rattle.clif_ssa.specs.Own.{Own}
use Rattle.clif_ssa.specs.Ssa.{SsaState}
use Rattle.clif_tables.specs.Callees.{types_of}
use Rattle.clif_meaning.specs.Name.{Name}
use Rattle.clif_meaning.specs.Program.{Item, Instruct, Use, Assign}
use Rattle.clif_meaning.specs.Request.{AnsweredCall, script_of}
use Rattle.clif_meaning.specs.Ledger.{is_marked, ledger_after}
use Rattle.clif_meaning.specs.Tracked.{TracksNothing, is_tracked}
use Rattle.clif_meaning.specs.World.{World}
use Rattle.clif_meaning.specs.Machine.{Machine, Observation, IsEnd, observed}
use Rattle.clif_meaning.specs.SameMeaning.{SameMeaning}
use Rattle.clif_meaning.specs.ScriptMachine as script
use Rattle.clif_meaning.specs.ScriptMachine.{ScriptRun, ScriptState, script_machine}
use Rattle.clif_meaning.specs.FunctionMachine as function_machine_of
use Rattle.clif_meaning.specs.FunctionMachine.{FunctionRun, FunctionState, ByMaps, OverSet, function_machine}
use Rattle.clif_meaning.specs.View.{view_of}
use Rattle.clif_meaning.specs.Premises.{EachItem, HasGoodTargets, PlacementPremises}
use Rattle.clif_meaning.specs.Headline.{in_spill_slot, IsWorldOf, MeansTheSame}
use Rattle.clif_meaning.proofs.Endings
use Rattle.clif_meaning.proofs.Stuttering
use Rattle.clif_simulation.specs.Tables.{answered, program_so_far}
use Rattle.clif_simulation.proofs.Whole.{Whole, freed, whole, whole_own}
use Rattle.clif_simulation.specs.Carries.{Carries}
use Rattle.clif_simulation.specs.Laws.{IsFinished}
use Rattle.clif_simulation.specs.Marked.{CarryingMeansTheSameMoving, IsPut, IsTrackedAsMarked, NamesAgree, ValuesAgree, collected_run, marked_script_run}
use Rattle.clif_simulation.proofs.Finished.Entry.{resolved_twice}
use Rattle.clif_simulation.proofs.Finished.Sources.{Moving}
use Rattle.clif_simulation.proofs.Finished.Stepping
use Rattle.clif_simulation.proofs.Finished.Starting
use Rattle.clif_simulation.proofs.Labelling.Outside.{collects, collects_itself}
use Rattle.clif_simulation.proofs.Labelling.Unmarked.{none_marked, none_tracked}

module _ (calls : List AnsweredCall) (f : Body) (ssa : SsaState) (width : PointerWidth) (consistent : IsConsistent f) (carries : Whole calls f ssa)
    (finished : IsFinished calls f ssa) (moving : Moving calls carries.own f ssa) (world : World) (fits : IsWorldOf f.signature (view_of f) width world)
    (premises : PlacementPremises (script_of calls) f.signature)
  where
    abbrev left_run : ScriptRun
    left_run = marked_script_run calls f world moving.marked moving.tracked moving.hidden

    abbrev right_run : FunctionRun
    right_run = collected_run calls f world moving.collector moving.hidden

    abbrev left : Machine ScriptState Observation
    left = script_machine left_run

    abbrev right : Machine FunctionState Observation
    right = function_machine right_run

    -- with an entry
    entered : (entry : Name) → (program_so_far calls).entry ≡ Some entry → SameMeaning (observed left) (observed right)
    entered entry is_entry =
        let as_many = Starting.arguments_count calls entry (types_of f.signature.params) world is_entry premises.well_typed.entry fits.arguments in
        Stuttering.same_meaning left right
        (Stepping.Related calls f ssa consistent carries finished width world f.signature
        premises.given_before premises.targets_filled premises.well_typed moving)
        (Stepping.measure calls f ssa consistent carries finished width world f.signature
        premises.given_before premises.targets_filled premises.well_typed moving)
        (Starting.simulates calls f ssa consistent carries finished width world f.signature
        premises.given_before premises.targets_filled premises.well_typed moving entry is_entry as_many)

    -- with none both are stuck at once
    not_entered : (program_so_far calls).entry ≡ None → SameMeaning (observed left) (observed right)
    not_entered none =
        let left_is : left.start ≡ script.blank_state left_run = ap (script.start_at left_run) none in
        let right_is : right.start ≡ function_machine_of.blank_state right_run = ap (function_machine_of.start_at right_run) (carries.entry.none none) in
        let same : observed left 0 ≡ observed right 0 = ap left.shown left_is ∙ sym (ap right.shown right_is) in
        let left_end : IsEnd (observed left 0).ending = subst (λ (p : ScriptState). IsEnd (left.shown p).ending) (sym left_is) tt in
        let right_end : IsEnd (observed right 0).ending = subst (λ (q : FunctionState). IsEnd (right.shown q).ending) (sym right_is) tt in
        record {
          there = λ n. (0, Endings.script_stays left_run 0 n (omega arith) left_end ∙ same);
          back = λ n. (0, Endings.function_stays right_run 0 n (omega arith) right_end ∙ sym same);
        }

    by_entry : (o : Option Name) → (program_so_far calls).entry ≡ o → SameMeaning (observed left) (observed right)
    by_entry None none = not_entered none
    by_entry (Some entry) is_entry = entered entry is_entry

    pub means_the_same : SameMeaning (observed left) (observed right)
    means_the_same = by_entry (program_so_far calls).entry refl

-- What moves by the marks of calls that ask for no stack maps, and by maps: nothing.
module _ (calls : List AnsweredCall) (own : Own) (f : Body) (ssa : SsaState) (world : World) (asks : TracksNothing (script_of calls)) where
  items_agree : (items : List Item) → AllByRecursion (IsTrackedAsMarked (is_marked (ledger_after (script_of calls))) (is_tracked (script_of calls))) items
  items_agree [] = tt
  items_agree (Instruct place instruction results ∷ items) = (tt, items_agree items)
  items_agree (Use variable name ∷ items) = (none_tracked (script_of calls) asks name ∙ sym (none_marked (script_of calls) asks variable), items_agree items)
  items_agree (Assign variable name ∷ items) = (none_tracked (script_of calls) asks name ∙ sym (none_marked (script_of calls) asks variable), items_agree items)

  abbrev by_calls : Moving calls own f ssa
  by_calls = record {
    marked = is_marked (ledger_after (script_of calls));
    tracked = is_tracked (script_of calls);
    collector = ByMaps;
    hidden = in_spill_slot (script_of calls) (view_of f) world;
    names = λ block. items_agree ((program_so_far calls).items block);
    values = record {
      answers = λ name given. sym (none_tracked (script_of calls) asks name);
      arguments = λ target branch edge place argument parameter leads to passes stands. inl refl;
    };
  }

-- What moves by any marks, with a collector over any set that agrees with them: the members that are no alias.
module _ (calls : List AnsweredCall) (own : Own) (f : Body) (ssa : SsaState) (consistent : IsConsistent f) (tracked : Name → Bool) (members : ℕ → Bool)
    (values : ValuesAgree calls own f ssa tracked members)
  where
    abbrev pub collected : ℕ → Bool
    collected v = collects f (OverSet members) (resolved f v)

    pub itself : (v : ℕ) → collected v ≡ members (resolved f v)
    itself v = collects_itself f members (resolved f v) (resolved_twice f v consistent)

    pub same_or_put : (argument parameter : ℕ) → (members (resolved f argument) ≡ members (resolved f parameter)) ⊎ IsPut calls f (resolved f argument)
        → (collected argument ≡ collected parameter) ⊎ IsPut calls f (resolved f argument)
    same_or_put argument parameter (inl same) = inl (itself argument ∙ same ∙ sym (itself parameter))
    same_or_put argument parameter (inr put) = inr put

    abbrev pub over_members : (marked hidden : ℕ → Bool) → NamesAgree calls marked tracked → Moving calls own f ssa
    over_members marked hidden names = record {
      marked = marked;
      tracked = tracked;
      collector = OverSet members;
      hidden = hidden;
      names = names;
      values = record {
        answers = λ name given. itself (answered calls name) ∙ values.answers name given;
        arguments = λ target branch edge place argument parameter leads to passes stands.
            same_or_put argument parameter (values.arguments target branch edge place argument parameter leads to passes stands);
      };
    }

-- the premises say that no branch names the entry
module _ (calls : List AnsweredCall) (f : Body) (ssa : SsaState) (consistent : IsConsistent f) (carries : Carries calls f ssa)
    (targets : EachItem (HasGoodTargets (ledger_after (script_of calls)) (program_so_far calls)) (program_so_far calls))
  where
    abbrev pub all : Whole calls f ssa
    all = whole calls f ssa consistent carries (freed calls f ssa carries targets)

    pub own_is : all.own ≡ carries.own
    own_is = whole_own calls f ssa consistent carries (freed calls f ssa carries targets)

pub means_moving : CarryingMeansTheSameMoving
means_moving calls f ssa width consistent carries finished marked tracked members hidden names values world fits premises =
    let targets = premises.targets_filled in
    means_the_same calls f ssa width consistent (all calls f ssa consistent carries targets) finished
    (over_members calls (all calls f ssa consistent carries targets).own f ssa consistent tracked members
    (subst (λ (own : Own). ValuesAgree calls own f ssa tracked members) (sym (own_is calls f ssa consistent carries targets)) values)
    marked hidden names) world fits premises

pub means : (calls : List AnsweredCall) (f : Body) (ssa : SsaState) (width : PointerWidth) → IsConsistent f → Carries calls f ssa → IsFinished calls f ssa
    → TracksNothing (script_of calls) → MeansTheSame (script_of calls) f.signature width (view_of f)
means calls f ssa width consistent carries finished asks world fits premises =
    let targets = premises.targets_filled in
    means_the_same calls f ssa width consistent (all calls f ssa consistent carries targets) finished
    (by_calls calls (all calls f ssa consistent carries targets).own f ssa world asks) world fits
    (record { targets_filled = targets; well_typed = premises.well_typed; given_before = premises.given_before })
