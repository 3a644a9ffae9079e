-- The row `both_arms` meets the premises of the theorem in every world.
use Rattle.std.proofs.Common.{◌≡◌, ℕ, suc, Bool, false, IsTrue, Option, None, Some, refl, ap, arith}
use Rattle.std.specs.List.{AllByRecursion}
use Rattle.clif_types.specs.declared.target.PointerWidth.TheVariants.{U64}
use Rattle.clif_types.specs.Target.{pointer_type_of}
use Rattle.clif_meaning.specs.Name.{Name}
use Rattle.clif_meaning.specs.Ledger.{ledger_after}
use Rattle.clif_meaning.specs.Program.{program_of}
use Rattle.clif_meaning.specs.Tracked.{is_tracked}
use Rattle.clif_meaning.specs.World.{World}
use Rattle.clif_meaning.specs.ScriptMachine.{ScriptRun}
use Rattle.clif_meaning.specs.Premises.{CallsLibraryAsNamed, EachItem, HasGoodTargets, IsGoodTarget, KeepsTrackedApart, Premises}
use Rattle.clif_meaning.specs.Headline.{script_run}
use Rattle.clif_meaning.specs.BranchExamples.{block, both_arms_function, both_arms_script, both_arms_signature, plain}
use Rattle.clif_meaning.proofs.FirstPremises as no_memory
use Rattle.clif_meaning.proofs.EachStep.{IsQuietItem, spares, claims}
use Rattle.clif_meaning.proofs.SampleWorld
use Rattle.clif_simulation.specs.CarryingExamples.{LoopMeetsPremises}
use Rattle.clif_simulation.proofs.Loops.LoopAlong
use Rattle.clif_simulation.proofs.Loops.LoopProgram.{each_items_of_row}

abbrev Good : Name → Type 0
Good target = IsGoodTarget (ledger_after both_arms_script) (program_of both_arms_script) (plain target)

-- the places of block0 and of another block differ
abbrev pub place_in : Option Name → ℕ
place_in None = 0
place_in (Some name) = name.place

not_first : (k : ℕ) → Some (block 0) ≡ Some (block (suc k)) → ⊥
not_first k h = let same : 0 ≡ suc k = ap place_in h in absurd (omega (arith, same))

good_second : Good (block 1)
good_second = record { filled = refl; no_entry = not_first 0 }

good_third : Good (block 2)
good_third = record { filled = refl; no_entry = not_first 1 }

good_last : Good (block 3)
good_last = record { filled = refl; no_entry = not_first 2 }

-- nothing is tracked
pub apart : (tracked marked : Bool) → tracked ≡ false → IsTrue tracked → IsTrue marked
apart tracked marked none is = let no_way : ⊥ = cc in absurd no_way

-- no item touches memory
quiet : EachItem IsQuietItem (program_of both_arms_script)
quiet = each_items_of_row (AllByRecursion IsQuietItem) tt
    (tt, (tt, (tt, tt))) (tt, (tt, tt)) (tt, (tt, (tt, (tt, (tt, tt))))) (tt, (tt, tt))

meets : (world : World) → Premises both_arms_script both_arms_signature (pointer_type_of U64) (script_run both_arms_script both_arms_function world)
meets world =
    let run : ScriptRun = script_run both_arms_script both_arms_function world in
    record {
      targets_filled = each_items_of_row (AllByRecursion (HasGoodTargets (ledger_after both_arms_script) (program_of both_arms_script))) tt
          (tt, (tt, ((good_second, tt), tt))) (tt, ((good_third, (good_last, tt)), tt)) (tt, (tt, (tt, (tt, ((good_second, (good_second, tt)), tt))))) (tt, (tt, tt));
      well_typed = LoopAlong.well_typed;
      given_before = LoopAlong.premises.given_before;
      tracked_apart = each_items_of_row (AllByRecursion (KeepsTrackedApart (ledger_after both_arms_script) (is_tracked both_arms_script))) tt
          (tt, (apart _ _ refl, (tt, tt))) (apart _ _ refl, (tt, tt)) (apart _ _ refl, (tt, (tt, (apart _ _ refl, (tt, tt))))) (apart _ _ refl, (tt, tt));
      spares_spill_slots = spares run quiet;
      claims_true = claims run quiet;
      libc_as_named = each_items_of_row (AllByRecursion (CallsLibraryAsNamed (pointer_type_of U64))) tt
          (tt, (tt, (tt, tt))) (tt, (tt, tt)) (tt, (tt, (tt, (tt, (tt, tt))))) (tt, (tt, tt));
    }

pub loop_meets_premises : LoopMeetsPremises
loop_meets_premises = record {
  a_world = (SampleWorld.sample_world, record { arguments = tt; pointers = refl; slots = no_memory.no_slots SampleWorld.sample_world }, λ events call. refl);
  premises = meets;
}
