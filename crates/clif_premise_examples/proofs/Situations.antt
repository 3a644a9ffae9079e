-- The premises that don't depend on a world are met by tests; slots are placed.
use Rattle.std.proofs.Common.{◌≡◌, Bool, true, []}
use Rattle.std.specs.List.{AllByRecursion, list_all}
use Rattle.clif_types.specs.Target.{pointer_type_of}
use Rattle.clif_meaning.specs.Premises.{CallsLibraryAsNamed, HasGoodTargets, KeepsTrackedApart}
use Rattle.clif_meaning.specs.Program.{Item}
use Rattle.clif_meaning.specs.World.{World, PlacesSlots}
use Rattle.clif_expansion.specs.CallsRun.{calls_track}
use Rattle.clif_expansion.specs.ScriptCall.{ledger_of}
use Rattle.clif_premise_examples.specs.Premise.{Holds, LibcAsNamed, Situation, TargetsFilled, TrackedApart, program_in}
use Rattle.clif_premise_examples.proofs.Blocks.{blocks_of}
use Rattle.clif_premise_examples.proofs.Items.{apart_holds, as_named, by_test, good_targets, kept_apart, named_holds, targets_hold}

-- a test is met by each item of a situation's blocks
abbrev pub EachMeets : Situation → (Item → Bool) → Type 0
EachMeets s test = AllByRecursion (λ block. list_all test ((program_in s).items block) ≡ true) (blocks_of s.calls)

pub targets : (s : Situation) → EachMeets s (good_targets (ledger_of s.calls) (program_in s)) → Holds s TargetsFilled
targets s = by_test s.calls (HasGoodTargets (ledger_of s.calls) (program_in s)) (good_targets (ledger_of s.calls) (program_in s))
    (targets_hold (ledger_of s.calls) (program_in s))

pub tracked : (s : Situation) → EachMeets s (kept_apart (ledger_of s.calls) (calls_track s.calls)) → Holds s TrackedApart
tracked s = by_test s.calls (KeepsTrackedApart (ledger_of s.calls) (calls_track s.calls)) (kept_apart (ledger_of s.calls) (calls_track s.calls))
    (apart_holds (ledger_of s.calls) (calls_track s.calls))

pub named : (s : Situation) → EachMeets s (as_named (pointer_type_of s.width)) → Holds s LibcAsNamed
named s = by_test s.calls (CallsLibraryAsNamed (pointer_type_of s.width)) (as_named (pointer_type_of s.width)) (named_holds (pointer_type_of s.width))

-- of no slots nothing is asked
pub no_slots : (world : World) → PlacesSlots world []
no_slots world = record {
  aligned = λ s slot h. cc;
  accessible = λ s slot k h below. cc;
  within = λ s slot h. cc;
  apart = λ s t slot other k l h. cc;
}
