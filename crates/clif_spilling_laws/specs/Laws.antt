-- The law of spilling, as the contract of this crate's function states it. Own.
use Rattle.std.specs.Prelude.{ℕ, Bool}
use Rattle.clif_meaning.specs.FunctionMachine.{function_machine}
use Rattle.clif_meaning.specs.Machine.{observed}
use Rattle.clif_meaning.specs.SameMeaning.{SameMeaning}
use Rattle.clif_meaning.specs.Typing.{EdgesMatch}
use Rattle.clif_meaning.specs.WellPlaced.{WellPlaced}
use Rattle.clif_meaning.specs.World.{World}
use Rattle.clif_typed_runs.specs.ValuesFit.{AliasesTyped}
use Rattle.clif_spilling_laws.specs.GivesOnce.{GivesOnce}
use Rattle.clif_spilling_laws.specs.Live.{SharesNoSlot}
use Rattle.clif_spilling_laws.specs.Rewriting.{IsSpilling}
use Rattle.clif_spilling_laws.specs.Runs.{CountsEnough, IsMetBy, after_run, before_run}
use Rattle.clif_spilling_laws.specs.Spilling.{Spilling}

-- what is asked of the function before, and of the slots
pub record MaySpill (counts : ℕ → ℕ → Bool) (members : ℕ → Bool) (s : Spilling) : Type 0 where
  pub gives_once : GivesOnce s.before s.count
  pub edges_match : EdgesMatch s.before
  pub aliases_typed : AliasesTyped s.before
  pub well_placed : WellPlaced s.before
  pub counts_enough : CountsEnough counts members s
  pub shares_no_slot : SharesNoSlot counts s

-- The function before, under the collector over the members, means what the one with stores, reloads and exact maps means under the
-- collector by maps.
abbrev pub SpillingMeansTheSame : Type 0
SpillingMeansTheSame =
    (counts : ℕ → ℕ → Bool) (members : ℕ → Bool) (s : Spilling) (world : World)
    → IsSpilling counts s members → MaySpill counts members s → IsMetBy members s world
    → SameMeaning (observed (function_machine (before_run s members world))) (observed (function_machine (after_run s world)))
