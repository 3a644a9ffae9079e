-- The laws of expansion, as the contracts of this crate's functions state them.
use Rattle.std.specs.Prelude.{ℕ, map}
use Rattle.clif_meaning.specs.Bits.{AreValues, IsValue}
use Rattle.clif_meaning.specs.Machine.{observed, state_after}
use Rattle.clif_meaning.specs.Name.{Name}
use Rattle.clif_meaning.specs.Premises.{ClaimsAreTrue, InEachStep, SparesSpillSlots}
use Rattle.clif_meaning.specs.Program.{Item, Instruct, Use, Assign}
use Rattle.clif_meaning.specs.SameMeaning.{SameMeaning}
use Rattle.clif_meaning.specs.ScriptMachine.{ScriptRun, ScriptState, script_machine}
use Rattle.clif_expansion.specs.Code.{TakesTypes}
use Rattle.clif_expansion.specs.Expansion.{IsExpandedRun}
use Rattle.clif_expansion.specs.Reading.{Reading}

-- the item's operands are values of their types, in this state
abbrev pub TakesValues : ScriptRun → ScriptState → Item → Type 0
TakesValues run state (Instruct place instruction results) = AreValues (map run.name_type instruction.operands) (map state.names instruction.operands)
TakesValues run state (Use variable name) = Unit {0}
TakesValues run state (Assign variable name) = Unit {0}

-- the item's operands are of types that it takes
abbrev pub TakesTyped : ScriptRun → ScriptState → Item → Type 0
TakesTyped run state (Instruct place instruction results) = TakesTypes run.name_type instruction
TakesTyped run state (Use variable name) = Unit {0}
TakesTyped run state (Assign variable name) = Unit {0}

-- In each step of the run operands are of types that are taken and values of these, and what is claimed is true.
pub record IsSoundRun (run : ScriptRun) : Type 0 where
  pub takes_types : InEachStep (TakesTyped run) run
  pub takes_values : InEachStep (TakesValues run) run
  pub claims_true : InEachStep (ClaimsAreTrue run) run

-- Expanding means the same: a sound run of a script and the run of its plain program have the same meaning.
abbrev pub ExpandingMeansTheSame : Type 0
ExpandingMeansTheSame =
    (reading : Reading) (plain script : ScriptRun) → IsExpandedRun reading plain script → IsSoundRun script
    → SameMeaning (observed (script_machine script)) (observed (script_machine plain))

-- Where a script's run is sound, what its plain program claims is true in its own run, and where the one spares spill slots the other
-- does.
pub record ExpandingKeepsPremises : Type 0 where
  pub claims_true : (reading : Reading) (plain script : ScriptRun) → IsExpandedRun reading plain script → IsSoundRun script
      → InEachStep (ClaimsAreTrue plain) plain
  pub spares_spill_slots : (reading : Reading) (plain script : ScriptRun) → IsExpandedRun reading plain script → IsSoundRun script
      → InEachStep (SparesSpillSlots script) script → InEachStep (SparesSpillSlots plain) plain

-- A run takes values where in each state each name holds a value of its type.
abbrev pub ValuesAreTaken : Type 0
ValuesAreTaken =
    (run : ScriptRun) → ((n : ℕ) (x : Name) → IsValue (run.name_type x) ((state_after (script_machine run) n).names x))
    → InEachStep (TakesValues run) run
