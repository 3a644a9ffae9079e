-- The theorem on the calls of a script that may also emit: what the function shows and what the calls show is the same, in every world
-- under the premises. The premises are those on a script, over the ledger and the program of its calls. Own.
use Rattle.std.specs.Prelude.{ℕ, Bool, List, drop}
use Rattle.clif_types.specs.declared.target.PointerWidth.{PointerWidth}
use Rattle.clif_types.specs.declared.types.«Type».{«Type»}
use Rattle.clif_types.specs.Signature.{SignatureShape}
use Rattle.clif_types.specs.Target.{pointer_type_of}
use Rattle.clif_meaning.specs.FunctionMachine.{ByMaps, FunctionRun, function_machine}
use Rattle.clif_meaning.specs.FunctionView.{FunctionView}
use Rattle.clif_meaning.specs.Headline.{IsWorldOf}
use Rattle.clif_meaning.specs.Ledger.{slot_count}
use Rattle.clif_meaning.specs.Machine.{observed}
use Rattle.clif_meaning.specs.Premises.{CallsLibraryAsNamed, ClaimsAreTrue, EachItem, HasGoodTargets, InEachStep, ItemEdgesMatch, KeepsTrackedApart, SparesSpillSlots, WellTyped}
use Rattle.clif_meaning.specs.SameMeaning.{Behaviour, SameMeaning}
use Rattle.clif_meaning.specs.ScriptMachine.{ScriptRun, script_machine}
use Rattle.clif_meaning.specs.Store.{in_slots_from}
use Rattle.clif_meaning.specs.WellPlaced.{IsWellPlaced, program_code}
use Rattle.clif_meaning.specs.World.{World}
use Rattle.clif_expansion.specs.CallsRun.{calls_run, calls_track}
use Rattle.clif_expansion.specs.ScriptCall.{ScriptCall, ledger_of, program_of_calls}

-- The premises on calls, made for a function of this signature with pointers of this type, and on the run of them.
pub record CallsPremises (calls : List ScriptCall) (signature : SignatureShape) (pointer : «Type») (run : ScriptRun) : Type 0 where
  pub targets_filled : EachItem (HasGoodTargets (ledger_of calls) (program_of_calls calls)) (program_of_calls calls)
  pub well_typed : WellTyped (ledger_of calls) (program_of_calls calls) signature
  pub given_before : IsWellPlaced (program_code (program_of_calls calls))
  pub tracked_apart : EachItem (KeepsTrackedApart (ledger_of calls) (calls_track calls)) (program_of_calls calls)
  pub spares_spill_slots : InEachStep (SparesSpillSlots run) run
  pub claims_true : InEachStep (ClaimsAreTrue run) run
  pub libc_as_named : EachItem (CallsLibraryAsNamed pointer) (program_of_calls calls)

-- those that speak of branches, types and names alone
pub record CallsPlacementPremises (calls : List ScriptCall) (signature : SignatureShape) : Type 0 where
  pub targets_filled : EachItem (HasGoodTargets (ledger_of calls) (program_of_calls calls)) (program_of_calls calls)
  pub well_typed : WellTyped (ledger_of calls) (program_of_calls calls) signature
  pub given_before : IsWellPlaced (program_code (program_of_calls calls))

-- the arguments that the caller gives an edge and the caller's parameters of its target agree
abbrev pub CallersEdgesMatchInCalls : List ScriptCall → Type 0
CallersEdgesMatchInCalls calls = EachItem (ItemEdgesMatch (ledger_of calls) (program_of_calls calls)) (program_of_calls calls)

-- the address lies in a spill slot: a slot of the function that no call created
abbrev pub in_spill_slot_beside : List ScriptCall → FunctionView → World → ℕ → Bool
in_spill_slot_beside calls function world address =
    in_slots_from world (slot_count (ledger_of calls)) (drop (slot_count (ledger_of calls)) function.slots) address

-- the run of the calls, beside the finished function, and the run of the function, beside the calls
abbrev pub run_of_calls : List ScriptCall → FunctionView → World → ScriptRun
run_of_calls calls function world = calls_run calls (in_spill_slot_beside calls function world) world

abbrev pub run_beside_calls : List ScriptCall → FunctionView → World → FunctionRun
run_beside_calls calls function world = record {
  function = function;
  collector = ByMaps;
  hidden = in_spill_slot_beside calls function world;
  world = world;
}

-- what the calls show, and what the function shows under the collector by maps
abbrev pub behaviour_of_calls : List ScriptCall → FunctionView → World → Behaviour
behaviour_of_calls calls function world = observed (script_machine (run_of_calls calls function world))

abbrev pub behaviour_beside_calls : List ScriptCall → FunctionView → World → Behaviour
behaviour_beside_calls calls function world = observed (function_machine (run_beside_calls calls function world))

-- The finished function means what the calls mean, in every world under the premises.
abbrev pub CallsMeanTheSame : List ScriptCall → SignatureShape → PointerWidth → FunctionView → Type 0
CallsMeanTheSame calls signature width function =
    (world : World) → IsWorldOf signature function width world
    → CallsPremises calls signature (pointer_type_of width) (run_of_calls calls function world)
    → SameMeaning (behaviour_of_calls calls function world) (behaviour_beside_calls calls function world)
