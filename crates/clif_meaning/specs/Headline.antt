-- The moving-collector theorem: a finished function means what its script means. For every world, whatever events,
-- return or trap the function shows within n steps the script's variable program shows within some number of steps,
-- and the other way round, though the script's collector moves every tracked variable and name at each outside call,
-- and the function's only what lies in the slots that the call's stack map names. Own.
use Rattle.std.specs.Prelude.{◌≡◌, ℕ, Bool, drop}
use Rattle.clif_types.specs.Types.{bits_of}
use Rattle.clif_types.specs.Signature.{SignatureShape}
use Rattle.clif_types.specs.declared.target.PointerWidth.{PointerWidth}
use Rattle.clif_types.specs.Target.{pointer_type_of}
use Rattle.clif_meaning.specs.Bits.{AreValues}
use Rattle.clif_tables.specs.Callees.{types_of}
use Rattle.clif_meaning.specs.World.{World, PlacesSlots}
use Rattle.clif_meaning.specs.Machine.{observed}
use Rattle.clif_meaning.specs.SameMeaning.{SameMeaning, Behaviour}
use Rattle.clif_meaning.specs.Store.{in_slots_from}
use Rattle.clif_meaning.specs.Request.{Script}
use Rattle.clif_meaning.specs.Ledger.{ledger_after, slot_count, type_of, or_invalid, variable_type, is_marked}
use Rattle.clif_meaning.specs.Program.{program_of}
use Rattle.clif_meaning.specs.Tracked.{is_tracked}
use Rattle.clif_meaning.specs.ScriptMachine.{ScriptRun, script_machine}
use Rattle.clif_meaning.specs.FunctionView.{FunctionView}
use Rattle.clif_meaning.specs.FunctionMachine.{Collector, ByMaps, FunctionRun, function_machine}
use Rattle.clif_meaning.specs.Premises.{Premises}

-- the address lies in a spill slot: a slot of the function that no call of the script created
abbrev pub in_spill_slot : Script → FunctionView → World → ℕ → Bool
in_spill_slot script function world address =
    in_slots_from world (slot_count (ledger_after script)) (drop (slot_count (ledger_after script)) function.slots) address

-- the run of a script's variable program, beside the finished function
abbrev pub script_run : Script → FunctionView → World → ScriptRun
script_run script function world = record {
  program = program_of script;
  variable_type = λ v. or_invalid (variable_type (ledger_after script) v);
  name_type = λ x. or_invalid (type_of (ledger_after script) x);
  is_marked = is_marked (ledger_after script);
  is_tracked = is_tracked script;
  hidden = in_spill_slot script function world;
  world = world;
}

-- how many bits a pointer has
abbrev pub pointer_bits : PointerWidth → ℕ
pointer_bits width = bits_of (pointer_type_of width)

-- the run of the finished function
abbrev pub function_run : Script → FunctionView → World → Collector → FunctionRun
function_run script function world collector = record {
  function = function;
  collector = collector;
  hidden = in_spill_slot script function world;
  world = world;
}

-- a world in which the function can run: arguments by the signature, pointers of this width, and places for its slots
pub record IsWorldOf (signature : SignatureShape) (function : FunctionView) (width : PointerWidth) (world : World) : Type 0 where
  pub arguments : AreValues (types_of signature.params) world.arguments
  pub pointers : world.pointer_width ≡ pointer_bits width
  pub slots : PlacesSlots world function.slots

-- what the script shows, and what the function shows under the collector by maps
abbrev pub script_behaviour : Script → FunctionView → World → Behaviour
script_behaviour script function world = observed (script_machine (script_run script function world))

abbrev pub function_behaviour : Script → FunctionView → World → Behaviour
function_behaviour script function world = observed (function_machine (function_run script function world ByMaps))

-- The finished function means what the script means, in every world under the premises. The signature is the one that
-- the caller gave, and isn't read off the function: a function with another one doesn't empty the premises.
abbrev pub MeansTheSame : Script → SignatureShape → PointerWidth → FunctionView → Type 0
MeansTheSame script signature width function =
    (world : World) → IsWorldOf signature function width world
    → Premises script signature (pointer_type_of width) (script_run script function world)
    → SameMeaning (script_behaviour script function world) (function_behaviour script function world)
