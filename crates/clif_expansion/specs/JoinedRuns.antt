-- The run of a script's calls beside the run of its plain calls. Own.
use Rattle.std.specs.Prelude.{ℕ, List}
use Rattle.clif_meaning.specs.FunctionView.{FunctionView}
use Rattle.clif_meaning.specs.Headline.{in_spill_slot, script_behaviour, script_run}
use Rattle.clif_meaning.specs.Machine.{observed}
use Rattle.clif_meaning.specs.Premises.{ClaimsAreTrue, InEachStep, SparesSpillSlots}
use Rattle.clif_meaning.specs.Program.{program_of}
use Rattle.clif_meaning.specs.Request.{Script}
use Rattle.clif_meaning.specs.SameMeaning.{Behaviour, SameMeaning}
use Rattle.clif_meaning.specs.ScriptMachine.{script_machine}
use Rattle.clif_meaning.specs.WellPlaced.{IsWellPlaced, program_code}
use Rattle.clif_meaning.specs.World.{World}
use Rattle.clif_expansion.specs.CallsRun.{calls_run}
use Rattle.clif_expansion.specs.JoinedCalls.{AreJoinedCalls}
use Rattle.clif_expansion.specs.Laws.{IsSoundRun}
use Rattle.clif_expansion.specs.PerformedCalls.{ArePerformed}
use Rattle.clif_expansion.specs.Reading.{Reading}
use Rattle.clif_expansion.specs.ScriptCall.{ScriptCall, program_of_calls}

-- what the calls show, where the function is that the plain script made
abbrev pub calls_behaviour : (plain : Script) → List ScriptCall → FunctionView → World → Behaviour
calls_behaviour plain calls function world = observed (script_machine (calls_run calls (in_spill_slot plain function world) world))

-- Joined calls of which each emission is performed mean what their plain calls mean, in every world in which their own run is sound.
-- Then the plain calls' run meets the premises on claims and on spill slots where theirs does, and the plain program is well placed
-- where theirs is.
pub record JoinedCallsMeanTheSame : Type 0 where
  pub same_meaning : (reading : Reading) (plain : Script) (calls : List ScriptCall) (joined : AreJoinedCalls reading plain calls) (function : FunctionView) (world : World)
      → ArePerformed world.pointer_width reading plain calls joined
      → IsSoundRun (calls_run calls (in_spill_slot plain function world) world)
      → SameMeaning (calls_behaviour plain calls function world) (script_behaviour plain function world)
  pub claims_true : (reading : Reading) (plain : Script) (calls : List ScriptCall) (joined : AreJoinedCalls reading plain calls) (function : FunctionView) (world : World)
      → ArePerformed world.pointer_width reading plain calls joined
      → IsSoundRun (calls_run calls (in_spill_slot plain function world) world)
      → InEachStep (ClaimsAreTrue (script_run plain function world)) (script_run plain function world)
  pub spares_spill_slots : (reading : Reading) (plain : Script) (calls : List ScriptCall) (joined : AreJoinedCalls reading plain calls) (function : FunctionView) (world : World)
      → ArePerformed world.pointer_width reading plain calls joined
      → IsSoundRun (calls_run calls (in_spill_slot plain function world) world)
      → InEachStep (SparesSpillSlots (calls_run calls (in_spill_slot plain function world) world)) (calls_run calls (in_spill_slot plain function world) world)
      → InEachStep (SparesSpillSlots (script_run plain function world)) (script_run plain function world)
  pub well_placed : (pointer_width : ℕ) (reading : Reading) (plain : Script) (calls : List ScriptCall) (joined : AreJoinedCalls reading plain calls)
      → ArePerformed pointer_width reading plain calls joined
      → IsWellPlaced (program_code (program_of_calls calls)) → IsWellPlaced (program_code (program_of plain))
