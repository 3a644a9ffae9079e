-- The run of a script's calls. The rules are those of a script's run. Own.
use Rattle.std.specs.Prelude.{ℕ, suc, Bool, List, [], ◌∷◌, ◌++◌}
use Rattle.std.specs.List.{list_any}
use Rattle.clif_meaning.specs.Ledger.{Ledger, is_marked, or_invalid, type_of, variable_type}
use Rattle.clif_meaning.specs.Name.{Name, same_name}
use Rattle.clif_meaning.specs.ScriptMachine.{ScriptRun}
use Rattle.clif_meaning.specs.Tracked.{tracked_by}
use Rattle.clif_meaning.specs.World.{World}
use Rattle.clif_expansion.specs.ScriptCall.{Ask, Emit, ScriptCall, ledger_of, program_of_calls}

-- the names that the call at this place tracks: an emission tracks none
abbrev pub tracked_by_call : Ledger → (place : ℕ) → ScriptCall → List Name
tracked_by_call ledger place (Ask request) = tracked_by ledger place request
tracked_by_call ledger place (Emit imports instruction) = []

-- those that the calls from this place on track
abbrev pub tracked_by_calls : Ledger → (place : ℕ) → List ScriptCall → List Name
tracked_by_calls ledger place [] = []
tracked_by_calls ledger place (call ∷ calls) = tracked_by_call ledger place call ++ tracked_by_calls ledger (suc place) calls

abbrev pub calls_track : List ScriptCall → Name → Bool
calls_track calls name = list_any (same_name name) (tracked_by_calls (ledger_of calls) 0 calls)

-- the run of the calls' program, where these addresses lie in spill slots
abbrev pub calls_run : List ScriptCall → (hidden : ℕ → Bool) → World → ScriptRun
calls_run calls hidden world = record {
  program = program_of_calls calls;
  variable_type = λ v. or_invalid (variable_type (ledger_of calls) v);
  name_type = λ x. or_invalid (type_of (ledger_of calls) x);
  is_marked = is_marked (ledger_of calls);
  is_tracked = calls_track calls;
  hidden = hidden;
  world = world;
}
