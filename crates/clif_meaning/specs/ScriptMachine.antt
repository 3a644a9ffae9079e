-- The script machine: it runs the variable program of a script. It has variables and names of answers, all zero at
-- first, and memory. From the documentation of Cranelift's variables; what a moving collector does to them is own.
use Rattle.std.specs.Prelude.{ℕ, if◌then◌else◌, ◌==◌, Bool, List, [], ◌∷◌, map, Option, Some, None, slice_get}
use Rattle.clif_types.specs.declared.types.«Type».{«Type»}
use Rattle.clif_meaning.specs.Bits.{Bits}
use Rattle.clif_meaning.specs.Memory.{Memory}
use Rattle.clif_meaning.specs.Instruction.{Edge}
use Rattle.clif_meaning.specs.Event.{Callee, CallShape, Event, Answer, Results, Exception}
use Rattle.clif_meaning.specs.World.{World}
use Rattle.clif_meaning.specs.Outcome.{Outcome, Gives, Goes, Returns, Traps, Calls, NoStep, outcome_of}
use Rattle.clif_meaning.specs.Machine.{Machine, Control, At, HasReturned, HasTrapped, IsStuck, Observation, ending_of}
use Rattle.clif_meaning.specs.Store.{assigned, argument_bits, shown_memory, memory_beside}
use Rattle.clif_meaning.specs.Name.{Name, same_name}
use Rattle.clif_meaning.specs.Program.{Program, Item, Instruct, Use, Assign}

-- what a run goes by
pub record ScriptRun : Type 0 where
  pub program : Program
  pub variable_type : ℕ → «Type»
  pub name_type : Name → «Type»
  -- the variables that are marked as tracked, and the tracked names
  pub is_marked : ℕ → Bool
  pub is_tracked : Name → Bool
  -- the addresses that lie in spill slots of the finished function
  pub hidden : ℕ → Bool
  pub world : World

pub record ScriptState : Type 0 where
  pub variables : ℕ → Bits
  pub names : Name → Bits
  pub memory : Memory
  -- newest first
  pub events : List Event
  pub control : Control Item

abbrev pub same_variable : ℕ → ℕ → Bool
same_variable a b = a == b

-- Entering a block gives its parameters their arguments, all at once; other names keep their bits.
abbrev pub enter_block : ScriptRun → ScriptState → Name → List Bits → ScriptState
enter_block run state block arguments = record state {
  names = assigned same_name (run.program.parameters block) arguments state.names;
  control = At (run.program.items block);
}

-- along an edge, with what the call at its start gave
abbrev pub follow_edge : ScriptRun → ScriptState → List Bits → Option (Edge Name Name) → ScriptState
follow_edge run state given None = record state { control = IsStuck }
follow_edge run state given (Some edge) = enter_block run state edge.target (map (argument_bits state.names given) edge.arguments)

-- on to the next place, the results with their bits
abbrev pub give_results : ScriptState → List Name → List Item → List Bits → ScriptState
give_results state results rest values = record state { names = assigned same_name results values state.names; control = At rest }

-- an outside call shows itself; then all marked variables and all tracked names are moved; memory is what the world
-- says
abbrev pub call_outside : ScriptRun → ScriptState → Callee → CallShape → List Bits → ScriptState
call_outside run state callee call arguments =
    let events = record { callee = callee; arguments = arguments; memory = shown_memory run.hidden state.memory } ∷ state.events in
    record state {
      variables = λ v. if run.is_marked v then run.world.moved events call (run.variable_type v) (state.variables v) else state.variables v;
      names = λ x. if run.is_tracked x then run.world.moved events call (run.name_type x) (state.names x) else state.names x;
      memory = memory_beside run.hidden state.memory (run.world.memory_after events call);
      events = events;
    }

-- A plain call goes on with its results. A try call takes its normal edge, the first, or that of an item.
abbrev pub take_answer : ScriptRun → ScriptState → List (Edge Name Name) → List Name → List Item → Answer → ScriptState
take_answer run state [] results rest (Results values) = give_results state results rest values
take_answer run state [] results rest (Exception edge payload) = record state { control = IsStuck }
take_answer run state (normal ∷ edges) results rest (Results values) = follow_edge run state values (Some normal)
take_answer run state (normal ∷ edges) results rest (Exception edge payload) = follow_edge run state payload (slice_get edges edge)

-- after the call, which left this state, its answer comes
abbrev pub answer_call : ScriptRun → ScriptState → CallShape → List (Edge Name Name) → List Name → List Item → ScriptState
answer_call run state call edges results rest = take_answer run state edges results rest (run.world.answer state.events call)

-- what an instruction does to the state: the instruction's edges, the names of its results, and the rest of the block
abbrev pub carry_out : ScriptRun → ScriptState → List (Edge Name Name) → List Name → List Item → Outcome → ScriptState
carry_out run state edges results rest (Gives values memory) = give_results (record state { memory = memory }) results rest values
carry_out run state edges results rest (Goes edge given memory) = follow_edge run (record state { memory = memory }) given (slice_get edges edge)
carry_out run state edges results rest (Returns values) = record state { control = HasReturned values }
carry_out run state edges results rest (Traps reason) = record state { control = HasTrapped reason }
carry_out run state edges results rest (Calls callee call arguments) = answer_call run (call_outside run state callee call arguments) call edges results rest
carry_out run state edges results rest NoStep = record state { control = IsStuck }

-- one item, with the rest of its block
abbrev pub run_item : ScriptRun → ScriptState → Item → List Item → ScriptState
run_item run state (Instruct place instruction results) rest =
    carry_out run state instruction.edges results rest
    (outcome_of run.world instruction.operation instruction.controlling
    (map run.name_type instruction.operands) (map state.names instruction.operands) state.memory)
run_item run state (Use variable name) rest =
    record state { names = assigned same_name (name ∷ []) (state.variables variable ∷ []) state.names; control = At rest }
run_item run state (Assign variable name) rest =
    record state { variables = assigned same_variable (variable ∷ []) (state.names name ∷ []) state.variables; control = At rest }

-- A block that ends without a terminator leaves the machine stuck. What ended stays.
abbrev pub step_at : ScriptRun → ScriptState → Control Item → ScriptState
step_at run state (At []) = record state { control = IsStuck }
step_at run state (At (item ∷ rest)) = run_item run state item rest
step_at run state (HasReturned results) = state
step_at run state (HasTrapped reason) = state
step_at run state IsStuck = state

abbrev pub script_step : ScriptRun → ScriptState → ScriptState
script_step run state = step_at run state state.control

-- all variables and names are zero, and nothing has happened
abbrev pub blank_state : ScriptRun → ScriptState
blank_state run = record { variables = λ v. 0; names = λ x. 0; memory = run.world.memory; events = []; control = IsStuck }

-- Without an entry the machine is stuck at once. The entry's parameters are the world's arguments.
abbrev pub start_at : ScriptRun → Option Name → ScriptState
start_at run None = blank_state run
start_at run (Some entry) = enter_block run (blank_state run) entry run.world.arguments

abbrev pub script_shown : ScriptRun → ScriptState → Observation
script_shown run state = record { events = state.events; ending = ending_of state.control (shown_memory run.hidden state.memory) }

abbrev pub script_machine : ScriptRun → Machine ScriptState Observation
script_machine run = record { start = start_at run run.program.entry; next = script_step run; shown = script_shown run }
