-- The function machine: it steps over the blocks of a finished function. It has the bits of all values, all zero at
-- first, and memory with spill slots. From the documentation of Cranelift's IR; the collectors are own.
use Rattle.std.specs.Prelude.{ℕ, ◌+◌, if◌then◌else◌, ◌==◌, ◌&&◌, Bool, List, [], ◌∷◌, map, Option, Some, None, slice_get}
use Rattle.clif_types.specs.declared.types.«Type».{«Type»}
use Rattle.clif_types.specs.declared.stackmap.UserStackMapEntry.{UserStackMapEntry}
use Rattle.clif_types.specs.Types.{bytes_of}
use Rattle.clif_meaning.specs.Bits.{Bits, value_bytes, value_of_bytes}
use Rattle.clif_meaning.specs.Memory.{Memory, Range, bytes_in, written}
use Rattle.clif_meaning.specs.Instruction.{Edge}
use Rattle.clif_meaning.specs.Event.{Callee, CallShape, Event, Answer, Results, Exception}
use Rattle.clif_meaning.specs.World.{World}
use Rattle.clif_meaning.specs.Outcome.{Outcome, Gives, Goes, Returns, Traps, Calls, NoStep, outcome_of}
use Rattle.clif_meaning.specs.Machine.{Machine, Control, At, HasReturned, HasTrapped, IsStuck, Observation, ending_of}
use Rattle.clif_meaning.specs.Store.{assigned, argument_bits, shown_memory, memory_beside}
use Rattle.clif_meaning.specs.FunctionView.{Placed, FunctionView}

-- what moves at an outside call
pub data Collector : Type 0 where
  -- the slots that the call's stack map names
  ByMaps : Collector
  -- the values of this set
  OverSet : (members : ℕ → Bool) → Collector

-- what a run goes by
pub record FunctionRun : Type 0 where
  pub function : FunctionView
  pub collector : Collector
  -- the addresses that lie in spill slots
  pub hidden : ℕ → Bool
  pub world : World

pub record FunctionState : Type 0 where
  pub values : ℕ → Bits
  pub memory : Memory
  -- newest first
  pub events : List Event
  pub control : Control Placed

abbrev pub same_value : ℕ → ℕ → Bool
same_value a b = a == b

-- the bits of an operand: aliases are followed to their end
abbrev pub value_bits : FunctionRun → FunctionState → ℕ → Bits
value_bits run state value = state.values (run.function.resolved value)

-- Entering a block gives its parameters their arguments, all at once.
abbrev pub enter_block : FunctionRun → FunctionState → ℕ → List Bits → FunctionState
enter_block run state block arguments = record state {
  values = assigned same_value (run.function.blocks block).parameters arguments state.values;
  control = At (run.function.blocks block).items;
}

-- along an edge, with what the call at its start gave
abbrev pub follow_edge : FunctionRun → FunctionState → List Bits → Option (Edge ℕ ℕ) → FunctionState
follow_edge run state given None = record state { control = IsStuck }
follow_edge run state given (Some edge) = enter_block run state edge.target (map (argument_bits (value_bits run state) given) edge.arguments)

-- on to the next place, the results with their bits
abbrev pub give_results : FunctionState → List ℕ → List Placed → List Bits → FunctionState
give_results state results rest values = record state { values = assigned same_value results values state.values; control = At rest }

-- the bytes of an entry of a stack map
abbrev pub entry_range : FunctionRun → UserStackMapEntry → Range
entry_range run entry = record { width = run.world.pointer_width; start = run.world.slot_place entry.slot + entry.offset; size = bytes_of entry.ty }

-- the value in a slot is moved, by the entry's type
abbrev pub entry_moved : FunctionRun → («Type» → Bits → Bits) → UserStackMapEntry → Memory → Memory
entry_moved run moved entry memory =
    written memory (entry_range run entry) (value_bytes (bytes_of entry.ty) (moved entry.ty (value_of_bytes (bytes_in memory (entry_range run entry)))))

-- each value in a slot that the stack map names is moved, in order
abbrev pub entries_moved : FunctionRun → («Type» → Bits → Bits) → List UserStackMapEntry → Memory → Memory
entries_moved run moved [] memory = memory
entries_moved run moved (entry ∷ entries) memory = entries_moved run moved entries (entry_moved run moved entry memory)

-- the collector by maps moves what lies in the slots, and leaves all values
abbrev pub slots_after : FunctionRun → («Type» → Bits → Bits) → List UserStackMapEntry → Collector → Memory → Memory
slots_after run moved entries ByMaps memory = entries_moved run moved entries memory
slots_after run moved entries (OverSet members) memory = memory

-- the collector over a set moves each value of the set that isn't an alias, once, and leaves all slots
abbrev pub values_after : FunctionRun → («Type» → Bits → Bits) → Collector → (ℕ → Bits) → ℕ → Bits
values_after run moved ByMaps values = values
values_after run moved (OverSet members) values =
    λ v. if members v && (run.function.resolved v == v) then moved (run.function.value_type v) (values v) else values v

-- an outside call shows itself; then the collector moves what it moves; memory outside spill slots is what the world
-- says
abbrev pub call_outside : FunctionRun → FunctionState → List UserStackMapEntry → Callee → CallShape → List Bits → FunctionState
call_outside run state entries callee call arguments =
    let events = record { callee = callee; arguments = arguments; memory = shown_memory run.hidden state.memory } ∷ state.events in
    record state {
      values = values_after run (run.world.moved events call) run.collector state.values;
      memory = memory_beside run.hidden (slots_after run (run.world.moved events call) entries run.collector state.memory) (run.world.memory_after events call);
      events = events;
    }

-- A plain call goes on with its results. A try call takes its normal edge, the first, or that of an item.
abbrev pub take_answer : FunctionRun → FunctionState → List (Edge ℕ ℕ) → List ℕ → List Placed → Answer → FunctionState
take_answer run state [] results rest (Results values) = give_results state results rest values
take_answer run state [] results rest (Exception edge payload) = record state { control = IsStuck }
take_answer run state (normal ∷ edges) results rest (Results values) = follow_edge run state values (Some normal)
take_answer run state (normal ∷ edges) results rest (Exception edge payload) = follow_edge run state payload (slice_get edges edge)

-- after the call, which left this state, its answer comes
abbrev pub answer_call : FunctionRun → FunctionState → CallShape → Placed → List Placed → FunctionState
answer_call run state call placed rest = take_answer run state placed.instruction.edges placed.results rest (run.world.answer state.events call)

-- what an instruction does to the state, with the rest of its block
abbrev pub carry_out : FunctionRun → FunctionState → Placed → List Placed → Outcome → FunctionState
carry_out run state placed rest (Gives values memory) = give_results (record state { memory = memory }) placed.results rest values
carry_out run state placed rest (Goes edge given memory) = follow_edge run (record state { memory = memory }) given (slice_get placed.instruction.edges edge)
carry_out run state placed rest (Returns values) = record state { control = HasReturned values }
carry_out run state placed rest (Traps reason) = record state { control = HasTrapped reason }
carry_out run state placed rest (Calls callee call arguments) =
    answer_call run (call_outside run state placed.stack_map callee call arguments) call placed rest
carry_out run state placed rest NoStep = record state { control = IsStuck }

abbrev pub run_placed : FunctionRun → FunctionState → Placed → List Placed → FunctionState
run_placed run state placed rest =
    carry_out run state placed rest
    (outcome_of run.world placed.instruction.operation placed.instruction.controlling
    (map run.function.value_type placed.instruction.operands) (map (value_bits run state) placed.instruction.operands) state.memory)

-- A block that ends without a terminator leaves the machine stuck. What ended stays.
abbrev pub step_at : FunctionRun → FunctionState → Control Placed → FunctionState
step_at run state (At []) = record state { control = IsStuck }
step_at run state (At (placed ∷ rest)) = run_placed run state placed rest
step_at run state (HasReturned results) = state
step_at run state (HasTrapped reason) = state
step_at run state IsStuck = state

abbrev pub function_step : FunctionRun → FunctionState → FunctionState
function_step run state = step_at run state state.control

-- all values are zero, and nothing has happened
abbrev pub blank_state : FunctionRun → FunctionState
blank_state run = record { values = λ v. 0; memory = run.world.memory; events = []; control = IsStuck }

-- Without an entry the machine is stuck at once. The entry's parameters are the world's arguments.
abbrev pub start_at : FunctionRun → Option ℕ → FunctionState
start_at run None = blank_state run
start_at run (Some entry) = enter_block run (blank_state run) entry run.world.arguments

abbrev pub function_shown : FunctionRun → FunctionState → Observation
function_shown run state = record { events = state.events; ending = ending_of state.control (shown_memory run.hidden state.memory) }

abbrev pub function_machine : FunctionRun → Machine FunctionState Observation
function_machine run = record { start = start_at run run.function.entry; next = function_step run; shown = function_shown run }
