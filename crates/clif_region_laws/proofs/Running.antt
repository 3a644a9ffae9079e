-- A function's run and its run without regions go in lock step: their states are equal, but for the regions in what is left of a block.
use Rattle.std.proofs.Common.{◌≡◌, ℕ, zero, suc, List, [], ◌∷◌, map, refl, sym, ◌∙◌, ap, ap₂, Option, Some, None}
use Rattle.std.specs.Prelude.{slice_get}
use Rattle.clif_types.specs.declared.types.«Type».{«Type»}
use Rattle.clif_types.specs.declared.stackmap.UserStackMapEntry.{UserStackMapEntry}
use Rattle.clif_meaning.specs.Bits.{Bits}
use Rattle.clif_meaning.specs.Event.{Answer, CallShape, Callee, Event, Exception, Results}
use Rattle.clif_meaning.specs.FunctionMachine.{ByMaps, Collector, FunctionRun, FunctionState, OverSet, answer_call, call_outside, carry_out, entries_moved, entry_moved, follow_edge, function_machine, function_shown, function_step, slots_after, start_at, step_at, take_answer, value_bits, values_after}
use Rattle.clif_meaning.specs.FunctionView.{Placed}
use Rattle.clif_meaning.specs.Instruction.{Edge, Load, Operation, Store}
use Rattle.clif_meaning.specs.Machine.{At, Control, Ending, HasReturned, HasTrapped, IsStuck, ending_of, observed, state_after}
use Rattle.clif_meaning.specs.Memory.{Memory}
use Rattle.clif_meaning.specs.Outcome.{Calls, Gives, Goes, NoStep, Outcome, Returns, Traps, outcome_of}
use Rattle.clif_meaning.specs.Store.{memory_beside, shown_memory}
use Rattle.clif_meaning.specs.World.{World}
use Rattle.clif_region_laws.specs.Regions.{plain_items, plain_operation, plain_placed, without_regions}

-- what an instruction does is what it does without a region
outcome_stays : (world : World) (operation : Operation) (ty : «Type») (types : List «Type») (operands : List Bits) (memory : Memory)
    → outcome_of world (plain_operation operation) ty types operands memory ≡ outcome_of world operation ty types operands memory
outcome_stays world (Load flags offset) ty types [] memory = refl
outcome_stays world (Load flags offset) ty types (address ∷ []) memory = refl
outcome_stays world (Load flags offset) ty types (address ∷ other ∷ operands) memory = refl
outcome_stays world (Store flags offset) ty types [] memory = refl
outcome_stays world (Store flags offset) ty types (stored ∷ []) memory = refl
outcome_stays world (Store flags offset) ty types (stored ∷ address ∷ []) memory = refl
outcome_stays world (Store flags offset) ty types (stored ∷ address ∷ other ∷ operands) memory = refl
outcome_stays world _ ty types operands memory = refl

module _ (run : FunctionRun) where
  abbrev pub plain_run : FunctionRun
  plain_run = record run { function = without_regions run.function }

  abbrev plain_control : Control Placed → Control Placed
  plain_control (At rest) = At (plain_items rest)
  plain_control (HasReturned results) = HasReturned results
  plain_control (HasTrapped reason) = HasTrapped reason
  plain_control IsStuck = IsStuck

  abbrev plain_state : FunctionState → FunctionState
  plain_state state = record state { control = plain_control state.control }

  followed : (state : FunctionState) (given : List Bits) (edge : Option (Edge ℕ ℕ)) → follow_edge plain_run (plain_state state) given edge ≡ plain_state (follow_edge run state given edge)
  followed state given None = refl
  followed state given (Some edge) = refl

  taken : (state : FunctionState) (edges : List (Edge ℕ ℕ)) (results : List ℕ) (rest : List Placed) (answer : Answer)
      → take_answer plain_run (plain_state state) edges results (plain_items rest) answer ≡ plain_state (take_answer run state edges results rest answer)
  taken state [] results rest (Results values) = refl
  taken state [] results rest (Exception edge payload) = refl
  taken state (normal ∷ edges) results rest (Results values) = followed state values (Some normal)
  taken state (normal ∷ edges) results rest (Exception edge payload) = followed state payload (slice_get edges edge)

  -- what a collector moves it moves without regions
  entries_stay : (moved : «Type» → Bits → Bits) (entries : List UserStackMapEntry) (memory : Memory) → entries_moved plain_run moved entries memory ≡ entries_moved run moved entries memory
  entries_stay moved [] memory = refl
  entries_stay moved (entry ∷ entries) memory = entries_stay moved entries (entry_moved run moved entry memory)

  slots_stay : (moved : «Type» → Bits → Bits) (entries : List UserStackMapEntry) (collector : Collector) (memory : Memory)
      → slots_after plain_run moved entries collector memory ≡ slots_after run moved entries collector memory
  slots_stay moved entries ByMaps memory = entries_stay moved entries memory
  slots_stay moved entries (OverSet members) memory = refl

  values_stay : (moved : «Type» → Bits → Bits) (collector : Collector) (values : ℕ → Bits) → values_after plain_run moved collector values ≡ values_after run moved collector values
  values_stay moved ByMaps values = refl
  values_stay moved (OverSet members) values = refl

  called : (state : FunctionState) (entries : List UserStackMapEntry) (callee : Callee) (call : CallShape) (arguments : List Bits)
      → call_outside plain_run (plain_state state) entries callee call arguments ≡ plain_state (call_outside run state entries callee call arguments)
  called state entries callee call arguments =
      ap₂ (λ (values : ℕ → Bits) (memory : Memory). record { values = values; memory = memory_beside run.hidden memory (run.world.memory_after events call); events = events; control = plain_control state.control })
      (values_stay (run.world.moved events call) run.collector state.values) (slots_stay (run.world.moved events call) entries run.collector state.memory)
    where
      events : List Event
      events = record { callee = callee; arguments = arguments; memory = shown_memory run.hidden state.memory } ∷ state.events

  carried : (state : FunctionState) (placed : Placed) (rest : List Placed) (outcome : Outcome)
      → carry_out plain_run (plain_state state) (plain_placed placed) (plain_items rest) outcome ≡ plain_state (carry_out run state placed rest outcome)
  carried state placed rest (Gives values memory) = refl
  carried state placed rest (Goes edge given memory) = followed (record state { memory = memory }) given (slice_get placed.instruction.edges edge)
  carried state placed rest (Returns values) = refl
  carried state placed rest (Traps reason) = refl
  carried state placed rest (Calls callee call arguments) =
      ap (λ (after : FunctionState). answer_call plain_run after call (plain_placed placed) (plain_items rest)) (called state placed.stack_map callee call arguments)
      ∙ (let after = call_outside run state placed.stack_map callee call arguments in
      taken after placed.instruction.edges placed.results rest (run.world.answer after.events call))
  carried state placed rest NoStep = refl

  stepped : (state : FunctionState) → function_step plain_run (plain_state state) ≡ plain_state (function_step run state)
  stepped state = by state.control
    where
      by : (control : Control Placed) → step_at plain_run (plain_state state) (plain_control control) ≡ plain_state (step_at run state control)
      by (At []) = refl
      by (At (placed ∷ rest)) =
          let types = map run.function.value_type placed.instruction.operands in
          let bits = map (value_bits run state) placed.instruction.operands in
          ap (carry_out plain_run (plain_state state) (plain_placed placed) (plain_items rest))
          (outcome_stays run.world placed.instruction.operation placed.instruction.controlling types bits state.memory)
          ∙ carried state placed rest (outcome_of run.world placed.instruction.operation placed.instruction.controlling types bits state.memory)
      by (HasReturned results) = refl
      by (HasTrapped reason) = refl
      by IsStuck = refl

  started : (entry : Option ℕ) → start_at plain_run entry ≡ plain_state (start_at run entry)
  started None = refl
  started (Some entry) = refl

  along : (n : ℕ) → state_after (function_machine plain_run) n ≡ plain_state (state_after (function_machine run) n)
  along zero = started run.function.entry
  along (suc n) = ap (function_step plain_run) (along n) ∙ stepped (state_after (function_machine run) n)

  ends : (control : Control Placed) (memory : Memory) → ending_of (plain_control control) memory ≡ ending_of control memory
  ends (At rest) memory = refl
  ends (HasReturned results) memory = refl
  ends (HasTrapped reason) memory = refl
  ends IsStuck memory = refl

  pub shows : (n : ℕ) → observed (function_machine run) n ≡ observed (function_machine plain_run) n
  shows n =
      let state = state_after (function_machine run) n in
      sym (ap (function_shown plain_run) (along n)
      ∙ ap (λ (ending : Ending). record { events = state.events; ending = ending }) (ends state.control (shown_memory run.hidden state.memory)))
