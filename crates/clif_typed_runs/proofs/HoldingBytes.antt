-- Memory holds bytes in each state of a script's run: what instructions write are bytes, and the world's memory holds bytes.
use Rattle.std.proofs.Common.{◌<◌, ◌%◌, ◌&&◌, ◌==◌, ℕ, zero, suc, Bool, true, false, if◌then◌else◌, List, [], ◌∷◌, arith}
use Rattle.std.specs.Prelude.{not, Option, Some, None, slice_get, map}
use Rattle.std.specs.List.{slice_index}
use Rattle.clif_types.specs.MemFlags.{MemFlagsShape}
use Rattle.clif_types.specs.Types.{bits_of}
use Rattle.clif_types.specs.declared.extname.ExternalName.{ExternalName}
use Rattle.clif_types.specs.declared.extname.ExternalName.TheVariants.{LibCall}
use Rattle.clif_types.specs.declared.libcall.LibCall.{LibCall as LibraryFunction}
use Rattle.clif_types.specs.declared.libcall.LibCall.TheVariants.{Memcpy, Memmove, Memset, Memcmp}
use Rattle.clif_types.specs.declared.trapcode.TrapCode.{TrapCode}
use Rattle.clif_types.specs.declared.trapcode.TrapCode.TheVariants.{HeapOutOfBounds}
use Rattle.clif_types.specs.declared.types.«Type».{«Type»}
use Rattle.clif_opcodes.specs.declared.opcodes.StackOpcode.TheVariants.{StackAddr, StackLoad}
use Rattle.clif_meaning.specs.Bits.{AreBytes, Bits, value_bytes}
use Rattle.clif_meaning.specs.ByteOperation.{ByteOperation, Copy, Fill, CompareBytes, CallLibrary}
use Rattle.clif_meaning.specs.Event.{Answer, CallShape, Callee, Event, Exception, Results, plain_call}
use Rattle.clif_meaning.specs.Instruction.{Edge, Operation, Compute, Load, Store, Stack, StackStore, Trap, CondTrap, Jump, Brif, BrTable, Switch, Bytes, Return, Call, CallIndirect, TryCall, TryCallIndirect}
use Rattle.clif_meaning.specs.Library.{bytes_at, library_memory}
use Rattle.clif_meaning.specs.Machine.{Control, At, HasReturned, HasTrapped, IsStuck, state_after}
use Rattle.clif_meaning.specs.Memory.{Memory, Range, index_in, lies_in, written}
use Rattle.clif_meaning.specs.Name.{Name}
use Rattle.clif_meaning.specs.Outcome.{Outcome, Gives, Goes, Returns, Traps, Calls, NoStep, Computed, Values, Fault, Undefined, access_outcome, are_accessible, byte_memory, byte_outcome, call_outcome, computed, no_claim, outcome_of, outcome_of_computed, traps_on}
use Rattle.clif_meaning.specs.Program.{Item, Instruct, Use, Assign}
use Rattle.clif_meaning.specs.ScriptMachine.{ScriptRun, ScriptState, call_outside, carry_out, follow_edge, run_item, script_machine, start_at, step_at, take_answer}
use Rattle.clif_meaning.specs.Store.{shown_memory}
use Rattle.clif_meaning.specs.World.{World}
use Rattle.clif_meaning.proofs.BitLists.{are_bytes}
use Rattle.clif_meaning.proofs.ByteOperations.{byte_cases}
use Rattle.clif_meaning.proofs.LibraryCalls.{library_cases}
use Rattle.clif_byte_laws.specs.Pieces.{HoldsBytes}
use Rattle.clif_byte_laws.proofs.Whole.{copy_holds_bytes, fill_holds_bytes}
use Rattle.clif_typed_runs.specs.Laws.{MemoryHoldsBytes}

-- WHAT IS WRITTEN ---------------------------------------------------------------------------------------------------------

byte_at : (bytes : List ℕ) (k : ℕ) → AreBytes bytes → slice_index bytes k < 256
byte_at [] k are = omega arith
byte_at (byte ∷ bytes) zero are = are.0
byte_at (byte ∷ bytes) (suc k) are = byte_at bytes k are.1

written_bytes : (memory : Memory) (range : Range) (count : ℕ) (bits : Bits) → HoldsBytes memory → HoldsBytes (written memory range (value_bytes count bits))
written_bytes memory range count bits bytes address = by (lies_in range address)
  where
    by : (there : Bool) → (if there then slice_index (value_bytes count bits) (index_in range address) else memory address) < 256
    by true = byte_at (value_bytes count bits) (index_in range address) (are_bytes count bits)
    by false = bytes address

library_bytes : (width : ℕ) (callee : LibraryFunction) (first second size : Bits) (memory : Memory) → HoldsBytes memory → HoldsBytes (library_memory width callee first second size memory)
library_bytes width Memcpy first second size memory bytes = copy_holds_bytes memory (bytes_at width first size) second bytes
library_bytes width Memmove first second size memory bytes = copy_holds_bytes memory (bytes_at width first size) second bytes
library_bytes width Memset first second size memory bytes = fill_holds_bytes memory (bytes_at width first size) (second % 256) bytes (omega arith)
library_bytes width Memcmp first second size memory bytes = bytes

-- WHAT INSTRUCTIONS LEAVE -------------------------------------------------------------------------------------------------

abbrev LeavesBytes : Outcome → Type 0
LeavesBytes (Gives results memory) = HoldsBytes memory
LeavesBytes (Goes edge given memory) = HoldsBytes memory
LeavesBytes (Returns results) = Unit {0}
LeavesBytes (Traps reason) = Unit {0}
LeavesBytes (Calls callee call arguments) = Unit {0}
LeavesBytes NoStep = Unit {0}

computed_leaves : (c : Computed) (memory : Memory) → HoldsBytes memory → LeavesBytes (outcome_of_computed c memory)
computed_leaves (Values results) memory bytes = bytes
computed_leaves (Fault reason) memory bytes = tt
computed_leaves Undefined memory bytes = tt

access_leaves : (world : World) (flags : MemFlagsShape) (range : Range) (outcome : Outcome) → LeavesBytes outcome → LeavesBytes (access_outcome world flags range outcome)
access_leaves world flags range outcome leaves =
    by (flags.aligned && not (range.start % range.size == 0)) (are_accessible world range range.size) flags.notrap
  where
    by : (misplaced accessible notrap : Bool) → LeavesBytes (if misplaced then NoStep else (if accessible then outcome else (if notrap then NoStep else Traps HeapOutOfBounds)))
    by true accessible notrap = tt
    by false true notrap = leaves
    by false false true = tt
    by false false false = tt

trap_leaves : (traps : Bool) (reason : TrapCode) (memory : Memory) → HoldsBytes memory → LeavesBytes (if traps then Traps reason else Gives [] memory)
trap_leaves true reason memory bytes = tt
trap_leaves false reason memory bytes = bytes

-- what an operation on bytes leaves
after_bytes : (operation : ByteOperation) (width : ℕ) (operands : List Bits) (memory : Memory) → HoldsBytes memory → HoldsBytes (byte_memory operation width operands memory)
after_bytes (Copy copy) width [] memory bytes = bytes
after_bytes (Copy copy) width (x ∷ []) memory bytes = bytes
after_bytes (Copy copy) width (target ∷ source ∷ []) memory bytes = copy_holds_bytes memory (bytes_at width target copy.size) source bytes
after_bytes (Copy copy) width (x ∷ y ∷ z ∷ operands) memory bytes = bytes
after_bytes (Fill fill) width [] memory bytes = bytes
after_bytes (Fill fill) width (target ∷ []) memory bytes = fill_holds_bytes memory (bytes_at width target fill.size) (fill.byte % 256) bytes (omega arith)
after_bytes (Fill fill) width (x ∷ y ∷ operands) memory bytes = bytes
after_bytes (CompareBytes compare) width operands memory bytes = bytes
after_bytes (CallLibrary callee) width [] memory bytes = bytes
after_bytes (CallLibrary callee) width (x ∷ []) memory bytes = bytes
after_bytes (CallLibrary callee) width (x ∷ y ∷ []) memory bytes = bytes
after_bytes (CallLibrary callee) width (first ∷ second ∷ size ∷ []) memory bytes = library_bytes width callee first second size memory bytes
after_bytes (CallLibrary callee) width (x ∷ y ∷ z ∷ w ∷ operands) memory bytes = bytes

bytes_leave : (world : World) (operation : ByteOperation) (width : ℕ) (operands : List Bits) (memory : Memory) → HoldsBytes memory
    → LeavesBytes (byte_outcome world operation width operands memory)
bytes_leave world operation width operands memory bytes =
    byte_cases LeavesBytes world operation width operands memory tt (λ in_order. after_bytes operation width operands memory bytes)

-- a call of a function by its name
call_leaves : (world : World) (goes_on : List Bits → Memory → Outcome) → ((bits : List Bits) (after : Memory) → HoldsBytes after → LeavesBytes (goes_on bits after))
    → (name : ExternalName) (call : CallShape) (operands : List Bits) (memory : Memory) → HoldsBytes memory → LeavesBytes (call_outcome world goes_on name call operands memory)
call_leaves world goes_on goes (LibCall callee) call operands memory bytes =
    library_cases (λ (xs : List Bits) (o : Outcome). LeavesBytes o) world goes_on callee call.signature operands memory (λ xs. tt)
    (λ first second size runs. goes _ _ (library_bytes world.pointer_width callee first second size memory bytes))
call_leaves world goes_on goes _ call operands memory bytes = tt

outcome_leaves : (world : World) (operation : Operation) (ty : «Type») (types : List «Type») (operands : List Bits) (memory : Memory) → HoldsBytes memory
    → LeavesBytes (outcome_of world operation ty types operands memory)
outcome_leaves world (Compute arithmetic) ty types operands memory bytes = computed_leaves (computed arithmetic ty types operands) memory bytes
outcome_leaves world (Load flags offset) ty types [] memory bytes = tt
outcome_leaves world (Load flags offset) ty types (address ∷ []) memory bytes = access_leaves world flags _ (Gives _ memory) bytes
outcome_leaves world (Load flags offset) ty types (address ∷ x ∷ operands) memory bytes = tt
outcome_leaves world (Store flags offset) ty types [] memory bytes = tt
outcome_leaves world (Store flags offset) ty types (stored ∷ []) memory bytes = tt
outcome_leaves world (Store flags offset) ty types (stored ∷ address ∷ []) memory bytes = access_leaves world flags _ (Gives [] _) (written_bytes memory _ _ stored bytes)
outcome_leaves world (Store flags offset) ty types (stored ∷ address ∷ x ∷ operands) memory bytes = tt
outcome_leaves world (Stack StackAddr slot offset) ty types [] memory bytes = bytes
outcome_leaves world (Stack StackAddr slot offset) ty types (x ∷ operands) memory bytes = tt
outcome_leaves world (Stack StackLoad slot offset) ty types [] memory bytes = access_leaves world no_claim _ (Gives _ memory) bytes
outcome_leaves world (Stack StackLoad slot offset) ty types (x ∷ operands) memory bytes = tt
outcome_leaves world (StackStore slot offset) ty types [] memory bytes = tt
outcome_leaves world (StackStore slot offset) ty types (stored ∷ []) memory bytes = access_leaves world no_claim _ (Gives [] _) (written_bytes memory _ _ stored bytes)
outcome_leaves world (StackStore slot offset) ty types (stored ∷ x ∷ operands) memory bytes = tt
outcome_leaves world (Trap reason) ty types [] memory bytes = tt
outcome_leaves world (Trap reason) ty types (x ∷ operands) memory bytes = tt
outcome_leaves world (CondTrap opcode reason) ty types [] memory bytes = tt
outcome_leaves world (CondTrap opcode reason) ty types (condition ∷ []) memory bytes = trap_leaves (traps_on opcode condition) reason memory bytes
outcome_leaves world (CondTrap opcode reason) ty types (condition ∷ x ∷ operands) memory bytes = tt
outcome_leaves world Jump ty types [] memory bytes = bytes
outcome_leaves world Jump ty types (x ∷ operands) memory bytes = tt
outcome_leaves world Brif ty types [] memory bytes = tt
outcome_leaves world Brif ty types (x ∷ []) memory bytes = bytes
outcome_leaves world Brif ty types (x ∷ y ∷ operands) memory bytes = tt
outcome_leaves world (BrTable entries) ty types [] memory bytes = tt
outcome_leaves world (BrTable entries) ty types (x ∷ []) memory bytes = bytes
outcome_leaves world (BrTable entries) ty types (x ∷ y ∷ operands) memory bytes = tt
outcome_leaves world (Switch keys) ty types [] memory bytes = tt
outcome_leaves world (Switch keys) ty types (x ∷ []) memory bytes = bytes
outcome_leaves world (Switch keys) ty types (x ∷ y ∷ operands) memory bytes = tt
outcome_leaves world (Bytes operation) ty types operands memory bytes = bytes_leave world operation (bits_of ty) operands memory bytes
outcome_leaves world Return ty types operands memory bytes = tt
outcome_leaves world (Call name signature) ty types operands memory bytes = call_leaves world Gives (λ bits after hold. hold) name (plain_call signature) operands memory bytes
outcome_leaves world (CallIndirect signature) ty types [] memory bytes = tt
outcome_leaves world (CallIndirect signature) ty types (address ∷ operands) memory bytes = tt
outcome_leaves world (TryCall name call) ty types operands memory bytes = call_leaves world (Goes 0) (λ bits after hold. hold) name call operands memory bytes
outcome_leaves world (TryCallIndirect call) ty types [] memory bytes = tt
outcome_leaves world (TryCallIndirect call) ty types (address ∷ operands) memory bytes = tt

-- STEPS -------------------------------------------------------------------------------------------------------------------

module _ (run : ScriptRun) where
  followed : (state : ScriptState) (given : List Bits) (edge : Option (Edge Name Name)) → HoldsBytes state.memory → HoldsBytes (follow_edge run state given edge).memory
  followed state given None bytes = bytes
  followed state given (Some edge) bytes = bytes

  -- an outside call leaves spill slots to the run, and all else to the world
  called : (state : ScriptState) (callee : Callee) (call : CallShape) (arguments : List Bits) → HoldsBytes state.memory → HoldsBytes (call_outside run state callee call arguments).memory
  called state callee call arguments bytes address = by (run.hidden address)
    where
      events : List Event
      events = record { callee = callee; arguments = arguments; memory = shown_memory run.hidden state.memory } ∷ state.events

      by : (is_hidden : Bool) → (if is_hidden then state.memory address else run.world.memory_after events call address) < 256
      by true = bytes address
      by false = run.world.keeps_bytes events call address

  answered : (state : ScriptState) (edges : List (Edge Name Name)) (results : List Name) (rest : List Item) (answer : Answer) → HoldsBytes state.memory
      → HoldsBytes (take_answer run state edges results rest answer).memory
  answered state [] results rest (Results values) bytes = bytes
  answered state [] results rest (Exception edge payload) bytes = bytes
  answered state (normal ∷ edges) results rest (Results values) bytes = bytes
  answered state (normal ∷ edges) results rest (Exception edge payload) bytes = followed state payload (slice_get edges edge) bytes

  carried : (state : ScriptState) (edges : List (Edge Name Name)) (results : List Name) (rest : List Item) (outcome : Outcome) → LeavesBytes outcome → HoldsBytes state.memory
      → HoldsBytes (carry_out run state edges results rest outcome).memory
  carried state edges results rest (Gives values memory) leaves bytes = leaves
  carried state edges results rest (Goes edge given memory) leaves bytes = followed (record state { memory = memory }) given (slice_get edges edge) leaves
  carried state edges results rest (Returns values) leaves bytes = bytes
  carried state edges results rest (Traps reason) leaves bytes = bytes
  carried state edges results rest (Calls callee call arguments) leaves bytes =
      let after : ScriptState = call_outside run state callee call arguments in
      answered after edges results rest (run.world.answer after.events call) (called state callee call arguments bytes)
  carried state edges results rest NoStep leaves bytes = bytes

  item_leaves : (state : ScriptState) (item : Item) (rest : List Item) → HoldsBytes state.memory → HoldsBytes (run_item run state item rest).memory
  item_leaves state (Instruct place instruction results) rest bytes =
      carried state instruction.edges results rest _
      (outcome_leaves run.world instruction.operation instruction.controlling (map run.name_type instruction.operands) (map state.names instruction.operands) state.memory bytes) bytes
  item_leaves state (Use variable name) rest bytes = bytes
  item_leaves state (Assign variable name) rest bytes = bytes

  stepped : (state : ScriptState) (control : Control Item) → HoldsBytes state.memory → HoldsBytes (step_at run state control).memory
  stepped state (At []) bytes = bytes
  stepped state (At (item ∷ rest)) bytes = item_leaves state item rest bytes
  stepped state (HasReturned results) bytes = bytes
  stepped state (HasTrapped reason) bytes = bytes
  stepped state IsStuck bytes = bytes

  started : (entry : Option Name) → HoldsBytes (start_at run entry).memory
  started None = run.world.holds_bytes
  started (Some entry) = run.world.holds_bytes

pub memory_holds_bytes : MemoryHoldsBytes
memory_holds_bytes run zero = started run run.program.entry
memory_holds_bytes run (suc n) = stepped run (state_after (script_machine run) n) (state_after (script_machine run) n).control (memory_holds_bytes run n)
