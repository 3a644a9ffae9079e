-- What a well-typed instruction gives fits, whatever its access claims, and its results are for what its call returns.
use Rattle.std.specs.Prelude.{◌≡◌, ℕ, ◌⊎◌, Option, Some, None, Bool, true, false, ◌%◌, ◌==◌, ◌&&◌, not, if◌then◌else◌, List, [], ◌∷◌, map, IsTrue}
use Rattle.std.proofs.Common.{inl, inr, refl, subst, sym, ◌∙◌}
use Rattle.clif_types.specs.Types.{bits_of}
use Rattle.clif_types.specs.declared.types.«Type».{«Type»}
use Rattle.clif_types.specs.declared.trapcode.TrapCode.{TrapCode}
use Rattle.clif_types.specs.declared.trapcode.TrapCode.TheVariants.{HeapOutOfBounds}
use Rattle.clif_types.specs.MemFlags.{MemFlagsShape}
use Rattle.clif_opcodes.specs.declared.opcodes.StackOpcode.TheVariants.{StackAddr, StackLoad}
use Rattle.clif_opcodes.specs.Kinds.{is_met}
use Rattle.clif_types.specs.declared.extname.ExternalName.{ExternalName}
use Rattle.clif_types.specs.declared.extname.ExternalName.TheVariants.{LibCall}
use Rattle.clif_tables.specs.Callees.{types_of}
use Rattle.clif_meaning.specs.Event.{CallShape, plain_call}
use Rattle.clif_meaning.specs.Bits.{Bits, AreValues, IsValue}
use Rattle.clif_meaning.specs.Instruction.{Instruction, Operation, Compute, Load, Store, Stack, StackStore, Trap, CondTrap, Jump, Brif, BrTable, Switch, Bytes, Return, Call, CallIndirect, TryCall, TryCallIndirect, operation_typing}
use Rattle.clif_meaning.specs.Laws.{FitsTypes}
use Rattle.clif_meaning.specs.Library.{library_answer, pointer_of}
use Rattle.clif_meaning.specs.Memory.{Memory, Range}
use Rattle.clif_meaning.specs.ByteOperation.{ByteOperation}
use Rattle.clif_meaning.proofs.ByteOperations.{byte_cases, byte_values}
use Rattle.clif_meaning.specs.Outcome.{Outcome, Gives, Goes, Returns, Traps, Calls, NoStep, Computed, Values, Fault, Undefined, access_outcome, are_accessible, byte_outcome, call_outcome, computed, no_claim, outcome_of, outcome_of_computed, traps_on}
use Rattle.clif_meaning.specs.Program.{result_types}
use Rattle.clif_meaning.specs.Typing.{TakesOperands, call_shape}
use Rattle.clif_meaning.specs.World.{World}
use Rattle.clif_meaning.proofs.Fitting.{outcomes_fit}
use Rattle.clif_meaning.proofs.LibraryCalls.{answer_fits, first_fits, library_cases, runs_as}
use Rattle.clif_typed_runs.specs.ValuesFit.{HoldValues, IsTyped}
use Rattle.clif_typed_runs.proofs.Holding.{operands_fit}

-- What an edge passes beside operands: nothing, and behind a call that is no outside one what it returns, on its normal edge.
abbrev pub PassesValues : Option CallShape → (edge : ℕ) → List Bits → Type 0
PassesValues None edge given = Unit {0}
PassesValues (Some call) edge given = (edge ≡ 0) × AreValues (types_of call.signature.returns) given

-- What is given or returned are values of these types. An outside call is the one that the instruction makes, if it makes one,
-- and the results are for what it returns, or there are none.
abbrev pub GivesValues : List «Type» → List «Type» → Option CallShape → Outcome → Type 0
GivesValues results returns made (Gives bits memory) = AreValues results bits
GivesValues results returns made (Goes edge given memory) = PassesValues made edge given
GivesValues results returns made (Returns bits) = AreValues returns bits
GivesValues results returns made (Traps reason) = Unit {0}
GivesValues results returns made (Calls callee call arguments) = (made ≡ Some call) × ((results ≡ types_of call.signature.returns) ⊎ (results ≡ []))
GivesValues results returns made NoStep = Unit {0}

computed_values : (results returns : List «Type») (c : Computed) (memory : Memory)
    → FitsTypes results returns (outcome_of_computed c memory) → GivesValues results returns None (outcome_of_computed c memory)
computed_values results returns (Values bits) memory fits = fits
computed_values results returns (Fault reason) memory fits = tt
computed_values results returns Undefined memory fits = tt

-- An access with flags does what the same access does without them, or nothing.
access_values : (world : World) (flags : MemFlagsShape) (range : Range) (results returns : List «Type») (bits : List Bits) (memory : Memory)
    → FitsTypes results returns (access_outcome world no_claim range (Gives bits memory))
    → GivesValues results returns None (access_outcome world flags range (Gives bits memory))
access_values world flags range results returns bits memory fits =
    by (flags.aligned && not (range.start % range.size == 0)) (are_accessible world range range.size) flags.notrap fits
  where
    by : (misaligned accessible notrap : Bool) → FitsTypes results returns (if accessible then Gives bits memory else Traps HeapOutOfBounds)
        → GivesValues results returns None (if misaligned then NoStep else (if accessible then Gives bits memory else (if notrap then NoStep else Traps HeapOutOfBounds)))
    by true accessible notrap fits = tt
    by false true notrap fits = fits
    by false false true fits = tt
    by false false false fits = tt

trap_values : (returns : List «Type») (traps : Bool) (reason : TrapCode) (memory : Memory) → GivesValues [] returns None (if traps then Traps reason else Gives [] memory)
trap_values returns true reason memory = tt
trap_values returns false reason memory = tt

-- A call of a function by its name: an outside one, or one of a function of the C library, which goes on with values of the
-- types that the call returns.
named_values : (world : World) (goes_on : List Bits → Memory → Outcome) (results returns : List «Type») (name : ExternalName) (call : CallShape)
    (types : List «Type») (operands : List Bits) (memory : Memory) → types ≡ types_of call.signature.params → AreValues types operands
    → ((bits : List Bits) (after : Memory) → AreValues (types_of call.signature.returns) bits → GivesValues results returns (Some call) (goes_on bits after))
    → (results ≡ types_of call.signature.returns) ⊎ (results ≡ []) → GivesValues results returns (Some call) (call_outcome world goes_on name call operands memory)
named_values world goes_on results returns (LibCall callee) call types operands memory takes values goes are =
    library_cases (λ (xs : List Bits) (o : Outcome). AreValues types xs → GivesValues results returns (Some call) o) world goes_on callee call.signature operands memory
    (λ xs fit. tt)
    (λ first second size runs fit.
    let called = runs_as world callee call.signature first second size runs in
    let pointer : «Type» = pointer_of world.pointer_width in
    let is_pointer : IsValue pointer first =
    first_fits pointer callee first (second ∷ size ∷ []) (subst (λ (ts : List «Type»). AreValues ts (first ∷ second ∷ size ∷ [])) (takes ∙ called.parameters) fit) in
    goes _ _ (subst (λ (ts : List «Type»). AreValues ts (library_answer world callee first second size memory ∷ [])) (sym called.returns)
    (answer_fits world pointer callee first second size memory is_pointer))) values
named_values world goes_on results returns _ call types operands memory takes values goes are = (refl, are)

-- an operation on bytes
bytes_values : (world : World) (operation : ByteOperation) (ty : «Type») (returns : List «Type») (operands : List Bits) (memory : Memory)
    → GivesValues (result_types (Bytes operation) ty) returns None (byte_outcome world operation (bits_of ty) operands memory)
bytes_values world operation ty returns operands memory =
    byte_cases (GivesValues (result_types (Bytes operation) ty) returns None) world operation (bits_of ty) operands memory tt
    (byte_values world operation ty (bits_of ty) operands memory)

pub outcome_values : (world : World) (operation : Operation) (ty : «Type») (returns types : List «Type») (operands : List Bits) (memory : Memory)
    → IsTrue (is_met (operation_typing operation).demand ty) → TakesOperands returns operation ty types → AreValues types operands
    → GivesValues (result_types operation ty) returns (call_shape operation) (outcome_of world operation ty types operands memory)
outcome_values world (Compute arithmetic) ty returns types operands memory met takes values =
    computed_values (result_types (Compute arithmetic) ty) returns (computed arithmetic ty types operands) memory
    (outcomes_fit world (Compute arithmetic) ty returns types operands memory tt met takes values tt)
outcome_values world (Load flags offset) ty returns types [] memory met takes values = tt
outcome_values world (Load flags offset) ty returns types (address ∷ []) memory met takes values =
    access_values world flags _ (ty ∷ []) returns _ memory (outcomes_fit world (Load no_claim offset) ty returns types (address ∷ []) memory tt met takes values tt)
outcome_values world (Load flags offset) ty returns types (address ∷ x ∷ operands) memory met takes values = tt
outcome_values world (Store flags offset) ty returns types [] memory met takes values = tt
outcome_values world (Store flags offset) ty returns types (stored ∷ []) memory met takes values = tt
outcome_values world (Store flags offset) ty returns types (stored ∷ address ∷ []) memory met takes values =
    access_values world flags _ [] returns [] _ (outcomes_fit world (Store no_claim offset) ty returns types (stored ∷ address ∷ []) memory tt met takes values tt)
outcome_values world (Store flags offset) ty returns types (stored ∷ address ∷ x ∷ operands) memory met takes values = tt
outcome_values world (Stack StackAddr slot offset) ty returns types [] memory met takes values =
    outcomes_fit world (Stack StackAddr slot offset) ty returns types [] memory tt met takes values tt
outcome_values world (Stack StackAddr slot offset) ty returns types (x ∷ operands) memory met takes values = tt
outcome_values world (Stack StackLoad slot offset) ty returns types [] memory met takes values =
    access_values world no_claim _ (ty ∷ []) returns _ memory (outcomes_fit world (Stack StackLoad slot offset) ty returns types [] memory tt met takes values tt)
outcome_values world (Stack StackLoad slot offset) ty returns types (x ∷ operands) memory met takes values = tt
outcome_values world (StackStore slot offset) ty returns types [] memory met takes values = tt
outcome_values world (StackStore slot offset) ty returns types (stored ∷ []) memory met takes values =
    access_values world no_claim _ [] returns [] _ (outcomes_fit world (StackStore slot offset) ty returns types (stored ∷ []) memory tt met takes values tt)
outcome_values world (StackStore slot offset) ty returns types (stored ∷ x ∷ operands) memory met takes values = tt
outcome_values world (Trap reason) ty returns types [] memory met takes values = tt
outcome_values world (Trap reason) ty returns types (x ∷ operands) memory met takes values = tt
outcome_values world (CondTrap opcode reason) ty returns types [] memory met takes values = tt
outcome_values world (CondTrap opcode reason) ty returns types (condition ∷ []) memory met takes values =
    trap_values returns (traps_on opcode condition) reason memory
outcome_values world (CondTrap opcode reason) ty returns types (condition ∷ x ∷ operands) memory met takes values = tt
outcome_values world Jump ty returns types [] memory met takes values = tt
outcome_values world Jump ty returns types (x ∷ operands) memory met takes values = tt
outcome_values world Brif ty returns types [] memory met takes values = tt
outcome_values world Brif ty returns types (x ∷ []) memory met takes values = tt
outcome_values world Brif ty returns types (x ∷ y ∷ operands) memory met takes values = tt
outcome_values world (BrTable entries) ty returns types [] memory met takes values = tt
outcome_values world (BrTable entries) ty returns types (x ∷ []) memory met takes values = tt
outcome_values world (BrTable entries) ty returns types (x ∷ y ∷ operands) memory met takes values = tt
outcome_values world (Switch keys) ty returns types [] memory met takes values = tt
outcome_values world (Switch keys) ty returns types (x ∷ []) memory met takes values = tt
outcome_values world (Switch keys) ty returns types (x ∷ y ∷ operands) memory met takes values = tt
outcome_values world (Bytes operation) ty returns types operands memory met takes values = bytes_values world operation ty returns operands memory
outcome_values world Return ty returns types operands memory met takes values =
    outcomes_fit world Return ty returns types operands memory tt met takes values tt
outcome_values world (Call name signature) ty returns types operands memory met takes values =
    named_values world Gives (types_of signature.returns) returns name (plain_call signature) types operands memory takes.1 values (λ bits after fit. fit) (inl refl)
outcome_values world (CallIndirect signature) ty returns types [] memory met takes values = tt
outcome_values world (CallIndirect signature) ty returns types (address ∷ operands) memory met takes values = (refl, inl refl)
outcome_values world (TryCall name call) ty returns types operands memory met takes values =
    named_values world (Goes 0) [] returns name call types operands memory takes.1 values (λ bits after fit. (refl, fit)) (inr refl)
outcome_values world (TryCallIndirect call) ty returns types [] memory met takes values = tt
outcome_values world (TryCallIndirect call) ty returns types (address ∷ operands) memory met takes values = (refl, inr refl)

-- a typed instruction, on operands that hold values of their types
pub typed_gives : {Block Operand : Type 0} (type_of : Operand → «Type») (parameter_types : Block → List «Type») (returns : List «Type»)
    (instruction : Instruction Block Operand) (results : List Operand) (world : World) (bits : Operand → Bits) (memory : Memory)
    → IsTyped type_of parameter_types returns instruction results → HoldValues type_of bits
    → GivesValues (map type_of results) returns (call_shape instruction.operation)
    (outcome_of world instruction.operation instruction.controlling (map type_of instruction.operands) (map bits instruction.operands) memory)
typed_gives type_of parameter_types returns instruction results world bits memory typed holds =
    subst (λ (types : List «Type»). GivesValues types returns (call_shape instruction.operation)
    (outcome_of world instruction.operation instruction.controlling (map type_of instruction.operands) (map bits instruction.operands) memory)) (sym typed.gives)
    (outcome_values world instruction.operation instruction.controlling returns (map type_of instruction.operands) (map bits instruction.operands) memory
    typed.takes.made_at typed.takes.operands (operands_fit type_of bits holds instruction.operands))
