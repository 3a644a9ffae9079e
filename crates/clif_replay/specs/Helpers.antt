-- The memory helper that a call of a script makes: its operation, its operands, and what it is in the script's language. After the
-- documentation of Cranelift's memory helpers.
use Rattle.std.specs.Prelude.{◌≡◌, ◌<◌, ◌&&◌, ◌==◌, ℕ, Bool, true, false, List, [], ◌∷◌, length, map, if◌then◌else◌, Some}
use Rattle.std.specs.Int.NonZero.{non_zero_u8_get}
use Rattle.clif_types.specs.declared.libcall.LibCall.TheVariants.{Memset}
use Rattle.clif_types.specs.declared.target.PointerWidth.{PointerWidth}
use Rattle.clif_types.specs.declared.target.TargetFrontendConfig.{TargetFrontendConfig}
use Rattle.clif_ir.specs.Body.{Body, value_at}
use Rattle.clif_meaning.specs.ByteOperation.{ByteOperation, CallLibrary, CompareBytes, Copy, Fill}
use Rattle.clif_meaning.specs.Ledger.{Answered, Ledger}
use Rattle.clif_meaning.specs.Name.{Name}
use Rattle.clif_meaning.specs.Request.{Annotate, Request}
use Rattle.clif_meaning.specs.SameType.{same_type}
use Rattle.clif_expansion.specs.Emission.{AreGenerated, AreGiven, LastResults}
use Rattle.clif_expansion.specs.ScriptCall.{Ask, Emit, ScriptCall}
use Rattle.clif_helper_calls.specs.LibraryCodes.{i8}
use Rattle.clif_builder.specs.declared.builder.FunctionBuilder.{FunctionBuilder}
use Rattle.clif_memory_helpers.specs.HelperLines.{emission_of, has_64, imports_for}
use Rattle.clif_memory_helpers.specs.Helpers.{comparing, copying, filling_with, may_make}
use Rattle.clif_calls.specs.declared.call.Name as named
use Rattle.clif_calls.specs.declared.memory.MemoryCall.{MemoryCall}
use Rattle.clif_calls.specs.declared.memory.MemoryCall.TheVariants as memory
use Rattle.clif_resolution.specs.Answers.{value_of}
use Rattle.clif_resolution.specs.Conditions.{is_open}
use Rattle.clif_resolution.specs.declared.answers.Answer.{Answer}

abbrev pub operation_in : MemoryCall → ByteOperation
operation_in (memory.CallLibrary callee first second size) = CallLibrary callee
operation_in (memory.Copy dest src size dest_align src_align non_overlapping flags) = copying size dest_align src_align non_overlapping flags
operation_in (memory.Fill buffer ch size buffer_align flags) = filling_with ch size buffer_align flags
operation_in (memory.Compare int_cc left right size left_align right_align flags) =
    comparing int_cc size (non_zero_u8_get left_align) (non_zero_u8_get right_align) flags

-- the names of its operands
abbrev pub operands_in : MemoryCall → List named.Name
operands_in (memory.CallLibrary callee first second size) = first ∷ second ∷ size ∷ []
operands_in (memory.Copy dest src size dest_align src_align non_overlapping flags) = dest ∷ src ∷ []
operands_in (memory.Fill buffer ch size buffer_align flags) = buffer ∷ []
operands_in (memory.Compare int_cc left right size left_align right_align flags) = left ∷ right ∷ []

-- a copy or a fill of no bytes
abbrev pub moves_nothing : ByteOperation → Bool
moves_nothing (Copy copy) = copy.size == 0
moves_nothing (Fill fill) = fill.size == 0
moves_nothing _ = false

-- With names so known: such a copy or fill asks for a current block and for its operands, and does nothing.
abbrev pub nothing_moved : (named.Name → Name) → MemoryCall → Request
nothing_moved naming called = Annotate true (map naming (operands_in called))

-- each other helper is emitted, and imports what its function of the C library needs, if it calls one
abbrev pub helper_under : TargetFrontendConfig → (named.Name → Name) → Ledger → MemoryCall → ScriptCall
helper_under config naming ledger called =
    Emit (imports_for config (operation_in called) ledger.tables) (emission_of config (operation_in called) (map naming (operands_in called)))

-- the call of the script
abbrev pub memory_under : TargetFrontendConfig → (named.Name → Name) → Ledger → MemoryCall → ScriptCall
memory_under config naming ledger called =
    if moves_nothing (operation_in called) then Ask (nothing_moved naming called) else helper_under config naming ledger called

-- ON A BUILDER ------------------------------------------------------------------------------------------------------------

-- sizes have 64 bits, and a byte is a number of 8 bits
abbrev pub IsSized : ByteOperation → Type 0
IsSized (Copy copy) = has_64 copy.size
IsSized (Fill fill) = has_64 fill.size × (fill.byte < 256)
IsSized (CompareBytes compared) = has_64 compared.size
IsSized (CallLibrary callee) = Unit {0}

-- some name leads to the value
abbrev pub IsNamed : Body → List Answer → (value : ℕ) → Type 0
IsNamed f answers value = (name : named.Name) × (value_of f answers name ≡ Some value)

-- the value may be the second operand: of `Memset` an I8
abbrev pub may_be_second : {R : Type 0} → FunctionBuilder R → ByteOperation → (value : ℕ) → Bool
may_be_second b (CallLibrary Memset) value = same_type (value_at b.func.now value).ty i8
may_be_second b _ value = true

-- a helper may be made, in a current block whose terminator wasn't appended
abbrev pub can_help : {R : Type 0} → FunctionBuilder R → PointerWidth → ByteOperation → (second : ℕ) → Bool
can_help b width operation second = is_open b && may_be_second b operation second && may_make width operation

-- which of the last call's answers is the helper's first one: the result behind the instruction's number, or none, behind all
abbrev pub first_answer : LastResults → List Answered → ℕ
first_answer AreGiven given = 1
first_answer AreGenerated given = length given
