-- An instruction of a script's program gives as many names as it gives bits.
use Rattle.std.proofs.Common.{◌≡◌, ◌⊎◌, inl, inr, ℕ, zero, suc, if◌then◌else◌, Bool, true, false, List, [], ◌∷◌, ◌++◌, length, fold, slice_get, Option, Some, None, refl, sym, ◌∙◌, ap, subst}
use Rattle.std.specs.Prelude.{IsTrue, ◌==◌, ◌&&◌, ◌%◌, not}
use Rattle.std.specs.List.{AllByRecursion}
use Rattle.clif_types.specs.declared.types.«Type».{«Type»}
use Rattle.clif_types.specs.declared.trapcode.TrapCode.{TrapCode}
use Rattle.clif_types.specs.declared.trapcode.TrapCode.TheVariants.{HeapOutOfBounds}
use Rattle.clif_types.specs.Types.{bits_of}
use Rattle.clif_types.specs.declared.extname.ExternalName.{ExternalName}
use Rattle.clif_types.specs.declared.extname.ExternalName.TheVariants.{LibCall}
use Rattle.clif_types.specs.Signature.{SignatureShape}
use Rattle.clif_types.specs.declared.libcall.LibCall.{LibCall as LibraryFunction}
use Rattle.clif_types.specs.declared.libcall.LibCall.TheVariants.{Memcpy, Memmove, Memset, Memcmp}
use Rattle.clif_tables.specs.Callees.{types_of}
use Rattle.clif_meaning.specs.Library.{library_returns, pointer_of}
use Rattle.clif_meaning.proofs.LibraryCalls.{library_cases, runs_as}
use Rattle.clif_meaning.specs.Event.{CallShape, Callee, plain_call}
use Rattle.clif_meaning.specs.Bits.{Bits, AreValues}
use Rattle.clif_meaning.specs.Memory.{Memory, Range}
use Rattle.clif_meaning.specs.Name.{Name, same_name, answer_of}
use Rattle.clif_opcodes.specs.declared.opcodes.FloatConstOpcode.TheVariants.{F16const, F32const, F64const}
use Rattle.clif_types.specs.MemFlags.{MemFlagsShape}
use Rattle.clif_opcodes.specs.declared.opcodes.PooledConstOpcode.TheVariants.{F128const, Vconst}
use Rattle.clif_opcodes.specs.declared.opcodes.StackOpcode.TheVariants.{StackAddr, StackLoad}
use Rattle.clif_meaning.specs.Instruction.{Instruction, Operation, Compute, Load, Store, Stack, StackStore, Trap, CondTrap, Jump, Brif, BrTable, Switch, Bytes, Return, Call, CallIndirect, TryCall, TryCallIndirect, Arithmetic, Iconst, FloatConst, PooledConst, Unary, Binary, Compare, Concat, Split, Convert, Select, AddConstant, CompareConstant}
use Rattle.clif_meaning.specs.Request.{Request, Script}
use Rattle.clif_meaning.specs.Program.{Program, Item, Instruct, Use, Assign, result_types, result_names, answers_from, with_item_at, with_inserted, extended, with_call, empty_program, program_of}
use Rattle.clif_meaning.specs.Ledger.{is_terminator}
use Rattle.clif_meaning.specs.Typing.{call_shape}
use Rattle.clif_meaning.specs.World.{World}
use Rattle.clif_meaning.specs.ByteOperation.{ByteOperation, Copy, Fill, CompareBytes, CallLibrary}
use Rattle.clif_meaning.proofs.ByteOperations.{byte_cases, byte_values}
use Rattle.clif_meaning.specs.Outcome.{Outcome, Gives, Goes, Returns, Traps, Calls, NoStep, access_outcome, no_claim, are_accessible, binary_fault, binary_number, byte_outcome, byte_results, call_outcome, computed, traps_on, low_bits_at, outcome_of_computed, outcome_of, unless_fault}
use Rattle.clif_simulation.proofs.Finished.Matching.{IsPlain, outcome_plain}
use Rattle.clif_simulation.proofs.Redirections.EachRedirected.{all_redirected}
use Rattle.clif_meaning.proofs.Effects.{ProgramEffect, program_effect, Leaves, Inserts, Takes, Switches, Assigns, Uses, Builds, Redirects}

-- an instruction gives the names of its results
abbrev pub GivesResults : Item → Type 0
GivesResults (Instruct place instruction results) = results ≡ result_names place instruction
GivesResults (Use variable name) = Unit {0}
GivesResults (Assign variable name) = Unit {0}

abbrev AllGive : Program → Type 0
AllGive program = (block : Name) → AllByRecursion GivesResults (program.items block)

all_and_one : (items : List Item) (item : Item) → AllByRecursion GivesResults items → GivesResults item → AllByRecursion GivesResults (items ++ item ∷ [])
all_and_one [] item all one = (one, tt)
all_and_one (first ∷ items) item all one = (all.0, all_and_one items item all.1 one)

with_one : (program : Program) (current : Option Name) (item : Item) → AllGive program → GivesResults item → AllGive (with_item_at program current item)
with_one program None item all one block = all block
with_one program (Some current) item all one block = by (same_name block current)
  where
    by : (t : Bool) → AllByRecursion GivesResults (if t then program.items block ++ item ∷ [] else program.items block)
    by true = all_and_one (program.items block) item (all block) one
    by false = all block

with_request : (program : Program) (request : Request) → AllGive program → AllGive (extended program request)
with_request program request all = by (program_effect request)
  where
    by : ProgramEffect request → AllGive (extended program request)
    by (Leaves stays is) = subst AllGive (sym (is program)) all
    by (Inserts stays is) = subst AllGive (sym (is program)) all
    by (Takes block types stays makes is) = subst AllGive (sym (is program)) all
    by (Switches block is) = subst (λ (r : Request). AllGive (extended program r)) (sym is) all
    by (Assigns variable value is) =
        subst (λ (r : Request). AllGive (extended program r)) (sym is) (with_one program program.current (Assign variable value) all tt)
    by (Uses variable is) =
        subst (λ (r : Request). AllGive (extended program r)) (sym is)
        (with_one (with_inserted program) program.current (Use variable (answer_of program.place 0)) all tt)
    by (Builds entries instruction is) =
        subst (λ (r : Request). AllGive (extended program r)) (sym is)
        (with_one (with_inserted program) program.current (Instruct program.place instruction (result_names program.place instruction)) all refl)
    by (Redirects branch from to stays is) = subst AllGive (sym (is program)) (λ block. all_redirected GivesResults GivesResults branch from to (λ item gives. gives) (λ place instruction results gives. gives) (program.items block) (all block))

all_from : (program : Program) (script : Script) → AllGive program → AllGive (fold with_call program script)
all_from program [] all = all
all_from program (request ∷ script) all = all_from (with_call program request) script (with_request program request all)

at_place : (items : List Item) (k : ℕ) (item : Item) → AllByRecursion GivesResults items → slice_get items k ≡ Some item → GivesResults item
at_place [] k item all stands = cc
at_place (first ∷ items) zero item all stands = subst GivesResults (first_is first item stands) all.0
  where
    first_is : (a b : Item) → Some a ≡ Some b → a ≡ b
    first_is a b e = cc
at_place (first ∷ items) (suc k) item all stands = at_place items k item all.1 stands

pub gives_results : (script : Script) (block : Name) (k : ℕ) (item : Item) → slice_get ((program_of script).items block) k ≡ Some item → GivesResults item
gives_results script block k item stands =
    at_place ((program_of script).items block) k item (all_from empty_program script (λ other. tt) block) stands

-- Bits ----------------------------------------------------------------------------------------------------------------------

as_many_names : (place index : ℕ) (types : List «Type») → length (answers_from place index types) ≡ length types
as_many_names place index [] = refl
as_many_names place index (ty ∷ types) = ap suc (as_many_names place (suc index) types)

-- how many bits an outcome gives, if it gives any
abbrev GivesCount : ℕ → Outcome → Type 0
GivesCount count (Gives bits memory) = length bits ≡ count
GivesCount count (Goes edge given memory) = Unit {0}
GivesCount count (Returns bits) = Unit {0}
GivesCount count (Traps reason) = Unit {0}
GivesCount count (Calls callee call arguments) = Unit {0}
GivesCount count NoStep = Unit {0}

one_unless : (fault : Option TrapCode) (bits : Bits) (memory : Memory) → GivesCount 1 (outcome_of_computed (unless_fault fault bits) memory)
one_unless None bits memory = refl
one_unless (Some reason) bits memory = tt

-- how many results arithmetic has
abbrev arithmetic_count : Arithmetic → ℕ
arithmetic_count Split = 2
arithmetic_count _ = 1

counted_arithmetic : (arithmetic : Arithmetic) (ty : «Type») (types : List «Type») (operands : List Bits) (memory : Memory)
    → GivesCount (arithmetic_count arithmetic) (outcome_of_computed (computed arithmetic ty types operands) memory)
counted_arithmetic (Binary opcode) ty types [] memory = tt
counted_arithmetic (Binary opcode) ty types (x ∷ []) memory = tt
counted_arithmetic (Binary opcode) ty types (x ∷ y ∷ []) memory =
    one_unless (binary_fault opcode (bits_of ty) x y) (low_bits_at ty (binary_number opcode (bits_of ty) x y)) memory
counted_arithmetic (Binary opcode) ty types (x ∷ y ∷ z ∷ operands) memory = tt
counted_arithmetic (Iconst number) ty types [] memory = refl
counted_arithmetic (Iconst number) ty types (x ∷ operands) memory = tt
counted_arithmetic (FloatConst opcode bits) ty types [] memory = refl
counted_arithmetic (FloatConst opcode bits) ty types (x ∷ operands) memory = tt
counted_arithmetic (PooledConst opcode bytes) ty types [] memory = refl
counted_arithmetic (PooledConst opcode bytes) ty types (x ∷ operands) memory = tt
counted_arithmetic (Unary opcode) ty types [] memory = tt
counted_arithmetic (Unary opcode) ty types (x ∷ []) memory = refl
counted_arithmetic (Unary opcode) ty types (x ∷ y ∷ operands) memory = tt
counted_arithmetic (Compare condition) ty types [] memory = tt
counted_arithmetic (Compare condition) ty types (x ∷ []) memory = tt
counted_arithmetic (Compare condition) ty types (x ∷ y ∷ []) memory = refl
counted_arithmetic (Compare condition) ty types (x ∷ y ∷ z ∷ operands) memory = tt
counted_arithmetic Concat ty types [] memory = tt
counted_arithmetic Concat ty types (x ∷ []) memory = tt
counted_arithmetic Concat ty types (x ∷ y ∷ []) memory = refl
counted_arithmetic Concat ty types (x ∷ y ∷ z ∷ operands) memory = tt
counted_arithmetic Split ty types [] memory = tt
counted_arithmetic Split ty types (x ∷ []) memory = refl
counted_arithmetic Split ty types (x ∷ y ∷ operands) memory = tt
counted_arithmetic (AddConstant number) ty types [] memory = tt
counted_arithmetic (AddConstant number) ty types (x ∷ []) memory = refl
counted_arithmetic (AddConstant number) ty types (x ∷ y ∷ operands) memory = tt
counted_arithmetic (CompareConstant condition number) ty types [] memory = tt
counted_arithmetic (CompareConstant condition number) ty types (x ∷ []) memory = refl
counted_arithmetic (CompareConstant condition number) ty types (x ∷ y ∷ operands) memory = tt
counted_arithmetic (Convert opcode) ty types [] memory = tt
counted_arithmetic (Convert opcode) ty types (x ∷ []) memory = refl
counted_arithmetic (Convert opcode) ty types (x ∷ y ∷ operands) memory = tt
counted_arithmetic Select ty types [] memory = tt
counted_arithmetic Select ty types (c ∷ []) memory = tt
counted_arithmetic Select ty types (c ∷ x ∷ []) memory = tt
counted_arithmetic Select ty types (c ∷ x ∷ y ∷ []) memory = refl
counted_arithmetic Select ty types (c ∷ x ∷ y ∷ z ∷ operands) memory = tt

as_many_types : (arithmetic : Arithmetic) (ty : «Type») → length (result_types (Compute arithmetic) ty) ≡ arithmetic_count arithmetic
as_many_types (FloatConst F16const bits) ty = refl
as_many_types (FloatConst F32const bits) ty = refl
as_many_types (FloatConst F64const bits) ty = refl
as_many_types (PooledConst F128const bytes) ty = refl
as_many_types (PooledConst Vconst bytes) ty = refl
as_many_types _ ty = refl

counted_access : (count : ℕ) (world : World) (flags : MemFlagsShape) (range : Range) (outcome : Outcome) → GivesCount count outcome
    → GivesCount count (access_outcome world flags range outcome)
counted_access count world flags range outcome counts =
    by (flags.aligned && not (range.start % range.size == 0)) (are_accessible world range range.size) flags.notrap
  where
    by : (misaligned accessible notrap : Bool) → GivesCount count (if misaligned then NoStep else (if accessible then outcome else (if notrap then NoStep else Traps HeapOutOfBounds)))
    by true accessible notrap = tt
    by false true notrap = counts
    by false false true = tt
    by false false false = tt

counted_trap : (traps : Bool) (reason : TrapCode) (memory : Memory) → GivesCount 0 (if traps then Traps reason else Gives [] memory)
counted_trap true reason memory = tt
counted_trap false reason memory = refl

-- An outside call gives nothing by itself. A function of the C library gives one value, and a try call passes it on.
one_given : (pointer : «Type») (callee : LibraryFunction) → length (library_returns pointer callee) ≡ 1
one_given pointer Memcpy = refl
one_given pointer Memmove = refl
one_given pointer Memset = refl
one_given pointer Memcmp = refl

counted_call : (world : World) (name : ExternalName) (signature : SignatureShape) (arguments : List Bits) (memory : Memory)
    → GivesCount (length (types_of signature.returns)) (call_outcome world Gives name (plain_call signature) arguments memory)
counted_call world (LibCall callee) signature arguments memory =
    library_cases (λ (xs : List Bits) (o : Outcome). GivesCount (length (types_of signature.returns)) o) world Gives callee signature arguments memory (λ xs. tt)
    (λ first second size runs.
    sym (ap (λ (types : List «Type»). length types) (runs_as world callee signature first second size runs).returns ∙ one_given (pointer_of world.pointer_width) callee))
counted_call world _ signature arguments memory = tt

counted_try_call : (world : World) (name : ExternalName) (call : CallShape) (arguments : List Bits) (memory : Memory)
    → GivesCount 0 (call_outcome world (Goes 0) name call arguments memory)
counted_try_call world (LibCall callee) call arguments memory =
    library_cases (λ (xs : List Bits) (o : Outcome). GivesCount 0 o) world (Goes 0) callee call.signature arguments memory (λ xs. tt) (λ first second size runs. tt)
counted_try_call world _ call arguments memory = tt

-- values of some types are as many as these
pub as_many_values : (types : List «Type») (values : List Bits) → AreValues types values → length values ≡ length types
as_many_values [] [] are = refl
as_many_values [] (bits ∷ values) are = absurd are
as_many_values (ty ∷ types) [] are = absurd are
as_many_values (ty ∷ types) (bits ∷ values) are = ap suc (as_many_values types values are.1)

-- an operation on bytes
counted_bytes : (world : World) (operation : ByteOperation) (ty : «Type») (operands : List Bits) (memory : Memory)
    → GivesCount (length (result_types (Bytes operation) ty)) (byte_outcome world operation (bits_of ty) operands memory)
counted_bytes world operation ty operands memory =
    byte_cases (GivesCount (length (result_types (Bytes operation) ty))) world operation (bits_of ty) operands memory tt
    (λ in_order. as_many_values (result_types (Bytes operation) ty) (byte_results world operation (bits_of ty) operands memory)
    (byte_values world operation ty (bits_of ty) operands memory in_order))

counted_outcome : (world : World) (operation : Operation) (ty : «Type») (types : List «Type») (operands : List Bits) (memory : Memory)
    → GivesCount (length (result_types operation ty)) (outcome_of world operation ty types operands memory)
counted_outcome world (Compute arithmetic) ty types operands memory =
    subst (λ (n : ℕ). GivesCount n (outcome_of_computed (computed arithmetic ty types operands) memory)) (sym (as_many_types arithmetic ty))
    (counted_arithmetic arithmetic ty types operands memory)
counted_outcome world (Load flags offset) ty types [] memory = tt
counted_outcome world (Load flags offset) ty types (address ∷ []) memory = counted_access 1 world flags _ (Gives (_ ∷ []) memory) refl
counted_outcome world (Load flags offset) ty types (address ∷ x ∷ operands) memory = tt
counted_outcome world (Store flags offset) ty types [] memory = tt
counted_outcome world (Store flags offset) ty types (stored ∷ []) memory = tt
counted_outcome world (Store flags offset) ty types (stored ∷ address ∷ []) memory = counted_access 0 world flags _ (Gives [] _) refl
counted_outcome world (Store flags offset) ty types (stored ∷ address ∷ x ∷ operands) memory = tt
counted_outcome world (Stack StackAddr slot offset) ty types [] memory = refl
counted_outcome world (Stack StackAddr slot offset) ty types (x ∷ operands) memory = tt
counted_outcome world (Stack StackLoad slot offset) ty types [] memory = counted_access 1 world no_claim _ (Gives (_ ∷ []) memory) refl
counted_outcome world (Stack StackLoad slot offset) ty types (x ∷ operands) memory = tt
counted_outcome world (StackStore slot offset) ty types [] memory = tt
counted_outcome world (StackStore slot offset) ty types (stored ∷ []) memory = counted_access 0 world no_claim _ (Gives [] _) refl
counted_outcome world (StackStore slot offset) ty types (stored ∷ x ∷ operands) memory = tt
counted_outcome world (Trap reason) ty types [] memory = tt
counted_outcome world (Trap reason) ty types (x ∷ operands) memory = tt
counted_outcome world (CondTrap opcode reason) ty types [] memory = tt
counted_outcome world (CondTrap opcode reason) ty types (condition ∷ []) memory = counted_trap (traps_on opcode condition) reason memory
counted_outcome world (CondTrap opcode reason) ty types (condition ∷ x ∷ operands) memory = tt
counted_outcome world Jump ty types [] memory = tt
counted_outcome world Jump ty types (x ∷ operands) memory = tt
counted_outcome world Brif ty types [] memory = tt
counted_outcome world Brif ty types (x ∷ []) memory = tt
counted_outcome world Brif ty types (x ∷ y ∷ operands) memory = tt
counted_outcome world (BrTable entries) ty types [] memory = tt
counted_outcome world (BrTable entries) ty types (x ∷ []) memory = tt
counted_outcome world (BrTable entries) ty types (x ∷ y ∷ operands) memory = tt
counted_outcome world (Switch keys) ty types [] memory = tt
counted_outcome world (Switch keys) ty types (x ∷ []) memory = tt
counted_outcome world (Switch keys) ty types (x ∷ y ∷ operands) memory = tt
counted_outcome world (Bytes operation) ty types operands memory = counted_bytes world operation ty operands memory
counted_outcome world Return ty types operands memory = tt
counted_outcome world (Call name signature) ty types operands memory = counted_call world name signature operands memory
counted_outcome world (CallIndirect signature) ty types [] memory = tt
counted_outcome world (CallIndirect signature) ty types (address ∷ operands) memory = tt
counted_outcome world (TryCall name call) ty types operands memory = counted_try_call world name call operands memory
counted_outcome world (TryCallIndirect call) ty types [] memory = tt
counted_outcome world (TryCallIndirect call) ty types (address ∷ operands) memory = tt

-- an instruction that gives bits gives one for each name
pub as_many : (world : World) (place : ℕ) (instruction : Instruction Name Name) (results : List Name) → results ≡ result_names place instruction
    → (types : List «Type») (operands : List Bits) (memory after : Memory) (bits : List Bits)
    → outcome_of world instruction.operation instruction.controlling types operands memory ≡ Gives bits after → length bits ≡ length results
as_many world place instruction results named types operands memory after bits is =
    subst (λ (o : Outcome). GivesCount (length (result_types instruction.operation instruction.controlling)) o) is
    (counted_outcome world instruction.operation instruction.controlling types operands memory)
    ∙ sym (as_many_names place 1 (result_types instruction.operation instruction.controlling)) ∙ ap length (sym named)

-- OUTSIDE CALLS -----------------------------------------------------------------------------------------------------------

-- a call that is made returns as much as there are results, or there are none
abbrev CallsCount : List «Type» → Outcome → Type 0
CallsCount types (Gives bits memory) = Unit {0}
CallsCount types (Goes edge given memory) = Unit {0}
CallsCount types (Returns bits) = Unit {0}
CallsCount types (Traps reason) = Unit {0}
CallsCount types (Calls callee call arguments) = (length (types_of call.signature.returns) ≡ length types) ⊎ (types ≡ [])
CallsCount types NoStep = Unit {0}

plain_count : (types : List «Type») (o : Outcome) → IsPlain o → CallsCount types o
plain_count types (Gives bits memory) plain = tt
plain_count types (Goes edge given memory) plain = tt
plain_count types (Returns bits) plain = tt
plain_count types (Traps reason) plain = tt
plain_count types (Calls callee call arguments) plain = absurd plain
plain_count types NoStep plain = tt

-- a function of the C library is no outside call, however its call goes on
named_count : (world : World) (goes_on : List Bits → Memory → Outcome) (types : List «Type») (name : ExternalName) (call : CallShape) (arguments : List Bits) (memory : Memory)
    → ((bits : List Bits) (after : Memory) → CallsCount types (goes_on bits after))
    → (length (types_of call.signature.returns) ≡ length types) ⊎ (types ≡ []) → CallsCount types (call_outcome world goes_on name call arguments memory)
named_count world goes_on types (LibCall callee) call arguments memory goes count =
    library_cases (λ (xs : List Bits) (o : Outcome). CallsCount types o) world goes_on callee call.signature arguments memory (λ xs. tt) (λ first second size runs. goes _ _)
named_count world goes_on types _ call arguments memory goes count = count

no_call_counts : (world : World) (operation : Operation) → call_shape operation ≡ None → (ty : «Type») (types : List «Type») (operands : List Bits) (memory : Memory)
    → CallsCount (result_types operation ty) (outcome_of world operation ty types operands memory)
no_call_counts world operation no_call ty types operands memory =
    plain_count (result_types operation ty) (outcome_of world operation ty types operands memory) (outcome_plain world operation no_call ty types operands memory)

calls_count : (world : World) (operation : Operation) (ty : «Type») (types : List «Type») (operands : List Bits) (memory : Memory)
    → CallsCount (result_types operation ty) (outcome_of world operation ty types operands memory)
calls_count world (Call name signature) ty types operands memory =
    named_count world Gives (types_of signature.returns) name (plain_call signature) operands memory (λ bits after. tt) (inl refl)
calls_count world (CallIndirect signature) ty types [] memory = tt
calls_count world (CallIndirect signature) ty types (address ∷ operands) memory = inl refl
calls_count world (TryCall name call) ty types operands memory = named_count world (Goes 0) [] name call operands memory (λ bits after. tt) (inr refl)
calls_count world (TryCallIndirect call) ty types [] memory = tt
calls_count world (TryCallIndirect call) ty types (address ∷ operands) memory = inr refl
calls_count world (Compute arithmetic) ty types operands memory = no_call_counts world (Compute arithmetic) refl ty types operands memory
calls_count world (Load flags offset) ty types operands memory = no_call_counts world (Load flags offset) refl ty types operands memory
calls_count world (Store flags offset) ty types operands memory = no_call_counts world (Store flags offset) refl ty types operands memory
calls_count world (Stack name slot offset) ty types operands memory = no_call_counts world (Stack name slot offset) refl ty types operands memory
calls_count world (StackStore slot offset) ty types operands memory = no_call_counts world (StackStore slot offset) refl ty types operands memory
calls_count world (Trap reason) ty types operands memory = no_call_counts world (Trap reason) refl ty types operands memory
calls_count world (CondTrap name reason) ty types operands memory = no_call_counts world (CondTrap name reason) refl ty types operands memory
calls_count world (Jump) ty types operands memory = no_call_counts world (Jump) refl ty types operands memory
calls_count world (Brif) ty types operands memory = no_call_counts world (Brif) refl ty types operands memory
calls_count world (BrTable entries) ty types operands memory = no_call_counts world (BrTable entries) refl ty types operands memory
calls_count world (Switch keys) ty types operands memory = no_call_counts world (Switch keys) refl ty types operands memory
calls_count world (Bytes operation) ty types operands memory = no_call_counts world (Bytes operation) refl ty types operands memory
calls_count world (Return) ty types operands memory = no_call_counts world (Return) refl ty types operands memory

pub call_count : (world : World) (place : ℕ) (instruction : Instruction Name Name) (results : List Name) → results ≡ result_names place instruction
    → (types : List «Type») (operands : List Bits) (memory : Memory) (callee : Callee) (call : CallShape) (arguments : List Bits)
    → outcome_of world instruction.operation instruction.controlling types operands memory ≡ Calls callee call arguments
    → (length (types_of call.signature.returns) ≡ length results) ⊎ (results ≡ [])
call_count world place instruction results named types operands memory callee call arguments is =
    by (subst (CallsCount (result_types instruction.operation instruction.controlling)) is
    (calls_count world instruction.operation instruction.controlling types operands memory))
  where
    by : (length (types_of call.signature.returns) ≡ length (result_types instruction.operation instruction.controlling))
        ⊎ (result_types instruction.operation instruction.controlling ≡ [])
        → (length (types_of call.signature.returns) ≡ length results) ⊎ (results ≡ [])
    by (inl count) = inl (count ∙ sym (as_many_names place 1 (result_types instruction.operation instruction.controlling)) ∙ ap length (sym named))
    by (inr none) = inr (named ∙ ap (answers_from place 1) none)

-- an instruction that ends its block gives nothing
pub terminator_gives_none : (place : ℕ) (instruction : Instruction Name Name) → IsTrue (is_terminator instruction.operation) → result_names place instruction ≡ []
terminator_gives_none place instruction ends = ap (answers_from place 1) (none instruction.operation ends)
  where
    none : (operation : Operation) → IsTrue (is_terminator operation) → result_types operation instruction.controlling ≡ []
    none (Compute (FloatConst F16const bits)) ends = cc
    none (Compute (FloatConst F32const bits)) ends = cc
    none (Compute (FloatConst F64const bits)) ends = cc
    none (Compute (PooledConst F128const bytes)) ends = cc
    none (Compute (PooledConst Vconst bytes)) ends = cc
    none (Compute _) ends = cc
    none (Load flags offset) ends = cc
    none (Store flags offset) ends = refl
    none (Stack StackAddr slot offset) ends = cc
    none (Stack StackLoad slot offset) ends = cc
    none (StackStore slot offset) ends = refl
    none (Trap reason) ends = refl
    none (CondTrap opcode reason) ends = refl
    none Jump ends = refl
    none Brif ends = refl
    none (BrTable entries) ends = refl
    none (Switch keys) ends = refl
    none (Bytes (Copy copy)) ends = cc
    none (Bytes (Fill fill)) ends = cc
    none (Bytes (CompareBytes compare)) ends = cc
    none (Bytes (CallLibrary Memcpy)) ends = cc
    none (Bytes (CallLibrary Memmove)) ends = cc
    none (Bytes (CallLibrary Memset)) ends = cc
    none (Bytes (CallLibrary Memcmp)) ends = cc
    none Return ends = refl
    none (Call name signature) ends = cc
    none (CallIndirect signature) ends = cc
    none (TryCall name call) ends = refl
    none (TryCallIndirect call) ends = refl
