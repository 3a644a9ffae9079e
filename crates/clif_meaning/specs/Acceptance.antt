-- Which calls a script may make, and which of them are refused. A call outside its condition is a misuse. After the
-- documentation of Cranelift's `FunctionBuilder`.
use Rattle.std.specs.Prelude.{ℕ, suc, not, ◌-◌, ◌==◌, ◌&&◌, ◌||◌, if◌then◌else◌, Bool, true, false, List, [], ◌∷◌, ◌++◌, Option, Some, None, is_some, unwrap_or, find, length, map, nat_lt, ℤ}
use Rattle.std.specs.List.{list_all, list_any}
use Rattle.clif_opcodes.specs.declared.opcodes.UnaryOpcode.{UnaryOpcode}
use Rattle.clif_opcodes.specs.declared.opcodes.BinaryOpcode.{BinaryOpcode}
use Rattle.clif_opcodes.specs.declared.opcodes.ConvertOpcode.{ConvertOpcode}
use Rattle.clif_opcodes.specs.declared.opcodes.CondTrapOpcode.{CondTrapOpcode}
use Rattle.clif_opcodes.specs.declared.opcodes.FloatConstOpcode.{FloatConstOpcode}
use Rattle.clif_opcodes.specs.declared.opcodes.PooledConstOpcode.{PooledConstOpcode}
use Rattle.clif_opcodes.specs.declared.opcodes.PooledConstOpcode.TheVariants.{F128const, Vconst}
use Rattle.clif_opcodes.specs.declared.opcodes.StackOpcode.{StackOpcode}
use Rattle.clif_instructions.specs.Instruction.{EntryRef, ASlot, AConstant, ASignatureRef, AFunctionRef}
use Rattle.clif_opcodes.specs.declared.kinds.Demand.TheVariants.{ADoubled, AHalved, AVector}
use Rattle.clif_opcodes.specs.Kinds.{is_met}
use Rattle.clif_opcodes.specs.Typing.{convert_demand}
use Rattle.clif_types.specs.declared.condcodes.IntCC.{IntCC}
use Rattle.clif_types.specs.declared.trapcode.TrapCode.{TrapCode}
use Rattle.clif_types.specs.declared.types.«Type».{«Type»}
use Rattle.clif_types.specs.declared.types.«Type».TheVariants as type
use Rattle.clif_types.specs.MemFlags.{MemFlagsShape}
use Rattle.clif_types.specs.Types.{bytes_of, is_int, is_type}
use Rattle.clif_tables.specs.Callees.{function_at, signature_at}
use Rattle.clif_tables.specs.Entries.{TableEntry, AStackSlot, AFunction}
use Rattle.clif_tables.specs.Lists.{TableLists}
use Rattle.clif_meaning.specs.Event.{CallShape}
use Rattle.clif_meaning.specs.SameType.{same_type}
use Rattle.clif_meaning.specs.Instruction.{Iconst, FloatConst, PooledConst, Unary, Binary, Compare, Concat, Split, Convert, Select, AddConstant, CompareConstant, Operation, operation_entries, Instruction, Compute, Load, Store, Stack, StackStore, Trap, CondTrap, Jump, Brif, BrTable, Switch, Bytes, Return, Call, CallIndirect, TryCall, TryCallIndirect, Argument, Known, CallResult, CallPayload, Edge}
use Rattle.clif_meaning.specs.Name.{Name}
use Rattle.clif_meaning.specs.Request.{Request, CreateBlock, SwitchToBlock, SealBlock, SealAllBlocks, InsertBlockAfter, SetColdBlock, EnsureInsertedBlock, AppendBlockParams, AppendFunctionParams, DeclareVar, DefVar, UseVar, MakeEntry, MakeEdge, MakeJumpTable, MakeExceptionTable, Annotate, StackMapNeed, OfVariable, OfValue, NeedStackMap, GivenEntry, ServedBy, TriedBy, Imported, TableItem, TagTo, DefaultTo, InContext, Build, ChangeJumpDestination, Finalize, Script, Attempt, outright}
use Rattle.clif_meaning.specs.Ledger.{BlockState, VariableState, ExceptionTable, Ledger, variable_state, empty_ledger, unserved_exceptions, type_of, or_invalid, has_value, has_block, has_instruction, leads_to, edge_named, unserved_edges, is_filled, is_sealed, is_inserted, is_pristine, has_predecessors, is_unreachable, variable_type, ledger_with}

-- there is a current block, and it isn't filled
abbrev pub is_open : Ledger → Option Name → Bool
is_open ledger None = false
is_open ledger (Some block) = not (is_filled ledger block)

-- there is no current block, or it can be left: nothing leads to it, nothing is in it, or it is filled
abbrev pub can_leave : Ledger → Option Name → Bool
can_leave ledger None = true
can_leave ledger (Some block) = is_unreachable ledger block || is_pristine ledger block || is_filled ledger block

-- a value of the variable's type
abbrev pub can_assign : Option «Type» → Option «Type» → Bool
can_assign (Some ty) (Some other) = same_type ty other
can_assign _ _ = false

-- an operand of an edge is there
abbrev pub has_argument : Ledger → Argument Name → Bool
has_argument ledger (Known value) = has_value ledger value
has_argument ledger (CallResult index) = true
has_argument ledger (CallPayload index) = true

-- an edge leads to a block that isn't sealed, and passes what is there
abbrev pub can_lead : Ledger → Edge Name Name → Bool
can_lead ledger edge = has_block ledger edge.target && not (is_sealed ledger edge.target) && list_all (has_argument ledger) edge.arguments

-- a pooled constant has as many bytes as its type
abbrev pub has_bytes : PooledConstOpcode → «Type» → List ℕ → Bool
has_bytes F128const ty bytes = length bytes == 16
has_bytes Vconst ty bytes = is_met AVector ty && (length bytes == bytes_of ty)

-- What an operation asks beside its operands: the table of operations. What only scripts have isn't built as an instruction.
abbrev pub can_operate : Operation → «Type» → Bool
can_operate (Compute (Iconst number)) ty = is_int ty
can_operate (Compute (PooledConst opcode bytes)) ty = has_bytes opcode ty bytes
can_operate (Compute (Convert opcode)) ty = is_met (convert_demand opcode) ty
can_operate (Compute Concat) ty = is_met ADoubled ty
can_operate (Compute Split) ty = is_met AHalved ty
can_operate (Compute (AddConstant number)) ty = false
can_operate (Compute (CompareConstant condition number)) ty = false
can_operate (Switch keys) ty = false
can_operate (Bytes operation) ty = false
can_operate (Load flags offset) ty = is_type ty
can_operate (Stack opcode slot offset) ty = is_type ty
can_operate _ ty = true

-- an entry that an operation names was made
abbrev pub has_entry : TableLists → EntryRef → Bool
has_entry tables (ASlot number) = nat_lt number (length tables.stack_slots)
has_entry tables (AConstant number) = nat_lt number (length tables.constants)
has_entry tables (ASignatureRef number) = nat_lt number (length tables.signatures)
has_entry tables (AFunctionRef number) = nat_lt number (length tables.functions)

-- an entry may be given to an instruction: it was made, and a jump table or an exception table serves none so far
abbrev pub may_give : Ledger → GivenEntry → Bool
may_give ledger (ServedBy table) = is_some (unserved_edges ledger table)
may_give ledger (TriedBy table) = is_some (unserved_exceptions ledger table)
may_give ledger (Imported entry) = has_entry ledger.tables entry

-- both are one jump table, or one exception table
abbrev pub same_table : GivenEntry → GivenEntry → Bool
same_table (ServedBy table) (ServedBy other) = table == other
same_table (TriedBy table) (TriedBy other) = table == other
same_table _ _ = false

-- no table is given twice, as it would serve twice; other entries may be
abbrev pub tables_differ : List GivenEntry → Bool
tables_differ [] = true
tables_differ (entry ∷ entries) = not (list_any (same_table entry) entries) && tables_differ entries

-- the entries may be given to one instruction: the tables among them differ, and each entry may be given
abbrev pub may_give_all : Ledger → List GivenEntry → Bool
may_give_all ledger entries = tables_differ entries && list_all (may_give ledger) entries

-- an item of an exception table names an edge that was made, or a value
abbrev pub has_item : Ledger → TableItem → Bool
has_item ledger (TagTo tag edge) = is_some (edge_named ledger edge)
has_item ledger (DefaultTo edge) = is_some (edge_named ledger edge)
has_item ledger (InContext value) = has_value ledger value

-- an entry may be made: a stack slot is aligned to at most 2^31 bytes, and the signature of a function was imported
abbrev pub can_make : TableLists → TableEntry → Bool
can_make tables (AStackSlot slot) = nat_lt slot.align_shift 32
can_make tables (AFunction function) = nat_lt function.signature (length tables.signatures)
can_make tables _ = true

-- a stack map has room for a value of this type: it has 1 to 16 bytes
abbrev pub fits_stack_map : «Type» → Bool
fits_stack_map ty = nat_lt 0 (bytes_of ty) && nat_lt (bytes_of ty) 17

-- the variable was declared, was neither used nor assigned so far, and its type fits
abbrev pub may_mark : Option VariableState → Bool
may_mark None = false
may_mark (Some state) = fits_stack_map state.ty && not state.is_touched

-- stack maps may be asked for this
abbrev pub may_need : Ledger → StackMapNeed → Bool
may_need ledger (OfVariable variable) = may_mark (variable_state ledger variable)
may_need ledger (OfValue value) = has_value ledger value && fits_stack_map (or_invalid (type_of ledger value))

-- The condition of each kind of call.
abbrev pub allows : Ledger → Request → Bool
allows ledger CreateBlock = true
allows ledger (SwitchToBlock block) = has_block ledger block && not (is_filled ledger block) && can_leave ledger ledger.current
allows ledger (SealBlock block) = has_block ledger block && not (is_sealed ledger block)
allows ledger SealAllBlocks = true
allows ledger (InsertBlockAfter block after) = has_block ledger block && not (is_inserted ledger block) && is_inserted ledger after
allows ledger (SetColdBlock block) = has_block ledger block
allows ledger EnsureInsertedBlock = is_open ledger ledger.current
allows ledger (AppendBlockParams block types) = is_pristine ledger block
allows ledger (AppendFunctionParams block types) = is_pristine ledger block && not (has_predecessors ledger block)
allows ledger (DeclareVar ty) = is_type ty
allows ledger (DefVar variable value) = is_open ledger ledger.current && can_assign (variable_type ledger variable) (type_of ledger value)
allows ledger (UseVar variable) = is_open ledger ledger.current && is_some (variable_type ledger variable)
allows ledger (MakeEntry entry) = can_make ledger.tables entry
allows ledger (MakeEdge edge) = has_block ledger edge.target && list_all (has_argument ledger) edge.arguments
allows ledger (MakeJumpTable default entries) = list_all (λ name. is_some (edge_named ledger name)) (default ∷ entries)
allows ledger (MakeExceptionTable signature normal items) =
    is_some (edge_named ledger normal) && list_all (has_item ledger) items && has_entry ledger.tables (ASignatureRef signature)
allows ledger (Annotate inside values) = (if inside then is_open ledger ledger.current else true) && list_all (has_value ledger) values
allows ledger (NeedStackMap need) = may_need ledger need
allows ledger (Build entries instruction) =
    list_all (has_value ledger) instruction.contexts && may_give_all ledger entries
    && is_open ledger ledger.current && list_all (has_value ledger) instruction.operands && list_all (can_lead ledger) instruction.edges
    && can_operate instruction.operation instruction.controlling && list_all (has_entry ledger.tables) (operation_entries instruction.operation)
allows ledger (ChangeJumpDestination branch from to) =
    has_instruction ledger branch && leads_to ledger branch from && not (is_sealed ledger from) && has_block ledger to && not (is_sealed ledger to)
allows ledger Finalize = true

-- why a call that may be made is refused
pub data Refusal : Type 0 where
  Unsealed : (block : Name) → Refusal
  Unfilled : (block : Name) → Refusal

-- something was made in the block, and it isn't sealed, or not filled
abbrev pub is_unfinished : BlockState → Bool
is_unfinished state = not state.is_pristine && not (state.is_sealed && state.is_filled)

abbrev pub unfinished : Option BlockState → Option Refusal
unfinished None = None
unfinished (Some state) = Some (if state.is_sealed then Unfilled state.block else Unsealed state.block)

-- What each kind of call is refused for. `finalize` names the first block, in the order of creation, that isn't
-- finished.
abbrev pub refusal_of : Ledger → Request → Option Refusal
refusal_of ledger Finalize = unfinished (find is_unfinished ledger.blocks)
refusal_of ledger _ = None

-- The variable of a request is to blame that isn't allowed: it isn't declared, or has another type than the value. All
-- else that the request asks is there.
abbrev pub blames_variable : Ledger → Request → Bool
blames_variable ledger (UseVar variable) = is_open ledger ledger.current && not (is_some (variable_type ledger variable))
blames_variable ledger (DefVar variable value) =
    is_open ledger ledger.current && has_value ledger value && not (can_assign (variable_type ledger variable) (type_of ledger value))
blames_variable ledger _ = false

-- a call that isn't allowed is refused, and no misuse
abbrev pub is_refused : Ledger → Attempt → Bool
is_refused ledger attempt = attempt.is_tried && blames_variable ledger attempt.request

-- what comes of a script, memory and full tables aside
pub data Verdict : Type 0 where
  Accepted : Verdict
  Misuse : (place : ℕ) → Verdict
  Refused : (place : ℕ) → Verdict

-- A misuse goes before a refusal, and the first call that is either decides.
abbrev pub verdict_from : ℕ → Ledger → List Attempt → Verdict
verdict_from place ledger [] = Accepted
verdict_from place ledger (attempt ∷ attempts) =
    if not (allows ledger attempt.request) then (if is_refused ledger attempt then Refused place else Misuse place)
    else (if is_some (refusal_of ledger attempt.request) then Refused place
    else verdict_from (suc place) (ledger_with ledger attempt.request) attempts)

-- the verdict on calls, with `finalize` behind them
abbrev pub verdict_on_attempts : List Attempt → Verdict
verdict_on_attempts attempts = verdict_from 0 empty_ledger (attempts ++ outright Finalize ∷ [])

-- the verdict on a script of which no call is only tried
abbrev pub verdict_on : Script → Verdict
verdict_on script = verdict_on_attempts (map outright script)

-- The instruction calls. Operations on operands and `brif` are made at the type of their first operand.
abbrev pub iconst : «Type» → ℤ → Request
iconst ty number = Build [] (record { operation = Compute (Iconst number); controlling = ty; operands = []; contexts = []; edges = [] })

abbrev pub unary : Ledger → UnaryOpcode → Name → Request
unary ledger opcode a = Build [] (record { operation = Compute (Unary opcode); controlling = or_invalid (type_of ledger a); operands = a ∷ []; contexts = []; edges = [] })

abbrev pub binary : Ledger → BinaryOpcode → Name → Name → Request
binary ledger opcode a b = Build [] (record { operation = Compute (Binary opcode); controlling = or_invalid (type_of ledger a); operands = a ∷ b ∷ []; contexts = []; edges = [] })

abbrev pub convert : ConvertOpcode → «Type» → Name → Request
convert opcode ty a = Build [] (record { operation = Compute (Convert opcode); controlling = ty; operands = a ∷ []; contexts = []; edges = [] })

abbrev pub float_const : FloatConstOpcode → ℕ → Request
float_const opcode bits = Build [] (record { operation = Compute (FloatConst opcode bits); controlling = type.Invalid; operands = []; contexts = []; edges = [] })

abbrev pub pooled_const : PooledConstOpcode → «Type» → List ℕ → Request
pooled_const opcode ty bytes = Build [] (record { operation = Compute (PooledConst opcode bytes); controlling = ty; operands = []; contexts = []; edges = [] })

abbrev pub compare : Ledger → IntCC → Name → Name → Request
compare ledger condition a b =
    Build [] (record { operation = Compute (Compare condition); controlling = or_invalid (type_of ledger a); operands = a ∷ b ∷ []; contexts = []; edges = [] })

abbrev pub concat : Ledger → Name → Name → Request
concat ledger low high =
    Build [] (record { operation = Compute Concat; controlling = or_invalid (type_of ledger low); operands = low ∷ high ∷ []; contexts = []; edges = [] })

abbrev pub split : Ledger → Name → Request
split ledger a = Build [] (record { operation = Compute Split; controlling = or_invalid (type_of ledger a); operands = a ∷ []; contexts = []; edges = [] })

abbrev pub load : MemFlagsShape → «Type» → Name → ℤ → Request
load flags ty address offset = Build [] (record { operation = Load flags offset; controlling = ty; operands = address ∷ []; contexts = []; edges = [] })

-- at the type of what is stored
abbrev pub store : Ledger → MemFlagsShape → Name → Name → ℤ → Request
store ledger flags stored address offset =
    Build [] (record { operation = Store flags offset; controlling = or_invalid (type_of ledger stored); operands = stored ∷ address ∷ []; contexts = []; edges = [] })

abbrev pub stack : StackOpcode → «Type» → ℕ → ℤ → Request
stack opcode ty slot offset = Build [] (record { operation = Stack opcode slot offset; controlling = ty; operands = []; contexts = []; edges = [] })

-- at the type of what is stored
abbrev pub stack_store : Ledger → Name → ℕ → ℤ → Request
stack_store ledger stored slot offset =
    Build [] (record { operation = StackStore slot offset; controlling = or_invalid (type_of ledger stored); operands = stored ∷ []; contexts = []; edges = [] })

abbrev pub trap : TrapCode → Request
trap reason = Build [] (record { operation = Trap reason; controlling = type.Invalid; operands = []; contexts = []; edges = [] })

abbrev pub cond_trap : Ledger → CondTrapOpcode → Name → TrapCode → Request
cond_trap ledger opcode condition reason =
    Build [] (record { operation = CondTrap opcode reason; controlling = or_invalid (type_of ledger condition); operands = condition ∷ []; contexts = []; edges = [] })

-- at the type of its second operand
abbrev pub select : Ledger → Name → Name → Name → Request
select ledger condition a b =
    Build [] (record { operation = Compute Select; controlling = or_invalid (type_of ledger a); operands = condition ∷ a ∷ b ∷ []; contexts = []; edges = [] })

abbrev pub jump : Edge Name Name → Request
jump edge = Build [] (record { operation = Jump; controlling = type.Invalid; operands = []; contexts = []; edges = edge ∷ [] })

abbrev pub brif : Ledger → Name → Edge Name Name → Edge Name Name → Request
brif ledger condition taken other =
    Build [] (record { operation = Brif; controlling = or_invalid (type_of ledger condition); operands = condition ∷ []; contexts = []; edges = taken ∷ other ∷ [] })

-- a branch along these edges: the default, and then the entries
abbrev pub table_branch : Name → List (Edge Name Name) → Instruction Name Name
table_branch index edges = record { operation = BrTable (length edges - 1); controlling = type.Invalid; operands = index ∷ []; contexts = []; edges = edges }

-- a branch along the edges of a jump table, which serves it
abbrev pub br_table : Ledger → Name → ℕ → Request
br_table ledger index table = Build (ServedBy table ∷ []) (table_branch index (unwrap_or (unserved_edges ledger table) []))

-- a call of a function that was imported
abbrev pub call_function : Ledger → ℕ → List Name → Request
call_function ledger function arguments =
    Build (Imported (AFunctionRef function) ∷ []) (record {
      operation = Call (function_at ledger.tables function).name (signature_at ledger.tables (function_at ledger.tables function).signature);
      controlling = type.Invalid;
      operands = arguments;
      contexts = [];
      edges = [];
    })

-- a call of what is at an address, by a signature that was imported
abbrev pub call_indirect : Ledger → ℕ → Name → List Name → Request
call_indirect ledger signature callee arguments =
    Build (Imported (ASignatureRef signature) ∷ []) (record {
      operation = CallIndirect (signature_at ledger.tables signature);
      controlling = type.Invalid;
      operands = callee ∷ arguments;
      contexts = [];
      edges = [];
    })

-- a table that holds nothing
abbrev pub no_exceptions : ExceptionTable
no_exceptions = record { signature = 0; edges = []; items = []; contexts = [] }

-- what the exception table with this number holds; nothing where there is none that serves no instruction so far
abbrev pub exceptions_at : Ledger → ℕ → ExceptionTable
exceptions_at ledger table = unwrap_or (unserved_exceptions ledger table) no_exceptions

-- what the answer to a call by such a table depends on: the signature is the table's
abbrev pub tried_shape : Ledger → ExceptionTable → CallShape
tried_shape ledger held = record { signature = signature_at ledger.tables held.signature; items = held.items }

-- The same calls along the edges of an exception table, which serves it: where the call returns along the normal edge, and
-- where it throws along that of an item. What the table holds is given here,
abbrev pub tried_function : Ledger → ℕ → List Name → (table : ℕ) → ExceptionTable → Request
tried_function ledger function arguments table held =
    Build (TriedBy table ∷ Imported (AFunctionRef function) ∷ Imported (ASignatureRef held.signature) ∷ []) (record {
      operation = TryCall (function_at ledger.tables function).name (tried_shape ledger held);
      controlling = type.Invalid;
      operands = arguments;
      contexts = held.contexts;
      edges = held.edges;
    })

abbrev pub tried_address : Ledger → Name → List Name → (table : ℕ) → ExceptionTable → Request
tried_address ledger callee arguments table held =
    Build (TriedBy table ∷ Imported (ASignatureRef held.signature) ∷ []) (record {
      operation = TryCallIndirect (tried_shape ledger held);
      controlling = type.Invalid;
      operands = callee ∷ arguments;
      contexts = held.contexts;
      edges = held.edges;
    })

-- and told by the ledger here
abbrev pub try_call : Ledger → ℕ → List Name → ℕ → Request
try_call ledger function arguments table = tried_function ledger function arguments table (exceptions_at ledger table)

abbrev pub try_call_indirect : Ledger → Name → List Name → ℕ → Request
try_call_indirect ledger callee arguments table = tried_address ledger callee arguments table (exceptions_at ledger table)

abbrev pub return_ : List Name → Request
return_ values = Build [] (record { operation = Return; controlling = type.Invalid; operands = values; contexts = []; edges = [] })
