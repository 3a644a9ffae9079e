-- What a list of calls is as a script. Own.
use Rattle.std.specs.Prelude.{List, [], ◌∷◌, map, Bool, true, false}
use Rattle.clif_tables.specs.Callees.{types_of}
use Rattle.clif_meaning.specs.Name.{Name}
use Rattle.clif_meaning.specs.Instruction.{AddConstant, Argument, Arithmetic, CallPayload, CallResult, CompareConstant, Edge, Instruction, Known}
use Rattle.clif_meaning.specs.Request.{Request, CreateBlock, SwitchToBlock, SealBlock, SealAllBlocks, InsertBlockAfter, SetColdBlock, EnsureInsertedBlock, AppendBlockParams, AppendFunctionParams, DeclareVar, DefVar, UseVar, MakeEntry, MakeEdge, MakeExceptionTable, MakeJumpTable, Annotate, NeedStackMap, OfValue, OfVariable, Build, ChangeJumpDestination}
use Rattle.clif_meaning.specs.Request as asked
use Rattle.clif_meaning.specs.Ledger.{Ledger, empty_ledger, or_invalid, type_of}
use Rattle.clif_meaning.specs.Acceptance.{pooled_const, jump, brif, br_table, call_function, call_indirect, try_call, try_call_indirect, return_, trap}
use Rattle.clif_opcodes.specs.declared.opcodes.PooledConstOpcode.TheVariants.{F128const, Vconst}
use Rattle.clif_types.specs.declared.types.«Type».{«Type»}
use Rattle.clif_types.specs.declared.types.«Type».TheVariants.{Invalid}
use Rattle.clif_types.specs.Signature.{SignatureShape}
use Rattle.clif_types.specs.declared.target.TargetFrontendConfig.{TargetFrontendConfig}
use Rattle.clif_calls.specs.declared.call.Name as named
use Rattle.clif_calls.specs.declared.call.Edge as script
use Rattle.clif_calls.specs.declared.call.Call.{Call}
use Rattle.clif_calls.specs.declared.call.Call.TheVariants as call
use Rattle.clif_calls.specs.declared.outside.OutsideCall.{OutsideCall}
use Rattle.clif_calls.specs.declared.outside.OutsideCall.TheVariants as outside
use Rattle.clif_calls.specs.declared.straight.StraightInstruction.{StraightInstruction}
use Rattle.clif_calls.specs.declared.straight.StraightInstruction.TheVariants as straight
use Rattle.clif_calls.specs.declared.table.Passed.{Passed}
use Rattle.clif_calls.specs.declared.table.Passed.TheVariants as passed
use Rattle.clif_calls.specs.declared.table.TableEdge.{TableEdge}
use Rattle.clif_calls.specs.declared.table.TableItem.{TableItem}
use Rattle.clif_calls.specs.declared.table.TableItem.TheVariants as item
use Rattle.clif_calls.specs.declared.table.ThrowingCall.{ThrowingCall}
use Rattle.clif_calls.specs.declared.table.ThrowingCall.TheVariants as throwing
use Rattle.clif_calls.specs.Plan.{edges_in, operands_in, plan_of}
use Rattle.clif_calls.specs.declared.plan.Plan.{Plan}
use Rattle.clif_calls.specs.declared.immediate.ImmediateCall.{ImmediateCall}
use Rattle.clif_calls.specs.declared.immediate.ImmediateCall.TheVariants as immediate
use Rattle.clif_expansion.specs.CallsVerdict.{CallAttempt}
use Rattle.clif_expansion.specs.Constants.{computing}
use Rattle.clif_expansion.specs.ScriptCall.{Ask, Emit, ScriptCall, ledger_with_call}
use Rattle.clif_replay.specs.Cases.{switch_under}
use Rattle.clif_resolution.specs.Entries.{ExceptionTables, Functions, JumpTables, Numbers, Signatures}
use Rattle.clif_replay.specs.Entries.{entry_in, numbers_in}
use Rattle.clif_replay.specs.Helpers.{memory_under, nothing_moved}
use Rattle.clif_resolution.specs.Plans.{operation_in, controlling_in}

-- an answer's name: the place of the call, and the number among its answers
abbrev pub name_of : named.Name → Name
name_of name = record { place = name.place; index = name.answer }

-- Under which name the answer with a name in a list of calls is known to a builder, of which other calls may have been asked:
-- by `name_of`, where it was asked these calls and no others.
abbrev pub Naming : Type 0
Naming = named.Name → Name

-- an edge, and what it passes
abbrev pub edge_of : Naming → script.Edge → Edge Name Name
edge_of naming destination = record { target = naming destination.block; arguments = map (λ name. Known (naming name)) destination.args.items }

-- what an edge of a table passes
abbrev pub passed_of : Naming → Passed → Argument Name
passed_of naming (passed.Value name) = Known (naming name)
passed_of naming (passed.Returned place) = CallResult place
passed_of naming (passed.Thrown place) = CallPayload place

abbrev pub table_edge_of : Naming → TableEdge → Edge Name Name
table_edge_of naming edge = record { target = naming edge.block; arguments = map (passed_of naming) edge.args.items }

-- an item of an exception table
abbrev pub item_of : Naming → TableItem → asked.TableItem
item_of naming (item.Tag tag edge) = asked.TagTo tag (naming edge)
item_of naming (item.Default edge) = asked.DefaultTo (naming edge)
item_of naming (item.Context value) = asked.InContext (naming value)

-- the request of an instruction, with these numbers of entries, which is made at types that the ledger tells
abbrev pub request_in : Numbers → Naming → Ledger → Plan → Request
request_in numbers naming ledger plan =
    Build [] (record { operation = operation_in numbers plan; controlling = controlling_in (λ name. or_invalid (type_of ledger (naming name))) plan; operands = map naming (operands_in plan); contexts = []; edges = map (edge_of naming) (edges_in plan) })

-- the request of an outside call, of what the ledger's tables hold
abbrev pub outside_request : Numbers → Naming → Ledger → OutsideCall → Request
outside_request numbers naming ledger (outside.Call function args) = call_function ledger (numbers Functions function) (map naming args.items)
outside_request numbers naming ledger (outside.CallIndirect signature callee args) = call_indirect ledger (numbers Signatures signature) (naming callee) (map naming args.items)

-- the request of an instruction that ends no block, whichever method lends the builder for it
abbrev pub straight_request : Numbers → Naming → Ledger → StraightInstruction → Request
straight_request numbers naming ledger (straight.Plain instruction) = request_in numbers naming ledger (plan_of instruction)
straight_request numbers naming ledger (straight.Outside called) = outside_request numbers naming ledger called
straight_request numbers naming ledger (straight.F128const bytes) = pooled_const F128const Invalid bytes.items
straight_request numbers naming ledger (straight.Vconst ty bytes) = pooled_const Vconst ty bytes.items

-- the request of a call along the edges of an exception table, of what the ledger's tables hold
abbrev pub throwing_request : Numbers → Naming → Ledger → ThrowingCall → Request
throwing_request numbers naming ledger (throwing.TryCall function args table) =
    try_call ledger (numbers Functions function) (map naming args.items) (numbers ExceptionTables table)
throwing_request numbers naming ledger (throwing.TryCallIndirect callee args table) =
    try_call_indirect ledger (naming callee) (map naming args.items) (numbers ExceptionTables table)

-- The request of a call, on a function of this signature, with its names so known and these numbers of entries. `brif` is made at the
-- type of its condition, which the ledger tells. What is emitted asks nothing of the builder itself: `call_of` tells what it is.
abbrev pub request_with : Numbers → Naming → SignatureShape → Ledger → Call → Request
request_with numbers naming signature ledger call.CreateBlock = CreateBlock
request_with numbers naming signature ledger (call.SwitchToBlock block) = SwitchToBlock (naming block)
request_with numbers naming signature ledger (call.SealBlock block) = SealBlock (naming block)
request_with numbers naming signature ledger call.SealAllBlocks = SealAllBlocks
request_with numbers naming signature ledger (call.InsertBlockAfter block after) = InsertBlockAfter (naming block) (naming after)
request_with numbers naming signature ledger (call.SetColdBlock block) = SetColdBlock (naming block)
request_with numbers naming signature ledger call.EnsureInsertedBlock = EnsureInsertedBlock
request_with numbers naming signature ledger (call.AppendBlockParam block ty) = AppendBlockParams (naming block) (ty ∷ [])
request_with numbers naming signature ledger (call.AppendBlockParamsForFunctionParams block) = AppendFunctionParams (naming block) (types_of signature.params)
request_with numbers naming signature ledger (call.AppendBlockParamsForFunctionReturns block) = AppendBlockParams (naming block) (types_of signature.returns)
request_with numbers naming signature ledger (call.Entry entry) = MakeEntry (entry_in numbers entry)
request_with numbers naming signature ledger (call.BlockCall edge) = MakeEdge (table_edge_of naming edge)
request_with numbers naming signature ledger (call.CreateJumpTable default entries) = MakeJumpTable (naming default) (map naming entries.items)
request_with numbers naming signature ledger (call.CreateExceptionTable callee normal items) = MakeExceptionTable (numbers Signatures callee) (naming normal) (map (item_of naming) items.items)
request_with numbers naming signature ledger (call.DeclareVar ty) = DeclareVar ty
request_with numbers naming signature ledger (call.DeclareVarNeedsStackMap variable) = NeedStackMap (OfVariable variable)
request_with numbers naming signature ledger (call.DeclareValueNeedsStackMap value) = NeedStackMap (OfValue (naming value))
request_with numbers naming signature ledger (call.DefVar variable value) = DefVar variable (naming value)
request_with numbers naming signature ledger (call.UseVar variable) = UseVar variable
request_with numbers naming signature ledger (call.TryDefVar variable value) = DefVar variable (naming value)
request_with numbers naming signature ledger (call.TryUseVar variable) = UseVar variable
request_with numbers naming signature ledger (call.Straight lender instruction) = straight_request numbers naming ledger instruction
request_with numbers naming signature ledger (call.SetSrcloc srcloc) = Annotate false []
request_with numbers naming signature ledger call.CollectDebugInfo = Annotate false []
request_with numbers naming signature ledger (call.SetValLabel value label) = Annotate false (naming value ∷ [])
request_with numbers naming signature ledger (call.ChangeJumpDestination branch from to) = ChangeJumpDestination (naming branch) (naming from) (naming to)
request_with numbers naming signature ledger (call.Jump destination) = jump (edge_of naming destination)
request_with numbers naming signature ledger (call.Brif condition block_then block_else) = brif ledger (naming condition) (edge_of naming block_then) (edge_of naming block_else)
request_with numbers naming signature ledger (call.BrTable index table) = br_table ledger (naming index) (numbers JumpTables table)
request_with numbers naming signature ledger (call.Throwing called) = throwing_request numbers naming ledger called
request_with numbers naming signature ledger (call.Return values) = return_ (map naming values.items)
request_with numbers naming signature ledger (call.Trap code) = trap code
request_with numbers naming signature ledger (call.Immediate called) = Annotate false []
request_with numbers naming signature ledger (call.Switch entries value otherwise) = Annotate false []
request_with numbers naming signature ledger (call.Memory called) = nothing_moved naming called

-- with the numbers that the ledger tells
abbrev pub request_under : Naming → SignatureShape → Ledger → Call → Request
request_under naming signature ledger call = request_with (numbers_in naming ledger) naming signature ledger call

-- the request of a call with its own names
abbrev pub request_of : SignatureShape → Ledger → Call → Request
request_of signature ledger call = request_under name_of signature ledger call

-- a call that is only tried
abbrev pub is_tried : Call → Bool
is_tried (call.TryDefVar variable value) = true
is_tried (call.TryUseVar variable) = true
is_tried _ = false

-- A call that may be refused though it may be made, or though it may not be: a switch for its keys, and one that is only tried for
-- its variable.
abbrev pub is_refusable : Call → Bool
is_refusable (call.Switch entries value otherwise) = true
is_refusable call = is_tried call

-- the operand that is named
abbrev pub operand_in : ImmediateCall → named.Name
operand_in (immediate.IaddImmS x imm) = x
operand_in (immediate.IcmpImmS cond x imm) = x

-- the arithmetic that the script emits: beside a constant
abbrev pub emitted_in : ImmediateCall → Arithmetic
emitted_in (immediate.IaddImmS x imm) = AddConstant imm
emitted_in (immediate.IcmpImmS cond x imm) = CompareConstant cond imm

-- the type of the operand, as the ledger tells it
abbrev pub operand_type : Naming → Ledger → ImmediateCall → «Type»
operand_type naming ledger called = or_invalid (type_of ledger (naming (operand_in called)))

-- the instruction that is emitted, with its operand so known
abbrev pub emission_under : Naming → Ledger → ImmediateCall → Instruction Name Name
emission_under naming ledger called = computing (emitted_in called) (operand_type naming ledger called) (naming (operand_in called) ∷ [])

-- a call of a list as a call of the script for this target, with its own names: it emits, or asks the builder
abbrev pub call_of : TargetFrontendConfig → SignatureShape → Ledger → Call → ScriptCall
call_of config signature ledger (call.Immediate called) = Emit [] (emission_under name_of ledger called)
call_of config signature ledger (call.Switch entries value otherwise) = Emit [] (switch_under name_of ledger entries.items value otherwise)
call_of config signature ledger (call.Memory called) = memory_under config name_of ledger called
call_of config signature ledger call = Ask (request_of signature ledger call)

abbrev pub attempt_of : TargetFrontendConfig → SignatureShape → Ledger → Call → CallAttempt
attempt_of config signature ledger call = record { call = call_of config signature ledger call; is_tried = is_tried call }

-- the calls as they are made, each at the ledger of the ones before it
abbrev pub attempts_from : TargetFrontendConfig → SignatureShape → Ledger → List Call → List CallAttempt
attempts_from config signature ledger [] = []
attempts_from config signature ledger (call ∷ calls) =
    attempt_of config signature ledger call ∷ attempts_from config signature (ledger_with_call ledger (call_of config signature ledger call)) calls

abbrev pub attempts_of : TargetFrontendConfig → SignatureShape → List Call → List CallAttempt
attempts_of config signature calls = attempts_from config signature empty_ledger calls

-- the script's calls, each at the ledger of the ones before it
abbrev pub calls_from : TargetFrontendConfig → SignatureShape → Ledger → List Call → List ScriptCall
calls_from config signature ledger [] = []
calls_from config signature ledger (call ∷ calls) =
    call_of config signature ledger call ∷ calls_from config signature (ledger_with_call ledger (call_of config signature ledger call)) calls

abbrev pub calls_of : TargetFrontendConfig → SignatureShape → List Call → List ScriptCall
calls_of config signature calls = calls_from config signature empty_ledger calls
