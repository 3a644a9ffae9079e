-- The text of a call, as a line of a script that gives no names. Source: own; docs/SCRIPTS.md describes the format.
use Rattle.std.specs.Prelude.{ℕ, ℤ, List, [], ◌∷◌, ◌++◌, ◌==◌, codes, flat_map, nat_abs, if◌then◌else◌}
use Rattle.std.specs.Fmt.{decimal, signed_decimal}
use Rattle.std.specs.Int.NonZero.{non_zero_u8_get}
use Rattle.clif_opcodes.specs.Names.{binary_name, cond_trap_name, convert_name, float_const_name, stack_name, unary_name}
use Rattle.clif_types.specs.Texts.{bytes_text, type_text, call_conv_text, external_name_text, int_cc_text, lib_call_text, mem_flags_text, signature_text, trap_code_text, user_func_name_text}
use Rattle.clif_types.specs.Signature.{SignatureShape}
use Rattle.clif_calls.specs.declared.entry.ImportedFunction.{ImportedFunction}
use Rattle.clif_types.specs.declared.extname.ExternalName.{ExternalName}
use Rattle.clif_types.specs.declared.extname.ExternalName.TheVariants as name
use Rattle.clif_types.specs.declared.extname.UserFuncName.{UserFuncName}
use Rattle.clif_types.specs.declared.globalvalue.GlobalValueData.{GlobalValueData}
use Rattle.clif_types.specs.declared.globalvalue.GlobalValueData.TheVariants as global
use Rattle.clif_types.specs.declared.libcall.LibCall.{LibCall}
use Rattle.clif_types.specs.declared.libcall.LibCall.TheVariants.{Memcpy, Memmove, Memset, Memcmp}
use Rattle.clif_types.specs.declared.target.TargetFrontendConfig.{TargetFrontendConfig}
use Rattle.clif_words.specs.Spelling.{overlap_word, pointer_text}
use Rattle.clif_calls.specs.declared.call.Name.{Name}
use Rattle.clif_calls.specs.declared.call.Edge.{Edge}
use Rattle.clif_calls.specs.declared.switch.SwitchEntry.{SwitchEntry}
use Rattle.clif_calls.specs.declared.call.Call.{Call}
use Rattle.clif_calls.specs.declared.call.Call.TheVariants as call
use Rattle.clif_calls.specs.declared.entry.EntryCall.{EntryCall}
use Rattle.clif_calls.specs.declared.entry.EntryCall.TheVariants as entry
use Rattle.clif_calls.specs.declared.immediate.ImmediateCall.{ImmediateCall}
use Rattle.clif_calls.specs.declared.immediate.ImmediateCall.TheVariants as immediate
use Rattle.clif_calls.specs.declared.memory.MemoryCall.{MemoryCall}
use Rattle.clif_calls.specs.declared.memory.MemoryCall.TheVariants as memory
use Rattle.clif_calls.specs.declared.outside.OutsideCall.{OutsideCall}
use Rattle.clif_calls.specs.declared.outside.OutsideCall.TheVariants as outside
use Rattle.clif_calls.specs.declared.straight.Lender.{Lender}
use Rattle.clif_calls.specs.declared.straight.Lender.TheVariants as lender
use Rattle.clif_calls.specs.declared.straight.StraightInstruction.{StraightInstruction}
use Rattle.clif_calls.specs.declared.straight.StraightInstruction.TheVariants as straight
use Rattle.clif_calls.specs.declared.table.Passed.{Passed}
use Rattle.clif_calls.specs.declared.table.Passed.TheVariants as passed
use Rattle.clif_calls.specs.declared.table.TableEdge.{TableEdge}
use Rattle.clif_calls.specs.declared.table.TableItem.{TableItem}
use Rattle.clif_calls.specs.declared.table.TableItem.TheVariants as item
use Rattle.clif_calls.specs.declared.table.ThrowingCall.{ThrowingCall}
use Rattle.clif_calls.specs.declared.table.ThrowingCall.TheVariants as throwing
use Rattle.clif_calls.specs.Plan.{plan_of}
use Rattle.clif_calls.specs.declared.plan.Plan.{Plan}
use Rattle.clif_calls.specs.declared.plan.Plan.TheVariants as plan

-- `$5.1`
abbrev pub answer_text : Name → List ℕ
answer_text name = codes "$" ++ (decimal name.place ++ (codes "." ++ decimal name.answer))

-- ` $5.1 $6.1`
abbrev pub answers_text : List Name → List ℕ
answers_text names = flat_map (λ name. codes " " ++ answer_text name) names

-- `$1.0( $5.1)`
abbrev pub edge_text : Edge → List ℕ
edge_text edge = answer_text edge.block ++ (codes "(" ++ (answers_text edge.args.items ++ codes ")"))

-- `$5.1`, `ret0` or `exn1`
abbrev pub argument_text : Passed → List ℕ
argument_text (passed.Value name) = answer_text name
argument_text (passed.Returned place) = codes "ret" ++ decimal place
argument_text (passed.Thrown place) = codes "exn" ++ decimal place

-- ` $5.1 ret0`
abbrev pub passed_text : List Passed → List ℕ
passed_text args = flat_map (λ one. codes " " ++ argument_text one) args

-- `$1.0( $5.1 ret0)`
abbrev pub table_edge_text : TableEdge → List ℕ
table_edge_text edge = answer_text edge.block ++ (codes "(" ++ (passed_text edge.args.items ++ codes ")"))

-- `tag7 $8.0`, `default $8.0` or `context $5.1`
abbrev pub item_text : TableItem → List ℕ
item_text (item.Tag tag edge) = codes "tag" ++ (decimal tag ++ (codes " " ++ answer_text edge))
item_text (item.Default edge) = codes "default " ++ answer_text edge
item_text (item.Context value) = codes "context " ++ answer_text value

-- ` tag7 $8.0 default $9.0`
abbrev pub items_text : List TableItem → List ℕ
items_text items = flat_map (λ one. codes " " ++ item_text one) items

-- `7:$1.0`
abbrev pub switch_case_text : SwitchEntry → List ℕ
switch_case_text entry = decimal entry.key ++ (codes ":" ++ answer_text entry.block)

-- ` 7:$1.0 9:$2.0`
abbrev pub switch_cases_text : List SwitchEntry → List ℕ
switch_cases_text entries = flat_map (λ one. codes " " ++ switch_case_text one) entries

-- `var0`
abbrev pub variable_text : ℕ → List ℕ
variable_text number = codes "var" ++ decimal number

-- ` -4`, and nothing for 0
abbrev pub offset_text : ℤ → List ℕ
offset_text offset = if nat_abs offset == 0 then [] else codes " " ++ signed_decimal offset

-- an instruction of this plan: its name, and what it takes
abbrev pub plan_text : Plan → List ℕ
plan_text (plan.UnaryImm ty imm) = codes "iconst." ++ (type_text ty ++ (codes " " ++ signed_decimal imm))
plan_text (plan.UnaryIeee opcode bits) = float_const_name opcode ++ (codes " " ++ decimal bits)
plan_text (plan.Unary opcode arg) = unary_name opcode ++ (codes " " ++ answer_text arg)
plan_text (plan.Binary opcode args) = binary_name opcode ++ answers_text args
plan_text (plan.Convert opcode ty arg) = convert_name opcode ++ (codes "." ++ (type_text ty ++ (codes " " ++ answer_text arg)))
plan_text (plan.Concat args) = codes "iconcat" ++ answers_text args
plan_text (plan.Split arg) = codes "isplit " ++ answer_text arg
plan_text (plan.IntCompare cond args) = codes "icmp " ++ (int_cc_text cond ++ answers_text args)
plan_text (plan.Ternary args) = codes "select" ++ answers_text args
plan_text (plan.Load flags ty arg offset) = codes "load." ++ (type_text ty ++ (mem_flags_text flags ++ (codes " " ++ (answer_text arg ++ offset_text offset))))
plan_text (plan.Store flags args offset) = codes "store" ++ (mem_flags_text flags ++ (answers_text args ++ offset_text offset))
plan_text (plan.StackLoad opcode ty slot offset) = stack_name opcode ++ (codes "." ++ (type_text ty ++ (codes " " ++ (answer_text slot ++ offset_text offset))))
plan_text (plan.StackStore arg slot offset) = codes "stack_store " ++ (answer_text arg ++ (codes " " ++ (answer_text slot ++ offset_text offset)))
plan_text (plan.Trap code) = codes "trap " ++ trap_code_text code
plan_text (plan.CondTrap opcode arg code) = cond_trap_name opcode ++ (codes " " ++ (answer_text arg ++ (codes " " ++ trap_code_text code)))
plan_text (plan.Jump destination) = codes "jump " ++ edge_text destination.now
plan_text (plan.Brif condition first second) = codes "brif " ++ (answer_text condition ++ (codes " " ++ (edge_text first.now ++ (codes " " ++ edge_text second.now))))
plan_text (plan.MultiAry args) = codes "return" ++ answers_text args.now

-- the name of a function or of a symbol: `%f`, `u0:1` or `libcall Memcpy`
abbrev pub imported_name_text : ExternalName → List ℕ
imported_name_text (name.LibCall call) = codes "libcall " ++ lib_call_text call
imported_name_text (name.User user) = external_name_text (name.User user)
imported_name_text (name.TestCase text) = external_name_text (name.TestCase text)

-- `vmctx` or `symbol %s`
abbrev pub global_text : GlobalValueData → List ℕ
global_text global.VMContext = codes "vmctx"
global_text (global.Symbol name) = codes "symbol " ++ imported_name_text name

-- `colocated patchable %f $P.K`
abbrev pub imported_text : ImportedFunction → List ℕ
imported_text function =
    (if function.colocated then codes "colocated " else [])
    ++ ((if function.patchable then codes "patchable " else []) ++ (imported_name_text function.name ++ (codes " " ++ answer_text function.signature)))

-- a call that makes an entry of a table
abbrev pub entry_text : EntryCall → List ℕ
entry_text (entry.CreateSizedStackSlot size align_shift) = codes "create_sized_stack_slot " ++ (decimal size ++ (codes " " ++ decimal align_shift))
entry_text (entry.CreateDynamicStackSlot slot) = codes "create_dynamic_stack_slot " ++ decimal slot.dyn_ty
entry_text (entry.CreateGlobalValue value) = codes "create_global_value " ++ global_text value
entry_text (entry.ImportSignature signature) = codes "import_signature " ++ signature_text signature
entry_text (entry.ImportFunction function) = codes "import_function " ++ imported_text function

-- `( $5.1 $6.1)`
abbrev pub arguments_text : List Name → List ℕ
arguments_text names = codes "(" ++ (answers_text names ++ codes ")")

-- an outside call
abbrev pub outside_text : OutsideCall → List ℕ
outside_text (outside.Call function args) = codes "call " ++ (answer_text function ++ arguments_text args.items)
outside_text (outside.CallIndirect signature callee args) =
    codes "call_indirect " ++ (answer_text signature ++ (codes " " ++ (answer_text callee ++ arguments_text args.items)))

-- an instruction with a constant as an operand
abbrev pub immediate_text : ImmediateCall → List ℕ
immediate_text (immediate.IaddImmS x imm) = codes "iadd_imm_s " ++ (answer_text x ++ (codes " " ++ signed_decimal imm))
immediate_text (immediate.IcmpImmS cond x imm) =
    codes "icmp_imm_s " ++ (int_cc_text cond ++ (codes " " ++ (answer_text x ++ (codes " " ++ signed_decimal imm))))

-- the name of a helper that calls this function on three values
abbrev pub library_call_name : LibCall → List ℕ
library_call_name Memcpy = codes "call_memcpy"
library_call_name Memmove = codes "call_memmove"
library_call_name Memset = codes "call_memset"
library_call_name Memcmp = codes "call_memcmp"

-- ` 12 4 4`
abbrev pub numbers_text : List ℕ → List ℕ
numbers_text numbers = flat_map (λ number. codes " " ++ decimal number) numbers

-- a memory helper
abbrev pub memory_text : MemoryCall → List ℕ
memory_text (memory.CallLibrary callee first second size) = library_call_name callee ++ answers_text (first ∷ second ∷ size ∷ [])
memory_text (memory.Copy dest src size dest_align src_align apart flags) =
    codes "emit_small_memory_copy" ++ (answers_text (dest ∷ src ∷ [])
    ++ (numbers_text (size ∷ dest_align ∷ src_align ∷ []) ++ (codes " " ++ (overlap_word apart ++ mem_flags_text flags))))
memory_text (memory.Fill buffer ch size align flags) =
    codes "emit_small_memset " ++ (answer_text buffer ++ (numbers_text (ch ∷ size ∷ align ∷ []) ++ mem_flags_text flags))
memory_text (memory.Compare cond left right size left_align right_align flags) =
    codes "emit_small_memory_compare " ++ (int_cc_text cond ++ (answers_text (left ∷ right ∷ [])
    ++ (numbers_text (size ∷ non_zero_u8_get left_align ∷ non_zero_u8_get right_align ∷ []) ++ mem_flags_text flags)))

-- a call along the edges of an exception table
abbrev pub throwing_text : ThrowingCall → List ℕ
throwing_text (throwing.TryCall function args table) = codes "try_call " ++ (answer_text function ++ (arguments_text args.items ++ (codes " " ++ answer_text table)))
throwing_text (throwing.TryCallIndirect callee args table) =
    codes "try_call_indirect " ++ (answer_text callee ++ (arguments_text args.items ++ (codes " " ++ answer_text table)))

-- an instruction that ends no block
abbrev pub straight_text : StraightInstruction → List ℕ
straight_text (straight.Plain instruction) = plan_text (plan_of instruction)
straight_text (straight.Outside called) = outside_text called
straight_text (straight.F128const bytes) = codes "f128const " ++ bytes_text bytes.items
straight_text (straight.Vconst ty bytes) = codes "vconst." ++ (type_text ty ++ (codes " " ++ bytes_text bytes.items))

-- the word before it, where it isn't made through `ins`
abbrev pub lender_text : Lender → List ℕ
lender_text lender.Ins = []
lender_text lender.Cursor = codes "cursor "

abbrev pub call_text : Call → List ℕ
call_text call.CreateBlock = codes "create_block"
call_text (call.SwitchToBlock block) = codes "switch_to_block " ++ answer_text block
call_text (call.SealBlock block) = codes "seal_block " ++ answer_text block
call_text call.SealAllBlocks = codes "seal_all_blocks"
call_text (call.InsertBlockAfter block after) = codes "insert_block_after " ++ (answer_text block ++ (codes " " ++ answer_text after))
call_text (call.SetColdBlock block) = codes "set_cold_block " ++ answer_text block
call_text call.EnsureInsertedBlock = codes "ensure_inserted_block"
call_text (call.AppendBlockParam block ty) = codes "append_block_param " ++ (answer_text block ++ (codes " " ++ type_text ty))
call_text (call.AppendBlockParamsForFunctionParams block) = codes "append_block_params_for_function_params " ++ answer_text block
call_text (call.AppendBlockParamsForFunctionReturns block) = codes "append_block_params_for_function_returns " ++ answer_text block
call_text (call.Entry entry) = entry_text entry
call_text (call.BlockCall edge) = codes "block_call " ++ table_edge_text edge
call_text (call.CreateJumpTable default entries) = codes "create_jump_table " ++ (answer_text default ++ answers_text entries.items)
call_text (call.CreateExceptionTable signature normal items) =
    codes "create_exception_table " ++ (answer_text signature ++ (codes " " ++ (answer_text normal ++ items_text items.items)))
call_text (call.DeclareVar ty) = codes "declare_var " ++ type_text ty
call_text (call.DeclareVarNeedsStackMap variable) = codes "declare_var_needs_stack_map " ++ variable_text variable
call_text (call.DeclareValueNeedsStackMap value) = codes "declare_value_needs_stack_map " ++ answer_text value
call_text (call.DefVar variable value) = codes "def_var " ++ (variable_text variable ++ (codes " " ++ answer_text value))
call_text (call.UseVar variable) = codes "use_var " ++ variable_text variable
call_text (call.TryDefVar variable value) = codes "try_def_var " ++ (variable_text variable ++ (codes " " ++ answer_text value))
call_text (call.TryUseVar variable) = codes "try_use_var " ++ variable_text variable
call_text (call.Straight lender instruction) = lender_text lender ++ straight_text instruction
call_text (call.Immediate called) = immediate_text called
call_text (call.Memory called) = memory_text called
call_text (call.SetSrcloc srcloc) = codes "set_srcloc " ++ decimal srcloc
call_text call.CollectDebugInfo = codes "collect_debug_info"
call_text (call.SetValLabel value label) = codes "set_val_label " ++ (answer_text value ++ (codes " " ++ decimal label))
call_text (call.ChangeJumpDestination branch from to) =
    codes "change_jump_destination " ++ (answer_text branch ++ (codes " " ++ (answer_text from ++ (codes " " ++ answer_text to))))
call_text (call.Jump edge) = codes "jump " ++ edge_text edge
call_text (call.Brif condition first second) = codes "brif " ++ (answer_text condition ++ (codes " " ++ (edge_text first ++ (codes " " ++ edge_text second))))
call_text (call.BrTable index table) = codes "br_table " ++ (answer_text index ++ (codes " " ++ answer_text table))
call_text (call.Switch entries value otherwise) =
    codes "switch " ++ (answer_text value ++ (codes " " ++ (answer_text otherwise ++ switch_cases_text entries.items)))
call_text (call.Throwing called) = throwing_text called
call_text (call.Return values) = codes "return" ++ answers_text values.items
call_text (call.Trap code) = codes "trap " ++ trap_code_text code

-- the header lines
abbrev pub header_text : UserFuncName → SignatureShape → TargetFrontendConfig → List ℕ
header_text name signature config =
    codes "function " ++ (user_func_name_text name ++ (codes " " ++ (signature_text signature ++ (10 ∷ (codes "pointer " ++ (pointer_text config.pointer_width ++ (10 ∷ (codes "conv " ++ (call_conv_text config.default_call_conv ++ 10 ∷ [])))))))))

-- the calls, a line each
abbrev pub calls_text : List Call → List ℕ
calls_text calls = flat_map (λ call. call_text call ++ 10 ∷ []) calls
