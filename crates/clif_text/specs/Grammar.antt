-- Which words stand for which call. Source: own; docs/SCRIPTS.md describes the same format.
use Rattle.std.specs.Prelude.{◌≡◌, ℕ, ◌++◌, List, [], ◌∷◌, codes}
use Rattle.std.specs.Int.NonZero.{non_zero_u8_get}
use Rattle.clif_types.specs.Texts.{int_cc_text}
use Rattle.clif_calls.specs.declared.entry.ImportedFunction.{ImportedFunction}
use Rattle.clif_types.specs.declared.globalvalue.GlobalValueData.{GlobalValueData}
use Rattle.clif_types.specs.declared.globalvalue.GlobalValueData.TheVariants as global
use Rattle.clif_opcodes.specs.Names.{binary_name, cond_trap_name, convert_name, float_const_name, stack_name, unary_name}
use Rattle.clif_words.specs.Spelling.{AreFlags, IsBytes, IsMagnitude, IsNumber, IsTrapCode, IsTypeWord, flag_word, overlap_word}
use Rattle.clif_calls.specs.declared.call.Call.{Call}
use Rattle.clif_calls.specs.declared.call.Call.TheVariants as call
use Rattle.clif_calls.specs.declared.entry.EntryCall.{EntryCall}
use Rattle.clif_calls.specs.declared.entry.EntryCall.TheVariants as entry
use Rattle.clif_calls.specs.declared.immediate.ImmediateCall.{ImmediateCall}
use Rattle.clif_calls.specs.declared.immediate.ImmediateCall.TheVariants as immediate
use Rattle.clif_calls.specs.declared.memory.MemoryCall.{MemoryCall}
use Rattle.clif_calls.specs.declared.memory.MemoryCall.TheVariants as memory
use Rattle.clif_calls.specs.declared.outside.OutsideCall.{OutsideCall}
use Rattle.clif_calls.specs.declared.outside.OutsideCall.TheVariants as outside
use Rattle.clif_calls.specs.declared.straight.Lender.TheVariants as lender
use Rattle.clif_calls.specs.declared.straight.StraightInstruction.{StraightInstruction}
use Rattle.clif_calls.specs.declared.straight.StraightInstruction.TheVariants as straight
use Rattle.clif_calls.specs.declared.table.ThrowingCall.{ThrowingCall}
use Rattle.clif_calls.specs.declared.table.ThrowingCall.TheVariants as throwing
use Rattle.clif_calls.specs.Plan.{plan_of}
use Rattle.clif_calls.specs.declared.plan.Plan.{Plan}
use Rattle.clif_calls.specs.declared.plan.Plan.TheVariants as plan
use Rattle.clif_arguments.specs.Arguments.{AreAnswers, AreClosed, AreItems, AreLast, AreSwitchCases, IsAnswer, IsEdge, IsExternalName, IsInst, IsLastEdge, IsLastOffset, IsTableEdge, IsVariable, Names}
use Rattle.clif_arguments.specs.Header.{IsSignature}
use Rattle.clif_text.specs.Texts.{library_call_name}

-- The words stand for an instruction of this plan, which neither branches nor ends its block.
abbrev pub IsPlain : Names → List (List ℕ) → Plan → Type 0
IsPlain names words (plan.UnaryImm ty imm) = (t n : List ℕ) × (words ≡ (codes "iconst." ++ t) ∷ n ∷ []) × IsTypeWord t ty × IsNumber n imm
IsPlain names words (plan.UnaryIeee opcode bits) = (n : List ℕ) × (words ≡ float_const_name opcode ∷ n ∷ []) × IsMagnitude n bits
IsPlain names words (plan.Unary opcode arg) = (operand : List ℕ) × (words ≡ unary_name opcode ∷ operand ∷ []) × IsAnswer names operand arg
IsPlain names words (plan.Binary opcode args) = (operands : List (List ℕ)) × (words ≡ binary_name opcode ∷ operands) × AreAnswers names operands args
IsPlain names words (plan.Convert opcode ty arg) =
    (t operand : List ℕ) × (words ≡ (convert_name opcode ++ (codes "." ++ t)) ∷ operand ∷ []) × IsTypeWord t ty × IsAnswer names operand arg
IsPlain names words (plan.Concat args) = (operands : List (List ℕ)) × (words ≡ codes "iconcat" ∷ operands) × AreAnswers names operands args
IsPlain names words (plan.Split arg) = (operand : List ℕ) × (words ≡ codes "isplit" ∷ operand ∷ []) × IsAnswer names operand arg
IsPlain names words (plan.IntCompare cond args) =
    (operands : List (List ℕ)) × (words ≡ codes "icmp" ∷ int_cc_text cond ∷ operands) × AreAnswers names operands args
IsPlain names words (plan.Ternary args) = (operands : List (List ℕ)) × (words ≡ codes "select" ∷ operands) × AreAnswers names operands args
IsPlain names words (plan.Load flags ty arg offset) =
    (t p : List ℕ) × (f o : List (List ℕ)) × (words ≡ (codes "load." ++ t) ∷ (f ++ p ∷ o)) × IsTypeWord t ty × AreFlags f flags × IsAnswer names p arg × IsLastOffset o offset
IsPlain names words (plan.Store flags args offset) =
    (f operands o : List (List ℕ)) × (words ≡ codes "store" ∷ (f ++ (operands ++ o))) × AreFlags f flags × AreAnswers names operands args × IsLastOffset o offset
IsPlain names words (plan.StackLoad opcode ty slot offset) =
    (t s : List ℕ) × (o : List (List ℕ)) × (words ≡ (stack_name opcode ++ (codes "." ++ t)) ∷ s ∷ o) × IsTypeWord t ty × IsAnswer names s slot × IsLastOffset o offset
IsPlain names words (plan.StackStore arg slot offset) =
    (x s : List ℕ) × (o : List (List ℕ)) × (words ≡ codes "stack_store" ∷ x ∷ s ∷ o) × IsAnswer names x arg × IsAnswer names s slot × IsLastOffset o offset
IsPlain names words (plan.CondTrap opcode arg code) =
    (c reason : List ℕ) × (words ≡ cond_trap_name opcode ∷ c ∷ reason ∷ []) × IsAnswer names c arg × IsTrapCode reason code
IsPlain names words _ = ⊥

-- what a global value is
abbrev pub IsGlobalValue : List (List ℕ) → GlobalValueData → Type 0
IsGlobalValue words global.VMContext = words ≡ codes "vmctx" ∷ []
IsGlobalValue words (global.Symbol name) = (n : List (List ℕ)) × (words ≡ codes "symbol" ∷ n) × IsExternalName n name

-- a function that is imported: whether it is near and whether its calls can be patched, its name, and its signature
abbrev pub IsImported : Names → List (List ℕ) → ImportedFunction → Type 0
IsImported names words function =
    (n : List (List ℕ)) × (s : List ℕ)
    × (words ≡ flag_word function.colocated (codes "colocated") ++ (flag_word function.patchable (codes "patchable") ++ (n ++ s ∷ [])))
    × IsExternalName n function.name × IsAnswer names s function.signature

-- The words stand for a call that makes an entry of a table.
abbrev pub IsEntry : Names → List (List ℕ) → EntryCall → Type 0
IsEntry names words (entry.CreateSizedStackSlot size align_shift) = (a b : List ℕ) × (words ≡ codes "create_sized_stack_slot" ∷ a ∷ b ∷ []) × IsMagnitude a size × IsMagnitude b align_shift
IsEntry names words (entry.CreateDynamicStackSlot slot) = (a : List ℕ) × (words ≡ codes "create_dynamic_stack_slot" ∷ a ∷ []) × IsMagnitude a slot.dyn_ty
IsEntry names words (entry.CreateGlobalValue value) = (v : List (List ℕ)) × (words ≡ codes "create_global_value" ∷ v) × IsGlobalValue v value
IsEntry names words (entry.ImportSignature signature) = (s : List (List ℕ)) × (words ≡ codes "import_signature" ∷ s) × IsSignature s signature
IsEntry names words (entry.ImportFunction function) = (f : List (List ℕ)) × (words ≡ codes "import_function" ∷ f) × IsImported names f function

-- The words stand for an outside call: its name, what it calls, and what is passed.
abbrev pub IsOutside : Names → List (List ℕ) → OutsideCall → Type 0
IsOutside names words (outside.Call function args) =
    (f : List ℕ) × (v : List (List ℕ)) × (words ≡ codes "call" ∷ f ∷ v) × IsAnswer names f function × AreLast names v args.items
IsOutside names words (outside.CallIndirect signature callee args) =
    (s p : List ℕ) × (v : List (List ℕ)) × (words ≡ codes "call_indirect" ∷ s ∷ p ∷ v)
    × IsAnswer names s signature × IsAnswer names p callee × AreLast names v args.items

-- The words stand for an instruction that ends no block.
abbrev pub IsStraight : Names → List (List ℕ) → StraightInstruction → Type 0
IsStraight names words (straight.Plain instruction) = IsPlain names words (plan_of instruction)
IsStraight names words (straight.Outside called) = IsOutside names words called
IsStraight names words (straight.F128const bytes) = (n : List ℕ) × (words ≡ codes "f128const" ∷ n ∷ []) × IsBytes n bytes.items
IsStraight names words (straight.Vconst ty bytes) = (t n : List ℕ) × (words ≡ (codes "vconst." ++ t) ∷ n ∷ []) × IsTypeWord t ty × IsBytes n bytes.items

-- The words stand for an instruction with a constant as an operand: its name, its condition if it has one, a value and a number.
abbrev pub IsImmediate : Names → List (List ℕ) → ImmediateCall → Type 0
IsImmediate names words (immediate.IaddImmS x imm) = (a n : List ℕ) × (words ≡ codes "iadd_imm_s" ∷ a ∷ n ∷ []) × IsAnswer names a x × IsNumber n imm
IsImmediate names words (immediate.IcmpImmS cond x imm) =
    (a n : List ℕ) × (words ≡ codes "icmp_imm_s" ∷ int_cc_text cond ∷ a ∷ n ∷ []) × IsAnswer names a x × IsNumber n imm

-- The words stand for a memory helper: its name, its condition if it has one, its values, its numbers, whether the bytes overlap, and
-- its flags.
abbrev pub IsMemory : Names → List (List ℕ) → MemoryCall → Type 0
IsMemory names words (memory.CallLibrary callee first second size) =
    (v : List (List ℕ)) × (words ≡ library_call_name callee ∷ v) × AreAnswers names v (first ∷ second ∷ size ∷ [])
IsMemory names words (memory.Copy dest src size dest_align src_align apart flags) =
    (v f : List (List ℕ)) × (n a b : List ℕ) × (words ≡ codes "emit_small_memory_copy" ∷ (v ++ n ∷ a ∷ b ∷ overlap_word apart ∷ f))
    × AreAnswers names v (dest ∷ src ∷ []) × IsMagnitude n size × IsMagnitude a dest_align × IsMagnitude b src_align × AreFlags f flags
IsMemory names words (memory.Fill buffer ch size align flags) =
    (f : List (List ℕ)) × (p c n a : List ℕ) × (words ≡ codes "emit_small_memset" ∷ p ∷ c ∷ n ∷ a ∷ f)
    × IsAnswer names p buffer × IsMagnitude c ch × IsMagnitude n size × IsMagnitude a align × AreFlags f flags
IsMemory names words (memory.Compare cond left right size left_align right_align flags) =
    (v f : List (List ℕ)) × (n a b : List ℕ) × (words ≡ codes "emit_small_memory_compare" ∷ int_cc_text cond ∷ (v ++ n ∷ a ∷ b ∷ f))
    × AreAnswers names v (left ∷ right ∷ []) × IsMagnitude n size
    × IsMagnitude a (non_zero_u8_get left_align) × IsMagnitude b (non_zero_u8_get right_align) × AreFlags f flags

-- The words stand for a call along the edges of an exception table: its name, what it calls, what is passed, and the table.
abbrev pub IsThrowing : Names → List (List ℕ) → ThrowingCall → Type 0
IsThrowing names words (throwing.TryCall function args table) =
    (f t : List ℕ) × (v : List (List ℕ)) × (words ≡ codes "try_call" ∷ f ∷ (v ++ t ∷ []))
    × IsAnswer names f function × AreClosed names v args.items × IsAnswer names t table
IsThrowing names words (throwing.TryCallIndirect callee args table) =
    (p t : List ℕ) × (v : List (List ℕ)) × (words ≡ codes "try_call_indirect" ∷ p ∷ (v ++ t ∷ []))
    × IsAnswer names p callee × AreClosed names v args.items × IsAnswer names t table

-- The words stand for the call: its name, and then what it takes, in order.
abbrev pub IsCall : Names → List (List ℕ) → Call → Type 0
IsCall names words call.CreateBlock = words ≡ codes "create_block" ∷ []
IsCall names words (call.SwitchToBlock block) = (b : List ℕ) × (words ≡ codes "switch_to_block" ∷ b ∷ []) × IsAnswer names b block
IsCall names words (call.SealBlock block) = (b : List ℕ) × (words ≡ codes "seal_block" ∷ b ∷ []) × IsAnswer names b block
IsCall names words call.SealAllBlocks = words ≡ codes "seal_all_blocks" ∷ []
IsCall names words (call.InsertBlockAfter block after) = (a b : List ℕ) × (words ≡ codes "insert_block_after" ∷ a ∷ b ∷ []) × IsAnswer names a block × IsAnswer names b after
IsCall names words (call.SetColdBlock block) = (b : List ℕ) × (words ≡ codes "set_cold_block" ∷ b ∷ []) × IsAnswer names b block
IsCall names words call.EnsureInsertedBlock = words ≡ codes "ensure_inserted_block" ∷ []
IsCall names words (call.AppendBlockParam block ty) = (b t : List ℕ) × (words ≡ codes "append_block_param" ∷ b ∷ t ∷ []) × IsAnswer names b block × IsTypeWord t ty
IsCall names words (call.AppendBlockParamsForFunctionParams block) = (b : List ℕ) × (words ≡ codes "append_block_params_for_function_params" ∷ b ∷ []) × IsAnswer names b block
IsCall names words (call.AppendBlockParamsForFunctionReturns block) = (b : List ℕ) × (words ≡ codes "append_block_params_for_function_returns" ∷ b ∷ []) × IsAnswer names b block
IsCall names words (call.Entry entry) = IsEntry names words entry
IsCall names words (call.BlockCall edge) = (e : List (List ℕ)) × (words ≡ codes "block_call" ∷ e) × IsTableEdge names e edge
IsCall names words (call.CreateJumpTable default entries) =
    (d : List ℕ) × (e : List (List ℕ)) × (words ≡ codes "create_jump_table" ∷ d ∷ e) × IsAnswer names d default × AreAnswers names e entries.items
IsCall names words (call.CreateExceptionTable signature normal items) =
    (s n : List ℕ) × (i : List (List ℕ)) × (words ≡ codes "create_exception_table" ∷ s ∷ n ∷ i)
    × IsAnswer names s signature × IsAnswer names n normal × AreItems names i items.items
IsCall names words (call.DeclareVar ty) = (t : List ℕ) × (words ≡ codes "declare_var" ∷ t ∷ []) × IsTypeWord t ty
IsCall names words (call.DeclareVarNeedsStackMap variable) = (a : List ℕ) × (words ≡ codes "declare_var_needs_stack_map" ∷ a ∷ []) × IsVariable names a variable
IsCall names words (call.DeclareValueNeedsStackMap value) = (a : List ℕ) × (words ≡ codes "declare_value_needs_stack_map" ∷ a ∷ []) × IsAnswer names a value
IsCall names words (call.DefVar variable value) = (a b : List ℕ) × (words ≡ codes "def_var" ∷ a ∷ b ∷ []) × IsVariable names a variable × IsAnswer names b value
IsCall names words (call.UseVar variable) = (a : List ℕ) × (words ≡ codes "use_var" ∷ a ∷ []) × IsVariable names a variable
IsCall names words (call.TryDefVar variable value) = (a b : List ℕ) × (words ≡ codes "try_def_var" ∷ a ∷ b ∷ []) × IsVariable names a variable × IsAnswer names b value
IsCall names words (call.TryUseVar variable) = (a : List ℕ) × (words ≡ codes "try_use_var" ∷ a ∷ []) × IsVariable names a variable
IsCall names words (call.Straight lender.Ins instruction) = IsStraight names words instruction
IsCall names words (call.Straight lender.Cursor instruction) = (i : List (List ℕ)) × (words ≡ codes "cursor" ∷ i) × IsStraight names i instruction
IsCall names words (call.Immediate called) = IsImmediate names words called
IsCall names words (call.Memory called) = IsMemory names words called
IsCall names words (call.SetSrcloc srcloc) = (n : List ℕ) × (words ≡ codes "set_srcloc" ∷ n ∷ []) × IsMagnitude n srcloc
IsCall names words call.CollectDebugInfo = words ≡ codes "collect_debug_info" ∷ []
IsCall names words (call.SetValLabel value label) = (a n : List ℕ) × (words ≡ codes "set_val_label" ∷ a ∷ n ∷ []) × IsAnswer names a value × IsMagnitude n label
IsCall names words (call.ChangeJumpDestination branch from to) =
    (i a b : List ℕ) × (words ≡ codes "change_jump_destination" ∷ i ∷ a ∷ b ∷ []) × IsInst names i branch × IsAnswer names a from × IsAnswer names b to
IsCall names words (call.Jump edge) = (e : List (List ℕ)) × (words ≡ codes "jump" ∷ e) × IsLastEdge names e edge
IsCall names words (call.Brif condition first second) = (a : List ℕ) × (e f : List (List ℕ)) × (words ≡ codes "brif" ∷ a ∷ (e ++ f)) × IsAnswer names a condition × IsEdge names e first × IsLastEdge names f second
IsCall names words (call.BrTable index table) = (a t : List ℕ) × (words ≡ codes "br_table" ∷ a ∷ t ∷ []) × IsAnswer names a index × IsAnswer names t table
IsCall names words (call.Switch entries value otherwise) =
    (v o : List ℕ) × (cases : List (List ℕ)) × (words ≡ codes "switch" ∷ v ∷ o ∷ cases)
    × IsAnswer names v value × IsAnswer names o otherwise × AreSwitchCases names cases entries.items
IsCall names words (call.Throwing called) = IsThrowing names words called
IsCall names words (call.Return values) = (v : List (List ℕ)) × (words ≡ codes "return" ∷ v) × AreLast names v values.items
IsCall names words (call.Trap code) = (reason : List ℕ) × (words ≡ codes "trap" ∷ reason ∷ []) × IsTrapCode reason code
