-- Where a call meets a full table, the calls up to it and the construction may fill one, or a constant lacks.
use Rattle.std.proofs.Common.{◌≡◌, ◌≤◌, ◌⊎◌, inl, inr, ℕ, ◌+◌, ◌*◌, ◌-◌, ◌^◌, List, [], ◌∷◌, length, ap, arith, refl, sym, ◌∙◌}
use Rattle.std.specs.Prelude.{◌==◌, ◌/◌, if◌then◌else◌, Bool, true, false, Option}
use Rattle.std.proofs.lemmas.Bool.{false≢true}
use Rattle.std.proofs.lemmas.List.{length-map}
use Rattle.std.proofs.lemmas.Nat.{mul-le}
use Rattle.clif_types.specs.Signature.{SignatureShape}
use Rattle.clif_types.specs.declared.extfunc.AbiParam.{AbiParam}
use Rattle.clif_types.specs.declared.target.TargetFrontendConfig.{TargetFrontendConfig}
use Rattle.clif_types.specs.declared.types.«Type».{«Type»}
use Rattle.clif_tables.specs.Lists.{TableLists}
use Rattle.clif_ir.specs.Body.{Body}
use Rattle.clif_ir.specs.Changes.{HasNoRoom}
use Rattle.clif_ssa.specs.Constructs.{OnlyConstructs}
use Rattle.clif_ssa.specs.Limits.{IsFull}
use Rattle.clif_ssa.specs.Pools.{LacksZero, SealingIsFull, WaitsWithType}
use Rattle.clif_access_plans.specs.Plans.{move_plan, type_of_bytes}
use Rattle.clif_access_plans.specs.declared.moving.MovePlan.TheVariants as move
use Rattle.clif_meaning.specs.ByteOperation.{ByteOperation, CallLibrary, CompareBytes, Copy, Fill, access_size, is_by_accesses}
use Rattle.clif_meaning.specs.Ledger.{Ledger, VariableState, ledger_after}
use Rattle.clif_meaning.specs.Request.{script_of}
use Rattle.clif_meaning.specs.Sizes.{Table, Values, Instructions, Blocks, Constants, JumpTables, ExceptionTables, StackSlots, DynamicStackSlots, GlobalValues, Signatures, Functions, entries_in}
use Rattle.clif_builder.specs.Counted.{IsWithinCalls}
use Rattle.clif_builder.specs.Ledger.{tables_of_calls}
use Rattle.clif_builder.specs.declared.builder.FunctionBuilder.{FunctionBuilder}
use Rattle.clif_builder.proofs.Counted.{agreeing_is_within}
use Rattle.clif_calls.specs.Plan.{plan_of}
use Rattle.clif_calls.specs.declared.call.Call.{Call}
use Rattle.clif_calls.specs.declared.call.Call.TheVariants as call
use Rattle.clif_calls.specs.declared.entry.EntryCall.TheVariants as entry
use Rattle.clif_calls.specs.declared.immediate.ImmediateCall.TheVariants as immediate
use Rattle.clif_calls.specs.declared.memory.MemoryCall.{MemoryCall}
use Rattle.clif_calls.specs.declared.outside.OutsideCall.{OutsideCall}
use Rattle.clif_calls.specs.declared.outside.OutsideCall.TheVariants as outside
use Rattle.clif_calls.specs.declared.plan.Plan.{Plan}
use Rattle.clif_calls.specs.declared.plan.Plan.TheVariants as plan
use Rattle.clif_calls.specs.declared.straight.StraightInstruction.TheVariants as straight
use Rattle.clif_expansion.specs.ScriptCall.{Ask, ScriptCall, ledger_of}
use Rattle.clif_expansion.proofs.JoinedCalls.{joined_calls}
use Rattle.clif_memory_helpers.specs.Sizes.{copy_makes, fill_makes, helper_makes, line_makes, move_makes}
use Rattle.clif_switch_calls.specs.SwitchSizes.{switch_makes}
use Rattle.clif_resolution.specs.Entries.{Numbers}
use Rattle.clif_resolution.specs.declared.answers.Answer.{Answer}
use Rattle.clif_replay.specs.Cases.{keys_of}
use Rattle.clif_replay.specs.Entries.{numbers_in}
use Rattle.clif_replay.specs.Helpers.{helper_under, moves_nothing, nothing_moved, operation_in}
use Rattle.clif_replay.specs.Limits.{ConstructsUntil, EmissionMeetsFullTable, LacksBytes, MayFill, PlanMeetsFullTable, StopsAtFullTable, is_counted, returns_in}
use Rattle.clif_replay.specs.Ready.{TablesAgree}
use Rattle.clif_replay.specs.Requests.{call_of, name_of, outside_request, request_in}
use Rattle.clif_replay.specs.Sums.{LacksConstant, MayFillTable, call_makes, calls_make, construction_makes}
use Rattle.clif_replay.proofs.LedgerSizes.{joined-variables, ledger-made, ledger_entries}
use Rattle.clif_replay.proofs.Stepping.{IsInStep}

-- tables that agree are as many
agree-long : {A B : Type 0} (Agree : A → B → Type 0) (tables : List (Option A)) (others : List (Option B)) → TablesAgree Agree tables others → length tables ≡ length others
agree-long Agree [] [] agree = refl
agree-long Agree (table ∷ tables) (made ∷ others) agree = let rest = agree-long Agree tables others agree.1 in omega (arith, rest)
agree-long Agree [] (made ∷ others) agree = absurd agree
agree-long Agree (table ∷ tables) [] agree = absurd agree

-- a helper that moves nothing makes nothing
none-in : (table : Table) → line_makes 0 0 0 0 table ≡ 0
none-in Values = refl
none-in _ = refl

plan-made : (size : ℕ) (pieces : (count : ℕ) → Table → ℕ) (table : Table) → (size == 0) ≡ true → move_makes (move_plan size) pieces table ≡ 0
plan-made size pieces table moves =
    ap (λ (none : Bool). move_makes (if none then move.Nothing
    else (if is_by_accesses size then move.Inline (record { ty = type_of_bytes (access_size size); bytes = access_size size; count = size / access_size size }) else move.LibraryCall)) pieces table) moves
    ∙ none-in table

nothing-made : (config : TargetFrontendConfig) (operation : ByteOperation) (table : Table) → moves_nothing operation ≡ true → helper_makes config operation table ≡ 0
nothing-made config (Copy copy) table moves = plan-made copy.size copy_makes table moves
nothing-made config (Fill fill) table moves = plan-made fill.size fill_makes table moves
nothing-made config (CompareBytes compared) table moves = absurd (false≢true moves)
nothing-made config (CallLibrary callee) table moves = absurd (false≢true moves)

module _ {R : Type 0} (config : TargetFrontendConfig) (declared : SignatureShape) (script : List ScriptCall) (b : FunctionBuilder R) (answers : List Answer) (s : IsInStep config declared script b answers) where
  abbrev f : Body
  f = b.func.now

  abbrev ledger : Ledger
  ledger = ledger_of script

  abbrev variables : ℕ
  variables = length ledger.variables

  -- what is counted for the calls and for the construction
  abbrev most : Table → ℕ
  most table = calls_make config script table + construction_makes variables (calls_make config script Blocks) table

  -- WHAT THE FUNCTION HAS ------------------------------------------------------------------------------------------------

  variables-counted : length b.ctx.now.parts.variables ≡ variables
  variables-counted =
      ap (λ (types : List «Type»). length types) (sym s.ready.stands.ledger.variables.types)
      ∙ length-map (ledger_after (script_of s.made)).variables (λ (state : VariableState). state.ty)
      ∙ joined-variables s.known.calls.reading (script_of s.made) script s.known.calls.joined

  tables-same : ledger.tables ≡ tables_of_calls f.tables
  tables-same = sym (joined_calls s.known.calls.reading (script_of s.made) script s.known.calls.joined).ledgers.states.tables ∙ s.ready.stands.ledger.tables

  blocks-few : length f.blocks ≤ calls_make config script Blocks
  blocks-few =
      let count = s.ready.stands.ledger.block_count in
      let made = ledger-made (script_of s.made) Blocks in
      let sizes = s.sizes Blocks in
      omega (arith, count, made, sizes)

  pairs-few : length b.ctx.now.parts.variables * length f.blocks ≤ variables * calls_make config script Blocks
  pairs-few = mul-le _ _ _ _ (let same = variables-counted in omega (arith, same)) blocks-few

  -- what is within the plain calls is within what is counted
  values-within : (g : Body) → IsWithinCalls s.made (length b.ctx.now.parts.variables) (length f.blocks) g → length g.values ≤ most Values
  values-within g within = omega (arith, within.values, s.sizes Values, pairs-few)

  insts-within : (g : Body) → IsWithinCalls s.made (length b.ctx.now.parts.variables) (length f.blocks) g → length g.insts ≤ most Instructions
  insts-within g within = omega (arith, within.insts, s.sizes Instructions, pairs-few)

  itself : IsWithinCalls s.made (length b.ctx.now.parts.variables) (length f.blocks) f
  itself = agreeing_is_within s.made f b.ctx.now.parts s.ready.stands.ledger.counts

  -- a table of which the ledger tells
  told : (table : Table) → ledger_entries (ledger_after (script_of s.made)) table ≤ calls_make config script table
  told table =
      let made = ledger-made (script_of s.made) table in
      let sizes = s.sizes table in
      omega (arith, made, sizes)

  -- one of those that entries are made in
  entries-told : (count : TableLists → ℕ) → count (ledger_after (script_of s.made)).tables ≡ count (tables_of_calls f.tables)
  entries-told count = ap count s.ready.stands.ledger.tables

  has : (table : Table) → is_counted table ≡ true → entries_in f table ≤ most table
  has Values is = values-within f itself
  has Instructions is = insts-within f itself
  has Blocks is = let few = blocks-few in omega (arith, few)
  has Constants is = absurd (false≢true is)
  has JumpTables is =
      let made = told JumpTables in
      let same = agree-long _ (ledger_after (script_of s.made)).jump_tables f.tables.jump_tables s.ready.tables in
      omega (arith, made, same)
  has ExceptionTables is =
      let made = told ExceptionTables in
      let same = agree-long _ (ledger_after (script_of s.made)).exception_tables f.tables.exception_tables s.ready.exceptions in
      omega (arith, made, same)
  has StackSlots is = let made = told StackSlots in let same = entries-told (λ tables. length tables.stack_slots) in omega (arith, made, same)
  has DynamicStackSlots is = let made = told DynamicStackSlots in let same = entries-told (λ tables. length tables.dynamic_stack_slots) in omega (arith, made, same)
  has GlobalValues is = let made = told GlobalValues in let same = entries-told (λ tables. length tables.global_values) in omega (arith, made, same)
  has Signatures is = let made = told Signatures in let same = entries-told (λ tables. length tables.signatures) in omega (arith, made, same)
  has Functions is = let made = told Functions in let same = entries-told (λ tables. length tables.functions) in omega (arith, made, same)

  -- WHAT A CALL MAY FILL --------------------------------------------------------------------------------------------------

  module _ (this : ScriptCall) where
    -- with what it makes itself
    filled : (table : Table) → is_counted table ≡ true → 2 ^ 32 - 1 ≤ entries_in f table + call_makes config this table → MayFillTable config script this
    filled table is fills = let few = has table is in inl (table, omega (arith, few, fills))

    -- or without it
    full : (table : Table) → is_counted table ≡ true → entries_in f table ≡ 2 ^ 32 - 1 → MayFillTable config script this
    full table is same = filled table is (omega (arith, same))

    of-full : IsFull f → MayFillTable config script this
    of-full (inl values) = full Values refl values
    of-full (inr insts) = full Instructions refl insts

    -- the construction fills a table, within what is counted
    constructed : (g : Body) → IsWithinCalls s.made (length b.ctx.now.parts.variables) (length f.blocks) g → IsFull g → MayFillTable config script this
    constructed g within (inl values) = let few = values-within g within in inl (Values, omega (arith, few, values))
    constructed g within (inr insts) = let few = insts-within g within in inl (Instructions, omega (arith, few, insts))

    of-room : (results : ℕ) → HasNoRoom f results → call_makes config this Values ≡ results → MayFillTable config script this
    of-room results (inl insts) makes = full Instructions refl insts
    of-room results (inr (inl values)) makes = full Values refl values
    of-room results (inr (inr few)) makes = filled Values refl (omega (arith, few, makes))

    of-emission : EmissionMeetsFullTable f → call_makes config this Values ≡ 3 → call_makes config this Instructions ≡ 3 → MayFillTable config script this
    of-emission (made, less, inl insts) values instructions = filled Instructions refl (omega (arith, less, insts, instructions))
    of-emission (made, less, inr values) values-made instructions = filled Values refl (omega (arith, less, values, values-made))

    of-fill : (makes : Table → ℕ) → MayFill makes f → ((table : Table) → makes table ≤ call_makes config this table) → MayFillTable config script this
    of-fill makes (table, is, fills) few = let less = few table in filled table is (omega (arith, fills, less))

  of-plan : (numbers : Numbers) (plan : Plan) → PlanMeetsFullTable plan f → MayFillTable config script (Ask (request_in numbers name_of ledger plan))
  of-plan numbers (plan.Split arg) meets = of-room (Ask (request_in numbers name_of ledger (plan.Split arg))) 2 meets refl
  of-plan numbers other meets = of-full (Ask (request_in numbers name_of ledger other)) meets

  of-outside : (numbers : Numbers) (called : OutsideCall) → HasNoRoom f (length (returns_in numbers f.tables called)) → MayFillTable config script (Ask (outside_request numbers name_of ledger called))
  of-outside numbers (outside.Call function args) meets =
      of-room (Ask (outside_request numbers name_of ledger (outside.Call function args))) (length (returns_in numbers f.tables (outside.Call function args))) meets
      (ap (λ (tables : TableLists). call_makes config (Ask (outside_request numbers name_of (record ledger { tables = tables }) (outside.Call function args))) Values) tables-same
      ∙ length-map (returns_in numbers f.tables (outside.Call function args)) (λ (param : AbiParam). param.value_type))
  of-outside numbers (outside.CallIndirect signature callee args) meets =
      of-room (Ask (outside_request numbers name_of ledger (outside.CallIndirect signature callee args))) (length (returns_in numbers f.tables (outside.CallIndirect signature callee args))) meets
      (ap (λ (tables : TableLists). call_makes config (Ask (outside_request numbers name_of (record ledger { tables = tables }) (outside.CallIndirect signature callee args))) Values) tables-same
      ∙ length-map (returns_in numbers f.tables (outside.CallIndirect signature callee args)) (λ (param : AbiParam). param.value_type))

  of-memory : (called : MemoryCall) → MayFill (helper_makes config (operation_in called)) f → MayFillTable config script (call_of config declared ledger (call.Memory called))
  of-memory called fills = by (moves_nothing (operation_in called)) refl
    where
      by : (none : Bool) → moves_nothing (operation_in called) ≡ none
          → MayFillTable config script (if none then Ask (nothing_moved name_of called) else helper_under config name_of ledger called)
      by true moves = of-fill (Ask (nothing_moved name_of called)) (helper_makes config (operation_in called)) fills (λ table. let none = nothing-made config (operation_in called) table moves in omega (arith, none))
      by false moves = of-fill (helper_under config name_of ledger called) (helper_makes config (operation_in called)) fills (λ table. omega arith)

  module _ (c : Call) where
    -- a seal constructs until a table is full, or lacks the zero of a parameter that waits
    of-sealing : ConstructsUntil (SealingIsFull (WaitsWithType f b.ctx.now.parts.ssa)) f b.ctx.now.parts b.position
        → MayFillTable config script (call_of config declared ledger c)
        ⊎ ((ty : «Type») × WaitsWithType f b.ctx.now.parts.ssa ty × (g : Body) × OnlyConstructs f g × LacksZero ty g)
    of-sealing (g, only, inl is, within) = inl (constructed (call_of config declared ledger c) g (within s.made s.ready.stands.ledger) is)
    of-sealing (g, only, inr (ty, waits, lacks), within) = inr (ty, waits, g, only, lacks)

    of-use : (variable : ℕ) → StopsAtFullTable config (numbers_in name_of ledger) (call.UseVar variable) f b.ctx.now.parts b.position
        → MayFillTable config script (call_of config declared ledger c) ⊎ LacksConstant (call.UseVar variable) f b.ctx.now.parts
    of-use variable (ty, is, (g, only, inl is-full, within)) = inl (constructed (call_of config declared ledger c) g (within s.made s.ready.stands.ledger) is-full)
    of-use variable (ty, is, (g, only, inr lacks, within)) = inr (ty, is, g, only, lacks)

  of-constant : (this : ScriptCall) (bytes : List ℕ) → LacksBytes bytes f ⊎ IsFull f → MayFillTable config script this ⊎ LacksBytes bytes f
  of-constant this bytes (inl lacks) = inr lacks
  of-constant this bytes (inr is) = inl (of-full this is)

  abbrev scripted : Call → ScriptCall
  scripted c = call_of config declared ledger c

  pub may-fill : (c : Call) → StopsAtFullTable config (numbers_in name_of ledger) c f b.ctx.now.parts b.position
      → MayFillTable config script (call_of config declared ledger c) ⊎ LacksConstant c f b.ctx.now.parts
  may-fill call.CreateBlock meets = inl (full (scripted call.CreateBlock) Blocks refl meets)
  may-fill (call.Entry (entry.CreateSizedStackSlot size align_shift)) meets = inl (full (scripted (call.Entry (entry.CreateSizedStackSlot size align_shift))) StackSlots refl meets)
  may-fill (call.Entry (entry.CreateDynamicStackSlot slot)) meets = inl (full (scripted (call.Entry (entry.CreateDynamicStackSlot slot))) DynamicStackSlots refl meets)
  may-fill (call.Entry (entry.CreateGlobalValue value)) meets = inl (full (scripted (call.Entry (entry.CreateGlobalValue value))) GlobalValues refl meets)
  may-fill (call.Entry (entry.ImportSignature signature)) meets = inl (full (scripted (call.Entry (entry.ImportSignature signature))) Signatures refl meets)
  may-fill (call.Entry (entry.ImportFunction function)) meets = inl (full (scripted (call.Entry (entry.ImportFunction function))) Functions refl meets)
  may-fill (call.CreateJumpTable default entries) meets = inl (full (scripted (call.CreateJumpTable default entries)) JumpTables refl meets)
  may-fill (call.CreateExceptionTable signature normal items) meets = inl (full (scripted (call.CreateExceptionTable signature normal items)) ExceptionTables refl meets)
  may-fill (call.DeclareVar ty) meets = inl (inr (let same = variables-counted in omega (arith, same, meets)))
  may-fill (call.AppendBlockParam block ty) meets = inl (full (scripted (call.AppendBlockParam block ty)) Values refl meets)
  may-fill (call.AppendBlockParamsForFunctionParams block) (made, less, is) =
      let long = ap (λ (signature : SignatureShape). length signature.params) s.ready.stands.signature in
      let types = length-map declared.params (λ (param : AbiParam). param.value_type) in
      inl (filled (scripted (call.AppendBlockParamsForFunctionParams block)) Values refl (omega (arith, less, is, long, types)))
  may-fill (call.AppendBlockParamsForFunctionReturns block) (made, less, is) =
      let long = ap (λ (signature : SignatureShape). length signature.returns) s.ready.stands.signature in
      let types = length-map declared.returns (λ (param : AbiParam). param.value_type) in
      inl (filled (scripted (call.AppendBlockParamsForFunctionReturns block)) Values refl (omega (arith, less, is, long, types)))
  may-fill (call.Straight lender (straight.Plain instruction)) meets = inl (of-plan (numbers_in name_of ledger) (plan_of instruction) meets)
  may-fill (call.Straight lender (straight.Outside called)) meets = inl (of-outside (numbers_in name_of ledger) called meets)
  may-fill (call.Straight lender (straight.F128const bytes)) meets = of-constant (scripted (call.Straight lender (straight.F128const bytes))) bytes.items meets
  may-fill (call.Straight lender (straight.Vconst ty bytes)) meets = of-constant (scripted (call.Straight lender (straight.Vconst ty bytes))) bytes.items meets
  may-fill (call.Immediate (immediate.IaddImmS x imm)) meets = inl (of-emission (scripted (call.Immediate (immediate.IaddImmS x imm))) meets refl refl)
  may-fill (call.Immediate (immediate.IcmpImmS cond x imm)) meets = inl (of-emission (scripted (call.Immediate (immediate.IcmpImmS cond x imm))) meets refl refl)
  may-fill (call.Switch entries value otherwise) meets = inl (of-fill (scripted (call.Switch entries value otherwise)) (switch_makes (length (keys_of entries.items))) meets (λ table. omega arith))
  may-fill (call.Memory called) meets = inl (of-memory called meets)
  may-fill (call.Jump destination) meets = inl (of-full (scripted (call.Jump destination)) meets)
  may-fill (call.Brif condition block_then block_else) meets = inl (of-full (scripted (call.Brif condition block_then block_else)) meets)
  may-fill (call.BrTable index table) meets = inl (of-full (scripted (call.BrTable index table)) meets)
  may-fill (call.Throwing called) meets = inl (of-full (scripted (call.Throwing called)) meets)
  may-fill (call.Return values) meets = inl (of-full (scripted (call.Return values)) meets)
  may-fill (call.Trap code) meets = inl (of-full (scripted (call.Trap code)) meets)
  may-fill (call.UseVar variable) meets = of-use (call.UseVar variable) variable meets
  may-fill (call.TryUseVar variable) meets = of-use (call.TryUseVar variable) variable meets
  may-fill (call.SealBlock block) meets = of-sealing (call.SealBlock block) meets
  may-fill call.SealAllBlocks meets = of-sealing call.SealAllBlocks meets
  may-fill _ meets = absurd meets
