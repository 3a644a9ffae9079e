-- Where a call meets a full table. Source: own.
use Rattle.std.specs.Prelude.{◌≡◌, ◌<◌, ◌≤◌, ◌+◌, ◌-◌, ◌^◌, ◌⊎◌, ℕ, Bool, List, Option, false, true, length, slice_get, Some}
use Rattle.clif_tables.specs.Callees.{function_at, signature_at}
use Rattle.clif_tables.specs.Constants.{has_constant}
use Rattle.clif_tables.specs.Lists.{TableLists}
use Rattle.clif_ir.specs.Body.{Body}
use Rattle.clif_ssa.specs.Constructs.{OnlyConstructs}
use Rattle.clif_ssa.specs.Limits.{IsFull}
use Rattle.clif_ssa.specs.Pools.{SealingIsFull, UseIsFull, WaitsWithType}
use Rattle.clif_types.specs.declared.extfunc.AbiParam.{AbiParam}
use Rattle.clif_types.specs.declared.types.«Type».{«Type»}
use Rattle.clif_ir.specs.Changes.{HasNoRoom}
use Rattle.clif_calls.specs.Plan.{plan_of}
use Rattle.clif_calls.specs.declared.outside.OutsideCall.{OutsideCall}
use Rattle.clif_calls.specs.declared.outside.OutsideCall.TheVariants as outside
use Rattle.clif_calls.specs.declared.straight.StraightInstruction.{StraightInstruction}
use Rattle.clif_calls.specs.declared.straight.StraightInstruction.TheVariants as straight
use Rattle.clif_calls.specs.declared.plan.Plan.{Plan}
use Rattle.clif_calls.specs.declared.plan.Plan.TheVariants as plan
use Rattle.clif_calls.specs.declared.call.Call.{Call}
use Rattle.clif_calls.specs.declared.call.Call.TheVariants as call
use Rattle.clif_types.specs.declared.target.TargetFrontendConfig.{TargetFrontendConfig}
use Rattle.clif_meaning.specs.Request.{AnsweredCall}
use Rattle.clif_meaning.specs.Sizes.{Table, Constants, entries_in}
use Rattle.clif_builder.specs.Context.{ContextState}
use Rattle.clif_builder.specs.Counted.{IsWithinCalls}
use Rattle.clif_builder.specs.Ledger.{AgreesIn}
use Rattle.clif_memory_helpers.specs.Sizes.{helper_makes}
use Rattle.clif_switch_calls.specs.SwitchSizes.{switch_makes}
use Rattle.clif_replay.specs.Cases.{keys_of}
use Rattle.clif_replay.specs.Helpers.{operation_in}
use Rattle.clif_builder.specs.Growth.{NoRoomFor}
use Rattle.clif_resolution.specs.Entries.{Functions, Numbers, Signatures}
use Rattle.clif_replay.specs.Entries.{count_with}

-- the function has at most as many values and instructions as the calls make that were made so far, on a builder of this function, context
-- and current block, beside what the construction makes of them
abbrev pub IsWithin : Body → ContextState → Option ℕ → Body → Type 0
IsWithin f c p g = (calls : List AnsweredCall) → AgreesIn calls f c p → IsWithinCalls calls (length c.variables) (length f.blocks) g

-- The construction of SSA form alone leads from this function to one in which a table is full, and which is within what calls make.
abbrev pub ConstructsUntil : (Body → Type 0) → Body → ContextState → Option ℕ → Type 0
ConstructsUntil TableIsFull f c p = (g : Body) × OnlyConstructs f g × TableIsFull g × IsWithin f c p g

-- That of values is, or that of instructions; or that of constants, and the zero of the variable's type needs one more.
abbrev pub UseMeetsFullTable : ℕ → Body → ContextState → Option ℕ → Type 0
UseMeetsFullTable variable f c p = (ty : «Type») × (slice_get c.variables variable ≡ Some ty) × ConstructsUntil (UseIsFull ty) f c p

-- the same for the type of a parameter that waits
abbrev pub SealingMeetsFullTable : Body → ContextState → Option ℕ → Type 0
SealingMeetsFullTable f c p = ConstructsUntil (SealingIsFull (WaitsWithType f c.ssa)) f c p

-- all tables but that of constants, into which equal ones go once
abbrev pub is_counted : Table → Bool
is_counted Constants = false
is_counted _ = true

-- such a table has no room for so many entries more, and may be filled by them
abbrev pub MayFill : (most : Table → ℕ) → Body → Type 0
MayFill most f = (table : Table) × (is_counted table ≡ true) × (2 ^ 32 - 1 ≤ entries_in f table + most table)

-- An instruction of this plan finds the table of instructions or that of values full; or, of one with two results, the table
-- of values has a number left for one of them alone.
abbrev pub PlanMeetsFullTable : Plan → Body → Type 0
PlanMeetsFullTable (plan.Split arg) f = HasNoRoom f 2
PlanMeetsFullTable _ f = IsFull f

-- The table of instructions or that of values is full behind so many instructions with one result each: behind none, one or two,
-- as there are at most three.
abbrev pub EmissionMeetsFullTable : Body → Type 0
EmissionMeetsFullTable f = (made : ℕ) × (made < 3) × ((length f.insts + made ≡ 2 ^ 32 - 1) ⊎ (length f.values + made ≡ 2 ^ 32 - 1))

-- the bytes are no constant so far, and the table of constants is full
abbrev pub LacksBytes : List ℕ → Body → Type 0
LacksBytes bytes f = (has_constant f.tables.constants bytes ≡ false) × (length f.tables.constants ≡ 2 ^ 32 - 1)

-- They lack; or, with the constant there, the table of instructions or that of values is full.
abbrev pub ConstantMeetsFullTable : List ℕ → Body → Type 0
ConstantMeetsFullTable bytes f = LacksBytes bytes f ⊎ IsFull f

-- what an outside call gives, by the signature of what it calls
abbrev pub returns_in : Numbers → TableLists → OutsideCall → List AbiParam
returns_in numbers tables (outside.Call function args) = (signature_at tables (function_at tables (numbers Functions function)).signature).returns
returns_in numbers tables (outside.CallIndirect signature callee args) = (signature_at tables (numbers Signatures signature)).returns

-- An instruction that ends no block, with these numbers of entries.
abbrev pub StraightMeetsFullTable : Numbers → StraightInstruction → Body → Type 0
StraightMeetsFullTable numbers (straight.Plain instruction) f = PlanMeetsFullTable (plan_of instruction) f
StraightMeetsFullTable numbers (straight.Outside called) f = HasNoRoom f (length (returns_in numbers f.tables called))
StraightMeetsFullTable numbers (straight.F128const bytes) f = ConstantMeetsFullTable bytes.items f
StraightMeetsFullTable numbers (straight.Vconst ty bytes) f = ConstantMeetsFullTable bytes.items f

-- A call with these numbers of entries, made so far as it is made, meets a table that holds 2^32 - 1 entries: a call that lengthens a table finds it full,
-- an outside call doesn't find room for all that it gives, one with a constant as an operand finds them full at one of its
-- instructions, one that makes several parameters fills the table of values before it has made them all, and a use of a variable and a
-- sealing construct until a table is full, within what the calls so far make and what the construction makes for their variables and blocks. A switch fills a
-- table by the entries that its keys take at most. A memory helper that moves nothing finds a full table. No other call lengthens a table.
abbrev pub MeetsFullTable : Numbers → Call → Body → ContextState → Option ℕ → Type 0
MeetsFullTable numbers call.CreateBlock f c p = length f.blocks ≡ 2 ^ 32 - 1
MeetsFullTable numbers (call.Entry entry) f c p = count_with f.tables entry ≡ 2 ^ 32 - 1
MeetsFullTable numbers (call.CreateJumpTable default entries) f c p = length f.tables.jump_tables ≡ 2 ^ 32 - 1
MeetsFullTable numbers (call.CreateExceptionTable signature normal items) f c p = length f.tables.exception_tables ≡ 2 ^ 32 - 1
MeetsFullTable numbers (call.DeclareVar ty) f c p = length c.variables ≡ 2 ^ 32 - 1
MeetsFullTable numbers (call.AppendBlockParam block ty) f c p = length f.values ≡ 2 ^ 32 - 1
MeetsFullTable numbers (call.AppendBlockParamsForFunctionParams block) f c p = NoRoomFor f (length f.signature.params)
MeetsFullTable numbers (call.AppendBlockParamsForFunctionReturns block) f c p = NoRoomFor f (length f.signature.returns)
MeetsFullTable numbers (call.Straight lender instruction) f c p = StraightMeetsFullTable numbers instruction f
MeetsFullTable numbers (call.Immediate called) f c p = EmissionMeetsFullTable f
MeetsFullTable numbers (call.Switch entries value otherwise) f c p = MayFill (switch_makes (length (keys_of entries.items))) f
MeetsFullTable numbers (call.Memory called) f c p = MayFill (λ table. 0) f
MeetsFullTable numbers (call.Jump destination) f c p = IsFull f
MeetsFullTable numbers (call.Brif condition block_then block_else) f c p = IsFull f
MeetsFullTable numbers (call.BrTable index table) f c p = IsFull f
MeetsFullTable numbers (call.Throwing called) f c p = IsFull f
MeetsFullTable numbers (call.Return values) f c p = IsFull f
MeetsFullTable numbers (call.Trap code) f c p = IsFull f
MeetsFullTable numbers (call.UseVar variable) f c p = UseMeetsFullTable variable f c p
MeetsFullTable numbers (call.TryUseVar variable) f c p = UseMeetsFullTable variable f c p
MeetsFullTable numbers (call.SealBlock block) f c p = SealingMeetsFullTable f c p
MeetsFullTable numbers call.SealAllBlocks f c p = SealingMeetsFullTable f c p
MeetsFullTable numbers (call.SwitchToBlock block) f c p = ⊥
MeetsFullTable numbers (call.DeclareVarNeedsStackMap variable) f c p = ⊥
MeetsFullTable numbers (call.DeclareValueNeedsStackMap value) f c p = ⊥
MeetsFullTable numbers (call.BlockCall edge) f c p = ⊥
MeetsFullTable numbers (call.InsertBlockAfter block after) f c p = ⊥
MeetsFullTable numbers (call.SetColdBlock block) f c p = ⊥
MeetsFullTable numbers call.EnsureInsertedBlock f c p = ⊥
MeetsFullTable numbers (call.SetSrcloc srcloc) f c p = ⊥
MeetsFullTable numbers call.CollectDebugInfo f c p = ⊥
MeetsFullTable numbers (call.SetValLabel value label) f c p = ⊥
MeetsFullTable numbers (call.ChangeJumpDestination branch from to) f c p = ⊥
MeetsFullTable numbers (call.DefVar variable value) f c p = ⊥
MeetsFullTable numbers (call.TryDefVar variable value) f c p = ⊥

-- So it stops a list of calls: a memory helper may fill a table by the entries that its code takes at most, any other call as above.
abbrev pub StopsAtFullTable : TargetFrontendConfig → Numbers → Call → Body → ContextState → Option ℕ → Type 0
StopsAtFullTable config numbers (call.Memory called) f c p = MayFill (helper_makes config (operation_in called)) f
StopsAtFullTable config numbers call f c p = MeetsFullTable numbers call f c p
