-- How many entries of each table of a function the calls of a list make at most. A switch is counted by its keys, and a memory helper by
-- its operation and the target: by the code that they make, and by no other code that would do for them. Own.
use Rattle.std.specs.Prelude.{◌≡◌, ◌⊎◌, ◌≤◌, ◌+◌, ◌*◌, ◌-◌, ◌^◌, ℕ, List, [], ◌∷◌, length, slice_get, Some}
use Rattle.clif_types.specs.declared.target.TargetFrontendConfig.{TargetFrontendConfig}
use Rattle.clif_types.specs.declared.types.«Type».{«Type»}
use Rattle.clif_ir.specs.Body.{Body}
use Rattle.clif_ssa.specs.Constructs.{OnlyConstructs}
use Rattle.clif_ssa.specs.Pools.{LacksZero, WaitsWithType}
use Rattle.clif_meaning.specs.Instruction.{Operation, Compute, AddConstant, CompareConstant, Switch, Bytes}
use Rattle.clif_meaning.specs.Sizes.{Table, Blocks, Instructions, Values, made_by}
use Rattle.clif_memory_helpers.specs.Sizes.{helper_makes}
use Rattle.clif_switch_calls.specs.SwitchSizes.{switch_makes}
use Rattle.clif_expansion.specs.ScriptCall.{Ask, Emit, ScriptCall, ledger_of}
use Rattle.clif_builder.specs.Context.{ContextState}
use Rattle.clif_calls.specs.declared.call.Call.{Call}
use Rattle.clif_calls.specs.declared.call.Call.TheVariants as call
use Rattle.clif_calls.specs.declared.straight.StraightInstruction.TheVariants as straight
use Rattle.clif_replay.specs.Limits.{LacksBytes}

-- A constant as an operand is made in at most two instructions, and is an operand of a third one. Each has one result.
abbrev pub immediate_makes : Table → ℕ
immediate_makes Values = 3
immediate_makes Instructions = 3
immediate_makes _ = 0

-- what is made for an instruction that only scripts have
abbrev pub emitted : TargetFrontendConfig → Operation → Table → ℕ
emitted config (Compute (AddConstant number)) table = immediate_makes table
emitted config (Compute (CompareConstant condition number)) table = immediate_makes table
emitted config (Switch keys) table = switch_makes (length keys) table
emitted config (Bytes operation) table = helper_makes config operation table
emitted config _ table = 0

-- what a call makes
abbrev pub call_makes : TargetFrontendConfig → ScriptCall → Table → ℕ
call_makes config (Ask request) table = made_by request table
call_makes config (Emit imports instruction) table = emitted config instruction.operation table

-- what calls make together
abbrev pub calls_make : TargetFrontendConfig → List ScriptCall → Table → ℕ
calls_make config [] table = 0
calls_make config (call ∷ calls) table = call_makes config call table + calls_make config calls table

-- What the construction of SSA form makes beside them: for each variable and block at most one parameter, and at most two instructions with
-- a result each.
abbrev pub construction_makes : (variables blocks : ℕ) → Table → ℕ
construction_makes variables blocks Values = 3 * (variables * blocks)
construction_makes variables blocks Instructions = 2 * (variables * blocks)
construction_makes variables blocks _ = 0

-- Calls and the one behind them, which meets a full table, may need all of the 2^32 - 1 numbers of a table: those that they make
-- themselves, with what the construction makes for the variables that were declared and the blocks that were made; or as many variables
-- were declared.
abbrev pub MayFillTable : TargetFrontendConfig → List ScriptCall → ScriptCall → Type 0
MayFillTable config calls call =
    let variables = length (ledger_of calls).variables in
    ((table : Table) × (2 ^ 32 - 1 ≤ calls_make config calls table + construction_makes variables (calls_make config calls Blocks) table + call_makes config call table))
    ⊎ (2 ^ 32 - 1 ≤ variables)

-- The table of constants has as many as it can, and the call needs one that isn't among them: its own bytes, or the zero of a type that
-- the construction needs behind what it made itself.
abbrev pub LacksConstant : Call → Body → ContextState → Type 0
LacksConstant (call.Straight lender (straight.F128const bytes)) f c = LacksBytes bytes.items f
LacksConstant (call.Straight lender (straight.Vconst ty bytes)) f c = LacksBytes bytes.items f
LacksConstant (call.UseVar variable) f c = (ty : «Type») × (slice_get c.variables variable ≡ Some ty) × (g : Body) × OnlyConstructs f g × LacksZero ty g
LacksConstant (call.TryUseVar variable) f c = (ty : «Type») × (slice_get c.variables variable ≡ Some ty) × (g : Body) × OnlyConstructs f g × LacksZero ty g
LacksConstant (call.SealBlock block) f c = (ty : «Type») × WaitsWithType f c.ssa ty × (g : Body) × OnlyConstructs f g × LacksZero ty g
LacksConstant call.SealAllBlocks f c = (ty : «Type») × WaitsWithType f c.ssa ty × (g : Body) × OnlyConstructs f g × LacksZero ty g
LacksConstant _ f c = ⊥
