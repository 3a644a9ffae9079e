-- What calls make at most: plain calls, with their names read and one behind another, the script's calls that these stand for, and the
-- plain calls of a sum or a comparison with a constant.
use Rattle.std.proofs.Common.{◌≡◌, ◌≤◌, ◌+◌, ℕ, List, [], ◌∷◌, ◌++◌, length, refl, ap, arith, ◌∙◌}
use Rattle.std.specs.Prelude.{ℤ}
use Rattle.clif_types.specs.declared.target.TargetFrontendConfig.{TargetFrontendConfig}
use Rattle.clif_types.specs.declared.types.LaneType.TheVariants as lane
use Rattle.clif_types.specs.declared.types.«Type».{«Type»}
use Rattle.clif_types.specs.declared.types.«Type».TheVariants as type
use Rattle.clif_meaning.specs.Instruction.{Arithmetic, Compute, Operation}
use Rattle.clif_meaning.specs.Name.{Name}
use Rattle.clif_meaning.specs.Program.{result_types}
use Rattle.clif_meaning.specs.Request.{Request, CreateBlock, SwitchToBlock, SealBlock, SealAllBlocks, InsertBlockAfter, SetColdBlock, EnsureInsertedBlock, AppendBlockParams, AppendFunctionParams, DeclareVar, DefVar, UseVar, MakeEntry, MakeEdge, MakeJumpTable, MakeExceptionTable, Annotate, NeedStackMap, Build, ChangeJumpDestination, Finalize, Script}
use Rattle.clif_meaning.specs.Sizes.{Table, Values, Blocks, Constants, constants_for, made_by, made_by_script}
use Rattle.clif_expansion.specs.ConstantCalls.{constant_calls}
use Rattle.clif_expansion.specs.Joining.{IsReadRequest}
use Rattle.clif_expansion.specs.Reading.{Reading}
use Rattle.clif_expansion.specs.ScriptCall.{ScriptCall}
use Rattle.clif_replay.specs.Sums.{call_makes, calls_make, immediate_makes}

-- A call makes as much as with its names read: parameters are counted by their types, and an instruction by what it does and the type
-- at which it is made.
pub made_read : (reading : Reading) (plain request : Request) → IsReadRequest reading plain request → (table : Table) → made_by plain table ≡ made_by request table
made_read reading CreateBlock CreateBlock read table = refl
made_read reading (SwitchToBlock plain) (SwitchToBlock block) read table = refl
made_read reading (SealBlock plain) (SealBlock block) read table = refl
made_read reading SealAllBlocks SealAllBlocks read table = refl
made_read reading (InsertBlockAfter plain behind) (InsertBlockAfter block after) read table = refl
made_read reading (SetColdBlock plain) (SetColdBlock block) read table = refl
made_read reading EnsureInsertedBlock EnsureInsertedBlock read table = refl
made_read reading (AppendBlockParams plain given) (AppendBlockParams block types) read Values = ap (λ (list : List «Type»). length list) read.1
made_read reading (AppendBlockParams plain given) (AppendBlockParams block types) read _ = refl
made_read reading (AppendFunctionParams plain given) (AppendFunctionParams block types) read Values = ap (λ (list : List «Type»). length list) read.1
made_read reading (AppendFunctionParams plain given) (AppendFunctionParams block types) read _ = refl
made_read reading (DeclareVar given) (DeclareVar ty) read table = refl
made_read reading (DefVar number x) (DefVar variable value) read table = refl
made_read reading (UseVar number) (UseVar variable) read table = refl
made_read reading (MakeEntry given) (MakeEntry entry) read table = ap (λ e. made_by (MakeEntry e) table) read
made_read reading (MakeEdge plain) (MakeEdge edge) read table = refl
made_read reading (MakeJumpTable first names) (MakeJumpTable default entries) read table = refl
made_read reading (MakeExceptionTable number first listed) (MakeExceptionTable signature normal items) read table = refl
made_read reading (Annotate inside names) (Annotate within values) read table = refl
made_read reading (NeedStackMap plain) (NeedStackMap need) read table = refl
made_read reading (Build given plain) (Build entries instruction) read Values =
    ap (λ (o : Operation). length (result_types o plain.controlling)) read.1.operation
    ∙ ap (λ (ty : «Type»). length (result_types instruction.operation ty)) read.1.controlling
made_read reading (Build given plain) (Build entries instruction) read Constants = ap constants_for read.1.operation
made_read reading (Build given plain) (Build entries instruction) read _ = refl
made_read reading (ChangeJumpDestination jump here there) (ChangeJumpDestination branch from to) read table = refl
made_read reading Finalize Finalize read table = refl
made_read reading _ _ read table = absurd read

-- one script behind another
pub made-append : (first more : Script) (table : Table) → made_by_script (first ++ more) table ≡ made_by_script first table + made_by_script more table
made-append [] more table = omega arith
made-append (request ∷ first) more table = let rest = made-append first more table in omega (arith, rest)

-- one call of a script more
pub make-append : (config : TargetFrontendConfig) (first : List ScriptCall) (last : ScriptCall) (table : Table)
    → calls_make config (first ++ last ∷ []) table ≡ calls_make config first table + call_makes config last table
make-append config [] last table = omega arith
make-append config (call ∷ first) last table = let rest = make-append config first last table in omega (arith, rest)

-- A constant and what it is an operand of, arithmetic with one result and no constant of its own, are at most three instructions with a
-- result each.
pub constants-few : (arithmetic : Arithmetic) (ty : «Type») (number : ℤ) (place : ℕ) (x : Name) → length (result_types (Compute arithmetic) ty) ≡ 1
    → constants_for (Compute arithmetic) ≡ 0 → (table : Table) → made_by_script (constant_calls arithmetic ty number place x) table ≤ immediate_makes table
constants-few arithmetic (type.Lane lane.I128) number place x one none Blocks = omega arith
constants-few arithmetic (type.Lane lane.I128) number place x one none _ = omega arith
constants-few arithmetic _ number place x one none Blocks = omega arith
constants-few arithmetic _ number place x one none _ = omega arith
