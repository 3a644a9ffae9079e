-- How many entries of tables the steps of a switch make at most.
use Rattle.std.proofs.Common.{◌≡◌, ◌≢◌, ◌≤◌, ◌+◌, ℕ, ℤ, suc, List, [], ◌∷◌, length, inl, inr, refl, sym, ◌∙◌, ap, subst, arith}
use Rattle.std.specs.Prelude.{Result, Ok, Err, OnOk, OnErr, slice_set}
use Rattle.std.proofs.lemmas.List.{length-append, length-set}
use Rattle.clif_opcodes.specs.declared.opcodes.ConvertOpcode.TheVariants.{Sextend}
use Rattle.clif_types.specs.declared.error.BuildError.{BuildError}
use Rattle.clif_types.specs.declared.error.BuildError.TheVariants.{Failed, Full, Memory}
use Rattle.clif_types.specs.declared.types.«Type».{«Type»}
use Rattle.clif_types.specs.declared.types.«Type».TheVariants.{Invalid}
use Rattle.clif_instructions.specs.declared.block_call.BlockArg.{BlockArg}
use Rattle.clif_instructions.specs.declared.block_call.BlockCall.{BlockCall}
use Rattle.clif_instructions.specs.declared.instructions.InstructionData.{InstructionData}
use Rattle.clif_inst_builder.specs.Shapes as shapes
use Rattle.clif_inst_builder.specs.Shapes.{TakesThenBuilds}
use Rattle.clif_constant_operands.specs.Chains.{BuildsConstant, BuildsWithConstant}
use Rattle.clif_tables.specs.Callees.{count_of_results}
use Rattle.clif_tables.specs.Lists.{TableLists, with_jump_table, with_table_served}
use Rattle.clif_ir.specs.Body.{Body}
use Rattle.clif_ir.specs.Changes.{with_block, with_tables}
use Rattle.clif_meaning.specs.Sizes.{Blocks, Constants, DynamicStackSlots, ExceptionTables, Functions, GlobalValues, Instructions, JumpTables, MakesAtMost, Signatures, StackSlots, Table, Values, entries_in}
use Rattle.clif_expansion.specs.Constants.{i64}
use Rattle.clif_builder.specs.declared.builder.FunctionBuilder.{FunctionBuilder}
use Rattle.clif_builder.specs.Adding.{AddsAtMost, instruction_makes}
use Rattle.clif_builder.specs.Builder.{HasCurrent}
use Rattle.clif_builder.specs.Built.{Builds, BuildsValue}
use Rattle.clif_builder.specs.Calls.{IsCall}
use Rattle.clif_builder.specs.Entries.{CreatesJumpTable, MakesEdge, SetsTables, TakesJumpTable}
use Rattle.clif_builder.proofs.Adding.{adds_fewer, adds_then, built_adds, call_adds, makes_same, value_adds}
use Rattle.clif_constant_calls.specs.Stands.{BuildsLike}
use Rattle.clif_switch_calls.specs.SwitchSizes.{so_many}
use Rattle.clif_switch_calls.proofs.Sized.{both_many, more_many}
use Rattle.clif_switch.proofs.Values.{done}

-- ONE BEHIND THE OTHER ----------------------------------------------------------------------------------------------------

pub then_many : {A B : Type 0} {R : Type 0} (v i b t v' i' b' t' : ℕ) (old mid new : FunctionBuilder R) (a : A) (answer : Result B BuildError) → AddsAtMost (so_many v i b t) old mid (Ok a)
    → AddsAtMost (so_many v' i' b' t') mid new answer → AddsAtMost (so_many (v + v') (i + i') (b + b') (t + t')) old new answer
then_many v i b t v' i' b' t' old mid new a answer first next =
    adds_then (so_many v i b t) (so_many v' i' b' t') (so_many (v + v') (i + i') (b + b') (t + t')) old mid new a answer
    (λ table. let sum = both_many v i b t v' i' b' t' table in omega (arith, sum)) first next

pub fewer_many : {A : Type 0} {R : Type 0} (v i b t v' i' b' t' : ℕ) (old new : FunctionBuilder R) (answer : Result A BuildError) → v ≤ v' → i ≤ i' → b ≤ b' → t ≤ t'
    → AddsAtMost (so_many v i b t) old new answer → AddsAtMost (so_many v' i' b' t') old new answer
fewer_many v i b t v' i' b' t' old new answer values instructions blocks tables adds =
    adds_fewer (so_many v i b t) (so_many v' i' b' t') old new answer (more_many v i b t v' i' b' t' values instructions blocks tables) adds

-- INSTRUCTIONS ------------------------------------------------------------------------------------------------------------

inst_many : (results : ℕ) (table : Table) → instruction_makes results table ≤ so_many results 1 0 0 table
inst_many results Values = omega arith
inst_many results Instructions = omega arith
inst_many results _ = omega arith

pub value_many : {R : Type 0} (old new : FunctionBuilder R) (shape : InstructionData) (ty : «Type») (answer : Result ℕ BuildError) → BuildsValue old new shape ty answer → AddsAtMost (so_many 1 1 0 0) old new answer
value_many old new shape ty answer builds = adds_fewer (instruction_makes 1) (so_many 1 1 0 0) old new answer (inst_many 1) (value_adds old new shape ty answer builds)

-- an instruction without a result
pub built_many : {R : Type 0} (old new : FunctionBuilder R) (shape : InstructionData) (ty : «Type») (answer : Result ℕ BuildError) → count_of_results old.func.now.tables shape ≡ 0 → HasCurrent old → Builds old new shape ty answer
    → AddsAtMost (so_many 0 1 0 0) old new answer
built_many old new shape ty answer none current builds =
    adds_fewer (instruction_makes 0) (so_many 0 1 0 0) old new answer (inst_many 0)
    (subst (λ (n : ℕ). AddsAtMost (instruction_makes n) old new answer) none (built_adds old new shape ty answer current builds))

same_answer : (a b : BuildError) → ◌≡◌ {A = Result ℕ BuildError} (Err a) (Err b) → a ≡ b
same_answer a b is = cc

pub constant_many : {R : Type 0} (old new : FunctionBuilder R) (imm : ℤ) (ty : «Type») (answer : Result ℕ BuildError) → BuildsConstant BuildsValue ty imm old new answer → AddsAtMost (so_many 2 2 0 0) old new answer
constant_many old new imm ty answer (inl (wide, inl (mid, narrow, first, next))) =
    then_many 1 1 0 0 1 1 0 0 old mid new narrow answer (value_many old mid (shapes.unary_imm imm) i64 (Ok narrow) first) (value_many mid new (shapes.convert Sextend narrow) ty answer next)
constant_many old new imm ty answer (inl (wide, inr (e, first, is))) =
    subst (AddsAtMost (so_many 2 2 0 0) old new) (sym is)
    (fewer_many 1 1 0 0 2 2 0 0 old new (Err e) (omega arith) (omega arith) (omega arith) (omega arith) (value_many old new (shapes.unary_imm imm) i64 (Err e) first))
constant_many old new imm ty answer (inr (narrow, builds)) =
    fewer_many 1 1 0 0 2 2 0 0 old new answer (omega arith) (omega arith) (omega arith) (omega arith) (value_many old new (shapes.unary_imm imm) ty answer builds)

pub with_constant_many : {R : Type 0} (old new : FunctionBuilder R) (shape : ℕ → InstructionData) (imm : ℤ) (like : ℕ) (ty : «Type») (answer : Result ℕ BuildError) → BuildsWithConstant BuildsValue BuildsLike shape ty imm like old new answer
    → AddsAtMost (so_many 3 3 0 0) old new answer
with_constant_many old new shape imm like ty answer (inl (mid, constant, first, next)) =
    then_many 2 2 0 0 1 1 0 0 old mid new constant answer (constant_many old mid imm ty (Ok constant) first) (value_many mid new (shape constant) _ answer next)
with_constant_many old new shape imm like ty answer (inr (e, first, is)) =
    subst (AddsAtMost (so_many 3 3 0 0) old new) (sym is)
    (fewer_many 2 2 0 0 3 3 0 0 old new (Err e) (omega arith) (omega arith) (omega arith) (omega arith) (constant_many old new imm ty (Err e) first))

-- BLOCKS AND TABLES -------------------------------------------------------------------------------------------------------

block_makes : (f : Body) → MakesAtMost (so_many 0 0 1 0) f (with_block f)
block_makes f Blocks = grind (arith, length-append)
block_makes f _ = omega arith

pub block_many : {R : Type 0} (old new : FunctionBuilder R) (answer : Result ℕ BuildError) → IsCall old new answer → OnOk answer (new.func.now ≡ with_block old.func.now) → (answer ≡ Err Full → new.func.now ≡ old.func.now)
    → AddsAtMost (so_many 0 0 1 0) old new answer
block_many old new answer call function full =
    call_adds (so_many 0 0 1 0) old new answer call (on_ok answer function) (λ is. makes_same (so_many 0 0 1 0) old.func.now new.func.now (full is))
  where
    on_ok : (r : Result ℕ BuildError) → OnOk r (new.func.now ≡ with_block old.func.now) → OnOk r (MakesAtMost (so_many 0 0 1 0) old.func.now new.func.now)
    on_ok (Ok block) is = subst (MakesAtMost (so_many 0 0 1 0) old.func.now) (sym is) (block_makes old.func.now)
    on_ok (Err e) is = tt

-- a block in which nothing waits is sealed
pub sealed_many : {A : Type 0} {R : Type 0} (old new : FunctionBuilder R) (answer : Result A BuildError) → IsCall old new answer → OnOk answer (new.func.now ≡ old.func.now) → answer ≢ Err Full → AddsAtMost (so_many 0 0 0 0) old new answer
sealed_many {A} old new answer call function never = call_adds (so_many 0 0 0 0) old new answer call (on_ok answer function) (λ is. absurd (never is))
  where
    on_ok : (r : Result A BuildError) → OnOk r (new.func.now ≡ old.func.now) → OnOk r (MakesAtMost (so_many 0 0 0 0) old.func.now new.func.now)
    on_ok (Ok a) is = makes_same (so_many 0 0 0 0) old.func.now new.func.now is
    on_ok (Err e) is = tt

-- the tables are set
set_many : {A : Type 0} {R : Type 0} (most : Table → ℕ) (tables : TableLists) (old new : FunctionBuilder R) (answer : Result A BuildError) → MakesAtMost most old.func.now (with_tables old.func.now tables) → SetsTables tables old new answer
    → AddsAtMost most old new answer
set_many {A} most tables old new answer makes sets = call_adds most old new answer sets.call (on_ok answer sets.function) (on_full answer sets.kept)
  where
    on_ok : (r : Result A BuildError) → OnOk r (new.func.now ≡ with_tables old.func.now tables) → OnOk r (MakesAtMost most old.func.now new.func.now)
    on_ok (Ok a) is = subst (MakesAtMost most old.func.now) (sym is) makes
    on_ok (Err e) is = tt

    on_full : (r : Result A BuildError) → OnErr r (new.func.now ≡ old.func.now) → r ≡ Err Full → MakesAtMost most old.func.now new.func.now
    on_full (Ok a) kept is = absurd (let no_way : ⊥ = cc in no_way)
    on_full (Err e) kept is = makes_same most old.func.now new.func.now kept

pub edge_many : {R : Type 0} (old new : FunctionBuilder R) (block : ℕ) (args : List BlockArg) (answer : Result BlockCall BuildError) → MakesEdge block args old new answer → AddsAtMost (so_many 0 0 0 0) old new answer
edge_many old new block args answer makes = set_many (so_many 0 0 0 0) old.func.now.tables old new answer (makes_same (so_many 0 0 0 0) old.func.now old.func.now refl) makes.sets

-- the function is as it was
pub kept_many : {R : Type 0} (old new : FunctionBuilder R) → new.func.now ≡ old.func.now → AddsAtMost (so_many 0 0 0 0) old new done
kept_many old new same some = makes_same (so_many 0 0 0 0) old.func.now new.func.now same

table_makes : (f : Body) (edges : List BlockCall) → MakesAtMost (so_many 0 0 0 1) f (with_tables f (with_jump_table f.tables edges))
table_makes f edges JumpTables = grind (arith, length-append)
table_makes f edges _ = omega arith

pub table_many : {R : Type 0} (old new : FunctionBuilder R) (edges : List BlockCall) (answer : Result ℕ BuildError) → CreatesJumpTable edges old new answer → AddsAtMost (so_many 0 0 0 1) old new answer
table_many old new edges answer creates = set_many (so_many 0 0 0 1) (with_jump_table old.func.now.tables edges) old new answer (table_makes old.func.now edges) creates.sets

served_makes : (f : Body) (table : ℕ) → MakesAtMost (so_many 0 0 0 0) f (with_tables f (with_table_served f.tables table))
served_makes f table JumpTables = grind (arith, length-set)
served_makes f table _ = omega arith

-- a branch by a table is built
pub served_many : {R : Type 0} (old new : FunctionBuilder R) (table v : ℕ) (answer : Result ℕ BuildError) → HasCurrent old → TakesThenBuilds TakesJumpTable Builds old new (shapes.branch_table v) table Invalid answer
    → AddsAtMost (so_many 0 1 0 0) old new answer
served_many old new table v answer current (inl (between, held, takes, builds)) =
    then_many 0 0 0 0 0 1 0 0 old between new held answer (set_many (so_many 0 0 0 0) (with_table_served old.func.now.tables table) old between (Ok held) (served_makes old.func.now table) takes.sets)
    (built_many between new (shapes.branch_table v held) Invalid answer refl (takes.sets.current current) builds)
served_many old new table v answer current (inr (e, takes, is)) =
    subst (AddsAtMost (so_many 0 1 0 0) old new) (sym is)
    (λ some. fewer_many {A = List BlockCall} 0 0 0 0 0 1 0 0 old new (Err e) (omega arith) (omega arith) (omega arith) (omega arith)
    (set_many (so_many 0 0 0 0) (with_table_served old.func.now.tables table) old new (Err e) (served_makes old.func.now table) takes.sets) (λ same. some (ap Err (error_is e Memory same))))
  where
    error_is : (a b : BuildError) → ◌≡◌ {A = Result (List BlockCall) BuildError} (Err a) (Err b) → a ≡ b
    error_is a b same = cc
