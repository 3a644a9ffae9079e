-- The edges and the table of a range: the builder stays as it is, but for the table.
use Rattle.std.proofs.Common.{◌≡◌, ◌<◌, ◌≤◌, ◌+◌, inr, ℕ, suc, arith, List, [], ◌∷◌, ◌++◌, length, map, take, get_or, refl, sym, ◌∙◌, ap, subst}
use Rattle.std.proofs.Math.Seq.{take-suc}
use Rattle.std.proofs.lemmas.List.{map_push, take_all}
use Rattle.std.specs.Prelude.{Result, Ok, Err, OnOk}
use Rattle.std.specs.Result.{IsErrAnd}
use Rattle.clif_types.specs.Signature.{SignatureShape}
use Rattle.clif_types.specs.declared.error.BuildError.{BuildError}
use Rattle.clif_types.specs.declared.error.BuildError.TheVariants.{Full}
use Rattle.clif_types.specs.declared.types.«Type».{«Type»}
use Rattle.clif_instructions.specs.declared.block_call.BlockCall.{BlockCall}
use Rattle.clif_instructions.specs.declared.block_call.BlockArg.{BlockArg}
use Rattle.clif_instructions.specs.declared.instructions.InstructionData.{InstructionData}
use Rattle.clif_ir.specs.Body.{Body}
use Rattle.clif_ir.specs.Changes.{with_tables}
use Rattle.clif_tables.specs.Callees.{count_of_results}
use Rattle.clif_tables.specs.Lists.{TableLists, with_jump_table}
use Rattle.clif_meaning.specs.Request.{AnsweredCall}
use Rattle.clif_builder.specs.declared.builder.FunctionBuilder.{FunctionBuilder}
use Rattle.clif_builder.specs.Built.{Builds}
use Rattle.clif_builder.specs.Entries.{CreatesJumpTable, MakesEdge, SetsTables}
use Rattle.clif_builder.specs.Keeping.{KeepsState}
use Rattle.clif_builder.specs.StandsFor.{StandsFor}
use Rattle.clif_builder.proofs.Keeping.{set_keeps}
use Rattle.clif_switch.specs.Emission.{MayAddJumpTables, MakesTable, Steps, SwitchIsFull, bare_to}
use Rattle.clif_switch.proofs.Steps.{not_full, refused_steps, steps_err, steps_ok, steps_on}
use Rattle.clif_switch.proofs.Values.{done}

-- nothing changed, and nothing failed
pub record Kept {R : Type 0} (old new : FunctionBuilder R) : Type 0 where
  pub steps : Steps old new done
  pub function : new.func.now ≡ old.func.now
  pub context : new.ctx.now.parts ≡ old.ctx.now.parts
  pub position : new.position ≡ old.position
  pub stands : (signature : SignatureShape) (calls : List AnsweredCall) → StandsFor signature calls old → StandsFor signature calls new

-- the tables were set
pub set_steps : {A : Type 0} {R : Type 0} (old new : FunctionBuilder R) (tables : TableLists) (answer : Result A BuildError) → MayAddJumpTables old.func.now.tables tables → (answer ≡ Err Full → SwitchIsFull new.func.now)
    → SetsTables tables old new answer → Steps old new answer
set_steps {A} old new tables answer only full sets = record {
  loans = sets.call.loans;
  srcloc = sets.call.srcloc;
  failed = sets.call.failed;
  unchanged = sets.call.unchanged;
  fails = sets.call.fails;
  looks_once = sets.call.looks_once;
  variables = ap (λ c. c.variables) sets.context;
  grows = sets.grows;
  remembers = sets.remembers;
  types = sets.call.types;
  exceptions = by answer sets.function;
  keeps = keeps_by answer sets;
  adds = adds_by answer sets.function;
  full = full;
}
  where
    by : (r : Result A BuildError) → OnOk r (new.func.now ≡ with_tables old.func.now tables) → OnOk r (new.func.now.tables.exception_tables ≡ old.func.now.tables.exception_tables)
    by (Ok a) is = ap (λ (f : Body). f.tables.exception_tables) is ∙ ap (λ (t : TableLists). t.exception_tables) only
    by (Err e) is = tt

    keeps_by : (r : Result A BuildError) → SetsTables tables old new r → OnOk r (KeepsState old new)
    keeps_by (Ok a) is_set = set_keeps old new tables a is_set
    keeps_by (Err e) is_set = tt

    adds_by : (r : Result A BuildError) → OnOk r (new.func.now ≡ with_tables old.func.now tables) → OnOk r (MayAddJumpTables old.func.now.tables new.func.now.tables)
    adds_by (Ok a) is = subst (λ (f : Body). MayAddJumpTables old.func.now.tables f.tables) (sym is) only
    adds_by (Err e) is = tt

-- the table of jump tables was full
full_tables : {R : Type 0} (edges : List BlockCall) (old new : FunctionBuilder R) (e : BuildError) → CreatesJumpTable edges old new (Err e) → ◌≡◌ {A = Result ℕ BuildError} (Err e) (Err Full) → SwitchIsFull new.func.now
full_tables edges old new e creates is = inr (inr (ap (λ (f : Body). length f.tables.jump_tables) creates.sets.kept ∙ (creates.full.0 is).1))

-- the first edge
pub kept_first : {R : Type 0} (old new : FunctionBuilder R) (block : ℕ) (args : List BlockArg) (edge : BlockCall) → MakesEdge block args old new (Ok edge) → Kept old new
kept_first old new block args edge makes = record {
  steps = steps_ok old new edge (tt {0}) (set_steps old new old.func.now.tables (Ok edge) refl (λ is. not_full edge is) makes.sets);
  function = makes.sets.function;
  context = makes.sets.context;
  position = makes.sets.call.position;
  stands = makes.sets.stands;
}

-- another edge
pub kept_on : {R : Type 0} (old mid new : FunctionBuilder R) → Kept old mid → Kept mid new → Kept old new
kept_on old mid new first next = record {
  steps = steps_on old mid new (tt {0}) done first.steps next.steps;
  function = next.function ∙ first.function;
  context = next.context ∙ first.context;
  position = next.position ∙ first.position;
  stands = λ signature calls stands. next.stands signature calls (first.stands signature calls stands);
}

no_table : {R : Type 0} (edges : List BlockCall) (old new : FunctionBuilder R) (e : BuildError) → Steps {A = ℕ} old new (Err e) → MakesTable edges old new (Err e)
no_table edges old new e steps = record { steps = steps; context = tt; position = tt; function = tt; number = tt; stands = λ signature calls stands. tt }

-- the table of these edges
pub table_made : {R : Type 0} (edges : List BlockCall) (old mid new : FunctionBuilder R) (answer : Result ℕ BuildError) → Kept old mid → CreatesJumpTable edges mid new answer → MakesTable edges old new answer
table_made edges old mid new (Err e) kept creates =
    no_table edges old new e (steps_on old mid new (tt {0}) (Err e) kept.steps (set_steps mid new (with_jump_table mid.func.now.tables edges) (Err e) refl (full_tables edges mid new e creates) creates.sets))
table_made edges old mid new (Ok table) kept creates = record {
  steps = steps_on old mid new (tt {0}) (Ok table) kept.steps (set_steps mid new (with_jump_table mid.func.now.tables edges) (Ok table) refl (λ is. not_full table is) creates.sets);
  context = creates.sets.context ∙ kept.context;
  position = creates.sets.call.position ∙ kept.position;
  function = creates.sets.function ∙ ap (λ (f : Body). with_tables f (with_jump_table f.tables edges)) kept.function;
  number = creates.number ∙ ap (λ (f : Body). length f.tables.jump_tables) kept.function;
  stands = λ signature calls stands. creates.sets.stands signature calls (kept.stands signature calls stands);
}

-- an edge failed, the first one or another
pub first_failed : {R : Type 0} (edges : List BlockCall) (old new : FunctionBuilder R) (block : ℕ) (args : List BlockArg) (r : Result ℕ BuildError) (e : BuildError) → MakesEdge block args old new (Err e) → IsErrAnd r (λ y. y ≡ e) → MakesTable edges old new r
first_failed edges old new block args (Ok a) e makes is = absurd is
first_failed edges old new block args (Err y) e makes is =
    subst (λ (error : BuildError). MakesTable edges old new (Err error)) (sym is) (no_table edges old new e (steps_err old new e (set_steps old new old.func.now.tables (Err e) refl (λ full. absurd (makes.never_full full)) makes.sets)))

pub edge_failed : {R : Type 0} (edges : List BlockCall) (old mid new : FunctionBuilder R) (block : ℕ) (args : List BlockArg) (r : Result ℕ BuildError) (e : BuildError) → Kept old mid → MakesEdge block args mid new (Err e) → IsErrAnd r (λ y. y ≡ e)
    → MakesTable edges old new r
edge_failed edges old mid new block args (Ok a) e kept makes is = absurd is
edge_failed edges old mid new block args (Err y) e kept makes is =
    subst (λ (error : BuildError). MakesTable edges old new (Err error)) (sym is)
    (no_table edges old new e (steps_on old mid new (tt {0}) (Err e) kept.steps (steps_err mid new e (set_steps mid new mid.func.now.tables (Err e) refl (λ full. absurd (makes.never_full full)) makes.sets))))

-- memory was refused for the edges
pub table_refused : {R : Type 0} (edges : List BlockCall) (old mid new : FunctionBuilder R) (e : BuildError) (shape : InstructionData) (ty : «Type») → count_of_results mid.func.now.tables shape ≤ 1 → Kept old mid → Builds mid new shape ty (Err e)
    → MakesTable edges old new (Err e)
table_refused edges old mid new e shape ty few kept builds =
    no_table edges old new e (steps_on old mid new (tt {0}) (Err e) kept.steps (refused_steps mid new shape ty e few builds))

-- so many edges, with one more
pub edges_pushed : (items after : List BlockCall) (blocks : List ℕ) (i d : ℕ) (entry : BlockCall) → i < length blocks → items ≡ map bare_to (take i blocks) → entry ≡ bare_to (get_or blocks i d) → after ≡ items ++ entry ∷ []
    → after ≡ map bare_to (take (i + 1) blocks)
edges_pushed items after blocks i d entry inside were is pushed =
    pushed ∙ ap (λ (l : List BlockCall). l ++ entry ∷ []) were ∙ ap (λ (e : BlockCall). map bare_to (take i blocks) ++ e ∷ []) is
    ∙ sym (map_push bare_to (take i blocks) (get_or blocks i d)) ∙ ap (map bare_to) (sym (take-suc blocks i d inside))
    ∙ ap (λ (n : ℕ). map bare_to (take n blocks)) (next i)
  where
    next : (n : ℕ) → suc n ≡ n + 1
    next n = omega arith

pub all_taken : (items : List BlockCall) (blocks : List ℕ) (i : ℕ) → length blocks ≤ i → items ≡ map bare_to (take i blocks) → items ≡ map bare_to blocks
all_taken items blocks i all were = were ∙ ap (map bare_to) (take_all i blocks all)

pub table_is : (default : BlockCall) (table items : List BlockCall) (blocks : List ℕ) (otherwise : ℕ) → default ≡ bare_to otherwise → items ≡ map bare_to blocks → table ≡ default ∷ items → map bare_to (otherwise ∷ blocks) ≡ table
table_is default table items blocks otherwise first rest is = sym (is ∙ ap (λ (e : BlockCall). e ∷ items) first ∙ ap (λ (l : List BlockCall). bare_to otherwise ∷ l) rest)
