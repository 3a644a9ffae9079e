-- A table serves the branch of its range.
use Rattle.std.proofs.Common.{◌≡◌, ◌≤◌, inl, inr, ℕ, zero, suc, List, [], ◌∷◌, ◌++◌, length, map, refl, sym, ◌∙◌, ap, subst, arith, append-nil, Option, Some, None}
use Rattle.std.proofs.Math.Seq.{set-append_seam}
use Rattle.std.specs.Prelude.{All, Result, Ok, Err, slice_get, slice_set}
use Rattle.clif_types.specs.declared.error.BuildError.{BuildError}
use Rattle.clif_types.specs.declared.error.BuildError.TheVariants.{Failed, Full}
use Rattle.clif_types.specs.declared.types.«Type».TheVariants as type
use Rattle.clif_instructions.specs.declared.block_call.BlockCall.{BlockCall}
use Rattle.clif_inst_builder.specs.Shapes as shapes
use Rattle.clif_inst_builder.specs.Shapes.{TakesThenBuilds}
use Rattle.clif_ir.specs.Body.{Body}
use Rattle.clif_tables.specs.Lists.{unserved, with_table_served}
use Rattle.clif_builder.specs.declared.builder.FunctionBuilder.{FunctionBuilder}
use Rattle.clif_builder.specs.Builder.{CanLead, HasCurrent}
use Rattle.clif_builder.specs.Built.{Builds}
use Rattle.clif_builder.specs.declared.context.BlockStatus.TheVariants.{Filled}
use Rattle.clif_builder.specs.Context.{ContextState, status_of}
use Rattle.clif_builder.specs.Entries.{MayServe, TakesJumpTable}
use Rattle.clif_switch.specs.Emission.{EndsBlock, LeavesBlocks, MakesTable, MayLead, ServesMore, Steps, bare_to}
use Rattle.clif_switch.proofs.Blocks.{ends_by, slice_get-last}
use Rattle.clif_switch.proofs.Edges.{set_steps}
use Rattle.clif_switch.proofs.Steps.{leaves_all, leaves_on, may_lead_on, not_full, refused_steps, steps_err, steps_ok, steps_on}
use Rattle.clif_switch.proofs.Values.{done}

-- bare edges may be made to blocks to which branches may lead
pub edges_lead : {R : Type 0} (b : FunctionBuilder R) (items : List ℕ) → All (MayLead b) items → All (CanLead b) (map bare_to items)
edges_lead b [] may k d below = absurd (omega (arith, below))
edges_lead b (block ∷ items) may zero d below =
    let first : MayLead b block = may 0 block (omega arith) in
    ((first.exists, λ j e inside. absurd (omega (arith, inside))), first.unsealed)
edges_lead b (block ∷ items) may (suc k) d below = edges_lead b items (λ j e inside. may (suc j) e (omega (arith, inside))) k d (omega (arith, below))

pub all_lead : {R : Type 0} (b : FunctionBuilder R) (otherwise : ℕ) (items : List ℕ) → MayLead b otherwise → All (MayLead b) items → All (MayLead b) (otherwise ∷ items)
all_lead b otherwise items first rest zero d below = first
all_lead b otherwise items first rest (suc k) d below = rest k d (omega (arith, below))

pub all_lead_on : {R : Type 0} (old new : FunctionBuilder R) (items : List ℕ) → length old.func.now.blocks ≤ length new.func.now.blocks → LeavesBlocks old new → All (MayLead old) items → All (MayLead new) items
all_lead_on old new items more leaves may k d below = may_lead_on old new _ more leaves (may k d below)

-- the table that was created last may serve
pub may_serve : {R : Type 0} (old b : FunctionBuilder R) (table otherwise : ℕ) (items : List ℕ) → table ≡ length old.func.now.tables.jump_tables
    → b.func.now.tables.jump_tables ≡ old.func.now.tables.jump_tables ++ Some (map bare_to (otherwise ∷ items)) ∷ [] → All (MayLead b) (otherwise ∷ items) → MayServe b table
may_serve old b table otherwise items is tables may = (
  map bare_to (otherwise ∷ items),
  ap unserved (ap (λ (list : List (Option (List BlockCall))). slice_get list table) tables ∙ ap (slice_get (old.func.now.tables.jump_tables ++ Some (map bare_to (otherwise ∷ items)) ∷ [])) is
      ∙ slice_get-last old.func.now.tables.jump_tables (Some (map bare_to (otherwise ∷ items)))),
  edges_lead b (otherwise ∷ items) may,
)

-- a table was created
pub table_leaves : {R : Type 0} (edges : List BlockCall) (old new : FunctionBuilder R) (table : ℕ) → MakesTable edges old new (Ok table) → LeavesBlocks old new
table_leaves edges old new table makes =
    leaves_all old new (ap (λ (c : ContextState). c.ssa) makes.context) makes.position (λ b filled. subst (λ (c : ContextState). status_of c b ≡ Filled) makes.context filled)

-- the branch by it ends the block
pub table_ends : {R : Type 0} (old b between new : FunctionBuilder R) (table inst v : ℕ) (edges held : List BlockCall) → HasCurrent b → Steps {A = Unit {0}} old b done → LeavesBlocks old b
    → b.func.now.tables.jump_tables ≡ old.func.now.tables.jump_tables ++ Some edges ∷ [] → table ≡ length old.func.now.tables.jump_tables → TakesJumpTable b between table (Ok held)
    → Builds between new (shapes.branch_table v held) type.Invalid (Ok inst) → EndsBlock {A = Unit {0}} 1 old new done
table_ends old b between new table inst v edges held current steps leaves tables is takes builds =
    let taken : Steps {A = Unit {0}} b between done = steps_ok b between held (tt {0}) (set_steps b between (with_table_served b.func.now.tables table) (Ok held) refl (λ is. not_full held is) takes.sets) in
    let left : LeavesBlocks b between = leaves_all b between (ap (λ (c : ContextState). c.ssa) takes.sets.context) takes.sets.call.position (λ block filled. subst (λ (c : ContextState). status_of c block ≡ Filled) takes.sets.context filled) in
    let ends = ends_by between new (shapes.branch_table v held) type.Invalid inst refl (takes.sets.current current) builds in
    record {
      steps = steps_on old between new (tt {0}) done (steps_on old b between (tt {0}) done steps taken) ends.steps;
      leaves = leaves_on old between new (steps_on old b between (tt {0}) done steps taken).grows.2 (leaves_on old b between steps.grows.2 leaves left) ends.leaves;
      tables = ends.tables ∙ append-nil between.func.now.tables.jump_tables ∙ ap (λ (f : Body). f.tables.jump_tables) takes.sets.function
          ∙ ap (λ (list : List (Option (List BlockCall))). slice_set list table None) tables ∙ ap (λ (n : ℕ). slice_set (old.func.now.tables.jump_tables ++ Some edges ∷ []) n None) is
          ∙ set-append_seam old.func.now.tables.jump_tables (Some edges) [] None;
      left = ends.left;
      free = ends.free;
    }

-- a table, and code in a line behind it
pub table_then : {R : Type 0} (old made new : FunctionBuilder R) (edges : List BlockCall) → made.func.now.tables.jump_tables ≡ old.func.now.tables.jump_tables ++ Some edges ∷ [] → ServesMore 0 made new
    → new.func.now.tables.jump_tables ≡ old.func.now.tables.jump_tables ++ Some edges ∷ []
table_then old made new edges tables more = more ∙ append-nil made.func.now.tables.jump_tables ∙ tables

-- what a branch by a table that was built is
pub record Served {R : Type 0} (old new : FunctionBuilder R) (table v inst : ℕ) : Type 0 where
  pub between : FunctionBuilder R
  pub held : List BlockCall
  pub takes : TakesJumpTable old between table (Ok held)
  pub builds : Builds between new (shapes.branch_table v held) type.Invalid (Ok inst)

no_ok : {P : Type 0} (a : ℕ) (e : BuildError) → Ok a ≡ Err e → P
no_ok a e same = cc

pub served : {R : Type 0} (old new : FunctionBuilder R) (table v inst : ℕ) → TakesThenBuilds TakesJumpTable Builds old new (shapes.branch_table v) table type.Invalid (Ok inst) → Served old new table v inst
served old new table v inst (inl (between, held, takes, builds)) = record { between = between; held = held; takes = takes; builds = builds }
served old new table v inst (inr (e, takes, is)) = no_ok inst e is

-- the branch failed
pub served_fails : {R : Type 0} (old new : FunctionBuilder R) (table v : ℕ) (e : BuildError) → TakesThenBuilds TakesJumpTable Builds old new (shapes.branch_table v) table type.Invalid (Err e)
    → Steps {A = Unit {0}} old new (Err e)
served_fails old new table v e (inl (between, held, takes, builds)) =
    let taken : Steps {A = Unit {0}} old between done = steps_ok old between held (tt {0}) (set_steps old between (with_table_served old.func.now.tables table) (Ok held) refl (λ is. not_full held is) takes.sets) in
    steps_on old between new (tt {0}) (Err e) taken (refused_steps between new (shapes.branch_table v held) type.Invalid e (omega arith) builds)
served_fails old new table v e (inr (y, takes, is)) =
    subst (λ (error : BuildError). Steps {A = Unit {0}} old new (Err error)) (sym (same_error e y is))
    (steps_err old new y (set_steps old new (with_table_served old.func.now.tables table) (Err y) refl (λ full. absurd (apart y takes.only_failed full)) takes.sets))
  where
    same_error : (a b : BuildError) → ◌≡◌ {A = Result ℕ BuildError} (Err a) (Err b) → a ≡ b
    same_error a b same = cc

    apart : (a : BuildError) → ◌≡◌ {A = Result (List BlockCall) BuildError} (Err a) (Err Failed) → ◌≡◌ {A = Result (List BlockCall) BuildError} (Err a) (Err Full) → ⊥
    apart a one two = cc

same_some : {X : Type 0} (x y : X) → Some x ≡ Some y → x ≡ y
same_some x y same = cc

-- what it held
pub held_is_table : {R : Type 0} (old b between : FunctionBuilder R) (table : ℕ) (edges held : List BlockCall) → table ≡ length old.func.now.tables.jump_tables
    → b.func.now.tables.jump_tables ≡ old.func.now.tables.jump_tables ++ Some edges ∷ [] → TakesJumpTable b between table (Ok held) → held ≡ edges
held_is_table old b between table edges held is tables takes =
    same_some held edges (sym takes.held ∙ ap unserved (ap (λ (list : List (Option (List BlockCall))). slice_get list table) tables
    ∙ ap (slice_get (old.func.now.tables.jump_tables ++ Some edges ∷ [])) is ∙ slice_get-last old.func.now.tables.jump_tables (Some edges)))
