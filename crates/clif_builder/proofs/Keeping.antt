-- What calls keep, one and then another.
use Rattle.std.proofs.Common.{◌≡◌, ◌≤◌, ℕ, List, length, Bool, true, false, Option, Some, inl, inr, refl, sym, ◌∙◌, ap, subst, arith}
use Rattle.std.specs.Prelude.{if◌then◌else◌, slice_index_or, IfSome, Ok}
use Rattle.std.proofs.lemmas.Bool.{cases_lt}
use Rattle.clif_types.specs.declared.types.«Type».{«Type»}
use Rattle.clif_instructions.specs.Members.{stands_in}
use Rattle.clif_instructions.specs.declared.insert_at.InsertAt.TheVariants.{Back}
use Rattle.clif_instructions.specs.declared.instructions.InstructionData.{InstructionData}
use Rattle.clif_nodes.specs.Nodes.{no_inst}
use Rattle.clif_nodes.specs.declared.nodes.InstNode.{InstNode}
use Rattle.clif_tables.specs.Callees.{types_of_results}
use Rattle.clif_tables.specs.Lists.{TableLists}
use Rattle.clif_ir.specs.Body.{Body, inst_at}
use Rattle.clif_ir.specs.Changes.{inserted_in, with_layout}
use Rattle.clif_ssa.specs.Ssa.{SsaState}
use Rattle.clif_ssa.proofs.Instructions.{inst_insts_more, inst_new, inst_old}
use Rattle.clif_builder.specs.declared.builder.FunctionBuilder.{FunctionBuilder}
use Rattle.clif_builder.specs.Builder.{Appends, AppendsValue, with_appended}
use Rattle.clif_builder.specs.Built.{Builds, BuildsValue}
use Rattle.clif_builder.specs.Context.{ContextState}
use Rattle.clif_builder.specs.Entries.{SetsTables}
use Rattle.clif_builder.specs.Growth.{RemembersIn}
use Rattle.clif_builder.specs.Keeping.{ArePlaced, KeepsState}

-- SOURCE PLACES -----------------------------------------------------------------------------------------------------------

-- the instructions are the same
placed_same : (place : ℕ) (f g : Body) → g.insts ≡ f.insts → ArePlaced place f g
placed_same place f g same = record {
  made = λ i after before. absurd (let longer = ap length same in omega (arith, longer, after, before));
  kept = λ i inside. ap (λ (insts : List InstNode). (slice_index_or insts i no_inst).srcloc) same;
}

placed_on : (place : ℕ) (f g h : Body) → ArePlaced place f g → ArePlaced place g h → length f.insts ≤ length g.insts → ArePlaced place f h
placed_on place f g h first next more = record {
  made = λ i after before. elim (cases_lt i (length g.insts)) [
    | inl inside ↦ next.kept i inside ∙ first.made i after inside
    | inr behind ↦ next.made i behind before
  ];
  kept = λ i inside. next.kept i (omega (arith, more, inside)) ∙ first.kept i inside;
}

inserted_tables : (f : Body) (b : ℕ) → (inserted_in f b).tables ≡ f.tables
inserted_tables f b = by (stands_in b f.layout)
  where
    by : (t : Bool) → (if t then f else with_layout f b).tables ≡ f.tables
    by true = refl
    by false = refl

inserted_same : (f : Body) (b : ℕ) → (inserted_in f b).insts ≡ f.insts
inserted_same f b = by (stands_in b f.layout)
  where
    by : (t : Bool) → (if t then f else with_layout f b).insts ≡ f.insts
    by true = refl
    by false = refl

-- an instruction was appended
module _ (f : Body) (block : ℕ) (shape : InstructionData) (ty : «Type») (place : ℕ) where
  abbrev types : List «Type»
  types = types_of_results f.tables shape ty

  placed_new : ArePlaced place (inserted_in f block) (with_appended f block shape ty place)
  placed_new = record {
    made = λ i after before.
        let more = inst_insts_more (inserted_in f block) block Back shape types place in
        let here : length (inserted_in f block).insts ≡ i = omega (arith, more, after, before) in
        subst (λ (k : ℕ). (inst_at (with_appended f block shape ty place) k).srcloc ≡ place) here
        (ap (λ (node : InstNode). node.srcloc) (inst_new (inserted_in f block) block Back shape types place));
    kept = λ i inside. ap (λ (node : InstNode). node.srcloc) (inst_old (inserted_in f block) block Back shape types place i inside);
  }

  placed_appended : ArePlaced place f (with_appended f block shape ty place)
  placed_appended =
      placed_on place f (inserted_in f block) (with_appended f block shape ty place) (placed_same place f (inserted_in f block) (inserted_same f block)) placed_new
      (let same = ap length (inserted_same f block) in omega (arith, same))

-- ONE CALL ----------------------------------------------------------------------------------------------------------------

-- the function's instructions stay, and so does what is tracked
pub keeps_insts : {R : Type 0} (old new : FunctionBuilder R) → new.func.now.insts ≡ old.func.now.insts → new.ctx.now.parts.ssa.tracking ≡ old.ctx.now.parts.ssa.tracking → ((x b : ℕ) → RemembersIn x b old new) → KeepsState old new
keeps_insts old new same tracking remembers = record { placed = placed_same old.srcloc old.func.now new.func.now same; remembers = remembers; tracking = tracking }

pub keeps_none : {R : Type 0} (b : FunctionBuilder R) → KeepsState b b
keeps_none b = keeps_insts b b refl refl (λ x c. record { recorded = λ v is. is; alike = λ u v same. same })

pub keeps_on : {R : Type 0} (old mid new : FunctionBuilder R) → length old.func.now.insts ≤ length mid.func.now.insts → mid.srcloc ≡ old.srcloc → KeepsState old mid → KeepsState mid new → KeepsState old new
keeps_on old mid new more here first next = record {
  placed = placed_on old.srcloc old.func.now mid.func.now new.func.now first.placed (subst (λ (place : ℕ). ArePlaced place mid.func.now new.func.now) here next.placed) more;
  remembers = λ x b.
      let one = first.remembers x b in
      let two = next.remembers x b in
      record { recorded = λ v is. two.recorded v (one.recorded v is); alike = λ u v same. two.alike u v (one.alike u v same) };
  tracking = next.tracking ∙ first.tracking;
}

module _ {R : Type 0} (old new : FunctionBuilder R) (shape : InstructionData) (ty : «Type») (block : ℕ) (here : old.position ≡ Some block) where
  at_block : (P : ℕ → Type 0) → IfSome old.position P → P block
  at_block P holds = subst (λ (o : Option ℕ). IfSome o P) here holds

  appended_keeps : (inst : ℕ) → Appends old new block shape ty inst → new.ctx.now.parts.ssa.tracking ≡ old.ctx.now.parts.ssa.tracking → ((x b : ℕ) → RemembersIn x b old new) → KeepsState old new
  appended_keeps inst appends tracking remembers = record {
    placed = subst (ArePlaced old.srcloc old.func.now) (sym appends.function) (placed_appended old.func.now block shape ty old.srcloc);
    remembers = remembers;
    tracking = tracking;
  }

  pub built_keeps : (inst : ℕ) → Builds old new shape ty (Ok inst) → KeepsState old new
  built_keeps inst builds = appended_keeps inst (at_block (λ b. Appends old new b shape ty inst) builds.appends) builds.declares.tracking builds.remembers

  pub value_keeps : (v : ℕ) → BuildsValue old new shape ty (Ok v) → KeepsState old new
  value_keeps v builds =
      appended_keeps (length old.func.now.insts) (at_block (λ b. AppendsValue old new b shape ty v) builds.appends).0 (ap (λ (s : SsaState). s.tracking) builds.ssa) builds.remembers

  tables_appended : (inst : ℕ) → Appends old new block shape ty inst → new.func.now.tables ≡ old.func.now.tables
  tables_appended inst appends = ap (λ (f : Body). f.tables) appends.function ∙ inserted_tables old.func.now block

  -- an instruction changes no table
  pub built_tables : (inst : ℕ) → Builds old new shape ty (Ok inst) → new.func.now.tables ≡ old.func.now.tables
  built_tables inst builds = tables_appended inst (at_block (λ b. Appends old new b shape ty inst) builds.appends)

  pub value_tables : (v : ℕ) → BuildsValue old new shape ty (Ok v) → new.func.now.tables ≡ old.func.now.tables
  value_tables v builds = tables_appended (length old.func.now.insts) (at_block (λ b. AppendsValue old new b shape ty v) builds.appends).0

-- the tables were set, or an entry was made
pub set_keeps : {A : Type 0} {R : Type 0} (old new : FunctionBuilder R) (tables : TableLists) (a : A) → SetsTables tables old new (Ok a) → KeepsState old new
set_keeps old new tables a sets =
    keeps_insts old new (ap (λ (f : Body). f.insts) sets.function) (ap (λ (c : ContextState). c.ssa.tracking) sets.context) sets.remembers
