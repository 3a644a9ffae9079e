-- A branch that leads to one unsealed block after another: the tables stay, since they speak of edges to sealed blocks alone.
use Rattle.std.proofs.Common.{◌≡◌, ◌≢◌, ℕ, zero, suc, ◌<◌, ◌+◌, List, [], ◌∷◌, length, refl, ap, arith, sym, ◌∙◌, subst, ◌⊎◌, inl, inr}
use Rattle.std.specs.Prelude.{Option, Some, None, slice_get}
use Rattle.std.proofs.lemmas.Bool.{cases_eq}
use Rattle.std.proofs.lemmas.Grind.{common_steps}
use Rattle.clif_ir.specs.Body.{Body, inst_at}
use Rattle.clif_ir.specs.Changes.{with_branch_target}
use Rattle.clif_instructions.specs.Edges.{redirected, targets, with_target_changed}
use Rattle.clif_instructions.specs.Instruction.{destinations, with_targets_changed}
use Rattle.clif_instructions.specs.declared.block_call.BlockCall.{BlockCall}
use Rattle.clif_instructions.specs.declared.exception_table.ExceptionTargets.{ExceptionTargets}
use Rattle.clif_instructions.specs.declared.instructions.InstructionData.{InstructionData}
use Rattle.clif_instructions.specs.declared.instructions.InstructionData.TheVariants.{Jump, Brif, BranchTable, TryCall, TryCallIndirect}
use Rattle.clif_instructions.proofs.Lists.{at_set}
use Rattle.clif_instructions.proofs.Members.{if_true, if_false}
use Rattle.clif_nodes.specs.Nodes.{no_inst}
use Rattle.clif_nodes.specs.declared.nodes.InstNode.{InstNode}
use Rattle.clif_ssa.specs.LookUp.{branch_block}
use Rattle.clif_ssa.specs.Sound.{args_of, edge_target, edges_at}
use Rattle.clif_ssa.specs.Zeros.{ZeroAt, HasZero, IsStep}
use Rattle.clif_ssa.proofs.Pooled.{zeros_stay}
use Rattle.clif_ssa.proofs.ZeroTable.{plain_step}

some_is : {x y : ℕ} → ◌≡◌ {A = Option ℕ} (Some x) (Some y) → x ≡ y
some_is same = cc

none_some : {x : ℕ} → ◌≡◌ {A = Option ℕ} None (Some x) → ⊥
none_some same = cc

-- EDGES -----------------------------------------------------------------------------------------------------------

module _ (from to : ℕ) where
  at_from : (edge : BlockCall) → edge.block ≡ from → redirected from to edge ≡ record edge { block = to }
  at_from edge same = if_true edge.block from (record edge { block = to }) edge same

  elsewhere : (edge : BlockCall) → edge.block ≢ from → redirected from to edge ≡ edge
  elsewhere edge other = if_false edge.block from (record edge { block = to }) edge other

  moved_args : (edges : List BlockCall) (k : ℕ) → args_of (slice_get (with_target_changed from to edges) k) ≡ args_of (slice_get edges k)
  moved_args [] k = refl
  moved_args (edge ∷ edges) zero =
      elim (cases_eq edge.block from) [
        | inl same ↦ ap (λ (e : BlockCall). e.args) (at_from edge same)
        | inr other ↦ ap (λ (e : BlockCall). e.args) (elsewhere edge other)
      ]
  moved_args (edge ∷ edges) (suc k) = moved_args edges k

  moved_forth : (edges : List BlockCall) (k c : ℕ) → c ≢ from → slice_get (targets edges) k ≡ Some c → slice_get (targets (with_target_changed from to edges)) k ≡ Some c
  moved_forth [] k c apart leads = leads
  moved_forth (edge ∷ edges) zero c apart leads =
      elim (cases_eq edge.block from) [
        | inl same ↦ absurd (apart (sym (some_is leads) ∙ same))
        | inr other ↦ ap (λ (e : BlockCall). Some e.block) (elsewhere edge other) ∙ leads
      ]
  moved_forth (edge ∷ edges) (suc k) c apart leads = moved_forth edges k c apart leads

  moved_back : (edges : List BlockCall) (k c : ℕ) → c ≢ to → slice_get (targets (with_target_changed from to edges)) k ≡ Some c → slice_get (targets edges) k ≡ Some c
  moved_back [] k c apart leads = leads
  moved_back (edge ∷ edges) zero c apart leads =
      elim (cases_eq edge.block from) [
        | inl same ↦ absurd (apart (some_is (sym leads ∙ ap (λ (e : BlockCall). Some e.block) (at_from edge same))))
        | inr other ↦ sym (ap (λ (e : BlockCall). Some e.block) (elsewhere edge other)) ∙ leads
      ]
  moved_back (edge ∷ edges) (suc k) c apart leads = moved_back edges k c apart leads

  moved_arrives : (edges : List BlockCall) (k : ℕ) → slice_get (targets (with_target_changed from to edges)) k ≡ Some to
      → (slice_get (targets edges) k ≡ Some to) ⊎ (slice_get (targets edges) k ≡ Some from)
  moved_arrives [] k leads = absurd (none_some leads)
  moved_arrives (edge ∷ edges) zero leads =
      elim (cases_eq edge.block from) [
        | inl same ↦ inr (ap Some same)
        | inr other ↦ inl (sym (ap (λ (e : BlockCall). Some e.block) (elsewhere edge other)) ∙ leads)
      ]
  moved_arrives (edge ∷ edges) (suc k) leads = moved_arrives edges k leads

  pub moved_destinations : (shape : InstructionData) → destinations (with_targets_changed from to shape) ≡ with_target_changed from to (destinations shape)
  moved_destinations (Jump destination) = refl
  moved_destinations (Brif arg blocks) = refl
  moved_destinations (BranchTable arg table) = refl
  moved_destinations (TryCall function args table) = refl
  moved_destinations (TryCallIndirect args table) = refl
  moved_destinations _ = refl

  none_moved : (edges : List BlockCall) → edges ≡ [] → with_target_changed from to edges ≡ edges
  none_moved [] none = refl
  none_moved (edge ∷ edges) none = let no_way : ⊥ = cc in absurd no_way

  table_stays : (table : ExceptionTargets) → table.edges ≡ [] → record table { edges = with_target_changed from to table.edges } ≡ table
  table_stays table none = ap (λ (edges : List BlockCall). record table { edges = edges }) (none_moved table.edges none)

  -- what has no edges stays
  unmoved : (shape : InstructionData) → destinations shape ≡ [] → with_targets_changed from to shape ≡ shape
  unmoved (Jump destination) none = let no_way : ⊥ = cc in absurd no_way
  unmoved (Brif arg blocks) none = ap (Brif arg) (none_moved blocks none)
  unmoved (BranchTable arg table) none = ap (BranchTable arg) (none_moved table none)
  unmoved (TryCall function args table) none = ap (TryCall function args) (table_stays table none)
  unmoved (TryCallIndirect args table) none = ap (TryCallIndirect args) (table_stays table none)
  unmoved _ none = refl

-- FUNCTIONS -------------------------------------------------------------------------------------------------------

-- The second function has the same values, blocks and layout as the first, and the same instructions, but that the edges of
-- one to `from` go to `to`.
pub record Moving (f g : Body) (i from to : ℕ) : Type 0 where
  pub same : g ≡ record f { insts = g.insts }
  pub count : length g.insts ≡ length f.insts
  pub block : (j : ℕ) → branch_block g j ≡ branch_block f j
  pub results : (j : ℕ) → (inst_at g j).results ≡ (inst_at f j).results
  pub plain : (j : ℕ) (shape : InstructionData) → destinations shape ≡ [] → (inst_at f j).shape ≡ shape → (inst_at g j).shape ≡ shape
  pub args : (j k : ℕ) → args_of (slice_get (edges_at g j) k) ≡ args_of (slice_get (edges_at f j) k)
  pub forth : (j k c : ℕ) → c ≢ from → edge_target f j k ≡ Some c → edge_target g j k ≡ Some c
  pub back : (j k c : ℕ) → c ≢ to → edge_target g j k ≡ Some c → edge_target f j k ≡ Some c
  pub arrives : (j k : ℕ) → edge_target g j k ≡ Some to → (edge_target f j k ≡ Some to) ⊎ ((j ≡ i) × (edge_target f j k ≡ Some from))

pub moves : (f : Body) (i from to : ℕ) → i < length f.insts → Moving f (with_branch_target f i from to) i from to
moves f i from to within = record {
  same = refl;
  count = grind (arith, common_steps);
  block = λ j. at (λ m. m.block ≡ (inst_at f j).block) j (λ same. ap (λ k. (inst_at f k).block) (sym same)) (λ other. refl);
  results = λ j. at (λ m. m.results ≡ (inst_at f j).results) j (λ same. ap (λ k. (inst_at f k).results) (sym same)) (λ other. refl);
  plain = λ j shape none is.
      at (λ m. m.shape ≡ shape) j
      (λ same. let here : (inst_at f i).shape ≡ shape = subst (λ k. (inst_at f k).shape ≡ shape) same is in ap (with_targets_changed from to) here ∙ unmoved from to shape none) (λ other. is);
  args = λ j k.
      at (λ m. args_of (slice_get (destinations m.shape) k) ≡ args_of (slice_get (edges_at f j) k)) j
      (λ same.
      ap (λ (edges : List BlockCall). args_of (slice_get edges k)) (moved_destinations from to (inst_at f i).shape)
      ∙ moved_args from to (edges_at f i) k ∙ ap (λ n. args_of (slice_get (edges_at f n) k)) (sym same)) (λ other. refl);
  forth = λ j k c apart leads.
      at (λ m. slice_get (targets (destinations m.shape)) k ≡ Some c) j
      (λ same.
      ap (λ (edges : List BlockCall). slice_get (targets edges) k) (moved_destinations from to (inst_at f i).shape)
      ∙ moved_forth from to (edges_at f i) k c apart (subst (λ n. edge_target f n k ≡ Some c) same leads)) (λ other. leads);
  back = λ j k c apart.
      at (λ m. slice_get (targets (destinations m.shape)) k ≡ Some c → edge_target f j k ≡ Some c) j
      (λ same leads.
      subst (λ n. edge_target f n k ≡ Some c) (sym same)
      (moved_back from to (edges_at f i) k c apart (sym (ap (λ (edges : List BlockCall). slice_get (targets edges) k) (moved_destinations from to (inst_at f i).shape)) ∙ leads)))
      (λ other leads. leads);
  arrives = λ j k.
      at (λ m. slice_get (targets (destinations m.shape)) k ≡ Some to → (edge_target f j k ≡ Some to) ⊎ ((j ≡ i) × (edge_target f j k ≡ Some from))) j
      (λ same leads.
      elim (moved_arrives from to (edges_at f i) k (sym (ap (λ (edges : List BlockCall). slice_get (targets edges) k) (moved_destinations from to (inst_at f i).shape)) ∙ leads)) [
        | inl there ↦ inl (subst (λ n. edge_target f n k ≡ Some to) (sym same) there)
        | inr moved ↦ inr (same, subst (λ n. edge_target f n k ≡ Some from) (sym same) moved)
      ])
      (λ other leads. inl leads);
}
  where
    node : InstNode
    node = record (inst_at f i) { shape = with_targets_changed from to (inst_at f i).shape }

    at : (P : InstNode → Type 0) (j : ℕ) → (j ≡ i → P node) → (j ≢ i → P (inst_at f j)) → P (inst_at (with_branch_target f i from to) j)
    at P j here other = at_set P f.insts i node j no_inst within here other

-- zeros stay as they are
pub zero_moved : (f g : Body) (i from to : ℕ) (z : ZeroAt) → Moving f g i from to → HasZero f z → HasZero g z
zero_moved f g i from to z moving has k step is =
    let old : IsStep f (z.inst + k) (z.value + k) step = has k step is in
    record {
      exists = let there : z.inst + k < length f.insts = old.exists in omega (arith, there, moving.count);
      value_exists = subst (λ (h : Body). z.value + k < length h.values) (sym moving.same) old.value_exists;
      constant = old.constant;
      zeros = zeros_stay f g old.constant step.size (λ c bytes here. ap (λ (h : Body). slice_get h.tables.constants c) moving.same ∙ here) old.zeros;
      shape = moving.plain (z.inst + k) _ ((plain_step z.ty k step is).no_edges old.constant _) old.shape;
      result = moving.results (z.inst + k) ∙ old.result;
    }
