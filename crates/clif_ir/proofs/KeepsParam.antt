-- A new parameter keeps a function consistent.
use Rattle.std.proofs.Common.{◌≡◌, ℕ, ◌+◌, ◌-◌, ◌^◌, ◌<◌, [], ◌∷◌, ◌++◌, length, refl, ap, arith, sym, ◌∙◌, subst}
use Rattle.std.specs.Prelude.{slice_index, None}
use Rattle.std.proofs.Math.ListN.{get_or-append}
use Rattle.std.proofs.lemmas.Grind.{common_steps}
use Rattle.clif_types.specs.declared.types.«Type».{«Type»}
use Rattle.clif_nodes.specs.declared.nodes.ValueNode.{ValueNode}
use Rattle.clif_nodes.specs.declared.nodes.ValueOrigin.TheVariants.{Param}
use Rattle.clif_ir.specs.Body.{Body, value_at, inst_at, block_at, alias_of_origin}
use Rattle.clif_nodes.specs.Nodes.{BlockNode, empty_block, no_value}
use Rattle.clif_ir.specs.Changes.{with_param}
use Rattle.clif_ir.specs.Consistent.{IsConsistent, IsOrigin}
use Rattle.clif_instructions.specs.Members.{Stands, Once}
use Rattle.clif_instructions.proofs.Lists.{at_push, at_set}
use Rattle.clif_ir.proofs.Keeps.{larger_edges, larger_values, leads_inside, larger_origin, Stands-append, Stands-push, Once-push}
use Rattle.clif_ir.proofs.Aliases.{ways_end-append}

pub with_param_consistent : (f : Body) (b : ℕ) (ty : «Type») → IsConsistent f → b < length f.blocks → length f.values < 2 ^ 32 - 1
    → IsConsistent (with_param f b ty)
with_param_consistent f b ty known exists room =
    let g : Body = with_param f b ty in
    let n : ℕ = length f.values in
    let node : ValueNode = record { ty = ty; origin = Param b } in
    let changed : BlockNode = record (block_at f b) { params = (block_at f b).params ++ n ∷ [] } in
    let count : length g.values ≡ n + 1 = grind (arith, common_steps) in
    let block_count : length g.blocks ≡ length f.blocks = grind (arith, common_steps) in
    let old_value : (v : ℕ) → v < n → value_at g v ≡ value_at f v = λ v inside. get_or-append f.values (node ∷ []) no_value v inside in
    let new_value : value_at g n ≡ node = grind (arith, common_steps) in
    let same_insts : (c : ℕ) → (block_at g c).insts ≡ (block_at f c).insts =
    λ c. at_set (λ (m : BlockNode). m.insts ≡ (block_at f c).insts) f.blocks b changed c empty_block exists (λ same. ap (λ d. (block_at f d).insts) (sym same)) (λ _. refl) in
    record {
      values_fit = omega (arith, count, room);
      insts_fit = known.insts_fit;
      blocks_fit = omega (arith, block_count, known.blocks_fit);
      origins = λ v inside.
          at_push (λ m. IsOrigin g v m.origin) f.values node v no_value
          (λ here.
          larger_origin f g v _ (λ i there. (there, refl))
          (λ c there. (
            omega (arith, there, block_count),
            λ stands.
                at_set (λ (m : BlockNode). Stands v m.params) f.blocks b changed c empty_block exists
                (λ same. Stands-append v _ _ (subst (λ d. Stands v (block_at f d).params) same stands)) (λ _. stands),
          ))
          (omega (arith, count)) (known.origins v here))
          (λ same. (
            omega (arith, exists, block_count),
            at_set (λ (m : BlockNode). Stands v m.params) f.blocks b changed b empty_block exists
                (λ _. subst (λ x. Stands v ((block_at f b).params ++ x ∷ [])) same (Stands-push v (block_at f b).params)) (λ other. absurd (other refl)),
          ))
          (λ past. absurd (omega (arith, past, inside, count)));
      operands_exist = λ i k inside. omega (arith, count, known.operands_exist i k inside);
      contexts_exist = λ i. larger_values f g (omega (arith, count)) _ (known.contexts_exist i);
      edges_exist = λ i. larger_edges f g (omega (arith, block_count)) (omega (arith, count)) _ (known.edges_exist i);
      results_known = λ i k inside.
          let here : (slice_index (inst_at f i).results k < n) × ((value_at f (slice_index (inst_at f i).results k)).origin ≡ _) = known.results_known i k inside in
          (omega (arith, count, here.0), ap (λ (m : ValueNode). m.origin) (old_value _ here.0) ∙ here.1);
      params_known = λ c.
          at_set (λ (m : BlockNode). (k : ℕ) → k < length m.params → (slice_index m.params k < length g.values) × ((value_at g (slice_index m.params k)).origin ≡ Param c)) f.blocks b changed c empty_block exists
          (λ same k.
          at_push (λ x. k < length ((block_at f b).params ++ n ∷ []) → (x < length g.values) × ((value_at g x).origin ≡ Param c)) (block_at f b).params n k 0
          (λ inside _. (omega (arith, count, (known.params_known b k inside).0), ap (λ (m : ValueNode). m.origin) (old_value _ (known.params_known b k inside).0) ∙ (known.params_known b k inside).1 ∙ ap Param (sym same)))
          (λ _ _. (omega (arith, count), ap (λ (m : ValueNode). m.origin) new_value ∙ ap Param (sym same)))
          (λ past inside. let short : length ((block_at f b).params ++ n ∷ []) ≡ length (block_at f b).params + 1 = grind (arith, common_steps) in absurd (omega (arith, past, inside, short))))
          (λ _ k inside.
          (omega (arith, count, (known.params_known c k inside).0), ap (λ (m : ValueNode). m.origin) (old_value _ (known.params_known c k inside).0) ∙ (known.params_known c k inside).1));
      params_once = λ c.
          at_set (λ (m : BlockNode). Once m.params) f.blocks b changed c empty_block exists
          (λ _. Once-push (block_at f b).params n (known.params_once b) (λ k inside. (known.params_known b k inside).0))
          (λ _. known.params_once c);
      insts_stand = λ i inside.
          let here : ((inst_at f i).block < length f.blocks) × Stands i (block_at f (inst_at f i).block).insts = known.insts_stand i inside in
          (omega (arith, block_count, here.0), subst (λ xs. Stands i xs) (sym (same_insts _)) here.1);
      insts_known = λ c. subst (λ xs. (k : ℕ) → k < length xs → (slice_index xs k < length f.insts) × ((inst_at f (slice_index xs k)).block ≡ c)) (sym (same_insts c)) (known.insts_known c);
      insts_once = λ c. subst (λ xs. Once xs) (sym (same_insts c)) (known.insts_once c);
      layout_exists = λ k inside. omega (arith, block_count, known.layout_exists k inside);
      layout_once = known.layout_once;
      aliases_end = ways_end-append f.values (node ∷ []) (leads_inside f known) refl (λ v behind. at_push (λ (m : ValueNode). alias_of_origin m.origin ≡ None) f.values node v no_value (λ here. absurd (omega (arith, here, behind))) (λ _. refl) (λ _. refl)) known.aliases_end;
      edges_without_results = known.edges_without_results;
      named_exist = known.named_exist;
      maps_known = known.maps_known;
      entries_exist = known.entries_exist;
    }
