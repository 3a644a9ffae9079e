-- A block that becomes cold keeps a function consistent.
use Rattle.std.proofs.Common.{◌≡◌, ℕ, ◌<◌, length, refl, ap, arith, sym, subst}
use Rattle.std.specs.Prelude.{slice_index, true}
use Rattle.std.proofs.lemmas.Grind.{common_steps}
use Rattle.clif_nodes.specs.declared.nodes.ValueOrigin.TheVariants.{Param}
use Rattle.clif_ir.specs.Body.{Body, value_at, inst_at, block_at}
use Rattle.clif_nodes.specs.Nodes.{BlockNode, empty_block}
use Rattle.clif_ir.specs.Changes.{with_cold}
use Rattle.clif_ir.specs.Consistent.{IsConsistent}
use Rattle.clif_instructions.specs.Members.{Stands, Once}
use Rattle.clif_instructions.proofs.Lists.{at_set}
use Rattle.clif_ir.proofs.Keeps.{larger_edges, larger_origin}

-- a cold block has the parameters and the instructions that it had
cold_params : (f : Body) (b : ℕ) → b < length f.blocks → (c : ℕ) → (block_at (with_cold f b) c).params ≡ (block_at f c).params
cold_params f b exists c =
    at_set (λ (m : BlockNode). m.params ≡ (block_at f c).params) f.blocks b (record (block_at f b) { is_cold = true }) c empty_block exists
    (λ same. ap (λ d. (block_at f d).params) (sym same)) (λ _. refl)

cold_insts : (f : Body) (b : ℕ) → b < length f.blocks → (c : ℕ) → (block_at (with_cold f b) c).insts ≡ (block_at f c).insts
cold_insts f b exists c =
    at_set (λ (m : BlockNode). m.insts ≡ (block_at f c).insts) f.blocks b (record (block_at f b) { is_cold = true }) c empty_block exists
    (λ same. ap (λ d. (block_at f d).insts) (sym same)) (λ _. refl)

pub with_cold_consistent : (f : Body) (b : ℕ) → IsConsistent f → b < length f.blocks → IsConsistent (with_cold f b)
with_cold_consistent f b known exists =
    let g : Body = with_cold f b in
    let count : length g.blocks ≡ length f.blocks = grind (arith, common_steps) in
    record {
      values_fit = known.values_fit;
      insts_fit = known.insts_fit;
      blocks_fit = omega (arith, count, known.blocks_fit);
      origins = λ v inside.
          larger_origin f g v _ (λ i there. (there, refl))
          (λ c there. (omega (arith, there, count), λ stands. subst (λ xs. Stands v xs) (sym (cold_params f b exists c)) stands))
          (omega arith) (known.origins v inside);
      operands_exist = known.operands_exist;
      contexts_exist = known.contexts_exist;
      edges_exist = λ i. larger_edges f g (omega (arith, count)) (omega arith) _ (known.edges_exist i);
      results_known = known.results_known;
      params_known = λ c. subst (λ xs. (k : ℕ) → k < length xs → (slice_index xs k < length f.values) × ((value_at f (slice_index xs k)).origin ≡ Param c)) (sym (cold_params f b exists c)) (known.params_known c);
      params_once = λ c. subst (λ xs. Once xs) (sym (cold_params f b exists c)) (known.params_once c);
      insts_stand = λ i inside.
          let here : ((inst_at f i).block < length f.blocks) × Stands i (block_at f (inst_at f i).block).insts = known.insts_stand i inside in
          (omega (arith, count, here.0), subst (λ xs. Stands i xs) (sym (cold_insts f b exists _)) here.1);
      insts_known = λ c. subst (λ xs. (k : ℕ) → k < length xs → (slice_index xs k < length f.insts) × ((inst_at f (slice_index xs k)).block ≡ c)) (sym (cold_insts f b exists c)) (known.insts_known c);
      insts_once = λ c. subst (λ xs. Once xs) (sym (cold_insts f b exists c)) (known.insts_once c);
      layout_exists = λ k inside. omega (arith, count, known.layout_exists k inside);
      layout_once = known.layout_once;
      aliases_end = known.aliases_end;
      edges_without_results = known.edges_without_results;
      named_exist = known.named_exist;
      maps_known = known.maps_known;
      entries_exist = known.entries_exist;
    }
