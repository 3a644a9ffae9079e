-- A new block keeps a function consistent, and so does a block that enters the layout.
use Rattle.std.proofs.Common.{◌≡◌, ℕ, ◌+◌, ◌-◌, ◌^◌, ◌<◌, [], ◌∷◌, length, refl, arith, sym, subst}
use Rattle.std.specs.Prelude.{slice_index}
use Rattle.std.proofs.Math.ListN.{get_or-append}
use Rattle.std.proofs.lemmas.Grind.{common_steps}
use Rattle.clif_ir.specs.Body.{Body, value_at, inst_at, block_at}
use Rattle.clif_nodes.specs.Nodes.{BlockNode, empty_block}
use Rattle.clif_ir.specs.Changes.{with_block}
use Rattle.clif_ir.specs.Consistent.{IsConsistent}
use Rattle.clif_instructions.specs.Members.{Stands, Once}
use Rattle.clif_instructions.proofs.Lists.{at_push}
use Rattle.clif_ir.proofs.Keeps.{larger_edges, larger_origin}
use Rattle.clif_nodes.specs.declared.nodes.ValueOrigin.TheVariants.{Param}

pub with_block_consistent : (f : Body) → IsConsistent f → length f.blocks < 2 ^ 32 - 1 → IsConsistent (with_block f)
with_block_consistent f known room =
    let g : Body = with_block f in
    let count : length g.blocks ≡ length f.blocks + 1 = grind (arith, common_steps) in
    let old : (b : ℕ) → b < length f.blocks → block_at g b ≡ block_at f b = λ b inside. get_or-append f.blocks (empty_block ∷ []) empty_block b inside in
    record {
      values_fit = known.values_fit;
      insts_fit = known.insts_fit;
      blocks_fit = omega (arith, count, room);
      origins = λ v inside.
          larger_origin f g v _ (λ i here. (here, refl))
          (λ b here. (omega (arith, here, count), λ stands. subst (λ (n : BlockNode). Stands v n.params) (sym (old b here)) stands))
          (omega arith) (known.origins v inside);
      operands_exist = known.operands_exist;
      contexts_exist = known.contexts_exist;
      edges_exist = λ i. larger_edges f g (omega (arith, count)) (omega arith) _ (known.edges_exist i);
      results_known = known.results_known;
      params_known = λ b.
          at_push (λ n. (k : ℕ) → k < length n.params → (slice_index n.params k < length f.values) × ((value_at f (slice_index n.params k)).origin ≡ Param b)) f.blocks empty_block b empty_block
          (λ _. known.params_known b) (λ _ k inside. absurd (omega (arith, inside))) (λ _ k inside. absurd (omega (arith, inside)));
      params_once = λ b. at_push (λ n. Once n.params) f.blocks empty_block b empty_block (λ _. known.params_once b) (λ _ j k before inside. absurd (omega (arith, inside))) (λ _ j k before inside. absurd (omega (arith, inside)));
      insts_stand = λ i inside.
          let here : ((inst_at f i).block < length f.blocks) × Stands i (block_at f (inst_at f i).block).insts = known.insts_stand i inside in
          (omega (arith, count, here.0), subst (λ (n : BlockNode). Stands i n.insts) (sym (old _ here.0)) here.1);
      insts_known = λ b.
          at_push (λ n. (k : ℕ) → k < length n.insts → (slice_index n.insts k < length f.insts) × ((inst_at f (slice_index n.insts k)).block ≡ b)) f.blocks empty_block b empty_block
          (λ _. known.insts_known b) (λ _ k inside. absurd (omega (arith, inside))) (λ _ k inside. absurd (omega (arith, inside)));
      insts_once = λ b. at_push (λ n. Once n.insts) f.blocks empty_block b empty_block (λ _. known.insts_once b) (λ _ j k before inside. absurd (omega (arith, inside))) (λ _ j k before inside. absurd (omega (arith, inside)));
      layout_exists = λ k inside. omega (arith, count, known.layout_exists k inside);
      layout_once = known.layout_once;
      aliases_end = known.aliases_end;
      edges_without_results = known.edges_without_results;
      named_exist = known.named_exist;
      maps_known = known.maps_known;
      entries_exist = known.entries_exist;
    }
