-- Another layout keeps a function consistent, and a new block keeps the layout.
use Rattle.std.proofs.Common.{◌≡◌, ℕ, ◌+◌, ◌<◌, List, [], ◌∷◌, ◌++◌, length, refl, ap, arith}
use Rattle.std.specs.Prelude.{slice_index, slice_index_or, Option}
use Rattle.std.proofs.lemmas.Grind.{common_steps}
use Rattle.clif_nodes.specs.declared.nodes.BlockPlace.{BlockPlace}
use Rattle.clif_nodes.specs.Places.{no_place}
use Rattle.clif_instructions.specs.Members.{Once}
use Rattle.clif_instructions.proofs.Lists.{at_push}
use Rattle.clif_ir.specs.Body.{Body}
use Rattle.clif_ir.specs.Consistent.{IsConsistent}
use Rattle.clif_ir.specs.Whole.{IsLinked, chain}
use Rattle.clif_ir.proofs.Keeps.{larger_edges, larger_origin}
use Rattle.clif_ir.proofs.Links.{linked_same, linked-chain}

-- the layout is exchanged for another one of existing blocks, each once
pub with_order_consistent : (f : Body) (layout : List ℕ) → IsConsistent f → ((k : ℕ) → k < length layout → slice_index layout k < length f.blocks) → Once layout
    → IsConsistent (record f { layout = layout })
with_order_consistent f layout known exist once = record {
  values_fit = known.values_fit;
  insts_fit = known.insts_fit;
  blocks_fit = known.blocks_fit;
  origins = λ v inside. larger_origin f (record f { layout = layout }) v _ (λ i here. (here, refl)) (λ c here. (here, λ stands. stands)) (omega arith) (known.origins v inside);
  operands_exist = known.operands_exist;
  contexts_exist = known.contexts_exist;
  edges_exist = λ i. larger_edges f (record f { layout = layout }) (omega arith) (omega arith) _ (known.edges_exist i);
  results_known = known.results_known;
  params_known = known.params_known;
  params_once = known.params_once;
  insts_stand = known.insts_stand;
  insts_known = known.insts_known;
  insts_once = known.insts_once;
  layout_exists = exist;
  layout_once = once;
  aliases_end = known.aliases_end;
  edges_without_results = known.edges_without_results;
  named_exist = known.named_exist;
  maps_known = known.maps_known;
  entries_exist = known.entries_exist;
}

-- a new place changes no link
pub with_block_linked : (layout : List ℕ) (places : List BlockPlace) (first last : Option ℕ) → IsLinked layout places first last → IsLinked layout (places ++ no_place ∷ []) first last
with_block_linked layout places first last linked =
    let same_place : (b : ℕ) → (slice_index_or (places ++ no_place ∷ []) b no_place) ≡ slice_index_or places b no_place =
    λ b. at_push (λ p. p ≡ slice_index_or places b no_place) places no_place b no_place (λ _. refl) (λ same. grind (arith, common_steps, same)) (λ past. grind (arith, common_steps, past)) in
    linked_same layout places (places ++ no_place ∷ []) first last (λ c. ap (λ (p : BlockPlace). p.next) (same_place c)) (λ c. ap (λ (p : BlockPlace). p.is_inserted) (same_place c)) linked

-- and the links lead along the layout still
pub with_block_chained : (f : Body) (places : List BlockPlace) (first last : Option ℕ) → IsConsistent f → length places ≡ length f.blocks → IsLinked f.layout places first last
    → chain (length (places ++ no_place ∷ [])) (places ++ no_place ∷ []) first ≡ f.layout
with_block_chained f places first last known count linked =
    let more : length (places ++ no_place ∷ []) ≡ length f.blocks + 1 = grind (arith, common_steps, count) in
    linked-chain f.layout (places ++ no_place ∷ []) first last known.layout_once (λ k here. omega (arith, known.layout_exists k here, more))
    (with_block_linked f.layout places first last linked)
