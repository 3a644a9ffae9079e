use Rattle.std.proofs.Common.{arith, ◌≡◌, ◌∷◌, ◌++◌, [], length, subst}
use Rattle.std.proofs.lemmas.Grind.{common_steps}
use Rattle.clif_ir.specs.Changes.{with_block}
use Rattle.clif_ir.specs.Whole.{AreThreaded, body_of, chain}
use Rattle.clif_nodes.specs.Links.{blocks_of}
use Rattle.clif_nodes.specs.Nodes.{empty_block, no_data}
use Rattle.clif_nodes.specs.Places.{no_place}
use Rattle.clif_ir.proofs.KeepsThreads.{blocks-push, row_push}
use Rattle.clif_ir.proofs.Keeps.{consistent_at}
use Rattle.clif_ir.proofs.KeepsBlock.{with_block_consistent}
use Rattle.clif_ir.proofs.KeepsPlaces.{with_block_linked, with_block_chained}
use Rattle.clif_ir.proofs.Links.{linked_with}
use Rattle.clif_ir.proofs.function.Function.create_block.Goals as goal

pub invariant_of-self-2 : goal.invariant_of-self-2
invariant_of-self-2 c =
    let count : length c.self.inside.block_places.items ≡ length (body_of c.self.inside).blocks = grind (arith, common_steps, c.self.invariant.place_count) in
    let pushed : blocks_of c.self.inside.inst_links.items (c.self.inside.blocks.items ++ no_data ∷ []) ≡ (body_of c.self.inside).blocks ++ empty_block ∷ [] = blocks-push _ _ in
    let chained : chain (length (c.self.inside.block_places.items ++ no_place ∷ [])) (c.self.inside.block_places.items ++ no_place ∷ []) c.self.inside.first_block ≡ (body_of c.self.inside).layout = with_block_chained (body_of c.self.inside) _ _ _ c.self.invariant.consistent count c.self.invariant.linked in
    let rows : c.self.inside.blocks.items ++ no_data ∷ [] ≡ c.push_reserved.new.self.items = grind (arith, common_steps) in
    record {
      linked = linked_with (body_of c.self.inside).layout _ _ _ _ _ (grind (arith, common_steps, chained, pushed)) (grind (arith, common_steps))
          (with_block_linked _ _ _ _ c.self.invariant.linked);
      listed = c.self.invariant.listed;
      consistent = consistent_at (with_block (body_of c.self.inside)) _ (grind (arith, common_steps, chained, pushed))
          (with_block_consistent _ c.self.invariant.consistent (grind (arith, common_steps)));
      threaded =
          subst (λ rs. AreThreaded (blocks_of c.self.inside.inst_links.items rs) rs c.self.inside.inst_links.items) rows
          (row_push c.self.inside.blocks.items c.self.inside.inst_links.items c.self.invariant.threaded);
      link_count = c.self.invariant.link_count;
      place_count = grind (arith, common_steps, c.self.invariant.place_count);
    }

pub returns-clause-ok : goal.returns-clause-ok
returns-clause-ok c =
    let count : length c.self.inside.block_places.items ≡ length (body_of c.self.inside).blocks = grind (arith, common_steps, c.self.invariant.place_count) in
    let pushed : blocks_of c.self.inside.inst_links.items (c.self.inside.blocks.items ++ no_data ∷ []) ≡ (body_of c.self.inside).blocks ++ empty_block ∷ [] = blocks-push _ _ in
    let chained : chain (length (c.self.inside.block_places.items ++ no_place ∷ [])) (c.self.inside.block_places.items ++ no_place ∷ []) c.self.inside.first_block ≡ (body_of c.self.inside).layout = with_block_chained (body_of c.self.inside) _ _ _ c.self.invariant.consistent count c.self.invariant.linked in
    grind (arith, common_steps, chained, pushed)
