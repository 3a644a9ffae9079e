-- What a function keeps, put together after a change.
use Rattle.std.proofs.Common.{◌≡◌, List, length, subst, sym, ◌∙◌, ap}
use Rattle.clif_nodes.specs.declared.inst_links.InstLinks.{InstLinks}
use Rattle.clif_nodes.specs.declared.nodes.BlockData.{BlockData}
use Rattle.clif_ir.specs.declared.function.Function.TheInside.{Inside}
use Rattle.clif_ir.specs.Body.{Body}
use Rattle.clif_ir.specs.Consistent.{IsConsistent}
use Rattle.clif_ir.specs.Whole.{AreThreaded, IsLinked, IsListed, IsWhole, body_of}

-- the fields make the body, the rows of the blocks and the links of which the parts are known
pub whole_with : (g : Body) (rows : List BlockData) (links : List InstLinks) (f : Inside) → g ≡ body_of f → rows ≡ f.blocks.items → links ≡ f.inst_links.items
    → IsConsistent g → AreThreaded g.blocks rows links → length links ≡ length g.insts → length f.block_places.items ≡ length rows
    → IsLinked g.layout f.block_places.items f.first_block f.last_block → IsListed f.values.items f.aliases → IsWhole f
whole_with g rows links f same_body same_rows same_links consistent threaded link_count place_count linked listed = record {
  consistent = subst IsConsistent same_body consistent;
  listed = listed;
  threaded =
      subst (λ ls. AreThreaded (body_of f).blocks f.blocks.items ls) same_links
      (subst (λ rs. AreThreaded (body_of f).blocks rs links) same_rows (subst (λ (h : Body). AreThreaded h.blocks rows links) same_body threaded));
  link_count = sym (ap (λ (ls : List InstLinks). length ls) same_links) ∙ link_count ∙ ap (λ (h : Body). length h.insts) same_body;
  place_count = place_count ∙ ap (λ (rs : List BlockData). length rs) same_rows;
  linked = subst (λ l. IsLinked l f.block_places.items f.first_block f.last_block) (ap (λ (h : Body). h.layout) same_body) linked;
}
