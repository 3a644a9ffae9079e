use Rattle.std.proofs.Common.{arith, ◌∙◌, ◌<◌, List, length, refl, ap, sym, subst}
use Rattle.std.proofs.lemmas.Grind.{common_steps}
use Rattle.clif_nodes.specs.Nodes.{BlockNode}
use Rattle.clif_ir.specs.Body.{Body}
use Rattle.clif_ir.specs.Changes.{with_cold}
use Rattle.clif_ir.specs.Whole.{body_of}
use Rattle.clif_ir.proofs.Keeps.{consistent_at}
use Rattle.clif_ir.proofs.KeepsCold.{with_cold_consistent}
use Rattle.clif_ir.proofs.Rows.{cold_written, ends_written}
use Rattle.clif_ir.proofs.function.Function.set_cold_block.Goals as goal

pub invariant_of-self : goal.invariant_of-self
invariant_of-self c =
    let exists : c.args.block < length (body_of c.self.inside).blocks = subst (λ (f : Body). c.args.block < length f.blocks) (sym c.self.view_is) c.requires in
    record {
      linked = c.self.invariant.linked;
      listed = c.self.invariant.listed;
      consistent = consistent_at (with_cold (body_of c.self.inside) c.args.block) _
          (ap (λ (blocks : List BlockNode). record (body_of c.self.inside) { blocks = blocks })
          (cold_written c.self.inside.blocks.items c.self.inside.inst_links.items c.args.block c.index.result c.index_mut.result.now c.index.ensures.place exists c.index_mut.ensures.value))
          (with_cold_consistent _ _ c.self.invariant.consistent exists);
      threaded =
          ends_written c.self.inside.blocks.items c.self.inside.inst_links.items c.args.block c.index.result c.index_mut.result.now c.index.ensures.place exists c.index_mut.ensures.value
          _ refl refl refl c.self.invariant.threaded;
      link_count = c.self.invariant.link_count;
      place_count = grind (arith, common_steps, c.self.invariant.place_count);
    }

pub returns : goal.returns
returns c =
    let exists : c.args.block < length (body_of c.self.inside).blocks = subst (λ (f : Body). c.args.block < length f.blocks) (sym c.self.view_is) c.requires in
    ap (λ (blocks : List BlockNode). record (body_of c.self.inside) { blocks = blocks })
    (sym (cold_written c.self.inside.blocks.items c.self.inside.inst_links.items c.args.block c.index.result c.index_mut.result.now c.index.ensures.place exists c.index_mut.ensures.value))
    ∙ ap (λ f. with_cold f c.args.block) c.self.view_is
