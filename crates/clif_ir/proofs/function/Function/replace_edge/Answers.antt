-- replace_edge
use Rattle.std.proofs.Common.{◌<◌, length, sym, subst, arith}
use Rattle.std.proofs.lemmas.Grind.{common_steps}
use Rattle.clif_instructions.specs.Instruction.{destinations}
use Rattle.clif_ir.specs.Body.{Body, inst_at}
use Rattle.clif_ir.specs.Changes.{with_edge_at}
use Rattle.clif_ir.specs.Consistent.{EdgeExists}
use Rattle.clif_ir.specs.Whole.{body_of}
use Rattle.clif_ir.proofs.Keeps.{consistent_at}
use Rattle.clif_ir.proofs.KeepsEdge.{with_edge_at_consistent}
use Rattle.clif_ir.proofs.function.Function.replace_edge.Goals as goal

pub invariant_of-self : goal.invariant_of-self
invariant_of-self c =
    let edge : c.args.edge < length (destinations (inst_at (body_of c.self.inside) c.args.inst).shape) =
    subst (λ (f : Body). c.args.edge < length (destinations (inst_at f c.args.inst).shape)) (sym c.self.view_is) c.requires.edge_exists in
    let call : EdgeExists (body_of c.self.inside) c.args.call = subst (λ (f : Body). EdgeExists f c.args.call) (sym c.self.view_is) c.requires.call_exists in
    record {
      linked = c.self.invariant.linked;
      listed = c.self.invariant.listed;
      consistent = consistent_at (with_edge_at (body_of c.self.inside) c.args.inst c.args.edge c.args.call) _ (grind (arith, common_steps))
          (with_edge_at_consistent _ _ _ _ c.self.invariant.consistent (grind (arith, common_steps)) edge call);
      threaded = c.self.invariant.threaded;
      link_count = grind (arith, common_steps, c.self.invariant.link_count);
      place_count = c.self.invariant.place_count;
    }
