-- set_alias_region
use Rattle.std.proofs.Common.{arith}
use Rattle.std.proofs.lemmas.Grind.{common_steps}
use Rattle.clif_ir.specs.Changes.{with_alias_region}
use Rattle.clif_ir.specs.Whole.{body_of}
use Rattle.clif_ir.proofs.Keeps.{consistent_at}
use Rattle.clif_ir.proofs.KeepsRegion.{with_alias_region_consistent}
use Rattle.clif_ir.proofs.function.Function.set_alias_region.Goals as goal

pub invariant_of-self : goal.invariant_of-self
invariant_of-self c = record {
  linked = c.self.invariant.linked;
  listed = c.self.invariant.listed;
  consistent = consistent_at (with_alias_region (body_of c.self.inside) c.args.inst c.args.region) _ (grind (arith, common_steps))
      (with_alias_region_consistent _ _ _ c.self.invariant.consistent (grind (arith, common_steps)));
  threaded = c.self.invariant.threaded;
  link_count = grind (arith, common_steps, c.self.invariant.link_count);
  place_count = c.self.invariant.place_count;
}
