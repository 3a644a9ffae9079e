use Rattle.std.proofs.Common.{arith, ◌∙◌}
use Rattle.clif_nodes.proofs.Results.{given_pushed}
use Rattle.clif_nodes.proofs.growth.push_given_nodes.Goals as goal

pub loop-place-preserved : goal.loop-place-preserved
loop-place-preserved c = (
  given_pushed _ _ _ _ _ _ _ _ c.loop-place-test.true c.loop-place.invariant.0 c.push_reserved.ensures.items,
  omega (arith, c.push_reserved.ensures.len, c.loop-place.invariant.1),
  c.push_reserved.ensures.capacity ∙ c.loop-place.invariant.2,
)
