use Rattle.std.proofs.Common.{arith, ◌∙◌}
use Rattle.clif_nodes.proofs.Results.{result_kinds_pushed}
use Rattle.clif_nodes.proofs.growth.push_result_nodes.Goals as goal

pub loop-place-preserved : goal.loop-place-preserved
loop-place-preserved c = (
  result_kinds_pushed _ _ _ _ _ _ _ _ _ c.loop-place-test.true c.loop-place.invariant.0 c.at-ty-in-loop-place.ensures c.push_reserved-in-loop-place.ensures.items,
  omega (arith, c.push_reserved-in-loop-place.ensures.len, c.loop-place.invariant.1),
  c.push_reserved-in-loop-place.ensures.capacity ∙ c.loop-place.invariant.2,
)
