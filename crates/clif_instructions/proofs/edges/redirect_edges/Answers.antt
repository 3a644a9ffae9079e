use Rattle.std.proofs.Common.{arith}
use Rattle.clif_instructions.specs.Edges.{redirected}
use Rattle.clif_instructions.proofs.EdgeLoops.{partly-next}
use Rattle.clif_instructions.proofs.edges.redirect_edges.Goals as goal

pub loop-place-preserved : goal.loop-place-preserved
loop-place-preserved c =
    partly-next (redirected c.args.from c.args.to) c.args.edges.now c.loop-place.edges c.loop-place.place c.index-edges-place.result c.redirect_edge.new.edge
    (omega (arith, c.loop-place-test.true)) c.loop-place.invariant c.redirect_edge.ensures
