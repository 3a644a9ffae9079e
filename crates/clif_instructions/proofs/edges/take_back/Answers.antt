use Rattle.std.proofs.Common.{arith}
use Rattle.clif_instructions.specs.Edges.{taken_from}
use Rattle.clif_instructions.proofs.EdgeLoops.{partly-next}
use Rattle.clif_instructions.proofs.edges.take_back.Goals as goal

pub loop-place-preserved : goal.loop-place-preserved
loop-place-preserved c =
    partly-next (taken_from c.args.block) c.args.edges.now c.loop-place.edges c.loop-place.place c.index-edges-place.result c.take_from_edge.new.edge
    (omega (arith, c.loop-place-test.true, c.requires)) c.loop-place.invariant c.take_from_edge.ensures
