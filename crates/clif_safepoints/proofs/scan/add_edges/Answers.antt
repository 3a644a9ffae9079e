use Rattle.std.proofs.Common.{length, slice_index, sym}
use Rattle.clif_safepoints.specs.Transfer.{edge_needs}
use Rattle.clif_safepoints.specs.Sets.{in_set_of}
use Rattle.clif_safepoints.proofs.Marks.{add_end, add_start, add_step}
use Rattle.clif_safepoints.proofs.scan.add_edges.Goals as goal

pub loop-edge-init : goal.loop-edge-init
loop-edge-init c = add_start (length c.args.recorded.now) (λ k x. edge_needs c.args.func.now (in_set_of c.args.live_ins.now k) (slice_index c.args.recorded.now k) x) c.args.live.now c.requires.size

pub loop-edge-preserved : goal.loop-edge-preserved
loop-edge-preserved c =
    add_step (length c.args.recorded.now) (λ k x. edge_needs c.args.func.now (in_set_of c.args.live_ins.now k) (slice_index c.args.recorded.now k) x) c.args.edges.now c.loop-edge.edge-index
    c.edge-item.result c.args.live.now c.loop-edge.live c.add_edge.new.live c.loop-edge-test.true (sym c.edge-item.is) c.loop-edge.invariant c.add_edge.ensures

pub returns : goal.returns
returns c =
    add_end (length c.args.recorded.now) (λ k x. edge_needs c.args.func.now (in_set_of c.args.live_ins.now k) (slice_index c.args.recorded.now k) x) c.args.edges.now c.loop-edge.edge-index
    c.args.live.now c.loop-edge.live c.loop-edge-test.false c.loop-edge.invariant
