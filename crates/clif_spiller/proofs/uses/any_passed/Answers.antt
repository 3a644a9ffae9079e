use Rattle.std.proofs.Common.{◌∙◌, ap, arith}
use Rattle.clif_spiller.specs.Acting.{edge_values, needs, passed_values}
use Rattle.clif_spiller.proofs.Needing.{edges_append, none_all, none_next, one_edge}
use Rattle.std.proofs.Common.{sym}
use Rattle.clif_spiller.proofs.uses.any_passed.Goals as goal

pub loop-edge-preserved : goal.loop-edge-preserved
loop-edge-preserved c =
    none_next c.args.plan.now (edge_values c.args.func.now) (edges_append c.args.func.now) c.args.edges.now c.loop-edge.edge-index c.edge-item.result c.loop-edge-test.true c.edge-item.is
    c.loop-edge.invariant (one_edge c.args.plan.now c.args.func.now c.edge-item.result ∙ ap (λ xs. needs c.args.plan.now (passed_values c.args.func.now xs)) (sym c.as_slice.ensures) ∙ c.passes_spilled.ensures.none c.if-passes_spilled.false)

pub returns : goal.returns
returns c = record {
  none = λ is.
      none_all c.args.plan.now (edge_values c.args.func.now) (edges_append c.args.func.now) c.args.edges.now c.loop-edge.edge-index (omega (arith, c.loop-edge-test.false)) c.loop-edge.invariant;
}
