use Rattle.clif_spiller.proofs.Edges.{ReadsEdges}
use Rattle.clif_spiller.proofs.uses.reload_uses.Given as goal

abbrev pub invariant-loop-edge : goal.invariant-loop-edge
invariant-loop-edge l = ReadsEdges l.plan l.initial.func l.initial.slots l.inst l.edge l.func l.slots
