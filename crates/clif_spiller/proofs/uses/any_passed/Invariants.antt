use Rattle.std.proofs.Common.{◌≡◌, [], take}
use Rattle.clif_spiller.specs.Acting.{edge_values, needs}
use Rattle.clif_spiller.proofs.uses.any_passed.Given as goal

abbrev pub invariant-loop-edge : goal.invariant-loop-edge
invariant-loop-edge l = needs l.plan (edge_values l.func (take l.edge-index l.edges)) ≡ []
