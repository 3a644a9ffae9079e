use Rattle.std.proofs.Common.{◌≤◌}
use Rattle.clif_instructions.specs.Members.{Stands}
use Rattle.clif_spiller.proofs.Landed.{LandsFirst}
use Rattle.clif_spiller.proofs.Text.Leading.{LeadsFirst}
use Rattle.clif_spiller.proofs.landing.land_edges.Given as goal

abbrev pub invariant-loop-edge : goal.invariant-loop-edge
invariant-loop-edge l =
    LandsFirst l.plan l.inst l.initial.func l.initial.slots l.edge l.func l.slots × Stands l.last l.func.layout × (1 ≤ l.edge)
    × LeadsFirst l.plan l.inst l.initial.func l.initial.slots l.edge l.func l.slots
