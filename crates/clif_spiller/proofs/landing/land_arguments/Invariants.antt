use Rattle.std.proofs.Common.{◌≡◌}
use Rattle.std.proofs.Common.{take}
use Rattle.std.specs.Prelude.{All}
use Rattle.clif_spiller.specs.Acting.{Acts, args_of, needs, passed_values}
use Rattle.clif_ir.specs.Body.{inst_at}
use Rattle.clif_spiller.specs.Plans.{GoesOn, OwnArgument}
use Rattle.clif_spiller.specs.Text.{LandsArguments}
use Rattle.clif_spiller.proofs.landing.land_arguments.Given as goal

abbrev pub invariant-loop-place : goal.invariant-loop-place
invariant-loop-place l =
    GoesOn l.landing.block l.initial.func l.initial.slots l.func l.slots
    × ((inst_at l.func l.inst).shape ≡ (inst_at l.initial.func l.inst).shape) × (l.func.layout ≡ l.initial.func.layout)
    × All OwnArgument l.own
    × Acts l.plan l.landing.jump l.initial.func l.initial.slots l.func l.slots
    (needs l.plan (passed_values l.initial.func (take l.place (args_of l.initial.func l.inst l.edge))))
    × LandsArguments l.plan l.landing.block l.landing.jump l.landing.target (inst_at l.initial.func l.inst).shape l.initial.func l.initial.slots l.func l.slots
    (take l.place (args_of l.initial.func l.inst l.edge)) l.own
