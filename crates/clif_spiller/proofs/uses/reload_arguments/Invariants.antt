use Rattle.clif_spiller.proofs.Passing.{PassesOn}
use Rattle.clif_spiller.proofs.uses.reload_arguments.Given as goal

abbrev pub invariant-loop-place : goal.invariant-loop-place
invariant-loop-place l = PassesOn l.plan l.initial.func l.initial.slots l.inst l.edge l.place l.func l.slots
