use Rattle.clif_spiller.proofs.Operands.{ReadsOperands}
use Rattle.clif_spiller.proofs.uses.reload_operands.Given as goal

abbrev pub invariant-loop-place : goal.invariant-loop-place
invariant-loop-place l = ReadsOperands l.plan l.initial.func l.initial.slots l.inst l.place l.func l.slots
