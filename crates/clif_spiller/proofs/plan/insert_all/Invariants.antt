use Rattle.std.proofs.Common.{take}
use Rattle.clif_spiller.specs.Plans.{HasMembers}
use Rattle.clif_spiller.proofs.plan.insert_all.Given as goal

abbrev pub invariant-loop-value : goal.invariant-loop-value
invariant-loop-value l = HasMembers l.initial.set (take l.value-index l.values) l.set
