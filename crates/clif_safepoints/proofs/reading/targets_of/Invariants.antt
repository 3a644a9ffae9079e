use Rattle.std.proofs.Common.{◌≡◌, take}
use Rattle.clif_safepoints.specs.Transfer.{targets_from}
use Rattle.clif_safepoints.proofs.reading.targets_of.Given as goal

abbrev pub invariant-loop-inst : goal.invariant-loop-inst
invariant-loop-inst l = l.blocks ≡ targets_from l.func (take l.inst-index l.insts)
