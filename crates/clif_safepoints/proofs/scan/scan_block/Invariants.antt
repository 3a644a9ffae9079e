use Rattle.clif_safepoints.specs.Sets.{in_set_of}
use Rattle.clif_safepoints.proofs.Scanning.{IsLiveFrom}
use Rattle.clif_safepoints.proofs.scan.scan_block.Given as goal

abbrev pub invariant-loop-place : goal.invariant-loop-place
invariant-loop-place l = IsLiveFrom l.func (in_set_of l.live_ins) l.recorded l.insts l.place l.live
