use Rattle.clif_safepoints.specs.Sets.{in_set_of}
use Rattle.clif_safepoints.proofs.Recording.{RecordedFrom}
use Rattle.clif_safepoints.proofs.Scanning.{IsLiveFrom}
use Rattle.clif_safepoints.proofs.last_pass.record_block.Given as goal

abbrev pub invariant-loop-place : goal.invariant-loop-place
invariant-loop-place l =
    IsLiveFrom l.func (in_set_of l.live_ins) l.recorded l.insts l.place l.live
    × RecordedFrom l.func l.recorded l.live_ins l.insts l.place l.initial.across.items l.across.items
