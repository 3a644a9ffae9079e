use Rattle.std.proofs.Common.{◌-◌, length}
use Rattle.clif_number_sets.specs.Sets.{is_in}
use Rattle.clif_safepoints.proofs.Recording.{RowTo}
use Rattle.clif_safepoints.proofs.last_pass.members.Given as goal

abbrev pub invariant-loop-place : goal.invariant-loop-place
invariant-loop-place l = RowTo l.recorded (is_in l.live) l.from l.values

abbrev pub decreases-loop-place : goal.decreases-loop-place
decreases-loop-place l = length l.live - l.from
