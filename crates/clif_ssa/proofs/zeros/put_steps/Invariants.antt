use Rattle.std.proofs.Common.{◌≡◌, ◌≤◌, ◌-◌, length, take}
use Rattle.clif_ssa.specs.Ssa.{with_steps}
use Rattle.clif_ssa.specs.Zeros.{zero_steps}
use Rattle.clif_ssa.proofs.zeros.put_steps.Given as goal

abbrev pub invariant-loop-shape : goal.invariant-loop-shape
invariant-loop-shape l = (l.place ≤ length (zero_steps l.ty)) × (l.func ≡ with_steps l.initial.func l.block (take l.place (zero_steps l.ty)))

abbrev pub decreases-loop-shape : goal.decreases-loop-shape
decreases-loop-shape l = length (zero_steps l.ty) - l.place
