use Rattle.std.proofs.Common.{◌≡◌, length, drop}
use Rattle.clif_ssa.specs.Constructs.{OnlyConstructs}
use Rattle.clif_ssa.specs.LookUp.{with_arguments}
use Rattle.clif_ssa.proofs.ending.pass_arguments.Given as goal

abbrev pub invariant-loop-place : goal.invariant-loop-place
invariant-loop-place l =
    (with_arguments l.func l.block (drop l.place l.branches) (drop l.place l.values) ≡ with_arguments l.initial.func l.block l.branches l.values)
    × (length l.func.values ≡ length l.initial.func.values) × (length l.func.insts ≡ length l.initial.func.insts)
    × (length l.func.blocks ≡ length l.initial.func.blocks)
    × (l.func.tables ≡ l.initial.func.tables)
    × OnlyConstructs l.initial.func l.func
