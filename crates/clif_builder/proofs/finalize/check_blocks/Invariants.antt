use Rattle.std.proofs.Common.{◌≡◌, ◌-◌}
use Rattle.clif_builder.specs.Builder.{first_fault}
use Rattle.clif_builder.proofs.finalize.check_blocks.Given as goal

abbrev pub invariant-loop-number : goal.invariant-loop-number
invariant-loop-number l = first_fault l.ctx l.number (l.count - l.number) ≡ first_fault l.ctx 0 l.count
