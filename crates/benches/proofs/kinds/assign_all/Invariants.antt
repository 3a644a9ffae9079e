use Rattle.std.proofs.Common.{◌≡◌}
use Rattle.benches.specs.Variables.{eight}
use Rattle.benches.proofs.kinds.assign_all.Given as goal

abbrev pub invariant-loop-number : goal.invariant-loop-number
invariant-loop-number g l = l.builder.ctx.now.parts.variables ≡ eight
