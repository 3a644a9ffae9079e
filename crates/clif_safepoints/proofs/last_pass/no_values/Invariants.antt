use Rattle.std.proofs.Common.{[]}
use Rattle.clif_safepoints.specs.Tables.{AreRows}
use Rattle.clif_safepoints.proofs.last_pass.no_values.Given as goal

abbrev pub invariant-loop-number : goal.invariant-loop-number
invariant-loop-number l = AreRows l._number (λ number. []) l.lists.items
