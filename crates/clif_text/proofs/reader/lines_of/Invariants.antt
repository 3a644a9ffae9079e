use Rattle.std.proofs.Common.{◌≡◌}
use Rattle.clif_text.proofs.reader.lines_of.Given as goal

abbrev pub invariant-loop-line : goal.invariant-loop-line
invariant-loop-line l = l.lines.items ≡ l.yielded
