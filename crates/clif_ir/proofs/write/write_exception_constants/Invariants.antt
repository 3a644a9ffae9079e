use Rattle.std.proofs.Common.{suc, ◌≤◌}
use denote.Text.{Utf8}
use denote.Shadow.{shadow}
use Rattle.clif_ir.proofs.write.write_exception_constants.Given as goal

-- each item before this place took at most one edge
abbrev pub invariant-loop-place : goal.invariant-loop-place
invariant-loop-place g l = shadow (Utf8 l.separator) × (l.next ≤ suc l.place)
