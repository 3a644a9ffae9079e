use Rattle.std.proofs.Common.{◌≡◌, ℕ, List, Some, take}
use Rattle.std.specs.Fmt.{HasWritten, IsPlainFormatter}
use Rattle.clif_tables.specs.Preamble.{lines}
use Rattle.clif_tables.proofs.write.write_lines.Given as goal

abbrev pub invariant-loop-number : goal.invariant-loop-number
invariant-loop-number g l =
    (text : g.row.V.Denot → List ℕ) → ((entry : g.row.V.Denot) → g.V.Display.output entry ≡ Some (text entry))
    → IsPlainFormatter l.initial.f → HasWritten g.W.Write.write_str_gives l.initial.f (lines l.kind text (take l.number l.entries)) l.f
