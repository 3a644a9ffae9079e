-- What the lines so far said.
use Rattle.std.proofs.Common.{take}
use Rattle.clif_text.specs.Reader.{IsCounted, said_to}
use Rattle.clif_text.specs.Script.{lines_of, nothing_said, LinesSay}
use Rattle.clif_text.proofs.reader.read_lines.Given as goal

abbrev pub invariant-loop-index : goal.invariant-loop-index
invariant-loop-index l = IsCounted l.reader × LinesSay 1 (take l.index (lines_of l.text)) nothing_said (said_to l.reader)
