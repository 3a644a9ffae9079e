-- None of the words so far is `=`.
use Rattle.std.proofs.Common.{take, ◌≢◌}
use Rattle.std.specs.List.{All}
use Rattle.std.specs.Prelude.{codes}
use Rattle.clif_words.specs.Cursor.{texts}
use Rattle.clif_text.proofs.reader.parts_at_equals.Given as goal

abbrev pub invariant-loop-index : goal.invariant-loop-index
invariant-loop-index l = All (λ word. word ≢ codes "=") (texts (take l.index l.words))
