-- The words that were taken so far are the numbers so far.
use Rattle.std.proofs.Common.{length}
use Rattle.clif_words.specs.Cursor.{words_left}
use Rattle.clif_arguments.proofs.Headers.{TakesNumbers}
use Rattle.clif_arguments.proofs.header.numbers_to_end.Given as goal

abbrev pub invariant-loop-words : goal.invariant-loop-words
invariant-loop-words l = TakesNumbers l.fn.words l.words l.values.items

abbrev pub decreases-loop-words : goal.decreases-loop-words
decreases-loop-words l = length (words_left l.words)
