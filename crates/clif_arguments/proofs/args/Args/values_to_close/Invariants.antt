-- The words that were taken so far stand for the answers so far.
use Rattle.std.proofs.Common.{length}
use Rattle.clif_words.specs.Cursor.{words_left}
use Rattle.clif_arguments.proofs.Taking.{TakesAnswers}
use Rattle.clif_arguments.proofs.args.Args.values_to_close.Given as goal

abbrev pub invariant-loop-values : goal.invariant-loop-values
invariant-loop-values l = TakesAnswers l.fn.self l.self l.values.items

abbrev pub decreases-loop-values : goal.decreases-loop-values
decreases-loop-values l = length (words_left l.self.words)
