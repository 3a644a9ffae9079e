-- The words that were taken so far stand for the answers so far.
use Rattle.std.proofs.Common.{length}
use Rattle.clif_words.specs.Cursor.{words_left}
use Rattle.clif_arguments.proofs.Taking.{TakesAnswers}
use Rattle.clif_arguments.proofs.args.Args.answers_to_end.Given as goal

abbrev pub invariant-loop-expected : goal.invariant-loop-expected
invariant-loop-expected l = TakesAnswers l.fn.self l.self l.values.items

abbrev pub decreases-loop-expected : goal.decreases-loop-expected
decreases-loop-expected l = length (words_left l.self.words)
