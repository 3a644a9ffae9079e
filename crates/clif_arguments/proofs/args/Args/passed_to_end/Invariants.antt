-- The words that were taken so far stand for what was read so far.
use Rattle.std.proofs.Common.{length}
use Rattle.clif_words.specs.Cursor.{words_left}
use Rattle.clif_arguments.specs.Arguments.{ArePassed}
use Rattle.clif_arguments.proofs.TakingTables.{TakesMany}
use Rattle.clif_arguments.proofs.args.Args.passed_to_end.Given as goal

abbrev pub invariant-loop-args : goal.invariant-loop-args
invariant-loop-args l = TakesMany ArePassed l.fn.self l.self l.args.items

abbrev pub decreases-loop-args : goal.decreases-loop-args
decreases-loop-args l = length (words_left l.self.words)
