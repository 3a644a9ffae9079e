-- The words that were taken so far stand for the cases that were read so far.
use Rattle.std.proofs.Common.{length}
use Rattle.clif_words.specs.Cursor.{words_left}
use Rattle.clif_arguments.specs.Arguments.{AreSwitchCases}
use Rattle.clif_arguments.proofs.TakingTables.{TakesMany}
use Rattle.clif_arguments.proofs.args.Args.last_switch_cases.Given as goal

abbrev pub invariant-loop-entries : goal.invariant-loop-entries
invariant-loop-entries l = TakesMany AreSwitchCases l.fn.self l.self l.entries.items

abbrev pub decreases-loop-entries : goal.decreases-loop-entries
decreases-loop-entries l = length (words_left l.self.words)
