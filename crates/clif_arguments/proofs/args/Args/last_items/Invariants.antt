-- The words that were taken so far stand for what was read so far.
use Rattle.std.proofs.Common.{length}
use Rattle.clif_words.specs.Cursor.{words_left}
use Rattle.clif_arguments.specs.Arguments.{AreItems}
use Rattle.clif_arguments.proofs.TakingTables.{TakesMany}
use Rattle.clif_arguments.proofs.args.Args.last_items.Given as goal

abbrev pub invariant-loop-items : goal.invariant-loop-items
invariant-loop-items l = TakesMany AreItems l.fn.self l.self l.items.items

abbrev pub decreases-loop-items : goal.decreases-loop-items
decreases-loop-items l = length (words_left l.self.words)
