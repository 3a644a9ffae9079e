-- The words that were taken so far are the types so far.
use Rattle.std.proofs.Common.{length}
use Rattle.clif_words.specs.Cursor.{words_left}
use Rattle.clif_arguments.proofs.Headers.{TakesTypes}
use Rattle.clif_arguments.proofs.header.take_types.Given as goal

abbrev pub invariant-loop-ty : goal.invariant-loop-ty
invariant-loop-ty l = TakesTypes l.fn.words l.words l.params.items

abbrev pub decreases-loop-ty : goal.decreases-loop-ty
decreases-loop-ty l = length (words_left l.words)
