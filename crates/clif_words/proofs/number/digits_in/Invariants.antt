-- The number that the digits so far write, if there are any.
use Rattle.std.proofs.Common.{take}
use Rattle.clif_words.specs.Spelling.{figures}
use Rattle.clif_words.proofs.Figures.{WritesSoFar}
use Rattle.clif_words.proofs.number.digits_in.Given as goal

abbrev pub invariant-loop-byte : goal.invariant-loop-byte
invariant-loop-byte l = WritesSoFar l.radix (figures (take l.byte-index l.byte-items)) l.value
