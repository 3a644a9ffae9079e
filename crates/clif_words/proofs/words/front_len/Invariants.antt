use Rattle.std.proofs.Common.{take}
use Rattle.clif_words.specs.Words.{AllOf}
use Rattle.clif_words.proofs.words.front_len.Given as goal

abbrev pub invariant-loop-index : goal.invariant-loop-index
invariant-loop-index l = AllOf l.wanted (take l.index l.bytes)
