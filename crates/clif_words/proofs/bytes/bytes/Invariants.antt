-- Behind `0x` and the digits that are left stand those of the bytes so far.
use Rattle.std.proofs.Common.{◌≡◌, ◌++◌, length, reverse}
use Rattle.std.specs.Prelude.{codes}
use Rattle.std.specs.List.{flat_map}
use Rattle.clif_types.specs.Texts.{byte_text}
use Rattle.clif_words.proofs.bytes.bytes.Given as goal

abbrev pub invariant-loop-left : goal.invariant-loop-left
invariant-loop-left l = l.word ≡ codes "0x" ++ (l.left ++ flat_map byte_text (reverse l.bytes.items))

abbrev pub decreases-loop-left : goal.decreases-loop-left
decreases-loop-left l = length l.left
