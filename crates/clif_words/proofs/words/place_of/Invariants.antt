-- The words so far, and what follows them.
use Rattle.std.proofs.Common.{◌≡◌, List, ℕ, ◌+◌, length}
use denote.Text.{Utf8}
use denote.Shadow.{shadow}
use Rattle.clif_words.specs.Words.{BeginsWith}
use Rattle.clif_words.proofs.words.place_of.Given as goal

abbrev pub invariant-loop-word : goal.invariant-loop-word
invariant-loop-word l = shadow (Utf8 l.rest) × ((words : List (List ℕ)) × (length words + l.left ≡ l.index) × BeginsWith words l.line l.rest)

abbrev pub decreases-loop-word : goal.decreases-loop-word
decreases-loop-word l = length l.rest
