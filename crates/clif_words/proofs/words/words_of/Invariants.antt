use Rattle.std.proofs.Common.{List, ℕ, ◌++◌, length, map}
use denote.Text.{Utf8}
use denote.Shadow.{shadow}
use Rattle.clif_words.specs.Words.{AreWords}
use Rattle.clif_words.proofs.words.words_of.Given as goal

-- whatever words the rest has follow those so far
abbrev pub invariant-loop-word : goal.invariant-loop-word
invariant-loop-word l = shadow (Utf8 l.rest) × ((more : List (List ℕ)) → AreWords more l.rest → AreWords (map (λ word. word.now) l.words.items ++ more) l.line)

abbrev pub decreases-loop-word : goal.decreases-loop-word
decreases-loop-word l = length l.rest
