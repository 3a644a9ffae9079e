use Rattle.std.proofs.Common.{◌≡◌, ◌<◌, ◌≤◌, ℕ}
use Rattle.clif_number_sets.specs.Words.{word_of}
use Rattle.clif_number_sets.proofs.words.first_used.Given as goal

abbrev pub invariant-loop-number : goal.invariant-loop-number
invariant-loop-number l = (k : ℕ) → l.first ≤ k → k < l.number → word_of l.words k ≡ 0
