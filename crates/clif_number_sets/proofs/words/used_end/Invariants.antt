use Rattle.std.proofs.Common.{◌≡◌, ◌≤◌, ℕ, length}
use Rattle.clif_number_sets.specs.Words.{word_of}
use Rattle.clif_number_sets.proofs.words.used_end.Given as goal

abbrev pub invariant-loop-number : goal.invariant-loop-number
invariant-loop-number l = (l.number ≤ length l.words) × ((k : ℕ) → l.number ≤ k → word_of l.words k ≡ 0)
