-- Ranges of cases. A case is a key and the number of its block. Source: own.
use Rattle.std.specs.Prelude.{◌≡◌, ℕ, ◌+◌, ◌<◌, ◌≤◌, List, [], ◌∷◌, ◌++◌, length, All, AllPairs}
use Rattle.std.specs.List.{enumerate_from, flat_map}
use Rattle.clif_ranges.specs.declared.ranges.CaseRange.{CaseRange}

-- the cases of a range, by rising keys
abbrev pub cases_of : CaseRange → List (ℕ × ℕ)
cases_of range = enumerate_from range.first range.blocks.items

-- the key right behind its last one
abbrev pub end_of : CaseRange → ℕ
end_of range = range.first + length range.blocks.items

-- at least one key is between them
abbrev pub HasGap : CaseRange → CaseRange → Type 0
HasGap earlier later = end_of earlier < later.first

-- the ranges have these cases, in this order, and none could be joined to another
pub record AreRangesOf (entries : List (ℕ × ℕ)) (ranges : List CaseRange) : Type 0 where
  pub cases : flat_map cases_of ranges ≡ entries
  pub filled : All (λ range. 0 < length range.blocks.items) ranges
  pub gaps : AllPairs HasGap ranges

-- no ranges with the same cases are fewer
abbrev pub AreFewest : List CaseRange → Type 0
AreFewest ranges = (others : List CaseRange) → flat_map cases_of others ≡ flat_map cases_of ranges → length ranges ≤ length others

-- one case more, behind the others
pub record AddsCase (key block : ℕ) (old new : List CaseRange) : Type 0 where
  pub ranges : (entries : List (ℕ × ℕ)) → AreRangesOf entries old → AreRangesOf (entries ++ (key, block) ∷ []) new
  pub behind : All (λ range. end_of range ≤ key + 1) new
