-- Sets as marks, one for each place. Source: own.
use Rattle.std.specs.Prelude.{◌≡◌, ◌<◌, ◌≤◌, ◌+◌, ◌/◌, ℕ, Bool, true, false, List, Option, Some, None, length, slice_index_or}
use Rattle.std.specs.List.{count_by}

-- the place is a member
abbrev pub is_in : List Bool → ℕ → Bool
is_in set place = slice_index_or set place false

-- how many members there are
abbrev pub member_count : List Bool → ℕ
member_count set = count_by (λ mark. mark) set

-- of so many places the members are those for which the test holds
pub record IsSet (places : ℕ) (test : ℕ → Bool) (set : List Bool) : Type 0 where
  pub size : length set ≡ places
  pub members : (place : ℕ) → place < places → is_in set place ≡ test place

-- it has more members than before
abbrev pub Grows : List Bool → List Bool → Type 0
Grows old new = member_count old < member_count new

-- the members of the first set are in the second
abbrev pub IsWithin : List Bool → List Bool → Type 0
IsWithin set other = (place : ℕ) → is_in set place ≡ true → is_in other place ≡ true

-- the least member at or above a place, or none
abbrev pub IsNext : List Bool → ℕ → Option ℕ → Type 0
IsNext set place None = (other : ℕ) → place ≤ other → is_in set other ≡ false
IsNext set place (Some found) = (place ≤ found) × (is_in set found ≡ true)
    × ((other : ℕ) → place ≤ other → other < found → is_in set other ≡ false)

-- the least member
abbrev pub IsFirst : List Bool → ℕ → Type 0
IsFirst set place = (is_in set place ≡ true) × ((other : ℕ) → other < place → is_in set other ≡ false)

-- the greatest member
abbrev pub IsLast : List Bool → ℕ → Type 0
IsLast set place = (is_in set place ≡ true) × ((other : ℕ) → place < other → is_in set other ≡ false)

-- So many words of 64 bits lead from the least member to the greatest; no member has none.
pub record SpansWords (set : List Bool) (words : ℕ) : Type 0 where
  pub none : ((place : ℕ) → is_in set place ≡ false) → words ≡ 0
  pub some : (first last : ℕ) → IsFirst set first → IsLast set last → words + first / 64 ≡ last / 64 + 1
