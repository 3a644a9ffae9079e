-- Tables by number. Source: own.
use Rattle.std.specs.Prelude.{◌≡◌, ◌<◌, ℕ, List, [], length, slice_index_or}

-- so many rows, each of which is told by its number
pub record AreRows (count : ℕ) (row : ℕ → List ℕ) (table : List (List ℕ)) : Type 0 where
  pub size : length table ≡ count
  pub rows : (number : ℕ) → number < count → slice_index_or table number [] ≡ row number
