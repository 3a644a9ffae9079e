-- Sets of places, one for each block. Source: own.
use Rattle.std.specs.Prelude.{◌≡◌, ◌<◌, ℕ, Bool, List, [], length, slice_index_or}
use Rattle.clif_number_sets.specs.Sets.{is_in}

-- so many sets of so many places
pub record AreSets (blocks places : ℕ) (sets : List (List Bool)) : Type 0 where
  pub count : length sets ≡ blocks
  pub each : (block : ℕ) → block < blocks → length (slice_index_or sets block []) ≡ places

-- whether a place is a member of the set of a block
abbrev pub in_set_of : List (List Bool) → ℕ → ℕ → Bool
in_set_of sets place block = is_in (slice_index_or sets block []) place
