-- The blocks that a walk passes, and how a sparse set keeps them. Source: Briggs and Torczon 1993.
use Rattle.std.specs.Prelude.{◌≡◌, ℕ, ◌<◌, ◌==◌, List, [], ◌∷◌, length, slice_index, if◌then◌else◌}

-- the entries of a list before the first `x`
abbrev pub before_first : ℕ → List ℕ → List ℕ
before_first x [] = []
before_first x (y ∷ ys) = if y == x then [] else y ∷ before_first x ys

-- the table of places knows where each entry stands, so none stands twice
pub record KnowsPlaces (places blocks : List ℕ) : Type 0 where
  pub inside : (k : ℕ) → k < length blocks → slice_index blocks k < length places
  pub at : (k : ℕ) → k < length blocks → slice_index places (slice_index blocks k) ≡ k
