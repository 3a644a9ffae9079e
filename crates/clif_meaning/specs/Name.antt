-- Names of answers. In a script an answer is named by the place of the call that gave it, counted from 0, and by its
-- number among that call's answers. Own.
use Rattle.std.specs.Prelude.{◌≡◌, ℕ, ◌==◌, ◌&&◌, Bool, IsTrue, ◌↔◌}

pub record Name : Type 0 where
  pub place : ℕ
  pub index : ℕ

-- the answer with this number to the call at this place
abbrev pub answer_of : ℕ → ℕ → Name
answer_of place index = record { place = place; index = index }

abbrev pub same_name : Name → Name → Bool
same_name a b = (a.place == b.place) && (a.index == b.index)

-- the test says whether the names are one
abbrev pub SameNameDecides : Type 0
SameNameDecides = (a b : Name) → IsTrue (same_name a b) ↔ (a ≡ b)
