-- A set of numbers, as the rising list of its members (own).
use Rattle.std.specs.Prelude.{ℕ, ◌+◌, Bool, true, false, List, [], ◌∷◌, nat_lt, ◌==◌, ◌≡◌, ◌||◌, if◌then◌else◌}
use Rattle.std.specs.List.{list_any}
use Rattle.std.specs.List.Sorted.{IsStrictlyIncreasing}

-- the number is a member
abbrev pub has : List ℕ → ℕ → Bool
has members n = list_any (λ m. m == n) members

-- the set with one more member, in its place
abbrev pub with_member : List ℕ → ℕ → List ℕ
with_member [] n = n ∷ []
with_member (m ∷ members) n = if n == m then m ∷ members else (if nat_lt n m then n ∷ m ∷ members else m ∷ with_member members n)

-- the members of a set with one more are that one and the members before
abbrev pub InsertedIsMember : Type 0
InsertedIsMember = (members : List ℕ) (n q : ℕ) → has (with_member members n) q ≡ ((n == q) || has members q)

-- the members stay in rising order
abbrev pub InsertedStaysRising : Type 0
InsertedStaysRising = (members : List ℕ) (n : ℕ) → IsStrictlyIncreasing members → IsStrictlyIncreasing (with_member members n)

-- the numbers whose mark is set, where the marks begin at the number `first`
abbrev pub marked_from : ℕ → List Bool → List ℕ
marked_from first [] = []
marked_from first (true ∷ marks) = first ∷ marked_from (first + 1) marks
marked_from first (false ∷ marks) = marked_from (first + 1) marks

-- the last mark, if there is one, is set
abbrev pub last_is_set : List Bool → Bool
last_is_set [] = true
last_is_set (mark ∷ []) = mark
last_is_set (mark ∷ next ∷ marks) = last_is_set (next ∷ marks)
