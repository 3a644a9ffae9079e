-- Words for lists: what stands in them, at which place, and what is taken out or put in. Source: own.
use Rattle.std.specs.Prelude.{◌≡◌, ◌≢◌, ℕ, ◌==◌, ◌+◌, ◌<◌, ◌≤◌, List, [], ◌∷◌, ◌++◌, length, Option, None, if◌then◌else◌, slice_get, slice_index, Bool}
use Rattle.std.specs.List.{list_any, insert}
use Rattle.clif_instructions.specs.declared.insert_at.InsertAt.{InsertAt}
use Rattle.clif_instructions.specs.declared.insert_at.InsertAt.TheVariants.{Behind, Back}

-- a number stands in a list
abbrev pub Stands : ℕ → List ℕ → Type 0
Stands x xs = (k : ℕ) × (k < length xs) × (slice_index xs k ≡ x)

-- no number stands twice in a list
abbrev pub Once : List ℕ → Type 0
Once xs = (j k : ℕ) → j < k → k < length xs → slice_index xs j ≢ slice_index xs k

-- whether a number stands in a list
abbrev pub stands_in : ℕ → List ℕ → Bool
stands_in x xs = list_any (λ y. y == x) xs

-- the place of the first `x` of a list
abbrev pub place_of : ℕ → List ℕ → ℕ
place_of x [] = 0
place_of x (y ∷ ys) = if y == x then 0 else place_of x ys + 1

-- the entry of a list that follows the first `x`
abbrev pub next_in : List ℕ → ℕ → Option ℕ
next_in [] x = None
next_in (y ∷ ys) x = if y == x then slice_get ys 0 else next_in ys x

-- the list without its first `x`
abbrev pub without : ℕ → List ℕ → List ℕ
without x [] = []
without x (y ∷ ys) = if y == x then ys else y ∷ without x ys

-- there is such a place in a list of so many
abbrev pub IsPlaceOf : InsertAt → ℕ → Type 0
IsPlaceOf (Behind count) len = count ≤ len
IsPlaceOf Back len = Unit {0}

-- an instruction more, at this place
abbrev pub put_at : InsertAt → ℕ → List ℕ → List ℕ
put_at (Behind count) inst insts = insert insts count inst
put_at Back inst insts = insts ++ inst ∷ []
