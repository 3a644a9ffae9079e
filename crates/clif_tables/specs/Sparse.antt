-- Lists that a table keeps for some numbers; for the others it keeps nothing. Source: own, after
-- Cranelift's documentation of its stack maps and of its labels of values.
use Rattle.std.specs.Prelude.{ℕ, List, [], ◌∷◌, ◌++◌, unwrap_or}
use Rattle.std.specs.BTreeMap.{insert_entry, is_at}
use Rattle.std.specs.Map.{lookup}
use Rattle.std.specs.Ordering.{nat_cmp}

-- the list that is kept for a number; empty where none is
abbrev pub list_at : {A : Type 0} → List (ℕ × List A) → ℕ → List A
list_at lists number = unwrap_or (lookup (is_at (nat_cmp number)) lists) []

-- with this list for a number, in place of what was kept for it
abbrev pub with_list : {A : Type 0} → List (ℕ × List A) → ℕ → List A → List (ℕ × List A)
with_list lists number list = insert_entry nat_cmp lists number list

-- with one item more at the end of a number's list
abbrev pub with_one_more : {A : Type 0} → List (ℕ × List A) → ℕ → A → List (ℕ × List A)
with_one_more lists number item = with_list lists number (list_at lists number ++ item ∷ [])
