-- Pooled constants. Source: own, after the crate's documentation of its constant pool.
use Rattle.std.specs.Prelude.{◌≡◌, ◌≤◌, ◌-◌, ◌^◌, ℕ, Bool, List, [], ◌∷◌, ◌++◌, length, Option, unwrap_or, is_some, if◌then◌else◌, nat_eq}
use Rattle.std.specs.BTreeMap.{BTreeMap, get_by}
use Rattle.std.specs.Cmp.Lexicographic.{slice_cmp, pointwise}
use Rattle.std.specs.Global.{Vec}
use Rattle.std.specs.List.{position}
use Rattle.std.specs.Ordering.{nat_cmp}

-- the number of the constant with these bytes, if there is one
abbrev pub number_of : List (List ℕ) → List ℕ → Option ℕ
number_of constants bytes = position (pointwise nat_eq bytes) constants

-- the number that these bytes get: that of the constant with them, or else the next one
abbrev pub constant_of : List (List ℕ) → List ℕ → ℕ
constant_of constants bytes = unwrap_or (number_of constants bytes) (length constants)

-- there is a constant with these bytes
abbrev pub has_constant : List (List ℕ) → List ℕ → Bool
has_constant constants bytes = is_some (number_of constants bytes)

-- the constants with these bytes, at the end unless they are there
abbrev pub with_constant : List (List ℕ) → List ℕ → List (List ℕ)
with_constant constants bytes = if has_constant constants bytes then constants else constants ++ bytes ∷ []

-- there are no more than 2^32 - 1 constants, and the map has the number of each by its bytes, and nothing else
pub record IsIndexed (constants : List (List ℕ)) (numbers : BTreeMap (Vec ℕ) ℕ) : Type 0 where
  pub fits : length constants ≤ 2 ^ 32 - 1
  pub found : (bytes : List ℕ) → get_by (λ key. slice_cmp nat_cmp bytes key.items) numbers ≡ number_of constants bytes
