-- The first place at which a test passes, in a list with one entry more.
use Rattle.std.proofs.Common.{◌≡◌, ◌+◌, ◌<◌, List, [], ◌∷◌, ◌++◌, length, Bool, true, false, Some, None, arith}
use Rattle.std.specs.Prelude.{cond, not}
use Rattle.std.specs.List.{position_or_len, position}
use Rattle.std.proofs.lemmas.Grind.{common_steps}

module _ {A : Type 0} (test : A → Bool) where
  -- no further than the end
  within : (xs : List A) → position_or_len test xs < length xs + 1
  within [] = omega arith
  within (x ∷ xs) = within_by (test x) (within xs)
    where
      within_by : (passes : Bool) → position_or_len test xs < length xs + 1 → cond (not passes) (1 + position_or_len test xs) 0 < length (x ∷ xs) + 1
      within_by true rest = omega arith
      within_by false rest = omega (arith, rest)

  -- an entry that doesn't pass changes no place
  pub past_other : (xs : List A) (y : A) → test y ≡ false → position test (xs ++ y ∷ []) ≡ position test xs
  past_other xs y other = grind (arith, common_steps, other, within xs)

  -- an entry that passes is found if none was found before
  pub new_found : (xs : List A) (y : A) → position test xs ≡ None → test y ≡ true → position test (xs ++ y ∷ []) ≡ Some (length xs)
  new_found xs y missing passes = grind (arith, common_steps, missing, passes, within xs)
