use Rattle.std.proofs.Common.{◌≡◌, ◌<◌, ◌⊎◌, zero, suc, ℕ, [], ◌∷◌, Contains, slice_index_or, inl, inr, refl, ap, arith}
use Rattle.clif_meaning.specs.Name.{Name, answer_of}
use Rattle.clif_meaning.proofs.examples.try_examples.Goals as goal

-- the function's parameter is given as its first block is entered, and the parameter of another block isn't
first_given : Contains (answer_of 3 0 ∷ []) (answer_of 3 0)
first_given = (0, omega arith, refl)

stray_named : Contains (answer_of 3 0 ∷ answer_of 4 0 ∷ []) (answer_of 4 0)
stray_named = (1, omega arith, refl)

one : 0 < 1
one = omega arith

not_given : Contains (answer_of 3 0 ∷ []) (answer_of 4 0) ⊎ ⊥ → ⊥
not_given (inr none) = none
not_given (inl here) = by here.0 here.1 here.2
  where
    by : (k : ℕ) → k < 1 → slice_index_or (answer_of 3 0 ∷ []) k (answer_of 4 0) ≡ answer_of 4 0 → ⊥
    by zero below is = let same : 3 ≡ 4 = ap (λ (n : Name). n.place) is in omega (arith, same)
    by (suc k) below is = omega (arith, below)

pub returns : goal.returns
returns c = record {
  accepted = refl;
  table = refl;
  no_jump_table = refl;
  no_branch = refl;
  served = refl;
  served_twice = refl;
  sealed = refl;
  not_imported = refl;
  no_edge = refl;
  no_context = refl;
  given_once = refl;
  given_twice = refl;
  two_kinds = refl;
  names_context = refl;
  context_value = refl;
  no_value = refl;
  context_given = λ path walk. inl first_given;
  stray_named = refl;
  stray_placed = λ placed. not_given (placed.named _ (answer_of 4 0) stray_named [] (refl, (refl, one)));
}
