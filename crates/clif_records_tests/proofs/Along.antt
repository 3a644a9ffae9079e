-- Blocks of a list in turn, as far as one of them.
use Rattle.std.proofs.Common.{◌≡◌, ◌≢◌, ℕ, suc, ◌+◌, ◌<◌, ◌++◌, ◌∷◌, [], List, length, take, ap, sym, ◌∙◌, arith, inl, inr}
use Rattle.std.specs.Prelude.{slice_index}
use Rattle.std.proofs.Math.Seq.{take-suc}
use Rattle.std.proofs.lemmas.Bool.{cases_eq}

-- one more is taken
pub taken : (xs : List ℕ) (k x : ℕ) → k < length xs → slice_index xs k ≡ x → take (k + 1) xs ≡ take k xs ++ x ∷ []
taken xs k x inside is =
    let next : k + 1 ≡ suc k = omega arith in
    ap (λ n. take n xs) next ∙ take-suc xs k 0 inside ∙ ap (λ y. take k xs ++ y ∷ []) is

-- one more is another one
pub apart_further : (from k : ℕ) (xs : List ℕ) → ((j : ℕ) → j < k → slice_index xs j ≢ from) → slice_index xs k ≢ from
    → (j : ℕ) → j < k + 1 → slice_index xs j ≢ from
apart_further from k xs before here j below =
    elim (cases_eq j k) [
      | inl same ↦ λ is. here (ap (λ n. slice_index xs n) (sym same) ∙ is)
      | inr other ↦ before j (omega (arith, below, other))
    ]
