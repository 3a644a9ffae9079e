-- A rising list stays rising with one more member.
use Rattle.std.proofs.Common.{◌≡◌, ℕ, zero, suc, ◌<◌, List, [], ◌∷◌, length, get_or, arith, sym, add-one, inl, inr, subst}
use Rattle.std.proofs.lemmas.Bool.{cases_lt}
use Rattle.clif_types.specs.EntitySet.{with_member, InsertedStaysRising}
use Rattle.clif_types.proofs.Marks.{with_member-skip, with_member-front, with_member-head}

-- each element is below the next
abbrev Rises : List ℕ → Type 0
Rises xs = (k : ℕ) → suc k < length xs → get_or xs k 0 < get_or xs (suc k) 0

rises-tail : (m : ℕ) (ms : List ℕ) → Rises (m ∷ ms) → Rises ms
rises-tail m ms r k h = r (suc k) (omega arith)

rises-cons : (m : ℕ) (ms : List ℕ) → (0 < length ms → m < get_or ms 0 0) → Rises ms → Rises (m ∷ ms)
rises-cons m ms below r zero h = below (omega arith)
rises-cons m ms below r (suc k) h = r k (omega arith)

-- what is below the first element and below the new one is below the new first
below-with_member : (m : ℕ) (ms : List ℕ) (n : ℕ) → m < n → (0 < length ms → m < get_or ms 0 0) → m < get_or (with_member ms n) 0 0
below-with_member m [] n h below = h
below-with_member m (x ∷ xs) n h below =
    elim (cases_lt n x) [
      | inl front ↦ rw (with_member-front x n xs front) h
      | inr rest ↦ elim (cases_lt x n) [
        | inl skip ↦ rw (with_member-skip x n xs skip) (below (omega arith))
        | inr again ↦ let same : n ≡ x = omega arith in rw (with_member-head x n xs same) (below (omega arith))
      ]
    ]

rises-with_member : (ms : List ℕ) (n : ℕ) → Rises ms → Rises (with_member ms n)
rises-with_member [] n r = λ k h. absurd (omega arith)
rises-with_member (x ∷ xs) n r =
    elim (cases_lt n x) [
      | inl front ↦ subst Rises (sym (with_member-front x n xs front)) (rises-cons n (x ∷ xs) (λ h. front) r)
      | inr rest ↦ elim (cases_lt x n) [
        | inl skip ↦ subst Rises (sym (with_member-skip x n xs skip)) (rises-cons x (with_member xs n) (λ h. below-with_member x xs n skip (λ some. r 0 (omega arith))) (rises-with_member xs n (rises-tail x xs r)))
        | inr again ↦ let same : n ≡ x = omega arith in subst Rises (sym (with_member-head x n xs same)) r
      ]
    ]

pub inserted_stays_rising : InsertedStaysRising
inserted_stays_rising members n r =
    λ k h. rw add-one (rises-with_member members n (λ j g. rw add-one at (r j (omega arith))) k (omega arith))
