-- What holds of an entry of a list after a change of the list.
use Rattle.std.proofs.Common.{◌≡◌, ◌≢◌, ℕ, ◌-◌, ◌<◌, ◌≤◌, List, [], ◌∷◌, ◌++◌, length, get_or, set, ap, arith, sym, subst, ◌⊎◌, inl, inr}
use Rattle.std.proofs.Math.ListN.{get_or-append}
use Rattle.std.proofs.Math.Seq.{get_or-append_right}
use Rattle.std.proofs.lemmas.Bool.{cases_eq, cases_order}
use Rattle.std.proofs.lemmas.Grind.{common_steps}

-- a number is below another one or not
pub below_or_not : (a b : ℕ) → (a < b) ⊎ (b ≤ a)
below_or_not a b =
    elim (cases_order a b) [ inl same ↦ inr (omega (arith, same)) | inr h ↦ elim h [ inl below ↦ inl below | inr above ↦ inr (omega (arith, above)) ] ]

-- an entry of two lists in a row is one of the first or one of the second
pub at_append : {X : Type 0} (P : X → Type 0) (xs ys : List X) (k : ℕ) (d : X)
    → (k < length xs → P (get_or xs k d)) → (length xs ≤ k → P (get_or ys (k - length xs) d)) → P (get_or (xs ++ ys) k d)
at_append P xs ys k d front back =
    elim (below_or_not k (length xs)) [
      | inl below ↦ subst P (sym (get_or-append xs ys d k below)) (front below)
      | inr above ↦ subst P (sym (get_or-append_right xs ys k d above)) (back above)
    ]

-- past the end there is what stands for nothing
pub at_past : {X : Type 0} (xs : List X) (k : ℕ) (d : X) → length xs ≤ k → get_or xs k d ≡ d
at_past xs k d past = grind (arith, common_steps)

-- an entry of a list with one more at its end
pub at_push : {X : Type 0} (P : X → Type 0) (xs : List X) (y : X) (k : ℕ) (d : X)
    → (k < length xs → P (get_or xs k d)) → (k ≡ length xs → P y) → (length xs < k → P d) → P (get_or (xs ++ y ∷ []) k d)
at_push P xs y k d old new past =
    at_append P xs (y ∷ []) k d old (λ above.
    elim (cases_eq k (length xs)) [
      | inl same ↦ let e : get_or (y ∷ []) (k - length xs) d ≡ y = let zero_place : k - length xs ≡ 0 = omega (arith, same) in ap (λ n. get_or (y ∷ []) n d) zero_place in subst P (sym e) (new same)
      | inr other ↦ let beyond : length xs < k = omega (arith, above, other) in let far : 1 ≤ k - length xs = omega (arith, beyond) in subst P (sym (at_past (y ∷ []) (k - length xs) d far)) (past beyond)
    ])

-- an entry of a list in which one was replaced
pub at_set : {X : Type 0} (P : X → Type 0) (xs : List X) (i : ℕ) (y : X) (k : ℕ) (d : X) → i < length xs
    → (k ≡ i → P y) → (k ≢ i → P (get_or xs k d)) → P (get_or (set xs i y) k d)
at_set P xs i y k d inside new old =
    elim (cases_eq k i) [
      | inl same ↦ let here : k < length xs = omega (arith, same, inside) in let e : get_or (set xs i y) k d ≡ y = grind (arith, common_steps) in subst P (sym e) (new same)
      | inr other ↦ let e : get_or (set xs i y) k d ≡ get_or xs k d = grind (arith, common_steps, other) in subst P (sym e) (old other)
    ]
