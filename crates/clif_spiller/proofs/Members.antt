-- Members of sets.
use Rattle.std.proofs.Common.{◌≡◌, ◌<◌, ◌+◌, ◌∙◌, ◌⊎◌, ◌++◌, ℕ, zero, suc, inl, inr, Bool, true, false, List, [], ◌∷◌, length, get_or, take, refl, sym, ap, subst, arith, eq-eqb}
use Rattle.std.specs.Prelude.{◌↔◌, ◌==◌, ◌||◌, Contains}
use Rattle.std.proofs.lemmas.Bool.{cases_eq}
use Rattle.std.proofs.lemmas.Grind.{common_steps}
use Rattle.std.proofs.lemmas.List.Elements.{Contains-append_left, Contains-push, Contains-push_cases}
use Rattle.clif_types.specs.EntitySet.{has, with_member}
use Rattle.clif_types.proofs.Marks.{has-with_member}
use Rattle.clif_safepoints.specs.Analysis.{Findings, found_across}
use Rattle.clif_safepoints.proofs.Paths.{stands_from, stands_to}
use Rattle.clif_spiller.specs.Plans.{HasMembers}

pub taken_more : (xs : List ℕ) (k d : ℕ) → k < length xs → take (k + 1) xs ≡ take k xs ++ get_or xs k d ∷ []
taken_more [] k d inside = absurd (omega (arith, inside))
taken_more (x ∷ xs) zero d inside = grind (arith, common_steps)
taken_more (x ∷ xs) (suc k) d inside =
    let on : suc k + 1 ≡ suc (k + 1) = omega arith in
    ap (λ n. take n (x ∷ xs)) on ∙ ap (λ ys. x ∷ ys) (taken_more xs k d (omega (arith, inside)))

either : (a b : Bool) → (a || b) ≡ true → (a ≡ true) ⊎ (b ≡ true)
either true b is = inl refl
either false b is = inr is

left : (a b : Bool) → a ≡ true → (a || b) ≡ true
left true b is = refl
left false b is = cc

right : (a b : Bool) → b ≡ true → (a || b) ≡ true
right true b is = refl
right false b is = is

same_number : (n q : ℕ) → (n == q) ≡ true → n ≡ q
same_number n q is = elim (cases_eq n q) [ inl same ↦ same | inr other ↦ absurd (grind (arith, is, other)) ]

-- the members of a set with one more
pub with_member_has : (set : List ℕ) (x v : ℕ) → Contains (with_member set x) v → (x ≡ v) ⊎ Contains set v
with_member_has set x v member =
    elim (either (x == v) (has set v) (sym (has-with_member set x v) ∙ stands_from v (with_member set x) member)) [
      | inl same ↦ inl (same_number x v same)
      | inr old ↦ inr (stands_to v set old)
    ]

pub with_member_new : (set : List ℕ) (x v : ℕ) → x ≡ v → Contains (with_member set x) v
with_member_new set x v same = stands_to v (with_member set x) (has-with_member set x v ∙ left (x == v) (has set v) (eq-eqb x v same))

pub with_member_old : (set : List ℕ) (x v : ℕ) → Contains set v → Contains (with_member set x) v
with_member_old set x v member = stands_to v (with_member set x) (has-with_member set x v ∙ right (x == v) (has set v) (stands_from v set member))

pub put_more : (old xs set : List ℕ) (x : ℕ) → HasMembers old xs set → HasMembers old (xs ++ x ∷ []) (with_member set x)
put_more old xs set x known v = (
  (λ member.
      elim (with_member_has set x v member) [
        | inl same ↦ inr (subst (Contains (xs ++ x ∷ [])) same (Contains-push xs x))
        | inr before ↦ elim ((known v).0 before) [ inl in_old ↦ inl in_old | inr in_xs ↦ inr (Contains-append_left xs (x ∷ []) v in_xs) ]
      ]),
  (λ some.
      elim some [
        | inl in_old ↦ with_member_old set x v ((known v).1 (inl in_old))
        | inr in_more ↦
            elim (Contains-push_cases xs x v in_more) [
              | inl in_xs ↦ with_member_old set x v ((known v).1 (inr in_xs))
              | inr same ↦ with_member_new set x v same
            ]
      ]),
)

-- the values that the first so many instructions are to name
abbrev pub AreCollected : Findings → ℕ → List ℕ → Type 0
AreCollected found count set = (v : ℕ) → Contains set v ↔ ((inst : ℕ) × (inst < count) × Contains (found_across found inst) v)

pub collected_more : (found : Findings) (count : ℕ) (old new : List ℕ) → HasMembers old (found_across found count) new
    → AreCollected found count old → AreCollected found (count + 1) new
collected_more found count old new members known v = (
  (λ member.
      elim ((members v).0 member) [
        | inl before ↦ let there = (known v).0 before in (there.0, omega (arith, there.1), there.2)
        | inr now ↦ (count, omega arith, now)
      ]),
  (λ some.
      elim (cases_eq some.0 count) [
        | inl same ↦ (members v).1 (inr (subst (λ inst. Contains (found_across found inst) v) same some.2))
        | inr other ↦ (members v).1 (inl ((known v).1 (some.0, omega (arith, some.1, other), some.2)))
      ]),
)
