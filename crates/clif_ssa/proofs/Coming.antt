-- What comes to a parameter, as one result more is read.
use Rattle.std.proofs.Common.{◌≡◌, ◌≢◌, ℕ, zero, suc, ◌<◌, ◌+◌, List, [], ◌∷◌, ◌++◌, length, take, get_or, refl, ap, arith, sym, ◌∙◌, ◌⊎◌, inl, inr}
use Rattle.std.specs.Prelude.{Option, Some, None, Contains}
use Rattle.std.proofs.lemmas.Grind.{common_steps}
use Rattle.clif_ir.specs.Body.{Body, resolved}
use Rattle.clif_ssa.specs.LookUp.{NothingComes, OneComes}
use Rattle.clif_ssa.specs.Incoming.{ComesSoFar}

pub taken-more : (xs : List ℕ) (k d : ℕ) → k < length xs → take (k + 1) xs ≡ take k xs ++ get_or xs k d ∷ []
taken-more [] k d inside = absurd (omega (arith, inside))
taken-more (x ∷ xs) zero d inside = grind (arith, common_steps)
taken-more (x ∷ xs) (suc k) d inside =
    let on : suc k + 1 ≡ suc (k + 1) = omega arith in
    ap (λ n. take n (x ∷ xs)) on ∙ ap (λ ys. x ∷ ys) (taken-more xs k d (omega (arith, inside)))

pub contains-further : (xs : List ℕ) (r x : ℕ) → Contains xs x → Contains (xs ++ r ∷ []) x
contains-further [] r x (k, inside, at) = absurd (omega (arith, inside))
contains-further (y ∷ xs) r x (zero, inside, at) = (0, omega arith, at)
contains-further (y ∷ xs) r x (suc k, inside, at) =
    let rest : Contains (xs ++ r ∷ []) x = contains-further xs r x (k, omega (arith, inside), at) in
    (suc rest.0, omega (arith, rest.1), rest.2)

pub contains-last : (xs : List ℕ) (r : ℕ) → Contains (xs ++ r ∷ []) r
contains-last [] r = (0, omega arith, refl)
contains-last (y ∷ xs) r = let rest : Contains (xs ++ r ∷ []) r = contains-last xs r in (suc rest.0, omega (arith, rest.1), rest.2)

pub contains-either : (xs : List ℕ) (r x : ℕ) → Contains (xs ++ r ∷ []) x → Contains xs x ⊎ (r ≡ x)
contains-either [] r x (zero, inside, at) = inr at
contains-either [] r x (suc k, inside, at) = absurd (omega (arith, inside))
contains-either (y ∷ xs) r x (zero, inside, at) = inl (0, omega arith, at)
contains-either (y ∷ xs) r x (suc k, inside, at) =
    elim (contains-either xs r x (k, omega (arith, inside), at)) [ inl here ↦ inl (suc here.0, omega (arith, here.1), here.2) | inr last ↦ inr last ]

pub comes-same : (f : Body) (param : ℕ) (xs : List ℕ) (r : ℕ) (one : Option ℕ) → ComesSoFar f param xs one → resolved f r ≡ param → ComesSoFar f param (xs ++ r ∷ []) one
comes-same f param xs r None so is = record {
  itself = λ x here. elim (contains-either xs r x here) [ inl old ↦ so.itself x old | inr last ↦ ap (λ y. resolved f y) (sym last) ∙ is ];
}
comes-same f param xs r (Some v) so is = record {
  other = so.other;
  comes = (so.comes.0, contains-further xs r so.comes.0 so.comes.1, so.comes.2);
  alone = λ x here. elim (contains-either xs r x here) [ inl old ↦ so.alone x old | inr last ↦ inr (ap (λ y. resolved f y) (sym last) ∙ is) ];
}

pub comes-first : (f : Body) (param : ℕ) (xs : List ℕ) (r : ℕ) → NothingComes f param xs → resolved f r ≢ param → OneComes f param (resolved f r) (xs ++ r ∷ [])
comes-first f param xs r so other = record {
  other = other;
  comes = (r, contains-last xs r, refl);
  alone = λ x here. elim (contains-either xs r x here) [ inl old ↦ inr (so.itself x old) | inr last ↦ inl (ap (λ y. resolved f y) (sym last)) ];
}

pub comes-again : (f : Body) (param v : ℕ) (xs : List ℕ) (r : ℕ) → OneComes f param v xs → resolved f r ≡ v → OneComes f param v (xs ++ r ∷ [])
comes-again f param v xs r so is = record {
  other = so.other;
  comes = (so.comes.0, contains-further xs r so.comes.0 so.comes.1, so.comes.2);
  alone = λ x here. elim (contains-either xs r x here) [ inl old ↦ so.alone x old | inr last ↦ inl (ap (λ y. resolved f y) (sym last) ∙ is) ];
}
