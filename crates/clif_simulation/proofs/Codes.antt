-- Different names have different numbers.
use Rattle.std.proofs.Common.{◌≡◌, ℕ, ◌+◌, ◌*◌, ◌<◌, ◌≤◌, ◌⊎◌, inl, inr, arith, mul-le-mul, mul-add, add-mul, mul-one, one-mul, ap₂}
use Rattle.clif_meaning.specs.Name.{Name, answer_of}
use Rattle.clif_simulation.specs.Tables.{code}

-- a square and a number no larger than its root
square_grows : (s t p q : ℕ) → p ≤ s → q ≤ t → s < t → s * s + p < t * t + q
square_grows s t p q small below less =
    let more : (s + 1) * (s + 1) ≤ t * t = mul-le-mul (omega arith) (omega arith) in
    let wide : (s + 1) * (s + 1) ≡ s * s + s + s + 1 = simp (mul-add, add-mul, mul-one, one-mul) (omega arith) in
    omega arith

root_is : (s t p q : ℕ) → p ≤ s → q ≤ t → s * s + p ≡ t * t + q → s ≡ t
root_is s t p q small below same = by (order s t)
  where
    order : (s t : ℕ) → (s ≡ t) ⊎ ((s < t) ⊎ (t < s))
    order s t = grind arith

    by : (s ≡ t) ⊎ ((s < t) ⊎ (t < s)) → s ≡ t
    by (inl e) = e
    by (inr (inl less)) = absurd (omega (arith, square_grows s t p q small below less))
    by (inr (inr more)) = absurd (omega (arith, square_grows t s q p below small more))

pub differ : (a b : Name) → code a ≡ code b → a ≡ b
differ a b same =
    let root : a.place + a.index ≡ b.place + b.index =
    root_is (a.place + a.index) (b.place + b.index) a.place b.place (omega arith) (omega arith) same in
    let squares : (a.place + a.index) * (a.place + a.index) ≡ (b.place + b.index) * (b.place + b.index) = cc in
    let place : a.place ≡ b.place = omega arith in
    let index : a.index ≡ b.index = omega arith in
    ap₂ (λ (p i : ℕ). answer_of p i) place index
