-- Which byte an address is of a range, and of one that starts further on.
use Rattle.std.proofs.Common.{◌≡◌, ◌+◌, ◌-◌, ◌*◌, ◌/◌, ◌%◌, ◌<◌, ◌≤◌, ◌⊎◌, inl, inr, ℕ, sym, ◌∙◌, ap, arith}
use Rattle.std.proofs.Math.Nat.{mod-lt, mod-add-mod, add-mod_right, mod-eq_of_lt, mod-add-div, add-mul-mod_self_left}
use Rattle.std.proofs.lemmas.Bool.{cases_lt}

-- the place of an address, counted from a start
abbrev pub index_from : (whole start address : ℕ) → ℕ
index_from whole start address = (address + whole - start % whole) % whole

-- counted from an earlier start, it is that much further
pub index_on : (whole start more address : ℕ) → 0 < whole → index_from whole start address ≡ (index_from whole (start + more) address + more) % whole
index_on whole start more address some =
    let first : start % whole < whole = mod-lt start some in
    let second : (start + more) % whole < whole = mod-lt (start + more) some in
    let parts : (start % whole + more) % whole + whole * ((start % whole + more) / whole) ≡ start % whole + more =
    mod-add-div (start % whole + more) whole in
    let same : (start % whole + more) % whole ≡ (start + more) % whole = mod-add-mod start whole more in
    let sum : (address + whole - (start + more) % whole) + more ≡ (address + whole - start % whole) + whole * ((start % whole + more) / whole) = omega arith in
    sym (mod-add-mod (address + whole - (start + more) % whole) whole more
    ∙ ap (λ (n : ℕ). n % whole) sum
    ∙ add-mul-mod_self_left (address + whole - start % whole) whole ((start % whole + more) / whole))

-- a number below twice another, and what is left of it
turns : (x whole : ℕ) → x < whole + whole → ((x < whole) × (x % whole ≡ x)) ⊎ ((whole ≤ x) × (x % whole + whole ≡ x))
turns x whole small = by (cases_lt x whole)
  where
    by : (x < whole) ⊎ (whole ≤ x) → ((x < whole) × (x % whole ≡ x)) ⊎ ((whole ≤ x) × (x % whole + whole ≡ x))
    by (inl below) = inl (below, mod-eq_of_lt below)
    by (inr above) =
        let round : x ≡ x - whole + whole = omega arith in
        let rest : x - whole < whole = omega arith in
        let is : x % whole ≡ x - whole = ap (λ (n : ℕ). n % whole) round ∙ add-mod_right (x - whole) whole ∙ mod-eq_of_lt rest in
        inr (above, omega arith)

-- counted from a start further on by no more than all, the place is less by as much, or it is round the end
pub next_index : (whole start more address : ℕ) → 0 < whole → more ≤ whole
    → (index_from whole (start + more) address + more ≡ index_from whole start address)
    ⊎ ((index_from whole start address < more) × (index_from whole (start + more) address + more ≡ index_from whole start address + whole))
next_index whole start more address some few =
    by (index_from whole start address) (index_from whole (start + more) address)
    (mod-lt (address + whole - (start + more) % whole) some) (index_on whole start more address some)
  where
    by : (d e : ℕ) → e < whole → d ≡ (e + more) % whole → (e + more ≡ d) ⊎ ((d < more) × (e + more ≡ d + whole))
    by d e below is = at (turns (e + more) whole (omega arith))
      where
        at : ((e + more < whole) × ((e + more) % whole ≡ e + more)) ⊎ ((whole ≤ e + more) × ((e + more) % whole + whole ≡ e + more))
            → (e + more ≡ d) ⊎ ((d < more) × (e + more ≡ d + whole))
        at (inl (inside, same)) = inl (sym (is ∙ same))
        at (inr (outside, same)) = inr (omega (arith, is, same, below), omega (arith, is, same))
