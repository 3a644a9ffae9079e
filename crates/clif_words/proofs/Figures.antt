-- Digits that were read, one more at the end.
use Rattle.std.proofs.Common.{◌≡◌, ◌≢◌, ℕ, ◌+◌, ◌*◌, ◌<◌, List, [], ◌∷◌, ◌++◌, length, take, get_or, refl, ap, sym, subst, ◌∙◌, arith, Option, Some, None, Bool, true, false, add-one, length-append, ℤ, inl, inr}
use Rattle.std.specs.Prelude.{nat_eq, cond, not, unwrap_or, FitsSigned}
use Rattle.std.specs.Char.{digit_value}
use Rattle.std.specs.Str.Parse.{IsNumeral, digits_value, AllDigits}
use Rattle.std.proofs.lemmas.Bool.Decides.{Decides-eqb}
use Rattle.std.proofs.lemmas.Int.Digits.{digits_push, digits_value_push}
use Rattle.std.proofs.lemmas.List.Elements.{filter-append}
use Rattle.std.proofs.Math.Seq.{take-suc}
use Rattle.std.proofs.Math.Facts.{sfits_to_z, Fits-of_lt}
use Rattle.std.specs.Int.{w64}
use Rattle.clif_words.specs.Spelling.{figures, IsNumber}

-- the digits write the number, or there are none
abbrev pub WritesSoFar : ℕ → List ℕ → Option ℕ → Type 0
WritesSoFar radix digits None = digits ≡ []
WritesSoFar radix digits (Some value) = IsNumeral radix digits × (digits_value radix digits ≡ value)

one_figure : (c : ℕ) (b : Bool) → nat_eq c 95 ≡ b → c ≢ 95 → cond (not b) (c ∷ []) [] ≡ c ∷ []
one_figure c true e other = absurd (other ((Decides-eqb c 95).0 e))
one_figure c false e other = refl

pub figures_more : (bs : List ℕ) (i : ℕ) → i < length bs → get_or bs i 0 ≢ 95 → figures (take (i + 1) bs) ≡ figures (take i bs) ++ get_or bs i 0 ∷ []
figures_more bs i inside other =
    let c = get_or bs i 0 in
    let one : figures (c ∷ []) ≡ c ∷ [] = one_figure c (nat_eq c 95) refl other in
    rw add-one (ap figures (take-suc bs i 0 inside) ∙ (filter-append _ (take i bs) (c ∷ []) ∙ ap (λ more. figures (take i bs) ++ more) one))

all_before : (radix : ℕ) (digits : List ℕ) (value : Option ℕ) → WritesSoFar radix digits value → AllDigits radix digits
all_before radix digits None before = subst (AllDigits radix) (sym before) tt
all_before radix digits (Some value) before = before.0.1

value_before : (radix : ℕ) (digits : List ℕ) (value : Option ℕ) → WritesSoFar radix digits value → digits_value radix digits ≡ unwrap_or value 0
value_before radix digits None before = ap (digits_value radix) before
value_before radix digits (Some value) before = before.1

pub writes_more : (radix : ℕ) (digits : List ℕ) (value : Option ℕ) (c number : ℕ) → WritesSoFar radix digits value → digit_value c < radix → number ≡ unwrap_or value 0 * radix + digit_value c → WritesSoFar radix (digits ++ c ∷ []) (Some number)
writes_more radix digits value c number before fits is = (
  (omega (arith, length-append digits (c ∷ [])), digits_push radix digits c (all_before radix digits value before) fits),
  digits_value_push radix digits c ∙ (ap (λ n. n * radix + digit_value c) (value_before radix digits value before) ∙ sym is),
)

-- a number fits 64 bits
pub number_fits : (word : List ℕ) (number : ℤ) → IsNumber word number → FitsSigned w64 number
number_fits word number (inl bits) = subst (FitsSigned w64) (sym bits.3) (sfits_to_z {w = w64} {n = bits.0} (Fits-of_lt {w = w64} {n = bits.0} bits.1))
number_fits word number (inr bits) = subst (FitsSigned w64) (sym bits.8) (sfits_to_z {w = w64} {n = bits.2} (Fits-of_lt {w = w64} {n = bits.2} bits.3))
