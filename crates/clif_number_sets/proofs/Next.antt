-- The least marked place at or above a place.
use Rattle.std.proofs.Common.{◌≡◌, ◌⊎◌, ℕ, ◌+◌, ◌-◌, ◌*◌, ◌/◌, ◌%◌, ◌^◌, ◌<◌, ◌≤◌, true, false, List, Option, Some, None, length, sym, ap, ◌∙◌, arith, inl, inr, w64}
use Rattle.std.specs.Int.{trailing_zeros}
use Rattle.std.proofs.lemmas.Bool.{cases_lt}
use Rattle.std.proofs.lemmas.List.{get_or_past}
use Rattle.clif_number_sets.specs.Sets.{IsNext}
use Rattle.clif_number_sets.specs.Words.{has_bit, mark_in, marks_of, word_of, IsFirstUsed, IsNextMark, NoneFrom}
use Rattle.clif_number_sets.proofs.Bits.{lowest, none_above, none_set, shifted}
use Rattle.clif_number_sets.proofs.Marks.{in-marks-all}

-- the mark of a place, where its word and bit are known
mark_at : (words : List ℕ) (place row column : ℕ) → place / 64 ≡ row → place % 64 ≡ column → mark_in words place ≡ has_bit (word_of words row) column
mark_at words place row column r c = ap (λ k. has_bit (word_of words k) (place % 64)) r ∙ ap (has_bit (word_of words row)) c

-- no place in a word that is zero
pub mark_zero : (words : List ℕ) (place : ℕ) → word_of words (place / 64) ≡ 0 → mark_in words place ≡ false
mark_zero words place none = ap (λ w. has_bit w (place % 64)) none ∙ none_set (place % 64)

pub next_past : (words : List ℕ) (place : ℕ) → length words ≤ place / 64 → IsNextMark words place None
next_past words place past other above = mark_zero words other (get_or_past words (other / 64) 0 (omega arith))

-- the word of the place, from the place's bit on
module _ (words : List ℕ) (place : ℕ) where
  abbrev word : ℕ
  word = word_of words (place / 64)

  abbrev bit : ℕ
  bit = place % 64

  pub lowest_inside : (rest : ℕ) → rest ≡ word_of words (place / 64) / 2 ^ (place % 64) → 0 < rest → rest < 2 ^ 64 → word_of words (place / 64) < 2 ^ 64
      → place % 64 + trailing_zeros w64 rest < 64
  lowest_inside rest is some rest_fits fits = by (cases_lt (bit + trailing_zeros w64 rest) 64)
    where
      by : (bit + trailing_zeros w64 rest < 64) ⊎ (64 ≤ bit + trailing_zeros w64 rest) → bit + trailing_zeros w64 rest < 64
      by (inl inside) = inside
      by (inr above) =
          let found = lowest rest some rest_fits in
          let there : has_bit word (bit + trailing_zeros w64 rest) ≡ true =
          sym (shifted word bit (trailing_zeros w64 rest)) ∙ ap (λ w. has_bit w (trailing_zeros w64 rest)) (sym is) ∙ found.1 in
          let none : has_bit word (bit + trailing_zeros w64 rest) ≡ false = none_above word (bit + trailing_zeros w64 rest) fits above in
          cc

  pub next_here : (rest : ℕ) → rest ≡ word_of words (place / 64) / 2 ^ (place % 64) → 0 < rest → rest < 2 ^ 64 → word_of words (place / 64) < 2 ^ 64
      → IsNextMark words place (Some (place + trailing_zeros w64 rest))
  next_here rest is some rest_fits fits =
      let found = lowest rest some rest_fits in
      let inside = lowest_inside rest is some rest_fits fits in
      let at = λ (i : ℕ). λ (h : bit + i < 64).
      mark_at words (place + i) (place / 64) (bit + i) (omega (arith, h)) (omega (arith, h)) ∙ sym (shifted word bit i) ∙ ap (λ w. has_bit w i) (sym is) in (
        omega arith,
        at (trailing_zeros w64 rest) inside ∙ found.1,
        λ other above below.
            let e : place + (other - place) ≡ other = omega arith in
            ap (mark_in words) (sym e) ∙ at (other - place) (omega (arith, inside, above, below)) ∙ found.2 (other - place) (omega arith),
      )

  none_rest : word / 2 ^ bit ≡ 0 → (other : ℕ) → place ≤ other → other < 64 * (place / 64 + 1) → mark_in words other ≡ false
  none_rest none other above below =
      let e : bit + (other - place) ≡ other % 64 = omega arith in
      mark_at words other (place / 64) (bit + (other - place)) (omega arith) (sym e) ∙ sym (shifted word bit (other - place))
      ∙ ap (λ w. has_bit w (other - place)) none ∙ none_set (other - place)

  pub next_after : word_of words (place / 64) / 2 ^ (place % 64) ≡ 0 → (answer : Option ℕ) → IsNextMark words (64 * (place / 64 + 1)) answer → IsNextMark words place answer
  next_after none None next = λ other above. by other above (cases_lt other (64 * (place / 64 + 1)))
    where
      by : (other : ℕ) → place ≤ other → (other < 64 * (place / 64 + 1)) ⊎ (64 * (place / 64 + 1) ≤ other) → mark_in words other ≡ false
      by other above (inl inside) = none_rest none other above inside
      by other above (inr after) = next other after
  next_after none (Some found) next = (omega (arith, next.0), next.1, λ other above below. by other above below (cases_lt other (64 * (place / 64 + 1))))
    where
      by : (other : ℕ) → place ≤ other → other < found → (other < 64 * (place / 64 + 1)) ⊎ (64 * (place / 64 + 1) ≤ other) → mark_in words other ≡ false
      by other above below (inl inside) = none_rest none other above inside
      by other above below (inr after) = next.2 other after below

-- the first word with a bit, from a number on
module _ (words : List ℕ) (start : ℕ) where
  pub first_none : IsFirstUsed words start (length words) None → IsNextMark words (64 * start) None
  first_none none other above = mark_zero words other (by (cases_lt (other / 64) (length words)))
    where
      by : (other / 64 < length words) ⊎ (length words ≤ other / 64) → word_of words (other / 64) ≡ 0
      by (inl inside) = none (other / 64) (omega arith) inside
      by (inr past) = get_or_past words (other / 64) 0 past

  pub first_some : (next value : ℕ) → IsFirstUsed words start (length words) (Some next) → value ≡ word_of words next → value < 2 ^ 64
      → (trailing_zeros w64 value < 64) × IsNextMark words (64 * start) (Some (64 * next + trailing_zeros w64 value))
  first_some next value used is fits =
      let some : 0 < value = omega (arith, is, used.2) in
      let found = lowest value some fits in
      let bit : ℕ = trailing_zeros w64 value in
      let at = λ (i : ℕ). λ (h : i < 64).
      mark_at words (64 * next + i) next i (omega (arith, h)) (omega (arith, h)) ∙ ap (λ w. has_bit w i) (sym is) in
      (found.0, (omega (arith, used.0), at bit found.0 ∙ found.1, λ other above below. by other above below (cases_lt other (64 * next)) found at))
    where
      by : (other : ℕ) → 64 * start ≤ other → other < 64 * next + trailing_zeros w64 value → (other < 64 * next) ⊎ (64 * next ≤ other)
          → (trailing_zeros w64 value < 64) × (has_bit value (trailing_zeros w64 value) ≡ true) × ((bit : ℕ) → bit < trailing_zeros w64 value → has_bit value bit ≡ false)
          → ((i : ℕ) → i < 64 → mark_in words (64 * next + i) ≡ has_bit value i) → mark_in words other ≡ false
      by other above below (inl before) found at = mark_zero words other (used.3 (other / 64) (omega arith) (omega arith))
      by other above below (inr from) found at =
          let e : 64 * next + (other - 64 * next) ≡ other = omega arith in
          ap (mark_in words) (sym e) ∙ at (other - 64 * next) (omega (arith, found.0, below, from)) ∙ found.2 (other - 64 * next) (omega arith)

-- what is marked is a member
pub next_member : (size : ℕ) (words : List ℕ) (place : ℕ) (answer : Option ℕ) → NoneFrom size words → IsNextMark words place answer → IsNext (marks_of size words) place answer
next_member size words place None none next = λ other above. in-marks-all size words other none ∙ next other above
next_member size words place (Some found) none next =
    (next.0, in-marks-all size words found none ∙ next.1, λ other above below. in-marks-all size words other none ∙ next.2 other above below)
