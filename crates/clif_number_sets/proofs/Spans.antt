-- The words from the one of the least member to the one of the greatest.
use Rattle.std.proofs.Common.{◌≡◌, ◌⊎◌, ℕ, ◌+◌, ◌-◌, ◌*◌, ◌/◌, ◌%◌, ◌^◌, ◌<◌, ◌≤◌, Bool, true, false, List, length, sym, ap, ◌∙◌, arith, inl, inr}
use Rattle.std.proofs.lemmas.Bool.{cases_lt}
use Rattle.clif_number_sets.specs.Sets.{is_in, IsFirst, IsLast, SpansWords}
use Rattle.clif_number_sets.specs.Words.{has_bit, mark_in, marks_of, spread, word_of, IsTrimmed, NoneFrom}
use Rattle.clif_number_sets.proofs.Bits.{none_set, some_bit}
use Rattle.clif_number_sets.proofs.Joining.{spread_at, spread_before, spread_after}
use Rattle.clif_number_sets.proofs.Marks.{in-marks-all}

-- a word that isn't zero has a member
member_of : (words : List ℕ) (number : ℕ) → 0 < word_of words number → word_of words number < 2 ^ 64 → (place : ℕ) × (place / 64 ≡ number) × (mark_in words place ≡ true)
member_of words number some fits =
    let found = some_bit (word_of words number) some fits in
    let place : ℕ = 64 * number + found.0 in
    let row : place / 64 ≡ number = omega (arith, found.1) in
    let column : place % 64 ≡ found.0 = omega (arith, found.1) in
    (place, row, ap (λ r. has_bit (word_of words r) (place % 64)) row ∙ ap (has_bit (word_of words number)) column ∙ found.2)

-- a member is in a word that isn't zero
in_word : (words : List ℕ) (place : ℕ) → word_of words (place / 64) ≡ 0 → mark_in words place ≡ true → ⊥
in_word words place none there =
    let not_set : mark_in words place ≡ false = ap (λ w. has_bit w (place % 64)) none ∙ none_set (place % 64) in
    cc

module _ (size first : ℕ) (words : List ℕ) (trimmed : IsTrimmed words) (none : NoneFrom size (spread first words)) (fits : (k : ℕ) → word_of words k < 2 ^ 64) where
  abbrev all : List ℕ
  all = spread first words

  abbrev set : List Bool
  set = marks_of size all

  is : (place : ℕ) → is_in set place ≡ mark_in all place
  is place = in-marks-all size all place none

  inside : (place : ℕ) → mark_in all place ≡ true → (first ≤ place / 64) × (place / 64 < first + length words)
  inside place there = (from (cases_lt (place / 64) first), below (cases_lt (place / 64) (first + length words)))
    where
      from : (place / 64 < first) ⊎ (first ≤ place / 64) → first ≤ place / 64
      from (inl before) = absurd (in_word all place (spread_before first words (place / 64) before) there)
      from (inr at) = at

      below : (place / 64 < first + length words) ⊎ (first + length words ≤ place / 64) → place / 64 < first + length words
      below (inl at) = at
      below (inr after) = absurd (in_word all place (spread_after first words (place / 64) after) there)

  -- a member in the word of such a number
  member : (k : ℕ) → 0 < word_of words k → (place : ℕ) × (place / 64 ≡ first + k) × (mark_in all place ≡ true)
  member k some = member_of all (first + k) (omega (arith, spread_at first words k, some)) (omega (arith, spread_at first words k, fits k))

  -- the least member is not after a member, and the greatest not before one
  least : (place other : ℕ) → IsFirst set place → mark_in all other ≡ true → place ≤ other
  least place other at there = by (cases_lt other place)
    where
      by : (other < place) ⊎ (place ≤ other) → place ≤ other
      by (inl less) = let not_there : is_in set other ≡ false = at.1 other less in let e = is other in absurd (apart (sym not_there ∙ e ∙ there))
        where
          apart : false ≡ true → ⊥
          apart e = cc
      by (inr more) = more

  greatest : (place other : ℕ) → IsLast set place → mark_in all other ≡ true → other ≤ place
  greatest place other at there = by (cases_lt place other)
    where
      by : (place < other) ⊎ (other ≤ place) → other ≤ place
      by (inl less) = let not_there : is_in set other ≡ false = at.1 other less in let e = is other in absurd (apart (sym not_there ∙ e ∙ there))
        where
          apart : false ≡ true → ⊥
          apart e = cc
      by (inr more) = more

  pub spans : SpansWords (marks_of size (spread first words)) (length words)
  spans = record {
    none = λ empty. no_words empty (cases_lt 0 (length words));
    some = λ low high at last. some_words low high at last (cases_lt 0 (length words));
  }
    where
      no_words : ((place : ℕ) → is_in set place ≡ false) → (0 < length words) ⊎ (length words ≤ 0) → length words ≡ 0
      no_words empty (inl some) =
          let found = member 0 (trimmed.first some) in
          let e = is found.0 in
          let f = empty found.0 in
          absurd (apart (sym f ∙ e ∙ found.2))
        where
          apart : false ≡ true → ⊥
          apart e = cc
      no_words empty (inr zero_words) = omega arith

      some_words : (low high : ℕ) → IsFirst set low → IsLast set high → (0 < length words) ⊎ (length words ≤ 0) → length words + low / 64 ≡ high / 64 + 1
      some_words low high at last (inr zero_words) =
          let h = inside low (sym (is low) ∙ at.0) in
          absurd (omega (arith, h.0, h.1, zero_words))
      some_words low high at last (inl some) =
          let front = member 0 (trimmed.first some) in
          let back = member (length words - 1) (trimmed.last some) in
          let low_in = inside low (sym (is low) ∙ at.0) in
          let high_in = inside high (sym (is high) ∙ last.0) in
          let low_least : low ≤ front.0 = least low front.0 at front.2 in
          let high_greatest : back.0 ≤ high = greatest high back.0 last back.2 in
          omega (arith, low_in.0, low_in.1, high_in.0, high_in.1, low_least, high_greatest, front.1, back.1, some)
