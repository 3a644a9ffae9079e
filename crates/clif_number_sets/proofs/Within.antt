-- Words of which only those of a range may have a bit.
use Rattle.std.proofs.Common.{◌≡◌, ◌≢◌, ◌⊎◌, ℕ, ◌+◌, ◌-◌, ◌/◌, ◌%◌, ◌*◌, ◌<◌, ◌≤◌, max, min, Bool, false, ◌||◌, List, Option, Some, None, length, ◌++◌, replicate, take, drop, set, refl, sym, ap, ◌∙◌, arith, inl, inr, length-take, length-set, get_or-set_same, get_or-set_other, ext_get_or, rules}
use Rattle.std.specs.Prelude.{bit_or}
use Rattle.std.proofs.lemmas.Bool.{cases_eq, cases_lt}
use Rattle.std.proofs.lemmas.List.{get_or_past, get_or-take, places}
use Rattle.clif_number_sets.specs.Sets.{is_in, IsSet}
use Rattle.clif_number_sets.specs.Words.{has_bit, mark_in, marks_of, spread, word_of, AreUnited, IsFirstUsed, IsNextMark, IsUsedEnd, LieWithin}
use Rattle.clif_number_sets.proofs.Bits.{or_zero}
use Rattle.clif_number_sets.proofs.Joining.{spread_before, spread_after}
use Rattle.clif_number_sets.proofs.Marks.{length-marks, in-marks}
use Rattle.clif_number_sets.proofs.Next.{mark_zero}

-- a row of no words has no member
pub set_alone : (size start : ℕ) (words : List ℕ) (set other : List Bool) → length words ≡ 0 → marks_of size (spread start words) ≡ other → length set ≡ length other
    → IsSet (length set) (λ place. is_in other place || is_in set place) set
set_alone size start words set other none other_is same = record {
  size = refl;
  members = λ place below. sym (ap (λ (b : Bool). b || is_in set place) (absent place (omega (arith, below, same, ap length other_is, length-marks size (spread start words)))));
}
  where
    zero_at : (k : ℕ) → (k < start) ⊎ (start ≤ k) → word_of (spread start words) k ≡ 0
    zero_at k (inl below) = spread_before start words k below
    zero_at k (inr from) = spread_after start words k (omega arith)

    absent : (place : ℕ) → place < size → is_in other place ≡ false
    absent place below =
        ap (λ s. is_in s place) (sym other_is) ∙ in-marks size (spread start words) place below
        ∙ mark_zero (spread start words) place (zero_at (place / 64) (cases_lt (place / 64) start))

module _ (first end : ℕ) (words : List ℕ) (within : LieWithin first end words) where
  -- an empty range
  pub none_inside : end ≤ first → (k : ℕ) → word_of words k ≡ 0
  none_inside empty k = by (cases_lt k first)
    where
      by : (k < first) ⊎ (first ≤ k) → word_of words k ≡ 0
      by (inl below) = within.before k below
      by (inr from) = within.after k (omega arith)

  -- what is found in the range is found in all words
  pub none_used : IsFirstUsed words first end None → (k : ℕ) → word_of words k ≡ 0
  none_used none k = by (cases_lt k first) (cases_lt k end)
    where
      by : (k < first) ⊎ (first ≤ k) → (k < end) ⊎ (end ≤ k) → word_of words k ≡ 0
      by (inl below) _ = within.before k below
      by (inr from) (inl inside) = none k from inside
      by (inr from) (inr after) = within.after k after

  pub none_before : (low : ℕ) → IsFirstUsed words first end (Some low) → (k : ℕ) → k < low → word_of words k ≡ 0
  none_before low used k before = by (cases_lt k first)
    where
      by : (k < first) ⊎ (first ≤ k) → word_of words k ≡ 0
      by (inl below) = within.before k below
      by (inr from) = used.3 k from before

  -- the words to the end of the range are all that count
  pub word_taken : (k : ℕ) → word_of (take end words) k ≡ word_of words k
  word_taken k = by (cases_lt k end)
    where
      by : (k < end) ⊎ (end ≤ k) → word_of (take end words) k ≡ word_of words k
      by (inl inside) = get_or-take end words k 0 inside
      by (inr after) = get_or_past (take end words) k 0 (omega (arith, length-take end words)) ∙ sym (within.after k after)

  pub end_used : (last : ℕ) → IsUsedEnd (take end words) last → IsUsedEnd words last
  end_used last used = record {
    inside = omega (arith, used.inside, length-take end words);
    last = λ some. omega (arith, word_taken (last - 1), used.last some);
    after = λ k from. sym (word_taken k) ∙ used.after k from;
  }

  -- a word of the range is written, or one outside it that then is in it
  pub written_within : (number value front back : ℕ) → number < length words → front ≡ min first number → back ≡ max end (number + 1) → LieWithin front back (set words number value)
  written_within number value front back inside front_is back_is = record {
    inside = omega (arith, within.inside, length-set words number value);
    before = λ k below. get_or-set_other words number k value 0 (omega arith) ∙ within.before k (omega arith);
    after = λ k from. get_or-set_other words number k value 0 (omega arith) ∙ within.after k (omega arith);
  }

  -- a word is written that stays zero if it was
  pub kept_within : (number value : ℕ) → number < length words → (word_of words number ≡ 0 → value ≡ 0) → LieWithin first end (set words number value)
  kept_within number value inside kept = record {
    inside = omega (arith, within.inside, length-set words number value);
    before = λ k below. at k (within.before k below);
    after = λ k from. at k (within.after k from);
  }
    where
      at : (k : ℕ) → word_of words k ≡ 0 → word_of (set words number value) k ≡ 0
      at k none = by (cases_eq k number)
        where
          by : (k ≡ number) ⊎ (k ≢ number) → word_of (set words number value) k ≡ 0
          by (inl same) =
              ap (word_of (set words number value)) same ∙ get_or-set_same words number value 0 inside
              ∙ kept (ap (word_of words) (sym same) ∙ none)
          by (inr apart) = get_or-set_other words number k value 0 apart ∙ none

  -- a run of words is joined to them
  pub united_within : (start front back : ℕ) (others new : List ℕ) → length new ≡ length words → start + length others ≤ length words → AreUnited words (spread start others) new
      → front ≡ min first start → back ≡ max end (start + length others) → LieWithin front back new
  united_within start front back others new size fits united front_is back_is = record {
    inside = omega (arith, within.inside, size, fits);
    before = λ k below. at k (within.before k (omega arith)) (spread_before start others k (omega arith));
    after = λ k from. at k (within.after k (omega arith)) (spread_after start others k (omega arith));
  }
    where
      at : (k : ℕ) → word_of words k ≡ 0 → word_of (spread start others) k ≡ 0 → word_of new k ≡ 0
      at k none none_other = united k ∙ ap (bit_or (word_of words k)) none_other ∙ or_zero (word_of words k) ∙ none

  mark_taken : (place : ℕ) → mark_in (take end words) place ≡ mark_in words place
  mark_taken place = ap (λ w. has_bit w (place % 64)) (word_taken (place / 64))

  -- a place has no mark if it has none from the range on
  mark_of : (place : ℕ) → (64 * first ≤ place → mark_in (take end words) place ≡ false) → mark_in words place ≡ false
  mark_of place none = by (cases_lt place (64 * first))
    where
      by : (place < 64 * first) ⊎ (64 * first ≤ place) → mark_in words place ≡ false
      by (inl below) = mark_zero words place (within.before (place / 64) (omega arith))
      by (inr from) = sym (mark_taken place) ∙ none from

  -- the least mark of the range is the least of all
  pub next_within : (place : ℕ) (answer : Option ℕ) → IsNextMark (take end words) (max place (64 * first)) answer → IsNextMark words place answer
  next_within place None next = λ other above. mark_of other (λ from. next other (omega (arith, above, from)))
  next_within place (Some found) next =
      (omega (arith, next.0), sym (mark_taken found) ∙ next.1, λ other above below. mark_of other (λ from. next.2 other (omega (arith, above, from)) below))

  -- the words of the range are made zero
  pub erased : (zeros : List ℕ) → zeros ≡ replicate (end - first) 0 → first < end
      → take first words ++ (zeros ++ drop (end - first) (drop first words)) ≡ replicate (length words) 0
  erased zeros are some = ext_get_or 0 _ _ (search (rules, places)) (λ k inside. by k inside (cases_lt k first) (cases_lt k end))
    where
      by : (k : ℕ) → k < length (take first words ++ (zeros ++ drop (end - first) (drop first words))) → (k < first) ⊎ (first ≤ k) → (k < end) ⊎ (end ≤ k)
          → word_of (take first words ++ (zeros ++ drop (end - first) (drop first words))) k ≡ word_of (replicate (length words) 0) k
      by k inside (inl below) _ = grind (arith, places, within.before k below)
      by k inside (inr from) (inl at) = grind (arith, places, are)
      by k inside (inr from) (inr past) = grind (arith, places, within.after k past)
