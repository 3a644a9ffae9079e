-- The union of two runs of words.
use Rattle.std.proofs.Common.{◌≡◌, ◌≢◌, ◌⊎◌, ℕ, ◌+◌, ◌-◌, ◌/◌, ◌%◌, ◌*◌, ◌^◌, ◌<◌, ◌≤◌, max, min, Bool, ◌||◌, List, Some, length, replicate, take, drop, sym, ap, subst, ◌∙◌, arith, inl, inr, length-take, length-drop}
use Rattle.std.specs.Prelude.{bit_or, Vec}
use Rattle.std.specs.Vec.{with_items}
use Rattle.std.proofs.lemmas.Bool.{cases_lt}
use Rattle.std.proofs.lemmas.Nat.{le_or_l, le_or_r}
use Rattle.std.proofs.lemmas.List.{with_items_is, length-replicate, get_or-replicate, get_or_past, get_or-take, get_or-drop}
use Rattle.clif_number_sets.specs.Words.{has_bit, spread, word_of, AreUnited, HasNew, IsFirstUsed, IsTrimmed, IsUsedEnd, LieWithin}
use Rattle.clif_number_sets.proofs.Bits.{joined as joined_bit, or_zero, zero_or}
use Rattle.clif_number_sets.proofs.Joining.{new_place, spread_at, spread_before, spread_after, spread_from}
use Rattle.clif_number_sets.proofs.Within.{end_used, none_before}

-- the words that have bits, of others
pub record IsUsedRun (others : List ℕ) (low end : ℕ) (used : List ℕ) : Type 0 where
  pub some : 0 < length used
  pub trimmed : IsTrimmed used
  pub same : (k : ℕ) → word_of (spread low used) k ≡ word_of others k
  pub end_is : low + length used ≡ end
  pub inside : end ≤ length others

pub used_run : (first last : ℕ) (others : List ℕ) (low end : ℕ) → LieWithin first last others → IsFirstUsed others first last (Some low) → IsUsedEnd (take last others) end
    → IsUsedRun others low end (take (end - low) (drop low others))
used_run first last others low end within found reached = record {
  some = omega (arith, count, order);
  trimmed = record { first = λ some. front; last = λ some. back };
  same = λ k. by k (cases_lt k low) (cases_lt k end);
  end_is = omega (arith, count, order);
  inside = used_to.inside;
}
  where
    used : List ℕ
    used = take (end - low) (drop low others)

    used_to : IsUsedEnd others end
    used_to = end_used first last others within end reached

    order_by : (low < end) ⊎ (end ≤ low) → low < end
    order_by (inl less) = less
    order_by (inr more) = let none = used_to.after low more in omega (arith, none, found.2)

    order : low < end
    order = order_by (cases_lt low end)

    count : length used ≡ end - low
    count = omega (arith, length-take (end - low) (drop low others), length-drop low others, used_to.inside)

    at : (k : ℕ) → k < end - low → word_of used k ≡ word_of others (low + k)
    at k below = get_or-take (end - low) (drop low others) k 0 below ∙ get_or-drop low others k 0

    front : 0 < word_of used 0
    front = let e : low + 0 ≡ low = omega arith in omega (arith, at 0 (omega (arith, order)), ap (word_of others) e, found.2)

    back : 0 < word_of used (length used - 1)
    back =
        let e : low + (length used - 1) ≡ end - 1 = omega (arith, count, order) in
        omega (arith, at (length used - 1) (omega (arith, count, order)), ap (word_of others) e, used_to.last (omega (arith, order)))

    by : (k : ℕ) → (k < low) ⊎ (low ≤ k) → (k < end) ⊎ (end ≤ k) → word_of (spread low used) k ≡ word_of others k
    by k (inl before) _ = spread_before low used k before ∙ sym (none_before first last others within low found k before)
    by k (inr from) (inl below) =
        let e : low + (k - low) ≡ k = omega arith in
        spread_from low used k from ∙ at (k - low) (omega arith) ∙ ap (word_of others) e
    by k (inr from) (inr after) = spread_after low used k (omega (arith, count, order)) ∙ sym (used_to.after k after)

pub word-zeros : (count k : ℕ) → word_of (replicate count 0) k ≡ 0
word-zeros count k = by (cases_lt k count)
  where
    by : (k < count) ⊎ (count ≤ k) → word_of (replicate count 0) k ≡ 0
    by (inl below) = get_or-replicate count k 0 0 below
    by (inr above) = get_or_past (replicate count 0) k 0 (omega (arith, length-replicate {A = ℕ} count 0))

-- words that begin later, seen from a start
pub spread_shift : (start first : ℕ) (words : List ℕ) (k : ℕ) → start ≤ first → start ≤ k → word_of (spread (first - start) words) (k - start) ≡ word_of (spread first words) k
spread_shift start first words k later from = by (cases_lt k first)
  where
    by : (k < first) ⊎ (first ≤ k) → word_of (spread (first - start) words) (k - start) ≡ word_of (spread first words) k
    by (inl before) = spread_before (first - start) words (k - start) (omega arith) ∙ sym (spread_before first words k before)
    by (inr after) =
        let e : k - start - (first - start) ≡ k - first = omega arith in
        spread_from (first - start) words (k - start) (omega arith) ∙ ap (word_of words) e ∙ sym (spread_from first words k after)

-- others that are word for word the same
pub united_as : (old others others' new : List ℕ) → ((k : ℕ) → word_of others k ≡ word_of others' k) → AreUnited old others new → AreUnited old others' new
united_as old others others' new same united k = united k ∙ ap (bit_or (word_of old k)) (same k)

-- words joined in place
module _ (first low : ℕ) (words used new : List ℕ) (later : first ≤ low) (united : AreUnited words (spread (low - first) used) new) where
  pub united_inside : AreUnited (spread first words) (spread low used) (spread first new)
  united_inside k = by (cases_lt k first)
    where
      by : (k < first) ⊎ (first ≤ k) → word_of (spread first new) k ≡ bit_or (word_of (spread first words) k) (word_of (spread low used) k)
      by (inl before) =
          spread_before first new k before
          ∙ sym (ap (bit_or (word_of (spread first words) k)) (spread_before low used k (omega arith)) ∙ or_zero (word_of (spread first words) k) ∙ spread_before first words k before)
      by (inr from) =
          spread_from first new k from ∙ united (k - first) ∙ ap (λ w. bit_or w (word_of (spread (low - first) used) (k - first))) (sym (spread_from first words k from))
          ∙ ap (bit_or (word_of (spread first words) k)) (spread_shift first low used k later from)

  pub trimmed_inside : length new ≡ length words → IsTrimmed words → IsTrimmed new
  trimmed_inside size trimmed = record {
    first = λ some. omega (arith, united 0, le_or_l (word_of words 0) (word_of (spread (low - first) used) 0), trimmed.first (omega arith));
    last = λ some.
        let e : length new - 1 ≡ length words - 1 = omega arith in
        omega (
          arith,
          united (length new - 1),
          le_or_l (word_of words (length new - 1)) (word_of (spread (low - first) used) (length new - 1)),
          ap (word_of words) e,
          trimmed.last (omega arith),
        );
  }

-- a new bit of words is one of the words that begin at a number
pub new_inside : (first : ℕ) (words new : List ℕ) → HasNew words new → HasNew (spread first words) (spread first new)
new_inside first words new found =
    let place : ℕ = 64 * first + found.0 in
    let row : place / 64 ≡ first + found.0 / 64 = omega arith in
    let column : place % 64 ≡ found.0 % 64 = omega arith in
    let at = λ (ws : List ℕ). ap (λ r. has_bit (word_of (spread first ws) r) (place % 64)) row ∙ ap (has_bit (word_of (spread first ws) (first + found.0 / 64))) column
    ∙ ap (λ w. has_bit w (found.0 % 64)) (spread_at first ws (found.0 / 64)) in
    (place, at words ∙ found.1, at new ∙ found.2)

-- what joining a run into words that cover it leaves in them
pub record AreJoinedInside (first : ℕ) (words others joined : List ℕ) : Type 0 where
  pub united : AreUnited (spread first words) others (spread first joined)
  pub trimmed : IsTrimmed joined

pub inside_joined : {Z : Type 0} (first from low end : ℕ) (words : Vec ℕ Z) (used others before new : List ℕ) → IsUsedRun others low end used
    → (0 < length words.items → from ≡ first) → (length words.items ≡ 0 → from ≡ low) → from ≤ low → low + length used ≤ from + words.len
    → words.len ≡ length words.items → IsTrimmed words.items
    → before ≡ words.items → length new ≡ length before → AreUnited before (spread (low - from) used) new
    → AreJoinedInside first words.items others (with_items words new).items
inside_joined first from low end words used others before new run begins anywhere later covered full trimmed before_is size united =
    by (cases_lt 0 (length words.items))
  where
    by : (0 < length words.items) ⊎ (length words.items ≤ 0) → AreJoinedInside first words.items others (with_items words new).items
    by (inr none) = let e = anywhere (omega arith) in absurd (omega (arith, e, covered, full, none, run.some))
    by (inl some) =
        let same : length new ≡ length words.items = size ∙ ap length before_is in
        let is : (with_items words new).items ≡ new = with_items_is words new (omega (arith, same, full)) in
        let here : AreUnited words.items (spread (low - first) used) new =
        subst (λ f. AreUnited words.items (spread (low - f) used) new) (begins some) (subst (λ ws. AreUnited ws (spread (low - from) used) new) before_is united) in
        let first_later : first ≤ low = omega (arith, begins some, later) in
        subst (λ ws. AreJoinedInside first words.items others ws) (sym is) (record {
          united = united_as (spread first words.items) (spread low used) others (spread first new) run.same (united_inside first low words.items used new first_later here);
          trimmed = trimmed_inside first low words.items used new first_later here same trimmed;
        })

-- joined words that begin where the first of two runs does, and end where the last of them does
module _ (first low start count : ℕ) (words used one new : List ℕ) (some : 0 < length used) (none : length words ≡ 0 → first ≡ low)
    (starts : start ≡ min first low) (ends : start + count ≡ max (first + length words) (low + length used)) (size : length new ≡ count)
    (once : AreUnited (replicate count 0) (spread (first - start) words) one) (twice : AreUnited one (spread (low - start) used) new) where
  pub united_both : AreUnited (spread first words) (spread low used) (spread start new)
  united_both k = by (cases_lt k start)
    where
      by : (k < start) ⊎ (start ≤ k) → word_of (spread start new) k ≡ bit_or (word_of (spread first words) k) (word_of (spread low used) k)
      by (inl before) =
          spread_before start new k before
          ∙ sym (ap (bit_or (word_of (spread first words) k)) (spread_before low used k (omega arith)) ∙ or_zero (word_of (spread first words) k)
          ∙ spread_before first words k (omega arith))
      by (inr from) =
          spread_from start new k from ∙ twice (k - start)
          ∙ ap (λ w. bit_or w (word_of (spread (low - start) used) (k - start)))
          (once (k - start) ∙ ap (λ w. bit_or w (word_of (spread (first - start) words) (k - start))) (word-zeros count (k - start))
          ∙ zero_or (word_of (spread (first - start) words) (k - start)) ∙ spread_shift start first words k (omega arith) from)
          ∙ ap (bit_or (word_of (spread first words) k)) (spread_shift start low used k (omega arith) from)

  pub trimmed_both : IsTrimmed words → IsTrimmed used → IsTrimmed new
  trimmed_both trimmed_words trimmed_used = record { first = λ _. front (cases_lt first low); last = λ _. back (cases_lt (low + length used) (first + length words)) }
    where
      at : (k : ℕ) → word_of new k ≡ bit_or (word_of (spread first words) (start + k)) (word_of (spread low used) (start + k))
      at k = sym (spread_at start new k) ∙ united_both (start + k)

      by_words : (k : ℕ) → 0 < word_of (spread first words) (start + k) → 0 < word_of new k
      by_words k h = omega (arith, at k, le_or_l (word_of (spread first words) (start + k)) (word_of (spread low used) (start + k)), h)

      by_used : (k : ℕ) → 0 < word_of (spread low used) (start + k) → 0 < word_of new k
      by_used k h = omega (arith, at k, le_or_r (word_of (spread first words) (start + k)) (word_of (spread low used) (start + k)), h)

      there : (0 < length words) ⊎ (length words ≤ 0) → first ≢ low → 0 < length words
      there (inl more) apart = more
      there (inr empty) apart = absurd (apart (none (omega arith)))

      further : (0 < length words) ⊎ (length words ≤ 0) → low + length used < first + length words → 0 < length words
      further (inl more) less = more
      further (inr empty) less = let e = none (omega arith) in absurd (omega (arith, e, less, some))

      front : (first < low) ⊎ (low ≤ first) → 0 < word_of new 0
      front (inl less) =
          let e : start + 0 ≡ first + 0 = omega arith in
          by_words 0 (omega (arith, ap (word_of (spread first words)) e, spread_at first words 0, trimmed_words.first (there (cases_lt 0 (length words)) (omega arith))))
      front (inr more) =
          let e : start + 0 ≡ low + 0 = omega arith in
          by_used 0 (omega (arith, ap (word_of (spread low used)) e, spread_at low used 0, trimmed_used.first some))

      back : (low + length used < first + length words) ⊎ (first + length words ≤ low + length used) → 0 < word_of new (length new - 1)
      back (inl less) =
          let more : 0 < length words = further (cases_lt 0 (length words)) less in
          let e : start + (length new - 1) ≡ first + (length words - 1) = omega (arith, more) in
          by_words (length new - 1) (omega (arith, ap (word_of (spread first words)) e, spread_at first words (length words - 1), trimmed_words.last more))
      back (inr more) =
          let e : start + (length new - 1) ≡ low + (length used - 1) = omega (arith, some) in
          by_used (length new - 1) (omega (arith, ap (word_of (spread low used)) e, spread_at low used (length used - 1), trimmed_used.last some))

-- what joining two runs into a vector of zeros leaves in it
pub record AreJoined (first low start : ℕ) (words used joined : List ℕ) : Type 0 where
  pub united : AreUnited (spread first words) (spread low used) (spread start joined)
  pub trimmed : IsTrimmed words → IsTrimmed used → IsTrimmed joined

pub both_joined : {Z : Type 0} (first low start count : ℕ) (words used : List ℕ) (joined : Vec ℕ Z) (before one between new : List ℕ)
    → 0 < length used → (length words ≡ 0 → first ≡ low) → start ≡ min first low → start + count ≡ max (first + length words) (low + length used)
    → joined.items ≡ replicate count 0 → joined.len ≡ length joined.items
    → before ≡ joined.items → length one ≡ length before → AreUnited before (spread (first - start) words) one
    → between ≡ (with_items joined one).items → length new ≡ length between → AreUnited between (spread (low - start) used) new
    → AreJoined first low start words used (with_items (with_items joined one) new).items
both_joined first low start count words used joined before one between new some none starts ends zeros full before_is one_size once between_is new_size twice =
    let sized : length joined.items ≡ count = ap length zeros ∙ length-replicate {A = ℕ} count 0 in
    let one_len : length one ≡ joined.len = omega (arith, one_size, ap length before_is, full) in
    let one_is : (with_items joined one).items ≡ one = with_items_is joined one one_len in
    let new_len : length new ≡ joined.len = new_size ∙ ap length between_is ∙ ap length one_is ∙ one_len in
    let new_is : (with_items (with_items joined one) new).items ≡ new = with_items_is (with_items joined one) new new_len in
    let first_union = subst (λ ws. AreUnited ws (spread (first - start) words) one) (before_is ∙ zeros) once in
    let second_union = subst (λ ws. AreUnited ws (spread (low - start) used) new) (between_is ∙ one_is) twice in
    let size : length new ≡ count = omega (arith, new_len, full, sized) in
    subst (λ ws. AreJoined first low start words used ws) (sym new_is) (record {
      united = united_both first low start count words used one new some none starts ends size first_union second_union;
      trimmed = trimmed_both first low start count words used one new some none starts ends size first_union second_union;
    })

-- other words that reach further than a run have a bit outside it
pub outside : (first low end : ℕ) (words used others : List ℕ) → IsUsedRun others low end used → (low < first) ⊎ (first + length words < low + length used)
    → (k : ℕ) × (word_of (spread first words) k ≡ 0) × (0 < word_of others k)
outside first low end words used others run (inl before) =
    let e : low + 0 ≡ low = omega arith in
    (low, spread_before first words low before, omega (arith, run.same low, ap (word_of (spread low used)) e, spread_at low used 0, run.trimmed.first run.some))
outside first low end words used others run (inr after) =
    let k : ℕ = low + (length used - 1) in
    (k, spread_after first words k (omega (arith, run.some)), omega (arith, run.same k, spread_at low used (length used - 1), run.trimmed.last run.some))

-- so they have a bit that the run has not
pub fresh_outside : (old others : List ℕ) (k : ℕ) → word_of old k ≡ 0 → 0 < word_of others k → word_of others k < 2 ^ 64 → HasNew old others
fresh_outside old others k none some fits =
    new_place old others k (word_of others k) (sym (ap (λ w. bit_or w (word_of others k)) none ∙ zero_or (word_of others k)))
    (λ e. absurd (omega (arith, e, none, some))) (omega (arith, none)) fits

pub new_united : (old others new : List ℕ) → AreUnited old others new → HasNew old others → HasNew old new
new_united old others new united found =
    let place : ℕ = found.0 in (
      place,
      found.1,
      ap (λ w. has_bit w (place % 64)) (united (place / 64)) ∙ joined_bit (word_of old (place / 64)) (word_of others (place / 64)) (place % 64)
          ∙ ap (λ (t : Bool). t || has_bit (word_of others (place / 64)) (place % 64)) found.1 ∙ found.2,
    )

-- no words begin anywhere
pub spread_alike : (first from : ℕ) (words : List ℕ) → (0 < length words → from ≡ first) → (k : ℕ) → word_of (spread from words) k ≡ word_of (spread first words) k
spread_alike first from words begins k = by (cases_lt 0 (length words))
  where
    by : (0 < length words) ⊎ (length words ≤ 0) → word_of (spread from words) k ≡ word_of (spread first words) k
    by (inl some) = ap (λ f. word_of (spread f words) k) (begins some)
    by (inr none) = no_words from (cases_lt k from) ∙ sym (no_words first (cases_lt k first))
      where
        no_words : (f : ℕ) → (k < f) ⊎ (f ≤ k) → word_of (spread f words) k ≡ 0
        no_words f (inl before) = spread_before f words k before
        no_words f (inr after) = spread_after f words k (omega arith)

-- the union with words that a run doesn't cover
module _ (first from low end : ℕ) (words used others : List ℕ) (run : IsUsedRun others low end used) (begins : 0 < length words → from ≡ first) where
  pub united_grown : (new : List ℕ) → AreUnited (spread from words) (spread low used) new → AreUnited (spread first words) others new
  united_grown new united k = united k ∙ ap (λ w. bit_or w (word_of (spread low used) k)) (spread_alike first from words begins k) ∙ ap (bit_or (word_of (spread first words) k)) (run.same k)

  pub fresh_grown : (low < from) ⊎ (from + length words < low + length used) → ((k : ℕ) → word_of others k < 2 ^ 64) → HasNew (spread first words) others
  fresh_grown beyond fits =
      let found = outside from low end words used others run beyond in
      fresh_outside (spread first words) others found.0 (sym (spread_alike first from words begins found.0) ∙ found.1) found.2 (fits found.0)
