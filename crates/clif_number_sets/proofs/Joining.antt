-- Words that begin at a number, and the union of words.
use Rattle.std.proofs.Common.{◌≡◌, ◌≢◌, ◌⊎◌, ℕ, ◌+◌, ◌-◌, ◌/◌, ◌%◌, ◌*◌, ◌^◌, ◌<◌, ◌≤◌, Bool, true, false, List, [], ◌++◌, length, replicate, set, refl, sym, ap, subst, ◌∙◌, arith, inl, inr, length-set, get_or-set_same, get_or-set_other}
use Rattle.std.specs.Prelude.{bit_or}
use Rattle.std.proofs.lemmas.Nat.{or_lt}
use Rattle.std.proofs.lemmas.Bool.{cases_eq, cases_lt}
use Rattle.std.proofs.lemmas.List.{length-replicate, get_or-replicate, get_or_past, get_or_append_left, get_or-append_right}
use Rattle.clif_number_sets.specs.Words.{spread, word_of, AreUnited, HasNew}
use Rattle.clif_number_sets.proofs.Bits.{or_zero, new_bit}

module _ (first : ℕ) (words : List ℕ) where
  pub spread_before : (k : ℕ) → k < first → word_of (spread first words) k ≡ 0
  unfolding spread
  spread_before k below =
      get_or_append_left (replicate first 0) words 0 k (omega (arith, length-replicate {A = ℕ} first 0)) ∙ get_or-replicate first k 0 0 below

  pub spread_from : (k : ℕ) → first ≤ k → word_of (spread first words) k ≡ word_of words (k - first)
  unfolding spread
  spread_from k from = get_or-append_right (replicate first 0) words first k 0 (length-replicate first 0) from

  pub spread_at : (k : ℕ) → word_of (spread first words) (first + k) ≡ word_of words k
  spread_at k = let e : first + k - first ≡ k = omega arith in spread_from (first + k) (omega arith) ∙ ap (word_of words) e

  pub spread_after : (k : ℕ) → first + length words ≤ k → word_of (spread first words) k ≡ 0
  spread_after k after = spread_from k (omega arith) ∙ get_or_past words (k - first) 0 (omega arith)

  pub spread_fits : ((k : ℕ) → word_of words k < 2 ^ 64) → (k : ℕ) → word_of (spread first words) k < 2 ^ 64
  spread_fits fits k = by (cases_lt k first)
    where
      by : (k < first) ⊎ (first ≤ k) → word_of (spread first words) k < 2 ^ 64
      by (inl before) = omega (arith, spread_before k before)
      by (inr from) = omega (arith, spread_from k from, fits (k - first))

pub spread_none : (first : ℕ) (words : List ℕ) → first ≡ 0 → words ≡ [] → spread first words ≡ replicate 0 0
unfolding spread
spread_none first words at none = ap (λ f. replicate f 0 ++ words) at ∙ none

-- a word that has changed has a new bit
pub new_place : (old new : List ℕ) (k other : ℕ) → word_of new k ≡ bit_or (word_of old k) other → word_of old k ≢ word_of new k → word_of old k < 2 ^ 64
    → word_of new k < 2 ^ 64 → HasNew old new
new_place old new k other united changed old_fits new_fits =
    let bit = new_bit (word_of old k) other (word_of new k) united changed old_fits new_fits in
    let place : ℕ = 64 * k + bit.0 in
    let row : place / 64 ≡ k = omega (arith, bit.1) in
    let column : place % 64 ≡ bit.0 = omega (arith, bit.1) in
    (place, rw (row, column) bit.2, rw (row, column) bit.3)

-- So far the words of the source below a number are joined; a flag tells whether one of them had a new bit.
pub record Joined (old source : List ℕ) (start number : ℕ) (new : List ℕ) (grown : Bool) : Type 0 where
  pub size : length new ≡ length old
  pub done : (k : ℕ) → k < start + number → word_of new k ≡ bit_or (word_of old k) (word_of (spread start source) k)
  pub rest : (k : ℕ) → start + number ≤ k → word_of new k ≡ word_of old k
  pub grows : grown ≡ true → (k : ℕ) × (k < start + number) × (word_of old k ≢ word_of new k)
  pub same : grown ≡ false → new ≡ old
  pub fits : (k : ℕ) → word_of old k < 2 ^ 64

module _ (old source : List ℕ) (start : ℕ) where
  pub joined_none : ((k : ℕ) → word_of old k < 2 ^ 64) → Joined old source start 0 old false
  joined_none fits = record {
    size = refl;
    done = λ k below. sym (ap (bit_or (word_of old k)) (spread_before start source k (omega arith)) ∙ or_zero (word_of old k));
    rest = λ k from. refl;
    grows = λ e. cc;
    same = λ e. refl;
    fits = fits;
  }

  module _ (number : ℕ) (new : List ℕ) (grown : Bool) (so_far : Joined old source start number new grown) where
    here : word_of new (start + number) ≡ word_of old (start + number)
    here = so_far.rest (start + number) (omega arith)

    -- what the word becomes
    becomes : (value : ℕ) → value ≡ bit_or (word_of new (start + number)) (word_of source number)
        → value ≡ bit_or (word_of old (start + number)) (word_of (spread start source) (start + number))
    becomes value is = is ∙ ap (λ w. bit_or w (word_of source number)) here ∙ ap (bit_or (word_of old (start + number))) (sym (spread_at start source number))

    pub joined_kept : bit_or (word_of new (start + number)) (word_of source number) ≡ word_of new (start + number) → Joined old source start (number + 1) new grown
    joined_kept same = record {
      size = so_far.size;
      done = λ k below. by k below (cases_lt k (start + number));
      rest = λ k from. so_far.rest k (omega arith);
      grows = λ e. let h = so_far.grows e in (h.0, omega (arith, h.1), h.2);
      same = so_far.same;
      fits = so_far.fits;
    }
      where
        by : (k : ℕ) → k < start + (number + 1) → (k < start + number) ⊎ (start + number ≤ k) → word_of new k ≡ bit_or (word_of old k) (word_of (spread start source) k)
        by k below (inl before) = so_far.done k before
        by k below (inr from) =
            let e : start + number ≡ k = omega arith in
            subst (λ m. word_of new m ≡ bit_or (word_of old m) (word_of (spread start source) m)) e (becomes (word_of new (start + number)) (sym same))

    pub joined_one : (value : ℕ) → start + number < length new → value ≡ bit_or (word_of new (start + number)) (word_of source number)
        → value ≢ word_of new (start + number) → Joined old source start (number + 1) (set new (start + number) value) true
    joined_one value inside is fresh = record {
      size = length-set new (start + number) value ∙ so_far.size;
      done = λ k below. by k below (cases_eq k (start + number));
      rest = λ k from. get_or-set_other new (start + number) k value 0 (omega arith) ∙ so_far.rest k (omega arith);
      grows = λ e. (start + number, omega arith, λ same. fresh (sym (get_or-set_same new (start + number) value 0 inside) ∙ sym same ∙ sym here));
      same = λ e. cc;
      fits = so_far.fits;
    }
      where
        by : (k : ℕ) → k < start + (number + 1) → (k ≡ start + number) ⊎ (k ≢ start + number)
            → word_of (set new (start + number) value) k ≡ bit_or (word_of old k) (word_of (spread start source) k)
        by k below (inl e) =
            subst (λ m. word_of (set new (start + number) value) m ≡ bit_or (word_of old m) (word_of (spread start source) m)) (sym e)
            (get_or-set_same new (start + number) value 0 inside ∙ becomes value is)
        by k below (inr apart) = get_or-set_other new (start + number) k value 0 apart ∙ so_far.done k (omega arith)

  -- the same of equal words and flags
  pub joined_as : (number : ℕ) (new new' : List ℕ) (grown grown' : Bool) → Joined old source start number new grown → new' ≡ new → grown' ≡ grown
      → Joined old source start number new' grown'
  joined_as number new new' grown grown' so_far same flag =
      subst (λ g. Joined old source start number new' g) (sym flag) (subst (λ s. Joined old source start number s grown) (sym same) so_far)

  pub joined_all : (number : ℕ) (new : List ℕ) (grown : Bool) → length source ≤ number → Joined old source start number new grown → AreUnited old (spread start source) new
  joined_all number new grown past done k = by (cases_lt k (start + number))
    where
      by : (k < start + number) ⊎ (start + number ≤ k) → word_of new k ≡ bit_or (word_of old k) (word_of (spread start source) k)
      by (inl before) = done.done k before
      by (inr from) = done.rest k from ∙ sym (ap (bit_or (word_of old k)) (spread_after start source k (omega arith)) ∙ or_zero (word_of old k))

  pub joined_grown : (number : ℕ) (new : List ℕ) → length source ≤ number → ((k : ℕ) → word_of source k < 2 ^ 64) → Joined old source start number new true → HasNew old new
  joined_grown number new past fits done =
      let changed = done.grows refl in
      let k : ℕ = changed.0 in
      let united : word_of new k ≡ bit_or (word_of old k) (word_of (spread start source) k) = joined_all number new true past done k in
      new_place old new k (word_of (spread start source) k) united changed.2 (done.fits k)
      (subst (λ w. w < 2 ^ 64) (sym united) (or_lt 64 (word_of old k) (word_of (spread start source) k) (done.fits k) (spread_fits start source fits k)))
