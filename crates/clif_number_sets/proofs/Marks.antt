-- Words as marks: one bit written is one mark set.
use Rattle.std.proofs.Common.{◌≡◌, ◌≢◌, ◌⊎◌, ℕ, ◌/◌, ◌%◌, ◌<◌, ◌≤◌, Bool, false, List, length, replicate, set, sym, ap, ◌∙◌, arith, inl, inr, ext_get_or, length-set, get_or-set_same, get_or-set_other}
use Rattle.std.proofs.lemmas.Bool.{cases_eq, cases_lt}
use Rattle.std.proofs.lemmas.List.{length-replicate, get_or-replicate, get_or_past}
use Rattle.std.proofs.lemmas.List.FromFn.{length-map-range_with_len, get_or-map-range_with_len}
use Rattle.clif_number_sets.specs.Sets.{is_in, IsSet}
use Rattle.clif_number_sets.specs.Words.{has_bit, mark_in, marks_of, word_of, NoneFrom}
use Rattle.clif_number_sets.proofs.Bits.{none_set}

pub length-marks : (size : ℕ) (words : List ℕ) → length (marks_of size words) ≡ size
unfolding marks_of
length-marks size words = length-map-range_with_len (mark_in words) 0 size

pub in-marks : (size : ℕ) (words : List ℕ) (place : ℕ) → place < size → is_in (marks_of size words) place ≡ mark_in words place
unfolding marks_of
in-marks size words place below = get_or-map-range_with_len (mark_in words) 0 size place place false below (omega arith)

-- the same, also past the size
pub in-marks-all : (size : ℕ) (words : List ℕ) (place : ℕ) → NoneFrom size words → is_in (marks_of size words) place ≡ mark_in words place
in-marks-all size words place none = by (cases_lt place size)
  where
    by : (place < size) ⊎ (size ≤ place) → is_in (marks_of size words) place ≡ mark_in words place
    by (inl below) = in-marks size words place below
    by (inr above) = get_or_past (marks_of size words) place false (omega (arith, length-marks size words)) ∙ sym (none place above)

-- a list of marks by its elements
pub marks_are : (size : ℕ) (words : List ℕ) (set : List Bool) → length set ≡ size
    → ((place : ℕ) → place < size → mark_in words place ≡ is_in set place) → marks_of size words ≡ set
marks_are size words set len same =
    ext_get_or false _ _ (length-marks size words ∙ sym len)
    (λ k h. let below : k < size = omega (arith, length-marks size words, h) in in-marks size words k below ∙ same k below)

-- words that are zero
pub mark-zeros : (count place : ℕ) → mark_in (replicate count 0) place ≡ false
mark-zeros count place = by (cases_lt (place / 64) count)
  where
    by : (place / 64 < count) ⊎ (count ≤ place / 64) → mark_in (replicate count 0) place ≡ false
    by (inl below) = ap (λ w. has_bit w (place % 64)) (get_or-replicate count (place / 64) 0 0 below) ∙ none_set (place % 64)
    by (inr above) = ap (λ w. has_bit w (place % 64)) (get_or_past (replicate count 0) (place / 64) 0 (omega (arith, length-replicate {A = ℕ} count 0))) ∙ none_set (place % 64)

pub none-zeros : (size count : ℕ) → NoneFrom size (replicate count 0)
none-zeros size count place above = mark-zeros count place

pub marks-zeros : (size count : ℕ) → marks_of size (replicate count 0) ≡ replicate size false
marks-zeros size count =
    marks_are size (replicate count 0) (replicate size false) (length-replicate size false)
    (λ place below. mark-zeros count place ∙ sym (get_or-replicate size place false false below))

pub set-zeros : (places size count : ℕ) (words : List ℕ) → places ≡ size → words ≡ replicate count 0 → IsSet places (λ place. false) (marks_of size words)
set-zeros places size count words same zeros = record {
  size = length-marks size words ∙ sym same;
  members = λ place below. in-marks size words place (omega arith) ∙ ap (λ ws. mark_in ws place) zeros ∙ mark-zeros count place;
}

-- The word of a place is written: its bit is the mark, and the others are as they were.
module _ (words : List ℕ) (place value : ℕ) (mark : Bool) (inside : place / 64 < length words) (here : has_bit value (place % 64) ≡ mark)
    (others : (bit : ℕ) → bit < 64 → bit ≢ place % 64 → has_bit value bit ≡ has_bit (word_of words (place / 64)) bit) where
  pub written_here : mark_in (set words (place / 64) value) place ≡ mark
  written_here = ap (λ w. has_bit w (place % 64)) (get_or-set_same words (place / 64) value 0 inside) ∙ here

  pub written_other : (k : ℕ) → k ≢ place → mark_in (set words (place / 64) value) k ≡ mark_in words k
  written_other k apart = by (cases_eq (k / 64) (place / 64))
    where
      by : (k / 64 ≡ place / 64) ⊎ (k / 64 ≢ place / 64) → mark_in (set words (place / 64) value) k ≡ mark_in words k
      by (inl row) =
          ap (λ r. has_bit (word_of (set words (place / 64) value) r) (k % 64)) row
          ∙ ap (λ w. has_bit w (k % 64)) (get_or-set_same words (place / 64) value 0 inside)
          ∙ others (k % 64) (omega arith) (omega arith)
          ∙ ap (λ r. has_bit (word_of words r) (k % 64)) (sym row)
      by (inr other) = ap (λ w. has_bit w (k % 64)) (get_or-set_other words (place / 64) (k / 64) value 0 other)

  pub none-written : (size : ℕ) → place < size → NoneFrom size words → NoneFrom size (set words (place / 64) value)
  none-written size below none k above = written_other k (omega arith) ∙ none k above

  pub marks-written : (size : ℕ) → place < size → marks_of size (set words (place / 64) value) ≡ set (marks_of size words) place mark
  marks-written size below =
      marks_are size (set words (place / 64) value) (set (marks_of size words) place mark)
      (length-set (marks_of size words) place mark ∙ length-marks size words) (λ k low. at k low (cases_eq k place))
    where
      at : (k : ℕ) → k < size → (k ≡ place) ⊎ (k ≢ place) → mark_in (set words (place / 64) value) k ≡ is_in (set (marks_of size words) place mark) k
      at k low (inl same) =
          ap (mark_in (set words (place / 64) value)) same ∙ written_here
          ∙ sym (ap (is_in (set (marks_of size words) place mark)) same ∙ get_or-set_same (marks_of size words) place mark false (omega (arith, length-marks size words)))
      at k low (inr apart) =
          written_other k apart ∙ sym (get_or-set_other (marks_of size words) place k mark false apart ∙ in-marks size words k low)
