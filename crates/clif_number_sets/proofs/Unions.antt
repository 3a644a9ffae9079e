-- The union of words as the union of sets, and how many members it has.
use Rattle.std.proofs.Common.{◌≡◌, ℕ, ◌+◌, ◌/◌, ◌%◌, ◌<◌, ◌≤◌, Bool, true, false, ◌||◌, List, [], ◌∷◌, length, refl, sym, ap, subst, ◌∙◌, arith, cond}
use Prim.Native.Nat.{zero, suc}
use Rattle.std.specs.Prelude.{IfOk, OnErr, OnOk, IsOk, IsTrue, Result, Ok, Err}
use Rattle.std.proofs.lemmas.List.Sums.{sum_by-cons}
use Rattle.clif_number_sets.specs.Sets.{is_in, member_count, Grows, IsSet, IsWithin}
use Rattle.clif_number_sets.specs.Words.{has_bit, mark_in, marks_of, word_of, AreUnited, HasNew, NoneFrom}
use Rattle.clif_number_sets.proofs.Bits.{joined}
use Rattle.clif_number_sets.proofs.Marks.{in-marks, in-marks-all, length-marks}

pub mark_united : (old others new : List ℕ) → AreUnited old others new → (place : ℕ) → mark_in new place ≡ (mark_in old place || mark_in others place)
mark_united old others new united place =
    ap (λ w. has_bit w (place % 64)) (united (place / 64)) ∙ joined (word_of old (place / 64)) (word_of others (place / 64)) (place % 64)

pub none_united : (size : ℕ) (old others new : List ℕ) → AreUnited old others new → NoneFrom size old → NoneFrom size others → NoneFrom size new
none_united size old others new united none none_other place above =
    mark_united old others new united place ∙ ap (λ (a : Bool). a || mark_in others place) (none place above) ∙ none_other place above

or_swap : (a b : Bool) → (a || b) ≡ (b || a)
or_swap true true = refl
or_swap true false = refl
or_swap false true = refl
or_swap false false = refl

pub union_marks : (size other_size : ℕ) (old others new : List ℕ) (set other : List Bool) → marks_of size old ≡ set → marks_of other_size others ≡ other
    → length set ≡ length other → AreUnited old others new → IsSet (length set) (λ place. is_in other place || is_in set place) (marks_of size new)
union_marks size other_size old others new set other set_is other_is same united =
    let size_is : length set ≡ size = ap length (sym set_is) ∙ length-marks size old in
    let other_size_is : length other ≡ other_size = ap length (sym other_is) ∙ length-marks other_size others in
    record {
      size = length-marks size new ∙ sym size_is;
      members = λ place below.
          in-marks size new place (omega (arith, size_is, below)) ∙ mark_united old others new united place ∙ or_swap (mark_in old place) (mark_in others place)
          ∙ ap (λ (a : Bool). a || mark_in old place) (sym (in-marks other_size others place (omega (arith, other_size_is, same, below))) ∙ ap (λ s. is_in s place) other_is)
          ∙ ap (λ (b : Bool). is_in other place || b) (sym (in-marks size old place (omega (arith, size_is, below))) ∙ ap (λ s. is_in s place) set_is);
    }

one_more : (set : List Bool) → member_count (true ∷ set) ≡ 1 + member_count set
one_more set = sum_by-cons (λ (mark : Bool). cond mark 1 0) true set

-- a larger set has no fewer members, and one with a new member has more
counts_within : (old new : List Bool) → length old ≡ length new → IsWithin old new → member_count old ≤ member_count new
counts_within [] [] same within = omega arith
counts_within [] (b ∷ new) same within = absurd (omega arith)
counts_within (a ∷ old) [] same within = absurd (omega arith)
counts_within (a ∷ old) (b ∷ new) same within = by a b (within 0) (counts_within old new (omega arith) (λ place. within (suc place)))
  where
    by : (x y : Bool) → (x ≡ true → y ≡ true) → member_count old ≤ member_count new → member_count (x ∷ old) ≤ member_count (y ∷ new)
    by true true h le = omega (arith, one_more old, one_more new, le)
    by true false h le = let e = h refl in cc
    by false true h le = omega (arith, one_more new, le)
    by false false h le = le

grows_within : (old new : List Bool) → length old ≡ length new → IsWithin old new → (place : ℕ) → is_in old place ≡ false → is_in new place ≡ true → Grows old new
grows_within [] [] same within place fresh there = cc
grows_within [] (b ∷ new) same within place fresh there = absurd (omega arith)
grows_within (a ∷ old) [] same within place fresh there = absurd (omega arith)
grows_within (a ∷ old) (b ∷ new) same within zero fresh there = by a b fresh there (counts_within old new (omega arith) (λ place. within (suc place)))
  where
    by : (x y : Bool) → x ≡ false → y ≡ true → member_count old ≤ member_count new → member_count (x ∷ old) < member_count (y ∷ new)
    by false true e f le = omega (arith, one_more new, le)
    by true y e f le = cc
    by false false e f le = cc
grows_within (a ∷ old) (b ∷ new) same within (suc place) fresh there = by a b (within 0) (grows_within old new (omega arith) (λ k. within (suc k)) place fresh there)
  where
    by : (x y : Bool) → (x ≡ true → y ≡ true) → member_count old < member_count new → member_count (x ∷ old) < member_count (y ∷ new)
    by true true h le = omega (arith, one_more old, one_more new, le)
    by true false h le = let e = h refl in cc
    by false true h le = omega (arith, one_more new, le)
    by false false h le = le

or_left : (a b : Bool) → a ≡ true → (a || b) ≡ true
or_left true b e = refl
or_left false b e = cc

pub grows_united : (size : ℕ) (old others new : List ℕ) (set : List Bool) → marks_of size old ≡ set → AreUnited old others new → NoneFrom size old → NoneFrom size new
    → HasNew old new → Grows set (marks_of size new)
grows_united size old others new set set_is united none none_new found =
    subst (λ s. Grows s (marks_of size new)) set_is
    (grows_within (marks_of size old) (marks_of size new) (length-marks size old ∙ sym (length-marks size new))
    (λ place there.
    in-marks-all size new place none_new ∙ mark_united old others new united place
    ∙ or_left (mark_in old place) (mark_in others place) (sym (in-marks-all size old place none) ∙ there))
    found.0 (in-marks-all size old found.0 none ∙ found.1) (in-marks-all size new found.0 none_new ∙ found.2))

-- words that have no bit that a set lacks
pub not_fresh : (size other_size : ℕ) (old others : List ℕ) (set other : List Bool) → marks_of size old ≡ set → marks_of other_size others ≡ other
    → NoneFrom size old → NoneFrom other_size others → IsWithin other set → HasNew old others → ⊥
not_fresh size other_size old others set other set_is other_is none none_other within found =
    let there : is_in other found.0 ≡ true = ap (λ s. is_in s found.0) (sym other_is) ∙ in-marks-all other_size others found.0 none_other ∙ found.2 in
    let here : is_in set found.0 ≡ false = ap (λ s. is_in s found.0) (sym set_is) ∙ in-marks-all size old found.0 none ∙ found.1 in
    let also : is_in set found.0 ≡ true = within found.0 there in
    cc

-- what follows for an answer
pub none_after : {E : Type 0} (answer : Result Bool E) (size : ℕ) (old others new : List ℕ) → OnOk answer (AreUnited old others new) → OnErr answer (new ≡ old)
    → NoneFrom size old → NoneFrom size others → NoneFrom size new
none_after (Ok grown) size old others new united same none none_other = none_united size old others new united none none_other
none_after (Err error) size old others new united same none none_other = subst (λ ws. NoneFrom size ws) (sym same) none

pub union_after : {E : Type 0} (answer : Result Bool E) (size other_size : ℕ) (old others new : List ℕ) (set other : List Bool) → marks_of size old ≡ set
    → marks_of other_size others ≡ other → length set ≡ length other → OnOk answer (AreUnited old others new)
    → OnOk answer (IsSet (length set) (λ place. is_in other place || is_in set place) (marks_of size new))
union_after (Ok grown) size other_size old others new set other set_is other_is same united = union_marks size other_size old others new set other set_is other_is same united
union_after (Err error) size other_size old others new set other set_is other_is same united = tt

pub grown_after : {E : Type 0} (answer : Result Bool E) (size : ℕ) (old others new : List ℕ) (set : List Bool) → marks_of size old ≡ set
    → OnOk answer (AreUnited old others new) → NoneFrom size old → NoneFrom size others → IfOk answer (λ grown. IsTrue grown → HasNew old new)
    → IfOk answer (λ grown. IsTrue grown → Grows set (marks_of size new))
grown_after (Ok grown) size old others new set set_is united none none_other found =
    λ yes. grows_united size old others new set set_is united none (none_united size old others new united none none_other) (found yes)
grown_after (Err error) size old others new set set_is united none none_other found = tt

pub known_after : {E : Type 0} (answer : Result Bool E) (size other_size : ℕ) (old others : List ℕ) (set other : List Bool) → marks_of size old ≡ set
    → marks_of other_size others ≡ other → NoneFrom size old → NoneFrom other_size others → OnErr answer (HasNew old others) → IsWithin other set → IsOk answer
known_after (Ok grown) size other_size old others set other set_is other_is none none_other fresh within = refl
known_after (Err error) size other_size old others set other set_is other_is none none_other fresh within =
    absurd (not_fresh size other_size old others set other set_is other_is none none_other within fresh)
