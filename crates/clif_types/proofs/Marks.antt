-- Lemmas on sets of numbers, and on sets that are kept as a mark for each number.
use Rattle.std.proofs.Common.{◌≡◌, ◌≢◌, ℕ, zero, suc, ◌+◌, ◌<◌, ◌≤◌, Bool, true, false, ◌||◌, List, [], ◌∷◌, ◌++◌, length, replicate, get_or, set, refl, sym, ap, ◌∙◌, arith, nat_eq, inl, inr, add-one, ◌-◌, take, length-append}
use Rattle.std.proofs.lemmas.List.{get_or_past, length-replicate}
use Rattle.std.proofs.lemmas.Bool.{cases_lt}
use Rattle.std.proofs.lemmas.Bool.Decides.{nat_tests}
use Rattle.std.specs.List.Sorted.{IsStrictlyIncreasing}
use Rattle.clif_types.specs.EntitySet.{has, with_member, marked_from, last_is_set}

-- the head is passed where it differs, and found where it is the number
has-skip : (m n : ℕ) (ms : List ℕ) → m ≢ n → has (m ∷ ms) n ≡ has ms n
has-skip m n ms h = grind (arith, nat_tests)

has-head : (m n : ℕ) (ms : List ℕ) → m ≡ n → has (m ∷ ms) n ≡ true
has-head m n ms h = grind (arith, nat_tests)

-- a new member stands before the greater ones and behind the smaller ones
pub with_member-skip : (m n : ℕ) (ms : List ℕ) → m < n → with_member (m ∷ ms) n ≡ m ∷ with_member ms n
with_member-skip m n ms h = grind (arith, nat_tests)

pub with_member-front : (m n : ℕ) (ms : List ℕ) → n < m → with_member (m ∷ ms) n ≡ n ∷ m ∷ ms
with_member-front m n ms h = grind (arith, nat_tests)

pub with_member-head : (m n : ℕ) (ms : List ℕ) → n ≡ m → with_member (m ∷ ms) n ≡ m ∷ ms
with_member-head m n ms h = grind (arith, nat_tests)

or_swap : (a b c : Bool) → (a || (b || c)) ≡ (b || (a || c))
or_swap true true c = refl
or_swap true false c = refl
or_swap false b c = refl

or_again : (a b : Bool) → (a || b) ≡ (a || (a || b))
or_again true b = refl
or_again false b = refl

-- a member of the set with one more is that one or was a member before
pub has-with_member : (s : List ℕ) (n q : ℕ) → has (with_member s n) q ≡ (nat_eq n q || has s q)
has-with_member [] n q = refl
has-with_member (m ∷ ms) n q =
    elim (cases_lt n m) [
      | inl h ↦ ap (λ s. has s q) (with_member-front m n ms h)
      | inr h ↦ elim (cases_lt m n) [
        | inl g ↦ ap (λ s. has s q) (with_member-skip m n ms g) ∙ ap (λ b. nat_eq m q || b) (has-with_member ms n q) ∙ or_swap (nat_eq m q) (nat_eq n q) (has ms q)
        | inr g ↦ let same : n ≡ m = omega arith in ap (λ s. has s q) (with_member-head m n ms same) ∙ or_again (nat_eq m q) (has ms q) ∙ ap (λ k. nat_eq k q || has (m ∷ ms) q) (sym same)
      ]
    ]

-- below the first number there is no member
has-below : (marks : List Bool) (first n : ℕ) → n < first → has (marked_from first marks) n ≡ false
has-below [] first n h = refl
has-below (true ∷ marks) first n h = has-skip first n _ (omega arith) ∙ has-below marks (first + 1) n (omega arith)
has-below (false ∷ marks) first n h = has-below marks (first + 1) n (omega arith)

-- a number is a member where its mark is set
pub has-marked_from : (marks : List Bool) (first k n : ℕ) → n ≡ first + k → has (marked_from first marks) n ≡ get_or marks k false
has-marked_from [] first k n e = refl
has-marked_from (true ∷ marks) first zero n e = has-head first n _ (omega arith)
has-marked_from (true ∷ marks) first (suc k) n e =
    has-skip first n _ (omega arith) ∙ has-marked_from marks (first + 1) k n (omega arith)
has-marked_from (false ∷ marks) first zero n e = has-below marks (first + 1) n (omega arith)
has-marked_from (false ∷ marks) first (suc k) n e = has-marked_from marks (first + 1) k n (omega arith)

-- a number below all is put at the front
with_member-below : (marks : List Bool) (first n : ℕ) → n < first → with_member (marked_from first marks) n ≡ n ∷ marked_from first marks
with_member-below [] first n h = refl
with_member-below (true ∷ marks) first n h = with_member-front first n _ h
with_member-below (false ∷ marks) first n h = with_member-below marks (first + 1) n (omega arith)

-- a mark that is set makes its number a member
pub marked_from-set : (marks : List Bool) (first k n : ℕ) → n ≡ first + k → k < length marks → marked_from first (set marks k true) ≡ with_member (marked_from first marks) n
marked_from-set [] first k n e h = absurd (omega arith)
marked_from-set (true ∷ marks) first zero n e h = sym (with_member-head first n _ (omega arith))
marked_from-set (true ∷ marks) first (suc k) n e h =
    ap (λ ms. first ∷ ms) (marked_from-set marks (first + 1) k n (omega arith) (omega arith)) ∙ sym (with_member-skip first n _ (omega arith))
marked_from-set (false ∷ marks) first zero n e h =
    ap (λ m. m ∷ marked_from (first + 1) marks) (omega arith) ∙ sym (with_member-below marks (first + 1) n (omega arith))
marked_from-set (false ∷ marks) first (suc k) n e h = marked_from-set marks (first + 1) k n (omega arith) (omega arith)

-- the same past the last mark, after marks that aren't set
marked_from-gap : (gap first n : ℕ) → n ≡ first + gap → marked_from first (replicate gap false ++ true ∷ []) ≡ n ∷ []
marked_from-gap zero first n e = ap (λ m. m ∷ []) (omega arith)
marked_from-gap (suc gap) first n e = marked_from-gap gap (first + 1) n (omega arith)

pub marked_from-extended : (marks : List Bool) (gap first n : ℕ) → n ≡ first + length marks + gap → marked_from first (marks ++ replicate gap false ++ true ∷ []) ≡ with_member (marked_from first marks) n
marked_from-extended [] gap first n e = marked_from-gap gap first n (omega arith)
marked_from-extended (true ∷ marks) gap first n e =
    ap (λ ms. first ∷ ms) (marked_from-extended marks gap (first + 1) n (omega arith)) ∙ sym (with_member-skip first n _ (omega arith))
marked_from-extended (false ∷ marks) gap first n e = marked_from-extended marks gap (first + 1) n (omega arith)

-- the last mark stays set
pub last_is_set-set : (marks : List Bool) (k : ℕ) → last_is_set marks ≡ true → last_is_set (set marks k true) ≡ true
last_is_set-set [] k h = refl
last_is_set-set (mark ∷ []) zero h = refl
last_is_set-set (mark ∷ []) (suc k) h = h
last_is_set-set (mark ∷ next ∷ marks) zero h = h
last_is_set-set (mark ∷ next ∷ marks) (suc zero) h = last_is_set-set (next ∷ marks) zero h
last_is_set-set (mark ∷ next ∷ marks) (suc (suc k)) h = last_is_set-set (next ∷ marks) (suc k) h

pub last_is_set-append : (marks : List Bool) → last_is_set (marks ++ true ∷ []) ≡ true
last_is_set-append [] = refl
last_is_set-append (mark ∷ []) = refl
last_is_set-append (mark ∷ next ∷ marks) = last_is_set-append (next ∷ marks)

-- with no member there is no mark
pub no_marks : (marks : List Bool) (first : ℕ) → last_is_set marks ≡ true → marked_from first marks ≡ [] → marks ≡ []
no_marks [] first h e = refl
no_marks (true ∷ marks) first h e = cc
no_marks (false ∷ []) first h e = cc
no_marks (false ∷ next ∷ marks) first h e = let ih : next ∷ marks ≡ [] = no_marks (next ∷ marks) (first + 1) h e in cc

-- each member is at least the first number, and below the next member
marked_from-least : (marks : List Bool) (first k : ℕ) → k < length (marked_from first marks) → first ≤ get_or (marked_from first marks) k 0
marked_from-least [] first k h = absurd (omega arith)
marked_from-least (true ∷ marks) first zero h = omega arith
marked_from-least (true ∷ marks) first (suc k) h = omega (arith, marked_from-least marks (first + 1) k (omega arith))
marked_from-least (false ∷ marks) first k h = omega (arith, marked_from-least marks (first + 1) k h)

marked_from-rises : (marks : List Bool) (first k : ℕ) → suc k < length (marked_from first marks) → get_or (marked_from first marks) k 0 < get_or (marked_from first marks) (suc k) 0
marked_from-rises [] first k h = absurd (omega arith)
marked_from-rises (true ∷ marks) first zero h = omega (arith, marked_from-least marks (first + 1) 0 (omega arith))
marked_from-rises (true ∷ marks) first (suc k) h = marked_from-rises marks (first + 1) k (omega arith)
marked_from-rises (false ∷ marks) first k h = marked_from-rises marks (first + 1) k h

-- the members rise
pub IsStrictlyIncreasing-marked_from : (marks : List Bool) (first : ℕ) → IsStrictlyIncreasing (marked_from first marks)
IsStrictlyIncreasing-marked_from marks first = λ k h. rw add-one (marked_from-rises marks first k (omega arith))

-- the same of all marks, from 0
pub has-marks : (marks : List Bool) (n : ℕ) → has (marked_from 0 marks) n ≡ get_or marks n false
has-marks marks n = has-marked_from marks 0 n n (omega arith)

pub has-past : (marks : List Bool) (n : ℕ) → length marks ≤ n → has (marked_from 0 marks) n ≡ false
has-past marks n h = has-marks marks n ∙ get_or_past marks n false h

pub with_member-set : (marks : List Bool) (n : ℕ) → n < length marks → marked_from 0 (set marks n true) ≡ with_member (marked_from 0 marks) n
with_member-set marks n h = marked_from-set marks 0 n n (omega arith) h

-- marks that reach to `n`, where the mark of `n` is set
abbrev pub extended : List Bool → ℕ → List Bool
extended marks n = marks ++ replicate (n - length marks) false ++ true ∷ []

pub with_member-extended : (marks : List Bool) (n : ℕ) → length marks ≤ n → marked_from 0 (extended marks n) ≡ with_member (marked_from 0 marks) n
with_member-extended marks n h = marked_from-extended marks (n - length marks) 0 n (omega arith)

pub length-extended : (marks : List Bool) (n : ℕ) → length marks ≤ n → length (extended marks n) ≡ n + 1
length-extended marks n h = simp (length-append, length-replicate) (omega arith)

pub last_is_set-extended : (marks : List Bool) (n : ℕ) → last_is_set (extended marks n) ≡ true
last_is_set-extended marks n = last_is_set-append (marks ++ replicate (n - length marks) false)

-- they are made by filling up and setting the last mark
set-filled : (gap : ℕ) → set (replicate (suc gap) false) gap true ≡ replicate gap false ++ true ∷ []
set-filled zero = refl
set-filled (suc gap) = ap (λ marks. false ∷ marks) (set-filled gap)

set-resized_at : (marks : List Bool) (gap n m : ℕ) → n ≡ length marks + gap → length marks ≤ m → set (take m marks ++ replicate (suc gap) false) n true ≡ marks ++ replicate gap false ++ true ∷ []
set-resized_at [] gap n zero e h = ap (λ k. set (replicate (suc gap) false) k true) (omega arith) ∙ set-filled gap
set-resized_at [] gap n (suc m) e h = ap (λ k. set (replicate (suc gap) false) k true) (omega arith) ∙ set-filled gap
set-resized_at (mark ∷ marks) gap zero m e h = absurd (omega arith)
set-resized_at (mark ∷ marks) gap (suc n) zero e h = absurd (omega arith)
set-resized_at (mark ∷ marks) gap (suc n) (suc m) e h = ap (λ others. mark ∷ others) (set-resized_at marks gap n m (omega arith) (omega arith))

pub set-resized : (marks : List Bool) (n : ℕ) → length marks ≤ n → set (take (n + 1) marks ++ replicate (n + 1 - length marks) false) n true ≡ extended marks n
set-resized marks n h =
    let gap : n + 1 - length marks ≡ suc (n - length marks) = omega arith in
    ap (λ k. set (take (n + 1) marks ++ replicate k false) n true) gap ∙ set-resized_at marks (n - length marks) n (n + 1) (omega arith) (omega arith)

-- a mark that is there doesn't depend on the default
pub get_or-within : (marks : List Bool) (n : ℕ) (d e : Bool) → n < length marks → get_or marks n d ≡ get_or marks n e
get_or-within [] n d e h = absurd (omega arith)
get_or-within (mark ∷ marks) zero d e h = refl
get_or-within (mark ∷ marks) (suc n) d e h = get_or-within marks n d e (omega arith)
