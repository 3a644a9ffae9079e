-- Where a line may be cut into words.
use Rattle.std.proofs.Common.{◌≡◌, ◌≢◌, ℕ, ◌<◌, ◌≤◌, zero, suc, List, length, get_or, take, drop, refl, sym, ◌∙◌, ap, inr, arith, Bool, true, false, not, add-one}
use Rattle.std.proofs.lemmas.Bool.Decides.{nat_tests, Decides-ltb}
use Rattle.std.specs.Prelude.{nat_lt}
use Rattle.std.proofs.lemmas.List.{get_or-take, get_or-drop, length-take, length-drop}
use Rattle.std.proofs.lemmas.Str.{IsCharBoundary-start, IsCharBoundary-after_ascii}
use Rattle.std.specs.Str.{IsCharBoundary, IsUtf8}
use Rattle.clif_words.specs.Words.{kind_of, AllOf, IsWord}
use Rattle.clif_words.specs.declared.words.Kind.{Kind}
use Rattle.clif_words.specs.declared.words.Kind.TheVariants.{Blank, Mark, Plain}

pub was_true : (b : Bool) → false ≡ not b → b ≡ true
was_true true e = refl
was_true false e = absurd (cc)

-- each byte that isn't plain is ASCII
plain_from_high : (c : ℕ) → 128 ≤ c → kind_of c ≡ Plain
plain_from_high c high = grind (arith, nat_tests)

by_test : (c : ℕ) (b : Bool) → nat_lt c 128 ≡ b → kind_of c ≢ Plain → c < 128
by_test c true test other = (Decides-ltb c 128).0 test
by_test c false test other = absurd (other (plain_from_high c (grind (arith, nat_tests))))

pub low : (c : ℕ) → kind_of c ≢ Plain → c < 128
low c other = by_test c (nat_lt c 128) refl other

blank_is_low : (c : ℕ) → kind_of c ≡ Blank → c < 128
blank_is_low c blank = low c (λ plain. absurd (cc))

pub mark_is_low : (c : ℕ) → kind_of c ≡ Mark → c < 128
mark_is_low c mark = low c (λ plain. absurd (cc))

-- a text may be cut behind blanks
pub cut_behind : (bs : List ℕ) (n : ℕ) → IsUtf8 bs → n ≤ length bs → AllOf Blank (take n bs) → IsCharBoundary bs n
cut_behind bs zero utf8 within blank = IsCharBoundary-start bs utf8
cut_behind bs (suc n) utf8 within blank =
    let at : n < length bs = omega arith in
    let one : kind_of (get_or (take (suc n) bs) n 0) ≡ Blank = blank n 0 (rw length-take (omega arith)) in
    let here : kind_of (get_or bs n 0) ≡ Blank = ap kind_of (sym (get_or-take (suc n) bs n 0 (omega arith))) ∙ one in
    rw (← add-one) (IsCharBoundary-after_ascii bs n utf8 at (blank_is_low _ here))

-- and before a byte that isn't plain
pub cut_before : (bs : List ℕ) (n : ℕ) → n ≤ length bs → (n < length bs → kind_of (get_or bs n 0) ≢ Plain) → IsCharBoundary bs n
cut_before bs n within other = (within, λ inside high. absurd (let small : get_or bs n 0 < 128 = low _ (other inside) in omega arith))

-- what comes behind a front
pub behind : (bs : List ℕ) (n : ℕ) (kind : Kind) → (n < length bs → kind_of (get_or bs n 0) ≢ kind) → 0 < length (drop n bs) → kind_of (get_or (drop n bs) 0 0) ≢ kind
behind bs n kind other inside is =
    let at : n < length bs = omega (arith, length-drop n bs) in
    other at (ap kind_of (ap (λ k. get_or bs k 0) (omega arith) ∙ sym (get_or-drop n bs 0 0)) ∙ is)

-- plain bytes, as far as they reach, are a word
pub plain_word : (bs : List ℕ) (n : ℕ) → 0 < n → n ≤ length bs → AllOf Plain (take n bs) → (n < length bs → kind_of (get_or bs n 0) ≢ Plain) → IsWord (take n bs) (drop n bs)
plain_word bs n some within plain other = (rw length-take (omega arith), inr (plain, λ inside. behind bs n Plain other inside))
