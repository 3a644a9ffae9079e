-- The words that are left, one taken.
use Rattle.std.proofs.Common.{◌≡◌, ℕ, ◌+◌, ◌-◌, ◌<◌, ◌≤◌, List, [], ◌∷◌, length, drop, refl, sym, ◌∙◌, ap, arith, get_or, Bor, add-one, suc}
use Rattle.std.proofs.lemmas.Option.{get_or_from_slice_get, slice_get_within, slice_get_read}
use Rattle.std.proofs.lemmas.List.{length-drop}
use Rattle.std.proofs.Math.Seq.{drop-cons}
use Rattle.std.specs.Prelude.{slice_get, Some, true, nat_lt, nat_eq}
use Rattle.std.proofs.lemmas.Bool.Decides.{Decides-eqb, Decides-ltb}
use Rattle.std.specs.Cmp.Lexicographic.{same_text}
use Rattle.clif_words.specs.Cursor.{texts}

pub left_more : (words : List (Bor (List ℕ))) (taken : ℕ) (word : Bor (List ℕ)) → slice_get words taken ≡ Some word → texts (drop taken words) ≡ word.now ∷ texts (drop (taken + 1) words)
left_more words taken word found =
    let inside : taken < length words = slice_get_within words taken word found in
    let same : get_or words taken word ≡ word = get_or_from_slice_get words taken word word found in
    rw add-one (ap texts (drop-cons words taken word inside) ∙ ap (λ (w : Bor (List ℕ)). w.now ∷ texts (drop (suc taken) words)) same)

pub length-texts : (words : List (Bor (List ℕ))) → length (texts words) ≡ length words
length-texts [] = refl
length-texts (word ∷ words) = ap suc (length-texts words)

pub length-left : (words : List (Bor (List ℕ))) (taken : ℕ) → length (texts (drop taken words)) ≡ length words - taken
length-left words taken = length-texts (drop taken words) ∙ length-drop taken words

nothing : {A : Type 0} (xs : List A) → length xs ≡ 0 → xs ≡ []
nothing [] e = refl
nothing (x ∷ xs) e = absurd (omega arith)

pub left_none : (words : List (Bor (List ℕ))) (taken : ℕ) → length words ≤ taken → texts (drop taken words) ≡ []
left_none words taken past = nothing _ (length-left words taken ∙ omega arith)

pub ruleset left_rules = (left_more, left_none, length-left, same_text)

-- the same, where the word was read and is this text
pub left_read : (words : List (Bor (List ℕ))) (taken : ℕ) (word : Bor (List ℕ)) (text : List ℕ) → true ≡ nat_lt taken (length words) → word ≡ get_or words taken word → word.now ≡ text → texts (drop taken words) ≡ text ∷ texts (drop (taken + 1) words)
left_read words taken word text test is same =
    let inside : taken < length words = (Decides-ltb taken (length words)).0 (sym test) in
    left_more words taken word (slice_get_read words (length words) taken word refl inside is) ∙ ap (λ (x : List ℕ). x ∷ texts (drop (taken + 1) words)) same

-- as many were taken as there are, just where none is left
pub all_taken : (words : List (Bor (List ℕ))) (taken : ℕ) → taken ≤ length words → (nat_eq taken (length words) ≡ true → texts (drop taken words) ≡ []) × (texts (drop taken words) ≡ [] → nat_eq taken (length words) ≡ true)
all_taken words taken within =
    let decides = Decides-eqb taken (length words) in (
      λ same. let e : taken ≡ length words = decides.0 same in left_none words taken (omega arith),
      λ none. let e : length words - taken ≡ 0 = sym (length-left words taken) ∙ ap length none in decides.1 (omega arith),
    )
