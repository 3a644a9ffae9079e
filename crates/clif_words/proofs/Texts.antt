-- The texts of words: those before and behind one, and one of them.
use Rattle.std.proofs.Common.{◌≡◌, ◌≢◌, ℕ, ◌+◌, ◌-◌, ◌<◌, List, [], ◌∷◌, ◌++◌, length, take, drop, refl, sym, ◌∙◌, ap, arith, get_or, Bor, add-one, zero, suc, subst, false}
use Rattle.std.specs.Prelude.{nat_eq}
use Rattle.std.specs.List.{All}
use Rattle.std.specs.Cmp.Lexicographic.{pointwise, other_text}
use Rattle.std.proofs.lemmas.List.{length-drop, take-append-drop, take_all}
use Rattle.std.proofs.lemmas.List.Elements.{All-push}
use Rattle.std.proofs.Math.Seq.{drop-cons, take-suc}
use Rattle.clif_words.specs.Cursor.{texts}

texts-append : (xs ys : List (Bor (List ℕ))) → texts (xs ++ ys) ≡ texts xs ++ texts ys
texts-append [] ys = refl
texts-append (x ∷ xs) ys = ap (λ rest. x.now ∷ rest) (texts-append xs ys)

-- the words before and behind one
pub texts_at : (words : List (Bor (List ℕ))) (n : ℕ) (d : Bor (List ℕ)) (text : List ℕ) → n < length words → (get_or words n d).now ≡ text → texts words ≡ texts (take n words) ++ (text ∷ texts (take (length words - (n + 1)) (drop (n + 1) words)))
texts_at words n d text inside same =
    let all : take (length words - (n + 1)) (drop (n + 1) words) ≡ drop (n + 1) words = take_all (length words - (n + 1)) (drop (n + 1) words) (omega (arith, length-drop (n + 1) words)) in
    let here : texts (drop n words) ≡ text ∷ texts (drop (n + 1) words) = rw add-one (ap texts (drop-cons words n d inside) ∙ ap (λ (x : List ℕ). x ∷ texts (drop (suc n) words)) same) in
    ap texts (sym (take-append-drop n words)) ∙ (texts-append (take n words) (drop n words) ∙ (ap (λ rest. texts (take n words) ++ rest) here ∙ ap (λ rest. texts (take n words) ++ (text ∷ texts rest)) (sym all)))

-- the text of one of the words
pub get_or-texts : (words : List (Bor (List ℕ))) (n : ℕ) (d : Bor (List ℕ)) → (get_or words n d).now ≡ get_or (texts words) n d.now
get_or-texts [] n d = refl
get_or-texts (word ∷ words) zero d = refl
get_or-texts (word ∷ words) (suc n) d = get_or-texts words n d

-- one more of the words
pub texts_more : (words : List (Bor (List ℕ))) (n : ℕ) (d : Bor (List ℕ)) → n < length words → texts (take (n + 1) words) ≡ texts (take n words) ++ (get_or words n d).now ∷ []
texts_more words n d inside = rw add-one (ap texts (take-suc words n d inside) ∙ texts-append (take n words) (get_or words n d ∷ []))

-- which is another one
pub others_more : (text : List ℕ) (words : List (Bor (List ℕ))) (n : ℕ) (d : Bor (List ℕ)) → n < length words → All (λ word. word ≢ text) (texts (take n words)) → false ≡ pointwise nat_eq (get_or words n d).now text → All (λ word. word ≢ text) (texts (take (n + 1) words))
others_more text words n d inside before other =
    let word = get_or words n d in
    subst (λ ws. All (λ w. w ≢ text) ws) (sym (texts_more words n d inside)) (All-push (λ w. w ≢ text) (texts (take n words)) word.now before (other_text word.now text other))
