-- The words that a line begins with, one more, and what comes before the next one.
use Rattle.std.proofs.Common.{◌≡◌, ℕ, ◌+◌, ◌-◌, List, [], ◌∷◌, ◌++◌, length, refl, sym, ◌∙◌, ap, subst, arith}
use Rattle.std.proofs.lemmas.List.{append_assoc, length-append}
use Rattle.std.proofs.lemmas.Str.{IsCharBoundary-at_seam, IsUtf8-append}
use Rattle.std.specs.Str.{IsCharBoundary, IsUtf8}
use Rattle.clif_words.specs.Words.{AllOf, BeginsWith, IsWord}
use Rattle.clif_words.specs.declared.words.Kind.TheVariants.{Blank}

-- one word more
pub begins_more : (words : List (List ℕ)) (line rest blanks word after : List ℕ) → BeginsWith words line rest → rest ≡ blanks ++ (word ++ after) → AllOf Blank blanks → IsWord word after → BeginsWith (words ++ word ∷ []) line after
begins_more [] line rest blanks word after begins is blank found = (blanks, after, begins ∙ is, blank, found, refl)
begins_more (first ∷ words) line rest blanks word after begins is blank found =
    (begins.0, begins.1, begins.2, begins.3, begins.4, begins_more words begins.1 rest blanks word after begins.5 is blank found)

-- what comes before the rest
pub begins_front : (words : List (List ℕ)) (line rest : List ℕ) → BeginsWith words line rest → (front : List ℕ) × (line ≡ front ++ rest)
begins_front [] line rest begins = ([], begins)
begins_front (word ∷ words) line rest begins =
    let more = begins_front words begins.1 rest begins.5 in
    let blanks = begins.0 in
    let one : word ++ begins.1 ≡ (word ++ more.0) ++ rest = ap (λ bs. word ++ bs) more.1 ∙ sym (append_assoc word more.0 rest) in
    (blanks ++ (word ++ more.0), begins.2 ∙ (ap (λ bs. blanks ++ bs) one ∙ sym (append_assoc blanks (word ++ more.0) rest)))

-- what comes before the next word
pub front_of_word : (words : List (List ℕ)) (line rest blanks word after : List ℕ) → BeginsWith words line rest → rest ≡ blanks ++ (word ++ after) → (front : List ℕ) × (line ≡ front ++ (word ++ after))
front_of_word words line rest blanks word after begins is =
    let more = begins_front words line rest begins in
    (more.0 ++ blanks, more.1 ∙ (ap (λ bs. more.0 ++ bs) is ∙ sym (append_assoc more.0 blanks (word ++ after))))

-- a line may be cut before a text that it ends with
pub cut_at_end : (line front word after : List ℕ) → line ≡ front ++ (word ++ after) → IsUtf8 word → IsUtf8 after → IsCharBoundary line (length line - length after - length word)
cut_at_end line front word after is word_text after_text =
    let sizes : length line ≡ length front + (length word + length after) = ap length is ∙ (length-append front (word ++ after) ∙ ap (λ n. length front + n) (length-append word after)) in
    subst (IsCharBoundary line) (omega arith) (IsCharBoundary-at_seam line front (word ++ after) is (IsUtf8-append word after word_text after_text))
