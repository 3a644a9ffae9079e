use Rattle.std.proofs.Common.{inl, inr, ℕ, List, ◌++◌, ◌<◌, ap, ◌∙◌, sym, subst, arith, take, drop}
use Rattle.std.proofs.lemmas.List.{take-append-drop}
use Rattle.clif_words.specs.Words.{IsWord}
use Rattle.clif_words.proofs.words.first_word.Goals as goal

pub returns-then-len-eq0 : goal.returns-then-len-eq0
returns-then-len-eq0 c =
    let behind = c.without_blanks-text.ensures in
    (behind.0, c.without_blanks-text.result.now, behind.1, behind.2, λ inside. elim (c.word_len-len.ensures.none c.if-len-eq0.true inside) [ inl blank ↦ absurd (behind.3 inside blank) | inr comment ↦ comment ])

pub returns : goal.returns
returns c =
    let behind = c.without_blanks-text.ensures in
    let text = c.without_blanks-text.result.now in
    let len = c.word_len-len.result in
    let word = c.split_at.ensures.front in
    let rest = c.split_at.ensures.back in
    let some : 0 < len = omega arith in
    let found : IsWord (take len text) (drop len text) = c.word_len-len.ensures.word some in (
      behind.0,
      behind.1 ∙ ap (λ (bs : List ℕ). behind.0 ++ bs) (sym (take-append-drop len text) ∙ ap (λ (bs : List ℕ). bs ++ drop len text) (sym word) ∙ ap (λ (bs : List ℕ). c.split_at.result.0.now ++ bs) (sym rest)),
      behind.2,
      subst (λ (bs : List ℕ). IsWord bs c.split_at.result.1.now) (sym word) (subst (λ (bs : List ℕ). IsWord (take len text) bs) (sym rest) found),
    )
