use Rattle.std.proofs.Common.{ℕ, ◌<◌, ◌≤◌, ◌≢◌, List, ◌++◌, length, get_or, take, sym, ◌∙◌, ap, subst}
use Rattle.std.proofs.lemmas.List.{take-append-drop}
use Rattle.clif_words.specs.Words.{AllOf, kind_of}
use Rattle.clif_words.specs.declared.words.Kind.TheVariants.{Blank}
use Rattle.clif_words.proofs.Lines.{cut_behind, behind}
use Rattle.clif_words.proofs.words.without_blanks.Goals as goal

pub range_from-requires : goal.range_from-requires
range_from-requires c =
    let n = c.front_len-start.result in
    let bytes = c.as_bytes.ensures.value in
    λ _. cut_behind c.args.text.now n c.utf8.text (subst (λ (bs : List ℕ). n ≤ length bs) bytes c.front_len-start.ensures.within) (subst (λ (bs : List ℕ). AllOf Blank (take n bs)) bytes c.front_len-start.ensures.same)

pub returns : goal.returns
returns c =
    let n = c.front_len-start.result in
    let text = c.args.text.now in
    let bytes = c.as_bytes.ensures.value in
    let rest = c.range_from.ensures.value in
    let other = subst (λ (bs : List ℕ). n < length bs → kind_of (get_or bs n 0) ≢ Blank) bytes c.front_len-start.ensures.other in (
      take n text,
      sym (ap (λ (bs : List ℕ). take n text ++ bs) rest ∙ take-append-drop n text),
      subst (λ (bs : List ℕ). AllOf Blank (take n bs)) bytes c.front_len-start.ensures.same,
      subst (λ (bs : List ℕ). 0 < length bs → kind_of (get_or bs 0 0) ≢ Blank) (sym rest) (behind text n Blank other),
    )
