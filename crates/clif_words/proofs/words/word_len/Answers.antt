use Rattle.std.proofs.Common.{ℕ, ◌<◌, ◌≤◌, ◌≢◌, List, length, get_or, take, sym, subst}
use Rattle.std.proofs.lemmas.Str.{IsCharBoundary-after_ascii}
use Rattle.clif_words.specs.Words.{AllOf, kind_of}
use Rattle.clif_words.specs.declared.words.Kind.TheVariants.{Plain}
use Rattle.clif_words.proofs.Lines.{mark_is_low, plain_word}
use Rattle.clif_words.proofs.words.word_len.Goals as goal

pub returns-in-Mark-clause-cut : goal.returns-in-Mark-clause-cut
returns-in-Mark-clause-cut c =
    let first = c.in-Some.ensures.item in
    let bytes = c.as_bytes-bytes.ensures.value in
    let small = subst (λ (byte : ℕ). byte < 128) (first.3.1 0) (mark_is_low c.in-Some.first.now (sym c.in-Mark.ensures)) in
    IsCharBoundary-after_ascii c.args.text.now 0 c.utf8.text (subst (λ (bs : List ℕ). 0 < length bs) bytes first.3.0) (subst (λ (bs : List ℕ). get_or bs 0 0 < 128) bytes small)

pub returns-in-Plain-clause-word : goal.returns-in-Plain-clause-word
returns-in-Plain-clause-word c =
    let n = c.front_len.result in
    let bytes = c.as_bytes-bytes.ensures.value in
    λ some. plain_word c.args.text.now n some (subst (λ (bs : List ℕ). n ≤ length bs) bytes c.front_len.ensures.within) (subst (λ (bs : List ℕ). AllOf Plain (take n bs)) bytes c.front_len.ensures.same)
    (subst (λ (bs : List ℕ). n < length bs → kind_of (get_or bs n 0) ≢ Plain) bytes c.front_len.ensures.other)
