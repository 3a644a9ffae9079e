-- The words are the name, those of the addresses, of the size, of the alignments and of the overlap, and the flags'.
use Rattle.std.proofs.Common.{List, ℕ, ◌∷◌, ◌++◌, ap, sym, ◌∙◌}
use Rattle.std.proofs.lemmas.List.{append_assoc}
use Rattle.clif_words.specs.Cursor.{words_left}
use Rattle.clif_words.specs.Spelling.{overlap_word}
use Rattle.clif_text.proofs.memory.read_copy_call.Goals as goal

pub returns : goal.returns
returns c =
    let two = c.in_ok-dest.ensures.ok in
    let size = c.in_ok-size.ensures.ok in
    let first = c.in_ok-dest_align.ensures.ok in
    let second = c.in_ok-src_align.ensures.ok in
    let overlap = c.in_ok-non_overlapping.ensures.ok in
    let flags = c.flags-flags.ensures.flags in
    let apart = overlap_word c.in_ok-non_overlapping.non_overlapping in
    let behind = size.0 ∷ first.0 ∷ second.0 ∷ apart ∷ flags.0 in
    let words = two.0 ++ behind in
    let last = overlap.1 ∙ (ap (λ (word : List ℕ). word ∷ words_left c.non_overlapping.new.self.words) overlap.2 ∙ ap (λ rest. apart ∷ rest) flags.1) in
    let left = size.1 ∙ ap (λ rest. size.0 ∷ rest) (first.1 ∙ ap (λ rest. first.0 ∷ rest) (second.1 ∙ ap (λ rest. second.0 ∷ rest) last)) in (
      words,
      two.1 ∙ (ap (λ rest. two.0 ++ rest) left ∙ sym (append_assoc two.0 behind _)),
      (
        two.0,
        flags.0,
        size.0,
        first.0,
        second.0,
        ap (λ (head : List ℕ). head ∷ words) c.requires,
        two.2,
        size.2,
        first.2,
        second.2,
        flags.2,
      ),
    )
