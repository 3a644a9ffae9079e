-- The words are the name, those of the address, of the byte, of the size and of the alignment, and the flags'.
use Rattle.std.proofs.Common.{List, ℕ, ◌∷◌, ap, ◌∙◌}
use Rattle.clif_text.proofs.memory.read_fill_call.Goals as goal

pub returns : goal.returns
returns c =
    let buffer = c.in_ok-buffer.ensures.ok in
    let byte = c.in_ok-ch.ensures.ok in
    let size = c.in_ok-size.ensures.ok in
    let align = c.in_ok-buffer_align.ensures.ok in
    let flags = c.flags-flags.ensures.flags in
    let words = buffer.0 ∷ byte.0 ∷ size.0 ∷ align.0 ∷ flags.0 in
    let left = size.1 ∙ ap (λ rest. size.0 ∷ rest) (align.1 ∙ ap (λ rest. align.0 ∷ rest) flags.1) in (
      words,
      buffer.1 ∙ ap (λ rest. buffer.0 ∷ rest) (byte.1 ∙ ap (λ rest. byte.0 ∷ rest) left),
      (
        flags.0,
        buffer.0,
        byte.0,
        size.0,
        align.0,
        ap (λ (head : List ℕ). head ∷ words) c.requires,
        buffer.2,
        byte.2,
        size.2,
        align.2,
        flags.2,
      ),
    )
