-- The words are the name and what was taken behind it.
use Rattle.std.proofs.Common.{List, ℕ, ◌∷◌, [], ap, sym, subst, ◌∙◌}
use Rattle.clif_words.specs.Spelling.{IsMagnitude}
use Rattle.clif_text.proofs.calls.read_note_call.Goals as goal

pub returns-in_ok-bits-in-set_srcloc : goal.returns-in_ok-bits-in-set_srcloc
returns-in_ok-bits-in-set_srcloc c =
    let one = c.in_ok-bits-in-set_srcloc.ensures.ok in
    (one.0 ∷ [], one.1, (one.0, ap (λ (head : List ℕ). head ∷ one.0 ∷ []) c.in-set_srcloc.is, subst (IsMagnitude one.0) (sym c.new-srcloc.ensures) one.2))

pub returns-in_ok-label-in-set_val_label : goal.returns-in_ok-label-in-set_val_label
returns-in_ok-label-in-set_val_label c =
    let value = c.in_ok-value-in-set_val_label.ensures.ok in
    let label = c.in_ok-label-in-set_val_label.ensures.ok in
    (value.0 ∷ label.0 ∷ [], value.1 ∙ ap (λ rest. value.0 ∷ rest) label.1, (value.0, label.0, ap (λ (head : List ℕ). head ∷ value.0 ∷ label.0 ∷ []) c.in-set_val_label.is, value.2, label.2))
