-- The words behind the name are those of an instruction.
use Rattle.std.proofs.Common.{List, ℕ, ◌∷◌, ap, subst, ◌∙◌}
use Rattle.clif_text.specs.Grammar.{IsStraight}
use Rattle.clif_arguments.specs.Scope.{names_of}
use Rattle.clif_text.proofs.calls.read_cursor_call.Goals as goal

pub returns-in-Ok : goal.returns-in-Ok
returns-in-Ok c =
    let name = c.in_ok-name.name.now in
    let read = c.in-Ok.ensures in
    let words = name ∷ read.0 in
    let stands = subst (λ at. IsStraight (names_of at.now) words c.in-Ok.instruction) c.in_ok-name.ensures.scope read.2 in
    (words, c.in_ok-name.ensures.ok ∙ ap (λ rest. name ∷ rest) read.1, (words, ap (λ (head : List ℕ). head ∷ words) c.requires, stands))
