-- The words are the name, a value's, a block's, and the cases'.
use Rattle.std.proofs.Common.{List, ℕ, ◌∷◌, ◌++◌, ap, sym, subst, ◌∙◌}
use Rattle.std.proofs.lemmas.List.{append-nil}
use Rattle.clif_words.specs.Cursor.{words_left}
use Rattle.clif_arguments.specs.Arguments.{AreSwitchCases, IsAnswer}
use Rattle.clif_arguments.specs.Scope.{names_of}
use Rattle.clif_text.proofs.switch.read_switch_call.Goals as goal

pub returns : goal.returns
returns c =
    let value = c.in_ok-value.ensures.ok in
    let otherwise = c.in_ok-otherwise.ensures.ok in
    let cases = c.in_ok-entries.ensures.ok in
    let first = c.in_ok-value.ensures.scope in
    let second = c.in_ok-otherwise.ensures.scope ∙ first in
    let left = words_left c.block.new.self.words in
    let all = ap (λ rest. left ++ rest) cases.0 ∙ append-nil left in
    let other = subst (λ at. IsAnswer (names_of at.now) otherwise.0 c.in_ok-otherwise.otherwise) first otherwise.2 in
    let stand = subst (λ at. AreSwitchCases (names_of at.now) left c.in_ok-entries.entries.items) second cases.1 in (
      value.0 ∷ otherwise.0 ∷ left,
      value.1 ∙ ap (λ rest. value.0 ∷ rest) (otherwise.1 ∙ ap (λ rest. otherwise.0 ∷ rest) (sym all)),
      (
        value.0,
        otherwise.0,
        left,
        ap (λ (head : List ℕ). head ∷ value.0 ∷ otherwise.0 ∷ left) c.requires,
        value.2,
        other,
        stand,
      ),
    )
