-- The words are the name, the branch's word and a word for each block.
use Rattle.std.proofs.Common.{List, ℕ, ◌∷◌, [], ap, subst, ◌∙◌}
use Rattle.clif_arguments.specs.Arguments.{IsAnswer}
use Rattle.clif_arguments.specs.Scope.{names_of}
use Rattle.clif_text.proofs.calls.read_change_call.Goals as goal

pub returns : goal.returns
returns c =
    let branch = c.in_ok-branch.ensures.ok in
    let from = c.in_ok-from.ensures.ok in
    let to = c.in_ok-to.ensures.ok in
    let first = c.in_ok-branch.ensures.scope in
    let second = c.in_ok-from.ensures.scope ∙ first in
    let leaves = subst (λ scope. IsAnswer (names_of scope.now) from.0 c.in_ok-from.from) first from.2 in
    let reaches = subst (λ scope. IsAnswer (names_of scope.now) to.0 c.in_ok-to.to) second to.2 in (
      branch.0 ∷ from.0 ∷ to.0 ∷ [],
      branch.1 ∙ ap (λ rest. branch.0 ∷ rest) (from.1 ∙ ap (λ rest. from.0 ∷ rest) to.1),
      (branch.0, from.0, to.0, ap (λ (head : List ℕ). head ∷ branch.0 ∷ from.0 ∷ to.0 ∷ []) c.requires, branch.2, leaves, reaches),
    )
