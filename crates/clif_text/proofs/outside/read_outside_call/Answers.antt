-- The words are the name, what is called, and what is passed.
use Rattle.std.proofs.Common.{List, ℕ, ◌∷◌, ap, subst, ◌∙◌}
use Rattle.clif_arguments.specs.Arguments.{AreLast, IsAnswer}
use Rattle.clif_arguments.specs.Scope.{names_of}
use Rattle.clif_text.proofs.outside.read_outside_call.Goals as goal

pub returns-in_ok-last_values-in-call : goal.returns-in_ok-last_values-in-call
returns-in_ok-last_values-in-call c =
    let function = c.in_ok-function-in-call.ensures.ok in
    let passed = c.in_ok-last_values-in-call.ensures.ok in
    let scope = c.in_ok-function-in-call.ensures.scope in
    let stand = subst (λ at. AreLast (names_of at.now) passed.0 c.in_ok-last_values-in-call.field-0.items) scope passed.2 in (
      function.0 ∷ passed.0,
      function.1 ∙ ap (λ rest. function.0 ∷ rest) passed.1,
      (function.0, passed.0, ap (λ (head : List ℕ). head ∷ function.0 ∷ passed.0) c.in-call.is, function.2, stand),
    )

pub returns-in_ok-last_values-in-call_indirect : goal.returns-in_ok-last_values-in-call_indirect
returns-in_ok-last_values-in-call_indirect c =
    let signature = c.in_ok-signature-in-call_indirect.ensures.ok in
    let callee = c.in_ok-value-in-call_indirect.ensures.ok in
    let passed = c.in_ok-last_values-in-call_indirect.ensures.ok in
    let first = c.in_ok-signature-in-call_indirect.ensures.scope in
    let second = c.in_ok-value-in-call_indirect.ensures.scope ∙ first in
    let called = subst (λ at. IsAnswer (names_of at.now) callee.0 c.in_ok-value-in-call_indirect.field-0) first callee.2 in
    let stand = subst (λ at. AreLast (names_of at.now) passed.0 c.in_ok-last_values-in-call_indirect.field-0.items) second passed.2 in (
      signature.0 ∷ callee.0 ∷ passed.0,
      signature.1 ∙ ap (λ rest. signature.0 ∷ rest) (callee.1 ∙ ap (λ rest. callee.0 ∷ rest) passed.1),
      (
        signature.0,
        callee.0,
        passed.0,
        ap (λ (head : List ℕ). head ∷ signature.0 ∷ callee.0 ∷ passed.0) c.in-call_indirect.is,
        signature.2,
        called,
        stand,
      ),
    )
