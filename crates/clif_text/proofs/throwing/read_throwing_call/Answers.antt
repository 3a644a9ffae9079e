-- The words are the name, and what the table or the call names.
use Rattle.std.proofs.Common.{List, ℕ, ◌∷◌, ◌++◌, [], ap, sym, subst, ◌∙◌}
use Rattle.std.proofs.lemmas.List.{append_assoc, append-nil}
use Rattle.clif_words.specs.Cursor.{words_left}
use Rattle.clif_arguments.specs.Arguments.{AreClosed, AreItems, IsAnswer}
use Rattle.clif_arguments.specs.Scope.{names_of}
use Rattle.clif_text.proofs.throwing.read_throwing_call.Goals as goal

pub returns-in_ok-last_items-in-create_exception_table : goal.returns-in_ok-last_items-in-create_exception_table
returns-in_ok-last_items-in-create_exception_table c =
    let signature = c.in_ok-signature-in-create_exception_table.ensures.ok in
    let normal = c.in_ok-edge_name-in-create_exception_table.ensures.ok in
    let items = c.in_ok-last_items-in-create_exception_table.ensures.ok in
    let first = c.in_ok-signature-in-create_exception_table.ensures.scope in
    let second = c.in_ok-edge_name-in-create_exception_table.ensures.scope ∙ first in
    let left = words_left c.edge_name.new.self.words in
    let all = ap (λ rest. left ++ rest) items.0 ∙ append-nil left in
    let named = subst (λ at. IsAnswer (names_of at.now) normal.0 c.in_ok-edge_name-in-create_exception_table.field-0) first normal.2 in
    let stand = subst (λ at. AreItems (names_of at.now) left c.in_ok-last_items-in-create_exception_table.field-0.items) second items.1 in (
      signature.0 ∷ normal.0 ∷ left,
      signature.1 ∙ ap (λ rest. signature.0 ∷ rest) (normal.1 ∙ ap (λ rest. normal.0 ∷ rest) (sym all)),
      (
        signature.0,
        normal.0,
        left,
        ap (λ (head : List ℕ). head ∷ signature.0 ∷ normal.0 ∷ left) c.in-create_exception_table.is,
        signature.2,
        named,
        stand,
      ),
    )

pub returns-in_ok-exception_table-in-try_call : goal.returns-in_ok-exception_table-in-try_call
returns-in_ok-exception_table-in-try_call c =
    let function = c.in_ok-function-in-try_call.ensures.ok in
    let passed = c.in_ok-closed_values-in-try_call.ensures.ok in
    let table = c.in_ok-exception_table-in-try_call.ensures.ok in
    let first = c.in_ok-function-in-try_call.ensures.scope in
    let second = c.in_ok-closed_values-in-try_call.ensures.scope ∙ first in
    let values = subst (λ at. AreClosed (names_of at.now) passed.0 c.in_ok-closed_values-in-try_call.field-0.items) first passed.2 in
    let served = subst (λ at. IsAnswer (names_of at.now) table.0 c.in_ok-exception_table-in-try_call.field-0) second table.2 in (
      function.0 ∷ (passed.0 ++ table.0 ∷ []),
      function.1 ∙ ap (λ rest. function.0 ∷ rest) (passed.1 ∙ (ap (λ rest. passed.0 ++ rest) table.1 ∙ sym (append_assoc passed.0 (table.0 ∷ []) _))),
      (
        function.0,
        table.0,
        passed.0,
        ap (λ (head : List ℕ). head ∷ function.0 ∷ (passed.0 ++ table.0 ∷ [])) c.in-try_call.is,
        function.2,
        values,
        served,
      ),
    )

pub returns-in_ok-exception_table-in-try_call_indirect : goal.returns-in_ok-exception_table-in-try_call_indirect
returns-in_ok-exception_table-in-try_call_indirect c =
    let callee = c.in_ok-value-in-try_call_indirect.ensures.ok in
    let passed = c.in_ok-closed_values-in-try_call_indirect.ensures.ok in
    let table = c.in_ok-exception_table-in-try_call_indirect.ensures.ok in
    let first = c.in_ok-value-in-try_call_indirect.ensures.scope in
    let second = c.in_ok-closed_values-in-try_call_indirect.ensures.scope ∙ first in
    let values = subst (λ at. AreClosed (names_of at.now) passed.0 c.in_ok-closed_values-in-try_call_indirect.field-0.items) first passed.2 in
    let served = subst (λ at. IsAnswer (names_of at.now) table.0 c.in_ok-exception_table-in-try_call_indirect.field-0) second table.2 in (
      callee.0 ∷ (passed.0 ++ table.0 ∷ []),
      callee.1 ∙ ap (λ rest. callee.0 ∷ rest) (passed.1 ∙ (ap (λ rest. passed.0 ++ rest) table.1 ∙ sym (append_assoc passed.0 (table.0 ∷ []) _))),
      (
        callee.0,
        table.0,
        passed.0,
        ap (λ (head : List ℕ). head ∷ callee.0 ∷ (passed.0 ++ table.0 ∷ [])) c.in-try_call_indirect.is,
        callee.2,
        values,
        served,
      ),
    )
