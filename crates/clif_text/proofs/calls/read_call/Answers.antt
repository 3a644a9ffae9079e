-- Each call's words are its name and what its operands took.
use Rattle.std.proofs.Common.{List, ℕ, ◌∷◌, ◌++◌, [], ap, sym, subst, ◌∙◌}
use Rattle.std.proofs.lemmas.List.{append_assoc, append-nil}
use Rattle.clif_words.specs.Cursor.{words_left}
use Rattle.clif_arguments.specs.Arguments.{AreAnswers, IsAnswer, IsEdge, IsLastEdge}
use Rattle.clif_arguments.specs.Scope.{names_of}
use Rattle.clif_text.proofs.calls.read_call.Goals as goal

pub returns-in_ok-ty-in-declare_var : goal.returns-in_ok-ty-in-declare_var
returns-in_ok-ty-in-declare_var c =
    let one = c.in_ok-ty-in-declare_var.ensures.ok in
    (one.0 ∷ [], one.1, (one.0, ap (λ (head : List ℕ). head ∷ one.0 ∷ []) c.in-declare_var.is, one.2))

pub returns-in_ok-variable-in-use_var : goal.returns-in_ok-variable-in-use_var
returns-in_ok-variable-in-use_var c =
    let one = c.in_ok-variable-in-use_var.ensures.ok in
    (one.0 ∷ [], one.1, (one.0, ap (λ (head : List ℕ). head ∷ one.0 ∷ []) c.in-use_var.is, one.2))

pub returns-in_ok-variable-in-declare_var_needs_stack_map : goal.returns-in_ok-variable-in-declare_var_needs_stack_map
returns-in_ok-variable-in-declare_var_needs_stack_map c =
    let one = c.in_ok-variable-in-declare_var_needs_stack_map.ensures.ok in
    (one.0 ∷ [], one.1, (one.0, ap (λ (head : List ℕ). head ∷ one.0 ∷ []) c.in-declare_var_needs_stack_map.is, one.2))

pub returns-in_ok-value-in-declare_value_needs_stack_map : goal.returns-in_ok-value-in-declare_value_needs_stack_map
returns-in_ok-value-in-declare_value_needs_stack_map c =
    let one = c.in_ok-value-in-declare_value_needs_stack_map.ensures.ok in
    (one.0 ∷ [], one.1, (one.0, ap (λ (head : List ℕ). head ∷ one.0 ∷ []) c.in-declare_value_needs_stack_map.is, one.2))

pub returns-in_ok-value-in-def_var : goal.returns-in_ok-value-in-def_var
returns-in_ok-value-in-def_var c =
    let one = c.in_ok-variable-in-def_var.ensures.ok in
    let two = c.in_ok-value-in-def_var.ensures.ok in
    let stands = subst (λ scope. IsAnswer (names_of scope.now) two.0 c.in_ok-value-in-def_var.field-0) c.in_ok-variable-in-def_var.ensures.scope two.2 in
    (one.0 ∷ two.0 ∷ [], one.1 ∙ ap (λ rest. one.0 ∷ rest) two.1, (one.0, two.0, ap (λ (head : List ℕ). head ∷ one.0 ∷ two.0 ∷ []) c.in-def_var.is, one.2, stands))

pub returns-in_ok-variable-in-try_use_var : goal.returns-in_ok-variable-in-try_use_var
returns-in_ok-variable-in-try_use_var c =
    let one = c.in_ok-variable-in-try_use_var.ensures.ok in
    (one.0 ∷ [], one.1, (one.0, ap (λ (head : List ℕ). head ∷ one.0 ∷ []) c.in-try_use_var.is, one.2))

pub returns-in_ok-value-in-try_def_var : goal.returns-in_ok-value-in-try_def_var
returns-in_ok-value-in-try_def_var c =
    let one = c.in_ok-variable-in-try_def_var.ensures.ok in
    let two = c.in_ok-value-in-try_def_var.ensures.ok in
    let stands = subst (λ scope. IsAnswer (names_of scope.now) two.0 c.in_ok-value-in-try_def_var.field-0) c.in_ok-variable-in-try_def_var.ensures.scope two.2 in
    (one.0 ∷ two.0 ∷ [], one.1 ∙ ap (λ rest. one.0 ∷ rest) two.1, (one.0, two.0, ap (λ (head : List ℕ). head ∷ one.0 ∷ two.0 ∷ []) c.in-try_def_var.is, one.2, stands))

pub returns-in_ok-last_edge-in-brif : goal.returns-in_ok-last_edge-in-brif
returns-in_ok-last_edge-in-brif c =
    let condition = c.in_ok-value-in-brif.ensures.ok in
    let first = c.in_ok-edge-in-brif.ensures.ok in
    let second = c.in_ok-last_edge-in-brif.ensures.ok in
    let scope = c.in_ok-edge-in-brif.ensures.scope ∙ c.in_ok-value-in-brif.ensures.scope in
    let one = subst (λ at. IsEdge (names_of at.now) first.0 c.in_ok-edge-in-brif.field-0) c.in_ok-value-in-brif.ensures.scope first.2 in
    let two = subst (λ at. IsLastEdge (names_of at.now) second.0 c.in_ok-last_edge-in-brif.field-0) scope second.2 in (
      condition.0 ∷ (first.0 ++ second.0),
      condition.1 ∙ ap (λ rest. condition.0 ∷ rest) (first.1 ∙ (ap (λ rest. first.0 ++ rest) second.1 ∙ sym (append_assoc first.0 second.0 _))),
      (condition.0, first.0, second.0, ap (λ (head : List ℕ). head ∷ condition.0 ∷ (first.0 ++ second.0)) c.in-brif.is, condition.2, one, two),
    )

pub returns-in_ok-trap_code-in-trap : goal.returns-in_ok-trap_code-in-trap
returns-in_ok-trap_code-in-trap c =
    let reason = c.in_ok-trap_code-in-trap.ensures.ok in
    (reason.0 ∷ [], reason.1, (reason.0, ap (λ (head : List ℕ). head ∷ reason.0 ∷ []) c.in-trap.is, reason.2))

pub returns-in_ok-last_edge_names-in-create_jump_table : goal.returns-in_ok-last_edge_names-in-create_jump_table
returns-in_ok-last_edge_names-in-create_jump_table c =
    let default = c.in_ok-edge_name-in-create_jump_table.ensures.ok in
    let entries = c.in_ok-last_edge_names-in-create_jump_table.ensures.ok in
    let scope = c.in_ok-edge_name-in-create_jump_table.ensures.scope in
    let left = words_left c.edge_name.new.self.words in
    let all = ap (λ rest. left ++ rest) entries.0 ∙ append-nil left in
    let stand = subst (λ at. AreAnswers (names_of at.now) left c.in_ok-last_edge_names-in-create_jump_table.field-0.items) scope entries.1 in (
      default.0 ∷ left,
      default.1 ∙ ap (λ rest. default.0 ∷ rest) (sym all),
      (default.0, left, ap (λ (head : List ℕ). head ∷ default.0 ∷ left) c.in-create_jump_table.is, default.2, stand),
    )

pub returns-in_ok-jump_table-in-br_table : goal.returns-in_ok-jump_table-in-br_table
returns-in_ok-jump_table-in-br_table c =
    let index = c.in_ok-value-in-br_table.ensures.ok in
    let table = c.in_ok-jump_table-in-br_table.ensures.ok in
    let stands = subst (λ scope. IsAnswer (names_of scope.now) table.0 c.in_ok-jump_table-in-br_table.field-0) c.in_ok-value-in-br_table.ensures.scope table.2 in
    (index.0 ∷ table.0 ∷ [], index.1 ∙ ap (λ rest. index.0 ∷ rest) table.1, (index.0, table.0, ap (λ (head : List ℕ). head ∷ index.0 ∷ table.0 ∷ []) c.in-br_table.is, index.2, stands))
