-- The words are the name, the block's word and what else was taken.
use Rattle.std.proofs.Common.{List, ℕ, ◌∷◌, [], ap, subst, ◌∙◌}
use Rattle.clif_arguments.specs.Arguments.{IsAnswer}
use Rattle.clif_arguments.specs.Scope.{names_of}
use Rattle.clif_text.proofs.calls.read_call_at_block.Goals as goal

pub returns-in-switch_to_block : goal.returns-in-switch_to_block
returns-in-switch_to_block c =
    let one = c.in_ok-block.ensures.ok in
    (one.0 ∷ [], one.1, (one.0, ap (λ (head : List ℕ). head ∷ one.0 ∷ []) c.in-switch_to_block.is, one.2))

pub returns-in-seal_block : goal.returns-in-seal_block
returns-in-seal_block c =
    let one = c.in_ok-block.ensures.ok in
    (one.0 ∷ [], one.1, (one.0, ap (λ (head : List ℕ). head ∷ one.0 ∷ []) c.in-seal_block.is, one.2))

pub returns-in_ok-block-in-insert_block_after : goal.returns-in_ok-block-in-insert_block_after
returns-in_ok-block-in-insert_block_after c =
    let one = c.in_ok-block.ensures.ok in
    let two = c.in_ok-block-in-insert_block_after.ensures.ok in
    let stands = subst (λ scope. IsAnswer (names_of scope.now) two.0 c.in_ok-block-in-insert_block_after.field-0) c.in_ok-block.ensures.scope two.2 in
    (one.0 ∷ two.0 ∷ [], one.1 ∙ ap (λ rest. one.0 ∷ rest) two.1, (one.0, two.0, ap (λ (head : List ℕ). head ∷ one.0 ∷ two.0 ∷ []) c.in-insert_block_after.is, one.2, stands))

pub returns-in-set_cold_block : goal.returns-in-set_cold_block
returns-in-set_cold_block c =
    let one = c.in_ok-block.ensures.ok in
    (one.0 ∷ [], one.1, (one.0, ap (λ (head : List ℕ). head ∷ one.0 ∷ []) c.in-set_cold_block.is, one.2))

pub returns-in_ok-ty-in-append_block_param : goal.returns-in_ok-ty-in-append_block_param
returns-in_ok-ty-in-append_block_param c =
    let one = c.in_ok-block.ensures.ok in
    let two = c.in_ok-ty-in-append_block_param.ensures.ok in
    (one.0 ∷ two.0 ∷ [], one.1 ∙ ap (λ rest. one.0 ∷ rest) two.1, (one.0, two.0, ap (λ (head : List ℕ). head ∷ one.0 ∷ two.0 ∷ []) c.in-append_block_param.is, one.2, two.2))

pub returns-in-append_block_params_for_function_params : goal.returns-in-append_block_params_for_function_params
returns-in-append_block_params_for_function_params c =
    let one = c.in_ok-block.ensures.ok in
    (one.0 ∷ [], one.1, (one.0, ap (λ (head : List ℕ). head ∷ one.0 ∷ []) c.in-append_block_params_for_function_params.is, one.2))

pub returns-in-append_block_params_for_function_returns : goal.returns-in-append_block_params_for_function_returns
returns-in-append_block_params_for_function_returns c =
    let one = c.in_ok-block.ensures.ok in
    (one.0 ∷ [], one.1, (one.0, ap (λ (head : List ℕ). head ∷ one.0 ∷ []) c.in-append_block_params_for_function_returns.is, one.2))
