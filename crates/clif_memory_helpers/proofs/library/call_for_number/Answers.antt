-- The call is made, and its one result is answered.
use Rattle.std.proofs.Common.{◌≡◌, ◌<◌, ℕ, List, length, ◌∙◌, ap, arith}
use Rattle.std.proofs.lemmas.Grind.{common_steps}
use Rattle.std.specs.Prelude.{slice_index, Err}
use Rattle.clif_helper_calls.specs.LibraryCodes.{i32}
use Rattle.clif_memory_helpers.specs.Lines.{one_value}
use Rattle.clif_memory_helpers.specs.Steps.{calls_function, first_result}
use Rattle.clif_memory_helpers.proofs.Chains.{makes_failed}
use Rattle.clif_memory_helpers.proofs.LibraryCalls.{call_made, gives_one, number_made, number_is, one_result}
use Rattle.clif_memory_helpers.proofs.Stopped.{typed_stopped}
use Rattle.clif_memory_helpers.proofs.library.call_for_number.Goals as goal

pub bounds-inst_results-0 : goal.bounds-inst_results-0
bounds-inst_results-0 g c =
    let results = c.inst_results.ensures.exact
    ∙ number_is c.ledger_is_read_by_number.ensures c.requests_ask_for_their_shapes.ensures c.args.args.now c.args.function c.in_ok-call.call c.args.bx.now c.call.new.self c.requires.current c.requires.gives c.in_ok-call.ensures.built in
    let one : length c.inst_results.result.now ≡ 1 = ap (λ (xs : List ℕ). length xs) results in
    omega (arith, one)

pub returns : goal.returns
returns g c =
    let results = c.inst_results.ensures.exact
    ∙ number_is c.ledger_is_read_by_number.ensures c.requests_ask_for_their_shapes.ensures c.args.args.now c.args.function c.in_ok-call.call c.args.bx.now c.call.new.self c.requires.current c.requires.gives c.in_ok-call.ensures.built in
    let one : length c.inst_results.result.now ≡ 1 = ap (λ (xs : List ℕ). length xs) results in
    let value : ℕ = c.index-inst_results-0.result in
    let first : value ≡ slice_index c.inst_results.result.now 0 = grind (arith, common_steps, c.index-inst_results-0.is, one) in
    let exist : slice_index c.inst_results.result.now 0 < length c.call.new.self.func.now.values = c.inst_results.ensures.exist 0 (omega (arith, one)) in
    number_made c.ledger_is_read_by_number.ensures c.requests_ask_for_their_shapes.ensures c.args.args.now c.args.function c.in_ok-call.call value c.args.bx.now c.call.new.self
    c.requires.current c.requires.gives c.in_ok-call.ensures.built (first ∙ ap (λ (xs : List ℕ). slice_index xs 0) c.inst_results.ensures.exact) (omega (arith, first, exist))

pub returns-in_err-call : goal.returns-in_err-call
returns-in_err-call g c =
    let made = call_made c.ledger_is_read_by_number.ensures c.requests_ask_for_their_shapes.ensures c.args.args.now c.args.function c.args.bx.now c.call.new.self (Err c.in_err-call.field-0.0) c.requires.current
    (one_result c.args.bx.now.func.now.tables c.args.function c.args.args.now (gives_one c.args.bx.now.func.now.tables c.args.function c.requires.gives)) c.in_err-call.ensures.built in
    typed_stopped i32 c.args.bx.now c.call.new.self c.args.args.now _ _ c.from_residual.result c.in_err-call.field-0.0 c.from_residual.ensures.1
    (makes_failed {A = ℕ} c.args.bx.now c.call.new.self c.args.args.now (calls_function c.args.bx.now.func.now.tables c.args.function) first_result one_value c.from_residual.result c.in_err-call.field-0.0 made.line made.most c.from_residual.ensures.1)
