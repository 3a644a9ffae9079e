-- The call is made.
use Rattle.std.proofs.Common.{ℕ, refl, []}
use Rattle.std.specs.Prelude.{Ok, Err}
use Rattle.clif_memory_helpers.specs.Lines.{no_results, no_values}
use Rattle.clif_memory_helpers.specs.Steps.{calls_function}
use Rattle.clif_memory_helpers.proofs.Chains.{makes_failed, makes_ok}
use Rattle.clif_memory_helpers.proofs.LibraryCalls.{call_made, one_result}
use Rattle.clif_memory_helpers.proofs.library.call_library.Goals as goal

pub returns : goal.returns
returns g c =
    makes_ok c.args.bx.now c.call.new.self c.args.args.now (calls_function c.args.bx.now.func.now.tables c.args.function) no_results c.in_ok-call.field-0 (λ inst. []) (tt {0}) no_values refl
    (call_made c.ledger_is_read_by_number.ensures c.requests_ask_for_their_shapes.ensures c.args.args.now c.args.function c.args.bx.now c.call.new.self (Ok c.in_ok-call.field-0) c.requires.current
    (one_result c.args.bx.now.func.now.tables c.args.function c.args.args.now c.requires.gives) c.in_ok-call.ensures.built)

pub returns-in_err-call : goal.returns-in_err-call
returns-in_err-call g c =
    let made = call_made c.ledger_is_read_by_number.ensures c.requests_ask_for_their_shapes.ensures c.args.args.now c.args.function c.args.bx.now c.call.new.self (Err c.in_err-call.field-0.0) c.requires.current
    (one_result c.args.bx.now.func.now.tables c.args.function c.args.args.now c.requires.gives) c.in_err-call.ensures.built in
    makes_failed {A = ℕ} c.args.bx.now c.call.new.self c.args.args.now (calls_function c.args.bx.now.func.now.tables c.args.function) no_results no_values c.from_residual.result c.in_err-call.field-0.0 made.line made.most c.from_residual.ensures.1
