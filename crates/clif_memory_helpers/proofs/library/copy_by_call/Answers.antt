-- The call stands behind the imports.
use Rattle.std.proofs.Common.{[], ◌∷◌, refl}
use Rattle.clif_memory_helpers.specs.Lines.{no_results, no_values}
use Rattle.clif_memory_helpers.proofs.LibraryCalls.{sized_made}
use Rattle.clif_memory_helpers.proofs.Stopped.{imports_stopped}
use Rattle.clif_memory_helpers.proofs.library.copy_by_call.Goals as goal

pub returns : goal.returns
returns g c =
    sized_made c.ledger_is_read_by_number.ensures c.requests_ask_for_their_shapes.ensures c.args.config c.args.callee c.args.target c.args.source c.args.size c.in_ok-function.function
    c.args.bx.now c.import_library.new.bx c.call_library.new.bx c.call_library.result no_values c.in_ok-function.ensures no_results no_results (λ place names. refl) c.call_library.ensures

pub returns-in_err-function : goal.returns-in_err-function
returns-in_err-function g c =
    imports_stopped (c.args.target ∷ c.args.source ∷ c.args.size ∷ []) _ no_results no_values c.from_residual.result c.in_err-function.field-0.0 c.from_residual.ensures.1 c.args.config c.args.callee
    c.args.bx.now c.import_library.new.bx c.in_err-function.ensures (λ place names long. record { rest = _; is = refl })
