-- The byte is widened behind the imports, and then the function is called.
use Rattle.std.proofs.Common.{[], ◌∷◌, refl}
use Rattle.clif_opcodes.specs.declared.opcodes.ConvertOpcode.TheVariants.{Uextend}
use Rattle.clif_types.specs.declared.libcall.LibCall.TheVariants.{Memset}
use Rattle.clif_meaning.specs.Instruction.{Convert}
use Rattle.clif_expansion.specs.Constants.{computing}
use Rattle.clif_helper_calls.specs.LibraryCodes.{i32}
use Rattle.clif_memory_helpers.specs.Lines.{no_results, no_values, nth}
use Rattle.clif_memory_helpers.specs.Steps.{imports}
use Rattle.clif_memory_helpers.proofs.LibraryCalls.{fill_sized_made}
use Rattle.clif_memory_helpers.proofs.Stopped.{imports_stopped, so_imported, value_stopped}
use Rattle.clif_memory_helpers.proofs.library.fill_by_call.Goals as goal

pub returns : goal.returns
returns g c =
    fill_sized_made c.ledger_is_read_by_number.ensures c.requests_ask_for_their_shapes.ensures c.args.config c.args.target c.args.byte c.args.size c.in_ok-function.function c.in_ok-wide.wide
    c.args.bx.now c.import_library.new.bx c.uextend.new.self c.call_library.new.bx c.call_library.result c.in_ok-function.ensures.made.line.current c.in_ok-function.ensures c.in_ok-wide.ensures.built
    c.call_library.ensures

pub returns-in_err-function : goal.returns-in_err-function
returns-in_err-function g c =
    imports_stopped (c.args.target ∷ c.args.byte ∷ c.args.size ∷ []) _ no_results no_values c.from_residual.result c.in_err-function.field-0.0 c.from_residual.ensures.1 c.args.config Memset
    c.args.bx.now c.import_library.new.bx c.in_err-function.ensures (λ place names long. record { rest = _; is = refl })

pub returns-in_err-wide : goal.returns-in_err-wide
returns-in_err-wide g c =
    let so = so_imported c.args.config Memset c.args.bx.now c.import_library.new.bx c.in_ok-function.function c.in_ok-function.ensures in
    value_stopped (c.args.target ∷ c.args.byte ∷ c.args.size ∷ []) _ no_results no_values c.from_residual-in_err-wide.result c.in_err-wide.field-0.0 c.from_residual-in_err-wide.ensures.1
    (λ place names. computing (Convert Uextend) i32 (nth names 1 ∷ [])) (λ place names. refl) (λ place names. imports c.args.config Memset c.args.bx.now.func.now.tables)
    c.args.bx.now c.import_library.new.bx c.uextend.new.self _ _ so.line c.in_err-wide.ensures.built (λ place names long. so) (λ place names long. record { rest = _; is = refl })
