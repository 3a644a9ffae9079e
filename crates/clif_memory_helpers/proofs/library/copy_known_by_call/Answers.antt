-- The size and the call stand behind the imports.
use Rattle.std.proofs.Common.{w64, rules, [], ◌∷◌, refl, ◌∙◌}
use Rattle.std.proofs.lemmas.Int.{to_z-of_z}
use Rattle.std.specs.Prelude.{Ok}
use mir.Val.{SFits}
use Rattle.clif_types.specs.Target.{pointer_type_of}
use Rattle.clif_meaning.specs.Instruction.{Iconst}
use Rattle.clif_expansion.specs.Constants.{computing}
use Rattle.clif_memory_helpers.specs.Helpers.{size_constant}
use Rattle.clif_memory_helpers.specs.Lines.{no_results, no_values}
use Rattle.clif_memory_helpers.specs.Steps.{imports}
use Rattle.clif_memory_helpers.proofs.LibraryCalls.{const_is, copy_known_made}
use Rattle.clif_memory_helpers.proofs.Stopped.{imports_stopped, so_imported, value_stopped}
use Rattle.clif_memory_helpers.proofs.library.copy_known_by_call.Goals as goal

pub returns : goal.returns
returns g c =
    let fits : SFits w64 c.cast_signed.result = search rules in
    copy_known_made c.ledger_is_read_by_number.ensures c.requests_ask_for_their_shapes.ensures c.args.config c.args.callee c.args.size c.args.target c.args.source c.in_ok-function.function c.in_ok-size.size
    c.args.bx.now c.import_library.new.bx c.iconst.new.self c.call_library.new.bx c.call_library.result c.in_ok-function.ensures.made.line.current c.in_ok-function.ensures
    (const_is _ _ _ _ _ _ (Ok c.in_ok-size.size) (to_z-of_z w64 c.cast_signed.result fits ∙ c.cast_signed.ensures) c.pointer_type.ensures c.in_ok-size.ensures.built)
    c.call_library.ensures

pub returns-in_err-function : goal.returns-in_err-function
returns-in_err-function g c =
    imports_stopped (c.args.target ∷ c.args.source ∷ []) _ no_results no_values c.from_residual.result c.in_err-function.field-0.0 c.from_residual.ensures.1 c.args.config c.args.callee
    c.args.bx.now c.import_library.new.bx c.in_err-function.ensures (λ place names long. record { rest = _; is = refl })

pub returns-in_err-size : goal.returns-in_err-size
returns-in_err-size g c =
    let so = so_imported c.args.config c.args.callee c.args.bx.now c.import_library.new.bx c.in_ok-function.function c.in_ok-function.ensures in
    value_stopped (c.args.target ∷ c.args.source ∷ []) _ no_results no_values c.from_residual-in_err-size.result c.in_err-size.field-0.0 c.from_residual-in_err-size.ensures.1
    (λ place names. computing (Iconst (size_constant c.args.size)) (pointer_type_of c.args.config.pointer_width) []) (λ place names. refl) (λ place names. imports c.args.config c.args.callee c.args.bx.now.func.now.tables)
    c.args.bx.now c.import_library.new.bx c.iconst.new.self _ _ so.line c.in_err-size.ensures.built (λ place names long. so) (λ place names long. record { rest = _; is = refl })
