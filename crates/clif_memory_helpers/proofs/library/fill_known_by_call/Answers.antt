-- The byte, the size and the call stand behind the imports.
use Rattle.std.proofs.Common.{w64, pos, rules, [], ◌∷◌, ◌++◌, refl, ◌∙◌}
use Rattle.std.proofs.lemmas.Int.{to_z-of_z}
use Rattle.std.specs.Prelude.{Ok}
use mir.Val.{SFits}
use Rattle.clif_opcodes.specs.declared.opcodes.ConvertOpcode.TheVariants.{Uextend}
use Rattle.clif_types.specs.Target.{pointer_type_of}
use Rattle.clif_types.specs.declared.libcall.LibCall.TheVariants.{Memset}
use Rattle.clif_meaning.specs.Instruction.{Convert, Iconst, Instruction}
use Rattle.clif_meaning.specs.Name.{Name, answer_of}
use Rattle.clif_meaning.specs.Request.{Script}
use Rattle.clif_expansion.specs.Constants.{computing}
use Rattle.clif_expansion.specs.Emission.{building}
use Rattle.clif_helper_calls.specs.LibraryCodes.{i8, i32}
use Rattle.clif_memory_helpers.specs.Helpers.{behind_imports, size_constant}
use Rattle.clif_memory_helpers.specs.Lines.{no_results, no_values}
use Rattle.clif_memory_helpers.specs.Steps.{imports}
use Rattle.clif_memory_helpers.proofs.LibraryCalls.{const_is, fill_known_made}
use Rattle.clif_memory_helpers.proofs.Stopped.{imports_stopped, so_imported, so_value, value_stopped}
use Rattle.clif_memory_helpers.proofs.library.fill_known_by_call.Goals as goal

pub returns : goal.returns
returns g c =
    let fits : SFits w64 c.cast_signed.result = search rules in
    let byte_fits : SFits w64 c.from.result = search rules in
    fill_known_made c.ledger_is_read_by_number.ensures c.requests_ask_for_their_shapes.ensures c.args.config c.args.byte c.args.size c.args.target c.in_ok-function.function c.in_ok-byte.byte c.in_ok-size.size c.in_ok-wide.wide
    c.args.bx.now c.import_library.new.bx c.iconst.new.self c.iconst-2.new.self c.uextend.new.self c.call_library.new.bx c.call_library.result c.in_ok-function.ensures.made.line.current c.in_ok-function.ensures
    (const_is _ _ _ _ _ _ (Ok c.in_ok-byte.byte) (to_z-of_z w64 c.from.result byte_fits ∙ c.from.ensures) refl c.in_ok-byte.ensures.built)
    (const_is _ _ _ _ _ _ (Ok c.in_ok-size.size) (to_z-of_z w64 c.cast_signed.result fits ∙ c.cast_signed.ensures) c.pointer_type.ensures c.in_ok-size.ensures.built)
    c.in_ok-wide.ensures.built c.call_library.ensures

pub returns-in_err-function : goal.returns-in_err-function
returns-in_err-function g c =
    imports_stopped (c.args.target ∷ []) _ no_results no_values c.from_residual.result c.in_err-function.field-0.0 c.from_residual.ensures.1 c.args.config Memset
    c.args.bx.now c.import_library.new.bx c.in_err-function.ensures (λ place names long. record { rest = _; is = refl })

pub returns-in_err-byte : goal.returns-in_err-byte
returns-in_err-byte g c =
    let imported : Script = imports c.args.config Memset c.args.bx.now.func.now.tables in
    let so = so_imported c.args.config Memset c.args.bx.now c.import_library.new.bx c.in_ok-function.function c.in_ok-function.ensures in
    value_stopped (c.args.target ∷ []) _ no_results no_values c.from_residual-in_err-byte.result c.in_err-byte.field-0.0 c.from_residual-in_err-byte.ensures.1
    (λ place names. computing (Iconst (pos c.args.byte)) i8 []) (λ place names. refl) (λ place names. imported)
    c.args.bx.now c.import_library.new.bx c.iconst.new.self _ _ so.line c.in_err-byte.ensures.built (λ place names long. so) (λ place names long. record { rest = _; is = refl })

pub returns-in_err-size : goal.returns-in_err-size
returns-in_err-size g c =
    let imported : Script = imports c.args.config Memset c.args.bx.now.func.now.tables in
    let byte : Instruction Name Name = computing (Iconst (pos c.args.byte)) i8 [] in
    let size : Instruction Name Name = computing (Iconst (size_constant c.args.size)) (pointer_type_of c.args.config.pointer_width) [] in
    let so = so_imported c.args.config Memset c.args.bx.now c.import_library.new.bx c.in_ok-function.function c.in_ok-function.ensures in
    let one = so_value imported byte c.args.bx.now c.import_library.new.bx c.iconst.new.self _ _ c.in_ok-byte.byte refl so c.in_ok-byte.ensures.built in
    value_stopped (c.args.target ∷ []) _ no_results no_values c.from_residual-in_err-size.result c.in_err-size.field-0.0 c.from_residual-in_err-size.ensures.1
    (λ place names. size) (λ place names. refl) (λ place names. imported ++ building byte ∷ [])
    c.args.bx.now c.iconst.new.self c.iconst-2.new.self _ _ one.line c.in_err-size.ensures.built (λ place names long. one) (λ place names long. record { rest = _; is = refl })

pub returns-in_err-wide : goal.returns-in_err-wide
returns-in_err-wide g c =
    let imported : Script = imports c.args.config Memset c.args.bx.now.func.now.tables in
    let byte : Instruction Name Name = computing (Iconst (pos c.args.byte)) i8 [] in
    let size : Instruction Name Name = computing (Iconst (size_constant c.args.size)) (pointer_type_of c.args.config.pointer_width) [] in
    let so = so_imported c.args.config Memset c.args.bx.now c.import_library.new.bx c.in_ok-function.function c.in_ok-function.ensures in
    let one = so_value imported byte c.args.bx.now c.import_library.new.bx c.iconst.new.self _ _ c.in_ok-byte.byte refl so c.in_ok-byte.ensures.built in
    let two = so_value (imported ++ building byte ∷ []) size c.args.bx.now c.iconst.new.self c.iconst-2.new.self _ _ c.in_ok-size.size refl one c.in_ok-size.ensures.built in
    value_stopped (c.args.target ∷ []) _ no_results no_values c.from_residual-in_err-wide.result c.in_err-wide.field-0.0 c.from_residual-in_err-wide.ensures.1
    (λ place names. computing (Convert Uextend) i32 (answer_of (behind_imports place) 1 ∷ [])) (λ place names. refl) (λ place names. imported ++ building byte ∷ building size ∷ [])
    c.args.bx.now c.iconst-2.new.self c.uextend.new.self _ _ two.line c.in_err-wide.ensures.built (λ place names long. two) (λ place names long. record { rest = _; is = refl })
