-- The size, the call, zero and the comparison stand behind the imports.
use Rattle.std.proofs.Common.{ℕ, w64, pos, rules, refl, ◌∙◌, List, [], ◌∷◌, ◌++◌}
use Rattle.std.proofs.lemmas.Int.{to_z-of_z}
use Rattle.std.specs.Prelude.{Ok}
use mir.Val.{SFits}
use Rattle.clif_types.specs.Target.{pointer_type_of}
use Rattle.clif_types.specs.declared.libcall.LibCall.TheVariants.{Memcmp}
use Rattle.clif_tables.specs.Lists.{TableLists}
use Rattle.clif_meaning.specs.Instruction.{Iconst, Instruction}
use Rattle.clif_meaning.specs.Name.{Name, answer_of}
use Rattle.clif_meaning.specs.Request.{Script}
use Rattle.clif_expansion.specs.Constants.{computing}
use Rattle.clif_expansion.specs.Emission.{building, building_with}
use Rattle.clif_helper_calls.specs.LibraryCodes.{calling, i8, i32}
use Rattle.clif_memory_helpers.specs.Helpers.{behind_imports, imported, library_signature, size_constant}
use Rattle.clif_memory_helpers.specs.Lines.{nth, one_value}
use Rattle.clif_memory_helpers.specs.Steps.{imports}
use Rattle.clif_memory_helpers.proofs.Loads.{typed_as}
use Rattle.clif_memory_helpers.proofs.LibraryCalls.{compare_known_made, const_is, knows_on}
use Rattle.clif_memory_helpers.proofs.Stopped.{called_stopped, imports_stopped, so_called, so_imported, so_value, typed_stopped, value_stopped}
use Rattle.clif_memory_helpers.proofs.library.compare_known_by_call.Goals as goal

pub returns-in_err-function : goal.returns-in_err-function
returns-in_err-function g c =
    let operands : List ℕ = c.args.left ∷ c.args.right ∷ [] in
    typed_stopped i8 c.args.bx.now c.import_library.new.bx operands _ _ c.from_residual.result c.in_err-function.field-0.0 c.from_residual.ensures.1
    (imports_stopped operands _ _ one_value c.from_residual.result c.in_err-function.field-0.0 c.from_residual.ensures.1 c.args.config Memcmp c.args.bx.now c.import_library.new.bx c.in_err-function.ensures
    (λ place names long. record { rest = _; is = refl }))

pub returns-in_err-size : goal.returns-in_err-size
returns-in_err-size g c =
    let operands : List ℕ = c.args.left ∷ c.args.right ∷ [] in
    let before : TableLists = c.args.bx.now.func.now.tables in
    let imported_first : Script = imports c.args.config Memcmp before in
    let size : Instruction Name Name = computing (Iconst (size_constant c.args.size)) (pointer_type_of c.args.config.pointer_width) [] in
    let so = so_imported c.args.config Memcmp c.args.bx.now c.import_library.new.bx c.in_ok-function.function c.in_ok-function.ensures in
    typed_stopped i8 c.args.bx.now c.iconst.new.self operands _ _ c.from_residual-in_err-size.result c.in_err-size.field-0.0 c.from_residual-in_err-size.ensures.1
    (value_stopped operands _ _ one_value c.from_residual-in_err-size.result c.in_err-size.field-0.0 c.from_residual-in_err-size.ensures.1 (λ place names. size) (λ place names. refl) (λ place names. imported_first)
    c.args.bx.now c.import_library.new.bx c.iconst.new.self _ _ so.line c.in_err-size.ensures.built (λ place names long. so) (λ place names long. record { rest = _; is = refl }))

pub returns-in_err-order : goal.returns-in_err-order
returns-in_err-order g c =
    let operands : List ℕ = c.args.left ∷ c.args.right ∷ [] in
    let before : TableLists = c.args.bx.now.func.now.tables in
    let imported_first : Script = imports c.args.config Memcmp before in
    let size : Instruction Name Name = computing (Iconst (size_constant c.args.size)) (pointer_type_of c.args.config.pointer_width) [] in
    let so = so_imported c.args.config Memcmp c.args.bx.now c.import_library.new.bx c.in_ok-function.function c.in_ok-function.ensures in
    let one = so_value imported_first size c.args.bx.now c.import_library.new.bx c.iconst.new.self _ _ c.in_ok-size.size refl so c.in_ok-size.ensures.built in
    let knows = knows_on c.import_library.new.bx c.iconst.new.self _ _ c.in_ok-size.size Memcmp (library_signature c.args.config Memcmp) c.in_ok-function.function so.line.current c.in_ok-size.ensures.built c.in_ok-function.ensures.knows in
    typed_stopped i8 c.args.bx.now c.call_for_number.new.bx operands _ _ c.from_residual-in_err-order.result c.in_err-order.field-0.0 c.from_residual-in_err-order.ensures.1
    (called_stopped operands _ _ one_value c.from_residual-in_err-order.result c.in_err-order.field-0.0 c.from_residual-in_err-order.ensures.1 (λ place names. imported_first ++ building size ∷ []) before Memcmp
    (library_signature c.args.config Memcmp) c.in_ok-function.function (c.args.left ∷ c.args.right ∷ c.in_ok-size.size ∷ []) _ one_value c.args.bx.now c.iconst.new.self c.call_for_number.new.bx
    (λ place names. nth names 0) (λ place names. nth names 1) (λ place names. answer_of (behind_imports place) 1) refl knows c.in_ok-function.ensures.number one.line c.in_err-order.ensures.made (λ place names long. one)
    (λ place names long. record { rest = _; is = refl }))

pub returns-in_err-zero : goal.returns-in_err-zero
returns-in_err-zero g c =
    let operands : List ℕ = c.args.left ∷ c.args.right ∷ [] in
    let before : TableLists = c.args.bx.now.func.now.tables in
    let imported_first : Script = imports c.args.config Memcmp before in
    let size : Instruction Name Name = computing (Iconst (size_constant c.args.size)) (pointer_type_of c.args.config.pointer_width) [] in
    let so = so_imported c.args.config Memcmp c.args.bx.now c.import_library.new.bx c.in_ok-function.function c.in_ok-function.ensures in
    let one = so_value imported_first size c.args.bx.now c.import_library.new.bx c.iconst.new.self _ _ c.in_ok-size.size refl so c.in_ok-size.ensures.built in
    let knows = knows_on c.import_library.new.bx c.iconst.new.self _ _ c.in_ok-size.size Memcmp (library_signature c.args.config Memcmp) c.in_ok-function.function so.line.current c.in_ok-size.ensures.built c.in_ok-function.ensures.knows in
    let two = λ (place : ℕ) (names : List Name). so_called (imported_first ++ building size ∷ []) before Memcmp (library_signature c.args.config Memcmp) c.in_ok-function.function
    (c.args.left ∷ c.args.right ∷ c.in_ok-size.size ∷ []) _ one_value c.args.bx.now c.iconst.new.self c.call_for_number.new.bx c.in_ok-order.order (nth names 0) (nth names 1) (answer_of (behind_imports place) 1)
    refl knows c.in_ok-function.ensures.number one c.in_ok-order.ensures.made in
    typed_stopped i8 c.args.bx.now c.iconst-2.new.self operands _ _ c.from_residual-in_err-zero.result c.in_err-zero.field-0.0 c.from_residual-in_err-zero.ensures.1
    (value_stopped operands _ _ one_value c.from_residual-in_err-zero.result c.in_err-zero.field-0.0 c.from_residual-in_err-zero.ensures.1 (λ place names. computing (Iconst (pos 0)) i32 []) (λ place names. refl)
    (λ place names. (imported_first ++ building size ∷ []) ++ building_with (imported before) (calling Memcmp (library_signature c.args.config Memcmp) (nth names 0) (nth names 1) (answer_of (behind_imports place) 1)) ∷ [])
    c.args.bx.now c.call_for_number.new.bx c.iconst-2.new.self _ _ (two 0 []).line c.in_err-zero.ensures.built (λ place names long. two place names) (λ place names long. record { rest = _; is = refl }))

pub returns : goal.returns
returns g c =
    let fits : SFits w64 c.cast_signed.result = search rules in
    record {
      typed = typed_as c.iconst-2.new.self c.icmp.new.self _ _ i8 c.icmp.result refl c.icmp.ensures.built;
      made = compare_known_made c.ledger_is_read_by_number.ensures c.requests_ask_for_their_shapes.ensures c.args.config c.args.cond c.args.size c.args.left c.args.right c.in_ok-function.function c.in_ok-size.size
          c.in_ok-order.order c.in_ok-zero.zero c.args.bx.now c.import_library.new.bx c.iconst.new.self c.call_for_number.new.bx c.iconst-2.new.self c.icmp.new.self c.icmp.result
          c.in_ok-function.ensures.made.line.current c.in_ok-function.ensures
          (const_is _ _ _ _ _ _ (Ok c.in_ok-size.size) (to_z-of_z w64 c.cast_signed.result fits ∙ c.cast_signed.ensures) c.pointer_type.ensures c.in_ok-size.ensures.built)
          c.in_ok-order.ensures c.in_ok-zero.ensures.built c.icmp.ensures.built;
    }
