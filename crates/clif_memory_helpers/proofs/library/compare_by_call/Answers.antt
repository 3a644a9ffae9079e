-- The call stands behind the imports, and its result is the last one.
use Rattle.std.proofs.Common.{◌≡◌, ◌+◌, ◌-◌, ℕ, List, [], ◌∷◌, refl, arith, ap}
use Rattle.clif_types.specs.declared.libcall.LibCall.TheVariants.{Memcmp}
use Rattle.clif_meaning.specs.Name.{answer_of}
use Rattle.clif_helper_calls.specs.LibraryCodes.{i32}
use Rattle.clif_memory_helpers.specs.Lines.{last_result, one_value}
use Rattle.clif_memory_helpers.specs.Steps.{copies_sized}
use Rattle.clif_memory_helpers.proofs.LibraryCalls.{sized_made}
use Rattle.clif_memory_helpers.proofs.Stopped.{imports_stopped, typed_stopped}
use Rattle.clif_memory_helpers.proofs.library.compare_by_call.Goals as goal

pub returns : goal.returns
returns g c = record {
  typed = c.call_for_number.ensures.typed;
  made = sized_made c.ledger_is_read_by_number.ensures c.requests_ask_for_their_shapes.ensures c.args.config Memcmp c.args.left c.args.right c.args.size c.in_ok-function.function
      c.args.bx.now c.import_library.new.bx c.call_for_number.new.bx c.call_for_number.result one_value c.in_ok-function.ensures (λ place names. answer_of place 1 ∷ [])
      (last_result (copies_sized c.args.config Memcmp c.args.bx.now.func.now.tables))
      (λ place names. let here : place + 2 ≡ place + 3 - 1 = omega arith in ap (λ (k : ℕ). answer_of k 1 ∷ []) here) c.call_for_number.ensures.made;
}

pub returns-in_err-function : goal.returns-in_err-function
returns-in_err-function g c =
    let operands : List ℕ = c.args.left ∷ c.args.right ∷ c.args.size ∷ [] in
    typed_stopped i32 c.args.bx.now c.import_library.new.bx operands _ _ c.from_residual.result c.in_err-function.field-0.0 c.from_residual.ensures.1
    (imports_stopped operands _ _ one_value c.from_residual.result c.in_err-function.field-0.0 c.from_residual.ensures.1 c.args.config Memcmp c.args.bx.now c.import_library.new.bx c.in_err-function.ensures
    (λ place names long. record { rest = _; is = refl }))
