-- The constant is built, and then stored.
use Rattle.std.proofs.Common.{◌≡◌, ℕ, ℤ, w64, [], ◌∷◌, take, rules, arith, refl, ◌∙◌, ap, subst}
use Rattle.std.proofs.lemmas.Grind.{common_steps}
use Rattle.std.proofs.lemmas.Int.{to_z-of_z}
use Rattle.std.proofs.lemmas.List.{take-replicate}
use Rattle.std.specs.Prelude.{Ok}
use mir.Val.{SFits}
use Rattle.clif_inst_builder.specs.Shapes as shapes
use Rattle.clif_meaning.specs.Instruction.{Iconst}
use Rattle.clif_builder.specs.Built.{BuildsValue}
use Rattle.clif_expansion.specs.Constants.{computing}
use Rattle.clif_memory_helpers.specs.Lines.{HasType, no_values}
use Rattle.clif_memory_helpers.proofs.Loads.{fill_made}
use Rattle.clif_memory_helpers.proofs.Pieces.{typed_take}
use Rattle.clif_memory_helpers.proofs.Stopped.{first_stopped}
use Rattle.clif_memory_helpers.proofs.accesses.fill_pieces.Goals as goal

pub returns-in_err-constant : goal.returns-in_err-constant
returns-in_err-constant g c = record {
  filling = c.repeated_byte.result;
  repeats = c.repeated_byte.ensures;
  made = first_stopped (c.args.target ∷ []) _ _ no_values c.from_residual.result c.in_err-constant.field-0.0 c.from_residual.ensures.1 (λ place names. computing (Iconst c.repeated_byte.result) c.args.accesses.ty []) (λ place names. refl)
      c.args.bx.now c.iconst.new.self _ _ c.requires.current c.in_err-constant.ensures.built (λ place names long. record { rest = _; is = refl });
}

pub store_pieces-requires-clause-typed : goal.store_pieces-requires-clause-typed
store_pieces-requires-clause-typed g c =
    let typed : HasType c.iconst.new.self c.in_ok-constant.constant c.args.accesses.ty = (c.in_ok-constant.ensures.built.exists, c.in_ok-constant.ensures.built.typed) in
    typed_take c.iconst.new.self c.args.accesses.ty c.from.result _ (typed, (typed, (typed, (typed, tt))))

pub returns : goal.returns
returns g c =
    let here : c.from.result ≡ c.args.accesses.count = grind (arith, common_steps, c.from.ensures) in
    let fits : SFits w64 c.repeated_byte.result = search rules in
    let constant : ℕ = c.in_ok-constant.constant in
    record {
      filling = c.repeated_byte.result;
      repeats = c.repeated_byte.ensures;
      made = fill_made c.ledger_is_read_by_number.ensures c.requests_ask_for_their_shapes.ensures c.args.accesses c.args.flags c.repeated_byte.result c.args.target constant _
          c.args.bx.now c.iconst.new.self c.store_pieces.new.bx c.store_pieces.result
          (ap (λ (k : ℕ). take k (constant ∷ constant ∷ constant ∷ constant ∷ [])) here ∙ take-replicate c.args.accesses.count 4 constant c.requires.planned.few) c.requires.current
          (subst (λ (z : ℤ). BuildsValue c.args.bx.now c.iconst.new.self (shapes.unary_imm z) c.args.accesses.ty (Ok constant)) (to_z-of_z w64 c.repeated_byte.result fits) c.in_ok-constant.ensures.built)
          c.store_pieces.ensures;
    }
