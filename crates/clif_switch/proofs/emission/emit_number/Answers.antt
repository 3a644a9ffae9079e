-- A number is an instruction or two of a constant, or its halves and their concatenation.
use Rattle.std.proofs.Common.{rules, w64, ◌≡◌, ◌/◌, ◌^◌, ℕ, ℤ, sym, ◌∙◌, subst, arith}
use Rattle.std.proofs.lemmas.Grind.{common_steps}
use Rattle.std.proofs.lemmas.Int.{to_z-of_z}
use Rattle.std.specs.Prelude.{Ok, Err}
use mir.Val.{SFits}
use Rattle.std.proofs.lemmas.Result.{err_from_is_err_and}
use Rattle.clif_types.specs.declared.types.«Type».{«Type»}
use Rattle.clif_inst_builder.specs.Shapes as shapes
use Rattle.clif_builder.specs.Built.{BuildsValue}
use Rattle.clif_constant_operands.specs.Chains.{BuildsConstant}
use Rattle.clif_expansion.specs.Constants.{i64}
use Rattle.clif_switch_calls.specs.SwitchCalls.{signed_64}
use Rattle.clif_switch.proofs.Numbers.{composed_is, composed_of, constant_gives, constant_made, halves_made, narrow_plain, plain_is, small_plain, type_is}
use Rattle.clif_switch.proofs.Steps.{value_steps}
use Rattle.clif_switch.proofs.Values.{always, failed_then, gives_failed, gives_first, gives_then, halves_give, type_later, value_went, went_then}
use Rattle.clif_builder.proofs.Adding.{adds_err}
use Rattle.clif_switch_calls.specs.SwitchSizes.{so_many}
use Rattle.clif_switch.proofs.Sized.{constant_many, fewer_many, then_many, value_many}
use Rattle.clif_switch.proofs.emission.emit_number.Goals as goal
use Rattle.clif_switch.proofs.emission.emit_number.Goals.{else-is_widest-via-then-is_widest+else-number, else-is_widest-via-else-is_widest}

pub returns-in_err-low-clause-gives : goal.returns-in_err-low-clause-gives
returns-in_err-low-clause-gives g c =
    let p = err_from_is_err_and c.from_residual.result c.from_residual.ensures.1 in
    gives_failed _ _ c.args.switched.ty c.from_residual.result c.in_err-low.field-0.0 p.0
    (value_steps _ _ _ _ (Err c.in_err-low.field-0.0) c.in_err-low.ensures.built) p.1 p.2

pub returns-in_err-high-clause-gives : goal.returns-in_err-high-clause-gives
returns-in_err-high-clause-gives g c =
    let p = err_from_is_err_and c.from_residual-in_err-high.result c.from_residual-in_err-high.ensures.1 in
    gives_failed _ _ c.args.switched.ty c.from_residual-in_err-high.result c.in_err-high.field-0.0 p.0
    (failed_then c.args.bx.now c.iconst.new.self c.iconst-then-number.new.self c.in_err-high.field-0.0 (value_went _ _ _ _ c.in_ok-low.low c.in_ok-low.ensures.built)
    (value_steps _ _ _ _ (Err c.in_err-high.field-0.0) c.in_err-high.ensures.built)) p.1 p.2

pub returns-in_ok-high-clause-gives : goal.returns-in_ok-high-clause-gives
returns-in_ok-high-clause-gives g c =
    gives_then c.args.bx.now c.iconst-then-number.new.self c.iconcat.new.self c.args.switched.ty c.iconcat.result
    (went_then c.args.bx.now c.iconst.new.self c.iconst-then-number.new.self (value_went _ _ _ _ c.in_ok-low.low c.in_ok-low.ensures.built) (value_went _ _ _ _ c.in_ok-high.high c.in_ok-high.ensures.built))
    (gives_first c.iconst-then-number.new.self c.iconcat.new.self (shapes.concat c.in_ok-low.low c.in_ok-high.high) _ c.iconcat.result c.args.switched.ty
    (halves_give _ c.args.switched.ty c.in_ok-low.low c.in_ok-high.high (type_later c.iconst.new.self c.iconst-then-number.new.self c.in_ok-low.low _
    (value_went _ _ _ _ c.in_ok-high.high c.in_ok-high.ensures.built) c.in_ok-low.ensures.built.exists c.in_ok-low.ensures.built.typed) (sym c.is_widest.ensures ∙ c.if-is_widest.true))
    c.iconcat.ensures.built)

pub returns-in_ok-high-clause-position : goal.returns-in_ok-high-clause-position
returns-in_ok-high-clause-position g c =
    always c.iconcat.result _ (c.iconcat.ensures.built.position ∙ c.in_ok-high.ensures.built.position ∙ c.in_ok-low.ensures.built.position)

pub returns-in_ok-high-clause-made : goal.returns-in_ok-high-clause-made
returns-in_ok-high-clause-made g c = λ signature calls s cases plain at.
    let reads = c.ledger_is_read_by_number.ensures in
    let asks = c.requests_ask_for_their_shapes.ensures in
    let low_fits : SFits w64 c.signed_64.result = search rules in
    let high_fits : SFits w64 c.signed_64-then-number.result = search rules in
    let low : BuildsValue c.args.bx.now c.iconst.new.self (shapes.unary_imm (signed_64 c.args.number)) i64 (Ok c.in_ok-low.low) =
    subst (λ (imm : ℤ). BuildsValue c.args.bx.now c.iconst.new.self (shapes.unary_imm imm) i64 (Ok c.in_ok-low.low)) (to_z-of_z w64 c.signed_64.result low_fits ∙ c.signed_64.ensures) c.in_ok-low.ensures.built in
    let high : BuildsValue c.iconst.new.self c.iconst-then-number.new.self (shapes.unary_imm (signed_64 (c.args.number / 2 ^ 64))) i64 (Ok c.in_ok-high.high) =
    subst (λ (imm : ℤ). BuildsValue c.iconst.new.self c.iconst-then-number.new.self (shapes.unary_imm imm) i64 (Ok c.in_ok-high.high))
    (to_z-of_z w64 c.signed_64-then-number.result high_fits ∙ c.signed_64-then-number.ensures) c.in_ok-high.ensures.built in
    let narrow = type_later c.iconst.new.self c.iconst-then-number.new.self c.in_ok-low.low i64 (value_went _ _ _ _ c.in_ok-high.high c.in_ok-high.ensures.built) c.in_ok-low.ensures.built.exists c.in_ok-low.ensures.built.typed in
    composed_is c.iconcat.result at c.args.number c.iconcat.new.self
    (composed_of (s.ty) c.args.switched.ty c.args.number (type_is reads asks at ∙ c.requires.switched.typed) (sym c.is_widest.ensures ∙ c.if-is_widest.true) (grind (arith, common_steps, c.if-number.true)))
    (halves_made reads asks at c.iconst.new.self c.iconst-then-number.new.self c.iconcat.new.self (signed_64 c.args.number) (signed_64 (c.args.number / 2 ^ 64)) c.in_ok-low.low c.in_ok-high.high c.iconcat.result
    low high narrow c.iconcat.ensures.built)

pub returns-else-is_widest-clause-gives : goal.returns-else-is_widest-clause-gives
returns-else-is_widest-clause-gives g c = constant_gives _ _ _ c.args.switched.ty c.integer_constant.result c.integer_constant.ensures.built

pub returns-else-is_widest-clause-made : goal.returns-else-is_widest-clause-made
returns-else-is_widest-clause-made g c = λ signature calls s cases plain at.
    let reads = c.ledger_is_read_by_number.ensures in
    let asks = c.requests_ask_for_their_shapes.ensures in
    let fits : SFits w64 c.signed_64-else-is_widest.result = search rules in
    let same : s.ty ≡ c.args.switched.ty = type_is reads asks at ∙ c.requires.switched.typed in
    let built : BuildsConstant BuildsValue c.args.switched.ty (signed_64 c.args.number) c.args.bx.now c.integer_constant.new.self c.integer_constant.result =
    subst (λ (imm : ℤ). BuildsConstant BuildsValue c.args.switched.ty imm c.args.bx.now c.integer_constant.new.self c.integer_constant.result)
    (to_z-of_z w64 c.signed_64-else-is_widest.result fits ∙ c.signed_64-else-is_widest.ensures) c.integer_constant.ensures.built in
    plain_is c.integer_constant.result at c.args.number c.integer_constant.new.self
    (elim c.else-is_widest.branch [
      | else-is_widest-via-then-is_widest+else-number w ↦ small_plain s.ty c.args.number (grind (arith, common_steps, w.if-number.false))
      | else-is_widest-via-else-is_widest w ↦ narrow_plain s.ty c.args.switched.ty c.args.number same (sym c.is_widest.ensures ∙ w.if-is_widest.false)
    ])
    (constant_made reads asks at c.integer_constant.new.self (signed_64 c.args.number) s.ty c.integer_constant.result
    (subst (λ (ty : «Type»). BuildsConstant BuildsValue ty (signed_64 c.args.number) c.args.bx.now c.integer_constant.new.self c.integer_constant.result) (sym same) built))

-- SIZES -------------------------------------------------------------------------------------------------------------------

pub returns-in_err-low-clause-most : goal.returns-in_err-low-clause-most
returns-in_err-low-clause-most g c =
    adds_err {A = ℕ} (so_many 3 3 0 0) c.args.bx.now c.iconst.new.self c.in_err-low.field-0.0 c.from_residual.result c.from_residual.ensures.1
    (fewer_many 1 1 0 0 3 3 0 0 c.args.bx.now c.iconst.new.self (Err c.in_err-low.field-0.0) (omega arith) (omega arith) (omega arith) (omega arith) (value_many _ _ _ _ (Err c.in_err-low.field-0.0) c.in_err-low.ensures.built))

pub returns-in_err-high-clause-most : goal.returns-in_err-high-clause-most
returns-in_err-high-clause-most g c =
    adds_err {A = ℕ} (so_many 3 3 0 0) c.args.bx.now c.iconst-then-number.new.self c.in_err-high.field-0.0 c.from_residual-in_err-high.result c.from_residual-in_err-high.ensures.1
    (fewer_many 2 2 0 0 3 3 0 0 c.args.bx.now c.iconst-then-number.new.self (Err c.in_err-high.field-0.0) (omega arith) (omega arith) (omega arith) (omega arith)
    (then_many 1 1 0 0 1 1 0 0 c.args.bx.now c.iconst.new.self c.iconst-then-number.new.self c.in_ok-low.low (Err c.in_err-high.field-0.0) (value_many _ _ _ _ (Ok c.in_ok-low.low) c.in_ok-low.ensures.built)
    (value_many _ _ _ _ (Err c.in_err-high.field-0.0) c.in_err-high.ensures.built)))

pub returns-in_ok-high-clause-most : goal.returns-in_ok-high-clause-most
returns-in_ok-high-clause-most g c =
    then_many 2 2 0 0 1 1 0 0 c.args.bx.now c.iconst-then-number.new.self c.iconcat.new.self c.in_ok-high.high c.iconcat.result
    (then_many 1 1 0 0 1 1 0 0 c.args.bx.now c.iconst.new.self c.iconst-then-number.new.self c.in_ok-low.low (Ok c.in_ok-high.high) (value_many _ _ _ _ (Ok c.in_ok-low.low) c.in_ok-low.ensures.built)
    (value_many _ _ _ _ (Ok c.in_ok-high.high) c.in_ok-high.ensures.built))
    (value_many c.iconst-then-number.new.self c.iconcat.new.self _ _ c.iconcat.result c.iconcat.ensures.built)

pub returns-else-is_widest-clause-most : goal.returns-else-is_widest-clause-most
returns-else-is_widest-clause-most g c =
    fewer_many 2 2 0 0 3 3 0 0 c.args.bx.now c.integer_constant.new.self c.integer_constant.result (omega arith) (omega arith) (omega arith) (omega arith) (constant_many c.args.bx.now c.integer_constant.new.self _ c.args.switched.ty c.integer_constant.result c.integer_constant.ensures.built)
