-- A difference is a number and a subtraction, or a sum with the negated number.
use Rattle.std.proofs.Common.{rules, arith, w64, to_z, of_z, ◌≡◌, ℕ, ℤ, [], ◌∷◌, ◌++◌, refl, sym, ◌∙◌, ap, subst}
use Rattle.std.specs.Prelude.{Err, Ok}
use Rattle.std.proofs.lemmas.Grind.{common_steps}
use Rattle.std.proofs.lemmas.Int.{to_z-of_z}
use mir.Val.{SFits}
use Rattle.clif_opcodes.specs.declared.opcodes.BinaryOpcode.TheVariants.{Iadd, Isub}
use Rattle.clif_types.specs.declared.types.«Type».{«Type»}
use Rattle.clif_inst_builder.specs.Shapes as shapes
use Rattle.clif_ir.specs.Body.{value_at}
use Rattle.clif_meaning.specs.Instruction.{Binary}
use Rattle.clif_meaning.specs.Ledger.{or_invalid}
use Rattle.clif_builder.specs.Built.{BuildsValue}
use Rattle.clif_builder.specs.LedgerLaws.{AsksForShape}
use Rattle.clif_constant_operands.specs.Chains.{BuildsWithConstant}
use Rattle.clif_constant_calls.specs.Stands.{BuildsLike, type_in}
use Rattle.clif_expansion.specs.Constants.{computing}
use Rattle.clif_expansion.specs.Emission.{building}
use Rattle.clif_switch_calls.specs.SwitchCalls.{negated_64}
use Rattle.clif_switch.specs.Emission.{next_place, number_named}
use Rattle.clif_switch.proofs.Compared.{with_number_made}
use Rattle.clif_switch.proofs.Differences.{behind_is, narrow_summed, none_made, small_summed, subtracted_is, subtracted_made, summed_made, with_constant_made}
use Rattle.clif_switch.proofs.Numbers.{asks_here, type_is, with_constant_gives}
use Rattle.clif_switch.proofs.Values.{gives_first, gives_then, gives_went}
use Rattle.clif_builder.proofs.Adding.{adds_err, adds_none}
use Rattle.clif_switch_calls.specs.SwitchSizes.{so_many}
use Rattle.clif_switch.proofs.Sized.{fewer_many, then_many, value_many, with_constant_many}
use Rattle.clif_switch.proofs.emission.emit_difference.Goals as goal
use Rattle.clif_switch.proofs.emission.emit_difference.Goals.{else-is_widest-via-then-is_widest+else-first, else-is_widest-via-else-is_widest}

pub returns-then-first-eq0-clause-made : goal.returns-then-first-eq0-clause-made
returns-then-first-eq0-clause-made g c = λ signature calls s cases plain at. none_made at c.args.first c.if-first-eq0.true

pub returns-then-first-clause-gives : goal.returns-then-first-clause-gives
returns-then-first-clause-gives g c =
    let same = c.in_ok-first.ensures.gives.steps.types c.args.switched.val c.requires.switched.exists ∙ c.requires.switched.typed in
    gives_then c.args.bx.now c.emit_number.new.bx c.isub.new.self c.args.switched.ty c.isub.result
    (gives_went c.args.bx.now c.emit_number.new.bx c.args.switched.ty c.in_ok-first.first c.in_ok-first.ensures.gives c.in_ok-first.ensures.position)
    (gives_first c.emit_number.new.bx c.isub.new.self (shapes.binary Isub c.args.switched.val c.in_ok-first.first) (value_at c.emit_number.new.bx.func.now c.args.switched.val).ty c.isub.result c.args.switched.ty same c.isub.ensures.built)

pub returns-then-first-clause-made : goal.returns-then-first-clause-made
returns-then-first-clause-made g c = λ signature calls s cases plain at.
    let reads = c.ledger_is_read_by_number.ensures in
    let asks = c.requests_ask_for_their_shapes.ensures in
    let made = c.in_ok-first.ensures.made signature calls s cases plain at in
    let place : ℕ = next_place calls plain in
    let name = number_named c.args.first s place in
    let shape = shapes.binary Isub c.args.switched.val c.in_ok-first.first in
    let ty : «Type» = (value_at c.emit_number.new.bx.func.now c.args.switched.val).ty in
    let asked : AsksForShape (calls ++ made.on.later.added) c.emit_number.new.bx.func.now (building (computing (Binary Isub) s.ty (s.value ∷ name ∷ []))) shape ty =
    subst (λ (t : «Type»). AsksForShape (calls ++ made.on.later.added) c.emit_number.new.bx.func.now (building (computing (Binary Isub) t (s.value ∷ name ∷ []))) shape ty)
    (ap or_invalid made.on.later.typed) ((asks_here reads asks made.on.later).binary Isub s.value name c.args.switched.val c.in_ok-first.first made.on.later.value made.named) in
    let same : s.ty ≡ c.args.switched.ty = type_is reads asks at ∙ c.requires.switched.typed in
    subtracted_made at c.args.first c.isub.new.self c.isub.result c.if-first-eq0.false
    (subtracted_is s.ty c.args.switched.ty c.args.first same (sym c.is_widest.ensures ∙ c.if-is_widest.true) (grind (arith, common_steps, c.if-first.true)))
    (with_number_made reads asks at c.emit_number.new.bx c.isub.new.self c.args.first c.in_ok-first.first (Binary Isub) shape ty s.ty c.isub.result made c.isub.ensures.built asked refl)

pub returns-clause-gives : goal.returns-clause-gives
returns-clause-gives g c =
    with_constant_gives c.args.bx.now c.iadd_imm_s.new.self (λ constant. shapes.binary Iadd c.args.switched.val constant) _ c.args.switched.val (value_at c.args.bx.now.func.now c.args.switched.val).ty c.args.switched.ty c.iadd_imm_s.result
    c.requires.switched.exists refl (λ constant. c.requires.switched.typed) c.iadd_imm_s.ensures.built

pub returns-clause-made : goal.returns-clause-made
returns-clause-made g c = λ signature calls s cases plain at.
    let reads = c.ledger_is_read_by_number.ensures in
    let asks = c.requests_ask_for_their_shapes.ensures in
    let place : ℕ = next_place calls plain in
    let fits : SFits w64 c.signed_64-negated.result = search rules in
    let imm_is : to_z w64 (of_z w64 c.signed_64-negated.result) ≡ negated_64 c.args.first = to_z-of_z w64 c.signed_64-negated.result fits ∙ c.signed_64-negated.ensures in
    let built : BuildsWithConstant BuildsValue BuildsLike (λ constant. shapes.binary Iadd c.args.switched.val constant) (type_in c.args.bx.now c.args.switched.val) (negated_64 c.args.first) c.args.switched.val
    c.args.bx.now c.iadd_imm_s.new.self c.iadd_imm_s.result =
    subst (λ (imm : ℤ). BuildsWithConstant BuildsValue BuildsLike (λ constant. shapes.binary Iadd c.args.switched.val constant) (type_in c.args.bx.now c.args.switched.val) imm c.args.switched.val
    c.args.bx.now c.iadd_imm_s.new.self c.iadd_imm_s.result) imm_is c.iadd_imm_s.ensures.built in
    let same : s.ty ≡ c.args.switched.ty = type_is reads asks at ∙ c.requires.switched.typed in
    summed_made at c.args.first c.iadd_imm_s.new.self c.iadd_imm_s.result c.if-first-eq0.false
    (elim c.else-is_widest.branch [
      | else-is_widest-via-then-is_widest+else-first w ↦ small_summed s.ty c.args.first (grind (arith, common_steps, w.if-first.false))
      | else-is_widest-via-else-is_widest w ↦ narrow_summed s.ty c.args.switched.ty c.args.first same (sym c.is_widest.ensures ∙ w.if-is_widest.false)
    ])
    (behind_is s.ty (negated_64 c.args.first) place)
    (with_constant_made reads asks at c.iadd_imm_s.new.self (Binary Iadd) (λ y constant. shapes.binary Iadd y constant) c.constant_operands_stand.ensures.adds s.value c.args.switched.val (negated_64 c.args.first) s.ty c.iadd_imm_s.result
    at.value (sym (type_is reads asks at)) built)

pub returns-then-first-eq0-clause-most : goal.returns-then-first-eq0-clause-most
returns-then-first-eq0-clause-most g c = adds_none (so_many 4 4 0 0) c.args.bx.now (Ok c.args.switched.val)

pub returns-in_err-first-clause-most : goal.returns-in_err-first-clause-most
returns-in_err-first-clause-most g c =
    adds_err {A = ℕ} (so_many 4 4 0 0) c.args.bx.now c.emit_number.new.bx c.in_err-first.field-0.0 c.from_residual.result c.from_residual.ensures.1
    (fewer_many 3 3 0 0 4 4 0 0 c.args.bx.now c.emit_number.new.bx (Err c.in_err-first.field-0.0) (omega arith) (omega arith) (omega arith) (omega arith) c.in_err-first.ensures.most)

pub returns-then-first-clause-most : goal.returns-then-first-clause-most
returns-then-first-clause-most g c =
    then_many 3 3 0 0 1 1 0 0 c.args.bx.now c.emit_number.new.bx c.isub.new.self c.in_ok-first.first c.isub.result c.in_ok-first.ensures.most (value_many c.emit_number.new.bx c.isub.new.self _ _ c.isub.result c.isub.ensures.built)

pub returns-clause-most : goal.returns-clause-most
returns-clause-most g c =
    fewer_many 3 3 0 0 4 4 0 0 c.args.bx.now c.iadd_imm_s.new.self c.iadd_imm_s.result (omega arith) (omega arith) (omega arith) (omega arith)
    (with_constant_many c.args.bx.now c.iadd_imm_s.new.self (λ constant. shapes.binary Iadd c.args.switched.val constant) _ c.args.switched.val _ c.iadd_imm_s.result c.iadd_imm_s.ensures.built)
