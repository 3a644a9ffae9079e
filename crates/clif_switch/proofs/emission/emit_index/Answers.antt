-- An index of 32 bits, by the width of the value.
use Rattle.std.proofs.Common.{◌≡◌, ℕ, [], ◌∷◌, ◌++◌, refl, ◌∙◌, ap, arith, append-nil}
use Rattle.std.specs.Prelude.{Err, Ok}
use Rattle.std.proofs.lemmas.Grind.{common_steps}
use Rattle.clif_opcodes.specs.declared.opcodes.ConvertOpcode.TheVariants.{Ireduce, Uextend}
use Rattle.clif_types.specs.Types.{bits_of}
use Rattle.clif_inst_builder.specs.Shapes as shapes
use Rattle.clif_meaning.specs.Name.{answer_of}
use Rattle.clif_meaning.specs.Request.{SealBlock, SwitchToBlock}
use Rattle.clif_switch_calls.specs.SwitchCalls.{i32}
use Rattle.clif_switch.specs.Emission.{check_calls, next_place}
use Rattle.clif_switch.proofs.Indices.{gives_behind, index_is, leaves_entered, narrow_made, wide_made}
use Rattle.clif_switch.proofs.Names.{on_then}
use Rattle.clif_switch.proofs.Numbers.{type_is}
use Rattle.clif_switch.proofs.Steps.{steps_on}
use Rattle.clif_switch.proofs.Targets.{wide_is}
use Rattle.clif_switch.proofs.Values.{done, gives_first}
use Rattle.clif_builder.proofs.Adding.{adds_err, adds_none}
use Rattle.clif_switch_calls.specs.SwitchSizes.{so_many}
use Rattle.clif_switch.proofs.Sized.{fewer_many, then_many, value_many}
use Rattle.clif_switch.proofs.emission.emit_index.Goals as goal

pub returns-in_ok-enter-clause-gives : goal.returns-in_ok-enter-clause-gives
returns-in_ok-enter-clause-gives g c =
    let ends = c.in_ok-block.ensures.ends in
    let entered = c.in_ok-enter.ensures.entered in
    gives_behind c.args.bx.now c.enter.new.bx c.ireduce.new.self i32 c.ireduce.result
    (steps_on c.args.bx.now c.check_index.new.bx c.enter.new.bx c.in_ok-block.block done ends.steps c.in_ok-enter.ensures.steps)
    (leaves_entered c.args.bx.now c.check_index.new.bx c.enter.new.bx c.in_ok-block.block ends.leaves entered c.in_ok-block.ensures.behind)
    (entered.tables ∙ ends.tables ∙ append-nil c.args.bx.now.func.now.tables.jump_tables)
    (gives_first c.enter.new.bx c.ireduce.new.self (shapes.convert Ireduce c.args.place) i32 c.ireduce.result i32 refl c.ireduce.ensures.built)

pub returns-in_ok-enter-clause-made : goal.returns-in_ok-enter-clause-made
returns-in_ok-enter-clause-made g c = λ signature calls s cases plain at x names.
    let reads = c.ledger_is_read_by_number.ensures in
    let asks = c.requests_ask_for_their_shapes.ensures in
    let place : ℕ = next_place calls plain in
    let checked = c.in_ok-block.ensures.made signature calls s cases plain at x names in
    let entered = c.in_ok-enter.ensures.made signature calls s c.args.switched.val c.args.switched.otherwise cases (plain ++ check_calls s place x) checked.on.later (answer_of place 0) checked.named in
    let same : bits_of s.ty ≡ bits_of c.args.switched.ty = ap bits_of (type_is reads asks at ∙ c.requires.switched.typed) in
    let wide = wide_is (bits_of s.ty) c.bits-bits.result (bits_of c.args.switched.ty) same c.bits-bits.ensures c.if-bits-gt32.true in
    wide_made at reads asks c.enter.new.bx c.ireduce.new.self x c.args.place c.ireduce.result wide.0 wide.1
    (on_then at (check_calls s place x) (SealBlock (answer_of place 0) ∷ SwitchToBlock (answer_of place 0) ∷ []) c.enter.new.bx checked.on entered)
    (entered.values_stay x c.args.place (checked.on.values_stay x c.args.place names)) c.ireduce.ensures.built

pub returns-then-bits-lt32-clause-gives : goal.returns-then-bits-lt32-clause-gives
returns-then-bits-lt32-clause-gives g c =
    gives_first c.args.bx.now c.uextend.new.self (shapes.convert Uextend c.args.place) i32 c.uextend.result i32 refl c.uextend.ensures.built

pub returns-then-bits-lt32-clause-made : goal.returns-then-bits-lt32-clause-made
returns-then-bits-lt32-clause-made g c = λ signature calls s cases plain at x names.
    let reads = c.ledger_is_read_by_number.ensures in
    let asks = c.requests_ask_for_their_shapes.ensures in
    let same : bits_of s.ty ≡ bits_of c.args.switched.ty = ap bits_of (type_is reads asks at ∙ c.requires.switched.typed) in
    narrow_made at reads asks c.uextend.new.self x c.args.place c.uextend.result
    (grind (arith, common_steps, same, c.if-bits-lt32.true, c.bits-bits.ensures)) (grind (arith, common_steps, same, c.if-bits-lt32.true, c.bits-bits.ensures))
    (grind (arith, common_steps, same, c.if-bits-lt32.true, c.bits-bits.ensures)) names c.uextend.ensures.built

pub returns-else-bits-lt32-clause-made : goal.returns-else-bits-lt32-clause-made
returns-else-bits-lt32-clause-made g c = λ signature calls s cases plain at x names.
    let reads = c.ledger_is_read_by_number.ensures in
    let asks = c.requests_ask_for_their_shapes.ensures in
    let same : bits_of s.ty ≡ bits_of c.args.switched.ty = ap bits_of (type_is reads asks at ∙ c.requires.switched.typed) in
    index_is at x c.args.place (grind (arith, common_steps, same, c.if-bits-gt32.false, c.bits-bits.ensures))
    (grind (arith, common_steps, same, c.if-bits-lt32.false, c.bits-bits.ensures))
    (grind (arith, common_steps, same, c.if-bits-gt32.false, c.if-bits-lt32.false, c.bits-bits.ensures)) names

-- SIZES -------------------------------------------------------------------------------------------------------------------

pub returns-in_err-block-clause-most : goal.returns-in_err-block-clause-most
returns-in_err-block-clause-most g c =
    adds_err {A = ℕ} (so_many 4 5 1 0) c.args.bx.now c.check_index.new.bx c.in_err-block.field-0.0 c.from_residual.result c.from_residual.ensures.1
    (fewer_many 3 4 1 0 4 5 1 0 c.args.bx.now c.check_index.new.bx (Err c.in_err-block.field-0.0) (omega arith) (omega arith) (omega arith) (omega arith) c.in_err-block.ensures.most)

pub returns-in_err-enter-clause-most : goal.returns-in_err-enter-clause-most
returns-in_err-enter-clause-most g c =
    adds_err {A = Unit {0}} (so_many 4 5 1 0) c.args.bx.now c.enter.new.bx c.in_err-enter.field-0.0 c.from_residual-in_err-enter.result c.from_residual-in_err-enter.ensures.1
    (fewer_many {A = Unit {0}} 3 4 1 0 4 5 1 0 c.args.bx.now c.enter.new.bx (Err c.in_err-enter.field-0.0) (omega arith) (omega arith) (omega arith) (omega arith)
    (then_many {B = Unit {0}} 3 4 1 0 0 0 0 0 c.args.bx.now c.check_index.new.bx c.enter.new.bx c.in_ok-block.block (Err c.in_err-enter.field-0.0) c.in_ok-block.ensures.most c.in_err-enter.ensures.most))

pub returns-in_ok-enter-clause-most : goal.returns-in_ok-enter-clause-most
returns-in_ok-enter-clause-most g c =
    then_many 3 4 1 0 1 1 0 0 c.args.bx.now c.enter.new.bx c.ireduce.new.self (tt {0}) c.ireduce.result
    (then_many 3 4 1 0 0 0 0 0 c.args.bx.now c.check_index.new.bx c.enter.new.bx c.in_ok-block.block done c.in_ok-block.ensures.most c.in_ok-enter.ensures.most)
    (value_many c.enter.new.bx c.ireduce.new.self _ _ c.ireduce.result c.ireduce.ensures.built)

pub returns-then-bits-lt32-clause-most : goal.returns-then-bits-lt32-clause-most
returns-then-bits-lt32-clause-most g c =
    fewer_many 1 1 0 0 4 5 1 0 c.args.bx.now c.uextend.new.self c.uextend.result (omega arith) (omega arith) (omega arith) (omega arith) (value_many c.args.bx.now c.uextend.new.self _ _ c.uextend.result c.uextend.ensures.built)

pub returns-else-bits-lt32-clause-most : goal.returns-else-bits-lt32-clause-most
returns-else-bits-lt32-clause-most g c = adds_none (so_many 4 5 1 0) c.args.bx.now (Ok c.args.place)
