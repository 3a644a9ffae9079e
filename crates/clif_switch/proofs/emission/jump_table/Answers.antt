-- Each edge leaves the builder as it is, and so the table is created where they were made.
use Rattle.std.proofs.Common.{◌≡◌, arith, pos, List, [], ◌∷◌, ◌++◌, sym, ◌∙◌, ap, subst}
use Rattle.std.proofs.lemmas.Grind.{common_steps}
use Rattle.clif_types.specs.declared.types.«Type».TheVariants as type
use Rattle.clif_inst_builder.specs.Shapes as shapes
use Rattle.clif_instructions.specs.declared.block_call.BlockCall.{BlockCall}
use Rattle.clif_switch.specs.Emission.{MakesTable, bare_to}
use Rattle.clif_switch.proofs.Edges.{all_taken, edges_pushed, kept_first, kept_on, table_is, table_made, table_refused}
use Rattle.std.specs.Prelude.{Err, Ok}
use Rattle.clif_builder.proofs.Adding.{adds_err, refused_adds}
use Rattle.clif_switch_calls.specs.SwitchSizes.{so_many}
use Rattle.clif_switch.proofs.Sized.{edge_many, fewer_many, kept_many, table_many, then_many}
use Rattle.clif_switch.proofs.emission.jump_table.Goals as goal

pub returns-then-is_err-clause-made : goal.returns-then-is_err-clause-made
returns-then-is_err-clause-made g c =
    table_refused _ c.args.bx.now c.block_call-in-loop-block.new.self c.refuse.new.self c.refuse.result (shapes.unary_imm (pos 0)) type.Invalid (omega arith)
    (kept_on c.args.bx.now c.loop-block.bx c.block_call-in-loop-block.new.self c.loop-block.invariant.0 (kept_first c.loop-block.bx c.block_call-in-loop-block.new.self _ [] c.in_ok-entry.entry c.in_ok-entry.ensures))
    (c.refuse.ensures.refused (shapes.unary_imm (pos 0)) type.Invalid)

pub loop-block-preserved : goal.loop-block-preserved
loop-block-preserved g c =
    let pushed : c.push.new.self.items ≡ c.loop-block.entries.items ++ c.in_ok-entry.entry ∷ [] = grind (arith, common_steps, c.push.ensures.items, c.is_err.ensures.value, c.is_err.ensures.negation, c.if-is_err.false) in (
      kept_on c.args.bx.now c.loop-block.bx c.block_call-in-loop-block.new.self c.loop-block.invariant.0 (kept_first c.loop-block.bx c.block_call-in-loop-block.new.self _ [] c.in_ok-entry.entry c.in_ok-entry.ensures),
      c.loop-block.invariant.1,
      edges_pushed c.loop-block.entries.items c.push.new.self.items c.args.blocks.now c.loop-block.block-index _ c.in_ok-entry.entry c.loop-block-test.true c.loop-block.invariant.2 (c.in_ok-entry.ensures.edge ∙ ap bare_to c.block-item.is) pushed,
    )

pub returns-in_default-clause-made : goal.returns-in_default-clause-made
returns-in_default-clause-made g c =
    table_refused _ c.args.bx.now c.loop-block.bx c.refuse-in_default.new.self c.refuse-in_default.result (shapes.unary_imm (pos 0)) type.Invalid (omega arith) c.loop-block.invariant.0
    (c.refuse-in_default.ensures.refused (shapes.unary_imm (pos 0)) type.Invalid)

pub returns-clause-made : goal.returns-clause-made
returns-clause-made g c =
    subst (λ (edges : List BlockCall). MakesTable edges c.args.bx.now c.create_jump_table.new.self c.create_jump_table.result)
    (sym (table_is c.in_ok-default.default c.in-Ok.table c.loop-block.entries.items c.args.blocks.now c.args.otherwise c.loop-block.invariant.1
    (all_taken c.loop-block.entries.items c.args.blocks.now c.loop-block.block-index c.loop-block-test.false c.loop-block.invariant.2) c.in-Ok.ensures.ok))
    (table_made c.in-Ok.table c.args.bx.now c.loop-block.bx c.create_jump_table.new.self c.create_jump_table.result c.loop-block.invariant.0 c.create_jump_table.ensures)

-- SIZES -------------------------------------------------------------------------------------------------------------------

pub returns-in_err-default-clause-most : goal.returns-in_err-default-clause-most
returns-in_err-default-clause-most g c =
    adds_err {A = BlockCall} (so_many 0 0 0 1) c.args.bx.now c.block_call.new.self c.in_err-default.field-0.0 c.from_residual.result c.from_residual.ensures.1
    (fewer_many 0 0 0 0 0 0 0 1 c.args.bx.now c.block_call.new.self (Err c.in_err-default.field-0.0) (omega arith) (omega arith) (omega arith) (omega arith) (edge_many c.args.bx.now c.block_call.new.self _ [] (Err c.in_err-default.field-0.0) c.in_err-default.ensures))

pub returns-in_err-entry-clause-most : goal.returns-in_err-entry-clause-most
returns-in_err-entry-clause-most g c =
    adds_err {A = BlockCall} (so_many 0 0 0 1) c.args.bx.now c.block_call-in-loop-block.new.self c.in_err-entry.field-0.0 c.from_residual-in_err-entry.result c.from_residual-in_err-entry.ensures.1
    (fewer_many 0 0 0 0 0 0 0 1 c.args.bx.now c.block_call-in-loop-block.new.self (Err c.in_err-entry.field-0.0) (omega arith) (omega arith) (omega arith) (omega arith)
    (then_many 0 0 0 0 0 0 0 0 c.args.bx.now c.loop-block.bx c.block_call-in-loop-block.new.self (tt {0}) (Err c.in_err-entry.field-0.0) (kept_many c.args.bx.now c.loop-block.bx c.loop-block.invariant.0.function)
    (edge_many c.loop-block.bx c.block_call-in-loop-block.new.self _ [] (Err c.in_err-entry.field-0.0) c.in_err-entry.ensures)))

pub returns-then-is_err-clause-most : goal.returns-then-is_err-clause-most
returns-then-is_err-clause-most g c =
    let kept = kept_on c.args.bx.now c.loop-block.bx c.block_call-in-loop-block.new.self c.loop-block.invariant.0 (kept_first c.loop-block.bx c.block_call-in-loop-block.new.self _ [] c.in_ok-entry.entry c.in_ok-entry.ensures) in
    then_many 0 0 0 0 0 0 0 1 c.args.bx.now c.block_call-in-loop-block.new.self c.refuse.new.self (tt {0}) (Err c.refuse.result) (kept_many c.args.bx.now c.block_call-in-loop-block.new.self kept.function)
    (refused_adds c.block_call-in-loop-block.new.self c.refuse.new.self (shapes.unary_imm (pos 0)) type.Invalid (so_many 0 0 0 1) c.refuse.result (c.refuse.ensures.refused (shapes.unary_imm (pos 0)) type.Invalid))

pub returns-in_default-clause-most : goal.returns-in_default-clause-most
returns-in_default-clause-most g c =
    then_many 0 0 0 0 0 0 0 1 c.args.bx.now c.loop-block.bx c.refuse-in_default.new.self (tt {0}) (Err c.refuse-in_default.result) (kept_many c.args.bx.now c.loop-block.bx c.loop-block.invariant.0.function)
    (refused_adds c.loop-block.bx c.refuse-in_default.new.self (shapes.unary_imm (pos 0)) type.Invalid (so_many 0 0 0 1) c.refuse-in_default.result (c.refuse-in_default.ensures.refused (shapes.unary_imm (pos 0)) type.Invalid))

pub returns-clause-most : goal.returns-clause-most
returns-clause-most g c =
    then_many 0 0 0 0 0 0 0 1 c.args.bx.now c.loop-block.bx c.create_jump_table.new.self (tt {0}) c.create_jump_table.result (kept_many c.args.bx.now c.loop-block.bx c.loop-block.invariant.0.function)
    (table_many c.loop-block.bx c.create_jump_table.new.self _ c.create_jump_table.result c.create_jump_table.ensures)
