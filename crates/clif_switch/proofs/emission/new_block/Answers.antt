-- A block is created, and put behind those of the nodes.
use Rattle.std.proofs.Common.{ℕ, arith, pos, ◌++◌}
use Rattle.clif_types.specs.declared.types.«Type».TheVariants as type
use Rattle.clif_inst_builder.specs.Shapes as shapes
use Rattle.clif_switch.proofs.Blocks.{block_made, created_went, refused_then, stays_failed}
use Rattle.std.specs.Prelude.{Err, Ok}
use Rattle.clif_builder.proofs.Adding.{adds_err, refused_adds}
use Rattle.clif_switch_calls.specs.SwitchSizes.{so_many}
use Rattle.clif_switch.proofs.Sized.{block_many, then_many}
use Rattle.clif_switch.proofs.emission.new_block.Goals as goal

pub returns-then-is_err-clause-here : goal.returns-then-is_err-clause-here
returns-then-is_err-clause-here g c =
    let made = c.in_ok-block.ensures in
    stays_failed c.args.bx.now c.refuse.new.self c.refuse.result
    (refused_then c.args.bx.now c.create_block.new.self c.refuse.new.self c.refuse.result (shapes.unary_imm (pos 0)) type.Invalid (omega arith)
    (created_went c.args.bx.now c.create_block.new.self c.in_ok-block.block made.call made.variables made.function made.tracking made.goes_on.grows (λ x b. made.goes_on.remembers x b tt) made.sealed (made.goes_on.current c.requires.current)) (c.refuse.ensures.refused (shapes.unary_imm (pos 0)) type.Invalid))

pub returns-clause-made : goal.returns-clause-made
returns-clause-made g c = λ signature calls s x otherwise cases plain at.
    block_made c.ledger_is_read_by_number.ensures at c.create_block.new.self c.in_ok-block.block (c.in_ok-block.ensures.told.stands signature (calls ++ at.added) at.stands tt)

pub returns-in_err-block-clause-most : goal.returns-in_err-block-clause-most
returns-in_err-block-clause-most g c =
    let failed = c.in_err-block.ensures in
    adds_err {A = ℕ} (so_many 0 0 1 0) c.args.bx.now c.create_block.new.self c.in_err-block.field-0.0 c.from_residual.result c.from_residual.ensures.1
    (block_many c.args.bx.now c.create_block.new.self (Err c.in_err-block.field-0.0) failed.call tt failed.full_stays)

pub returns-then-is_err-clause-most : goal.returns-then-is_err-clause-most
returns-then-is_err-clause-most g c =
    let made = c.in_ok-block.ensures in
    then_many 0 0 1 0 0 0 0 0 c.args.bx.now c.create_block.new.self c.refuse.new.self c.in_ok-block.block (Err c.refuse.result)
    (block_many c.args.bx.now c.create_block.new.self (Ok c.in_ok-block.block) made.call made.function made.full_stays)
    (refused_adds c.create_block.new.self c.refuse.new.self (shapes.unary_imm (pos 0)) type.Invalid (so_many 0 0 0 0) c.refuse.result (c.refuse.ensures.refused (shapes.unary_imm (pos 0)) type.Invalid))

pub returns-clause-most : goal.returns-clause-most
returns-clause-most g c =
    let made = c.in_ok-block.ensures in
    block_many c.args.bx.now c.create_block.new.self (Ok c.in_ok-block.block) made.call made.function made.full_stays
