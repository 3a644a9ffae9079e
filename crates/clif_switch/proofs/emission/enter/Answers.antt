-- The seal and the change of block stand one behind the other.
use Rattle.std.proofs.Common.{[], ◌∷◌, ◌++◌, refl, ◌∙◌, ap}
use Rattle.std.specs.Prelude.{Ok, Err}
use Rattle.clif_ir.specs.Body.{Body}
use Rattle.clif_records.specs.Tables.{pending_of}
use Rattle.clif_ssa.specs.Ssa.{sealed_of}
use Rattle.clif_builder.proofs.Keeping.{keeps_insts}
use Rattle.clif_meaning.specs.Request.{SealBlock, SwitchToBlock}
use Rattle.clif_builder.specs.declared.builder.FunctionBuilder.{FunctionBuilder}
use Rattle.clif_builder.specs.Calls.{answered}
use Rattle.clif_switch.specs.Emission.{StandsOn}
use Rattle.clif_switch.proofs.Blocks.{is_entered}
use Rattle.clif_switch.proofs.Names.{on_then, stands_behind}
use Rattle.clif_switch.proofs.Steps.{adds_none, call_steps, entered_steps, not_full, sealing_full, steps_fails}
use Rattle.clif_builder.proofs.Adding.{adds_err, makes_same}
use Rattle.clif_switch_calls.specs.SwitchSizes.{so_many}
use Rattle.clif_switch.proofs.Sized.{sealed_many}
use Rattle.clif_switch.proofs.emission.enter.Goals as goal

pub returns-in_err-seal_block-clause-steps : goal.returns-in_err-seal_block-clause-steps
returns-in_err-seal_block-clause-steps g c =
    let failed = c.in_err-seal_block.ensures in
    steps_fails c.args.bx.now c.seal_block.new.self c.from_residual.result c.in_err-seal_block.field-0.0
    (call_steps {A = Unit {0}} c.args.bx.now c.seal_block.new.self (Err c.in_err-seal_block.field-0.0) failed.call failed.leaves.variables tt (λ x b. tt) tt tt
    (λ is. sealing_full c.args.bx.now.func.now c.seal_block.new.self.func.now (pending_of (sealed_of c.args.bx.now.ctx.now.parts.ssa c.args.block)) c.requires.open.none_waits (failed.full is))) c.from_residual.ensures.1

pub returns-clause-steps : goal.returns-clause-steps
returns-clause-steps g c =
    let sealed = c.in_ok-seal_block.ensures in
    let alone = sealed.seals.alone c.requires.open.none_waits in
    entered_steps c.args.bx.now c.seal_block.new.self c.switch_to_block.new.self c.in_ok-seal_block.field-0 c.args.block
    (call_steps c.args.bx.now c.seal_block.new.self (Ok c.in_ok-seal_block.field-0) sealed.call sealed.leaves.variables sealed.goes_on.grows (λ x b. sealed.goes_on.remembers x b tt)
    (keeps_insts c.args.bx.now c.seal_block.new.self (ap (λ (f : Body). f.insts) alone.function) alone.tracking (λ x b. sealed.goes_on.remembers x b tt))
    (adds_none c.args.bx.now.func.now.tables c.seal_block.new.self.func.now.tables (ap (λ (f : Body). f.tables) alone.function)) (λ is. not_full c.in_ok-seal_block.field-0 is)) c.switch_to_block.ensures.builder

pub returns-clause-entered : goal.returns-clause-entered
returns-clause-entered g c =
    let sealed = c.in_ok-seal_block.ensures in
    is_entered c.args.bx.now c.seal_block.new.self c.switch_to_block.new.self c.args.block sealed.call.fills (sealed.seals.alone c.requires.open.none_waits) c.switch_to_block.ensures.builder c.switch_to_block.ensures.current

pub returns-clause-made : goal.returns-clause-made
returns-clause-made g c = λ signature calls s x otherwise cases plain at name names.
    let reads = c.ledger_is_read_by_number.ensures in
    let one : StandsOn at (SealBlock name ∷ []) c.seal_block.new.self =
    stands_behind reads at (answered (SealBlock name) [] ∷ []) (SealBlock name ∷ []) c.seal_block.new.self refl
    ((c.in_ok-seal_block.ensures.told name).stands signature (calls ++ at.added) at.stands names) in
    on_then at (SealBlock name ∷ []) (SwitchToBlock name ∷ []) c.switch_to_block.new.self one
    (stands_behind reads one.later (answered (SwitchToBlock name) [] ∷ []) (SwitchToBlock name ∷ []) c.switch_to_block.new.self refl
    (c.switch_to_block.ensures.stands signature (calls ++ one.later.added) name one.later.stands (one.blocks_stay name c.args.block names)))

pub returns-in_err-seal_block-clause-most : goal.returns-in_err-seal_block-clause-most
returns-in_err-seal_block-clause-most g c =
    let failed = c.in_err-seal_block.ensures in
    adds_err {A = Unit {0}} (so_many 0 0 0 0) c.args.bx.now c.seal_block.new.self c.in_err-seal_block.field-0.0 c.from_residual.result c.from_residual.ensures.1
    (sealed_many {A = Unit {0}} c.args.bx.now c.seal_block.new.self (Err c.in_err-seal_block.field-0.0) failed.call tt (failed.never_full c.requires.open.none_waits))

pub returns-clause-most : goal.returns-clause-most
returns-clause-most g c = λ some.
    makes_same (so_many 0 0 0 0) c.args.bx.now.func.now c.switch_to_block.new.self.func.now
    (ap (λ (b : FunctionBuilder _). b.func.now) c.switch_to_block.ensures.builder ∙ (c.in_ok-seal_block.ensures.seals.alone c.requires.open.none_waits).function)
