use Rattle.std.proofs.Common.{◌∙◌, List, length, sym, ap, subst, arith}
use Rattle.clif_instructions.specs.Instruction.{destinations}
use Rattle.clif_instructions.specs.declared.block_call.BlockCall.{BlockCall}
use Rattle.std.specs.Prelude.{slice_index_or}
use Rattle.clif_nodes.specs.Nodes.{BlockNode, empty_block}
use Rattle.clif_spiller.specs.Acting.{Acts}
use Rattle.clif_spiller.proofs.Keeping.{goes_beside, goes_further, goes_on_refl, plan_stays}
use Rattle.clif_spiller.proofs.Acting.{acts_beside, acts_nothing}
use Rattle.clif_spiller.proofs.Edges.{all_used, next_edge, no_edge_yet}
use Rattle.clif_spiller.proofs.Text.Using.{all_read, nothing_read}
use Rattle.clif_spiller.proofs.uses.reload_uses.Goals as goal

pub returns-then-not-uses_spilled-clause-ok : goal.returns-then-not-uses_spilled-clause-ok
returns-then-not-uses_spilled-clause-ok c = goes_on_refl (length c.args.func.now.blocks) c.args.func.now c.args.slots.now c.requires.slots

pub loop-edge-init : goal.loop-edge-init
loop-edge-init c = no_edge_yet c.args.plan.now c.reload_operands.new.func c.reload_operands.new.slots c.args.inst c.in_ok-reload_operands.ensures.ok.slots

pub reload_arguments-requires-clause-plan : goal.reload_arguments-requires-clause-plan
reload_arguments-requires-clause-plan c =
    plan_stays (length c.reload_operands.new.func.blocks) c.reload_operands.new.func c.loop-edge.func c.loop-edge.invariant.goes.keeps c.args.plan.now
    (plan_stays (length c.args.func.now.blocks) c.args.func.now c.reload_operands.new.func c.in_ok-reload_operands.ensures.ok.keeps c.args.plan.now c.requires.plan)

pub loop-edge-preserved : goal.loop-edge-preserved
loop-edge-preserved c =
    next_edge c.args.plan.now c.reload_operands.new.func c.reload_operands.new.slots c.args.inst c.loop-edge.edge c.loop-edge.func c.loop-edge.slots
    c.reload_arguments.new.func c.reload_arguments.new.slots c.law_consistent-2.ensures
    (omega (arith, c.requires.inst_exists, c.in_ok-reload_operands.ensures.ok.keeps.insts))
    (omega (arith, c.loop-edge-test.true, ap (λ (xs : List BlockCall). length xs) (c.branch_destination-edge-end.ensures ∙ ap destinations c.inst_data.ensures.exact)))
    c.loop-edge.invariant c.in_ok-reload_arguments.ensures.ok
    c.in_ok-reload_arguments.ensures.edges c.in_ok-reload_arguments.ensures.others c.in_ok-reload_arguments.ensures.acts c.in_ok-reload_arguments.ensures.reads

pub returns-clause-ok : goal.returns-clause-ok
returns-clause-ok c =
    goes_further c.args.func.now c.args.slots.now c.loop-edge.func c.loop-edge.slots c.resolve_contexts.new.func c.loop-edge.slots
    (goes_further c.args.func.now c.args.slots.now c.reload_operands.new.func c.reload_operands.new.slots c.loop-edge.func c.loop-edge.slots
    c.in_ok-reload_operands.ensures.ok c.loop-edge.invariant.goes)
    (goes_beside (length c.loop-edge.func.blocks) c.loop-edge.func c.loop-edge.slots c.resolve_contexts.new.func c.loop-edge.invariant.goes.slots c.resolve_contexts.ensures.keeps)

pub returns-then-not-uses_spilled-clause-acts : goal.returns-then-not-uses_spilled-clause-acts
returns-then-not-uses_spilled-clause-acts c =
    subst (Acts c.args.plan.now c.args.inst c.args.func.now c.args.slots.now c.args.func.now c.args.slots.now)
    (sym (c.uses_spilled.ensures.none c.if-not-uses_spilled.true)) (acts_nothing c.args.plan.now c.args.inst c.args.func.now c.args.slots.now)

pub returns-clause-acts : goal.returns-clause-acts
returns-clause-acts c =
    all_used c.args.plan.now c.args.inst c.args.func.now c.args.slots.now c.reload_operands.new.func c.reload_operands.new.slots c.loop-edge.func c.loop-edge.slots
    c.resolve_contexts.new.func c.loop-edge.edge c.law_consistent.ensures c.requires.inst_exists c.in_ok-reload_operands.ensures.ok c.in_ok-reload_operands.ensures.edges
    c.in_ok-reload_operands.ensures.acts c.loop-edge.invariant
    (omega (arith, c.loop-edge-test.false, ap (λ (xs : List BlockCall). length xs) (c.branch_destination-edge-end.ensures ∙ ap destinations c.inst_data.ensures.exact)))
    (acts_beside c.args.plan.now c.args.inst c.loop-edge.func c.resolve_contexts.new.func c.loop-edge.slots c.resolve_contexts.ensures.tables
    c.resolve_contexts.ensures.layout (λ d. ap (λ (xs : List BlockNode). (slice_index_or xs d empty_block).insts) c.resolve_contexts.ensures.blocks)
    (λ i below apart. c.resolve_contexts.ensures.others i apart))

pub returns-then-not-uses_spilled-clause-reads : goal.returns-then-not-uses_spilled-clause-reads
returns-then-not-uses_spilled-clause-reads c =
    nothing_read c.args.plan.now c.args.inst c.args.func.now c.args.slots.now (c.uses_spilled.ensures.none c.if-not-uses_spilled.true)

pub returns-clause-reads : goal.returns-clause-reads
returns-clause-reads c =
    all_read c.args.plan.now c.args.inst c.args.func.now c.args.slots.now c.reload_operands.new.func c.reload_operands.new.slots c.loop-edge.func c.loop-edge.slots
    c.resolve_contexts.new.func c.loop-edge.edge c.law_consistent.ensures c.requires.inst_exists c.in_ok-reload_operands.ensures.ok c.in_ok-reload_operands.ensures.edges
    _ c.in_ok-reload_operands.ensures.acts c.in_ok-reload_operands.ensures.reads c.loop-edge.invariant
    (omega (arith, c.loop-edge-test.false, ap (λ (xs : List BlockCall). length xs) (c.branch_destination-edge-end.ensures ∙ ap destinations c.inst_data.ensures.exact)))
    c.resolve_contexts.ensures.resolves c.resolve_contexts.ensures.keeps c.resolve_contexts.ensures.others c.resolve_contexts.ensures.tables c.resolve_contexts.ensures.blocks
