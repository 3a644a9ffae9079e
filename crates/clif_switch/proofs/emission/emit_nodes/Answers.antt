-- One node behind the other, each in the block that waits for it.
use Rattle.std.proofs.Common.{arith, refl}
use Rattle.std.specs.Prelude.{slice_index_or, Err}
use Rattle.clif_switch_calls.specs.SwitchSizes.{nodes_make, test_makes}
use Rattle.clif_switch.proofs.Emitted.{all_emitted, at_filled, at_leads, at_open, at_preserved, at_ready, at_steps, at_switched, behind_first, emitted_start, ends_all, fails_then, made_all, most_all, most_entering, most_first, most_testing}
use Rattle.clif_switch.specs.Emission.{tables_in}
use Rattle.clif_builder.proofs.Adding.{adds_err, adds_fewer}
use Rattle.clif_switch.proofs.emission.emit_nodes.Goals as goal

pub loop-node-init : goal.loop-node-init
loop-node-init g c =
    emitted_start c.args.switched c.args.nodes.now (slice_index_or c.args.nodes.now 0 c.index-nodes-0.result) c.index-nodes-0.result c.args.bx.now c.emit_test.new.bx c.new-blocks.result.items c.emit_test.new.blocks.items refl c.new-blocks.ensures.items
    c.requires.order c.requires.leads c.requires.filled c.in_ok-emit_test.ensures.ends c.in_ok-emit_test.ensures.blocks c.in_ok-emit_test.ensures.made c.in_ok-emit_test.ensures.most

pub overflow_sub-node : goal.overflow_sub-node
overflow_sub-node g c =
    (at_ready c.args.switched c.args.nodes.now (behind_first c.args.nodes.now) c.args.bx.now c.loop-node.bx c.loop-node.blocks.items c.loop-node.node-index c.node-item.result _ c.node-item.is c.loop-node-test.true c.loop-node.invariant).some

pub index-requires : goal.index-requires
index-requires g c =
    let ready = at_ready c.args.switched c.args.nodes.now (behind_first c.args.nodes.now) c.args.bx.now c.loop-node.bx c.loop-node.blocks.items c.loop-node.node-index c.node-item.result _ c.node-item.is c.loop-node-test.true c.loop-node.invariant in
    let inside = ready.inside in let same = c.loop-node.blocks.ok.0 in omega (arith, inside, same)

pub enter-requires-clause-open : goal.enter-requires-clause-open
enter-requires-clause-open g c =
    at_open c.args.switched c.args.nodes.now (behind_first c.args.nodes.now) c.args.bx.now c.loop-node.bx c.loop-node.blocks.items c.loop-node.node-index c.node-item.result _ c.node-item.is c.loop-node-test.true c.loop-node.invariant
    c.index.result.now c.index.ensures

pub enter-requires-clause-left : goal.enter-requires-clause-left
enter-requires-clause-left g c = c.loop-node.invariant.ends.left

pub enter-requires-clause-free : goal.enter-requires-clause-free
enter-requires-clause-free g c = c.loop-node.invariant.ends.free

pub returns-in_err-enter-clause-ends : goal.returns-in_err-enter-clause-ends
returns-in_err-enter-clause-ends g c =
    fails_then (tables_in c.args.nodes.now) c.args.bx.now c.loop-node.bx c.enter.new.bx c.from_residual-in_err-enter.result c.in_err-enter.field-0.0
    c.loop-node.invariant.ends.steps c.in_err-enter.ensures.steps c.from_residual-in_err-enter.ensures.1

pub emit_test-requires-in-loop-node-clause-switched : goal.emit_test-requires-in-loop-node-clause-switched
emit_test-requires-in-loop-node-clause-switched g c =
    at_switched c.args.switched c.args.nodes.now (behind_first c.args.nodes.now) c.args.bx.now c.loop-node.bx c.loop-node.blocks.items c.loop-node.node-index c.node-item.result _ c.node-item.is c.loop-node-test.true c.loop-node.invariant
    c.index.result.now c.index.ensures c.enter.new.bx c.in_ok-enter.ensures.steps c.in_ok-enter.ensures.entered c.requires.switched

pub emit_test-requires-in-loop-node-clause-leads : goal.emit_test-requires-in-loop-node-clause-leads
emit_test-requires-in-loop-node-clause-leads g c =
    at_leads c.args.switched c.args.nodes.now (behind_first c.args.nodes.now) c.args.bx.now c.loop-node.bx c.loop-node.blocks.items c.loop-node.node-index c.node-item.result _ c.node-item.is c.loop-node-test.true c.loop-node.invariant
    c.index.result.now c.index.ensures c.enter.new.bx c.in_ok-enter.ensures.steps c.in_ok-enter.ensures.entered

pub emit_test-requires-in-loop-node-clause-filled : goal.emit_test-requires-in-loop-node-clause-filled
emit_test-requires-in-loop-node-clause-filled g c =
    at_filled c.args.switched c.args.nodes.now (behind_first c.args.nodes.now) c.args.bx.now c.loop-node.bx c.loop-node.blocks.items c.loop-node.node-index c.node-item.result _ c.node-item.is c.loop-node-test.true c.loop-node.invariant

pub returns-in_err-emit_test-2-clause-ends : goal.returns-in_err-emit_test-2-clause-ends
returns-in_err-emit_test-2-clause-ends g c =
    fails_then (tables_in c.args.nodes.now) c.args.bx.now c.enter.new.bx c.emit_test-in-loop-node.new.bx c.from_residual-in_err-emit_test-2.result c.in_err-emit_test-2.field-0.0
    (at_steps c.args.switched c.args.nodes.now (behind_first c.args.nodes.now) c.args.bx.now c.loop-node.bx c.loop-node.blocks.items c.loop-node.node-index c.node-item.result _ c.node-item.is c.loop-node-test.true c.loop-node.invariant
    c.index.result.now c.index.ensures c.enter.new.bx c.in_ok-enter.ensures.steps c.in_ok-enter.ensures.entered)
    c.in_err-emit_test-2.ensures.ends.steps c.from_residual-in_err-emit_test-2.ensures.1

pub loop-node-preserved : goal.loop-node-preserved
loop-node-preserved g c =
    at_preserved c.args.switched c.args.nodes.now (behind_first c.args.nodes.now) c.args.bx.now c.loop-node.bx c.loop-node.blocks.items c.loop-node.node-index c.node-item.result _ c.node-item.is c.loop-node-test.true c.loop-node.invariant
    c.index.result.now c.index.ensures c.enter.new.bx c.in_ok-enter.ensures.steps c.in_ok-enter.ensures.entered
    c.emit_test-in-loop-node.new.bx c.emit_test-in-loop-node.new.blocks.items c.in_ok-emit_test-2.ensures.ends c.in_ok-emit_test-2.ensures.blocks c.in_ok-enter.ensures.made c.in_ok-emit_test-2.ensures.made c.in_ok-enter.ensures.most c.in_ok-emit_test-2.ensures.most

pub returns-clause-ends : goal.returns-clause-ends
returns-clause-ends g c =
    ends_all c.args.switched c.args.nodes.now c.args.bx.now c.loop-node.bx c.loop-node.blocks.items
    (all_emitted c.args.switched c.args.nodes.now (behind_first c.args.nodes.now) c.args.bx.now c.loop-node.bx c.loop-node.blocks.items c.loop-node.node-index c.loop-node-test.false c.loop-node.invariant)

pub returns-clause-made : goal.returns-clause-made
returns-clause-made g c =
    made_all c.args.switched c.args.nodes.now c.args.bx.now c.loop-node.bx c.loop-node.blocks.items
    (all_emitted c.args.switched c.args.nodes.now (behind_first c.args.nodes.now) c.args.bx.now c.loop-node.bx c.loop-node.blocks.items c.loop-node.node-index c.loop-node-test.false c.loop-node.invariant)

pub returns-in_err-emit_test-clause-most : goal.returns-in_err-emit_test-clause-most
returns-in_err-emit_test-clause-most g c =
    adds_err {A = Unit {0}} (nodes_make c.args.nodes.now) c.args.bx.now c.emit_test.new.bx c.in_err-emit_test.field-0.0 c.from_residual.result c.from_residual.ensures.1
    (adds_fewer {A = Unit {0}} (test_makes (slice_index_or c.args.nodes.now 0 c.index-nodes-0.result).test) (nodes_make c.args.nodes.now) c.args.bx.now c.emit_test.new.bx (Err c.in_err-emit_test.field-0.0)
    (λ table. most_first c.args.nodes.now _ c.index-nodes-0.result table refl c.requires.order) c.in_err-emit_test.ensures.most)

pub returns-in_err-enter-clause-most : goal.returns-in_err-enter-clause-most
returns-in_err-enter-clause-most g c =
    most_entering c.args.switched c.args.nodes.now _ c.args.bx.now c.loop-node.bx c.enter.new.bx c.loop-node.blocks.items c.from_residual-in_err-enter.result c.in_err-enter.field-0.0
    c.loop-node.invariant c.in_err-enter.ensures.most c.from_residual-in_err-enter.ensures.1

pub returns-in_err-emit_test-2-clause-most : goal.returns-in_err-emit_test-2-clause-most
returns-in_err-emit_test-2-clause-most g c =
    most_testing c.args.switched c.args.nodes.now (behind_first c.args.nodes.now) c.args.bx.now c.loop-node.bx c.enter.new.bx c.emit_test-in-loop-node.new.bx c.loop-node.blocks.items c.loop-node.node-index c.node-item.result _
    c.from_residual-in_err-emit_test-2.result c.in_err-emit_test-2.field-0.0 c.node-item.is c.loop-node-test.true c.loop-node.invariant c.in_ok-enter.ensures.most c.in_err-emit_test-2.ensures.most
    c.from_residual-in_err-emit_test-2.ensures.1

pub returns-clause-most : goal.returns-clause-most
returns-clause-most g c =
    most_all c.args.switched c.args.nodes.now c.args.bx.now c.loop-node.bx c.loop-node.blocks.items
    (all_emitted c.args.switched c.args.nodes.now (behind_first c.args.nodes.now) c.args.bx.now c.loop-node.bx c.loop-node.blocks.items c.loop-node.node-index c.loop-node-test.false c.loop-node.invariant)
