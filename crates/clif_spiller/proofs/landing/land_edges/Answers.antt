use Rattle.std.proofs.Common.{◌∙◌, List, length, ap, arith}
use Rattle.clif_instructions.specs.Instruction.{destinations}
use Rattle.clif_instructions.specs.declared.block_call.BlockCall.{BlockCall}
use Rattle.clif_spiller.proofs.Keeping.{goes_further, plan_stays}
use Rattle.clif_spiller.proofs.Landed.{all_landed, next_landed, none_landed_yet}
use Rattle.clif_spiller.proofs.Text.Leading.{all_led, next_led, none_led_yet, none_to_lead}
use Rattle.clif_spiller.proofs.landing.land_edges.Goals as goal

pub loop-edge-init : goal.loop-edge-init
loop-edge-init c = (
  none_landed_yet c.args.plan.now c.args.inst c.args.func.now c.args.slots.now c.requires.slots,
  c.requires.inside,
  omega arith,
  none_led_yet c.args.plan.now c.args.inst c.args.func.now c.args.slots.now,
)

pub land_edge-requires-clause-plan : goal.land_edge-requires-clause-plan
land_edge-requires-clause-plan c =
    plan_stays (length c.args.func.now.blocks) c.args.func.now c.loop-edge.func c.loop-edge.invariant.0.goes.keeps c.args.plan.now c.requires.plan

pub loop-edge-preserved : goal.loop-edge-preserved
loop-edge-preserved c = (
  next_landed c.args.plan.now c.args.inst c.args.func.now c.args.slots.now c.loop-edge.edge c.loop-edge.func c.loop-edge.slots c.land_edge.new.func c.land_edge.new.slots
      c.law_consistent.ensures c.law_consistent-in-loop-edge.ensures c.requires.inst_exists c.loop-edge.invariant.2
      (omega (arith, c.loop-edge-test.true, ap (λ (xs : List BlockCall). length xs) (c.branch_destination-count.ensures ∙ ap destinations c.inst_data.ensures.exact)))
      c.loop-edge.invariant.0 c.in_ok-last.ensures.ok c.in_ok-last.ensures.edges c.in_ok-last.ensures.lands,
  c.in_ok-last.ensures.inside,
  omega (arith, c.loop-edge.invariant.2),
  next_led c.args.plan.now c.args.inst c.loop-edge.edge c.args.func.now c.args.slots.now c.loop-edge.func c.loop-edge.slots c.land_edge.new.func c.land_edge.new.slots
      c.law_consistent.ensures c.requires.inst_exists c.loop-edge.invariant.0.goes.keeps c.in_ok-last.ensures.ok.keeps c.in_ok-last.ensures.lands c.in_ok-last.ensures.leads
      (omega (arith, c.loop-edge-test.true, ap (λ (xs : List BlockCall). length xs) (c.branch_destination-count.ensures ∙ ap destinations c.inst_data.ensures.exact)))
      (c.loop-edge.invariant.0.rest c.loop-edge.edge (omega arith)) c.loop-edge.invariant.2 c.loop-edge.invariant.3,
)

pub land_edge-requires-then-count-gt0-clause-plan : goal.land_edge-requires-then-count-gt0-clause-plan
land_edge-requires-then-count-gt0-clause-plan c =
    plan_stays (length c.args.func.now.blocks) c.args.func.now c.loop-edge.func c.loop-edge.invariant.0.goes.keeps c.args.plan.now c.requires.plan

pub returns-in_ok-land_edge-clause-ok : goal.returns-in_ok-land_edge-clause-ok
returns-in_ok-land_edge-clause-ok c =
    goes_further c.args.func.now c.args.slots.now c.loop-edge.func c.loop-edge.slots c.land_edge-then-count-gt0.new.func c.land_edge-then-count-gt0.new.slots
    c.loop-edge.invariant.0.goes c.in_ok-land_edge.ensures.ok

pub returns-in_ok-land_edge-clause-lands : goal.returns-in_ok-land_edge-clause-lands
returns-in_ok-land_edge-clause-lands c =
    all_landed c.args.plan.now c.args.inst c.args.func.now c.args.slots.now c.loop-edge.edge c.loop-edge.func c.loop-edge.slots
    c.land_edge-then-count-gt0.new.func c.land_edge-then-count-gt0.new.slots c.law_consistent.ensures c.law_consistent-then-count-gt0.ensures c.requires.inst_exists
    (omega (arith, c.if-count-gt0.true, ap (λ (xs : List BlockCall). length xs) (c.branch_destination-count.ensures ∙ ap destinations c.inst_data.ensures.exact))) c.loop-edge.invariant.2
    (omega (arith, c.loop-edge-test.false, ap (λ (xs : List BlockCall). length xs) (c.branch_destination-count.ensures ∙ ap destinations c.inst_data.ensures.exact))) c.loop-edge.invariant.0
    c.in_ok-land_edge.ensures.ok c.in_ok-land_edge.ensures.edges c.in_ok-land_edge.ensures.lands

pub returns-in_ok-land_edge-clause-leads : goal.returns-in_ok-land_edge-clause-leads
returns-in_ok-land_edge-clause-leads c =
    all_led c.args.plan.now c.args.inst c.loop-edge.edge c.args.func.now c.args.slots.now c.loop-edge.func c.loop-edge.slots
    c.land_edge-then-count-gt0.new.func c.land_edge-then-count-gt0.new.slots c.law_consistent.ensures c.requires.inst_exists c.loop-edge.invariant.0.goes.keeps
    c.in_ok-land_edge.ensures.ok.keeps c.in_ok-land_edge.ensures.lands c.in_ok-land_edge.ensures.leads
    (omega (arith, c.if-count-gt0.true, ap (λ (xs : List BlockCall). length xs) (c.branch_destination-count.ensures ∙ ap destinations c.inst_data.ensures.exact)))
    c.loop-edge.invariant.0.normal
    (omega (arith, c.loop-edge-test.false, ap (λ (xs : List BlockCall). length xs) (c.branch_destination-count.ensures ∙ ap destinations c.inst_data.ensures.exact)))
    (c.in_ok-land_edge.ensures.edges ∙ c.loop-edge.invariant.0.count) c.loop-edge.invariant.3

pub returns-else-count-gt0-clause-leads : goal.returns-else-count-gt0-clause-leads
returns-else-count-gt0-clause-leads c =
    none_to_lead c.args.plan.now c.args.inst c.args.func.now c.args.slots.now c.loop-edge.edge c.loop-edge.func c.loop-edge.slots
    (omega (arith, c.if-count-gt0.false, ap (λ (xs : List BlockCall). length xs) (c.branch_destination-count.ensures ∙ ap destinations c.inst_data.ensures.exact)))
    c.loop-edge.invariant.0.count c.loop-edge.invariant.3
