use Rattle.std.proofs.Common.{sym}
use Rattle.std.proofs.lemmas.List.{append-nil}
use Rattle.clif_spiller.specs.Acting.{is_waiting}
use Rattle.clif_spiller.proofs.Waiting.{waits_all, waits_next}
use Rattle.clif_spiller.proofs.maps.push_waiting.Goals as goal

pub loop-value-init : goal.loop-value-init
loop-value-init c = (c.requires, sym (append-nil c.args.waiting.now.items))

pub loop-value-preserved : goal.loop-value-preserved
loop-value-preserved c = (
  c.in_ok-push_if_waiting.ensures.ok,
  waits_next (is_waiting c.args.plan.now c.args.slots.now) c.args.waiting.now.items c.args.values.now c.loop-value.value-index c.value-item.result
      c.loop-value.waiting.items c.push_if_waiting.new.waiting.items c.loop-value-test.true c.value-item.is c.loop-value.invariant.1 c.in_ok-push_if_waiting.ensures.items,
)

pub returns-clause-items : goal.returns-clause-items
returns-clause-items c =
    waits_all (is_waiting c.args.plan.now c.args.slots.now) c.args.waiting.now.items c.args.values.now c.loop-value.value-index c.loop-value.waiting.items
    c.loop-value-test.false c.loop-value.invariant.1
