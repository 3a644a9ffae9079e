use Rattle.std.proofs.Common.{◌-◌, ◌<◌, ℕ, List, Bool, refl, subst, sym, arith, set, true}
use Rattle.clif_safepoints.proofs.Starting.{Waits, waits_all, waits_more}
use Rattle.clif_safepoints.proofs.work_list.start.Goals as goal

pub loop-place-preserved : goal.loop-place-preserved
loop-place-preserved c =
    let there : c.index-order-place.result < c.args.blocks = subst (λ b. b < c.args.blocks) (sym c.index-order-place.is) (c.requires (c.loop-place.place - 1) c.index-order-place.result (omega arith)) in
    let more = waits_more c.args.blocks c.args.order.now c.loop-place.place c.index-order-place.result c.index.result c.loop-place.stack.items c.loop-place.waits
    c.loop-place-test.true c.loop-place.auto.place c.index-order-place.is c.index.ensures.place there c.loop-place.invariant in
    let State : List ℕ → List Bool → Type 0 = λ stack waits. Waits c.args.blocks c.args.order.now (c.loop-place.place - 1) stack waits in
    subst (λ waits. State c.push.new.self.items waits) (sym c.insert.ensures)
    (subst (λ stack. State stack (set c.loop-place.waits c.index.result true)) (sym c.in_ok-push.ensures.items) more)

pub returns-clause-ok : goal.returns-clause-ok
returns-clause-ok c = (
  waits_all c.args.blocks c.args.places c.args.order.now c.loop-place.stack.items c.in_ok-sets.sets.items c.loop-place.waits c.loop-place.place c.loop-place-test.false
      c.in_ok-sets.ensures.ok c.loop-place.invariant,
  refl,
)
