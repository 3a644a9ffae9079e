use Rattle.std.proofs.Common.{◌∙◌, ap, subst, arith}
use Rattle.clif_safepoints.specs.Analysis.{found_across}
use Rattle.clif_spiller.specs.Plans.{HasMembers}
use Rattle.clif_spiller.proofs.Members.{collected_more}
use Rattle.clif_spiller.proofs.plan.Plan.new.Goals as goal

pub loop-number-preserved : goal.loop-number-preserved
loop-number-preserved c =
    let found = c.live_across.ensures ∙ ap (found_across c.args.liveness.now) c.new.ensures in
    collected_more c.args.liveness.now c.loop-number.number c.loop-number.spilled c.insert_all.new.set
    (subst (λ xs. HasMembers c.loop-number.spilled xs c.insert_all.new.set) found c.in_ok-insert_all.ensures.ok) c.loop-number.invariant

pub returns-clause-named : goal.returns-clause-named
returns-clause-named c v = (
  (λ member. let there = (c.loop-number.invariant v).0 member in (there.0, there.2)),
  (λ some.
      let below = c.requires.named some.0 v some.1 in
      (c.loop-number.invariant v).1 (some.0, omega (arith, below, c.loop-number-test.false, c.inst_count-number-end.ensures.exact), some.1)),
)
