use Rattle.std.proofs.Common.{◌∙◌, ◌-◌, ℕ, ap, arith, inr}
use Rattle.clif_regions.proofs.Chains.{all_asked, ended, goes_on, still_inside}
use Rattle.clif_regions.proofs.asking.ask_regions.Goals as goal

pub loop-number-preserved : goal.loop-number-preserved
loop-number-preserved g c =
    let from = c.loop-number.invariant.1 in
    let test = c.loop-number-test.true in
    let count = c.inst_count-count.ensures.exact in (
      goes_on _ c.args.first c.loop-number.number _ c.args.func.now c.loop-number.func c.ask_at.new.func c.new.ensures from
          (still_inside _ c.args.first c.loop-number.number c.args.func.now c.loop-number.func (omega (arith, test, count)) c.loop-number.invariant.0)
          c.loop-number.invariant.0 c.in_ok-ask_at.ensures.ok,
      omega (arith, from),
      inr (omega (arith, test)),
    )

pub returns-clause-answered : goal.returns-clause-answered
returns-clause-answered g c =
    let test = c.loop-number-test.false in
    let count = c.inst_count-count.ensures.exact in
    all_asked _ c.args.first c.loop-number.number c.args.func.now c.loop-number.func (ended c.args.first c.loop-number.number _ c.loop-number.invariant.2 (omega (arith, test)) ∙ ap (λ (n : ℕ). n - c.args.first) count)
    c.loop-number.invariant.0
