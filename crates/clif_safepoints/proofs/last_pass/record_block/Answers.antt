use Rattle.std.proofs.Common.{◌≡◌, false, length, arith, subst, ◌∙◌}
use Rattle.clif_number_sets.specs.Sets.{IsSet}
use Rattle.clif_safepoints.specs.Sets.{in_set_of}
use Rattle.clif_safepoints.proofs.Recording.{recorded_all, recorded_more, recorded_none}
use Rattle.clif_safepoints.proofs.Scanning.{IsLiveFrom, at_end, one_before_at_once}
use Rattle.clif_safepoints.proofs.last_pass.record_block.Goals as goal

pub loop-place-init : goal.loop-place-init
loop-place-init c =
    let none : IsSet (length c.args.recorded.now) (λ k. false) c.clear.new.self = subst (λ n. IsSet n (λ k. false) c.clear.new.self) c.requires.live c.clear.ensures in (
      at_end c.args.func.now (in_set_of c.args.live_ins.now) c.args.recorded.now c.args.insts.now (length c.args.insts.now) c.clear.new.self (omega arith) none,
      recorded_none c.args.func.now c.args.recorded.now c.args.live_ins.now c.args.insts.now (length c.args.insts.now) c.args.across.now.items (omega arith),
    )

pub record_inst-requires-clause-across : goal.record_inst-requires-clause-across
record_inst-requires-clause-across c = c.loop-place.invariant.1.size ∙ c.requires.across

pub loop-place-preserved : goal.loop-place-preserved
loop-place-preserved c = (
  one_before_at_once c.args.func.now (in_set_of c.args.live_ins.now) c.args.recorded.now c.args.insts.now c.loop-place.place c.index-insts-place.result
      c.loop-place.live c.record_inst.new.live c.loop-place-test.true c.loop-place.auto.place c.index-insts-place.is c.loop-place.invariant.0 c.in_ok-record_inst.ensures.live,
  recorded_more c.args.func.now c.args.recorded.now c.args.live_ins.now c.args.insts.now c.loop-place.place c.index-insts-place.result c.loop-place.live
      c.args.across.now.items c.loop-place.across.items c.record_inst.new.across.items c.requires.once c.loop-place-test.true c.loop-place.auto.place c.index-insts-place.is
      c.loop-place.invariant.0 c.in_ok-record_inst.ensures.put c.loop-place.invariant.1,
)

pub returns-clause-ok : goal.returns-clause-ok
returns-clause-ok c =
    recorded_all c.args.func.now c.args.recorded.now c.args.live_ins.now c.args.insts.now c.loop-place.place c.args.across.now.items c.loop-place.across.items
    c.loop-place-test.false c.loop-place.invariant.1

pub returns-clause-before : goal.returns-clause-before
returns-clause-before c =
    subst (λ n. IsLiveFrom c.args.func.now (in_set_of c.args.live_ins.now) c.args.recorded.now c.args.insts.now n c.loop-place.live)
    (let e : c.loop-place.place ≡ 0 = omega arith in e) c.loop-place.invariant.0
