use Rattle.std.proofs.Common.{◌≡◌, ◌&&◌, List, ℕ, false, not, length, slice_index, arith, subst}
use Rattle.clif_instructions.specs.Members.{stands_in}
use Rattle.clif_number_sets.specs.Sets.{IsSet, is_in}
use Rattle.clif_safepoints.specs.Sets.{in_set_of}
use Rattle.clif_safepoints.proofs.Scanning.{IsLiveFrom, at_end, at_front, one_before}
use Rattle.clif_safepoints.proofs.scan.scan_block.Goals as goal

pub loop-place-init : goal.loop-place-init
loop-place-init c =
    let none : IsSet (length c.args.recorded.now) (λ k. false) c.clear.new.self = subst (λ n. IsSet n (λ k. false) c.clear.new.self) c.requires.size c.clear.ensures in
    at_end c.args.func.now (in_set_of c.args.live_ins.now) c.args.recorded.now c.args.insts.now (length c.args.insts.now) c.clear.new.self (omega arith) none

pub loop-place-preserved : goal.loop-place-preserved
loop-place-preserved c =
    one_before c.args.func.now (in_set_of c.args.live_ins.now) c.args.recorded.now c.args.insts.now c.loop-place.place c.index-insts-place.result
    c.loop-place.live c.step_behind.new.live c.step_before.new.live c.loop-place-test.true c.loop-place.auto.place c.index-insts-place.is
    c.loop-place.invariant c.step_behind.ensures c.step_before.ensures

pub returns : goal.returns
returns c =
    let from : IsLiveFrom c.args.func.now (in_set_of c.args.live_ins.now) c.args.recorded.now c.args.insts.now 0 c.loop-place.live =
    subst (λ n. IsLiveFrom c.args.func.now (in_set_of c.args.live_ins.now) c.args.recorded.now c.args.insts.now n c.loop-place.live)
    (let e : c.loop-place.place ≡ 0 = omega arith in e) c.loop-place.invariant in
    let P : List ℕ → Type 0 = λ params.
    IsSet (length c.args.recorded.now) (λ k. not (stands_in (slice_index c.args.recorded.now k) params) && is_in c.loop-place.live k) c.remove_defs.new.live in
    at_front c.args.func.now (in_set_of c.args.live_ins.now) c.args.recorded.now c.args.insts.now c.args.block c.loop-place.live c.remove_defs.new.live
    c.requires.insts from (subst P c.block_params.ensures.exact c.remove_defs.ensures)
