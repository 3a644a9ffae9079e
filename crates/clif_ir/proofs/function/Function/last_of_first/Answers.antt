use Rattle.std.proofs.Common.{◌≡◌, ◌+◌, ◌-◌, ◌∙◌, ℕ, List, ap, arith, sym}
use Rattle.std.specs.Prelude.{slice_get}
use Rattle.clif_ir.specs.Body.{block_at}
use Rattle.clif_ir.proofs.Neighbours.{before-more}
use Rattle.clif_ir.proofs.Rows.{IsStep, inside_some, step_along}
use Rattle.clif_ir.proofs.function.Function.last_of_first.Goals as goal

pub next_inst-requires : goal.next_inst-requires
next_inst-requires c =
    (step_along c.args.self.now c.args.block c.loop-place.place c.loop-place.inst c.law_consistent.ensures c.loop-place.auto.place c.loop-place.invariant).exists

pub loop-place-init : goal.loop-place-init
loop-place-init c = sym c.first_inst.ensures.exact ∙ c.in_ok-inst.was

pub loop-place-preserved : goal.loop-place-preserved
loop-place-preserved c =
    let step : IsStep c.args.self.now c.args.block c.loop-place.place c.loop-place.inst =
    step_along c.args.self.now c.args.block c.loop-place.place c.loop-place.inst c.law_consistent.ensures c.loop-place.auto.place c.loop-place.invariant in
    let same : (c.loop-place.place + 1) - 1 ≡ c.loop-place.place = omega arith in
    ap (slice_get (block_at c.args.self.now c.args.block).insts) same ∙ sym step.next ∙ sym c.next_inst.ensures.exact ∙ c.in-Some.is

pub unreachable-requires : goal.unreachable-requires
unreachable-requires c =
    let step : IsStep c.args.self.now c.args.block c.loop-place.place c.loop-place.inst =
    step_along c.args.self.now c.args.block c.loop-place.place c.loop-place.inst c.law_consistent.ensures c.loop-place.auto.place c.loop-place.invariant in
    inside_some (block_at c.args.self.now c.args.block).insts c.loop-place.place (omega (arith, c.loop-place-test.true, c.requires.fits))
    (sym step.next ∙ sym c.next_inst.ensures.exact ∙ c.in_default.is)

pub returns : goal.returns
returns c =
    let insts : List ℕ = (block_at c.args.self.now c.args.block).insts in
    let last : c.args.count - 1 ≡ c.loop-place.place - 1 = omega arith in
    let more : c.args.count ≡ (c.args.count - 1) + 1 = omega arith in
    sym (before-more insts (c.args.count - 1) c.args.count more ∙ ap (slice_get insts) last ∙ c.loop-place.invariant)
