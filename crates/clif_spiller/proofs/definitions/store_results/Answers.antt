use Rattle.std.proofs.Common.{◌≡◌, ◌∙◌, ◌<◌, ℕ, List, [], ◌∷◌, length, get_or, refl, ap, subst, arith}
use Rattle.clif_nodes.specs.declared.nodes.InstNode.{InstNode}
use Rattle.clif_ir.specs.Body.{Body, inst_at}
use Rattle.clif_spiller.specs.Acting.{ActsGiving}
use Rattle.clif_spiller.proofs.Storing.{all_given, next_given, none_given_yet}
use Rattle.clif_spiller.specs.declared.accesses.Spot.TheVariants as spot
use Rattle.clif_spiller.proofs.Text.Giving.{stores_all, stores_next, stores_nothing}
use Rattle.clif_spiller.proofs.definitions.store_results.Goals as goal

pub loop-place-init : goal.loop-place-init
loop-place-init c = (
  none_given_yet (inst_at c.args.func.now c.args.inst).block c.args.func.now c.args.slots.now (inst_at c.args.func.now c.args.inst).results c.requires.slots,
  c.requires.inst_exists,
  refl,
  stores_nothing c.args.plan.now c.args.func.now c.args.slots.now (spot.After c.args.inst),
)

pub loop-place-preserved : goal.loop-place-preserved
loop-place-preserved c =
    let f : Body = c.args.func.now in
    let g : Body = c.loop-place.func in
    let value : ℕ = c.index-inst_results-place.result in
    let so_far = c.loop-place.invariant.0 in
    let inside : c.loop-place.place < length (inst_at f c.args.inst).results =
    omega (arith, c.loop-place-test.true, ap (λ (xs : List ℕ). length xs) c.inst_results-place-end.ensures.exact) in
    let is : value ≡ get_or (inst_at f c.args.inst).results c.loop-place.place value =
    c.index-inst_results-place.is
    ∙ ap (λ (xs : List ℕ). get_or xs c.loop-place.place value) (c.inst_results.ensures.exact ∙ ap (λ (m : InstNode). m.results) (so_far.acts.nodes c.args.inst c.requires.inst_exists)) in (
      next_given (inst_at f c.args.inst).block f c.args.slots.now (inst_at f c.args.inst).results c.loop-place.place g c.loop-place.slots c.store_value.new.func c.store_value.new.slots value inside is
          so_far c.in_ok-spot.ensures.ok
          (subst (λ (home : ℕ). ActsGiving home g c.loop-place.slots c.store_value.new.func c.store_value.new.slots (value ∷ [])) c.loop-place.invariant.2 c.in_ok-spot.ensures.acts),
      c.in_ok-spot.ensures.spot,
      c.in_ok-spot.ensures.home ∙ c.loop-place.invariant.2,
      stores_next c.args.plan.now f c.args.slots.now (spot.After c.args.inst) g c.loop-place.slots c.loop-place.spot c.store_value.new.func c.store_value.new.slots c.in_ok-spot.spot
          (inst_at f c.args.inst).results c.loop-place.place value (length g.blocks) inside is c.in_ok-spot.ensures.ok.keeps
          (λ i from to. (c.in_ok-spot.ensures.acts.nodes i to, c.in_ok-spot.ensures.acts.maps i)) c.loop-place.invariant.3 c.in_ok-spot.ensures.stores,
    )

pub returns-clause-acts : goal.returns-clause-acts
returns-clause-acts c =
    all_given (inst_at c.args.func.now c.args.inst).block c.args.func.now c.args.slots.now (inst_at c.args.func.now c.args.inst).results c.loop-place.place c.loop-place.func c.loop-place.slots
    (omega (arith, c.loop-place-test.false, ap (λ (xs : List ℕ). length xs) c.inst_results-place-end.ensures.exact)) c.loop-place.invariant.0

pub returns-clause-stores : goal.returns-clause-stores
returns-clause-stores c = (
  c.loop-place.spot,
  stores_all c.args.plan.now c.args.func.now c.args.slots.now (spot.After c.args.inst) c.loop-place.func c.loop-place.slots c.loop-place.spot
      (inst_at c.args.func.now c.args.inst).results c.loop-place.place
      (omega (arith, c.loop-place-test.false, ap (λ (xs : List ℕ). length xs) c.inst_results-place-end.ensures.exact)) c.loop-place.invariant.3,
)
