use Rattle.std.proofs.Common.{◌≡◌, ◌∙◌, ◌<◌, ℕ, List, [], ◌∷◌, length, get_or, refl, ap, subst, arith}
use Rattle.clif_ir.specs.Body.{Body, block_at, inst_at}
use Rattle.clif_nodes.specs.declared.nodes.InstNode.{InstNode}
use Rattle.clif_spiller.specs.Acting.{ActsGiving}
use Rattle.clif_spiller.proofs.Storing.{all_given, next_given, none_given_yet}
use Rattle.clif_stack_slots.specs.declared.slots.StackSlots.{StackSlots}
use Rattle.clif_spiller.specs.Text.{Stores, StoresBefore}
use Rattle.clif_spiller.specs.declared.accesses.Spot.{Spot}
use Rattle.clif_spiller.specs.declared.accesses.Spot.TheVariants as spot
use Rattle.clif_spiller.specs.declared.plan.Plan.{Plan}
use Rattle.clif_spiller.proofs.Text.Giving.{stores_all, stores_next, stores_nothing}
use Rattle.clif_spiller.proofs.definitions.store_params.Goals as goal

-- after a store before an instruction the next one comes before it, too
next_before : (plan : Plan) (g : Body) (b : StackSlots) (h : Body) (c : StackSlots) (first : ℕ) (next : Spot) (value : ℕ)
    → Stores plan g b (spot.Before first) h c next (value ∷ []) → StoresBefore plan first g b h c (value ∷ [])
next_before plan g b h c first next value stores = subst (λ (at : Spot). Stores plan g b (spot.Before first) h c at (value ∷ [])) (stores.before first refl) stores

pub loop-place-init : goal.loop-place-init
loop-place-init c = (
  none_given_yet (inst_at c.args.func.now c.args.first).block c.args.func.now c.args.slots.now (block_at c.args.func.now c.args.block).params c.requires.slots,
  stores_nothing c.args.plan.now c.args.func.now c.args.slots.now (spot.Before c.args.first),
)

pub loop-place-preserved : goal.loop-place-preserved
loop-place-preserved c =
    let f : Body = c.args.func.now in
    let g : Body = c.loop-place.func in
    let value : ℕ = c.index-block_params-place.result in
    let so_far = c.loop-place.invariant.0 in
    let inside : c.loop-place.place < length (block_at f c.args.block).params =
    omega (arith, c.loop-place-test.true, ap (λ (xs : List ℕ). length xs) c.block_params-place-end.ensures.exact) in
    let is : value ≡ get_or (block_at f c.args.block).params c.loop-place.place value =
    c.index-block_params-place.is
    ∙ ap (λ (xs : List ℕ). get_or xs c.loop-place.place value) (c.block_params.ensures.exact ∙ so_far.goes.keeps.params c.args.block c.requires.block_exists) in
    let stored = next_before c.args.plan.now g c.loop-place.slots c.store_value.new.func c.store_value.new.slots c.args.first c.in_ok-store_value.field-0 value c.in_ok-store_value.ensures.stores in (
      next_given (inst_at f c.args.first).block f c.args.slots.now (block_at f c.args.block).params c.loop-place.place g c.loop-place.slots c.store_value.new.func c.store_value.new.slots value inside is
          so_far c.in_ok-store_value.ensures.ok
          (subst (λ (home : ℕ). ActsGiving home g c.loop-place.slots c.store_value.new.func c.store_value.new.slots (value ∷ []))
          (ap (λ (m : InstNode). m.block) (so_far.acts.nodes c.args.first c.requires.first_exists)) c.in_ok-store_value.ensures.acts),
      stores_next c.args.plan.now f c.args.slots.now (spot.Before c.args.first) g c.loop-place.slots (spot.Before c.args.first) c.store_value.new.func c.store_value.new.slots
          (spot.Before c.args.first) (block_at f c.args.block).params c.loop-place.place value (length g.blocks) inside is c.in_ok-store_value.ensures.ok.keeps
          (λ i from to. (c.in_ok-store_value.ensures.acts.nodes i to, c.in_ok-store_value.ensures.acts.maps i)) c.loop-place.invariant.1 stored,
    )

pub returns-clause-acts : goal.returns-clause-acts
returns-clause-acts c =
    all_given (inst_at c.args.func.now c.args.first).block c.args.func.now c.args.slots.now (block_at c.args.func.now c.args.block).params c.loop-place.place c.loop-place.func c.loop-place.slots
    (omega (arith, c.loop-place-test.false, ap (λ (xs : List ℕ). length xs) c.block_params-place-end.ensures.exact)) c.loop-place.invariant.0

pub returns-clause-stores : goal.returns-clause-stores
returns-clause-stores c =
    stores_all c.args.plan.now c.args.func.now c.args.slots.now (spot.Before c.args.first) c.loop-place.func c.loop-place.slots (spot.Before c.args.first)
    (block_at c.args.func.now c.args.block).params c.loop-place.place
    (omega (arith, c.loop-place-test.false, ap (λ (xs : List ℕ). length xs) c.block_params-place-end.ensures.exact)) c.loop-place.invariant.1
