use Rattle.std.proofs.Common.{◌≡◌, ◌∙◌, ℕ, [], ◌∷◌, length, Some, sym, ap₂, subst}
use Rattle.std.specs.FinMap as map
use Rattle.clif_stack_slots.specs.Slots.{assigned_in}
use Rattle.clif_ir.specs.Body.{Body, inst_at}
use Rattle.clif_stack_slots.specs.declared.slots.StackSlots.{StackSlots}
use Rattle.clif_spiller.specs.Acting.{ActsGiving}
use Rattle.clif_spiller.specs.Inserting.{inst_beside, with_store}
use Rattle.clif_spiller.specs.declared.accesses.Spot.{Spot}
use Rattle.clif_spiller.specs.Keeping.{Keeps}
use Rattle.clif_spiller.proofs.Storing.{gives_stored, gives_then, gives_unassigned, stored_home}
use Rattle.clif_spiller.proofs.Keeping.{goes_on_refl, slots_stay, spillable_stays}
use Rattle.clif_spiller.proofs.Putting.{with_store_keeps}
use Rattle.clif_spiller.specs.Text.{Stores}
use Rattle.clif_spiller.proofs.Text.Giving.{stores_assigned, stores_unassigned}
use Rattle.clif_spiller.proofs.definitions.store_value.Goals as goal
use Rattle.clif_spiller.proofs.definitions.store_value.Goals.{In_ok-spot}

pub returns-in_default-clause-ok : goal.returns-in_default-clause-ok
returns-in_default-clause-ok c = goes_on_refl (length c.args.func.now.blocks) c.args.func.now c.args.slots.now c.requires.slots

kept : (c : In_ok-spot) (n : ℕ) → Keeps n c.args.func.now c.store.new.func
kept c n =
    subst (Keeps n c.args.func.now) (sym c.in_ok-spot.ensures.ok)
    (with_store_keeps n c.args.func.now c.args.plan.now.pointer c.args.spot c.in-Some.slot c.args.value)

pub free-requires-clause-value : goal.free-requires-clause-value
free-requires-clause-value c =
    let has : map.get (assigned_in c.args.slots.now) c.args.value ≡ Some c.in-Some.slot = sym c.get.ensures ∙ c.in-Some.is in
    spillable_stays 0 c.args.func.now c.store.new.func (kept (goal.at.free-requires-clause-value c).In_ok-spot 0) c.args.value (c.requires.slots.values c.args.value c.in-Some.slot has)

pub free-requires-clause-slots : goal.free-requires-clause-slots
free-requires-clause-slots c =
    slots_stay 0 c.args.func.now c.store.new.func (kept (goal.at.free-requires-clause-slots c).In_ok-spot 0) c.args.slots.now c.requires.slots

pub returns-clause-ok : goal.returns-clause-ok
returns-clause-ok c = record { keeps = kept (goal.at.returns-clause-ok c).In_ok-spot (length c.args.func.now.blocks); slots = c.in_ok-free.ensures.ok }

pub free-requires-clause-has : goal.free-requires-clause-has
free-requires-clause-has c = sym c.get.ensures ∙ c.in-Some.is

pub returns-in_default-clause-acts : goal.returns-in_default-clause-acts
returns-in_default-clause-acts c = gives_unassigned (inst_at c.args.func.now (inst_beside c.args.spot)).block c.args.func.now c.args.slots.now c.args.value (sym c.get.ensures ∙ c.in_default.is)

pub returns-clause-acts : goal.returns-clause-acts
returns-clause-acts c =
    let f : Body = c.args.func.now in
    let a : StackSlots = c.args.slots.now in
    let home : ℕ = (inst_at f (inst_beside c.args.spot)).block in
    gives_then home f a c.store.new.func a c.store.new.func c.free.new.slots [] (c.args.value ∷ []) (kept (goal.at.returns-clause-acts c).In_ok-spot (length f.blocks))
    (subst (λ (g : Body). ActsGiving home f a g a []) (sym c.in_ok-spot.ensures.ok)
    (gives_stored f a c.args.plan.now.pointer c.args.spot c.in-Some.slot c.args.value c.requires.spot_exists))
    (c.in_ok-free.ensures.acts home)

pub returns-clause-home : goal.returns-clause-home
returns-clause-home c =
    ap₂ (λ (g : Body) (at : Spot). (inst_at g (inst_beside at)).block) c.in_ok-spot.ensures.ok c.in_ok-spot.ensures.spot
    ∙ stored_home c.args.func.now c.args.plan.now.pointer c.args.spot c.in-Some.slot c.args.value c.requires.spot_exists

pub returns-in_default-clause-stores : goal.returns-in_default-clause-stores
returns-in_default-clause-stores c = stores_unassigned c.args.plan.now c.args.func.now c.args.slots.now c.args.spot c.args.value (sym c.get.ensures ∙ c.in_default.is)

pub returns-clause-stores : goal.returns-clause-stores
returns-clause-stores c =
    let f : Body = c.args.func.now in
    let a : StackSlots = c.args.slots.now in
    subst (λ (g : Body). Stores c.args.plan.now f a c.args.spot g c.free.new.slots c.in_ok-spot.spot (c.args.value ∷ [])) (sym c.in_ok-spot.ensures.ok)
    (subst (λ (next : Spot). Stores c.args.plan.now f a c.args.spot (with_store f c.args.plan.now.pointer c.args.spot c.in-Some.slot c.args.value) c.free.new.slots next (c.args.value ∷ [])) (sym c.in_ok-spot.ensures.spot)
    (stores_assigned c.args.plan.now f a c.args.spot c.args.value c.in-Some.slot c.free.new.slots c.law_consistent.ensures.maps_known c.requires.value_exists
    (sym c.get.ensures ∙ c.in-Some.is) c.free.ensures.assigned))
