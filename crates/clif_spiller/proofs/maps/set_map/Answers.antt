use Rattle.std.proofs.Common.{◌≡◌, ◌∙◌, ◌<◌, ◌+◌, ℕ, List, [], ◌∷◌, ◌++◌, length, take, Ok, Err, refl, sym, ap, subst, arith}
use Rattle.std.specs.Prelude.{Contains}
use Rattle.std.proofs.lemmas.List.Elements.{All-nil, All-push, All-weaker}
use Rattle.std.proofs.lemmas.Result.{err_from_is_err_and}
use Rattle.clif_types.specs.declared.error.BuildError.{BuildError}
use Rattle.clif_types.specs.declared.error.BuildError.TheVariants.{Failed, Full}
use Rattle.clif_types.specs.declared.stackmap.UserStackMapEntry.{UserStackMapEntry}
use Rattle.std.proofs.lemmas.List.{take_all}
use Rattle.clif_ir.specs.Body.{Body, value_at}
use Rattle.clif_safepoints.specs.Analysis.{found_across}
use Rattle.clif_stack_slots.specs.declared.slots.StackSlots.{StackSlots}
use Rattle.clif_spiller.specs.Acting.{ActsMapping}
use Rattle.clif_spiller.proofs.Needing.{take_one_more}
use Rattle.clif_spiller.proofs.Sizes.{size_of}
use Rattle.clif_spiller.proofs.StackMaps.{MapsFirst, mapped, next_entry, no_entry_yet}
use Rattle.clif_spiller.specs.Keeping.{Keeps}
use Rattle.clif_spiller.specs.Plans.{MayBeSpilled}
use Rattle.clif_spiller.proofs.Giving.{IsGiven, IsRefused, given_slot, gives_of, refused_slot}
use Rattle.clif_spiller.proofs.Keeping.{goes_beside, goes_further, more_slots, on_ok, plan_stays, spillable_stays, with_stack_map_keeps}
use Rattle.clif_spiller.proofs.maps.set_map.Goals as goal
use Rattle.clif_spiller.proofs.maps.set_map.Goals.{After-get_or_create_stack_slot, After-value-item}

pub loop-value-init : goal.loop-value-init
loop-value-init c =
    subst (MapsFirst c.args.plan.now c.args.func.now c.args.slots.now [] c.args.func.now c.args.slots.now) (sym c.new-entries.ensures.items)
    (no_entry_yet c.args.plan.now c.args.func.now c.args.slots.now c.requires.slots (All-nil (λ (entry : UserStackMapEntry). entry.slot < length c.args.func.now.tables.stack_slots)))

-- a value that is live across the call is spilled
is_spilled : (c : After-value-item) → Contains c.args.plan.now.spilled c.value-item.result
is_spilled c =
    let found = subst (λ xs. Contains xs c.value-item.result) c.live_across-value-items.ensures (c.loop-value.value-index, c.loop-value-test.true, sym c.value-item.is) in
    (c.requires.plan.named c.value-item.result).1 (c.args.inst, found)

-- and so it may be
spillable : (c : After-value-item) → MayBeSpilled c.loop-value.func c.value-item.result
spillable c =
    (plan_stays (length c.args.func.now.blocks) c.args.func.now c.loop-value.func c.loop-value.invariant.goes.keeps c.args.plan.now c.requires.plan).spillable
    c.value-item.result (is_spilled c)

pub get_or_create_stack_slot-requires-clause-exists : goal.get_or_create_stack_slot-requires-clause-exists
get_or_create_stack_slot-requires-clause-exists c = (spillable (goal.at.get_or_create_stack_slot-requires-clause-exists c).After-value-item).exists

pub get_or_create_stack_slot-requires-clause-fits : goal.get_or_create_stack_slot-requires-clause-fits
get_or_create_stack_slot-requires-clause-fits c = (spillable (goal.at.get_or_create_stack_slot-requires-clause-fits c).After-value-item).fits

refusal : (c : After-get_or_create_stack_slot) → MayBeSpilled c.loop-value.func c.value-item.result → (error : BuildError) → c.get_or_create_stack_slot.result ≡ Err error → IsRefused c.get_or_create_stack_slot.new.func error
refusal c may error is =
    refused_slot c.loop-value.func c.loop-value.slots c.value-item.result may c.get_or_create_stack_slot.new.func c.get_or_create_stack_slot.new.self
    c.get_or_create_stack_slot.result c.get_or_create_stack_slot.ensures error is

gift : (c : After-get_or_create_stack_slot) → MayBeSpilled c.loop-value.func c.value-item.result → (slot : ℕ) → c.get_or_create_stack_slot.result ≡ Ok slot
    → IsGiven c.loop-value.func c.loop-value.slots c.get_or_create_stack_slot.new.func c.get_or_create_stack_slot.new.self slot
gift c may slot is =
    given_slot c.loop-value.func c.loop-value.slots c.value-item.result may c.get_or_create_stack_slot.new.func c.get_or_create_stack_slot.new.self
    c.get_or_create_stack_slot.result c.get_or_create_stack_slot.ensures slot is c.loop-value.invariant.goes.slots

pub returns-in_err-slot-clause-full : goal.returns-in_err-slot-clause-full
returns-in_err-slot-clause-full c is =
    let p = err_from_is_err_and c.from_residual.result c.from_residual.ensures.1 in
    let was : c.in_err-slot.field-0.0 ≡ Full = let both = ap Err (sym p.2) ∙ sym p.1 ∙ is in cc in
    (refusal (goal.at.returns-in_err-slot-clause-full c).After-get_or_create_stack_slot (spillable (goal.at.returns-in_err-slot-clause-full c).After-value-item) c.in_err-slot.field-0.0 c.in_err-slot.was).full was

pub returns-in_err-slot-clause-never_failed : goal.returns-in_err-slot-clause-never_failed
returns-in_err-slot-clause-never_failed c is =
    let p = err_from_is_err_and c.from_residual.result c.from_residual.ensures.1 in
    let was : c.in_err-slot.field-0.0 ≡ Failed = let both = ap Err (sym p.2) ∙ sym p.1 ∙ is in cc in
    (refusal (goal.at.returns-in_err-slot-clause-never_failed c).After-get_or_create_stack_slot (spillable (goal.at.returns-in_err-slot-clause-never_failed c).After-value-item) c.in_err-slot.field-0.0 c.in_err-slot.was).never_failed was

pub value_type-requires : goal.value_type-requires
value_type-requires c =
    let now = (goal.at.value_type-requires c).After-get_or_create_stack_slot in
    (spillable_stays 0 c.loop-value.func c.get_or_create_stack_slot.new.func ((gift now (spillable (goal.at.value_type-requires c).After-value-item) c.in_ok-slot.slot c.in_ok-slot.was).keeps 0) c.value-item.result
    (spillable (goal.at.value_type-requires c).After-value-item)).exists

pub loop-value-preserved : goal.loop-value-preserved
loop-value-preserved c =
    let now = (goal.at.loop-value-preserved c).After-get_or_create_stack_slot in
    let item = (goal.at.loop-value-preserved c).After-value-item in
    let may = spillable item in
    let g : Body = c.loop-value.func in
    let h : Body = c.get_or_create_stack_slot.new.func in
    let b : StackSlots = c.loop-value.slots in
    let value : ℕ = c.value-item.result in
    let gift = gift now may c.in_ok-slot.slot c.in_ok-slot.was in
    let more = more_slots 0 g h (gift.keeps 0) in
    let P : UserStackMapEntry → Type 0 = λ entry. entry.slot < length h.tables.stack_slots in
    let old = All-weaker (λ (entry : UserStackMapEntry). entry.slot < length g.tables.stack_slots) P (λ entry inside. omega (arith, inside, more))
    c.loop-value.entries.items c.loop-value.invariant.named in
    let slot_size = size_of (value_at g value).ty may.fits in
    let entry : UserStackMapEntry = record { ty = c.value_type.result; slot = c.in_ok-slot.slot; offset = 0 } in
    subst (λ (entries : List UserStackMapEntry). MapsFirst c.args.plan.now c.args.func.now c.args.slots.now (take (c.loop-value.value-index + 1) c.live_across-value-items.result.now) h c.get_or_create_stack_slot.new.self entries)
    (sym c.in_ok-push.ensures.items)
    (subst (λ (xs : List ℕ). MapsFirst c.args.plan.now c.args.func.now c.args.slots.now xs h c.get_or_create_stack_slot.new.self (c.loop-value.entries.items ++ entry ∷ []))
    (ap (λ x. take c.loop-value.value-index c.live_across-value-items.result.now ++ x ∷ []) c.value-item.is
    ∙ sym (take_one_more c.live_across-value-items.result.now c.loop-value.value-index value c.loop-value-test.true))
    (next_entry c.args.plan.now c.args.func.now c.args.slots.now (take c.loop-value.value-index c.live_across-value-items.result.now) g b c.loop-value.entries.items
    c.loop-value.invariant value c.in_ok-slot.slot (is_spilled item) slot_size.0 slot_size.1 h c.get_or_create_stack_slot.new.self
    (gives_of g b value may h c.get_or_create_stack_slot.new.self c.get_or_create_stack_slot.result c.get_or_create_stack_slot.ensures (Ok c.in_ok-slot.slot) c.in_ok-slot.was)
    gift entry c.value_type.ensures refl refl (All-push P c.loop-value.entries.items _ old gift.exists)))

pub returns-clause-ok : goal.returns-clause-ok
returns-clause-ok c =
    on_ok c.set_stack_map.result
    (λ made.
    goes_further c.args.func.now c.args.slots.now c.loop-value.func c.loop-value.slots c.set_stack_map.new.self c.loop-value.slots c.loop-value.invariant.goes
    (goes_beside (length c.loop-value.func.blocks) c.loop-value.func c.loop-value.slots c.set_stack_map.new.self c.loop-value.invariant.goes.slots
    (subst (Keeps (length c.loop-value.func.blocks) c.loop-value.func) (sym made)
    (with_stack_map_keeps (length c.loop-value.func.blocks) c.loop-value.func c.args.inst c.loop-value.entries.items))))
    c.set_stack_map.ensures.ok

pub returns-clause-acts : goal.returns-clause-acts
returns-clause-acts c =
    on_ok c.set_stack_map.result
    (λ made.
    subst (λ (h : Body). ActsMapping c.args.plan.now c.args.inst c.args.func.now c.args.slots.now h c.loop-value.slots (found_across c.args.plan.now.liveness.now c.args.inst)) (sym made)
    (subst (ActsMapping c.args.plan.now c.args.inst c.args.func.now c.args.slots.now _ c.loop-value.slots)
    (take_all c.loop-value.value-index c.live_across-value-items.result.now c.loop-value-test.false ∙ c.live_across-value-items.ensures)
    (mapped c.args.plan.now c.args.inst c.args.func.now c.args.slots.now (take c.loop-value.value-index c.live_across-value-items.result.now) c.loop-value.func c.loop-value.slots
    c.loop-value.entries.items c.loop-value.invariant)))
    c.set_stack_map.ensures.ok
