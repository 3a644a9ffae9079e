use Rattle.std.proofs.Common.{◌≡◌, ◌∙◌, ◌≤◌, ℕ, List, [], ◌∷◌, ◌++◌, length, take, Ok, Err, sym, ap, subst}
use Rattle.std.specs.Prelude.{All, Contains, filter}
use Rattle.std.specs.List.Sorted.{IsPermutation}
use Rattle.std.proofs.lemmas.List.{take_all}
use Rattle.std.proofs.lemmas.List.Elements.{All-nil}
use Rattle.clif_instructions.specs.Instruction.{destinations}
use Rattle.clif_instructions.specs.declared.block_call.BlockCall.{BlockCall}
use Rattle.clif_spiller.specs.Acting.{is_waiting}
use Rattle.std.proofs.lemmas.List.Sorted.{All-permutation}
use Rattle.std.proofs.lemmas.Result.{err_from_is_err_and}
use Rattle.clif_types.specs.declared.error.BuildError.{BuildError}
use Rattle.clif_types.specs.declared.error.BuildError.TheVariants.{Failed, Full}
use Rattle.clif_ir.specs.Body.{Body, inst_at, value_at}
use Rattle.clif_spiller.specs.Plans.{MayBeSpilled}
use Rattle.clif_spiller.proofs.Needing.{take_one_more}
use Rattle.clif_spiller.proofs.Sizes.{size_of}
use Rattle.clif_spiller.proofs.Waiting.{NeedsFirst, WaitsFor, next_needed, none_needed_yet, taken_ahead, waits_for_next, waits_for_none}
use Rattle.clif_spiller.proofs.Giving.{IsRefused, given_slot, gives_of, refused_slot}
use Rattle.clif_spiller.proofs.Keeping.{plan_stays}
use Rattle.clif_spiller.proofs.maps.take_live_outs.Goals as goal
use Rattle.clif_spiller.proofs.maps.take_live_outs.Goals.{After-get_or_create_stack_slot, After-value-item}

pub loop-edge-init : goal.loop-edge-init
loop-edge-init c =
    let edges : List BlockCall = c.branch_destination-edge-items.result.now in (
      subst (λ (xs : List ℕ). All (Contains c.args.plan.now.spilled) xs) (sym c.new-waiting.ensures.items) (All-nil (Contains c.args.plan.now.spilled)),
      subst (WaitsFor c.args.plan.now c.args.slots.now edges 0) (sym c.new-waiting.ensures.items) (waits_for_none c.args.plan.now c.args.slots.now edges),
    )

pub loop-edge-preserved : goal.loop-edge-preserved
loop-edge-preserved c = (
  c.in_ok-push_waiting.ensures.ok,
  waits_for_next c.args.plan.now c.args.slots.now c.branch_destination-edge-items.result.now c.loop-edge.edge-index c.loop-edge.waiting.items c.push_waiting.new.waiting.items c.edge-item.result c.loop-edge-test.true
      c.edge-item.is c.loop-edge.invariant.1
      (c.in_ok-push_waiting.ensures.items
      ∙ ap (λ (xs : List ℕ). c.loop-edge.waiting.items ++ filter (is_waiting c.args.plan.now c.args.slots.now) xs) c.live_in.ensures),
)

pub loop-value-init : goal.loop-value-init
loop-value-init c = none_needed_yet c.args.plan.now c.args.func.now c.args.slots.now c.requires.slots

-- a value that waits for a slot is spilled
is_spilled : (c : After-value-item) → Contains c.args.plan.now.spilled c.value-item.result
is_spilled c =
    let P : ℕ → Type 0 = Contains c.args.plan.now.spilled in
    let sorted : All P c.deref-value-items.result.now =
    subst (λ (xs : List ℕ). All P xs) (sym c.deref-value-items.ensures.value) (All-permutation P c.loop-edge.waiting.items c.sort_unstable.new.self.items c.sort_unstable.ensures.permutation c.loop-edge.invariant.0) in
    subst P (sym c.value-item.is) (sorted c.loop-value.value-index c.value-item.result c.loop-value-test.true)

-- and so it may be
spillable : (c : After-value-item) → MayBeSpilled c.loop-value.func c.value-item.result
spillable c =
    (plan_stays (length c.args.func.now.blocks) c.args.func.now c.loop-value.func c.loop-value.invariant.goes.keeps c.args.plan.now c.requires.plan).spillable
    c.value-item.result (is_spilled c)

pub get_or_create_stack_slot-requires-clause-exists : goal.get_or_create_stack_slot-requires-clause-exists
get_or_create_stack_slot-requires-clause-exists c = (spillable (goal.at.get_or_create_stack_slot-requires-clause-exists c).After-value-item).exists

pub get_or_create_stack_slot-requires-clause-fits : goal.get_or_create_stack_slot-requires-clause-fits
get_or_create_stack_slot-requires-clause-fits c = (spillable (goal.at.get_or_create_stack_slot-requires-clause-fits c).After-value-item).fits

refusal : (c : After-get_or_create_stack_slot) → MayBeSpilled c.loop-value.func c.value-item.result → (error : BuildError) → c.get_or_create_stack_slot.result ≡ Err error
    → IsRefused c.get_or_create_stack_slot.new.func error
refusal c may error is =
    refused_slot c.loop-value.func c.loop-value.slots c.value-item.result may c.get_or_create_stack_slot.new.func c.get_or_create_stack_slot.new.self
    c.get_or_create_stack_slot.result c.get_or_create_stack_slot.ensures error is

pub returns-in_err-get_or_create_stack_slot-clause-full : goal.returns-in_err-get_or_create_stack_slot-clause-full
returns-in_err-get_or_create_stack_slot-clause-full c is =
    let p = err_from_is_err_and c.from_residual-in_err-get_or_create_stack_slot.result c.from_residual-in_err-get_or_create_stack_slot.ensures.1 in
    let was : c.in_err-get_or_create_stack_slot.field-0.0 ≡ Full = let both = ap Err (sym p.2) ∙ sym p.1 ∙ is in cc in
    (refusal (goal.at.returns-in_err-get_or_create_stack_slot-clause-full c).After-get_or_create_stack_slot
    (spillable (goal.at.returns-in_err-get_or_create_stack_slot-clause-full c).After-value-item) c.in_err-get_or_create_stack_slot.field-0.0 c.in_err-get_or_create_stack_slot.was).full was

pub returns-in_err-get_or_create_stack_slot-clause-never_failed : goal.returns-in_err-get_or_create_stack_slot-clause-never_failed
returns-in_err-get_or_create_stack_slot-clause-never_failed c is =
    let p = err_from_is_err_and c.from_residual-in_err-get_or_create_stack_slot.result c.from_residual-in_err-get_or_create_stack_slot.ensures.1 in
    let was : c.in_err-get_or_create_stack_slot.field-0.0 ≡ Failed = let both = ap Err (sym p.2) ∙ sym p.1 ∙ is in cc in
    (refusal (goal.at.returns-in_err-get_or_create_stack_slot-clause-never_failed c).After-get_or_create_stack_slot
    (spillable (goal.at.returns-in_err-get_or_create_stack_slot-clause-never_failed c).After-value-item) c.in_err-get_or_create_stack_slot.field-0.0 c.in_err-get_or_create_stack_slot.was).never_failed was

pub loop-value-preserved : goal.loop-value-preserved
loop-value-preserved c =
    let item = (goal.at.loop-value-preserved c).After-value-item in
    let may = spillable item in
    let g : Body = c.loop-value.func in
    let h : Body = c.get_or_create_stack_slot.new.func in
    let value : ℕ = c.value-item.result in
    let slot_size = size_of (value_at g value).ty may.fits in
    let gift = given_slot g c.loop-value.slots value may h c.get_or_create_stack_slot.new.self c.get_or_create_stack_slot.result c.get_or_create_stack_slot.ensures
    c.in_ok-get_or_create_stack_slot.field-0 c.in_ok-get_or_create_stack_slot.was c.loop-value.invariant.goes.slots in
    subst (λ (xs : List ℕ). NeedsFirst c.args.plan.now c.args.func.now c.args.slots.now xs h c.get_or_create_stack_slot.new.self)
    (ap (λ x. take c.loop-value.value-index c.deref-value-items.result.now ++ x ∷ []) c.value-item.is
    ∙ sym (take_one_more c.deref-value-items.result.now c.loop-value.value-index value c.loop-value-test.true))
    (next_needed c.args.plan.now c.args.func.now c.args.slots.now (take c.loop-value.value-index c.deref-value-items.result.now) g c.loop-value.slots c.loop-value.invariant
    value c.in_ok-get_or_create_stack_slot.field-0 (is_spilled item) slot_size.0 slot_size.1 h c.get_or_create_stack_slot.new.self
    (gives_of g c.loop-value.slots value may h c.get_or_create_stack_slot.new.self c.get_or_create_stack_slot.result c.get_or_create_stack_slot.ensures
    (Ok c.in_ok-get_or_create_stack_slot.field-0) c.in_ok-get_or_create_stack_slot.was) gift)

pub returns-clause-ok : goal.returns-clause-ok
returns-clause-ok c = c.loop-value.invariant.goes

pub returns-clause-acts : goal.returns-clause-acts
returns-clause-acts c =
    let f : Body = c.args.func.now in
    let all : List BlockCall = destinations (inst_at f c.args.inst).shape in
    let sorted : List ℕ = c.deref-value-items.result.now in
    let same : c.branch_destination-edge-items.result.now ≡ all = c.branch_destination-edge-items.ensures ∙ ap destinations c.inst_data.ensures.exact in
    taken_ahead c.args.plan.now c.args.inst f c.args.slots.now c.loop-edge.waiting.items sorted c.loop-edge.edge-index c.loop-value.func c.loop-value.slots
    (subst (λ (xs : List BlockCall). WaitsFor c.args.plan.now c.args.slots.now xs c.loop-edge.edge-index c.loop-edge.waiting.items) same c.loop-edge.invariant.1)
    (subst (λ (xs : List BlockCall). length xs ≤ c.loop-edge.edge-index) same c.loop-edge-test.false)
    (subst (IsPermutation c.loop-edge.waiting.items) (sym c.deref-value-items.ensures.value) c.sort_unstable.ensures.permutation)
    (subst (λ (xs : List ℕ). NeedsFirst c.args.plan.now f c.args.slots.now xs c.loop-value.func c.loop-value.slots) (take_all c.loop-value.value-index sorted c.loop-value-test.false)
    c.loop-value.invariant)
