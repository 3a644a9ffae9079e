use Rattle.std.proofs.Common.{◌≡◌, ◌∙◌, ◌<◌, length, Err, Ok, List, [], ◌∷◌, ℕ, pos, get_or, refl, sym, ap, ap₂, subst, length-append}
use Rattle.std.proofs.lemmas.Result.{err_from_is_err_and}
use Rattle.clif_ir.specs.Body.{Body, inst_at, value_at}
use Rattle.clif_types.specs.declared.error.BuildError.{BuildError}
use Rattle.clif_types.specs.declared.types.«Type».{«Type»}
use Rattle.clif_opcodes.specs.declared.opcodes.StackOpcode.TheVariants.{StackAddr}
use Rattle.clif_instructions.specs.declared.instructions.InstructionData.TheVariants.{Load, StackLoad}
use Rattle.clif_nodes.specs.Nodes.{result_nodes}
use Rattle.clif_spiller.specs.Inserting.{inst_beside, put_in, trusted, with_address, with_reload}
use Rattle.clif_spiller.specs.declared.accesses.Spot.TheVariants as spot
use Rattle.clif_spiller.proofs.Giving.{IsGiven, IsRefused, given_slot, gives_of, refused_slot}
use Rattle.clif_spiller.proofs.Sizes.{size_of}
use Rattle.clif_spiller.proofs.Putting.{put_in_results, spot_after_exists}
use Rattle.clif_spiller.specs.Inserting.{IsReloaded}
use Rattle.clif_spiller.proofs.Reading.{reloaded_step}
use Rattle.clif_spiller.proofs.accesses.reload.Goals as goal
use Rattle.clif_spiller.proofs.accesses.reload.Goals.{After-get_or_create_stack_slot, After-index-inst_results-0}

gift : (c : After-get_or_create_stack_slot) (slot : ℕ) → c.get_or_create_stack_slot.result ≡ Ok slot
    → IsGiven c.args.func.now c.args.slots.now c.get_or_create_stack_slot.new.func c.get_or_create_stack_slot.new.self slot
gift c slot is =
    given_slot c.args.func.now c.args.slots.now c.args.value c.requires.spillable c.get_or_create_stack_slot.new.func c.get_or_create_stack_slot.new.self
    c.get_or_create_stack_slot.result c.get_or_create_stack_slot.ensures slot is c.requires.slots

refusal : (c : After-get_or_create_stack_slot) (error : BuildError) → c.get_or_create_stack_slot.result ≡ Err error → IsRefused c.get_or_create_stack_slot.new.func error
refusal c error is =
    refused_slot c.args.func.now c.args.slots.now c.args.value c.requires.spillable c.get_or_create_stack_slot.new.func c.get_or_create_stack_slot.new.self
    c.get_or_create_stack_slot.result c.get_or_create_stack_slot.ensures error is

pub returns-in_err-slot-clause-full : goal.returns-in_err-slot-clause-full
returns-in_err-slot-clause-full c is =
    let p = err_from_is_err_and c.from_residual.result c.from_residual.ensures.1 in
    let was = c.in_err-slot.was ∙ ap Err (sym p.2) ∙ sym p.1 ∙ is in
    (refusal (goal.at.returns-in_err-slot-clause-full c).After-get_or_create_stack_slot _ was).full refl

pub returns-in_err-slot-clause-never_failed : goal.returns-in_err-slot-clause-never_failed
returns-in_err-slot-clause-never_failed c is =
    let p = err_from_is_err_and c.from_residual.result c.from_residual.ensures.1 in
    let was = c.in_err-slot.was ∙ ap Err (sym p.2) ∙ sym p.1 ∙ is in
    (refusal (goal.at.returns-in_err-slot-clause-never_failed c).After-get_or_create_stack_slot _ was).never_failed refl

pub insert_address-requires-clause-spot_exists : goal.insert_address-requires-clause-spot_exists
insert_address-requires-clause-spot_exists c =
    let gift = gift (goal.at.insert_address-requires-clause-spot_exists c).After-get_or_create_stack_slot c.in_ok-slot.slot c.in_ok-slot.was in
    subst (λ xs. c.args.next < length xs) (sym gift.insts) c.requires.next_exists

pub insert_address-requires-clause-slot_exists : goal.insert_address-requires-clause-slot_exists
insert_address-requires-clause-slot_exists c =
    (gift (goal.at.insert_address-requires-clause-slot_exists c).After-get_or_create_stack_slot c.in_ok-slot.slot c.in_ok-slot.was).exists

pub insert-requires-clause-spot_exists : goal.insert-requires-clause-spot_exists
insert-requires-clause-spot_exists c =
    let gift = gift (goal.at.insert-requires-clause-spot_exists c).After-get_or_create_stack_slot c.in_ok-slot.slot c.in_ok-slot.was in
    let middle : Body = c.get_or_create_stack_slot.new.func in
    let here : c.args.next < length middle.insts = subst (λ xs. c.args.next < length xs) (sym gift.insts) c.requires.next_exists in
    subst (λ at. inst_beside at < length c.insert_address.new.func.insts) (sym c.in_ok-address.ensures.spot)
    (subst (λ (h : Body). c.args.next < length h.insts) (sym c.in_ok-address.ensures.ok)
    (spot_after_exists middle (spot.Before c.args.next) (StackLoad StackAddr c.in_ok-slot.slot (pos 0)) (c.args.plan.now.pointer ∷ []) here))

reloaded : (c : After-index-inst_results-0) → IsReloaded c.args.plan.now.pointer c.args.next c.args.value c.args.func.now c.args.slots.now c.insert.new.func
    c.get_or_create_stack_slot.new.self c.index-inst_results-0.result
reloaded c =
    let middle : Body = c.get_or_create_stack_slot.new.func in
    let there : Body = with_address middle c.args.plan.now.pointer (spot.Before c.args.next) c.in_ok-slot.slot in
    let ty : «Type» = (value_at c.args.func.now c.args.value).ty in
    let put : c.insert.new.func ≡ with_reload middle c.args.plan.now.pointer c.args.next c.in_ok-slot.slot ty =
    c.in_ok-inst.ensures.ok
    ∙ (λ i. put_in (c.in_ok-address.ensures.ok i) (c.in_ok-address.ensures.spot i)
    (Load (c.trusted.ensures i) (c.in_ok-address.ensures.address i) (pos 0)) (c.value_type-ty.ensures i ∷ [])) in
    let number : c.in_ok-inst.inst ≡ length there.insts = c.in_ok-inst.ensures.inst ∙ ap (λ (h : Body). length h.insts) c.in_ok-address.ensures.ok in
    let value : ℕ = c.index-inst_results-0.result in
    let results : c.inst_results.result.now ≡ length there.values ∷ [] =
    c.inst_results.ensures.exact ∙ ap₂ (λ (h : Body) (i : ℕ). (inst_at h i).results) put number
    ∙ put_in_results there (spot.Before c.args.next) (Load trusted (length middle.values) (pos 0)) (ty ∷ []) in
    record {
      size = (size_of ty c.requires.spillable.fits).0;
      size_is = (size_of ty c.requires.spillable.fits).1;
      slot = c.in_ok-slot.slot;
      middle = middle;
      gives = gives_of c.args.func.now c.args.slots.now c.args.value c.requires.spillable middle c.get_or_create_stack_slot.new.self
          c.get_or_create_stack_slot.result c.get_or_create_stack_slot.ensures (Ok c.in_ok-slot.slot) c.in_ok-slot.was;
      put = put;
      copy_is = c.index-inst_results-0.is ∙ ap (λ (xs : List ℕ). get_or xs 0 value) results
          ∙ length-append middle.values (result_nodes (length middle.insts) 0 (c.args.plan.now.pointer ∷ []));
    }

pub returns-clause-ok : goal.returns-clause-ok
returns-clause-ok c = reloaded (goal.at.returns-clause-ok c).After-index-inst_results-0

pub returns-clause-exists : goal.returns-clause-exists
returns-clause-exists c =
    (reloaded_step c.args.plan.now.pointer c.args.next c.args.value c.args.func.now c.args.slots.now c.insert.new.func c.get_or_create_stack_slot.new.self
    c.index-inst_results-0.result c.requires.spillable c.requires.slots (reloaded (goal.at.returns-clause-exists c).After-index-inst_results-0)).exists
