use Rattle.std.proofs.Common.{◌≡◌, refl, sym, ap, subst, ◌∙◌, append-nil, take, ◌-◌, [], Ok}
use Rattle.std.specs.Prelude.{slice_set}
use Rattle.clif_stack_slots.specs.Sizes.{shift_of}
use Rattle.clif_tables.specs.Entries.{AStackSlot}
use Rattle.clif_ir.specs.Entries.{MakesIn}
use Rattle.std.proofs.lemmas.List.{same_from_push}
use Rattle.clif_stack_slots.specs.Slots.{free_in, slot_for, ChangesFree}
use Rattle.clif_stack_slots.specs.declared.size.SlotSize.{SlotSize}
use Rattle.clif_stack_slots.proofs.Free.{changes_free, was_free, same_free, not_pushed, map_err}
use Rattle.clif_stack_slots.proofs.slots.StackSlots.take.Goals as goal

pub returns-in-Some-clause-taken : goal.returns-in-Some-clause-taken
returns-in-Some-clause-taken c = record {
  reused = λ front slot is.
      let parts = same_from_push c.pop.new.self.items front c.in-Some.slot slot (sym c.in-Some.ensures.items ∙ sym were ∙ is) in
      (ap Ok parts.1, subst (λ slots. ChangesFree c.args.size slots (free_in c.args.self.now) (free_in (record c.args.self.now { free = slice_set c.args.self.now.free (shift_of c.args.size) c.pop.new.self }))) parts.0 (changes_free c.args.self.now c.args.size c.pop.new.self c.get_mut.ensures.sizes), refl);
  made = λ none. absurd (not_pushed _ _ (sym c.in-Some.ensures.items ∙ sym were ∙ none));
  err = tt;
}
  where
    were : free_in c.args.self.now c.args.size ≡ c.get_mut.result.now.items
    were = was_free c.args.self.now c.args.size c.get_mut.result.now c.get_mut.ensures.sizes c.get_mut.ensures.value

pub returns-in-None-clause-taken : goal.returns-in-None-clause-taken
returns-in-None-clause-taken c = record {
  reused = λ front slot is. absurd (not_pushed front slot (sym is ∙ were ∙ nothing));
  made = λ none. (made, alike);
  err = map_err c.create_sized_stack_slot.result (λ is. (alike, is)) made.err;
}
  where
    were : free_in c.args.self.now c.args.size ≡ c.get_mut.result.now.items
    were = was_free c.args.self.now c.args.size c.get_mut.result.now c.get_mut.ensures.sizes c.get_mut.ensures.value

    left : c.pop.new.self.items ≡ []
    left = c.in-None.ensures.rest ∙ ap (λ n. take (n - 1) c.get_mut.result.now.items) c.in-None.ensures.cases.0

    nothing : c.get_mut.result.now.items ≡ []
    nothing = c.in-None.ensures.items ∙ append-nil c.pop.new.self.items ∙ left

    shape : c.new.result ≡ slot_for c.args.size
    shape = c.new.ensures ∙ (λ i. record { size = c.bytes.ensures i; align_shift = c.align_shift.ensures.shift i })

    made : MakesIn (AStackSlot (slot_for c.args.size)) c.args.func.now c.create_sized_stack_slot.new.self c.create_sized_stack_slot.result
    made = subst (λ shape. MakesIn (AStackSlot shape) c.args.func.now c.create_sized_stack_slot.new.self c.create_sized_stack_slot.result) shape c.create_sized_stack_slot.ensures

    alike : (other : SlotSize) → free_in (record c.args.self.now { free = slice_set c.args.self.now.free (shift_of c.args.size) c.pop.new.self }) other ≡ free_in c.args.self.now other
    alike other = same_free c.args.self.now c.args.size other c.pop.new.self c.get_mut.ensures.sizes (left ∙ sym nothing ∙ sym were)
