use Rattle.std.proofs.Common.{◌≡◌, sym, ap, subst, ◌∙◌, Ok, Err}
use Rattle.std.specs.FinMap as map
use Rattle.std.proofs.lemmas.Result.{err_from_is_err_and}
use Rattle.clif_ranges.proofs.CaseMaps.{case_put}
use Rattle.clif_stack_slots.specs.Slots.{assigned_in, free_in, GivesSlot, TakesSlot}
use Rattle.clif_stack_slots.proofs.Assigned.{same_entries, refused, given}
use Rattle.clif_stack_slots.proofs.slots.StackSlots.give.Goals as goal

pub returns-in_err-slot : goal.returns-in_err-slot
returns-in_err-slot c =
    let p = err_from_is_err_and c.from_residual-in_err-slot.result c.from_residual-in_err-slot.ensures.1 in
    subst (GivesSlot c.args.value c.args.size c.args.self.now c.take.new.self c.args.func.now c.take.new.func) (ap Err (sym p.2) ∙ sym p.1)
    (refused c.args.value c.args.size c.args.self.now c.take.new.self c.args.func.now c.take.new.func c.in_err-slot.field-0.0 c.requires alike taken)
  where
    alike : assigned_in c.take.new.self ≡ assigned_in c.args.self.now
    alike = ap (λ slots. map.from_entries slots.entries) c.take.ensures.slots ∙ same_entries c.args.self.now.slots c.reserve.new.self c.reserve.ensures.entries.2

    taken : TakesSlot c.args.size (free_in c.args.self.now) (free_in c.take.new.self) c.args.func.now c.take.new.func (Err c.in_err-slot.field-0.0)
    taken = subst (TakesSlot c.args.size (free_in c.args.self.now) (free_in c.take.new.self) c.args.func.now c.take.new.func) c.in_err-slot.was c.take.ensures.taken

pub returns : goal.returns
returns c = given c.args.value c.in_ok-slot.slot c.args.size c.args.self.now _ c.args.func.now c.take.new.func c.requires put taken
  where
    put : assigned_in (record { slots = c.insert.new.self; free = c.take.new.self.free }) ≡ map.insert (assigned_in c.args.self.now) c.args.value c.in_ok-slot.slot
    put =
        case_put c.take.new.self.slots c.insert.new.self c.args.value c.in_ok-slot.slot c.in_ok-insert.ensures.updates.0
        ∙ ap (λ cases. map.insert cases c.args.value c.in_ok-slot.slot) (ap (λ slots. map.from_entries slots.entries) c.take.ensures.slots ∙ same_entries c.args.self.now.slots c.reserve.new.self c.reserve.ensures.entries.2)

    taken : TakesSlot c.args.size (free_in c.args.self.now) (free_in c.take.new.self) c.args.func.now c.take.new.func (Ok c.in_ok-slot.slot)
    taken = subst (TakesSlot c.args.size (free_in c.args.self.now) (free_in c.take.new.self) c.args.func.now c.take.new.func) c.in_ok-slot.was c.take.ensures.taken
