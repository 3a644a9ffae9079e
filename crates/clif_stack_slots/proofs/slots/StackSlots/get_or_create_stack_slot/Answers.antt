use Rattle.std.proofs.Common.{◌≡◌, refl, sym, ap, subst, ◌∙◌, Some, Ok}
use Rattle.std.specs.FinMap as map
use Rattle.clif_types.specs.Types.{bytes_of}
use Rattle.clif_stack_slots.specs.Sizes.{size_of_bytes}
use Rattle.clif_stack_slots.specs.Slots.{assigned_in, GivesSlot}
use Rattle.clif_stack_slots.proofs.Free.{not_none, one}
use Rattle.clif_stack_slots.proofs.slots.StackSlots.get_or_create_stack_slot.Goals as goal

pub returns-in-Some : goal.returns-in-Some
returns-in-Some c s is = record {
  known = λ slot some. (ap Ok (one found some), refl, refl);
  taken = λ none other. absurd (not_none none found);
  given = λ none. absurd (not_none none found);
  err = tt;
}
  where
    found : map.get (assigned_in c.args.self.now) c.args.value ≡ Some c.in-Some.slot
    found = sym c.get.ensures ∙ c.in-Some.is

pub returns-in-None : goal.returns-in-None
returns-in-None c s is =
    subst (λ s. GivesSlot c.args.value s c.args.self.now c.give.new.self c.args.func.now c.give.new.func c.give.result)
    (one (sym (ap size_of_bytes (c.bytes.ensures ∙ ap bytes_of c.value_type.ensures)) ∙ c.unwrap_new-size.ensures) is) c.give.ensures

pub give-requires : goal.give-requires
give-requires c = sym c.get.ensures ∙ c.in-None.is
