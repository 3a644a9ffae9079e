-- Maps of slots that say of each value what the entries of hash maps say, and what a value is given.
use Rattle.std.proofs.Common.{◌≡◌, ℕ, Ok, Err, None, refl, sym, ◌∙◌}
use Rattle.std.specs.Prelude.{◌==◌}
use Rattle.std.specs.FinMap as map
use Rattle.std.specs.FinMap.{nat_cmp-IsAntisymmetric, same_map}
use Rattle.std.specs.HashMap.{HashMap, get}
use Rattle.std.specs.Cmp.{nat_cmp_total}
use Rattle.clif_types.specs.declared.error.BuildError.{BuildError}
use Rattle.clif_types.specs.declared.error.BuildError.TheVariants.{Memory}
use Rattle.clif_ir.specs.Body.{Body}
use Rattle.clif_ranges.specs.Cases.{cases_in}
use Rattle.clif_ranges.proofs.CaseMaps.{get-cases_in}
use Rattle.clif_stack_slots.specs.Slots.{assigned_in, free_in, AreAlike, GivesSlot, TakesSlot}
use Rattle.clif_stack_slots.specs.declared.size.SlotSize.{SlotSize}
use Rattle.clif_stack_slots.specs.declared.slots.StackSlots.{StackSlots}
use Rattle.clif_stack_slots.proofs.Free.{not_none}

-- maps that hold of each key the same have the same entries
pub same_entries : {S : Type 0} (old new : HashMap ℕ ℕ S) → ((q : ℕ) → get ◌==◌ new q ≡ get ◌==◌ old q) → cases_in new ≡ cases_in old
same_entries old new found =
    same_map nat_cmp_total nat_cmp-IsAntisymmetric _ _ (λ q. get-cases_in new q ∙ found q ∙ sym (get-cases_in old q))

-- a slot that is refused is refused to the value
pub refused : (value : ℕ) (s : SlotSize) (old new : StackSlots) (before after : Body) (error : BuildError) → map.get (assigned_in old) value ≡ None
    → assigned_in new ≡ assigned_in old → TakesSlot s (free_in old) (free_in new) before after (Err error) → GivesSlot value s old new before after (Err error)
refused value s old new before after error none same taken = record {
  known = λ slot some. absurd (not_none none some);
  taken = λ none other. taken;
  given = λ none. tt;
  err = (record { assigned = same; free = taken.err.0 }, taken.err.1);
}

-- where memory is refused all is as it was
pub no_memory : (value : ℕ) (s : SlotSize) (old new : StackSlots) (body : Body) → map.get (assigned_in old) value ≡ None
    → AreAlike old new → GivesSlot value s old new body body (Err Memory)
no_memory value s old new body none alike = record {
  known = λ slot some. absurd (not_none none some);
  taken = λ none other. absurd (other refl);
  given = λ none. tt;
  err = (alike, refl);
}

-- a slot that was taken is given
pub given : (value slot : ℕ) (s : SlotSize) (old new : StackSlots) (before after : Body) → map.get (assigned_in old) value ≡ None
    → assigned_in new ≡ map.insert (assigned_in old) value slot → TakesSlot s (free_in old) (free_in new) before after (Ok slot)
    → GivesSlot value s old new before after (Ok slot)
given value slot s old new before after none put taken = record {
  known = λ slot some. absurd (not_none none some);
  taken = λ none other. taken;
  given = λ none. put;
  err = tt;
}
