-- What holds before anything is rewritten.
use Rattle.std.proofs.Common.{◌≡◌, ◌<◌, ◌∙◌, ℕ, List, [], length, Option, None, Some, sym, ap, subst, arith}
use Rattle.std.specs.Prelude.{Contains}
use Rattle.std.specs.FinMap as map
use Rattle.std.specs.FinMap.{get-empty}
use Rattle.std.specs.Ordering.{nat_cmp}
use Rattle.clif_ir.specs.Body.{Body, resolved}
use Rattle.clif_safepoints.specs.Analysis.{Findings, IsAnalysis, found_across}
use Rattle.clif_stack_slots.specs.Slots.{HasNone, SlotMap, free_in}
use Rattle.clif_stack_slots.specs.declared.slots.StackSlots.{StackSlots}
use Rattle.clif_spiller.specs.Plans.{KnowsSlots, MayBeSpilled}

no_slot : {slot : ℕ} → ◌≡◌ {A = Option ℕ} None (Some slot) → ⊥
no_slot is = cc

none_in : (xs : List ℕ) (x : ℕ) → xs ≡ [] → Contains xs x → ⊥
none_in xs x none member = let in_none : Contains [] x = subst (λ ys. Contains ys x) none member in absurd (omega (arith, in_none.1))

-- no value has a slot
pub knows_none : (f : Body) (slots : StackSlots) → HasNone slots → KnowsSlots f slots
knows_none f slots none = record {
  values = λ v slot is. absurd (no_slot (sym (get-empty {X = ℕ} nat_cmp v) ∙ sym (ap (λ (m : SlotMap). map.get m v) none.assigned) ∙ is));
  given = λ v slot is. absurd (no_slot (sym (get-empty {X = ℕ} nat_cmp v) ∙ sym (ap (λ (m : SlotMap). map.get m v) none.assigned) ∙ is));
  free = λ size slot member. absurd (none_in (free_in slots size) slot (none.free size) member);
}

-- what the analysis found across an instruction is so of one that is there, and may be spilled
module _ (f : Body) (recorded : List ℕ) (found : Findings) (analysis : IsAnalysis f recorded found) where
  pub found_exists : (inst v : ℕ) → Contains (found_across found inst) v → inst < length f.insts
  found_exists inst v member = (((analysis.exact inst).members v).0 member).exists

  pub found_may : ((v : ℕ) → Contains recorded v → resolved f v ≡ v → MayBeSpilled f v) → (inst v : ℕ) → Contains (found_across found inst) v → MayBeSpilled f v
  found_may may inst v member = let traced = ((analysis.exact inst).members v).0 member in may v traced.member traced.unaliased
