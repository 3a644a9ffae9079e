-- What the premises ask of each step of a run they ask alike of the renamed run.
use Rattle.std.proofs.Common.{◌≡◌, ◌↔◌, ℕ, List, [], ◌∷◌, map, sym, ap₂, subst}
use Rattle.std.specs.List.{AllByRecursion}
use Rattle.clif_types.specs.declared.types.«Type».{«Type»}
use Rattle.clif_meaning.specs.Access.{Claim, Holds, claims_of, touched_ranges}
use Rattle.clif_meaning.specs.Bits.{Bits}
use Rattle.clif_meaning.specs.Machine.{Control, At, HasReturned, HasTrapped, IsStuck, state_after}
use Rattle.clif_meaning.specs.Memory.{Range}
use Rattle.clif_meaning.specs.Name.{Name}
use Rattle.clif_meaning.specs.Premises.{ClaimsAreTrue, InEachStep, OfNextItem, SparesRange, SparesSpillSlots}
use Rattle.clif_meaning.specs.Program.{Item}
use Rattle.clif_meaning.specs.ScriptMachine.{ScriptRun, ScriptState, script_machine}
use Rattle.clif_renaming.specs.Renaming.{IsRenamedRun, KeepsApart}
use Rattle.clif_renaming.proofs.ItemPremises.{SayAlike, said_of_equals, say_alike}
use Rattle.clif_renaming.proofs.LockStep.{IsRenamedControl, IsRenamedState, same_world, states_alike, with_world_of}
use Rattle.clif_renaming.proofs.RenamedNames.{each_renamed}

-- of the next item
next_alike : (rename : Name → Name) (P P' : Item → Type 0) → SayAlike rename P P' → (control control' : Control Item) → IsRenamedControl rename control control'
    → OfNextItem P control ↔ OfNextItem P' control'
next_alike rename P P' alike (At []) (At []) is = (λ holds. tt, λ holds. tt)
next_alike rename P P' alike (At []) (At (item' ∷ rest')) is = absurd is
next_alike rename P P' alike (At (item ∷ rest)) (At []) is = absurd is
next_alike rename P P' alike (At (item ∷ rest)) (At (item' ∷ rest')) is = alike item item' is.0
next_alike rename P P' alike (HasReturned results) (HasReturned other) is = (λ holds. tt, λ holds. tt)
next_alike rename P P' alike (HasTrapped reason) (HasTrapped other) is = (λ holds. tt, λ holds. tt)
next_alike rename P P' alike IsStuck IsStuck is = (λ holds. tt, λ holds. tt)
next_alike rename P P' alike _ _ is = absurd is

module _ (rename : Name → Name) (apart : KeepsApart rename) (run renamed : ScriptRun) (is : IsRenamedRun rename run renamed) where
  abbrev other : ScriptRun
  other = with_world_of run renamed

  steps_alike : (P P' : ScriptState → Item → Type 0) → ((s t : ScriptState) → IsRenamedState rename s t → SayAlike rename (P s) (P' t)) → InEachStep P run ↔ InEachStep P' other
  steps_alike P P' alike = (λ each n. (at n).0 (each n), λ each n. (at n).1 (each n))
    where
      at : (n : ℕ) → OfNextItem (P (state_after (script_machine run) n)) (state_after (script_machine run) n).control
          ↔ OfNextItem (P' (state_after (script_machine other) n)) (state_after (script_machine other) n).control
      at n =
          let same = states_alike rename run renamed apart is n in
          next_alike rename (P (state_after (script_machine run) n)) (P' (state_after (script_machine other) n))
          (alike (state_after (script_machine run) n) (state_after (script_machine other) n) same)
          (state_after (script_machine run) n).control (state_after (script_machine other) n).control same.control

  -- operands have the same types and the same bits
  of_operands : {X : Type 0} (made : List «Type» → List Bits → List X) (s t : ScriptState) → IsRenamedState rename s t → (operands : List Name)
      → made (map run.name_type operands) (map s.names operands) ≡ made (map renamed.name_type (map rename operands)) (map t.names (map rename operands))
  of_operands made s t same operands =
      ap₂ made (sym (each_renamed rename run.name_type renamed.name_type is.name_type operands)) (sym (each_renamed rename s.names t.names same.names operands))

  spares_alike : (s t : ScriptState) → IsRenamedState rename s t → SayAlike rename (SparesSpillSlots run s) (SparesSpillSlots other t)
  spares_alike s t same =
      say_alike rename (SparesSpillSlots run s) (SparesSpillSlots other t)
      (λ place behind instruction results.
      said_of_equals (λ (ranges : List Range). AllByRecursion (SparesRange run.hidden) ranges) _ _
      (of_operands (touched_ranges run.world instruction.operation instruction.controlling) s t same instruction.operands))
      (λ variable name. (λ holds. tt, λ holds. tt)) (λ variable name. (λ holds. tt, λ holds. tt))

  claims_alike : (s t : ScriptState) → IsRenamedState rename s t → SayAlike rename (ClaimsAreTrue run s) (ClaimsAreTrue other t)
  claims_alike s t same =
      say_alike rename (ClaimsAreTrue run s) (ClaimsAreTrue other t)
      (λ place behind instruction results.
      said_of_equals (λ (claims : List Claim). AllByRecursion (Holds run.world) claims) _ _
      (of_operands (claims_of run.world instruction.operation instruction.controlling) s t same instruction.operands))
      (λ variable name. (λ holds. tt, λ holds. tt)) (λ variable name. (λ holds. tt, λ holds. tt))

  pub slots_spared_alike : InEachStep (SparesSpillSlots run) run ↔ InEachStep (SparesSpillSlots renamed) renamed
  slots_spared_alike =
      subst (λ (r : ScriptRun). InEachStep (SparesSpillSlots run) run ↔ InEachStep (SparesSpillSlots r) r) (same_world rename run renamed is)
      (steps_alike (SparesSpillSlots run) (SparesSpillSlots other) spares_alike)

  pub claims_true_alike : InEachStep (ClaimsAreTrue run) run ↔ InEachStep (ClaimsAreTrue renamed) renamed
  claims_true_alike =
      subst (λ (r : ScriptRun). InEachStep (ClaimsAreTrue run) run ↔ InEachStep (ClaimsAreTrue r) r) (same_world rename run renamed is)
      (steps_alike (ClaimsAreTrue run) (ClaimsAreTrue other) claims_alike)
