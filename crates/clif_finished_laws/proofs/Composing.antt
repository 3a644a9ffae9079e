-- The function after means the script: by the function before, with the new slots hidden from both runs.
use Rattle.std.proofs.Common.{◌≡◌, ℕ, zero, suc, List, [], ◌∷◌, ◌++◌, length, drop, slice_get, Some, Bool, sym, ap, subst, ◌∙◌}
use Rattle.clif_types.specs.Signature.{SignatureShape}
use Rattle.clif_types.specs.StackSlot.{StackSlotShape}
use Rattle.clif_types.specs.Types.{bits_of}
use Rattle.clif_types.specs.Target.{pointer_type_of}
use Rattle.clif_types.specs.declared.target.PointerWidth.{PointerWidth}
use Rattle.clif_types.specs.declared.types.«Type».{«Type»}
use Rattle.clif_meaning.specs.FunctionMachine.{function_machine}
use Rattle.clif_meaning.specs.Headline.{IsWorldOf, in_spill_slot, script_behaviour, function_behaviour}
use Rattle.clif_meaning.specs.Ledger.{ledger_after, slot_count}
use Rattle.clif_meaning.specs.Machine.{Observation, observed}
use Rattle.clif_meaning.specs.Premises.{InEachStep, PlacementPremises, Premises, SparesSpillSlots}
use Rattle.clif_meaning.specs.Request.{Script}
use Rattle.clif_meaning.specs.SameMeaning.{SameMeaning}
use Rattle.clif_meaning.specs.ScriptMachine.{ScriptRun, script_machine}
use Rattle.clif_meaning.specs.Store.{in_slots_from}
use Rattle.clif_meaning.specs.World.{PlacesSlots, World}
use Rattle.clif_meaning.proofs.Simulation.{transitive}
use Rattle.clif_simulation.specs.Marked.{MeansTheSameMoving}
use Rattle.clif_spilling_laws.specs.PartLaws.{RunFits, SparesThroughout}
use Rattle.clif_spilling_laws.specs.Runs.{IsMetBy, after_run, before_run, in_spill_slots}
use Rattle.clif_spilling_laws.specs.Spilling.{Spilling}
use Rattle.clif_spilling_laws.proofs.Functions.Typed.{fitting_runs_meet}
use Rattle.clif_finished_laws.specs.Laws.{IsOfScript, KeepsInOrder, MeansTheSameByMaps, SpilledMeansTheScript, hiding_script}

slice_get-front : {X : Type 0} (xs ys : List X) (i : ℕ) (x : X) → slice_get xs i ≡ Some x → slice_get (xs ++ ys) i ≡ Some x
slice_get-front [] ys i x found = cc
slice_get-front (y ∷ xs) ys zero x found = found
slice_get-front (y ∷ xs) ys (suc i) x found = slice_get-front xs ys i x found

-- a world that places all slots places the first ones
places_first : (world : World) (slots more all : List StackSlotShape) → all ≡ slots ++ more → PlacesSlots world all → PlacesSlots world slots
places_first world slots more all is places = record {
  aligned = λ s slot here. places.aligned s slot (there s slot here);
  accessible = λ s slot k here. places.accessible s slot k (there s slot here);
  within = λ s slot here. places.within s slot (there s slot here);
  apart = λ s t slot other k l here besides. places.apart s t slot other k l (there s slot here) (there t other besides);
}
  where
    there : (s : ℕ) (slot : StackSlotShape) → slice_get slots s ≡ Some slot → slice_get all s ≡ Some slot
    there s slot here = subst (λ (xs : List StackSlotShape). slice_get xs s ≡ Some slot) (sym is) (slice_get-front slots more s slot here)

module _ (script : Script) (signature : SignatureShape) (width : PointerWidth) (s : Spilling) (members : ℕ → Bool) (of : IsOfScript script width s)
    (moving : MeansTheSameMoving script signature width s.before members) (kept : KeepsInOrder script signature width s.before members) (world : World)
    (is_world : IsWorldOf signature s.after width world)
  where
    -- the addresses that are hidden from the script's run are those of the new slots
    same_script : hiding_script script s.before world (in_spill_slot script s.after world) ≡ hiding_script script s.before world (in_spill_slots s world)
    same_script = ap (λ (count : ℕ). hiding_script script s.before world (λ address. in_slots_from world count (drop count s.after.slots) address)) of.slots

    world_before : IsWorldOf signature s.before width world
    world_before = record {
      arguments = is_world.arguments;
      pointers = is_world.pointers;
      slots = places_first world s.before.slots of.old_slots.0 s.after.slots of.old_slots.1 is_world.slots;
    }

    pointers : world.pointer_width ≡ bits_of s.pointer
    pointers = is_world.pointers ∙ sym (ap (λ (ty : «Type»). bits_of ty) of.pointers)

    module _ (premises : Premises script signature (pointer_type_of width) (hiding_script script s.before world (in_spill_slot script s.after world))) where
      placement : PlacementPremises script signature
      placement = record { targets_filled = premises.targets_filled; well_typed = premises.well_typed; given_before = premises.given_before }

      fit : RunFits members (before_run s members world)
      fit = kept.fits (in_spill_slots s world) world world_before placement

      script_spares : InEachStep (SparesSpillSlots (hiding_script script s.before world (in_spill_slots s world))) (hiding_script script s.before world (in_spill_slots s world))
      script_spares = subst (λ (run : ScriptRun). InEachStep (SparesSpillSlots run) run) same_script premises.spares_spill_slots

      spares : SparesThroughout (before_run s members world)
      spares = kept.spares (in_spill_slots s world) world world_before placement premises.tracked_apart script_spares

      met : IsMetBy members s world
      met = fitting_runs_meet members s world pointers is_world.slots fit spares

      moved : SameMeaning (observed (script_machine (hiding_script script s.before world (in_spill_slot script s.after world)))) (observed (function_machine (before_run s members world)))
      moved =
          subst (λ (run : ScriptRun). SameMeaning (observed (script_machine run)) (observed (function_machine (before_run s members world)))) (sym same_script)
          (moving (in_spill_slots s world) world world_before placement premises.tracked_apart)

      after : MeansTheSameByMaps s members → SameMeaning (script_behaviour script s.after world) (observed (function_machine (after_run s world)))
      after by_maps =
          transitive (script_behaviour script s.after world) (observed (function_machine (before_run s members world))) (observed (function_machine (after_run s world)))
          moved (by_maps world met)

-- the addresses that are hidden from the finished function's run are those of the new slots
same_function : (script : Script) (width : PointerWidth) (s : Spilling) (world : World) → IsOfScript script width s
    → observed (function_machine (after_run s world)) ≡ function_behaviour script s.after world
same_function script width s world of =
    ap (λ (count : ℕ). observed (function_machine (record (after_run s world) { hidden = λ address. in_slots_from world count (drop count s.after.slots) address })))
    (sym of.slots)

pub spilled_means_the_script : SpilledMeansTheScript
spilled_means_the_script script signature width s members of moving kept by_maps world is_world premises =
    subst (λ (shown : ℕ → Observation). SameMeaning (script_behaviour script s.after world) shown) (same_function script width s world of)
    (after script signature width s members of moving kept world is_world premises
    (by_maps (placement script signature width s members of moving kept world is_world premises)))
