-- A function that carries calls touches what the script's run touches, and zeros touch nothing.
use Rattle.std.proofs.Common.{◌≡◌, ◌⊎◌, ℕ, suc, Bool, List, [], ◌∷◌, map, Option, Some, None, inl, inr, refl, sym, ◌∙◌, ap, subst}
use Rattle.std.specs.List.{AllByRecursion}
use Rattle.clif_types.specs.EntitySet.{has}
use Rattle.clif_types.specs.declared.target.PointerWidth.{PointerWidth}
use Rattle.clif_ir.specs.Body.{Body}
use Rattle.clif_ir.specs.Consistent.{IsConsistent}
use Rattle.clif_tables.specs.Callees.{types_of}
use Rattle.clif_records.specs.Tracking.{recorded_of}
use Rattle.clif_ssa.specs.Ssa.{SsaState}
use Rattle.clif_paths.specs.Places.{Path}
use Rattle.clif_meaning.specs.Access.{touched_ranges}
use Rattle.clif_meaning.specs.FunctionMachine as function_machine_of
use Rattle.clif_meaning.specs.FunctionMachine.{FunctionRun, FunctionState, function_machine}
use Rattle.clif_meaning.specs.FunctionView.{Placed}
use Rattle.clif_meaning.specs.Headline.{IsWorldOf}
use Rattle.clif_meaning.specs.Ledger.{is_marked, ledger_after}
use Rattle.clif_meaning.specs.Machine.{At, Control, HasReturned, HasTrapped, IsStuck, Machine, Observation, state_after}
use Rattle.clif_meaning.specs.Memory.{Range}
use Rattle.clif_meaning.specs.Name.{Name}
use Rattle.clif_meaning.specs.Premises.{InEachStep, OfNextItem, PlacementPremises, SparesRange, SparesSpillSlots}
use Rattle.clif_meaning.specs.Program.{Assign, Instruct, Item, Use}
use Rattle.clif_meaning.specs.Request.{AnsweredCall, script_of}
use Rattle.clif_meaning.specs.ScriptMachine as script
use Rattle.clif_meaning.specs.ScriptMachine.{ScriptRun, ScriptState, script_machine}
use Rattle.clif_meaning.specs.Tracked.{is_tracked}
use Rattle.clif_meaning.specs.View.{view_of}
use Rattle.clif_meaning.specs.World.{World}
use Rattle.clif_meaning.proofs.Stuttering.{always}
use Rattle.clif_typed_runs.specs.Laws.{OfNextPlaced}
use Rattle.clif_simulation.specs.Carries.{carried, own_placed}
use Rattle.clif_simulation.specs.Laws.{IsFinished}
use Rattle.clif_simulation.specs.Marked.{collected_run, marked_script_run}
use Rattle.clif_simulation.specs.Tables.{program_so_far}
use Rattle.clif_simulation.proofs.Finished.Assembly
use Rattle.clif_simulation.proofs.Finished.Fronts.{NextIsZero, placed_inst}
use Rattle.clif_simulation.proofs.Finished.Matching.{SameEnd}
use Rattle.clif_simulation.proofs.Finished.Placing.{placed_item}
use Rattle.clif_simulation.proofs.Finished.Sources.{Moving}
use Rattle.clif_simulation.proofs.Finished.Starting
use Rattle.clif_simulation.proofs.Finished.Stepping
use Rattle.clif_simulation.proofs.Finished.Straight.{next_arm}
use Rattle.clif_simulation.proofs.Tracking.Agreeing
use Rattle.clif_simulation.proofs.Whole.{Whole}
use Rattle.clif_spilling_laws.specs.PartLaws.{SparesThroughout}
use Rattle.clif_spilling_laws.specs.Runs.{SparesHidden}
use Rattle.clif_finished_laws.specs.Laws.{CarryingSpares}
use Rattle.clif_finished_laws.proofs.Covering

-- where the script's run ended, the function makes nothing more
ended_next : (P : Placed → Type 0) (c : Control Item) (d : Control Placed) → SameEnd c d → OfNextPlaced P d
ended_next P (At rest) d same = absurd same
ended_next P (HasReturned a) (At rest) same = absurd same
ended_next P (HasTrapped a) (At rest) same = absurd same
ended_next P IsStuck (At rest) same = absurd same
ended_next P c (HasReturned results) same = tt
ended_next P c (HasTrapped reason) same = tt
ended_next P c IsStuck same = tt

module _ (calls : List AnsweredCall) (f : Body) (ssa : SsaState) (width : PointerWidth) (consistent : IsConsistent f) (carries : Whole calls f ssa)
    (finished : IsFinished calls f ssa) (moving : Moving calls carries.own f ssa) (world : World) (fits : IsWorldOf f.signature (view_of f) width world)
    (premises : PlacementPremises (script_of calls) f.signature)
  where
    abbrev left_run : ScriptRun
    left_run = marked_script_run calls f world moving.marked moving.tracked moving.hidden

    abbrev right_run : FunctionRun
    right_run = collected_run calls f world moving.collector moving.hidden

    abbrev left : Machine ScriptState Observation
    left = script_machine left_run

    abbrev right : Machine FunctionState Observation
    right = function_machine right_run

    abbrev IsAt : (b : ℕ) (B : Name) (k : ℕ) (rest : List Item) (left : List ℕ) (path : Path) (p : ScriptState) (q : FunctionState) → Type 0
    IsAt = Stepping.IsAt calls f ssa consistent carries finished width world f.signature premises.given_before premises.targets_filled premises.well_typed moving

    abbrev Spares : FunctionState → Placed → Type 0
    Spares q = SparesHidden right_run q

    abbrev Related : ScriptState → FunctionState → Type 0
    Related = Stepping.Related calls f ssa consistent carries finished width world f.signature premises.given_before premises.targets_filled premises.well_typed moving

    abbrev IsAtZero : FunctionState → Type 0
    IsAtZero = Stepping.IsAtZero calls f ssa consistent carries finished width world f.signature premises.given_before premises.targets_filled premises.well_typed moving

    module _ (spared : InEachStep (SparesSpillSlots left_run) left_run) where
      -- what the script's item touches that comes next
      item_spares : (n : ℕ) (item : Item) (rest : List Item) → (state_after left n).control ≡ At (item ∷ rest) → SparesSpillSlots left_run (state_after left n) item
      item_spares n item rest at = subst (OfNextItem (SparesSpillSlots left_run (state_after left n))) at (spared n)

      -- the next of the function's instructions is the script's next one: uses and assignments between make none
      next_spares : (n b : ℕ) (B : Name) (k : ℕ) (rest : List Item) (insts : List ℕ) (path : Path) (q : FunctionState) → IsAt b B k rest insts path (state_after left n) q
          → OfNextPlaced (Spares q) (At (map (placed_inst f) insts))
      next_spares n b B k rest [] path q r = tt
      next_spares n b B k [] (i ∷ insts) path q r = absurd (none (own_placed carries.own f i) (map (own_placed carries.own f) insts) r.left_is)
        where
          none : (x : Placed) (xs : List Placed) → (x ∷ xs) ≡ [] → ⊥
          none x xs h = cc
      next_spares n b B k (Use x used ∷ rest) (i ∷ insts) path q r =
          let next : left.next (state_after left n) ≡ script.run_item left_run (state_after left n) (Use x used) rest = ap (script.step_at left_run (state_after left n)) r.script_at in
          next_spares (suc n) b B (suc k) rest (i ∷ insts) (next_arm b k ∷ path) q
          (subst (λ (p : ScriptState). IsAt b B (suc k) rest (i ∷ insts) (next_arm b k ∷ path) p q) (sym next)
          (Stepping.used_next calls f ssa consistent carries finished width world f.signature premises.given_before premises.targets_filled premises.well_typed moving
          b B k path x used rest (i ∷ insts) (state_after left n) q r))
      next_spares n b B k (Assign x from ∷ rest) (i ∷ insts) path q r =
          let next : left.next (state_after left n) ≡ script.run_item left_run (state_after left n) (Assign x from) rest = ap (script.step_at left_run (state_after left n)) r.script_at in
          next_spares (suc n) b B (suc k) rest (i ∷ insts) (next_arm b k ∷ path) q
          (subst (λ (p : ScriptState). IsAt b B (suc k) rest (i ∷ insts) (next_arm b k ∷ path) p q) (sym next)
          (Stepping.assigned_next calls f ssa consistent carries finished width world f.signature premises.given_before premises.targets_filled premises.well_typed moving
          b B k path x from rest (i ∷ insts) (state_after left n) q r))
      next_spares n b B k (Instruct place instruction results ∷ rest) (i ∷ insts) path q r =
          subst (AllByRecursion (SparesRange moving.hidden))
          (sym (Stepping.same_ranges calls f ssa consistent carries finished width world f.signature premises.given_before premises.targets_filled premises.well_typed moving
          b B k path place instruction results rest i insts (state_after left n) q r))
          (item_spares n (Instruct place instruction results) rest r.script_at)

      -- a zero touches nothing
      zero_spares : (b : ℕ) (q : FunctionState) → NextIsZero f carries.tables b q → OfNextPlaced (Spares q) q.control
      zero_spares b q z =
          subst (OfNextPlaced (Spares q)) (sym z.at)
          (subst (AllByRecursion (SparesRange moving.hidden)) (sym (z.put.touches_nothing world _ _ _)) tt)

      -- with an entry
      entered : (entry : Name) → (program_so_far calls).entry ≡ Some entry → SparesThroughout right_run
      entered entry is_entry j =
          by (Covering.covered left right _ _ _
          (Starting.follows_throughout calls f ssa consistent carries finished width world f.signature premises.given_before premises.targets_filled premises.well_typed moving
          entry is_entry (Starting.arguments_count calls entry (types_of f.signature.params) world is_entry premises.well_typed.entry fits.arguments)) j)
        where
          by : ((n : ℕ) × Related (state_after left n) (state_after right j)) ⊎ IsAtZero (state_after right j)
              → OfNextPlaced (Spares (state_after right j)) (state_after right j).control
          by (inl (n, inl running)) =
              subst (OfNextPlaced (Spares (state_after right j))) (sym running.is_at.function_at)
              (next_spares n running.block running.name running.index running.rest running.left running.path (state_after right j) running.is_at)
          by (inl (n, inr ended)) = ended_next (Spares (state_after right j)) (state_after left n).control (state_after right j).control ended.same_end
          by (inr (b, zero)) = zero_spares b (state_after right j) zero

      -- with none it is stuck at once
      not_entered : (program_so_far calls).entry ≡ None → SparesThroughout right_run
      not_entered none j = subst (λ (q : FunctionState). OfNextPlaced (Spares q) q.control) (sym (blank j)) tt
        where
          blank : (n : ℕ) → state_after right n ≡ function_machine_of.blank_state right_run
          blank = always right (λ (q : FunctionState). q ≡ function_machine_of.blank_state right_run)
              (ap (function_machine_of.start_at right_run) (carries.entry.none none)) (λ q is. ap right.next is)

      by_entry : (o : Option Name) → (program_so_far calls).entry ≡ o → SparesThroughout right_run
      by_entry None none = not_entered none
      by_entry (Some entry) is_entry = entered entry is_entry

      pub spares : SparesThroughout right_run
      spares = by_entry (program_so_far calls).entry refl

pub carrying_spares : CarryingSpares
carrying_spares calls f s width consistent carries finished marks hidden world fits premises apart spared =
    let all : Whole calls f s = Assembly.all calls f s consistent carries premises.targets_filled in
    spares calls f s width consistent all finished
    (Assembly.over_members calls all.own f s consistent (is_tracked (script_of calls)) (λ v. has (recorded_of s.tracking) v)
    (Agreeing.values_agree calls f s consistent all marks apart) (is_marked (ledger_after (script_of calls))) hidden
    (Agreeing.names_agree calls f s consistent all marks apart))
    world fits premises spared
