-- How the two halves of the moving-collector theorem compose: the construction's, in which a collector moves recorded values, and the
-- spiller's, in which it goes by stack maps. Own.
use Rattle.std.specs.Prelude.{◌≡◌, ◌++◌, ℕ, Bool, List, length}
use Rattle.clif_types.specs.EntitySet.{has}
use Rattle.clif_types.specs.Signature.{SignatureShape}
use Rattle.clif_types.specs.Target.{pointer_type_of}
use Rattle.clif_types.specs.declared.target.PointerWidth.{PointerWidth}
use Rattle.clif_types.specs.StackSlot.{StackSlotShape}
use Rattle.clif_ir.specs.Body.{Body}
use Rattle.clif_ir.specs.Consistent.{IsConsistent}
use Rattle.clif_records.specs.Tracking.{marked_of, recorded_of}
use Rattle.clif_ssa.specs.Ssa.{SsaState}
use Rattle.clif_meaning.specs.FunctionMachine.{FunctionRun, OverSet, function_machine}
use Rattle.clif_meaning.specs.FunctionView.{FunctionView}
use Rattle.clif_meaning.specs.Headline.{IsWorldOf, MeansTheSame, function_run, script_run}
use Rattle.clif_meaning.specs.Ledger.{is_marked, ledger_after, slot_count}
use Rattle.clif_meaning.specs.Machine.{observed}
use Rattle.clif_meaning.specs.Premises.{EachItem, InEachStep, KeepsTrackedApart, PlacementPremises, SparesSpillSlots}
use Rattle.clif_meaning.specs.Program.{program_of}
use Rattle.clif_meaning.specs.Request.{AnsweredCall, Script, script_of}
use Rattle.clif_meaning.specs.SameMeaning.{SameMeaning}
use Rattle.clif_meaning.specs.ScriptMachine.{ScriptRun}
use Rattle.clif_meaning.specs.Tracked.{is_tracked}
use Rattle.clif_meaning.specs.View.{view_of}
use Rattle.clif_meaning.specs.World.{World}
use Rattle.clif_simulation.specs.Carries.{Carries}
use Rattle.clif_simulation.specs.Laws.{IsFinished}
use Rattle.clif_simulation.specs.Marked.{MeansTheSameMoving}
use Rattle.clif_spilling_laws.specs.PartLaws.{RunFits, SparesThroughout}
use Rattle.clif_spilling_laws.specs.Runs.{IsMetBy, after_run, before_run}
use Rattle.clif_spilling_laws.specs.Spilling.{Spilling}

-- the runs of a script and of a function as it was before it was spilled, where these addresses are hidden from both
abbrev pub hiding_script : Script → FunctionView → World → (hidden : ℕ → Bool) → ScriptRun
hiding_script script function world hidden = record (script_run script function world) { hidden = hidden }

abbrev pub hiding_function : Script → FunctionView → World → (members hidden : ℕ → Bool) → FunctionRun
hiding_function script function world members hidden = record (function_run script function world (OverSet members)) { hidden = hidden }

-- Where the script's accesses spare hidden addresses, the function's do, whatever addresses are hidden from both.
abbrev pub SparesAsScript : Script → SignatureShape → PointerWidth → FunctionView → (members : ℕ → Bool) → Type 0
SparesAsScript script signature width function members =
    (hidden : ℕ → Bool) (world : World) → IsWorldOf signature function width world → PlacementPremises script signature
    → EachItem (KeepsTrackedApart (ledger_after script) (is_tracked script)) (program_of script)
    → InEachStep (SparesSpillSlots (hiding_script script function world hidden)) (hiding_script script function world hidden)
    → SparesThroughout (hiding_function script function world members hidden)

-- A finished function that carries a list of calls does so, with a collector over what was recorded.
abbrev pub CarryingSpares : Type 0
CarryingSpares =
    (calls : List AnsweredCall) (f : Body) (s : SsaState) (width : PointerWidth)
    → IsConsistent f → Carries calls f s → IsFinished calls f s
    → ((x : ℕ) → is_marked (ledger_after (script_of calls)) x ≡ has (marked_of s.tracking) x)
    → SparesAsScript (script_of calls) f.signature width (view_of f) (λ v. has (recorded_of s.tracking) v)

-- What the run of a function keeps that means a script: members fit their types, each result gets bits, and hidden addresses are spared.
pub record KeepsInOrder (script : Script) (signature : SignatureShape) (width : PointerWidth) (function : FunctionView) (members : ℕ → Bool) : Type 0 where
  pub fits : (hidden : ℕ → Bool) (world : World) → IsWorldOf signature function width world → PlacementPremises script signature
      → RunFits members (hiding_function script function world members hidden)
  pub spares : SparesAsScript script signature width function members

-- A finished function that carries a list of calls keeps its runs in order.
abbrev pub CarryingKeepsInOrder : Type 0
CarryingKeepsInOrder =
    (calls : List AnsweredCall) (f : Body) (s : SsaState) (width : PointerWidth)
    → IsConsistent f → Carries calls f s → IsFinished calls f s
    → ((x : ℕ) → is_marked (ledger_after (script_of calls)) x ≡ has (marked_of s.tracking) x)
    → KeepsInOrder (script_of calls) f.signature width (view_of f) (λ v. has (recorded_of s.tracking) v)

-- A function that a script made, and what it became: it had just the slots that the script created, these stay the first ones, and
-- addresses have pointers' width.
pub record IsOfScript (script : Script) (width : PointerWidth) (s : Spilling) : Type 0 where
  pub slots : slot_count (ledger_after script) ≡ length s.before.slots
  pub old_slots : (more : List StackSlotShape) × (s.after.slots ≡ s.before.slots ++ more)
  pub pointers : s.pointer ≡ pointer_type_of width

-- in the worlds in which the run before is in order, the function after means the same under the collector by maps
abbrev pub MeansTheSameByMaps : Spilling → (members : ℕ → Bool) → Type 0
MeansTheSameByMaps s members =
    (world : World) → IsMetBy members s world
    → SameMeaning (observed (function_machine (before_run s members world))) (observed (function_machine (after_run s world)))

-- A function means the script under a collector over the members, and keeps its runs in order; where the script's premises about
-- places hold, the function after means the same by maps. So the function after means the script.
abbrev pub SpilledMeansTheScript : Type 0
SpilledMeansTheScript =
    (script : Script) (signature : SignatureShape) (width : PointerWidth) (s : Spilling) (members : ℕ → Bool)
    → IsOfScript script width s
    → MeansTheSameMoving script signature width s.before members → KeepsInOrder script signature width s.before members
    → (PlacementPremises script signature → MeansTheSameByMaps s members)
    → MeansTheSame script signature width s.after
