-- An unfinished function, read under the marks of its calls: behind an outside call the collector moved marked variables and tracked
-- names on the script's side, and on the function's the values that agree with them. So lists with marked variables are read across
-- outside calls. Own.
use Rattle.std.specs.Prelude.{◌≡◌, ℕ, Bool, false, List, Contains, Some}
use Rattle.clif_types.specs.EntitySet.{has}
use Rattle.clif_types.specs.Signature.{SignatureShape}
use Rattle.clif_types.specs.declared.target.PointerWidth.{PointerWidth}
use Rattle.clif_ir.specs.Body.{Body}
use Rattle.clif_records.specs.declared.tables.Pending.{Pending}
use Rattle.clif_records.specs.Tables.{pending_of}
use Rattle.clif_records.specs.Tracking.{recorded_of}
use Rattle.clif_ssa.specs.Own.{Own}
use Rattle.clif_ssa.specs.Sound.{EntryIsFree}
use Rattle.clif_ssa.specs.Ssa.{SsaState, sealed_of}
use Rattle.clif_meaning.specs.FunctionMachine.{Collector, ByMaps, OverSet}
use Rattle.clif_meaning.specs.Headline.{IsWorldOf}
use Rattle.clif_meaning.specs.Ledger.{is_marked, ledger_after}
use Rattle.clif_meaning.specs.Name.{Name}
use Rattle.clif_meaning.specs.Premises.{EachItem, KeepsTrackedApart}
use Rattle.clif_meaning.specs.Request.{AnsweredCall, script_of}
use Rattle.clif_meaning.specs.Tracked.{is_tracked}
use Rattle.clif_meaning.specs.View.{view_of}
use Rattle.clif_meaning.specs.World.{World}
use Rattle.clif_simulation.specs.Coming.{Arrivals, Coming, MayCome, RunsBesideArriving}
use Rattle.clif_simulation.specs.Interrupted.{RunsBeside}
use Rattle.clif_simulation.specs.Marked.{NamesAgree, ValuesAgree}
use Rattle.clif_simulation.specs.Reading.{PremisesSoFar, RunSideBySide, WellTypedSoFar, function_run_so_far, may_grow, script_run_so_far}
use Rattle.clif_simulation.specs.Tables.{block_name, program_so_far}

-- the values that a collector moves, of a function without stack maps
abbrev pub moved_by : Collector → ℕ → Bool
moved_by ByMaps value = false
moved_by (OverSet members) value = members value

-- What moves agrees with the marks of the calls. A name that is assigned to a variable, or answers a use of it, is tracked exactly if the
-- variable is marked. The values of tracked names move, and the parameters that are passed what moves, zeros of the construction aside
-- (`ValuesAgree`, as of finished functions). A parameter that waits for a variable moves exactly if the variable is marked.
pub record MovesAsMarked (calls : List AnsweredCall) (own : Own) (f : Body) (s : SsaState) (tracked : Name → Bool)
    (collector : Collector) : Type 0 where
  pub names : NamesAgree calls (is_marked (ledger_after (script_of calls))) tracked
  pub values : ValuesAgree calls own f s tracked (moved_by collector)
  pub waiting : (block : ℕ) (parameter : Pending) → Contains (pending_of (sealed_of s block)) parameter
      → moved_by collector parameter.param ≡ is_marked (ledger_after (script_of calls)) parameter.variable

-- `ReadsRightWhere`, where what moves agrees with marks: any variables may be marked, and any outside calls made
abbrev pub ReadsRightMarked : (Name → Bool) → List AnsweredCall → Own → SignatureShape → Body → SsaState → Type 0
ReadsRightMarked growing calls own signature f s =
    (width : PointerWidth) (world : World) (tracked : Name → Bool) (collector : Collector)
    → IsWorldOf signature (view_of f) width world → PremisesSoFar growing calls signature → EntryIsFree f s
    → MovesAsMarked calls own f s tracked collector
    → (block : ℕ) (name : Name) → block_name calls block ≡ Some name → (program_so_far calls).entry ≡ Some name
    → RunsBeside calls f s (script_run_so_far calls f world tracked) (function_run_so_far calls f world collector) block name

-- and along each set of edges that may still come (`ReadsRightComing`), those of outside calls among them: what moves behind such a
-- call moves on both sides alike
abbrev pub ReadsRightMarkedComing : (Name → Bool) → List AnsweredCall → Own → SignatureShape → Body → SsaState → Type 0
ReadsRightMarkedComing growing calls own signature f s =
    (width : PointerWidth) (world : World) (tracked : Name → Bool) (collector : Collector) (coming : Coming)
    → IsWorldOf signature (view_of f) width world → WellTypedSoFar growing (ledger_after (script_of calls)) (program_so_far calls) signature
    → MayCome coming calls s → EntryIsFree f s → MovesAsMarked calls own f s tracked collector
    → (block : ℕ) (name : Name) → block_name calls block ≡ Some name → (program_so_far calls).entry ≡ Some name
    → (arrivals : Arrivals)
    → RunsBesideArriving coming arrivals calls f s (script_run_so_far calls f world tracked) (function_run_so_far calls f world collector) block name

-- and where no branch was made, from every pair of states at the front of an unsealed entry (`ReadsRightFromAnywhere`)
abbrev pub ReadsRightMarkedFromAnywhere : List AnsweredCall → Own → SignatureShape → Body → SsaState → Type 0
ReadsRightMarkedFromAnywhere calls own signature f s =
    (width : PointerWidth) (world : World) (tracked : Name → Bool) (collector : Collector)
    → IsWorldOf signature (view_of f) width world → PremisesSoFar (may_grow calls) calls signature → MovesAsMarked calls own f s tracked collector
    → RunSideBySide calls f s (script_run_so_far calls f world tracked) (function_run_so_far calls f world collector)

-- the collector over exactly what is recorded so far
abbrev pub over_recorded : SsaState → Collector
over_recorded s = OverSet (λ value. has (recorded_of s.tracking) value)

-- no tracked name is assigned to an unmarked variable, or answered by a use of one: as of finished functions
abbrev pub KeepsApart : List AnsweredCall → Type 0
KeepsApart calls = EachItem (KeepsTrackedApart (ledger_after (script_of calls)) (is_tracked (script_of calls))) (program_so_far calls)

-- the script's run under the marks of the calls, and beside it the function's under the collector over what is recorded so far
abbrev pub ReadsRightRecorded : (Name → Bool) → List AnsweredCall → SignatureShape → Body → SsaState → Type 0
ReadsRightRecorded growing calls signature f s =
    (width : PointerWidth) (world : World)
    → IsWorldOf signature (view_of f) width world → PremisesSoFar growing calls signature → EntryIsFree f s → KeepsApart calls
    → (block : ℕ) (name : Name) → block_name calls block ≡ Some name → (program_so_far calls).entry ≡ Some name
    → RunsBeside calls f s (script_run_so_far calls f world (is_tracked (script_of calls))) (function_run_so_far calls f world (over_recorded s)) block name

abbrev pub ReadsRightRecordedComing : (Name → Bool) → List AnsweredCall → SignatureShape → Body → SsaState → Type 0
ReadsRightRecordedComing growing calls signature f s =
    (width : PointerWidth) (world : World) (coming : Coming)
    → IsWorldOf signature (view_of f) width world → WellTypedSoFar growing (ledger_after (script_of calls)) (program_so_far calls) signature
    → MayCome coming calls s → EntryIsFree f s → KeepsApart calls
    → (block : ℕ) (name : Name) → block_name calls block ≡ Some name → (program_so_far calls).entry ≡ Some name
    → (arrivals : Arrivals)
    → RunsBesideArriving coming arrivals calls f s (script_run_so_far calls f world (is_tracked (script_of calls)))
    (function_run_so_far calls f world (over_recorded s)) block name

abbrev pub ReadsRightRecordedFromAnywhere : List AnsweredCall → SignatureShape → Body → SsaState → Type 0
ReadsRightRecordedFromAnywhere calls signature f s =
    (width : PointerWidth) (world : World)
    → IsWorldOf signature (view_of f) width world → PremisesSoFar (may_grow calls) calls signature → KeepsApart calls
    → RunSideBySide calls f s (script_run_so_far calls f world (is_tracked (script_of calls))) (function_run_so_far calls f world (over_recorded s))
