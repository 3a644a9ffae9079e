-- The law of carrying under any marks: the script's run moves any marked variables and any tracked names, the function's run the
-- values of any set, where these agree. The marks that calls make are one case. Own.
use Rattle.std.specs.Prelude.{◌≡◌, ◌≢◌, ℕ, ◌+◌, ◌⊎◌, Bool, List, [], length, None, Some, Contains, slice_get}
use Rattle.clif_types.specs.declared.target.PointerWidth.{PointerWidth}
use Rattle.clif_types.specs.EntitySet.{has}
use Rattle.clif_types.specs.Signature.{SignatureShape}
use Rattle.clif_instructions.specs.declared.block_call.BlockArg.TheVariants.{Value}
use Rattle.clif_ir.specs.Body.{Body, block_at, resolved}
use Rattle.clif_ir.specs.Consistent.{IsConsistent}
use Rattle.clif_ir.specs.Reading.{param_home}
use Rattle.clif_records.specs.Tracking.{marked_of, recorded_of}
use Rattle.clif_ssa.specs.Own.{Own}
use Rattle.clif_ssa.specs.Ssa.{SsaState, predecessors_of}
use Rattle.clif_ssa.specs.Sound.{edge_target, passed_at}
use Rattle.clif_meaning.specs.FunctionMachine.{Collector, OverSet, FunctionRun, function_machine}
use Rattle.clif_meaning.specs.Headline.{MeansTheSame, script_run, function_run, IsWorldOf}
use Rattle.clif_meaning.specs.FunctionView.{FunctionView}
use Rattle.clif_meaning.specs.Ledger.{is_marked, ledger_after}
use Rattle.clif_meaning.specs.Machine.{observed}
use Rattle.clif_meaning.specs.Name.{Name}
use Rattle.clif_meaning.specs.Premises.{EachItem, KeepsTrackedApart, PlacementPremises}
use Rattle.clif_meaning.specs.Program.{Item, Instruct, Use, Assign, program_of}
use Rattle.clif_meaning.specs.Request.{AnsweredCall, Script, script_of}
use Rattle.clif_meaning.specs.SameMeaning.{SameMeaning}
use Rattle.clif_meaning.specs.ScriptMachine.{ScriptRun, script_machine}
use Rattle.clif_meaning.specs.Tracked.{is_tracked}
use Rattle.clif_meaning.specs.View.{view_of}
use Rattle.clif_meaning.specs.World.{World}
use Rattle.clif_simulation.specs.Tables.{answered, program_so_far}
use Rattle.clif_simulation.specs.Carries.{Carries}
use Rattle.clif_simulation.specs.Reading.{IsGivenFresh}
use Rattle.clif_simulation.specs.Laws.{IsFinished}

-- What is assigned to a variable, or answers a use of it, is tracked exactly if the variable is marked.
abbrev pub IsTrackedAsMarked : (ℕ → Bool) → (Name → Bool) → Item → Type 0
IsTrackedAsMarked marked tracked (Instruct place instruction results) = Unit {0}
IsTrackedAsMarked marked tracked (Use variable name) = tracked name ≡ marked variable
IsTrackedAsMarked marked tracked (Assign variable name) = tracked name ≡ marked variable

abbrev pub NamesAgree : List AnsweredCall → (ℕ → Bool) → (Name → Bool) → Type 0
NamesAgree calls marked tracked = EachItem (IsTrackedAsMarked marked tracked) (program_so_far calls)

-- The construction put the value there, for a zero: it is no parameter, and answers no name that the caller gave.
pub record IsPut (calls : List AnsweredCall) (f : Body) (value : ℕ) : Type 0 where
  pub no_parameter : param_home f value ≡ None
  pub no_answer : (name : Name) → IsGivenFresh (program_so_far calls) name → answered calls name ≢ value

-- The members are the values of tracked names, and the parameters that are passed members. Zeros that the construction put may be
-- members or not, since a moved zero is zero.
pub record ValuesAgree (calls : List AnsweredCall) (own : Own) (f : Body) (s : SsaState) (tracked : Name → Bool)
    (members : ℕ → Bool) : Type 0 where
  -- what answers a name that an instruction gives, or a block's entry, is a member exactly if the name is tracked
  pub answers : (name : Name) → IsGivenFresh (program_so_far calls) name
      → members (resolved f (answered calls name)) ≡ tracked name
  -- behind what the caller passed, an edge passes to a parameter what is a member exactly if the parameter is, or a zero
  pub arguments : (target branch edge place argument parameter : ℕ)
      → Contains (predecessors_of s target) branch → edge_target f branch edge ≡ Some target
      → passed_at f branch edge (length (own.passed branch edge) + place) ≡ Some (Value argument)
      → slice_get (block_at f target).params (length (own.params target) + place) ≡ Some parameter
      → (members (resolved f argument) ≡ members (resolved f parameter)) ⊎ IsPut calls f (resolved f argument)

-- what a run of the script goes by, where these variables are marked, these names are tracked and these addresses are hidden
abbrev pub marked_script_run : List AnsweredCall → Body → World → (ℕ → Bool) → (Name → Bool) → (ℕ → Bool) → ScriptRun
marked_script_run calls f world marked tracked hidden =
    record (script_run (script_of calls) (view_of f) world) { is_marked = marked; is_tracked = tracked; hidden = hidden }

-- and what a run of the function goes by, under this collector
abbrev pub collected_run : List AnsweredCall → Body → World → Collector → (ℕ → Bool) → FunctionRun
collected_run calls f world collector hidden =
    record (function_run (script_of calls) (view_of f) world collector) { hidden = hidden }

-- A finished function that carries a list of calls means what the list's program means under these marks, where its collector
-- is over values that agree with them, and whatever addresses are hidden from both.
abbrev pub CarryingMeansTheSameMoving : Type 0
CarryingMeansTheSameMoving =
    (calls : List AnsweredCall) (f : Body) (s : SsaState) (width : PointerWidth)
    → IsConsistent f → (carries : Carries calls f s) → IsFinished calls f s
    → (marked : ℕ → Bool) (tracked : Name → Bool) (members hidden : ℕ → Bool)
    → NamesAgree calls marked tracked → ValuesAgree calls carries.own f s tracked members
    → (world : World) → IsWorldOf f.signature (view_of f) width world
    → PlacementPremises (script_of calls) f.signature
    → SameMeaning (observed (script_machine (marked_script_run calls f world marked tracked hidden)))
    (observed (function_machine (collected_run calls f world (OverSet members) hidden)))

-- Where no tracked name is assigned to an unmarked variable or answered by a use of one, a function means the script under its
-- marks, with a collector over these values, and whatever addresses are hidden from both.
abbrev pub MeansTheSameMoving : Script → SignatureShape → PointerWidth → FunctionView → (ℕ → Bool) → Type 0
MeansTheSameMoving script signature width function members =
    (hidden : ℕ → Bool) (world : World) → IsWorldOf signature function width world → PlacementPremises script signature
    → EachItem (KeepsTrackedApart (ledger_after script) (is_tracked script)) (program_of script)
    → SameMeaning (observed (script_machine (record (script_run script function world) { hidden = hidden })))
    (observed (function_machine (record (function_run script function world (OverSet members)) { hidden = hidden })))

-- A finished function that carries a list of calls means what the list's program means under the marks of the calls, with a
-- collector over what was recorded: whatever the calls ask stack maps for.
abbrev pub CarryingMeansTheSameTracked : Type 0
CarryingMeansTheSameTracked =
    (calls : List AnsweredCall) (f : Body) (s : SsaState) (width : PointerWidth)
    → IsConsistent f → Carries calls f s → IsFinished calls f s
    → ((x : ℕ) → is_marked (ledger_after (script_of calls)) x ≡ has (marked_of s.tracking) x)
    → MeansTheSameMoving (script_of calls) f.signature width (view_of f) (λ v. has (recorded_of s.tracking) v)

-- Where nothing was recorded, it means that under the collector by stack maps: the function has none,
-- and no name that an instruction gives, or a block's entry, is tracked then.
abbrev pub CarryingMeansTheSameUnrecorded : Type 0
CarryingMeansTheSameUnrecorded =
    (calls : List AnsweredCall) (f : Body) (s : SsaState) (width : PointerWidth)
    → IsConsistent f → Carries calls f s → IsFinished calls f s
    → ((x : ℕ) → is_marked (ledger_after (script_of calls)) x ≡ has (marked_of s.tracking) x)
    → recorded_of s.tracking ≡ []
    → MeansTheSame (script_of calls) f.signature width (view_of f)
