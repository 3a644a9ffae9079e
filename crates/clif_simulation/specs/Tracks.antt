-- What is recorded for stack maps, on paths: the parameters that were made for marked variables, and what stack maps were
-- asked for. Source: the crate's documentation of `declare_var_needs_stack_map` and `declare_value_needs_stack_map`; the exact
-- statement is own.
use Rattle.std.specs.Prelude.{◌≡◌, ◌⊎◌, ℕ, IsTrue, List, Some, None, slice_get}
use Rattle.clif_types.specs.EntitySet.{has}
use Rattle.clif_paths.specs.Blocks.{Blocks}
use Rattle.clif_records.specs.Tracking.{marked_of, recorded_of, with_mark, with_recorded}
use Rattle.clif_ssa.specs.Sound.{IsParameterFor}
use Rattle.clif_ssa.specs.Ssa.{SsaState, record_of}
use Rattle.clif_meaning.specs.Name.{Name}
use Rattle.clif_meaning.specs.Request.{AnsweredCall, DefVar, NeedStackMap, OfValue, OfVariable, Request, Script, StackMapNeed, script_of}
use Rattle.clif_meaning.specs.Ledger.{has_value, ledger_after}
use Rattle.clif_simulation.specs.Tables.{answered}

-- the script has the request at some place
abbrev pub HasRequest : Script → Request → Type 0
HasRequest script request = (place : ℕ) × (slice_get script place ≡ Some request)

-- it asks for stack maps for the name, and assigns the name to the variable
abbrev pub AsksFor : Script → Name → Type 0
AsksFor script name = HasRequest script (NeedStackMap (OfValue name))

abbrev pub AssignsTo : Script → ℕ → Name → Type 0
AssignsTo script x name = HasRequest script (DefVar x name)

-- the variable is marked, and the value is recorded
abbrev pub IsMarkedIn : SsaState → ℕ → Type 0
IsMarkedIn s x = IsTrue (has (marked_of s.tracking) x)

abbrev pub IsRecordedIn : SsaState → ℕ → Type 0
IsRecordedIn s v = IsTrue (has (recorded_of s.tracking) v)

-- stack maps were asked for the name: for itself, or as it was assigned to a marked variable
abbrev pub IsAskedBy : List AnsweredCall → SsaState → Name → Type 0
IsAskedBy calls s name =
    AsksFor (script_of calls) name ⊎ ((x : ℕ) × AssignsTo (script_of calls) x name × IsMarkedIn s x)

-- stack maps were asked for the value, by a name that it answers
pub record IsAskedFor (calls : List AnsweredCall) (s : SsaState) (v : ℕ) : Type 0 where
  pub name : Name
  pub answers : answered calls name ≡ v
  pub how : IsAskedBy calls s name

-- the parameter was made for a marked variable
abbrev pub IsMarkedParameter : Blocks → SsaState → ℕ → Type 0
IsMarkedParameter tables s v = (x : ℕ) × IsParameterFor tables v x × IsMarkedIn s x

-- the variable is on record in no block
abbrev pub HasNoRecord : SsaState → ℕ → Type 0
HasNoRecord s x = (b : ℕ) → record_of s x b ≡ None

-- What is recorded: the parameters that were made for marked variables, and what stack maps were asked for; aliases aside.
pub record TracksOnPaths (calls : List AnsweredCall) (s : SsaState) (tables : Blocks) : Type 0 where
  pub parameters : (v : ℕ) → tables.function.resolve v ≡ v → IsMarkedParameter tables s v → IsRecordedIn s v
  pub only : (v : ℕ) → tables.function.resolve v ≡ v → IsRecordedIn s v
      → IsMarkedParameter tables s v ⊎ IsAskedFor calls s v
  pub asked : (v : ℕ) → IsAskedFor calls s v → IsRecordedIn s v
  -- a variable without records was neither assigned nor used: so marking it changes nothing of the above
  pub unassigned : (x : ℕ) → HasNoRecord s x → (name : Name) → AssignsTo (script_of calls) x name → ⊥
  pub unused : (x : ℕ) → HasNoRecord s x → (v : ℕ) → tables.function.resolve v ≡ v → IsParameterFor tables v x → ⊥
  -- stack maps are asked for values, and values are assigned
  pub values_asked : (name : Name) → AsksFor (script_of calls) name
      → IsTrue (has_value (ledger_after (script_of calls)) name)
  pub values_assigned : (x : ℕ) (name : Name) → AssignsTo (script_of calls) x name
      → IsTrue (has_value (ledger_after (script_of calls)) name)

-- What changes as stack maps are asked for: a variable that has no records yet is marked, or the value that answers a name is
-- recorded.
abbrev pub TracksNeed : List AnsweredCall → SsaState → SsaState → StackMapNeed → Type 0
TracksNeed calls s t (OfVariable x) = HasNoRecord s x × (t.tracking ≡ with_mark s.tracking x)
TracksNeed calls s t (OfValue name) =
    IsTrue (has_value (ledger_after (script_of calls)) name) × (t.tracking ≡ with_recorded s.tracking (answered calls name))
