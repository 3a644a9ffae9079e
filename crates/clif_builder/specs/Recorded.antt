-- Exactly what is recorded for stack maps, in every program: branches to the entry, and parameters that became names of other
-- values, are no exception. Source: own, after the crate's documentation of `declare_var_needs_stack_map` and
-- `declare_value_needs_stack_map`.
use Rattle.std.specs.Prelude.{◌≡◌, ◌≤◌, ◌⊎◌, ◌↔◌, ℕ, List, length, slice_get, Option, Some, None}
use Rattle.clif_nodes.specs.declared.nodes.ValueNode.{ValueNode}
use Rattle.clif_nodes.specs.declared.nodes.ValueOrigin.{ValueOrigin}
use Rattle.clif_nodes.specs.declared.nodes.ValueOrigin.TheVariants.{Alias, Param, Result}
use Rattle.clif_meaning.specs.Name.{Name}
use Rattle.clif_meaning.specs.Request.{AnsweredCall, script_of}
use Rattle.clif_ssa.specs.Ssa.{SsaState, record_of}
use Rattle.clif_simulation.specs.Carries.{IsValue}
use Rattle.clif_simulation.specs.Tables.{answered}
use Rattle.clif_simulation.specs.Tracks.{AsksFor, AssignsTo, HasNoRecord, IsAskedFor, IsMarkedIn, IsRecordedIn}

-- the value is a parameter of a block, or was one and is another name of a value by now: no instruction gives it
abbrev pub IsOfBlock : ValueOrigin → Type 0
IsOfBlock (Param block) = Unit {0}
IsOfBlock (Alias original) = Unit {0}
IsOfBlock (Result inst place) = ⊥

abbrev pub IsParameterOrName : Option ValueNode → Type 0
IsParameterOrName None = ⊥
IsParameterOrName (Some node) = IsOfBlock node.origin

abbrev pub IsParameterAmong : List ValueNode → (value : ℕ) → Type 0
IsParameterAmong values value = IsParameterOrName (slice_get values value)

-- for each value the variable that a use or a sealing made it for, if it is a parameter that one of them made
abbrev pub MadeFor : Type 0
MadeFor = ℕ → Option ℕ

-- The parameter wasn't among the values before, is now, and is on record for the variable.
pub record IsNewOnRecord (before now : List ValueNode) (t : SsaState) (value variable : ℕ) : Type 0 where
  pub is_new : length before ≤ value
  pub is_parameter : IsParameterAmong now value
  pub block : ℕ
  pub on_record : record_of t variable block ≡ Some value

-- From one state to the next, of a function that had these values and has those now, parameters are made for variables: what is
-- on record for a variable was so before, in some block, or was made for it now.
pub record MakesParameters (before now : List ValueNode) (s t : SsaState) : Type 0 where
  pub made_for : MadeFor
  pub each : (value variable : ℕ) → made_for value ≡ Some variable → IsNewOnRecord before now t value variable
  pub on_record : (variable block value : ℕ) → record_of t variable block ≡ Some value
      → ((other : ℕ) × (record_of s variable other ≡ Some value)) ⊎ (made_for value ≡ Some variable)

-- the same, as a word that is unfolded on demand
unfoldable pub MakesInto : (before now : List ValueNode) → SsaState → SsaState → Type 0
MakesInto before now s t = MakesParameters before now s t

-- a call assigned the value to the variable
abbrev pub IsAssigned : List AnsweredCall → (variable value : ℕ) → Type 0
IsAssigned calls variable value = (name : Name) × AssignsTo (script_of calls) variable name × (answered calls name ≡ value)

-- The value is a parameter, and in some block it is on record for the variable, or a value that was assigned took its place there.
pub record StandsOnRecord (calls : List AnsweredCall) (values : List ValueNode) (s : SsaState) (value variable : ℕ) : Type 0 where
  pub is_parameter : IsParameterAmong values value
  pub block : ℕ
  pub on_record : (record_of s variable block ≡ Some value)
      ⊎ ((other : ℕ) × (record_of s variable block ≡ Some other) × IsAssigned calls variable other)

-- the parameter was made for a marked variable
abbrev pub WasMadeForMarked : MadeFor → SsaState → (value : ℕ) → Type 0
WasMadeForMarked made_for s value = (variable : ℕ) × (made_for value ≡ Some variable) × IsMarkedIn s variable

-- What is recorded, of a function with these values: what stack maps were asked for, by its name or as it was assigned to a
-- marked variable, and the parameters that uses and sealings made for marked variables.
pub record RecordsExactly (calls : List AnsweredCall) (values : List ValueNode) (s : SsaState) : Type 0 where
  pub made_for : MadeFor
  pub recorded : (value : ℕ) → IsRecordedIn s value ↔ (IsAskedFor calls s value ⊎ WasMadeForMarked made_for s value)
  -- what is on record for a variable was assigned to it or made for it, and what was made for it stands on record
  pub on_record : (variable block value : ℕ) → record_of s variable block ≡ Some value
      → IsAssigned calls variable value ⊎ (made_for value ≡ Some variable)
  pub stands : (value variable : ℕ) → made_for value ≡ Some variable → StandsOnRecord calls values s value variable
  -- a variable that was assigned is on record; stack maps are asked for values, and values are assigned
  pub unassigned : (variable : ℕ) → HasNoRecord s variable → (name : Name) → AssignsTo (script_of calls) variable name → ⊥
  pub values_asked : (name : Name) → AsksFor (script_of calls) name → IsValue calls name
  pub values_assigned : (variable : ℕ) (name : Name) → AssignsTo (script_of calls) variable name → IsValue calls name
