-- What a context has marked and recorded for stack maps. Source: own.
-- What calls record is said by words that are unfolded on demand: a proof about a caller has every call's clauses in sight, and only
-- one that asks what is recorded has to read these.
use Rattle.std.specs.Prelude.{◌≡◌, ℕ, Contains, IsTrue, List, Some, slice_get}
use Rattle.clif_types.specs.EntitySet.{has}
use Rattle.clif_types.specs.declared.types.«Type».{«Type»}
use Rattle.clif_ir.specs.Body.{Body}
use Rattle.clif_stack_slots.specs.Sizes.{FitsStackMap}
use Rattle.clif_spiller.specs.Plans.{MayBeSpilled}
use Rattle.clif_records.specs.Tracking.{Tracked, marked_of, nothing_tracked, recorded_of, with_binding}
use Rattle.clif_ssa.specs.Ssa.{SsaState}
use Rattle.clif_ssa.specs.Tracked.{TracksMade}
use Rattle.clif_builder.specs.Context.{ContextState}

-- the context, where this is tracked
abbrev pub with_tracking : ContextState → Tracked → ContextState
with_tracking c tracked = record c { ssa = record c.ssa { tracking = tracked } }

-- exactly the parameters that were made for marked variables are recorded, of a function that had so many values
unfoldable pub TracksParameters : ℕ → SsaState → SsaState → Type 0
TracksParameters count s t = TracksMade count s t

-- the value of a variable is recorded, if that is marked, and nothing else
unfoldable pub TracksBinding : ContextState → ContextState → ℕ → ℕ → Type 0
TracksBinding c d variable value = d.ssa.tracking ≡ with_binding c.ssa.tracking variable value

-- nothing is marked, and nothing is recorded
abbrev pub IsUntracked : ContextState → Type 0
IsUntracked c = c.ssa.tracking ≡ nothing_tracked

-- No mark changes, and where nothing was tracked nothing is.
pub record StaysUntracked (c d : ContextState) : Type 0 where
  pub marks : marked_of d.ssa.tracking ≡ marked_of c.ssa.tracking
  pub untracked : IsUntracked c → IsUntracked d

-- the variable is declared, and its type fits
pub record VariableFits (c : ContextState) (variable : ℕ) : Type 0 where
  pub ty : «Type»
  pub declared : slice_get c.variables variable ≡ Some ty
  pub fits : FitsStackMap ty

-- Marked variables are declared, recorded values exist, and the types of both fit stack maps.
pub record FitsMaps (f : Body) (c : ContextState) : Type 0 where
  pub marked : (x : ℕ) → IsTrue (has (marked_of c.ssa.tracking) x) → VariableFits c x
  pub recorded : (v : ℕ) → IsTrue (has (recorded_of c.ssa.tracking) v) → MayBeSpilled f v

-- what each builder keeps of that: a word that is unfolded on demand
unfoldable pub AskedFits : Body → ContextState → Type 0
AskedFits f c = FitsMaps f c

-- recorded values exist, and fit stack maps
abbrev pub RecordedFits : Body → (recorded : List ℕ) → Type 0
RecordedFits f recorded = (v : ℕ) → Contains recorded v → MayBeSpilled f v
