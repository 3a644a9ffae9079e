-- Tracked names: those whose bits a moving collector changes. They are the names that stack maps were asked to name, and those
-- that were assigned to a marked variable or answered by a use of one, anywhere in the script. Own.
use Rattle.std.specs.Prelude.{ℕ, suc, if◌then◌else◌, Bool, List, [], ◌∷◌, ◌++◌}
use Rattle.std.specs.List.{AllByRecursion, list_any}
use Rattle.clif_meaning.specs.Name.{Name, answer_of, same_name}
use Rattle.clif_meaning.specs.Request.{Request, DefVar, UseVar, OfVariable, OfValue, NeedStackMap, Script}
use Rattle.clif_meaning.specs.Ledger.{Ledger, is_marked, ledger_after}

-- the names that the call at this place tracks, by the marks of the whole script
abbrev pub tracked_by : Ledger → ℕ → Request → List Name
tracked_by ledger place (DefVar variable value) = if is_marked ledger variable then value ∷ [] else []
tracked_by ledger place (UseVar variable) = if is_marked ledger variable then answer_of place 0 ∷ [] else []
tracked_by ledger place (NeedStackMap (OfValue value)) = value ∷ []
tracked_by ledger place (NeedStackMap (OfVariable variable)) = []
tracked_by ledger place _ = []

-- those that the calls from this place on track
abbrev pub tracked_from : Ledger → ℕ → Script → List Name
tracked_from ledger place [] = []
tracked_from ledger place (request ∷ script) = tracked_by ledger place request ++ tracked_from ledger (suc place) script

abbrev pub tracked_names : Script → List Name
tracked_names script = tracked_from (ledger_after script) 0 script

abbrev pub is_tracked : Script → Name → Bool
is_tracked script name = list_any (same_name name) (tracked_names script)

-- the call asks for no stack maps
abbrev pub AsksForNoMaps : Request → Type 0
AsksForNoMaps (NeedStackMap need) = ⊥
AsksForNoMaps _ = Unit {0}

-- nor does any other: no variable is marked, and no name is tracked
abbrev pub TracksNothing : Script → Type 0
TracksNothing script = AllByRecursion AsksForNoMaps script
