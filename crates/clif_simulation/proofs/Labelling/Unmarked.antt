-- Where no call asks for stack maps no variable is marked, and no name is tracked.
use Rattle.std.proofs.Common.{◌≡◌, ℕ, zero, suc, Bool, false, List, [], ◌∷◌, ◌++◌, length, refl, sym, ◌∙◌, ap, subst}
use Rattle.std.specs.Prelude.{slice_get, fold, if◌then◌else◌}
use Rattle.std.specs.List.{AllByRecursion, list_any}
use Rattle.clif_types.specs.declared.types.«Type».{«Type»}
use Rattle.clif_meaning.specs.Name.{Name, answer_of, same_name}
use Rattle.clif_meaning.specs.Request.{Request, DefVar, UseVar, Script, NeedStackMap}
use Rattle.clif_meaning.specs.Ledger.{Ledger, VariableState, changed_by, empty_ledger, is_marked, ledger_after, ledger_with, marked, new_variable, touched_at, with_begun, with_terminator}
use Rattle.clif_meaning.specs.Tracked.{is_tracked, tracked_from, AsksForNoMaps, TracksNothing}
use Rattle.clif_meaning.proofs.Effects.{LedgerEffect, ledger_effect, Keeps, Lays, Changes, Begins, Creates, Enters, ChangesEach, Declares, Touches, Reads, Appends, Marks}
use Rattle.clif_simulation.proofs.Ledgers.{variables-begun, variables-edges, variables-terminator}

abbrev IsUnmarked : VariableState → Type 0
IsUnmarked state = state.is_marked ≡ false

abbrev AreUnmarked : List VariableState → Type 0
AreUnmarked states = AllByRecursion IsUnmarked states

unmarked_touched : (states : List VariableState) (touched : ℕ) → AreUnmarked states → AreUnmarked (touched_at touched states)
unmarked_touched [] touched all = tt
unmarked_touched (state ∷ states) zero all = (all.0, all.1)
unmarked_touched (state ∷ states) (suc touched) all = (all.0, unmarked_touched states touched all.1)

unmarked_longer : (states : List VariableState) (ty : «Type») → AreUnmarked states → AreUnmarked (states ++ new_variable ty ∷ [])
unmarked_longer [] ty all = (refl, tt)
unmarked_longer (state ∷ states) ty all = (all.0, unmarked_longer states ty all.1)

unmarked_with : (ledger : Ledger) (request : Request) → AsksForNoMaps request → AreUnmarked ledger.variables → AreUnmarked (ledger_with ledger request).variables
unmarked_with ledger request asks all = by (ledger_effect request)
  where
    of_ledger : (other : Ledger) → changed_by ledger request ≡ other → AreUnmarked other.variables → AreUnmarked (ledger_with ledger request).variables
    of_ledger other is holds = subst (λ (l : Ledger). AreUnmarked l.variables) (sym is) holds

    of_request : (other : Request) → request ≡ other → AreUnmarked (ledger_with ledger other).variables → AreUnmarked (ledger_with ledger request).variables
    of_request other is holds = subst (λ (r : Request). AreUnmarked (ledger_with ledger r).variables) (sym is) holds

    begun : AreUnmarked (with_begun ledger).variables
    begun = subst AreUnmarked (sym (variables-begun ledger ledger.current)) all

    by : LedgerEffect request → AreUnmarked (ledger_with ledger request).variables
    by (Keeps stays is) = of_ledger _ (is ledger) all
    by (Lays layout tables jump_tables exception_tables stays is) = of_ledger _ (is ledger) all
    by (Changes block change keeps stays is) = of_ledger _ (is ledger) all
    by (Begins stays is) = of_ledger _ (is ledger) begun
    by (Creates is) = of_request _ is all
    by (Enters block is) = of_request _ is all
    by (ChangesEach change keeps stays is) = of_ledger _ (is ledger) all
    by (Declares ty is) = of_request _ is (unmarked_longer ledger.variables ty all)
    by (Touches variable value is) = of_request _ is (unmarked_touched ledger.variables variable all)
    by (Marks need is) = absurd (subst AsksForNoMaps is asks)
    by (Reads variable is) = of_request _ is (unmarked_touched (with_begun ledger).variables variable begun)
    by (Appends entries instruction is) =
        of_request _ is
        (subst AreUnmarked
        (sym (variables-edges (answer_of (length ledger.answers) 0) (with_terminator (with_begun ledger) instruction.operation) instruction.edges
        ∙ variables-terminator (with_begun ledger) instruction.operation))
        begun)

unmarked_from : (ledger : Ledger) (script : Script) → TracksNothing script → AreUnmarked ledger.variables → AreUnmarked (fold ledger_with ledger script).variables
unmarked_from ledger [] asks all = all
unmarked_from ledger (request ∷ script) asks all = unmarked_from (ledger_with ledger request) script asks.1 (unmarked_with ledger request asks.0 all)

unmarked_at : (states : List VariableState) (variable : ℕ) → AreUnmarked states → marked (slice_get states variable) ≡ false
unmarked_at [] zero all = refl
unmarked_at [] (suc variable) all = refl
unmarked_at (state ∷ states) zero all = all.0
unmarked_at (state ∷ states) (suc variable) all = unmarked_at states variable all.1

pub none_marked : (script : Script) → TracksNothing script → (variable : ℕ) → is_marked (ledger_after script) variable ≡ false
none_marked script asks variable = unmarked_at (ledger_after script).variables variable (unmarked_from empty_ledger script asks tt)

none_from : (ledger : Ledger) → ((variable : ℕ) → is_marked ledger variable ≡ false) → (place : ℕ) (script : Script) → TracksNothing script → tracked_from ledger place script ≡ []
none_from ledger none place [] asks = refl
none_from ledger none place (DefVar variable value ∷ script) asks =
    ap (λ (t : Bool). (if t then value ∷ [] else []) ++ tracked_from ledger (suc place) script) (none variable) ∙ none_from ledger none (suc place) script asks.1
none_from ledger none place (UseVar variable ∷ script) asks =
    ap (λ (t : Bool). (if t then answer_of place 0 ∷ [] else []) ++ tracked_from ledger (suc place) script) (none variable) ∙ none_from ledger none (suc place) script asks.1
none_from ledger none place (NeedStackMap need ∷ script) asks = absurd asks.0
none_from ledger none place (_ ∷ script) asks = none_from ledger none (suc place) script asks.1

pub none_tracked : (script : Script) → TracksNothing script → (name : Name) → is_tracked script name ≡ false
none_tracked script asks name = ap (list_any (same_name name)) (none_from (ledger_after script) (none_marked script asks) 0 script asks)
