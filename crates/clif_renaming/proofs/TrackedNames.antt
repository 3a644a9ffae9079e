-- The tracked names of a script are those without its calls that seal, renamed.
use Rattle.std.proofs.Common.{◌≡◌, ℕ, suc, Bool, true, false, cond, not, List, [], ◌∷◌, ◌++◌, map, refl, sym, ◌∙◌, ap, ap₂}
use Rattle.std.specs.Prelude.{if◌then◌else◌, ◌||◌, slice_get}
use Rattle.std.specs.List.{list_any}
use Rattle.std.proofs.lemmas.List.{map-append}
use Rattle.clif_meaning.specs.Ledger.{Ledger, VariableState, is_marked, ledger_after, marked}
use Rattle.clif_meaning.specs.Name.{Name, answer_of, same_name}
use Rattle.clif_meaning.specs.Request.{Request, DefVar, UseVar, NeedStackMap, Script, OfVariable}
use Rattle.clif_meaning.specs.Tracked.{is_tracked, tracked_by, tracked_from, tracked_names}
use Rattle.clif_renaming.specs.Renaming.{KeepsApart}
use Rattle.clif_renaming.specs.Sealing.{is_sealing, name_left, renamed_request, unsealed, without_seals}
use Rattle.clif_renaming.proofs.Ledgers.{unsealed_tables}
use Rattle.clif_renaming.proofs.Places.{Follows, follows_at_first, follows_call, follows_here, follows_seal, names_apart}
use Rattle.clif_renaming.proofs.RenamedEffects.{Seals, SealsAll, SealsOne, sealing_is}
use Rattle.clif_renaming.proofs.RenamedNames.{same_renamed}

-- renamed names hold the renamed name where the names hold the name
pub list_any_renamed : (rename : Name → Name) → KeepsApart rename → (name : Name) (names : List Name) → list_any (same_name (rename name)) (map rename names) ≡ list_any (same_name name) names
list_any_renamed rename apart name [] = refl
list_any_renamed rename apart name (other ∷ names) =
    ap₂ (λ (a b : Bool). a || b) (same_renamed rename apart name other) (list_any_renamed rename apart name names)

module _ (rename : Name → Name) (ledger ledger' : Ledger) (same : (variable : ℕ) → is_marked ledger' variable ≡ is_marked ledger variable) where
  -- what one call tracks
  pub tracked_both : (request : Request) (place place' : ℕ) → ((index : ℕ) → rename (answer_of place index) ≡ answer_of place' index)
      → tracked_by ledger' place' (renamed_request rename request) ≡ map rename (tracked_by ledger place request)
  tracked_both (DefVar variable value) place place' at =
      ap (λ (c : Bool). if c then rename value ∷ [] else []) (same variable) ∙ by (is_marked ledger variable)
    where
      by : (c : Bool) → (if c then rename value ∷ [] else []) ≡ map rename (if c then value ∷ [] else [])
      by true = refl
      by false = refl
  tracked_both (UseVar variable) place place' at =
      ap₂ (λ (c : Bool) (name : Name). if c then name ∷ [] else []) (same variable) (sym (at 0)) ∙ by (is_marked ledger variable)
    where
      by : (c : Bool) → (if c then rename (answer_of place 0) ∷ [] else []) ≡ map rename (if c then answer_of place 0 ∷ [] else [])
      by true = refl
      by false = refl
  tracked_both (NeedStackMap (OfVariable variable)) place place' at = refl
  tracked_both _ place place' at = refl

  -- a call that seals tracks nothing
  pub sealing_tracks_none : (request : Request) (place : ℕ) → is_sealing request ≡ true → tracked_by ledger place request ≡ []
  sealing_tracks_none request place is = by (sealing_is request is)
    where
      by : Seals request → tracked_by ledger place request ≡ []
      by (SealsOne block same) = ap (tracked_by ledger place) same
      by (SealsAll same) = ap (tracked_by ledger place) same

  abbrev TracksRenamed : Script → Type 0
  TracksRenamed script = (place place' : ℕ) → Follows rename script place place'
      → tracked_from ledger' place' (map (renamed_request rename) (without_seals script)) ≡ map rename (tracked_from ledger place script)

  tracked_along : (script : Script) → TracksRenamed script
  tracked_along [] place place' follows = refl
  tracked_along (request ∷ script) place place' follows = by (tracked_along script) (is_sealing request) refl
    where
      calls : Bool → Script
      calls c = map (renamed_request rename) (cond (not c) (request ∷ without_seals script) (without_seals script))

      by : TracksRenamed script → (c : Bool) → is_sealing request ≡ c
          → tracked_from ledger' place' (calls (is_sealing request)) ≡ map rename (tracked_by ledger place request ++ tracked_from ledger (suc place) script)
      by later true seals =
          ap (λ (c : Bool). tracked_from ledger' place' (calls c)) seals
          ∙ later (suc place) place' (follows_seal rename request script place place' follows seals)
          ∙ ap (λ (names : List Name). map rename (names ++ tracked_from ledger (suc place) script)) (sym (sealing_tracks_none request place seals))
      by later false stays =
          ap (λ (c : Bool). tracked_from ledger' place' (calls c)) stays
          ∙ ap₂ (λ (names rest : List Name). names ++ rest) (tracked_both request place place' (follows_here rename request script place place' follows stays))
          (later (suc place) (suc place') (follows_call rename request script place place' follows stays))
          ∙ sym (map-append rename (tracked_by ledger place request) (tracked_from ledger (suc place) script))

pub unsealed_marked : (script : Script) (variable : ℕ) → is_marked (ledger_after (unsealed script)) variable ≡ is_marked (ledger_after script) variable
unsealed_marked script variable = ap (λ (states : List VariableState). marked (slice_get states variable)) (unsealed_tables script).variables

pub unsealed_tracked : (script : Script) (name : Name) → is_tracked (unsealed script) (name_left script name) ≡ is_tracked script name
unsealed_tracked script name =
    ap (λ (names : List Name). list_any (same_name (name_left script name)) names)
    (tracked_along (name_left script) (ledger_after script) (ledger_after (unsealed script)) (unsealed_marked script) script 0 0 (follows_at_first script))
    ∙ list_any_renamed (name_left script) (names_apart script) name (tracked_names script)
