-- The tracked names of calls are those without the calls that seal, renamed.
use Rattle.std.proofs.Common.{◌≡◌, ℕ, suc, Bool, true, false, cond, not, List, [], ◌∷◌, ◌++◌, map, refl, sym, ◌∙◌, ap, ap₂}
use Rattle.std.specs.Prelude.{slice_get}
use Rattle.std.specs.List.{list_any}
use Rattle.std.proofs.lemmas.List.{map-append}
use Rattle.clif_meaning.specs.Ledger.{Ledger, VariableState, is_marked, marked}
use Rattle.clif_meaning.specs.Name.{Name, answer_of, same_name}
use Rattle.clif_expansion.specs.CallsRun.{calls_track, tracked_by_call, tracked_by_calls}
use Rattle.clif_expansion.specs.ScriptCall.{Ask, Emit, ScriptCall, ledger_of}
use Rattle.clif_renaming.specs.CallsSealing.{calls_left, counted_as, renamed_call, unsealed_calls}
use Rattle.clif_renaming.specs.Sealing.{name_left}
use Rattle.clif_renaming.proofs.Places.{Follows, follows_at_first, follows_call, follows_here, follows_seal, names_apart}
use Rattle.clif_renaming.proofs.TrackedNames.{list_any_renamed, sealing_tracks_none, tracked_both}
use Rattle.clif_sealing_laws.proofs.calls.Along.{seals}
use Rattle.clif_sealing_laws.proofs.calls.Ledgers.{unsealed_ledgers}

module _ (rename : Name → Name) (ledger ledger' : Ledger) (same : (variable : ℕ) → is_marked ledger' variable ≡ is_marked ledger variable) where
  call_tracks : (call : ScriptCall) (place place' : ℕ) → ((index : ℕ) → rename (answer_of place index) ≡ answer_of place' index)
      → tracked_by_call ledger' place' (renamed_call rename call) ≡ map rename (tracked_by_call ledger place call)
  call_tracks (Ask request) place place' at = tracked_both rename ledger ledger' same request place place' at
  call_tracks (Emit imports instruction) place place' at = refl

  seal_tracks_none : (call : ScriptCall) (place : ℕ) → seals call ≡ true → tracked_by_call ledger place call ≡ []
  seal_tracks_none (Ask request) place is = sealing_tracks_none rename ledger ledger' same request place is
  seal_tracks_none (Emit imports instruction) place is = refl

  abbrev TrackRenamed : List ScriptCall → Type 0
  TrackRenamed calls = (place place' : ℕ) → Follows rename (map counted_as calls) place place'
      → tracked_by_calls ledger' place' (map (renamed_call rename) (calls_left calls)) ≡ map rename (tracked_by_calls ledger place calls)

  tracked_along : (calls : List ScriptCall) → TrackRenamed calls
  tracked_along [] place place' follows = refl
  tracked_along (call ∷ calls) place place' follows = by (tracked_along calls) (seals call) refl
    where
      others : Bool → List ScriptCall
      others c = map (renamed_call rename) (cond (not c) (call ∷ calls_left calls) (calls_left calls))

      by : TrackRenamed calls → (c : Bool) → seals call ≡ c
          → tracked_by_calls ledger' place' (others (seals call)) ≡ map rename (tracked_by_call ledger place call ++ tracked_by_calls ledger (suc place) calls)
      by later true is =
          ap (λ (c : Bool). tracked_by_calls ledger' place' (others c)) is
          ∙ later (suc place) place' (follows_seal rename (counted_as call) (map counted_as calls) place place' follows is)
          ∙ ap (λ (names : List Name). map rename (names ++ tracked_by_calls ledger (suc place) calls)) (sym (seal_tracks_none call place is))
      by later false is =
          ap (λ (c : Bool). tracked_by_calls ledger' place' (others c)) is
          ∙ ap₂ (λ (names rest : List Name). names ++ rest) (call_tracks call place place' (follows_here rename (counted_as call) (map counted_as calls) place place' follows is))
          (later (suc place) (suc place') (follows_call rename (counted_as call) (map counted_as calls) place place' follows is))
          ∙ sym (map-append rename (tracked_by_call ledger place call) (tracked_by_calls ledger (suc place) calls))

pub marked_in_calls : (calls : List ScriptCall) (variable : ℕ) → is_marked (ledger_of (unsealed_calls calls)) variable ≡ is_marked (ledger_of calls) variable
marked_in_calls calls variable = ap (λ (states : List VariableState). marked (slice_get states variable)) (unsealed_ledgers calls).tables.variables

pub tracked_in_calls : (calls : List ScriptCall) (name : Name) → calls_track (unsealed_calls calls) (name_left (map counted_as calls) name) ≡ calls_track calls name
tracked_in_calls calls name =
    let script = map counted_as calls in
    ap (λ (names : List Name). list_any (same_name (name_left script name)) names)
    (tracked_along (name_left script) (ledger_of calls) (ledger_of (unsealed_calls calls)) (marked_in_calls calls) calls 0 0 (follows_at_first script))
    ∙ list_any_renamed (name_left script) (names_apart script) name (tracked_by_calls (ledger_of calls) 0 calls)
