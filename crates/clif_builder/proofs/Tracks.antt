-- What calls record for stack maps, from what the construction says, and back.
use Rattle.std.proofs.Common.{◌≡◌, ◌<◌, ℕ, Bool, true, false, if◌then◌else◌, List, [], ◌∷◌, ◌++◌, length, refl, sym, ◌∙◌, ap, subst}
use Rattle.std.specs.Prelude.{Result, OnOk, Some}
use Rattle.clif_types.specs.EntitySet.{has}
use Rattle.clif_nodes.specs.declared.nodes.ValueNode.{ValueNode}
use Rattle.clif_ir.specs.Body.{Body}
use Rattle.clif_meaning.specs.Name.{Name}
use Rattle.clif_meaning.specs.Request.{AnsweredCall, DefVar, NeedStackMap, Request, script_of}
use Rattle.clif_meaning.specs.Ledger.{Ledger, is_marked}
use Rattle.clif_meaning.specs.Tracked.{AsksForNoMaps, TracksNothing}
use Rattle.clif_simulation.specs.Tables.{number_or_none}
use Rattle.clif_simulation.proofs.Ledgers.{marks_stay}
use Rattle.clif_simulation.proofs.Tracking.Steps.{NamesNothing}
use Rattle.clif_records.specs.Tracking.{Tracked, marked_of, with_binding, with_recorded}
use Rattle.clif_ssa.specs.Ssa.{SsaState, Records, RecordsStay, SameRecords, record_of}
use Rattle.clif_ssa.specs.Tracked.{TracksMade}
use Rattle.clif_builder.specs.Context.{ContextState}
use Rattle.clif_builder.specs.Ledger.{NamesValue, TracksAgree, ledger_of}
use Rattle.clif_builder.specs.Recorded.{MakesInto, MakesParameters, RecordsExactly}
use Rattle.clif_builder.proofs.BlockValues.{StayParameters}
use Rattle.clif_builder.proofs.Exactly.{exactly_assigned, exactly_made, exactly_quiet, exactly_same}
use Rattle.clif_builder.proofs.LedgerKept.{ledger-more}
use Rattle.clif_builder.proofs.Made.{makes_parameters}
use Rattle.clif_builder.specs.Tracking.{StaysUntracked, TracksBinding, TracksParameters}

pub tracks : {count : ℕ} {s t : SsaState} → TracksMade count s t → TracksParameters count s t
unfolding TracksParameters
tracks made = made

pub tracks_made : {count : ℕ} {s t : SsaState} → TracksParameters count s t → TracksMade count s t
unfolding TracksParameters
tracks_made tracked = tracked

pub binds : {A E : Type 0} (answer : Result A E) (c d : ContextState) (variable value : ℕ) → OnOk answer (d.ssa.tracking ≡ with_binding c.ssa.tracking variable value)
    → OnOk answer (TracksBinding c d variable value)
unfolding TracksBinding
binds answer c d variable value is = is

pub is_bound : (c d : ContextState) (variable value : ℕ) → TracksBinding c d variable value → d.ssa.tracking ≡ with_binding c.ssa.tracking variable value
unfolding TracksBinding
is_bound c d variable value binds = binds

-- WHERE NOTHING IS TRACKED ----------------------------------------------------------------------------------------------

pub untracked_same : (c d : ContextState) → d.ssa.tracking ≡ c.ssa.tracking → StaysUntracked c d
untracked_same c d same = record { marks = ap (λ (t : Tracked). marked_of t) same; untracked = λ none. same ∙ none }

pub untracked_ssa : (c d : ContextState) → d.ssa ≡ c.ssa → StaysUntracked c d
untracked_ssa c d same = untracked_same c d (ap (λ (s : SsaState). s.tracking) same)

pub untracked_made : (count : ℕ) (c d : ContextState) → TracksParameters count c.ssa d.ssa → StaysUntracked c d
untracked_made count c d made = record {
  marks = (tracks_made made).marks;
  untracked = λ none. (tracks_made made).unmarked (λ x. ap (λ (t : Tracked). has (marked_of t) x) none) ∙ none;
}

pub untracked_bound : (c d : ContextState) (variable value : ℕ) → d.ssa.tracking ≡ with_binding c.ssa.tracking variable value → StaysUntracked c d
untracked_bound c d variable value is = record {
  marks = ap (λ (t : Tracked). marked_of t) is ∙ by (has (marked_of c.ssa.tracking) variable);
  untracked = λ none. is ∙ ap (λ (t : Tracked). with_binding t variable value) none;
}
  where
    by : (test : Bool) → marked_of (if test then with_recorded c.ssa.tracking value else c.ssa.tracking) ≡ marked_of c.ssa.tracking
    by true = refl
    by false = refl

-- A LONGER LIST ---------------------------------------------------------------------------------------------------------

-- the call neither assigns a variable nor asks for stack maps
abbrev pub TracksNothingNew : Request → Type 0
TracksNothingNew (DefVar variable value) = ⊥
TracksNothingNew (NeedStackMap need) = ⊥
TracksNothingNew _ = Unit {0}

pub asks_none : (request : Request) → TracksNothingNew request → AsksForNoMaps request
asks_none (DefVar variable value) new = absurd new
asks_none (NeedStackMap need) new = absurd new
asks_none _ new = tt

names_none : (request : Request) → TracksNothingNew request → NamesNothing request
names_none (DefVar variable value) new = absurd new
names_none (NeedStackMap need) new = absurd new
names_none _ new = tt

asks_before : (calls : List AnsweredCall) (call : AnsweredCall) → TracksNothing (script_of (calls ++ call ∷ [])) → TracksNothing (script_of calls)
asks_before [] call asks = tt
asks_before (first ∷ calls) call asks = (asks.0, asks_before calls call asks.1)

-- marks and what is recorded where nothing is, behind a call that asks for no stack maps
marks_on : (calls : List AnsweredCall) (call : AnsweredCall) (values more : List ValueNode) (c d : ContextState) → AsksForNoMaps call.request → StaysUntracked c d → TracksAgree calls values c
    → RecordsExactly (calls ++ call ∷ []) more d.ssa → TracksAgree (calls ++ call ∷ []) more d
marks_on calls call values more c d asks stays agrees exactly = record {
  marks = λ x.
      ap (λ (ledger : Ledger). is_marked ledger x) (ledger-more calls call) ∙ marks_stay (ledger_of calls) call.request asks x ∙ agrees.marks x
      ∙ sym (ap (λ (marked : List ℕ). has marked x) stays.marks);
  exactly = exactly;
  untracked = λ all. stays.untracked (agrees.untracked (asks_before calls call all));
}

-- What a call leaves of what is tracked, of a function that had `values` and has `more`.
pub record KeepsTracks (values : List ValueNode) (c : ContextState) (more : List ValueNode) (d : ContextState) : Type 0 where
  pub untracked : StaysUntracked c d
  pub exactly : (calls : List AnsweredCall) (call : AnsweredCall) → TracksNothingNew call.request → RecordsExactly calls values c.ssa
      → RecordsExactly (calls ++ call ∷ []) more d.ssa

-- nothing is tracked, and no record changes
pub keeps_same : (values more : List ValueNode) (c d : ContextState) → StayParameters values more → SameRecords c.ssa d.ssa → d.ssa.tracking ≡ c.ssa.tracking
    → KeepsTracks values c more d
keeps_same values more c d grows records tracking = record {
  untracked = untracked_same c d tracking;
  exactly = λ calls call new was. exactly_quiet calls call values c.ssa was more d.ssa (names_none call.request new) grows records tracking;
}

pub keeps_ssa : (values more : List ValueNode) (c d : ContextState) → StayParameters values more → d.ssa ≡ c.ssa → KeepsTracks values c more d
keeps_ssa values more c d grows same =
    keeps_same values more c d grows (λ x b. ap (λ (s : SsaState). record_of s x b) same) (ap (λ (s : SsaState). s.tracking) same)

-- parameters are made, in a function that had the same values
pub keeps_made : (values before more : List ValueNode) (f : Body) (c d : ContextState) → before ≡ values → StayParameters values more → RecordsStay c.ssa d.ssa
    → ((x b v : ℕ) → record_of c.ssa x b ≡ Some v → v < length values)
    → TracksParameters (length before) c.ssa d.ssa → MakesInto before more c.ssa d.ssa → KeepsTracks values c more d
keeps_made values before more f c d same grows stay below tracked makes = record {
  untracked = untracked_made (length before) c d tracked;
  exactly = λ calls call new was.
      exactly_made calls call values c.ssa was more d.ssa (names_none call.request new)
      (subst (λ (xs : List ValueNode). MakesParameters xs more c.ssa d.ssa) same (makes_parameters makes))
      (subst (λ (xs : List ValueNode). TracksMade (length xs) c.ssa d.ssa) same (tracks_made tracked)) stay grows below f;
}

-- what a call keeps that tracks nothing new
pub tracks_on : (calls : List AnsweredCall) (call : AnsweredCall) (values : List ValueNode) (c : ContextState) (more : List ValueNode) (d : ContextState) → TracksNothingNew call.request
    → KeepsTracks values c more d → TracksAgree calls values c → TracksAgree (calls ++ call ∷ []) more d
tracks_on calls call values c more d new keeps agrees =
    marks_on calls call values more c d (asks_none call.request new) keeps.untracked agrees (keeps.exactly calls call new agrees.exactly)

-- where nothing else changes
pub tracks_still : (calls : List AnsweredCall) (call : AnsweredCall) (values : List ValueNode) (c : ContextState) → TracksNothingNew call.request → TracksAgree calls values c
    → TracksAgree (calls ++ call ∷ []) values c
tracks_still calls call values c new agrees = tracks_on calls call values c values c new (keeps_ssa values values c c (λ v is. is) refl) agrees

-- and where there may be more values
pub tracks_more : (calls : List AnsweredCall) (call : AnsweredCall) (values more : List ValueNode) (c : ContextState) → TracksNothingNew call.request → StayParameters values more
    → TracksAgree calls values c → TracksAgree (calls ++ call ∷ []) more c
tracks_more calls call values more c new grows agrees = tracks_on calls call values c more c new (keeps_ssa values more c c grows refl) agrees

-- and where the list stays
pub tracks_same : (calls : List AnsweredCall) (values : List ValueNode) (c d : ContextState) → SameRecords c.ssa d.ssa → d.ssa.tracking ≡ c.ssa.tracking → TracksAgree calls values c
    → TracksAgree calls values d
tracks_same calls values c d records tracking agrees =
    let stays : StaysUntracked c d = untracked_same c d tracking in
    record {
      marks = λ x. agrees.marks x ∙ sym (ap (λ (marked : List ℕ). has marked x) stays.marks);
      exactly = exactly_same calls values c.ssa d.ssa records tracking agrees.exactly;
      untracked = λ asks. stays.untracked (agrees.untracked asks);
    }

-- a value is assigned
pub tracks_bound : (calls : List AnsweredCall) (values : List ValueNode) (c d : ContextState) (variable block value : ℕ) (name : Name) → NamesValue calls name value
    → Records c.ssa d.ssa variable block value → d.ssa.tracking ≡ with_binding c.ssa.tracking variable value → TracksAgree calls values c
    → TracksAgree (calls ++ record { request = DefVar variable name; numbers = [] } ∷ []) values d
tracks_bound calls values c d variable block value name names records tracking agrees =
    let call : AnsweredCall = record { request = DefVar variable name; numbers = [] } in
    marks_on calls call values values c d tt (untracked_bound c d variable value tracking) agrees
    (exactly_assigned calls call values c.ssa agrees.exactly d.ssa variable block name value refl names.is_value (ap number_or_none names.number) tracking records)
