-- The verdict on a list of calls, call by call.
use Rattle.std.proofs.Common.{◌≡◌, ℕ, suc, ◌+◌, ◌<◌, List, [], ◌∷◌, ◌++◌, length, get_or, take, drop, refl, ap, arith, sym, ◌∙◌, subst, inl, inr}
use Rattle.std.specs.List.{AllByRecursion}
use Rattle.std.specs.Prelude.{◌≢◌, ◌⊎◌, fold, Option, Some, None, is_some, Bool, true, false, not, ◌&&◌, if◌then◌else◌, Result, Ok, Err}
use Rattle.std.proofs.lemmas.List.{take_more, drop_more, drop_all, take_all}
use Rattle.clif_types.specs.Signature.{SignatureShape}
use Rattle.clif_types.specs.declared.target.TargetFrontendConfig.{TargetFrontendConfig}
use Rattle.clif_ir.specs.Body.{Body}
use Rattle.clif_meaning.specs.View.{view_of}
use Rattle.clif_meaning.specs.Headline.{MeansTheSame, pointer_bits}
use Rattle.clif_meaning.specs.Request.{AnsweredCall, Finalize, script_of}
use Rattle.clif_meaning.specs.Ledger.{Ledger, empty_ledger}
use Rattle.clif_meaning.specs.Acceptance.{Accepted, Misuse, Refusal, Refused, refusal_of}
use Rattle.clif_meaning.specs.Acceptance as refusal
use Rattle.clif_builder.specs.declared.error.FinalizeError.{FinalizeError}
use Rattle.clif_builder.specs.declared.error.FinalizeError.TheVariants as ending
use Rattle.clif_safepoints.specs.Contexts.{IsFirstTracked}
use Rattle.clif_builder.specs.Ending.{EndsByLedger, TellsContext}
use Rattle.clif_builder.specs.Ledger.{ledger_of as plain_ledger_of}
use Rattle.clif_builder.specs.declared.builder.FunctionBuilder.{FunctionBuilder}
use Rattle.clif_builder.specs.StandsFor.{StandsFor}
use Rattle.clif_builder.specs.StandsForCalls.{StandsForCalls}
use Rattle.clif_calls.specs.declared.call.Call.{Call}
use Rattle.clif_calls.specs.declared.call.Call.TheVariants as call
use Rattle.clif_calls.specs.declared.memory.MemoryCall.{MemoryCall}
use Rattle.clif_replay.specs.Helpers.{helper_under, moves_nothing, nothing_moved, operation_in}
use Rattle.clif_resolution.specs.declared.condition.Condition.{Condition}
use Rattle.clif_resolution.specs.declared.answers.CallError.{CallError}
use Rattle.clif_resolution.specs.declared.answers.CallError.TheVariants as error
use Rattle.clif_replay.specs.declared.script.ReplayError.{ReplayError}
use Rattle.clif_replay.specs.declared.script.ReplayError.TheVariants as replay
use Rattle.clif_replay.specs.Errors.{replay_error_at}
use Rattle.clif_replay.specs.Ready.{IsCallJudged}
use Rattle.clif_replay.specs.Requests.{attempt_of, attempts_from, attempts_of, call_of, calls_from, calls_of, is_tried, name_of}
use Rattle.clif_replay.specs.Replayed.{ArePlainCalls, IsOfWidth, IsReplayed}
use Rattle.clif_replay.proofs.Options.{if-no}
use Rattle.clif_expansion.specs.CallsHeadline.{CallsMeanTheSame}
use Rattle.clif_expansion.specs.CallsVerdict.{CallAttempt, call_blames_variable, made, verdict_on_call_attempts, verdict_on_calls_from}
use Rattle.clif_expansion.specs.ScriptCall.{Ask, ScriptCall, call_allowed, call_refusal, ledger_of, ledger_with_call}
use Rattle.clif_expansion.proofs.JoinedCalls.{fold_on, joined_calls}
use Rattle.clif_expansion.proofs.calls.Verdicts.{verdicts_are_read}

-- the script's calls of the first ones of a list, and their ledger
abbrev pub calls_before : TargetFrontendConfig → SignatureShape → List Call → ℕ → List ScriptCall
calls_before config declared calls place = calls_of config declared (take place calls)

abbrev pub ledger_before : TargetFrontendConfig → SignatureShape → List Call → ℕ → Ledger
ledger_before config declared calls place = ledger_of (calls_before config declared calls place)

-- the script's call at a place
abbrev pub call_at : TargetFrontendConfig → SignatureShape → List Call → ℕ → Call → ScriptCall
call_at config declared calls place c = call_of config declared (ledger_before config declared calls place) c

-- the verdict on a list is that on the calls from this place on
abbrev pub HasRest : TargetFrontendConfig → SignatureShape → List Call → ℕ → Type 0
HasRest config declared calls place =
    verdict_on_call_attempts (attempts_of config declared calls)
    ≡ verdict_on_calls_from place (ledger_before config declared calls place) (attempts_from config declared (ledger_before config declared calls place) (drop place calls) ++ made (Ask Finalize) ∷ [])

-- the calls of a list with one more
calls-push : (config : TargetFrontendConfig) (declared : SignatureShape) (ledger : Ledger) (calls : List Call) (c : Call)
    → calls_from config declared ledger (calls ++ c ∷ []) ≡ calls_from config declared ledger calls ++ call_of config declared (fold ledger_with_call ledger (calls_from config declared ledger calls)) c ∷ []
calls-push config declared ledger [] c = refl
calls-push config declared ledger (x ∷ calls) c =
    ap (λ (script : List ScriptCall). call_of config declared ledger x ∷ script) (calls-push config declared (ledger_with_call ledger (call_of config declared ledger x)) calls c)

pub calls-more : (config : TargetFrontendConfig) (declared : SignatureShape) (calls : List Call) (place : ℕ) (c : Call) → place < length calls → c ≡ get_or calls place c
    → calls_before config declared calls place ++ call_at config declared calls place c ∷ [] ≡ calls_before config declared calls (place + 1)
calls-more config declared calls place c inside is =
    sym (calls-push config declared empty_ledger (take place calls) c)
    ∙ ap (λ (x : Call). calls_of config declared (take place calls ++ x ∷ [])) is
    ∙ ap (calls_of config declared) (sym (take_more calls place c inside))

ledger-on : (config : TargetFrontendConfig) (declared : SignatureShape) (calls : List Call) (place : ℕ) (c : Call) → place < length calls → c ≡ get_or calls place c
    → ledger_with_call (ledger_before config declared calls place) (call_at config declared calls place c) ≡ ledger_before config declared calls (place + 1)
ledger-on config declared calls place c inside is =
    sym (fold_on ledger_with_call empty_ledger (calls_before config declared calls place) (call_at config declared calls place c ∷ []))
    ∙ ap ledger_of (calls-more config declared calls place c inside is)

-- what is behind a call of the list
abbrev behind : TargetFrontendConfig → SignatureShape → List Call → ℕ → Ledger → List CallAttempt
behind config declared calls place ledger = attempts_from config declared ledger (drop (place + 1) calls) ++ made (Ask Finalize) ∷ []

-- the rest begins with this call
rest-begins : (config : TargetFrontendConfig) (declared : SignatureShape) (calls : List Call) (place : ℕ) (c : Call) → place < length calls → c ≡ get_or calls place c → HasRest config declared calls place
    → verdict_on_call_attempts (attempts_of config declared calls)
    ≡ verdict_on_calls_from place (ledger_before config declared calls place)
    (attempt_of config declared (ledger_before config declared calls place) c ∷ behind config declared calls place (ledger_with_call (ledger_before config declared calls place) (call_at config declared calls place c)))
rest-begins config declared calls place c inside is rest =
    let ledger = ledger_before config declared calls place in
    rest
    ∙ ap (λ (list : List Call). verdict_on_calls_from place ledger (attempts_from config declared ledger list ++ made (Ask Finalize) ∷ []))
    (drop_more calls place c inside ∙ ap (λ (x : Call). x ∷ drop (place + 1) calls) (sym is))

-- one that is allowed and not refused leaves the verdict to the calls behind it
pub rest-more : (config : TargetFrontendConfig) (declared : SignatureShape) (calls : List Call) (place : ℕ) (c : Call) → place < length calls → c ≡ get_or calls place c → HasRest config declared calls place
    → call_allowed (ledger_before config declared calls place) (call_at config declared calls place c) ≡ true → is_some (call_refusal (ledger_before config declared calls place) (call_at config declared calls place c)) ≡ false
    → HasRest config declared calls (place + 1)
rest-more config declared calls place c inside is rest allowed taken =
    let ledger = ledger_before config declared calls place in
    let this = call_at config declared calls place c in
    let next = behind config declared calls place (ledger_with_call ledger this) in
    let refused : Bool = is_tried c && call_blames_variable ledger this in
    let goes_on = if-no (not (call_allowed ledger this)) (if refused then Refused place else Misuse place) (if is_some (call_refusal ledger this) then Refused place else verdict_on_calls_from (suc place) (ledger_with_call ledger this) next) (ap not allowed) in
    let fine = if-no (is_some (call_refusal ledger this)) (Refused place) (verdict_on_calls_from (suc place) (ledger_with_call ledger this) next) taken in
    let one_on : suc place ≡ place + 1 = omega arith in
    rest-begins config declared calls place c inside is rest ∙ goes_on ∙ fine
    ∙ ap (λ (n : ℕ). verdict_on_calls_from n (ledger_with_call ledger this) next) one_on
    ∙ ap (λ (l : Ledger). verdict_on_calls_from (place + 1) l (behind config declared calls place l)) (ledger-on config declared calls place c inside is)

-- one that isn't allowed decides: it is refused where its variable is to blame and it is only tried, and a misuse otherwise
denied-here : (config : TargetFrontendConfig) (declared : SignatureShape) (calls : List Call) (place : ℕ) (c : Call) (refused : Bool) → place < length calls → c ≡ get_or calls place c → HasRest config declared calls place
    → call_allowed (ledger_before config declared calls place) (call_at config declared calls place c) ≡ false
    → (is_tried c && call_blames_variable (ledger_before config declared calls place) (call_at config declared calls place c)) ≡ refused
    → verdict_on_call_attempts (attempts_of config declared calls) ≡ (if refused then Refused place else Misuse place)
denied-here config declared calls place c refused inside is rest denied blames =
    let ledger = ledger_before config declared calls place in
    let this = call_at config declared calls place c in
    let next = behind config declared calls place (ledger_with_call ledger this) in
    rest-begins config declared calls place c inside is rest
    ∙ ap (λ (allowed : Bool). if not allowed then (if is_tried c && call_blames_variable ledger this then Refused place else Misuse place)
    else (if is_some (call_refusal ledger this) then Refused place
    else verdict_on_calls_from (suc place) (ledger_with_call ledger this) next)) denied
    ∙ ap (λ (blamed : Bool). if blamed then Refused place else Misuse place) blames

-- one that is allowed and refused decides
refused-here : (config : TargetFrontendConfig) (declared : SignatureShape) (calls : List Call) (place : ℕ) (c : Call) → place < length calls → c ≡ get_or calls place c → HasRest config declared calls place
    → call_allowed (ledger_before config declared calls place) (call_at config declared calls place c) ≡ true
    → is_some (call_refusal (ledger_before config declared calls place) (call_at config declared calls place c)) ≡ true
    → verdict_on_call_attempts (attempts_of config declared calls) ≡ Refused place
refused-here config declared calls place c inside is rest allowed refused =
    let ledger = ledger_before config declared calls place in
    let this = call_at config declared calls place c in
    rest-begins config declared calls place c inside is rest
    ∙ verdicts_are_read.refuses place ledger (attempt_of config declared ledger c) (behind config declared calls place (ledger_with_call ledger this)) allowed refused

-- the error of a call tells where it was made: a misuse and a refusal are told as themselves
misuse-at : (refusal : CallError) (place i : ℕ) (told : ReplayError) → told ≡ replay_error_at refusal place → told ≡ replay.Misuse i → (why : Condition) × (refusal ≡ error.Misuse why) × (place ≡ i)
misuse-at (error.Misuse why) place i told at misuse = (why, refl, same place i (sym at ∙ misuse))
  where
    same : (j k : ℕ) → replay.Misuse j ≡ replay.Misuse k → j ≡ k
    same j k h = cc
misuse-at (error.Refused why) place i told at misuse = absurd (other place i (sym at ∙ misuse))
  where
    other : (j k : ℕ) → replay.Refused j ≡ replay.Misuse k → ⊥
    other j k h = cc
misuse-at error.Memory place i told at misuse = absurd (other i (sym at ∙ misuse))
  where
    other : (k : ℕ) → replay.Memory ≡ replay.Misuse k → ⊥
    other k h = cc
misuse-at error.Full place i told at misuse = absurd (other i (sym at ∙ misuse))
  where
    other : (k : ℕ) → replay.Full ≡ replay.Misuse k → ⊥
    other k h = cc

pub refusal-at : (refusal : CallError) (place i : ℕ) (told : ReplayError) → told ≡ replay_error_at refusal place → told ≡ replay.Refused i → (why : Condition) × (refusal ≡ error.Refused why) × (place ≡ i)
refusal-at (error.Misuse why) place i told at refused = absurd (other place i (sym at ∙ refused))
  where
    other : (j k : ℕ) → replay.Misuse j ≡ replay.Refused k → ⊥
    other j k h = cc
refusal-at (error.Refused why) place i told at refused = (why, refl, same place i (sym at ∙ refused))
  where
    same : (j k : ℕ) → replay.Refused j ≡ replay.Refused k → j ≡ k
    same j k h = cc
refusal-at error.Memory place i told at refused = absurd (other i (sym at ∙ refused))
  where
    other : (k : ℕ) → replay.Memory ≡ replay.Refused k → ⊥
    other k h = cc
refusal-at error.Full place i told at refused = absurd (other i (sym at ∙ refused))
  where
    other : (k : ℕ) → replay.Full ≡ replay.Refused k → ⊥
    other k h = cc

-- what a call's error tells of the verdict
abbrev pub IsJudgedAt : TargetFrontendConfig → SignatureShape → List Call → ℕ → Call → CallError → Type 0
IsJudgedAt config declared calls place c refusal =
    IsCallJudged (call_allowed (ledger_before config declared calls place) (call_at config declared calls place c))
    (is_tried c && call_blames_variable (ledger_before config declared calls place) (call_at config declared calls place c))
    (is_some (call_refusal (ledger_before config declared calls place) (call_at config declared calls place c))) (Err refusal)

-- the error of a call that isn't allowed, and of no other, tells a misuse at its place
pub misuse-told : (config : TargetFrontendConfig) (declared : SignatureShape) (calls : List Call) (place i : ℕ) (c : Call) (refusal : CallError) (told : ReplayError) → place < length calls → c ≡ get_or calls place c → HasRest config declared calls place
    → IsJudgedAt config declared calls place c refusal → told ≡ replay_error_at refusal place → told ≡ replay.Misuse i → verdict_on_call_attempts (attempts_of config declared calls) ≡ Misuse i
misuse-told config declared calls place i c refusal told inside is rest judged at misuse =
    let place_is = misuse-at refusal place i told at misuse in
    let denied = subst (λ (e : CallError). IsJudgedAt config declared calls place c e) place_is.1 judged in
    denied-here config declared calls place c false inside is rest denied.0 denied.1 ∙ ap Misuse place_is.2

-- and a refusal where its variable is to blame, or where it is refused though it is allowed
pub refusal-told : (config : TargetFrontendConfig) (declared : SignatureShape) (calls : List Call) (place i : ℕ) (c : Call) (refusal : CallError) (told : ReplayError) → place < length calls → c ≡ get_or calls place c → HasRest config declared calls place
    → IsJudgedAt config declared calls place c refusal → told ≡ replay_error_at refusal place → told ≡ replay.Refused i → verdict_on_call_attempts (attempts_of config declared calls) ≡ Refused i
refusal-told config declared calls place i c refusal told inside is rest judged at refused =
    let place_is = refusal-at refusal place i told at refused in
    elim (subst (λ (e : CallError). IsJudgedAt config declared calls place c e) place_is.1 judged) [
      | inl denied ↦ denied-here config declared calls place c true inside is rest denied.0 denied.1 ∙ ap Refused place_is.2
      | inr refusal ↦ refused-here config declared calls place c inside is rest refusal.0 refusal.1 ∙ ap Refused place_is.2
    ]

-- memory helpers are of the target's pointers
moved-of-width : (config : TargetFrontendConfig) (ledger : Ledger) (called : MemoryCall) (nothing : Bool)
    → IsOfWidth (pointer_bits config.pointer_width) (if nothing then Ask (nothing_moved name_of called) else helper_under config name_of ledger called)
moved-of-width config ledger called true = tt
moved-of-width config ledger called false = refl

of-width : (config : TargetFrontendConfig) (declared : SignatureShape) (ledger : Ledger) (c : Call) → IsOfWidth (pointer_bits config.pointer_width) (call_of config declared ledger c)
of-width config declared ledger (call.Memory called) = moved-of-width config ledger called (moves_nothing (operation_in called))
of-width config declared ledger _ = tt

all-of-width : (config : TargetFrontendConfig) (declared : SignatureShape) (ledger : Ledger) (calls : List Call)
    → AllByRecursion (IsOfWidth (pointer_bits config.pointer_width)) (calls_from config declared ledger calls)
all-of-width config declared ledger [] = tt
all-of-width config declared ledger (c ∷ calls) =
    (of-width config declared ledger c, all-of-width config declared (ledger_with_call ledger (call_of config declared ledger c)) calls)

-- all calls were made
pub all-replayed : (config : TargetFrontendConfig) (declared : SignatureShape) (calls : List Call) (made : List AnsweredCall) → IsReplayed config declared calls (length calls) made → ArePlainCalls (script_of made) (calls_of config declared calls)
all-replayed config declared calls made replayed =
    subst (λ (list : List Call). ArePlainCalls (script_of made) (calls_of config declared list)) (take_all (length calls) calls (omega arith)) replayed.plain

-- the builder stands for the script's calls
pub stands-replayed : {R : Type 0} (config : TargetFrontendConfig) (declared : SignatureShape) (calls : List Call) (made : List AnsweredCall) (b : FunctionBuilder R)
    → IsReplayed config declared calls (length calls) made → StandsFor declared made b → StandsForCalls config.pointer_width declared (calls_of config declared calls) b
stands-replayed config declared calls made b replayed stands =
    subst (λ (list : List Call). StandsForCalls config.pointer_width declared (calls_of config declared list) b) (take_all (length calls) calls (omega arith)) (record {
      made = made;
      stands = stands;
      reading = replayed.plain.reading;
      joined = replayed.plain.joined;
      performed = replayed.plain.performed (pointer_bits config.pointer_width) (all-of-width config declared empty_ledger (take (length calls) calls));
      allowed = verdicts_are_read.may_be_made empty_ledger (calls_before config declared calls (length calls)) replayed.taken;
    })

-- behind the last call `finalize` decides
verdict-end : (config : TargetFrontendConfig) (declared : SignatureShape) (calls : List Call) (made : List AnsweredCall) → IsReplayed config declared calls (length calls) made
    → verdict_on_call_attempts (attempts_of config declared calls) ≡ (if is_some (refusal_of (plain_ledger_of made) Finalize) then Refused (length calls) else Accepted)
verdict-end config declared calls answered replayed =
    let ledger = ledger_before config declared calls (length calls) in
    replayed.rest
    ∙ ap (λ (rest : List Call). verdict_on_calls_from (length calls) ledger (attempts_from config declared ledger rest ++ made (Ask Finalize) ∷ [])) (drop_all (length calls) calls (omega arith))
    ∙ ap (λ (refused : Bool). if refused then Refused (length calls) else Accepted)
    (verdicts_are_read.refused replayed.plain.reading (plain_ledger_of answered) ledger Finalize Finalize
    (joined_calls replayed.plain.reading (script_of answered) (calls_before config declared calls (length calls)) replayed.plain.joined) tt)

-- `finalize` is refused where the script is, or for a context that is recorded
pub verdict-refused : (config : TargetFrontendConfig) (declared : SignatureShape) (calls : List Call) (made : List AnsweredCall) (f : Body) (recorded : List ℕ) (r : Result (Unit {0}) FinalizeError) (e : FinalizeError)
    → IsReplayed config declared calls (length calls) made → EndsByLedger made (refusal_of (plain_ledger_of made) Finalize) f recorded r → r ≡ Err e → e ≢ ending.Memory → e ≢ ending.Full
    → (verdict_on_call_attempts (attempts_of config declared calls) ≡ Refused (length calls))
    ⊎ ((verdict_on_call_attempts (attempts_of config declared calls) ≡ Accepted) × ((inst : ℕ) × IsFirstTracked f recorded (Some inst)))
verdict-refused config declared calls made f recorded r e replayed ends is not_memory not_full =
    by (refusal_of (plain_ledger_of made) Finalize) ends (verdict-end config declared calls made replayed)
  where
    context : (error : FinalizeError) → e ≡ error → TellsContext f recorded (Err error) → (inst : ℕ) × IsFirstTracked f recorded (Some inst)
    context (ending.TrackedContext inst) at tells = (inst, tells)
    context ending.Memory at tells = absurd (not_memory at)
    context ending.Full at tells = absurd (not_full at)
    context ending.Failed at tells = absurd tells
    context (ending.Unsealed block) at tells = absurd tells
    context (ending.Unfilled block) at tells = absurd tells

    by : (o : Option Refusal) → EndsByLedger made o f recorded r → verdict_on_call_attempts (attempts_of config declared calls) ≡ (if is_some o then Refused (length calls) else Accepted)
        → (verdict_on_call_attempts (attempts_of config declared calls) ≡ Refused (length calls))
        ⊎ ((verdict_on_call_attempts (attempts_of config declared calls) ≡ Accepted) × ((inst : ℕ) × IsFirstTracked f recorded (Some inst)))
    by None tells verdict = inr (verdict, context e refl (subst (TellsContext f recorded) is tells))
    by (Some refusal) agrees verdict = inl verdict

-- and it succeeds where the script is accepted, and no context is recorded
pub verdict-accepted : (config : TargetFrontendConfig) (declared : SignatureShape) (calls : List Call) (made : List AnsweredCall) (f : Body) (recorded : List ℕ) (r : Result (Unit {0}) FinalizeError)
    → IsReplayed config declared calls (length calls) made → EndsByLedger made (refusal_of (plain_ledger_of made) Finalize) f recorded r → r ≡ Ok tt
    → (verdict_on_call_attempts (attempts_of config declared calls) ≡ Accepted) × IsFirstTracked f recorded None
verdict-accepted config declared calls made f recorded r replayed ends is =
    by (refusal_of (plain_ledger_of made) Finalize) ends (verdict-end config declared calls made replayed)
  where
    by : (o : Option Refusal) → EndsByLedger made o f recorded r → verdict_on_call_attempts (attempts_of config declared calls) ≡ (if is_some o then Refused (length calls) else Accepted)
        → (verdict_on_call_attempts (attempts_of config declared calls) ≡ Accepted) × IsFirstTracked f recorded None
    by None tells verdict = (verdict, subst (TellsContext f recorded) is tells)
    by (Some (refusal.Unsealed name)) (block, number, found) verdict = let no_way : ⊥ = cc in absurd no_way
    by (Some (refusal.Unfilled name)) (block, number, found) verdict = let no_way : ⊥ = cc in absurd no_way

-- `finalize` answers a full table only where something is recorded
pub full-spilling : (made : List AnsweredCall) (f : Body) (recorded : List ℕ) (r : Result (Unit {0}) FinalizeError) → EndsByLedger made (refusal_of (plain_ledger_of made) Finalize) f recorded r
    → r ≡ Err ending.Full → recorded ≢ []
full-spilling made f recorded r ends is = by (refusal_of (plain_ledger_of made) Finalize) ends
  where
    by : (o : Option Refusal) → EndsByLedger made o f recorded r → recorded ≢ []
    by None tells = subst (TellsContext f recorded) is tells
    by (Some (refusal.Unsealed name)) (block, number, found) = let no_way : ⊥ = cc in absurd no_way
    by (Some (refusal.Unfilled name)) (block, number, found) = let no_way : ⊥ = cc in absurd no_way

-- only the error of a full table tells one
pub full-told : (refusal : CallError) (place : ℕ) (told : ReplayError) → told ≡ replay_error_at refusal place → told ≡ replay.Full → refusal ≡ error.Full
full-told (error.Misuse why) place told at full = absurd (other place (sym at ∙ full))
  where
    other : (j : ℕ) → replay.Misuse j ≡ replay.Full → ⊥
    other j h = cc
full-told (error.Refused why) place told at full = absurd (other place (sym at ∙ full))
  where
    other : (j : ℕ) → replay.Refused j ≡ replay.Full → ⊥
    other j h = cc
full-told error.Memory place told at full = absurd (other (sym at ∙ full))
  where
    other : replay.Memory ≡ replay.Full → ⊥
    other h = cc
full-told error.Full place told at full = refl
