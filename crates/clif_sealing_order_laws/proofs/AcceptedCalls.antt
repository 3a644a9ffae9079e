-- Accepted calls have an allowed order; where sealing isn't to blame no call that seals is stopped.
use Rattle.std.proofs.Common.{◌≡◌, ◌+◌, ℕ, suc, Bool, true, false, not, List, [], ◌∷◌, ◌++◌, refl, sym, ◌∙◌, ap, arith, Some}
use Rattle.std.specs.Prelude.{◌&&◌, ◌||◌, if◌then◌else◌, is_some, slice_get}
use Rattle.std.specs.List.{list_all}
use Rattle.std.proofs.lemmas.Bool.{and_from, and_parts, or_right}
use Rattle.std.proofs.lemmas.Option.{same_Some}
use Rattle.clif_meaning.specs.Acceptance.{Accepted, Misuse, Refused, Verdict, can_lead, is_open, refusal_of}
use Rattle.clif_meaning.specs.Ledger.{Ledger, empty_ledger, has_value}
use Rattle.clif_meaning.specs.Request.{Finalize}
use Rattle.clif_expansion.specs.CallsVerdict.{CallAttempt, calls_made, is_call_refused, made, verdict_on_call_attempts, verdict_on_calls_from}
use Rattle.clif_expansion.specs.ScriptCall.{Ask, Emit, OfCall, ScriptCall, call_allowed, call_refusal, can_emit, ledger_with_call, takes_byte}
use Rattle.clif_renaming.specs.CallsSealing.{counted_as}
use Rattle.clif_renaming.specs.Sealing.{is_sealing}
use Rattle.clif_sealing_order_laws.specs.Attempts.{seals, stopped_at}
use Rattle.clif_sealing_order_laws.specs.CallAttempts.{script_counted}
use Rattle.clif_sealing_order_laws.specs.CallOrder.{IsAllowedCallOrder, IsBlamelessCallOrder, allows_call_order, are_allowed_from, are_blameless_from, is_made, spares_call_order}
use Rattle.clif_sealing_order_laws.proofs.AcceptedOrders.{allowed_ordered, allowed_spared, leads_unsealed, seal_allowed, seal_unrefused}
use Rattle.clif_sealing_order_laws.proofs.Lists.{some_mapped}

-- the verdict by whether a call is allowed, to blame, and refused
abbrev pub decided : ℕ → (allowed blamed refused : Bool) → Verdict → Verdict
decided place allowed blamed refused rest = if not allowed then (if blamed then Refused place else Misuse place) else (if refused then Refused place else rest)

-- ONE CALL ----------------------------------------------------------------------------------------------------------------

-- a call that may be made and isn't refused gets what it asks of the sealing before it
call_ordered : (ledger : Ledger) (call : ScriptCall) → call_allowed ledger call ≡ true → is_some (call_refusal ledger call) ≡ false
    → allows_call_order ledger call ≡ true
call_ordered ledger (Ask request) may none = allowed_ordered ledger request may (sym (some_mapped OfCall (refusal_of ledger request)) ∙ none)
call_ordered ledger (Emit imports instruction) may none =
    let start : Bool = list_all (has_value ledger) instruction.contexts && takes_byte ledger instruction.operation instruction.operands
    && is_open ledger ledger.current && list_all (has_value ledger) instruction.operands in
    let leads : Bool = list_all (can_lead ledger) instruction.edges in
    leads_unsealed ledger instruction.edges
    (and_parts start leads (and_parts (start && leads) (can_emit instruction.operation instruction.controlling) may).0).1

-- a call that seals may be made where the order is allowed, and none is refused
pub call_seal_allowed : (ledger : Ledger) (call : ScriptCall) → is_sealing (counted_as call) ≡ true → spares_call_order ledger call ≡ true
    → call_allowed ledger call ≡ true
call_seal_allowed ledger (Ask request) seals ordered = seal_allowed ledger request seals ordered
call_seal_allowed ledger (Emit imports instruction) seals ordered = let none : ⊥ = cc in absurd none

pub call_seal_unrefused : (ledger : Ledger) (call : ScriptCall) → is_sealing (counted_as call) ≡ true → is_some (call_refusal ledger call) ≡ false
call_seal_unrefused ledger (Ask request) seals = some_mapped OfCall (refusal_of ledger request) ∙ seal_unrefused ledger request seals
call_seal_unrefused ledger (Emit imports instruction) seals = let none : ⊥ = cc in absurd none

call_spared : (ledger : Ledger) (call : ScriptCall) → allows_call_order ledger call ≡ true → spares_call_order ledger call ≡ true
call_spared ledger (Ask request) ordered = allowed_spared ledger request ordered
call_spared ledger (Emit imports instruction) ordered = ordered

-- a call that is allowed and isn't refused is made
pub made_if_taken : (ledger : Ledger) (call : ScriptCall) → call_allowed ledger call ≡ true → is_some (call_refusal ledger call) ≡ false
    → is_made ledger call ≡ true
made_if_taken ledger (Ask request) may none = may
made_if_taken ledger (Emit imports instruction) may none =
    and_from (call_allowed ledger (Emit imports instruction)) (not (is_some (call_refusal ledger (Emit imports instruction)))) may (ap not none)

-- ALL CALLS ---------------------------------------------------------------------------------------------------------------

accepted_ordered : (place : ℕ) (ledger : Ledger) (attempts : List CallAttempt) → verdict_on_calls_from place ledger (attempts ++ made (Ask Finalize) ∷ []) ≡ Accepted
    → are_allowed_from ledger (calls_made attempts ++ Ask Finalize ∷ []) ≡ true
accepted_ordered place ledger [] accepted =
    and_from (allows_call_order ledger (Ask Finalize)) true (call_ordered ledger (Ask Finalize) refl (by (is_some (call_refusal ledger (Ask Finalize))) accepted)) refl
  where
    by : (refused : Bool) → (if refused then Refused place else Accepted) ≡ Accepted → refused ≡ false
    by true is = let no_way : ⊥ = cc in absurd no_way
    by false is = refl
accepted_ordered place ledger (attempt ∷ attempts) accepted =
    by (call_allowed ledger attempt.call) refl (is_call_refused ledger attempt) (is_some (call_refusal ledger attempt.call)) refl
    (accepted_ordered (suc place) (ledger_with_call ledger attempt.call) attempts) accepted
  where
    behind : Verdict
    behind = verdict_on_calls_from (suc place) (ledger_with_call ledger attempt.call) (attempts ++ made (Ask Finalize) ∷ [])

    by : (allowed : Bool) → call_allowed ledger attempt.call ≡ allowed → (blamed refused : Bool) → is_some (call_refusal ledger attempt.call) ≡ refused
        → (behind ≡ Accepted → are_allowed_from (ledger_with_call ledger attempt.call) (calls_made attempts ++ Ask Finalize ∷ []) ≡ true)
        → decided place allowed blamed refused behind ≡ Accepted → are_allowed_from ledger (calls_made (attempt ∷ attempts) ++ Ask Finalize ∷ []) ≡ true
    by true may blamed false none later is =
        and_from (allows_call_order ledger attempt.call) (are_allowed_from (ledger_with_call ledger attempt.call) (calls_made attempts ++ Ask Finalize ∷ []))
        (call_ordered ledger attempt.call may none) (later is)
    by true may blamed true none later is = let no_way : ⊥ = cc in absurd no_way
    by false may true refused none later is = let no_way : ⊥ = cc in absurd no_way
    by false may false refused none later is = let no_way : ⊥ = cc in absurd no_way

pub accepted_is_allowed : (attempts : List CallAttempt) → verdict_on_call_attempts attempts ≡ Accepted → IsAllowedCallOrder (calls_made attempts)
accepted_is_allowed attempts accepted = accepted_ordered 0 empty_ledger attempts accepted

-- where its order is allowed sealing isn't to blame
blameless_from : (ledger : Ledger) (calls : List ScriptCall) → are_allowed_from ledger calls ≡ true → are_blameless_from ledger calls ≡ true
blameless_from ledger [] ordered = refl
blameless_from ledger (call ∷ calls) ordered =
    let both = and_parts (allows_call_order ledger call) (are_allowed_from (ledger_with_call ledger call) calls) ordered in
    and_from (spares_call_order ledger call) (not (is_made ledger call) || are_blameless_from (ledger_with_call ledger call) calls)
    (call_spared ledger call both.0)
    (or_right (not (is_made ledger call)) (are_blameless_from (ledger_with_call ledger call) calls) (blameless_from (ledger_with_call ledger call) calls both.1))

pub allowed_is_blameless : (calls : List ScriptCall) → IsAllowedCallOrder calls → IsBlamelessCallOrder calls
allowed_is_blameless calls ordered = blameless_from empty_ledger (calls ++ Ask Finalize ∷ []) ordered

pub made_then : (made rest : Bool) → (not made || rest) ≡ true → made ≡ true → rest ≡ true
made_then true rest either is = either
made_then false rest either is = let none : ⊥ = cc in absurd none

-- a call that doesn't seal, or the end, is at this place behind a first one
abbrev IsLeftFrom : ℕ → List CallAttempt → ℕ → Type 0
IsLeftFrom place attempts stop = (k : ℕ) × (stop ≡ place + k) × (seals (slice_get (script_counted attempts) k) ≡ false)

stopped_left : (place : ℕ) (ledger : Ledger) (attempts : List CallAttempt) (stop : ℕ) → are_blameless_from ledger (calls_made attempts ++ Ask Finalize ∷ []) ≡ true
    → stopped_at (verdict_on_calls_from place ledger (attempts ++ made (Ask Finalize) ∷ [])) ≡ Some stop → IsLeftFrom place attempts stop
stopped_left place ledger [] stop ordered stopped = by (is_some (call_refusal ledger (Ask Finalize))) stopped
  where
    by : (refused : Bool) → stopped_at (if refused then Refused place else Accepted) ≡ Some stop → IsLeftFrom place [] stop
    by true is = let here = same_Some place stop is in (0, omega (arith, here), refl)
    by false is = let no_way : ⊥ = cc in absurd no_way
stopped_left place ledger (attempt ∷ attempts) stop ordered stopped =
    let both = and_parts (spares_call_order ledger attempt.call)
    (not (is_made ledger attempt.call) || are_blameless_from (ledger_with_call ledger attempt.call) (calls_made attempts ++ Ask Finalize ∷ [])) ordered in
    by (is_sealing (counted_as attempt.call)) refl (call_allowed ledger attempt.call) refl (is_call_refused ledger attempt) (is_some (call_refusal ledger attempt.call)) refl both.0
    (λ is. stopped_left (suc place) (ledger_with_call ledger attempt.call) attempts stop
    (made_then (is_made ledger attempt.call) (are_blameless_from (ledger_with_call ledger attempt.call) (calls_made attempts ++ Ask Finalize ∷ [])) both.1 is))
    stopped
  where
    behind : Verdict
    behind = verdict_on_calls_from (suc place) (ledger_with_call ledger attempt.call) (attempts ++ made (Ask Finalize) ∷ [])

    later : IsLeftFrom (suc place) attempts stop → IsLeftFrom place (attempt ∷ attempts) stop
    later found = let at = found.1 in (suc found.0, omega (arith, at), found.2)

    here : is_sealing (counted_as attempt.call) ≡ false → place ≡ stop → IsLeftFrom place (attempt ∷ attempts) stop
    here stays same = (0, omega (arith, same), stays)

    by : (c : Bool) → is_sealing (counted_as attempt.call) ≡ c → (allowed : Bool) → call_allowed ledger attempt.call ≡ allowed → (blamed refused : Bool)
        → is_some (call_refusal ledger attempt.call) ≡ refused → spares_call_order ledger attempt.call ≡ true
        → (is_made ledger attempt.call ≡ true → stopped_at behind ≡ Some stop → IsLeftFrom (suc place) attempts stop)
        → stopped_at (decided place allowed blamed refused behind) ≡ Some stop → IsLeftFrom place (attempt ∷ attempts) stop
    by c is true may blamed false none order rest stops = later (rest (made_if_taken ledger attempt.call may none) stops)
    by false is true may blamed true none order rest stops = here is (same_Some place stop stops)
    by false is false may true refused none order rest stops = here is (same_Some place stop stops)
    by false is false may false refused none order rest stops = here is (same_Some place stop stops)
    by true is true may blamed true none order rest stops =
        let unrefused = call_seal_unrefused ledger attempt.call is in let no_way : ⊥ = cc in absurd no_way
    by true is false may blamed refused none order rest stops =
        let allowed = call_seal_allowed ledger attempt.call is order in let no_way : ⊥ = cc in absurd no_way

pub no_seal_stopped : (attempts : List CallAttempt) (place : ℕ) → IsBlamelessCallOrder (calls_made attempts) → stopped_at (verdict_on_call_attempts attempts) ≡ Some place
    → seals (slice_get (script_counted attempts) place) ≡ false
no_seal_stopped attempts place ordered stopped =
    let found = stopped_left 0 empty_ledger attempts place ordered stopped in
    let at = found.1 in
    let same : place ≡ found.0 = omega (arith, at) in
    ap (λ (k : ℕ). seals (slice_get (script_counted attempts) k)) same ∙ found.2
