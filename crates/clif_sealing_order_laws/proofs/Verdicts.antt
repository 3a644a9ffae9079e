-- Verdicts don't depend on the order of sealing, where it is allowed.
use Rattle.std.proofs.Common.{◌≡◌, ◌+◌, ◌↔◌, ℕ, suc, Bool, true, false, cond, not, List, [], ◌∷◌, ◌++◌, length, map, refl, sym, ◌∙◌, ap, ap₂, arith}
use Rattle.std.specs.Prelude.{◌&&◌, ◌||◌, if◌then◌else◌, is_some}
use Rattle.std.proofs.lemmas.Bool.{and_parts}
use Rattle.std.proofs.lemmas.List.{length_push}
use Rattle.clif_meaning.specs.Acceptance.{Accepted, Misuse, Refused, Verdict}
use Rattle.clif_meaning.specs.Ledger.{Answered, Ledger, empty_ledger}
use Rattle.clif_meaning.specs.Name.{Name, answer_of}
use Rattle.clif_meaning.specs.Request.{Finalize, Request, Script}
use Rattle.clif_expansion.specs.CallsVerdict.{CallAttempt, calls_made, is_call_refused, made, verdict_on_call_attempts, verdict_on_calls_from}
use Rattle.clif_expansion.specs.ScriptCall.{Ask, Emit, ScriptCall, call_allowed, call_answers, call_refusal, ledger_with_call}
use Rattle.clif_renaming.specs.CallsSealing.{CallsDifferInSealing, counted_as, renamed_call, unsealed_calls}
use Rattle.clif_renaming.specs.Renaming.{KeepsApart}
use Rattle.clif_renaming.specs.Sealing.{is_sealing, name_left}
use Rattle.clif_renaming.proofs.Places.{Follows, follows_at_first, follows_call, follows_here, follows_seal, names_apart, rank, rank_next}
use Rattle.clif_sealing_order_laws.specs.Attempts.{count_left, counted_by}
use Rattle.clif_sealing_order_laws.specs.CallAttempts.{CallAttemptsDifferInSealing, call_attempts_left, calls_verdict_left, renamed_call_attempt, script_counted, unsealed_call_attempts}
use Rattle.clif_sealing_order_laws.specs.CallOrder.{IsAllowedCallOrder, IsBlamelessCallOrder, are_blameless_from, is_made, spares_call_order}
use Rattle.clif_sealing_order_laws.proofs.AcceptedCalls.{accepted_is_allowed, allowed_is_blameless, call_seal_allowed, call_seal_unrefused, decided, made_if_taken, made_then}
use Rattle.clif_sealing_order_laws.proofs.Lists.{filter_mapped, map_mapped}
use Rattle.clif_sealing_order_laws.proofs.RenamedAnswers.{AnswersGoAlong}
use Rattle.clif_sealing_order_laws.proofs.RenamedCalls.{answers_along_call, answers_along_seal, answers_behind, with_call_both, with_seal_both}
use Rattle.clif_sealing_order_laws.proofs.RenamedConditions.{call_allowed_along, call_allows_unsealed, call_blamed_along, call_refused_along, call_refuses_unsealed}
use Rattle.clif_sealing_order_laws.proofs.RenamedLedgers.{renamed_answer, unsealed_ledger}

-- the verdict on calls of which none seals, as if any block could be left, and were sealed at the end
abbrev free_verdict : ℕ → Ledger → List CallAttempt → Verdict
free_verdict place ledger [] = if call_refuses_unsealed ledger (Ask Finalize) then Refused place else Accepted
free_verdict place ledger (attempt ∷ attempts) =
    decided place (call_allows_unsealed ledger attempt.call) (is_call_refused ledger attempt) (call_refuses_unsealed ledger attempt.call)
    (free_verdict (suc place) (ledger_with_call ledger attempt.call) attempts)

counted_decided : (count : ℕ → ℕ) (place : ℕ) (allowed blamed refused : Bool) (rest : Verdict)
    → counted_by count (decided place allowed blamed refused rest) ≡ decided (count place) allowed blamed refused (counted_by count rest)
counted_decided count place true blamed true rest = refl
counted_decided count place true blamed false rest = refl
counted_decided count place false true refused rest = refl
counted_decided count place false false refused rest = refl

-- where a call isn't allowed, or is refused, nothing behind it counts
stops_here : (place : ℕ) (allowed blamed refused : Bool) (rest others : Verdict) → (allowed && not refused) ≡ false
    → decided place allowed blamed refused rest ≡ decided place allowed blamed refused others
stops_here place true blamed true rest others is = refl
stops_here place true blamed false rest others is = let none : ⊥ = cc in absurd none
stops_here place false true refused rest others is = refl
stops_here place false false refused rest others is = refl

unmade_stops : (place : ℕ) (ledger : Ledger) (call : ScriptCall) (blamed : Bool) (rest others : Verdict) → is_made ledger call ≡ false
    → decided place (call_allowed ledger call) blamed (is_some (call_refusal ledger call)) rest
    ≡ decided place (call_allowed ledger call) blamed (is_some (call_refusal ledger call)) others
unmade_stops place ledger (Ask request) blamed rest others is =
    let refused = is_some (call_refusal ledger (Ask request)) in
    stops_here place (call_allowed ledger (Ask request)) blamed refused rest others (ap (λ (allowed : Bool). allowed && not refused) is)
unmade_stops place ledger (Emit imports instruction) blamed rest others is =
    stops_here place (call_allowed ledger (Emit imports instruction)) blamed (is_some (call_refusal ledger (Emit imports instruction))) rest others is

-- From a place on, and from another place among the calls that don't seal, places are counted so.
abbrev Counts : (ℕ → ℕ) → Script → (place left : ℕ) → Type 0
Counts count script place left = (k : ℕ) → count (place + k) ≡ left + rank script k

module _ (count : ℕ → ℕ) (request : Request) (script : Script) (p p' : ℕ) (counts : Counts count (request ∷ script) p p') where
  counts_seal : is_sealing request ≡ true → Counts count script (suc p) p'
  counts_seal seals k = ap count (one_on p k) ∙ counts (suc k) ∙ ap (λ (n : ℕ). p' + n) (rank_next request script k true seals)
    where
      one_on : (p k : ℕ) → suc p + k ≡ p + suc k
      one_on p k = omega arith

  counts_call : is_sealing request ≡ false → Counts count script (suc p) (suc p')
  counts_call stays k =
      ap count (one_on p k) ∙ counts (suc k) ∙ ap (λ (n : ℕ). p' + n) (rank_next request script k false stays) ∙ sym (one_on p' (rank script k))
    where
      one_on : (p k : ℕ) → suc p + k ≡ p + suc k
      one_on p k = omega arith

counts_here : (count : ℕ → ℕ) (script : Script) (p p' : ℕ) → Counts count script p p' → count p ≡ p'
counts_here count script p p' counts = ap count (as_far p) ∙ counts 0 ∙ sym (as_far p')
  where
    as_far : (n : ℕ) → n ≡ n + 0
    as_far n = omega arith

module _ (rename : Name → Name) (apart : KeepsApart rename) (count : ℕ → ℕ) where
  -- The verdict is that on the renamed calls that don't seal.
  abbrev IsFree : List CallAttempt → Type 0
  IsFree attempts = (ledger : Ledger) (answers : List (List Answered)) (place place' : ℕ) → length ledger.answers ≡ place → length answers ≡ place'
      → AnswersGoAlong rename ledger.answers answers → Follows rename (script_counted attempts) place place' → Counts count (script_counted attempts) place place'
      → are_blameless_from ledger (calls_made attempts ++ Ask Finalize ∷ []) ≡ true
      → counted_by count (verdict_on_calls_from place ledger (attempts ++ made (Ask Finalize) ∷ []))
      ≡ free_verdict place' (unsealed_ledger rename ledger answers) (map (renamed_call_attempt rename) (call_attempts_left attempts))

  -- at the end
  free_at_end : IsFree []
  free_at_end ledger answers place place' has has' along follows counts ordered =
      counted_decided count place true false (is_some (call_refusal ledger (Ask Finalize))) Accepted
      ∙ ap₂ (λ (n : ℕ) (refused : Bool). if refused then Refused n else Accepted) (counts_here count [] place place' counts)
      (sym (call_refused_along rename apart ledger answers along (Ask Finalize) (and_parts (spares_call_order ledger (Ask Finalize)) true ordered).0))

  one_more : {X : Type 0} (xs : List X) (x : X) (place : ℕ) → length xs ≡ place → length (xs ++ x ∷ []) ≡ suc place
  one_more xs x place has = let more : length xs + 1 ≡ suc place = omega (arith, has) in length_push xs x ∙ more

  module _ (attempt : CallAttempt) (attempts : List CallAttempt) (ledger : Ledger) (answers : List (List Answered)) (place place' : ℕ)
      (has : length ledger.answers ≡ place) (has' : length answers ≡ place') (along : AnswersGoAlong rename ledger.answers answers)
      (follows : Follows rename (script_counted (attempt ∷ attempts)) place place') (counts : Counts count (script_counted (attempt ∷ attempts)) place place')
      (order : spares_call_order ledger attempt.call ≡ true)
      (ordered : is_made ledger attempt.call ≡ true → are_blameless_from (ledger_with_call ledger attempt.call) (calls_made attempts ++ Ask Finalize ∷ []) ≡ true)
      (later : IsFree attempts) where
    abbrev script : Script
    script = script_counted attempts

    abbrev other : Ledger
    other = unsealed_ledger rename ledger answers

    abbrev behind : Verdict
    behind = verdict_on_calls_from (suc place) (ledger_with_call ledger attempt.call) (attempts ++ made (Ask Finalize) ∷ [])

    abbrev rest : List CallAttempt
    rest = map (renamed_call_attempt rename) (call_attempts_left attempts)

    -- a call that seals
    free_seal : is_sealing (counted_as attempt.call) ≡ true
        → counted_by count (verdict_on_calls_from place ledger (attempt ∷ attempts ++ made (Ask Finalize) ∷ [])) ≡ free_verdict place' other rest
    free_seal seals =
        ap₂ (λ (allowed refused : Bool). counted_by count (decided place allowed (is_call_refused ledger attempt) refused behind))
        (call_seal_allowed ledger attempt.call seals order) (call_seal_unrefused ledger attempt.call seals)
        ∙ later (ledger_with_call ledger attempt.call) answers (suc place) place' (one_more ledger.answers (call_answers ledger attempt.call) place has) has'
        (answers_along_seal rename apart ledger answers along attempt.call seals)
        (follows_seal rename (counted_as attempt.call) script place place' follows seals) (counts_seal count (counted_as attempt.call) script place place' counts seals)
        (ordered (made_if_taken ledger attempt.call (call_seal_allowed ledger attempt.call seals order) (call_seal_unrefused ledger attempt.call seals)))
        ∙ ap (λ (l : Ledger). free_verdict place' l rest) (with_seal_both rename apart ledger answers attempt.call seals)

    -- another one
    free_call : is_sealing (counted_as attempt.call) ≡ false
        → counted_by count (verdict_on_calls_from place ledger (attempt ∷ attempts ++ made (Ask Finalize) ∷ [])) ≡ free_verdict place' other (renamed_call_attempt rename attempt ∷ rest)
    free_call stays =
        counted_decided count place (call_allowed ledger attempt.call) (is_call_refused ledger attempt) (is_some (call_refusal ledger attempt.call)) behind
        ∙ by (is_made ledger attempt.call) refl
        ∙ ap₂ (λ (n : ℕ) (allowed : Bool). decided n allowed (is_call_refused ledger attempt) (is_some (call_refusal ledger attempt.call)) others)
        (counts_here count (script_counted (attempt ∷ attempts)) place place' counts) (sym (call_allowed_along rename apart ledger answers along attempt.call stays order))
        ∙ ap₂ (λ (blamed refused : Bool). decided place' (call_allows_unsealed other (renamed_call rename attempt.call)) (attempt.is_tried && blamed) refused others)
        (sym (call_blamed_along rename apart ledger answers along attempt.call)) (sym (call_refused_along rename apart ledger answers along attempt.call order))
      where
        others : Verdict
        others = free_verdict (suc place') (ledger_with_call other (renamed_call rename attempt.call)) rest

        at : (index : ℕ) → rename (answer_of (length ledger.answers) index) ≡ answer_of (length answers) index
        at index = ap (λ (n : ℕ). rename (answer_of n index)) has ∙ follows_here rename (counted_as attempt.call) script place place' follows stays index ∙ ap (λ (n : ℕ). answer_of n index) (sym has')

        more : List (List Answered)
        more = answers_behind rename apart ledger answers attempt.call

        behind_call : is_made ledger attempt.call ≡ true → counted_by count behind ≡ others
        behind_call is =
            later (ledger_with_call ledger attempt.call) more (suc place) (suc place') (one_more ledger.answers (call_answers ledger attempt.call) place has)
            (one_more answers (map (renamed_answer rename) (call_answers ledger attempt.call)) place' has') (answers_along_call rename apart ledger answers along attempt.call at)
            (follows_call rename (counted_as attempt.call) script place place' follows stays) (counts_call count (counted_as attempt.call) script place place' counts stays) (ordered is)
            ∙ ap (λ (l : Ledger). free_verdict (suc place') l rest) (sym (with_call_both rename apart ledger answers along attempt.call stays at))

        by : (c : Bool) → is_made ledger attempt.call ≡ c
            → decided (count place) (call_allowed ledger attempt.call) (is_call_refused ledger attempt) (is_some (call_refusal ledger attempt.call)) (counted_by count behind)
            ≡ decided (count place) (call_allowed ledger attempt.call) (is_call_refused ledger attempt) (is_some (call_refusal ledger attempt.call)) others
        by true is = ap (decided (count place) (call_allowed ledger attempt.call) (is_call_refused ledger attempt) (is_some (call_refusal ledger attempt.call))) (behind_call is)
        by false is = unmade_stops (count place) ledger attempt.call (is_call_refused ledger attempt) (counted_by count behind) others is

  free_along : (attempts : List CallAttempt) → IsFree attempts
  free_along [] ledger answers place place' has has' along follows counts ordered = free_at_end ledger answers place place' has has' along follows counts ordered
  free_along (attempt ∷ attempts) ledger answers place place' has has' along follows counts ordered =
      let both = and_parts (spares_call_order ledger attempt.call)
      (not (is_made ledger attempt.call) || are_blameless_from (ledger_with_call ledger attempt.call) (calls_made attempts ++ Ask Finalize ∷ [])) ordered in
      by (is_sealing (counted_as attempt.call)) refl both.0
      (made_then (is_made ledger attempt.call) (are_blameless_from (ledger_with_call ledger attempt.call) (calls_made attempts ++ Ask Finalize ∷ [])) both.1) (free_along attempts)
    where
      left_with : Bool → List CallAttempt
      left_with c = map (renamed_call_attempt rename) (cond (not c) (attempt ∷ call_attempts_left attempts) (call_attempts_left attempts))

      by : (c : Bool) → is_sealing (counted_as attempt.call) ≡ c → spares_call_order ledger attempt.call ≡ true
          → (is_made ledger attempt.call ≡ true → are_blameless_from (ledger_with_call ledger attempt.call) (calls_made attempts ++ Ask Finalize ∷ []) ≡ true) → IsFree attempts
          → counted_by count (verdict_on_calls_from place ledger (attempt ∷ attempts ++ made (Ask Finalize) ∷ []))
          ≡ free_verdict place' (unsealed_ledger rename ledger answers) (left_with (is_sealing (counted_as attempt.call)))
      by true is order others later =
          free_seal attempt attempts ledger answers place place' has has' along follows counts order others later is
          ∙ ap (λ (c : Bool). free_verdict place' (unsealed_ledger rename ledger answers) (left_with c)) (sym is)
      by false stays order others later =
          free_call attempt attempts ledger answers place place' has has' along follows counts order others later stays
          ∙ ap (λ (c : Bool). free_verdict place' (unsealed_ledger rename ledger answers) (left_with c)) (sym stays)

-- LISTS OF CALLS ----------------------------------------------------------------------------------------------------------

free_of : (attempts : List CallAttempt) → IsBlamelessCallOrder (calls_made attempts) → calls_verdict_left attempts ≡ free_verdict 0 empty_ledger (unsealed_call_attempts attempts)
free_of attempts ordered =
    free_along (name_left (script_counted attempts)) (names_apart (script_counted attempts)) (count_left (script_counted attempts)) attempts
    empty_ledger [] 0 0 refl refl (λ x. refl) (follows_at_first (script_counted attempts)) counts ordered
  where
    counts : Counts (count_left (script_counted attempts)) (script_counted attempts) 0 0
    counts k = ap (count_left (script_counted attempts)) (no_more k) ∙ sym (no_more (rank (script_counted attempts) k))
      where
        no_more : (n : ℕ) → 0 + n ≡ n
        no_more n = omega arith

pub same_if_blameless : (left right : List CallAttempt) → CallAttemptsDifferInSealing left right → IsBlamelessCallOrder (calls_made left) → IsBlamelessCallOrder (calls_made right)
    → calls_verdict_left left ≡ calls_verdict_left right
same_if_blameless left right differ ordered ordered' = free_of left ordered ∙ ap (free_verdict 0 empty_ledger) differ ∙ sym (free_of right ordered')

pub same_verdict : (left right : List CallAttempt) → CallAttemptsDifferInSealing left right → IsAllowedCallOrder (calls_made left) → IsAllowedCallOrder (calls_made right)
    → calls_verdict_left left ≡ calls_verdict_left right
same_verdict left right differ ordered ordered' =
    same_if_blameless left right differ (allowed_is_blameless (calls_made left) ordered) (allowed_is_blameless (calls_made right) ordered')

accepted_from_counted : (count : ℕ → ℕ) (verdict : Verdict) → counted_by count verdict ≡ Accepted → verdict ≡ Accepted
accepted_from_counted count Accepted is = refl
accepted_from_counted count (Misuse place) is = let no_way : ⊥ = cc in absurd no_way
accepted_from_counted count (Refused place) is = let no_way : ⊥ = cc in absurd no_way

pub accepted_alike : (left right : List CallAttempt) → CallAttemptsDifferInSealing left right → verdict_on_call_attempts left ≡ Accepted
    → (verdict_on_call_attempts right ≡ Accepted) ↔ IsAllowedCallOrder (calls_made right)
accepted_alike left right differ accepted = (
  accepted_is_allowed right,
  λ ordered.
      accepted_from_counted (count_left (script_counted right)) (verdict_on_call_attempts right)
      (sym (same_verdict left right differ (accepted_is_allowed left accepted) ordered) ∙ ap (counted_by (count_left (script_counted left))) accepted),
)

-- such lists make calls that differ only in when blocks are sealed
made_unsealed : (attempts : List CallAttempt) → unsealed_calls (calls_made attempts) ≡ calls_made (unsealed_call_attempts attempts)
made_unsealed attempts =
    let rename = name_left (script_counted attempts) in
    ap (λ (calls : List ScriptCall). map (renamed_call rename) calls)
    (filter_mapped (λ (attempt : CallAttempt). attempt.call) (λ (attempt : CallAttempt). not (is_sealing (counted_as attempt.call)))
    (λ (call : ScriptCall). not (is_sealing (counted_as call))) (λ attempt. refl) attempts)
    ∙ map_mapped (λ (attempt : CallAttempt). attempt.call) (λ (attempt : CallAttempt). attempt.call) (renamed_call_attempt rename) (renamed_call rename)
    (λ attempt. refl) (call_attempts_left attempts)

pub calls_differ : (left right : List CallAttempt) → CallAttemptsDifferInSealing left right → CallsDifferInSealing (calls_made left) (calls_made right)
calls_differ left right differ = made_unsealed left ∙ ap calls_made differ ∙ sym (made_unsealed right)
