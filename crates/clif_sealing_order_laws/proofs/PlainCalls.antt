-- The laws of lists that may emit, and the same of the builder's own calls, which are lists without an emission.
use Rattle.std.proofs.Common.{◌≡◌, Bool, not, List, [], ◌∷◌, ◌++◌, map, refl, sym, ◌∙◌, ap, ap₂, subst}
use Rattle.std.specs.Prelude.{◌&&◌, ◌||◌, slice_get}
use Rattle.clif_meaning.specs.Acceptance.{Verdict, allows, verdict_on, verdict_on_attempts}
use Rattle.clif_meaning.specs.Ledger.{Ledger, empty_ledger, ledger_with}
use Rattle.clif_meaning.specs.Request.{Attempt, Finalize, Request, Script, outright}
use Rattle.clif_expansion.specs.CallsVerdict.{CallAttempt, asking, calls_made, verdict_on_call_attempts}
use Rattle.clif_expansion.specs.ScriptCall.{Ask}
use Rattle.clif_expansion.proofs.calls.Verdicts.{verdicts_are_read}
use Rattle.clif_renaming.specs.CallsSealing.{counted_as}
use Rattle.clif_renaming.specs.Sealing.{DifferInSealing, is_sealing, name_left, renamed_request, unsealed, without_seals}
use Rattle.clif_sealing_order_laws.specs.Attempts.{AttemptsDifferInSealing, attempts_left, count_left, counted_by, renamed_attempt, requests_of, script_verdict_left, seals, stopped_at, unsealed_attempts, verdict_left}
use Rattle.clif_sealing_order_laws.specs.CallAttempts.{CallAttemptsDifferInSealing, calls_verdict_left, renamed_call_attempt, script_counted, unsealed_call_attempts}
use Rattle.clif_sealing_order_laws.specs.CallOrder.{are_allowed_from, are_blameless_from}
use Rattle.clif_sealing_order_laws.specs.Laws.{AllowedOrdersAgree, AttemptsAgree, CallAttemptsAgree}
use Rattle.clif_sealing_order_laws.specs.Order.{IsAllowedOrder, IsBlamelessOrder, allows_order, is_allowed_from, is_blameless_from, spares_order}
use Rattle.clif_sealing_order_laws.proofs.AcceptedCalls.{accepted_is_allowed, allowed_is_blameless, no_seal_stopped}
use Rattle.clif_sealing_order_laws.proofs.Lists.{filter_mapped, map_mapped}
use Rattle.clif_sealing_order_laws.proofs.Verdicts.{accepted_alike, calls_differ, same_if_blameless, same_verdict}

-- ATTEMPTS ----------------------------------------------------------------------------------------------------------------

verdict_alone : (attempts : List Attempt) → verdict_on_call_attempts (map asking attempts) ≡ verdict_on_attempts attempts
verdict_alone attempts = verdicts_are_read.asked_alone attempts

counted_asked : (attempts : List Attempt) → script_counted (map asking attempts) ≡ requests_of attempts
counted_asked [] = refl
counted_asked (attempt ∷ attempts) = ap (λ (rest : Script). attempt.request ∷ rest) (counted_asked attempts)

unsealed_asked : (attempts : List Attempt) → unsealed_call_attempts (map asking attempts) ≡ map asking (unsealed_attempts attempts)
unsealed_asked attempts =
    ap₂ (λ (s : Script) (left : List CallAttempt). map (renamed_call_attempt (name_left s)) left) (counted_asked attempts)
    (filter_mapped asking (λ (attempt : Attempt). not (is_sealing attempt.request)) (λ (attempt : CallAttempt). not (is_sealing (counted_as attempt.call))) (λ attempt. refl) attempts)
    ∙ map_mapped asking asking (renamed_attempt (name_left (requests_of attempts))) (renamed_call_attempt (name_left (requests_of attempts))) (λ attempt. refl) (attempts_left attempts)

asked_differ : (left right : List Attempt) → AttemptsDifferInSealing left right → CallAttemptsDifferInSealing (map asking left) (map asking right)
asked_differ left right differ = unsealed_asked left ∙ ap (λ (attempts : List Attempt). map asking attempts) differ ∙ sym (unsealed_asked right)

asked_verdict : (attempts : List Attempt) → calls_verdict_left (map asking attempts) ≡ verdict_left attempts
asked_verdict attempts = ap₂ (λ (s : Script) (verdict : Verdict). counted_by (count_left s) verdict) (counted_asked attempts) (verdict_alone attempts)

allowed_asked : (ledger : Ledger) (attempts : List Attempt)
    → are_allowed_from ledger (calls_made (map asking attempts) ++ Ask Finalize ∷ []) ≡ is_allowed_from ledger (requests_of attempts ++ Finalize ∷ [])
allowed_asked ledger [] = refl
allowed_asked ledger (attempt ∷ attempts) = ap (λ (rest : Bool). allows_order ledger attempt.request && rest) (allowed_asked (ledger_with ledger attempt.request) attempts)

blameless_asked : (ledger : Ledger) (attempts : List Attempt)
    → are_blameless_from ledger (calls_made (map asking attempts) ++ Ask Finalize ∷ []) ≡ is_blameless_from ledger (requests_of attempts ++ Finalize ∷ [])
blameless_asked ledger [] = refl
blameless_asked ledger (attempt ∷ attempts) =
    ap (λ (rest : Bool). spares_order ledger attempt.request && (not (allows ledger attempt.request) || rest)) (blameless_asked (ledger_with ledger attempt.request) attempts)

pub call_attempts_agree : CallAttemptsAgree
call_attempts_agree = record {
  accepted_is_allowed = accepted_is_allowed;
  allowed_is_blameless = λ attempts. allowed_is_blameless (calls_made attempts);
  no_seal_stopped = no_seal_stopped;
  same_verdict = same_verdict;
  same_if_blameless = same_if_blameless;
  accepted_alike = accepted_alike;
  calls_differ = calls_differ;
  asked_differ = asked_differ;
  asked_allowed = λ attempts. (λ ordered. sym (allowed_asked empty_ledger attempts) ∙ ordered, λ ordered. allowed_asked empty_ledger attempts ∙ ordered);
  asked_blameless = λ attempts. (λ ordered. sym (blameless_asked empty_ledger attempts) ∙ ordered, λ ordered. blameless_asked empty_ledger attempts ∙ ordered);
  asked_verdict = asked_verdict;
}

abbrev law : CallAttemptsAgree
law = call_attempts_agree

pub attempts_agree : AttemptsAgree
attempts_agree = record {
  accepted_is_allowed = λ attempts accepted. (law.asked_allowed attempts).0 (law.accepted_is_allowed (map asking attempts) (verdict_alone attempts ∙ accepted));
  allowed_is_blameless = λ attempts ordered. (law.asked_blameless attempts).0 (law.allowed_is_blameless (map asking attempts) ((law.asked_allowed attempts).1 ordered));
  no_seal_stopped = λ attempts place ordered stopped.
      ap (λ (s : Script). seals (slice_get s place)) (sym (counted_asked attempts))
      ∙ law.no_seal_stopped (map asking attempts) place ((law.asked_blameless attempts).1 ordered) (ap stopped_at (verdict_alone attempts) ∙ stopped);
  same_verdict = λ left right differ ordered ordered'.
      sym (asked_verdict left)
      ∙ law.same_verdict (map asking left) (map asking right) (asked_differ left right differ) ((law.asked_allowed left).1 ordered) ((law.asked_allowed right).1 ordered')
      ∙ asked_verdict right;
  same_if_blameless = λ left right differ ordered ordered'.
      sym (asked_verdict left)
      ∙ law.same_if_blameless (map asking left) (map asking right) (asked_differ left right differ) ((law.asked_blameless left).1 ordered) ((law.asked_blameless right).1 ordered')
      ∙ asked_verdict right;
  accepted_alike = λ left right differ accepted.
      let both = law.accepted_alike (map asking left) (map asking right) (asked_differ left right differ) (verdict_alone left ∙ accepted) in
      (λ is. (law.asked_allowed right).0 (both.0 (verdict_alone right ∙ is)), λ ordered. sym (verdict_alone right) ∙ both.1 ((law.asked_allowed right).1 ordered));
}

-- SCRIPTS -----------------------------------------------------------------------------------------------------------------

requests_outright : (script : Script) → requests_of (map outright script) ≡ script
requests_outright [] = refl
requests_outright (request ∷ script) = ap (λ (rest : Script). request ∷ rest) (requests_outright script)

unsealed_outright : (script : Script) → unsealed_attempts (map outright script) ≡ map outright (unsealed script)
unsealed_outright script =
    ap₂ (λ (s : Script) (left : List Attempt). map (renamed_attempt (name_left s)) left) (requests_outright script)
    (filter_mapped outright (λ (request : Request). not (is_sealing request)) (λ (attempt : Attempt). not (is_sealing attempt.request)) (λ request. refl) script)
    ∙ map_mapped outright outright (renamed_request (name_left script)) (renamed_attempt (name_left script)) (λ request. refl) (without_seals script)

differ_outright : (left right : Script) → DifferInSealing left right → AttemptsDifferInSealing (map outright left) (map outright right)
differ_outright left right differ = unsealed_outright left ∙ ap (λ (script : Script). map outright script) differ ∙ sym (unsealed_outright right)

to_outright : (script : Script) → IsAllowedOrder script → IsAllowedOrder (requests_of (map outright script))
to_outright script ordered = subst IsAllowedOrder (sym (requests_outright script)) ordered

from_outright : (script : Script) → IsAllowedOrder (requests_of (map outright script)) → IsAllowedOrder script
from_outright script ordered = subst IsAllowedOrder (requests_outright script) ordered

verdict_outright : (script : Script) → verdict_left (map outright script) ≡ script_verdict_left script
verdict_outright script = ap (λ (s : Script). counted_by (count_left s) (verdict_on script)) (requests_outright script)

blameless_outright : (script : Script) → IsBlamelessOrder script → IsBlamelessOrder (requests_of (map outright script))
blameless_outright script ordered = subst IsBlamelessOrder (sym (requests_outright script)) ordered

pub allowed_orders_agree : AllowedOrdersAgree
allowed_orders_agree = record {
  accepted_is_allowed = λ script accepted. from_outright script (attempts_agree.accepted_is_allowed (map outright script) accepted);
  allowed_is_blameless = allowed_blameless;
  no_seal_stopped = λ script place ordered stopped.
      ap (λ (s : Script). seals (slice_get s place)) (sym (requests_outright script))
      ∙ attempts_agree.no_seal_stopped (map outright script) place (blameless_outright script ordered) stopped;
  same_verdict = λ left right differ ordered ordered'. same_scripts left right differ (allowed_blameless left ordered) (allowed_blameless right ordered');
  same_if_blameless = same_scripts;
  accepted_alike = λ left right differ accepted.
      let both = attempts_agree.accepted_alike (map outright left) (map outright right) (differ_outright left right differ) accepted in
      (λ is. from_outright right (both.0 is), λ ordered. both.1 (to_outright right ordered));
}
  where
    allowed_blameless : (script : Script) → IsAllowedOrder script → IsBlamelessOrder script
    allowed_blameless script ordered =
        subst IsBlamelessOrder (requests_outright script) (attempts_agree.allowed_is_blameless (map outright script) (to_outright script ordered))

    same_scripts : (left right : Script) → DifferInSealing left right → IsBlamelessOrder left → IsBlamelessOrder right
        → script_verdict_left left ≡ script_verdict_left right
    same_scripts left right differ ordered ordered' =
        sym (verdict_outright left)
        ∙ attempts_agree.same_if_blameless (map outright left) (map outright right) (differ_outright left right differ) (blameless_outright left ordered) (blameless_outright right ordered')
        ∙ verdict_outright right
