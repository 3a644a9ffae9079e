-- Verdicts on calls of a script, found call by call.
use Rattle.std.proofs.Common.{◌≡◌, ◌+◌, ℕ, suc, Bool, true, false, List, [], ◌∷◌, ◌++◌, length, map, refl, sym, ◌∙◌, ap, arith, Option, Some, None}
use Rattle.std.specs.Prelude.{IsTrue, fold, if◌then◌else◌, is_some, not, option_map, ◌&&◌}
use Rattle.clif_meaning.specs.Acceptance.{Accepted, Misuse, Refusal, Refused, Unfilled, Unsealed, Verdict, allows, is_refused, refusal_of, verdict_from}
use Rattle.clif_meaning.specs.Ledger.{Ledger, empty_ledger, ledger_with}
use Rattle.clif_meaning.specs.Request.{Attempt, Finalize, outright}
use Rattle.clif_expansion.specs.CallsVerdict.{AreCallsAllowed, AreCallsTaken, CallAttempt, VerdictsAreRead, asking, calls_made, is_call_refused, made, verdict_on_calls_from}
use Rattle.clif_expansion.specs.Joining.{IsReadRefusal}
use Rattle.clif_expansion.specs.Reading.{Reading}
use Rattle.clif_expansion.specs.ScriptCall.{Ask, Emit, OfCall, ScriptCall, call_allowed, call_refusal, ledger_with_call}
use Rattle.clif_expansion.proofs.ReadConditions.{conditions_are_read}

-- there is a refusal on both sides, or on neither
refused_same : (reading : Reading) (refusal' refusal : Option Refusal) → IsReadRefusal reading refusal' refusal → is_some refusal ≡ is_some refusal'
refused_same reading None None is = refl
refused_same reading (Some (Unsealed x)) (Some (Unsealed block)) is = refl
refused_same reading (Some (Unfilled x)) (Some (Unfilled block)) is = refl
refused_same reading _ _ is = absurd is

some_mapped : (refusal : Option Refusal) → is_some (option_map OfCall refusal) ≡ is_some refusal
some_mapped None = refl
some_mapped (Some refusal) = refl

-- ONE CALL ----------------------------------------------------------------------------------------------------------------

-- the verdict by whether a call is allowed, to blame, and refused
abbrev decided : ℕ → (allowed blamed refused : Bool) → Verdict → Verdict
decided place allowed blamed refused rest = if not allowed then (if blamed then Refused place else Misuse place) else (if refused then Refused place else rest)

module _ (place : ℕ) (ledger : Ledger) (attempt : CallAttempt) (rest : List CallAttempt) where
  abbrev later : Verdict
  later = verdict_on_calls_from (suc place) (ledger_with_call ledger attempt.call) rest

  taken : call_allowed ledger attempt.call ≡ true → is_some (call_refusal ledger attempt.call) ≡ false → verdict_on_calls_from place ledger (attempt ∷ rest) ≡ later
  taken allowed refused =
      ap (λ (a : Bool). decided place a (is_call_refused ledger attempt) (is_some (call_refusal ledger attempt.call)) later) allowed
      ∙ ap (λ (r : Bool). decided place true (is_call_refused ledger attempt) r later) refused

  not_allowed : (blamed : Bool) → call_allowed ledger attempt.call ≡ false → is_call_refused ledger attempt ≡ blamed
      → verdict_on_calls_from place ledger (attempt ∷ rest) ≡ decided place false blamed false later
  not_allowed blamed allowed is =
      ap (λ (a : Bool). decided place a (is_call_refused ledger attempt) (is_some (call_refusal ledger attempt.call)) later) allowed
      ∙ ap (λ (b : Bool). decided place false b false later) is

  refuses : call_allowed ledger attempt.call ≡ true → is_some (call_refusal ledger attempt.call) ≡ true → verdict_on_calls_from place ledger (attempt ∷ rest) ≡ Refused place
  refuses allowed refused =
      ap (λ (a : Bool). decided place a (is_call_refused ledger attempt) (is_some (call_refusal ledger attempt.call)) later) allowed
      ∙ ap (λ (r : Bool). decided place true (is_call_refused ledger attempt) r later) refused

never_refused : (c : Bool) → (c && false) ≡ false
never_refused true = refl
never_refused false = refl

-- ALL CALLS ---------------------------------------------------------------------------------------------------------------

goes_on : (place : ℕ) (ledger : Ledger) (attempts rest : List CallAttempt) → AreCallsTaken ledger (calls_made attempts)
    → verdict_on_calls_from place ledger (attempts ++ rest)
    ≡ verdict_on_calls_from (place + length attempts) (fold ledger_with_call ledger (calls_made attempts)) rest
goes_on place ledger [] rest are =
    let none : place ≡ place + 0 = omega arith in
    ap (λ (n : ℕ). verdict_on_calls_from n ledger rest) none
goes_on place ledger (attempt ∷ attempts) rest are =
    let further : suc place + length attempts ≡ place + suc (length attempts) = omega arith in
    taken place ledger attempt (attempts ++ rest) are.0 are.1
    ∙ goes_on (suc place) (ledger_with_call ledger attempt.call) attempts rest are.2
    ∙ ap (λ (n : ℕ). verdict_on_calls_from n (fold ledger_with_call ledger (calls_made (attempt ∷ attempts))) rest) further

accepted_taken : (place : ℕ) (ledger : Ledger) (attempts rest : List CallAttempt) → verdict_on_calls_from place ledger (attempts ++ rest) ≡ Accepted
    → AreCallsTaken ledger (calls_made attempts)
accepted_taken place ledger [] rest accepted = tt
accepted_taken place ledger (attempt ∷ attempts) rest accepted =
    by (call_allowed ledger attempt.call) refl (is_call_refused ledger attempt) (is_some (call_refusal ledger attempt.call)) refl
    (accepted_taken (suc place) (ledger_with_call ledger attempt.call) attempts rest) accepted
  where
    behind : Verdict
    behind = verdict_on_calls_from (suc place) (ledger_with_call ledger attempt.call) (attempts ++ rest)

    by : (allowed : Bool) → call_allowed ledger attempt.call ≡ allowed → (blamed refused : Bool) → is_some (call_refusal ledger attempt.call) ≡ refused
        → (behind ≡ Accepted → AreCallsTaken (ledger_with_call ledger attempt.call) (calls_made attempts))
        → decided place allowed blamed refused behind ≡ Accepted → AreCallsTaken ledger (calls_made (attempt ∷ attempts))
    by true may blamed false none others is = (may, none, others is)
    by true may blamed true none others is = let no_way : ⊥ = cc in absurd no_way
    by false may true refused none others is = let no_way : ⊥ = cc in absurd no_way
    by false may false refused none others is = let no_way : ⊥ = cc in absurd no_way

taken_accepted : (place : ℕ) (ledger : Ledger) (attempts : List CallAttempt) (last : CallAttempt) → AreCallsTaken ledger (calls_made attempts ++ last.call ∷ [])
    → verdict_on_calls_from place ledger (attempts ++ last ∷ []) ≡ Accepted
taken_accepted place ledger [] last are = taken place ledger last [] are.0 are.1
taken_accepted place ledger (attempt ∷ attempts) last are =
    taken place ledger attempt (attempts ++ last ∷ []) are.0 are.1 ∙ taken_accepted (suc place) (ledger_with_call ledger attempt.call) attempts last are.2

taken_allowed : (ledger : Ledger) (calls : List ScriptCall) → AreCallsTaken ledger calls → AreCallsAllowed ledger calls
taken_allowed ledger [] are = tt
taken_allowed ledger (call ∷ calls) are = (are.0, taken_allowed (ledger_with_call ledger call) calls are.2)

pub one_more : (ledger : Ledger) (calls : List ScriptCall) (call : ScriptCall) → AreCallsTaken ledger calls
    → IsTrue (call_allowed (fold ledger_with_call ledger calls) call) → is_some (call_refusal (fold ledger_with_call ledger calls) call) ≡ false
    → AreCallsTaken ledger (calls ++ call ∷ [])
one_more ledger [] call are may none = (may, none, tt)
one_more ledger (first ∷ calls) call are may none = (are.0, are.1, one_more (ledger_with_call ledger first) calls call are.2 may none)

-- without an emission
asked_alone : (place : ℕ) (ledger : Ledger) (attempts : List Attempt)
    → verdict_on_calls_from place ledger (map asking attempts ++ made (Ask Finalize) ∷ []) ≡ verdict_from place ledger (attempts ++ outright Finalize ∷ [])
asked_alone place ledger [] = ap (λ (refused : Bool). decided place true false refused Accepted) (some_mapped (refusal_of ledger Finalize))
asked_alone place ledger (attempt ∷ attempts) =
    ap (λ (refused : Bool). decided place (allows ledger attempt.request) (is_refused ledger attempt) refused
    (verdict_on_calls_from (suc place) (ledger_with ledger attempt.request) (map asking attempts ++ made (Ask Finalize) ∷ []))) (some_mapped (refusal_of ledger attempt.request))
    ∙ ap (decided place (allows ledger attempt.request) (is_refused ledger attempt) (is_some (refusal_of ledger attempt.request)))
    (asked_alone (suc place) (ledger_with ledger attempt.request) attempts)

pub verdicts_are_read : VerdictsAreRead
verdicts_are_read = record {
  allowed = λ reading plain ledger asked request joined is. sym (conditions_are_read.allowed reading plain ledger asked request joined.ledgers joined.one_to_one is);
  blamed = λ reading plain ledger asked request joined is. sym (conditions_are_read.blamed reading plain ledger asked request joined.ledgers joined.one_to_one is);
  refused = λ reading plain ledger asked request joined is.
      some_mapped (refusal_of ledger request)
      ∙ refused_same reading (refusal_of plain asked) (refusal_of ledger request) (conditions_are_read.refused reading plain ledger asked request joined.ledgers joined.one_to_one is);
  goes_on = goes_on;
  misused = λ place ledger attempt rest allowed blamed. not_allowed place ledger attempt rest false allowed blamed;
  blames = λ place ledger attempt rest allowed blamed. not_allowed place ledger attempt rest true allowed blamed;
  not_emitted = λ place ledger imports instruction is_tried rest allowed.
      not_allowed place ledger (record { call = Emit imports instruction; is_tried = is_tried }) rest false allowed (never_refused is_tried);
  refuses = refuses;
  accepted = λ attempts. accepted_taken 0 empty_ledger attempts (made (Ask Finalize) ∷ []);
  accepts = λ attempts are. taken_accepted 0 empty_ledger attempts (made (Ask Finalize)) are;
  may_be_made = taken_allowed;
  one_more = one_more;
  asked_alone = asked_alone 0 empty_ledger;
}
