-- The verdict on calls of a script that may also emit, as it is on a script's calls of the builder: a misuse goes before a refusal,
-- and the first call that is either decides. After the documentation of Cranelift's `FunctionBuilder`; of emissions it is own.
use Rattle.std.specs.Prelude.{◌≡◌, ◌+◌, ◌&&◌, ℕ, suc, Bool, true, false, not, if◌then◌else◌, List, [], ◌∷◌, ◌++◌, IsTrue, fold, is_some, length, map}
use Rattle.clif_tables.specs.Entries.{TableEntry}
use Rattle.clif_meaning.specs.Acceptance.{Accepted, Misuse, Refused, Verdict, allows, blames_variable, refusal_of, verdict_on_attempts}
use Rattle.clif_meaning.specs.Instruction.{Instruction}
use Rattle.clif_meaning.specs.Ledger.{Ledger, empty_ledger}
use Rattle.clif_meaning.specs.Name.{Name}
use Rattle.clif_meaning.specs.Request.{Attempt, Finalize, Request}
use Rattle.clif_expansion.specs.Joining.{IsJoined, IsReadRequest}
use Rattle.clif_expansion.specs.Reading.{Reading}
use Rattle.clif_expansion.specs.ScriptCall.{Ask, Emit, ScriptCall, call_allowed, call_refusal, ledger_with_call}

-- a call as it is made: the call, and whether it is only tried
pub record CallAttempt : Type 0 where
  pub call : ScriptCall
  pub is_tried : Bool

abbrev pub made : ScriptCall → CallAttempt
made call = record { call = call; is_tried = false }

-- the variable of a call is to blame that isn't allowed: an emission has none
abbrev pub call_blames_variable : Ledger → ScriptCall → Bool
call_blames_variable ledger (Ask request) = blames_variable ledger request
call_blames_variable ledger (Emit imports instruction) = false

-- a call that isn't allowed is refused, and no misuse
abbrev pub is_call_refused : Ledger → CallAttempt → Bool
is_call_refused ledger attempt = attempt.is_tried && call_blames_variable ledger attempt.call

-- A misuse goes before a refusal, and the first call that is either decides.
abbrev pub verdict_on_calls_from : ℕ → Ledger → List CallAttempt → Verdict
verdict_on_calls_from place ledger [] = Accepted
verdict_on_calls_from place ledger (attempt ∷ attempts) =
    if not (call_allowed ledger attempt.call) then (if is_call_refused ledger attempt then Refused place else Misuse place)
    else (if is_some (call_refusal ledger attempt.call) then Refused place
    else verdict_on_calls_from (suc place) (ledger_with_call ledger attempt.call) attempts)

-- the verdict on calls, with `finalize` behind them
abbrev pub verdict_on_call_attempts : List CallAttempt → Verdict
verdict_on_call_attempts attempts = verdict_on_calls_from 0 empty_ledger (attempts ++ made (Ask Finalize) ∷ [])

-- the verdict on calls of which none is only tried
abbrev pub verdict_on_calls : List ScriptCall → Verdict
verdict_on_calls calls = verdict_on_call_attempts (map made calls)

-- each call may be made, behind the earlier ones
abbrev pub AreCallsAllowed : Ledger → List ScriptCall → Type 0
AreCallsAllowed ledger [] = Unit {0}
AreCallsAllowed ledger (call ∷ calls) = IsTrue (call_allowed ledger call) × AreCallsAllowed (ledger_with_call ledger call) calls

-- each call may be made, and none is refused
abbrev pub AreCallsTaken : Ledger → List ScriptCall → Type 0
AreCallsTaken ledger [] = Unit {0}
AreCallsTaken ledger (call ∷ calls) =
    IsTrue (call_allowed ledger call) × (is_some (call_refusal ledger call) ≡ false) × AreCallsTaken (ledger_with_call ledger call) calls

-- LAWS --------------------------------------------------------------------------------------------------------------------

-- the call that an attempt makes, and the attempt of a request
abbrev pub calls_made : List CallAttempt → List ScriptCall
calls_made attempts = map (λ attempt. attempt.call) attempts

abbrev pub asking : Attempt → CallAttempt
asking attempt = record { call = Ask attempt.request; is_tried = attempt.is_tried }

-- Verdicts are the same under a reading, and are found call by call.
pub record VerdictsAreRead : Type 0 where
  -- A call of the builder may be made, is to blame its variable, and is refused where its plain call is.
  pub allowed : (reading : Reading) (plain ledger : Ledger) (asked request : Request) → IsJoined reading plain ledger → IsReadRequest reading asked request
      → call_allowed ledger (Ask request) ≡ allows plain asked
  pub blamed : (reading : Reading) (plain ledger : Ledger) (asked request : Request) → IsJoined reading plain ledger → IsReadRequest reading asked request
      → call_blames_variable ledger (Ask request) ≡ blames_variable plain asked
  pub refused : (reading : Reading) (plain ledger : Ledger) (asked request : Request) → IsJoined reading plain ledger → IsReadRequest reading asked request
      → is_some (call_refusal ledger (Ask request)) ≡ is_some (refusal_of plain asked)
  -- Behind calls that are taken the verdict is that on the rest.
  pub goes_on : (place : ℕ) (ledger : Ledger) (attempts rest : List CallAttempt) → AreCallsTaken ledger (calls_made attempts)
      → verdict_on_calls_from place ledger (attempts ++ rest)
      ≡ verdict_on_calls_from (place + length attempts) (fold ledger_with_call ledger (calls_made attempts)) rest
  -- A call that isn't allowed is a misuse at its place, or refused there where it was only tried and its variable is to blame.
  pub misused : (place : ℕ) (ledger : Ledger) (attempt : CallAttempt) (rest : List CallAttempt) → call_allowed ledger attempt.call ≡ false
      → is_call_refused ledger attempt ≡ false → verdict_on_calls_from place ledger (attempt ∷ rest) ≡ Misuse place
  pub blames : (place : ℕ) (ledger : Ledger) (attempt : CallAttempt) (rest : List CallAttempt) → call_allowed ledger attempt.call ≡ false
      → is_call_refused ledger attempt ≡ true → verdict_on_calls_from place ledger (attempt ∷ rest) ≡ Refused place
  -- So an emission that isn't allowed is a misuse, whether it was only tried or not.
  pub not_emitted : (place : ℕ) (ledger : Ledger) (imports : List TableEntry) (instruction : Instruction Name Name) (is_tried : Bool) (rest : List CallAttempt)
      → call_allowed ledger (Emit imports instruction) ≡ false
      → verdict_on_calls_from place ledger (record { call = Emit imports instruction; is_tried = is_tried } ∷ rest) ≡ Misuse place
  -- A call that is allowed and refused is refused at its place.
  pub refuses : (place : ℕ) (ledger : Ledger) (attempt : CallAttempt) (rest : List CallAttempt) → call_allowed ledger attempt.call ≡ true
      → is_some (call_refusal ledger attempt.call) ≡ true → verdict_on_calls_from place ledger (attempt ∷ rest) ≡ Refused place
  -- Accepted calls are taken, and calls are accepted that are taken with `finalize` behind them.
  pub accepted : (attempts : List CallAttempt) → verdict_on_call_attempts attempts ≡ Accepted → AreCallsTaken empty_ledger (calls_made attempts)
  pub accepts : (attempts : List CallAttempt) → AreCallsTaken empty_ledger (calls_made attempts ++ Ask Finalize ∷ []) → verdict_on_call_attempts attempts ≡ Accepted
  -- Calls that are taken may be made, and stay so with one more.
  pub may_be_made : (ledger : Ledger) (calls : List ScriptCall) → AreCallsTaken ledger calls → AreCallsAllowed ledger calls
  pub one_more : (ledger : Ledger) (calls : List ScriptCall) (call : ScriptCall) → AreCallsTaken ledger calls
      → IsTrue (call_allowed (fold ledger_with_call ledger calls) call) → is_some (call_refusal (fold ledger_with_call ledger calls) call) ≡ false
      → AreCallsTaken ledger (calls ++ call ∷ [])
  -- Without an emission the verdict is that on the calls of the builder.
  pub asked_alone : (attempts : List Attempt) → verdict_on_call_attempts (map asking attempts) ≡ verdict_on_attempts attempts
