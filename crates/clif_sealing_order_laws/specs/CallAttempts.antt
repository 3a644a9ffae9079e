-- Calls as they are made, emissions among them and some of them only tried, that differ only in when blocks are sealed; and the
-- verdict on them, its place counted without the calls that seal. Own.
use Rattle.std.specs.Prelude.{◌≡◌, not, List, map, filter}
use Rattle.clif_meaning.specs.Acceptance.{Verdict}
use Rattle.clif_meaning.specs.Name.{Name}
use Rattle.clif_meaning.specs.Request.{Script}
use Rattle.clif_expansion.specs.CallsVerdict.{CallAttempt, calls_made, verdict_on_call_attempts}
use Rattle.clif_renaming.specs.CallsSealing.{counted_as, renamed_call}
use Rattle.clif_renaming.specs.Sealing.{is_sealing, name_left}
use Rattle.clif_sealing_order_laws.specs.Attempts.{count_left, counted_by}

-- what the calls count as where only places and sealing matter
abbrev pub script_counted : List CallAttempt → Script
script_counted attempts = map counted_as (calls_made attempts)

-- the calls that don't seal
abbrev pub call_attempts_left : List CallAttempt → List CallAttempt
call_attempts_left attempts =
    filter (λ attempt. not (is_sealing (counted_as attempt.call))) attempts

-- a call with its names renamed
abbrev pub renamed_call_attempt : (Name → Name) → CallAttempt → CallAttempt
renamed_call_attempt rename attempt =
    record { call = renamed_call rename attempt.call; is_tried = attempt.is_tried }

-- the calls without those that seal, each answer named by its call's place among them
abbrev pub unsealed_call_attempts : List CallAttempt → List CallAttempt
unsealed_call_attempts attempts =
    map (renamed_call_attempt (name_left (script_counted attempts))) (call_attempts_left attempts)

abbrev pub CallAttemptsDifferInSealing : List CallAttempt → List CallAttempt → Type 0
CallAttemptsDifferInSealing left right = unsealed_call_attempts left ≡ unsealed_call_attempts right

-- The verdict, its place counted without the calls that seal. The place of `finalize` is behind the others.
abbrev pub calls_verdict_left : List CallAttempt → Verdict
calls_verdict_left attempts =
    counted_by (count_left (script_counted attempts)) (verdict_on_call_attempts attempts)
