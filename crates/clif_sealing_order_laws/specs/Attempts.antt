-- Calls as they are made, some of them only tried, that differ only in when blocks are sealed; and the verdict on them, its place
-- counted without the calls that seal. Own.
use Rattle.std.specs.Prelude.{◌≡◌, ℕ, Bool, false, not, List, length, map, filter, take, Option, Some, None}
use Rattle.clif_meaning.specs.Acceptance.{Accepted, Misuse, Refused, Verdict, verdict_on, verdict_on_attempts}
use Rattle.clif_meaning.specs.Name.{Name}
use Rattle.clif_meaning.specs.Request.{Attempt, Request, Script}
use Rattle.clif_renaming.specs.Sealing.{is_sealing, name_left, renamed_request, without_seals}

abbrev pub requests_of : List Attempt → Script
requests_of attempts = map (λ attempt. attempt.request) attempts

-- the calls that don't seal
abbrev pub attempts_left : List Attempt → List Attempt
attempts_left attempts = filter (λ attempt. not (is_sealing attempt.request)) attempts

-- a call with its names renamed
abbrev pub renamed_attempt : (Name → Name) → Attempt → Attempt
renamed_attempt rename attempt = record { request = renamed_request rename attempt.request; is_tried = attempt.is_tried }

-- the calls without those that seal, each answer named by its call's place among them
abbrev pub unsealed_attempts : List Attempt → List Attempt
unsealed_attempts attempts = map (renamed_attempt (name_left (requests_of attempts))) (attempts_left attempts)

abbrev pub AttemptsDifferInSealing : List Attempt → List Attempt → Type 0
AttemptsDifferInSealing left right = unsealed_attempts left ≡ unsealed_attempts right

-- how many calls before this place don't seal
abbrev pub count_left : Script → ℕ → ℕ
count_left script place = length (without_seals (take place script))

-- the verdict with its place counted anew
abbrev pub counted_by : (ℕ → ℕ) → Verdict → Verdict
counted_by count Accepted = Accepted
counted_by count (Misuse place) = Misuse (count place)
counted_by count (Refused place) = Refused (count place)

-- The verdict, its place counted without the calls that seal. The place of `finalize` is behind the others.
abbrev pub verdict_left : List Attempt → Verdict
verdict_left attempts = counted_by (count_left (requests_of attempts)) (verdict_on_attempts attempts)

abbrev pub script_verdict_left : Script → Verdict
script_verdict_left script = counted_by (count_left script) (verdict_on script)

-- the place at which calls are stopped
abbrev pub stopped_at : Verdict → Option ℕ
stopped_at Accepted = None
stopped_at (Misuse place) = Some place
stopped_at (Refused place) = Some place

-- there is a call, and it seals
abbrev pub seals : Option Request → Bool
seals None = false
seals (Some request) = is_sealing request
