-- The laws of sealing orders, as the contracts of this crate's functions state them. They speak of the ledger alone: memory, full
-- tables and a recorded context at `finalize` stay aside, as in verdicts. Source: own.
use Rattle.std.specs.Prelude.{◌≡◌, ◌↔◌, ℕ, false, List, Some, map, slice_get}
use Rattle.clif_meaning.specs.Acceptance.{Accepted, verdict_on, verdict_on_attempts}
use Rattle.clif_meaning.specs.Request.{Attempt, Script}
use Rattle.clif_expansion.specs.CallsVerdict.{CallAttempt, asking, calls_made, verdict_on_call_attempts}
use Rattle.clif_renaming.specs.CallsSealing.{CallsDifferInSealing}
use Rattle.clif_renaming.specs.Sealing.{DifferInSealing}
use Rattle.clif_sealing_order_laws.specs.Attempts.{AttemptsDifferInSealing, requests_of, script_verdict_left, seals, stopped_at, verdict_left}
use Rattle.clif_sealing_order_laws.specs.CallAttempts.{CallAttemptsDifferInSealing, calls_verdict_left, script_counted}
use Rattle.clif_sealing_order_laws.specs.CallOrder.{IsAllowedCallOrder, IsBlamelessCallOrder}
use Rattle.clif_sealing_order_laws.specs.Order.{IsAllowedOrder, IsBlamelessOrder}

-- The laws of lists of calls that may also emit.
pub record CallAttemptsAgree : Type 0 where
  -- The order of accepted calls is allowed.
  pub accepted_is_allowed : (attempts : List CallAttempt)
      → verdict_on_call_attempts attempts ≡ Accepted → IsAllowedCallOrder (calls_made attempts)
  -- Sealing isn't to blame where its order is allowed, and where it isn't no call that seals is stopped.
  pub allowed_is_blameless : (attempts : List CallAttempt)
      → IsAllowedCallOrder (calls_made attempts) → IsBlamelessCallOrder (calls_made attempts)
  pub no_seal_stopped : (attempts : List CallAttempt) (place : ℕ)
      → IsBlamelessCallOrder (calls_made attempts)
      → stopped_at (verdict_on_call_attempts attempts) ≡ Some place
      → seals (slice_get (script_counted attempts) place) ≡ false
  -- Calls that differ only in when blocks are sealed, both in an allowed order, are both accepted, or both stopped by the same kind
  -- of answer at the same call among those that don't seal, or at `finalize`.
  pub same_verdict : (left right : List CallAttempt) → CallAttemptsDifferInSealing left right
      → IsAllowedCallOrder (calls_made left) → IsAllowedCallOrder (calls_made right)
      → calls_verdict_left left ≡ calls_verdict_left right
  -- It is enough that sealing isn't to blame.
  pub same_if_blameless : (left right : List CallAttempt) → CallAttemptsDifferInSealing left right
      → IsBlamelessCallOrder (calls_made left) → IsBlamelessCallOrder (calls_made right)
      → calls_verdict_left left ≡ calls_verdict_left right
  -- So where one list of them is accepted, the other one is exactly if its order is allowed.
  pub accepted_alike : (left right : List CallAttempt) → CallAttemptsDifferInSealing left right
      → verdict_on_call_attempts left ≡ Accepted
      → (verdict_on_call_attempts right ≡ Accepted) ↔ IsAllowedCallOrder (calls_made right)
  -- Such lists make calls that differ only in when blocks are sealed.
  pub calls_differ : (left right : List CallAttempt) → CallAttemptsDifferInSealing left right
      → CallsDifferInSealing (calls_made left) (calls_made right)
  -- Without an emission all is as it is for the builder's own calls.
  pub asked_differ : (left right : List Attempt) → AttemptsDifferInSealing left right
      → CallAttemptsDifferInSealing (map asking left) (map asking right)
  pub asked_allowed : (attempts : List Attempt)
      → IsAllowedCallOrder (calls_made (map asking attempts)) ↔ IsAllowedOrder (requests_of attempts)
  pub asked_blameless : (attempts : List Attempt)
      → IsBlamelessCallOrder (calls_made (map asking attempts)) ↔ IsBlamelessOrder (requests_of attempts)
  pub asked_verdict : (attempts : List Attempt)
      → calls_verdict_left (map asking attempts) ≡ verdict_left attempts

pub record AttemptsAgree : Type 0 where
  -- The order of accepted calls is allowed.
  pub accepted_is_allowed : (attempts : List Attempt) → verdict_on_attempts attempts ≡ Accepted → IsAllowedOrder (requests_of attempts)
  -- Sealing isn't to blame where its order is allowed, and where it isn't no call that seals is stopped.
  pub allowed_is_blameless : (attempts : List Attempt) → IsAllowedOrder (requests_of attempts) → IsBlamelessOrder (requests_of attempts)
  pub no_seal_stopped : (attempts : List Attempt) (place : ℕ) → IsBlamelessOrder (requests_of attempts) → stopped_at (verdict_on_attempts attempts) ≡ Some place
      → seals (slice_get (requests_of attempts) place) ≡ false
  -- Calls that differ only in when blocks are sealed, both in an allowed order, are both accepted, or both stopped by the same kind
  -- of answer at the same call among those that don't seal, or at `finalize`.
  pub same_verdict : (left right : List Attempt) → AttemptsDifferInSealing left right → IsAllowedOrder (requests_of left) → IsAllowedOrder (requests_of right)
      → verdict_left left ≡ verdict_left right
  -- It is enough that sealing isn't to blame.
  pub same_if_blameless : (left right : List Attempt) → AttemptsDifferInSealing left right
      → IsBlamelessOrder (requests_of left) → IsBlamelessOrder (requests_of right) → verdict_left left ≡ verdict_left right
  -- So where one list of them is accepted, the other one is exactly if its order is allowed.
  pub accepted_alike : (left right : List Attempt) → AttemptsDifferInSealing left right → verdict_on_attempts left ≡ Accepted
      → (verdict_on_attempts right ≡ Accepted) ↔ IsAllowedOrder (requests_of right)

pub record AllowedOrdersAgree : Type 0 where
  pub accepted_is_allowed : (script : Script) → verdict_on script ≡ Accepted → IsAllowedOrder script
  pub allowed_is_blameless : (script : Script) → IsAllowedOrder script → IsBlamelessOrder script
  pub no_seal_stopped : (script : Script) (place : ℕ) → IsBlamelessOrder script → stopped_at (verdict_on script) ≡ Some place
      → seals (slice_get script place) ≡ false
  pub same_verdict : (left right : Script) → DifferInSealing left right → IsAllowedOrder left → IsAllowedOrder right
      → script_verdict_left left ≡ script_verdict_left right
  pub same_if_blameless : (left right : Script) → DifferInSealing left right → IsBlamelessOrder left → IsBlamelessOrder right
      → script_verdict_left left ≡ script_verdict_left right
  pub accepted_alike : (left right : Script) → DifferInSealing left right → verdict_on left ≡ Accepted
      → (verdict_on right ≡ Accepted) ↔ IsAllowedOrder right
