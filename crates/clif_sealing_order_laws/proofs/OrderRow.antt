-- Worked examples that aren't by computation alone.
use Rattle.std.proofs.Common.{◌≡◌, ℕ, Bool, false, List, [], ◌∷◌, map, ap, arith, true≢false, Option, Some, None}
use Rattle.std.specs.Prelude.{slice_get}
use Rattle.clif_meaning.specs.Instruction.{Operation, Switch}
use Rattle.clif_meaning.specs.Request.{Attempt, outright}
use Rattle.clif_expansion.specs.CallsVerdict.{CallAttempt, made}
use Rattle.clif_expansion.specs.ScriptCall.{Ask, Emit, ScriptCall}
use Rattle.clif_sealing_order_laws.specs.Attempts.{AttemptsDifferInSealing}
use Rattle.clif_sealing_order_laws.specs.CallAttempts.{CallAttemptsDifferInSealing}
use Rattle.clif_sealing_order_laws.specs.EmittingExamples.{sealed_late, sealed_soon}
use Rattle.clif_sealing_order_laws.specs.Examples.{missing_late, tried_early}

-- the first call is only tried
abbrev first_tried : List Attempt → Bool
first_tried [] = false
first_tried (attempt ∷ attempts) = attempt.is_tried

pub not_tried : AttemptsDifferInSealing tried_early (map outright missing_late) → ⊥
not_tried same = true≢false (ap first_tried same)

-- the first key of the switch that is emitted at this place
abbrev key_in : Operation → ℕ
key_in (Switch (key ∷ keys)) = key
key_in _ = 0

abbrev emitted_key : Option CallAttempt → ℕ
emitted_key None = 0
emitted_key (Some attempt) = of attempt.call
  where
    of : ScriptCall → ℕ
    of (Emit imports instruction) = key_in instruction.operation
    of (Ask request) = 0

pub other_key : CallAttemptsDifferInSealing (map made (sealed_soon (1 ∷ []))) (map made (sealed_late (2 ∷ []))) → ⊥
other_key same =
    let keys : 1 ≡ 2 = ap (λ (attempts : List CallAttempt). emitted_key (slice_get attempts 5)) same in
    absurd (omega (arith, keys))
