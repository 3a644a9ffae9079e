-- Worked examples of calls that emit: a switch whose blocks are sealed in orders that are allowed and in one that isn't, and switches
-- that are stopped whatever the order. Own.
use Rattle.std.specs.Prelude.{◌≡◌, ℕ, true, false, List, [], ◌∷◌, ◌++◌, pos, map}
use Rattle.clif_meaning.specs.Acceptance.{Accepted, Misuse, Refused, Verdict, iconst, return_}
use Rattle.clif_meaning.specs.BranchExamples.{block, plain}
use Rattle.clif_meaning.specs.Examples.{i32}
use Rattle.clif_meaning.specs.Name.{answer_of}
use Rattle.clif_meaning.specs.Request.{CreateBlock, SwitchToBlock, SealBlock, SealAllBlocks, Script}
use Rattle.clif_expansion.specs.CallsVerdict.{CallAttempt, made, verdict_on_calls}
use Rattle.clif_expansion.specs.ScriptCall.{Ask, Emit, ScriptCall}
use Rattle.clif_expansion.specs.Switching.{switching}
use Rattle.clif_sealing_order_laws.specs.CallAttempts.{CallAttemptsDifferInSealing, calls_verdict_left}
use Rattle.clif_sealing_order_laws.specs.CallOrder.{IsAllowedCallOrder, IsBlamelessCallOrder, is_allowed_call_order}

-- a switch by these keys of what the call at this place gives: each key goes to block1, and all else to block2
abbrev pub switch_of : (keys : List ℕ) (place : ℕ) → ScriptCall
switch_of keys place =
    Emit [] (switching keys i32 (answer_of place 1)
    (map (λ key. plain (block 1)) keys ++ plain (block 2) ∷ []))

-- three blocks, and the first one begun
abbrev pub begun : Script
begun = CreateBlock ∷ CreateBlock ∷ CreateBlock ∷ SwitchToBlock (block 0) ∷ []

-- what follows the switch: the other two blocks return
abbrev pub returning : Script
returning = SwitchToBlock (block 1) ∷ return_ [] ∷ SwitchToBlock (block 2) ∷ return_ [] ∷ []

-- a block that switches on a constant: each block is sealed as soon as may be,
abbrev pub sealed_soon : (keys : List ℕ) → List ScriptCall
sealed_soon keys =
    map Ask (begun ++ SealBlock (block 0) ∷ iconst i32 (pos 1) ∷ []) ++ switch_of keys 5
    ∷ map Ask (SealBlock (block 1) ∷ SealBlock (block 2) ∷ returning)

-- or all are sealed at the end,
abbrev pub sealed_late : (keys : List ℕ) → List ScriptCall
sealed_late keys =
    map Ask (begun ++ iconst i32 (pos 1) ∷ []) ++ switch_of keys 4
    ∷ map Ask (returning ++ SealAllBlocks ∷ [])

-- or block2 before the switch,
abbrev pub sealed_early : (keys : List ℕ) → List ScriptCall
sealed_early keys =
    map Ask (begun ++ iconst i32 (pos 1) ∷ SealBlock (block 2) ∷ []) ++ switch_of keys 4
    ∷ map Ask (returning ++ SealAllBlocks ∷ [])

-- or none is
abbrev pub never_sealed : (keys : List ℕ) → List ScriptCall
never_sealed keys =
    map Ask (begun ++ iconst i32 (pos 1) ∷ []) ++ switch_of keys 4 ∷ map Ask returning

-- a switch on what isn't there, which is only tried
abbrev pub missing_switch : List CallAttempt
missing_switch =
    map (λ request. made (Ask request)) begun
    ++ record { call = switch_of (1 ∷ []) 4; is_tried = true } ∷ []

-- lists of which no call is only tried
abbrev pub Differ : List ScriptCall → List ScriptCall → Type 0
Differ left right = CallAttemptsDifferInSealing (map made left) (map made right)

abbrev pub verdict_counted : List ScriptCall → Verdict
verdict_counted calls = calls_verdict_left (map made calls)

pub record EmittingOrderExamples : Type 0 where
  pub differ : Differ (sealed_soon (1 ∷ [])) (sealed_late (1 ∷ []))
  pub soon : IsAllowedCallOrder (sealed_soon (1 ∷ []))
  pub late : IsAllowedCallOrder (sealed_late (1 ∷ []))
  pub soon_accepted : verdict_on_calls (sealed_soon (1 ∷ [])) ≡ Accepted
  pub late_accepted : verdict_on_calls (sealed_late (1 ∷ [])) ≡ Accepted
  -- wrong: what the switch leads to is sealed before it
  pub early_differs : Differ (sealed_early (1 ∷ [])) (sealed_late (1 ∷ []))
  pub early : is_allowed_call_order (sealed_early (1 ∷ [])) ≡ false
  pub early_blamed : IsBlamelessCallOrder (sealed_early (1 ∷ [])) → ⊥
  pub early_stopped : verdict_on_calls (sealed_early (1 ∷ [])) ≡ Misuse 6
  -- wrong: the switch goes by another key
  pub other_key : Differ (sealed_soon (1 ∷ [])) (sealed_late (2 ∷ [])) → ⊥
  -- no block is sealed
  pub never : is_allowed_call_order (never_sealed (1 ∷ [])) ≡ false
  pub never_blamed : IsBlamelessCallOrder (never_sealed (1 ∷ [])) → ⊥
  -- a switch whose key is set twice is refused, the sixth call but for those that seal
  pub twice_soon : IsAllowedCallOrder (sealed_soon (1 ∷ 1 ∷ []))
  pub twice_refused : verdict_on_calls (sealed_soon (1 ∷ 1 ∷ [])) ≡ Refused 6
  pub twice_counted : verdict_counted (sealed_soon (1 ∷ 1 ∷ [])) ≡ Refused 5
  pub twice_counted_late : verdict_counted (sealed_late (1 ∷ 1 ∷ [])) ≡ Refused 5
  -- what would be sealed behind it doesn't matter
  pub twice_differs : Differ (sealed_soon (1 ∷ 1 ∷ [])) (never_sealed (1 ∷ 1 ∷ []))
  pub twice_never : is_allowed_call_order (never_sealed (1 ∷ 1 ∷ [])) ≡ false
  pub twice_blameless : IsBlamelessCallOrder (never_sealed (1 ∷ 1 ∷ []))
  pub twice_counted_never : verdict_counted (never_sealed (1 ∷ 1 ∷ [])) ≡ Refused 5
  -- a switch on what isn't there is a misuse, also where it is only tried
  pub missing_stopped : calls_verdict_left missing_switch ≡ Misuse 4
