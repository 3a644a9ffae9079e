-- In a well placed function in which each value is given once, what is live across a call that is reached is live right after it is
-- given: after the instruction whose result it is, or before the first instruction of the block whose parameter it is.
use Rattle.std.proofs.Common.{◌≡◌, ◌⊎◌, inl, inr, ℕ, zero, suc, Bool, List, [], ◌∷◌, refl, subst}
use Rattle.std.specs.Prelude.{Contains}
use Rattle.clif_meaning.specs.FunctionView.{FunctionView}
use Rattle.clif_meaning.specs.Path.{Place, IsPath}
use Rattle.clif_meaning.specs.WellPlaced.{IsGivenAlong, WellPlaced, function_code, function_flow, given_on_entry, placed_at, placed_gives}
use Rattle.clif_safepoints.specs.Liveness.{IsLiveAcross, IsUsedAhead}
use Rattle.clif_spilling_laws.specs.GivesOnce.{GivesOnce}
use Rattle.clif_spilling_laws.specs.Live.{IsLiveAcrossCall, IsLiveAfter, IsLiveBefore, counted, place_at}
use Rattle.clif_spilling_laws.proofs.Basics.Lists.{contains_none, member_or_not}
use Rattle.clif_spilling_laws.proofs.Liveness.LivePaths.{used_is_given}

module _ (counts : ℕ → ℕ → Bool) (function : FunctionView) (well : WellPlaced function) (count : ℕ) (once : GivesOnce function count) (v : ℕ) where
  abbrev Given : List (Place ℕ) → Type 0
  Given path = IsGivenAlong (function_code function) v path

  abbrev IsEntered : Place ℕ → Type 0
  IsEntered p = Contains (given_on_entry (function_code function) p.block p.index) v

  abbrev IsResult : Place ℕ → Type 0
  IsResult p = Contains (placed_gives (placed_at function p)) v

  abbrev IsParameter : ℕ → Type 0
  IsParameter b = Contains (function.blocks b).parameters v

  -- what is given as a place is come to is a parameter of its block
  entered_parameter : (b k : ℕ) → Contains (given_on_entry (function_code function) b k) v → (k ≡ 0) × IsParameter b
  entered_parameter b zero h = (refl, h)
  entered_parameter b (suc k) h = absurd (contains_none v h)

  is_entered : (p : Place ℕ) → IsEntered p → IsParameter p.block
  is_entered p h = let at = entered_parameter p.block p.index h in at.1

  -- from before a place back to after the one before it
  used_before : (x c : Place ℕ) (path : List (Place ℕ)) → IsPath (function_flow function) (c ∷ x ∷ path) → (IsEntered c → ⊥) → IsLiveBefore counts function c v
      → (ahead : List (Place ℕ)) × IsUsedAhead (counted counts) function v x ahead
  used_before x c path walk none (inl used) = (c ∷ [], (walk.0, none, inl used))
  used_before x c path walk none (inr across) = (c ∷ across.1, (walk.0, none, inr (across.0, across.2)))

  -- PARAMETERS ----------------------------------------------------------------------------------------------------------

  module _ (b : ℕ) (is : IsParameter b) where
    no_result : (p : Place ℕ) → IsResult p → ⊥
    no_result p h = once.apart b p v is h

    abbrev IsLiveAtFront : Type 0
    IsLiveAtFront = IsLiveBefore counts function (place_at b 0) v

    arrived : (c : Place ℕ) → IsEntered c → IsLiveBefore counts function c v → IsLiveAtFront
    arrived c here live =
        let at = entered_parameter c.block c.index here in
        let block : c.block ≡ b = once.one_block c.block b v at.1 is in
        let same : c ≡ place_at b 0 = λ i. record { block = block i; index = at.0 i } in
        subst (λ (p : Place ℕ). IsLiveBefore counts function p v) same live

    earlier : (x : Place ℕ) (path : List (Place ℕ)) → Given (x ∷ path) → IsEntered x ⊎ Given path
    earlier x path (inl result) = absurd (no_result x result)
    earlier x path (inr before) = before

    back_to_front : (c : Place ℕ) (path : List (Place ℕ)) → IsPath (function_flow function) (c ∷ path) → IsLiveBefore counts function c v
        → IsEntered c ⊎ Given path → IsLiveAtFront
    back_to_front c [] walk live given = by given
      where
        by : IsEntered c ⊎ Given [] → IsLiveAtFront
        by (inl here) = arrived c here live
        by (inr none) = absurd none
    back_to_front c (x ∷ path) walk live given = by (member_or_not v (given_on_entry (function_code function) c.block c.index)) (back_to_front x path walk.1)
      where
        before : (IsEntered c → ⊥) → IsEntered c ⊎ Given (x ∷ path) → Given (x ∷ path)
        before none (inl here) = absurd (none here)
        before none (inr more) = more

        by : IsEntered c ⊎ (IsEntered c → ⊥) → (IsLiveBefore counts function x v → IsEntered x ⊎ Given path → IsLiveAtFront) → IsLiveAtFront
        by (inl here) back = arrived c here live
        by (inr none) back =
            let ahead = used_before x c path walk none live in
            back (inr (no_result x, ahead.0, ahead.1)) (earlier x path (before none given))

    pub parameter_is_live : (members : ℕ → Bool) → IsLiveAcrossCall counts members function v → IsLiveAtFront
    parameter_is_live members spilled =
        back_to_front spilled.place spilled.reachable.0 spilled.reachable.1 (inr spilled.live)
        (earlier spilled.place spilled.reachable.0
        (used_is_given counts function well v spilled.place spilled.reachable.0 spilled.live.1 spilled.reachable.1 spilled.live.2))

  -- RESULTS -------------------------------------------------------------------------------------------------------------

  module _ (p : Place ℕ) (is : IsResult p) where
    no_parameter : (b : ℕ) → IsParameter b → ⊥
    no_parameter b h = once.apart b p v h is

    not_entered : (c : Place ℕ) → IsEntered c → ⊥
    not_entered c h = no_parameter c.block (is_entered c h)

    sooner : (x : Place ℕ) (path : List (Place ℕ)) → (IsResult x → ⊥) → Given (x ∷ path) → Given path
    sooner x path none (inl result) = absurd (none result)
    sooner x path none (inr more) = by more
      where
        by : IsEntered x ⊎ Given path → Given path
        by (inl here) = absurd (not_entered x here)
        by (inr before) = before

    back_to_result : (c : Place ℕ) (path : List (Place ℕ)) → IsPath (function_flow function) (c ∷ path) → IsLiveAcross (counted counts) function c v
        → Given path → IsLiveAfter counts function p v
    back_to_result c [] walk across given = absurd given
    back_to_result c (x ∷ path) walk across given = by (member_or_not v (placed_gives (placed_at function x))) (back_to_result x path walk.1)
      where
        ahead : (ahead : List (Place ℕ)) × IsUsedAhead (counted counts) function v x ahead
        ahead = used_before x c path walk (not_entered c) (inr across)

        by : IsResult x ⊎ (IsResult x → ⊥) → (IsLiveAcross (counted counts) function x v → Given path → IsLiveAfter counts function p v) → IsLiveAfter counts function p v
        by (inl here) back = subst (λ (q : Place ℕ). IsLiveAfter counts function q v) (once.one_place x p v here is) ahead
        by (inr none) back = back (none, ahead.0, ahead.1) (sooner x path none given)

    pub result_is_live : (members : ℕ → Bool) → IsLiveAcrossCall counts members function v → IsLiveAfter counts function p v
    result_is_live members spilled =
        back_to_result spilled.place spilled.reachable.0 spilled.reachable.1 spilled.live
        (sooner spilled.place spilled.reachable.0 spilled.live.0
        (used_is_given counts function well v spilled.place spilled.reachable.0 spilled.live.1 spilled.reachable.1 spilled.live.2))
