-- From block to block of the walk: where it starts, how it enters a block and leaves it.
use Rattle.std.proofs.Common.{◌≡◌, ◌⊎◌, ◌<◌, ◌≤◌, ◌∙◌, inl, inr, ℕ, suc, true, Bool, List, [], ◌∷◌, ◌++◌, length, map as each, drop, Option, None, Some, refl, sym, ap, subst, arith}
use Rattle.std.specs.Prelude.{Contains, slice_get}
use Rattle.std.specs.FinMap as map
use Rattle.std.specs.FinMap.{get-empty}
use Rattle.std.specs.Ordering.{nat_cmp}
use Rattle.std.proofs.Math.Seq.{drop-length}
use Rattle.std.proofs.lemmas.List.Elements.{Contains-append_left, Contains-push, Contains-push_cases}
use Rattle.std.proofs.lemmas.Option.{slice_get_within}
use Rattle.clif_types.specs.StackSlot.{StackSlotShape}
use Rattle.clif_meaning.specs.FunctionView.{FunctionView, Placed}
use Rattle.clif_stack_slots.specs.Slots.{slot_for}
use Rattle.clif_stack_slots.specs.declared.size.SlotSize.{SlotSize}
use Rattle.clif_meaning.specs.Path.{Place}
use Rattle.clif_meaning.specs.WellPlaced.{WellPlaced}
use Rattle.clif_spilling_laws.specs.Live.{IsLiveBefore, place_at}
use Rattle.clif_spilling_laws.proofs.Basics.Lists.{contains_none}
use Rattle.clif_spiller.specs.Allocating.{KeepsApart, AreNeeded, Gives, IsAllocated, IsAllocatedUpTo, IsAssigned, IsClosed, IsHandled, IsKeptOpen, IsLiveBeside, IsWalk, Meet, SlotState, after_acts, count_of, every, no_slots}
use Rattle.clif_spiller.proofs.Allocating.Covering.{none_live}
use Rattle.clif_spiller.proofs.Allocating.Holding.{give_count, gives_held, held_by}
use Rattle.clif_spiller.proofs.Allocating.Lists.{once_distinct}
use Rattle.clif_spiller.proofs.Allocating.Orders.{not_done}
use Rattle.clif_spiller.proofs.Allocating.Sharing.{apart_closed, apart_met, gives_apart}
use Rattle.clif_spiller.proofs.Allocating.Sized.{gives_slots}
use Rattle.clif_spiller.proofs.Allocating.States.{still_assigned}

-- STARTING --------------------------------------------------------------------------------------------------------------

module _ (function : FunctionView) (is_spilled : ℕ → Bool) (order : List ℕ) (slots : List StackSlotShape) where
  none_has : (v slot : ℕ) → map.get (no_slots slots).assigned v ≡ Some slot → ⊥
  none_has v slot has = let no : ◌≡◌ {A = Option ℕ} None (Some slot) = sym (get-empty {X = ℕ} nat_cmp v) ∙ has in cc

  none_handled : (block : ℕ) (p : Place ℕ) → IsHandled function [] block (length (function.blocks block).items) p → ⊥
  none_handled block p handled =
      elim handled.1 [
        | inl member ↦ contains_none p.block member
        | inr same ↦
            let inside : p.index < length (function.blocks block).items = subst (λ b. p.index < length (function.blocks b).items) same.0 handled.0 in
            let beyond = same.1 in
            omega (arith, inside, beyond)
      ]

  none_beyond : (slot : ℕ) (shape : StackSlotShape) → length slots ≤ slot → slice_get slots slot ≡ Some shape → ⊥
  none_beyond slot shape beyond there = let below = slice_get_within slots slot shape there in omega (arith, below, beyond)

  none_counted : (size : SlotSize) → count_of size (drop (length slots) slots) ≡ 0
  none_counted size = ap (count_of size) (drop-length slots)

  -- before the walk no value has a slot
  pub starts : IsAllocatedUpTo function is_spilled order (length slots) [] (no_slots slots)
  starts block = record {
    slots = record {
      inside = omega arith;
      spilled = λ v slot has. absurd (none_has v slot has);
      given = λ v slot has. absurd (none_has v slot has);
      free = λ size slot member. absurd (contains_none slot member);
      made = λ slot shape beyond there. absurd (none_beyond slot shape beyond there);
    };
    covers = λ p v handled spilled live. absurd (none_handled block p handled);
    apart = λ well. record {
      once = λ size. tt;
      freed = λ size slot v member has. absurd (contains_none slot member);
      one_open = λ v w slot has also differ. absurd (none_has v slot has);
      met = λ v w meets. absurd (none_handled block meets.2 meets.3);
      apart = λ v w slot has also meets. absurd (none_has v slot has);
    };
    held = λ size slot has. absurd (none_beyond slot (slot_for size) has.beyond has.there);
    needed = λ size. inl (none_counted size);
  }

-- IN A BLOCK ------------------------------------------------------------------------------------------------------------

-- what is spilled and live at the front of a block has a slot once the walk comes there
pub covers_front : (function : FunctionView) (is_spilled : ℕ → Bool) (order : List ℕ) (base : ℕ) (done : List ℕ) (block : ℕ) (st : SlotState)
    → IsAllocated function is_spilled order base done block 0 st → (v : ℕ) → is_spilled v ≡ true → IsLiveBefore every function (place_at block 0) v → IsAssigned st v
covers_front function is_spilled order base done block st kept v spilled live = by (function.blocks block).items refl
  where
    by : (items : List Placed) → (function.blocks block).items ≡ items → IsAssigned st v
    by [] none = absurd (none_live function block v none live)
    by (placed ∷ items) is =
        let long : length (function.blocks block).items ≡ suc (length items) = ap length is in
        kept.covers (place_at block 0) v (omega (arith, long), inr (refl, omega arith)) spilled (inl live)

-- LEAVING ---------------------------------------------------------------------------------------------------------------

module _ (function : FunctionView) (count : ℕ) (is_spilled : ℕ → Bool) (order done : List ℕ) (block : ℕ) (rest : List ℕ)
    (walk : IsWalk function count is_spilled order) (split : order ≡ done ++ block ∷ rest) (base : ℕ) (st : SlotState)
    (was : IsAllocated function is_spilled order base done block 0 st) where
  abbrev parameters : List ℕ
  parameters = (function.blocks block).parameters

  abbrev new_st : SlotState
  new_st = after_acts function.value_type (each Gives parameters) st

  abbrev more : List ℕ
  more = done ++ block ∷ []

  module _ (next : ℕ) where
    abbrev from : ℕ
    from = length (function.blocks next).items

    -- the same places are handled
    handled_before : (q : Place ℕ) → IsHandled function more next from q → IsHandled function done block 0 q
    handled_before q handled = (handled.0, by handled.1)
      where
        by : Contains more q.block ⊎ ((q.block ≡ next) × (from ≤ q.index)) → Contains done q.block ⊎ ((q.block ≡ block) × (0 ≤ q.index))
        by (inl member) = elim (Contains-push_cases done block q.block member) [ inl old ↦ inl old | inr same ↦ inr (sym same, omega arith) ]
        by (inr same) =
            let inside : q.index < from = subst (λ b. q.index < length (function.blocks b).items) same.0 handled.0 in
            let beyond = same.1 in
            absurd (omega (arith, inside, beyond))

    handled_then : (q : Place ℕ) → IsHandled function done block 0 q → IsHandled function more next from q
    handled_then q handled = (
      handled.0,
      elim handled.1 [
        | inl member ↦ inl (Contains-append_left done (block ∷ []) q.block member)
        | inr same ↦ inl (subst (λ b. Contains more b) (sym same.0) (Contains-push done block))
      ],
    )

    covers : (q : Place ℕ) (v : ℕ) → IsHandled function more next from q → is_spilled v ≡ true → IsLiveBeside function q v → IsAssigned new_st v
    covers q v handled spilled live = still_assigned function.value_type (each Gives parameters) st v (was.covers q v (handled_before q handled) spilled live)

    not_yet : (v : ℕ) → Contains parameters v → IsClosed function done block 0 v → ⊥
    not_yet v h (inl result) = walk.gives_once.apart block result.0 v h result.2
    not_yet v h (inr parameter) =
        not_done order done block rest split walk.ordered.once
        (subst (λ b. Contains done b) (walk.gives_once.one_block parameter.0 block v parameter.2 h) parameter.1)

    closed_then : (v : ℕ) → IsClosed function done block 0 v ⊎ Contains parameters v → IsClosed function more next from v
    closed_then v (inl (inl result)) = inl (result.0, handled_then result.0 result.1, result.2)
    closed_then v (inl (inr parameter)) = inr (parameter.0, Contains-append_left done (block ∷ []) parameter.0 parameter.1, parameter.2)
    closed_then v (inr given) = inr (block, Contains-push done block, given)

    meets_before : (v w : ℕ) → Meet function is_spilled more next from v w → Meet function is_spilled done block 0 v w
    meets_before v w meets = (meets.0, meets.1, meets.2, handled_before meets.2 meets.3, meets.4)

    apart : WellPlaced function → KeepsApart (IsClosed function more next from) (Meet function is_spilled more next from) new_st
    apart well =
        let kept : KeepsApart (λ v. IsClosed function done block 0 v ⊎ Contains parameters v) (Meet function is_spilled done block 0) new_st =
        gives_apart is_spilled function.value_type base (Meet function is_spilled done block 0) (IsClosed function done block 0) parameters st
        (once_distinct parameters (walk.parameters_once block)) not_yet (was.apart well) in
        apart_closed (λ v. IsClosed function done block 0 v ⊎ Contains parameters v) (IsClosed function more next from) (Meet function is_spilled more next from) new_st closed_then
        (apart_met (λ v. IsClosed function done block 0 v ⊎ Contains parameters v) (Meet function is_spilled done block 0) (Meet function is_spilled more next from) new_st
        (λ v w meets. kept.met v w (meets_before v w meets)) (λ v w slot has also meets. kept.apart v w slot has also (meets_before v w meets)) kept)

    open_then : (v : ℕ) → IsKeptOpen function order done block 0 v × (Contains parameters v → ⊥) → IsKeptOpen function order more next from v
    open_then v held = record {
      since = held.0.since;
      handled = handled_then held.0.since held.0.handled;
      live = held.0.live;
      no_result = λ q handled after given. held.0.no_result q (handled_before q handled) after given;
      no_parameter = λ b member after parameter.
          elim (Contains-push_cases done block b member) [
            | inl old ↦ held.0.no_parameter b old after parameter
            | inr same ↦ held.1 (subst (λ c. Contains (function.blocks c).parameters v) (sym same) parameter)
          ];
    }

    pub left : IsAllocated function is_spilled order base more next from new_st
    left = record {
      slots = gives_slots is_spilled function.value_type base parameters st was.slots;
      covers = covers;
      apart = apart;
      held = held_by function.value_type base (λ v. IsKeptOpen function order done block 0 v × (Contains parameters v → ⊥)) (IsKeptOpen function order more next from) new_st
          open_then (gives_held function.value_type base (IsKeptOpen function order done block 0) parameters st was.held);
      needed = λ size. subst (λ slots. AreNeeded function is_spilled order size (count_of size (drop base slots))) (sym (give_count function.value_type base parameters st)) (was.needed size);
    }

  -- once the parameters are given the block is done
  pub leaves : IsAllocatedUpTo function is_spilled order base (done ++ block ∷ []) (after_acts function.value_type (each Gives (function.blocks block).parameters) st)
  leaves = left
