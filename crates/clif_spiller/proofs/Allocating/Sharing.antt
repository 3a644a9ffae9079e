-- No slot is shared: of values that have one slot at most one isn't closed yet, and no two of them meet.
use Rattle.std.proofs.Common.{◌≡◌, ◌⊎◌, ◌∙◌, inl, inr, ℕ, true, List, [], ◌∷◌, ◌++◌, length, map as each, Bool, None, Some, sym, ap, subst, arith}
use Rattle.std.specs.Prelude.{Contains, slice_get}
use Rattle.std.specs.FinMap as map
use Rattle.std.proofs.lemmas.Bool.{cases_eq}
use Rattle.std.proofs.lemmas.Option.{slice_get_within}
use Rattle.clif_types.specs.StackSlot.{StackSlotShape}
use Rattle.clif_types.specs.declared.types.«Type».{«Type»}
use Rattle.clif_stack_slots.specs.Slots.{slot_for}
use Rattle.clif_stack_slots.specs.declared.size.SlotSize.{SlotSize}
use Rattle.clif_spilling_laws.proofs.Basics.Lists.{contains_cases, contains_first, contains_more}
use Rattle.clif_spiller.specs.Allocating.{KeepsApart, AreSlots, Distinct, Gives, IsAssigned, Needs, SlotState, after_act, after_acts, take_slot, with_free}
use Rattle.clif_spiller.proofs.Allocating.Lists.{free_cases, inserted, still_has, with_free_cases}
use Rattle.clif_spiller.proofs.Allocating.Sized.{need_slots, one_size}
use Rattle.clif_spiller.proofs.Allocating.States.{after_give, after_need}

-- what is closed stays closed
pub apart_closed : (Closed More : ℕ → Type 0) (Meets : ℕ → ℕ → Type 0) (st : SlotState) → ((v : ℕ) → Closed v → More v) → KeepsApart Closed Meets st → KeepsApart More Meets st
apart_closed Closed More Meets st closing kept = record {
  once = kept.once;
  freed = λ size slot v member has. closing v (kept.freed size slot v member has);
  one_open = λ v w slot has other differ.
      elim (kept.one_open v w slot has other differ) [ inl first ↦ inl (closing v first) | inr second ↦ inr (closing w second) ];
  met = kept.met;
  apart = kept.apart;
}

-- and what meets may be told anew
pub apart_met : (Closed : ℕ → Type 0) (Meets More : ℕ → ℕ → Type 0) (st : SlotState) → ((v w : ℕ) → More v w → IsAssigned st v × IsAssigned st w)
    → ((v w slot : ℕ) → map.get st.assigned v ≡ Some slot → map.get st.assigned w ≡ Some slot → More v w → v ≡ w)
    → KeepsApart Closed Meets st → KeepsApart Closed More st
apart_met Closed Meets More st met apart kept = record {
  once = kept.once;
  freed = kept.freed;
  one_open = kept.one_open;
  met = met;
  apart = apart;
}

abbrev with_given : SlotState → (value new : ℕ) → (SlotSize → List ℕ) → List StackSlotShape → SlotState
with_given st value new free slots = record { assigned = map.insert st.assigned value new; free = free; slots = slots }

-- A value gets a slot of which all values are closed and that is free no more.
module _ (Closed : ℕ → Type 0) (Meets : ℕ → ℕ → Type 0) (value : ℕ) (st : SlotState) (none : map.get st.assigned value ≡ None) (kept : KeepsApart Closed Meets st)
    (new : ℕ) (free : SlotSize → List ℕ) (slots : List StackSlotShape)
    (once : (size : SlotSize) → Distinct (free size))
    (was_free : (size : SlotSize) (slot : ℕ) → Contains (free size) slot → Contains (st.free size) slot)
    (not_free : (size : SlotSize) → Contains (free size) new → ⊥)
    (closed : (v : ℕ) → map.get st.assigned v ≡ Some new → Closed v) where
  not_value : (v : ℕ) → IsAssigned st v → v ≡ value → ⊥
  not_value v has same =
      let here : map.get st.assigned value ≡ Some has.0 = ap (λ n. map.get st.assigned n) (sym same) ∙ has.1 in
      let no : None ≡ Some has.0 = sym none ∙ here in
      cc

  unmet : (v w : ℕ) → (v ≡ value) ⊎ (w ≡ value) → Meets v w → ⊥
  unmet v w which meets =
      let both = kept.met v w meets in
      elim which [ inl first ↦ not_value v both.0 first | inr second ↦ not_value w both.1 second ]

  put_apart : KeepsApart Closed Meets (with_given st value new free slots)
  put_apart = record {
    once = once;
    freed = λ size slot v member has.
        elim (inserted st.assigned value new v slot has) [
          | inl this ↦ absurd (not_free size (subst (λ s. Contains (free size) s) (sym this.1) member))
          | inr other ↦ kept.freed size slot v (was_free size slot member) other.1
        ];
    one_open = λ v w slot has also differ.
        elim (inserted st.assigned value new v slot has) [
          | inl this ↦
              elim (inserted st.assigned value new w slot also) [
                | inl that ↦ absurd (differ (this.0 ∙ sym that.0))
                | inr other ↦ inr (closed w (other.1 ∙ ap Some (sym this.1)))
              ]
          | inr this ↦
              elim (inserted st.assigned value new w slot also) [
                | inl that ↦ inl (closed v (this.1 ∙ ap Some (sym that.1)))
                | inr other ↦ kept.one_open v w slot this.1 other.1 differ
              ]
        ];
    met = λ v w meets.
        let both = kept.met v w meets in (
          (both.0.0, still_has st.assigned value new v both.0.0 none both.0.1),
          (both.1.0, still_has st.assigned value new w both.1.0 none both.1.1),
        );
    apart = λ v w slot has also meets.
        elim (inserted st.assigned value new v slot has) [
          | inl this ↦ absurd (unmet v w (inl this.0) meets)
          | inr this ↦
              elim (inserted st.assigned value new w slot also) [
                | inl that ↦ absurd (unmet v w (inr that.0) meets)
                | inr other ↦ kept.apart v w slot this.1 other.1 meets
              ]
        ];
  }

module _ (is_spilled : ℕ → Bool) (ty : ℕ → «Type») (base : ℕ) (Meets : ℕ → ℕ → Type 0) where
  -- NEEDS ---------------------------------------------------------------------------------------------------------------

  module _ (Closed : ℕ → Type 0) (value : ℕ) (st : SlotState) (known : AreSlots is_spilled ty base st) (kept : KeepsApart Closed Meets st) where
    none_beyond : (shape : StackSlotShape) → slice_get st.slots (length st.slots) ≡ Some shape → ⊥
    none_beyond shape there = let below = slice_get_within st.slots (length st.slots) shape there in omega (arith, below)

    made : (size : SlotSize) → map.get st.assigned value ≡ None → KeepsApart Closed Meets (take_slot [] size value st)
    made size none =
        put_apart Closed Meets value st none kept (length st.slots) st.free (st.slots ++ slot_for size ∷ []) kept.once (λ other slot member. member)
        (λ other member. none_beyond (slot_for other) (known.free other (length st.slots) member).there)
        (λ v has. let given = known.given v (length st.slots) has in absurd (none_beyond (slot_for given.size) given.has_size.there))

    module _ (size : SlotSize) (slot : ℕ) (rest : List ℕ) (none : map.get st.assigned value ≡ None) (free : st.free size ≡ slot ∷ rest) where
      distinct : Distinct (slot ∷ rest)
      distinct = subst Distinct free (kept.once size)

      was_free : (s : ℕ) → Contains (slot ∷ rest) s → Contains (st.free size) s
      was_free s member = subst (λ xs. Contains xs s) (sym free) member

      first : Contains (st.free size) slot
      first = was_free slot (contains_first slot rest)

      reused : KeepsApart Closed Meets (take_slot (slot ∷ rest) size value st)
      reused =
          put_apart Closed Meets value st none kept slot (with_free size rest st.free) st.slots
          (λ other. elim (with_free_cases size rest st.free other) [
            | inl this ↦ subst Distinct (sym this.1) distinct.1
            | inr apart ↦ subst Distinct (sym apart.1) (kept.once other)
          ])
          (λ other s member. elim (free_cases size rest st.free other s member) [
            | inl this ↦ subst (λ z. Contains (st.free z) s) (sym this.0) (was_free s (contains_more slot s rest this.1))
            | inr apart ↦ apart.1
          ])
          (λ other member. elim (free_cases size rest st.free other slot member) [
            | inl this ↦ distinct.0 this.1
            | inr apart ↦ apart.0 (one_size base st.slots slot other size (known.free other slot apart.1) (known.free size slot first))
          ])
          (λ v has. kept.freed size slot v first has)

    need_apart : KeepsApart Closed Meets (after_act ty (Needs value) st)
    need_apart =
        after_need ty (KeepsApart Closed Meets) value st kept (λ size sized none free. made size none) (λ size slot rest sized none free. reused size slot rest none free)

  pub needs_apart : (Closed : ℕ → Type 0) (values : List ℕ) (st : SlotState) → ((v : ℕ) → Contains values v → is_spilled v ≡ true) → AreSlots is_spilled ty base st
      → KeepsApart Closed Meets st → KeepsApart Closed Meets (after_acts ty (each Needs values) st)
  needs_apart Closed [] st spilled known kept = kept
  needs_apart Closed (value ∷ values) st spilled known kept =
      needs_apart Closed values (after_act ty (Needs value) st) (λ v h. spilled v (contains_more value v values h))
      (need_slots is_spilled ty base value st (spilled value (contains_first value values)) known) (need_apart Closed value st known kept)

  -- GIVES ---------------------------------------------------------------------------------------------------------------

  -- a value that isn't closed frees its slot, and is closed
  module _ (Closed : ℕ → Type 0) (value : ℕ) (st : SlotState) (still_open : Closed value → ⊥) (kept : KeepsApart Closed Meets st) where
    abbrev ClosedToo : ℕ → Type 0
    ClosedToo v = Closed v ⊎ (value ≡ v)

    module _ (size : SlotSize) (slot : ℕ) (has : map.get st.assigned value ≡ Some slot) where
      owner : (v : ℕ) → map.get st.assigned v ≡ Some slot → ClosedToo v
      owner v also =
          elim (cases_eq v value) [
            | inl same ↦ inr (sym same)
            | inr differ ↦ elim (kept.one_open v value slot also has differ) [ inl closed ↦ inl closed | inr closed ↦ absurd (still_open closed) ]
          ]

      among : (s v : ℕ) → map.get st.assigned v ≡ Some s → (slot ≡ s) ⊎ Contains (st.free size) s → ClosedToo v
      among s v also which =
          elim which [
            | inl same ↦ owner v (also ∙ ap Some (sym same))
            | inr old ↦ inl (kept.freed size s v old also)
          ]

      freed : KeepsApart ClosedToo Meets (record st { free = with_free size (slot ∷ st.free size) st.free })
      freed = record {
        once = λ other.
            elim (with_free_cases size (slot ∷ st.free size) st.free other) [
              | inl this ↦ subst Distinct (sym this.1) ((λ member. still_open (kept.freed size slot value member has)), kept.once size)
              | inr apart ↦ subst Distinct (sym apart.1) (kept.once other)
            ];
        freed = λ other s v member also.
            elim (free_cases size (slot ∷ st.free size) st.free other s member) [
              | inl this ↦ among s v also (contains_cases slot s (st.free size) this.1)
              | inr apart ↦ inl (kept.freed other s v apart.1 also)
            ];
        one_open = λ v w s one other differ.
            elim (kept.one_open v w s one other differ) [ inl closed ↦ inl (inl closed) | inr closed ↦ inr (inl closed) ];
        met = kept.met;
        apart = kept.apart;
      }

    give_apart : KeepsApart ClosedToo Meets (after_act ty (Gives value) st)
    give_apart =
        after_give ty (KeepsApart ClosedToo Meets) value st (λ none. apart_closed Closed ClosedToo Meets st (λ v closed. inl closed) kept)
        (λ size slot sized has. freed size slot has)

  pub gives_apart : (Closed : ℕ → Type 0) (values : List ℕ) (st : SlotState) → Distinct values → ((v : ℕ) → Contains values v → Closed v → ⊥)
      → KeepsApart Closed Meets st → KeepsApart (λ v. Closed v ⊎ Contains values v) Meets (after_acts ty (each Gives values) st)
  gives_apart Closed [] st once still_open kept = apart_closed Closed (λ v. Closed v ⊎ Contains [] v) Meets st (λ v closed. inl closed) kept
  gives_apart Closed (value ∷ values) st once still_open kept =
      apart_closed (λ v. (Closed v ⊎ (value ≡ v)) ⊎ Contains values v) (λ v. Closed v ⊎ Contains (value ∷ values) v) Meets
      (after_acts ty (each Gives values) (after_act ty (Gives value) st)) together
      (gives_apart (λ v. Closed v ⊎ (value ≡ v)) values (after_act ty (Gives value) st) once.1 open_later
      (give_apart Closed value st (still_open value (contains_first value values)) kept))
    where
      together : (v : ℕ) → (Closed v ⊎ (value ≡ v)) ⊎ Contains values v → Closed v ⊎ Contains (value ∷ values) v
      together v (inl (inl closed)) = inl closed
      together v (inl (inr same)) = inr (subst (λ w. Contains (value ∷ values) w) same (contains_first value values))
      together v (inr more) = inr (contains_more value v values more)

      open_later : (v : ℕ) → Contains values v → Closed v ⊎ (value ≡ v) → ⊥
      open_later v member (inl closed) = still_open v (contains_more value v values member) closed
      open_later v member (inr same) = once.0 (subst (λ w. Contains values w) (sym same) member)
