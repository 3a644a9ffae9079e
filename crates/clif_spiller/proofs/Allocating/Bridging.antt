-- What the code does to slots is what an act does to their state.
use Rattle.std.proofs.Common.{◌≡◌, ◌∙◌, inl, inr, ℕ, List, [], ◌∷◌, ◌++◌, length, reverse, Option, None, Some, Result, Ok, refl, sym, ap, subst}
use Rattle.std.proofs.lemmas.Grind.{reverse_onto}
use Rattle.std.specs.FinMap as map
use Rattle.clif_types.specs.declared.error.BuildError.{BuildError}
use Rattle.clif_types.specs.declared.types.«Type».{«Type»}
use Rattle.clif_ir.specs.Body.{Body}
use Rattle.clif_stack_slots.specs.Sizes.{size_of_type}
use Rattle.clif_stack_slots.specs.Slots.{FreesSlot, GivesSlot, HasNone, TakesSlot, assigned_in, free_in, slot_for}
use Rattle.clif_stack_slots.specs.declared.size.SlotSize.{SlotSize}
use Rattle.clif_stack_slots.specs.declared.slots.StackSlots.{StackSlots}
use Rattle.clif_spiller.specs.Allocating.{Gives, IsSlotState, Needs, SlotState, after_act, free_slot, need_slot, no_slots, take_slot}
use Rattle.clif_spiller.proofs.Allocating.Lists.{has_inserted, with_free_cases}

module _ (ty : ℕ → «Type») (value : ℕ) (size : SlotSize) (sized : size_of_type (ty value) ≡ Some size) where
  -- the acts, once the size and what was found are known
  need_is : (st : SlotState) (found : Option ℕ) → map.get st.assigned value ≡ found → after_act ty (Needs value) st ≡ need_slot (Some size) found value st
  need_is st found has =
      ap (λ s. need_slot s (map.get st.assigned value) value st) sized ∙ ap (λ f. need_slot (Some size) f value st) has

  give_is : (st : SlotState) (found : Option ℕ) → map.get st.assigned value ≡ found → after_act ty (Gives value) st ≡ free_slot (Some size) found st
  give_is st found has =
      ap (λ s. free_slot s (map.get st.assigned value) st) sized ∙ ap (λ f. free_slot (Some size) f st) has

  taken_is : (st : SlotState) (free : List ℕ) → st.free size ≡ free → map.get st.assigned value ≡ None
      → after_act ty (Needs value) st ≡ take_slot free size value st
  taken_is st free is none = need_is st None none ∙ ap (λ xs. take_slot xs size value st) is

  module _ (a b : StackSlots) (f g : Body) (st : SlotState) (was : IsSlotState f a st) where
    -- NEEDS -------------------------------------------------------------------------------------------------------------

    found_as : map.get (assigned_in a) value ≡ map.get st.assigned value
    found_as = ap (λ slots. map.get slots value) was.assigned

    -- the state is the act's, and the value has this slot then
    pub record IsNeeded (slot : ℕ) : Type 0 where
      pub state : IsSlotState g b (after_act ty (Needs value) st)
      pub has : map.get (after_act ty (Needs value) st).assigned value ≡ Some slot

    abbrev Becomes : ℕ → SlotState → Type 0
    Becomes slot new = IsSlotState g b new × (map.get new.assigned value ≡ Some slot)

    needed_as : (slot : ℕ) (new : SlotState) → after_act ty (Needs value) st ≡ new → Becomes slot new → IsNeeded slot
    needed_as slot new is becomes = record {
      state = subst (IsSlotState g b) (sym is) becomes.0;
      has = subst (λ (s : SlotState). map.get s.assigned value ≡ Some slot) (sym is) becomes.1;
    }

    module _ (slot : ℕ) (gives : GivesSlot value size a b f g (Ok slot)) where
      known : (old : ℕ) → map.get st.assigned value ≡ Some old → IsNeeded slot
      known old has =
          let told = gives.known old (found_as ∙ has) in
          let same : old ≡ slot = (let ok : ◌≡◌ {A = Result ℕ BuildError} (Ok slot) (Ok old) = told.0 in cc) in
          needed_as slot st (need_is st (Some old) has) (
            record {
              assigned = ap assigned_in told.1 ∙ was.assigned;
              free = λ other. ap (λ (s : StackSlots). free_in s other) told.1 ∙ was.free other;
              slots = ap (λ (body : Body). body.tables.stack_slots) told.2 ∙ was.slots;
            },
            has ∙ ap (λ (s : ℕ). Some s) same,
          )

      module _ (none : map.get st.assigned value ≡ None) where
        unknown : map.get (assigned_in a) value ≡ None
        unknown = found_as ∙ none

        taken : TakesSlot size (free_in a) (free_in b) f g (Ok slot)
        taken = gives.taken unknown (λ same. cc)

        put : assigned_in b ≡ map.insert st.assigned value slot
        put = gives.given unknown ∙ ap (λ slots. map.insert slots value slot) was.assigned

        made : st.free size ≡ [] → IsNeeded slot
        made empty =
            let told = taken.made (was.free size ∙ ap reverse empty) in
            let number : slot ≡ length st.slots = told.0.number ∙ ap length was.slots in
            needed_as slot (take_slot [] size value st) (taken_is st [] empty none) (
              record {
                assigned = put ∙ ap (λ (n : ℕ). map.insert st.assigned value n) number;
                free = λ other. told.1 other ∙ was.free other;
                slots = ap (λ (body : Body). body.tables.stack_slots) told.0.ok ∙ ap (λ slots. slots ++ slot_for size ∷ []) was.slots;
              },
              has_inserted st.assigned value (length st.slots) ∙ ap (λ (n : ℕ). Some n) (sym number),
            )

        reused : (last : ℕ) (rest : List ℕ) → st.free size ≡ last ∷ rest → IsNeeded slot
        reused last rest is =
            let told = taken.reused (reverse rest) last (was.free size ∙ ap reverse is ∙ reverse_onto rest last []) in
            let same : slot ≡ last = (let ok : ◌≡◌ {A = Result ℕ BuildError} (Ok slot) (Ok last) = told.0 in cc) in
            needed_as slot (take_slot (last ∷ rest) size value st) (taken_is st (last ∷ rest) is none) (
              record {
                assigned = put ∙ ap (λ (n : ℕ). map.insert st.assigned value n) same;
                free = λ other.
                    elim (with_free_cases size rest st.free other) [
                      | inl this ↦ ap (free_in b) this.0 ∙ told.1.this ∙ ap reverse (sym this.1)
                      | inr apart ↦ told.1.others other apart.0 ∙ was.free other ∙ ap reverse (sym apart.1)
                    ];
                slots = ap (λ (body : Body). body.tables.stack_slots) told.2 ∙ was.slots;
              },
              has_inserted st.assigned value last ∙ ap (λ (n : ℕ). Some n) (sym same),
            )

      pub needed : IsNeeded slot
      needed = by (map.get st.assigned value) refl
        where
          take : map.get st.assigned value ≡ None → (free : List ℕ) → st.free size ≡ free → IsNeeded slot
          take none [] is = made none is
          take none (last ∷ rest) is = reused none last rest is

          by : (found : Option ℕ) → map.get st.assigned value ≡ found → IsNeeded slot
          by (Some old) has = known old has
          by None has = take has (st.free size) refl

    -- GIVES -------------------------------------------------------------------------------------------------------------

    pub given : (slot : ℕ) → map.get st.assigned value ≡ Some slot → FreesSlot size slot a b (Ok tt) → IsSlotState f b (after_act ty (Gives value) st)
    given slot has frees =
        let changes = frees.ok in
        subst (IsSlotState f b) (sym (give_is st (Some slot) has)) (record {
          assigned = frees.assigned ∙ was.assigned;
          free = λ other.
              elim (with_free_cases size (slot ∷ st.free size) st.free other) [
                | inl this ↦ ap (free_in b) this.0 ∙ changes.this ∙ ap (λ xs. xs ++ slot ∷ []) (was.free size) ∙ sym (reverse_onto (st.free size) slot []) ∙ ap reverse (sym this.1)
                | inr apart ↦ changes.others other apart.0 ∙ was.free other ∙ ap reverse (sym apart.1)
              ];
          slots = was.slots;
        })

-- where nothing is known of slots no value has one
pub starts_state : (f : Body) (a : StackSlots) → HasNone a → IsSlotState f a (no_slots f.tables.stack_slots)
starts_state f a none = record { assigned = none.assigned; free = none.free; slots = refl }
