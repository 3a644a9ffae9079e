-- Each slot that is given has the size of its value's type, and is none that the function had before.
use Rattle.std.proofs.Common.{◌≡◌, ◌⊎◌, ◌∙◌, inl, inr, ℕ, true, List, [], ◌∷◌, ◌++◌, length, map as each, Bool, Some, refl, sym, ap, subst, arith, length-append}
use Rattle.std.specs.Prelude.{Contains}
use Rattle.std.specs.FinMap as map
use Rattle.clif_types.specs.StackSlot.{StackSlotShape}
use Rattle.clif_types.specs.declared.types.«Type».{«Type»}
use Rattle.clif_stack_slots.specs.Sizes.{bytes_in, size_of_type}
use Rattle.clif_stack_slots.specs.Slots.{slot_for}
use Rattle.clif_stack_slots.specs.declared.size.SlotSize.{SlotSize}
use Rattle.clif_stack_slots.specs.declared.size.SlotSize.TheVariants as size
use Rattle.clif_stack_slots.proofs.Free.{same_size}
use Rattle.clif_spilling_laws.proofs.Basics.Lists.{contains_cases, contains_first, contains_more, some_same}
use Rattle.clif_spiller.specs.Allocating.{AreSlots, Gives, HasSize, IsSlotFor, Needs, SlotState, after_act, after_acts, take_slot, with_free}
use Rattle.clif_spiller.proofs.Allocating.Lists.{free_cases, get_front, get_last, get_pushed, inserted}
use Rattle.clif_spiller.proofs.Allocating.States.{after_give, after_need}

-- SIZES -----------------------------------------------------------------------------------------------------------------

-- two sizes of so many bytes are one
pub same_bytes : (a b : SlotSize) → bytes_in a ≡ bytes_in b → a ≡ b
same_bytes size.Size8 size.Size8 same = refl
same_bytes size.Size16 size.Size16 same = refl
same_bytes size.Size32 size.Size32 same = refl
same_bytes size.Size64 size.Size64 same = refl
same_bytes size.Size128 size.Size128 same = refl
same_bytes size.Size8 _ same = absurd (omega (arith, same))
same_bytes size.Size16 _ same = absurd (omega (arith, same))
same_bytes size.Size32 _ same = absurd (omega (arith, same))
same_bytes size.Size64 _ same = absurd (omega (arith, same))
same_bytes size.Size128 _ same = absurd (omega (arith, same))

pub same_slot : (a b : SlotSize) → slot_for a ≡ slot_for b → a ≡ b
same_slot a b same = same_size a b (ap (λ (shape : StackSlotShape). shape.align_shift) same)

-- a slot has one size
pub one_size : (base : ℕ) (slots : List StackSlotShape) (slot : ℕ) (a b : SlotSize) → HasSize base slots slot a → HasSize base slots slot b → a ≡ b
one_size base slots slot a b here there = same_slot a b (some_same _ _ (sym here.there ∙ there.there))

size_stays : (base : ℕ) (slots more : List StackSlotShape) (slot : ℕ) (size : SlotSize) → HasSize base slots slot size → HasSize base (slots ++ more) slot size
size_stays base slots more slot size has = record { beyond = has.beyond; there = get_front slots more slot (slot_for size) has.there }

-- ACTS ------------------------------------------------------------------------------------------------------------------

module _ (is_spilled : ℕ → Bool) (ty : ℕ → «Type») (base : ℕ) where
  stays : (slots more : List StackSlotShape) (slot v : ℕ) → IsSlotFor ty base slots slot v → IsSlotFor ty base (slots ++ more) slot v
  stays slots more slot v is = record { size = is.size; size_is = is.size_is; has_size = size_stays base slots more slot is.size is.has_size }

  -- the value that is inserted has the slot, and others have theirs
  module _ (value : ℕ) (st : SlotState) (is : is_spilled value ≡ true) (known : AreSlots is_spilled ty base st) where
    spilled_then : (new v slot : ℕ) → map.get (map.insert st.assigned value new) v ≡ Some slot → is_spilled v ≡ true
    spilled_then new v slot has =
        elim (inserted st.assigned value new v slot has) [
          | inl this ↦ subst (λ w. is_spilled w ≡ true) (sym this.0) is
          | inr other ↦ known.spilled v slot other.1
        ]

    given_then : (new : ℕ) (more : List StackSlotShape) → IsSlotFor ty base (st.slots ++ more) new value
        → (v slot : ℕ) → map.get (map.insert st.assigned value new) v ≡ Some slot → IsSlotFor ty base (st.slots ++ more) slot v
    given_then new more fits v slot has =
        elim (inserted st.assigned value new v slot has) [
          | inl this ↦
              subst (λ w. IsSlotFor ty base (st.slots ++ more) slot w) (sym this.0) (subst (λ s. IsSlotFor ty base (st.slots ++ more) s value) this.1 fits)
          | inr other ↦ stays st.slots more slot v (known.given v slot other.1)
        ]

    made : (size : SlotSize) → size_of_type (ty value) ≡ Some size → AreSlots is_spilled ty base (take_slot [] size value st)
    made size sized =
        let new : HasSize base (st.slots ++ slot_for size ∷ []) (length st.slots) size = record { beyond = known.inside; there = get_last st.slots (slot_for size) } in
        record {
          inside = let inside = known.inside in let long = length-append st.slots (slot_for size ∷ []) in omega (arith, inside, long);
          spilled = spilled_then (length st.slots);
          given = given_then (length st.slots) (slot_for size ∷ []) (record { size = size; size_is = sized; has_size = new });
          free = λ other slot member. size_stays base st.slots (slot_for size ∷ []) slot other (known.free other slot member);
          made = λ slot shape beyond there.
              elim (get_pushed st.slots (slot_for size) slot shape there) [
                | inl old ↦ known.made slot shape beyond old
                | inr last ↦ (size, sym last.1)
              ];
        }

    reused : (size : SlotSize) (new : ℕ) (rest : List ℕ) → size_of_type (ty value) ≡ Some size → st.free size ≡ new ∷ rest
        → AreSlots is_spilled ty base (take_slot (new ∷ rest) size value st)
    reused size new rest sized free =
        let was : (slot : ℕ) → Contains (new ∷ rest) slot → HasSize base st.slots slot size =
        λ slot member. known.free size slot (subst (λ xs. Contains xs slot) (sym free) member) in
        let here : IsSlotFor ty base st.slots new value = record { size = size; size_is = sized; has_size = was new (contains_first new rest) } in
        record {
          inside = known.inside;
          spilled = spilled_then new;
          given = λ v slot has.
              elim (inserted st.assigned value new v slot has) [
                | inl this ↦ subst (λ w. IsSlotFor ty base st.slots slot w) (sym this.0) (subst (λ s. IsSlotFor ty base st.slots s value) this.1 here)
                | inr other ↦ known.given v slot other.1
              ];
          free = λ other slot member.
              elim (free_cases size rest st.free other slot member) [
                | inl this ↦ subst (λ s. HasSize base st.slots slot s) (sym this.0) (was slot (contains_more new slot rest this.1))
                | inr apart ↦ known.free other slot apart.1
              ];
          made = known.made;
        }

    pub need_slots : AreSlots is_spilled ty base (after_act ty (Needs value) st)
    need_slots =
        after_need ty (AreSlots is_spilled ty base) value st known (λ size sized none free. made size sized) (λ size slot rest sized none free. reused size slot rest sized free)

  pub give_slots : (value : ℕ) (st : SlotState) → AreSlots is_spilled ty base st → AreSlots is_spilled ty base (after_act ty (Gives value) st)
  give_slots value st known =
      after_give ty (AreSlots is_spilled ty base) value st (λ none. known) freed
    where
      freed : (size : SlotSize) (slot : ℕ) → size_of_type (ty value) ≡ Some size → map.get st.assigned value ≡ Some slot
          → AreSlots is_spilled ty base (record st { free = with_free size (slot ∷ st.free size) st.free })
      freed size slot sized has =
          let given = known.given value slot has in
          let here : HasSize base st.slots slot size =
          subst (λ s. HasSize base st.slots slot s) (some_same _ _ (sym given.size_is ∙ sized)) given.has_size in
          let among : (other : ℕ) → (slot ≡ other) ⊎ Contains (st.free size) other → HasSize base st.slots other size =
          λ other which. elim which [ inl same ↦ subst (λ s. HasSize base st.slots s size) same here | inr old ↦ known.free size other old ] in
          record {
            inside = known.inside;
            spilled = known.spilled;
            given = known.given;
            free = λ other s member.
                elim (free_cases size (slot ∷ st.free size) st.free other s member) [
                  | inl this ↦ subst (λ z. HasSize base st.slots s z) (sym this.0) (among s (contains_cases slot s (st.free size) this.1))
                  | inr apart ↦ known.free other s apart.1
                ];
            made = known.made;
          }

  pub gives_slots : (values : List ℕ) (st : SlotState) → AreSlots is_spilled ty base st → AreSlots is_spilled ty base (after_acts ty (each Gives values) st)
  gives_slots [] st known = known
  gives_slots (value ∷ values) st known = gives_slots values (after_act ty (Gives value) st) (give_slots value st known)

  pub needs_slots : (values : List ℕ) (st : SlotState) → ((v : ℕ) → Contains values v → is_spilled v ≡ true) → AreSlots is_spilled ty base st
      → AreSlots is_spilled ty base (after_acts ty (each Needs values) st)
  needs_slots [] st spilled known = known
  needs_slots (value ∷ values) st spilled known =
      needs_slots values (after_act ty (Needs value) st) (λ v h. spilled v (contains_more value v values h)) (need_slots value st (spilled value (contains_first value values)) known)
