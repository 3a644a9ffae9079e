-- What an act does to slots, case by case; and that what has a slot keeps it.
use Rattle.std.proofs.Common.{◌≡◌, ◌⊎◌, ◌∙◌, inl, inr, ℕ, List, [], ◌∷◌, ◌++◌, map as each, Option, None, Some, refl, sym, ap, subst, append_assoc, append-nil}
use Rattle.std.specs.Prelude.{Contains}
use Rattle.std.specs.FinMap as map
use Rattle.clif_types.specs.StackSlot.{StackSlotShape}
use Rattle.clif_types.specs.declared.types.«Type».{«Type»}
use Rattle.clif_stack_slots.specs.Sizes.{size_of_type}
use Rattle.clif_stack_slots.specs.Slots.{slot_for}
use Rattle.clif_stack_slots.specs.declared.size.SlotSize.{SlotSize}
use Rattle.clif_spilling_laws.proofs.Basics.Lists.{contains_cases, contains_first, contains_more, contains_none}
use Rattle.clif_spiller.specs.Allocating.{Gives, IsAssigned, Needs, SlotAct, SlotState, after_act, after_acts, free_slot, need_slot, take_slot, with_free}
use Rattle.clif_spiller.proofs.Allocating.Lists.{has_inserted, still_has}

module _ (ty : ℕ → «Type») where
  -- CASES ---------------------------------------------------------------------------------------------------------------

  -- What is so of a state as it is, of one with a new slot for the value and of one with a free slot for it is so after the need.
  pub after_need : (P : SlotState → Type 0) (value : ℕ) (st : SlotState) → P st
      → ((size : SlotSize) → size_of_type (ty value) ≡ Some size → map.get st.assigned value ≡ None → st.free size ≡ [] → P (take_slot [] size value st))
      → ((size : SlotSize) (slot : ℕ) (rest : List ℕ) → size_of_type (ty value) ≡ Some size → map.get st.assigned value ≡ None
      → st.free size ≡ slot ∷ rest → P (take_slot (slot ∷ rest) size value st))
      → P (after_act ty (Needs value) st)
  after_need P value st same made reused = by (size_of_type (ty value)) refl (map.get st.assigned value) refl
    where
      take : (size : SlotSize) → size_of_type (ty value) ≡ Some size → map.get st.assigned value ≡ None
          → (free : List ℕ) → st.free size ≡ free → P (take_slot free size value st)
      take s sized none [] free = made s sized none free
      take s sized none (slot ∷ rest) free = reused s slot rest sized none free

      by : (s : Option SlotSize) → size_of_type (ty value) ≡ s → (found : Option ℕ) → map.get st.assigned value ≡ found → P (need_slot s found value st)
      by None sized found is = same
      by (Some s) sized (Some slot) is = same
      by (Some s) sized None is = take s sized is (st.free s) refl

  pub after_give : (P : SlotState → Type 0) (value : ℕ) (st : SlotState)
      → (((size : SlotSize) (slot : ℕ) → size_of_type (ty value) ≡ Some size → map.get st.assigned value ≡ Some slot → ⊥) → P st)
      → ((size : SlotSize) (slot : ℕ) → size_of_type (ty value) ≡ Some size → map.get st.assigned value ≡ Some slot
      → P (record st { free = with_free size (slot ∷ st.free size) st.free }))
      → P (after_act ty (Gives value) st)
  after_give P value st same freed = by (size_of_type (ty value)) refl (map.get st.assigned value) refl
    where
      by : (s : Option SlotSize) → size_of_type (ty value) ≡ s → (found : Option ℕ) → map.get st.assigned value ≡ found → P (free_slot s found st)
      by None sized found is = same (λ s slot none has. let no : None ≡ Some s = sym sized ∙ none in absurd cc)
      by (Some s) sized None is = same (λ other slot some has. let no : None ≡ Some slot = sym is ∙ has in absurd cc)
      by (Some s) sized (Some slot) is = freed s slot sized is

  -- a value without a slot frees none
  pub gives_none : (value : ℕ) (st : SlotState) → map.get st.assigned value ≡ None → after_act ty (Gives value) st ≡ st
  gives_none value st none = after_give (λ (new : SlotState). new ≡ st) value st (λ none. refl) (λ size slot sized is. let no : None ≡ Some slot = sym none ∙ is in absurd cc)

  -- a value that fits has a slot after the need
  pub need_assigns : (value : ℕ) (size : SlotSize) (st : SlotState) → size_of_type (ty value) ≡ Some size → IsAssigned (after_act ty (Needs value) st) value
  need_assigns value size st sized = by (size_of_type (ty value)) sized (map.get st.assigned value) refl
    where
      take : (free : List ℕ) → IsAssigned (take_slot free size value st) value
      take [] = (_, has_inserted st.assigned value _)
      take (slot ∷ rest) = (slot, has_inserted st.assigned value slot)

      by : (s : Option SlotSize) → s ≡ Some size → (found : Option ℕ) → map.get st.assigned value ≡ found → IsAssigned (need_slot s found value st) value
      by None is found has = absurd cc
      by (Some other) is (Some slot) has = (slot, has)
      by (Some other) is None has = subst (λ (s : SlotSize). IsAssigned (take_slot (st.free s) s value st) value) (let e : size ≡ other = cc in e) (take (st.free size))

  -- WHAT STAYS ----------------------------------------------------------------------------------------------------------

  pub act_keeps : (act : SlotAct) (st : SlotState) (v slot : ℕ) → map.get st.assigned v ≡ Some slot → map.get (after_act ty act st).assigned v ≡ Some slot
  act_keeps (Needs value) st v slot has =
      after_need (λ (new : SlotState). map.get new.assigned v ≡ Some slot) value st has
      (λ size sized none free. still_has st.assigned value _ v slot none has)
      (λ size other rest sized none free. still_has st.assigned value other v slot none has)
  act_keeps (Gives value) st v slot has = after_give (λ (new : SlotState). map.get new.assigned v ≡ Some slot) value st (λ none. has) (λ size other sized is. has)

  pub acts_keep : (acts : List SlotAct) (st : SlotState) (v slot : ℕ) → map.get st.assigned v ≡ Some slot → map.get (after_acts ty acts st).assigned v ≡ Some slot
  acts_keep [] st v slot has = has
  acts_keep (act ∷ acts) st v slot has = acts_keep acts (after_act ty act st) v slot (act_keeps act st v slot has)

  pub still_assigned : (acts : List SlotAct) (st : SlotState) (v : ℕ) → IsAssigned st v → IsAssigned (after_acts ty acts st) v
  still_assigned acts st v has = (has.0, acts_keep acts st v has.0 has.1)

  -- slots come to those that are there
  pub act_slots : (act : SlotAct) (st : SlotState) → (more : List StackSlotShape) × ((after_act ty act st).slots ≡ st.slots ++ more)
  act_slots (Needs value) st =
      after_need (λ (new : SlotState). (more : List StackSlotShape) × (new.slots ≡ st.slots ++ more)) value st ([], sym (append-nil st.slots))
      (λ size sized none free. (slot_for size ∷ [], refl)) (λ size slot rest sized none free. ([], sym (append-nil st.slots)))
  act_slots (Gives value) st =
      after_give (λ (new : SlotState). (more : List StackSlotShape) × (new.slots ≡ st.slots ++ more)) value st (λ none. ([], sym (append-nil st.slots)))
      (λ size slot sized is. ([], sym (append-nil st.slots)))

  pub acts_slots : (acts : List SlotAct) (st : SlotState) → (more : List StackSlotShape) × ((after_acts ty acts st).slots ≡ st.slots ++ more)
  acts_slots [] st = ([], sym (append-nil st.slots))
  acts_slots (act ∷ acts) st =
      let first = act_slots act st in
      let later = acts_slots acts (after_act ty act st) in
      (first.0 ++ later.0, later.1 ∙ ap (λ xs. xs ++ later.0) first.1 ∙ append_assoc st.slots first.0 later.0)

  -- acts one after another
  pub acts_append : (acts more : List SlotAct) (st : SlotState) → after_acts ty (acts ++ more) st ≡ after_acts ty more (after_acts ty acts st)
  acts_append [] more st = refl
  acts_append (act ∷ acts) more st = acts_append acts more (after_act ty act st)

  -- one more need, or one more value that is given, at the end
  pub needs_push : (values : List ℕ) (value : ℕ) (st : SlotState)
      → after_acts ty (each Needs (values ++ value ∷ [])) st ≡ after_act ty (Needs value) (after_acts ty (each Needs values) st)
  needs_push [] value st = refl
  needs_push (v ∷ values) value st = needs_push values value (after_act ty (Needs v) st)

  pub gives_push : (values : List ℕ) (value : ℕ) (st : SlotState)
      → after_acts ty (each Gives (values ++ value ∷ [])) st ≡ after_act ty (Gives value) (after_acts ty (each Gives values) st)
  gives_push [] value st = refl
  gives_push (v ∷ values) value st = gives_push values value (after_act ty (Gives v) st)

  -- all of these values that fit have slots after their needs
  pub needs_assign : (values : List ℕ) (st : SlotState) → ((v : ℕ) → Contains values v → (size : SlotSize) × (size_of_type (ty v) ≡ Some size))
      → (v : ℕ) → Contains values v → IsAssigned (after_acts ty (each Needs values) st) v
  needs_assign [] st sized v h = absurd (contains_none v h)
  needs_assign (value ∷ values) st sized v h = by (contains_cases value v values h) (needs_assign values (after_act ty (Needs value) st) (λ w inside. sized w (contains_more value w values inside)))
    where
      by : (value ≡ v) ⊎ Contains values v → ((w : ℕ) → Contains values w → IsAssigned (after_acts ty (each Needs values) (after_act ty (Needs value) st)) w)
          → IsAssigned (after_acts ty (each Needs values) (after_act ty (Needs value) st)) v
      by (inl same) later =
          let size = sized value (contains_first value values) in
          subst (λ (w : ℕ). IsAssigned (after_acts ty (each Needs values) (after_act ty (Needs value) st)) w) same
          (still_assigned (each Needs values) (after_act ty (Needs value) st) value (need_assigns value size.0 st size.1))
      by (inr more) later = later v more
