-- Few slots: each new slot is free or held by a value of its size, and a further one is made only where none of the size is free.
use Rattle.std.proofs.Common.{◌≡◌, ◌⊎◌, ◌≤◌, ◌+◌, ◌∙◌, inl, inr, ℕ, suc, true, false, List, [], ◌∷◌, ◌++◌, length, map as each, drop, Bool, None, Some, cond, refl, sym, ap, subst, arith, eqb-true, eq-eqb}
use Rattle.std.specs.Prelude.{Contains, slice_get, ◌==◌}
use Rattle.std.specs.FinMap as map
use Rattle.std.proofs.lemmas.Bool.{cases_eq}
use Rattle.std.proofs.lemmas.List.Sums.{sum_by-cons, sum_by_push}
use Rattle.clif_types.specs.StackSlot.{StackSlotShape}
use Rattle.clif_types.specs.declared.types.«Type».{«Type»}
use Rattle.clif_stack_slots.specs.Sizes.{bytes_in, size_of_type}
use Rattle.clif_stack_slots.specs.Slots.{slot_for}
use Rattle.clif_stack_slots.specs.declared.size.SlotSize.{SlotSize}
use Rattle.clif_spilling_laws.proofs.Basics.Lists.{contains_cases, contains_first, contains_more, contains_none, some_same}
use Rattle.clif_spiller.specs.Allocating.{AreHeld, AreSlots, Distinct, Gives, HasSize, IsHolder, Needs, SlotState, after_act, after_acts, count_of, take_slot, with_free}
use Rattle.clif_spiller.proofs.Allocating.Lists.{drop_pushed, get_dropped, get_pushed, has_inserted, in_free, size_cases, still_has}
use Rattle.clif_spiller.proofs.Allocating.Sized.{need_slots, same_bytes, same_slot}
use Rattle.clif_spiller.proofs.Allocating.States.{after_give, after_need}

-- COUNTING --------------------------------------------------------------------------------------------------------------

-- a slot of a size counts for it alone
pub count_same : (size : SlotSize) (slots : List StackSlotShape) → count_of size (slots ++ slot_for size ∷ []) ≡ suc (count_of size slots)
count_same size slots =
    let test : (bytes_in size == bytes_in size) ≡ true = eq-eqb _ _ refl in
    sum_by_push (λ (slot : StackSlotShape). cond (slot.size == bytes_in size) 1 0) slots (slot_for size)
    ∙ ap (λ b. count_of size slots + cond b 1 0) test ∙ (let one : count_of size slots + 1 ≡ suc (count_of size slots) = omega arith in one)

pub count_other : (size other : SlotSize) (slots : List StackSlotShape) → (other ≡ size → ⊥) → count_of other (slots ++ slot_for size ∷ []) ≡ count_of other slots
count_other size other slots apart =
    sum_by_push (λ (slot : StackSlotShape). cond (slot.size == bytes_in other) 1 0) slots (slot_for size)
    ∙ ap (λ b. count_of other slots + cond b 1 0) (by (bytes_in size == bytes_in other) refl) ∙ (let none : count_of other slots + 0 ≡ count_of other slots = omega arith in none)
  where
    by : (test : Bool) → (bytes_in size == bytes_in other) ≡ test → test ≡ false
    by true is = absurd (apart (sym (same_bytes size other (eqb-true _ _ is))))
    by false is = refl

-- HOLDING ---------------------------------------------------------------------------------------------------------------

module _ (ty : ℕ → «Type») (base : ℕ) where
  pub held_by : (Held More : ℕ → Type 0) (st : SlotState) → ((v : ℕ) → Held v → More v) → AreHeld ty base Held st → AreHeld ty base More st
  held_by Held More st holding kept size slot has =
      elim (kept size slot has) [
        | inl free ↦ inl free
        | inr held ↦ inr (held.0, record { has = held.1.has; size_is = held.1.size_is; held = holding held.0 held.1.held })
      ]

  module _ (Held : ℕ → Type 0) where
    module _ (value : ℕ) (st : SlotState) (held : Held value) (kept : AreHeld ty base Held st) (size : SlotSize) (sized : size_of_type (ty value) ≡ Some size)
        (none : map.get st.assigned value ≡ None) where
      -- a holder holds its slot still, and the value its own
      still : (new : ℕ) (free : SlotSize → List ℕ) (slots : List StackSlotShape) (other : SlotSize) (slot v : ℕ) → IsHolder ty Held st other slot v
          → IsHolder ty Held (record { assigned = map.insert st.assigned value new; free = free; slots = slots }) other slot v
      still new free slots other slot v is = record {
        has = still_has st.assigned value new v slot none is.has;
        size_is = is.size_is;
        held = is.held;
      }

      holds : (new : ℕ) (free : SlotSize → List ℕ) (slots : List StackSlotShape)
          → IsHolder ty Held (record { assigned = map.insert st.assigned value new; free = free; slots = slots }) size new value
      holds new free slots = record { has = has_inserted st.assigned value new; size_is = sized; held = held }

      made : AreHeld ty base Held (take_slot [] size value st)
      made other slot has =
          elim (get_pushed st.slots (slot_for size) slot (slot_for other) has.there) [
            | inl old ↦
                elim (kept other slot (record { beyond = has.beyond; there = old })) [
                  | inl free ↦ inl free
                  | inr holder ↦ inr (holder.0, still (length st.slots) st.free (st.slots ++ slot_for size ∷ []) other slot holder.0 holder.1)
                ]
            | inr last ↦
                inr (
                  value,
                  subst (λ s. IsHolder ty Held (take_slot [] size value st) s slot value) (same_slot size other last.1)
                      (subst (λ n. IsHolder ty Held (take_slot [] size value st) size n value) (sym last.0) (holds (length st.slots) st.free (st.slots ++ slot_for size ∷ []))),
                )
          ]

      reused : (new : ℕ) (rest : List ℕ) → st.free size ≡ new ∷ rest → AreHeld ty base Held (take_slot (new ∷ rest) size value st)
      reused new rest free other slot has =
          elim (kept other slot has) [
            | inl old ↦
                elim (size_cases other size) [
                  | inl same ↦ among same (contains_cases new slot rest (subst (λ xs. Contains xs slot) (ap st.free same ∙ free) old))
                  | inr apart ↦ inl (in_free size rest st.free other slot (inr (apart, old)))
                ]
            | inr holder ↦ inr (holder.0, still new (with_free size rest st.free) st.slots other slot holder.0 holder.1)
          ]
        where
          among : other ≡ size → (new ≡ slot) ⊎ Contains rest slot
              → Contains (with_free size rest st.free other) slot ⊎ ((v : ℕ) × IsHolder ty Held (take_slot (new ∷ rest) size value st) other slot v)
          among same (inl this) =
              inr (
                value,
                subst (λ s. IsHolder ty Held (take_slot (new ∷ rest) size value st) s slot value) (sym same)
                    (subst (λ n. IsHolder ty Held (take_slot (new ∷ rest) size value st) size n value) this (holds new (with_free size rest st.free) st.slots)),
              )
          among same (inr more) = inl (in_free size rest st.free other slot (inl (same, more)))

    pub need_held : (value : ℕ) (st : SlotState) → Held value → AreHeld ty base Held st → AreHeld ty base Held (after_act ty (Needs value) st)
    need_held value st held kept =
        after_need ty (AreHeld ty base Held) value st kept (λ size sized none free. made value st held kept size sized none)
        (λ size slot rest sized none free. reused value st held kept size sized none slot rest free)

    -- a value that is given holds nothing
    pub give_held : (value : ℕ) (st : SlotState) → AreHeld ty base Held st → AreHeld ty base (λ v. Held v × (value ≡ v → ⊥)) (after_act ty (Gives value) st)
    give_held value st kept =
        after_give ty (AreHeld ty base (λ v. Held v × (value ≡ v → ⊥))) value st unchanged freed
      where
        unchanged : ((size : SlotSize) (slot : ℕ) → size_of_type (ty value) ≡ Some size → map.get st.assigned value ≡ Some slot → ⊥)
            → AreHeld ty base (λ v. Held v × (value ≡ v → ⊥)) st
        unchanged never size slot has =
            elim (kept size slot has) [
              | inl free ↦ inl free
              | inr holder ↦
                  inr (
                    holder.0,
                    record {
                      has = holder.1.has;
                      size_is = holder.1.size_is;
                      held = (
                        holder.1.held,
                        λ same. never size slot (ap (λ v. size_of_type (ty v)) same ∙ holder.1.size_is) (ap (λ v. map.get st.assigned v) same ∙ holder.1.has),
                      );
                    },
                  )
            ]

        freed : (size : SlotSize) (slot : ℕ) → size_of_type (ty value) ≡ Some size → map.get st.assigned value ≡ Some slot
            → AreHeld ty base (λ v. Held v × (value ≡ v → ⊥)) (record st { free = with_free size (slot ∷ st.free size) st.free })
        freed size slot sized has other s is =
            elim (kept other s is) [
              | inl old ↦
                  elim (size_cases other size) [
                    | inl same ↦ inl (in_free size (slot ∷ st.free size) st.free other s (inl (same, contains_more slot s (st.free size) (subst (λ z. Contains (st.free z) s) same old))))
                    | inr apart ↦ inl (in_free size (slot ∷ st.free size) st.free other s (inr (apart, old)))
                  ]
              | inr holder ↦
                  elim (cases_eq holder.0 value) [
                    | inl same ↦
                        let here : map.get st.assigned holder.0 ≡ Some slot = ap (λ v. map.get st.assigned v) same ∙ has in
                        let also : size_of_type (ty holder.0) ≡ Some size = ap (λ v. size_of_type (ty v)) same ∙ sized in
                        let one : s ≡ slot = some_same _ _ (sym holder.1.has ∙ here) in
                        inl (in_free size (slot ∷ st.free size) st.free other s (inl (
                          some_same _ _ (sym holder.1.size_is ∙ also),
                          subst (λ n. Contains (slot ∷ st.free size) n) (sym one) (contains_first slot (st.free size)),
                        )))
                    | inr differ ↦
                        inr (
                          holder.0,
                          record { has = holder.1.has; size_is = holder.1.size_is; held = (holder.1.held, λ same. differ (sym same)) },
                        )
                  ]
            ]

    -- HOLDERS -----------------------------------------------------------------------------------------------------------

    -- a value that holds a slot from this number on
    pub record HoldsFrom (st : SlotState) (size : SlotSize) (from v : ℕ) : Type 0 where
      pub slot : ℕ
      pub beyond : from ≤ slot
      pub is : IsHolder ty Held st size slot v

    -- as many different values as slots of the size, each of which holds one from this number on
    pub record HaveHolders (st : SlotState) (size : SlotSize) (from count : ℕ) : Type 0 where
      pub values : List ℕ
      pub distinct : Distinct values
      pub many : length values ≡ count
      pub holding : (v : ℕ) → Contains values v → HoldsFrom st size from v

    module _ (is_spilled : ℕ → Bool) (st : SlotState) (size : SlotSize) (known : AreSlots is_spilled ty base st) (kept : AreHeld ty base Held st) (none : st.free size ≡ []) where
      later : (from n v : ℕ) → from ≤ n → HoldsFrom st size n v → HoldsFrom st size from v
      later from n v below is = record { slot = is.slot; beyond = let beyond = is.beyond in omega (arith, below, beyond); is = is.is }

      count_step : (shape : StackSlotShape) (shapes : List StackSlotShape) (test : Bool) → (shape.size == bytes_in size) ≡ test
          → count_of size (shape ∷ shapes) ≡ cond test 1 0 + count_of size shapes
      count_step shape shapes test is =
          sum_by-cons (λ (slot : StackSlotShape). cond (slot.size == bytes_in size) 1 0) shape shapes ∙ ap (λ b. cond b 1 0 + count_of size shapes) is

      holder_of : (shape : StackSlotShape) (from : ℕ) → base ≤ from → slice_get st.slots from ≡ Some shape → (shape.size == bytes_in size) ≡ true
          → (v : ℕ) × IsHolder ty Held st size from v
      holder_of shape from beyond there sized =
          let made = known.made from shape beyond there in
          let bytes : bytes_in made.0 ≡ bytes_in size = ap (λ (slot : StackSlotShape). slot.size) (sym made.1) ∙ eqb-true _ _ sized in
          let same : made.0 ≡ size = same_bytes made.0 size bytes in
          let has : HasSize base st.slots from size = record { beyond = beyond; there = there ∙ ap Some (made.1 ∙ ap slot_for same) } in
          elim (kept size from has) [
            | inl free ↦ absurd (contains_none from (subst (λ xs. Contains xs from) none free))
            | inr holder ↦ holder
          ]

      pub holders : (shapes : List StackSlotShape) (from : ℕ) → base ≤ from
          → ((k : ℕ) (shape : StackSlotShape) → slice_get shapes k ≡ Some shape → slice_get st.slots (from + k) ≡ Some shape)
          → HaveHolders st size from (count_of size shapes)
      holders [] from beyond sub = record { values = []; distinct = tt; many = refl; holding = λ v h. absurd (contains_none v h) }
      holders (shape ∷ shapes) from beyond sub =
          by (shape.size == bytes_in size) refl
          (holders shapes (suc from) (omega (arith, beyond))
          (λ k other there. subst (λ n. slice_get st.slots n ≡ Some other) (let e : from + suc k ≡ suc from + k = omega arith in e) (sub (suc k) other there)))
        where
          here : slice_get st.slots from ≡ Some shape
          here = subst (λ n. slice_get st.slots n ≡ Some shape) (let e : from + 0 ≡ from = omega arith in e) (sub 0 shape refl)

          by : (test : Bool) → (shape.size == bytes_in size) ≡ test → HaveHolders st size (suc from) (count_of size shapes) → HaveHolders st size from (count_of size (shape ∷ shapes))
          by false is rest = record {
            values = rest.values;
            distinct = rest.distinct;
            many = let counted = count_step shape shapes false is in let many = rest.many in omega (arith, counted, many);
            holding = λ v h. later from (suc from) v (omega arith) (rest.holding v h);
          }
          by true is rest =
              let holder = holder_of shape from beyond here is in
              record {
                values = holder.0 ∷ rest.values;
                distinct = (
                  λ h.
                      let also = rest.holding holder.0 h in
                      let one : from ≡ also.slot = some_same _ _ (sym holder.1.has ∙ also.is.has) in
                      let after = also.beyond in
                      omega (arith, one, after),
                  rest.distinct,
                );
                many = let counted = count_step shape shapes true is in let many = rest.many in omega (arith, counted, many);
                holding = λ v h.
                    elim (contains_cases holder.0 v rest.values h) [
                      | inl same ↦ record { slot = from; beyond = omega arith; is = subst (λ w. IsHolder ty Held st size from w) same holder.1 }
                      | inr more ↦ later from (suc from) v (omega arith) (rest.holding v more)
                    ];
              }

    -- A further slot is made only where as many values as there are slots of the size then can be told to hold them.
    module _ (is_spilled : ℕ → Bool) (Needed : SlotSize → ℕ → Type 0)
        (enough : (size : SlotSize) (values : List ℕ) → Distinct values
        → ((v : ℕ) → Contains values v → Held v × (is_spilled v ≡ true) × (size_of_type (ty v) ≡ Some size)) → Needed size (length values)) where
      abbrev AreEnough : SlotState → Type 0
      AreEnough st = (size : SlotSize) → Needed size (count_of size (drop base st.slots))

      module _ (value : ℕ) (st : SlotState) (known : AreSlots is_spilled ty base st) (kept : AreHeld ty base Held st) (held : Held value)
          (spilled : is_spilled value ≡ true) (needed : AreEnough st) where
        further : (size : SlotSize) → size_of_type (ty value) ≡ Some size → map.get st.assigned value ≡ None → st.free size ≡ [] → AreEnough (take_slot [] size value st)
        further size sized none free other =
            subst (λ shapes. Needed other (count_of other shapes)) (sym (drop_pushed base st.slots (slot_for size) known.inside)) (by (size_cases other size))
          where
            old : HaveHolders st size base (count_of size (drop base st.slots))
            old = holders is_spilled st size known kept free (drop base st.slots) base (omega arith) (λ k shape there. get_dropped base st.slots k shape there)

            unassigned : Contains old.values value → ⊥
            unassigned h = let holds = old.holding value h in let no : None ≡ Some holds.slot = sym none ∙ holds.is.has in cc

            told : (v : ℕ) → (value ≡ v) ⊎ Contains old.values v → Held v × (is_spilled v ≡ true) × (size_of_type (ty v) ≡ Some size)
            told v (inl same) = subst (λ w. Held w × (is_spilled w ≡ true) × (size_of_type (ty w) ≡ Some size)) same (held, spilled, sized)
            told v (inr more) = let holds = old.holding v more in (holds.is.held, known.spilled v holds.slot holds.is.has, holds.is.size_is)

            all : Needed size (length (value ∷ old.values))
            all = enough size (value ∷ old.values) (unassigned, old.distinct) (λ v h. told v (contains_cases value v old.values h))

            many : length (value ∷ old.values) ≡ count_of size (drop base st.slots ++ slot_for size ∷ [])
            many = ap suc old.many ∙ sym (count_same size (drop base st.slots))

            by : (other ≡ size) ⊎ (other ≡ size → ⊥) → Needed other (count_of other (drop base st.slots ++ slot_for size ∷ []))
            by (inl same) = subst (λ s. Needed s (count_of s (drop base st.slots ++ slot_for size ∷ []))) (sym same) (subst (λ n. Needed size n) many all)
            by (inr apart) = subst (λ n. Needed other n) (sym (count_other size other (drop base st.slots) apart)) (needed other)

        pub need_enough : AreEnough (after_act ty (Needs value) st)
        need_enough = after_need ty AreEnough value st needed (λ size sized none free. further size sized none free) (λ size slot rest sized none free. needed)

      pub needs_enough : (values : List ℕ) (st : SlotState) → ((v : ℕ) → Contains values v → Held v × (is_spilled v ≡ true))
          → AreSlots is_spilled ty base st → AreHeld ty base Held st → AreEnough st
          → AreHeld ty base Held (after_acts ty (each Needs values) st) × AreEnough (after_acts ty (each Needs values) st)
      needs_enough [] st each_is known kept needed = (kept, needed)
      needs_enough (value ∷ values) st each_is known kept needed =
          let first = each_is value (contains_first value values) in
          needs_enough values (after_act ty (Needs value) st) (λ v h. each_is v (contains_more value v values h))
          (need_slots is_spilled ty base value st first.1 known) (need_held value st first.0 kept) (need_enough value st known kept first.0 first.1 needed)

  -- no slot is made where values are given
  pub give_count : (values : List ℕ) (st : SlotState) → (after_acts ty (each Gives values) st).slots ≡ st.slots
  give_count [] st = refl
  give_count (value ∷ values) st =
      give_count values (after_act ty (Gives value) st) ∙ after_give ty (λ (new : SlotState). new.slots ≡ st.slots) value st (λ none. refl) (λ size slot sized has. refl)

  pub gives_held : (Held : ℕ → Type 0) (values : List ℕ) (st : SlotState) → AreHeld ty base Held st
      → AreHeld ty base (λ v. Held v × (Contains values v → ⊥)) (after_acts ty (each Gives values) st)
  gives_held Held [] st kept = held_by Held (λ v. Held v × (Contains [] v → ⊥)) st (λ v held. (held, contains_none v)) kept
  gives_held Held (value ∷ values) st kept =
      held_by (λ v. (Held v × (value ≡ v → ⊥)) × (Contains values v → ⊥)) (λ v. Held v × (Contains (value ∷ values) v → ⊥))
      (after_acts ty (each Gives values) (after_act ty (Gives value) st))
      (λ v held. (held.0.0, λ h. elim (contains_cases value v values h) [ inl same ↦ held.0.1 same | inr more ↦ held.1 more ]))
      (gives_held (λ v. Held v × (value ≡ v → ⊥)) values (after_act ty (Gives value) st) (give_held Held value st kept))
