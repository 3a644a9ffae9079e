-- A value that is given a slot: what stays of the function, and what is known of slots.
use Rattle.std.proofs.Common.{◌≡◌, ◌≢◌, ◌<◌, ◌∙◌, ◌+◌, ◌^◌, ◌-◌, ◌⊎◌, ℕ, inl, inr, Bool, true, false, List, [], ◌∷◌, ◌++◌, length, Option, None, Some, Result, Ok, Err, cond, refl, sym, ap, subst, arith, length-append}
use Rattle.std.specs.Prelude.{Contains}
use Rattle.std.specs.FinMap as map
use Rattle.std.specs.FinMap.{get-insert, nat_cmp-IsAntisymmetric}
use Rattle.std.specs.Cmp.{nat_cmp_total, tied_itself}
use Rattle.std.specs.declared.cmp.Ordering.{Ordering}
use Rattle.std.specs.declared.cmp.Ordering.TheVariants.{Less, Equal, Greater}
use Rattle.std.specs.Ordering.{eq_by_cmp, is_eq, nat_cmp}
use Rattle.std.proofs.lemmas.Bool.{cases_eq}
use Rattle.std.proofs.lemmas.List.Elements.{Contains-append_left, Contains-push, Contains-push_cases}
use Rattle.clif_types.specs.declared.error.BuildError.{BuildError}
use Rattle.clif_types.specs.declared.error.BuildError.TheVariants.{Failed, Full, Memory}
use Rattle.clif_tables.specs.Entries.{AStackSlot, with_entry}
use Rattle.clif_tables.specs.Lists.{stack_map_at}
use Rattle.clif_ir.specs.Body.{Body, value_at}
use Rattle.clif_ir.specs.Changes.{with_tables}
use Rattle.clif_stack_slots.specs.Sizes.{shift_of, size_of_type}
use Rattle.clif_stack_slots.specs.Slots.{ChangesFree, GivesSlot, SlotMap, TakesSlot, assigned_in, free_in, slot_for}
use Rattle.clif_stack_slots.specs.declared.size.SlotSize.{SlotSize}
use Rattle.clif_stack_slots.specs.declared.slots.StackSlots.{StackSlots}
use Rattle.clif_stack_slots.proofs.Free.{same_size}
use Rattle.clif_spiller.specs.Keeping.{Keeps}
use Rattle.clif_spiller.specs.Plans.{IsFull, KnowsSlots, MayBeSpilled}
use Rattle.clif_spiller.proofs.Sizes.{size_of}
use Rattle.clif_spiller.proofs.Keeping.{keeps_refl, slots_stay, spillable_stays, with_slot_keeps}

-- MAPS ------------------------------------------------------------------------------------------------------------------

pub equal-is : (o : Ordering) → is_eq o ≡ true → o ≡ Equal
equal-is Less is = cc
equal-is Equal is = refl
equal-is Greater is = cc

pub not_equal : (b : Bool) → (b ≡ true → ⊥) → b ≡ false
not_equal true never = absurd (never refl)
not_equal false never = refl

-- after an insertion a key has the new value, or it is another one and has what it had
inserted : (slots : SlotMap) (k slot q s : ℕ) → map.get (map.insert slots k slot) q ≡ Some s → ((q ≡ k) × (s ≡ slot)) ⊎ (map.get slots q ≡ Some s)
inserted slots k slot q s is =
    elim (cases_eq q k) [
      | inl same ↦
          let test : eq_by_cmp nat_cmp q k ≡ true = ap (λ n. eq_by_cmp nat_cmp n k) same ∙ ap is_eq (tied_itself nat_cmp_total k) in
          let found : Some slot ≡ Some s = sym (get-insert nat_cmp_total slots k slot q ∙ ap (λ b. cond b (Some slot) (map.get slots q)) test) ∙ is in
          inl (same, cc)
      | inr other ↦
          let test : eq_by_cmp nat_cmp q k ≡ false = not_equal _ (λ tied. other (nat_cmp-IsAntisymmetric q k (equal-is _ tied))) in
          inr (sym (get-insert nat_cmp_total slots k slot q ∙ ap (λ b. cond b (Some slot) (map.get slots q)) test) ∙ is)
    ]

-- a list is empty, or it has a last element
last_of : (xs : List ℕ) → (xs ≡ []) ⊎ ((front : List ℕ) × (last : ℕ) × (xs ≡ front ++ last ∷ []))
last_of [] = inl refl
last_of (x ∷ xs) = inr (elim (last_of xs) [ inl none ↦ ([], x, ap (λ ys. x ∷ ys) none) | inr some ↦ (x ∷ some.0, some.1, ap (λ ys. x ∷ ys) some.2) ])

same_or_not : (a b : SlotSize) → (a ≡ b) ⊎ (a ≢ b)
same_or_not a b = elim (cases_eq (shift_of a) (shift_of b)) [ inl same ↦ inl (same_size a b same) | inr other ↦ inr (λ same. other (ap shift_of same)) ]

-- GIVING ----------------------------------------------------------------------------------------------------------------

-- what is so after a value was given this slot
pub record IsGiven (f : Body) (a : StackSlots) (g : Body) (b : StackSlots) (slot : ℕ) : Type 0 where
  pub keeps : (n : ℕ) → Keeps n f g
  pub values : g.values ≡ f.values
  pub insts : g.insts ≡ f.insts
  pub blocks : g.blocks ≡ f.blocks
  pub layout : g.layout ≡ f.layout
  pub maps : (i : ℕ) → stack_map_at g.tables i ≡ stack_map_at f.tables i
  pub exists : slot < length g.tables.stack_slots
  pub knows : KnowsSlots g b

-- a slot that is free before, or new
module _ (f : Body) (a : StackSlots) (value : ℕ) (may : MayBeSpilled f value) (knows : KnowsSlots f a) where
  with_given : (g : Body) (b : StackSlots) (slot : ℕ) (kept : (n : ℕ) → Keeps n f g) → slot < length g.tables.stack_slots
      → assigned_in b ≡ map.insert (assigned_in a) value slot
      → ((size : SlotSize) (other : ℕ) → Contains (free_in b size) other → other < length g.tables.stack_slots) → KnowsSlots g b
  with_given g b slot kept exists put free =
      let known = slots_stay 0 f g (kept 0) a knows in
      let found : (v s : ℕ) → map.get (assigned_in b) v ≡ Some s → ((v ≡ value) × (s ≡ slot)) ⊎ (map.get (assigned_in a) v ≡ Some s) =
      λ v s is. inserted (assigned_in a) value slot v s (ap (λ slots. map.get slots v) (sym put) ∙ is) in
      record {
        values = λ v s is. elim (found v s is) [ inl new ↦ subst (MayBeSpilled g) (sym new.0) (spillable_stays 0 f g (kept 0) value may) | inr old ↦ known.values v s old ];
        given = λ v s is. elim (found v s is) [ inl new ↦ omega (arith, new.1, exists) | inr old ↦ known.given v s old ];
        free = free;
      }

  given_known : (b : StackSlots) (g : Body) (slot : ℕ) → map.get (assigned_in a) value ≡ Some slot → b ≡ a → g ≡ f → IsGiven f a g b slot
  given_known b g slot has same_slots same =
      subst (λ (x : Body). IsGiven f a x b slot) (sym same) (subst (λ (y : StackSlots). IsGiven f a f y slot) (sym same_slots) (record {
        keeps = λ n. keeps_refl n f;
        values = refl;
        insts = refl;
        blocks = refl;
        layout = refl;
        maps = λ i. refl;
        exists = knows.given value slot has;
        knows = knows;
      }))

  given_reused : (size : SlotSize) (b : StackSlots) (g : Body) (slot : ℕ) (front : List ℕ) → free_in a size ≡ front ++ slot ∷ []
      → ChangesFree size front (free_in a) (free_in b) → g ≡ f → assigned_in b ≡ map.insert (assigned_in a) value slot → IsGiven f a g b slot
  given_reused size b g slot front was changes same put =
      let exists : slot < length f.tables.stack_slots = knows.free size slot (subst (λ xs. Contains xs slot) (sym was) (Contains-push front slot)) in
      let free : (other : SlotSize) (s : ℕ) → Contains (free_in b other) s → s < length f.tables.stack_slots =
      λ other s member.
      elim (same_or_not other size) [
        | inl this ↦
            knows.free size s (subst (λ xs. Contains xs s) (sym was) (Contains-append_left front (slot ∷ []) s
            (subst (λ xs. Contains xs s) (ap (free_in b) this ∙ changes.this) member)))
        | inr apart ↦ knows.free other s (subst (λ xs. Contains xs s) (changes.others other apart) member)
      ] in
      subst (λ (x : Body). IsGiven f a x b slot) (sym same) (record {
        keeps = λ n. keeps_refl n f;
        values = refl;
        insts = refl;
        blocks = refl;
        layout = refl;
        maps = λ i. refl;
        exists = exists;
        knows = with_given f b slot (λ n. keeps_refl n f) exists put free;
      })

  given_made : (size : SlotSize) (b : StackSlots) (g : Body) (slot : ℕ) → slot ≡ length f.tables.stack_slots
      → g ≡ with_tables f (with_entry f.tables (AStackSlot (slot_for size))) → ((other : SlotSize) → free_in b other ≡ free_in a other)
      → assigned_in b ≡ map.insert (assigned_in a) value slot → IsGiven f a g b slot
  given_made size b g slot number made free put =
      let h : Body = with_tables f (with_entry f.tables (AStackSlot (slot_for size))) in
      let more : length h.tables.stack_slots ≡ length f.tables.stack_slots + 1 = length-append f.tables.stack_slots (slot_for size ∷ []) in
      let kept : (n : ℕ) → Keeps n f h = λ n. with_slot_keeps n f (slot_for size) in
      subst (λ (x : Body). IsGiven f a x b slot) (sym made) (record {
        keeps = kept;
        values = refl;
        insts = refl;
        blocks = refl;
        layout = refl;
        maps = λ i. refl;
        exists = omega (arith, number, more);
        knows = with_given h b slot kept (omega (arith, number, more)) put
            (λ other s member. let old = knows.free other s (subst (λ xs. Contains xs s) (free other) member) in omega (arith, old, more));
      })

  pub given : (size : SlotSize) (g : Body) (b : StackSlots) (slot : ℕ) → GivesSlot value size a b f g (Ok slot) → IsGiven f a g b slot
  given size g b slot gives = by (map.get (assigned_in a) value) refl
    where
      by : (found : Option ℕ) → map.get (assigned_in a) value ≡ found → IsGiven f a g b slot
      by (Some old) is =
          let known = gives.known old is in
          let same : slot ≡ old = cc in
          subst (λ s. IsGiven f a g b s) (sym same) (given_known b g old is known.1 known.2)
      by None is =
          let taken = gives.taken is (λ same. cc) in
          elim (last_of (free_in a size)) [
            | inl empty ↦
                let made = taken.made empty in
                given_made size b g slot made.0.number made.0.ok made.1 (gives.given is)
            | inr some ↦
                let reused = taken.reused some.0 some.1 some.2 in
                let same : slot ≡ some.1 = cc in
                given_reused size b g slot some.0 (subst (λ s. free_in a size ≡ some.0 ++ s ∷ []) (sym same) some.2) reused.1 reused.2 (gives.given is)
          ]

-- what is so after a value was refused a slot
pub record IsRefused (g : Body) (error : BuildError) : Type 0 where
  pub full : error ≡ Full → IsFull g
  pub never_failed : error ≢ Failed

pub refused : (value : ℕ) (size : SlotSize) (a b : StackSlots) (f g : Body) (error : BuildError) → GivesSlot value size a b f g (Err error) → IsRefused g error
refused value size a b f g error gives = by (map.get (assigned_in a) value) refl
  where
    same : g ≡ f
    same = gives.err.1

    by : (found : Option ℕ) → map.get (assigned_in a) value ≡ found → IsRefused g error
    by (Some old) is = let known = (gives.known old is).0 in absurd cc
    by None is =
        let taken : error ≢ Memory → TakesSlot size (free_in a) (free_in b) f g (Err error) = λ other. gives.taken is (λ was. other cc) in
        let made : error ≢ Memory → (error ≡ Full → length f.tables.stack_slots ≡ 2 ^ 32 - 1) × (error ≢ Failed) =
        λ other.
        elim (last_of (free_in a size)) [
          | inl empty ↦ let made = (taken other).made empty in (λ full. made.0.full.0 (ap Err full), λ failed. made.0.never_failed (ap Err failed))
          | inr some ↦ let reused = ((taken other).reused some.0 some.1 some.2).0 in absurd cc
        ] in
        record {
          full = λ full.
              let count : length f.tables.stack_slots ≡ 2 ^ 32 - 1 = (made (λ memory. let both = sym full ∙ memory in cc)).0 full in
              inr (inr (inr (subst (λ (x : Body). length x.tables.stack_slots ≡ 2 ^ 32 - 1) (sym same) count)));
          never_failed = λ failed. (made (λ memory. let both = sym failed ∙ memory in cc)).1 failed;
        }

-- FREEING ---------------------------------------------------------------------------------------------------------------

-- slots stay known where one of them is freed
pub freed : (f : Body) (a b : StackSlots) (size : SlotSize) (slot : ℕ) → KnowsSlots f a → slot < length f.tables.stack_slots
    → assigned_in b ≡ assigned_in a → ChangesFree size (free_in a size ++ slot ∷ []) (free_in a) (free_in b) → KnowsSlots f b
freed f a b size slot knows exists assigned changes = record {
  values = λ v s is. knows.values v s (ap (λ slots. map.get slots v) (sym assigned) ∙ is);
  given = λ v s is. knows.given v s (ap (λ slots. map.get slots v) (sym assigned) ∙ is);
  free = λ other s member.
      elim (same_or_not other size) [
        | inl this ↦
            elim (Contains-push_cases (free_in a size) slot s (subst (λ xs. Contains xs s) (ap (free_in b) this ∙ changes.this) member)) [
              | inl old ↦ knows.free size s old
              | inr new ↦ omega (arith, new, exists)
            ]
        | inr apart ↦ knows.free other s (subst (λ xs. Contains xs s) (changes.others other apart) member)
      ];
}

-- CALLS -----------------------------------------------------------------------------------------------------------------

-- of a call that gives a value its slot, or is refused one
module _ (f : Body) (a : StackSlots) (value : ℕ) (may : MayBeSpilled f value) (g : Body) (b : StackSlots) (answer : Result ℕ BuildError)
    (gives : (size : SlotSize) → size_of_type (value_at f value).ty ≡ Some size → GivesSlot value size a b f g answer) where
  pub gives_of : (other : Result ℕ BuildError) → answer ≡ other → GivesSlot value (size_of (value_at f value).ty may.fits).0 a b f g other
  gives_of other is =
      let size = size_of (value_at f value).ty may.fits in
      subst (GivesSlot value size.0 a b f g) is (gives size.0 size.1)

  pub given_slot : (slot : ℕ) → answer ≡ Ok slot → KnowsSlots f a → IsGiven f a g b slot
  given_slot slot is knows = given f a value may knows (size_of (value_at f value).ty may.fits).0 g b slot (gives_of (Ok slot) is)

  pub refused_slot : (error : BuildError) → answer ≡ Err error → IsRefused g error
  refused_slot error is = refused value (size_of (value_at f value).ty may.fits).0 a b f g error (gives_of (Err error) is)
