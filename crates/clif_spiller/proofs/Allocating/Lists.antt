-- Lists in which no number stands twice; what a list has at a place; and maps and free lists after a change.
use Rattle.std.proofs.Common.{◌≡◌, ◌⊎◌, ◌≤◌, ◌+◌, ◌∙◌, inl, inr, ℕ, zero, suc, Bool, true, false, List, [], ◌∷◌, ◌++◌, length, drop, None, Some, cond, refl, sym, ap, subst, arith, eq-eqb, eqb-true}
use Rattle.std.specs.Prelude.{Contains, slice_get, if◌then◌else◌, ◌==◌}
use Rattle.std.specs.FinMap as map
use Rattle.std.specs.FinMap.{get-insert, nat_cmp-IsAntisymmetric}
use Rattle.std.specs.Cmp.{nat_cmp_total, tied_itself}
use Rattle.std.specs.declared.cmp.Ordering.{Ordering}
use Rattle.std.specs.declared.cmp.Ordering.TheVariants.{Less, Equal, Greater}
use Rattle.std.specs.Ordering.{eq_by_cmp, is_eq, nat_cmp}
use Rattle.std.proofs.lemmas.Bool.{cases_eq}
use Rattle.std.proofs.lemmas.List.Elements.{Contains-get_or}
use Rattle.std.proofs.lemmas.Option.{get_or_from_slice_get, slice_get_within}
use Rattle.clif_instructions.specs.Members.{Once}
use Rattle.clif_safepoints.proofs.Paths.{place_of_member}
use Rattle.clif_stack_slots.specs.Sizes.{shift_of}
use Rattle.clif_stack_slots.specs.Slots.{SlotMap}
use Rattle.clif_stack_slots.specs.declared.size.SlotSize.{SlotSize}
use Rattle.clif_stack_slots.proofs.Free.{same_size}
use Rattle.clif_spiller.specs.Allocating.{Distinct, with_free}

-- NO NUMBER TWICE -------------------------------------------------------------------------------------------------------

pub once_distinct : (xs : List ℕ) → Once xs → Distinct xs
once_distinct [] once = tt
once_distinct (x ∷ xs) once = (first, once_distinct xs (λ j k below inside. once (suc j) (suc k) (omega (arith, below)) (omega (arith, inside))))
  where
    first : Contains xs x → ⊥
    first h =
        let at = place_of_member xs x h in
        let inside = slice_get_within xs at.0 x at.1 in
        once 0 (suc at.0) (omega arith) (omega (arith, inside)) (sym (get_or_from_slice_get xs at.0 x 0 at.1))

pub distinct_once : (xs : List ℕ) → Distinct xs → Once xs
distinct_once [] distinct j k below inside = absurd (omega (arith, inside))
distinct_once (x ∷ xs) distinct zero zero below inside = absurd (omega (arith, below))
distinct_once (x ∷ xs) distinct (suc j) zero below inside = absurd (omega (arith, below))
distinct_once (x ∷ xs) distinct zero (suc k) below inside = λ same.
    distinct.0 (subst (λ y. Contains xs y) (sym same) (Contains-get_or xs k 0 (omega (arith, inside))))
distinct_once (x ∷ xs) distinct (suc j) (suc k) below inside = distinct_once xs distinct.1 j k (omega (arith, below)) (omega (arith, inside))

-- PLACES ----------------------------------------------------------------------------------------------------------------

pub get_front : {X : Type 0} (xs ys : List X) (k : ℕ) (x : X) → slice_get xs k ≡ Some x → slice_get (xs ++ ys) k ≡ Some x
get_front [] ys k x is = absurd cc
get_front (y ∷ xs) ys zero x is = is
get_front (y ∷ xs) ys (suc k) x is = get_front xs ys k x is

pub get_last : {X : Type 0} (xs : List X) (x : X) → slice_get (xs ++ x ∷ []) (length xs) ≡ Some x
get_last [] x = refl
get_last (y ∷ xs) x = get_last xs x

-- after one more there is what was there, or the last place has it
pub get_pushed : {X : Type 0} (xs : List X) (y : X) (k : ℕ) (x : X) → slice_get (xs ++ y ∷ []) k ≡ Some x
    → (slice_get xs k ≡ Some x) ⊎ ((k ≡ length xs) × (y ≡ x))
get_pushed [] y zero x is = inr (refl, cc)
get_pushed [] y (suc k) x is = absurd cc
get_pushed (z ∷ xs) y zero x is = inl is
get_pushed (z ∷ xs) y (suc k) x is = elim (get_pushed xs y k x is) [ inl old ↦ inl old | inr new ↦ inr (ap suc new.0, new.1) ]

pub get_dropped : {X : Type 0} (n : ℕ) (xs : List X) (k : ℕ) (x : X) → slice_get (drop n xs) k ≡ Some x → slice_get xs (n + k) ≡ Some x
get_dropped zero xs k x is = subst (λ (j : ℕ). slice_get xs j ≡ Some x) (let e : k ≡ 0 + k = omega arith in e) is
get_dropped (suc n) [] k x is = absurd cc
get_dropped (suc n) (y ∷ xs) k x is =
    subst (λ (j : ℕ). slice_get (y ∷ xs) j ≡ Some x) (let e : suc (n + k) ≡ suc n + k = omega arith in e) (get_dropped n xs k x is)

pub drop_pushed : {X : Type 0} (n : ℕ) (xs : List X) (x : X) → n ≤ length xs → drop n (xs ++ x ∷ []) ≡ drop n xs ++ x ∷ []
drop_pushed zero xs x inside = refl
drop_pushed (suc n) [] x inside = absurd (omega (arith, inside))
drop_pushed (suc n) (y ∷ xs) x inside = drop_pushed n xs x (omega (arith, inside))

-- MAPS ------------------------------------------------------------------------------------------------------------------

equal-is : (o : Ordering) → is_eq o ≡ true → o ≡ Equal
equal-is Less is = cc
equal-is Equal is = refl
equal-is Greater is = cc

not_equal : (b : Bool) → (b ≡ true → ⊥) → b ≡ false
not_equal true never = absurd (never refl)
not_equal false never = refl

-- after an insertion a key has the new value, or it is another one and has what it had
pub found_after : (slots : SlotMap) (k slot q : ℕ)
    → ((q ≡ k) × (map.get (map.insert slots k slot) q ≡ Some slot)) ⊎ ((q ≡ k → ⊥) × (map.get (map.insert slots k slot) q ≡ map.get slots q))
found_after slots k slot q =
    elim (cases_eq q k) [
      | inl same ↦
          let test : eq_by_cmp nat_cmp q k ≡ true = ap (λ n. eq_by_cmp nat_cmp n k) same ∙ ap is_eq (tied_itself nat_cmp_total k) in
          inl (same, get-insert nat_cmp_total slots k slot q ∙ ap (λ b. cond b (Some slot) (map.get slots q)) test)
      | inr other ↦
          let test : eq_by_cmp nat_cmp q k ≡ false = not_equal _ (λ tied. other (nat_cmp-IsAntisymmetric q k (equal-is _ tied))) in
          inr (other, get-insert nat_cmp_total slots k slot q ∙ ap (λ b. cond b (Some slot) (map.get slots q)) test)
    ]

pub inserted : (slots : SlotMap) (k slot q s : ℕ) → map.get (map.insert slots k slot) q ≡ Some s
    → ((q ≡ k) × (slot ≡ s)) ⊎ ((q ≡ k → ⊥) × (map.get slots q ≡ Some s))
inserted slots k slot q s is =
    elim (found_after slots k slot q) [
      | inl new ↦ inl (new.0, (let both : Some slot ≡ Some s = sym new.1 ∙ is in cc))
      | inr old ↦ inr (old.0, sym old.1 ∙ is)
    ]

pub has_inserted : (slots : SlotMap) (k slot : ℕ) → map.get (map.insert slots k slot) k ≡ Some slot
has_inserted slots k slot = elim (found_after slots k slot k) [ inl new ↦ new.1 | inr old ↦ absurd (old.0 refl) ]

-- what had a value has it after another key was inserted
pub still_has : (slots : SlotMap) (k slot q s : ℕ) → map.get slots k ≡ None → map.get slots q ≡ Some s → map.get (map.insert slots k slot) q ≡ Some s
still_has slots k slot q s none is =
    elim (found_after slots k slot q) [
      | inl new ↦ let here : map.get slots k ≡ Some s = ap (λ n. map.get slots n) (sym new.0) ∙ is in let no : None ≡ Some s = sym none ∙ here in absurd cc
      | inr old ↦ old.1 ∙ is
    ]

-- FREE LISTS ------------------------------------------------------------------------------------------------------------

pub size_cases : (a b : SlotSize) → (a ≡ b) ⊎ (a ≡ b → ⊥)
size_cases a b = elim (cases_eq (shift_of a) (shift_of b)) [ inl same ↦ inl (same_size a b same) | inr other ↦ inr (λ same. other (ap shift_of same)) ]

pub with_free_cases : (size : SlotSize) (slots : List ℕ) (free : SlotSize → List ℕ) (other : SlotSize)
    → ((other ≡ size) × (with_free size slots free other ≡ slots)) ⊎ ((other ≡ size → ⊥) × (with_free size slots free other ≡ free other))
with_free_cases size slots free other = by (shift_of other == shift_of size) refl
  where
    by : (test : Bool) → (shift_of other == shift_of size) ≡ test
        → ((other ≡ size) × ((if test then slots else free other) ≡ slots)) ⊎ ((other ≡ size → ⊥) × ((if test then slots else free other) ≡ free other))
    by true is = inl (same_size other size (eqb-true _ _ is), refl)
    by false is = inr ((λ same. let yes : (shift_of other == shift_of size) ≡ true = eq-eqb _ _ (ap shift_of same) in let no : true ≡ false = sym yes ∙ is in cc), refl)

-- a free slot is one of the new ones, or one of another size that was free
pub free_cases : (size : SlotSize) (slots : List ℕ) (free : SlotSize → List ℕ) (other : SlotSize) (slot : ℕ) → Contains (with_free size slots free other) slot
    → ((other ≡ size) × Contains slots slot) ⊎ ((other ≡ size → ⊥) × Contains (free other) slot)
free_cases size slots free other slot h =
    elim (with_free_cases size slots free other) [
      | inl this ↦ inl (this.0, subst (λ xs. Contains xs slot) this.1 h)
      | inr apart ↦ inr (apart.0, subst (λ xs. Contains xs slot) apart.1 h)
    ]

pub in_free : (size : SlotSize) (slots : List ℕ) (free : SlotSize → List ℕ) (other : SlotSize) (slot : ℕ)
    → ((other ≡ size) × Contains slots slot) ⊎ ((other ≡ size → ⊥) × Contains (free other) slot) → Contains (with_free size slots free other) slot
in_free size slots free other slot which =
    elim (with_free_cases size slots free other) [
      | inl this ↦ elim which [ inl here ↦ subst (λ xs. Contains xs slot) (sym this.1) here.1 | inr there ↦ absurd (there.0 this.0) ]
      | inr apart ↦ elim which [ inl here ↦ absurd (apart.0 here.0) | inr there ↦ subst (λ xs. Contains xs slot) (sym apart.1) there.1 ]
    ]
