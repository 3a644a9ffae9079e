-- What is free of each size, after the free slots of one size have changed.
use Rattle.std.proofs.Common.{◌≡◌, ℕ, List, [], ◌∷◌, ◌++◌, length, Some, refl, ap, sym, ◌∙◌, arith, Result, Ok, Err, None, Vec, Global, length-append, subst, inl, inr, zero, suc, ◌<◌, Option}
use Rattle.std.specs.Prelude.{OnErr, slice_get, slice_set, slice_index_or, ◌≢◌}
use Rattle.std.proofs.lemmas.Option.{slice_get_read}
use Rattle.std.proofs.lemmas.Bool.{cases_eq}
use Rattle.clif_stack_slots.specs.Sizes.{shift_of}
use Rattle.clif_stack_slots.specs.Slots.{items_of, free_in, ChangesFree}
use Rattle.clif_stack_slots.specs.declared.slots.StackSlots.{StackSlots}
use Rattle.clif_stack_slots.specs.declared.size.SlotSize.{SlotSize}
use Rattle.clif_stack_slots.specs.declared.size.SlotSize.TheVariants as size

pub get_set_same : {A : Type 0} (xs : List A) (i : ℕ) (a : A) → i < length xs → slice_get (slice_set xs i a) i ≡ Some a
get_set_same [] i a inside = absurd (omega arith)
get_set_same (x ∷ xs) zero a inside = refl
get_set_same (x ∷ xs) (suc i) a inside = get_set_same xs i a (omega arith)

pub get_set_other : {A : Type 0} (xs : List A) (i j : ℕ) (a : A) → j ≢ i → slice_get (slice_set xs i a) j ≡ slice_get xs j
get_set_other [] i j a other = refl
get_set_other (x ∷ xs) zero zero a other = absurd (other refl)
get_set_other (x ∷ xs) zero (suc j) a other = refl
get_set_other (x ∷ xs) (suc i) zero a other = refl
get_set_other (x ∷ xs) (suc i) (suc j) a other = get_set_other xs i j a (λ same. other (ap suc same))

pub map_err : {A E : Type 0} {P Q : Type 0} (answer : Result A E) → (P → Q) → OnErr answer P → OnErr answer Q
map_err (Ok value) f holds = tt
map_err (Err error) f holds = f holds

pub none_of : {A : Type 0} (found : Option A) → ((x : A) → found ≡ Some x → ⊥) → found ≡ None
none_of None never = refl
none_of (Some x) never = absurd (never x refl)

pub not_none : {A : Type 0} {found : Option A} {x : A} → found ≡ None → found ≡ Some x → ⊥
not_none none some = let differs = sym none ∙ some in cc

pub one : {A : Type 0} {found : Option A} {a b : A} → found ≡ Some a → found ≡ Some b → a ≡ b
one is same = let both = sym is ∙ same in cc

-- two sizes of the same shift are one
pub same_size : (a b : SlotSize) → shift_of a ≡ shift_of b → a ≡ b
same_size size.Size8 size.Size8 same = refl
same_size size.Size16 size.Size16 same = refl
same_size size.Size32 size.Size32 same = refl
same_size size.Size64 size.Size64 same = refl
same_size size.Size128 size.Size128 same = refl
same_size size.Size8 size.Size16 same = absurd (omega arith)
same_size size.Size8 size.Size32 same = absurd (omega arith)
same_size size.Size8 size.Size64 same = absurd (omega arith)
same_size size.Size8 size.Size128 same = absurd (omega arith)
same_size size.Size16 size.Size8 same = absurd (omega arith)
same_size size.Size16 size.Size32 same = absurd (omega arith)
same_size size.Size16 size.Size64 same = absurd (omega arith)
same_size size.Size16 size.Size128 same = absurd (omega arith)
same_size size.Size32 size.Size8 same = absurd (omega arith)
same_size size.Size32 size.Size16 same = absurd (omega arith)
same_size size.Size32 size.Size64 same = absurd (omega arith)
same_size size.Size32 size.Size128 same = absurd (omega arith)
same_size size.Size64 size.Size8 same = absurd (omega arith)
same_size size.Size64 size.Size16 same = absurd (omega arith)
same_size size.Size64 size.Size32 same = absurd (omega arith)
same_size size.Size64 size.Size128 same = absurd (omega arith)
same_size size.Size128 size.Size8 same = absurd (omega arith)
same_size size.Size128 size.Size16 same = absurd (omega arith)
same_size size.Size128 size.Size32 same = absurd (omega arith)
same_size size.Size128 size.Size64 same = absurd (omega arith)

pub shift_below : (a : SlotSize) → shift_of a < 5
shift_below size.Size8 = omega arith
shift_below size.Size16 = omega arith
shift_below size.Size32 = omega arith
shift_below size.Size64 = omega arith
shift_below size.Size128 = omega arith

-- where the list of a size is replaced, its slots are free, and of the others those that were
pub changes_free : (s : StackSlots) (size : SlotSize) (v : Vec ℕ Global) → length s.free ≡ 5 → ChangesFree size v.items (free_in s) (free_in (record s { free = slice_set s.free (shift_of size) v }))
changes_free s size v five = record {
  this = ap items_of (get_set_same s.free (shift_of size) v (let below = shift_below size in omega arith));
  others = λ other differs. ap items_of (get_set_other s.free (shift_of size) (shift_of other) v (λ same. differs (same_size _ _ same)));
}

-- the list at a size has the slots that are free of it
pub was_free : (s : StackSlots) (size : SlotSize) (v : Vec ℕ Global) → length s.free ≡ 5 → v ≡ slice_index_or s.free (shift_of size) v → free_in s size ≡ v.items
was_free s size v five is = ap items_of (slice_get_read s.free 5 (shift_of size) v (sym five) (shift_below size) is)

pub not_pushed : (xs : List ℕ) (x : ℕ) → xs ++ x ∷ [] ≡ [] → ⊥
not_pushed xs x is = let long = ap length is in let counts = length-append xs (x ∷ []) in omega (arith, long, counts)

-- a list that is replaced by one of the slots that were free of its size changes nothing
pub same_free : (s : StackSlots) (size other : SlotSize) (v : Vec ℕ Global) → length s.free ≡ 5 → v.items ≡ free_in s size
    → free_in (record s { free = slice_set s.free (shift_of size) v }) other ≡ free_in s other
same_free s size other v five same =
    elim (cases_eq (shift_of other) (shift_of size)) [
      | inl is ↦ let one = same_size other size is in subst (λ o. free_in (record s { free = slice_set s.free (shift_of size) v }) o ≡ free_in s o) (sym one) (changed.this ∙ same)
      | inr differs ↦ changed.others other (λ is. differs (ap shift_of is))
    ]
  where
    changed : ChangesFree size v.items (free_in s) (free_in (record s { free = slice_set s.free (shift_of size) v }))
    changed = changes_free s size v five
