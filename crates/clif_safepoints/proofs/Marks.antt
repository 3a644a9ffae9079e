-- Sets as marks: one more member, and tests over lists one element at a time.
use Rattle.std.proofs.Common.{◌≡◌, ◌≢◌, ◌+◌, ◌<◌, ◌≤◌, ℕ, zero, suc, Bool, true, false, not, ◌||◌, ◌&&◌, List, [], ◌∷◌, length, get_or, set, take, refl, sym, ap, subst, ◌∙◌, arith, eqb, slice_index, slice_set, ◌⊎◌, inl, inr}
use Rattle.std.specs.List.{list_any}
use Rattle.std.specs.List.Sorted.{IsStrictlyIncreasing}
use Rattle.std.proofs.Math.ListN.{length-set}
use Rattle.std.proofs.lemmas.List.{get_or-set_other}
use Rattle.std.proofs.lemmas.Grind.{get_or-set_at}
use Rattle.std.proofs.lemmas.Bool.{eq-eqb}
use Rattle.std.proofs.lemmas.Bool.Decides.{eqb_tells}
use Rattle.std.proofs.lemmas.Map.Keys.{below_from_sorted, sorted_from_strictly_increasing}
use Rattle.std.proofs.lemmas.List.{take_more, take_all}
use Rattle.std.proofs.lemmas.List.Folds.{list_any-append}
use Rattle.clif_number_sets.specs.Sets.{IsSet, is_in}

or_false : (a : Bool) → (a || false) ≡ a
or_false true = refl
or_false false = refl

regroup : (a b c : Bool) → (a || (b || c)) ≡ ((b || a) || c)
regroup true true c = refl
regroup true false c = refl
regroup false true c = refl
regroup false false c = refl

-- one more element
pub any_more : {X : Type 0} (p : X → Bool) (xs : List X) (i : ℕ) (x : X) → i < length xs → get_or xs i x ≡ x
    → list_any p (take (i + 1) xs) ≡ (list_any p (take i xs) || p x)
any_more p xs i x inside here =
    ap (list_any p) (take_more xs i x inside) ∙ list_any-append p (take i xs) (get_or xs i x ∷ [])
    ∙ ap (λ (b : Bool). list_any p (take i xs) || b) (or_false (p (get_or xs i x)) ∙ ap p here)

-- what each of a list adds
pub add_start : {X : Type 0} (n : ℕ) (p : ℕ → X → Bool) (old : List Bool) → length old ≡ n → IsSet n (λ k. list_any (p k) [] || is_in old k) old
add_start n p old size = record { size = size; members = λ k inside. refl }

pub add_step : {X : Type 0} (n : ℕ) (p : ℕ → X → Bool) (xs : List X) (i : ℕ) (x : X) (old mid new : List Bool) → i < length xs → get_or xs i x ≡ x
    → IsSet n (λ k. list_any (p k) (take i xs) || is_in old k) mid → IsSet n (λ k. p k x || is_in mid k) new
    → IsSet n (λ k. list_any (p k) (take (i + 1) xs) || is_in old k) new
add_step n p xs i x old mid new inside here before now = record {
  size = now.size;
  members = λ k below.
      now.members k below ∙ ap (λ (b : Bool). p k x || b) (before.members k below)
      ∙ regroup (p k x) (list_any (p k) (take i xs)) (is_in old k)
      ∙ ap (λ (b : Bool). b || is_in old k) (sym (any_more (p k) xs i x inside here));
}

pub add_end : {X : Type 0} (n : ℕ) (p : ℕ → X → Bool) (xs : List X) (i : ℕ) (old new : List Bool) → length xs ≤ i
    → IsSet n (λ k. list_any (p k) (take i xs) || is_in old k) new → IsSet n (λ k. list_any (p k) xs || is_in old k) new
add_end n p xs i old new past done = record {
  size = done.size;
  members = λ k below. done.members k below ∙ ap (λ ys. list_any (p k) ys || is_in old k) (take_all i xs past);
}

-- what each of a list takes away
and_regroup : (a b c : Bool) → (not a && (not b && c)) ≡ (not (b || a) && c)
and_regroup true true c = refl
and_regroup true false c = refl
and_regroup false true c = refl
and_regroup false false c = refl

pub drop_start : {X : Type 0} (n : ℕ) (p : ℕ → X → Bool) (old : List Bool) → length old ≡ n → IsSet n (λ k. not (list_any (p k) []) && is_in old k) old
drop_start n p old size = record { size = size; members = λ k inside. refl }

pub drop_step : {X : Type 0} (n : ℕ) (p : ℕ → X → Bool) (xs : List X) (i : ℕ) (x : X) (old mid new : List Bool) → i < length xs → get_or xs i x ≡ x
    → IsSet n (λ k. not (list_any (p k) (take i xs)) && is_in old k) mid → IsSet n (λ k. not (p k x) && is_in mid k) new
    → IsSet n (λ k. not (list_any (p k) (take (i + 1) xs)) && is_in old k) new
drop_step n p xs i x old mid new inside here before now = record {
  size = now.size;
  members = λ k below.
      now.members k below ∙ ap (λ (b : Bool). not (p k x) && b) (before.members k below)
      ∙ and_regroup (p k x) (list_any (p k) (take i xs)) (is_in old k)
      ∙ ap (λ (b : Bool). not b && is_in old k) (sym (any_more (p k) xs i x inside here));
}

pub drop_end : {X : Type 0} (n : ℕ) (p : ℕ → X → Bool) (xs : List X) (i : ℕ) (old new : List Bool) → length xs ≤ i
    → IsSet n (λ k. not (list_any (p k) (take i xs)) && is_in old k) new → IsSet n (λ k. not (list_any (p k) xs) && is_in old k) new
drop_end n p xs i old new past done = record {
  size = done.size;
  members = λ k below. done.members k below ∙ ap (λ ys. not (list_any (p k) ys) && is_in old k) (take_all i xs past);
}

-- one mark is set
pub marked : (n : ℕ) (test : ℕ → Bool) (old : List Bool) (place : ℕ) (mark : Bool) → length old ≡ n → place < n → test place ≡ mark
    → ((k : ℕ) → k < n → k ≢ place → test k ≡ is_in old k) → IsSet n test (slice_set old place mark)
marked n test old place mark size inside here apart = record {
  size = length-set old place mark ∙ size;
  members = λ k below. at k below (eqb_tells k place);
}
  where
    at : (k : ℕ) → k < n → ((eqb k place ≡ true) × (k ≡ place)) ⊎ ((eqb k place ≡ false) × (k ≢ place)) → is_in (set old place mark) k ≡ test k
    at k below (inl same) = get_or-set_at old place k mark false same.1 (subst (λ m. place < m) (sym size) inside) ∙ sym here ∙ ap test (sym same.1)
    at k below (inr other) = get_or-set_other old place k mark false other.1 ∙ sym (apart k below other.1)

-- nothing changes
pub unmarked : (n : ℕ) (test : ℕ → Bool) (old : List Bool) → length old ≡ n → ((k : ℕ) → k < n → test k ≡ is_in old k) → IsSet n test old
unmarked n test old size same = record { size = size; members = λ k below. sym (same k below) }

-- two numbers that differ
apart_test : (a b : ℕ) → a ≢ b → eqb a b ≡ false
apart_test a b other = by (eqb_tells a b)
  where
    by : ((eqb a b ≡ true) × (a ≡ b)) ⊎ ((eqb a b ≡ false) × (a ≢ b)) → eqb a b ≡ false
    by (inl same) = absurd (other same.1)
    by (inr differ) = differ.0

-- a value stands in a list whose numbers rise at one place alone
only_here : (values : List ℕ) (place k value : ℕ) → IsStrictlyIncreasing values → slice_index values place ≡ value → place < length values → k < length values → k ≢ place
    → eqb value (slice_index values k) ≡ false
only_here values place k value rising is inside below other = apart_test value (slice_index values k) (λ same. by (sym same) (order k place))
  where
    up : (i j : ℕ) → i < j → j < length values → slice_index values i < slice_index values j
    up i j before below' = below_from_sorted values i j 0 (sorted_from_strictly_increasing values rising) before below'

    order : (i j : ℕ) → (i < j) ⊎ ((i ≡ j) ⊎ (j < i))
    order i j = grind arith

    by : slice_index values k ≡ value → (k < place) ⊎ ((k ≡ place) ⊎ (place < k)) → ⊥
    by same (inl before) = let less = up k place before inside in omega (arith, less, same, is)
    by same (inr (inl here)) = other here
    by same (inr (inr behind)) = let less = up place k behind below in omega (arith, less, same, is)

-- a recorded value comes or goes; one that isn't recorded changes nothing
pub comes : (values : List ℕ) (old new : List Bool) (place found value : ℕ) → IsStrictlyIncreasing values → length old ≡ length values
    → (place < length values) × (slice_index values place ≡ found) → found ≡ value → new ≡ slice_set old place true
    → IsSet (length values) (λ k. eqb value (slice_index values k) || is_in old k) new
comes values old new place found value rising size at same is =
    subst (λ set. IsSet (length values) (λ k. eqb value (slice_index values k) || is_in old k) set) (sym is)
    (marked (length values) (λ k. eqb value (slice_index values k) || is_in old k) old place true size at.0
    (ap (λ (b : Bool). b || is_in old place) (eq-eqb value (slice_index values place) (sym (at.1 ∙ same))))
    (λ k below other. ap (λ (b : Bool). b || is_in old k) (only_here values place k value rising (at.1 ∙ same) at.0 below other)))

pub goes : (values : List ℕ) (old new : List Bool) (place value : ℕ) → IsStrictlyIncreasing values → length old ≡ length values
    → (place < length values) × (slice_index values place ≡ value) → new ≡ slice_set old place false
    → IsSet (length values) (λ k. not (eqb value (slice_index values k)) && is_in old k) new
goes values old new place value rising size at is =
    subst (λ set. IsSet (length values) (λ k. not (eqb value (slice_index values k)) && is_in old k) set) (sym is)
    (marked (length values) (λ k. not (eqb value (slice_index values k)) && is_in old k) old place false size at.0
    (ap (λ (b : Bool). not b && is_in old place) (eq-eqb value (slice_index values place) (sym at.1)))
    (λ k below other. ap (λ (b : Bool). not b && is_in old k) (only_here values place k value rising at.1 at.0 below other)))

pub not_coming : (values : List ℕ) (old : List Bool) (found value : ℕ) → length old ≡ length values → ((k : ℕ) → k < length values → slice_index values k ≢ found)
    → found ≡ value → IsSet (length values) (λ k. eqb value (slice_index values k) || is_in old k) old
not_coming values old found value size none same =
    unmarked (length values) (λ k. eqb value (slice_index values k) || is_in old k) old size
    (λ k below. ap (λ (b : Bool). b || is_in old k) (apart_test value (slice_index values k) (λ e. none k below (sym (same ∙ e)))))

pub not_going : (values : List ℕ) (old : List Bool) (value : ℕ) → length old ≡ length values → ((k : ℕ) → k < length values → slice_index values k ≢ value)
    → IsSet (length values) (λ k. not (eqb value (slice_index values k)) && is_in old k) old
not_going values old value size none =
    unmarked (length values) (λ k. not (eqb value (slice_index values k)) && is_in old k) old size
    (λ k below. ap (λ (b : Bool). not b && is_in old k) (apart_test value (slice_index values k) (λ e. none k below (sym e))))

-- two tests are added, one after the other
pub added_twice : (n : ℕ) (f g : ℕ → Bool) (old mid new : List Bool) → IsSet n (λ k. g k || is_in old k) mid
    → IsSet (length mid) (λ k. f k || is_in mid k) new → IsSet n (λ k. (f k || g k) || is_in old k) new
added_twice n f g old mid new before now = record {
  size = now.size ∙ before.size;
  members = λ k below.
      now.members k (subst (λ m. k < m) (sym before.size) below) ∙ ap (λ (b : Bool). f k || b) (before.members k below) ∙ or_assoc (f k) (g k) (is_in old k);
}
  where
    or_assoc : (a b c : Bool) → (a || (b || c)) ≡ ((a || b) || c)
    or_assoc true b c = refl
    or_assoc false b c = refl

-- a member is below the size
pub member_below : (marks : List Bool) (place : ℕ) → is_in marks place ≡ true → place < length marks
member_below [] place h = cc
member_below (mark ∷ marks) zero h = omega arith
member_below (mark ∷ marks) (suc place) h = let more = member_below marks place h in omega (arith, more)
