use Rattle.std.proofs.Common.{true, ◌≡◌, ◌<◌, ◌≤◌, ◌⊎◌, ℕ, List, inl, inr, length, get_or, slice_index, arith, subst, ◌∙◌, Err}
use Rattle.std.specs.Prelude.{All, Contains}
use Rattle.std.proofs.lemmas.Bool.{false≢true}
use Rattle.clif_types.specs.EntitySet.{has}
use Rattle.clif_safepoints.proofs.Paths.{stands_from}
use Rattle.std.specs.List.Sorted.{IsBinarySearchResult, IsStrictlyIncreasing}
use Rattle.std.specs.Ordering.{nat_cmp}
use Rattle.std.proofs.lemmas.Map.Keys.{non_decreasing_from_sorted, sorted_from_strictly_increasing}
use Rattle.std.proofs.lemmas.List.Sorted.{searched}
use Rattle.clif_safepoints.proofs.recorded.Recorded.place_of.Goals as goal

-- what a search doesn't find stands nowhere
missed : (values : List ℕ) (value place : ℕ) → IsStrictlyIncreasing values → IsBinarySearchResult (λ y. nat_cmp y value) values (Err place)
    → (k : ℕ) → k < length values → slice_index values k ≡ value → ⊥
missed values value place rising result k inside same = by (order k place)
  where
    found : ((k : ℕ) → k < place → get_or values k 0 < value) × ((k : ℕ) → place ≤ k → k < length values → value < get_or values k 0)
    found = let all = searched values value (Err place) result (λ i j before below. non_decreasing_from_sorted values (sorted_from_strictly_increasing values rising) i j 0 before below) in (all.1, all.2)

    order : (i j : ℕ) → (i < j) ⊎ (j ≤ i)
    order i j = grind arith

    by : (k < place) ⊎ (place ≤ k) → ⊥
    by (inl before) = let less : slice_index values k < value = found.0 k before in omega (arith, less, same)
    by (inr behind) = let less : value < slice_index values k = found.1 k behind inside in omega (arith, less, same)

pub returns-in-Err-clause-none : goal.returns-in-Err-clause-none
returns-in-Err-clause-none c = λ none.
    let P : List ℕ → Type 0 = λ values. IsBinarySearchResult (λ y. nat_cmp y c.args.value) values (Err c.in-Err.field-0) in
    let rising : IsStrictlyIncreasing c.args.self.now = subst (λ values. IsStrictlyIncreasing values) c.self.view_is c.self.invariant.1 in
    let position : P c.args.self.now = subst P (c.deref.ensures.value ∙ c.self.view_is) c.in-Err.ensures.position in
    missed c.args.self.now c.args.value c.in-Err.field-0 rising position

-- what the set lacks is no value
pub returns-then-not-contains-clause-none : goal.returns-then-not-contains-clause-none
returns-then-not-contains-clause-none c = λ none place inside same.
    let kept : Contains c.self.inside.set.now (slice_index c.args.self.now place) =
    subst (λ xs. All (Contains c.self.inside.set.now) xs) c.self.view_is c.self.invariant.0 place 0 inside in
    let member : has c.self.inside.set.now c.args.value ≡ true =
    stands_from c.args.value c.self.inside.set.now (subst (λ v. Contains c.self.inside.set.now v) same kept) in
    false≢true (c.if-not-contains.ensures ∙ member)
