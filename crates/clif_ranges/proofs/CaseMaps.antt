-- What the entries of a hash map say of a key, the cases say.
use Rattle.std.proofs.Common.{◌≡◌, ℕ, inl, inr, List, [], ◌∷◌, Some, None, Bool, true, false, T, ◌&&◌, cond, refl, ap, sym, subst, ◌∙◌, arith, eq-eqb, Bor}
use Rattle.std.specs.Prelude.{◌==◌, is_some}
use Rattle.std.specs.List.{AllByRecursion, IsDistinct}
use Rattle.std.specs.List.Sorted.{IsStrictlySortedBy}
use Rattle.std.specs.declared.cmp.Ordering.{Ordering}
use Rattle.std.specs.declared.cmp.Ordering.TheVariants.{Less, Equal, Greater}
use Rattle.std.specs.Ordering.{nat_cmp, is_eq, is_lt, eq_by_cmp}
use Rattle.std.specs.FinMap as map
use Rattle.std.specs.Prelude.{map as map_list}
use Rattle.std.specs.Iterator.{Yields}
use Rattle.std.specs.Map.Iter.{TakesFirst, deref_pair}
use Rattle.std.specs.FinMap.{nat_cmp-IsAntisymmetric, get-insert, get-from_entries, same_map}
use Rattle.std.specs.FinMap.Entries.{below_all, is_sorted, same_entries}
use Rattle.std.specs.HashMap.{HashMap, get}
use Rattle.std.specs.Map.{lookup, keys_of, update_all}
use Rattle.std.specs.Cmp.{tied_itself, nat_cmp_total, nat_eq_equiv}
use Rattle.std.proofs.lemmas.Map.Keys.{sorted_head, sorted_tail}
use Rattle.std.proofs.lemmas.Map.Made.{update_all_none}
use Rattle.std.proofs.lemmas.Grind.{common_steps}
use Rattle.std.proofs.lemmas.Bool.{cases_eq}
use Rattle.clif_ranges.specs.Cases.{cases_in}

is_equal : (r : Ordering) → is_eq r ≡ true → r ≡ Equal
is_equal Less is = cc
is_equal Equal is = refl
is_equal Greater is = cc

not_equal : (b : Bool) → (b ≡ true → ⊥) → b ≡ false
not_equal true none = absurd (none refl)
not_equal false none = refl

-- two keys tie where they are one
pub key_test : (q k : ℕ) → eq_by_cmp nat_cmp q k ≡ (q == k)
key_test q k =
    elim (cases_eq q k) [
      | inl same ↦ ap (λ n. eq_by_cmp nat_cmp n k) same ∙ ap is_eq (tied_itself nat_cmp_total k) ∙ sym (eq-eqb q k same)
      | inr other ↦ not_equal _ (λ is. other (nat_cmp-IsAntisymmetric q k (is_equal _ is))) ∙ sym (grind (arith, common_steps, other))
    ]

turned : (q k : ℕ) → (q == k) ≡ (k == q)
turned q k = elim (cases_eq q k) [ inl is ↦ grind (arith, common_steps, is) | inr other ↦ grind (arith, common_steps, other) ]

pub lookup_found : (es : List (ℕ × ℕ)) (q : ℕ) → lookup (λ k. q == k) es ≡ map.find nat_cmp q es
lookup_found [] q = refl
lookup_found (e ∷ es) q = λ i. cond (sym (key_test q e.0) i) (Some e.1) (lookup_found es q i)

pub get-cases_in : {S : Type 0} (kept : HashMap ℕ ℕ S) (q : ℕ) → map.get (cases_in kept) q ≡ get ◌==◌ kept q
get-cases_in kept q = get-from_entries nat_cmp_total kept.entries q ∙ sym (lookup_found kept.entries q)

-- a key that was found has a case
pub has_case : {S : Type 0} (kept : HashMap ℕ ℕ S) (key : ℕ) → map.contains_key (cases_in kept) key ≡ is_some (get ◌==◌ kept key)
has_case kept key = ap is_some (get-cases_in kept key)

-- an entry that was put is a case more
pub case_put : {S : Type 0} (old new : HashMap ℕ ℕ S) (key block : ℕ) → ((q : ℕ) → get ◌==◌ new q ≡ cond (key == q) (Some block) (get ◌==◌ old q))
    → cases_in new ≡ map.insert (cases_in old) key block
case_put old new key block found =
    same_map nat_cmp_total nat_cmp-IsAntisymmetric _ _ (λ q.
    get-cases_in new q ∙ found q
    ∙ (λ i. cond (same q i) (Some block) (sym (get-cases_in old q) i))
    ∙ sym (get-insert nat_cmp_total (cases_in old) key block q))
  where
    same : (q : ℕ) → (key == q) ≡ eq_by_cmp nat_cmp q key
    same q = turned key q ∙ sym (key_test q key)

both : (a b : Bool) → T a → T b → T (a && b)
both true b p q = q
both false b p q = p

below_all_from : (x : ℕ) (es : List (ℕ × ℕ)) → AllByRecursion (λ y. nat_cmp x y ≡ Less) (keys_of es) → T (below_all nat_cmp x es)
below_all_from x [] below = tt
below_all_from x (e ∷ es) below = both (is_lt (nat_cmp x e.0)) (below_all nat_cmp x es) (subst (λ r. T (is_lt r)) (sym below.0) tt) (below_all_from x es below.1)

is_sorted_from : (es : List (ℕ × ℕ)) → IsStrictlySortedBy nat_cmp (keys_of es) → T (is_sorted nat_cmp es)
is_sorted_from [] rising = tt
is_sorted_from (e ∷ es) rising =
    both (below_all nat_cmp e.0 es) (is_sorted nat_cmp es) (below_all_from e.0 es (sorted_head nat_cmp e.0 (keys_of es) rising))
    (is_sorted_from es (sorted_tail nat_cmp e.0 (keys_of es) rising))

find_is : (q : ℕ) (es : List (ℕ × ℕ)) → map.find nat_cmp q es ≡ lookup (λ k. eq_by_cmp nat_cmp q k) es
find_is q [] = refl
find_is q (e ∷ es) = ap (λ rest. cond (eq_by_cmp nat_cmp q e.0) (Some e.1) rest) (find_is q es)

-- the entries of a hash map, put into a map in the keys' order, are the cases
pub sorted_cases : {S : Type 0} (kept : HashMap ℕ ℕ S) (sorted : List (ℕ × ℕ)) → IsStrictlySortedBy nat_cmp (keys_of sorted) → IsDistinct ◌==◌ (keys_of kept.entries)
    → ((q : ℕ) → lookup (λ k. eq_by_cmp nat_cmp q k) sorted ≡ update_all (eq_by_cmp nat_cmp) (λ _. None) kept.entries q)
    → sorted ≡ map.entries (cases_in kept)
sorted_cases kept sorted rising distinct found =
    same_entries nat_cmp nat_cmp_total nat_cmp-IsAntisymmetric sorted (map.entries (cases_in kept)) (is_sorted_from sorted rising) (map.entries_sorted (cases_in kept))
    (λ q. find_is q sorted ∙ found q ∙ update_all_none nat_eq_equiv (eq_by_cmp nat_cmp) key_test kept.entries q distinct
    ∙ sym (get-cases_in kept q) ∙ map.get-entries (cases_in kept) q)

-- what an iterator gave until nothing was left is what was there
pub yielded : (s : List (ℕ × ℕ)) (items : List (Bor ℕ × Bor ℕ)) (t : List (ℕ × ℕ)) → Yields (TakesFirst deref_pair) s items t → t ≡ [] → map_list deref_pair items ≡ s
yielded s [] t same none = sym (same ∙ none)
yielded s (x ∷ items) t gave none = ap (λ rest. deref_pair x ∷ rest) (yielded gave.0 items t gave.2 none) ∙ sym gave.1
