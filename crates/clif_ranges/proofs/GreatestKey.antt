-- The greatest key of a map's entries is the last one by order.
use Rattle.std.proofs.Common.{◌≡◌, ℕ, zero, suc, ◌<◌, ◌≤◌, ◌⊎◌, inl, inr, List, [], ◌∷◌, ◌++◌, Option, Some, true, false, T, Bool, cond, ◌&&◌, refl, sym, ap, subst, ◌∙◌, arith, eq-eqb}
use Rattle.std.specs.Prelude.{All, IfSome, MatchOption, is_some, max}
use Rattle.std.specs.List.{fold, reduce}
use Rattle.std.specs.Map.{keys_of}
use Rattle.std.specs.FinMap as map
use Rattle.std.specs.FinMap.{get-from_entries}
use Rattle.std.specs.HashMap.{HashMap}
use Rattle.std.specs.declared.cmp.Ordering.{Ordering}
use Rattle.std.specs.declared.cmp.Ordering.TheVariants.{Less, Equal, Greater}
use Rattle.std.specs.Ordering.{nat_cmp, eq_by_cmp, is_lt}
use Rattle.std.specs.FinMap.Entries.{below_all, is_sorted}
use Rattle.std.specs.Cmp.{nat_cmp_total, ranked}
use Rattle.std.proofs.lemmas.Bool.{cases_eq, cases_lt, ne_eqb}
use Rattle.clif_ranges.specs.Cases.{IsGreatestKey, cases_in}
use Rattle.clif_ranges.proofs.CaseMaps.{key_test}

-- the entries have the key
abbrev Has : List (ℕ × ℕ) → ℕ → Type 0
Has es q = is_some (map.find nat_cmp q es) ≡ true

has_first : (e : ℕ × ℕ) (es : List (ℕ × ℕ)) (q : ℕ) → q ≡ e.0 → Has (e ∷ es) q
has_first e es q same = ap (λ b. is_some (cond b (Some e.1) (map.find nat_cmp q es))) (key_test q e.0 ∙ eq-eqb q e.0 same)

has_later : (e : ℕ × ℕ) (es : List (ℕ × ℕ)) (q : ℕ) → Has es q → Has (e ∷ es) q
has_later e es q has = elim (eq_by_cmp nat_cmp q e.0) as (λ b. is_some (cond b (Some e.1) (map.find nat_cmp q es)) ≡ true) [ true ↦ refl | false ↦ has ]

has_which : (e : ℕ × ℕ) (es : List (ℕ × ℕ)) (q : ℕ) → Has (e ∷ es) q → (q ≡ e.0) ⊎ Has es q
has_which e es q has =
    elim (cases_eq q e.0) [
      | inl same ↦ inl same
      | inr other ↦ inr (subst (λ b. is_some (cond b (Some e.1) (map.find nat_cmp q es)) ≡ true) (key_test q e.0 ∙ ne_eqb q e.0 other) has)
    ]

has_none : (q : ℕ) → Has [] q → ⊥
has_none q has = cc

-- THE GREATEST ------------------------------------------------------------------------------------------------------------

-- the greatest of a number and the keys: it is one of them, and none is above it
greatest_of : (x : ℕ) (es : List (ℕ × ℕ)) → ((fold max x (keys_of es) ≡ x) ⊎ Has es (fold max x (keys_of es))) × (x ≤ fold max x (keys_of es)) × ((q : ℕ) → Has es q → q ≤ fold max x (keys_of es))
greatest_of x [] = (inl refl, omega arith, λ q has. absurd (has_none q has))
greatest_of x (e ∷ es) =
    let rest = greatest_of (max x e.0) es in
    let m : ℕ = fold max (max x e.0) (keys_of es) in (
      elim rest.0 [
        | inl same ↦ elim (either x e.0) [
          | inl first ↦ inl (same ∙ first)
          | inr second ↦ inr (has_first e es m (same ∙ second))
        ]
        | inr has ↦ inr (has_later e es m has)
      ],
      let up = rest.1 in omega (arith, up),
      λ q has. elim (has_which e es q has) [ inl same ↦ (let up = rest.1 in omega (arith, up, same)) | inr later ↦ rest.2 q later ],
    )
  where
    either : (a b : ℕ) → (max a b ≡ a) ⊎ (max a b ≡ b)
    either a b = elim (cases_lt a b) [ inl less ↦ inr (omega (arith, less)) | inr more ↦ inl (omega (arith, more)) ]

parts : (a b : Bool) → T (a && b) → T a × T b
parts true b both = (tt, both)
parts false b both = absurd both

-- the first of sorted entries is below the next one
key_below : (e f : ℕ × ℕ) (es : List (ℕ × ℕ)) → T (is_sorted nat_cmp (e ∷ (f ∷ es))) → (e.0 < f.0) × T (is_sorted nat_cmp (f ∷ es))
key_below e f es sorted =
    let first = parts (below_all nat_cmp e.0 (f ∷ es)) (is_sorted nat_cmp (f ∷ es)) sorted in
    let less = parts (is_lt (nat_cmp e.0 f.0)) (below_all nat_cmp e.0 es) first.0 in
    (ranked e.0 f.0 Less (sym (is_less _ less.0)), first.1)
  where
    is_less : (r : Ordering) → T (is_lt r) → r ≡ Less
    is_less Less is = refl
    is_less Equal is = absurd is
    is_less Greater is = absurd is

-- sorted entries end with a key that they have, if none is above it
last_by : (es : List (ℕ × ℕ)) (m : ℕ) → T (is_sorted nat_cmp es) → Has es m → ((q : ℕ) → Has es q → q ≤ m) → (front : List (ℕ × ℕ)) × (block : ℕ) × (es ≡ front ++ (m, block) ∷ [])
last_by [] m sorted has top = absurd (has_none m has)
last_by (e ∷ []) m sorted has top =
    elim (has_which e [] m has) [
      | inl same ↦ ([], e.1, ap (λ k. (k, e.1) ∷ []) (sym same))
      | inr later ↦ absurd (has_none m later)
    ]
last_by (e ∷ (f ∷ es)) m sorted has top =
    let below = key_below e f es sorted in
    let tops = top f.0 (has_later e (f ∷ es) f.0 (has_first f es f.0 refl)) in
    elim (has_which e (f ∷ es) m has) [
      | inl same ↦ absurd (omega (arith, same, below.0, tops))
      | inr later ↦
          let rest = last_by (f ∷ es) m below.1 later (λ q is. top q (has_later e (f ∷ es) q is)) in
          (e ∷ rest.0, rest.1, ap (λ list. e ∷ list) rest.2)
    ]

-- a bound of the keys that they have is a bound of all
all_below : (es : List (ℕ × ℕ)) (m : ℕ) → ((q : ℕ) → Has es q → q ≤ m) → All (λ e. e.0 ≤ m) es
all_below [] m top k d inside = absurd (omega (arith, inside))
all_below (e ∷ es) m top zero d inside = top e.0 (has_first e es e.0 refl)
all_below (e ∷ es) m top (suc k) d inside = all_below es m (λ q is. top q (has_later e es q is)) k d (omega (arith, inside))

-- the greatest key of some entries
found : (e : ℕ × ℕ) (es : List (ℕ × ℕ)) → Has (e ∷ es) (fold max e.0 (keys_of es))
found e es = elim (greatest_of e.0 es).0 [ inl same ↦ has_first e es _ same | inr has ↦ has_later e es _ has ]

top_of : (e : ℕ × ℕ) (es : List (ℕ × ℕ)) (q : ℕ) → Has (e ∷ es) q → q ≤ fold max e.0 (keys_of es)
top_of e es q has =
    let greatest = greatest_of e.0 es in
    elim (has_which e es q has) [ inl same ↦ (let up = greatest.1 in omega (arith, up, same)) | inr later ↦ greatest.2 q later ]

-- sorted entries with the same keys as some others
module _ (fs : List (ℕ × ℕ)) (sorted : T (is_sorted nat_cmp fs)) where
  no_key : (list : List (ℕ × ℕ)) → ((q : ℕ) → Has list q → Has [] q) → list ≡ []
  no_key [] forth = refl
  no_key (f ∷ list) forth = absurd (has_none f.0 (forth f.0 (has_first f list f.0 refl)))

  last_of : (es : List (ℕ × ℕ)) → ((q : ℕ) → Has fs q → Has es q) → ((q : ℕ) → Has es q → Has fs q)
      → MatchOption (reduce max (keys_of es)) (fs ≡ []) (λ m. (front : List (ℕ × ℕ)) × (block : ℕ) × (fs ≡ front ++ (m, block) ∷ []))
  last_of [] forth back = no_key fs forth
  last_of (e ∷ es) forth back = last_by fs (fold max e.0 (keys_of es)) sorted (back _ (found e es)) (λ q has. top_of e es q (forth q has))

  below_last : (es : List (ℕ × ℕ)) → ((q : ℕ) → Has fs q → Has es q) → IfSome (reduce max (keys_of es)) (λ m. All (λ e. e.0 ≤ m) fs)
  below_last [] forth = tt
  below_last (e ∷ es) forth = all_below fs (fold max e.0 (keys_of es)) (λ q has. top_of e es q (forth q has))

module _ {S : Type 0} (kept : HashMap ℕ ℕ S) where
  -- the cases have the keys that were put
  has_same : (q : ℕ) → Has (map.entries (cases_in kept)) q ≡ Has kept.entries q
  has_same q = ap (λ (o : Option ℕ). is_some o ≡ true) (sym (map.get-entries (cases_in kept) q) ∙ get-from_entries nat_cmp_total kept.entries q)

  forth : (q : ℕ) → Has (map.entries (cases_in kept)) q → Has kept.entries q
  forth q has = subst (λ (t : Type 0). t) (has_same q) has

  back : (q : ℕ) → Has kept.entries q → Has (map.entries (cases_in kept)) q
  back q has = subst (λ (t : Type 0). t) (sym (has_same q)) has

  pub last_key : (r : Option ℕ) → r ≡ reduce max (keys_of kept.entries) → MatchOption r (map.entries (cases_in kept) ≡ []) (IsGreatestKey (cases_in kept))
  last_key r is =
      subst (λ (o : Option ℕ). MatchOption o (map.entries (cases_in kept) ≡ []) (IsGreatestKey (cases_in kept))) (sym is)
      (last_of (map.entries (cases_in kept)) (map.entries_sorted (cases_in kept)) kept.entries forth back)

  pub keys_below : (r : Option ℕ) → r ≡ reduce max (keys_of kept.entries) → IfSome r (λ m. All (λ e. e.0 ≤ m) (map.entries (cases_in kept)))
  keys_below r is =
      subst (λ (o : Option ℕ). IfSome o (λ m. All (λ e. e.0 ≤ m) (map.entries (cases_in kept)))) (sym is)
      (below_last (map.entries (cases_in kept)) (map.entries_sorted (cases_in kept)) kept.entries forth)
