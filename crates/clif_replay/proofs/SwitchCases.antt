-- The entries of a switch as a list and as a finite map: whether a key comes twice, and what holds of all cases.
use Rattle.std.proofs.Common.{◌≡◌, inl, inr, ℕ, suc, List, [], ◌∷◌, ◌++◌, cond, length, refl, ap, ap₂, arith, sym, ◌∙◌}
use Rattle.std.specs.Prelude.{◌==◌, ◌&&◌, ◌||◌, nat_lt, Bool, true, false, Option, Some, None, is_some, map}
use Rattle.std.specs.List.{list_all, list_any}
use Rattle.std.specs.Cmp.{nat_cmp_total}
use Rattle.std.specs.FinMap as finite
use Rattle.std.specs.FinMap.{entries-insert, get-entries, get-from_entries, len-empty, len-entries}
use Rattle.std.specs.FinMap.Entries.{by_order, find, is_some-find, put}
use Rattle.std.specs.Ordering.{eq_by_cmp, is_eq, nat_cmp}
use Rattle.std.specs.declared.cmp.Ordering.{Ordering}
use Rattle.std.specs.declared.cmp.Ordering.TheVariants.{Less, Equal, Greater}
use Rattle.std.proofs.lemmas.Bool.{and_parts, cases_eq, false≢true}
use Rattle.std.proofs.lemmas.Bool.Decides.{nat_tests}
use Rattle.std.proofs.lemmas.Option.{none-some}
use Rattle.clif_expansion.specs.Keys.{has_key_twice, is_key}

-- KEYS --------------------------------------------------------------------------------------------------------------------

abbrev is_one : ℕ → ℕ → Bool
is_one key other = nat_lt key (suc other) && nat_lt other (suc key)

one-turned : (a b : ℕ) → is_one a b ≡ is_one b a
one-turned a b = by (nat_lt a (suc b)) (nat_lt b (suc a))
  where
    by : (c d : Bool) → (c && d) ≡ (d && c)
    by true true = refl
    by true false = refl
    by false true = refl
    by false false = refl

-- two keys tie where they are one
one-tied : (key other : ℕ) → eq_by_cmp nat_cmp key other ≡ is_one key other
one-tied key other =
    elim (cases_eq key other) [
      | inl same ↦
          let below : nat_lt key other ≡ false = grind (arith, nat_tests) in
          let equal : (key == other) ≡ true = grind (arith, nat_tests) in
          let first : nat_lt key (suc other) ≡ true = grind (arith, nat_tests) in
          let second : nat_lt other (suc key) ≡ true = grind (arith, nat_tests) in
          ap₂ (λ (a b : Bool). is_eq (cond a Less (cond b Equal Greater))) below equal ∙ sym (ap₂ (λ (a b : Bool). a && b) first second)
      | inr apart ↦ by (nat_lt key other) refl apart
    ]
  where
    by : (c : Bool) → nat_lt key other ≡ c → (key ≡ other → ⊥) → eq_by_cmp nat_cmp key other ≡ is_one key other
    by true less apart =
        let second : nat_lt other (suc key) ≡ false = grind (arith, nat_tests) in
        let first : nat_lt key (suc other) ≡ true = grind (arith, nat_tests) in
        ap (λ (a : Bool). is_eq (cond a Less (cond (key == other) Equal Greater))) less ∙ sym (ap₂ (λ (a b : Bool). a && b) first second)
    by false less apart =
        let equal : (key == other) ≡ false = grind (arith, nat_tests, apart) in
        let first : nat_lt key (suc other) ≡ false = grind (arith, nat_tests, apart) in
        ap₂ (λ (a b : Bool). is_eq (cond a Less (cond b Equal Greater))) less equal ∙ sym (ap (λ (a : Bool). a && nat_lt other (suc key)) first)

abbrev pub keys_in : {X : Type 0} → List (ℕ × X) → List ℕ
keys_in entries = map (λ case. case.0) entries

-- a key is found where it is a key
pub found-key : {X : Type 0} (entries : List (ℕ × X)) (key : ℕ) → is_some (find nat_cmp key entries) ≡ is_key (keys_in entries) key
found-key entries key = is_some-find nat_cmp key entries ∙ same (keys_in entries)
  where
    same : (keys : List ℕ) → list_any (eq_by_cmp nat_cmp key) keys ≡ is_key keys key
    same [] = refl
    same (other ∷ keys) = ap₂ (λ (a b : Bool). a || b) (one-tied key other) (same keys)

key-push : (keys : List ℕ) (last key : ℕ) → is_key (keys ++ last ∷ []) key ≡ (is_key keys key || is_one key last)
key-push [] last key = by (is_one key last)
  where
    by : (c : Bool) → (c || false) ≡ (false || c)
    by true = refl
    by false = refl
key-push (other ∷ keys) last key = ap (λ (rest : Bool). is_one key other || rest) (key-push keys last key) ∙ by (is_one key other) (is_key keys key) (is_one key last)
  where
    by : (a b c : Bool) → (a || (b || c)) ≡ ((a || b) || c)
    by true b c = refl
    by false b c = refl

-- one key more comes twice where it is one of those before it
pub twice-push : (keys : List ℕ) (key : ℕ) → has_key_twice (keys ++ key ∷ []) ≡ (has_key_twice keys || is_key keys key)
twice-push [] key = refl
twice-push (other ∷ keys) key =
    ap₂ (λ (a b : Bool). a || b) (key-push keys key other ∙ ap (λ (one : Bool). is_key keys other || one) (one-turned other key)) (twice-push keys key)
    ∙ by (is_key keys other) (is_one key other) (has_key_twice keys) (is_key keys key)
  where
    by : (a b c d : Bool) → ((a || b) || (c || d)) ≡ ((a || c) || (b || d))
    by true b c d = refl
    by false true true d = refl
    by false true false d = refl
    by false false c d = refl

any-key : (keys rest : List ℕ) (key : ℕ) → is_key keys key ≡ true → is_key (keys ++ rest) key ≡ true
any-key [] rest key is = absurd (false≢true is)
any-key (other ∷ keys) rest key is = by (is_one key other) is (any-key keys rest key)
  where
    by : (c : Bool) → (c || is_key keys key) ≡ true → (is_key keys key ≡ true → is_key (keys ++ rest) key ≡ true) → (c || is_key (keys ++ rest) key) ≡ true
    by true is later = refl
    by false is later = later is

-- what comes twice among the first keys comes twice among all
pub twice-front : (keys rest : List ℕ) → has_key_twice keys ≡ true → has_key_twice (keys ++ rest) ≡ true
twice-front [] rest is = absurd (false≢true is)
twice-front (key ∷ keys) rest is = by (is_key keys key) refl is (twice-front keys rest)
  where
    or-second : (a : Bool) → (a || true) ≡ true
    or-second true = refl
    or-second false = refl

    by : (c : Bool) → is_key keys key ≡ c → (c || has_key_twice keys) ≡ true → (has_key_twice keys ≡ true → has_key_twice (keys ++ rest) ≡ true)
        → (is_key (keys ++ rest) key || has_key_twice (keys ++ rest)) ≡ true
    by true one is later = ap (λ (a : Bool). a || has_key_twice (keys ++ rest)) (any-key keys rest key one)
    by false one is later = ap (λ (b : Bool). is_key (keys ++ rest) key || b) (later is) ∙ or-second (is_key (keys ++ rest) key)

-- THE MAP -----------------------------------------------------------------------------------------------------------------

-- there is no entry at first
none-kept : (X : Type 0) → finite.entries (finite.empty {X = X} {R = nat_cmp}) ≡ []
none-kept X = by (finite.entries (finite.empty {X = X} {R = nat_cmp})) (sym (len-entries (finite.empty {X = X} {R = nat_cmp})) ∙ len-empty nat_cmp X)
  where
    by : (list : List (ℕ × X)) → length list ≡ 0 → list ≡ []
    by [] none = refl
    by (e ∷ list) none = let no_way : ⊥ = omega (arith, none) in absurd no_way

module _ {X Y : Type 0} (f : X → Y) where
  abbrev each : ℕ × X → ℕ × Y
  each e = (e.0, f e.1)

  put-mapped : (k : ℕ) (v : X) (entries : List (ℕ × X)) → put nat_cmp k (f v) (map each entries) ≡ map each (put nat_cmp k v entries)
  put-mapped k v [] = refl
  put-mapped k v (e ∷ entries) = by (nat_cmp k e.0) (put-mapped k v entries)
    where
      by : (o : Ordering) → put nat_cmp k (f v) (map each entries) ≡ map each (put nat_cmp k v entries)
          → by_order o ((k, f v) ∷ each e ∷ map each entries) ((e.0, f v) ∷ map each entries) (each e ∷ put nat_cmp k (f v) (map each entries))
          ≡ map each (by_order o ((k, v) ∷ e ∷ entries) ((e.0, v) ∷ entries) (e ∷ put nat_cmp k v entries))
      by Less later = refl
      by Equal later = refl
      by Greater later = ap (λ (rest : List (ℕ × Y)). each e ∷ rest) later

  -- the map of entries with other values has these values
  pub map-mapped : (entries : List (ℕ × X)) → finite.entries (finite.from_entries {R = nat_cmp} (map each entries)) ≡ map each (finite.entries (finite.from_entries {R = nat_cmp} entries))
  map-mapped [] = ap (λ (list : List (ℕ × Y)). list) (none-kept Y) ∙ sym (ap (map each) (none-kept X))
  map-mapped (e ∷ entries) =
      entries-insert nat_cmp_total (finite.from_entries (map each entries)) e.0 (f e.1)
      ∙ ap (put nat_cmp e.0 (f e.1)) (map-mapped entries)
      ∙ put-mapped e.0 e.1 (finite.entries (finite.from_entries entries))
      ∙ ap (map each) (sym (entries-insert nat_cmp_total (finite.from_entries entries) e.0 e.1))

  -- and the same keys
  pub same-keys : (entries : List (ℕ × X)) → keys_in (map each entries) ≡ keys_in entries
  same-keys [] = refl
  same-keys (e ∷ entries) = ap (λ (rest : List ℕ). e.0 ∷ rest) (same-keys entries)

-- What holds of all entries, of which no key comes twice, holds of the map's.
module _ {X : Type 0} (p : X → Bool) where
  abbrev test : ℕ × X → Bool
  test e = p e.1

  swapped : (a b c : Bool) → (a && (b && c)) ≡ (b && (a && c))
  swapped true true c = refl
  swapped true false c = refl
  swapped false true c = refl
  swapped false false c = refl

  put-all : (k : ℕ) (v : X) (entries : List (ℕ × X)) → find nat_cmp k entries ≡ None → list_all test (put nat_cmp k v entries) ≡ (p v && list_all test entries)
  put-all k v [] none = refl
  put-all k v (e ∷ entries) none = by (nat_cmp k e.0) none (put-all k v entries)
    where
      by : (o : Ordering) → cond (is_eq o) (Some e.1) (find nat_cmp k entries) ≡ None
          → (find nat_cmp k entries ≡ None → list_all test (put nat_cmp k v entries) ≡ (p v && list_all test entries))
          → list_all test (by_order o ((k, v) ∷ e ∷ entries) ((e.0, v) ∷ entries) (e ∷ put nat_cmp k v entries)) ≡ (p v && (p e.1 && list_all test entries))
      by Less none later = refl
      by Equal none later = absurd (none-some e.1 (sym none))
      by Greater none later = ap (λ (rest : Bool). p e.1 && rest) (later none) ∙ swapped (p e.1) (p v) (list_all test entries)

  not-found : (o : Option X) → is_some o ≡ false → o ≡ None
  not-found None is = refl
  not-found (Some x) is = absurd (false≢true (sym is))

  once-parts : (a b : Bool) → (a || b) ≡ false → (a ≡ false) × (b ≡ false)
  once-parts true b is = absurd (false≢true (sym is))
  once-parts false b is = (refl, is)

  pub all-entries : (entries : List (ℕ × X)) → has_key_twice (keys_in entries) ≡ false → list_all test (finite.entries (finite.from_entries {R = nat_cmp} entries)) ≡ list_all test entries
  all-entries [] once = ap (list_all test) (none-kept X)
  all-entries (e ∷ entries) once =
      let parts = once-parts (is_key (keys_in entries) e.0) (has_key_twice (keys_in entries)) once in
      let missing : find nat_cmp e.0 (finite.entries (finite.from_entries entries)) ≡ None =
      sym (get-entries (finite.from_entries entries) e.0) ∙ get-from_entries nat_cmp_total entries e.0
      ∙ not-found (find nat_cmp e.0 entries) (found-key entries e.0 ∙ parts.0) in
      ap (list_all test) (entries-insert nat_cmp_total (finite.from_entries entries) e.0 e.1)
      ∙ put-all e.0 e.1 (finite.entries (finite.from_entries entries)) missing
      ∙ ap (λ (rest : Bool). p e.1 && rest) (all-entries entries parts.1)

  -- where a test holds of all, what is the same under the test is the same of all
  pub maps-alike : {Y : Type 0} (f g : X → Y) → ((x : X) → p x ≡ true → f x ≡ g x) → (entries : List (ℕ × X)) → list_all test entries ≡ true
      → map (λ e. f e.1) entries ≡ map (λ e. g e.1) entries
  maps-alike f g same [] all = refl
  maps-alike f g same (e ∷ entries) all =
      let parts = and_parts (p e.1) (list_all test entries) all in
      ap₂ (λ x rest. x ∷ rest) (same e.1 parts.0) (maps-alike f g same entries parts.1)
