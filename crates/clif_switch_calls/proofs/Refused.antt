-- The keys of cases are refused where their ranges are.
use Rattle.std.proofs.Common.{◌≡◌, ◌<◌, ◌≤◌, ◌+◌, ℕ, zero, suc, Bool, true, false, List, [], ◌∷◌, ◌++◌, length, refl, sym, ◌∙◌, ap, ap₂, subst, arith, inl, inr, T, cond}
use Rattle.std.specs.Prelude.{◌⊎◌, ◌&&◌, ◌||◌, ◌==◌, ◌^◌, not, nat_lt, if◌then◌else◌, is_some, Option, Some, None, All, Contains}
use Rattle.std.specs.List.{AllByRecursion, enumerate_from, flat_map, list_any}
use Rattle.std.specs.Ordering.{is_lt, nat_cmp}
use Rattle.std.specs.declared.cmp.Ordering.TheVariants.{Less, Equal, Greater}
use Rattle.std.specs.FinMap as finite
use Rattle.std.specs.FinMap.{entries_sorted}
use Rattle.std.specs.FinMap.Entries.{below_all, is_sorted}
use Rattle.std.proofs.lemmas.Bool.{cases_lt}
use Rattle.std.proofs.lemmas.Bool.Decides.{nat_tests}
use Rattle.std.proofs.lemmas.List.{length-append}
use Rattle.std.proofs.lemmas.List.Elements.{All-from_recursion, recursion_from_All}
use Rattle.std.proofs.lemmas.List.Folds.{list_any-append}
use Rattle.clif_types.specs.Types.{greatest_of}
use Rattle.clif_types.specs.declared.types.«Type».{«Type»}
use Rattle.clif_ranges.specs.declared.error.SwitchError.{SwitchError}
use Rattle.clif_ranges.specs.declared.error.SwitchError.TheVariants as switch_error
use Rattle.clif_ranges.specs.declared.ranges.CaseRange.{CaseRange}
use Rattle.clif_ranges.specs.Cases.{AreRangesFor, CaseMap, FitsTable, IsRefusal}
use Rattle.clif_ranges.specs.Ranges.{AreRangesOf, cases_of, end_of}
use Rattle.clif_expansion.specs.Keys.{SetTwice, SwitchRefusal, TooGreat, TooLong, has_key_twice, is_key, keys_refusal, run_from}
use Rattle.clif_expansion.proofs.Placing.{contained_first, contained_in, contained_later, none_contained}
use Rattle.clif_switch_calls.specs.SwitchLaw.{RefusalsAreOfKeys, case_keys, refusal_in}
use Rattle.clif_switch_calls.proofs.Counted.{Separate, Outside, all_keys, keys_both, keys_of, none_with, one_other, one_with, or_right, outside_later, separate}

-- KEYS RISE ---------------------------------------------------------------------------------------------------------------

abbrev Rise : List ℕ → Type 0
Rise [] = Unit {0}
Rise (key ∷ keys) = AllByRecursion (λ other. key < other) keys × Rise keys

both : (a b : Bool) → T (a && b) → T a × T b
both true b h = (tt, h)
both false b h = absurd h

less : (x y : ℕ) → T (is_lt (nat_cmp x y)) → x < y
less x y h = by (nat_lt x y) refl h
  where
    other : (same : Bool) → T (is_lt (cond same Equal Greater)) → ⊥
    other true h = h
    other false h = h

    by : (c : Bool) → nat_lt x y ≡ c → T (is_lt (cond c Less (cond (x == y) Equal Greater))) → x < y
    by true is h = grind (arith, nat_tests)
    by false is h = absurd (other (x == y) h)

all_above : (x : ℕ) (entries : List (ℕ × ℕ)) → T (below_all nat_cmp x entries) → AllByRecursion (λ other. x < other) (keys_of entries)
all_above x [] h = tt
all_above x (case ∷ entries) h =
    let parts = both (is_lt (nat_cmp x case.0)) (below_all nat_cmp x entries) h in
    (less x case.0 parts.0, all_above x entries parts.1)

rise : (entries : List (ℕ × ℕ)) → T (is_sorted nat_cmp entries) → Rise (keys_of entries)
rise [] h = tt
rise (case ∷ entries) h =
    let parts = both (below_all nat_cmp case.0 entries) (is_sorted nat_cmp entries) h in
    (all_above case.0 entries parts.0, rise entries parts.1)

not_among : (key : ℕ) (keys : List ℕ) → AllByRecursion (λ other. key < other) keys → is_key keys key ≡ false
not_among key [] all = refl
not_among key (other ∷ keys) all = ap₂ (λ (a b : Bool). a || b) (one_other key other (inl all.0)) (not_among key keys all.1)

none_twice : (keys : List ℕ) → Rise keys → has_key_twice keys ≡ false
none_twice [] all = refl
none_twice (key ∷ keys) all = ap₂ (λ (a b : Bool). a || b) (not_among key keys all.0) (none_twice keys all.1)

cases_once : (cases : CaseMap) → has_key_twice (case_keys cases) ≡ false
cases_once cases = none_twice (case_keys cases) (rise (finite.entries cases) (entries_sorted cases))

-- NUMBERS OF THE TYPE -----------------------------------------------------------------------------------------------------

last_greater : (most max block : ℕ) (front : List (ℕ × ℕ)) → most < max → list_any (nat_lt most) (keys_of (front ++ (max, block) ∷ [])) ≡ true
last_greater most max block front over =
    let is : nat_lt most max ≡ true = grind (arith, nat_tests) in
    ap (list_any (nat_lt most)) (keys_both front ((max, block) ∷ [])) ∙ list_any-append (nat_lt most) (keys_of front) (max ∷ [])
    ∙ or_right (list_any (nat_lt most) (keys_of front)) (nat_lt most max || false) (ap (λ (c : Bool). c || false) is)

none_greater : (most : ℕ) (entries : List (ℕ × ℕ)) → AllByRecursion (λ (case : ℕ × ℕ). case.0 ≤ most) entries → list_any (nat_lt most) (keys_of entries) ≡ false
none_greater most [] all = refl
none_greater most (case ∷ entries) all =
    let here : case.0 ≤ most = all.0 in
    let is : nat_lt most case.0 ≡ false = grind (arith, nat_tests) in
    ap₂ (λ (a b : Bool). a || b) is (none_greater most entries all.1)

-- RUNS --------------------------------------------------------------------------------------------------------------------

run_short : (keys : List ℕ) (key n : ℕ) (all : List ℕ) → is_key keys (key + n) ≡ false → run_from keys key all ≤ n
run_short keys key n [] none = omega arith
run_short keys key zero (other ∷ all) none =
    let here : key + 0 ≡ key = omega arith in
    let is : is_key keys key ≡ false = subst (λ (k : ℕ). is_key keys k ≡ false) here none in
    let empty : run_from keys key (other ∷ all) ≡ 0 = ap (λ (c : Bool). if c then suc (run_from keys (suc key) all) else 0) is in
    omega (arith, empty)
run_short keys key (suc n) (other ∷ all) none =
    let next : key + suc n ≡ suc key + n = omega arith in
    let rest = run_short keys (suc key) n all (subst (λ (k : ℕ). is_key keys k ≡ false) next none) in
    by (is_key keys key) rest
  where
    by : (c : Bool) → run_from keys (suc key) all ≤ n → (if c then suc (run_from keys (suc key) all) else 0) ≤ suc n
    by true rest = omega (arith, rest)
    by false rest = omega arith

run_long : (keys : List ℕ) (key count : ℕ) (all : List ℕ) → count ≤ length all → ((other : ℕ) → key ≤ other → other < key + count → is_key keys other ≡ true) → count ≤ run_from keys key all
run_long keys key zero all enough are = omega arith
run_long keys key (suc count) [] enough are = let no_way : ⊥ = omega (arith, enough) in absurd no_way
run_long keys key (suc count) (other ∷ all) enough are =
    let rest = run_long keys (suc key) count all (omega (arith, enough)) (λ k at below. are k (omega (arith, at)) (omega (arith, below))) in
    let one : run_from keys key (other ∷ all) ≡ suc (run_from keys (suc key) all) =
    ap (λ (c : Bool). if c then suc (run_from keys (suc key) all) else 0) (are key (omega arith) (omega arith)) in
    omega (arith, rest, one)

-- as many keys follow one another as no table has entries
abbrev is_too_long : List ℕ → ℕ → Bool
is_too_long keys key = not (nat_lt (run_from keys key keys) (2 ^ 32))

range_fits : (keys : List ℕ) (first : ℕ) (blocks : List ℕ) → is_key keys (first + length blocks) ≡ false → length blocks < 2 ^ 32 → list_any (is_too_long keys) (keys_of (enumerate_from first blocks)) ≡ false
range_fits keys first [] none short = refl
range_fits keys first (block ∷ blocks) none short =
    let run = run_short keys first (length (block ∷ blocks)) keys none in
    let below : run_from keys first keys < 2 ^ 32 = omega (arith, run, short) in
    let is : nat_lt (run_from keys first keys) (2 ^ 32) ≡ true = grind (arith, nat_tests) in
    let next : first + suc (length blocks) ≡ first + 1 + length blocks = omega arith in
    ap₂ (λ (a b : Bool). a || b) (ap not is)
    (range_fits keys (first + 1) blocks (subst (λ (k : ℕ). is_key keys k ≡ false) next none) (omega (arith, short)))

ranges_fit : (keys : List ℕ) (ranges : List CaseRange) → ((range : CaseRange) → Contains ranges range → is_key keys (end_of range) ≡ false) → AllByRecursion FitsTable ranges
    → list_any (is_too_long keys) (all_keys ranges) ≡ false
ranges_fit keys [] ends fit = refl
ranges_fit keys (range ∷ ranges) ends fit =
    let here : list_any (is_too_long keys) (keys_of (cases_of range)) ≡ false =
    range_fits keys range.first range.blocks.items (ends range (contained_first range ranges)) fit.0 in
    let later : list_any (is_too_long keys) (all_keys ranges) ≡ false =
    ranges_fit keys ranges (λ other there. ends other (contained_later range ranges other there)) fit.1 in
    ap (list_any (is_too_long keys)) (keys_both (cases_of range) (flat_map cases_of ranges))
    ∙ list_any-append (is_too_long keys) (keys_of (cases_of range)) (all_keys ranges) ∙ ap₂ (λ (a b : Bool). a || b) here later

all_at : {X : Type 0} (P : X → Type 0) (xs : List X) (x : X) → AllByRecursion P xs → Contains xs x → P x
all_at P [] x all here = absurd (none_contained x here)
all_at {X} P (y ∷ xs) x all here = by (contained_in y xs x here) (λ further. all_at P xs x all.1 further)
  where
    by : (y ≡ x) ⊎ Contains xs x → (Contains xs x → P x) → P x
    by (inl same) later = subst P same all.0
    by (inr further) later = later further

-- the key behind a range is in none
ends_out : (ranges : List CaseRange) (range : CaseRange) → Separate [] ranges → Contains ranges range → AllByRecursion (Outside (end_of range)) ranges
ends_out [] range apart here = tt
ends_out (first ∷ ranges) range apart here = by (contained_in first ranges range here) (λ further. ends_out ranges range apart.1 further)
  where
    by : (first ≡ range) ⊎ Contains ranges range → (Contains ranges range → AllByRecursion (Outside (end_of range)) ranges) → AllByRecursion (Outside (end_of range)) (first ∷ ranges)
    by (inl same) later =
        subst (λ (r : CaseRange). AllByRecursion (Outside (end_of r)) (first ∷ ranges)) same
        (inr (omega arith), outside_later [] (end_of first) first ranges (omega arith) apart.0)
    by (inr further) later =
        let gap : end_of first < range.first = all_at (λ (other : CaseRange). end_of first < other.first) ranges range apart.0 further in
        (inr (omega (arith, gap)), later further)

keys_fit : (ranges : List CaseRange) → Separate [] ranges → AllByRecursion FitsTable ranges → list_any (is_too_long (all_keys ranges)) (all_keys ranges) ≡ false
keys_fit ranges apart fit = ranges_fit (all_keys ranges) ranges (λ range here. none_with ranges (end_of range) (ends_out ranges range apart here)) fit

-- a range that is too long, where there is one
find_long : (ranges : List CaseRange) → AllByRecursion FitsTable ranges ⊎ ((range : CaseRange) × Contains ranges range × 2 ^ 32 ≤ length range.blocks.items)
find_long [] = inl tt
find_long (range ∷ ranges) = by (cases_lt (length range.blocks.items) (2 ^ 32)) (find_long ranges)
  where
    by : (length range.blocks.items < 2 ^ 32) ⊎ (2 ^ 32 ≤ length range.blocks.items) → AllByRecursion FitsTable ranges ⊎ ((range : CaseRange) × Contains ranges range × 2 ^ 32 ≤ length range.blocks.items)
        → AllByRecursion FitsTable (range ∷ ranges) ⊎ ((one : CaseRange) × Contains (range ∷ ranges) one × 2 ^ 32 ≤ length one.blocks.items)
    by (inl short) (inl fit) = inl (short, fit)
    by (inl short) (inr (other, there, long)) = inr (other, contained_later range ranges other there, long)
    by (inr long) rest = inr (range, contained_first range ranges, long)

length_of : (first : ℕ) (blocks : List ℕ) → length (keys_of (enumerate_from first blocks)) ≡ length blocks
length_of first [] = refl
length_of first (block ∷ blocks) = ap suc (length_of (first + 1) blocks)

any_first : (test : ℕ → Bool) (first : ℕ) (blocks : List ℕ) → 0 < length blocks → test first ≡ true → list_any test (keys_of (enumerate_from first blocks)) ≡ true
any_first test first [] some is = let no_way : ⊥ = omega (arith, some) in absurd no_way
any_first test first (block ∷ blocks) some is = ap (λ (c : Bool). c || list_any test (keys_of (enumerate_from (first + 1) blocks))) is

module _ (range : CaseRange) where
  enough_keys : (ranges : List CaseRange) → Contains ranges range → length range.blocks.items ≤ length (all_keys ranges)
  enough_keys [] here = absurd (none_contained range here)
  enough_keys (first ∷ ranges) here = by (contained_in first ranges range here) (λ further. enough_keys ranges further)
    where
      whole : length (all_keys (first ∷ ranges)) ≡ length first.blocks.items + length (all_keys ranges)
      whole =
          let parts = ap length (keys_both (cases_of first) (flat_map cases_of ranges)) ∙ length-append (keys_of (cases_of first)) (all_keys ranges) in
          let one = length_of first.first first.blocks.items in
          omega (arith, parts, one)

      by : (first ≡ range) ⊎ Contains ranges range → (Contains ranges range → length range.blocks.items ≤ length (all_keys ranges)) → length range.blocks.items ≤ length (all_keys (first ∷ ranges))
      by (inl same) later =
          let is : length first.blocks.items ≡ length range.blocks.items = ap (λ (r : CaseRange). length r.blocks.items) same in
          omega (arith, whole, is)
      by (inr further) later = let rest = later further in omega (arith, whole, rest)

  any_at : (test : ℕ → Bool) (ranges : List CaseRange) → Contains ranges range → 0 < length range.blocks.items → test range.first ≡ true → list_any test (all_keys ranges) ≡ true
  any_at test [] here some is = absurd (none_contained range here)
  any_at test (first ∷ ranges) here some is =
      ap (list_any test) (keys_both (cases_of first) (flat_map cases_of ranges)) ∙ list_any-append test (keys_of (cases_of first)) (all_keys ranges)
      ∙ by (contained_in first ranges range here) (λ further. any_at test ranges further some is)
    where
      by : (first ≡ range) ⊎ Contains ranges range → (Contains ranges range → list_any test (all_keys ranges) ≡ true) → (list_any test (keys_of (cases_of first)) || list_any test (all_keys ranges)) ≡ true
      by (inl same) later =
          ap (λ (c : Bool). c || list_any test (all_keys ranges))
          (subst (λ (r : CaseRange). list_any test (keys_of (cases_of r)) ≡ true) (sym same) (any_first test range.first range.blocks.items some is))
      by (inr further) later = or_right (list_any test (keys_of (cases_of first))) (list_any test (all_keys ranges)) (later further)

keys_too_long : (ranges : List CaseRange) (range : CaseRange) → Contains ranges range → 2 ^ 32 ≤ length range.blocks.items → list_any (is_too_long (all_keys ranges)) (all_keys ranges) ≡ true
keys_too_long ranges range here long =
    let keys : List ℕ = all_keys ranges in
    let run : length range.blocks.items ≤ run_from keys range.first keys =
    run_long keys range.first (length range.blocks.items) keys (enough_keys range ranges here) (λ key at below. one_with ranges range key here at below) in
    let over : 2 ^ 32 ≤ run_from keys range.first keys = omega (arith, run, long) in
    let is : nat_lt (run_from keys range.first keys) (2 ^ 32) ≡ false = grind (arith, nat_tests) in
    any_at range (is_too_long keys) ranges here (omega (arith, long)) (ap not is)

-- REFUSALS ----------------------------------------------------------------------------------------------------------------

-- the first reason of three that there is
abbrev first_of : (twice great long : Bool) → Option SwitchRefusal
first_of twice great long = if twice then Some SetTwice else (if great then Some TooGreat else (if long then Some TooLong else None))

module _ (cases : CaseMap) (ty : «Type») where
  abbrev keys : List ℕ
  keys = case_keys cases

  refusal_is : (great long : Bool) → list_any (nat_lt (greatest_of ty false)) keys ≡ great → list_any (is_too_long keys) keys ≡ long → keys_refusal ty keys ≡ first_of false great long
  refusal_is great long is_great is_long =
      ap (λ (c : Bool). first_of c (list_any (nat_lt (greatest_of ty false)) keys) (list_any (is_too_long keys) keys)) (cases_once cases)
      ∙ ap₂ (λ (a b : Bool). first_of false a b) is_great is_long

  too_great : (max : ℕ) → IsRefusal cases ty (switch_error.KeyTooWide ty max) → keys_refusal ty keys ≡ Some TooGreat
  too_great max is =
      refusal_is true (list_any (is_too_long keys) keys)
      (ap (λ (entries : List (ℕ × ℕ)). list_any (nat_lt (greatest_of ty false)) (keys_of entries)) is.1.1.2 ∙ last_greater (greatest_of ty false) max is.1.1.1 is.1.1.0 is.1.0) refl

  fits_type : All (λ (case : ℕ × ℕ). case.0 ≤ greatest_of ty false) (finite.entries cases) → list_any (nat_lt (greatest_of ty false)) keys ≡ false
  fits_type fit = none_greater (greatest_of ty false) (finite.entries cases) (recursion_from_All (λ (case : ℕ × ℕ). case.0 ≤ greatest_of ty false) (finite.entries cases) fit)

  -- by the keys of ranges
  by_ranges : (ranges : List CaseRange) (long : Bool) → AreRangesOf (finite.entries cases) ranges → list_any (is_too_long (all_keys ranges)) (all_keys ranges) ≡ long → list_any (is_too_long keys) keys ≡ long
  by_ranges ranges long are is = ap (λ (entries : List (ℕ × ℕ)). list_any (is_too_long (keys_of entries)) (keys_of entries)) (sym are.cases) ∙ is

  too_long : IsRefusal cases ty switch_error.TableTooLong → keys_refusal ty keys ≡ Some TooLong
  too_long (fit, ranges, are, unfit) = by (find_long ranges)
    where
      by : AllByRecursion FitsTable ranges ⊎ ((range : CaseRange) × Contains ranges range × 2 ^ 32 ≤ length range.blocks.items) → keys_refusal ty keys ≡ Some TooLong
      by (inl all) = absurd (unfit (All-from_recursion FitsTable ranges all))
      by (inr (range, here, long)) = refusal_is false true (fits_type fit) (by_ranges ranges true are (keys_too_long ranges range here long))

  taken : (ranges : List CaseRange) → AreRangesFor cases ty ranges → keys_refusal ty keys ≡ None
  taken ranges are =
      refusal_is false false (fits_type are.fit)
      (by_ranges ranges false are.ranges_of (keys_fit ranges (separate ranges are.ranges_of.gaps) (recursion_from_All FitsTable ranges are.tables)))

refused : (cases : CaseMap) (ty : «Type») (error : SwitchError) → IsRefusal cases ty error → is_some (refusal_in error) ≡ true → keys_refusal ty (case_keys cases) ≡ refusal_in error
refused cases ty (switch_error.SetTwice key) is told = absurd is
refused cases ty (switch_error.KeyTooWide other max) is told =
    too_great cases ty max (subst (λ (t : «Type»). IsRefusal cases ty (switch_error.KeyTooWide t max)) is.0 is)
refused cases ty switch_error.TableTooLong is told = too_long cases ty is
refused cases ty (switch_error.Build error) is told = let no_way : ⊥ = cc in absurd no_way

pub refusals_are_of_keys : RefusalsAreOfKeys
refusals_are_of_keys = record { refused = refused; taken = taken }
