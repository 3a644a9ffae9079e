-- The keys of ranges: how many tables they have, and which edge is whose.
use Rattle.std.proofs.Common.{◌≡◌, ◌<◌, ◌≤◌, ◌+◌, ◌-◌, ℕ, zero, suc, Bool, true, false, List, [], ◌∷◌, ◌++◌, length, map, refl, sym, ◌∙◌, ap, ap₂, subst, arith, inl, inr, get_or, Some, cond}
use Rattle.std.specs.Prelude.{◌⊎◌, ◌&&◌, ◌||◌, ◌==◌, not, nat_lt, if◌then◌else◌, slice_get, AllPairs, Contains}
use Rattle.std.specs.List.{AllByRecursion, count_by, enumerate_from, flat_map}
use Rattle.std.proofs.lemmas.Bool.{cases_eq, ne_eqb}
use Rattle.std.proofs.lemmas.Bool.Decides.{nat_tests}
use Rattle.std.proofs.lemmas.List.Elements.{recursion_from_All}
use Rattle.std.proofs.lemmas.List.Folds.{list_any-append}
use Rattle.std.proofs.lemmas.List.Recursion.{is_count_by}
use Rattle.clif_ranges.specs.declared.ranges.CaseRange.{CaseRange}
use Rattle.clif_ranges.specs.Ranges.{AreRangesOf, HasGap, cases_of, end_of}
use Rattle.clif_ranges.specs.Search.{is_long}
use Rattle.clif_ranges.proofs.Keys.{of_key}
use Rattle.clif_meaning.specs.Instruction.{Edge}
use Rattle.clif_meaning.specs.Name.{Name}
use Rattle.clif_meaning.specs.Switch.{edge_of_key}
use Rattle.clif_expansion.specs.Keys.{follows, is_key, table_count}
use Rattle.clif_expansion.proofs.Placing.{contained_first, contained_in, contained_later, none_contained}
use Rattle.clif_switch_calls.specs.SwitchCalls.{Switched, bare_edge}
use Rattle.clif_switch_calls.proofs.Branches.{target_of}

abbrev pub keys_of : List (ℕ × ℕ) → List ℕ
keys_of entries = map (λ case. case.0) entries

pub keys_both : (first second : List (ℕ × ℕ)) → keys_of (first ++ second) ≡ keys_of first ++ keys_of second
keys_both [] second = refl
keys_both (case ∷ first) second = ap (λ (keys : List ℕ). case.0 ∷ keys) (keys_both first second)

-- ONE RANGE ---------------------------------------------------------------------------------------------------------------

abbrev is_one : ℕ → ℕ → Bool
is_one key other = nat_lt key (suc other) && nat_lt other (suc key)

one_same : (key other : ℕ) → key ≡ other → is_one key other ≡ true
one_same key other same = grind (arith, nat_tests)

pub one_other : (key other : ℕ) → (key < other) ⊎ (other < key) → is_one key other ≡ false
one_other key other (inl under) =
    let is : nat_lt other (suc key) ≡ false = grind (arith, nat_tests) in
    let at : nat_lt key (suc other) ≡ true = grind (arith, nat_tests) in
    ap₂ (λ (a b : Bool). a && b) at is
one_other key other (inr over) =
    let is : nat_lt key (suc other) ≡ false = grind (arith, nat_tests) in
    ap (λ (a : Bool). a && nat_lt other (suc key)) is

range_without : (key first : ℕ) (blocks : List ℕ) → (key < first) ⊎ (first + length blocks ≤ key) → is_key (keys_of (enumerate_from first blocks)) key ≡ false
range_without key first [] out = refl
range_without key first (block ∷ blocks) (inl under) =
    ap₂ (λ (a b : Bool). a || b) (one_other key first (inl under)) (range_without key (first + 1) blocks (inl (omega (arith, under))))
range_without key first (block ∷ blocks) (inr over) =
    ap₂ (λ (a b : Bool). a || b) (one_other key first (inr (omega (arith, over)))) (range_without key (first + 1) blocks (inr (omega (arith, over))))

range_with : (key first : ℕ) (blocks : List ℕ) → first ≤ key → key < first + length blocks → is_key (keys_of (enumerate_from first blocks)) key ≡ true
range_with key first [] at below = absurd (omega (arith, at, below))
range_with key first (block ∷ blocks) at below =
    let later : suc first ≤ key → is_key (keys_of (enumerate_from (first + 1) blocks)) key ≡ true = (λ more. range_with key (first + 1) blocks (omega (arith, more)) (omega (arith, below))) in
    elim (cases_eq key first) [
      | inl same ↦ ap (λ (a : Bool). a || is_key (keys_of (enumerate_from (first + 1) blocks)) key) (one_same key first same)
      | inr other ↦
          ap₂ (λ (a b : Bool). a || b) (one_other key first (inr (omega (arith, at, other)))) (later (omega (arith, at, other)))
    ]

-- RANGES ------------------------------------------------------------------------------------------------------------------

abbrev pub all_keys : List CaseRange → List ℕ
all_keys ranges = keys_of (flat_map cases_of ranges)

more_keys : (range : CaseRange) (ranges : List CaseRange) (key : ℕ) → is_key (all_keys (range ∷ ranges)) key ≡ (is_key (keys_of (cases_of range)) key || is_key (all_keys ranges) key)
more_keys range ranges key =
    ap (λ (keys : List ℕ). is_key keys key) (keys_both (cases_of range) (flat_map cases_of ranges)) ∙ list_any-append (is_one key) (keys_of (cases_of range)) (all_keys ranges)

-- the key is in none of the ranges
abbrev pub Outside : ℕ → CaseRange → Type 0
Outside key range = (key < range.first) ⊎ (end_of range ≤ key)

pub none_with : (ranges : List CaseRange) (key : ℕ) → AllByRecursion (Outside key) ranges → is_key (all_keys ranges) key ≡ false
none_with [] key all = refl
none_with (range ∷ ranges) key all =
    more_keys range ranges key ∙ ap₂ (λ (a b : Bool). a || b) (range_without key range.first range.blocks.items all.0) (none_with ranges key all.1)

pub or_right : (c d : Bool) → d ≡ true → (c || d) ≡ true
or_right true d is = refl
or_right false d is = is

pub one_with : (ranges : List CaseRange) (range : CaseRange) (key : ℕ) → Contains ranges range → range.first ≤ key → key < end_of range → is_key (all_keys ranges) key ≡ true
one_with [] range key here at below = absurd (none_contained range here)
one_with (first ∷ ranges) range key here at below =
    let later : Contains ranges range → is_key (all_keys ranges) key ≡ true = (λ further. one_with ranges range key further at below) in
    elim (contained_in first ranges range here) [
      | inl same ↦
          more_keys first ranges key
          ∙ ap (λ (a : Bool). a || is_key (all_keys ranges) key)
          (range_with key first.first first.blocks.items (subst (λ (r : CaseRange). r.first ≤ key) (sym same) at) (subst (λ (r : CaseRange). key < end_of r) (sym same) below))
      | inr further ↦ more_keys first ranges key ∙ or_right (is_key (keys_of (cases_of first)) key) (is_key (all_keys ranges) key) (later further)
    ]

-- COUNTED -----------------------------------------------------------------------------------------------------------------

module _ (keys : List ℕ) where
  -- keys that follow others count nothing
  follow_none : (first : ℕ) (blocks : List ℕ) (more : List ℕ) → ((key : ℕ) → first ≤ key → key < first + length blocks → follows keys key ≡ true)
      → table_count keys (keys_of (enumerate_from first blocks) ++ more) ≡ table_count keys more
  follow_none first [] more follow = refl
  follow_none first (block ∷ blocks) more follow =
      ap (λ (c : Bool). if not c && is_key keys (suc first) then suc (table_count keys (keys_of (enumerate_from (first + 1) blocks) ++ more)) else table_count keys (keys_of (enumerate_from (first + 1) blocks) ++ more))
      (follow first (omega arith) (omega arith))
      ∙ follow_none (first + 1) blocks more (λ key at below. follow key (omega (arith, at)) (omega (arith, below)))

  abbrev counted : List CaseRange → ℕ
  counted [] = 0
  counted (range ∷ ranges) = if is_long range then suc (counted ranges) else counted ranges

  -- the first key of a range doesn't follow another one, and is followed where the range is long
  abbrev pub Separate : List CaseRange → Type 0
  Separate [] = Unit {0}
  Separate (range ∷ ranges) = AllByRecursion (λ other. end_of range < other.first) ranges × Separate ranges

  pub outside_later : (key : ℕ) (range : CaseRange) (ranges : List CaseRange) → key ≤ end_of range → AllByRecursion (λ other. end_of range < other.first) ranges → AllByRecursion (Outside key) ranges
  outside_later key range [] under all = tt
  outside_later key range (other ∷ ranges) under all = (inl (omega (arith, under, all.0)), outside_later key range ranges under all.1)

  ends : (range : CaseRange) (others : List CaseRange) → AllByRecursion (λ other. end_of range < other.first) others → AllByRecursion (λ other. end_of range ≤ other.first - 1) others
  ends range [] all = tt
  ends range (other ∷ others) all = (omega (arith, all.0), ends range others all.1)

  ranges_counted : (ranges : List CaseRange) (bound : ℕ) → Separate ranges → AllByRecursion (λ range. 0 < length range.blocks.items) ranges → AllByRecursion (λ range. bound ≤ range.first - 1) ranges
      → ((range : CaseRange) (key : ℕ) → Contains ranges range → range.first ≤ key → key < end_of range → is_key keys key ≡ true)
      → ((key : ℕ) → bound ≤ key → AllByRecursion (Outside key) ranges → is_key keys key ≡ false)
      → table_count keys (all_keys ranges) ≡ counted ranges
  ranges_counted [] bound apart some above with_key without = refl
  ranges_counted (range ∷ ranges) bound apart some above with_key without =
      let later : table_count keys (all_keys ranges) ≡ counted ranges =
      ranges_counted ranges (end_of range) apart.1 some.1 (ends range ranges apart.0)
      (λ other key here at below. with_key other key (contained_later range ranges other here) at below)
      (λ key at outside. without key (omega (arith, at, above.0)) (inr at, outside)) in
      ap (table_count keys) (keys_both (cases_of range) (flat_map cases_of ranges))
      ∙ by range.first range.blocks.items refl refl
      ∙ ap (λ (n : ℕ). if is_long range then suc n else n) later
    where
      by : (first : ℕ) (blocks : List ℕ) → range.first ≡ first → range.blocks.items ≡ blocks
          → table_count keys (keys_of (enumerate_from first blocks) ++ all_keys ranges) ≡ (if is_long range then suc (table_count keys (all_keys ranges)) else table_count keys (all_keys ranges))
      by first [] first_is blocks_are = absurd (omega (arith, some.0, ap length blocks_are))
      by first (block ∷ blocks) first_is blocks_are =
          ap (λ (c : Bool). if c then suc (table_count keys (keys_of (enumerate_from (first + 1) blocks) ++ all_keys ranges)) else table_count keys (keys_of (enumerate_from (first + 1) blocks) ++ all_keys ranges))
          (ap₂ (λ (a b : Bool). not a && b) begins follows_on)
          ∙ ap (λ (n : ℕ). if is_long range then suc n else n)
          (follow_none (first + 1) blocks (all_keys ranges) follow)
        where
          longer : length range.blocks.items ≡ suc (length blocks)
          longer = ap length blocks_are

          begins : follows keys first ≡ false
          begins = at first refl
            where
              at : (n : ℕ) → first ≡ n → follows keys n ≡ false
              at zero is = refl
              at (suc n) is = without n (omega (arith, above.0, first_is, is)) (inl (omega (arith, first_is, is)), outside_later n range ranges (omega (arith, first_is, is)) apart.0)

          follows_on : is_key keys (suc first) ≡ is_long range
          follows_on = at (nat_lt 1 (length range.blocks.items)) refl
            where
              at : (c : Bool) → nat_lt 1 (length range.blocks.items) ≡ c → is_key keys (suc first) ≡ c
              at true is =
                  let long : 1 < length range.blocks.items = grind (arith, nat_tests) in
                  with_key range (suc first) (contained_first range ranges) (omega (arith, first_is)) (omega (arith, first_is, long))
              at false is =
                  let short : length range.blocks.items ≤ 1 = grind (arith, nat_tests) in
                  without (suc first) (omega (arith, above.0, first_is))
                  (inr (omega (arith, first_is, short)), outside_later (suc first) range ranges (omega (arith, first_is, some.0)) apart.0)

          follow : (key : ℕ) → first + 1 ≤ key → key < first + 1 + length blocks → follows keys key ≡ true
          follow zero at below = absurd (omega (arith, at))
          follow (suc key) at below = with_key range key (contained_first range ranges) (omega (arith, at, first_is)) (omega (arith, below, first_is, longer))

pub separate : (ranges : List CaseRange) → AllPairs HasGap ranges → Separate [] ranges
separate [] gaps = tt
separate (range ∷ ranges) gaps =
    (heads ranges (λ i d inside. gaps 0 (suc i) d (omega arith) (omega (arith, inside))), separate ranges (λ i j d before inside. gaps (suc i) (suc j) d (omega (arith, before)) (omega (arith, inside))))
  where
    heads : (others : List CaseRange) → ((i : ℕ) (d : CaseRange) → i < length others → HasGap range (get_or others i d)) → AllByRecursion (λ other. end_of range < other.first) others
    heads [] each = tt
    heads (other ∷ others) each = (each 0 other (omega arith), heads others (λ i d inside. each (suc i) d (omega (arith, inside))))

counted_so : (ranges : List CaseRange) → counted [] ranges ≡ count_by is_long ranges
counted_so ranges = is_count_by (counted []) is_long refl (λ range more. one (is_long range) (counted [] more)) ranges
  where
    one : (c : Bool) (n : ℕ) → (if c then suc n else n) ≡ cond c (1 + n) n
    one true n = omega arith
    one false n = refl

-- as many tables as ranges of more than one key
pub tables_counted : (entries : List (ℕ × ℕ)) (ranges : List CaseRange) → AreRangesOf entries ranges → table_count (keys_of entries) (keys_of entries) ≡ count_by is_long ranges
tables_counted entries ranges are =
    ap (λ (e : List (ℕ × ℕ)). table_count (keys_of e) (keys_of e)) (sym are.cases)
    ∙ ranges_counted (all_keys ranges) ranges 0 (separate ranges are.gaps) (recursion_from_All (λ r. 0 < length r.blocks.items) ranges are.filled) (recursion_from_All (λ r. 0 ≤ r.first - 1) ranges (λ i d inside. omega arith))
    (λ range key here at below. one_with ranges range key here at below) (λ key at outside. none_with ranges key outside)
    ∙ counted_any (all_keys ranges) ranges ∙ counted_so ranges
  where
    counted_any : (keys : List ℕ) (all : List CaseRange) → counted keys all ≡ counted [] all
    counted_any keys [] = refl
    counted_any keys (range ∷ all) = ap (λ (n : ℕ). if is_long range then suc n else n) (counted_any keys all)

-- EDGES -------------------------------------------------------------------------------------------------------------------

-- the edges to the blocks of cases, and to the block of all other keys
abbrev pub edges_from : Switched → List (ℕ × ℕ) → List (Edge Name Name)
edges_from s entries = map (λ case. bare_edge (s.named case.1)) entries ++ bare_edge s.otherwise ∷ []

pub edge_found : (s : Switched) (entries : List (ℕ × ℕ)) (key : ℕ) → slice_get (edges_from s entries) (edge_of_key (keys_of entries) key) ≡ Some (bare_edge (target_of s (of_key key entries)))
edge_found s [] key = refl
edge_found s (case ∷ entries) key =
    let later = edge_found s entries key in
    elim (cases_eq key case.0) [
      | inl same ↦
          let one : (case.0 == key) ≡ true = grind (arith, nat_tests) in
          let other : (key == case.0) ≡ true = grind (arith, nat_tests) in
          ap (λ (c : Bool). slice_get (edges_from s (case ∷ entries)) (if c then 0 else suc (edge_of_key (keys_of entries) key))) one
          ∙ ap (λ (c : Bool). Some (bare_edge (target_of s (cond c (Some case.1) (of_key key entries))))) (sym other)
      | inr apart ↦
          let one : (case.0 == key) ≡ false = ne_eqb case.0 key (λ same. apart (sym same)) in
          let other : (key == case.0) ≡ false = ne_eqb key case.0 apart in
          ap (λ (c : Bool). slice_get (edges_from s (case ∷ entries)) (if c then 0 else suc (edge_of_key (keys_of entries) key))) one
          ∙ later
          ∙ ap (λ (c : Bool). Some (bare_edge (target_of s (cond c (Some case.1) (of_key key entries))))) (sym other)
    ]
