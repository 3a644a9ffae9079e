-- The search in nodes that were put together.
use Rattle.std.proofs.Common.{Bor, ◌≡◌, ◌≢◌, ℕ, ◌+◌, ◌-◌, ◌*◌, ◌^◌, ◌<◌, ◌≤◌, zero, suc, List, [], ◌∷◌, ◌++◌, length, refl, sym, ap, ap₂, subst, ◌∙◌, arith, append_assoc, append-nil, length-append, ◌⊎◌, inl, inr}
use Rattle.std.specs.List.{AllByRecursion, count_by}
use Rattle.std.proofs.lemmas.List.Sums.{sum_by-append}
use Rattle.std.specs.Prelude.{Contains, cond, All, nat_lt, ◌==◌, if◌then◌else◌, Bool, true, false, Option, Some, None, slice_get}
use Rattle.std.proofs.lemmas.Bool.{cases_lt, cases_eq, ne_eqb}
use Rattle.std.proofs.lemmas.Bool.Decides.{nat_tests}
use Rattle.std.proofs.lemmas.Option.{slice_get_past}
use Rattle.std.proofs.lemmas.List.Elements.{Contains-append_left, Contains-append_right, All-append, All-weaker, All-head, All-tail, All-nil, All-push}
use Rattle.clif_ranges.specs.declared.ranges.CaseRange.{CaseRange}
use Rattle.clif_ranges.specs.declared.search.Next.{Next}
use Rattle.clif_ranges.specs.declared.search.Next.TheVariants as goes
use Rattle.clif_ranges.specs.declared.search.Node.{Node}
use Rattle.clif_ranges.specs.declared.search.Test.{Test}
use Rattle.clif_ranges.specs.declared.search.Test.TheVariants as test
use Rattle.clif_ranges.specs.Ranges.{end_of}
use Rattle.clif_ranges.specs.Search.{AddsNodes, AddsRange, AreInOrder, ComesBefore, FindsCases, TestsRange, Found, behind_a_branch, block_in, block_of_key, first_named, first_of, goes_on, number_of, search, tested, AreFew, AreTestsOf, IsTestOf, is_long, is_table}

same_number : (n : ℕ) → (n == n) ≡ true
same_number n = grind (arith, nat_tests)

-- WHICH RANGE HAS A KEY ---------------------------------------------------------------------------------------------------

pub none_under : (range : CaseRange) (key : ℕ) → key < range.first → block_in range key ≡ None
none_under range key under =
    let is : nat_lt key range.first ≡ true = grind (arith, nat_tests) in
    ap (λ t. if t then None else slice_get range.blocks.items (key - range.first)) is

pub none_over : (range : CaseRange) (key : ℕ) → end_of range ≤ key → block_in range key ≡ None
none_over range key over =
    let is : nat_lt key range.first ≡ false = grind (arith, nat_tests) in
    ap (λ t. if t then None else slice_get range.blocks.items (key - range.first)) is ∙ slice_get_past range.blocks.items (key - range.first) (omega (arith, over))

none_below : (ranges : List CaseRange) (key : ℕ) → All (λ range. key < range.first) ranges → block_of_key ranges key ≡ None
none_below [] key all = refl
none_below (range ∷ ranges) key all =
    ap (λ o. first_of o (block_of_key ranges key)) (none_under range key (All-head (λ (r : CaseRange). key < r.first) range ranges all))
    ∙ none_below ranges key (All-tail (λ (r : CaseRange). key < r.first) range ranges all)

none_above : (ranges : List CaseRange) (key : ℕ) → All (λ range. end_of range ≤ key) ranges → block_of_key ranges key ≡ None
none_above [] key all = refl
none_above (range ∷ ranges) key all =
    ap (λ o. first_of o (block_of_key ranges key)) (none_over range key (All-head (λ (r : CaseRange). end_of r ≤ key) range ranges all))
    ∙ none_above ranges key (All-tail (λ (r : CaseRange). end_of r ≤ key) range ranges all)

first_none : (a : Option ℕ) → first_of a None ≡ a
first_none None = refl
first_none (Some x) = refl

first_assoc : (a b c : Option ℕ) → first_of a (first_of b c) ≡ first_of (first_of a b) c
first_assoc None b c = refl
first_assoc (Some x) b c = refl

of_append : (low high : List CaseRange) (key : ℕ) → block_of_key (low ++ high) key ≡ first_of (block_of_key low key) (block_of_key high key)
of_append [] high key = refl
of_append (range ∷ low) high key =
    ap (first_of (block_in range key)) (of_append low high key) ∙ first_assoc (block_in range key) (block_of_key low key) (block_of_key high key)

low_only : (low high : List CaseRange) (key : ℕ) → All (λ range. key < range.first) high → block_of_key (low ++ high) key ≡ block_of_key low key
low_only low high key all = of_append low high key ∙ ap (first_of (block_of_key low key)) (none_below high key all) ∙ first_none (block_of_key low key)

high_only : (low high : List CaseRange) (key : ℕ) → All (λ range. end_of range ≤ key) low → block_of_key (low ++ high) key ≡ block_of_key high key
high_only low high key all = of_append low high key ∙ ap (λ o. first_of o (block_of_key high key)) (none_above low key all)

-- NODES THAT OTHERS STAND BEFORE ------------------------------------------------------------------------------------------

-- a node with this number isn't among these
pub passes : (nodes rest : List Node) (number key : ℕ) → All (λ node. node.number ≢ number) nodes → search (nodes ++ rest) number key ≡ search rest number key
passes [] rest number key all = refl
passes (node ∷ nodes) rest number key all =
    ap (λ t. if t then tested (λ later. search (nodes ++ rest) later key) node.test key else search (nodes ++ rest) number key)
    (ne_eqb node.number number (All-head (λ (n : Node). n.number ≢ number) node nodes all))
    ∙ passes nodes rest number key (All-tail (λ (n : Node). n.number ≢ number) node nodes all)

-- the first node has this number
pub begins : (node : Node) (rest : List Node) (key : ℕ) → search (node ∷ rest) node.number key ≡ tested (λ later. search rest later key) node.test key
begins node rest key = ap (λ t. if t then tested (λ later. search rest later key) node.test key else search rest node.number key) (same_number node.number)

abbrev pub IsNumbered : (number from below : ℕ) → Node → Type 0
IsNumbered number from below node = (node.number ≡ number) ⊎ ((from ≤ node.number) × (node.number < below))

wider : (number from below other low high : ℕ) → (number ≡ other) ⊎ ((low ≤ number) × (number < high)) → low ≤ from → below ≤ high → (node : Node) → IsNumbered number from below node → IsNumbered other low high node
wider number from below other low high own under over node (inl is) = by own
  where
    by : (number ≡ other) ⊎ ((low ≤ number) × (number < high)) → IsNumbered other low high node
    by (inl same) = inl (is ∙ same)
    by (inr within) = inr (omega (arith, is, within.0), omega (arith, is, within.1))
wider number from below other low high own under over node (inr within) = inr (omega (arith, within.0, under), omega (arith, within.1, over))

never : (number from below n : ℕ) → n ≢ number → n < from → (node : Node) → IsNumbered number from below node → node.number ≢ n
never number from below n other under node (inl is) same = other (sym same ∙ is)
never number from below n other under node (inr within) same = absurd (omega (arith, within.0, same, under))

plus_none : (n : ℕ) → n ≡ n + 0
plus_none n = omega arith

one_more : (n : ℕ) → n + 1 ≡ suc n
one_more n = omega arith

behind_two : (n next : ℕ) → n + 1 ≡ next → next + 1 ≡ n + 2 + 0
behind_two n next is = omega (arith, is)

-- TESTS OF RANGES ---------------------------------------------------------------------------------------------------------

-- a test of some ranges is one of more
test_of_more : (ranges more : List CaseRange) → ((range : CaseRange) → Contains ranges range → Contains more range) → (t : Test) → IsTestOf ranges t → IsTestOf more t
test_of_more ranges more holds test.Nothing is = tt
test_of_more ranges more holds (test.OneKey range other) is = (holds range.now is.0, is.1)
test_of_more ranges more holds (test.NotBelow first above other) is = (is.0, holds is.0 is.1, is.2)
test_of_more ranges more holds (test.Table range) is = (holds range.now is.0, is.1)

tests_of_more : (ranges more : List CaseRange) → ((range : CaseRange) → Contains ranges range → Contains more range) → (nodes others : List Node)
    → AllByRecursion (λ node. IsTestOf ranges node.test) nodes → AllByRecursion (λ node. IsTestOf more node.test) others
    → AllByRecursion (λ node. IsTestOf more node.test) (nodes ++ others)
tests_of_more ranges more holds [] others all also = also
tests_of_more ranges more holds (node ∷ nodes) others all also = (test_of_more ranges more holds node.test all.0, tests_of_more ranges more holds nodes others all.1 also)

-- the higher ranges' tests, and then the lower ones'
both_tested : (low high : List CaseRange) (lows highs : List Node) → AreTestsOf low lows → AreTestsOf high highs → AreTestsOf (low ++ high) (highs ++ lows)
both_tested low high lows highs of_low of_high = record {
  tests = tests_of_more high (low ++ high) (λ range is. Contains-append_right low high range is) highs lows of_high.tests
      (subst (AllByRecursion (λ (node : Node). IsTestOf (low ++ high) node.test)) (append-nil lows)
      (tests_of_more low (low ++ high) (λ range is. Contains-append_left low high range is) lows [] of_low.tests tt));
  tables = sum_by-append (λ n. cond (is_table n) 1 0) highs lows ∙ ap₂ (λ (a b : ℕ). a + b) of_high.tables of_low.tables
      ∙ swapped (count_by is_long high) (count_by is_long low) ∙ sym (sum_by-append (λ r. cond (is_long r) 1 0) low high);
}
  where
    swapped : (a b : ℕ) → a + b ≡ b + a
    swapped a b = omega arith

-- how many ranges of both parts have a table
long_ranges : (low high : List CaseRange) → count_by is_long (low ++ high) ≡ count_by is_long low + count_by is_long high
long_ranges low high = sum_by-append (λ r. cond (is_long r) 1 0) low high

-- a branch at a range's first key before them
behind_test : (ranges : List CaseRange) (number first above : ℕ) (other : Next) (nodes : List Node) → (range : CaseRange) × Contains ranges range × (range.first ≡ first)
    → AreTestsOf ranges nodes → AreTestsOf ranges (record { number = number; test = test.NotBelow first above other } ∷ nodes)
behind_test ranges number first above other nodes begins_one are = record { tests = (begins_one, are.tests); tables = are.tables }

-- TWO PARTS ---------------------------------------------------------------------------------------------------------------

abbrev pub split_nodes : (first next number : ℕ) (high_nodes low_nodes : List Node) → List Node
split_nodes first next number high_nodes low_nodes =
    record { number = number; test = test.NotBelow first (next + 1) (goes.Node next) } ∷ (high_nodes ++ low_nodes)

-- what a branch at a key of the higher part comes to
module _ (low high : List CaseRange) (first next number b c : ℕ) (high_nodes low_nodes : List Node)
    (before : number < next) (rises : next + 2 ≤ b) (more : b ≤ c)
    (ends : All (λ range. end_of range ≤ first) low) (begins_at : All (λ range. first ≤ range.first) high)
    (high_numbers : All (IsNumbered (next + 1) (next + 2) b) high_nodes) (low_numbers : All (IsNumbered next b c) low_nodes)
    (high_finds : (rest : List Node) → FindsCases high (high_nodes ++ rest) (next + 1))
    (low_finds : (rest : List Node) → FindsCases low (low_nodes ++ rest) next)
  where
    abbrev split : Node
    split = record { number = number; test = test.NotBelow first (next + 1) (goes.Node next) }

    abbrev both : List Node
    both = split_nodes first next number high_nodes low_nodes

    goes_low : (rest : List Node) (key : ℕ) → key < first → search (both ++ rest) number key ≡ behind_a_branch (search (low_nodes ++ rest) next key)
    goes_low rest key under =
        let test_is : nat_lt key first ≡ true = grind (arith, nat_tests) in
        begins split ((high_nodes ++ low_nodes) ++ rest) key
        ∙ ap (λ t. behind_a_branch (if t then search ((high_nodes ++ low_nodes) ++ rest) next key else search ((high_nodes ++ low_nodes) ++ rest) (next + 1) key)) test_is
        ∙ ap (λ nodes. behind_a_branch (search nodes next key)) (append_assoc high_nodes low_nodes rest)
        ∙ ap behind_a_branch (passes high_nodes (low_nodes ++ rest) next key
        (All-weaker (IsNumbered (next + 1) (next + 2) b) (λ node. node.number ≢ next) (never (next + 1) (next + 2) b next (λ same. omega (arith, same)) (omega arith)) high_nodes high_numbers))

    goes_high : (rest : List Node) (key : ℕ) → first ≤ key → search (both ++ rest) number key ≡ behind_a_branch (search (high_nodes ++ (low_nodes ++ rest)) (next + 1) key)
    goes_high rest key over =
        let test_is : nat_lt key first ≡ false = grind (arith, nat_tests) in
        begins split ((high_nodes ++ low_nodes) ++ rest) key
        ∙ ap (λ t. behind_a_branch (if t then search ((high_nodes ++ low_nodes) ++ rest) next key else search ((high_nodes ++ low_nodes) ++ rest) (next + 1) key)) test_is
        ∙ ap (λ nodes. behind_a_branch (search nodes (next + 1) key)) (append_assoc high_nodes low_nodes rest)

    both_find : (rest : List Node) (key : ℕ) → (search (both ++ rest) number key).block ≡ block_of_key (low ++ high) key
    both_find rest key =
        elim (cases_lt key first) [
          | inl under ↦
              ap (λ (found : Found). found.block) (goes_low rest key under) ∙ (low_finds rest).finds key
              ∙ sym (low_only low high key (All-weaker (λ (r : CaseRange). first ≤ r.first) (λ (r : CaseRange). key < r.first) (λ r at. omega (arith, at, under)) high begins_at))
          | inr over ↦
              ap (λ (found : Found). found.block) (goes_high rest key over) ∙ (high_finds (low_nodes ++ rest)).finds key
              ∙ sym (high_only low high key (All-weaker (λ (r : CaseRange). end_of r ≤ first) (λ (r : CaseRange). end_of r ≤ key) (λ r at. omega (arith, at, over)) low ends))
        ]

    both_short : (rest : List Node) (k key : ℕ) → length low ≤ 2 ^ k → length high ≤ 2 ^ k → (search (both ++ rest) number key).branches ≤ suc k + 1
    both_short rest k key low_fits high_fits =
        elim (cases_lt key first) [
          | inl under ↦
              let is = ap (λ (found : Found). found.branches) (goes_low rest key under) in
              omega (arith, is, (low_finds rest).short k key low_fits)
          | inr over ↦
              let is = ap (λ (found : Found). found.branches) (goes_high rest key over) in
              omega (arith, is, (high_finds (low_nodes ++ rest)).short k key high_fits)
        ]

    both_numbers : All (IsNumbered number next c) both
    both_numbers =
        All-append (IsNumbered number next c) (split ∷ []) (high_nodes ++ low_nodes)
        (All-push (IsNumbered number next c) [] split (All-nil (IsNumbered number next c)) (inl refl))
        (All-append (IsNumbered number next c) high_nodes low_nodes
        (All-weaker (IsNumbered (next + 1) (next + 2) b) (IsNumbered number next c) (wider (next + 1) (next + 2) b number next c (inr (omega arith, omega arith)) (omega arith) more) high_nodes high_numbers)
        (All-weaker (IsNumbered next b c) (IsNumbered number next c) (wider next b c number next c (inr (omega arith, omega arith)) (omega arith) (omega arith)) low_nodes low_numbers))

one_fits : (n k : ℕ) → 2 * n ≤ 2 ^ suc k + 1 → n ≤ 2 ^ k
one_fits n k twice = omega (arith, twice)

-- A split: both parts are at most half, rounded up, of more than three.
pub split_adds : (low high : List CaseRange) (first next number b c : ℕ) (old mid nodes new : List Node) → number < next
    → All (λ range. end_of range ≤ first) low → All (λ range. first ≤ range.first) high
    → 3 < length low + length high → 2 * length low ≤ length low + length high → 2 * length high ≤ length low + length high + 1
    → (range : CaseRange) × Contains high range × (range.first ≡ first)
    → mid ≡ old ++ record { number = number; test = test.NotBelow first (next + 1) (goes.Node next) } ∷ []
    → AddsNodes high (next + 2) (next + 1) mid nodes b → AddsNodes low b next nodes new c
    → AddsNodes (low ++ high) next number old new c
split_adds low high first next number b c old mid nodes new before ends begins_at some half_low half_high begins_one made highs lows = record {
  added = both low high first next number b c highs.added lows.added before highs.rises lows.rises ends begins_at highs.numbers lows_numbered highs.find lows.find;
  is = lows.is ∙ ap (λ xs. xs ++ lows.added) (highs.is ∙ ap (λ xs. xs ++ highs.added) made) ∙ ap (λ xs. xs ++ lows.added) (append_assoc old _ highs.added) ∙ append_assoc old _ lows.added;
  rises = omega (arith, highs.rises, lows.rises);
  few = omega (arith, highs.few, lows.few, length-append low high);
  small = omega (arith, highs.small, lows.small, length-append low high, length-append highs.added lows.added, long_ranges low high);
  numbers = both_numbers low high first next number b c highs.added lows.added before highs.rises lows.rises ends begins_at highs.numbers lows_numbered highs.find lows.find;
  tests = behind_test (low ++ high) number first (next + 1) (goes.Node next) (highs.added ++ lows.added)
      (begins_one.0, Contains-append_right low high begins_one.0 begins_one.1, begins_one.2) (both_tested low high lows.added highs.added lows.tests highs.tests);
  find = λ rest. record {
    finds = both_find low high first next number b c highs.added lows.added before highs.rises lows.rises ends begins_at highs.numbers lows_numbered highs.find lows.find rest;
    short = short rest;
  };
  order = λ waiting rest after.
      subst (λ nodes. AreInOrder (number ∷ waiting) next (record { number = number; test = test.NotBelow first (next + 1) (goes.Node next) } ∷ nodes)) (sym (append_assoc highs.added lows.added rest))
      (waiting, refl, (refl, (one_more next, tt)), highs.order (next ∷ waiting) (lows.added ++ rest) (lows.order waiting rest after));
}
  where
    lows_numbered : All (IsNumbered next b c) lows.added
    lows_numbered = lows.numbers

    whole : length (low ++ high) ≡ length low + length high
    whole = length-append low high

    short : (rest : List Node) (k key : ℕ) → length (low ++ high) ≤ 2 ^ k
        → (search (split_nodes first next number highs.added lows.added ++ rest) number key).branches ≤ k + 1
    short rest zero key fits = absurd (omega (arith, fits, whole, some))
    short rest (suc k) key fits =
        both_short low high first next number b c highs.added lows.added before highs.rises lows.rises ends begins_at highs.numbers lows_numbered highs.find lows.find rest k key
        (one_fits (length low) k (omega (arith, fits, whole, half_low))) (one_fits (length high) k (omega (arith, fits, whole, half_high)))

-- ONE RANGE ---------------------------------------------------------------------------------------------------------------

-- The only key of a range is its first one.
only_key : (range : CaseRange) (key : ℕ) → length range.blocks.items ≡ 1 → key ≢ range.first → block_in range key ≡ None
only_key range key one other =
    elim (cases_lt key range.first) [
      | inl under ↦ none_under range key under
      | inr over ↦ none_over range key (omega (arith, one, other, over))
    ]

-- a range of one key
pub one_key_adds : (range : Bor CaseRange) (next number : ℕ) (other : Next) (old new : List Node) → ComesBefore other next → length range.now.blocks.items ≡ 1
    → new ≡ old ++ record { number = number; test = test.OneKey range other } ∷ [] → AddsRange range.now next number other old new next
one_key_adds range next number other old new earlier one made = record {
  added = node ∷ [];
  is = made;
  rises = omega arith;
  few = omega arith;
  small = omega arith;
  numbers = All-push (IsNumbered number next next) [] node (All-nil (IsNumbered number next next)) (inl refl);
  order = order other earlier;
  tests_of = record { tests = (((0, omega arith, refl), one), tt); tables = ap (λ (n : ℕ). 0 + cond (nat_lt 1 n) 1 0) (sym one) };
  tests = λ rest key. tests rest key;
}
  where
    node : Node
    node = record { number = number; test = test.OneKey range other }

    order : (o : Next) → ComesBefore o next → (waiting : List ℕ) (rest : List Node) → AreInOrder (number_of o ++ waiting) next rest
        → AreInOrder (number ∷ waiting) (first_named o next) (record { number = number; test = test.OneKey range o } ∷ rest)
    order goes.Otherwise is waiting rest after = (waiting, refl, tt, subst (λ n. AreInOrder waiting n rest) (plus_none next) after)
    order (goes.Node n) is waiting rest after = (waiting, refl, (refl, tt), subst (λ k. AreInOrder (n ∷ waiting) k rest) (sym is) after)

    comes : List Node → ℕ → Bool → Found
    comes rest key t = behind_a_branch (if t then record { block = block_in range.now key; branches = 0 } else goes_on (λ later. search rest later key) other)

    tests : (rest : List Node) (key : ℕ) → TestsRange range.now rest other key (search (node ∷ rest) number key)
    tests rest key =
        elim (cases_eq key range.now.first) [
          | inl same ↦
              let yes : (key == range.now.first) ≡ true = grind (arith, nat_tests) in
              let is : search (node ∷ rest) number key ≡ comes rest key true = begins node rest key ∙ ap (comes rest key) yes in
              inl (omega (arith, same), ap (λ (found : Found). found.block) is, omega (arith, ap (λ (found : Found). found.branches) is))
          | inr apart ↦
              inr (only_key range.now key one apart, begins node rest key ∙ ap (comes rest key) (ne_eqb key range.now.first apart))
        ]

is_so : {n : ℕ} → 1 < n → nat_lt 1 n ≡ true
is_so more = grind (arith, nat_tests)

one_long : (range : CaseRange) → 1 < length range.blocks.items → 2 ≤ 1 + count_by is_long (range ∷ [])
one_long range long = let is : count_by is_long (range ∷ []) ≡ 1 = ap (λ (c : Bool). 0 + cond c 1 0) (is_so long) in omega (arith, is)

-- a range of several keys from 0 on: its table
pub table_adds : (range : Bor CaseRange) (next number : ℕ) (other : Next) (old new : List Node) → other ≡ goes.Otherwise → range.now.first ≡ 0 → 1 < length range.now.blocks.items
    → new ≡ old ++ record { number = number; test = test.Table range } ∷ [] → AddsRange range.now next number other old new next
table_adds range next number other old new nowhere zero_first long made = record {
  added = node ∷ [];
  is = made;
  rises = omega arith;
  few = omega arith;
  small = omega arith;
  numbers = All-push (IsNumbered number next next) [] node (All-nil (IsNumbered number next next)) (inl refl);
  order = λ waiting rest after.
      subst (λ o. AreInOrder (number_of o ++ waiting) next rest → AreInOrder (number ∷ waiting) (first_named o next) (node ∷ rest)) (sym nowhere)
      (λ is. (waiting, refl, tt, subst (λ n. AreInOrder waiting n rest) (plus_none next) is)) after;
  tests_of = record { tests = (((0, omega arith, refl), long), tt); tables = sym (ap (λ (c : Bool). 0 + cond c 1 0) (is_so long)) };
  tests = λ rest key. inl (
    omega (arith, zero_first),
    ap (λ (found : Found). found.block) (begins node rest key),
    omega (arith, ap (λ (found : Found). found.branches) (begins node rest key)),
  );
}
  where
    node : Node
    node = record { number = number; test = test.Table range }

-- a range of several keys that doesn't begin at 0: a test whether the key is below it, and its table
pub range_adds : (range : Bor CaseRange) (next number : ℕ) (other : Next) (old mid new : List Node) → number < next → ComesBefore other next → 1 < length range.now.blocks.items
    → mid ≡ old ++ record { number = number; test = test.NotBelow range.now.first next other } ∷ []
    → new ≡ mid ++ record { number = next; test = test.Table range } ∷ [] → AddsRange range.now next number other old new (next + 1)
range_adds range next number other old mid new before earlier long first_made made = record {
  added = node ∷ (table ∷ []);
  is = made ∙ ap (λ xs. xs ++ table ∷ []) first_made ∙ append_assoc old (node ∷ []) (table ∷ []);
  rises = omega arith;
  few = omega arith;
  small = one_long range.now long;
  numbers = All-push (IsNumbered number next (next + 1)) (node ∷ []) table
      (All-push (IsNumbered number next (next + 1)) [] node (All-nil (IsNumbered number next (next + 1))) (inl refl)) (inr (omega arith, omega arith));
  order = order other earlier;
  tests_of = record {
    tests = ((range.now, (0, omega arith, refl), refl), (((0, omega arith, refl), long), tt));
    tables = sym (ap (λ (c : Bool). 0 + cond c 1 0) (is_so long));
  };
  tests = λ rest key. tests rest key;
}
  where
    node : Node
    node = record { number = number; test = test.NotBelow range.now.first next other }

    table : Node
    table = record { number = next; test = test.Table range }

    order : (o : Next) → ComesBefore o next → (waiting : List ℕ) (rest : List Node) → AreInOrder (number_of o ++ waiting) (next + 1) rest
        → AreInOrder (number ∷ waiting) (first_named o next) (record { number = number; test = test.NotBelow range.now.first next o } ∷ (table ∷ rest))
    order goes.Otherwise is waiting rest after =
        (waiting, refl, (refl, tt), (waiting, refl, tt, subst (λ n. AreInOrder waiting n rest) (plus_none (next + 1)) after))
    order (goes.Node n) is waiting rest after =
        (waiting, refl, (refl, (sym is ∙ one_more n, tt)), (n ∷ waiting, refl, tt, subst (λ k. AreInOrder (n ∷ waiting) k rest) (behind_two n next is) after))

    comes : List Node → ℕ → Bool → Found
    comes rest key t = behind_a_branch (if t then goes_on (λ later. search (table ∷ rest) later key) other else search (table ∷ rest) next key)

    -- the table stands behind no earlier number
    skips : (rest : List Node) (key : ℕ) (o : Next) → ComesBefore o next → goes_on (λ later. search (table ∷ rest) later key) o ≡ goes_on (λ later. search rest later key) o
    skips rest key goes.Otherwise is = refl
    skips rest key (goes.Node n) is =
        passes (table ∷ []) rest n key (All-push (λ (x : Node). x.number ≢ n) [] table (All-nil (λ (x : Node). x.number ≢ n)) (λ same. omega (arith, same, is)))

    tests : (rest : List Node) (key : ℕ) → TestsRange range.now rest other key (search (node ∷ (table ∷ rest)) number key)
    tests rest key =
        elim (cases_lt key range.now.first) [
          | inl under ↦
              let yes : nat_lt key range.now.first ≡ true = grind (arith, nat_tests) in
              inr (none_under range.now key under, begins node (table ∷ rest) key ∙ ap (comes rest key) yes ∙ ap behind_a_branch (skips rest key other earlier))
          | inr over ↦
              let no : nat_lt key range.now.first ≡ false = grind (arith, nat_tests) in
              let is : search (node ∷ (table ∷ rest)) number key ≡ behind_a_branch (record { block = block_in range.now key; branches = 0 }) =
              begins node (table ∷ rest) key ∙ ap (comes rest key) no ∙ ap behind_a_branch (begins table rest key) in
              inl (over, ap (λ (found : Found). found.block) is, omega (arith, ap (λ (found : Found). found.branches) is))
        ]

-- RANGES IN TURN ----------------------------------------------------------------------------------------------------------

-- one range alone
pub alone_adds : (range : CaseRange) (next number b : ℕ) (old new : List Node) → AddsRange range next number goes.Otherwise old new b → AddsNodes (range ∷ []) next number old new b
alone_adds range next number b old new adds = record {
  added = adds.added;
  is = adds.is;
  rises = adds.rises;
  few = omega (arith, adds.few);
  small = omega (arith, adds.small);
  numbers = adds.numbers;
  tests = adds.tests_of;
  find = λ rest. record {
    finds = λ key. finds rest key (adds.tests rest key);
    short = λ k key fits. short rest k key (adds.tests rest key);
  };
  order = adds.order;
}
  where
    finds : (rest : List Node) (key : ℕ) → TestsRange range rest goes.Otherwise key (search (adds.added ++ rest) number key)
        → (search (adds.added ++ rest) number key).block ≡ block_of_key (range ∷ []) key
    finds rest key (inl found) = found.1 ∙ sym (first_none (block_in range key))
    finds rest key (inr none) = ap (λ (found : Found). found.block) none.1 ∙ sym (first_none (block_in range key) ∙ none.0)

    short : (rest : List Node) (k key : ℕ) → TestsRange range rest goes.Otherwise key (search (adds.added ++ rest) number key)
        → (search (adds.added ++ rest) number key).branches ≤ k + 1
    short rest k key (inl found) = omega (arith, found.2)
    short rest k key (inr none) = omega (arith, ap (λ (found : Found). found.branches) none.1)

two_at_least : (n k : ℕ) → n ≤ 2 → 0 < n → suc n ≤ 2 ^ k → (j : ℕ) × (k ≡ suc j) × (n ≤ 2 ^ j)
two_at_least n zero most some fits = absurd (omega (arith, some, fits))
two_at_least n (suc j) most some fits = (j, refl, omega (arith, fits))

-- a range behind lower ones, which are at most two
pub line_adds : (lower : List CaseRange) (range : CaseRange) (next number b c : ℕ) (old mid new : List Node) → 0 < length lower → length lower ≤ 2
    → All (λ other. end_of other ≤ range.first) lower → AddsRange range (next + 1) number (goes.Node next) old mid b → AddsNodes lower b next mid new c
    → AddsNodes (lower ++ range ∷ []) next number old new c
line_adds lower range next number b c old mid new some most ends adds lows = record {
  added = adds.added ++ lows.added;
  is = lows.is ∙ ap (λ xs. xs ++ lows.added) adds.is ∙ append_assoc old adds.added lows.added;
  rises = omega (arith, adds.rises, lows.rises);
  few = omega (arith, adds.few, lows.few, whole);
  small = omega (arith, adds.small, lows.small, whole, length-append adds.added lows.added, long_ranges lower (range ∷ []));
  numbers =
      All-append (IsNumbered number next c) adds.added lows.added
      (All-weaker (IsNumbered number (next + 1) b) (IsNumbered number next c) (wider number (next + 1) b number next c (inl refl) (omega arith) lows.rises) adds.added adds.numbers)
      (All-weaker (IsNumbered next b c) (IsNumbered number next c)
      (wider next b c number next c (inr (omega arith, omega (arith, adds.rises, lows.rises))) (omega (arith, adds.rises)) (omega arith)) lows.added lows.numbers);
  tests = both_tested lower (range ∷ []) lows.added adds.added lows.tests adds.tests_of;
  find = λ rest. record {
    finds = λ key. subst (λ nodes. (search nodes number key).block ≡ block_of_key (lower ++ range ∷ []) key) (sym (append_assoc adds.added lows.added rest))
        (finds rest key (adds.tests (lows.added ++ rest) key));
    short = λ k key fits. subst (λ nodes. (search nodes number key).branches ≤ k + 1) (sym (append_assoc adds.added lows.added rest))
        (short rest k key (two_at_least (length lower) k (omega (arith, most)) some (omega (arith, fits, whole))) (adds.tests (lows.added ++ rest) key));
  };
  order = λ waiting rest after.
      subst (AreInOrder (number ∷ waiting) next) (sym (append_assoc adds.added lows.added rest)) (adds.order waiting (lows.added ++ rest) (lows.order waiting rest after));
}
  where
    whole : length (lower ++ range ∷ []) ≡ length lower + 1
    whole = length-append lower (range ∷ [])

    finds : (rest : List Node) (key : ℕ) → TestsRange range (lows.added ++ rest) (goes.Node next) key (search (adds.added ++ (lows.added ++ rest)) number key)
        → (search (adds.added ++ (lows.added ++ rest)) number key).block ≡ block_of_key (lower ++ range ∷ []) key
    finds rest key (inl found) =
        found.1 ∙ sym (first_none (block_in range key))
        ∙ sym (high_only lower (range ∷ []) key
        (All-weaker (λ (r : CaseRange). end_of r ≤ range.first) (λ (r : CaseRange). end_of r ≤ key) (λ r at. omega (arith, at, found.0)) lower ends))
    finds rest key (inr none) =
        ap (λ (found : Found). found.block) none.1 ∙ (lows.find rest).finds key
        ∙ sym (of_append lower (range ∷ []) key ∙ ap (λ o. first_of (block_of_key lower key) (first_of o None)) none.0 ∙ first_none (block_of_key lower key))

    short : (rest : List Node) (k key : ℕ) → (j : ℕ) × (k ≡ suc j) × (length lower ≤ 2 ^ j)
        → TestsRange range (lows.added ++ rest) (goes.Node next) key (search (adds.added ++ (lows.added ++ rest)) number key)
        → (search (adds.added ++ (lows.added ++ rest)) number key).branches ≤ k + 1
    short rest k key fits (inl found) = omega (arith, found.2)
    short rest k key fits (inr none) =
        let here = ap (λ (found : Found). found.branches) none.1 in
        omega (arith, here, (lows.find rest).short fits.0 key fits.2, fits.1)

-- THE WHOLE ---------------------------------------------------------------------------------------------------------------

pub nothing_tested : (ranges : List CaseRange) (nodes : List Node) → length ranges ≡ 0 → nodes ≡ record { number = 0; test = test.Nothing } ∷ [] → AreTestsOf ranges nodes
nothing_tested [] nodes none are = subst (AreTestsOf []) (sym are) (record { tests = (tt, tt); tables = refl })
nothing_tested (range ∷ ranges) nodes none are = absurd (omega (arith, none))

pub nothing_few : (ranges : List CaseRange) (nodes : List Node) → nodes ≡ record { number = 0; test = test.Nothing } ∷ [] → AreFew ranges nodes
nothing_few ranges nodes are = let one = ap length are in omega (arith, one)

pub added_few : (ranges : List CaseRange) (nodes added : List Node) → nodes ≡ added → length added < 2 * length ranges + count_by is_long ranges → AreFew ranges nodes
added_few ranges nodes added are small = let same = ap length are in omega (arith, same, small)

-- no case
pub nothing_to_find : (ranges : List CaseRange) (nodes : List Node) → length ranges ≡ 0 → nodes ≡ record { number = 0; test = test.Nothing } ∷ [] → FindsCases ranges nodes 0
nothing_to_find [] nodes none are =
    subst (λ xs. FindsCases [] xs 0) (sym are) (record { finds = λ key. refl; short = λ k key fits. omega arith })
nothing_to_find (range ∷ ranges) nodes none are = absurd (omega (arith, none))
