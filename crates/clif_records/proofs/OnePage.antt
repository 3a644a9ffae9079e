-- A value is recorded in blocks beside one another, whose cells are in one page.
use Rattle.std.proofs.Common.{◌≡◌, ℕ, zero, suc, ◌≢◌, ◌+◌, ◌-◌, ◌/◌, ◌%◌, ◌<◌, ◌≤◌, inl, inr, List, [], ◌∷◌, ◌++◌, Some, Bool, true, false, cond, refl, ap, sym, ◌∙◌, subst, arith, length, take, drop}
use Rattle.std.specs.Prelude.{◌==◌, slice_index, slice_index_or, if◌then◌else◌}
use Rattle.std.specs.Option.{unwrap_or}
use Rattle.std.specs.FinMap as map
use Rattle.std.specs.FinMap.{same_map}
use Rattle.std.specs.Map.{lookup}
use Rattle.std.proofs.Math.Seq.{take-add, take-suc}
use Rattle.std.proofs.lemmas.Bool.{cases_eq}
use Rattle.std.proofs.lemmas.Grind.{common_steps}
use Rattle.std.proofs.lemmas.List.{get_or-drop, length-drop, take_rest}
use Rattle.clif_instructions.proofs.Lists.{below_or_not}
use Rattle.clif_instructions.specs.Members.{stands_in}
use Rattle.clif_records.specs.declared.tables.Cell.{Cell}
use Rattle.clif_records.specs.Passed.{before_first}
use Rattle.clif_records.specs.Tables.{RecordMap, lookups_at}
use Rattle.clif_records.specs.Records.{recording, HasEntry, RecordsIn}
use Rattle.clif_records.specs.Pages.{page_number, place_in_page, records_of, kept_at, added_by, empty_cell, is_nothing, recorded_in, ChangesCell, PutsRun}
use Rattle.clif_records.proofs.RecordMaps.{count_kept, in_order, same_place, value_changed}
use Rattle.clif_records.proofs.Pages.{empty_page, entry_of, get-records_of, key_same, first_differs, len-after-at, page_changed, same_key, second_differs}
use Rattle.clif_records.proofs.Copying.{before-all, records-further, records-more, records-none}

-- in one block more
pub run-further : (blocks : List ℕ) (value : ℕ) (old mid new : List Cell) (added more k place : ℕ) → PutsRun blocks value old mid added k → place ≡ place_in_page (slice_index blocks k)
    → ChangesCell mid new place (recording value) → more ≡ added_by mid place → PutsRun blocks value old new (added + more) (k + 1)
run-further blocks value old mid new added more k place before is changes one =
    subst (λ n. PutsRun blocks value old new (added + more) n) (one_more_is k) (
      mid,
      added,
      before,
      subst (λ p. ChangesCell mid new p (recording value)) is changes,
      ap (λ n. added + n) (one ∙ ap (λ p. added_by mid p) is),
    )
  where
    one_more_is : (n : ℕ) → suc n ≡ n + 1
    one_more_is n = omega arith

pub few-further : (cells : List Cell) (place added more k : ℕ) → more ≡ added_by cells place → added ≤ k → added + more ≤ k + 1
few-further cells place added more k one few = by (is_nothing (recorded_in (slice_index_or cells place empty_cell))) one
  where
    by : (t : Bool) → more ≡ (if t then 1 else 0) → added + more ≤ k + 1
    by true is = omega (arith, is, few)
    by false is = omega (arith, is, few)

-- what holds below a number and at it
pub below_one_more : {P : ℕ → Type 0} (n : ℕ) → ((k : ℕ) → k < n → P k) → P n → (k : ℕ) → k < n + 1 → P k
below_one_more {P = P} n before at k below = elim (cases_eq k n) [
  | inl is ↦ subst P (sym is) at
  | inr other ↦ before k (omega (arith, below, other))
]

-- the page of a variable with this number is another one, and all other pages are as before
abbrev pub HasPage : List ((ℕ × ℕ) × List Cell) → List ((ℕ × ℕ) × List Cell) → ℕ → ℕ → List Cell → Type 0
HasPage old new x number page = (q : ℕ × ℕ) → lookup (same_key q) new ≡ cond (same_key (x, number) q) (Some page) (lookup (same_key q) old)

-- what this says of the records, where it is the page that was there
same_pages : (old new : List ((ℕ × ℕ) × List Cell)) (x number : ℕ) (page : List Cell) → lookup (same_key (x, number)) old ≡ Some page → HasPage old new x number page
    → records_of new ≡ records_of old
same_pages old new x number page was has = same_map in_order same_place _ _ (λ q. at q.0 q.1)
  where
    off : (y n : ℕ) → same_key (x, number) (y, n) ≡ false → lookup (same_key (y, n)) new ≡ lookup (same_key (y, n)) old
    off y n not_here = has (y, n) ∙ ap (λ t. cond t (Some page) (lookup (same_key (y, n)) old)) not_here

    kept : (y n : ℕ) → lookup (same_key (y, n)) new ≡ lookup (same_key (y, n)) old
    kept y n =
        elim (cases_eq x y) [
          | inr other ↦ off y n (first_differs (x, number) (y, n) other)
          | inl variable ↦
              elim (cases_eq number n) [
                | inr other ↦ off y n (second_differs (x, number) (y, n) other)
                | inl same ↦
                    has (y, n) ∙ ap (λ t. cond t (Some page) (lookup (same_key (y, n)) old)) (key_same (x, number) (y, n) variable same)
                    ∙ sym was ∙ ap (λ p. lookup (same_key p) old) (λ i. (variable i, same i))
              ]
        ]

    at : (y c : ℕ) → map.get (records_of new) (y, c) ≡ map.get (records_of old) (y, c)
    at y c = get-records_of new y c ∙ ap (λ p. entry_of (kept_at p (c % 8))) (kept y (c / 8)) ∙ sym (get-records_of old y c)

-- the key may be either of the two
turned : (p q : ℕ × ℕ) → same_key q p ≡ same_key p q
turned p q =
    elim (cases_eq p.0 q.0) [
      | inr other ↦ first_differs q p (λ is. other (sym is)) ∙ sym (first_differs p q other)
      | inl variable ↦
          elim (cases_eq p.1 q.1) [
            | inr other ↦ second_differs q p (λ is. other (sym is)) ∙ sym (second_differs p q other)
            | inl number ↦ key_same q p (sym variable) (sym number) ∙ sym (key_same p q variable number)
          ]
    ]

-- what is recorded and counted once a run of blocks has the value, and how many records there are
pub record RecordsRun (old new : RecordMap) (x value added : ℕ) (blocks : List ℕ) : Type 0 where
  pub records : RecordsIn old new x value (λ b. stands_in b blocks)
  pub lookups : (v b : ℕ) → lookups_at new v b ≡ lookups_at old v b
  pub count : map.len new ≡ map.len old + added

pub run-recorded : (old new : List ((ℕ × ℕ) × List Cell)) (x number value : ℕ) (blocks : List ℕ) (page after : List Cell) (added k : ℕ) → k ≤ length blocks
    → ((j : ℕ) → j < k → page_number (slice_index blocks j) ≡ number)
    → lookup (same_key (x, number)) old ≡ Some page → PutsRun blocks value page after added k → HasPage old new x number after
    → RecordsRun (records_of old) (records_of new) x value added (take k blocks)
run-recorded old new x number value blocks page after added zero inside of_page was puts has =
    let same : records_of new ≡ records_of old = same_pages old new x number page was (subst (λ p. HasPage old new x number p) puts.0 has) in
    record {
      records = subst (λ m. RecordsIn (records_of old) m x value (λ b. stands_in b [])) (sym same) (records-none (records_of old) x value);
      lookups = λ v b. ap (λ m. lookups_at m v b) same;
      count = ap map.len same ∙ no_more (map.len (records_of old)) added puts.1;
    }
  where
    no_more : (n a : ℕ) → a ≡ 0 → n ≡ n + a
    no_more n a is = omega (arith, is)
run-recorded old new x number value blocks page after added (suc k) inside of_page was (mid, fewer, before, changes, sum) has =
    let earlier = run-recorded old between x number value blocks page mid fewer k (omega (arith, inside)) (λ j below. of_page j (omega (arith, below))) was before between-has in
    record {
      records =
          subst (λ bs. RecordsIn (records_of old) (records_of new) x value (λ b. stands_in b bs)) (sym (take-suc blocks k 0 inside))
          (records-further (records_of old) (records_of between) (records_of new) x value block (take k blocks) earlier.records (value_changed (records_of between) (records_of new) x block value last));
      lookups = λ v b. count_kept (records_of between) (records_of new) x block value last v b ∙ earlier.lookups v b;
      count =
          len-after-at between (records_of new) x block number (place_in_page block) (recording value) mid (sym here) refl found last
          ∙ more (map.len (records_of old)) (map.len (records_of between)) fewer (added_by mid (place_in_page block)) added earlier.count sum;
    }
  where
    block : ℕ
    block = slice_index blocks k

    between : List ((ℕ × ℕ) × List Cell)
    between = ((x, number), mid) ∷ old

    between-has : HasPage old between x number mid
    between-has q = ap (λ t. cond t (Some mid) (lookup (same_key q) old)) (turned (x, number) q)

    here : page_number block ≡ number
    here = of_page k (omega arith)

    found : mid ≡ unwrap_or (lookup (same_key (x, number)) between) empty_page
    found = sym (ap (λ p. unwrap_or p empty_page) (between-has (x, number) ∙ ap (λ t. cond t (Some mid) (lookup (same_key (x, number)) old)) (key_same (x, number) (x, number) refl refl)))

    through : (t : Bool) (q : ℕ × ℕ) → same_key (x, number) q ≡ t → cond t (Some after) (lookup (same_key q) old) ≡ cond t (Some after) (lookup (same_key q) between)
    through true q is = refl
    through false q is = sym (between-has q ∙ ap (λ t. cond t (Some mid) (lookup (same_key q) old)) is)

    last : HasEntry (records_of between) (records_of new) x block (recording value)
    last =
        page_changed between new new x block number (place_in_page block) (recording value) mid after (sym here) refl
        (λ q. has q ∙ through (same_key (x, number) q) q refl) found changes refl

    more : (n m a b c : ℕ) → m ≡ n + a → c ≡ a + b → m + b ≡ n + c
    more n m a b c first second = omega (arith, first, second)

-- a block whose page may be a new one
pub first-recorded : (old new : RecordMap) (x value c : ℕ) (blocks : List ℕ) → 0 < length blocks → c ≡ slice_index blocks 0 → HasEntry old new x c (recording value)
    → RecordsIn old new x value (λ b. stands_in b (take 1 blocks))
first-recorded old new x value c [] inside is has = absurd (omega (arith, inside))
first-recorded old new x value c (y ∷ ys) inside is has =
    records-further old old new x value y [] (records-none old x value) (subst (λ d. RecordsIn old new x value (λ b. b == d)) is (value_changed old new x c value has))

pub positive : (n : ℕ) → (n ≡ 0 → ⊥) → 0 < n
positive n some = elim (cases_eq n 0) [ inl none ↦ absurd (some none) | inr other ↦ omega (arith, other) ]

-- RUN AFTER RUN ---------------------------------------------------------------------------------------------------

-- the blocks from a place on, as a slice has them
abbrev pub rest_from : ℕ → List ℕ → List ℕ
rest_from done blocks = take (length blocks - done) (drop done blocks)

pub runs-joined : (old mid new : RecordMap) (x value done more : ℕ) (blocks : List ℕ) → RecordsIn old mid x value (λ b. stands_in b (take done blocks))
    → RecordsIn mid new x value (λ b. stands_in b (take more (rest_from done blocks))) → RecordsIn old new x value (λ b. stands_in b (take (done + more) blocks))
runs-joined old mid new x value done more blocks before step =
    subst (λ bs. RecordsIn old new x value (λ b. stands_in b bs)) (ap (λ bs. take done blocks ++ take more bs) (take_rest blocks done) ∙ sym (take-add done more blocks))
    (records-more old mid new x value (take done blocks) (take more (rest_from done blocks)) before step)

at_rest : (done k : ℕ) (blocks : List ℕ) → slice_index (rest_from done blocks) k ≡ slice_index blocks (done + k)
at_rest done k blocks = ap (λ bs. slice_index bs k) (take_rest blocks done) ∙ get_or-drop done blocks k 0

pub runs-apart : (from done more : ℕ) (blocks : List ℕ) → ((k : ℕ) → k < done → slice_index blocks k ≢ from) → ((k : ℕ) → k < more → slice_index (rest_from done blocks) k ≢ from)
    → (k : ℕ) → k < done + more → slice_index blocks k ≢ from
runs-apart from done more blocks before step k below =
    elim (below_or_not k done) [
      | inl earlier ↦ before k earlier
      | inr later ↦ λ is.
          step (k - done) (omega (arith, below, later))
          (at_rest done (k - done) blocks ∙ ap (λ n. slice_index blocks n) (back k done later) ∙ is)
    ]
  where
    back : (k d : ℕ) → d ≤ k → d + (k - d) ≡ k
    back k d there = omega (arith, there)

pub runs-within : (done more : ℕ) (blocks : List ℕ) → done ≤ length blocks → more ≤ length (rest_from done blocks) → done + more ≤ length blocks
runs-within done more blocks before step =
    let count : length (rest_from done blocks) ≡ length blocks - done = ap (λ (bs : List ℕ). length bs) (take_rest blocks done) ∙ length-drop done blocks in
    omega (arith, before, step, count)

pub past-all : (from done : ℕ) (blocks : List ℕ) → length blocks ≤ done → ((k : ℕ) → k < done → slice_index blocks k ≢ from) → take done blocks ≡ before_first from blocks
past-all from done blocks past none =
    let whole : take done blocks ≡ blocks = grind (arith, common_steps, past) in
    whole ∙ sym (before-all from blocks (λ k inside. none k (omega (arith, inside, past))))
