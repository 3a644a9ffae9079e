-- The row `both_arms`: its tables are the program's.
use Rattle.std.proofs.Common.{◌≡◌, ◌≢◌, ℕ, zero, suc, ◌<◌, false, Option, Some, None, List, [], ◌∷◌, ◌⊎◌, inl, inr, refl, sym, ◌∙◌, ap, subst, arith, Contains, slice_get, length, map, ◌==◌, if◌then◌else◌, fold}
use Rattle.std.proofs.lemmas.Bool.Decides.{nat_tests}
use Rattle.std.specs.List.{AllByRecursion}
use Rattle.clif_paths.specs.Places.{Place, start, inside}
use Rattle.clif_meaning.specs.Name.{Name, answer_of, same_name}
use Rattle.clif_meaning.specs.Request.{Request, Script, script_of}
use Rattle.clif_meaning.specs.Program.{Program, Item, first_block, redirected_item, with_call, with_item_at, with_inserted, empty_program}
use Rattle.clif_meaning.specs.BranchExamples.{block}
use Rattle.clif_meaning.specs.WellPlaced.{item_gives}
use Rattle.clif_meaning.proofs.FirstRow.{one_of, first_of_one}
use Rattle.clif_meaning.proofs.StraightLine.{none_of, nothing_contained}
use Rattle.clif_simulation.specs.Tables.{code, answered, program_so_far, block_name, item_at, assigned_by, origin_of, IsGiven, IsProgramOf}
use Rattle.clif_simulation.specs.CarryingExamples.{loop_calls}
use Rattle.clif_simulation.proofs.NameLists.{same_name_cases}
use Rattle.clif_simulation.proofs.Beginning.{current_of_program}
use Rattle.clif_meaning.proofs.Effects.{switch_of, ProgramEffect, program_effect, Leaves, Inserts, Takes, Switches, Assigns, Uses, Builds, Redirects}
use Rattle.clif_simulation.proofs.Loops.LoopTables.{loop_tables, computing_row, each_name_of_row, each_write_of_row}

abbrev items_of_block : Name → List Item
items_of_block name = (program_so_far loop_calls).items name

-- the blocks, and their items
pub each_block_of_row : (P : ℕ → Name → Type 0) → P 0 (block 0) → P 1 (block 1) → P 2 (block 2) → P 3 (block 3)
    → (number : ℕ) (name : Name) → block_name loop_calls number ≡ Some name → P number name
each_block_of_row P a b c d zero name e = subst (P 0) (is e) a
  where
    is : Some (block 0) ≡ Some name → block 0 ≡ name
    is e = cc
each_block_of_row P a b c d (suc zero) name e = subst (P 1) (is e) b
  where
    is : Some (block 1) ≡ Some name → block 1 ≡ name
    is e = cc
each_block_of_row P a b c d (suc (suc zero)) name e = subst (P 2) (is e) c
  where
    is : Some (block 2) ≡ Some name → block 2 ≡ name
    is e = cc
each_block_of_row P a b c d (suc (suc (suc zero))) name e = subst (P 3) (is e) d
  where
    is : Some (block 3) ≡ Some name → block 3 ≡ name
    is e = cc
each_block_of_row P a b c d (suc (suc (suc (suc number)))) name e = absurd (is e)
  where
    is : None ≡ Some name → ⊥
    is e = cc

-- the blocks that the calls switch to
abbrev pub with_switch : Option Name → List Name → List Name
with_switch None blocks = blocks
with_switch (Some block) blocks = block ∷ blocks

abbrev pub switches : Script → List Name
switches [] = []
switches (request ∷ rest) = with_switch (switch_of request) (switches rest)

-- the calls never switch to the block with this name
abbrev pub NeverAt : Name → Script → Type 0
NeverAt name script = AllByRecursion (λ block. same_name name block ≡ false) (switches script)

abbrev pub IsNotAt : Name → Option Name → Type 0
IsNotAt name None = Unit {0}
IsNotAt name (Some block) = same_name name block ≡ false

no_new_item : (program : Program) (current : Option Name) (item : Item) (name : Name) → IsNotAt name current → (with_item_at program current item).items name ≡ program.items name
no_new_item program None item name apart = refl
no_new_item program (Some block) item name apart = rw apart refl

-- calls in other blocks add nothing to a block
pub nothing_there : (name : Name) (script : Script) (program : Program) → NeverAt name script → IsNotAt name program.current → program.items name ≡ []
    → (fold with_call program script).items name ≡ []
nothing_there name [] program never apart none = none
nothing_there name (request ∷ rest) program never apart none =
    nothing_there name rest (with_call program request) (others (switch_of request) never)
    (subst (IsNotAt name) (sym (current_of_program program request)) (not_there (switch_of request) never)) (items (program_effect request))
  where
    others : (o : Option Name) → AllByRecursion (λ block. same_name name block ≡ false) (with_switch o (switches rest)) → NeverAt name rest
    others None all = all
    others (Some block) all = all.1

    not_there : (o : Option Name) → AllByRecursion (λ block. same_name name block ≡ false) (with_switch o (switches rest)) → IsNotAt name (first_block o program.current)
    not_there None all = apart
    not_there (Some block) all = all.0

    of_request : (other : Request) → request ≡ other → (with_call program other).items name ≡ [] → (with_call program request).items name ≡ []
    of_request other is holds = ap (λ (r : Request). (with_call program r).items name) is ∙ holds

    items : ProgramEffect request → (with_call program request).items name ≡ []
    items (Leaves stays is) = ap (λ (p : Program). p.items name) (is program) ∙ none
    items (Inserts stays is) = ap (λ (p : Program). p.items name) (is program) ∙ none
    items (Takes block types stays makes is) = ap (λ (p : Program). p.items name) (is program) ∙ none
    items (Switches block is) = of_request _ is none
    items (Assigns variable value is) = of_request _ is (no_new_item program program.current _ name apart ∙ none)
    items (Uses variable is) = of_request _ is (no_new_item (with_inserted program) program.current _ name apart ∙ none)
    items (Builds entries instruction is) = of_request _ is (no_new_item (with_inserted program) program.current _ name apart ∙ none)
    items (Redirects branch from to stays is) = ap (λ (p : Program). p.items name) (is program) ∙ ap (map (redirected_item branch from to)) none

data FourCases (name : Name) : Type 0 where
  is_first : block 0 ≡ name → FourCases name
  is_second : block 1 ≡ name → FourCases name
  is_third : block 2 ≡ name → FourCases name
  is_last : block 3 ≡ name → FourCases name
  is_none : items_of_block name ≡ [] → FourCases name

four_cases : (name : Name) → FourCases name
four_cases name = by (same_name_cases name (block 0)) (same_name_cases name (block 1)) (same_name_cases name (block 2)) (same_name_cases name (block 3))
  where
    by : (name ≡ block 0) ⊎ ((name ≢ block 0) × (same_name name (block 0) ≡ false)) → (name ≡ block 1) ⊎ ((name ≢ block 1) × (same_name name (block 1) ≡ false))
        → (name ≡ block 2) ⊎ ((name ≢ block 2) × (same_name name (block 2) ≡ false)) → (name ≡ block 3) ⊎ ((name ≢ block 3) × (same_name name (block 3) ≡ false))
        → FourCases name
    by (inl a) b c d = is_first (sym a)
    by (inr a) (inl b) c d = is_second (sym b)
    by (inr a) (inr b) (inl c) d = is_third (sym c)
    by (inr a) (inr b) (inr c) (inl d) = is_last (sym d)
    by (inr a) (inr b) (inr c) (inr d) =
        is_none (nothing_there name (script_of loop_calls) empty_program (a.1, (b.1, (c.1, (d.1, tt)))) tt refl)

-- what holds of the blocks' lists of items, and of the empty one, holds of each name's
pub each_items_of_row : (P : List Item → Type 0) → P [] → P (items_of_block (block 0)) → P (items_of_block (block 1)) → P (items_of_block (block 2))
    → P (items_of_block (block 3)) → (name : Name) → P (items_of_block name)
each_items_of_row P none a b c d name = by (four_cases name)
  where
    by : FourCases name → P (items_of_block name)
    by (is_first e) = subst (λ (n : Name). P (items_of_block n)) e a
    by (is_second e) = subst (λ (n : Name). P (items_of_block n)) e b
    by (is_third e) = subst (λ (n : Name). P (items_of_block n)) e c
    by (is_last e) = subst (λ (n : Name). P (items_of_block n)) e d
    by (is_none e) = subst P (sym e) none

only_blocks : (name : Name) → (items_of_block name ≡ []) ⊎ ((number : ℕ) × (block_name loop_calls number ≡ Some name))
only_blocks name = by (four_cases name)
  where
    by : FourCases name → (items_of_block name ≡ []) ⊎ ((number : ℕ) × (block_name loop_calls number ≡ Some name))
    by (is_first e) = inr (0, ap (λ (n : Name). Some n) e)
    by (is_second e) = inr (1, ap (λ (n : Name). Some n) e)
    by (is_third e) = inr (2, ap (λ (n : Name). Some n) e)
    by (is_last e) = inr (3, ap (λ (n : Name). Some n) e)
    by (is_none e) = inl e

-- each item, by its block and its place
some_item : (P : Item → Type 0) (a : Item) → P a → (item : Item) → Some a ≡ Some item → P item
some_item P a here item e = subst P (is e) here
  where
    is : Some a ≡ Some item → a ≡ item
    is e = cc

no_item : {A : Type 0} (item : Item) → None ≡ Some item → A
no_item item e = absurd cc

abbrev EachItemOf : (ℕ → Item → Type 0) → List Item → Type 0
EachItemOf P [] = Unit {0}
EachItemOf P (item ∷ items) = P 0 item × EachItemOf (λ k. P (suc k)) items

each_item_of : (P : ℕ → Item → Type 0) (items : List Item) → EachItemOf P items → (index : ℕ) (item : Item) → slice_get items index ≡ Some item → P index item
each_item_of P [] each index item e = no_item item e
each_item_of P (first ∷ items) each zero item e = some_item (P 0) first each.0 item e
each_item_of P (first ∷ items) each (suc index) item e = each_item_of (λ k. P (suc k)) items each.1 index item e

-- What items give ---------------------------------------------------------------------------------------------------------

abbrev GivenAt : ℕ → ℕ → Item → Name → Type 0
GivenAt number index item x =
    (loop_tables.naming (code x) ≡ record { home = inside number (suc index); origin = origin_of item }) × (loop_tables.answer (code x) ≡ answered loop_calls x)

record Given (number index : ℕ) (item : Item) : Type 0 where
  given_there : (x : Name) → Contains (item_gives (Some item)) x → GivenAt number index item x

gives_one : {number index : ℕ} {item : Item} (name : Name) → item_gives (Some item) ≡ name ∷ [] → GivenAt number index item name → Given number index item
gives_one {number} {index} {item} name e here = record {
  given_there = λ x there. subst (GivenAt number index item) (one_of name x (subst (λ (names : List Name). Contains names x) e there)) here;
}

gives_none : {number index : ℕ} {item : Item} → item_gives (Some item) ≡ [] → Given number index item
gives_none {number} {index} {item} e = record { given_there = λ x there. absurd (none_of (item_gives (Some item)) x e there) }

given : (number index : ℕ) (name : Name) (item : Item) → block_name loop_calls number ≡ Some name → item_at loop_calls name index ≡ Some item → Given number index item
unfolding computing_row
given number index name item named =
    each_block_of_row (λ k n. item_at loop_calls n index ≡ Some item → Given k index item)
    (each_item_of (Given 0) (items_of_block (block 0))
    (gives_one (answer_of 7 1) refl (refl, refl), (gives_none refl, (gives_none refl, tt))) index item)
    (each_item_of (Given 1) (items_of_block (block 1))
    (gives_one (answer_of 11 0) refl (refl, refl), (gives_none refl, tt)) index item)
    (each_item_of (Given 2) (items_of_block (block 2)) (
      gives_one (answer_of 15 0) refl (refl, refl),
      (
        gives_one (answer_of 16 1) refl (refl, refl),
        (
          gives_one (answer_of 17 1) refl (refl, refl),
          (gives_none refl, (gives_none refl, tt)),
        ),
      ),
    ) index item)
    (each_item_of (Given 3) (items_of_block (block 3))
    (gives_one (answer_of 23 0) refl (refl, refl), (gives_none refl, tt)) index item)
    number name named

-- the name is given by the item at this place
given_by : (place index number item : ℕ) (is : Item) → place < 25 → block_name loop_calls number ≡ Some (block number)
    → item_at loop_calls (block number) item ≡ Some is → item_gives (Some is) ≡ answer_of place index ∷ []
    → loop_tables.naming (code (answer_of place index)) ≡ record { home = inside number (suc item); origin = origin_of is }
    → IsGiven loop_calls loop_tables (code (answer_of place index))
given_by place index number item is earlier named stands gives naming = record {
  name = answer_of place index;
  block = number;
  block_is = block number;
  index = item;
  item = is;
  coded = refl;
  earlier = earlier;
  named = named;
  stands = stands;
  gives = subst (λ (names : List Name). Contains names (answer_of place index)) (sym gives) (first_of_one (answer_of place index) (answer_of place index) refl);
  naming = naming;
}

given_only : (n : ℕ) → (loop_tables.naming n).home ≢ start → IsGiven loop_calls loop_tables n
unfolding computing_row
given_only =
    each_name_of_row (IsGiven loop_calls loop_tables)
    (given_by 7 1 0 0 _ (omega arith) refl refl refl refl)
    (given_by 11 0 1 0 _ (omega arith) refl refl refl refl)
    (given_by 15 0 2 0 _ (omega arith) refl refl refl refl)
    (given_by 16 1 2 1 _ (omega arith) refl refl refl refl)
    (given_by 17 1 2 2 _ (omega arith) refl refl refl refl)
    (given_by 23 0 3 0 _ (omega arith) refl refl refl refl)

-- Assignments ---------------------------------------------------------------------------------------------------------------

pub none_for : (x n : ℕ) → (if suc x == 0 then Some n else None) ≡ None
none_for x n = rw (later x) refl
  where
    later : (x : ℕ) → (suc x == 0) ≡ false
    later x = grind (arith, nat_tests)

assigned : (number index : ℕ) (name : Name) → block_name loop_calls number ≡ Some name
    → (x : ℕ) → loop_tables.assigned (inside number (suc index)) x ≡ assigned_by (item_at loop_calls name index) x
unfolding computing_row
assigned number index name named x =
    each_block_of_row (λ k n. loop_tables.assigned (inside k (suc index)) x ≡ assigned_by (item_at loop_calls n index) x)
    (in_first index x) (in_second index x) (in_third index x) (in_last index x) number name named
  where
    in_first : (index x : ℕ) → loop_tables.assigned (inside 0 (suc index)) x ≡ assigned_by (item_at loop_calls (block 0) index) x
    in_first zero x = refl
    in_first (suc zero) zero = refl
    in_first (suc zero) (suc x) = sym (none_for x (code (answer_of 7 1)))
    in_first (suc (suc zero)) x = refl
    in_first (suc (suc (suc index))) x = refl

    in_second : (index x : ℕ) → loop_tables.assigned (inside 1 (suc index)) x ≡ assigned_by (item_at loop_calls (block 1) index) x
    in_second zero x = refl
    in_second (suc zero) x = refl
    in_second (suc (suc index)) x = refl

    in_third : (index x : ℕ) → loop_tables.assigned (inside 2 (suc index)) x ≡ assigned_by (item_at loop_calls (block 2) index) x
    in_third zero x = refl
    in_third (suc zero) x = refl
    in_third (suc (suc zero)) x = refl
    in_third (suc (suc (suc zero))) zero = refl
    in_third (suc (suc (suc zero))) (suc x) = sym (none_for x (code (answer_of 17 1)))
    in_third (suc (suc (suc (suc zero)))) x = refl
    in_third (suc (suc (suc (suc (suc index))))) x = refl

    in_last : (index x : ℕ) → loop_tables.assigned (inside 3 (suc index)) x ≡ assigned_by (item_at loop_calls (block 3) index) x
    in_last zero x = refl
    in_last (suc zero) x = refl
    in_last (suc (suc index)) x = refl

front_assigns_nothing : (number x : ℕ) → loop_tables.assigned (inside number 0) x ≡ None
unfolding computing_row
front_assigns_nothing zero x = refl
front_assigns_nothing (suc zero) x = refl
front_assigns_nothing (suc (suc zero)) x = refl
front_assigns_nothing (suc (suc (suc number))) x = refl

-- Blocks --------------------------------------------------------------------------------------------------------------------

some_none : {A : Type 0} (name : Name) → Some name ≡ None → A
some_none name e = absurd cc

-- a number of no block is none of the four
pub other_block : (P : ℕ → Type 0) → ((number : ℕ) → P (suc (suc (suc (suc number))))) → (number : ℕ) → block_name loop_calls number ≡ None → P number
other_block P other zero e = some_none (block 0) e
other_block P other (suc zero) e = some_none (block 1) e
other_block P other (suc (suc zero)) e = some_none (block 2) e
other_block P other (suc (suc (suc zero))) e = some_none (block 3) e
other_block P other (suc (suc (suc (suc number)))) e = other number

counts : (number : ℕ) (name : Name) → block_name loop_calls number ≡ Some name → loop_tables.count number ≡ length (items_of_block name)
unfolding computing_row
counts = each_block_of_row (λ k n. loop_tables.count k ≡ length (items_of_block n)) refl refl refl refl

no_count : (number : ℕ) → block_name loop_calls number ≡ None → loop_tables.count number ≡ 0
unfolding computing_row
no_count = other_block (λ k. loop_tables.count k ≡ 0) (λ k. refl)

elsewhere_nothing : (number index x : ℕ) → block_name loop_calls number ≡ None → loop_tables.assigned (inside number index) x ≡ None
unfolding computing_row
elsewhere_nothing number index x = other_block (λ k. loop_tables.assigned (inside k index) x ≡ None) (λ k. refl) number

-- a block's number is the place of its call
is_its_place : (number : ℕ) (name : Name) → block_name loop_calls number ≡ Some name → (number ≡ name.place) × (name.place < 25)
is_its_place = each_block_of_row (λ k n. (k ≡ n.place) × (n.place < 25)) (refl, omega arith) (refl, omega arith) (refl, omega arith) (refl, omega arith)

assigned_earlier : (place : Place) (x n : ℕ) → loop_tables.assigned place x ≡ Some n → (name : Name) × (code name ≡ n) × (name.place < 25)
assigned_earlier =
    each_write_of_row (λ place x n. (name : Name) × (code name ≡ n) × (name.place < 25))
    (answer_of 7 1, refl, omega arith) (answer_of 17 1, refl, omega arith)

pub row_program : IsProgramOf loop_calls loop_tables
unfolding computing_row
row_program = record {
  counts = counts;
  no_count = no_count;
  assigned = assigned;
  front_assigns_nothing = front_assigns_nothing;
  start_assigns_nothing = λ x. refl;
  elsewhere_nothing = elsewhere_nothing;
  given = λ number index name item named stands. (given number index name item named stands).given_there;
  parameter = λ number name named x stands. absurd (nothing_contained x stands);
  given_only = λ n home. inl (given_only n home);
  assigned_earlier = assigned_earlier;
  distinct = λ b c name e h. (is_its_place b name e).0 ∙ sym (is_its_place c name h).0;
  blocks_earlier = λ number name e. (is_its_place number name e).1;
  only_blocks = only_blocks;
  only_parameters = λ name. inl refl;
}
