-- The row `both_arms`: its tables describe the function and the state of its construction.
use Rattle.std.proofs.Common.{◌≡◌, ◌≢◌, ℕ, zero, suc, ◌+◌, ◌<◌, ◌≤◌, ◌&&◌, ◌⊎◌, true, Some, None, List, [], ◌∷◌, inl, inr, refl, sym, ◌∙◌, ap, subst, arith, Contains, slice_index_or, length, map}
use Rattle.clif_instructions.specs.declared.block_call.BlockArg.TheVariants.{Value}
use Rattle.clif_ir.specs.Body.{follow, resolved, block_at}
use Rattle.clif_instructions.specs.Members.{Once, place_of}
use Rattle.clif_ir.specs.Reading.{param_home}
use Rattle.clif_paths.specs.Places.{Place, start, inside, Arm}
use Rattle.clif_paths.specs.State.{Definition, fresh, reads, unborn, born, complete}
use Rattle.clif_paths.specs.Blocks.{front, last_place, AssignsNot}
use Rattle.clif_paths.specs.Examples.{jump}
use Rattle.clif_records.specs.declared.tables.Pending.{Pending}
use Rattle.clif_ssa.specs.Own.{Own}
use Rattle.clif_records.specs.Tables.{is_yes, pending_of}
use Rattle.clif_ssa.specs.Ssa.{record_of, sealed_of, predecessors_of}
use Rattle.clif_ssa.specs.LookUp.{branch_block}
use Rattle.clif_records.proofs.RecordMaps.{value_among}
use Rattle.clif_ssa.specs.Sound.{EntryIsFree, Describes, CountsArguments, IsCounted, IsBehind, HomeFits, HasInstructions, IsEdgeInto, BelongsTo, InOrder, entry_of, has_entry, edge_target, passed_at, passed_count}
use Rattle.clif_meaning.proofs.FirstRow.{first_of_one, one_of}
use Rattle.clif_meaning.proofs.StraightLine.{nothing_contained, none_of}
use Rattle.clif_simulation.specs.CarryingExamples.{loop_body, loop_state}
use Rattle.clif_simulation.proofs.Rows.RecordsListed.{loop_entries, loop_record}
use Rattle.clif_simulation.proofs.Loops.LoopTables.{loop_tables, computing_row, each_arm_of_row, each_name_of_row, each_write_of_row, unassigned, complete_of_row, none_pends}

abbrev own_insts : ℕ → List ℕ
own_insts zero = 0 ∷ 1 ∷ []
own_insts (suc zero) = 2 ∷ []
own_insts (suc (suc zero)) = 3 ∷ 4 ∷ 5 ∷ []
own_insts (suc (suc (suc zero))) = 6 ∷ []
own_insts (suc (suc (suc (suc b)))) = []

-- the caller made all instructions, no parameter, and passed nothing
abbrev pub row_own : Own
row_own = record { insts = own_insts; params = λ b. []; passed = λ i k. [] }

-- Edges ---------------------------------------------------------------------------------------------------------------------

some_number : (a b : ℕ) → Some a ≡ Some b → a ≡ b
some_number a b e = cc

no_number : {A : Type 0} (b : ℕ) → None ≡ Some b → A
no_number b e = absurd cc

-- the edges of the function, by branch, number and target
pub each_edge_of_row : (P : ℕ → ℕ → ℕ → Type 0) → P 1 0 1 → P 2 0 2 → P 2 1 3 → P 5 0 1 → P 5 1 1
    → (i k target : ℕ) → edge_target loop_body i k ≡ Some target → P i k target
each_edge_of_row P a b c d e zero k t h = no_number t h
each_edge_of_row P a b c d e (suc zero) zero t h = subst (P 1 0) (some_number 1 t h) a
each_edge_of_row P a b c d e (suc zero) (suc k) t h = no_number t h
each_edge_of_row P a b c d e (suc (suc zero)) zero t h = subst (P 2 0) (some_number 2 t h) b
each_edge_of_row P a b c d e (suc (suc zero)) (suc zero) t h = subst (P 2 1) (some_number 3 t h) c
each_edge_of_row P a b c d e (suc (suc zero)) (suc (suc k)) t h = no_number t h
each_edge_of_row P a b c d e (suc (suc (suc zero))) k t h = no_number t h
each_edge_of_row P a b c d e (suc (suc (suc (suc zero)))) k t h = no_number t h
each_edge_of_row P a b c d e (suc (suc (suc (suc (suc zero))))) zero t h = subst (P 5 0) (some_number 1 t h) d
each_edge_of_row P a b c d e (suc (suc (suc (suc (suc zero))))) (suc zero) t h = subst (P 5 1) (some_number 1 t h) e
each_edge_of_row P a b c d e (suc (suc (suc (suc (suc zero))))) (suc (suc k)) t h = no_number t h
each_edge_of_row P a b c d e (suc (suc (suc (suc (suc (suc zero)))))) k t h = no_number t h
each_edge_of_row P a b c d e (suc (suc (suc (suc (suc (suc (suc i))))))) k t h = no_number t h

pub first_of_two : Contains {X = ℕ} (1 ∷ 5 ∷ []) 1
first_of_two = (0, omega arith, refl)

second_of_two : Contains {X = ℕ} (1 ∷ 5 ∷ []) 5
second_of_two = (1, omega arith, refl)

-- a branch leads to each block that one of its edges goes to
pub leads : (i k target : ℕ) → edge_target loop_body i k ≡ Some target → Contains (predecessors_of loop_state target) i
leads =
    each_edge_of_row (λ i k t. Contains (predecessors_of loop_state t) i) first_of_two (first_of_one 2 2 refl) (first_of_one 2 2 refl) second_of_two second_of_two

at_place : (P : Place → Place → Type 0) (a b : Place) → P a b → (source target : Place) → source ≡ a → target ≡ b → P source target
at_place P a b here source target from to = subst (λ (s : Place). P s target) (sym from) (subst (P a) (sym to) here)

-- the arms into blocks are the edges
edge_into : (P : ℕ → Arm → ℕ → Type 0)
    → P 1 (jump 0 3 0 1) 1 → P 2 (jump 1 2 0 2) 2 → P 3 (jump 1 2 1 3) 2 → P 1 (jump 2 5 0 1) 5 → P 1 (jump 2 5 1 1) 5
    → (b : ℕ) (arm : Arm) → arm.target ≡ front b → (edge : IsEdgeInto loop_body loop_state loop_tables b arm) → P b arm edge.branch
unfolding computing_row
edge_into P a b c d e target arm at edge =
    each_edge_of_row
    (λ i k t. (from to : Place) → from ≡ last_place loop_tables (branch_block loop_body i) → to ≡ front t → P t (record { source = from; target = to; edge = k }) i)
    (at_place (λ from to. P 1 (record { source = from; target = to; edge = 0 }) 1) (inside 0 3) (front 1) a)
    (at_place (λ from to. P 2 (record { source = from; target = to; edge = 0 }) 2) (inside 1 2) (front 2) b)
    (at_place (λ from to. P 3 (record { source = from; target = to; edge = 1 }) 2) (inside 1 2) (front 3) c)
    (at_place (λ from to. P 1 (record { source = from; target = to; edge = 0 }) 5) (inside 2 5) (front 1) d)
    (at_place (λ from to. P 1 (record { source = from; target = to; edge = 1 }) 5) (inside 2 5) (front 1) e)
    edge.branch arm.edge target edge.to arm.source arm.target edge.from at

abbrev Joined : Arm → Type 0
Joined arm =
    (b : ℕ) × (arm.target ≡ front b) × (is_yes (sealed_of loop_state b) ≡ true)
    × (((arm.source ≡ start) × (entry_of loop_body ≡ Some b)) ⊎ IsEdgeInto loop_body loop_state loop_tables b arm)

joined : (arm : Arm) → loop_tables.joins arm ≡ true → Joined arm
unfolding computing_row
joined =
    each_arm_of_row Joined (
      (3, refl, refl, inr (record { branch = 2; leads = first_of_one 2 2 refl; from = refl; to = refl })),
      (
        (1, refl, refl, inr (record { branch = 1; leads = first_of_two; from = refl; to = refl })),
        (
          (1, refl, refl, inr (record { branch = 5; leads = second_of_two; from = refl; to = refl })),
          (
            (1, refl, refl, inr (record { branch = 5; leads = second_of_two; from = refl; to = refl })),
            (
              (2, refl, refl, inr (record { branch = 2; leads = first_of_one 2 2 refl; from = refl; to = refl })),
              ((0, refl, refl, inl (refl, refl)), tt),
            ),
          ),
        ),
      ),
    )

led : (b : ℕ) (arm : Arm) → is_yes (sealed_of loop_state b) ≡ true → arm.target ≡ front b → IsEdgeInto loop_body loop_state loop_tables b arm → loop_tables.joins arm ≡ true
unfolding computing_row
led b arm is_sealed at edge = edge_into (λ b arm i. loop_tables.joins arm ≡ true) refl refl refl refl refl b arm at edge

entered : (number : ℕ) → entry_of loop_body ≡ Some number → loop_tables.joins (record { source = start; target = front number; edge = 0 }) ≡ true
unfolding computing_row
entered number e = subst (λ (k : ℕ). loop_tables.joins (record { source = start; target = front k; edge = 0 }) ≡ true) (some_number 0 number e) refl

-- Blocks --------------------------------------------------------------------------------------------------------------------

sealed : (b : ℕ) → loop_tables.sealed b ≡ (is_yes (sealed_of loop_state b) && has_entry loop_body.layout)
unfolding computing_row
sealed zero = refl
sealed (suc zero) = refl
sealed (suc (suc zero)) = refl
sealed (suc (suc (suc zero))) = refl
sealed (suc (suc (suc (suc b)))) = refl

-- nothing waits
pub none_waits : (b : ℕ) → pending_of (sealed_of loop_state b) ≡ []
none_waits zero = refl
none_waits (suc zero) = refl
none_waits (suc (suc zero)) = refl
none_waits (suc (suc (suc zero))) = refl
none_waits (suc (suc (suc (suc b)))) = refl

one_of_two : (a b x : ℕ) → Contains (a ∷ b ∷ []) x → (a ≡ x) ⊎ (b ≡ x)
one_of_two a b x h = by h.0 h.1 h.2
  where
    by : (k : ℕ) → k < 2 → slice_index_or (a ∷ b ∷ []) k x ≡ x → (a ≡ x) ⊎ (b ≡ x)
    by zero below here = inl here
    by (suc zero) below here = inr here
    by (suc (suc k)) below here = absurd (omega (arith, below))

leading : (b i : ℕ) → Contains (predecessors_of loop_state b) i → (i < 7) × (has_entry loop_body.layout ≡ true)
leading zero i there = absurd (nothing_contained i there)
leading (suc zero) i there = (by (one_of_two 1 5 i there), refl)
  where
    by : (1 ≡ i) ⊎ (5 ≡ i) → i < 7
    by (inl e) = omega (arith, e)
    by (inr e) = omega (arith, e)
leading (suc (suc zero)) i there = let e : 2 ≡ i = one_of 2 i there in (omega (arith, e), refl)
leading (suc (suc (suc zero))) i there = let e : 2 ≡ i = one_of 2 i there in (omega (arith, e), refl)
leading (suc (suc (suc (suc b)))) i there = absurd (nothing_contained i there)

one_once : (x : ℕ) → Once (x ∷ [])
one_once x j k below within e = omega (arith, below, within)

two_once : Once (0 ∷ 2 ∷ [])
two_once zero zero below within e = omega (arith, below)
two_once zero (suc zero) below within e = cc
two_once zero (suc (suc k)) below within e = omega (arith, within)
two_once (suc j) zero below within e = omega (arith, below)
two_once (suc j) (suc zero) below within e = omega (arith, below)
two_once (suc j) (suc (suc k)) below within e = omega (arith, within)

leading_apart : (b : ℕ) → Once (map (branch_block loop_body) (predecessors_of loop_state b))
leading_apart zero j k below within e = omega (arith, within)
leading_apart (suc zero) j k below within e = two_once j k below within e
leading_apart (suc (suc zero)) j k below within e = one_once 1 j k below within e
leading_apart (suc (suc (suc zero))) j k below within e = one_once 1 j k below within e
leading_apart (suc (suc (suc (suc b)))) j k below within e = omega (arith, within)

entry_free : EntryIsFree loop_body loop_state
entry_free number e sealed = subst (λ (k : ℕ). predecessors_of loop_state k ≡ []) (some_number 0 number e) refl

-- Records -------------------------------------------------------------------------------------------------------------------

listed : (b x : ℕ) → loop_tables.recorded b x ≡ value_among (loop_entries 3) x b
unfolding computing_row
listed zero zero = refl
listed (suc zero) zero = refl
listed (suc (suc zero)) zero = refl
listed (suc (suc (suc zero))) zero = refl
listed (suc (suc (suc (suc b)))) zero = refl
listed zero (suc x) = refl
listed (suc zero) (suc x) = refl
listed (suc (suc zero)) (suc x) = refl
listed (suc (suc (suc zero))) (suc x) = refl
listed (suc (suc (suc (suc b)))) (suc x) = refl

recorded : (b x : ℕ) → loop_tables.recorded b x ≡ record_of loop_state x b
recorded b x = listed b x ∙ sym (loop_record x b)

listed_exist : (b x v : ℕ) → value_among (loop_entries 3) x b ≡ Some v → v < 4
listed_exist zero zero v e = let is : 0 ≡ v = some_number 0 v e in omega (arith, is)
listed_exist (suc zero) zero v e = let is : 1 ≡ v = some_number 1 v e in omega (arith, is)
listed_exist (suc (suc zero)) zero v e = let is : 3 ≡ v = some_number 3 v e in omega (arith, is)
listed_exist (suc (suc (suc zero))) zero v e = let is : 1 ≡ v = some_number 1 v e in omega (arith, is)
listed_exist (suc (suc (suc (suc b)))) zero v e = no_number v e
listed_exist b (suc x) v e = no_number v e

records_exist : (b x v : ℕ) → record_of loop_state x b ≡ Some v → v < 4
records_exist b x v e = listed_exist b x v (sym (loop_record x b) ∙ e)

abbrev is_block : Place → ℕ → Type 0
is_block start b = ⊥
is_block (inside c k) b = c ≡ b

-- where something is assigned, a value is on record
assigns_recorded : (b x : ℕ) → record_of loop_state x b ≡ None → (place : Place) (n : ℕ) → loop_tables.assigned place x ≡ Some n → is_block place b → ⊥
assigns_recorded b x none place n e =
    each_write_of_row (λ p y m. record_of loop_state y b ≡ None → is_block p b → ⊥)
    (λ none here. some_none 0 (sym (loop_record 0 0) ∙ subst (λ (c : ℕ). record_of loop_state 0 c ≡ None) (sym here) none))
    (λ none here. some_none 3 (sym (loop_record 0 2) ∙ subst (λ (c : ℕ). record_of loop_state 0 c ≡ None) (sym here) none))
    place x n e none
  where
    some_none : (v : ℕ) → Some v ≡ None → ⊥
    some_none v e = cc

unrecorded : (b x : ℕ) → record_of loop_state x b ≡ None → AssignsNot loop_tables b x
unrecorded b x none = record { none = λ k within. unassigned (inside b k) x (λ n e. assigns_recorded b x none (inside b k) n e refl) }

abbrev is_behind : Place → Type 0
is_behind start = ⊥
is_behind (inside b k) = loop_tables.count b < k

unwritten : (b k x : ℕ) → loop_tables.count b < k → loop_tables.assigned (inside b k) x ≡ None
unwritten b k x beyond =
    unassigned (inside b k) x (λ n e. each_write_of_row (λ p y m. is_behind p → ⊥) first second (inside b k) x n e beyond)
  where
    first : loop_tables.count 0 < 2 → ⊥
    first below = let h : 3 < 2 = below in omega (arith, h)

    second : loop_tables.count 2 < 4 → ⊥
    second below = let h : 5 < 4 = below in omega (arith, h)

-- Values --------------------------------------------------------------------------------------------------------------------

resolves : (v : ℕ) → loop_tables.function.resolve v ≡ resolved loop_body v
unfolding computing_row follow
resolves zero = refl
resolves (suc zero) = refl
resolves (suc (suc zero)) = refl
resolves (suc (suc (suc zero))) = refl
resolves (suc (suc (suc (suc v)))) = refl

absent : (v : ℕ) → 4 ≤ v → loop_tables.function.definition v ≡ record { home = start; kind = unborn }
unfolding computing_row
absent zero above = absurd (omega (arith, above))
absent (suc zero) above = absurd (omega (arith, above))
absent (suc (suc zero)) above = absurd (omega (arith, above))
absent (suc (suc (suc zero))) above = absurd (omega (arith, above))
absent (suc (suc (suc (suc v)))) above = refl

pub not_start : (b k : ℕ) → inside b k ≢ start
not_start b k e = cc

homes : (v : ℕ) → HomeFits loop_tables v (loop_tables.function.definition v).kind
unfolding computing_row
homes zero = (refl, refl, not_start 0 1)
homes (suc zero) = (1, refl, refl)
homes (suc (suc zero)) = (refl, refl, not_start 2 2)
homes (suc (suc (suc zero))) = (refl, refl, not_start 2 3)
homes (suc (suc (suc (suc v)))) = refl

answered : (n : ℕ) → (loop_tables.naming n).home ≢ start → loop_tables.answer n < 4
unfolding computing_row
answered = each_name_of_row (λ n. loop_tables.answer n < 4) (below 0 (omega arith)) (below 1 (omega arith)) (below 1 (omega arith)) (below 2 (omega arith)) (below 3 (omega arith)) (below 1 (omega arith))
  where
    below : (v : ℕ) → v < 4 → v < 4
    below v h = h

abbrev BornThere : ℕ → Type 0
BornThere n =
    (loop_tables.naming n).origin ≡ fresh
    → (loop_tables.function.definition (loop_tables.answer n) ≡ record { home = (loop_tables.naming n).home; kind = born n })
    × (resolved loop_body (loop_tables.answer n) ≡ loop_tables.answer n)

only_read : {A : Type 0} → reads 0 ≡ fresh → A
only_read e = absurd cc

born_there : (n : ℕ) → (loop_tables.naming n).home ≢ start → BornThere n
unfolding computing_row follow
born_there = each_name_of_row BornThere (λ e. (refl, refl)) (λ e. only_read e) (λ e. only_read e) (λ e. (refl, refl)) (λ e. (refl, refl)) (λ e. only_read e)

none_waiting : {A : Type 0} (b : ℕ) (p : Pending) → Contains (pending_of (sealed_of loop_state b)) p → A
none_waiting b p there = absurd (none_of (pending_of (sealed_of loop_state b)) p (none_waits b) there)

waiting_order : (b : ℕ) → InOrder (block_at loop_body b).params (pending_of (sealed_of loop_state b))
waiting_order b = subst (InOrder (block_at loop_body b).params) (sym (none_waits b)) (λ j k below within. absurd (omega (arith, within)))

-- the arguments of the one parameter
abbrev Passes : ℕ → ℕ → Arm → ℕ → Type 0
Passes made_for b arm branch =
    loop_tables.function.definition 1 ≡ record { home = front b; kind = complete made_for }
    → (j : ℕ) → BelongsTo row_own b branch arm.edge (place_of 1 (block_at loop_body b).params) j
    → passed_at loop_body branch arm.edge j ≡ Some (Value (loop_tables.function.argument 1 arm))

passes_there : {made_for : ℕ} (b v : ℕ) (arm : Arm) (edge : IsEdgeInto loop_body loop_state loop_tables b arm)
    → loop_tables.function.definition v ≡ record { home = front b; kind = complete made_for } → arm.target ≡ front b
    → (j : ℕ) → BelongsTo row_own b edge.branch arm.edge (place_of v (block_at loop_body b).params) j
    → passed_at loop_body edge.branch arm.edge j ≡ Some (Value (loop_tables.function.argument v arm))
unfolding computing_row
passes_there {made_for} b v arm edge defined at = is_one v (complete_of_row (λ c w. w ≡ 1) refl b v defined) defined
  where
    other : {A : Type 0} (c : ℕ) → inside 1 0 ≡ inside (suc (suc c)) 0 → A
    other c e = absurd cc

    first : (j : ℕ) → j + 0 ≡ 0 → j ≡ 0
    first j e = omega (arith, e)

    all : Passes made_for b arm edge.branch
    all =
        edge_into (Passes made_for)
        (λ e j belongs. subst (λ (i : ℕ). passed_at loop_body 1 0 i ≡ Some (Value 0)) (sym (first j belongs)) refl)
        (λ e. other 0 (ap (λ (d : Definition). d.home) e)) (λ e. other 1 (ap (λ (d : Definition). d.home) e))
        (λ e j belongs. subst (λ (i : ℕ). passed_at loop_body 5 0 i ≡ Some (Value 3)) (sym (first j belongs)) refl)
        (λ e j belongs. subst (λ (i : ℕ). passed_at loop_body 5 1 i ≡ Some (Value 3)) (sym (first j belongs)) refl)
        b arm at edge

    is_one : (w : ℕ) → w ≡ 1 → loop_tables.function.definition w ≡ record { home = front b; kind = complete made_for }
        → (j : ℕ) → BelongsTo row_own b edge.branch arm.edge (place_of w (block_at loop_body b).params) j
        → passed_at loop_body edge.branch arm.edge j ≡ Some (Value (loop_tables.function.argument w arm))
    is_one w is =
        subst (λ (u : ℕ). loop_tables.function.definition u ≡ record { home = front b; kind = complete made_for }
        → (j : ℕ) → BelongsTo row_own b edge.branch arm.edge (place_of u (block_at loop_body b).params) j
        → passed_at loop_body edge.branch arm.edge j ≡ Some (Value (loop_tables.function.argument u arm)))
        (sym is) all

instructions : (b : ℕ) → HasInstructions loop_body loop_tables b (own_insts b)
instructions zero = record { zeros = []; in_order = refl; are_zeros = tt }
instructions (suc zero) = record { zeros = []; in_order = refl; are_zeros = tt }
instructions (suc (suc zero)) = record { zeros = []; in_order = refl; are_zeros = tt }
instructions (suc (suc (suc zero))) = record { zeros = []; in_order = refl; are_zeros = tt }
instructions (suc (suc (suc (suc b)))) = record { zeros = []; in_order = refl; are_zeros = tt }

pub row_described : Describes row_own loop_body loop_state [] loop_tables
row_described = record {
  sealed = sealed;
  joined = joined;
  entered = λ number e is_sealed. entered number e;
  led = led;
  leading = leading;
  leading_apart = leading_apart;
  entry_free = entry_free;
  resolves = resolves;
  recorded = recorded;
  records_exist = records_exist;
  unrecorded = unrecorded;
  unwritten = unwritten;
  absent = absent;
  homes = homes;
  answered = answered;
  born_there = born_there;
  waiting = λ b p there. none_waiting b p there;
  completed = λ p there. absurd (nothing_contained p there);
  pends = λ v x ends e. absurd (none_pends v x e);
  waiting_recorded = λ b p there. none_waiting b p there;
  complete_there = λ b v e. complete_of_row (λ b v. param_home loop_body v ≡ Some b) refl b v e;
  complete_first = λ b v u x complete_is e home. absurd (none_pends u x (ap (λ (d : Definition). d.kind) e));
  waiting_order = waiting_order;
  completing_order = λ b j k below within. absurd (omega (arith, within));
  passes = passes_there;
  instructions = instructions;
}

-- Counts --------------------------------------------------------------------------------------------------------------------

parameter_of_row : (P : ℕ → ℕ → Type 0) → P 1 1 → (b v : ℕ) → param_home loop_body v ≡ Some b → P b v
parameter_of_row P here b zero e = no_number b e
parameter_of_row P here b (suc zero) e = subst (λ (c : ℕ). P c 1) (some_number 1 b e) here
parameter_of_row P here b (suc (suc zero)) e = no_number b e
parameter_of_row P here b (suc (suc (suc zero))) e = no_number b e
parameter_of_row P here b (suc (suc (suc (suc v)))) e = no_number b e

abbrev Counted : ℕ → ℕ → ℕ → ℕ → Type 0
Counted i k b v =
    IsCounted (loop_tables.function.definition v).kind (place_of v (block_at loop_body b).params) 0 (passed_count loop_body i k) 0

pub row_counted : CountsArguments row_own loop_body loop_state loop_tables
unfolding computing_row
row_counted = record {
  behind =
      parameter_of_row (λ b v. IsBehind (loop_tables.function.definition v).kind (place_of v (block_at loop_body b).params) 0) least;
  callers = λ b. omega arith;
  counted = λ b i k v there to home. counted b i k v to home;
  no_fewer = λ b i k there to. omega arith;
  no_more = λ b i k there to. each_edge_of_row (λ i k t. passed_count loop_body i k + 0 ≤ length (block_at loop_body t).params + 0) (same 1) (same 0) (same 0) (same 1) (same 1) i k b to;
}
  where
    least : 0 ≤ 0
    least = omega arith

    one : 0 + 0 < 1 + 0
    one = omega arith

    same : (n : ℕ) → n + 0 ≤ n + 0
    same n = omega arith

    at : (t : ℕ) → (t ≡ 1 → ⊥) → {A : Type 0} (v : ℕ) → param_home loop_body v ≡ Some t → A
    at t other v home = absurd (other (parameter_of_row (λ b w. b ≡ 1) refl t v home))

    counted : (b i k v : ℕ) → edge_target loop_body i k ≡ Some b → param_home loop_body v ≡ Some b → Counted i k b v
    counted b i k v to home =
        each_edge_of_row (λ i k t. param_home loop_body v ≡ Some t → Counted i k t v)
        (λ h. passing 1 0 one h) (λ h. at 2 (λ e. one_two e) v h) (λ h. at 3 (λ e. one_three e) v h) (λ h. passing 5 0 one h) (λ h. passing 5 1 one h)
        i k b to home
      where
        one_two : ◌≡◌ {A = ℕ} 2 1 → ⊥
        one_two e = omega (arith, e)

        one_three : ◌≡◌ {A = ℕ} 3 1 → ⊥
        one_three e = omega (arith, e)

        passing : (i k : ℕ) → Counted i k 1 1 → param_home loop_body v ≡ Some 1 → Counted i k 1 v
        passing i k here h = parameter_of_row (λ b w. b ≡ 1 → Counted i k 1 w) (λ e. here) 1 v h refl
