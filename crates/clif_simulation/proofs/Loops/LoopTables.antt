-- The row `both_arms`: its tables, as a list of moves, and what they have.
use Rattle.std.proofs.Common.{◌≡◌, ◌≢◌, ℕ, zero, suc, Bool, true, false, cond, ◌==◌, ◌&&◌, Option, Some, None, List, [], ◌∷◌, ◌⊎◌, inl, inr, refl, sym, ◌∙◌, ap, subst, ◌<◌, arith}
use Rattle.std.proofs.lemmas.Bool.Decides.{nat_tests}
use Rattle.clif_paths.specs.Places.{Place, start, inside, same_place, Arm}
use Rattle.clif_paths.specs.State.{Naming, Definition, fresh, reads, unborn, born, pending, complete}
use Rattle.clif_paths.specs.Blocks.{Blocks, front, CompleteAtFronts}
use Rattle.clif_paths.specs.Moves.{Move, seal_with, go_on, give_name, read_variable, write_variable, copy_record, add_parameter, fill_parameter, blank, Sheet, after_all, same_arm, listed}
use Rattle.clif_paths.specs.Examples.{entry, jump}
use Rattle.clif_paths.proofs.PathLemmas.{same_place-true}
use Rattle.clif_paths.proofs.Checked.{first_of_and, second_of_and, of_or, number_true}
use Rattle.clif_paths.specs.BlockLaws.{BlocksSound}
use Rattle.clif_paths.proofs.BlockRestating.{restated_keeps}
use Rattle.clif_paths.proofs.Moving.{SheetSound, allowed_moves}
use Rattle.clif_paths.proofs.ExampleProofs.{computing}

-- names by their numbers: 71 is the 5, 132 what block1 reads, 240 what block2 reads, 305 the -1, 341 the sum, and 552
-- what block3 reads
pub loop_moves : List Move
loop_moves =
    seal_with 0 (entry ∷ []) ∷
    go_on 0 ∷ give_name 0 71 0 ∷
    go_on 0 ∷ write_variable 0 0 71 ∷
    go_on 0 ∷
    go_on 1 ∷ add_parameter 1 0 1 ∷ read_variable 1 132 0 1 ∷
    go_on 1 ∷
    seal_with 2 (jump 1 2 0 2 ∷ []) ∷
    go_on 2 ∷ copy_record 2 0 1 ∷ read_variable 2 240 0 1 ∷
    go_on 2 ∷ give_name 2 305 2 ∷
    go_on 2 ∷ give_name 2 341 3 ∷
    go_on 2 ∷ write_variable 2 0 341 ∷
    go_on 2 ∷
    seal_with 1 (jump 0 3 0 1 ∷ jump 2 5 0 1 ∷ jump 2 5 1 1 ∷ []) ∷
    fill_parameter 1 0 1 (λ arm. cond (same_place arm.source (inside 0 3)) 0 3) ∷
    seal_with 3 (jump 1 2 1 3 ∷ []) ∷
    go_on 3 ∷ copy_record 3 0 1 ∷ read_variable 3 552 0 1 ∷
    go_on 3 ∷
    []

pub loop_sheet : Sheet
loop_sheet = after_all blank loop_moves

unfoldable pub computing_row : Bool
unfolding computing loop_moves loop_sheet
computing_row = true

sheet_sound : SheetSound loop_sheet
unfolding computing_row
sheet_sound = allowed_moves loop_moves refl

-- The tables in a form that computes at any number: those of the moves say the same.
abbrev row_count : ℕ → ℕ
row_count zero = 3
row_count (suc zero) = 2
row_count (suc (suc zero)) = 5
row_count (suc (suc (suc zero))) = 2
row_count (suc (suc (suc (suc b)))) = 0

abbrev row_sealed : ℕ → Bool
row_sealed zero = true
row_sealed (suc zero) = true
row_sealed (suc (suc zero)) = true
row_sealed (suc (suc (suc zero))) = true
row_sealed (suc (suc (suc (suc b)))) = false

abbrev for_first : Option ℕ → ℕ → Option ℕ
for_first o zero = o
for_first o (suc x) = None

abbrev row_assigned : Place → ℕ → Option ℕ
row_assigned (inside zero (suc (suc zero))) x = for_first (Some 71) x
row_assigned (inside (suc (suc zero)) (suc (suc (suc (suc zero))))) x = for_first (Some 341) x
row_assigned _ x = None

abbrev row_definition : ℕ → Definition
row_definition zero = record { home = inside 0 1; kind = born 71 }
row_definition (suc zero) = record { home = front 1; kind = complete 0 }
row_definition (suc (suc zero)) = record { home = inside 2 2; kind = born 305 }
row_definition (suc (suc (suc zero))) = record { home = inside 2 3; kind = born 341 }
row_definition (suc (suc (suc (suc v)))) = record { home = start; kind = unborn }

abbrev row_recorded : ℕ → ℕ → Option ℕ
row_recorded zero x = for_first (Some 0) x
row_recorded (suc zero) x = for_first (Some 1) x
row_recorded (suc (suc zero)) x = for_first (Some 3) x
row_recorded (suc (suc (suc zero))) x = for_first (Some 1) x
row_recorded (suc (suc (suc (suc b)))) x = None

abbrev pub loop_tables : Blocks
loop_tables = record loop_sheet.blocks {
  count = row_count;
  sealed = row_sealed;
  assigned = row_assigned;
  function = record loop_sheet.blocks.function { definition = row_definition };
  recorded = row_recorded;
}

-- a number differs from a smaller one
high : (n k : ℕ) → k < n → (n == k) ≡ false
high n k below = grind (arith, nat_tests, below)

same_count : (b : ℕ) → row_count b ≡ loop_sheet.blocks.count b
unfolding computing_row
same_count zero = refl
same_count (suc zero) = refl
same_count (suc (suc zero)) = refl
same_count (suc (suc (suc zero))) = refl
same_count (suc (suc (suc (suc b)))) =
    rw (high (suc (suc (suc (suc b)))) 3 (omega arith), high (suc (suc (suc (suc b)))) 2 (omega arith), high (suc (suc (suc (suc b)))) 1 (omega arith), high (suc (suc (suc (suc b)))) 0 (omega arith)) refl

same_sealed : (b : ℕ) → row_sealed b ≡ loop_sheet.blocks.sealed b
unfolding computing_row
same_sealed zero = refl
same_sealed (suc zero) = refl
same_sealed (suc (suc zero)) = refl
same_sealed (suc (suc (suc zero))) = refl
same_sealed (suc (suc (suc (suc b)))) =
    rw (high (suc (suc (suc (suc b)))) 3 (omega arith), high (suc (suc (suc (suc b)))) 2 (omega arith), high (suc (suc (suc (suc b)))) 1 (omega arith), high (suc (suc (suc (suc b)))) 0 (omega arith)) refl

same_assigned : (place : Place) (x : ℕ) → row_assigned place x ≡ loop_sheet.blocks.assigned place x
unfolding computing_row
same_assigned start x = refl
same_assigned (inside zero zero) x = refl
same_assigned (inside zero (suc zero)) x = refl
same_assigned (inside zero (suc (suc zero))) zero = refl
same_assigned (inside zero (suc (suc zero))) (suc x) = rw (high (suc x) 0 (omega arith)) refl
same_assigned (inside zero (suc (suc (suc k)))) x = rw (high (suc (suc (suc k))) 2 (omega arith)) refl
same_assigned (inside (suc zero) k) x = refl
same_assigned (inside (suc (suc zero)) zero) x = refl
same_assigned (inside (suc (suc zero)) (suc zero)) x = refl
same_assigned (inside (suc (suc zero)) (suc (suc zero))) x = refl
same_assigned (inside (suc (suc zero)) (suc (suc (suc zero)))) x = refl
same_assigned (inside (suc (suc zero)) (suc (suc (suc (suc zero))))) zero = refl
same_assigned (inside (suc (suc zero)) (suc (suc (suc (suc zero))))) (suc x) = rw (high (suc x) 0 (omega arith)) refl
same_assigned (inside (suc (suc zero)) (suc (suc (suc (suc (suc k)))))) x = rw (high (suc (suc (suc (suc (suc k))))) 4 (omega arith)) refl
same_assigned (inside (suc (suc (suc b))) k) x = rw (high (suc (suc (suc b))) 2 (omega arith), high (suc (suc (suc b))) 0 (omega arith)) refl

same_definition : (v : ℕ) → row_definition v ≡ loop_sheet.blocks.function.definition v
unfolding computing_row
same_definition zero = refl
same_definition (suc zero) = refl
same_definition (suc (suc zero)) = refl
same_definition (suc (suc (suc zero))) = refl
same_definition (suc (suc (suc (suc v)))) =
    rw (high (suc (suc (suc (suc v)))) 3 (omega arith), high (suc (suc (suc (suc v)))) 2 (omega arith), high (suc (suc (suc (suc v)))) 1 (omega arith), high (suc (suc (suc (suc v)))) 0 (omega arith)) refl

same_recorded : (b x : ℕ) → row_recorded b x ≡ loop_sheet.blocks.recorded b x
unfolding computing_row
same_recorded zero zero = refl
same_recorded (suc zero) zero = refl
same_recorded (suc (suc zero)) zero = refl
same_recorded (suc (suc (suc zero))) zero = refl
same_recorded zero (suc x) = rw (high (suc x) 0 (omega arith)) refl
same_recorded (suc zero) (suc x) = rw (high (suc x) 0 (omega arith)) refl
same_recorded (suc (suc zero)) (suc x) = rw (high (suc x) 0 (omega arith)) refl
same_recorded (suc (suc (suc zero))) (suc x) = rw (high (suc x) 0 (omega arith)) refl
same_recorded (suc (suc (suc (suc b)))) x =
    rw (high (suc (suc (suc (suc b)))) 3 (omega arith), high (suc (suc (suc (suc b)))) 2 (omega arith), high (suc (suc (suc (suc b)))) 1 (omega arith), high (suc (suc (suc (suc b)))) 0 (omega arith)) refl

not_complete : {A : Type 0} {x : ℕ} (n : ℕ) → born n ≡ complete x → A
not_complete n e = absurd cc

not_unborn : {A : Type 0} {x : ℕ} → unborn ≡ complete x → A
not_unborn e = absurd cc

complete_fronts : CompleteAtFronts loop_sheet.blocks
unfolding computing_row
complete_fronts = record { at_front = λ {x} u is. by x u (ap (λ (d : Definition). d.kind) (same_definition u) ∙ is) }
  where
    by : (x u : ℕ) → (row_definition u).kind ≡ complete x → (b : ℕ) × ((loop_sheet.blocks.function.definition u).home ≡ front b) × (loop_sheet.blocks.sealed b ≡ true)
    by x zero e = not_complete 71 e
    by x (suc zero) e = (1, refl, refl)
    by x (suc (suc zero)) e = not_complete 305 e
    by x (suc (suc (suc zero))) e = not_complete 341 e
    by x (suc (suc (suc (suc u)))) e = not_unborn e

pub row_sound : BlocksSound loop_tables
row_sound =
    restated_keeps loop_sheet.blocks loop_tables complete_fronts
    (record {
      count = same_count;
      sealed = same_sealed;
      joins = λ b arm sealed at. refl;
      assigned = same_assigned;
      naming = λ n. refl;
      resolve = λ v. refl;
      definition = λ u. same_definition (loop_sheet.blocks.function.resolve u);
      argument = λ u b arm is home at sealed known. refl;
      recorded = same_recorded;
      answer = λ n. refl;
    }) sheet_sound.tables

-- Arms ----------------------------------------------------------------------------------------------------------------------

arm_is : (arm a : Arm) → same_arm arm a ≡ true → a ≡ arm
unfolding same_arm
arm_is arm a e =
    let rest : (same_place arm.target a.target && (arm.edge == a.edge)) ≡ true =
    second_of_and (same_place arm.source a.source) (same_place arm.target a.target && (arm.edge == a.edge)) e in
    let source : arm.source ≡ a.source =
    same_place-true arm.source a.source (first_of_and (same_place arm.source a.source) (same_place arm.target a.target && (arm.edge == a.edge)) e) in
    let target : arm.target ≡ a.target = same_place-true arm.target a.target (first_of_and (same_place arm.target a.target) (arm.edge == a.edge) rest) in
    let edge : arm.edge ≡ a.edge = number_true arm.edge a.edge (second_of_and (same_place arm.target a.target) (arm.edge == a.edge) rest) in
    sym (λ i. record { source = source i; target = target i; edge = edge i })

abbrev pub EachArm : (Arm → Type 0) → List Arm → Type 0
EachArm P [] = Unit {0}
EachArm P (a ∷ arms) = P a × EachArm P arms

listed_is : (P : Arm → Type 0) (arms : List Arm) → EachArm P arms → (arm : Arm) → listed arms arm ≡ true → P arm
unfolding listed
listed_is P [] each arm e = absurd cc
listed_is P (a ∷ arms) each arm e = by (of_or (same_arm arm a) (listed arms arm) e) (listed_is P arms each.1 arm)
  where
    by : (same_arm arm a ≡ true) ⊎ (listed arms arm ≡ true) → (listed arms arm ≡ true → P arm) → P arm
    by (inl same) rest = subst P (arm_is arm a same) each.0
    by (inr later) rest = rest later

-- the known arms
pub each_arm_of_row : (P : Arm → Type 0)
    → EachArm P (jump 1 2 1 3 ∷ jump 0 3 0 1 ∷ jump 2 5 0 1 ∷ jump 2 5 1 1 ∷ jump 1 2 0 2 ∷ entry ∷ [])
    → (arm : Arm) → loop_tables.joins arm ≡ true → P arm
unfolding computing_row
each_arm_of_row P each arm joined = listed_is P loop_sheet.arms each arm (sheet_sound.fits.arms arm joined)

-- Names ---------------------------------------------------------------------------------------------------------------------

abbrev named_at : Place → Naming
named_at place = record { home = place; origin = fresh }

abbrev read_at : Place → Naming
read_at place = record { home = place; origin = reads 0 }

-- the names that are given somewhere
pub each_name_of_row : (P : ℕ → Type 0) → P 71 → P 132 → P 240 → P 305 → P 341 → P 552 → (n : ℕ) → (loop_tables.naming n).home ≢ start → P n
unfolding computing_row
each_name_of_row P a b c d e f n given = by (n == 552) (n == 341) (n == 305) (n == 240) (n == 132) (n == 71) refl refl refl refl refl refl given
  where
    is : (k : ℕ) → P k → (n == k) ≡ true → P n
    is k here e = subst P (sym (number_true n k e)) here

    by : (t u v w x y : Bool) → (n == 552) ≡ t → (n == 341) ≡ u → (n == 305) ≡ v → (n == 240) ≡ w → (n == 132) ≡ x → (n == 71) ≡ y
        → (cond t (read_at (inside 3 1)) (cond u (named_at (inside 2 3)) (cond v (named_at (inside 2 2)) (cond w (read_at (inside 2 1))
        (cond x (read_at (inside 1 1)) (cond y (named_at (inside 0 1)) (named_at start))))))).home ≢ start
        → P n
    by true u v w x y te ue ve we xe ye ne = is 552 f te
    by false true v w x y te ue ve we xe ye ne = is 341 e ue
    by false false true w x y te ue ve we xe ye ne = is 305 d ve
    by false false false true x y te ue ve we xe ye ne = is 240 c we
    by false false false false true y te ue ve we xe ye ne = is 132 b xe
    by false false false false false true te ue ve we xe ye ne = is 71 a ye
    by false false false false false false te ue ve we xe ye ne = absurd (ne refl)

-- Assignments ---------------------------------------------------------------------------------------------------------------

some_is : {X : Type 0} (a b : X) → Some a ≡ Some b → a ≡ b
some_is a b e = cc

none_is : {X : Type 0} (b : X) → None ≡ Some b → ⊥
none_is b e = cc

pub each_write_of_row : (P : Place → ℕ → ℕ → Type 0) → P (inside 0 2) 0 71 → P (inside 2 4) 0 341
    → (place : Place) (x n : ℕ) → loop_tables.assigned place x ≡ Some n → P place x n
each_write_of_row P first second start x n e = absurd (none_is n e)
each_write_of_row P first second (inside zero zero) x n e = absurd (none_is n e)
each_write_of_row P first second (inside zero (suc zero)) x n e = absurd (none_is n e)
each_write_of_row P first second (inside zero (suc (suc zero))) zero n e = subst (λ (m : ℕ). P (inside 0 2) 0 m) (some_is 71 n e) first
each_write_of_row P first second (inside zero (suc (suc zero))) (suc x) n e = absurd (none_is n e)
each_write_of_row P first second (inside zero (suc (suc (suc k)))) x n e = absurd (none_is n e)
each_write_of_row P first second (inside (suc zero) k) x n e = absurd (none_is n e)
each_write_of_row P first second (inside (suc (suc zero)) zero) x n e = absurd (none_is n e)
each_write_of_row P first second (inside (suc (suc zero)) (suc zero)) x n e = absurd (none_is n e)
each_write_of_row P first second (inside (suc (suc zero)) (suc (suc zero))) x n e = absurd (none_is n e)
each_write_of_row P first second (inside (suc (suc zero)) (suc (suc (suc zero)))) x n e = absurd (none_is n e)
each_write_of_row P first second (inside (suc (suc zero)) (suc (suc (suc (suc zero))))) zero n e = subst (λ (m : ℕ). P (inside 2 4) 0 m) (some_is 341 n e) second
each_write_of_row P first second (inside (suc (suc zero)) (suc (suc (suc (suc zero))))) (suc x) n e = absurd (none_is n e)
each_write_of_row P first second (inside (suc (suc zero)) (suc (suc (suc (suc (suc k)))))) x n e = absurd (none_is n e)
each_write_of_row P first second (inside (suc (suc (suc b))) k) x n e = absurd (none_is n e)

-- nothing is assigned elsewhere
pub unassigned : (place : Place) (x : ℕ) → ((n : ℕ) → loop_tables.assigned place x ≡ Some n → ⊥) → loop_tables.assigned place x ≡ None
unassigned place x other = by (loop_tables.assigned place x) refl
  where
    by : (o : Option ℕ) → loop_tables.assigned place x ≡ o → o ≡ None
    by None e = refl
    by (Some n) e = absurd (other n e)

-- Values --------------------------------------------------------------------------------------------------------------------

same_front : (b : ℕ) → inside 1 0 ≡ inside b 0 → 1 ≡ b
same_front b e = cc

-- the one complete parameter, and no parameter that waits
pub complete_of_row : (P : ℕ → ℕ → Type 0) → P 1 1 → {made_for : ℕ} (b v : ℕ) → loop_tables.function.definition v ≡ record { home = front b; kind = complete made_for } → P b v
complete_of_row P here b zero e = not_complete 71 (ap (λ (d : Definition). d.kind) e)
complete_of_row P here b (suc zero) e = subst (λ (c : ℕ). P c 1) (same_front b (ap (λ (d : Definition). d.home) e)) here
complete_of_row P here b (suc (suc zero)) e = not_complete 305 (ap (λ (d : Definition). d.kind) e)
complete_of_row P here b (suc (suc (suc zero))) e = not_complete 341 (ap (λ (d : Definition). d.kind) e)
complete_of_row P here b (suc (suc (suc (suc v)))) e = not_unborn (ap (λ (d : Definition). d.kind) e)

pub none_pends : (v x : ℕ) → (loop_tables.function.definition v).kind ≡ pending x → ⊥
none_pends zero x e = cc
none_pends (suc zero) x e = cc
none_pends (suc (suc zero)) x e = cc
none_pends (suc (suc (suc zero))) x e = cc
none_pends (suc (suc (suc (suc v)))) x e = cc
