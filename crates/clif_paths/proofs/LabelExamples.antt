-- Labels that agree on each move are kept, and the worked examples of that.
use Rattle.std.proofs.Common.{◌≡◌, ◌≢◌, ℕ, true, Option, Some, List, [], ◌∷◌, ◌⊎◌, inl, inr, refl, sym, ◌∙◌, ap}
use Rattle.clif_paths.specs.Places.{Place, start}
use Rattle.clif_paths.specs.State.{fresh, reads, Naming}
use Rattle.clif_paths.specs.Steps.{updated}
use Rattle.clif_paths.specs.Blocks.{Blocks, last_place}
use Rattle.clif_paths.specs.ValueLabels.{AgreeOnProgram, LabelsKept}
use Rattle.clif_paths.specs.Moves.{Sheet, blank, Move, seal_with, go_on, give_name, read_variable, write_variable, copy_record, add_parameter, fill_parameter, drop_parameter, add_zero, undefine_parameter, after, after_all, allows_all, agrees, agree_all}
use Rattle.clif_paths.specs.Examples.{loop_moves, cycle_moves, from_seven, always_seven, LoopLabelled, LoopMixed, CycleLabelled}
use Rattle.clif_paths.proofs.Tables.{updated_cases, record_cases}
use Rattle.clif_paths.proofs.Checked.{first_of_and, second_of_and, number_true}
use Rattle.clif_paths.proofs.Moving.{allowed_moves}
use Rattle.clif_paths.proofs.ExampleProofs.{computing}

fresh_reads : {x : ℕ} → fresh ≡ reads x → ⊥
fresh_reads e = cc

same_read : {x y : ℕ} → reads x ≡ reads y → x ≡ y
same_read e = cc

same_name : {n m : ℕ} → Some n ≡ Some m → n ≡ m
same_name e = cc

given_by :
    (of_variable of_name : ℕ → ℕ) (blocks : Blocks) (n : ℕ) (new : Naming) → new.origin ≡ fresh → AgreeOnProgram blocks of_variable of_name →
    (m x : ℕ) → (updated blocks.naming n new m).home ≢ start → (updated blocks.naming n new m).origin ≡ reads x →
    ((m ≡ n) × (updated blocks.naming n new m ≡ new)) ⊎ ((m ≢ n) × (updated blocks.naming n new m ≡ blocks.naming m)) → of_name m ≡ of_variable x
given_by of_variable of_name blocks n new is_fresh old m x there origin (inl c) =
    absurd (fresh_reads (sym is_fresh ∙ sym (ap (λ (k : Naming). k.origin) c.1) ∙ origin))
given_by of_variable of_name blocks n new is_fresh old m x there origin (inr c) =
    old.read_same m x (λ e. there (ap (λ (k : Naming). k.home) c.1 ∙ e)) (sym (ap (λ (k : Naming). k.origin) c.1) ∙ origin)

read_by :
    (of_variable of_name : ℕ → ℕ) (blocks : Blocks) (n y : ℕ) (new : Naming) → new.origin ≡ reads y → of_name n ≡ of_variable y →
    AgreeOnProgram blocks of_variable of_name →
    (m x : ℕ) → (updated blocks.naming n new m).home ≢ start → (updated blocks.naming n new m).origin ≡ reads x →
    ((m ≡ n) × (updated blocks.naming n new m ≡ new)) ⊎ ((m ≢ n) × (updated blocks.naming n new m ≡ blocks.naming m)) → of_name m ≡ of_variable x
read_by of_variable of_name blocks n y new reads_it same old m x there origin (inl c) =
    let variable_is : y ≡ x = same_read (sym reads_it ∙ sym (ap (λ (k : Naming). k.origin) c.1) ∙ origin) in
    ap of_name c.0 ∙ same ∙ ap of_variable variable_is
read_by of_variable of_name blocks n y new reads_it same old m x there origin (inr c) =
    old.read_same m x (λ e. there (ap (λ (k : Naming). k.home) c.1 ∙ e)) (sym (ap (λ (k : Naming). k.origin) c.1) ∙ origin)

written_by :
    (of_variable of_name : ℕ → ℕ) (blocks : Blocks) (place : Place) (x n : ℕ) → of_name n ≡ of_variable x → AgreeOnProgram blocks of_variable of_name →
    (q : Place) (y m : ℕ) → ((q ≡ place) × (y ≡ x) × (n ≡ m)) ⊎ ((q ≡ place → y ≢ x) × (blocks.assigned q y ≡ Some m)) → of_name m ≡ of_variable y
written_by of_variable of_name blocks place x n same old q y m (inl new) = ap of_name (sym new.2) ∙ same ∙ ap of_variable (sym new.1)
written_by of_variable of_name blocks place x n same old q y m (inr other) = old.assigned_same q y m other.1

-- a move on which the labels agree keeps that they do
move_agrees :
    (of_variable of_name : ℕ → ℕ) (sheet : Sheet) (move : Move) → agrees of_variable of_name move ≡ true →
    AgreeOnProgram sheet.blocks of_variable of_name → AgreeOnProgram (after sheet move).blocks of_variable of_name
unfolding agrees after
move_agrees of_variable of_name sheet (seal_with b arms) e old = record { assigned_same = old.assigned_same; read_same = old.read_same }
move_agrees of_variable of_name sheet (go_on b) e old = record { assigned_same = old.assigned_same; read_same = old.read_same }
move_agrees of_variable of_name sheet (give_name b n v) e old =
    let named : Naming = record { home = last_place sheet.blocks b; origin = fresh } in
    record {
      assigned_same = old.assigned_same;
      read_same = λ m x there origin.
          given_by of_variable of_name sheet.blocks n named refl old m x there origin (updated_cases sheet.blocks.naming n named m);
    }
move_agrees of_variable of_name sheet (read_variable b n y v) e old =
    let named : Naming = record { home = last_place sheet.blocks b; origin = reads y } in
    record {
      assigned_same = old.assigned_same;
      read_same = λ m x there origin.
          read_by of_variable of_name sheet.blocks n y named refl (number_true (of_name n) (of_variable y) e) old m x there origin
          (updated_cases sheet.blocks.naming n named m);
    }
move_agrees of_variable of_name sheet (write_variable b x n) e old =
    let place : Place = last_place sheet.blocks b in
    record {
      assigned_same = λ q y m is.
          written_by of_variable of_name sheet.blocks place x n (number_true (of_name n) (of_variable x) e) old q y m
          (record_cases sheet.blocks.assigned place x n q y m is);
      read_same = old.read_same;
    }
move_agrees of_variable of_name sheet (copy_record b x v) e old = record { assigned_same = old.assigned_same; read_same = old.read_same }
move_agrees of_variable of_name sheet (add_parameter b x v) e old = record { assigned_same = old.assigned_same; read_same = old.read_same }
move_agrees of_variable of_name sheet (fill_parameter b x v given) e old = record { assigned_same = old.assigned_same; read_same = old.read_same }
move_agrees of_variable of_name sheet (drop_parameter b x v target) e old = record { assigned_same = old.assigned_same; read_same = old.read_same }
move_agrees of_variable of_name sheet (add_zero b x z) e old = record { assigned_same = old.assigned_same; read_same = old.read_same }
move_agrees of_variable of_name sheet (undefine_parameter b x v z) e old = record { assigned_same = old.assigned_same; read_same = old.read_same }

moves_agree :
    (of_variable of_name : ℕ → ℕ) (sheet : Sheet) (moves : List Move) → agree_all of_variable of_name moves ≡ true →
    AgreeOnProgram sheet.blocks of_variable of_name → AgreeOnProgram (after_all sheet moves).blocks of_variable of_name
unfolding agree_all after_all
moves_agree of_variable of_name sheet [] e old = old
moves_agree of_variable of_name sheet (move ∷ moves) e old =
    moves_agree of_variable of_name (after sheet move) moves (second_of_and (agrees of_variable of_name move) (agree_all of_variable of_name moves) e)
    (move_agrees of_variable of_name sheet move (first_of_and (agrees of_variable of_name move) (agree_all of_variable of_name moves) e) old)

pub agreeing_moves :
    (moves : List Move) → allows_all blank moves ≡ true → (of_variable of_name : ℕ → ℕ) → agree_all of_variable of_name moves ≡ true →
    LabelsKept (after_all blank moves).blocks of_variable of_name
agreeing_moves moves allowed of_variable of_name e =
    (allowed_moves moves allowed).tables.labelled.kept of_variable of_name
    (moves_agree of_variable of_name blank moves e (record {
      assigned_same = λ place x n is. absurd cc;
      read_same = λ n x there origin. absurd (there refl);
    }))

pub loop_labelled : LoopLabelled
unfolding computing agrees agree_all
loop_labelled = record {
  kept = agreeing_moves loop_moves refl from_seven always_seven refl;
  parameter = refl;
  argument = refl;
}

pub other_label : ◌≡◌ {A = Option ℕ} (Some 8) (Some 7) → ⊥
other_label e = cc

pub loop_mixed : LoopMixed
unfolding computing agrees agree_all
loop_mixed = record { differ = refl; lost = λ kept. other_label ((kept.records 1 0 2 refl).by_kind) }

pub cycle_labelled : CycleLabelled
unfolding computing agrees agree_all
cycle_labelled = record { kept = agreeing_moves cycle_moves refl from_seven always_seven refl; first = refl }
