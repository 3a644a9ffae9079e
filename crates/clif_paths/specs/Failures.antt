-- Laws of failure: four sound tables, each with a wrong change that makes them unsound, and one with a change that
-- loses a label.
-- Source: own.
use Rattle.std.specs.Prelude.{◌≡◌, ◌≢◌, ℕ, true, cond, ◌==◌, List, [], ◌∷◌, ◌++◌}
use Rattle.clif_paths.specs.Places.{start, inside, Arm}
use Rattle.clif_paths.specs.Sound.{Sound}
use Rattle.clif_paths.specs.Blocks.{Blocks, front, state_of, with_record, with_write, with_dropped}
use Rattle.clif_paths.specs.BlockLaws.{BlocksSound}
use Rattle.clif_paths.specs.ValueLabels.{LabelsKept}
use Rattle.clif_paths.specs.Moves.{blank, Move, seal_with, go_on, give_name, write_variable, copy_record, add_parameter, add_zero, after_all, Witness}
use Rattle.clif_paths.specs.Examples.{entry, jump, two_values, from_seven}

-- the tables are sound, and after the change their state isn't
pub record Breaks (before after : Blocks) : Type 0 where
  pub sound : BlocksSound before
  pub broken : ¬ (Sound (state_of after))

-- The diamond of the look-up: block 0 assigns name 0, block 1 name 1, and blocks 1 and 2 jump to block 3, which is
-- sealed. In it a parameter waits.
abbrev pub two_values_waiting : List Move
two_values_waiting = two_values ++ (add_parameter 3 0 2 ∷ [])

abbrev pub two_witnesses : List Witness
two_witnesses =
    record { name = 0; before = start ∷ inside 0 0 ∷ [] } ∷
    record {
      name = 1;
      before =
          start ∷ inside 0 0 ∷ inside 0 1 ∷ inside 0 2 ∷ inside 0 3 ∷
          inside 1 0 ∷ inside 2 0 ∷ inside 2 1 ∷ inside 3 0 ∷ [];
    } ∷
    []

-- dropping a parameter where another value also comes in
abbrev pub DropBreaks : Type 0
DropBreaks =
    Breaks (after_all blank two_values_waiting).blocks (with_dropped (after_all blank two_values_waiting).blocks 2 0)

-- copying a record where one predecessor's differs
abbrev pub CopyBreaks : Type 0
CopyBreaks = Breaks (after_all blank two_values).blocks (with_record (after_all blank two_values).blocks 3 0 0)

-- Block 0 gives names 0 and 1, assigns name 0 and jumps to block 1, which is sealed and has copied the record.
abbrev pub left_already : List Move
left_already =
    seal_with 0 (entry ∷ []) ∷
    go_on 0 ∷ give_name 0 0 0 ∷
    go_on 0 ∷ give_name 0 1 1 ∷
    go_on 0 ∷ write_variable 0 0 0 ∷
    go_on 0 ∷
    seal_with 1 (jump 0 4 0 1 ∷ []) ∷ copy_record 1 0 0 ∷
    []

abbrev pub left_witnesses : List Witness
left_witnesses =
    record { name = 0; before = start ∷ inside 0 0 ∷ [] } ∷
    record { name = 1; before = start ∷ inside 0 0 ∷ inside 0 1 ∷ [] } ∷
    []

-- an assignment at a place that an arm into a sealed place leaves
abbrev pub AssignBreaks : Type 0
AssignBreaks = Breaks (after_all blank left_already).blocks (with_write (after_all blank left_already).blocks 0 0 1)

-- Block 0 assigns name 0 and jumps to block 1, which is sealed and whose parameter waits beside a zero.
abbrev pub value_comes : List Move
value_comes =
    seal_with 0 (entry ∷ []) ∷
    go_on 0 ∷ give_name 0 0 0 ∷
    go_on 0 ∷ write_variable 0 0 0 ∷
    go_on 0 ∷
    seal_with 1 (jump 0 3 0 1 ∷ []) ∷ add_parameter 1 0 1 ∷ add_zero 1 0 2 ∷
    []

-- a zero where a value comes in
abbrev pub ZeroBreaks : Type 0
ZeroBreaks = Breaks (after_all blank value_comes).blocks (with_dropped (after_all blank value_comes).blocks 1 2)

-- Block 0 gives names 0 and 1 and assigns name 0 to the variable. Block 1 is sealed, and nothing leads to it.
abbrev pub nothing_leads : List Move
nothing_leads =
    seal_with 0 (entry ∷ []) ∷
    go_on 0 ∷ give_name 0 0 0 ∷
    go_on 0 ∷ give_name 0 1 1 ∷
    go_on 0 ∷ write_variable 0 0 0 ∷
    go_on 0 ∷
    seal_with 1 [] ∷
    []

abbrev pub eight_at_one : ℕ → ℕ
eight_at_one n = cond (n == 1) 8 7

-- Copying a record of another label into that block: no path denies it, but the variable's label is lost.
pub record CopyFromNowhereBreaks : Type 0 where
  pub none_comes :
      (arm : Arm) → (after_all blank nothing_leads).blocks.joins arm ≡ true → arm.target ≢ front 1
  pub kept : LabelsKept (after_all blank nothing_leads).blocks from_seven eight_at_one
  pub lost : ¬ (LabelsKept (with_record (after_all blank nothing_leads).blocks 1 0 1) from_seven eight_at_one)
