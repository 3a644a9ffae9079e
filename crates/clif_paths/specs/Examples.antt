-- Worked examples: lists of moves whose tests all pass by computation.
-- Source: own; the situations are those that Braun et al. 2013 discuss (late sealing, trivial parameters,
-- irreducible
-- control flow, undefined variables).
use Rattle.std.specs.Prelude.{◌≡◌, ℕ, suc, cond, List, [], ◌∷◌, ◌+◌, refl, Option, Some, ◌==◌, false, true}
use Rattle.clif_paths.specs.Places.{start, inside, same_place, Arm, Path, end_of}
use Rattle.clif_paths.specs.State.{Program, complete, zero_of}
use Rattle.clif_paths.specs.Denotation.{given, name, instances, denotation}
use Rattle.clif_paths.specs.Laws.{IsCorrect}
use Rattle.clif_paths.specs.Blocks.{Blocks, front, state_of, Knows, with_filled, with_parameter}
use Rattle.clif_paths.specs.ValueLabels.{label_by, LabelsKept}
use Rattle.clif_paths.specs.Moves.{blank, Move, seal_with, go_on, give_name, read_variable, write_variable, copy_record, add_parameter, fill_parameter, drop_parameter, add_zero, undefine_parameter, after_all, agree_all, Witness}
use Rattle.clif_paths.specs.Runs.{Outside, Labelling, program_bits, function_bits}
use Rattle.clif_paths.specs.LookUp.{Delivers}
use Rattle.clif_paths.specs.Shape.{Types, EdgeShape, Shape, Structured, no_shape, with_block, waiting_added, lookup_begun, first_completed, arguments_appended}
use Rattle.clif_paths.specs.Steps.{updated}

-- the arm from the virtual start to the entry, block 0
abbrev pub entry : Arm
entry = record { source = start; target = front 0; edge = 0 }

-- the arm from a place of a block to its next place
abbrev pub on : ℕ → ℕ → Arm
on block k = record { source = inside block k; target = inside block (suc k); edge = 0 }

-- an arm from the last place of a block to the front of another
abbrev pub jump : ℕ → ℕ → ℕ → ℕ → Arm
jump from k edge to = record { source = inside from k; target = front to; edge = edge }

-- LOOP. Block 0 gives name 0 and assigns it to variable 0. Block 1 reads the variable as name 1, gives name 2,
-- assigns it, and branches to itself or to block 2, which reads the variable as name 3. Block 1 is sealed last:
-- its parameter, value 1, waits until then.
abbrev pub loop_moves : List Move
loop_moves =
    seal_with 0 (entry ∷ []) ∷
    go_on 0 ∷ give_name 0 0 0 ∷
    go_on 0 ∷ write_variable 0 0 0 ∷
    go_on 0 ∷
    go_on 1 ∷ add_parameter 1 0 1 ∷ read_variable 1 1 0 1 ∷
    go_on 1 ∷ give_name 1 2 2 ∷
    go_on 1 ∷ write_variable 1 0 2 ∷
    go_on 1 ∷
    seal_with 2 (jump 1 4 1 2 ∷ []) ∷
    go_on 2 ∷ copy_record 2 0 2 ∷ read_variable 2 3 0 2 ∷
    seal_with 1 (jump 0 3 0 1 ∷ jump 1 4 0 1 ∷ []) ∷
    fill_parameter 1 0 1 (λ arm. cond (same_place arm.source (inside 0 3)) 0 2) ∷
    []

abbrev pub loop_blocks : Blocks
loop_blocks = (after_all blank loop_moves).blocks

abbrev pub loop_witnesses : List Witness
loop_witnesses =
    record { name = 0; before = start ∷ inside 0 0 ∷ [] } ∷
    record {
      name = 2;
      before = start ∷ inside 0 0 ∷ inside 0 1 ∷ inside 0 2 ∷ inside 0 3 ∷ inside 1 0 ∷ inside 1 1 ∷ [];
    } ∷
    []

-- the path that is about to give name 2 for the first time, and the one that has just read name 1 for the second
abbrev pub first_round : Path
first_round = on 1 1 ∷ on 1 0 ∷ jump 0 3 0 1 ∷ on 0 2 ∷ on 0 1 ∷ on 0 0 ∷ entry ∷ []

abbrev pub second_round : Path
second_round = on 1 0 ∷ jump 1 4 0 1 ∷ on 1 3 ∷ on 1 2 ∷ first_round

-- The moves are correct; and indeed name 1 is, the second time round, what name 2 was given the first time, and
-- its answer, the parameter, denotes that by the function alone.
pub record LoopSealedLate : Type 0 where
  pub correct : IsCorrect (state_of loop_blocks)
  pub completed :
      (loop_blocks.function.definition (loop_blocks.function.resolve (loop_blocks.answer 1))).kind ≡ complete 0
  pub program_side : instances (state_of loop_blocks).program second_round (name 1) ≡ given 2 first_round
  pub function_side :
      (any : Program) →
      denotation any loop_blocks.function second_round (loop_blocks.answer 1) ≡ given 2 first_round

-- A collector: as item 1 of block 1 is reached, where name 2 is given, 16 is added to every number but zero. A name
-- is given 98 and its own number.
abbrev pub plus : ℕ → ℕ → ℕ
plus k ℕ.zero = 0
plus k (suc bits) = suc bits + k

abbrev pub adding_collector : Outside
adding_collector = record {
  given_bits = λ n path. 98 + n;
  unknown_bits = λ x path. 0;
  moved = λ path label bits. plus (cond (same_place (end_of path) (inside 1 2)) 16 0) bits;
  leaves_zero = λ path label. refl;
}

abbrev pub no_labels : Labelling
no_labels = record { of_variable = λ x. 0; of_name = λ n. 0; of_value = λ v. 0 }

-- Once the collector has come by again, name 1 is what name 2 was given and 16 more, and so is its answer.
pub record LoopUnderCollector : Type 0 where
  pub program_side :
      program_bits adding_collector no_labels (state_of loop_blocks).program (on 1 1 ∷ second_round) (name 1) ≡ 116
  pub function_side :
      function_bits adding_collector no_labels (state_of loop_blocks).program loop_blocks.function (on 1 1 ∷ second_round)
      (loop_blocks.function.resolve (loop_blocks.answer 1)) ≡ 116

-- DIAMOND. Block 0 assigns name 0 and branches to blocks 1 and 2, which both jump to block 3. There the variable is
-- read before the block is sealed; at sealing one value alone comes, and the parameter is dropped.
abbrev pub diamond_moves : List Move
diamond_moves =
    seal_with 0 (entry ∷ []) ∷
    go_on 0 ∷ give_name 0 0 0 ∷
    go_on 0 ∷ write_variable 0 0 0 ∷
    go_on 0 ∷
    go_on 3 ∷ add_parameter 3 0 1 ∷ read_variable 3 1 0 1 ∷
    seal_with 1 (jump 0 3 0 1 ∷ []) ∷ go_on 1 ∷
    seal_with 2 (jump 0 3 1 2 ∷ []) ∷ go_on 2 ∷
    seal_with 3 (jump 1 1 0 3 ∷ jump 2 1 0 3 ∷ []) ∷
    copy_record 1 0 0 ∷ copy_record 2 0 0 ∷
    drop_parameter 3 0 1 0 ∷
    []

abbrev pub diamond_blocks : Blocks
diamond_blocks = (after_all blank diamond_moves).blocks

abbrev pub first_witness : List Witness
first_witness = record { name = 0; before = start ∷ inside 0 0 ∷ [] } ∷ []

pub record DiamondDropped : Type 0 where
  pub correct : IsCorrect (state_of diamond_blocks)
  pub dropped : diamond_blocks.function.resolve (diamond_blocks.answer 1) ≡ diamond_blocks.answer 0

-- IRREDUCIBLE. Block 0 assigns name 0 and branches to blocks 1 and 2, which jump to one another. Block 1 reads the
-- variable as name 1 and assigns name 2; block 2 reads it as name 3. Both are sealed last, and both keep their
-- parameters.
abbrev pub irreducible_moves : List Move
irreducible_moves =
    seal_with 0 (entry ∷ []) ∷
    go_on 0 ∷ give_name 0 0 0 ∷
    go_on 0 ∷ write_variable 0 0 0 ∷
    go_on 0 ∷
    go_on 1 ∷ add_parameter 1 0 1 ∷ read_variable 1 1 0 1 ∷
    go_on 1 ∷ give_name 1 2 2 ∷
    go_on 1 ∷ write_variable 1 0 2 ∷
    go_on 1 ∷
    go_on 2 ∷ add_parameter 2 0 3 ∷ read_variable 2 3 0 3 ∷
    go_on 2 ∷
    seal_with 1 (jump 0 3 0 1 ∷ jump 2 2 0 1 ∷ []) ∷
    fill_parameter 1 0 1 (λ arm. cond (same_place arm.source (inside 0 3)) 0 3) ∷
    seal_with 2 (jump 0 3 1 2 ∷ jump 1 4 0 2 ∷ []) ∷
    fill_parameter 2 0 3 (λ arm. cond (same_place arm.source (inside 0 3)) 0 2) ∷
    []

abbrev pub irreducible_blocks : Blocks
irreducible_blocks = (after_all blank irreducible_moves).blocks

abbrev pub irreducible_witnesses : List Witness
irreducible_witnesses =
    record { name = 0; before = start ∷ inside 0 0 ∷ [] } ∷
    record {
      name = 2;
      before =
          start ∷ inside 0 0 ∷ inside 0 1 ∷ inside 0 2 ∷ inside 0 3 ∷
          inside 1 0 ∷ inside 1 1 ∷ inside 2 0 ∷ inside 2 1 ∷ inside 2 2 ∷ [];
    } ∷
    []

-- into block 2 first, then into block 1 and round to block 2
abbrev pub through_both : Path
through_both =
    on 1 1 ∷ on 1 0 ∷ jump 2 2 0 1 ∷ on 2 1 ∷ on 2 0 ∷ jump 0 3 1 2 ∷ on 0 2 ∷ on 0 1 ∷ on 0 0 ∷ entry ∷ []

abbrev pub round_again : Path
round_again = on 2 0 ∷ jump 1 4 0 2 ∷ on 1 3 ∷ on 1 2 ∷ through_both

pub record IrreducibleLoop : Type 0 where
  pub correct : IsCorrect (state_of irreducible_blocks)
  pub program_side : instances (state_of irreducible_blocks).program round_again (name 3) ≡ given 2 through_both
  pub function_side :
      (any : Program) →
      denotation any irreducible_blocks.function round_again (irreducible_blocks.answer 3) ≡ given 2 through_both

-- UNREACHABLE. Blocks 1 and 2 jump to one another and nothing else leads to them; both read the variable, which is
-- assigned nowhere. Their parameters end as aliases of one zero, value 2.
abbrev pub cycle_moves : List Move
cycle_moves =
    seal_with 0 (entry ∷ []) ∷
    go_on 1 ∷ add_parameter 1 0 0 ∷ read_variable 1 0 0 0 ∷
    go_on 1 ∷
    go_on 2 ∷ add_parameter 2 0 1 ∷ read_variable 2 1 0 1 ∷
    go_on 2 ∷
    seal_with 1 (jump 2 2 0 1 ∷ []) ∷
    drop_parameter 1 0 0 1 ∷
    seal_with 2 (jump 1 2 0 2 ∷ []) ∷
    add_zero 2 0 2 ∷
    undefine_parameter 2 0 1 2 ∷
    []

abbrev pub cycle_blocks : Blocks
cycle_blocks = (after_all blank cycle_moves).blocks

pub record UnreachableCycle : Type 0 where
  pub correct : IsCorrect (state_of cycle_blocks)
  pub first : cycle_blocks.function.resolve (cycle_blocks.answer 0) ≡ 2
  pub second : cycle_blocks.function.resolve (cycle_blocks.answer 1) ≡ 2
  pub is_zero : (cycle_blocks.function.definition 2).kind ≡ zero_of 0

-- LABELS. A variable's label is 7 and its number, and each name's is 7: that agrees on the loop, whose one variable is
-- 0. So the parameter has the variable's label, and the argument that it gets as the loop goes round.
abbrev pub from_seven : ℕ → ℕ
from_seven x = 7 + x

abbrev pub always_seven : ℕ → ℕ
always_seven n = 7

abbrev pub label_of_value : Blocks → ℕ → Option ℕ
label_of_value blocks v = label_by from_seven always_seven (blocks.function.definition (blocks.function.resolve v)).kind

pub record LoopLabelled : Type 0 where
  pub kept : LabelsKept loop_blocks from_seven always_seven
  pub parameter : label_of_value loop_blocks (loop_blocks.answer 1) ≡ Some 7
  pub argument : label_of_value loop_blocks (loop_blocks.function.argument 1 (jump 1 4 0 1)) ≡ Some 7

-- where name 2 has label 8, which the loop assigns to the variable, the labels don't agree and aren't kept
abbrev pub eight_at_two : ℕ → ℕ
eight_at_two n = cond (n == 2) 8 7

pub record LoopMixed : Type 0 where
  pub differ : agree_all from_seven eight_at_two loop_moves ≡ false
  pub lost : ¬ (LabelsKept loop_blocks from_seven eight_at_two)

-- nothing reaches the cycle, and its answers have the label of the variable, too, as the zero has
pub record CycleLabelled : Type 0 where
  pub kept : LabelsKept cycle_blocks from_seven always_seven
  pub first : label_of_value cycle_blocks (cycle_blocks.answer 0) ≡ Some 7

-- A LOOK-UP. Block 0 assigns name 0, block 1 assigns name 1, and blocks 1 and 2 jump to block 3, which is sealed.
-- A use
-- in block 3 adds a parameter, value 2, looks the variable up in blocks 1 and 2, finds two values, and gives the
-- parameter an argument from each.
abbrev pub two_values : List Move
two_values =
    seal_with 0 (entry ∷ []) ∷
    go_on 0 ∷ give_name 0 0 0 ∷
    go_on 0 ∷ write_variable 0 0 0 ∷
    go_on 0 ∷
    go_on 1 ∷ give_name 1 1 1 ∷
    go_on 1 ∷ write_variable 1 0 1 ∷
    go_on 1 ∷
    seal_with 1 (jump 0 3 0 1 ∷ []) ∷
    go_on 2 ∷
    seal_with 2 (jump 0 3 1 2 ∷ []) ∷ copy_record 2 0 0 ∷
    seal_with 3 (jump 1 3 0 3 ∷ jump 2 1 0 3 ∷ []) ∷
    []

abbrev pub two_predecessors : ℕ → List ℕ
two_predecessors block = cond (block == 3) (1 ∷ 2 ∷ []) []

abbrev pub from_two : Arm → ℕ
from_two arm = cond (same_place arm.source (inside 1 3)) 1 0

abbrev pub looked_up : Blocks
looked_up = with_filled (with_parameter (after_all blank two_values).blocks 3 0 2) 0 2 from_two

pub record LookUpFills : Type 0 where
  pub delivered : Delivers looked_up two_predecessors 0 (Some 3) [] 2
  pub answers : Knows looked_up 3 0 2

-- BOTH ARMS. Block 0 has two edges to block 1, and another branch leads there too. Block 1 uses a variable before
-- it
-- is sealed; its parameter, value 5, is completed with value 7 on both edges.
abbrev pub plain_types : Types
plain_types = record { of_value = λ v. 0; of_variable = λ x. 0 }

abbrev pub arm_of : ℕ → EdgeShape
arm_of from = record { source = from; target = Some 1; caller_arguments = []; arguments = [] }

abbrev pub two_arms : Shape
two_arms =
    let entered = with_block no_shape 0 (record (no_shape.block 0) { entered = true }) in
    record entered { edge = updated (updated entered.edge 0 (arm_of 0)) 1 (arm_of 0) }

abbrev pub used_before : Shape
used_before =
    let declared = with_block two_arms 1 (record (two_arms.block 1) { predecessors = 0 ∷ 1 ∷ [] }) in
    let entered = with_block declared 1 (record (declared.block 1) { entered = true }) in
    with_block entered 1 (waiting_added (entered.block 1) 0 5)

abbrev pub under_way : Shape
under_way =
    let sealed = with_block used_before 1 (record (used_before.block 1) { sealed = true }) in
    with_block sealed 1 (lookup_begun (sealed.block 1) (record { variable = 0; value = 5; begun = false }) [])

abbrev pub both_completed : Shape
both_completed = record {
  block =
      updated under_way.block 1
      (first_completed (under_way.block 1) (record { variable = 0; value = 5; begun = true }) []);
  edge = arguments_appended under_way.edge 1 (λ e. 7);
}

pub record BothArmsMatch : Type 0 where
  pub structured : Structured plain_types both_completed
  pub parameters : (both_completed.block 1).parameters ≡ 5 ∷ []
  pub first_arm : (both_completed.edge 0).arguments ≡ 7 ∷ []
  pub second_arm : (both_completed.edge 1).arguments ≡ 7 ∷ []
