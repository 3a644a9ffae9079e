-- Both arms of a branch get the argument, step by step.
use Rattle.std.proofs.Common.{true, false, [], ◌∷◌, ◌≤◌, refl, arith}
use Rattle.clif_paths.specs.Steps.{updated}
use Rattle.clif_paths.specs.Shape.{no_shape, ShapeSteps, no_step, and_then, enter, new_edge, declare, seal_shape, add_waiting, begin_lookup, complete_first}
use Rattle.clif_paths.specs.Examples.{plain_types, two_arms, used_before, under_way, both_completed, BothArmsMatch}
use Rattle.clif_paths.proofs.ShapeSteps.{first_structured, shapes_structured}

two_le_two : 2 ≤ 2
two_le_two = omega arith

arms_steps : ShapeSteps plain_types no_shape two_arms
unfolding updated
arms_steps = and_then (and_then (and_then no_step (enter 0)) (new_edge 0 0 1 [] refl refl)) (new_edge 1 0 1 [] refl refl)

used_steps : ShapeSteps plain_types no_shape used_before
unfolding updated
used_steps = and_then (and_then (and_then arms_steps (declare 1 (0 ∷ 1 ∷ []) refl)) (enter 1)) (add_waiting 1 0 5 refl refl refl)

way_steps : ShapeSteps plain_types no_shape under_way
unfolding updated
way_steps = and_then (and_then used_steps (seal_shape 1)) (begin_lookup 1 (record { variable = 0; value = 5; begun = false }) [] refl refl)

all_steps : ShapeSteps plain_types no_shape both_completed
unfolding updated
all_steps = and_then way_steps (complete_first 1 (record { variable = 0; value = 5; begun = true }) [] (λ e. 7) refl refl two_le_two (λ e at. refl))

pub both_arms_match : BothArmsMatch
unfolding updated
both_arms_match = record {
  structured = shapes_structured plain_types no_shape both_completed all_steps (first_structured plain_types);
  parameters = refl;
  first_arm = refl;
  second_arm = refl;
}
