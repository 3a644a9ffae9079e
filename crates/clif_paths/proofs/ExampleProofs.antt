-- The worked examples, by computation.
use Rattle.std.proofs.Common.{Bool, true, refl, []}
use Rattle.clif_paths.specs.Places.{same_place}
use Rattle.clif_paths.specs.Denotation.{instances, denotes}
use Rattle.clif_paths.specs.Steps.{updated, updated_at, aliased}
use Rattle.clif_paths.specs.Moves.{same_arm, listed, each_arm, some_arm, each_write, each_place, differs, is_none_at, says, is_pending, is_zero, none_below, assigns_not, resolves_to, carries_from, each_into, is_new_name, is_new_value, waits_in, allows, after, after_all, allows_all, in_places, next_within, holds_all_before, shown_by, is_settled, each_settled, is_finished}
use Rattle.clif_paths.specs.Examples.{loop_moves, loop_witnesses, LoopSealedLate, diamond_moves, first_witness, DiamondDropped, irreducible_moves, irreducible_witnesses, IrreducibleLoop, cycle_moves, UnreachableCycle, LoopUnderCollector}
use Rattle.clif_paths.proofs.Finishing.{finished_moves}
use Rattle.clif_paths.specs.Runs.{program_bits, function_bits}

-- all that the examples compute with
unfoldable pub computing : Bool
unfolding same_place instances denotes program_bits function_bits updated updated_at aliased same_arm listed each_arm some_arm each_write each_place differs is_none_at says is_pending is_zero none_below assigns_not resolves_to carries_from each_into is_new_name is_new_value waits_in allows after after_all allows_all in_places next_within holds_all_before shown_by is_settled each_settled is_finished
computing = true

pub loop_sealed_late : LoopSealedLate
unfolding computing
loop_sealed_late = record {
  correct = finished_moves loop_moves loop_witnesses refl refl;
  completed = refl;
  program_side = refl;
  function_side = λ any. refl;
}

pub diamond_dropped : DiamondDropped
unfolding computing
diamond_dropped = record {
  correct = finished_moves diamond_moves first_witness refl refl;
  dropped = refl;
}

pub irreducible_loop : IrreducibleLoop
unfolding computing
irreducible_loop = record {
  correct = finished_moves irreducible_moves irreducible_witnesses refl refl;
  program_side = refl;
  function_side = λ any. refl;
}

pub unreachable_cycle : UnreachableCycle
unfolding computing
unreachable_cycle = record {
  correct = finished_moves cycle_moves [] refl refl;
  first = refl;
  second = refl;
  is_zero = refl;
}

pub loop_under_collector : LoopUnderCollector
unfolding computing
loop_under_collector = record { program_side = refl; function_side = refl }
