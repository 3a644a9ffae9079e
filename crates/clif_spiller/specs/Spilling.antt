-- A spiller that has spilled nothing. Source: own.
use Rattle.std.specs.Prelude.{◌≡◌}
use Rattle.clif_safepoints.specs.Analysis.{nothing_found}
use Rattle.clif_stack_slots.specs.Slots.{HasNone}
use Rattle.clif_spiller.specs.declared.spiller.SafepointSpiller.{SafepointSpiller}

pub record HasSpilledNothing (s : SafepointSpiller) : Type 0 where
  pub liveness : s.liveness ≡ nothing_found
  pub slots : HasNone s.slots
