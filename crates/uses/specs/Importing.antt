-- What importing a function leaves of a builder. Source: own.
use Rattle.std.specs.Prelude.{◌≡◌}
use Rattle.clif_builder.specs.declared.builder.FunctionBuilder.{FunctionBuilder}
use Rattle.clif_builder.specs.Builder.{HasCurrent}
use Rattle.clif_builder.specs.Growth.{Grows}

-- The function has the same values, and more entries of tables; nothing else changes.
pub record Imports {R : Type 0} (old new : FunctionBuilder R) : Type 0 where
  pub position : new.position ≡ old.position
  pub context : new.ctx.now.parts ≡ old.ctx.now.parts
  pub values : new.func.now.values ≡ old.func.now.values
  pub grows : Grows old.func.now new.func.now
  pub current : HasCurrent new
