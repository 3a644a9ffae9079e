-- What a switch leaves of a builder. Source: own.
use Rattle.std.specs.Prelude.{◌≡◌, ◌≤◌, length, false, IsTrue}
use Rattle.clif_builder.specs.declared.builder.FunctionBuilder.{FunctionBuilder}
use Rattle.clif_builder.specs.Builder.{IsLeft, SameLoans, is_free}
use Rattle.clif_builder.specs.Growth.{TypesStay}
use Rattle.clif_switch.specs.Emission.{LeavesBlocks}

-- The current block is left, the blocks that were there are unsealed and unfilled as before but for it, and no value is gone.
pub record Chooses {R : Type 0} (old new : FunctionBuilder R) : Type 0 where
  pub loans : SameLoans old new
  pub sound : new.failed ≡ false
  pub values : length old.func.now.values ≤ length new.func.now.values
  pub blocks : length old.func.now.blocks ≤ length new.func.now.blocks
  pub variables : new.ctx.now.parts.variables ≡ old.ctx.now.parts.variables
  pub types : TypesStay old.func.now new.func.now
  pub leaves : LeavesBlocks old new
  pub left : IsLeft new
  pub free : IsTrue (is_free new)
