-- What calls that make instructions and blocks leave as it was. Source: own, after the crate's documentation of `FunctionBuilder`.
use Rattle.std.specs.Prelude.{◌≡◌, ◌<◌, ◌≤◌, ℕ, length}
use Rattle.clif_ir.specs.Body.{Body, inst_at}
use Rattle.clif_builder.specs.declared.builder.FunctionBuilder.{FunctionBuilder}
use Rattle.clif_builder.specs.Growth.{RemembersIn}

-- each instruction that was made has this source place, and each one that there was keeps its own
pub record ArePlaced (place : ℕ) (f g : Body) : Type 0 where
  pub made : (i : ℕ) → length f.insts ≤ i → i < length g.insts → (inst_at g i).srcloc ≡ place
  pub kept : (i : ℕ) → i < length f.insts → (inst_at g i).srcloc ≡ (inst_at f i).srcloc

-- Each instruction that was made has the builder's source place. What was on record for a variable in a block stays, and stands for the
-- same value; and what was recorded for stack maps stays.
pub record KeepsState {R : Type 0} (old new : FunctionBuilder R) : Type 0 where
  pub placed : ArePlaced old.srcloc old.func.now new.func.now
  pub remembers : (x b : ℕ) → RemembersIn x b old new
  pub tracking : new.ctx.now.parts.ssa.tracking ≡ old.ctx.now.parts.ssa.tracking
