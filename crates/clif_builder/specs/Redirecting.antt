-- What changing where a branch leads makes of the parts of a builder: its edges move, and what else is known stays.
-- Source: own, after the crate's documentation of `change_jump_destination`.
use Rattle.std.specs.Prelude.{◌≡◌, ℕ}
use Rattle.clif_ir.specs.Body.{Body}
use Rattle.clif_ssa.specs.Moving.{MovesBranch}
use Rattle.clif_builder.specs.Context.{ContextState, SameVariables}

pub record Redirects (f : Body) (c : ContextState) (g : Body) (d : ContextState) (branch from to : ℕ) : Type 0 where
  pub moved : MovesBranch f c.ssa g d.ssa branch from to
  pub records : d.ssa.records ≡ c.ssa.records
  pub tracking : d.ssa.tracking ≡ c.ssa.tracking
  pub status : d.status ≡ c.status
  pub variables : SameVariables c d
