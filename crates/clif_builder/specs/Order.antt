-- What holds of the parts of a builder after each call that succeeds, whatever the calls were. Source: own, after the
-- crate's documentation of `FunctionBuilder`.
use Rattle.std.specs.Prelude.{◌≡◌, ◌≢◌, ◌≤◌, ◌⊎◌, ℕ, [], length, true, false, Bool, IsTrue, Some, Contains, slice_get}
use Rattle.clif_types.specs.EntitySet.{has}
use Rattle.clif_types.specs.declared.types.«Type».{«Type»}
use Rattle.clif_ir.specs.Body.{Body, block_at}
use Rattle.clif_instructions.specs.Members.{stands_in}
use Rattle.clif_ssa.specs.LookUp.{branch_block}
use Rattle.clif_ssa.specs.Own.{Own}
use Rattle.clif_ssa.specs.Ssa.{NamesExist, predecessors_of, sealed_of}
use Rattle.clif_ssa.specs.Structured.{Structured, VariableTypes}
use Rattle.clif_records.specs.Tables.{is_yes, pending_of}
use Rattle.clif_builder.specs.declared.context.BlockStatus.TheVariants.{Empty, Filled}
use Rattle.clif_builder.specs.Context.{ContextState, status_of}
use Rattle.clif_builder.specs.Tracking.{AskedFits}

-- something was made in a block: it is in the layout, and no longer empty
pub record IsBegun (f : Body) (c : ContextState) (block : ℕ) : Type 0 where
  pub inserted : stands_in block f.layout ≡ true
  pub begun : status_of c block ≢ Empty

-- a block of the layout has its terminator
pub record IsEnded (f : Body) (c : ContextState) (block : ℕ) : Type 0 where
  pub inserted : stands_in block f.layout ≡ true
  pub filled : status_of c block ≡ Filled

-- types of variables: those that were declared, and were used or assigned, have these types
abbrev pub AreTypesOf : ContextState → VariableTypes → Type 0
AreTypesOf c types = (x : ℕ) (ty : «Type») → slice_get c.variables x ≡ Some ty → IsTrue (has c.touched x) → types x ≡ ty

-- what the construction has made is in order beside what the caller made, whatever the types of variables that weren't
-- declared, or that weren't used or assigned: these have no records
abbrev pub IsStructured : Own → Body → ContextState → Type 0
IsStructured own f c = (types : VariableTypes) → AreTypesOf c types → Structured types own f c.ssa []

-- a block has the caller's parameters alone, and none of a variable, unless something was made in it
abbrev pub AloneUnlessBegun : Own → Body → ContextState → ℕ → Type 0
AloneUnlessBegun own f c block = ((block_at f block).params ≡ own.params block) ⊎ IsBegun f c block

-- a block of which the construction knows nothing: it isn't sealed, nothing was made in it, nothing leads to it, and no parameter waits
-- in it until it is sealed
pub record IsUntouched (c : ContextState) (block : ℕ) : Type 0 where
  pub unsealed : is_yes (sealed_of c.ssa block) ≡ false
  pub pristine : status_of c block ≡ Empty
  pub alone : predecessors_of c.ssa block ≡ []
  pub none_waits : pending_of (sealed_of c.ssa block) ≡ []

-- The parts are in order.
pub record IsInOrder (f : Body) (c : ContextState) : Type 0 where
  -- what the caller made, and beside it parameters, edges and records in order
  pub own : Own
  pub structured : IsStructured own f c
  pub callers_alone : (block : ℕ) → AloneUnlessBegun own f c block
  -- a branch that leads somewhere ends a block of the layout
  pub branches : (block branch : ℕ) → Contains (predecessors_of c.ssa block) branch → IsEnded f c (branch_block f branch)
  -- a block that doesn't exist yet is untouched
  pub fresh : (k : ℕ) → length f.blocks ≤ k → (is_yes (sealed_of c.ssa k) ≡ false) × (status_of c k ≡ Empty) × (predecessors_of c.ssa k ≡ [])

-- What the parts of a builder keep: what the construction names exists; and unless a call failed they are in order, and what stack maps
-- are asked for fits them.
pub record IsKept (f : Body) (c : ContextState) (failed : Bool) : Type 0 where
  pub names : NamesExist f c.ssa
  pub in_order : failed ≡ false → IsInOrder f c
  pub fits_maps : failed ≡ false → AskedFits f c
