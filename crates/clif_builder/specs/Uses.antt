-- What a use of a variable makes of a builder. Source: the crate's documentation of `FunctionBuilder`, and Braun et al. 2013.
use Rattle.std.specs.Prelude.{◌≡◌, ◌<◌, ℕ, List, ◌∷◌, length, slice_get, Option, Some, None, Result, Ok, Err, OnOk, IfOk, IfSome}
use Rattle.clif_types.specs.declared.error.BuildError.{BuildError}
use Rattle.clif_types.specs.declared.error.BuildError.TheVariants.{Full}
use Rattle.clif_types.specs.declared.types.«Type».{«Type»}
use Rattle.clif_ir.specs.Body.{value_at}
use Rattle.clif_ir.specs.Changes.{inserted_in}
use Rattle.clif_meaning.specs.Request.{AnsweredCall}
use Rattle.clif_ssa.specs.Constructs.{OnlyConstructs}
use Rattle.clif_ssa.specs.Pools.{MayPool, UseIsFull}
use Rattle.clif_ssa.specs.Ssa.{SealedStays}
use Rattle.clif_builder.specs.declared.builder.FunctionBuilder.{FunctionBuilder}
use Rattle.clif_builder.specs.Builder.{Uses}
use Rattle.clif_builder.specs.Construction.{IsUse}
use Rattle.clif_builder.specs.Context.{Begins, SetsStatus, begun, status_of}
use Rattle.clif_builder.specs.Counted.{IsWithinCalls}
use Rattle.clif_builder.specs.Growth.{HasRecordIn}
use Rattle.clif_builder.specs.Ledger.{AgreesWithLedger}

-- the value that a call answered which only tries, if it gave one
abbrev pub value_given : {E : Type 0} → Result ℕ E → Option ℕ
value_given (Ok value) = Some value
value_given (Err error) = None

-- The variable is used in the current block; `given` is the value in an answer, if there is one.
pub record UsesVariable {A : Type 0} {R : Type 0} (given : A → Option ℕ) (variable : ℕ) (old new : FunctionBuilder R) (answer : Result A BuildError) : Type 0 where
  -- the value that is on record, or else a new parameter of the block, or a zero
  pub uses : IfSome old.position (λ block. IfOk answer (λ a. IfSome (given a) (Uses old new variable block)))
  pub exists : IfOk answer (λ a. IfSome (given a) (λ v. v < length new.func.now.values))
  pub typed : IfOk answer (λ a. IfSome (given a) (λ v. slice_get old.ctx.now.parts.variables variable ≡ Some (value_at new.func.now v).ty))
  -- it is on record in the block afterwards, and is the variable's on every path
  pub has_record : IfSome old.position (λ block. IfOk answer (λ a. IfSome (given a) (HasRecordIn new variable block)))
  pub is_use : (ty : «Type») → slice_get old.ctx.now.parts.variables variable ≡ Some ty
      → IfSome old.position (λ block. IfOk answer (λ a. IfSome (given a) (λ value. (told : List ℕ)
      × IsUse (inserted_in old.func.now block) old.ctx.now.parts.ssa new.func.now new.ctx.now.parts.ssa variable ty block value told
      × Begins old.ctx.now.parts new.ctx.now.parts (block ∷ told))))
  -- no block is sealed that wasn't, and something was made in the current one
  pub seals : OnOk answer (SealedStays old.ctx.now.parts.ssa new.ctx.now.parts.ssa)
  pub status : (calls : List AnsweredCall) → AgreesWithLedger calls old
      → IfSome old.position (λ block. OnOk answer (SetsStatus old.ctx.now.parts new.ctx.now.parts block (begun (status_of old.ctx.now.parts block))))
  pub variables : new.ctx.now.parts.variables ≡ old.ctx.now.parts.variables
  -- of constants at most that of the zero of the variable's type is new
  pub pools : (ty : «Type») → slice_get old.ctx.now.parts.variables variable ≡ Some ty → MayPool ty old.func.now.tables new.func.now.tables
  pub full : (ty : «Type») → slice_get old.ctx.now.parts.variables variable ≡ Some ty → answer ≡ Err Full → UseIsFull ty new.func.now
  pub constructs : IfSome old.position (λ block. answer ≡ Err Full → OnlyConstructs (inserted_in old.func.now block) new.func.now)
  -- where a table is full the function has no more than the calls made themselves and the construction pays for
  pub within : (calls : List AnsweredCall) → AgreesWithLedger calls old → answer ≡ Err Full
      → IsWithinCalls calls (length old.ctx.now.parts.variables) (length old.func.now.blocks) new.func.now
