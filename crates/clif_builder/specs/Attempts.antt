-- What it means that the builder refuses a call because of its variable. Source: own, after the crate's documentation of
-- `FunctionBuilder`.
use Rattle.std.specs.Prelude.{◌≡◌, ◌≢◌, ℕ, [], ◌∷◌, Option, Some, None, IfSome, Result, Ok, Err, slice_get}
use Rattle.clif_types.specs.declared.types.«Type».{«Type»}
use Rattle.clif_ir.specs.Body.{value_at}
use Rattle.clif_ir.specs.Changes.{inserted_in}
use Rattle.clif_meaning.specs.Request.{AnsweredCall, EnsureInsertedBlock, UseVar}
use Rattle.clif_builder.specs.declared.builder.FunctionBuilder.{FunctionBuilder}
use Rattle.clif_builder.specs.declared.error.DefVariableError.{DefVariableError}
use Rattle.clif_builder.specs.declared.error.DefVariableError.TheVariants.{DefinedBeforeDeclared, TypeMismatch}
use Rattle.clif_builder.specs.declared.error.UseVariableError.{UseVariableError}
use Rattle.clif_builder.specs.declared.error.UseVariableError.TheVariants.{UsedBeforeDeclared}
use Rattle.clif_builder.specs.Calls.{answered}
use Rattle.clif_builder.specs.Context.{SetsStatus, begun, status_of}

-- A use is refused where the variable isn't declared: the current block is in the layout then, and begun, and nothing else
-- has changed.
pub record RefusesUse {R : Type 0} (old new : FunctionBuilder R) (variable : ℕ) (error : UseVariableError) : Type 0 where
  pub told : error ≡ UsedBeforeDeclared variable
  pub undeclared : slice_get old.ctx.now.parts.variables variable ≡ None
  pub function : IfSome old.position (λ block. new.func.now ≡ inserted_in old.func.now block)
  pub status : IfSome old.position (λ block. SetsStatus old.ctx.now.parts new.ctx.now.parts block (begun (status_of old.ctx.now.parts block)))
  pub ssa : new.ctx.now.parts.ssa ≡ old.ctx.now.parts.ssa

-- which error tells that a value can't be assigned to a variable of this type, if it has one
abbrev pub assignment_error : Option «Type» → ℕ → ℕ → DefVariableError
assignment_error None variable value = DefinedBeforeDeclared variable
assignment_error (Some ty) variable value = TypeMismatch variable value

-- A value can't be assigned to a variable: this isn't declared, or has another type.
pub record IsMistyped {R : Type 0} (b : FunctionBuilder R) (variable value : ℕ) (error : DefVariableError) : Type 0 where
  pub told : error ≡ assignment_error (slice_get b.ctx.now.parts.variables variable) variable value
  pub mistyped : slice_get b.ctx.now.parts.variables variable ≢ Some (value_at b.func.now value).ty

-- An assignment is refused where that is so: nothing has changed.
abbrev pub RefusesAssignment : {R : Type 0} → FunctionBuilder R → FunctionBuilder R → ℕ → ℕ → DefVariableError → Type 0
RefusesAssignment old new variable value error = IsMistyped old variable value error × (new ≡ old)

-- the call that a tried use is told as: a use, by its answer; where it is refused, the current block was inserted, as by the
-- call for that
abbrev pub use_told : ℕ → Result ℕ UseVariableError → AnsweredCall
use_told variable (Ok value) = answered (UseVar variable) (value ∷ [])
use_told variable (Err error) = answered EnsureInsertedBlock []
