-- What the calls that ask for stack maps make of a builder. Source: own, after the crate's documentation of
-- `declare_var_needs_stack_map` and `declare_value_needs_stack_map`.
use Rattle.std.specs.Prelude.{◌≡◌, ◌≢◌, ◌<◌, ℕ, length, Result, Err, OnOk, OnErr, None}
use Rattle.clif_types.specs.declared.error.BuildError.{BuildError}
use Rattle.clif_types.specs.declared.error.BuildError.TheVariants.{Full}
use Rattle.clif_ir.specs.Body.{value_at}
use Rattle.clif_records.specs.Tracking.{Tracked, with_mark, with_recorded}
use Rattle.clif_ssa.specs.Ssa.{record_of}
use Rattle.clif_stack_slots.specs.Sizes.{FitsStackMap}
use Rattle.clif_builder.specs.declared.builder.FunctionBuilder.{FunctionBuilder}
use Rattle.clif_builder.specs.Builder.{HasCurrent}
use Rattle.clif_builder.specs.Calls.{IsCall}
use Rattle.clif_builder.specs.Context.{ContextState}
use Rattle.clif_builder.specs.Growth.{Grows, RemembersIn}
use Rattle.clif_builder.specs.Tracking.{with_tracking}
pub use Rattle.clif_builder.specs.Tracking.{VariableFits}

-- the variable was neither used nor assigned so far: it is on record in no block
abbrev pub IsUnused : ContextState → ℕ → Type 0
IsUnused c variable = (block : ℕ) → record_of c.ssa variable block ≡ None

-- A call of the builder changes what is tracked, and nothing else. After an error nothing has changed.
pub record TracksFrom {R : Type 0} (old new : FunctionBuilder R) (answer : Result (Unit {0}) BuildError) (tracked : Tracked) : Type 0 where
  pub call : IsCall old new answer
  pub function : new.func.now ≡ old.func.now
  pub context : OnOk answer (new.ctx.now.parts ≡ with_tracking old.ctx.now.parts tracked)
  pub kept : OnErr answer (new.ctx.now.parts ≡ old.ctx.now.parts)
  pub never_full : answer ≢ Err Full
  pub grows : OnOk answer (Grows old.func.now new.func.now)
  pub remembers : (x b : ℕ) → OnOk answer (RemembersIn x b old new)
  pub current : HasCurrent old → OnOk answer (HasCurrent new)

-- the variable is marked
abbrev pub MarksVariable : {R : Type 0} → FunctionBuilder R → FunctionBuilder R → Result (Unit {0}) BuildError → ℕ → Type 0
MarksVariable old new answer variable = TracksFrom old new answer (with_mark old.ctx.now.parts.ssa.tracking variable)

-- the value is recorded
abbrev pub RecordsValue : {R : Type 0} → FunctionBuilder R → FunctionBuilder R → Result (Unit {0}) BuildError → ℕ → Type 0
RecordsValue old new answer value = TracksFrom old new answer (with_recorded old.ctx.now.parts.ssa.tracking value)

-- a value of the function whose type fits
pub record ValueFits {R : Type 0} (b : FunctionBuilder R) (value : ℕ) : Type 0 where
  pub exists : value < length b.func.now.values
  pub fits : FitsStackMap (value_at b.func.now value).ty
