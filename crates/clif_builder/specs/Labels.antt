-- What the calls on labels of values make of a builder. Source: own, after the crate's documentation of `FunctionBuilder`.
use Rattle.std.specs.Prelude.{◌≡◌, ◌≢◌, ℕ, List, Result, Err, OnOk}
use Rattle.clif_types.specs.declared.error.BuildError.{BuildError}
use Rattle.clif_types.specs.declared.error.BuildError.TheVariants.{Full}
use Rattle.clif_types.specs.Signature.{SignatureShape}
use Rattle.clif_tables.specs.Lists.{TableLists, with_label, with_labels_collected}
use Rattle.clif_ir.specs.Changes.{with_tables}
use Rattle.clif_meaning.specs.Request.{AnsweredCall}
use Rattle.clif_builder.specs.declared.builder.FunctionBuilder.{FunctionBuilder}
use Rattle.clif_builder.specs.Builder.{HasCurrent, SameLoans}
use Rattle.clif_builder.specs.Entries.{SetsTables}
use Rattle.clif_builder.specs.Growth.{Grows, RemembersIn}
use Rattle.clif_builder.specs.Ledger.{AgreesWithLedger}
use Rattle.clif_builder.specs.StandsFor.{StandsFor}

-- labels are kept from now on, and nothing else changes: what the function means has no labels
pub record CollectsLabels {R : Type 0} (old new : FunctionBuilder R) : Type 0 where
  pub loans : SameLoans old new
  pub function : new.func.now ≡ with_tables old.func.now (with_labels_collected old.func.now.tables)
  pub context : new.ctx.now.parts ≡ old.ctx.now.parts
  pub position : new.position ≡ old.position
  pub srcloc : new.srcloc ≡ old.srcloc
  pub failed : new.failed ≡ old.failed
  pub ledger : (calls : List AnsweredCall) → AgreesWithLedger calls old → AgreesWithLedger calls new
  pub stands : (signature : SignatureShape) (calls : List AnsweredCall) → StandsFor signature calls old → StandsFor signature calls new
  pub grows : Grows old.func.now new.func.now
  pub remembers : (x b : ℕ) → RemembersIn x b old new
  pub current : HasCurrent old → HasCurrent new

-- the tables with one label more of a value, which begins at the builder's source place; as they are unless labels are collected
abbrev pub labelled : {R : Type 0} → FunctionBuilder R → ℕ → ℕ → TableLists
labelled b value label = with_label b.func.now.tables value (record { from = b.srcloc; label = label })

-- the value has one label more, and nothing else changes
pub record SetsLabel {R : Type 0} (value label : ℕ) (old new : FunctionBuilder R) (answer : Result (Unit {0}) BuildError) : Type 0 where
  pub sets : SetsTables (labelled old value label) old new answer
  pub grows : OnOk answer (Grows old.func.now new.func.now)
  pub never_full : answer ≢ Err Full
