-- Calls that are made one behind the other in one block, what they make of a builder, and what it stands for then. Own.
use Rattle.std.specs.Prelude.{◌≡◌, ◌⊎◌, ◌<◌, ◌+◌, ◌-◌, ◌^◌, ℕ, List, [], ◌∷◌, ◌++◌, length, slice_index_or, Result, Err, IfOk, OnOk}
use Rattle.std.specs.List.{AllZip}
use Rattle.clif_types.specs.Signature.{SignatureShape}
use Rattle.clif_types.specs.declared.error.BuildError.{BuildError}
use Rattle.clif_types.specs.declared.error.BuildError.TheVariants.{Full}
use Rattle.clif_types.specs.declared.types.«Type».{«Type»}
use Rattle.clif_ir.specs.Body.{value_at}
use Rattle.clif_tables.specs.Lists.{TableLists}
use Rattle.clif_meaning.specs.Name.{Name, answer_of}
use Rattle.clif_meaning.specs.Request.{AnsweredCall, Script, script_of}
use Rattle.clif_meaning.specs.Sizes.{made_by_script}
use Rattle.clif_builder.specs.declared.builder.FunctionBuilder.{FunctionBuilder}
use Rattle.clif_builder.specs.Adding.{AddsAtMost}
use Rattle.clif_builder.specs.Builder.{HasCurrent}
use Rattle.clif_builder.specs.Built.{HasFullTable}
use Rattle.clif_builder.specs.Calls.{IsCall}
use Rattle.clif_builder.specs.Growth.{Grows}
use Rattle.clif_builder.specs.Keeping.{KeepsState}
use Rattle.clif_builder.specs.Ledger.{NamesValue}
use Rattle.clif_builder.specs.StandsFor.{StandsFor}

-- all tables stay, but those of signatures and functions, in which there may be more
abbrev pub MayImport : TableLists → TableLists → Type 0
MayImport t u = u ≡ record t { signatures = u.signatures; functions = u.functions }

-- the table of signatures or that of functions holds as many entries as it can
abbrev pub ImportsAreFull : TableLists → Type 0
ImportsAreFull t = (length t.signatures ≡ 2 ^ 32 - 1) ⊎ (length t.functions ≡ 2 ^ 32 - 1)

-- a table is full that a helper needs: one of these, or that of values or of instructions
abbrev pub HelperIsFull : {R : Type 0} → FunctionBuilder R → Type 0
HelperIsFull b = HasFullTable b ⊎ ImportsAreFull b.func.now.tables

-- Calls were made one behind the other, whatever the last one answers, and none made a branch or ended a block: as of one call that may
-- fail. One can build on behind them.
pub record InLine {A : Type 0} {R : Type 0} (old new : FunctionBuilder R) (answer : Result A BuildError) : Type 0 where
  pub call : IsCall old new answer
  pub ssa : new.ctx.now.parts.ssa ≡ old.ctx.now.parts.ssa
  pub variables : new.ctx.now.parts.variables ≡ old.ctx.now.parts.variables
  pub grows : OnOk answer (Grows old.func.now new.func.now)
  pub keeps : OnOk answer (KeepsState old new)
  pub imports : OnOk answer (MayImport old.func.now.tables new.func.now.tables)
  pub current : OnOk answer (HasCurrent new)
  -- where an error says so, a table that a helper needs is full
  pub full : answer ≡ Err Full → HelperIsFull new

-- the value is there, and has this type
abbrev pub HasType : {R : Type 0} → FunctionBuilder R → ℕ → «Type» → Type 0
HasType b value ty = (value < length b.func.now.values) × ((value_at b.func.now value).ty ≡ ty)

-- The builder stands for the list with these plain calls at its end, answered in some way, and these name the values.
pub record StandsOn {R : Type 0} (signature : SignatureShape) (calls : List AnsweredCall) (plain : Script) (names : List Name) (values : List ℕ) (new : FunctionBuilder R) : Type 0 where
  pub added : List AnsweredCall
  pub asked : script_of added ≡ plain
  pub stands : StandsFor signature (calls ++ added) new
  pub named : AllZip (NamesValue (calls ++ added)) names values

-- plain calls on operands, by the place of the first one and by names of the operands
abbrev pub Requests : Type 0
Requests = (place : ℕ) (names : List Name) → Script

-- names of what such calls answer
abbrev pub Results : Type 0
Results = (place : ℕ) (names : List Name) → List Name

-- Calls were made in a line on these operands: where the builder stood for a list of calls, it stands for the list with these plain
-- calls at its end, and these names lead to what is answered.
pub record Makes {A : Type 0} {R : Type 0} (operands : List ℕ) (made : Requests) (results : Results) (values : A → List ℕ) (old new : FunctionBuilder R) (answer : Result A BuildError) : Type 0 where
  pub line : InLine old new answer
  pub stands : (signature : SignatureShape) (calls : List AnsweredCall) (names : List Name) → StandsFor signature calls old → AllZip (NamesValue calls) names operands
      → IfOk answer (λ a. StandsOn signature calls (made (length calls) names) (results (length calls) names) (values a) new)
  -- whatever is answered but `Memory`, the function has at most the entries more that these calls make
  pub most : (place : ℕ) (names : List Name) → length names ≡ length operands → AddsAtMost (made_by_script (made place names)) old new answer

-- nothing is answered
abbrev pub no_results : Results
no_results place names = []

abbrev pub no_values : Unit {0} → List ℕ
no_values _ = []

-- a value is answered
abbrev pub one_value : ℕ → List ℕ
one_value value = value ∷ []

-- the name of the result of the last one of these calls, the first of which stands at this place
abbrev pub last_result : Requests → Results
last_result made place names = answer_of (place + length (made place names) - 1) 1 ∷ []

-- the operands, by their number
abbrev pub nth : List Name → ℕ → Name
nth names k = slice_index_or names k (answer_of 0 0)
