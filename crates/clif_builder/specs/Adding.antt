-- How many entries of the tables of its function a call of a builder makes at most. Source: own.
use Rattle.std.specs.Prelude.{◌≡◌, ◌≢◌, ℕ, Result, Err}
use Rattle.clif_types.specs.declared.error.BuildError.{BuildError}
use Rattle.clif_types.specs.declared.error.BuildError.TheVariants.{Memory}
use Rattle.clif_meaning.specs.Sizes.{Instructions, MakesAtMost, Table, Values}
use Rattle.clif_builder.specs.declared.builder.FunctionBuilder.{FunctionBuilder}

-- whatever is answered but `Memory`, each table of the function has at most so many entries more
abbrev pub AddsAtMost : {A : Type 0} → {R : Type 0} → (most : Table → ℕ) → FunctionBuilder R → FunctionBuilder R → Result A BuildError → Type 0
AddsAtMost most old new answer = answer ≢ Err Memory → MakesAtMost most old.func.now new.func.now

-- an instruction with so many results
abbrev pub instruction_makes : (results : ℕ) → Table → ℕ
instruction_makes results Values = results
instruction_makes results Instructions = 1
instruction_makes results _ = 0
