-- What sealing makes of a builder. Source: the crate's documentation of `FunctionBuilder`, and Braun et al. 2013.
use Rattle.std.specs.Prelude.{◌≡◌, ℕ, List, [], length, Result, Err, OnOk}
use Rattle.clif_types.specs.declared.error.BuildError.{BuildError}
use Rattle.clif_types.specs.declared.error.BuildError.TheVariants.{Full}
use Rattle.clif_meaning.specs.Request.{AnsweredCall}
use Rattle.clif_records.specs.Tables.{pending_of}
use Rattle.clif_ssa.specs.Constructs.{OnlyConstructs}
use Rattle.clif_ssa.specs.Ssa.{RecordsStay, SameRecords, Seals, completed, predecessors_of, sealed_of}
use Rattle.clif_builder.specs.declared.builder.FunctionBuilder.{FunctionBuilder}
use Rattle.clif_builder.specs.Construction.{IsSealing, SealsAlone, SealsAtMost}
use Rattle.clif_builder.specs.Context.{Begins}
use Rattle.clif_builder.specs.Counted.{IsWithinCalls}
use Rattle.clif_builder.specs.Ledger.{AgreesWithLedger}

-- A block is sealed: the parameters that wait in it get what comes from the branches that lead to it.
pub record SealsBlock {R : Type 0} (block : ℕ) (old new : FunctionBuilder R) (answer : Result (Unit {0}) BuildError) : Type 0 where
  pub is_sealing : OnOk answer ((told : List ℕ)
      × IsSealing old.func.now old.ctx.now.parts.ssa new.func.now new.ctx.now.parts.ssa block told × Begins old.ctx.now.parts new.ctx.now.parts told)
  -- where nothing waits nothing else happens
  pub alone : pending_of (sealed_of old.ctx.now.parts.ssa block) ≡ []
      → OnOk answer (SealsAlone old.func.now old.ctx.now.parts.ssa new.func.now new.ctx.now.parts.ssa block)
  pub others : OnOk answer (SealsAtMost old.ctx.now.parts.ssa new.ctx.now.parts.ssa block)
  -- where nothing leads to the block each parameter that waits becomes another name of a zero
  pub function : predecessors_of old.ctx.now.parts.ssa block ≡ []
      → OnOk answer (new.func.now ≡ completed old.func.now (pending_of (sealed_of old.ctx.now.parts.ssa block)))
  pub sealed : predecessors_of old.ctx.now.parts.ssa block ≡ [] → OnOk answer (Seals old.ctx.now.parts.ssa new.ctx.now.parts.ssa block)
  pub records : predecessors_of old.ctx.now.parts.ssa block ≡ [] → SameRecords old.ctx.now.parts.ssa new.ctx.now.parts.ssa

-- What sealing leaves, also where it fails: each record that is there, variables, and a function that has more as the construction makes it.
pub record SealingLeaves {R : Type 0} (old new : FunctionBuilder R) (answer : Result (Unit {0}) BuildError) : Type 0 where
  pub stay : RecordsStay old.ctx.now.parts.ssa new.ctx.now.parts.ssa
  pub variables : new.ctx.now.parts.variables ≡ old.ctx.now.parts.variables
  pub constructs : OnlyConstructs old.func.now new.func.now
  -- where a table is full the function has no more than the calls made themselves and the construction pays for
  pub within : (calls : List AnsweredCall) → AgreesWithLedger calls old → answer ≡ Err Full
      → IsWithinCalls calls (length old.ctx.now.parts.variables) (length old.func.now.blocks) new.func.now
