-- What holds of each call of the builder, whatever it makes. Source: own, after the crate's documentation of
-- `FunctionBuilder`.
use Rattle.std.specs.Prelude.{◌≡◌, ◌↔◌, ℕ, List, [], ◌∷◌, ◌++◌, length, is_err, IsTrue, Result, Err, IfOk, OnOk}
use Rattle.clif_types.specs.declared.error.BuildError.{BuildError}
use Rattle.clif_types.specs.declared.error.BuildError.TheVariants.{Failed}
use Rattle.clif_types.specs.declared.types.«Type».{«Type»}
use Rattle.clif_types.specs.Signature.{SignatureShape}
use Rattle.clif_tables.specs.Callees.{types_of}
use Rattle.clif_meaning.specs.Name.{Name}
use Rattle.clif_meaning.specs.Request.{AnsweredCall, AppendBlockParams, AppendFunctionParams, Request}
use Rattle.clif_simulation.specs.Carries.{numbers_from}
use Rattle.clif_ssa.specs.Structure.{LooksOnce}
use Rattle.clif_builder.specs.declared.builder.FunctionBuilder.{FunctionBuilder}
use Rattle.clif_builder.specs.Builder.{IsLeft, SameLoans, is_free}
use Rattle.clif_builder.specs.Context.{FillsNone}
use Rattle.clif_builder.specs.Growth.{TypesStay}
use Rattle.clif_builder.specs.Ledger.{AgreesWithLedger}
use Rattle.clif_builder.specs.StandsFor.{StandsFor}

-- a call, answered by these numbers
abbrev pub answered : Request → List ℕ → AnsweredCall
answered request numbers = record { request = request; numbers = numbers }

-- A call that may fail: the builder keeps its function, its context, its current block and its source place. A builder that failed answers
-- `Failed` and stays as it is, and a call that fails leaves one that failed. Whatever it answers, at most one look-up of a
-- variable began in the predecessors of a block, if that was so before. A call that succeeds changes no value's type and
-- appends no terminator.
pub record IsCall {A : Type 0} {R : Type 0} (old new : FunctionBuilder R) (answer : Result A BuildError) : Type 0 where
  pub loans : SameLoans old new
  pub position : new.position ≡ old.position
  pub srcloc : new.srcloc ≡ old.srcloc
  pub failed : (answer ≡ Err Failed) ↔ IsTrue old.failed
  pub unchanged : IsTrue old.failed → new ≡ old
  pub fails : new.failed ≡ is_err answer
  pub looks_once : LooksOnce old.ctx.now.parts.ssa → LooksOnce new.ctx.now.parts.ssa
  pub types : OnOk answer (TypesStay old.func.now new.func.now)
  pub fills : OnOk answer (FillsNone old.ctx.now.parts new.ctx.now.parts)
  -- a current block that has its terminator keeps it, so that it may be left
  pub left : IsLeft old → OnOk answer (IsLeft new)
  pub free : IsLeft old → OnOk answer (IsTrue (is_free new))

-- Where the builder stood for a list of calls, and where names in it are as the call means them, the builder stands for
-- the list with the call, by its answer. The ledger agrees even where the builder doesn't stand for the list.
pub record IsTold {A E : Type 0} {R : Type 0} (old new : FunctionBuilder R) (answer : Result A E)
    (names : List AnsweredCall → Type 0) (call : A → AnsweredCall) : Type 0 where
  pub ledger : (calls : List AnsweredCall)
      → AgreesWithLedger calls old → names calls → IfOk answer (λ a. AgreesWithLedger (calls ++ call a ∷ []) new)
  pub stands : (signature : SignatureShape) (calls : List AnsweredCall)
      → StandsFor signature calls old → names calls → IfOk answer (λ a. StandsFor signature (calls ++ call a ∷ []) new)

-- the parameters of the function were put behind those of a block, and have the next numbers of values
abbrev pub appended_params : {R : Type 0} → FunctionBuilder R → Name → AnsweredCall
appended_params b name =
    let types : List «Type» = types_of b.func.now.signature.params in
    answered (AppendFunctionParams name types) (numbers_from (length b.func.now.values) types)

-- the same of what the function returns
abbrev pub appended_returns : {R : Type 0} → FunctionBuilder R → Name → AnsweredCall
appended_returns b name =
    let types : List «Type» = types_of b.func.now.signature.returns in
    answered (AppendBlockParams name types) (numbers_from (length b.func.now.values) types)
