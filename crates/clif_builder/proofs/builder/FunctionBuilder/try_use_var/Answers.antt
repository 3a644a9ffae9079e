use Rattle.std.proofs.Common.{◌≡◌, ◌<◌, ℕ, List, length, refl, ap, sym, ◌∙◌}
use Rattle.std.specs.Prelude.{Option, None, Some, Err, false, is_some, slice_get, true}
use Rattle.std.proofs.lemmas.Option.{slice_get_within}
use Rattle.std.proofs.lemmas.Result.{err_from_is_err_and}
use Rattle.clif_types.specs.declared.types.«Type».{«Type»}
use Rattle.clif_simulation.proofs.Shape.CarriedStructure.{sealed_parameters}
use Rattle.clif_records.specs.Tables.{is_yes}
use Rattle.clif_ssa.specs.Ssa.{SsaState, sealed_of}
use Rattle.clif_builder.proofs.Calls.{failed_as}
use Rattle.clif_builder.proofs.GoingOn.{goes_as, goes_nowhere}
use Rattle.clif_builder.proofs.UsedAlike.{refused, refused_error, tried, tried_error}
use Rattle.clif_builder.proofs.builder.FunctionBuilder.try_use_var.Goals as goal

-- a variable that has a type is declared
declared : (types : List «Type») (variable : ℕ) → is_some (slice_get types variable) ≡ true → variable < length types
declared types variable typed = by (slice_get types variable) refl typed
  where
    by : (o : Option «Type») → slice_get types variable ≡ o → is_some o ≡ true → variable < length types
    by None at typed = let no_way : ⊥ = cc in absurd no_way
    by (Some ty) at typed = slice_get_within types variable ty at

undeclared : (o : Option «Type») → is_some o ≡ false → o ≡ None
undeclared None is = refl
undeclared (Some ty) is = let no_way : ⊥ = cc in absurd no_way

pub use_var-requires-clause-declared : goal.use_var-requires-clause-declared
use_var-requires-clause-declared g c = declared c.args.self.now.ctx.now.parts.variables c.args.variable (sym c.is_declared.ensures ∙ c.if-not-is_declared.false)

pub returns-in_err-value-clause-full_declared : goal.returns-in_err-value-clause-full_declared
returns-in_err-value-clause-full_declared g c = λ full. declared c.args.self.now.ctx.now.parts.variables c.args.variable (sym c.is_declared.ensures ∙ c.if-not-is_declared.false)

pub returns-clause-declared : goal.returns-clause-declared
returns-clause-declared g c = declared c.args.self.now.ctx.now.parts.variables c.args.variable (sym c.is_declared.ensures ∙ c.if-not-is_declared.false)

pub returns-in_err-ensure_inserted_block-clause-call : goal.returns-in_err-ensure_inserted_block-clause-call
returns-in_err-ensure_inserted_block-clause-call g c =
    let p = err_from_is_err_and c.from_residual.result c.from_residual.ensures.1 in
    failed_as c.args.self.now c.ensure_inserted_block.new.self c.ensure_inserted_block.result c.from_residual.result c.in_err-ensure_inserted_block.field-0.0 p.0
    c.in_err-ensure_inserted_block.was p.1 p.2 c.ensure_inserted_block.ensures.call

pub returns-in_err-ensure_inserted_block-clause-parameters : goal.returns-in_err-ensure_inserted_block-clause-parameters
returns-in_err-ensure_inserted_block-clause-parameters g c = λ signature calls stands. sealed_parameters calls _ _ stands.carries

pub returns-then-not-is_declared-clause-parameters : goal.returns-then-not-is_declared-clause-parameters
returns-then-not-is_declared-clause-parameters g c = λ signature calls stands. sealed_parameters calls _ _ stands.carries

pub returns-in_err-value-clause-call : goal.returns-in_err-value-clause-call
returns-in_err-value-clause-call g c =
    let p = err_from_is_err_and c.from_residual-in_err-value.result c.from_residual-in_err-value.ensures.1 in
    failed_as c.args.self.now c.use_var.new.self c.use_var.result c.from_residual-in_err-value.result c.in_err-value.field-0.0 p.0 c.in_err-value.was p.1 p.2 c.use_var.ensures.call

-- WHAT IS USED --------------------------------------------------------------------------------------------------------------

pub returns-in_err-ensure_inserted_block-clause-used : goal.returns-in_err-ensure_inserted_block-clause-used
returns-in_err-ensure_inserted_block-clause-used g c =
    let p = err_from_is_err_and c.from_residual.result c.from_residual.ensures.1 in
    let none : slice_get c.args.self.now.ctx.now.parts.variables c.args.variable ≡ None = undeclared _ (sym c.is_declared.ensures ∙ c.if-not-is_declared.true) in
    rw p.1
    (refused_error c.args.variable c.args.self.now c.ensure_inserted_block.new.self none c.ensure_inserted_block.ensures.variables p.0
    (λ full. c.ensure_inserted_block.ensures.never_full (c.in_err-ensure_inserted_block.was ∙ ap Err (sym p.2 ∙ full))))

pub returns-then-not-is_declared-clause-used : goal.returns-then-not-is_declared-clause-used
returns-then-not-is_declared-clause-used g c =
    let none : slice_get c.args.self.now.ctx.now.parts.variables c.args.variable ≡ None = undeclared _ (sym c.is_declared.ensures ∙ c.if-not-is_declared.true) in
    refused c.args.variable c.args.self.now c.ensure_inserted_block.new.self none c.ensure_inserted_block.ensures.variables _
    (λ b. ap (λ (s : SsaState). is_yes (sealed_of s b)) c.ensure_inserted_block.ensures.ssa) (λ calls agrees. c.in_ok-ensure_inserted_block.ensures.status)

pub returns-in_err-value-clause-used : goal.returns-in_err-value-clause-used
returns-in_err-value-clause-used g c =
    let p = err_from_is_err_and c.from_residual-in_err-value.result c.from_residual-in_err-value.ensures.1 in
    rw (p.1, p.2) (tried_error c.args.variable c.args.self.now c.use_var.new.self c.in_err-value.field-0.0 c.in_err-value.ensures.used)

pub returns-clause-used : goal.returns-clause-used
returns-clause-used g c = tried c.args.variable c.args.self.now c.use_var.new.self c.in_ok-value.value c.in_ok-value.ensures.used

-- WHAT GOES ON --------------------------------------------------------------------------------------------------------------

pub returns-clause-goes_on : goal.returns-clause-goes_on
returns-clause-goes_on g c = goes_as (λ x b. Unit {0}) c.args.self.now c.use_var.new.self c.in_ok-value.value _ c.in_ok-value.ensures.goes_on

pub returns-then-not-is_declared-clause-goes_on : goal.returns-then-not-is_declared-clause-goes_on
returns-then-not-is_declared-clause-goes_on g c = goes_as (λ x b. Unit {0}) c.args.self.now c.ensure_inserted_block.new.self tt _ c.in_ok-ensure_inserted_block.ensures.goes_on

pub returns-in_err-ensure_inserted_block-clause-goes_on : goal.returns-in_err-ensure_inserted_block-clause-goes_on
returns-in_err-ensure_inserted_block-clause-goes_on g c =
    let p = err_from_is_err_and c.from_residual.result c.from_residual.ensures.1 in
    rw p.1 (goes_nowhere (λ x b. Unit {0}) c.args.self.now c.ensure_inserted_block.new.self p.0)

pub returns-in_err-value-clause-goes_on : goal.returns-in_err-value-clause-goes_on
returns-in_err-value-clause-goes_on g c =
    let p = err_from_is_err_and c.from_residual-in_err-value.result c.from_residual-in_err-value.ensures.1 in
    rw p.1 (goes_nowhere (λ x b. Unit {0}) c.args.self.now c.use_var.new.self p.0)
