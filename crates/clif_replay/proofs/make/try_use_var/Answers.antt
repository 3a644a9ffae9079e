use Rattle.std.proofs.Common.{◌<◌, ◌++◌, [], ◌∷◌, length, sym, ◌∙◌, refl, subst}
use Rattle.std.specs.Prelude.{IfErr, OnOk}
use Rattle.std.proofs.lemmas.Result.{err_from_is_err_and}
use Rattle.clif_meaning.specs.Request.{UseVar}
use Rattle.clif_meaning.specs.Ledger.{or_invalid, variable_type}
use Rattle.clif_builder.specs.Attempts.{RefusesUse, use_told}
use Rattle.clif_builder.specs.Ledger.{ledger_of}
use Rattle.clif_builder.specs.StandsFor.{StandsFor}
use Rattle.clif_resolution.specs.declared.answers.Answer.{Answer}
use Rattle.clif_resolution.specs.declared.answers.Answer.TheVariants as answer
use Rattle.clif_replay.specs.Ready.{IsReadyAfter}
use Rattle.clif_replay.proofs.Making.{answered-sound, made-answer, made-denied, made-failed, made-refusal, use-met}
use Rattle.clif_replay.proofs.ReadyLaws.{ready-more}
use Rattle.clif_replay.proofs.Conditions
use Rattle.clif_replay.proofs.make.try_use_var.Goals as goal

pub returns-then-not-has_current : goal.returns-then-not-has_current
returns-then-not-has_current g c =
    made-denied c.args.builder.now c.args.answers.now (λ naming declared calls ready. Conditions.try-use-closed calls c.args.builder.now c.args.answers.now ready c.args.variable (sym c.has_current.ensures ∙ c.if-not-has_current.true))

pub try_use_var-requires : goal.try_use_var-requires
try_use_var-requires g c = record { current = Conditions.has-current c.requires.calls c.args.builder.now c.args.answers.now c.requires.ready (sym c.has_current.ensures ∙ c.if-not-has_current.false) }

pub returns-in_err-value : goal.returns-in_err-value
returns-in_err-value g c =
    let done = c.try_use_var.ensures in
    let p = err_from_is_err_and c.from_residual.result c.from_residual.ensures.1 in
    let here = sym c.has_current.ensures ∙ c.if-not-has_current.false in
    made-failed c.args.builder.now c.try_use_var.new.self c.args.answers.now c.try_use_var.result c.in_err-value.field-0.0 p.0 c.from_residual.result c.in_err-value.was p.1 p.2 done.call.loans c.requires.sound done.call.failed
    (λ full naming declared calls ready. Conditions.use-declared calls c.args.builder.now c.args.answers.now ready c.args.variable here (done.full_declared full))
    (λ full. use-met c.args.builder.now c.try_use_var.new.self.func.now c.try_use_var.result c.args.variable (done.full_declared full) (Conditions.has-current c.requires.calls c.args.builder.now c.args.answers.now c.requires.ready here) done.used.constructs full done.used.full (λ calls agrees. done.used.within calls agrees full))

pub returns-in-Ok : goal.returns-in-Ok
returns-in-Ok g c =
    let done = c.in_ok-value.ensures in
    let here = sym c.has_current.ensures ∙ c.if-not-has_current.false in
    made-answer c.args.builder.now c.try_use_var.new.self c.args.answers.now c.one_value.result c.try_use_var.ensures.call.loans done.goes_on.grows.3
    (answered-sound _ c.try_use_var.result _ c.try_use_var.ensures.call.fails c.in_ok-value.was) c.try_use_var.ensures.used.variables
    (λ naming declared calls ready. Conditions.use-declared calls c.args.builder.now c.args.answers.now ready c.args.variable here
    (subst (λ told. OnOk told (c.args.variable < length c.args.builder.now.ctx.now.parts.variables)) c.in-Ok.is done.declared))
    (λ naming declared calls ready.
    let value = c.in-Ok.value in
    let stands = subst (λ told. StandsFor declared (calls ++ use_told c.args.variable told ∷ []) c.try_use_var.new.self) c.in-Ok.is (done.told.stands declared calls ready.stands tt) in
    subst (λ (a : Answer). IsReadyAfter naming declared calls (UseVar c.args.variable) c.try_use_var.new.self c.args.answers.now a) (sym c.one_value.ensures)
    (value ∷ [], ready-more calls _ c.args.builder.now c.try_use_var.new.self _ (answer.Values value 1) ready tt (done.goes_on.grows.6, done.goes_on.grows.8) stands (or_invalid (variable_type (ledger_of calls) c.args.variable) ∷ [], refl, refl, refl)))

pub returns-in-Err : goal.returns-in-Err
returns-in-Err g c =
    let done = c.in_ok-value.ensures in
    let here = sym c.has_current.ensures ∙ c.if-not-has_current.false in
    let refused = subst (λ told. IfErr told (RefusesUse c.args.builder.now c.try_use_var.new.self c.args.variable)) c.in-Err.is done.refused in
    made-refusal c.args.builder.now c.try_use_var.new.self c.args.answers.now c.try_use_var.ensures.call.loans
    (λ naming declared calls ready. Conditions.try-use-undeclared calls c.args.builder.now c.args.answers.now ready c.args.variable here refused.undeclared)
