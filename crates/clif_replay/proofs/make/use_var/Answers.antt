use Rattle.std.proofs.Common.{List, [], ◌∷◌, sym, ◌∙◌, ap, refl, subst}
use Rattle.std.proofs.lemmas.Result.{err_from_is_err_and}
use Rattle.clif_resolution.specs.declared.answers.Answer.TheVariants as answer
use Rattle.clif_replay.proofs.Making.{answered-sound, made-answer, made-misuse, made-refused, use-met}
use Rattle.std.proofs.lemmas.Bool.{and_parts}
use Rattle.clif_types.specs.declared.types.«Type».{«Type»}
use Rattle.clif_meaning.specs.Request.{UseVar}
use Rattle.clif_meaning.specs.Ledger.{or_invalid, variable_type}
use Rattle.clif_builder.specs.Ledger.{ledger_of}
use Rattle.clif_resolution.specs.declared.answers.Answer.{Answer}
use Rattle.clif_replay.specs.Ready.{IsReadyAfter, can_use}
use Rattle.clif_replay.proofs.ReadyLaws.{ready-more}
use Rattle.clif_replay.proofs.Conditions
use Rattle.clif_replay.proofs.make.use_var.Goals as goal

pub returns-then-not-may_use : goal.returns-then-not-may_use
returns-then-not-may_use g c = made-misuse c.args.builder.now c.args.answers.now (λ naming declared calls ready. Conditions.use-same calls c.args.builder.now c.args.answers.now ready c.args.variable ∙ ap (λ (types : List «Type»). can_use c.args.builder.now types c.args.variable) (sym c.requires.types) ∙ sym c.may_use.ensures ∙ c.if-not-may_use.true)

pub use_var-requires-clause-current : goal.use_var-requires-clause-current
use_var-requires-clause-current g c = Conditions.has-current c.requires.sound.calls c.args.builder.now c.args.answers.now c.requires.sound.ready (and_parts _ _ (sym c.may_use.ensures ∙ c.if-not-may_use.false)).0

pub use_var-requires-clause-declared : goal.use_var-requires-clause-declared
use_var-requires-clause-declared g c = Conditions.declared-there c.args.builder.now c.args.types.now c.args.builder.now.ctx.now.parts.variables c.args.variable c.requires.types (sym c.may_use.ensures ∙ c.if-not-may_use.false)

pub returns-in_err-value : goal.returns-in_err-value
returns-in_err-value g c =
    let done = c.use_var.ensures in
    let p = err_from_is_err_and c.from_residual.result c.from_residual.ensures.1 in
    made-refused c.args.builder.now c.use_var.new.self c.args.answers.now c.use_var.result c.in_err-value.field-0.0 p.0 c.from_residual.result c.in_err-value.was p.1 p.2 done.call.loans c.requires.sound.sound done.call.failed
    (λ naming declared calls ready. Conditions.use-same calls c.args.builder.now c.args.answers.now ready c.args.variable ∙ ap (λ (types : List «Type»). can_use c.args.builder.now types c.args.variable) (sym c.requires.types) ∙ sym c.may_use.ensures ∙ c.if-not-may_use.false) (λ full. use-met c.args.builder.now c.use_var.new.self.func.now c.use_var.result c.args.variable (Conditions.declared-there c.args.builder.now c.args.types.now c.args.builder.now.ctx.now.parts.variables c.args.variable c.requires.types (sym c.may_use.ensures ∙ c.if-not-may_use.false)) (Conditions.has-current c.requires.sound.calls c.args.builder.now c.args.answers.now c.requires.sound.ready (and_parts _ _ (sym c.may_use.ensures ∙ c.if-not-may_use.false)).0) done.used.constructs full done.used.full (λ calls agrees. done.used.within calls agrees full))

pub returns : goal.returns
returns g c =
    let done = c.in_ok-value.ensures in
    made-answer c.args.builder.now c.use_var.new.self c.args.answers.now c.one_value.result c.use_var.ensures.call.loans done.goes_on.grows.3
    (answered-sound _ c.use_var.result _ c.use_var.ensures.call.fails c.in_ok-value.was) c.use_var.ensures.used.variables
    (λ naming declared calls ready. Conditions.use-same calls c.args.builder.now c.args.answers.now ready c.args.variable ∙ ap (λ (types : List «Type»). can_use c.args.builder.now types c.args.variable) (sym c.requires.types) ∙ sym c.may_use.ensures ∙ c.if-not-may_use.false)
    (λ naming declared calls ready.
    let value = c.in_ok-value.value in
    subst (λ (a : Answer). IsReadyAfter naming declared calls (UseVar c.args.variable) c.use_var.new.self c.args.answers.now a) (sym c.one_value.ensures)
    (value ∷ [], ready-more calls _ c.args.builder.now c.use_var.new.self _ (answer.Values value 1) ready tt (done.goes_on.grows.6, done.goes_on.grows.8) (done.told.stands declared calls ready.stands tt) (or_invalid (variable_type (ledger_of calls) c.args.variable) ∷ [], refl, refl, refl)))
