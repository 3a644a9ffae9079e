use Rattle.std.proofs.Common.{ℕ, [], ◌∷◌, sym, ◌∙◌, ap, refl}
use Rattle.std.proofs.lemmas.Result.{err_from_is_err_and}
use Rattle.clif_resolution.specs.declared.answers.Answer.TheVariants as answer
use Rattle.clif_replay.proofs.Making.{answered-sound, made-answer, made-misuse, made-refused}
use Rattle.std.specs.Prelude.{◌≡◌, length}
use Rattle.clif_meaning.specs.Ledger.{AVariable}
use Rattle.clif_builder.specs.Ledger.{ledger_of}
use Rattle.clif_builder.specs.Context.{ContextState}
use Rattle.clif_replay.proofs.ReadyLaws.{read, ready-more}
use Rattle.clif_replay.proofs.make.declare_var.Goals as goal

pub returns-then-not-is_valid : goal.returns-then-not-is_valid
returns-then-not-is_valid g c = made-misuse c.args.builder.now c.args.answers.now (λ naming declared calls ready. sym c.is_valid.ensures ∙ c.if-not-is_valid.true)

pub returns-in_err-variable : goal.returns-in_err-variable
returns-in_err-variable g c =
    let done = c.declare_var.ensures in
    let p = err_from_is_err_and c.from_residual.result c.from_residual.ensures.1 in
    made-refused c.args.builder.now c.declare_var.new.self c.args.answers.now c.declare_var.result c.in_err-variable.field-0.0 p.0 c.from_residual.result c.in_err-variable.was p.1 p.2 done.call.loans c.requires.sound done.call.failed
    (λ naming declared calls ready. sym c.is_valid.ensures ∙ c.if-not-is_valid.false) done.full

pub returns : goal.returns
returns g c =
    let done = c.in_ok-variable.ensures in
    made-answer c.args.builder.now c.declare_var.new.self c.args.answers.now (answer.Variable c.in_ok-variable.variable) c.declare_var.ensures.call.loans done.goes_on.grows.3
    (answered-sound _ c.declare_var.result _ c.declare_var.ensures.call.fails c.in_ok-variable.was) (ap (λ (x : ContextState). x.variables) done.variables)
    (λ naming declared calls ready. sym c.is_valid.ensures ∙ c.if-not-is_valid.false)
    (λ naming declared calls ready.
    let number : length (ledger_of calls).variables ≡ c.in_ok-variable.variable = (read calls c.args.builder.now c.args.answers.now ready).variable_count ∙ sym done.number in
    (c.in_ok-variable.variable ∷ [], ready-more calls _ c.args.builder.now c.declare_var.new.self _ (answer.Variable c.in_ok-variable.variable) ready tt (done.goes_on.grows.6, done.goes_on.grows.8) (done.told.stands declared calls ready.stands tt) (ap (λ (n : ℕ). AVariable n ∷ []) number, refl)))
