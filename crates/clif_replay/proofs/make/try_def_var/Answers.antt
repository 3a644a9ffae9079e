use Rattle.std.proofs.Common.{◌≡◌, ◌<◌, [], length, sym, ◌∙◌, ap, refl, subst}
use Rattle.std.specs.Prelude.{IfErr, OnOk, slice_get, slice_index_or, Some}
use Rattle.clif_ir.specs.Body.{Body, value_at}
use Rattle.clif_meaning.specs.Request.{DefVar}
use Rattle.clif_builder.specs.Attempts.{RefusesAssignment}
use Rattle.clif_builder.specs.Calls.{IsTold, answered}
use Rattle.clif_builder.specs.Ledger.{NamesValue}
use Rattle.clif_resolution.specs.declared.answers.Answer.TheVariants as answer
use Rattle.clif_resolution.specs.Answers.{AnswerExists, value_of}
use Rattle.clif_replay.proofs.Making.{answered-sound, made-answer, made-denied, made-refusal}
use Rattle.clif_replay.proofs.ReadyLaws.{answers-exist, ready-more, value-exists, value-found}
use Rattle.clif_replay.proofs.Conditions
use Rattle.clif_replay.proofs.make.try_def_var.Goals as goal

pub value_named-requires : goal.value_named-requires
value_named-requires g c = λ i inside.
    subst (λ (f : Body). AnswerExists f (slice_index_or c.args.answers.now i answer.Nothing)) (sym c.func.ensures) (answers-exist c.requires.calls c.args.builder.now c.args.answers.now c.requires.ready i inside)

pub returns-in_default : goal.returns-in_default
returns-in_default g c =
    made-denied c.args.builder.now c.args.answers.now (λ naming declared calls ready. Conditions.try-define-none calls c.args.builder.now c.args.answers.now ready c.args.variable c.args.name
    (ap (λ (f : Body). value_of f c.args.answers.now c.args.name) (sym c.func.ensures) ∙ sym c.value_named.ensures ∙ c.in_default.is))

pub returns-then-not-has_current : goal.returns-then-not-has_current
returns-then-not-has_current g c =
    made-denied c.args.builder.now c.args.answers.now (λ naming declared calls ready. Conditions.try-define-closed calls c.args.builder.now c.args.answers.now ready c.args.variable c.args.name (sym c.has_current.ensures ∙ c.if-not-has_current.true))

pub value_type-found-requires : goal.value_type-found-requires
value_type-found-requires g c =
    subst (λ (f : Body). c.in-Some.value < length f.values) (sym c.func-2.ensures)
    (value-exists c.requires.calls c.args.builder.now c.args.answers.now c.requires.ready c.args.name c.in-Some.value
    (ap (λ (f : Body). value_of f c.args.answers.now c.args.name) (sym c.func.ensures) ∙ sym c.value_named.ensures ∙ c.in-Some.is))

pub try_def_var-requires-clause-current : goal.try_def_var-requires-clause-current
try_def_var-requires-clause-current g c = Conditions.has-current c.requires.calls c.args.builder.now c.args.answers.now c.requires.ready (sym c.has_current.ensures ∙ c.if-not-has_current.false)

pub try_def_var-requires-clause-value_exists : goal.try_def_var-requires-clause-value_exists
try_def_var-requires-clause-value_exists g c =
    value-exists c.requires.calls c.args.builder.now c.args.answers.now c.requires.ready c.args.name c.in-Some.value
    (ap (λ (f : Body). value_of f c.args.answers.now c.args.name) (sym c.func.ensures) ∙ sym c.value_named.ensures ∙ c.in-Some.is)

pub returns-in-Ok : goal.returns-in-Ok
returns-in-Ok g c =
    let done = c.in_ok-try_def_var.ensures in
    let value = c.in-Some.value in
    let here = sym c.has_current.ensures ∙ c.if-not-has_current.false in
    let found = ap (λ (f : Body). value_of f c.args.answers.now c.args.name) (sym c.func.ensures) ∙ sym c.value_named.ensures ∙ c.in-Some.is in
    let typed = subst (λ told. OnOk told (slice_get c.args.builder.now.ctx.now.parts.variables c.args.variable ≡ Some (value_at c.args.builder.now.func.now value).ty)) c.in-Ok.is done.same_type in
    made-answer c.args.builder.now c.try_def_var.new.self c.args.answers.now answer.Nothing c.try_def_var.ensures.call.loans done.goes_on.grows.3
    (answered-sound _ c.try_def_var.result _ c.try_def_var.ensures.call.fails c.in_ok-try_def_var.was) c.try_def_var.ensures.variables
    (λ naming declared calls ready. Conditions.define-typed calls c.args.builder.now c.args.answers.now ready c.args.variable c.args.name value here found typed)
    (λ naming declared calls ready.
    let told = subst (λ told. IsTold c.args.builder.now c.try_def_var.new.self told (λ calls. NamesValue calls (naming c.args.name) value) (λ _. answered (DefVar c.args.variable (naming c.args.name)) [])) c.in-Ok.is (done.told (naming c.args.name)) in (
      [],
      ready-more calls _ c.args.builder.now c.try_def_var.new.self _ answer.Nothing ready tt (done.goes_on.grows.6, done.goes_on.grows.8)
          (told.stands declared calls ready.stands (value-found calls c.args.builder.now c.args.answers.now ready c.args.name value found)) (refl, refl),
    ))

pub returns-in-Err : goal.returns-in-Err
returns-in-Err g c =
    let done = c.in_ok-try_def_var.ensures in
    let value = c.in-Some.value in
    let here = sym c.has_current.ensures ∙ c.if-not-has_current.false in
    let found = ap (λ (f : Body). value_of f c.args.answers.now c.args.name) (sym c.func.ensures) ∙ sym c.value_named.ensures ∙ c.in-Some.is in
    let refused = subst (λ told. IfErr told (RefusesAssignment c.args.builder.now c.try_def_var.new.self c.args.variable value)) c.in-Err.is done.refused in
    made-refusal c.args.builder.now c.try_def_var.new.self c.args.answers.now c.try_def_var.ensures.call.loans
    (λ naming declared calls ready. Conditions.try-define-mistyped calls c.args.builder.now c.args.answers.now ready c.args.variable c.args.name value here found refused.0.mistyped)
