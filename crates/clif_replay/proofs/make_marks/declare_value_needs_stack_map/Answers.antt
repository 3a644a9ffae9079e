use Rattle.std.proofs.Common.{[], sym, ◌∙◌, ap, refl, subst}
use Rattle.std.specs.Prelude.{slice_index_or}
use Rattle.std.proofs.lemmas.Result.{err_from_is_err_and}
use Rattle.clif_ir.specs.Body.{Body}
use Rattle.clif_builder.specs.Context.{ContextState}
use Rattle.clif_resolution.specs.declared.answers.Answer.TheVariants as answer
use Rattle.clif_resolution.specs.Answers.{AnswerExists, value_of}
use Rattle.clif_replay.proofs.Making.{answered-sound, made-answer, made-misuse, made-refused}
use Rattle.clif_replay.proofs.Marks.{record-fits, record-none, record-some}
use Rattle.clif_replay.proofs.ReadyLaws.{answers-exist, ready-more, value-exists, value-found}
use Rattle.clif_replay.proofs.make_marks.declare_value_needs_stack_map.Goals as goal

pub value_named-requires : goal.value_named-requires
value_named-requires g c = λ i inside.
    subst (λ (f : Body). AnswerExists f (slice_index_or c.args.answers.now i answer.Nothing)) (sym c.func.ensures) (answers-exist c.requires.calls c.args.builder.now c.args.answers.now c.requires.ready i inside)

pub returns-in_default : goal.returns-in_default
returns-in_default g c =
    made-misuse c.args.builder.now c.args.answers.now (λ naming declared calls ready. record-none calls c.args.builder.now c.args.answers.now ready c.args.name
    (ap (λ (f : Body). value_of f c.args.answers.now c.args.name) (sym c.func.ensures) ∙ sym c.value_named.ensures ∙ c.in_default.is))

pub may_record-requires : goal.may_record-requires
may_record-requires g c =
    value-exists c.requires.calls c.args.builder.now c.args.answers.now c.requires.ready c.args.name c.in-Some.value
    (ap (λ (f : Body). value_of f c.args.answers.now c.args.name) (sym c.func.ensures) ∙ sym c.value_named.ensures ∙ c.in-Some.is)

pub record_fault-requires : goal.record_fault-requires
record_fault-requires g c =
    value-exists c.requires.calls c.args.builder.now c.args.answers.now c.requires.ready c.args.name c.in-Some.value
    (ap (λ (f : Body). value_of f c.args.answers.now c.args.name) (sym c.func.ensures) ∙ sym c.value_named.ensures ∙ c.in-Some.is)

pub returns-then-not-may_record : goal.returns-then-not-may_record
returns-then-not-may_record g c =
    made-misuse c.args.builder.now c.args.answers.now (λ naming declared calls ready. record-some calls c.args.builder.now c.args.answers.now ready c.args.name c.in-Some.value
    (ap (λ (f : Body). value_of f c.args.answers.now c.args.name) (sym c.func.ensures) ∙ sym c.value_named.ensures ∙ c.in-Some.is)
    ∙ sym c.may_record.ensures ∙ c.if-not-may_record.true)

pub declare_value_needs_stack_map-requires : goal.declare_value_needs_stack_map-requires
declare_value_needs_stack_map-requires g c =
    record-fits c.requires.calls c.args.builder.now c.args.answers.now c.requires.ready c.args.name c.in-Some.value
    (ap (λ (f : Body). value_of f c.args.answers.now c.args.name) (sym c.func.ensures) ∙ sym c.value_named.ensures ∙ c.in-Some.is)
    (sym c.may_record.ensures ∙ c.if-not-may_record.false)

pub returns-in_err-declare_value_needs_stack_map : goal.returns-in_err-declare_value_needs_stack_map
returns-in_err-declare_value_needs_stack_map g c =
    let old = c.args.builder.now in
    let done = c.declare_value_needs_stack_map.ensures in
    let p = err_from_is_err_and c.from_residual.result c.from_residual.ensures.1 in
    made-refused old c.declare_value_needs_stack_map.new.self c.args.answers.now c.declare_value_needs_stack_map.result c.in_err-declare_value_needs_stack_map.field-0.0 p.0
    c.from_residual.result c.in_err-declare_value_needs_stack_map.was p.1 p.2 done.records.call.loans c.requires.sound done.records.call.failed
    (λ naming declared calls ready. record-some calls old c.args.answers.now ready c.args.name c.in-Some.value
    (ap (λ (f : Body). value_of f c.args.answers.now c.args.name) (sym c.func.ensures) ∙ sym c.value_named.ensures ∙ c.in-Some.is)
    ∙ sym c.may_record.ensures ∙ c.if-not-may_record.false)
    done.records.never_full

pub returns : goal.returns
returns g c =
    let old = c.args.builder.now in
    let new = c.declare_value_needs_stack_map.new.self in
    let done = c.in_ok-declare_value_needs_stack_map.ensures in
    let found = ap (λ (f : Body). value_of f c.args.answers.now c.args.name) (sym c.func.ensures) ∙ sym c.value_named.ensures ∙ c.in-Some.is in
    made-answer old new c.args.answers.now answer.Nothing c.declare_value_needs_stack_map.ensures.records.call.loans done.records.grows.3
    (answered-sound _ c.declare_value_needs_stack_map.result _ c.declare_value_needs_stack_map.ensures.records.call.fails c.in_ok-declare_value_needs_stack_map.was)
    (ap (λ (x : ContextState). x.variables) done.records.context)
    (λ naming declared calls ready. record-some calls old c.args.answers.now ready c.args.name c.in-Some.value found ∙ sym c.may_record.ensures ∙ c.if-not-may_record.false)
    (λ naming declared calls ready.
    let names = value-found calls old c.args.answers.now ready c.args.name c.in-Some.value found in
    ([], ready-more calls _ old new _ answer.Nothing ready tt (done.records.grows.6, done.records.grows.8) ((done.told (naming c.args.name)).stands declared calls ready.stands names) (refl, refl)))
