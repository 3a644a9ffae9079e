use Rattle.std.proofs.Common.{List, [], sym, ◌∙◌, ap, refl, subst}
use Rattle.std.proofs.lemmas.Result.{err_from_is_err_and}
use Rattle.clif_resolution.specs.declared.answers.Answer.TheVariants as answer
use Rattle.clif_replay.proofs.Making.{answered-sound, made-answer, made-misuse, made-refused}
use Rattle.std.specs.Prelude.{slice_get, slice_index_or, Some}
use Rattle.std.proofs.lemmas.Bool.{and_parts}
use Rattle.std.proofs.lemmas.Option.{slice_get_within}
use Rattle.clif_types.specs.declared.types.«Type».{«Type»}
use Rattle.clif_ir.specs.Body.{Body, value_at}
use Rattle.clif_meaning.specs.SameType.{same_type}
use Rattle.clif_meaning.proofs.SameTypes.{type_is}
use Rattle.clif_resolution.specs.Answers.{AnswerExists, value_of}
use Rattle.clif_resolution.specs.Conditions.{is_open}
use Rattle.clif_replay.proofs.ReadyLaws.{ready-more, value-found, value-exists, answers-exist}
use Rattle.clif_replay.proofs.Conditions
use Rattle.clif_replay.proofs.make.def_var.Goals as goal

pub value_named-requires : goal.value_named-requires
value_named-requires g c = λ i inside.
    subst (λ (f : Body). AnswerExists f (slice_index_or c.args.answers.now i answer.Nothing)) (sym c.func.ensures) (answers-exist c.requires.sound.calls c.args.builder.now c.args.answers.now c.requires.sound.ready i inside)

pub returns-in_default : goal.returns-in_default
returns-in_default g c = made-misuse c.args.builder.now c.args.answers.now (λ naming declared calls ready. Conditions.define-none calls c.args.builder.now c.args.answers.now ready c.args.variable c.args.name (ap (λ (f : Body). value_of f c.args.answers.now c.args.name) (sym c.func.ensures) ∙ sym c.value_named.ensures ∙ c.in_default.is))

pub returns-in_default-type_of : goal.returns-in_default-type_of
returns-in_default-type_of g c = made-misuse c.args.builder.now c.args.answers.now (λ naming declared calls ready. Conditions.define-undeclared calls c.args.builder.now c.args.answers.now ready c.args.variable (naming c.args.name) (ap (λ (types : List «Type»). slice_get types c.args.variable) (sym c.requires.types) ∙ sym c.type_of.ensures ∙ c.in_default-type_of.is))

pub may_define-requires : goal.may_define-requires
may_define-requires g c = value-exists c.requires.sound.calls c.args.builder.now c.args.answers.now c.requires.sound.ready c.args.name c.in-Some.value (ap (λ (f : Body). value_of f c.args.answers.now c.args.name) (sym c.func.ensures) ∙ sym c.value_named.ensures ∙ c.in-Some.is)

pub define_fault-requires : goal.define_fault-requires
define_fault-requires g c = value-exists c.requires.sound.calls c.args.builder.now c.args.answers.now c.requires.sound.ready c.args.name c.in-Some.value (ap (λ (f : Body). value_of f c.args.answers.now c.args.name) (sym c.func.ensures) ∙ sym c.value_named.ensures ∙ c.in-Some.is)

pub returns-then-not-may_define : goal.returns-then-not-may_define
returns-then-not-may_define g c = made-misuse c.args.builder.now c.args.answers.now (λ naming declared calls ready. Conditions.define-some calls c.args.builder.now c.args.answers.now ready c.args.variable c.args.name c.in-Some.value c.in-Some-type_of.ty (ap (λ (f : Body). value_of f c.args.answers.now c.args.name) (sym c.func.ensures) ∙ sym c.value_named.ensures ∙ c.in-Some.is) (ap (λ (types : List «Type»). slice_get types c.args.variable) (sym c.requires.types) ∙ sym c.type_of.ensures ∙ c.in-Some-type_of.is) ∙ sym c.may_define.ensures ∙ c.if-not-may_define.true)

pub def_var-requires-clause-current : goal.def_var-requires-clause-current
def_var-requires-clause-current g c = Conditions.has-current c.requires.sound.calls c.args.builder.now c.args.answers.now c.requires.sound.ready (and_parts _ _ (sym c.may_define.ensures ∙ c.if-not-may_define.false)).0

pub def_var-requires-clause-declared : goal.def_var-requires-clause-declared
def_var-requires-clause-declared g c = slice_get_within c.args.builder.now.ctx.now.parts.variables c.args.variable c.in-Some-type_of.ty (ap (λ (types : List «Type»). slice_get types c.args.variable) (sym c.requires.types) ∙ sym c.type_of.ensures ∙ c.in-Some-type_of.is)

pub def_var-requires-clause-value_exists : goal.def_var-requires-clause-value_exists
def_var-requires-clause-value_exists g c = value-exists c.requires.sound.calls c.args.builder.now c.args.answers.now c.requires.sound.ready c.args.name c.in-Some.value (ap (λ (f : Body). value_of f c.args.answers.now c.args.name) (sym c.func.ensures) ∙ sym c.value_named.ensures ∙ c.in-Some.is)

pub def_var-requires-clause-same_type : goal.def_var-requires-clause-same_type
def_var-requires-clause-same_type g c =
    let same = (and_parts (is_open c.args.builder.now) (same_type c.in-Some-type_of.ty (value_at c.args.builder.now.func.now c.in-Some.value).ty) (sym c.may_define.ensures ∙ c.if-not-may_define.false)).1 in
    (ap (λ (types : List «Type»). slice_get types c.args.variable) (sym c.requires.types) ∙ sym c.type_of.ensures ∙ c.in-Some-type_of.is) ∙ ap Some (type_is c.in-Some-type_of.ty (value_at c.args.builder.now.func.now c.in-Some.value).ty same)

pub returns-in_err-def_var : goal.returns-in_err-def_var
returns-in_err-def_var g c =
    let done = c.def_var.ensures in
    let p = err_from_is_err_and c.from_residual.result c.from_residual.ensures.1 in
    made-refused c.args.builder.now c.def_var.new.self c.args.answers.now c.def_var.result c.in_err-def_var.field-0.0 p.0 c.from_residual.result c.in_err-def_var.was p.1 p.2 done.call.loans c.requires.sound.sound done.call.failed
    (λ naming declared calls ready. Conditions.define-some calls c.args.builder.now c.args.answers.now ready c.args.variable c.args.name c.in-Some.value c.in-Some-type_of.ty (ap (λ (f : Body). value_of f c.args.answers.now c.args.name) (sym c.func.ensures) ∙ sym c.value_named.ensures ∙ c.in-Some.is) (ap (λ (types : List «Type»). slice_get types c.args.variable) (sym c.requires.types) ∙ sym c.type_of.ensures ∙ c.in-Some-type_of.is) ∙ sym c.may_define.ensures ∙ c.if-not-may_define.false) done.never_full

pub returns : goal.returns
returns g c =
    let done = c.in_ok-def_var.ensures in
    made-answer c.args.builder.now c.def_var.new.self c.args.answers.now answer.Nothing c.def_var.ensures.call.loans done.goes_on.grows.3
    (answered-sound _ c.def_var.result _ c.def_var.ensures.call.fails c.in_ok-def_var.was) c.def_var.ensures.variables
    (λ naming declared calls ready. Conditions.define-some calls c.args.builder.now c.args.answers.now ready c.args.variable c.args.name c.in-Some.value c.in-Some-type_of.ty (ap (λ (f : Body). value_of f c.args.answers.now c.args.name) (sym c.func.ensures) ∙ sym c.value_named.ensures ∙ c.in-Some.is) (ap (λ (types : List «Type»). slice_get types c.args.variable) (sym c.requires.types) ∙ sym c.type_of.ensures ∙ c.in-Some-type_of.is) ∙ sym c.may_define.ensures ∙ c.if-not-may_define.false)
    (λ naming declared calls ready.
    let names = value-found calls c.args.builder.now c.args.answers.now ready c.args.name c.in-Some.value (ap (λ (f : Body). value_of f c.args.answers.now c.args.name) (sym c.func.ensures) ∙ sym c.value_named.ensures ∙ c.in-Some.is) in
    ([], ready-more calls _ c.args.builder.now c.def_var.new.self _ answer.Nothing ready tt (done.goes_on.grows.6, done.goes_on.grows.8) ((done.told (naming c.args.name)).stands declared calls ready.stands names) (refl, refl)))
