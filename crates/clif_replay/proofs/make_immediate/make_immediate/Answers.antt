use Rattle.std.proofs.Common.{sym, ◌∙◌, ap, subst}
use Rattle.std.specs.Prelude.{Ok, Result, slice_index_or}
use Rattle.std.proofs.lemmas.Bool.{and_parts}
use Rattle.std.proofs.lemmas.Result.{err_from_is_err_and}
use Rattle.std.specs.Prelude.{ℕ}
use Rattle.clif_types.specs.declared.error.BuildError.{BuildError}
use Rattle.clif_ir.specs.Body.{Body}
use Rattle.clif_resolution.specs.Answers.{AnswerExists, value_of}
use Rattle.clif_resolution.specs.declared.answers.Answer.{Answer}
use Rattle.clif_resolution.specs.declared.answers.Answer.TheVariants as answer
use Rattle.clif_replay.specs.Emits.{BuildsEmission, MakesEmission}
use Rattle.clif_replay.specs.Requests.{operand_in}
use Rattle.clif_replay.proofs.Chains.{emission-failed, emission-made}
use Rattle.clif_replay.proofs.Conditions.{has-current}
use Rattle.clif_replay.proofs.Emissions.{emission-answered, emission-misused, emission-refused, none-judged, some-allowed, some-denied}
use Rattle.clif_replay.proofs.Emitted.{emission-ready}
use Rattle.clif_replay.proofs.ReadyLaws.{answers-exist, value-exists}
use Rattle.clif_replay.proofs.make_immediate.make_immediate.Goals as goal

pub value_named-requires : goal.value_named-requires
value_named-requires g c = λ i inside.
    subst (λ (f : Body). AnswerExists f (slice_index_or c.args.answers.now i answer.Nothing)) (sym c.func.ensures)
    (answers-exist c.requires.calls c.args.builder.now c.args.answers.now c.requires.ready i inside)

pub returns-in_default : goal.returns-in_default
returns-in_default g c =
    emission-misused c.args.call c.args.builder.now c.args.answers.now (none-judged c.args.call c.args.builder.now c.args.answers.now
    (ap (value_of c.args.builder.now.func.now c.args.answers.now) (sym c.operand_in-name.ensures)
    ∙ ap (λ (f : Body). value_of f c.args.answers.now c.operand_in-name.result) (sym c.func.ensures) ∙ sym c.value_named.ensures ∙ c.in_default.is))

pub may_take_constant-requires : goal.may_take_constant-requires
may_take_constant-requires g c =
    value-exists c.requires.calls c.args.builder.now c.args.answers.now c.requires.ready (operand_in c.args.call) c.in-Some.x
    (ap (value_of c.args.builder.now.func.now c.args.answers.now) (sym c.operand_in-name.ensures)
    ∙ ap (λ (f : Body). value_of f c.args.answers.now c.operand_in-name.result) (sym c.func.ensures) ∙ sym c.value_named.ensures ∙ c.in-Some.is)

pub returns-then-not-may_take_constant : goal.returns-then-not-may_take_constant
returns-then-not-may_take_constant g c =
    emission-misused c.args.call c.args.builder.now c.args.answers.now (some-denied c.args.call c.args.builder.now c.args.answers.now c.in-Some.x
    (ap (value_of c.args.builder.now.func.now c.args.answers.now) (sym c.operand_in-name.ensures)
    ∙ ap (λ (f : Body). value_of f c.args.answers.now c.operand_in-name.result) (sym c.func.ensures) ∙ sym c.value_named.ensures ∙ c.in-Some.is)
    (sym c.may_take_constant.ensures ∙ c.if-not-may_take_constant.true))

pub emit-requires-clause-current : goal.emit-requires-clause-current
emit-requires-clause-current g c =
    has-current c.requires.calls c.args.builder.now c.args.answers.now c.requires.ready (and_parts _ _ (sym c.may_take_constant.ensures ∙ c.if-not-may_take_constant.false)).0

pub returns-in_err-value : goal.returns-in_err-value
returns-in_err-value g c =
    let old = c.args.builder.now in
    let can = sym c.may_take_constant.ensures ∙ c.if-not-may_take_constant.false in
    let current = has-current c.requires.calls old c.args.answers.now c.requires.ready (and_parts _ _ can).0 in
    let found = ap (value_of old.func.now c.args.answers.now) (sym c.operand_in-name.ensures)
    ∙ ap (λ (f : Body). value_of f c.args.answers.now c.operand_in-name.result) (sym c.func.ensures) ∙ sym c.value_named.ensures ∙ c.in-Some.is in
    let built = subst (λ (r : Result ℕ BuildError). BuildsEmission c.args.call c.in-Some.x old c.emit.new.builder r) c.in_err-value.was c.emit.ensures.built in
    let p = err_from_is_err_and c.from_residual.result c.from_residual.ensures.1 in
    emission-refused c.args.call old c.emit.new.builder c.args.answers.now c.in_err-value.field-0.0 p.0 c.from_residual.result p.1 p.2
    (emission-failed c.args.call c.in-Some.x old c.emit.new.builder current.0 current.1 c.requires.sound c.in_err-value.field-0.0 built)
    (some-allowed c.args.call old c.args.answers.now c.in-Some.x found can c.emit.ensures.number)

pub returns : goal.returns
returns g c =
    let old = c.args.builder.now in
    let new = c.emit.new.builder in
    let value = c.in_ok-value.value in
    let can = sym c.may_take_constant.ensures ∙ c.if-not-may_take_constant.false in
    let current = has-current c.requires.calls old c.args.answers.now c.requires.ready (and_parts _ _ can).0 in
    let found = ap (value_of old.func.now c.args.answers.now) (sym c.operand_in-name.ensures)
    ∙ ap (λ (f : Body). value_of f c.args.answers.now c.operand_in-name.result) (sym c.func.ensures) ∙ sym c.value_named.ensures ∙ c.in-Some.is in
    let built = subst (λ (r : Result ℕ BuildError). BuildsEmission c.args.call c.in-Some.x old new r) c.in_ok-value.was c.emit.ensures.built in
    let made = emission-made c.args.call c.in-Some.x old new current.0 current.1 c.requires.sound value built in
    subst (λ (a : Answer). MakesEmission c.args.call old new c.args.answers.now (Ok a)) (sym c.one_value.ensures)
    (emission-answered c.args.call old new c.args.answers.now (answer.Values value 1) made.0 made.1
    (some-allowed c.args.call old c.args.answers.now c.in-Some.x found can c.emit.ensures.number)
    (λ naming declared calls ready.
    emission-ready c.constant_operands_stand.ensures calls c.args.call old new c.args.answers.now c.in-Some.x value ready made.1.tables found built))
