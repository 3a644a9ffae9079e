use Rattle.std.proofs.Common.{◌≡◌, ◌∙◌, ap, subst, sym}
use Rattle.std.specs.Prelude.{Err, Result, false, slice_index_or}
use Rattle.std.proofs.lemmas.Result.{err_from_is_err_and}
use Rattle.clif_types.specs.declared.error.BuildError.{BuildError}
use Rattle.clif_ir.specs.Body.{Body}
use Rattle.clif_resolution.specs.Answers.{AnswerExists, all_values}
use Rattle.clif_resolution.specs.declared.answers.Answer.{Answer}
use Rattle.clif_resolution.specs.declared.answers.Answer.TheVariants as answer
use Rattle.clif_resolution.specs.declared.answers.CallError.{CallError}
use Rattle.clif_replay.specs.Emits.{AreOperands, CallsHelper, MakesMemory, values_in}
use Rattle.clif_replay.specs.Helpers.{IsNamed, operands_in, operation_in}
use Rattle.clif_replay.proofs.Helping.{allowed-judged, denied-judged, helper-made, helper-misused, may-help, missing-judged, refused-by}
use Rattle.clif_replay.proofs.ReadyLaws.{answers-exist, value-exists}
use Rattle.clif_replay.proofs.make_memory.make_memory.Goals as goal

pub operands_of-requires : goal.operands_of-requires
operands_of-requires g c = λ i inside.
    subst (λ (f : Body). AnswerExists f (slice_index_or c.args.answers.now i answer.Nothing)) (sym c.func.ensures)
    (answers-exist c.requires.calls c.args.builder.now c.args.answers.now c.requires.ready i inside)

pub returns-in-Err : goal.returns-in-Err
returns-in-Err g c =
    helper-misused c.args.config c.args.call.now _ c.args.builder.now c.args.answers.now
    (missing-judged c.args.config c.args.call.now c.args.builder.now c.args.answers.now
    (subst (λ (f : Body). all_values f c.args.answers.now (operands_in c.args.call.now) ≡ false) c.func.ensures c.in-Err.ensures.missing))

pub may_help-requires : goal.may_help-requires
may_help-requires g c =
    let named = subst (λ (f : Body). IsNamed f c.args.answers.now c.in-Ok.operands.second) c.func.ensures c.in-Ok.ensures.named in
    value-exists c.requires.calls c.args.builder.now c.args.answers.now c.requires.ready named.0 c.in-Ok.operands.second named.1

pub returns-then-not-may_help : goal.returns-then-not-may_help
returns-then-not-may_help g c =
    let b = c.args.builder.now in
    let found = subst (λ (f : Body). AreOperands f c.args.answers.now c.args.call.now c.in-Ok.operands) c.func.ensures c.in-Ok.ensures.found in
    helper-misused c.args.config c.args.call.now _ b c.args.answers.now
    (denied-judged c.args.config c.args.call.now b c.args.answers.now c.in-Ok.operands found (sym c.may_help.ensures ∙ c.if-not-may_help.true))

pub help-requires : goal.help-requires
help-requires g c =
    let b = c.args.builder.now in
    let found = subst (λ (f : Body). AreOperands f c.args.answers.now c.args.call.now c.in-Ok.operands) c.func.ensures c.in-Ok.ensures.found in
    may-help c.args.config c.args.call.now b c.args.answers.now c.in-Ok.operands found c.requires.calls c.requires.ready (sym c.may_help.ensures ∙ c.if-not-may_help.false)

pub returns-in_err-answer : goal.returns-in_err-answer
returns-in_err-answer g c =
    let old = c.args.builder.now in
    let new = c.help.new.builder in
    let found = subst (λ (f : Body). AreOperands f c.args.answers.now c.args.call.now c.in-Ok.operands) c.func.ensures c.in-Ok.ensures.found in
    let can = sym c.may_help.ensures ∙ c.if-not-may_help.false in
    let called = subst (λ (r : Result Answer BuildError). CallsHelper c.args.config (operation_in c.args.call.now) (values_in c.args.call.now c.in-Ok.operands) old new r) c.in_err-answer.was c.help.ensures.called in
    let p = err_from_is_err_and c.from_residual.result c.from_residual.ensures.1 in
    subst (λ (r : Result Answer CallError). MakesMemory c.args.config c.args.call.now old new c.args.answers.now r) (sym (p.1 ∙ ap Err p.2))
    (refused-by c.args.config c.args.call.now old new c.args.answers.now c.in-Ok.operands c.in_err-answer.field-0.0 c.requires.sound called
    (allowed-judged c.args.config c.args.call.now old c.args.answers.now c.in-Ok.operands found can c.help.ensures.sized))

pub returns : goal.returns
returns g c =
    let old = c.args.builder.now in
    let new = c.help.new.builder in
    let found = subst (λ (f : Body). AreOperands f c.args.answers.now c.args.call.now c.in-Ok.operands) c.func.ensures c.in-Ok.ensures.found in
    let can = sym c.may_help.ensures ∙ c.if-not-may_help.false in
    let called = subst (λ (r : Result Answer BuildError). CallsHelper c.args.config (operation_in c.args.call.now) (values_in c.args.call.now c.in-Ok.operands) old new r) c.in_ok-answer.was c.help.ensures.called in
    helper-made c.helpers_are_lines.ensures c.notes_add_nothing.ensures c.args.config c.args.call.now old new c.args.answers.now c.in-Ok.operands found can c.help.ensures.sized c.in_ok-answer.answer called
