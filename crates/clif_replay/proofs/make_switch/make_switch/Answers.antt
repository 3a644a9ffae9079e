use Rattle.std.proofs.Common.{◌∙◌, ap, subst, sym}
use Rattle.std.specs.Prelude.{Err, Ok, Result, false, slice_index_or, true}
use Rattle.clif_ir.specs.Body.{Body}
use Rattle.clif_resolution.specs.Answers.{AnswerExists, value_of}
use Rattle.clif_resolution.specs.declared.answers.Answer.{Answer}
use Rattle.clif_resolution.specs.declared.answers.Answer.TheVariants as answer
use Rattle.clif_resolution.specs.declared.answers.CallError.{CallError}
use Rattle.std.proofs.lemmas.Result.{err_from_is_err_and}
use Rattle.clif_switch.specs.Switches.{Emits, MayEmit}
use Rattle.clif_ranges.specs.Cases.{CaseMap}
use Rattle.clif_replay.specs.Cases.{can_switch_on}
use Rattle.clif_replay.specs.Emits.{MakesSwitch}
use Rattle.clif_replay.proofs.ReadyLaws.{answers-exist, value-exists}
use Rattle.clif_replay.proofs.Switched.{all-judged, block-judged, judged-as, may-emit, switch-made, switch-misused, switch-unemitted, switch-unset, value-judged}
use Rattle.clif_replay.proofs.make_switch.make_switch.Goals as goal

pub value_named-requires : goal.value_named-requires
value_named-requires g c = λ i inside.
    subst (λ (f : Body). AnswerExists f (slice_index_or c.args.answers.now i answer.Nothing)) (sym c.func.ensures)
    (answers-exist c.requires.calls c.args.builder.now c.args.answers.now c.requires.ready i inside)

pub returns-in_default : goal.returns-in_default
returns-in_default g c =
    switch-misused c.args.entries.now c.args.value c.args.otherwise c.args.builder.now c.args.answers.now
    (value-judged c.args.entries.now c.args.value c.args.otherwise c.args.builder.now c.args.answers.now
    (ap (λ (f : Body). value_of f c.args.answers.now c.args.value) (sym c.func.ensures) ∙ sym c.value_named.ensures ∙ c.in_default.is))

pub returns-in_default-block_named : goal.returns-in_default-block_named
returns-in_default-block_named g c =
    switch-misused c.args.entries.now c.args.value c.args.otherwise c.args.builder.now c.args.answers.now
    (block-judged c.args.entries.now c.args.value c.args.otherwise c.args.builder.now c.args.answers.now (sym c.block_named.ensures ∙ c.in_default-block_named.is))

pub may_switch-requires : goal.may_switch-requires
may_switch-requires g c =
    value-exists c.requires.calls c.args.builder.now c.args.answers.now c.requires.ready c.args.value c.in-Some.val
    (ap (λ (f : Body). value_of f c.args.answers.now c.args.value) (sym c.func.ensures) ∙ sym c.value_named.ensures ∙ c.in-Some.is)

pub switch_fault-requires : goal.switch_fault-requires
switch_fault-requires g c =
    value-exists c.requires.calls c.args.builder.now c.args.answers.now c.requires.ready c.args.value c.in-Some.val
    (ap (λ (f : Body). value_of f c.args.answers.now c.args.value) (sym c.func.ensures) ∙ sym c.value_named.ensures ∙ c.in-Some.is)

pub returns-then-not-may_switch : goal.returns-then-not-may_switch
returns-then-not-may_switch g c =
    let b = c.args.builder.now in
    let found = ap (λ (f : Body). value_of f c.args.answers.now c.args.value) (sym c.func.ensures) ∙ sym c.value_named.ensures ∙ c.in-Some.is in
    switch-misused c.args.entries.now c.args.value c.args.otherwise b c.args.answers.now
    (judged-as c.args.entries.now c.args.value c.args.otherwise b c.args.answers.now (can_switch_on b c.args.answers.now c.args.entries.now c.in-Some.val c.args.otherwise) false (sym c.if-not-may_switch.ensures)
    (all-judged c.args.entries.now c.args.value c.args.otherwise b c.args.answers.now c.in-Some.val found))

pub returns-in_err-switch : goal.returns-in_err-switch
returns-in_err-switch g c =
    let b = c.args.builder.now in
    let found = ap (λ (f : Body). value_of f c.args.answers.now c.args.value) (sym c.func.ensures) ∙ sym c.value_named.ensures ∙ c.in-Some.is in
    let can = sym c.may_switch.ensures ∙ c.if-not-may_switch.false in
    let p = err_from_is_err_and c.from_residual.result c.from_residual.ensures.1 in
    subst (λ (r : Result Answer CallError). MakesSwitch c.args.entries.now c.args.value c.args.otherwise b b c.args.answers.now r) (sym (p.1 ∙ ap Err p.2))
    (switch-unset c.args.entries.now c.args.value c.args.otherwise b c.args.answers.now c.in_err-switch.field-0.0
    (judged-as c.args.entries.now c.args.value c.args.otherwise b c.args.answers.now (can_switch_on b c.args.answers.now c.args.entries.now c.in-Some.val c.args.otherwise) true can
    (all-judged c.args.entries.now c.args.value c.args.otherwise b c.args.answers.now c.in-Some.val found))
    c.in_err-switch.ensures.err)

pub emit-requires : goal.emit-requires
emit-requires g c =
    let b = c.args.builder.now in
    let found = ap (λ (f : Body). value_of f c.args.answers.now c.args.value) (sym c.func.ensures) ∙ sym c.value_named.ensures ∙ c.in-Some.is in
    subst (λ (cases : CaseMap). MayEmit cases c.in-Some.val c.in-Some-block_named.other b) (sym c.in_ok-switch.ensures.ok)
    (may-emit c.requires.calls b c.args.answers.now c.requires.ready c.args.entries.now c.in-Some.val c.args.value c.args.otherwise c.in-Some-block_named.other found
    (sym c.block_named.ensures ∙ c.in-Some-block_named.is) (sym c.may_switch.ensures ∙ c.if-not-may_switch.false))

pub returns-in-Ok : goal.returns-in-Ok
returns-in-Ok g c =
    let old = c.args.builder.now in
    let found = ap (λ (f : Body). value_of f c.args.answers.now c.args.value) (sym c.func.ensures) ∙ sym c.value_named.ensures ∙ c.in-Some.is in
    switch-made c.refusals_are_of_keys.ensures c.args.entries.now c.args.value c.args.otherwise old c.emit.new.bx c.args.answers.now c.in-Some.val c.in-Some-block_named.other found
    (sym c.block_named.ensures ∙ c.in-Some-block_named.is) (sym c.may_switch.ensures ∙ c.if-not-may_switch.false) c.in_ok-switch.ensures.once
    (subst (λ (cases : CaseMap). Emits cases c.in-Some.val c.in-Some-block_named.other old c.emit.new.bx (Ok tt)) c.in_ok-switch.ensures.ok c.in-Ok.ensures)

pub returns-in-Err : goal.returns-in-Err
returns-in-Err g c =
    let old = c.args.builder.now in
    let found = ap (λ (f : Body). value_of f c.args.answers.now c.args.value) (sym c.func.ensures) ∙ sym c.value_named.ensures ∙ c.in-Some.is in
    let can = sym c.may_switch.ensures ∙ c.if-not-may_switch.false in
    subst (λ (e : CallError). MakesSwitch c.args.entries.now c.args.value c.args.otherwise old c.emit.new.bx c.args.answers.now (Err e)) (sym c.told.ensures)
    (switch-unemitted c.refusals_are_of_keys.ensures c.args.entries.now c.args.value c.args.otherwise old c.emit.new.bx c.args.answers.now c.in-Some.val c.in-Some-block_named.other found
    c.in_ok-switch.ensures.once c.requires.sound
    (judged-as c.args.entries.now c.args.value c.args.otherwise old c.args.answers.now (can_switch_on old c.args.answers.now c.args.entries.now c.in-Some.val c.args.otherwise) true can
    (all-judged c.args.entries.now c.args.value c.args.otherwise old c.args.answers.now c.in-Some.val found))
    c.in-Err.error
    (subst (λ (cases : CaseMap). Emits cases c.in-Some.val c.in-Some-block_named.other old c.emit.new.bx (Err c.in-Err.error)) c.in_ok-switch.ensures.ok c.in-Err.ensures))
