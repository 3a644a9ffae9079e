use Rattle.std.proofs.Common.{[], sym, ◌∙◌, ap, refl}
use Rattle.std.proofs.lemmas.Result.{err_from_is_err_and}
use Rattle.clif_builder.specs.Context.{ContextState}
use Rattle.clif_resolution.specs.declared.answers.Answer.TheVariants as answer
use Rattle.clif_replay.proofs.Making.{answered-sound, made-answer, made-misuse, made-refused}
use Rattle.clif_replay.proofs.Marks.{mark-fits, mark-same, mark-unused}
use Rattle.clif_replay.proofs.ReadyLaws.{ready-more}
use Rattle.clif_replay.proofs.make_marks.declare_var_needs_stack_map.Goals as goal

pub returns-then-not-may_mark : goal.returns-then-not-may_mark
returns-then-not-may_mark g c =
    made-misuse c.args.builder.now c.args.answers.now (λ naming declared calls ready.
    mark-same calls c.args.builder.now c.args.answers.now ready c.args.variable ∙ sym c.may_mark.ensures ∙ c.if-not-may_mark.true)

pub declare_var_needs_stack_map-requires-clause-fits : goal.declare_var_needs_stack_map-requires-clause-fits
declare_var_needs_stack_map-requires-clause-fits g c =
    mark-fits c.args.builder.now c.args.variable (sym c.may_mark.ensures ∙ c.if-not-may_mark.false)

pub declare_var_needs_stack_map-requires-clause-unused : goal.declare_var_needs_stack_map-requires-clause-unused
declare_var_needs_stack_map-requires-clause-unused g c =
    mark-unused c.requires.calls c.args.builder.now c.args.answers.now c.requires.ready c.args.variable (sym c.may_mark.ensures ∙ c.if-not-may_mark.false)

pub returns-in_err-declare_var_needs_stack_map : goal.returns-in_err-declare_var_needs_stack_map
returns-in_err-declare_var_needs_stack_map g c =
    let old = c.args.builder.now in
    let done = c.declare_var_needs_stack_map.ensures in
    let p = err_from_is_err_and c.from_residual.result c.from_residual.ensures.1 in
    made-refused old c.declare_var_needs_stack_map.new.self c.args.answers.now c.declare_var_needs_stack_map.result c.in_err-declare_var_needs_stack_map.field-0.0 p.0
    c.from_residual.result c.in_err-declare_var_needs_stack_map.was p.1 p.2 done.marks.call.loans c.requires.sound done.marks.call.failed
    (λ naming declared calls ready. mark-same calls old c.args.answers.now ready c.args.variable ∙ sym c.may_mark.ensures ∙ c.if-not-may_mark.false)
    done.marks.never_full

pub returns : goal.returns
returns g c =
    let old = c.args.builder.now in
    let new = c.declare_var_needs_stack_map.new.self in
    let done = c.in_ok-declare_var_needs_stack_map.ensures in
    made-answer old new c.args.answers.now answer.Nothing c.declare_var_needs_stack_map.ensures.marks.call.loans done.marks.grows.3
    (answered-sound _ c.declare_var_needs_stack_map.result _ c.declare_var_needs_stack_map.ensures.marks.call.fails c.in_ok-declare_var_needs_stack_map.was)
    (ap (λ (x : ContextState). x.variables) done.marks.context)
    (λ naming declared calls ready. mark-same calls old c.args.answers.now ready c.args.variable ∙ sym c.may_mark.ensures ∙ c.if-not-may_mark.false)
    (λ naming declared calls ready.
    ([], ready-more calls _ old new _ answer.Nothing ready tt (done.marks.grows.6, done.marks.grows.8) (done.told.stands declared calls ready.stands tt) (refl, refl)))
