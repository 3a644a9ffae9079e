use Rattle.std.proofs.Common.{[], sym, ◌∙◌, refl}
use Rattle.std.proofs.lemmas.Result.{err_from_is_err_and}
use Rattle.clif_resolution.specs.declared.answers.Answer.TheVariants as answer
use Rattle.clif_replay.proofs.Changes.{change-no_branch, change-no_source, change-no_target, change-some, may-change}
use Rattle.clif_replay.proofs.Making.{answered-sound, made-answer, made-misuse, made-refused}
use Rattle.clif_replay.proofs.ReadyLaws.{block-found, block-there, inst-found, inst-there, ready-more}
use Rattle.clif_replay.proofs.make_branches.change_jump_destination.Goals as goal

pub returns-in_default : goal.returns-in_default
returns-in_default g c =
    made-misuse c.args.builder.now c.args.answers.now (λ naming declared calls ready.
    change-no_branch calls c.args.builder.now c.args.answers.now ready c.args.branch c.args.from c.args.to (sym c.inst_named.ensures ∙ c.in_default.is))

pub returns-in_default-block_named : goal.returns-in_default-block_named
returns-in_default-block_named g c =
    made-misuse c.args.builder.now c.args.answers.now (λ naming declared calls ready.
    change-no_source calls c.args.builder.now c.args.answers.now ready c.args.branch c.args.from c.args.to (sym c.block_named.ensures ∙ c.in_default-block_named.is))

pub returns-in_default-block_named-2 : goal.returns-in_default-block_named-2
returns-in_default-block_named-2 g c =
    made-misuse c.args.builder.now c.args.answers.now (λ naming declared calls ready.
    change-no_target calls c.args.builder.now c.args.answers.now ready c.args.branch c.args.from c.args.to (sym c.block_named-2.ensures ∙ c.in_default-block_named-2.is))

pub returns-then-not-may_change : goal.returns-then-not-may_change
returns-then-not-may_change g c =
    made-misuse c.args.builder.now c.args.answers.now (λ naming declared calls ready.
    change-some c.leads_are_read_by_number.ensures calls c.args.builder.now c.args.answers.now ready c.args.branch c.args.from c.args.to c.in-Some.inst
    c.in-Some-block_named.source c.in-Some-block_named-2.target (sym c.inst_named.ensures ∙ c.in-Some.is) (sym c.block_named.ensures ∙ c.in-Some-block_named.is)
    (sym c.block_named-2.ensures ∙ c.in-Some-block_named-2.is) ∙ sym c.may_change.ensures ∙ c.if-not-may_change.true)

pub change_jump_destination-requires-clause-inst_exists : goal.change_jump_destination-requires-clause-inst_exists
change_jump_destination-requires-clause-inst_exists g c =
    inst-there c.requires.calls c.args.builder.now c.args.answers.now c.requires.ready c.args.branch c.in-Some.inst (sym c.inst_named.ensures ∙ c.in-Some.is)

pub change_jump_destination-requires-clause-target_exists : goal.change_jump_destination-requires-clause-target_exists
change_jump_destination-requires-clause-target_exists g c =
    block-there c.requires.calls c.args.builder.now c.args.answers.now c.requires.ready c.args.to c.in-Some-block_named-2.target
    (sym c.block_named-2.ensures ∙ c.in-Some-block_named-2.is)

pub change_jump_destination-requires-clause-old_unsealed : goal.change_jump_destination-requires-clause-old_unsealed
change_jump_destination-requires-clause-old_unsealed g c =
    (may-change c.args.builder.now c.in-Some.inst c.in-Some-block_named.source c.in-Some-block_named-2.target (sym c.may_change.ensures ∙ c.if-not-may_change.false)).source_open

pub change_jump_destination-requires-clause-new_unsealed : goal.change_jump_destination-requires-clause-new_unsealed
change_jump_destination-requires-clause-new_unsealed g c =
    (may-change c.args.builder.now c.in-Some.inst c.in-Some-block_named.source c.in-Some-block_named-2.target (sym c.may_change.ensures ∙ c.if-not-may_change.false)).target_open

pub change_jump_destination-requires-clause-leads : goal.change_jump_destination-requires-clause-leads
change_jump_destination-requires-clause-leads g c =
    (may-change c.args.builder.now c.in-Some.inst c.in-Some-block_named.source c.in-Some-block_named-2.target (sym c.may_change.ensures ∙ c.if-not-may_change.false)).leads

pub returns-in_err-change_jump_destination : goal.returns-in_err-change_jump_destination
returns-in_err-change_jump_destination g c =
    let done = c.change_jump_destination.ensures in
    let p = err_from_is_err_and c.from_residual.result c.from_residual.ensures.1 in
    made-refused c.args.builder.now c.change_jump_destination.new.self c.args.answers.now c.change_jump_destination.result c.in_err-change_jump_destination.field-0.0 p.0
    c.from_residual.result c.in_err-change_jump_destination.was p.1 p.2 done.call.loans c.requires.sound done.call.failed
    (λ naming declared calls ready.
    change-some c.leads_are_read_by_number.ensures calls c.args.builder.now c.args.answers.now ready c.args.branch c.args.from c.args.to c.in-Some.inst
    c.in-Some-block_named.source c.in-Some-block_named-2.target (sym c.inst_named.ensures ∙ c.in-Some.is) (sym c.block_named.ensures ∙ c.in-Some-block_named.is)
    (sym c.block_named-2.ensures ∙ c.in-Some-block_named-2.is) ∙ sym c.may_change.ensures ∙ c.if-not-may_change.false)
    done.never_full

pub returns : goal.returns
returns g c =
    let old = c.args.builder.now in
    let new = c.change_jump_destination.new.self in
    let done = c.in_ok-change_jump_destination.ensures in
    made-answer old new c.args.answers.now answer.Nothing c.change_jump_destination.ensures.call.loans done.goes_on.grows.3
    (answered-sound _ c.change_jump_destination.result _ c.change_jump_destination.ensures.call.fails c.in_ok-change_jump_destination.was) done.redirects.variables.0
    (λ naming declared calls ready.
    change-some c.leads_are_read_by_number.ensures calls old c.args.answers.now ready c.args.branch c.args.from c.args.to c.in-Some.inst
    c.in-Some-block_named.source c.in-Some-block_named-2.target (sym c.inst_named.ensures ∙ c.in-Some.is) (sym c.block_named.ensures ∙ c.in-Some-block_named.is)
    (sym c.block_named-2.ensures ∙ c.in-Some-block_named-2.is) ∙ sym c.may_change.ensures ∙ c.if-not-may_change.false)
    (λ naming declared calls ready. (
      [],
      ready-more calls _ old new c.args.answers.now answer.Nothing ready tt (done.goes_on.grows.6, done.goes_on.grows.8)
          (done.stands declared calls (naming c.args.branch) (naming c.args.from) (naming c.args.to) ready.stands
          (inst-found calls old c.args.answers.now ready c.args.branch c.in-Some.inst (sym c.inst_named.ensures ∙ c.in-Some.is))
          (block-found calls old c.args.answers.now ready c.args.from c.in-Some-block_named.source (sym c.block_named.ensures ∙ c.in-Some-block_named.is))
          (block-found calls old c.args.answers.now ready c.args.to c.in-Some-block_named-2.target (sym c.block_named-2.ensures ∙ c.in-Some-block_named-2.is)))
          (refl, refl),
    ))
