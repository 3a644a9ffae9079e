use Rattle.std.proofs.Common.{[], ◌∷◌, sym, ◌∙◌, ap, refl, subst}
use Rattle.std.proofs.lemmas.Result.{err_from_is_err_and}
use Rattle.clif_resolution.specs.declared.answers.Answer.TheVariants as answer
use Rattle.clif_replay.proofs.Making.{answered-sound, made-answer, made-misuse, made-refused}
use Rattle.clif_builder.specs.Context.{ContextState, status_of}
use Rattle.clif_meaning.specs.Request.{AppendBlockParams}
use Rattle.clif_resolution.specs.declared.answers.Answer.{Answer}
use Rattle.clif_replay.specs.Ready.{IsReadyAfter}
use Rattle.clif_replay.proofs.ReadyLaws.{ready-more, block-found, block-there}
use Rattle.clif_replay.proofs.Conditions
use Rattle.clif_replay.proofs.make_parameters.append_block_param.Goals as goal

pub returns-in_default : goal.returns-in_default
returns-in_default g c = made-misuse c.args.builder.now c.args.answers.now (λ naming declared calls ready. Conditions.append-none calls c.args.builder.now c.args.answers.now ready c.args.name (c.args.ty ∷ []) (sym c.block_named.ensures ∙ c.in_default.is))

pub returns-then-not-may_append : goal.returns-then-not-may_append
returns-then-not-may_append g c = made-misuse c.args.builder.now c.args.answers.now (λ naming declared calls ready. Conditions.append-some calls c.args.builder.now c.args.answers.now ready c.args.name c.in-Some.block (c.args.ty ∷ []) (sym c.block_named.ensures ∙ c.in-Some.is) ∙ sym c.may_append.ensures ∙ c.if-not-may_append.true)

pub append_block_param-requires-clause-exists : goal.append_block_param-requires-clause-exists
append_block_param-requires-clause-exists g c = block-there c.requires.calls c.args.builder.now c.args.answers.now c.requires.ready c.args.name c.in-Some.block (sym c.block_named.ensures ∙ c.in-Some.is)

pub append_block_param-requires-clause-pristine : goal.append_block_param-requires-clause-pristine
append_block_param-requires-clause-pristine g c = Conditions.empty-is (status_of c.args.builder.now.ctx.now.parts c.in-Some.block) (sym c.may_append.ensures ∙ c.if-not-may_append.false)

pub returns-in_err-value : goal.returns-in_err-value
returns-in_err-value g c =
    let done = c.append_block_param.ensures in
    let p = err_from_is_err_and c.from_residual.result c.from_residual.ensures.1 in
    made-refused c.args.builder.now c.append_block_param.new.self c.args.answers.now c.append_block_param.result c.in_err-value.field-0.0 p.0 c.from_residual.result c.in_err-value.was p.1 p.2 done.call.loans c.requires.sound done.call.failed
    (λ naming declared calls ready. Conditions.append-some calls c.args.builder.now c.args.answers.now ready c.args.name c.in-Some.block (c.args.ty ∷ []) (sym c.block_named.ensures ∙ c.in-Some.is) ∙ sym c.may_append.ensures ∙ c.if-not-may_append.false) done.full

pub returns : goal.returns
returns g c =
    let done = c.in_ok-value.ensures in
    made-answer c.args.builder.now c.append_block_param.new.self c.args.answers.now c.one_value.result c.append_block_param.ensures.call.loans done.goes_on.grows.3
    (answered-sound _ c.append_block_param.result _ c.append_block_param.ensures.call.fails c.in_ok-value.was) (ap (λ (x : ContextState). x.variables) c.append_block_param.ensures.context)
    (λ naming declared calls ready. Conditions.append-some calls c.args.builder.now c.args.answers.now ready c.args.name c.in-Some.block (c.args.ty ∷ []) (sym c.block_named.ensures ∙ c.in-Some.is) ∙ sym c.may_append.ensures ∙ c.if-not-may_append.false)
    (λ naming declared calls ready.
    let names = block-found calls c.args.builder.now c.args.answers.now ready c.args.name c.in-Some.block (sym c.block_named.ensures ∙ c.in-Some.is) in
    let value = c.in_ok-value.value in
    subst (λ (a : Answer). IsReadyAfter naming declared calls (AppendBlockParams (naming c.args.name) (c.args.ty ∷ [])) c.append_block_param.new.self c.args.answers.now a) (sym c.one_value.ensures)
    (value ∷ [], ready-more calls _ c.args.builder.now c.append_block_param.new.self _ (answer.Values value 1) ready tt (done.goes_on.grows.6, done.goes_on.grows.8) ((done.told (naming c.args.name)).stands declared calls ready.stands names) (c.args.ty ∷ [], refl, refl, refl)))
