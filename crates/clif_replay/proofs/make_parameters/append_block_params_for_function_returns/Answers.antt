use Rattle.std.proofs.Common.{sym, ◌∙◌, ap, refl, subst, arith}
use Rattle.std.proofs.lemmas.Result.{err_from_is_err_and}
use Rattle.clif_replay.proofs.Making.{answered-sound, made-answer, made-misuse, made-refused}
use Rattle.std.specs.Prelude.{length}
use Rattle.clif_types.specs.Signature.{SignatureShape}
use Rattle.clif_ir.specs.Body.{Body}
use Rattle.clif_tables.specs.Callees.{types_of}
use Rattle.clif_meaning.specs.Request.{AppendBlockParams}
use Rattle.clif_builder.specs.Context.{ContextState, status_of}
use Rattle.clif_replay.specs.Ready.{IsReadyAfter}
use Rattle.clif_replay.proofs.ReadyLaws.{block-found, block-there}
use Rattle.clif_replay.proofs.Parameters.{enough-params, params-ready}
use Rattle.clif_replay.proofs.Conditions
use Rattle.clif_replay.proofs.make_parameters.append_block_params_for_function_returns.Goals as goal

pub returns-in_default : goal.returns-in_default
returns-in_default g c = made-misuse c.args.builder.now c.args.answers.now (λ naming declared calls ready. Conditions.append-none calls c.args.builder.now c.args.answers.now ready c.args.name (types_of declared.returns) (sym c.block_named.ensures ∙ c.in_default.is))

pub returns-then-not-may_append : goal.returns-then-not-may_append
returns-then-not-may_append g c = made-misuse c.args.builder.now c.args.answers.now (λ naming declared calls ready. Conditions.append-some calls c.args.builder.now c.args.answers.now ready c.args.name c.in-Some.block (types_of declared.returns) (sym c.block_named.ensures ∙ c.in-Some.is) ∙ sym c.may_append.ensures ∙ c.if-not-may_append.true)

pub append_block_params_for_function_returns-requires-clause-exists : goal.append_block_params_for_function_returns-requires-clause-exists
append_block_params_for_function_returns-requires-clause-exists g c = block-there c.requires.calls c.args.builder.now c.args.answers.now c.requires.ready c.args.name c.in-Some.block (sym c.block_named.ensures ∙ c.in-Some.is)

pub append_block_params_for_function_returns-requires-clause-pristine : goal.append_block_params_for_function_returns-requires-clause-pristine
append_block_params_for_function_returns-requires-clause-pristine g c = Conditions.empty-is (status_of c.args.builder.now.ctx.now.parts c.in-Some.block) (sym c.may_append.ensures ∙ c.if-not-may_append.false)

pub returns-in_err-append_block_params_for_function_returns : goal.returns-in_err-append_block_params_for_function_returns
returns-in_err-append_block_params_for_function_returns g c =
    let done = c.append_block_params_for_function_returns.ensures in
    let p = err_from_is_err_and c.from_residual.result c.from_residual.ensures.1 in
    made-refused c.args.builder.now c.append_block_params_for_function_returns.new.self c.args.answers.now c.append_block_params_for_function_returns.result c.in_err-append_block_params_for_function_returns.field-0.0 p.0 c.from_residual.result c.in_err-append_block_params_for_function_returns.was p.1 p.2 done.call.loans c.requires.sound done.call.failed
    (λ naming declared calls ready. Conditions.append-some calls c.args.builder.now c.args.answers.now ready c.args.name c.in-Some.block (types_of declared.returns) (sym c.block_named.ensures ∙ c.in-Some.is) ∙ sym c.may_append.ensures ∙ c.if-not-may_append.false) done.room

pub last_params-requires-clause-exists : goal.last_params-requires-clause-exists
last_params-requires-clause-exists g c =
    let there = block-there c.requires.calls c.args.builder.now c.args.answers.now c.requires.ready c.args.name c.in-Some.block (sym c.block_named.ensures ∙ c.in-Some.is) in
    let grows = c.in_ok-append_block_params_for_function_returns.ensures.goes_on.grows in
    omega (arith, there, grows.2)

pub last_params-requires-clause-count : goal.last_params-requires-clause-count
last_params-requires-clause-count g c =
    let old = c.args.builder.now in
    let there = block-there c.requires.calls old c.args.answers.now c.requires.ready c.args.name c.in-Some.block (sym c.block_named.ensures ∙ c.in-Some.is) in
    let viewed = ap (λ (s : SignatureShape). length s.returns) (c.behind-func.view_is ∙ c.signature.ensures ∙ ap (λ (f : Body). f.signature) c.func.ensures) in
    let counted = c.len-count.ensures in
    enough-params old.func.now c.append_block_params_for_function_returns.new.self.func.now c.in-Some.block old.func.now.signature.returns c.len-count.result there c.in_ok-append_block_params_for_function_returns.ensures.function (omega (arith, viewed, counted))

pub returns : goal.returns
returns g c =
    let done = c.in_ok-append_block_params_for_function_returns.ensures in
    made-answer c.args.builder.now c.append_block_params_for_function_returns.new.self c.args.answers.now c.last_params.result c.append_block_params_for_function_returns.ensures.call.loans done.goes_on.grows.3
    (answered-sound _ c.append_block_params_for_function_returns.result _ c.append_block_params_for_function_returns.ensures.call.fails c.in_ok-append_block_params_for_function_returns.was) (ap (λ (x : ContextState). x.variables) c.append_block_params_for_function_returns.ensures.context)
    (λ naming declared calls ready. Conditions.append-some calls c.args.builder.now c.args.answers.now ready c.args.name c.in-Some.block (types_of declared.returns) (sym c.block_named.ensures ∙ c.in-Some.is) ∙ sym c.may_append.ensures ∙ c.if-not-may_append.false)
    (λ naming declared calls ready.
    let old = c.args.builder.now in
    let new = c.append_block_params_for_function_returns.new.self in
    let found = (sym c.block_named.ensures ∙ c.in-Some.is) in
    let names = block-found calls old c.args.answers.now ready c.args.name c.in-Some.block found in
    let there = block-there calls old c.args.answers.now ready c.args.name c.in-Some.block found in
    let viewed = ap (λ (s : SignatureShape). length s.returns) (c.behind-func.view_is ∙ c.signature.ensures ∙ ap (λ (f : Body). f.signature) c.func.ensures) in
    let counted = c.len-count.ensures in
    subst (λ (s : SignatureShape). IsReadyAfter naming declared calls (AppendBlockParams (naming c.args.name) (types_of s.returns)) new c.args.answers.now c.last_params.result) ready.stands.signature
    (params-ready calls old new c.args.answers.now (AppendBlockParams (naming c.args.name) (types_of old.func.now.signature.returns)) c.in-Some.block old.func.now.signature.returns c.len-count.result c.last_params.result ready tt (done.goes_on.grows.6, done.goes_on.grows.8) there
    done.function ((done.told (naming c.args.name)).stands declared calls ready.stands names) refl (omega (arith, viewed, counted)) c.last_params.ensures))
