use Rattle.std.proofs.Common.{List, ap, ◌∙◌, subst}
use Rattle.std.specs.Prelude.{Err, Ok}
use Rattle.std.proofs.lemmas.Result.{err_from_is_err_and}
use Rattle.clif_instructions.specs.declared.block_call.BlockArg.{BlockArg}
use Rattle.clif_builder.specs.Context.{ContextState}
use Rattle.clif_builder.specs.Entries.{MakesEdge}
use Rattle.clif_resolution.specs.declared.answers.Answer.TheVariants as answer
use Rattle.clif_replay.proofs.JumpTables.{edge-ready, edge-same}
use Rattle.clif_resolution.proofs.Found.{edge-there}
use Rattle.clif_replay.proofs.Making.{answered-sound, made-answer, made-misused}
use Rattle.clif_replay.proofs.ReadyLaws.{answers-exist}
use Rattle.clif_replay.proofs.make_tables.block_call.Goals as goal

pub edge_found-requires : goal.edge_found-requires
edge_found-requires g c = answers-exist c.requires.calls c.args.builder.now c.args.answers.now c.requires.ready

pub returns-in_err-found : goal.returns-in_err-found
returns-in_err-found g c =
    let p = err_from_is_err_and c.from_residual.result c.from_residual.ensures.1 in
    made-misused c.args.builder.now c.args.answers.now c.edge_found.result c.from_residual.result c.in_err-found.field-0.0 c.in_err-found.was (p.1 ∙ ap Err p.2) c.edge_found.ensures
    (λ none naming declared calls ready. edge-same calls c.args.builder.now c.args.answers.now ready c.args.edge.now ∙ none)

pub returns : goal.returns
returns g c =
    let old = c.args.builder.now in
    let new = c.block_call.new.self in
    let done = c.block_call.ensures in
    let found = c.in_ok-found.found in
    let makes = subst (λ (args : List BlockArg). MakesEdge found.block args old new (Ok c.in_ok-made.made)) c.as_slice.ensures c.in_ok-made.ensures in
    made-answer old new c.args.answers.now (answer.Edge c.in_ok-made.made) done.sets.call.loans makes.grows.3
    (answered-sound _ c.block_call.result _ done.sets.call.fails c.in_ok-made.was) (ap (λ (x : ContextState). x.variables) done.sets.context)
    (λ naming declared calls ready. edge-same calls old c.args.answers.now ready c.args.edge.now ∙ edge-there old c.args.answers.now c.args.edge.now found c.in_ok-found.ensures.found)
    (λ naming declared calls ready. edge-ready c.table_calls_add_nothing.ensures calls old new c.args.answers.now c.args.edge.now found c.in_ok-made.made ready c.in_ok-found.ensures.found makes.edge makes)
