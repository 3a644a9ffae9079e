use Rattle.std.proofs.Common.{[], ◌∷◌, refl}
use Rattle.std.proofs.lemmas.Result.{err_from_is_err_and}
use Rattle.clif_resolution.specs.declared.answers.Answer.TheVariants as answer
use Rattle.clif_replay.proofs.Making.{answered-sound, made-answer, made-refused}
use Rattle.clif_replay.proofs.ReadyLaws.{ready-more}
use Rattle.clif_replay.proofs.make_blocks.create_block.Goals as goal

pub returns-in_err-block : goal.returns-in_err-block
returns-in_err-block g c =
    let done = c.create_block.ensures in
    let p = err_from_is_err_and c.from_residual.result c.from_residual.ensures.1 in
    made-refused c.args.builder.now c.create_block.new.self c.args.answers.now c.create_block.result c.in_err-block.field-0.0 p.0 c.from_residual.result c.in_err-block.was p.1 p.2 done.call.loans c.requires.sound done.call.failed
    (λ naming declared calls ready. refl) done.full

pub returns : goal.returns
returns g c =
    let done = c.in_ok-block.ensures in
    made-answer c.args.builder.now c.create_block.new.self c.args.answers.now (answer.Block c.in_ok-block.block) c.create_block.ensures.call.loans done.goes_on.grows.3
    (answered-sound _ c.create_block.result _ c.create_block.ensures.call.fails c.in_ok-block.was) c.create_block.ensures.variables
    (λ naming declared calls ready. refl)
    (λ naming declared calls ready. (c.in_ok-block.block ∷ [], ready-more calls _ c.args.builder.now c.create_block.new.self _ (answer.Block c.in_ok-block.block) ready tt (done.goes_on.grows.6, done.goes_on.grows.8) (done.told.stands declared calls ready.stands tt) (refl, refl)))
