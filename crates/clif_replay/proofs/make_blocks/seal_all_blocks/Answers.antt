use Rattle.std.proofs.Common.{[], refl}
use Rattle.std.proofs.lemmas.Result.{err_from_is_err_and}
use Rattle.clif_resolution.specs.declared.answers.Answer.TheVariants as answer
use Rattle.clif_replay.proofs.Making.{answered-sound, made-answer, made-refused}
use Rattle.clif_replay.proofs.ReadyLaws.{ready-more}
use Rattle.clif_replay.proofs.make_blocks.seal_all_blocks.Goals as goal

pub returns-in_err-seal_all_blocks : goal.returns-in_err-seal_all_blocks
returns-in_err-seal_all_blocks g c =
    let done = c.seal_all_blocks.ensures in
    let p = err_from_is_err_and c.from_residual.result c.from_residual.ensures.1 in
    made-refused c.args.builder.now c.seal_all_blocks.new.self c.args.answers.now c.seal_all_blocks.result c.in_err-seal_all_blocks.field-0.0 p.0 c.from_residual.result c.in_err-seal_all_blocks.was p.1 p.2 done.call.loans c.requires.sound done.call.failed
    (λ naming declared calls ready. refl) (λ full. (c.seal_all_blocks.new.self.func.now, done.leaves.constructs, done.full full, λ calls agrees. done.leaves.within calls agrees full))

pub returns : goal.returns
returns g c =
    let done = c.in_ok-seal_all_blocks.ensures in
    made-answer c.args.builder.now c.seal_all_blocks.new.self c.args.answers.now answer.Nothing c.seal_all_blocks.ensures.call.loans done.goes_on.grows.3
    (answered-sound _ c.seal_all_blocks.result _ c.seal_all_blocks.ensures.call.fails c.in_ok-seal_all_blocks.was) c.seal_all_blocks.ensures.leaves.variables
    (λ naming declared calls ready. refl)
    (λ naming declared calls ready. ([], ready-more calls _ c.args.builder.now c.seal_all_blocks.new.self _ answer.Nothing ready tt (done.goes_on.grows.6, done.goes_on.grows.8) (done.told.stands declared calls ready.stands tt) (refl, refl)))
