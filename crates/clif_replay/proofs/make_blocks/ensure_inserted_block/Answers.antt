use Rattle.std.proofs.Common.{[], sym, ◌∙◌, refl}
use Rattle.std.proofs.lemmas.Result.{err_from_is_err_and}
use Rattle.clif_resolution.specs.declared.answers.Answer.TheVariants as answer
use Rattle.clif_replay.proofs.Making.{answered-sound, made-answer, made-misuse, made-refused}
use Rattle.clif_replay.proofs.ReadyLaws.{ready-more}
use Rattle.clif_replay.proofs.Conditions.{has-current, open-same}
use Rattle.clif_replay.proofs.make_blocks.ensure_inserted_block.Goals as goal

pub returns-then-not-has_current : goal.returns-then-not-has_current
returns-then-not-has_current g c = made-misuse c.args.builder.now c.args.answers.now (λ naming declared calls ready. open-same calls c.args.builder.now c.args.answers.now ready ∙ sym c.has_current.ensures ∙ c.if-not-has_current.true)

pub ensure_inserted_block-requires : goal.ensure_inserted_block-requires
ensure_inserted_block-requires g c = record { current = has-current c.requires.calls c.args.builder.now c.args.answers.now c.requires.ready (sym c.has_current.ensures ∙ c.if-not-has_current.false) }

pub returns-in_err-ensure_inserted_block : goal.returns-in_err-ensure_inserted_block
returns-in_err-ensure_inserted_block g c =
    let done = c.ensure_inserted_block.ensures in
    let p = err_from_is_err_and c.from_residual.result c.from_residual.ensures.1 in
    made-refused c.args.builder.now c.ensure_inserted_block.new.self c.args.answers.now c.ensure_inserted_block.result c.in_err-ensure_inserted_block.field-0.0 p.0 c.from_residual.result c.in_err-ensure_inserted_block.was p.1 p.2 done.call.loans c.requires.sound done.call.failed
    (λ naming declared calls ready. open-same calls c.args.builder.now c.args.answers.now ready ∙ sym c.has_current.ensures ∙ c.if-not-has_current.false) done.never_full

pub returns : goal.returns
returns g c =
    let done = c.in_ok-ensure_inserted_block.ensures in
    made-answer c.args.builder.now c.ensure_inserted_block.new.self c.args.answers.now answer.Nothing c.ensure_inserted_block.ensures.call.loans done.goes_on.grows.3
    (answered-sound _ c.ensure_inserted_block.result _ c.ensure_inserted_block.ensures.call.fails c.in_ok-ensure_inserted_block.was) c.ensure_inserted_block.ensures.variables
    (λ naming declared calls ready. open-same calls c.args.builder.now c.args.answers.now ready ∙ sym c.has_current.ensures ∙ c.if-not-has_current.false)
    (λ naming declared calls ready. ([], ready-more calls _ c.args.builder.now c.ensure_inserted_block.new.self _ answer.Nothing ready tt (done.goes_on.grows.6, done.goes_on.grows.8) (done.told.stands declared calls ready.stands tt) (refl, refl)))
