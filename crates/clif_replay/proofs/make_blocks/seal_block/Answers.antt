use Rattle.std.proofs.Common.{[], sym, ◌∙◌, refl}
use Rattle.std.proofs.lemmas.Result.{err_from_is_err_and}
use Rattle.clif_resolution.specs.declared.answers.Answer.TheVariants as answer
use Rattle.clif_replay.proofs.Making.{answered-sound, made-answer, made-misuse, made-refused, one-block}
use Rattle.std.proofs.lemmas.Bool.{not-true}
use Rattle.clif_records.specs.Tables.{is_yes}
use Rattle.clif_ssa.specs.Ssa.{sealed_of}
use Rattle.clif_replay.proofs.ReadyLaws.{ready-more, block-found, block-there}
use Rattle.clif_replay.proofs.Conditions
use Rattle.clif_replay.proofs.make_blocks.seal_block.Goals as goal

pub returns-in_default : goal.returns-in_default
returns-in_default g c = made-misuse c.args.builder.now c.args.answers.now (λ naming declared calls ready. Conditions.seal-none calls c.args.builder.now c.args.answers.now ready c.args.name (sym c.block_named.ensures ∙ c.in_default.is))

pub returns-then-not-may_seal : goal.returns-then-not-may_seal
returns-then-not-may_seal g c = made-misuse c.args.builder.now c.args.answers.now (λ naming declared calls ready. Conditions.seal-some calls c.args.builder.now c.args.answers.now ready c.args.name c.in-Some.block (sym c.block_named.ensures ∙ c.in-Some.is) ∙ sym c.may_seal.ensures ∙ c.if-not-may_seal.true)

pub seal_block-requires-clause-exists : goal.seal_block-requires-clause-exists
seal_block-requires-clause-exists g c = block-there c.requires.calls c.args.builder.now c.args.answers.now c.requires.ready c.args.name c.in-Some.block (sym c.block_named.ensures ∙ c.in-Some.is)

pub seal_block-requires-clause-unsealed : goal.seal_block-requires-clause-unsealed
seal_block-requires-clause-unsealed g c = not-true (is_yes (sealed_of c.args.builder.now.ctx.now.parts.ssa c.in-Some.block)) (sym c.may_seal.ensures ∙ c.if-not-may_seal.false)

pub returns-in_err-seal_block : goal.returns-in_err-seal_block
returns-in_err-seal_block g c =
    let done = c.seal_block.ensures in
    let p = err_from_is_err_and c.from_residual.result c.from_residual.ensures.1 in
    made-refused c.args.builder.now c.seal_block.new.self c.args.answers.now c.seal_block.result c.in_err-seal_block.field-0.0 p.0 c.from_residual.result c.in_err-seal_block.was p.1 p.2 done.call.loans c.requires.sound done.call.failed
    (λ naming declared calls ready. Conditions.seal-some calls c.args.builder.now c.args.answers.now ready c.args.name c.in-Some.block (sym c.block_named.ensures ∙ c.in-Some.is) ∙ sym c.may_seal.ensures ∙ c.if-not-may_seal.false) (λ full. (
      c.seal_block.new.self.func.now,
      done.leaves.constructs,
      one-block c.args.builder.now.func.now c.seal_block.new.self.func.now c.args.builder.now.ctx.now.parts.ssa c.in-Some.block (block-there c.requires.calls c.args.builder.now c.args.answers.now c.requires.ready c.args.name c.in-Some.block (sym c.block_named.ensures ∙ c.in-Some.is)) (done.full full),
      λ calls agrees. done.leaves.within calls agrees full,
    ))

pub returns : goal.returns
returns g c =
    let done = c.in_ok-seal_block.ensures in
    made-answer c.args.builder.now c.seal_block.new.self c.args.answers.now answer.Nothing c.seal_block.ensures.call.loans done.goes_on.grows.3
    (answered-sound _ c.seal_block.result _ c.seal_block.ensures.call.fails c.in_ok-seal_block.was) c.seal_block.ensures.leaves.variables
    (λ naming declared calls ready. Conditions.seal-some calls c.args.builder.now c.args.answers.now ready c.args.name c.in-Some.block (sym c.block_named.ensures ∙ c.in-Some.is) ∙ sym c.may_seal.ensures ∙ c.if-not-may_seal.false)
    (λ naming declared calls ready. ([], ready-more calls _ c.args.builder.now c.seal_block.new.self _ answer.Nothing ready tt (done.goes_on.grows.6, done.goes_on.grows.8) ((done.told (naming c.args.name)).stands declared calls ready.stands (block-found calls c.args.builder.now c.args.answers.now ready c.args.name c.in-Some.block (sym c.block_named.ensures ∙ c.in-Some.is))) (refl, refl)))
