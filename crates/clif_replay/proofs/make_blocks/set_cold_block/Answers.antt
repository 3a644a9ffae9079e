use Rattle.std.proofs.Common.{[], sym, ◌∙◌, ap, refl}
use Rattle.clif_builder.specs.Context.{ContextState}
use Rattle.clif_resolution.specs.declared.answers.Answer.TheVariants as answer
use Rattle.clif_replay.proofs.Making.{made-answer, made-misuse}
use Rattle.clif_replay.proofs.ReadyLaws.{ready-more, block-found, block-there}
use Rattle.clif_replay.proofs.Placements.{cold-none, cold-some}
use Rattle.clif_replay.proofs.make_blocks.set_cold_block.Goals as goal

pub returns-in_default : goal.returns-in_default
returns-in_default g c = made-misuse c.args.builder.now c.args.answers.now (λ naming declared calls ready. cold-none calls c.args.builder.now c.args.answers.now ready c.args.name (sym c.block_named.ensures ∙ c.in_default.is))

pub set_cold_block-requires : goal.set_cold_block-requires
set_cold_block-requires g c = record { exists = block-there c.requires.calls c.args.builder.now c.args.answers.now c.requires.ready c.args.name c.in-Some.block (sym c.block_named.ensures ∙ c.in-Some.is) }

pub returns : goal.returns
returns g c =
    let done = c.set_cold_block.ensures in
    let new = c.set_cold_block.new.self in
    made-answer c.args.builder.now new c.args.answers.now answer.Nothing done.loans done.goes_on.grows.3 (done.failed ∙ c.requires.sound) (ap (λ (x : ContextState). x.variables) done.context)
    (λ naming declared calls ready. cold-some calls c.args.builder.now c.args.answers.now ready c.args.name c.in-Some.block (sym c.block_named.ensures ∙ c.in-Some.is))
    (λ naming declared calls ready. ([], ready-more calls _ c.args.builder.now new _ answer.Nothing ready tt (done.goes_on.grows.6, done.goes_on.grows.8) (done.stands declared calls (naming c.args.name) ready.stands (block-found calls c.args.builder.now c.args.answers.now ready c.args.name c.in-Some.block (sym c.block_named.ensures ∙ c.in-Some.is))) (refl, refl)))
