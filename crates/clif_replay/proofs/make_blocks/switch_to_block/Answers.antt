use Rattle.std.proofs.Common.{[], sym, ◌∙◌, ap, refl}
use Rattle.clif_builder.specs.declared.builder.FunctionBuilder.{FunctionBuilder}
use Rattle.clif_resolution.specs.declared.answers.Answer.TheVariants as answer
use Rattle.clif_replay.proofs.Making.{made-answer, made-misuse}
use Rattle.clif_replay.proofs.ReadyLaws.{ready-more, block-found, block-there}
use Rattle.clif_replay.proofs.Conditions
use Rattle.clif_replay.proofs.make_blocks.switch_to_block.Goals as goal

pub returns-in_default : goal.returns-in_default
returns-in_default g c = made-misuse c.args.builder.now c.args.answers.now (λ naming declared calls ready. Conditions.switch-none calls c.args.builder.now c.args.answers.now ready c.args.name (sym c.block_named.ensures ∙ c.in_default.is))

pub returns-then-not-may_switch : goal.returns-then-not-may_switch
returns-then-not-may_switch g c = made-misuse c.args.builder.now c.args.answers.now (λ naming declared calls ready. Conditions.switch-some calls c.args.builder.now c.args.answers.now ready c.args.name c.in-Some.block (sym c.block_named.ensures ∙ c.in-Some.is) ∙ sym c.may_switch.ensures ∙ c.if-not-may_switch.true)

pub switch_to_block-requires-clause-exists : goal.switch_to_block-requires-clause-exists
switch_to_block-requires-clause-exists g c = block-there c.requires.calls c.args.builder.now c.args.answers.now c.requires.ready c.args.name c.in-Some.block (sym c.block_named.ensures ∙ c.in-Some.is)

pub returns : goal.returns
returns g c =
    let done = c.switch_to_block.ensures in
    let new = c.switch_to_block.new.self in
    made-answer c.args.builder.now new c.args.answers.now answer.Nothing (record { func = ap (λ (b : FunctionBuilder _). b.func.ghost_name) done.builder; ctx = ap (λ (b : FunctionBuilder _). b.ctx.ghost_name) done.builder; region = ap (λ (b : FunctionBuilder _). b.ctx.now.region) done.builder }) (ap (λ (b : FunctionBuilder _). b.func.now.name) done.builder)
    (ap (λ (b : FunctionBuilder _). b.failed) done.builder ∙ c.requires.sound) (ap (λ (b : FunctionBuilder _). b.ctx.now.parts.variables) done.builder)
    (λ naming declared calls ready. Conditions.switch-some calls c.args.builder.now c.args.answers.now ready c.args.name c.in-Some.block (sym c.block_named.ensures ∙ c.in-Some.is) ∙ sym c.may_switch.ensures ∙ c.if-not-may_switch.false)
    (λ naming declared calls ready. ([], ready-more calls _ c.args.builder.now new _ answer.Nothing ready tt (ap (λ (b : FunctionBuilder _). b.func.now.tables.jump_tables) done.builder, ap (λ (b : FunctionBuilder _). b.func.now.tables.exception_tables) done.builder) (done.stands declared calls (naming c.args.name) ready.stands (block-found calls c.args.builder.now c.args.answers.now ready c.args.name c.in-Some.block (sym c.block_named.ensures ∙ c.in-Some.is))) (refl, refl)))
