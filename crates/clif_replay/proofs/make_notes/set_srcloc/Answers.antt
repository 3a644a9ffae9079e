use Rattle.std.proofs.Common.{◌∙◌, ap, false, refl}
use Rattle.clif_builder.specs.declared.builder.FunctionBuilder.{FunctionBuilder}
use Rattle.clif_resolution.specs.declared.answers.Answer.TheVariants as answer
use Rattle.clif_replay.proofs.Making.{made-answer}
use Rattle.clif_replay.proofs.Notes.{note-ready}
use Rattle.clif_replay.proofs.make_notes.set_srcloc.Goals as goal

pub returns-clause-made : goal.returns-clause-made
returns-clause-made g c =
    let old = c.args.builder.now in
    let new = c.set_srcloc.new.self in
    let done = c.set_srcloc.ensures in
    made-answer old new c.args.answers.now answer.Nothing
    (record { func = ap (λ (b : FunctionBuilder _). b.func.ghost_name) done.builder; ctx = ap (λ (b : FunctionBuilder _). b.ctx.ghost_name) done.builder; region = ap (λ (b : FunctionBuilder _). b.ctx.now.region) done.builder })
    (ap (λ (b : FunctionBuilder _). b.func.now.name) done.builder) (ap (λ (b : FunctionBuilder _). b.failed) done.builder ∙ c.requires.sound)
    (ap (λ (b : FunctionBuilder _). b.ctx.now.parts.variables) done.builder) (λ naming declared calls ready. refl)
    (λ naming declared calls ready. note-ready c.notes_add_nothing.ensures calls old new c.args.answers.now false _ ready (done.stands declared calls ready.stands)
    (ap (λ (b : FunctionBuilder _). b.func.now.tables.jump_tables) done.builder, ap (λ (b : FunctionBuilder _). b.func.now.tables.exception_tables) done.builder))
