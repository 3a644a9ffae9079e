use Rattle.std.proofs.Common.{◌∙◌, ap, false, refl}
use Rattle.clif_builder.specs.Context.{ContextState}
use Rattle.clif_resolution.specs.declared.answers.Answer.TheVariants as answer
use Rattle.clif_replay.proofs.Making.{made-answer}
use Rattle.clif_replay.proofs.Notes.{note-ready}
use Rattle.clif_replay.proofs.make_notes.collect_debug_info.Goals as goal

pub returns-clause-made : goal.returns-clause-made
returns-clause-made g c =
    let old = c.args.builder.now in
    let new = c.collect_debug_info.new.self in
    let done = c.collect_debug_info.ensures in
    made-answer old new c.args.answers.now answer.Nothing done.loans done.grows.3 (done.failed ∙ c.requires.sound)
    (ap (λ (x : ContextState). x.variables) done.context) (λ naming declared calls ready. refl)
    (λ naming declared calls ready. note-ready c.notes_add_nothing.ensures calls old new c.args.answers.now false _ ready (done.stands declared calls ready.stands) (done.grows.6, done.grows.8))
