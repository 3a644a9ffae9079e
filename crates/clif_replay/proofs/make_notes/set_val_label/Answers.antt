use Rattle.std.proofs.Common.{◌∙◌, ap, false, sym, subst}
use Rattle.std.specs.Prelude.{slice_index_or}
use Rattle.std.proofs.lemmas.Result.{err_from_is_err_and}
use Rattle.clif_ir.specs.Body.{Body}
use Rattle.clif_builder.specs.Context.{ContextState}
use Rattle.clif_resolution.specs.declared.answers.Answer.TheVariants as answer
use Rattle.clif_resolution.specs.Answers.{AnswerExists, value_of}
use Rattle.clif_replay.proofs.Making.{answered-sound, made-answer, made-misuse, made-refused}
use Rattle.clif_replay.proofs.Notes.{note-none, note-ready, note-some}
use Rattle.clif_replay.proofs.ReadyLaws.{answers-exist, value-exists}
use Rattle.clif_replay.proofs.make_notes.set_val_label.Goals as goal

pub value_named-requires : goal.value_named-requires
value_named-requires g c = λ i inside.
    subst (λ (f : Body). AnswerExists f (slice_index_or c.args.answers.now i answer.Nothing)) (sym c.func.ensures) (answers-exist c.requires.calls c.args.builder.now c.args.answers.now c.requires.ready i inside)

pub returns-in_default-clause-made : goal.returns-in_default-clause-made
returns-in_default-clause-made g c =
    made-misuse c.args.builder.now c.args.answers.now (λ naming declared calls ready. note-none calls c.args.builder.now c.args.answers.now ready c.args.name
    (ap (λ (f : Body). value_of f c.args.answers.now c.args.name) (sym c.func.ensures) ∙ sym c.value_named.ensures ∙ c.in_default.is))

pub set_val_label-requires : goal.set_val_label-requires
set_val_label-requires g c = record {
  exists = value-exists c.requires.calls c.args.builder.now c.args.answers.now c.requires.ready c.args.name c.in-Some.value
      (ap (λ (f : Body). value_of f c.args.answers.now c.args.name) (sym c.func.ensures) ∙ sym c.value_named.ensures ∙ c.in-Some.is);
}

pub returns-in_err-set_val_label-clause-made : goal.returns-in_err-set_val_label-clause-made
returns-in_err-set_val_label-clause-made g c =
    let old = c.args.builder.now in
    let done = c.set_val_label.ensures in
    let p = err_from_is_err_and c.from_residual.result c.from_residual.ensures.1 in
    made-refused old c.set_val_label.new.self c.args.answers.now c.set_val_label.result c.in_err-set_val_label.field-0.0 p.0 c.from_residual.result c.in_err-set_val_label.was p.1 p.2
    done.sets.call.loans c.requires.sound done.sets.call.failed
    (λ naming declared calls ready. note-some calls old c.args.answers.now ready c.args.name c.in-Some.value
    (ap (λ (f : Body). value_of f c.args.answers.now c.args.name) (sym c.func.ensures) ∙ sym c.value_named.ensures ∙ c.in-Some.is))
    done.never_full

pub returns-clause-made : goal.returns-clause-made
returns-clause-made g c =
    let old = c.args.builder.now in
    let new = c.set_val_label.new.self in
    let done = c.in_ok-set_val_label.ensures in
    made-answer old new c.args.answers.now answer.Nothing c.set_val_label.ensures.sets.call.loans done.grows.3
    (answered-sound _ c.set_val_label.result _ c.set_val_label.ensures.sets.call.fails c.in_ok-set_val_label.was)
    (ap (λ (x : ContextState). x.variables) c.set_val_label.ensures.sets.context)
    (λ naming declared calls ready. note-some calls old c.args.answers.now ready c.args.name c.in-Some.value
    (ap (λ (f : Body). value_of f c.args.answers.now c.args.name) (sym c.func.ensures) ∙ sym c.value_named.ensures ∙ c.in-Some.is))
    (λ naming declared calls ready. note-ready c.notes_add_nothing.ensures calls old new c.args.answers.now false _ ready (done.sets.stands declared calls ready.stands) (done.grows.6, done.grows.8))

pub returns-clause-labels : goal.returns-clause-labels
returns-clause-labels g c = (
  c.in-Some.value,
  ap (λ (f : Body). value_of f c.args.answers.now c.args.name) (sym c.func.ensures) ∙ sym c.value_named.ensures ∙ c.in-Some.is,
  c.in_ok-set_val_label.ensures.sets.function,
)
