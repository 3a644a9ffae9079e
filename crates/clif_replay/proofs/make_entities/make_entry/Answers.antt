use Rattle.std.proofs.Common.{ap, refl, sym, subst, ◌∙◌, [], ◌∷◌}
use Rattle.std.specs.Prelude.{Err, Ok, Result, ℕ}
use Rattle.std.proofs.lemmas.Result.{err_from_is_err_and}
use Rattle.clif_types.specs.declared.error.BuildError.{BuildError}
use Rattle.clif_tables.specs.Entries.{TableEntry}
use Rattle.clif_meaning.specs.Acceptance.{can_make}
use Rattle.clif_meaning.specs.Ledger.{AnEntry, answers_to}
use Rattle.clif_meaning.specs.Request.{MakeEntry}
use Rattle.clif_builder.specs.Context.{ContextState}
use Rattle.clif_builder.specs.Entries.{MakesEntry}
use Rattle.clif_builder.specs.Ledger.{ledger_of}
use Rattle.clif_resolution.specs.Entries.{numbers_at}
use Rattle.clif_resolution.specs.declared.answers.Answer.TheVariants as answer
use Rattle.clif_resolution.specs.declared.answers.Entry.{Entry}
use Rattle.clif_replay.specs.Entries.{entry_as, entry_in, entry_new}
use Rattle.clif_replay.specs.Ready.{AnswerIs}
use Rattle.clif_replay.proofs.Entries.{entry-answered, entry-same, failed-entry, made-entry, same-table}
use Rattle.clif_replay.proofs.Making.{answered-sound, made-answer, made-misused, made-refused}
use Rattle.clif_replay.proofs.Numbers.{numbered}
use Rattle.clif_replay.proofs.ReadyLaws.{ready-more}
use Rattle.clif_replay.proofs.make_entities.make_entry.Goals as goal

pub returns-in_err-entry : goal.returns-in_err-entry
returns-in_err-entry g c =
    let b = c.args.builder.now in
    let answers = c.args.answers.now in
    let p = err_from_is_err_and c.from_residual.result c.from_residual.ensures.1 in
    numbered (λ numbers naming declared ledger. MakeEntry (entry_in numbers c.args.call.now)) b b answers c.from_residual.result
    (made-misused b answers c.entry_found.result c.from_residual.result c.in_err-entry.field-0.0 c.in_err-entry.was (p.1 ∙ ap Err p.2) c.entry_found.ensures
    (λ none naming declared calls ready. entry-same calls b answers ready (entry_in (numbers_at b.func.now answers) c.args.call.now) ∙ none))

pub append-requires : goal.append-requires
append-requires g c =
    let found = c.in_ok-entry.ensures in
    ap (can_make c.args.builder.now.func.now.tables) found.found ∙ found.may

pub returns-in_err-made : goal.returns-in_err-made
returns-in_err-made g c =
    let old = c.args.builder.now in
    let new = c.append.new.builder in
    let answers = c.args.answers.now in
    let entry : TableEntry = entry_new c.in_ok-entry.entry in
    let given : TableEntry = entry_in (numbers_at old.func.now answers) c.args.call.now in
    let found = c.in_ok-entry.ensures in
    let told = c.append.ensures in
    let done = subst (λ (made : TableEntry). MakesEntry made old new told.0) found.found told.2 in
    let p = err_from_is_err_and c.from_residual-in_err-made.result c.from_residual-in_err-made.ensures.1 in
    numbered (λ numbers naming declared ledger. MakeEntry (entry_in numbers c.args.call.now)) old new answers c.from_residual-in_err-made.result
    (made-refused old new answers told.0 c.in_err-made.field-0.0 p.0 c.from_residual-in_err-made.result
    (failed-entry entry told.0 c.in_err-made.field-0.0 (sym c.in_err-made.was ∙ told.1)) p.1 p.2 done.call.loans c.requires.sound done.call.failed
    (λ naming declared calls ready. entry-same calls old answers ready given ∙ found.may)
    (λ full. sym (same-table old.func.now.tables (numbers_at old.func.now answers) c.args.call.now) ∙ (done.full.0 full).1))

pub returns : goal.returns
returns g c =
    let old = c.args.builder.now in
    let new = c.append.new.builder in
    let answers = c.args.answers.now in
    let entry : TableEntry = entry_new c.in_ok-entry.entry in
    let given : TableEntry = entry_in (numbers_at old.func.now answers) c.args.call.now in
    let found = c.in_ok-entry.ensures in
    let told = c.in_ok-made.ensures in
    let made = made-entry entry told.0 c.in_ok-made.made told.1 in
    let done = subst (λ (result : Result ℕ BuildError). MakesEntry given old new result) made.1 (subst (λ (one : TableEntry). MakesEntry one old new told.0) found.found told.2) in
    numbered (λ numbers naming declared ledger. MakeEntry (entry_in numbers c.args.call.now)) old new answers (Ok (answer.Entry c.in_ok-made.made))
    (made-answer old new answers (answer.Entry c.in_ok-made.made) done.call.loans done.grows.3 (answered-sound _ (Ok made.0) made.0 done.call.fails refl)
    (ap (λ (x : ContextState). x.variables) done.context)
    (λ naming declared calls ready. entry-same calls old answers ready given ∙ found.may)
    (λ naming declared calls ready. (
      _,
      ready-more calls _ old new _ (answer.Entry c.in_ok-made.made) ready tt (done.grows.6, done.grows.8) (done.told.stands declared calls ready.stands tt)
          (subst (λ (one : Entry). AnswerIs (answer.Entry one) (answers_to (ledger_of calls) (MakeEntry given)) (made.0 ∷ []))
          (sym (made.2 ∙ ap (λ (one : TableEntry). entry_as (AnEntry one made.0)) found.found))
          (entry-answered calls old answers ready given made.0 done.number)),
    )))
