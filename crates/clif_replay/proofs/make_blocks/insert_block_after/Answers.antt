use Rattle.std.proofs.Common.{[], sym, ◌∙◌, ap, refl}
use Rattle.std.proofs.lemmas.Result.{err_from_is_err_and}
use Rattle.clif_resolution.specs.declared.answers.Answer.TheVariants as answer
use Rattle.clif_replay.proofs.Making.{answered-sound, made-answer, made-misuse, made-refused}
use Rattle.std.specs.Prelude.{not}
use Rattle.std.proofs.lemmas.Bool.{and_parts, not-true, false≢true}
use Rattle.clif_instructions.specs.Members.{stands_in}
use Rattle.clif_builder.specs.Context.{ContextState}
use Rattle.clif_replay.proofs.ReadyLaws.{ready-more, block-found, block-there}
use Rattle.clif_replay.proofs.Placements.{insert-none, insert-nowhere, insert-some, Stands-from_test, test-from_Stands}
use Rattle.clif_replay.proofs.make_blocks.insert_block_after.Goals as goal

pub returns-in_default : goal.returns-in_default
returns-in_default g c = made-misuse c.args.builder.now c.args.answers.now (λ naming declared calls ready. insert-none calls c.args.builder.now c.args.answers.now ready c.args.name c.args.behind (sym c.block_named.ensures ∙ c.in_default.is))

pub returns-in_default-block_named : goal.returns-in_default-block_named
returns-in_default-block_named g c = made-misuse c.args.builder.now c.args.answers.now (λ naming declared calls ready. insert-nowhere calls c.args.builder.now c.args.answers.now ready c.args.name c.args.behind (sym c.block_named-2.ensures ∙ c.in_default-block_named.is))

pub may_insert-requires-clause-block : goal.may_insert-requires-clause-block
may_insert-requires-clause-block g c = block-there c.requires.calls c.args.builder.now c.args.answers.now c.requires.ready c.args.name c.in-Some.block (sym c.block_named.ensures ∙ c.in-Some.is)

pub may_insert-requires-clause-after : goal.may_insert-requires-clause-after
may_insert-requires-clause-after g c = block-there c.requires.calls c.args.builder.now c.args.answers.now c.requires.ready c.args.behind c.in-Some-block_named.after (sym c.block_named-2.ensures ∙ c.in-Some-block_named.is)

pub returns-then-not-may_insert : goal.returns-then-not-may_insert
returns-then-not-may_insert g c = made-misuse c.args.builder.now c.args.answers.now (λ naming declared calls ready. insert-some calls c.args.builder.now c.args.answers.now ready c.args.name c.args.behind c.in-Some.block c.in-Some-block_named.after (sym c.block_named.ensures ∙ c.in-Some.is) (sym c.block_named-2.ensures ∙ c.in-Some-block_named.is) ∙ sym c.may_insert.ensures ∙ c.if-not-may_insert.true)

pub insert_fault-requires : goal.insert_fault-requires
insert_fault-requires g c = block-there c.requires.calls c.args.builder.now c.args.answers.now c.requires.ready c.args.name c.in-Some.block (sym c.block_named.ensures ∙ c.in-Some.is)

pub insert_block_after-requires-clause-exists : goal.insert_block_after-requires-clause-exists
insert_block_after-requires-clause-exists g c = block-there c.requires.calls c.args.builder.now c.args.answers.now c.requires.ready c.args.name c.in-Some.block (sym c.block_named.ensures ∙ c.in-Some.is)

pub insert_block_after-requires-clause-outside : goal.insert_block_after-requires-clause-outside
insert_block_after-requires-clause-outside g c = λ stands.
    let layout = c.args.builder.now.func.now.layout in
    let parts = and_parts (not (stands_in c.in-Some.block layout)) (stands_in c.in-Some-block_named.after layout) (sym c.may_insert.ensures ∙ c.if-not-may_insert.false) in
    false≢true (sym (not-true (stands_in c.in-Some.block layout) parts.0) ∙ test-from_Stands c.in-Some.block layout stands)

pub insert_block_after-requires-clause-inside : goal.insert_block_after-requires-clause-inside
insert_block_after-requires-clause-inside g c =
    let layout = c.args.builder.now.func.now.layout in
    let parts = and_parts (not (stands_in c.in-Some.block layout)) (stands_in c.in-Some-block_named.after layout) (sym c.may_insert.ensures ∙ c.if-not-may_insert.false) in
    Stands-from_test c.in-Some-block_named.after layout parts.1

pub returns-in_err-insert_block_after : goal.returns-in_err-insert_block_after
returns-in_err-insert_block_after g c =
    let done = c.insert_block_after.ensures in
    let p = err_from_is_err_and c.from_residual.result c.from_residual.ensures.1 in
    made-refused c.args.builder.now c.insert_block_after.new.self c.args.answers.now c.insert_block_after.result c.in_err-insert_block_after.field-0.0 p.0 c.from_residual.result c.in_err-insert_block_after.was p.1 p.2 done.call.loans c.requires.sound done.call.failed
    (λ naming declared calls ready. insert-some calls c.args.builder.now c.args.answers.now ready c.args.name c.args.behind c.in-Some.block c.in-Some-block_named.after (sym c.block_named.ensures ∙ c.in-Some.is) (sym c.block_named-2.ensures ∙ c.in-Some-block_named.is) ∙ sym c.may_insert.ensures ∙ c.if-not-may_insert.false) done.never_full

pub returns : goal.returns
returns g c =
    let done = c.in_ok-insert_block_after.ensures in
    made-answer c.args.builder.now c.insert_block_after.new.self c.args.answers.now answer.Nothing c.insert_block_after.ensures.call.loans done.goes_on.grows.3
    (answered-sound _ c.insert_block_after.result _ c.insert_block_after.ensures.call.fails c.in_ok-insert_block_after.was) (ap (λ (x : ContextState). x.variables) c.insert_block_after.ensures.context)
    (λ naming declared calls ready. insert-some calls c.args.builder.now c.args.answers.now ready c.args.name c.args.behind c.in-Some.block c.in-Some-block_named.after (sym c.block_named.ensures ∙ c.in-Some.is) (sym c.block_named-2.ensures ∙ c.in-Some-block_named.is) ∙ sym c.may_insert.ensures ∙ c.if-not-may_insert.false)
    (λ naming declared calls ready. ([], ready-more calls _ c.args.builder.now c.insert_block_after.new.self _ answer.Nothing ready tt (done.goes_on.grows.6, done.goes_on.grows.8) ((done.told (naming c.args.name) (naming c.args.behind)).stands declared calls ready.stands (block-found calls c.args.builder.now c.args.answers.now ready c.args.name c.in-Some.block (sym c.block_named.ensures ∙ c.in-Some.is), block-found calls c.args.builder.now c.args.answers.now ready c.args.behind c.in-Some-block_named.after (sym c.block_named-2.ensures ∙ c.in-Some-block_named.is))) (refl, refl)))
