use Rattle.std.proofs.Common.{ap, sym, ◌∙◌, subst}
use Rattle.std.specs.Prelude.{◌≡◌, Err, ℕ, Ok, is_some, length, slice_index_or}
use Rattle.std.proofs.lemmas.Bool.{and_from, and_right}
use Rattle.std.proofs.lemmas.Result.{err_from_is_err_and}
use Rattle.clif_ir.specs.Body.{Body}
use Rattle.clif_builder.specs.Context.{ContextState}
use Rattle.clif_resolution.specs.declared.answers.Answer.TheVariants as answer
use Rattle.clif_resolution.specs.Answers.{AnswerExists, value_of}
use Rattle.clif_resolution.specs.Conditions.{is_open, serves}
use Rattle.clif_resolution.specs.Entries.{JumpTables, numbers_at}
use Rattle.clif_resolution.specs.declared.answers.CallError.TheVariants as error
use Rattle.clif_meaning.specs.Acceptance.{br_table}
use Rattle.clif_builder.specs.Ledger.{ledger_of}
use Rattle.clif_replay.specs.Ready.{IsReadyAfter}
use Rattle.clif_replay.proofs.Conditions.{has-current}
use Rattle.clif_replay.proofs.JumpTables.{Branched, none-serves, branch-closed, branch-missing, branch-ready, branch-same, branched, serving}
use Rattle.clif_replay.proofs.Making.{answered-sound, made-answer, made-misuse, made-refused}
use Rattle.clif_replay.proofs.Numbers.{number-found, number-missing, numbered}
use Rattle.clif_replay.proofs.ReadyLaws.{answers-exist, value-exists}
use Rattle.clif_replay.proofs.make_tables.br_table.Goals as goal

pub returns-then-not-has_current : goal.returns-then-not-has_current
returns-then-not-has_current g c =
    numbered (λ numbers naming declared ledger. br_table ledger (naming c.args.index) (numbers JumpTables c.args.name)) c.args.builder.now c.args.builder.now c.args.answers.now (Err (error.Misuse _))
    (made-misuse c.args.builder.now c.args.answers.now (λ naming declared calls ready.
    branch-same calls c.args.builder.now c.args.answers.now ready c.args.index _
    ∙ branch-closed c.args.builder.now _ _ (sym c.has_current.ensures ∙ c.if-not-has_current.true)))

pub value_named-requires : goal.value_named-requires
value_named-requires g c = λ i inside.
    subst (λ (f : Body). AnswerExists f (slice_index_or c.args.answers.now i answer.Nothing)) (sym c.func.ensures)
    (answers-exist c.requires.calls c.args.builder.now c.args.answers.now c.requires.ready i inside)

pub returns-in_default : goal.returns-in_default
returns-in_default g c =
    let none = ap (λ (f : Body). value_of f c.args.answers.now c.args.index) (sym c.func.ensures) ∙ sym c.value_named.ensures ∙ c.in_default.is in
    numbered (λ numbers naming declared ledger. br_table ledger (naming c.args.index) (numbers JumpTables c.args.name)) c.args.builder.now c.args.builder.now c.args.answers.now (Err (error.Misuse _))
    (made-misuse c.args.builder.now c.args.answers.now (λ naming declared calls ready.
    branch-same calls c.args.builder.now c.args.answers.now ready c.args.index _ ∙ branch-missing c.args.builder.now _ _ none))

pub returns-in_default-jump_table_named : goal.returns-in_default-jump_table_named
returns-in_default-jump_table_named g c =
    let b = c.args.builder.now in
    let table : ℕ = (numbers_at c.args.builder.now.func.now c.args.answers.now JumpTables c.args.name) in
    let none : table ≡ length b.func.now.tables.jump_tables =
    number-missing b.func.now c.args.answers.now JumpTables c.args.name (sym c.jump_table_named.ensures ∙ c.in_default-jump_table_named.is) in
    numbered (λ numbers naming declared ledger. br_table ledger (naming c.args.index) (numbers JumpTables c.args.name)) c.args.builder.now b c.args.answers.now (Err (error.Misuse _))
    (made-misuse b c.args.answers.now (λ naming declared calls ready.
    branch-same calls b c.args.answers.now ready c.args.index table
    ∙ and_right _ (serves b table) (ap (serves b) none ∙ none-serves b)))

pub returns-then-not-may_serve : goal.returns-then-not-may_serve
returns-then-not-may_serve g c =
    let b = c.args.builder.now in
    let is = number-found b.func.now c.args.answers.now JumpTables c.args.name c.in-Some-jump_table_named.table (sym c.jump_table_named.ensures ∙ c.in-Some-jump_table_named.is) in
    numbered (λ numbers naming declared ledger. br_table ledger (naming c.args.index) (numbers JumpTables c.args.name)) c.args.builder.now b c.args.answers.now (Err (error.Misuse _))
    (made-misuse b c.args.answers.now (λ naming declared calls ready.
    branch-same calls b c.args.answers.now ready c.args.index (numbers_at c.args.builder.now.func.now c.args.answers.now JumpTables c.args.name)
    ∙ and_right _ (serves b (numbers_at c.args.builder.now.func.now c.args.answers.now JumpTables c.args.name)) (ap (serves b) is ∙ sym c.may_serve.ensures ∙ c.if-not-may_serve.true)))

pub branch-builder-requires-clause-current : goal.branch-builder-requires-clause-current
branch-builder-requires-clause-current g c =
    has-current c.requires.calls c.args.builder.now c.args.answers.now c.requires.ready (sym c.has_current.ensures ∙ c.if-not-has_current.false)

pub branch-builder-requires-clause-index_exists : goal.branch-builder-requires-clause-index_exists
branch-builder-requires-clause-index_exists g c =
    value-exists c.requires.calls c.args.builder.now c.args.answers.now c.requires.ready c.args.index c.in-Some.value
    (ap (λ (f : Body). value_of f c.args.answers.now c.args.index) (sym c.func.ensures) ∙ sym c.value_named.ensures ∙ c.in-Some.is)

pub branch-builder-requires-clause-serves : goal.branch-builder-requires-clause-serves
branch-builder-requires-clause-serves g c =
    serving c.requires.calls c.args.builder.now c.args.answers.now c.requires.ready c.in-Some-jump_table_named.table (sym c.may_serve.ensures ∙ c.if-not-may_serve.false)

pub returns-in_err-inst : goal.returns-in_err-inst
returns-in_err-inst g c =
    let b = c.args.builder.now in
    let answers = c.args.answers.now in
    let table = c.in-Some-jump_table_named.table in
    let is = number-found b.func.now answers JumpTables c.args.name table (sym c.jump_table_named.ensures ∙ c.in-Some-jump_table_named.is) in
    let found = ap (λ (f : Body). value_of f answers c.args.index) (sym c.func.ensures) ∙ sym c.value_named.ensures ∙ c.in-Some.is in
    let p = err_from_is_err_and c.from_residual.result c.from_residual.ensures.1 in
    let done = branched b c.branch-builder.new.builder c.in-Some.value table c.branch-builder.result c.requires.sound c.branch-builder.ensures in
    numbered (λ numbers naming declared ledger. br_table ledger (naming c.args.index) (numbers JumpTables c.args.name)) c.args.builder.now c.branch-builder.new.builder answers c.from_residual.result
    (made-refused b c.branch-builder.new.builder answers c.branch-builder.result c.in_err-inst.field-0.0 p.0 c.from_residual.result c.in_err-inst.was p.1 p.2
    done.loans c.requires.sound done.failed
    (λ naming declared calls ready.
    branch-same calls b answers ready c.args.index (numbers_at c.args.builder.now.func.now c.args.answers.now JumpTables c.args.name)
    ∙ and_from _ (serves b (numbers_at c.args.builder.now.func.now c.args.answers.now JumpTables c.args.name))
    (and_from (is_open b) (is_some (value_of b.func.now answers c.args.index)) (sym c.has_current.ensures ∙ c.if-not-has_current.false) (ap is_some found))
    (ap (serves b) is ∙ sym c.may_serve.ensures ∙ c.if-not-may_serve.false))
    done.full)

pub returns : goal.returns
returns g c =
    let b = c.args.builder.now in
    let new = c.branch-builder.new.builder in
    let answers = c.args.answers.now in
    let table = c.in-Some-jump_table_named.table in
    let is = number-found b.func.now answers JumpTables c.args.name table (sym c.jump_table_named.ensures ∙ c.in-Some-jump_table_named.is) in
    let found = ap (λ (f : Body). value_of f answers c.args.index) (sym c.func.ensures) ∙ sym c.value_named.ensures ∙ c.in-Some.is in
    let done : Branched b new c.in-Some.value table (Ok c.in_ok-inst.inst) =
    branched b new c.in-Some.value table (Ok c.in_ok-inst.inst) c.requires.sound c.in_ok-inst.ensures in
    let fails = (branched b new c.in-Some.value table c.branch-builder.result c.requires.sound c.branch-builder.ensures).builds.fails in
    numbered (λ numbers naming declared ledger. br_table ledger (naming c.args.index) (numbers JumpTables c.args.name)) c.args.builder.now new answers (Ok (answer.Inst c.in_ok-inst.inst))
    (made-answer b new answers (answer.Inst c.in_ok-inst.inst) done.loans (done.builds.grows.3 ∙ done.takes.sets.grows.3)
    (answered-sound _ c.branch-builder.result _ fails c.in_ok-inst.was) (done.builds.variables ∙ ap (λ (x : ContextState). x.variables) done.takes.sets.context)
    (λ naming declared calls ready.
    branch-same calls b answers ready c.args.index (numbers_at c.args.builder.now.func.now c.args.answers.now JumpTables c.args.name)
    ∙ and_from _ (serves b (numbers_at c.args.builder.now.func.now c.args.answers.now JumpTables c.args.name))
    (and_from (is_open b) (is_some (value_of b.func.now answers c.args.index)) (sym c.has_current.ensures ∙ c.if-not-has_current.false) (ap is_some found))
    (ap (serves b) is ∙ sym c.may_serve.ensures ∙ c.if-not-may_serve.false))
    (λ naming declared calls ready.
    subst (λ (number : ℕ). IsReadyAfter naming declared calls (br_table (ledger_of calls) (naming c.args.index) number) new answers (answer.Inst c.in_ok-inst.inst)) (sym is)
    (branch-ready c.requests_ask_for_their_shapes.ensures calls b new answers c.args.index c.in-Some.value table c.in_ok-inst.inst ready found done)))
