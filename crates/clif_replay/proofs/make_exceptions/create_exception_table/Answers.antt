use Rattle.std.proofs.Common.{◌≡◌, ap, length, sym, ◌∙◌, subst, ℕ}
use Rattle.std.specs.Prelude.{Bool, Err, Ok, Some, map, nat_lt, ◌&&◌, is_some}
use Rattle.std.proofs.lemmas.Bool.{and_from, and_left, and_right, ltb-true}
use Rattle.std.proofs.lemmas.Result.{err_from_is_err_and}
use Rattle.clif_instructions.specs.declared.exception_table.ExceptionTableData.{ExceptionTableData}
use Rattle.clif_ir.specs.Body.{Body}
use Rattle.clif_builder.specs.Context.{ContextState}
use Rattle.clif_resolution.specs.Answers.{AnswersExist, all_items, edge_at, item_in}
use Rattle.clif_meaning.specs.Request.{MakeExceptionTable}
use Rattle.clif_resolution.specs.Entries.{Signatures, numbers_at}
use Rattle.clif_resolution.specs.declared.answers.Answer.TheVariants as answer
use Rattle.clif_resolution.specs.declared.answers.CallError.TheVariants as error
use Rattle.clif_resolution.specs.declared.answers.Entry.TheVariants as entry
use Rattle.clif_resolution.proofs.Planning.{none-below}
use Rattle.clif_replay.specs.Requests.{item_of}
use Rattle.clif_replay.proofs.Numbers.{number-found, number-missing, numbered}
use Rattle.clif_replay.proofs.Making.{answered-sound, made-answer, made-misuse, made-misused, made-missed, made-refused}
use Rattle.clif_replay.proofs.ReadyLaws.{answers-exist}
use Rattle.clif_replay.proofs.Throwing.{exceptions-ready, exceptions-same, exceptions-there}
use Rattle.clif_replay.proofs.make_exceptions.create_exception_table.Goals as goal

pub returns-in_err-normal : goal.returns-in_err-normal
returns-in_err-normal g c =
    let p = err_from_is_err_and c.from_residual.result c.from_residual.ensures.1 in
    let b = c.args.builder.now in
    let answers = c.args.answers.now in
    numbered (λ numbers naming declared ledger. MakeExceptionTable (numbers Signatures c.args.signature) (naming c.args.normal) (map (item_of naming) c.args.items.now)) c.args.builder.now b answers c.from_residual.result
    (made-misused b answers c.edge_copied.result c.from_residual.result c.in_err-normal.field-0.0 c.in_err-normal.was (p.1 ∙ ap Err p.2) c.edge_copied.ensures
    (λ none naming declared calls ready.
    exceptions-same calls b answers ready (numbers_at b.func.now answers Signatures c.args.signature) c.args.normal c.args.items.now
    ∙ ap (λ (test : Bool). test && all_items b.func.now answers c.args.items.now && nat_lt (numbers_at b.func.now answers Signatures c.args.signature) (length b.func.now.tables.signatures)) none))

pub items_found-requires : goal.items_found-requires
items_found-requires g c =
    subst (λ (f : Body). AnswersExist f c.args.answers.now) (sym c.func-2.ensures)
    (answers-exist c.requires.calls c.args.builder.now c.args.answers.now c.requires.ready)

pub returns-in_err-items : goal.returns-in_err-items
returns-in_err-items g c =
    let p = err_from_is_err_and c.from_residual-in_err-items.result c.from_residual-in_err-items.ensures.1 in
    let b = c.args.builder.now in
    let answers = c.args.answers.now in
    let done = c.items_found.ensures in
    numbered (λ numbers naming declared ledger. MakeExceptionTable (numbers Signatures c.args.signature) (naming c.args.normal) (map (item_of naming) c.args.items.now)) c.args.builder.now b answers c.from_residual-in_err-items.result
    (made-missed b answers c.items_found.result c.from_residual-in_err-items.result c.in_err-items.field-0.0 c.in_err-items.was (p.1 ∙ ap Err p.2)
    (λ why misuse naming declared calls ready.
    exceptions-same calls b answers ready (numbers_at b.func.now answers Signatures c.args.signature) c.args.normal c.args.items.now
    ∙ and_left _ (nat_lt (numbers_at b.func.now answers Signatures c.args.signature) (length b.func.now.tables.signatures)) (and_right (is_some (edge_at answers c.args.normal)) _
    (ap (λ (f : Body). all_items f answers c.args.items.now) (sym c.func-2.ensures) ∙ done.misuse why misuse)))
    done.never_refused done.never_full)

pub returns-in_default : goal.returns-in_default
returns-in_default g c =
    let b = c.args.builder.now in
    let answers = c.args.answers.now in
    let none = number-missing b.func.now answers Signatures c.args.signature (sym c.signature_named.ensures ∙ c.in_default.is) in
    numbered (λ numbers naming declared ledger. MakeExceptionTable (numbers Signatures c.args.signature) (naming c.args.normal) (map (item_of naming) c.args.items.now)) c.args.builder.now b answers (Err (error.Misuse _))
    (made-misuse b answers (λ naming declared calls ready.
    exceptions-same calls b answers ready (numbers_at b.func.now answers Signatures c.args.signature) c.args.normal c.args.items.now
    ∙ and_right _ (nat_lt (numbers_at b.func.now answers Signatures c.args.signature) (length b.func.now.tables.signatures))
    (ap (λ (n : ℕ). nat_lt n (length b.func.now.tables.signatures)) none ∙ none-below (length b.func.now.tables.signatures))))

pub returns-then-not-has_signature : goal.returns-then-not-has_signature
returns-then-not-has_signature g c =
    let b = c.args.builder.now in
    let answers = c.args.answers.now in
    let is = number-found b.func.now answers Signatures c.args.signature c.in-Some.sig (sym c.signature_named.ensures ∙ c.in-Some.is) in
    numbered (λ numbers naming declared ledger. MakeExceptionTable (numbers Signatures c.args.signature) (naming c.args.normal) (map (item_of naming) c.args.items.now)) c.args.builder.now b answers (Err (error.Misuse _))
    (made-misuse b answers (λ naming declared calls ready.
    exceptions-same calls b answers ready (numbers_at b.func.now answers Signatures c.args.signature) c.args.normal c.args.items.now
    ∙ and_right _ (nat_lt (numbers_at b.func.now answers Signatures c.args.signature) (length b.func.now.tables.signatures))
    (ap (λ (n : ℕ). nat_lt n (length b.func.now.tables.signatures)) is ∙ sym c.has_signature.ensures ∙ c.if-not-has_signature.true)))

pub create_exception_table-requires : goal.create_exception_table-requires
create_exception_table-requires g c =
    record { imported = ltb-true c.in-Some.sig (length c.args.builder.now.func.now.tables.signatures) (sym c.has_signature.ensures ∙ c.if-not-has_signature.false) }

pub returns-in_err-made : goal.returns-in_err-made
returns-in_err-made g c =
    let b = c.args.builder.now in
    let answers = c.args.answers.now in
    let is = number-found b.func.now answers Signatures c.args.signature c.in-Some.sig (sym c.signature_named.ensures ∙ c.in-Some.is) in
    let imported = ap (λ (n : ℕ). nat_lt n (length b.func.now.tables.signatures)) is ∙ sym c.has_signature.ensures ∙ c.if-not-has_signature.false in
    let found = subst (λ (f : Body). map (item_in f answers) c.args.items.now ≡ map Some c.in_ok-items.items.items) c.func-2.ensures c.in_ok-items.ensures.found in
    let done = c.create_exception_table.ensures in
    let p = err_from_is_err_and c.from_residual-in_err-made.result c.from_residual-in_err-made.ensures.1 in
    numbered (λ numbers naming declared ledger. MakeExceptionTable (numbers Signatures c.args.signature) (naming c.args.normal) (map (item_of naming) c.args.items.now)) c.args.builder.now c.create_exception_table.new.self answers c.from_residual-in_err-made.result
    (made-refused b c.create_exception_table.new.self answers c.create_exception_table.result c.in_err-made.field-0.0 p.0 c.from_residual-in_err-made.result
    c.in_err-made.was p.1 p.2 done.sets.call.loans c.requires.sound done.sets.call.failed
    (λ naming declared calls ready.
    exceptions-same calls b answers ready (numbers_at b.func.now answers Signatures c.args.signature) c.args.normal c.args.items.now
    ∙ and_from _ (nat_lt (numbers_at b.func.now answers Signatures c.args.signature) (length b.func.now.tables.signatures))
    (exceptions-there b.func.now answers c.args.normal c.args.items.now c.in_ok-normal.normal c.in_ok-items.items.items c.in_ok-normal.ensures.found found) imported)
    (λ full. (done.full.0 full).1))

pub returns : goal.returns
returns g c =
    let b = c.args.builder.now in
    let new = c.create_exception_table.new.self in
    let answers = c.args.answers.now in
    let number : ℕ = c.in_ok-made.made in
    let is = number-found b.func.now answers Signatures c.args.signature c.in-Some.sig (sym c.signature_named.ensures ∙ c.in-Some.is) in
    let imported = ap (λ (n : ℕ). nat_lt n (length b.func.now.tables.signatures)) is ∙ sym c.has_signature.ensures ∙ c.if-not-has_signature.false in
    let given : ExceptionTableData = record { sig = c.in-Some.sig; normal = c.in_ok-normal.normal; items = c.in_ok-items.items } in
    let found = subst (λ (f : Body). map (item_in f answers) c.args.items.now ≡ map Some c.in_ok-items.items.items) c.func-2.ensures c.in_ok-items.ensures.found in
    let done = c.create_exception_table.ensures in
    let creates = c.in_ok-made.ensures in
    numbered (λ numbers naming declared ledger. MakeExceptionTable (numbers Signatures c.args.signature) (naming c.args.normal) (map (item_of naming) c.args.items.now)) c.args.builder.now new answers (Ok (answer.Entry (entry.ExceptionTable number)))
    (made-answer b new answers (answer.Entry (entry.ExceptionTable number)) done.sets.call.loans creates.sets.grows.3
    (answered-sound _ c.create_exception_table.result _ done.sets.call.fails c.in_ok-made.was)
    (ap (λ (x : ContextState). x.variables) done.sets.context)
    (λ naming declared calls ready.
    exceptions-same calls b answers ready (numbers_at b.func.now answers Signatures c.args.signature) c.args.normal c.args.items.now
    ∙ and_from _ (nat_lt (numbers_at b.func.now answers Signatures c.args.signature) (length b.func.now.tables.signatures))
    (exceptions-there b.func.now answers c.args.normal c.args.items.now c.in_ok-normal.normal c.in_ok-items.items.items c.in_ok-normal.ensures.found found) imported)
    (λ naming declared calls ready.
    exceptions-ready c.table_calls_add_nothing.ensures calls b new answers (numbers_at b.func.now answers Signatures c.args.signature) c.args.normal c.args.items.now given number ready (sym is)
    c.in_ok-normal.ensures.found found creates))
