use Rattle.std.proofs.Common.{◌≡◌, List, ◌∷◌, ap, ◌∙◌, subst}
use Rattle.std.specs.Prelude.{Bool, Err, Ok, Option, Some, map, ◌&&◌, is_some}
use Rattle.std.specs.List.{list_all}
use Rattle.std.proofs.lemmas.Bool.{and_right}
use Rattle.std.proofs.lemmas.Result.{err_from_is_err_and}
use Rattle.clif_instructions.specs.declared.block_call.BlockCall.{BlockCall}
use Rattle.clif_builder.specs.Context.{ContextState}
use Rattle.clif_builder.specs.Entries.{CreatesJumpTable}
use Rattle.clif_calls.specs.declared.call.Name.{Name}
use Rattle.clif_resolution.specs.Answers.{edge_at}
use Rattle.clif_resolution.specs.declared.answers.Answer.TheVariants as answer
use Rattle.clif_resolution.specs.declared.answers.Entry.TheVariants as entry
use Rattle.clif_replay.proofs.JumpTables.{all-there, edges-same, table-ready}
use Rattle.clif_replay.proofs.Making.{answered-sound, made-answer, made-misused, made-missed, made-refused}
use Rattle.clif_replay.proofs.make_tables.create_jump_table.Goals as goal

pub returns-in_err-default : goal.returns-in_err-default
returns-in_err-default g c =
    let p = err_from_is_err_and c.from_residual.result c.from_residual.ensures.1 in
    let b = c.args.builder.now in
    made-misused b c.args.answers.now c.edge_copied.result c.from_residual.result c.in_err-default.field-0.0 c.in_err-default.was (p.1 ∙ ap Err p.2) c.edge_copied.ensures
    (λ none naming declared calls ready.
    edges-same calls b c.args.answers.now ready (c.args.default ∷ c.args.entries.now)
    ∙ ap (λ (test : Bool). test && list_all (λ name. is_some (edge_at c.args.answers.now name)) c.args.entries.now) none)

pub returns-in_err-entries : goal.returns-in_err-entries
returns-in_err-entries g c =
    let p = err_from_is_err_and c.from_residual-in_err-entries.result c.from_residual-in_err-entries.ensures.1 in
    let b = c.args.builder.now in
    let done = c.edges_copied.ensures in
    made-missed b c.args.answers.now c.edges_copied.result c.from_residual-in_err-entries.result c.in_err-entries.field-0.0 c.in_err-entries.was (p.1 ∙ ap Err p.2)
    (λ why misuse naming declared calls ready.
    edges-same calls b c.args.answers.now ready (c.args.default ∷ c.args.entries.now)
    ∙ and_right (is_some (edge_at c.args.answers.now c.args.default)) _ (done.misuse why misuse))
    done.never_refused done.never_full

pub returns-in_err-made : goal.returns-in_err-made
returns-in_err-made g c =
    let b = c.args.builder.now in
    let answers = c.args.answers.now in
    let names : List Name = c.args.default ∷ c.args.entries.now in
    let edges : List BlockCall = c.in_ok-default.default ∷ c.in_ok-entries.entries.items in
    let found : map (edge_at answers) names ≡ map Some edges =
    ap (λ (o : Option BlockCall). o ∷ map (edge_at answers) c.args.entries.now) c.in_ok-default.ensures.found
    ∙ ap (λ (rest : List (Option BlockCall)). Some c.in_ok-default.default ∷ rest) c.in_ok-entries.ensures.edges in
    let done = c.create_jump_table.ensures in
    let p = err_from_is_err_and c.from_residual-in_err-made.result c.from_residual-in_err-made.ensures.1 in
    made-refused b c.create_jump_table.new.self answers c.create_jump_table.result c.in_err-made.field-0.0 p.0 c.from_residual-in_err-made.result
    c.in_err-made.was p.1 p.2 done.sets.call.loans c.requires.sound done.sets.call.failed
    (λ naming declared calls ready. edges-same calls b answers ready names ∙ all-there answers names edges found) (λ full. (done.full.0 full).1)

pub returns : goal.returns
returns g c =
    let b = c.args.builder.now in
    let new = c.create_jump_table.new.self in
    let answers = c.args.answers.now in
    let names : List Name = c.args.default ∷ c.args.entries.now in
    let edges : List BlockCall = c.in_ok-default.default ∷ c.in_ok-entries.entries.items in
    let found : map (edge_at answers) names ≡ map Some edges =
    ap (λ (o : Option BlockCall). o ∷ map (edge_at answers) c.args.entries.now) c.in_ok-default.ensures.found
    ∙ ap (λ (rest : List (Option BlockCall)). Some c.in_ok-default.default ∷ rest) c.in_ok-entries.ensures.edges in
    let done = c.create_jump_table.ensures in
    let creates = subst (λ (table : List BlockCall). CreatesJumpTable table b new (Ok c.in_ok-made.made)) c.in_ok-table.ensures.ok c.in_ok-made.ensures in
    made-answer b new answers (answer.Entry (entry.JumpTable c.in_ok-made.made)) done.sets.call.loans creates.sets.grows.3 (answered-sound _ c.create_jump_table.result _ done.sets.call.fails c.in_ok-made.was)
    (ap (λ (x : ContextState). x.variables) done.sets.context)
    (λ naming declared calls ready. edges-same calls b answers ready names ∙ all-there answers names edges found)
    (λ naming declared calls ready. table-ready c.table_calls_add_nothing.ensures calls b new answers c.args.default c.args.entries.now edges c.in_ok-made.made ready found creates)
