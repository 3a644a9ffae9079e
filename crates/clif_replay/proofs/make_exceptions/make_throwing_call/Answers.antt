use Rattle.std.proofs.Common.{ℕ, ◌<◌, ◌≤◌, length, ap, sym, ◌∙◌, subst}
use Rattle.std.specs.Prelude.{Err, Ok, Option, slice_index}
use Rattle.std.specs.List.{All}
use Rattle.std.proofs.lemmas.Result.{err_from_is_err_and}
use Rattle.clif_types.specs.declared.types.«Type».TheVariants.{Invalid}
use Rattle.clif_instructions.specs.Instruction.{contexts, destinations, entries_of, operands}
use Rattle.clif_instructions.specs.declared.instructions.InstructionData.{InstructionData}
use Rattle.clif_ir.specs.Consistent.{EntryExists, ValueExists}
use Rattle.clif_ssa.specs.Limits.{IsFull}
use Rattle.clif_tables.specs.Callees.{count_of_results}
use Rattle.clif_builder.specs.Builder.{CanLead}
use Rattle.clif_builder.specs.Built.{Builds}
use Rattle.clif_builder.specs.Context.{ContextState}
use Rattle.clif_builder.specs.Entries.{MayServeTry, TakesExceptionTable}
use Rattle.clif_resolution.specs.declared.answers.Answer.TheVariants as answer
use Rattle.clif_replay.proofs.Conditions.{has-current}
use Rattle.clif_replay.proofs.Making.{answered-sound, full-either, made-answer, made-misused, made-refused}
use Rattle.clif_resolution.specs.Callings.{shape_with}
use Rattle.clif_resolution.specs.Entries.{numbers_at}
use Rattle.clif_replay.specs.Requests.{throwing_request}
use Rattle.clif_replay.proofs.Numbers.{numbered}
use Rattle.clif_replay.proofs.ReadyLaws.{answers-exist}
use Rattle.clif_replay.proofs.Throwing.{can-open, never-full, not-failed, throwing-contexts, throwing-count, throwing-edges, throwing-entries, throwing-exist, throwing-ready, throwing-same, trying}
use Rattle.clif_replay.proofs.make_exceptions.make_throwing_call.Goals as goal

pub operands_found-requires : goal.operands_found-requires
operands_found-requires g c = answers-exist c.requires.calls c.args.builder.now c.args.answers.now c.requires.ready

pub returns-in_err-tried : goal.returns-in_err-tried
returns-in_err-tried g c =
    let p = err_from_is_err_and c.from_residual.result c.from_residual.ensures.1 in
    numbered (λ numbers naming declared ledger. throwing_request numbers naming ledger c.args.called.now) c.args.builder.now c.args.builder.now c.args.answers.now c.from_residual.result
    (made-misused c.args.builder.now c.args.answers.now c.operands_found.result c.from_residual.result c.in_err-tried.field-0.0 c.in_err-tried.was (p.1 ∙ ap Err p.2) c.operands_found.ensures
    (λ none naming declared calls ready. throwing-same calls c.args.builder.now c.args.answers.now ready c.args.called.now ∙ none))

pub take-requires-clause-current : goal.take-requires-clause-current
take-requires-clause-current g c =
    has-current c.requires.calls c.args.builder.now c.args.answers.now c.requires.ready (can-open c.args.builder.now c.args.answers.now c.args.called.now c.in_ok-tried.ensures.may)

pub take-requires-clause-serves : goal.take-requires-clause-serves
take-requires-clause-serves g c =
    subst (MayServeTry c.args.builder.now) (sym c.in_ok-tried.ensures.found.table)
    (trying c.requires.calls c.args.builder.now c.args.answers.now c.requires.ready c.args.called.now c.in_ok-tried.ensures.may)

pub returns-in_err-held : goal.returns-in_err-held
returns-in_err-held g c =
    let done = c.take.ensures in
    let p = err_from_is_err_and c.from_residual-in_err-held.result c.from_residual-in_err-held.ensures.1 in
    numbered (λ numbers naming declared ledger. throwing_request numbers naming ledger c.args.called.now) c.args.builder.now c.take.new.builder c.args.answers.now c.from_residual-in_err-held.result
    (made-refused c.args.builder.now c.take.new.builder c.args.answers.now c.take.result c.in_err-held.field-0.0 p.0 c.from_residual-in_err-held.result c.in_err-held.was p.1 p.2
    done.sets.call.loans c.requires.sound done.sets.call.failed
    (λ naming declared calls ready. throwing-same calls c.args.builder.now c.args.answers.now ready c.args.called.now ∙ c.in_ok-tried.ensures.may)
    (λ full. absurd (never-full c.take.result done full)))

pub append-requires-clause-current : goal.append-requires-clause-current
append-requires-clause-current g c =
    c.in_ok-held.ensures.sets.current
    (has-current c.requires.calls c.args.builder.now c.args.answers.now c.requires.ready (can-open c.args.builder.now c.args.answers.now c.args.called.now c.in_ok-tried.ensures.may))

pub append-requires-clause-operands_exist : goal.append-requires-clause-operands_exist
append-requires-clause-operands_exist g c =
    subst (λ (s : InstructionData). (k : ℕ) → k < length (operands s) → slice_index (operands s) k < length c.take.new.builder.func.now.values) (sym (c.with_table-shape.ensures ∙ ap (λ (function : Option ℕ). shape_with function c.in_ok-tried.tried.args c.in_ok-held.held) c.in_ok-tried.ensures.found.function))
    (throwing-exist c.requires.calls c.args.builder.now c.take.new.builder c.args.answers.now c.requires.ready c.args.called.now c.in_ok-tried.tried.args c.in_ok-held.held
    c.in_ok-tried.ensures.found.values c.in_ok-held.ensures.sets.grows.0)

pub append-requires-clause-contexts_exist : goal.append-requires-clause-contexts_exist
append-requires-clause-contexts_exist g c =
    let named = c.in_ok-held.ensures.can_be_named (subst (MayServeTry c.args.builder.now) (sym c.in_ok-tried.ensures.found.table)
    (trying c.requires.calls c.args.builder.now c.args.answers.now c.requires.ready c.args.called.now c.in_ok-tried.ensures.may)) in
    subst (λ (s : InstructionData). All (ValueExists c.take.new.builder.func.now) (contexts s)) (sym (c.with_table-shape.ensures ∙ ap (λ (function : Option ℕ). shape_with function c.in_ok-tried.tried.args c.in_ok-held.held) c.in_ok-tried.ensures.found.function))
    (subst (All (ValueExists c.take.new.builder.func.now)) (sym (throwing-contexts (numbers_at c.args.builder.now.func.now c.args.answers.now) c.args.called.now c.in_ok-tried.tried.args c.in_ok-held.held)) named.1)

pub append-requires-clause-edges : goal.append-requires-clause-edges
append-requires-clause-edges g c =
    let named = c.in_ok-held.ensures.can_be_named (subst (MayServeTry c.args.builder.now) (sym c.in_ok-tried.ensures.found.table)
    (trying c.requires.calls c.args.builder.now c.args.answers.now c.requires.ready c.args.called.now c.in_ok-tried.ensures.may)) in
    subst (λ (s : InstructionData). All (CanLead c.take.new.builder) (destinations s)) (sym (c.with_table-shape.ensures ∙ ap (λ (function : Option ℕ). shape_with function c.in_ok-tried.tried.args c.in_ok-held.held) c.in_ok-tried.ensures.found.function))
    (subst (All (CanLead c.take.new.builder)) (sym (throwing-edges (numbers_at c.args.builder.now.func.now c.args.answers.now) c.args.called.now c.in_ok-tried.tried.args c.in_ok-held.held)) named.0)

pub append-requires-clause-entries_exist : goal.append-requires-clause-entries_exist
append-requires-clause-entries_exist g c =
    let named = c.in_ok-held.ensures.can_be_named (subst (MayServeTry c.args.builder.now) (sym c.in_ok-tried.ensures.found.table)
    (trying c.requires.calls c.args.builder.now c.args.answers.now c.requires.ready c.args.called.now c.in_ok-tried.ensures.may)) in
    let takes = subst (λ (t : ℕ). TakesExceptionTable c.args.builder.now c.take.new.builder t (Ok c.in_ok-held.held)) c.in_ok-tried.ensures.found.table c.in_ok-held.ensures in
    subst (λ (s : InstructionData). All (EntryExists c.take.new.builder.func.now.tables) (entries_of s)) (sym (c.with_table-shape.ensures ∙ ap (λ (function : Option ℕ). shape_with function c.in_ok-tried.tried.args c.in_ok-held.held) c.in_ok-tried.ensures.found.function))
    (throwing-entries c.args.builder.now c.take.new.builder c.args.answers.now c.args.called.now c.in_ok-tried.tried.args c.in_ok-held.held c.in_ok-tried.ensures.may takes named.2)

pub returns-in_err-inst : goal.returns-in_err-inst
returns-in_err-inst g c =
    let b = c.args.builder.now in
    let between = c.take.new.builder in
    let takes = c.in_ok-held.ensures in
    let done = c.append.ensures in
    let p = err_from_is_err_and c.from_residual-in_err-inst.result c.from_residual-in_err-inst.ensures.1 in
    let count = subst (λ (s : InstructionData). count_of_results between.func.now.tables s ≤ 1) (sym (c.with_table-shape.ensures ∙ ap (λ (function : Option ℕ). shape_with function c.in_ok-tried.tried.args c.in_ok-held.held) c.in_ok-tried.ensures.found.function))
    (throwing-count between.func.now.tables (numbers_at c.args.builder.now.func.now c.args.answers.now) c.args.called.now c.in_ok-tried.tried.args c.in_ok-held.held) in
    numbered (λ numbers naming declared ledger. throwing_request numbers naming ledger c.args.called.now) c.args.builder.now c.append.new.builder c.args.answers.now c.from_residual-in_err-inst.result
    (made-refused b c.append.new.builder c.args.answers.now c.append.result c.in_err-inst.field-0.0 p.0 c.from_residual-in_err-inst.result c.in_err-inst.was p.1 p.2
    (record { func = done.loans.func ∙ takes.sets.call.loans.func; ctx = done.loans.ctx ∙ takes.sets.call.loans.ctx; region = done.loans.region ∙ takes.sets.call.loans.region }) c.requires.sound
    (not-failed c.append.result b.failed between.failed c.requires.sound takes.sets.call.fails done.failed)
    (λ naming declared calls ready. throwing-same calls b c.args.answers.now ready c.args.called.now ∙ c.in_ok-tried.ensures.may)
    (λ full. subst IsFull takes.sets.function (full-either between.func.now (done.full_table count full))))

pub returns : goal.returns
returns g c =
    let b = c.args.builder.now in
    let between = c.take.new.builder in
    let new = c.append.new.builder in
    let answers = c.args.answers.now in
    let inst = c.in_ok-inst.inst in
    let takes = subst (λ (t : ℕ). TakesExceptionTable b between t (Ok c.in_ok-held.held)) c.in_ok-tried.ensures.found.table c.in_ok-held.ensures in
    let builds = subst (λ (s : InstructionData). Builds between new s Invalid (Ok inst)) (c.with_table-shape.ensures ∙ ap (λ (function : Option ℕ). shape_with function c.in_ok-tried.tried.args c.in_ok-held.held) c.in_ok-tried.ensures.found.function) c.in_ok-inst.ensures in
    numbered (λ numbers naming declared ledger. throwing_request numbers naming ledger c.args.called.now) c.args.builder.now new answers (Ok (answer.Inst inst))
    (made-answer b new answers (answer.Inst inst)
    (record { func = builds.loans.func ∙ takes.sets.call.loans.func; ctx = builds.loans.ctx ∙ takes.sets.call.loans.ctx; region = builds.loans.region ∙ takes.sets.call.loans.region }) (builds.grows.3 ∙ takes.sets.grows.3)
    (answered-sound _ c.append.result _ c.append.ensures.fails c.in_ok-inst.was) (builds.variables ∙ ap (λ (x : ContextState). x.variables) takes.sets.context)
    (λ naming declared calls ready. throwing-same calls b answers ready c.args.called.now ∙ c.in_ok-tried.ensures.may)
    (λ naming declared calls ready.
    throwing-ready c.requests_ask_for_their_shapes.ensures calls b between new answers c.args.called.now c.in_ok-tried.tried.args c.in_ok-held.held inst ready c.in_ok-tried.ensures.found.values takes builds))
