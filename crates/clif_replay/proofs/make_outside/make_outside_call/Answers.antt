use Rattle.std.proofs.Common.{ap, sym, ◌∙◌, subst}
use Rattle.std.specs.Prelude.{Err, Ok}
use Rattle.std.specs.List.{All}
use Rattle.std.proofs.lemmas.Result.{err_from_is_err_and}
use Rattle.clif_instructions.specs.Instruction.{contexts, destinations}
use Rattle.clif_instructions.specs.declared.instructions.InstructionData.{InstructionData}
use Rattle.clif_ir.specs.Consistent.{ValueExists}
use Rattle.clif_builder.specs.Builder.{CanLead}
use Rattle.clif_resolution.specs.declared.answers.Answer.TheVariants as answer
use Rattle.clif_replay.proofs.Conditions.{has-current}
use Rattle.clif_replay.proofs.Making.{answered-sound, made-answer, made-misused, made-refused}
use Rattle.clif_replay.proofs.Outside.{outside-contexts, outside-edges, outside-exist, outside-full, outside-imported, outside-open, outside-ready, outside-same}
use Rattle.clif_resolution.specs.Entries.{numbers_at}
use Rattle.clif_replay.specs.Requests.{outside_request}
use Rattle.clif_replay.proofs.Numbers.{numbered}
use Rattle.clif_replay.proofs.ReadyLaws.{answers-exist}
use Rattle.clif_replay.proofs.make_outside.make_outside_call.Goals as goal

pub outside_call_found-requires : goal.outside_call_found-requires
outside_call_found-requires g c = answers-exist c.requires.calls c.args.builder.now c.args.answers.now c.requires.ready

pub returns-in_err-shape : goal.returns-in_err-shape
returns-in_err-shape g c =
    let p = err_from_is_err_and c.from_residual.result c.from_residual.ensures.1 in
    numbered (λ numbers naming declared ledger. outside_request numbers naming ledger c.args.called.now) c.args.builder.now c.args.builder.now c.args.answers.now c.from_residual.result
    (made-misused c.args.builder.now c.args.answers.now c.outside_call_found.result c.from_residual.result c.in_err-shape.field-0.0 c.in_err-shape.was (p.1 ∙ ap Err p.2) c.outside_call_found.ensures
    (λ none naming declared calls ready. outside-same calls c.args.builder.now c.args.answers.now ready c.args.called.now ∙ none))

pub append-requires-clause-current : goal.append-requires-clause-current
append-requires-clause-current g c =
    has-current c.requires.calls c.args.builder.now c.args.answers.now c.requires.ready (outside-open c.args.builder.now c.args.answers.now c.args.called.now c.in_ok-shape.ensures.may)

pub append-requires-clause-operands_exist : goal.append-requires-clause-operands_exist
append-requires-clause-operands_exist g c = outside-exist c.requires.calls c.args.builder.now c.args.answers.now c.requires.ready c.args.called.now _ c.in_ok-shape.ensures.found

pub append-requires-clause-contexts_exist : goal.append-requires-clause-contexts_exist
append-requires-clause-contexts_exist g c =
    let found = c.in_ok-shape.ensures.found in
    subst (λ (s : InstructionData). All (ValueExists c.args.builder.now.func.now) (contexts s)) (sym found.2) (outside-contexts c.args.builder.now.func.now (numbers_at c.args.builder.now.func.now c.args.answers.now) c.args.called.now found.0)

pub append-requires-clause-edges : goal.append-requires-clause-edges
append-requires-clause-edges g c =
    let found = c.in_ok-shape.ensures.found in
    subst (λ (s : InstructionData). All (CanLead c.args.builder.now) (destinations s)) (sym found.2) (outside-edges c.args.builder.now (numbers_at c.args.builder.now.func.now c.args.answers.now) c.args.called.now found.0)

pub append-requires-clause-entries_exist : goal.append-requires-clause-entries_exist
append-requires-clause-entries_exist g c =
    outside-imported c.args.builder.now c.args.answers.now c.args.called.now _ c.in_ok-shape.ensures.may c.in_ok-shape.ensures.found

pub returns-in_err-inst : goal.returns-in_err-inst
returns-in_err-inst g c =
    let done = c.append.ensures in
    let p = err_from_is_err_and c.from_residual-in_err-inst.result c.from_residual-in_err-inst.ensures.1 in
    numbered (λ numbers naming declared ledger. outside_request numbers naming ledger c.args.called.now) c.args.builder.now c.append.new.builder c.args.answers.now c.from_residual-in_err-inst.result
    (made-refused c.args.builder.now c.append.new.builder c.args.answers.now c.append.result c.in_err-inst.field-0.0 p.0 c.from_residual-in_err-inst.result c.in_err-inst.was p.1 p.2 done.loans c.requires.sound done.failed
    (λ naming declared calls ready. outside-same calls c.args.builder.now c.args.answers.now ready c.args.called.now ∙ c.in_ok-shape.ensures.may)
    (λ full. outside-full c.args.builder.now.func.now c.args.answers.now c.args.called.now _ c.in_ok-shape.ensures.found (done.full full)))

pub returns : goal.returns
returns g c =
    let done = c.in_ok-inst.ensures in
    let new = c.append.new.builder in
    numbered (λ numbers naming declared ledger. outside_request numbers naming ledger c.args.called.now) c.args.builder.now new c.args.answers.now (Ok (answer.Inst c.in_ok-inst.inst))
    (made-answer c.args.builder.now new c.args.answers.now (answer.Inst c.in_ok-inst.inst) c.append.ensures.loans done.grows.3
    (answered-sound _ c.append.result _ c.append.ensures.fails c.in_ok-inst.was) c.append.ensures.variables
    (λ naming declared calls ready. outside-same calls c.args.builder.now c.args.answers.now ready c.args.called.now ∙ c.in_ok-shape.ensures.may)
    (λ naming declared calls ready.
    outside-ready c.requests_ask_for_their_shapes.ensures calls c.args.builder.now new c.args.answers.now c.args.called.now _ c.in_ok-inst.inst ready c.in_ok-shape.ensures.found done))
