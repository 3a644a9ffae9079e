use Rattle.std.proofs.Common.{◌∙◌, [], ap, refl}
use Rattle.std.proofs.lemmas.Result.{err_from_is_err_and}
use Rattle.clif_resolution.specs.declared.answers.Answer.TheVariants as answer
use Rattle.clif_replay.proofs.Making.{answered-sound, made-answer, made-misused, made-refused}
use Rattle.std.specs.Prelude.{Err, Ok}
use Rattle.clif_replay.specs.Requests.{request_in}
use Rattle.clif_replay.proofs.Numbers.{numbered}
use Rattle.clif_replay.proofs.ReadyLaws.{answers-exist, ready-more, value-exists}
use Rattle.clif_replay.proofs.Conditions.{has-current}
use Rattle.clif_replay.proofs.Planning.{contexts-exist, destinations-lead, entries-exist, instruction-named, operands-exist, opens-planned, plan-same, planned-full}
use Rattle.clif_replay.proofs.make_instructions.make_instruction.Goals as goal

pub plan_found-requires : goal.plan_found-requires
plan_found-requires g c = record {
  answers = answers-exist c.requires.calls c.args.builder.now c.args.answers.now c.requires.ready;
  values = value-exists c.requires.calls c.args.builder.now c.args.answers.now c.requires.ready;
}

pub returns-in_err-planned : goal.returns-in_err-planned
returns-in_err-planned g c =
    let p = err_from_is_err_and c.from_residual.result c.from_residual.ensures.1 in
    numbered (λ numbers naming declared ledger. request_in numbers naming ledger c.args.plan.now) c.args.builder.now c.args.builder.now c.args.answers.now c.from_residual.result
    (made-misused c.args.builder.now c.args.answers.now c.plan_found.result c.from_residual.result c.in_err-planned.field-0.0 c.in_err-planned.was (p.1 ∙ ap Err p.2) c.plan_found.ensures
    (λ none naming declared calls ready. plan-same calls c.args.builder.now c.args.answers.now ready c.args.plan.now ∙ none))

pub append-requires-clause-current : goal.append-requires-clause-current
append-requires-clause-current g c = has-current c.requires.calls c.args.builder.now c.args.answers.now c.requires.ready (opens-planned c.args.builder.now c.args.answers.now c.args.plan.now c.in_ok-planned.ensures.may)

pub append-requires-clause-operands_exist : goal.append-requires-clause-operands_exist
append-requires-clause-operands_exist g c = operands-exist c.requires.calls c.args.builder.now c.args.answers.now c.requires.ready c.args.plan.now _ _ c.in_ok-planned.ensures.found

pub append-requires-clause-contexts_exist : goal.append-requires-clause-contexts_exist
append-requires-clause-contexts_exist g c = contexts-exist c.args.builder.now c.args.answers.now c.args.plan.now _ _ c.in_ok-planned.ensures.found

pub append-requires-clause-edges : goal.append-requires-clause-edges
append-requires-clause-edges g c = destinations-lead c.requires.calls c.args.builder.now c.args.answers.now c.requires.ready c.args.plan.now _ _ c.in_ok-planned.ensures.found

pub append-requires-clause-entries_exist : goal.append-requires-clause-entries_exist
append-requires-clause-entries_exist g c = entries-exist c.args.builder.now c.args.answers.now c.args.plan.now _ _ c.in_ok-planned.ensures.found c.in_ok-planned.ensures.may

pub returns-in_err-inst : goal.returns-in_err-inst
returns-in_err-inst g c =
    let done = c.append.ensures in
    let p = err_from_is_err_and c.from_residual-in_err-inst.result c.from_residual-in_err-inst.ensures.1 in
    numbered (λ numbers naming declared ledger. request_in numbers naming ledger c.args.plan.now) c.args.builder.now c.append.new.builder c.args.answers.now c.from_residual-in_err-inst.result
    (made-refused c.args.builder.now c.append.new.builder c.args.answers.now c.append.result c.in_err-inst.field-0.0 p.0 c.from_residual-in_err-inst.result c.in_err-inst.was p.1 p.2 done.loans c.requires.sound done.failed
    (λ naming declared calls ready. plan-same calls c.args.builder.now c.args.answers.now ready c.args.plan.now ∙ c.in_ok-planned.ensures.may) (λ full. planned-full c.args.builder.now c.args.answers.now c.args.plan.now _ _ c.in_ok-planned.ensures.found (done.full full) (λ few. done.full_table few full)))

pub returns : goal.returns
returns g c =
    let done = c.in_ok-inst.ensures in
    let new = c.append.new.builder in
    numbered (λ numbers naming declared ledger. request_in numbers naming ledger c.args.plan.now) c.args.builder.now new c.args.answers.now (Ok (answer.Inst c.in_ok-inst.inst))
    (made-answer c.args.builder.now new c.args.answers.now (answer.Inst c.in_ok-inst.inst) c.append.ensures.loans done.grows.3
    (answered-sound _ c.append.result _ c.append.ensures.fails c.in_ok-inst.was) c.append.ensures.variables
    (λ naming declared calls ready. plan-same calls c.args.builder.now c.args.answers.now ready c.args.plan.now ∙ c.in_ok-planned.ensures.may)
    (λ naming declared calls ready.
    let shape = instruction-named calls c.args.builder.now c.args.answers.now ready c.args.plan.now _ _ c.in_ok-planned.ensures.found in
    (_, ready-more calls _ c.args.builder.now new _ (answer.Inst c.in_ok-inst.inst) ready tt (done.grows.6, done.grows.8) (done.stands declared calls [] _ ready.stands shape) (_, _, refl, refl))))
