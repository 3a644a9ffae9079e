use Rattle.std.proofs.Common.{ap, rules, arith, subst, sym, Err, ◌∙◌}
use Rattle.std.specs.Prelude.{option_map}
use Rattle.clif_builder.specs.declared.builder.FunctionBuilder.{FunctionBuilder}
use Rattle.clif_records.specs.Tracking.{recorded_of}
use Rattle.std.proofs.lemmas.Grind.{common_steps}
use Rattle.clif_replay.specs.Replay.{ReplayTells}
use Rattle.clif_replay.specs.Requests.{calls_of}
use Rattle.clif_replay.specs.declared.script.ReplayError.{ReplayError}
use Rattle.clif_replay.proofs.Replays.{finished-as, finished-mapped, finished-name, finished-replay, told-end}
use Rattle.clif_replay.proofs.Verdicts.{stands-replayed}
use Rattle.clif_replay.proofs.script.build.Goals as goal

pub returns-in-Ok-clause-finished : goal.returns-in-Ok-clause-finished
returns-in-Ok-clause-finished g c =
    let start = c.register.new.builder.func.now in
    let begins = c.register.ensures.keeps.func ∙ ap (λ (b : FunctionBuilder _). b.func.now) c.new-builder.ensures.builder.1 in
    let builder = c.make_calls-made.new.builder in
    let finished = c.finalize-finished.new.self.0 in
    let made = c.in_ok-made.ensures.ready in
    let done = c.in-Ok.ensures in
    let ledger = c.finalize-finished.ensures.ledger made.0 made.1.ledger c.in_ok-made.ensures.sound in
    let asked = ap (option_map _) c.in_ok-made.ensures.loans.region ∙ c.register.ensures.asks in
    finished-as c.args.region _ c.args.calls.now c.args.func.now c.args.config start finished _ begins (first_of (search rules, grind (arith, common_steps)))
    (finished-replay c.args.region _ c.args.calls.now start.signature c.args.config made.0 builder finished c.finalize-finished.result start.name
    (finished-name builder.func.now finished (recorded_of builder.ctx.now.parts.ssa.tracking) _ _ _ done.spilled ∙ c.in_ok-made.ensures.name)
    (finished-mapped builder.func.now finished (recorded_of builder.ctx.now.parts.ssa.tracking) _ builder.ctx.now.region _ _ c.args.region asked done.spilled)
    made.1 made.2
    (done.calls start.signature (calls_of c.args.config start.signature c.args.calls.now)
    (stands-replayed c.args.config start.signature c.args.calls.now made.0 builder made.2 made.1))
    (done.found start.signature made.0 made.1) ledger c.in-Ok.is)

pub returns-in-Err-clause-told : goal.returns-in-Err-clause-told
returns-in-Err-clause-told g c =
    let start = c.register.new.builder.func.now in
    let begins = c.register.ensures.keeps.func ∙ ap (λ (b : FunctionBuilder _). b.func.now) c.new-builder.ensures.builder.1 in
    let made = c.in_ok-made.ensures.ready in
    let ledger = c.finalize-finished.ensures.ledger made.0 made.1.ledger c.in_ok-made.ensures.sound in
    subst (λ (e : ReplayError). ReplayTells c.args.calls.now c.args.func.now.name c.args.func.now.signature c.args.config (Err e)) (sym c.ended_at.ensures)
    (told-end c.args.config c.args.calls.now start c.args.func.now begins made.0 c.make_calls-made.new.builder c.finalize-finished.result c.in-Err.error
    made.1 made.2 ledger c.in-Err.is)
