use Rattle.clif_meaning.specs.Premises.{CallersEdgesMatch}
use Rattle.clif_meaning.specs.Request.{Finalize, script_of}
use Rattle.clif_meaning.specs.Typing.{EdgesMatch}
use Rattle.clif_meaning.specs.View.{view_of}
use Rattle.clif_meaning.specs.Acceptance.{refusal_of}
use Rattle.clif_builder.specs.Ending.{recorded_in}
use Rattle.clif_builder.specs.Ledger.{ledger_of}
use Rattle.clif_builder.proofs.Ending.{ends_after, ends_by_ledger, on_ok_both, on_ok_given, on_ok_map, on_ok_three, sound_where_ok}
use Rattle.clif_builder.proofs.Finishing.{as_found, finished_where_ok}
use Rattle.clif_builder.proofs.LedgerEnds.{finished}
use Rattle.clif_builder.proofs.Named.{kept_recorded}
use Rattle.clif_builder.proofs.StandingForCalls.{finishes}
use Rattle.clif_builder.proofs.Spilled.{finished_at, finished_matches, finished_means, kept_cleared, kept_ended}
use Rattle.clif_builder.proofs.finalize.FunctionBuilder.finalize.Goals as goal

pub finish-answer-requires : goal.finish-answer-requires
finish-answer-requires g c =
    on_ok_map c.verdict-verdict.result (λ sound. kept_recorded c.args.self.func.now c.args.self.ctx.now.parts c.args.self.failed sound c.args.self.named)
    (sound_where_ok c.args.self c.verdict-verdict.result c.verdict-verdict.ensures)

pub returns-clause-answer : goal.returns-clause-answer
returns-clause-answer g c = ends_after c.args.self c.verdict-verdict.result c.finish-answer.result c.verdict-verdict.ensures c.finish-answer.ensures.answer

pub returns-clause-ledger : goal.returns-clause-ledger
returns-clause-ledger g c = λ calls agrees sound.
    ends_by_ledger c.args.self calls (refusal_of (ledger_of calls) Finalize) c.finish-answer.result (returns-clause-answer g c) (finished calls c.args.self agrees sound)

pub returns-clause-same_meaning : goal.returns-clause-same_meaning
returns-clause-same_meaning g c = λ signature calls stands.
    on_ok_both c.finish-answer.result
    (λ finished become.
    finished_means signature calls c.args.self c.args.config.pointer_width stands c.law_consistent.ensures finished c.alike_functions_mean_the_same.ensures _ _ c.finish-answer.new.func become
    c.carrying_keeps_in_order.ensures c.spilled_means_the_script.ensures)
    (finished_where_ok signature calls c.args.self c.finish-answer.result stands c.law_consistent.ensures (returns-clause-answer g c))
    (finished_at c.finish-answer.result c.args.self.func.now c.finish-answer.new.func (recorded_in c.args.self) _ _ _ _ c.pointer_type.ensures c.finish-answer.ensures.spilled)

pub returns-clause-edges_match : goal.returns-clause-edges_match
returns-clause-edges_match g c = λ signature calls stands typed.
    on_ok_both c.finish-answer.result
    (λ finished become.
    finished_matches signature calls c.args.self c.args.config.pointer_width stands c.law_consistent.ensures finished c.alike_functions_mean_the_same.ensures _ _ c.finish-answer.new.func become typed)
    (finished_where_ok signature calls c.args.self c.finish-answer.result stands c.law_consistent.ensures (returns-clause-answer g c))
    (finished_at c.finish-answer.result c.args.self.func.now c.finish-answer.new.func (recorded_in c.args.self) _ _ _ _ c.pointer_type.ensures c.finish-answer.ensures.spilled)

pub returns-clause-found : goal.returns-clause-found
returns-clause-found g c = λ signature calls stands.
    on_ok_map c.finish-answer.result (as_found signature calls c.args.self c.args.config.pointer_width stands c.law_consistent.ensures)
    (finished_where_ok signature calls c.args.self c.finish-answer.result stands c.law_consistent.ensures (returns-clause-answer g c))

pub returns-clause-calls : goal.returns-clause-calls
returns-clause-calls g c = λ signature calls so_far.
    on_ok_three c.finish-answer.result
    (λ means matches found. finishes c.args.config.pointer_width signature calls c.args.self so_far c.finish-answer.new.func means matches found)
    (returns-clause-same_meaning g c signature so_far.made so_far.stands)
    (on_ok_given (CallersEdgesMatch (script_of so_far.made)) (EdgesMatch (view_of c.finish-answer.new.func)) c.finish-answer.result
    (returns-clause-edges_match g c signature so_far.made so_far.stands))
    (returns-clause-found g c signature so_far.made so_far.stands)

-- the context is given back first
pub invariant_of-self-2 : goal.invariant_of-self-2
invariant_of-self-2 g c = record { named = kept_cleared c.args.self c.finish-answer.new.ctx.parts c.finish-answer.ensures.context.parts }

pub invariant_of-self-3 : goal.invariant_of-self-3
invariant_of-self-3 g c = record {
  named = kept_ended c.args.self c.finish-answer.result c.finish-answer.new.func c.finish-answer.new.ctx.parts _ _ _ c.law_consistent.ensures c.finish-answer.ensures.spilled c.finish-answer.ensures.emptied
      c.finish-answer.ensures.context.parts;
}
