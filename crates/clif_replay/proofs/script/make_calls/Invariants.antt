use Rattle.std.proofs.Common.{◌≡◌}
use Rattle.std.specs.Prelude.{false}
use Rattle.clif_builder.specs.Builder.{SameLoans}
use Rattle.clif_replay.proofs.Stepping.{IsInStep}
use Rattle.clif_replay.proofs.Verdicts.{HasRest, calls_before}
use Rattle.clif_replay.proofs.script.make_calls.Given as goal

abbrev pub invariant-loop-place : goal.invariant-loop-place
invariant-loop-place g l = record {
  in_step : IsInStep l.config l.initial.builder.func.now.signature (calls_before l.config l.initial.builder.func.now.signature l.calls l.place) l.builder l.answers.items;
  rest : HasRest l.config l.initial.builder.func.now.signature l.calls l.place;
  types : l.types.items ≡ l.builder.ctx.now.parts.variables;
  loans : SameLoans l.initial.builder l.builder;
  sound : l.builder.failed ≡ false;
  name : l.builder.func.now.name ≡ l.initial.builder.func.now.name;
}
