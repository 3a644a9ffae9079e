use Rattle.std.proofs.Common.{◌<◌}
use Rattle.clif_ssa.specs.Constructs.{TellsMore}
use Rattle.clif_ssa.specs.Counted.{finishes, CountsFor}
use Rattle.clif_ssa.specs.Ssa.{NamesExist}
use Rattle.clif_ssa.specs.LookUp.{MakesCalls}
use Rattle.clif_ssa.specs.Running.{stage, CallsFit, work_of}
use Rattle.clif_ssa.specs.Steps.{StepKeeps}
use Rattle.clif_ssa.proofs.ssa_tables.SsaTables.make_calls.Given as goal

abbrev pub invariant-loop-call : goal.invariant-loop-call
invariant-loop-call l = record {
  made : MakesCalls l.variable l.ty (stage l.initial.func l.initial.self l.initial.look_up) (stage l.func l.self l.look_up);
  named : NamesExist l.func l.self;
  fits : CallsFit l.ty l.func l.self l.look_up;
  keeps : StepKeeps l.variable l.ty l.initial.func l.initial.self l.func l.self;
  tells : TellsMore l.initial.func l.func l.initial.look_up.zeros l.look_up.zeros;
  counts : CountsFor (◌<◌ l.variable) (finishes l.initial.look_up.calls) l.initial.func l.initial.self (finishes l.look_up.calls) l.func l.self;
}

abbrev pub decreases-loop-call : goal.decreases-loop-call
decreases-loop-call l = work_of (stage l.func l.self l.look_up) l.variable
