use Rattle.std.proofs.Common.{◌≡◌, [], drop, length}
use Rattle.clif_ir.specs.Body.{Body}
use Rattle.clif_ssa.specs.Pools.{types_of}
use Rattle.clif_ssa.specs.Constructs.{TellsMore}
use Rattle.clif_ssa.specs.Counted.{AreBelow, CountsFor}
use Rattle.clif_ssa.specs.Ssa.{SsaState, NamesExist}
use Rattle.clif_ssa.specs.Steps.{StepLeaves, StepPools}
use Rattle.clif_ssa.specs.LookUp.{Stage}
use Rattle.clif_ssa.specs.Running.{stage, CompletesAll, ToComplete}
use Rattle.clif_ssa.proofs.ssa_tables.SsaTables.complete_all.Given as goal

abbrev pub invariant-loop-pending : goal.invariant-loop-pending
invariant-loop-pending l = record {
  completes : (n : Stage) → CompletesAll l.block (drop l.pending-index l.waiting) (stage l.func l.self l.look_up) n
      → CompletesAll l.block l.waiting (stage l.initial.func l.initial.self l.initial.look_up) n;
  idle : (l.look_up.calls ≡ []) × (l.look_up.results ≡ []);
  named : NamesExist l.func l.self;
  leaves : StepLeaves l.initial.func l.initial.self l.func l.self;
  pools : (h : Body) (u : SsaState) → StepPools (types_of l.initial.func (drop l.pending-index l.waiting)) l.func l.self h u
      → StepPools (types_of l.initial.func l.waiting) l.initial.func l.initial.self h u;
  once : ToComplete l.initial.self l.block l.waiting → ToComplete l.self l.block (drop l.pending-index l.waiting);
  tells : TellsMore l.initial.func l.func l.initial.look_up.zeros l.look_up.zeros;
  counts : CountsFor (λ variables. AreBelow variables l.waiting) (length l.waiting) l.initial.func l.initial.self (length (drop l.pending-index l.waiting)) l.func l.self;
}
