use Rattle.std.proofs.Common.{take}
use Rattle.clif_ssa.specs.Incoming.{ComesSoFar, ExistsSoFar}
use Rattle.clif_ssa.proofs.ending.what_comes.Given as goal

abbrev pub invariant-loop-result : goal.invariant-loop-result
invariant-loop-result l = ComesSoFar l.func l.param (take l.result-index l.results) l.one × ExistsSoFar l.func l.one
