use Rattle.benches.specs.Cases.{AllLead}
use Rattle.benches.proofs.switching.switch_to.Given as goal

abbrev pub invariant-loop-place : goal.invariant-loop-place
invariant-loop-place g l = AllLead l.switch l.builder
