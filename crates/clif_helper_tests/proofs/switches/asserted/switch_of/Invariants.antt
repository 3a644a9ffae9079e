use Rattle.clif_helper_tests.specs.Cases.{AllLead}
use Rattle.clif_helper_tests.proofs.switches.asserted.switch_of.Given as goal

abbrev pub invariant-loop-place : goal.invariant-loop-place
invariant-loop-place g l = AllLead l.switch l.builder
