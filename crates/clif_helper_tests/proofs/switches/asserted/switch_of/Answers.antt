use Rattle.clif_helper_tests.proofs.switches.asserted.switch_of.Goals as goal

pub loop-place-init : goal.loop-place-init
loop-place-init g c = c.empty_switch-switch.ensures
