use Rattle.benches.proofs.switching.switch_to.Goals as goal

pub loop-place-init : goal.loop-place-init
loop-place-init g c = c.no_case-switch.ensures
