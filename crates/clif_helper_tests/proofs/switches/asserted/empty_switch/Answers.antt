use Rattle.std.proofs.Common.{rules}
use Rattle.clif_helper_tests.proofs.Cases.{none_lead}
use Rattle.clif_helper_tests.proofs.switches.asserted.empty_switch.Goals as goal

pub returns : goal.returns
returns g c = none_lead _ (search rules) c.args._builder.now
