use Rattle.std.proofs.Common.{rules}
use Rattle.benches.proofs.Cases.{none_lead}
use Rattle.benches.proofs.switching.no_case.Goals as goal

pub returns : goal.returns
returns g c = none_lead _ (search rules) c.args._builder.now
