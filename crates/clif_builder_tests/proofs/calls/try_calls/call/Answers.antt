use Rattle.std.proofs.Common.{rules}
use Rattle.clif_builder_tests.proofs.TryTables.{serves}
use Rattle.clif_builder_tests.proofs.calls.try_calls.call.Goals as goal

pub try_call-requires-clause-serves : goal.try_call-requires-clause-serves
try_call-requires-clause-serves g c =
    serves c.ins.result.now c.args.table c.args.sig c.args.context
    (search rules) (search rules) (search rules) (search rules) (search rules) (search rules)
