use Rattle.std.proofs.Common.{rules}
use Rattle.clif_builder_tests.proofs.TryTables.{passing_serves}
use Rattle.clif_builder_tests.proofs.calls.try_calls.call_passing.Goals as goal

pub try_call-requires-clause-serves : goal.try_call-requires-clause-serves
try_call-requires-clause-serves g c =
    passing_serves c.ins.result.now c.args.table c.args.sig c.args.x c.args.thrown.now
    (search rules) (search rules) (search rules) (search rules)
