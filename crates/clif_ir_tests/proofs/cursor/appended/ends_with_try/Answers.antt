use Rattle.std.proofs.Common.{rules}
use Rattle.clif_ir_tests.proofs.TryTables.{serves}
use Rattle.clif_ir_tests.proofs.cursor.appended.ends_with_try.Goals as goal

pub try_call-requires-clause-serves : goal.try_call-requires-clause-serves
try_call-requires-clause-serves g c =
    serves c.ins.result.now c.in_ok-table.table c.args.callee.0 c.index-blocks-1.result (search rules) (search rules) (search rules)
