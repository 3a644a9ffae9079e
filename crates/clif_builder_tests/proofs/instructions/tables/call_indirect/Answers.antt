use Rattle.std.proofs.Common.{rules}
use Rattle.clif_builder_tests.proofs.Serving.{bare_serves}
use Rattle.clif_builder_tests.proofs.instructions.tables.call_indirect.Goals as goal

pub try_call_indirect-requires-clause-serves : goal.try_call_indirect-requires-clause-serves
try_call_indirect-requires-clause-serves g c =
    bare_serves c.ins.result.now c.args.table c.args.sig (search rules) (search rules) (search rules)
