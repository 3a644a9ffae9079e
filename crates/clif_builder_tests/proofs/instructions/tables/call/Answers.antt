use Rattle.std.proofs.Common.{rules}
use Rattle.clif_builder_tests.proofs.Serving.{catching_serves}
use Rattle.clif_builder_tests.proofs.instructions.tables.call.Goals as goal

pub try_call-requires-clause-serves : goal.try_call-requires-clause-serves
try_call-requires-clause-serves g c =
    catching_serves c.ins.result.now c.args.table c.args.sig
    (search rules) (search rules) (search rules) (search rules)
