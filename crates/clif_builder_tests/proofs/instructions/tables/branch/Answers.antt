use Rattle.std.proofs.Common.{rules}
use Rattle.clif_builder_tests.proofs.Serving.{branch_serves}
use Rattle.clif_builder_tests.proofs.instructions.tables.branch.Goals as goal

pub br_table-requires-clause-serves : goal.br_table-requires-clause-serves
br_table-requires-clause-serves g c =
    branch_serves c.ins.result.now c.args.table c.args.y (search rules) (search rules) (search rules)
