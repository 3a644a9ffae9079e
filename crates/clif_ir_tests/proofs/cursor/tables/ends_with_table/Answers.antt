use Rattle.std.proofs.Common.{rules}
use Rattle.clif_ir_tests.proofs.JumpTables.{serves}
use Rattle.clif_ir_tests.proofs.cursor.tables.ends_with_table.Goals as goal

pub br_table-requires-clause-serves : goal.br_table-requires-clause-serves
br_table-requires-clause-serves g c =
    serves c.ins.result.now c.in_ok-table.table c.index-blocks-1.result c.index-blocks-2.result (search rules) (search rules) (search rules)
