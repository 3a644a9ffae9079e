-- Blocks may be nested so deeply.
use Rattle.std.proofs.Common.{◌+◌, ◌*◌}
use Rattle.toy_compiler.proofs.function.Compiler.+statement.Given as goal

abbrev pub decreases-statement : goal.decreases-statement
decreases-statement l = 4 * l.depth + 3

abbrev pub decreases-while_statement : goal.decreases-while_statement
decreases-while_statement l = 4 * l.depth + 2

abbrev pub decreases-if_statement : goal.decreases-if_statement
decreases-if_statement l = 4 * l.depth + 2

abbrev pub decreases-else_arm : goal.decreases-else_arm
decreases-else_arm l = 4 * l.depth + 1

abbrev pub decreases-block : goal.decreases-block
decreases-block l = 4 * l.depth
