-- Brackets may be nested so deeply, and between two of them each rule of the grammar is read at most once.
use Rattle.std.proofs.Common.{ℕ, ◌+◌, ◌*◌}
use Rattle.toy_compiler.specs.declared.expressions.Level.{Level}
use Rattle.toy_compiler.specs.declared.expressions.Level.TheVariants.{Sum, Product}
use Rattle.toy_compiler.proofs.function.Compiler.+expression.Given as goal

abbrev pub rank : Level → ℕ
rank Sum = 6
rank Product = 4

abbrev pub decreases-arguments : goal.decreases-arguments
decreases-arguments l = 10 * l.depth + 9

abbrev pub decreases-expression : goal.decreases-expression
decreases-expression l = 10 * l.depth + 8

abbrev pub decreases-chain : goal.decreases-chain
decreases-chain l = 10 * l.depth + (1 + rank l.level)

abbrev pub decreases-operand : goal.decreases-operand
decreases-operand l = 10 * l.depth + rank l.level

abbrev pub decreases-factor : goal.decreases-factor
decreases-factor l = 10 * l.depth + 3

abbrev pub decreases-primary : goal.decreases-primary
decreases-primary l = 10 * l.depth + 2

abbrev pub decreases-named : goal.decreases-named
decreases-named l = 10 * l.depth + 1
