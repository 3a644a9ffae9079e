use Rattle.std.proofs.Common.{All, take}
use Rattle.clif_instructions.specs.declared.exception_table.ExceptionItem.{ExceptionItem}
use Rattle.clif_instructions.specs.ExceptionTables.{item_context}
use Rattle.clif_ir.specs.Consistent.{ValueExists}
use Rattle.clif_ir.proofs.contexts.has_contexts_of.Given as goal

abbrev pub invariant-loop-place : goal.invariant-loop-place
invariant-loop-place l = All (λ (item : ExceptionItem). All (ValueExists l.func) (item_context item)) (take l.place l.items)
