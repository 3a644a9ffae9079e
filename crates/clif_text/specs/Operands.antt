-- The text behind the name of a call. Source: own; docs/SCRIPTS.md describes the format.
use Rattle.std.specs.Prelude.{List, [], ◌++◌, ℕ, codes}
use Rattle.std.specs.Fmt.{decimal}
use Rattle.clif_types.specs.Texts.{type_text}
use Rattle.clif_text.specs.Texts.{answer_text, answers_text, entry_text, immediate_text, items_text, memory_text, plan_text, straight_text, switch_cases_text, table_edge_text, throwing_text, variable_text}
use Rattle.clif_text.specs.declared.writer.Operands.{Operands}
use Rattle.clif_text.specs.declared.writer.Operands.TheVariants as operands

-- what is written behind the name of a call
abbrev pub operands_text : Operands → List ℕ
operands_text operands.None = []
operands_text (operands.Answer x) = codes " " ++ answer_text x
operands_text (operands.Answers x y) = codes " " ++ (answer_text x ++ (codes " " ++ answer_text y))
operands_text (operands.Change branch from to) =
    codes " " ++ (answer_text branch ++ (codes " " ++ (answer_text from ++ (codes " " ++ answer_text to))))
operands_text (operands.Param block ty) = codes " " ++ (answer_text block ++ (codes " " ++ type_text ty))
operands_text (operands.«Type» ty) = codes " " ++ type_text ty
operands_text (operands.Entry entry) = entry_text entry.now
operands_text (operands.Definition variable x) = codes " " ++ (variable_text variable ++ (codes " " ++ answer_text x))
operands_text (operands.Variable variable) = codes " " ++ variable_text variable
operands_text (operands.Edge edge) = codes " " ++ table_edge_text edge.now
operands_text (operands.Table default entries) = codes " " ++ (answer_text default ++ answers_text entries.now)
operands_text (operands.Exceptions signature normal items) =
    codes " " ++ (answer_text signature ++ (codes " " ++ (answer_text normal ++ items_text items.now)))
operands_text (operands.Branch index table) = codes " " ++ (answer_text index ++ (codes " " ++ answer_text table))
operands_text (operands.Straight instruction) = straight_text instruction.now
operands_text (operands.Immediate called) = immediate_text called
operands_text (operands.Memory called) = memory_text called
operands_text (operands.Switch value otherwise entries) =
    codes " " ++ (answer_text value ++ (codes " " ++ (answer_text otherwise ++ switch_cases_text entries.now)))
operands_text (operands.Throwing called) = throwing_text called.now
operands_text (operands.Number number) = codes " " ++ decimal number
operands_text (operands.Label x label) = codes " " ++ (answer_text x ++ (codes " " ++ decimal label))
operands_text (operands.Instruction plan) = plan_text plan
