use Rattle.std.proofs.Common.{◌≡◌, ◌∙◌, sym, ap, arith}
use Rattle.std.specs.FinMap as map
use Rattle.std.specs.FinMap.{empty_of_len, len-empty}
use Rattle.std.proofs.lemmas.Grind.{common_steps}
use Rattle.clif_records.specs.Tables.{variable_then_block}
use Rattle.clif_records.specs.declared.tables.Recorded.{Recorded}
use Rattle.clif_records_tests.proofs.plain.PlainTable.is_empty.Goals as goal

pub returns : goal.returns
returns c = (
  λ is. let none : c.records.result ≡ 0 = grind (arith, common_steps, is) in empty_of_len _ (sym c.records.ensures ∙ none),
  λ empty. let none : c.records.result ≡ 0 = c.records.ensures ∙ ap map.len empty ∙ len-empty variable_then_block Recorded in grind (arith, common_steps, none),
)
