use Rattle.std.proofs.Common.{◌≡◌, ◌∙◌, sym, ap, arith}
use Rattle.std.specs.FinMap as map
use Rattle.std.specs.FinMap.{len-empty, empty_of_len}
use Rattle.std.proofs.lemmas.Grind.{common_steps}
use Rattle.clif_records.specs.Tables.{Recorded, variable_then_block}
use Rattle.clif_records.proofs.tables.VariableTable.is_empty.Goals as goal

pub returns : goal.returns
returns c =
    rw (← c.self.view_is) (
      λ is. let none : c.self.inside.count ≡ 0 = grind (arith, common_steps, is) in empty_of_len _ (sym c.self.invariant ∙ none),
      λ empty. let none : c.self.inside.count ≡ 0 = c.self.invariant ∙ ap map.len empty ∙ len-empty variable_then_block Recorded in grind (arith, common_steps, none),
    )
