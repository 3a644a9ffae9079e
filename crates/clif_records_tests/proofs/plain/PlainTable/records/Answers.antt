use Rattle.std.proofs.Common.{sym, ◌∙◌}
use Rattle.clif_records_tests.proofs.Sorted.{counted}
use Rattle.clif_records_tests.proofs.plain.PlainTable.records.Goals as goal

pub returns : goal.returns
returns c = rw (← c.self.view_is) (c.len.ensures.len ∙ sym (counted c.self.inside.sorted.entries c.len.ensures.ordered))
