use Rattle.std.proofs.Common.{ap, sym, ◌∙◌}
use Rattle.std.specs.FinMap as map
use Rattle.std.specs.FinMap.{len-empty}
use Rattle.clif_records.specs.Tables.{Recorded, variable_then_block}
use Rattle.clif_records.specs.Pages.{records_of}
use Rattle.clif_records.proofs.Pages.{no_pages}
use Rattle.clif_records.proofs.tables.VariableTable.clear.Goals as goal

pub invariant_of-self : goal.invariant_of-self
invariant_of-self c = sym (ap (λ es. map.len (records_of es)) c.clear.ensures.empty ∙ ap map.len no_pages ∙ len-empty variable_then_block Recorded)

pub returns : goal.returns
returns c = ap records_of c.clear.ensures.empty ∙ no_pages
