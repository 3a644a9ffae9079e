use Rattle.std.proofs.Common.{ap}
use Rattle.std.specs.FinMap as map
use Rattle.clif_records_tests.proofs.plain.PlainTable.clear.Goals as goal

pub returns : goal.returns
returns c = ap map.from_entries c.clear.ensures.empty
