use Rattle.std.proofs.Common.{refl}
use Rattle.std.proofs.Math.Seq.{map-set_same}
use Rattle.clif_nodes.specs.Aliases.{alias_of_row}
use Rattle.clif_nodes.proofs.aliases.hang.Goals as goal

pub returns-then-is_higher : goal.returns-then-is_higher
returns-then-is_higher c = map-set_same alias_of_row c.args.rows.now c.args.above _ c.index-rows-above.result refl

pub returns-else-is_higher : goal.returns-else-is_higher
returns-else-is_higher c = map-set_same alias_of_row c.args.rows.now c.args.above _ c.index-rows-above.result refl
