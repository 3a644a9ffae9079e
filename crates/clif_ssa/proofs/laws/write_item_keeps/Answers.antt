use Rattle.clif_ssa.proofs.Writing.{write_item_described}
use Rattle.clif_ssa.proofs.laws.write_item_keeps.Goals as goal

pub returns : goal.returns
returns c = write_item_described
