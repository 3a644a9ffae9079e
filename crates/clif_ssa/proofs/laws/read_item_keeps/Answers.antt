use Rattle.clif_ssa.proofs.Writing.{read_item_described}
use Rattle.clif_ssa.proofs.laws.read_item_keeps.Goals as goal

pub returns : goal.returns
returns c = read_item_described
