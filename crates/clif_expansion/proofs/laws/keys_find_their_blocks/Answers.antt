use Rattle.clif_expansion.proofs.Keys
use Rattle.clif_expansion.proofs.laws.keys_find_their_blocks.Goals as goal

pub returns : goal.returns
returns c = Keys.keys_find_their_blocks
