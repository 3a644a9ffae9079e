use Rattle.clif_paths.proofs.Links.{new_link_resolves}
use Rattle.clif_paths.proofs.blocks.new_link_resolves.Goals as goal

pub returns : goal.returns
returns c = new_link_resolves
