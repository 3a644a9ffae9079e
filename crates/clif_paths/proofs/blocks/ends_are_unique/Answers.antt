use Rattle.clif_paths.proofs.Links.{ends_are_unique}
use Rattle.clif_paths.proofs.blocks.ends_are_unique.Goals as goal

pub returns : goal.returns
returns c = ends_are_unique
