use Rattle.clif_spilling_laws.proofs.Functions.GivenOnce.{gives_once}
use Rattle.clif_spilling_laws.proofs.consistent_gives_once.Goals as goal

pub returns : goal.returns
returns c = gives_once
