use Rattle.clif_spilling_laws.proofs.Functions.Inside.{leads_inside}
use Rattle.clif_spilling_laws.proofs.consistent_leads_inside.Goals as goal

pub returns : goal.returns
returns c = leads_inside
