use Rattle.clif_finished_laws.proofs.Composing.{spilled_means_the_script}
use Rattle.clif_finished_laws.proofs.spilled_means_the_script.Goals as goal

pub returns : goal.returns
returns c = spilled_means_the_script
