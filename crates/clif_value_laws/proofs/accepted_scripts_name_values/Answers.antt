use Rattle.clif_value_laws.proofs.AcceptedScripts
use Rattle.clif_value_laws.proofs.accepted_scripts_name_values.Goals as goal

pub returns : goal.returns
returns c = AcceptedScripts.names_values
