use Rattle.clif_simulation.proofs.Rows.ParameterRow
use Rattle.clif_simulation.proofs.examples.parameter_is_carried.Goals as goal

pub returns : goal.returns
returns c = record { carried = ParameterRow.carried; missing = ParameterRow.missing; other_type = ParameterRow.other_type }
