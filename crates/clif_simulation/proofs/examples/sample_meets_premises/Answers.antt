use Rattle.clif_simulation.proofs.Rows.SamplePremises
use Rattle.clif_simulation.proofs.examples.sample_meets_premises.Goals as goal

pub returns : goal.returns
returns c = SamplePremises.sample_meets_premises
