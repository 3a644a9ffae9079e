use Rattle.clif_meaning.proofs.FirstPremises
use Rattle.clif_meaning.proofs.examples.first_means_the_same.Goals as goal

pub returns : goal.returns
returns c = record { a_world = FirstPremises.a_world; premises = FirstPremises.first_premises; same = FirstPremises.first_same }
