use Rattle.clif_meaning.proofs.FirstPremises
use Rattle.clif_meaning.proofs.examples.wrong_functions_are_refused.Goals as goal

pub returns : goal.returns
returns c = record { eight = FirstPremises.eight_refused; empty = FirstPremises.empty_refused; other_signature = FirstPremises.other_signature }
