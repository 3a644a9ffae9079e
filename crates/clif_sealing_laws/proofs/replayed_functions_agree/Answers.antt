use Rattle.clif_sealing_laws.proofs.Functions
use Rattle.clif_sealing_laws.proofs.replayed_functions_agree.Goals as goal

pub returns : goal.returns
returns c = record { agree = Functions.replayed_functions_agree; slots = Functions.replayed_slots_agree }
