use Rattle.clif_meaning.proofs.CallLists
use Rattle.clif_meaning.proofs.scripts.numbers_stay.Goals as goal

pub returns : goal.returns
returns c = record { kept = CallLists.kept; new = CallLists.new }
