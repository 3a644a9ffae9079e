use Rattle.clif_meaning.proofs.CallLists
use Rattle.clif_meaning.proofs.scripts.places_count.Goals as goal

pub returns : goal.returns
returns c = record { program = CallLists.program_place; ledger = CallLists.ledger_place }
