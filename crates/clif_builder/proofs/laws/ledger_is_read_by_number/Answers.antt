use Rattle.clif_builder.proofs.ReadByNumber.{read_by_number}
use Rattle.clif_builder.proofs.laws.ledger_is_read_by_number.Goals as goal

pub returns : goal.returns
returns c = read_by_number
