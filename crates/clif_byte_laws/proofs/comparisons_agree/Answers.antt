use Rattle.clif_byte_laws.proofs.Compared
use Rattle.clif_byte_laws.proofs.comparisons_agree.Goals as goal

pub returns : goal.returns
returns c = Compared.comparisons_agree
