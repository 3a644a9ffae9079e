use Rattle.clif_paths.proofs.Running.{holders_have_the_same_bits}
use Rattle.clif_paths.proofs.runs.holders_have_the_same_bits.Goals as goal

pub returns : goal.returns
returns c = holders_have_the_same_bits
