use Rattle.clif_memory_helpers.proofs.HelperLines
use Rattle.clif_memory_helpers.proofs.laws.helpers_are_lines.Goals as goal

pub returns : goal.returns
returns c = HelperLines.helpers_are_lines
