use Rattle.clif_paths.proofs.Running.{one_map_serves_both}
use Rattle.clif_paths.proofs.runs.one_map_serves_both.Goals as goal

pub returns : goal.returns
returns c = one_map_serves_both
