use Rattle.clif_spilling_laws.proofs.Functions.Typed.{typed_runs_meet}
use Rattle.clif_spilling_laws.proofs.typed_runs_meet.Goals as goal

pub returns : goal.returns
returns c = typed_runs_meet
