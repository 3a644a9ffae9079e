use Rattle.clif_paths.proofs.Concluding.{reached_sound}
use Rattle.clif_paths.proofs.conclusion.records_hold.Goals as goal

pub returns : goal.returns
returns c = λ s steps edges allowed. ((reached_sound steps).under edges allowed).records
