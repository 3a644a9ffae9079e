use Rattle.clif_simulation.proofs.Shape.CallersAlone.{leaves_few}
use Rattle.clif_simulation.proofs.structure.construction_leaves_few_parameters.Goals as goal

pub returns : goal.returns
returns c = λ calls types own f s structured callers. leaves_few calls f s own types structured callers
