use Rattle.clif_spilling_laws.proofs.Liveness.SpilledLive.{parameter_is_live, result_is_live}
use Rattle.clif_spilling_laws.proofs.spilled_is_live.Goals as goal

pub returns : goal.returns
returns c = record {
  parameter = λ counts members function count v b well once spilled is. parameter_is_live counts function well count once v b is members spilled;
  result = λ counts members function count v p well once spilled is. result_is_live counts function well count once v p is members spilled;
}
