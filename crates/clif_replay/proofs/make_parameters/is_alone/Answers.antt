use Rattle.clif_ssa.specs.Ssa.{predecessors_of}
use Rattle.clif_replay.proofs.Conditions.{alone-from}
use Rattle.clif_replay.proofs.make_parameters.is_alone.Goals as goal

pub returns : goal.returns
returns g c = alone-from (predecessors_of c.args.builder.now.ctx.now.parts.ssa c.args.block) c.has_any_predecessors.result c.has_any_predecessors.ensures
