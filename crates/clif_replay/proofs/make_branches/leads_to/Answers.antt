use Rattle.clif_ssa.specs.Ssa.{predecessors_of}
use Rattle.clif_replay.proofs.Changes.{stands-same}
use Rattle.clif_replay.proofs.make_branches.leads_to.Goals as goal

pub returns : goal.returns
returns g c = stands-same c.leads_to.result c.args.inst (predecessors_of c.args.builder.now.ctx.now.parts.ssa c.args.block) c.leads_to.ensures
