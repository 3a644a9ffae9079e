use Rattle.std.proofs.Common.{◌∙◌}
use Rattle.clif_replay.proofs.Marks.{sized-fits}
use Rattle.clif_replay.proofs.make_marks.fits_stack_map.Goals as goal

pub returns : goal.returns
returns c = c.is_ok.ensures.value ∙ sized-fits c.args.ty c.try_from.result c.try_from.ensures
