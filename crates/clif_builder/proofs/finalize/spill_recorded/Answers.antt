use Rattle.std.proofs.Common.{rules}
use Rattle.clif_builder.proofs.Spilled.{nothing_finished, spilled_finished}
use Rattle.clif_builder.proofs.finalize.spill_recorded.Goals as goal

pub returns-then-is_empty-clause-spilled : goal.returns-then-is_empty-clause-spilled
returns-then-is_empty-clause-spilled g c = nothing_finished _ _ _ _ _ (search rules)

pub returns-clause-spilled : goal.returns-clause-spilled
returns-clause-spilled g c = spilled_finished c.spill.result c.args.func.now c.spill.new.func _ _ _ _ (search rules) c.spill.ensures.spilled
