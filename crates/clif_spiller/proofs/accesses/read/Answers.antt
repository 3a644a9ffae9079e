use Rattle.std.proofs.Common.{◌∙◌, sym}
use Rattle.clif_safepoints.proofs.Paths.{stands_to}
use Rattle.clif_spiller.proofs.accesses.read.Goals as goal

pub reload-requires-clause-spillable : goal.reload-requires-clause-spillable
reload-requires-clause-spillable c =
    c.requires.plan.spillable _ (stands_to _ c.args.plan.now.spilled (sym c.is_spilled.ensures ∙ c.if-is_spilled.true))
