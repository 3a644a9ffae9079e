use Rattle.std.proofs.Common.{sym, subst}
use Rattle.clif_ssa.specs.Structure.{LooksOnce}
use Rattle.clif_ssa.proofs.CountedOnce.{nothing_looked}
use Rattle.clif_ssa.proofs.ssa.SSABuilder.new.Goals as goal

pub returns-clause-looks_once : goal.returns-clause-looks_once
returns-clause-looks_once c = subst LooksOnce (sym c.new.ensures) nothing_looked
