use Rattle.std.proofs.Common.{◌≡◌, [], take}
use Rattle.clif_spiller.specs.Acting.{needs, passed_values}
use Rattle.clif_spiller.proofs.uses.passes_spilled.Given as goal

abbrev pub invariant-loop-arg : goal.invariant-loop-arg
invariant-loop-arg l = needs l.plan (passed_values l.func (take l.arg-index l.args)) ≡ []
