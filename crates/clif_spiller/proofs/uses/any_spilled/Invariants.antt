use Rattle.std.proofs.Common.{◌≡◌, [], map, take}
use Rattle.clif_ir.specs.Body.{resolved}
use Rattle.clif_spiller.specs.Acting.{needs}
use Rattle.clif_spiller.proofs.uses.any_spilled.Given as goal

abbrev pub invariant-loop-operand : goal.invariant-loop-operand
invariant-loop-operand l = needs l.plan (map (resolved l.func) (take l.operand-index l.operands)) ≡ []
