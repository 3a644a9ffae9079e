use Rattle.std.proofs.Common.{◌≡◌, ◌-◌}
use Rattle.std.specs.Prelude.{slice_get, Some}
use Rattle.clif_ir.specs.Body.{block_at}
use Rattle.clif_ir.proofs.function.Function.last_of_first.Given as goal

abbrev pub invariant-loop-place : goal.invariant-loop-place
invariant-loop-place l = slice_get (block_at l.self l.fn.block).insts (l.place - 1) ≡ Some l.inst
