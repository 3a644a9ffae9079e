use Rattle.std.proofs.Common.{◌≡◌, ◌∷◌, take}
use Rattle.clif_inst_builder.proofs.inst_builder.callee_and_args.Given as goal

abbrev pub invariant-loop-arg : goal.invariant-loop-arg
invariant-loop-arg l = l.values ≡ l.fn.callee ∷ take l.arg-index l.args
