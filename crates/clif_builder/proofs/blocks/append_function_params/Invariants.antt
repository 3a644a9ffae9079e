use Rattle.std.proofs.Common.{◌≡◌, take}
use Rattle.clif_simulation.specs.Carries.{with_params}
use Rattle.clif_tables.specs.Callees.{types_of}
use Rattle.clif_builder.proofs.blocks.append_function_params.Given as goal

abbrev pub invariant-loop-index : goal.invariant-loop-index
invariant-loop-index l = l.func ≡ with_params l.initial.func l.block (types_of (take l.index l.initial.func.signature.params))
