use Rattle.std.proofs.Common.{◌≡◌, take}
use Rattle.clif_builder.specs.Context.{Begins, SameVariables}
use Rattle.clif_builder.proofs.context.ContextParts.begin_all.Given as goal

abbrev pub invariant-loop-block : goal.invariant-loop-block
invariant-loop-block l =
    Begins l.initial.self l.self (take l.block-index l.blocks)
    × (l.self.ssa ≡ l.initial.self.ssa)
    × SameVariables l.initial.self l.self
