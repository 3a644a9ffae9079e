use Rattle.std.proofs.Common.{length}
use Rattle.clif_spiller.specs.Plans.{GoesOn}
use Rattle.clif_spiller.proofs.Progressing.Rewriting.{FirstBlocks}
use Rattle.clif_spiller.proofs.blocks.rewrite.Given as goal

abbrev pub invariant-loop-block : goal.invariant-loop-block
invariant-loop-block l =
    GoesOn (length l.initial.func.blocks) l.initial.func l.initial.slots l.func l.slots
    × FirstBlocks l.plan l.block-index l.initial.func l.initial.slots l.func l.slots
