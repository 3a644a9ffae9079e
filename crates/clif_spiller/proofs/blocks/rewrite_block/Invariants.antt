use Rattle.std.proofs.Common.{length}
use Rattle.clif_spiller.specs.Plans.{GoesOn}
use Rattle.clif_spiller.proofs.Progressing.Rewriting.{IsRewrittenFrom}
use Rattle.clif_spiller.proofs.blocks.rewrite_block.Given as goal

abbrev pub invariant-loop-place : goal.invariant-loop-place
invariant-loop-place l =
    GoesOn (length l.initial.func.blocks) l.initial.func l.initial.slots l.func l.slots
    × IsRewrittenFrom l.plan l.block l.place l.initial.func l.initial.slots l.func l.slots
