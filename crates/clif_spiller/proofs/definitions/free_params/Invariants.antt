use Rattle.clif_spiller.proofs.Storing.{GivesFirst}
use Rattle.clif_spiller.proofs.definitions.free_params.Given as goal

abbrev pub invariant-loop-value : goal.invariant-loop-value
invariant-loop-value l = GivesFirst l.fn.block l.func l.initial.slots l.value-items l.value-index l.func l.slots
