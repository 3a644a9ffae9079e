use Rattle.clif_spiller.proofs.Contexts.{ResolvesContexts}
use Rattle.clif_spiller.proofs.uses.resolve_contexts.Given as goal

abbrev pub invariant-loop-item : goal.invariant-loop-item
invariant-loop-item l = ResolvesContexts l.initial.func l.inst l.item l.func
