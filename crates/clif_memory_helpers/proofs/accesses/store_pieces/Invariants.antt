use Rattle.std.specs.Prelude.{Ok, ◌∷◌}
use Rattle.clif_memory_helpers.specs.Lines.{Makes, no_results, no_values}
use Rattle.clif_memory_helpers.specs.Steps.{stores}
use Rattle.clif_memory_helpers.proofs.accesses.store_pieces.Given as goal

-- so many values were stored
abbrev pub invariant-loop-number : goal.invariant-loop-number
invariant-loop-number g l = Makes (l.fn.target ∷ l.values) (stores l.fn.accesses l.fn.flags l.number) no_results no_values l.fn.bx l.bx (Ok tt)
