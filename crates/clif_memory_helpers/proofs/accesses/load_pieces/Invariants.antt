use Rattle.std.specs.Prelude.{Ok}
use Rattle.clif_memory_helpers.specs.Steps.{LoadsPieces}
use Rattle.clif_memory_helpers.proofs.accesses.load_pieces.Given as goal

-- so many pieces were loaded
abbrev pub invariant-loop-number : goal.invariant-loop-number
invariant-loop-number g l = LoadsPieces l.fn.accesses l.fn.flags l.fn.source l.number l.fn.bx l.bx (Ok l.loaded)
