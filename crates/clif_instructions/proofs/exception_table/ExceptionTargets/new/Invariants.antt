use Rattle.std.proofs.Common.{◌≡◌, ◌∷◌, map}
use Rattle.std.specs.List.{flat_map}
use Rattle.clif_instructions.specs.ExceptionTables.{item_edges, kept_item}
use Rattle.clif_instructions.proofs.exception_table.ExceptionTargets.new.Given as goal

abbrev pub invariant-loop-item : goal.invariant-loop-item
invariant-loop-item l =
    (l.edges.items ≡ l.fn.table.normal ∷ flat_map item_edges l.yielded) × (l.items.items ≡ map kept_item l.yielded)
