use Rattle.std.proofs.Common.{sym, subst}
use Rattle.std.specs.Prelude.{All}
use Rattle.clif_instructions.specs.declared.exception_table.ExceptionItem.{ExceptionItem}
use Rattle.clif_instructions.specs.ExceptionTables.{item_context}
use Rattle.clif_ir.specs.Consistent.{ValueExists}
use Rattle.clif_ir.proofs.FlatLists.{flat_all}
use Rattle.clif_safepoints.proofs.contexts.names_tracked_item.Goals as goal

pub is_tracked-requires : goal.is_tracked-requires
is_tracked-requires c =
    subst (λ (item : ExceptionItem). All (ValueExists c.args.func.now) (item_context item)) (sym c.index-items-place.is)
    (flat_all (ValueExists c.args.func.now) item_context c.args.items.now c.requires c.loop-place.place c.index-items-place.result c.loop-place-test.true)
