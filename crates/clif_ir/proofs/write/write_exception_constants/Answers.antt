use Rattle.std.proofs.Common.{All, List, arith, subst, sym}
use Rattle.std.specs.List.{flat_map}
use Rattle.clif_instructions.specs.declared.exception_table.ExceptionItem.{ExceptionItem}
use Rattle.clif_instructions.specs.ExceptionTables.{item_context}
use Rattle.clif_ir.specs.Consistent.{ValueExists}
use Rattle.clif_ir.proofs.FlatLists.{flat_all}
use Rattle.clif_ir.proofs.write.write_exception_constants.Goals as goal

pub write_value_constant-requires : goal.write_value_constant-requires
write_value_constant-requires g c =
    let all : All (ValueExists c.args.func.now) (flat_map item_context c.items-items.result.now) =
    subst (λ (items : List ExceptionItem). All (ValueExists c.args.func.now) (flat_map item_context items)) (sym c.items-items.ensures) c.requires.contexts_exist in
    let here = flat_all (ValueExists c.args.func.now) item_context c.items-items.result.now all c.loop-place.place _ c.loop-place-test.true in
    subst (λ (item : ExceptionItem). All (ValueExists c.args.func.now) (item_context item)) c.in-Context.is here 0 c.in-Context.value (omega arith)
