use Rattle.std.proofs.Common.{◌≡◌, All, IsTrue, arith, subst, sym, take}
use Rattle.std.proofs.lemmas.Grind.{common_steps}
use Rattle.clif_instructions.specs.declared.exception_table.ExceptionItem.{ExceptionItem}
use Rattle.clif_instructions.specs.ExceptionTables.{item_context}
use Rattle.clif_ir.specs.Consistent.{ValueExists}
use Rattle.clif_ir.proofs.FlatLists.{all_flat, flat_all}
use Rattle.clif_ir.proofs.contexts.has_contexts_of.Goals as goal

pub returns-then-not-has_context : goal.returns-then-not-has_context
returns-then-not-has_context c = (
  λ yes. grind (arith, yes),
  λ all.
      let here : All (ValueExists c.args.func.now) (item_context c.index-items-place.result) =
      subst (λ (item : ExceptionItem). All (ValueExists c.args.func.now) (item_context item)) (sym c.index-items-place.is)
      (flat_all (ValueExists c.args.func.now) item_context c.args.items.now all c.loop-place.place c.index-items-place.result c.loop-place-test.true) in
      let yes : IsTrue c.has_context.result = c.has_context.ensures.1 here in
      grind (arith, yes),
)

pub returns : goal.returns
returns c =
    let whole : take c.loop-place.place c.args.items.now ≡ c.args.items.now = grind (arith, common_steps) in
    let each : All (λ (item : ExceptionItem). All (ValueExists c.args.func.now) (item_context item)) c.args.items.now =
    subst (All (λ (item : ExceptionItem). All (ValueExists c.args.func.now) (item_context item))) whole c.loop-place.invariant in
    (λ yes. all_flat (ValueExists c.args.func.now) item_context c.args.items.now each, λ all. grind arith)
