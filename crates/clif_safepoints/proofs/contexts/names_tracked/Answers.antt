use Rattle.std.proofs.Common.{◌≡◌, ◌∙◌, [], ap, subst, sym, arith}
use Rattle.std.specs.Prelude.{All, Contains}
use Rattle.std.specs.List.{flat_map}
use Rattle.std.proofs.lemmas.Bool.{false≢true}
use Rattle.clif_instructions.specs.ExceptionTables.{item_context}
use Rattle.clif_instructions.specs.Instruction.{contexts, exception_table}
use Rattle.clif_ir.specs.Body.{inst_at}
use Rattle.clif_ir.specs.Consistent.{ValueExists}
use Rattle.clif_safepoints.proofs.Tracking.{contexts_are, items_from, items_to, no_contexts}
use Rattle.clif_safepoints.proofs.contexts.names_tracked.Goals as goal
use Rattle.clif_safepoints.proofs.contexts.names_tracked.Goals.{After-items}

items_are : (c : After-items) → flat_map item_context c.items.result.now ≡ contexts (inst_at c.args.func.now c.args.inst).shape
items_are c =
    ap (flat_map item_context) c.items.ensures
    ∙ sym (contexts_are (inst_at c.args.func.now c.args.inst).shape c.in-Some.table.now (sym (c.in-Some.ensures ∙ ap exception_table c.inst_data.ensures.exact)))

pub names_tracked_item-requires : goal.names_tracked_item-requires
names_tracked_item-requires c =
    subst (λ xs. All (ValueExists c.args.func.now) xs) (sym (items_are (goal.at.names_tracked_item-requires c).After-items)) (c.law_consistent.ensures.contexts_exist c.args.inst)

pub returns-in-Some : goal.returns-in-Some
returns-in-Some c =
    let are = items_are (goal.at.returns-in-Some c).After-items in (
      λ yes. (let found = items_to c.args.func.now c.args.recorded.now c.items.result.now (sym c.names_tracked_item.ensures ∙ yes) in
          (found.0, subst (λ xs. Contains xs found.0) are found.1, found.2)),
      λ h. c.names_tracked_item.ensures ∙ items_from c.args.func.now c.args.recorded.now c.items.result.now h.0 (subst (λ xs. Contains xs h.0) (sym are) h.1) h.2,
    )

pub returns-in-None : goal.returns-in-None
returns-in-None c =
    let none : contexts (inst_at c.args.func.now c.args.inst).shape ≡ [] =
    no_contexts (inst_at c.args.func.now c.args.inst).shape (sym (c.in-None.ensures ∙ ap exception_table c.inst_data.ensures.exact)) in
    (λ yes. absurd (false≢true yes), λ h. absurd (let in_none = subst (λ xs. Contains xs h.0) none h.1 in omega (arith, in_none.1)))
