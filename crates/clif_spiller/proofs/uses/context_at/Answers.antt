use Rattle.std.proofs.Common.{◌≡◌, ◌∙◌, ◌<◌, List, Some, length, slice_get, subst, sym, ap}
use Rattle.std.specs.Prelude.{Contains, flat_map}
use Rattle.clif_instructions.specs.ExceptionTables.{item_context}
use Rattle.std.proofs.lemmas.List.Elements.{All-contains}
use Rattle.std.proofs.lemmas.Option.{slice_get-get_or}
use Rattle.clif_instructions.specs.Instruction.{contexts, exception_table, items_of}
use Rattle.clif_instructions.specs.declared.exception_table.ExceptionItem.{ExceptionItem}
use Rattle.clif_instructions.specs.declared.exception_table.ExceptionItem.TheVariants as kept
use Rattle.clif_ir.specs.Body.{inst_at}
use Rattle.clif_ir.specs.Consistent.{ValueExists}
use Rattle.clif_safepoints.proofs.Tracking.{contexts_are}
use Rattle.clif_spiller.proofs.Keeping.{if_some_further}
use Rattle.clif_spiller.proofs.Shapes.{contains_context, items_are}
use Rattle.clif_spiller.proofs.uses.context_at.Goals as goal
use Rattle.clif_spiller.proofs.uses.context_at.Goals.{After-items}

-- the items of the instruction's table
table_is : (c : After-items) → exception_table (inst_at c.args.func.now c.args.inst).shape ≡ Some c.in_ok-table.table.now
table_is c = sym (c.in_ok-table.ensures ∙ ap exception_table c.inst_data.ensures.exact)

listed : (c : After-items) → c.items.result.now ≡ items_of (inst_at c.args.func.now c.args.inst).shape
listed c = c.items.ensures ∙ sym (items_are (inst_at c.args.func.now c.args.inst).shape c.in_ok-table.table.now (table_is c))

pub returns : goal.returns
returns c =
    let now = (goal.at.returns c).After-items in
    let items : List ExceptionItem = c.items.result.now in
    let item : ExceptionItem = c.index-items-item.result in
    let inside : c.args.item < length items = subst (λ (xs : List ExceptionItem). c.args.item < length xs) (sym (listed now)) c.requires.item_exists in
    let found : slice_get items c.args.item ≡ Some item = slice_get-get_or items c.args.item item inside ∙ ap (λ (x : ExceptionItem). Some x) (sym c.index-items-item.is) in
    let named = contexts_are (inst_at c.args.func.now c.args.inst).shape c.in_ok-table.table.now (table_is now) in
    record {
      exists = if_some_further (λ value. item ≡ kept.Context value) (λ value. value < length c.args.func.now.values) c.context_of.result
          (λ value is.
          All-contains (ValueExists c.args.func.now) (contexts (inst_at c.args.func.now c.args.inst).shape) value (c.law_consistent.ensures.contexts_exist c.args.inst)
          (subst (λ xs. Contains xs value) (ap (flat_map item_context) c.items.ensures ∙ sym named)
          (contains_context items c.args.item value (found ∙ ap (λ (x : ExceptionItem). Some x) is))))
          c.context_of.ensures;
      there = if_some_further (λ value. item ≡ kept.Context value)
          (λ value. slice_get (items_of (inst_at c.args.func.now c.args.inst).shape) c.args.item ≡ Some (kept.Context value)) c.context_of.result
          (λ value is.
          ap (λ (xs : List ExceptionItem). slice_get xs c.args.item) (sym (listed now)) ∙ found ∙ ap (λ (x : ExceptionItem). Some x) is)
          c.context_of.ensures;
    }
