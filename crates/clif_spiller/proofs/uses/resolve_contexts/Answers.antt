use Rattle.std.proofs.Common.{◌≡◌, ◌∙◌, ◌+◌, ℕ, sym, subst}
use Rattle.std.specs.Prelude.{IfSome, Option, Some, slice_get}
use Rattle.clif_instructions.specs.Instruction.{items_of}
use Rattle.clif_instructions.specs.declared.exception_table.ExceptionItem.TheVariants as kept
use Rattle.clif_ir.specs.Body.{Body, inst_at}
use Rattle.clif_spiller.proofs.Contexts.{ResolvesContexts, all_resolved, item_passed, none_resolved, one_resolved}
use Rattle.clif_spiller.proofs.uses.resolve_contexts.Goals as goal
use Rattle.clif_spiller.proofs.uses.resolve_contexts.Goals.{in-Some, in_default}

pub loop-item-init : goal.loop-item-init
loop-item-init c = none_resolved c.args.func.now c.args.inst

pub loop-item-preserved : goal.loop-item-preserved
loop-item-preserved c =
    elim c.match-context_at.branch [
      | in-Some w ↦
          subst (λ (g : Body). ResolvesContexts c.args.func.now c.args.inst (c.loop-item.item + 1) g) (sym (w.func-is ∙ w.replace_context.ensures))
          (one_resolved c.args.func.now c.loop-item.func c.args.inst c.loop-item.item w.in-Some.context w.resolve_aliases-value.result c.requires
          (subst (λ (o : Option ℕ). IfSome o (λ value. slice_get (items_of (inst_at c.loop-item.func c.args.inst).shape) c.loop-item.item ≡ Some (kept.Context value)))
          w.in-Some.is c.context_at.ensures.there) w.resolve_aliases-value.ensures.exact c.loop-item.invariant)
      | in_default w ↦
          subst (λ (g : Body). ResolvesContexts c.args.func.now c.args.inst (c.loop-item.item + 1) g) (sym w.func-is)
          (item_passed c.args.func.now c.loop-item.func c.args.inst c.loop-item.item c.loop-item.invariant)
    ]

pub returns : goal.returns
returns c = record {
  keeps = c.loop-item.invariant.keeps;
  others = c.loop-item.invariant.others;
  tables = c.loop-item.invariant.tables;
  blocks = c.loop-item.invariant.blocks;
  layout = c.loop-item.invariant.layout;
  resolves = all_resolved c.args.func.now c.loop-item.func c.args.inst c.loop-item.item c.loop-item.invariant;
}
