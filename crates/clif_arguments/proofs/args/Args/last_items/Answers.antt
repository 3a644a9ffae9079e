use Rattle.std.proofs.Common.{sym, subst}
use Rattle.clif_arguments.specs.Arguments.{AreItems}
use Rattle.clif_arguments.proofs.TakingTables.{TakesMany, items_more}
use Rattle.clif_arguments.proofs.args.Args.last_items.Goals as goal

pub loop-items-preserved : goal.loop-items-preserved
loop-items-preserved c =
    let one = c.in_ok-item.ensures.ok in
    subst (λ taken. TakesMany AreItems c.args.self.now c.item.new.self taken) (sym c.in_ok-push.ensures.items)
    (items_more c.args.self.now c.loop-items.self c.item.new.self c.loop-items.items.items one.0 one.1 c.in_ok-item.field-0 c.loop-items.invariant c.in_ok-item.ensures.scope one.2 one.3)
