use Rattle.std.proofs.Common.{rules, List, subst, ◌≡◌, ◌++◌, ◌≤◌, ◌<◌, ◌-◌, ◌∙◌, length, reverse, ap, arith, sym}
use Rattle.std.proofs.lemmas.Grind.{common_steps}
use Rattle.std.proofs.lemmas.List.{get_or_read}
use Rattle.clif_records.specs.declared.tables.Pending.{Pending}
use Rattle.clif_records.specs.declared.waiting.PendingNode.{PendingNode}
use Rattle.clif_records.specs.Waiting.{listed_to, no_node, node_at}
use Rattle.clif_records.proofs.Linked.{walked}
use Rattle.clif_records.proofs.waiting.PendingTable.list_to.Goals as goal

pub loop-place-preserved : goal.loop-place-preserved
loop-place-preserved c =
    let so = c.loop-place.invariant in
    let nodes = c.self.inside.nodes.items in
    let some : 0 < c.loop-place.place = first_of (search rules, grind (arith, common_steps)) in
    let inside : c.loop-place.place - 1 < length nodes = omega (arith, some, so.1) in
    let is : c.index-node.result.now ≡ node_at nodes (c.loop-place.place - 1) = get_or_read nodes (c.loop-place.place - 1) c.index-node.result.now inside c.index-node.ensures no_node in
    let back : c.index-node.result.now.previous ≤ c.loop-place.place - 1 =
    subst (λ (n : PendingNode). n.previous ≤ c.loop-place.place - 1) (sym is) (c.self.invariant (c.loop-place.place - 1) inside) in (
      (walked nodes c.args.last c.loop-place.place c.loop-place.items.items c.index-node.result.now c.self.invariant some so.1 is so.0)
          ∙ ap (λ (items : List Pending). listed_to nodes c.index-node.result.now.previous ++ reverse items) (sym c.in_ok-push.ensures.items),
      omega (arith, back, so.1),
    )
