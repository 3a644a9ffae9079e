use Rattle.std.proofs.Common.{◌≡◌, ◌+◌, ◌<◌, ◌∙◌, ◌↔◌, ℕ, ap, subst, sym, arith, true, false, length, take}
use Rattle.std.specs.Prelude.{Contains, slice_get}
use Rattle.std.proofs.Math.ListN.{length-set}
use Rattle.std.proofs.lemmas.List.{length-replicate, take_all}
use Rattle.clif_safepoints.specs.Graph.{IsOrder}
use Rattle.clif_number_sets.specs.Sets.{is_in}
use Rattle.clif_safepoints.specs.Tables.{AreRows}
use Rattle.clif_safepoints.specs.Transfer.{successors_of}
use Rattle.clif_safepoints.proofs.Concluding.{closed_graph, order_reached, reached_order}
use Rattle.clif_safepoints.proofs.Tracking.{marks_more, marks_none}
use Rattle.clif_safepoints.proofs.contexts.reached_blocks.Goals as goal
use Rattle.clif_safepoints.proofs.contexts.reached_blocks.Goals.{After-as_slice-order, After-as_slice-successors}

-- the lists of the graph
graph_rows : (c : After-as_slice-successors) → AreRows (length c.args.func.now.blocks) (successors_of c.args.func.now) c.as_slice-successors.result.now
graph_rows c =
    subst (λ table. AreRows (length c.args.func.now.blocks) (successors_of c.args.func.now) table) (sym c.as_slice-successors.ensures.value) c.in_ok-successor_lists.ensures.ok

ordered : (c : After-as_slice-order) → IsOrder c.as_slice-successors.result.now (slice_get c.args.func.now.layout 0) c.as_slice-order.result.now
ordered c =
    subst (λ entry. IsOrder c.as_slice-successors.result.now entry c.as_slice-order.result.now) c.entry_block.ensures.exact
    (subst (λ order. IsOrder c.as_slice-successors.result.now c.entry_block.result order) (sym c.as_slice-order.ensures.value) c.in_ok-blocks.ensures.ok)

pub post_order-requires-clause-closed : goal.post_order-requires-clause-closed
post_order-requires-clause-closed c =
    closed_graph c.args.func.now c.as_slice-successors.result.now c.law_consistent.ensures (graph_rows (goal.at.post_order-requires-clause-closed c).After-as_slice-successors)

pub loop-block-init : goal.loop-block-init
loop-block-init c = (
  ap length c.in_ok-reached.ensures.ok ∙ length-replicate c.block_count.result false ∙ c.block_count.ensures.exact,
  λ b. subst (λ marks. (is_in marks b ≡ true) ↔ Contains (take 0 c.as_slice-order.result.now) b) (sym c.in_ok-reached.ensures.ok) (marks_none c.block_count.result b),
)

-- a number that an index has, in marks of this size
numbered : (number block count size marks : ℕ) → number ≡ block → block < size → size ≡ count → marks ≡ count → number < marks
numbered number block count size marks same inside is also = omega arith

pub insert-requires : goal.insert-requires
insert-requires c =
    let order = ordered (goal.at.insert-requires c).After-as_slice-order in
    let there : c.block-item.result < length c.as_slice-successors.result.now =
    subst (λ b. b < length c.as_slice-successors.result.now) (sym c.block-item.is) (order.exist c.loop-block.block-index c.block-item.result c.loop-block-test.true) in
    numbered c.index.result c.block-item.result (length c.args.func.now.blocks) (length c.as_slice-successors.result.now) (length c.loop-block.reached) c.index.ensures.place there
    (graph_rows (goal.at.insert-requires c).After-as_slice-successors).size c.loop-block.invariant.0

pub loop-block-preserved : goal.loop-block-preserved
loop-block-preserved c =
    let order = ordered (goal.at.loop-block-preserved c).After-as_slice-order in
    let there : c.block-item.result < length c.as_slice-successors.result.now =
    subst (λ b. b < length c.as_slice-successors.result.now) (sym c.block-item.is) (order.exist c.loop-block.block-index c.block-item.result c.loop-block-test.true) in
    let within = numbered c.index.result c.block-item.result (length c.args.func.now.blocks) (length c.as_slice-successors.result.now) (length c.loop-block.reached) c.index.ensures.place there
    (graph_rows (goal.at.loop-block-preserved c).After-as_slice-successors).size c.loop-block.invariant.0 in (
      ap length c.insert.ensures ∙ length-set c.loop-block.reached c.index.result true ∙ c.loop-block.invariant.0,
      λ b. subst (λ marks. (is_in marks b ≡ true) ↔ Contains (take (c.loop-block.block-index + 1) c.as_slice-order.result.now) b) (sym c.insert.ensures)
          (marks_more c.loop-block.reached c.as_slice-order.result.now c.loop-block.block-index c.block-item.result c.index.result c.loop-block-test.true c.block-item.is c.index.ensures.place
          within c.loop-block.invariant.1 b),
    )

pub returns-clause-ok : goal.returns-clause-ok
returns-clause-ok c =
    let order = ordered (goal.at.returns-clause-ok c).After-as_slice-order in
    let rows = graph_rows (goal.at.returns-clause-ok c).After-as_slice-successors in
    let whole : take c.loop-block.block-index c.as_slice-order.result.now ≡ c.as_slice-order.result.now = take_all c.loop-block.block-index c.as_slice-order.result.now c.loop-block-test.false in
    record {
      size = c.loop-block.invariant.0;
      members = λ b. (
        λ h. order_reached c.args.func.now c.as_slice-successors.result.now c.as_slice-order.result.now (record { size = rows.size; rows = rows.rows }) order b
            (subst (λ xs. Contains xs b) whole ((c.loop-block.invariant.1 b).0 h)),
        λ r. (c.loop-block.invariant.1 b).1 (subst (λ xs. Contains xs b) (sym whole)
            (reached_order c.args.func.now c.as_slice-successors.result.now c.as_slice-order.result.now (record { size = rows.size; rows = rows.rows }) order b r)),
      );
    }
