use Rattle.std.proofs.Common.{◌≡◌, ◌<◌, ◌∙◌, ◌==◌, ◌++◌, sym, subst, ℕ, List, [], length, map}
use Rattle.std.specs.Prelude.{All}
use Rattle.std.specs.List.{filter}
use Rattle.clif_safepoints.specs.Graph.{leads_to}
use Rattle.clif_safepoints.specs.Tables.{AreRows}
use Rattle.clif_safepoints.proofs.Rows.{row_at, sources_more}
use Rattle.clif_safepoints.proofs.graph.predecessors.Goals as goal
use Rattle.clif_safepoints.proofs.graph.predecessors.Goals.{After-as_slice-targets}

-- the blocks to which the block leads
targets : (c : After-as_slice-targets) → c.as_slice-targets.result.now ≡ leads_to c.args.successors.now c.block-item.result
targets c = c.as_slice-targets.ensures
    ∙ row_at c.args.successors.now c.index.result c.block-item.result c.index-successors-index.result [] c.index-successors-index.is c.index.ensures.place
    (subst (λ b. b < length c.args.successors.now) (sym c.block-item.is) (c.requires.exist c.loop-block.block-index c.block-item.result c.loop-block-test.true))

pub add_source-requires : goal.add_source-requires
add_source-requires c =
    let P : List ℕ → Type 0 = λ xs. All (λ target. target < length c.loop-block.sources.items) xs in
    subst P (sym (targets (goal.at.add_source-requires c).After-as_slice-targets))
    (subst (λ n. All (λ target. target < n) (leads_to c.args.successors.now c.block-item.result)) (sym c.loop-block.invariant.size) (c.requires.closed c.block-item.result))

pub loop-block-preserved : goal.loop-block-preserved
loop-block-preserved c =
    let P : List ℕ → Type 0 = λ xs.
    AreRows (length c.loop-block.sources.items) (λ target. leads_to c.loop-block.sources.items target ++ map (λ x. c.block-item.result) (filter (λ x. x == target) xs)) c.add_source.new.sources.items in
    sources_more c.args.successors.now c.args.order.now c.loop-block.block-index c.block-item.result c.loop-block.sources.items c.add_source.new.sources.items
    c.loop-block-test.true c.block-item.is c.loop-block.invariant (subst P (targets (goal.at.loop-block-preserved c).After-as_slice-targets) c.in_ok-add_source.ensures.ok)
