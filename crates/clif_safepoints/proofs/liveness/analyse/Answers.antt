use Rattle.std.proofs.Common.{◌≡◌, ℕ, List, length, subst, sym}
use Rattle.std.specs.Prelude.{slice_get}
use Rattle.clif_safepoints.specs.Analysis.{Findings, IsAnalysis}
use Rattle.clif_safepoints.specs.FrontTables.{AreFronts, tables_of}
use Rattle.clif_safepoints.specs.Graph.{IsClosed, IsOrder}
use Rattle.clif_safepoints.specs.LastPass.{IsListedBy}
use Rattle.clif_safepoints.specs.Tables.{AreRows}
use Rattle.clif_safepoints.specs.Transfer.{successors_of}
use Rattle.clif_safepoints.specs.Numbered.{numbered}
use Rattle.clif_safepoints.proofs.Concluding.{analysis_from_parts, closed_graph}
use Rattle.clif_safepoints.proofs.Numbered.{analysis_of_all}
use Rattle.clif_safepoints.proofs.liveness.analyse.Goals as goal
use Rattle.clif_safepoints.proofs.liveness.analyse.Goals.{After-as_slice-order, After-as_slice-successors}

-- the lists of the graph
graph_rows : (c : After-as_slice-successors) → AreRows (length c.args.func.now.blocks) (successors_of c.args.func.now) c.as_slice-successors.result.now
graph_rows c =
    subst (λ table. AreRows (length c.args.func.now.blocks) (successors_of c.args.func.now) table) (sym c.as_slice-successors.ensures.value) c.in_ok-successor_lists.ensures.ok

closed : (c : After-as_slice-successors) → IsClosed c.as_slice-successors.result.now
closed c = closed_graph c.args.func.now c.as_slice-successors.result.now c.law_consistent.ensures (graph_rows c)

ordered : (c : After-as_slice-order) → IsOrder c.as_slice-successors.result.now (slice_get c.args.func.now.layout 0) c.as_slice-order.result.now
ordered c =
    subst (λ entry. IsOrder c.as_slice-successors.result.now entry c.as_slice-order.result.now) c.entry_block.ensures.exact
    (subst (λ order. IsOrder c.as_slice-successors.result.now c.entry_block.result order) (sym c.as_slice-order.ensures.value) c.in_ok-blocks.ensures.ok)

pub post_order-requires-clause-closed : goal.post_order-requires-clause-closed
post_order-requires-clause-closed c = closed (goal.at.post_order-requires-clause-closed c).After-as_slice-successors

pub live_ins-requires-clause-closed : goal.live_ins-requires-clause-closed
live_ins-requires-clause-closed c = closed (goal.at.live_ins-requires-clause-closed c).After-as_slice-successors

pub returns-clause-ok : goal.returns-clause-ok
returns-clause-ok c =
    let recorded : c.in_ok-recorded.recorded ≡ numbered c.args.func.now c.args.recorded.now = c.in_ok-recorded.ensures.ok in
    let order = ordered (goal.at.returns-clause-ok c).After-as_slice-order in
    let rows = graph_rows (goal.at.returns-clause-ok c).After-as_slice-successors in
    let listed : IsListedBy c.args.func.now c.in_ok-recorded.recorded c.in_ok-work.work.sets.items c.as_slice-order.result.now c.in_ok-passed.passed.across.items =
    subst (λ sets. IsListedBy c.args.func.now c.in_ok-recorded.recorded sets c.as_slice-order.result.now c.in_ok-passed.passed.across.items) c.as_slice.ensures.value
    c.in_ok-passed.ensures.across in
    let fronts : AreFronts c.args.func.now c.in_ok-recorded.recorded c.in_ok-work.work.sets.items c.as_slice-order.result.now (tables_of c.in_ok-passed.passed.fronts) =
    subst (λ sets. AreFronts c.args.func.now c.in_ok-recorded.recorded sets c.as_slice-order.result.now (tables_of c.in_ok-passed.passed.fronts)) c.as_slice.ensures.value
    c.in_ok-passed.ensures.fronts in
    let found : List ℕ → Findings = λ blocks. record {
      order = blocks;
      live_in = c.in_ok-passed.passed.fronts.live_in.items;
      after_params = c.in_ok-passed.passed.fronts.after_params.items;
      across = c.in_ok-passed.passed.across.items;
      handled = c.in_ok-work.work.handled;
    } in
    subst (λ blocks. IsAnalysis c.args.func.now c.args.recorded.now (found blocks)) c.as_slice-order.ensures.value
    (analysis_of_all c.args.func.now c.args.recorded.now (found c.as_slice-order.result.now)
    (subst (λ values. IsAnalysis c.args.func.now values (found c.as_slice-order.result.now)) recorded
    (analysis_from_parts c.args.func.now c.in_ok-recorded.recorded c.as_slice-successors.result.now c.as_slice-order.result.now c.in_ok-work.work.sets.items
    c.in_ok-passed.passed.across.items (tables_of c.in_ok-passed.passed.fronts) c.in_ok-work.work.handled (record {
      kept = c.law_consistent.ensures;
      rising = c.law_rising.ensures;
      graph_is = record { size = rows.size; rows = rows.rows };
      ordered = order;
      finished = c.in_ok-work.ensures.ok;
      listed = listed;
      fronts = fronts;
    }))))
