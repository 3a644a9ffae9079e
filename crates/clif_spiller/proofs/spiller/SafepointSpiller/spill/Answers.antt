use Rattle.std.proofs.Common.{◌<◌, length, get_or, sym, subst}
use Rattle.std.specs.Prelude.{All}
use Rattle.std.proofs.lemmas.List.Elements.{Contains-get_or}
use Rattle.clif_safepoints.specs.Analysis.{Findings, IsAnalysis}
use Rattle.clif_types.specs.declared.types.«Type».{«Type»}
use Rattle.clif_spiller.specs.Plans.{AreNamed}
use Rattle.clif_spiller.specs.Spills.{Spills}
use Rattle.clif_spiller.specs.Progress.{IsPlannedFor}
use Rattle.clif_spiller.proofs.Keeping.{on_ok}
use Rattle.clif_spiller.proofs.Progressing.Ending.{all_spilled, none_rewritten}
use Rattle.clif_spiller.proofs.Reached.{reached_exists}
use Rattle.clif_spiller.proofs.Starting.{found_exists, found_may, knows_none}
use Rattle.clif_spiller.proofs.spiller.SafepointSpiller.spill.Goals as goal
use Rattle.clif_spiller.proofs.spiller.SafepointSpiller.spill.Goals.{In_ok-plan}

pub new-requires : goal.new-requires
new-requires c = record { named = found_exists c.args.func.now c.args.recorded.now c.run.new.self c.in_ok-run.ensures.ok }

pub rewrite-requires-clause-plan : goal.rewrite-requires-clause-plan
rewrite-requires-clause-plan c = record {
  named = subst (λ (found : Findings). AreNamed found c.in_ok-plan.plan.spilled) (sym c.in_ok-plan.ensures.liveness) c.in_ok-plan.ensures.named;
  spillable = λ v member.
      let at = (c.in_ok-plan.ensures.named v).0 member in
      found_may c.args.func.now c.args.recorded.now c.run.new.self c.in_ok-run.ensures.ok c.requires.recorded at.0 v at.1;
}

pub rewrite-requires-clause-slots : goal.rewrite-requires-clause-slots
rewrite-requires-clause-slots c = knows_none c.args.func.now c.clear.new.self.slots c.clear.ensures.slots

pub rewrite-requires-clause-order : goal.rewrite-requires-clause-order
rewrite-requires-clause-order c =
    subst (λ (found : Findings). All (λ block. block < length c.args.func.now.blocks) found.order) (sym c.in_ok-plan.ensures.liveness)
    (λ k d inside. reached_exists c.args.func.now c.law_consistent.ensures (get_or c.run.new.self.order k d)
    ((c.in_ok-run.ensures.ok.order.reached (get_or c.run.new.self.order k d)).0 (Contains-get_or c.run.new.self.order k d inside)))

-- the plan is one for the function, by the analysis of it
planned : (c : In_ok-plan) → IsPlannedFor c.args.func.now c.args.recorded.now c.in_ok-plan.plan
planned c = record {
  known = c.law_consistent.ensures;
  planned = record {
    named = subst (λ (found : Findings). AreNamed found c.in_ok-plan.plan.spilled) (sym c.in_ok-plan.ensures.liveness) c.in_ok-plan.ensures.named;
    spillable = λ v member.
        let at = (c.in_ok-plan.ensures.named v).0 member in
        found_may c.args.func.now c.args.recorded.now c.run.new.self c.in_ok-run.ensures.ok c.requires.recorded at.0 v at.1;
  };
  analysis = subst (IsAnalysis c.args.func.now c.args.recorded.now) (sym c.in_ok-plan.ensures.liveness) c.in_ok-run.ensures.ok;
}

pub returns-clause-spills : goal.returns-clause-spills
returns-clause-spills c =
    let for = planned (goal.at.returns-clause-spills c).In_ok-plan in
    on_ok c.rewrite.result
    (λ rewrites.
    subst (λ (pointer : «Type»). Spills c.args.func.now c.args.recorded.now pointer c.rewrite.new.func) c.in_ok-plan.ensures.pointer
    (all_spilled c.args.func.now c.args.recorded.now c.in_ok-plan.plan for c.rewrite.new.func c.rewrite.new.slots
    (rewrites c.args.func.now c.args.recorded.now for (none_rewritten c.args.func.now c.args.recorded.now c.in_ok-plan.plan c.clear.new.self.slots c.clear.ensures.slots))
    (record {
      means = c.spilling_means_the_same.ensures;
      contents = c.slot_contents.ensures;
      edges = c.edges_stay_matched.ensures;
      inside = c.consistent_leads_inside.ensures;
      once = c.consistent_gives_once.ensures;
    })))
    c.rewrite.ensures.rewrites
