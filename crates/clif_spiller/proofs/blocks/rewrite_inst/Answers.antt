use Rattle.std.proofs.Common.{length}
use Rattle.clif_spiller.specs.Plans.{GoesOn}
use Rattle.clif_spiller.proofs.Keeping.{goes_further, on_ok, on_ok₃, plan_stays}
use Rattle.clif_spiller.proofs.blocks.rewrite_inst.Goals as goal
use Rattle.clif_spiller.proofs.blocks.rewrite_inst.Goals.{In_ok-store_results}

stored : (c : In_ok-store_results) → GoesOn (length c.args.func.now.blocks) c.args.func.now c.args.slots.now c.store_results.new.func c.store_results.new.slots
stored c =
    goes_further c.args.func.now c.args.slots.now c.take_live_outs.new.func c.take_live_outs.new.slots c.store_results.new.func c.store_results.new.slots
    c.in_ok-take_live_outs.ensures.ok c.in_ok-store_results.ensures.ok

pub rewrite_safepoint-requires-clause-plan : goal.rewrite_safepoint-requires-clause-plan
rewrite_safepoint-requires-clause-plan c =
    plan_stays (length c.args.func.now.blocks) c.args.func.now c.store_results.new.func (stored (goal.at.rewrite_safepoint-requires-clause-plan c).In_ok-store_results).keeps
    c.args.plan.now c.requires.plan

pub reload_uses-requires-clause-plan : goal.reload_uses-requires-clause-plan
reload_uses-requires-clause-plan c =
    plan_stays (length c.args.func.now.blocks) c.args.func.now c.rewrite_safepoint.new.func
    (goes_further c.args.func.now c.args.slots.now c.store_results.new.func c.store_results.new.slots c.rewrite_safepoint.new.func c.rewrite_safepoint.new.slots
    (stored (goal.at.reload_uses-requires-clause-plan c).In_ok-store_results) c.in_ok-rewrite_safepoint.ensures.ok).keeps
    c.args.plan.now c.requires.plan

pub returns-clause-ok : goal.returns-clause-ok
returns-clause-ok c =
    on_ok c.reload_uses.result
    (goes_further c.args.func.now c.args.slots.now c.rewrite_safepoint.new.func c.rewrite_safepoint.new.slots c.reload_uses.new.func c.reload_uses.new.slots
    (goes_further c.args.func.now c.args.slots.now c.store_results.new.func c.store_results.new.slots c.rewrite_safepoint.new.func c.rewrite_safepoint.new.slots
    (stored (goal.at.returns-clause-ok c).In_ok-store_results) c.in_ok-rewrite_safepoint.ensures.ok))
    c.reload_uses.ensures.ok

pub returns-clause-acts : goal.returns-clause-acts
returns-clause-acts c =
    on_ok₃ c.reload_uses.result
    (λ goes acts reads. record {
      ahead = c.take_live_outs.new.func;
      ahead_slots = c.take_live_outs.new.slots;
      goes_ahead = c.in_ok-take_live_outs.ensures.ok;
      acts_ahead = c.in_ok-take_live_outs.ensures.acts;
      given = c.store_results.new.func;
      given_slots = c.store_results.new.slots;
      goes_given = c.in_ok-store_results.ensures.ok;
      acts_given = c.in_ok-store_results.ensures.acts;
      stored = c.in_ok-store_results.ensures.stores;
      called = c.rewrite_safepoint.new.func;
      called_slots = c.rewrite_safepoint.new.slots;
      goes_called = c.in_ok-rewrite_safepoint.ensures.ok;
      acts_called = c.in_ok-rewrite_safepoint.ensures.acts;
      goes_used = goes;
      acts_used = acts;
      read = reads;
    }) c.reload_uses.ensures.ok c.reload_uses.ensures.acts c.reload_uses.ensures.reads
