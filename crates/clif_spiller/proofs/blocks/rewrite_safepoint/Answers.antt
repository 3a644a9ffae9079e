use Rattle.std.proofs.Common.{◌≡◌, ◌∙◌, Bool, length, refl, sym, ap, subst}
use Rattle.clif_instructions.specs.Instruction.{is_call}
use Rattle.clif_instructions.specs.declared.instructions.InstructionData.{InstructionData}
use Rattle.clif_ir.specs.Body.{inst_at}
use Rattle.clif_spiller.specs.Acting.{ActsAtSafepoint}
use Rattle.clif_spiller.proofs.Keeping.{goes_further, goes_on_refl, on_ok, on_ok₃, plan_stays}
use Rattle.clif_spiller.proofs.blocks.rewrite_safepoint.Goals as goal
use Rattle.clif_spiller.proofs.blocks.rewrite_safepoint.Goals.{After-is_safepoint}

pub returns-then-not-is_safepoint-clause-ok : goal.returns-then-not-is_safepoint-clause-ok
returns-then-not-is_safepoint-clause-ok c = goes_on_refl (length c.args.func.now.blocks) c.args.func.now c.args.slots.now c.requires.slots

pub land_edges-requires-clause-plan : goal.land_edges-requires-clause-plan
land_edges-requires-clause-plan c =
    plan_stays (length c.args.func.now.blocks) c.args.func.now c.set_map.new.func c.in_ok-set_map.ensures.ok.keeps c.args.plan.now c.requires.plan

pub returns-clause-ok : goal.returns-clause-ok
returns-clause-ok c =
    on_ok c.land_edges.result
    (goes_further c.args.func.now c.args.slots.now c.set_map.new.func c.set_map.new.slots c.land_edges.new.func c.land_edges.new.slots c.in_ok-set_map.ensures.ok)
    c.land_edges.ensures.ok

-- whether it is a call
test_is : (c : After-is_safepoint) → c.is_safepoint.result ≡ is_call (inst_at c.args.func.now c.args.inst).shape
test_is c = c.is_safepoint.ensures ∙ ap (λ (s : InstructionData). is_call s) c.inst_data.ensures.exact

pub returns-then-not-is_safepoint-clause-acts : goal.returns-then-not-is_safepoint-clause-acts
returns-then-not-is_safepoint-clause-acts c =
    subst (λ (test : Bool). ActsAtSafepoint test c.args.plan.now c.args.inst c.args.func.now c.args.slots.now c.args.func.now c.args.slots.now)
    (sym c.if-not-is_safepoint.true ∙ test_is (goal.at.returns-then-not-is_safepoint-clause-acts c).After-is_safepoint) (refl, refl)

pub returns-clause-acts : goal.returns-clause-acts
returns-clause-acts c =
    on_ok₃ c.land_edges.result
    (λ goes lands leads.
    subst (λ (test : Bool). ActsAtSafepoint test c.args.plan.now c.args.inst c.args.func.now c.args.slots.now c.land_edges.new.func c.land_edges.new.slots)
    (sym c.if-not-is_safepoint.false ∙ test_is (goal.at.returns-clause-acts c).After-is_safepoint)
    (record {
      mapped = c.set_map.new.func;
      mapped_slots = c.set_map.new.slots;
      goes = c.in_ok-set_map.ensures.ok;
      maps = c.in_ok-set_map.ensures.acts;
      goes_on = goes;
      lands = lands;
      leads = leads;
    })) c.land_edges.ensures.ok c.land_edges.ensures.lands c.land_edges.ensures.leads
