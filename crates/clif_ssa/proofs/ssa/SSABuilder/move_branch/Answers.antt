use Rattle.clif_records.proofs.RecordLaws.{on_ok}
use Rattle.clif_ssa.proofs.MovedState.{branch_described, branch_structured}
use Rattle.clif_ssa.proofs.ssa.SSABuilder.move_branch.Goals as goal

pub returns-clause-described : goal.returns-clause-described
returns-clause-described c = λ own tables passes_from passes_to apart before.
    on_ok c.move_leads.result _ _
    (λ moved.
    branch_described c.args.func.now c.move_leads.new.func c.args.self.now c.move_leads.new.self c.args.inst c.args.from c.args.to moved c.move_leads.ensures.records
    c.requires.inst_exists c.requires.from_unsealed c.requires.to_unsealed c.requires.leads own tables passes_from passes_to apart before)
    c.move_leads.ensures.ok

pub returns-clause-structured : goal.returns-clause-structured
returns-clause-structured c = λ types own passes_to before.
    on_ok c.move_leads.result _ _
    (λ moved.
    branch_structured c.args.func.now c.move_leads.new.func c.args.self.now c.move_leads.new.self c.args.inst c.args.from c.args.to moved c.move_leads.ensures.records
    c.requires.inst_exists c.requires.from_unsealed c.requires.to_unsealed c.requires.leads types own c.law_consistent.ensures passes_to before)
    c.move_leads.ensures.ok
