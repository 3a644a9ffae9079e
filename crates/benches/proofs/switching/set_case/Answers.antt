use Rattle.benches.proofs.Cases.{all_lead_after}
use Rattle.benches.proofs.switching.set_case.Goals as goal

pub returns : goal.returns
returns g c =
    all_lead_after c.args.builder.now c.args.switch.now c.set_entry.new.self c.args.key c.args.block c.set_entry.result
    c.requires.all c.requires.leads c.set_entry.ensures.ok c.set_entry.ensures.err
