use Rattle.clif_spiller.proofs.Asked.{asked}
use Rattle.clif_spiller.proofs.spiller.SafepointSpiller.run.Goals as goal

pub returns-in-Some-clause-spilled : goal.returns-in-Some-clause-spilled
returns-in-Some-clause-spilled g c =
    asked c.ask_regions.result c.args.func.now c.spill.new.func c.ask_regions.new.func c.args.recorded.now c.args.pointer c.args.region.now c.in-Some.callback _ c.inst_count-first.result
    c.in-Some.is c.inst_count-first.ensures.exact c.in_ok-spill.ensures.kept c.in_ok-spill.ensures.spills c.ask_regions.ensures.alike c.ask_regions.ensures.answered
