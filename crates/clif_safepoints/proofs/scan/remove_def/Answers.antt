use Rattle.clif_safepoints.proofs.Marks.{goes, not_going}
use Rattle.clif_safepoints.proofs.scan.remove_def.Goals as goal

pub returns-in-Some : goal.returns-in-Some
returns-in-Some c =
    goes c.args.recorded.now c.args.live.now c.remove.new.self c.in-Some.place c.args.value c.law_rising.ensures c.requires.size c.in-Some.ensures.some
    c.remove.ensures

pub returns-in_default : goal.returns-in_default
returns-in_default c = not_going c.args.recorded.now c.args.live.now c.args.value c.requires.size (c.place_of.ensures.none c.in_default.is)
