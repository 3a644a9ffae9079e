use Rattle.clif_ir.specs.Body.{resolved}
use Rattle.clif_safepoints.proofs.Marks.{comes, not_coming}
use Rattle.clif_safepoints.proofs.scan.add_use.Goals as goal

pub returns-in-Some : goal.returns-in-Some
returns-in-Some c =
    comes c.args.recorded.now c.args.live.now c.insert.new.self c.in-Some.place c.resolve_aliases.result (resolved c.args.func.now c.args.value)
    c.law_rising.ensures c.requires.size c.in-Some.ensures.some c.resolve_aliases.ensures.exact c.insert.ensures

pub returns-in_default : goal.returns-in_default
returns-in_default c =
    not_coming c.args.recorded.now c.args.live.now c.resolve_aliases.result (resolved c.args.func.now c.args.value) c.requires.size
    (c.place_of.ensures.none c.in_default.is) c.resolve_aliases.ensures.exact
