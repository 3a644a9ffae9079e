use Rattle.std.proofs.Common.{◌≡◌, ◌-◌, replicate, rules}
use Rattle.clif_number_sets.proofs.Within.{erased}
use Rattle.clif_number_sets.proofs.words.erase.Goals as goal

pub returns : goal.returns
returns c =
    let zeros : c.fill.new.self ≡ replicate (c.args.end - c.args.first) 0 = search rules in
    erased c.args.first c.args.end c.args.words.now c.requires c.fill.new.self zeros c.if-first-end.false
