use Rattle.clif_ranges.proofs.Gathering.{gathers_more, ends_before_next}
use Rattle.clif_ranges.proofs.Fewest.{fewest}
use Rattle.clif_ranges.proofs.ranges.ranges_of.Goals as goal

pub add_case-requires : goal.add_case-requires
add_case-requires c = record {
  behind = ends_before_next c.args.cases.now.entries c.loop-key.key-iterator c.next.new.self c.loop-key.ranges.items c.in-Some.key.now c.in-Some.block.now c.in-Some.ensures.steps c.loop-key.invariant;
}

pub loop-key-preserved : goal.loop-key-preserved
loop-key-preserved c =
    gathers_more c.args.cases.now.entries c.loop-key.key-iterator c.next.new.self c.loop-key.ranges.items c.add_case.new.ranges.items c.in-Some.key.now c.in-Some.block.now c.in-Some.ensures.steps c.in_ok-add_case.ensures.ok c.loop-key.invariant

pub returns-clause-fewest : goal.returns-clause-fewest
returns-clause-fewest c = fewest c.loop-key.invariant.seen c.loop-key.ranges.items c.loop-key.invariant.gathered
