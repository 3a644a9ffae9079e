use Rattle.std.proofs.Common.{ap, length, arith}
use Rattle.clif_ranges.specs.declared.ranges.CaseRange.{CaseRange}
use Rattle.clif_ranges.proofs.Tables.{one_more}
use Rattle.clif_ranges.proofs.cases.has_too_long.Goals as goal

pub loop-range-preserved : goal.loop-range-preserved
loop-range-preserved c =
    one_more c.args.ranges.now c.loop-range.range-index c.range-item.result c.loop-range-test.true c.range-item.is (omega (arith, c.len.ensures, c.if-len-ge-TABLE_END.false))
    c.loop-range.invariant

pub returns-then-len-ge-TABLE_END : goal.returns-then-len-ge-TABLE_END
returns-then-len-ge-TABLE_END c = λ all.
    let here = all c.loop-range.range-index c.range-item.result c.loop-range-test.true in
    let same = ap (λ (range : CaseRange). length range.blocks.items) c.range-item.is in
    omega (arith, here, same, c.len.ensures, c.if-len-ge-TABLE_END.true)
