use Rattle.std.proofs.Common.{rules, arith}
use Rattle.clif_ranges.proofs.Searching.{one_key_adds, range_adds, table_adds}
use Rattle.clif_ranges.proofs.search.add_range.Goals as goal

pub returns-then-len-eq1-clause-ok : goal.returns-then-len-eq1-clause-ok
returns-then-len-eq1-clause-ok c =
    one_key_adds c.args.range c.args.next c.args.number c.args.other c.args.nodes.now.items c.push.new.self.items c.requires.other (search rules) c.in_ok-push.ensures.items

pub returns-then-range-eq0-clause-ok : goal.returns-then-range-eq0-clause-ok
returns-then-range-eq0-clause-ok c =
    table_adds c.args.range c.args.next c.args.number c.args.other c.args.nodes.now.items c.push-then-range-eq0.new.self.items (c.requires.lowest c.if-range-eq0.true) c.if-range-eq0.true
    (omega (arith, c.requires.filled, c.if-len-eq1.false)) c.in_ok-push-2.ensures.items

pub returns-clause-ok : goal.returns-clause-ok
returns-clause-ok c =
    range_adds c.args.range c.args.next c.args.number c.args.other c.args.nodes.now.items c.push-2.new.self.items c.push-3.new.self.items c.requires.before c.requires.other
    (omega (arith, c.requires.filled, c.if-len-eq1.false))
    c.in_ok-push-3.ensures.items c.in_ok-push-4.ensures.items
