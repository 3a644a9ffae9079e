use Rattle.std.proofs.Common.{◌≡◌, ◌∙◌, replicate, length, subst, sym, ap, arith}
use Rattle.clif_number_sets.specs.Words.{marks_of, spread, NoneFrom}
use Rattle.clif_number_sets.proofs.Marks.{marks-zeros, none-zeros}
use Rattle.clif_number_sets.proofs.Joining.{spread_none}
use Rattle.clif_number_sets.proofs.number_row.NumberRow.new.Goals as goal

pub invariant_of-result : goal.invariant_of-result
invariant_of-result c =
    let is : spread c.new.result.first c.new.result.words.items ≡ replicate 0 0 = spread_none c.new.result.first c.new.result.words.items c.new.ensures.0 c.new.ensures.1 in
    let none : length c.new.result.words.items ≡ 0 = ap length c.new.ensures.1 in
    (omega (arith, c.new.ensures.0, none), subst (λ ws. NoneFrom c.args.size ws) (sym is) (none-zeros c.args.size 0))

pub returns : goal.returns
returns c = ap (marks_of c.args.size) (spread_none c.new.result.first c.new.result.words.items c.new.ensures.0 c.new.ensures.1) ∙ marks-zeros c.args.size 0
