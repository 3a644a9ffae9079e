use Rattle.std.proofs.Common.{◌≡◌, ◌∙◌}
use Rattle.std.specs.Prelude.{map}
use Rattle.std.specs.Map.{lookup, update_all}
use Rattle.std.specs.Map.Iter.{deref_pair}
use Rattle.std.specs.Ordering.{nat_cmp, eq_by_cmp}
use Rattle.clif_ranges.proofs.CaseMaps.{sorted_cases, yielded}
use Rattle.clif_ranges.proofs.cases.Cases.sorted.Goals as goal

pub returns : goal.returns
returns c =
    let ran = c.in_ok-extend.ensures.ran in
    let items : map deref_pair ran.1 ≡ c.self.inside.blocks.entries = yielded ran.0 ran.1 ran.4.1.0 ran.4.1.1 ran.4.1.2.0 ∙ ran.2 ∙ c.iter.ensures.rest in
    rw (← c.self.view_is)
    (sorted_cases c.self.inside.blocks c.extend.new.self.entries ran.3.1 c.iter.ensures.unique
    (λ q. ran.3.0 q ∙ (λ i. update_all (eq_by_cmp nat_cmp) (λ r. lookup (λ k. eq_by_cmp nat_cmp r k) (c.new-sorted.ensures.empty i)) (items i) q)))
