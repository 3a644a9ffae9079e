use Rattle.std.proofs.Common.{refl, List, [], ◌∷◌, rules, ap, subst, sym, append-nil, ◌∙◌, ◌++◌}
use Rattle.clif_ranges.specs.declared.ranges.CaseRange.{CaseRange}
use Rattle.clif_ranges.specs.declared.search.Test.TheVariants as test
use Rattle.clif_ranges.specs.Search.{AreInOrder, AreTestsOf, FindsCases, FindsEachKey}
use Rattle.clif_ranges.specs.declared.search.Node.{Node}
use Rattle.clif_ranges.proofs.Keys.{has_block}
use Rattle.clif_ranges.proofs.Searching.{added_few, nothing_few, nothing_tested, nothing_to_find}
use Rattle.clif_ranges.proofs.search.search_tree.Goals as goal

-- what finds the ranges' keys finds those of their cases
each_key : (ranges : List CaseRange) (nodes : List Node) → FindsCases ranges nodes 0 → FindsEachKey ranges nodes
each_key ranges nodes finds cases are key = finds.finds key ∙ has_block cases ranges are key

none : (c : goal.In_ok-push) → FindsCases c.args.ranges.now c.push.new.self.items 0
none c =
    nothing_to_find c.args.ranges.now c.push.new.self.items (search rules)
    (c.in_ok-push.ensures.items ∙ ap (λ nodes. nodes ++ record { number = 0; test = test.Nothing } ∷ []) c.new-nodes.ensures.items)

some : (c : goal.In_ok-add_nodes) → FindsCases c.args.ranges.now c.add_nodes.new.nodes.items 0
some c =
    let adds = c.in_ok-add_nodes.ensures.ok in
    subst (λ nodes. FindsCases c.args.ranges.now nodes 0) (append-nil adds.added ∙ sym (adds.is ∙ ap (λ nodes. nodes ++ adds.added) c.new-nodes.ensures.items))
    (adds.find [])

pub returns-then-is_empty-clause-ok : goal.returns-then-is_empty-clause-ok
returns-then-is_empty-clause-ok c = none c

pub returns-then-is_empty-clause-cases : goal.returns-then-is_empty-clause-cases
returns-then-is_empty-clause-cases c = each_key c.args.ranges.now c.push.new.self.items (none c)

pub returns-clause-ok : goal.returns-clause-ok
returns-clause-ok c = some c

pub returns-clause-cases : goal.returns-clause-cases
returns-clause-cases c = each_key c.args.ranges.now c.add_nodes.new.nodes.items (some c)

pub returns-clause-order : goal.returns-clause-order
returns-clause-order c =
    let adds = c.in_ok-add_nodes.ensures.ok in
    subst (AreInOrder (0 ∷ []) 1) (append-nil adds.added ∙ sym (adds.is ∙ ap (λ nodes. nodes ++ adds.added) c.new-nodes.ensures.items))
    (adds.order [] [] refl)

pub returns-then-is_empty-clause-tests : goal.returns-then-is_empty-clause-tests
returns-then-is_empty-clause-tests c =
    nothing_tested c.args.ranges.now c.push.new.self.items (search rules)
    (c.in_ok-push.ensures.items ∙ ap (λ nodes. nodes ++ record { number = 0; test = test.Nothing } ∷ []) c.new-nodes.ensures.items)

pub returns-then-is_empty-clause-few : goal.returns-then-is_empty-clause-few
returns-then-is_empty-clause-few c =
    nothing_few c.args.ranges.now c.push.new.self.items
    (c.in_ok-push.ensures.items ∙ ap (λ nodes. nodes ++ record { number = 0; test = test.Nothing } ∷ []) c.new-nodes.ensures.items)

pub returns-clause-few : goal.returns-clause-few
returns-clause-few c =
    let adds = c.in_ok-add_nodes.ensures.ok in
    added_few c.args.ranges.now c.add_nodes.new.nodes.items adds.added (adds.is ∙ ap (λ nodes. nodes ++ adds.added) c.new-nodes.ensures.items) adds.small

pub returns-clause-tests : goal.returns-clause-tests
returns-clause-tests c =
    let adds = c.in_ok-add_nodes.ensures.ok in
    subst (AreTestsOf c.args.ranges.now) (sym (adds.is ∙ ap (λ nodes. nodes ++ adds.added) c.new-nodes.ensures.items)) adds.tests
