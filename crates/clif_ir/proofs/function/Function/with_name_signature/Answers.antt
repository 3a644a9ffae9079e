use Rattle.std.proofs.Common.{rules, arith, ◌≡◌, [], length, sym, subst}
use Rattle.std.specs.Prelude.{None}
use Rattle.std.proofs.lemmas.Grind.{common_steps}
use Rattle.clif_nodes.specs.Links.{blocks_of}
use Rattle.clif_ir.specs.Body.{empty_body}
use Rattle.clif_ir.specs.Whole.{AreThreaded, chain}
use Rattle.clif_ir.proofs.Keeps.{consistent_at}
use Rattle.clif_ir.proofs.Linking.{empty_consistent, empty_threaded, empty_linked}
use Rattle.clif_ir.proofs.Links.{chain-none, linked_with}
use Rattle.clif_ir.proofs.function.Function.with_name_signature.Goals as goal

pub returns : goal.returns
returns c =
    let chained : chain (length c.new-5.result.items) c.new-5.result.items None ≡ [] = chain-none _ _ in
    first_of (search rules, grind (arith, common_steps, chained))

pub invariant_of-result : goal.invariant_of-result
invariant_of-result c = record {
  consistent = consistent_at (empty_body c.args.name c.args.signature) _ (sym (returns c)) (empty_consistent _ _);
  listed = first_of (search rules, grind (arith, common_steps));
  threaded = subst (λ rs. AreThreaded (blocks_of c.new-4.result.items rs) rs c.new-4.result.items) (sym c.new-3.ensures.items) (empty_threaded c.new-4.result.items);
  link_count = grind (arith, common_steps);
  place_count = grind (arith, common_steps);
  linked = linked_with [] _ [] _ _ _ (sym (chain-none _ _)) (sym c.new-5.ensures.items) empty_linked;
}
