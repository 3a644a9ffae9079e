use Rattle.std.proofs.Common.{arith, ◌≡◌, ◌∙◌, ◌<◌, ℕ, List, [], ◌∷◌, ◌++◌, length, set, refl, ap, sym, subst}
use Rattle.std.proofs.lemmas.Grind.{common_steps}
use Rattle.clif_nodes.specs.declared.nodes.ValueNode.{ValueNode}
use Rattle.clif_nodes.specs.declared.nodes.ValueOrigin.TheVariants.{Param}
use Rattle.clif_nodes.specs.Links.{blocks_of}
use Rattle.clif_nodes.specs.Nodes.{BlockNode}
use Rattle.clif_ir.specs.Body.{Body, block_at}
use Rattle.clif_ir.specs.Changes.{with_param}
use Rattle.clif_ir.specs.Whole.{body_of}
use Rattle.clif_ir.proofs.KeepsListed.{listed_push}
use Rattle.clif_ir.proofs.Keeps.{consistent_at}
use Rattle.clif_ir.proofs.KeepsParam.{with_param_consistent}
use Rattle.clif_ir.proofs.Rows.{ends_written, params_read, params_written}
use Rattle.clif_ir.proofs.function.Function.append_block_param.Goals as goal
use Rattle.clif_ir.proofs.function.Function.append_block_param.Goals.{After-push_reserved}

exists : (c : After-push_reserved) → c.args.block < length (body_of c.self.inside).blocks
exists c = subst (λ (f : Body). c.args.block < length f.blocks) (sym c.self.view_is) c.requires

made : (c : After-push_reserved) → with_param (body_of c.self.inside) c.args.block c.args.ty
    ≡ record (body_of c.self.inside) {
      values = c.push_reserved.new.self.items;
      blocks = blocks_of c.self.inside.inst_links.items (set c.self.inside.blocks.items c.index.result (record c.index_mut.result.now { params = c.push.new.self }));
    }
made c =
    let f : Body = body_of c.self.inside in
    let read : c.index_mut.result.now.params ≡ (block_at f c.args.block).params =
    params_read c.self.inside.blocks.items c.self.inside.inst_links.items c.args.block c.index.result c.index_mut.result.now c.index.ensures.place (exists c) c.index_mut.ensures.value in
    let number : c.in_ok-value.value ≡ length f.values = c.in_ok-value.ensures.ok in
    let pushed : c.push.new.self ≡ c.index_mut.result.now.params ++ c.in_ok-value.value ∷ [] = c.in_ok-push.ensures.ok in
    let params : (block_at f c.args.block).params ++ length f.values ∷ [] ≡ c.push.new.self =
    ap (λ (ps : List ℕ). ps ++ length f.values ∷ []) (sym read) ∙ ap (λ n. c.index_mut.result.now.params ++ n ∷ []) (sym number) ∙ sym pushed in
    let node : ValueNode = record { ty = c.args.ty; origin = Param c.args.block } in
    let values : f.values ++ node ∷ [] ≡ c.push_reserved.new.self.items =
    grind (arith, common_steps) in
    ap (λ (ps : List ℕ). record (with_param f c.args.block c.args.ty) { blocks = set f.blocks c.args.block (record (block_at f c.args.block) { params = ps }) }) params
    ∙ ap (λ (bs : List BlockNode). record (with_param f c.args.block c.args.ty) { blocks = bs })
    (params_written c.self.inside.blocks.items c.self.inside.inst_links.items c.args.block c.index.result c.index_mut.result.now c.index.ensures.place (exists c) c.index_mut.ensures.value c.push.new.self)
    ∙ ap (λ (vs : List ValueNode). record f { values = vs; blocks = blocks_of c.self.inside.inst_links.items (set c.self.inside.blocks.items c.index.result (record c.index_mut.result.now { params = c.push.new.self })) }) values

pub invariant_of-self-2 : goal.invariant_of-self-2
invariant_of-self-2 c = record {
  linked = c.self.invariant.linked;
  listed = listed_push _ _ (record { ty = c.args.ty; origin = Param c.args.block }) _ (grind (arith, common_steps)) refl c.self.invariant.listed;
  consistent = consistent_at (with_param (body_of c.self.inside) c.args.block c.args.ty) _ (made c)
      (with_param_consistent _ _ _ c.self.invariant.consistent (exists c) (grind (arith, common_steps)));
  threaded =
      ends_written c.self.inside.blocks.items c.self.inside.inst_links.items c.args.block c.index.result c.index_mut.result.now c.index.ensures.place (exists c) c.index_mut.ensures.value
      _ refl refl refl c.self.invariant.threaded;
  link_count = c.self.invariant.link_count;
  place_count = grind (arith, common_steps, c.self.invariant.place_count);
}

pub returns-clause-ok : goal.returns-clause-ok
returns-clause-ok c = sym (made (goal.at.returns-clause-ok c).After-push_reserved) ∙ ap (λ f. with_param f c.args.block c.args.ty) c.self.view_is
