use Rattle.std.proofs.Common.{◌≡◌, ◌≢◌, ◌∙◌, ◌+◌, ◌<◌, ◌≤◌, ℕ, List, length, set, ap, sym, subst, refl, arith}
use Rattle.std.proofs.lemmas.Grind.{common_steps}
use Rattle.clif_nodes.specs.declared.nodes.ValueNode.{ValueNode}
use Rattle.clif_nodes.specs.declared.nodes.ValueOrigin.TheVariants.{Param, Alias}
use Rattle.clif_nodes.specs.Links.{blocks_of}
use Rattle.clif_nodes.specs.Nodes.{BlockNode}
use Rattle.clif_instructions.specs.Members.{without}
use Rattle.clif_ir.specs.Body.{Body, block_at, value_at, resolved, alias_of_origin}
use Rattle.clif_ir.specs.Changes.{with_alias, home_of}
use Rattle.clif_ir.specs.Whole.{body_of}
use Rattle.clif_ir.proofs.KeepsListed.{listed_alias_with, listed_fewer}
use Rattle.clif_ir.proofs.Keeps.{consistent_at}
use Rattle.clif_ir.proofs.KeepsAlias.{with_alias_consistent}
use Rattle.clif_ir.proofs.Rows.{ends_written, params_read, params_written}
use Rattle.clif_ir.proofs.function.Function.change_param_to_alias.Goals as goal
use Rattle.clif_ir.proofs.function.Function.change_param_to_alias.Goals.{After-index_mut-2}

home : (c : After-index_mut-2) → c.param_block-block.result ≡ home_of (value_at (body_of c.self.inside) c.args.param).origin
home c = c.param_block-block.ensures.exact ∙ ap (λ (g : Body). home_of (value_at g c.args.param).origin) (sym c.self.view_is)

exists : (c : After-index_mut-2) → home_of (value_at (body_of c.self.inside) c.args.param).origin < length (body_of c.self.inside).blocks
exists c =
    subst (λ b. b < length (body_of c.self.inside).blocks) (home c)
    (subst (λ (g : Body). c.param_block-block.result < length g.blocks) (sym c.self.view_is) c.param_block-block.ensures.exists)

made : (c : After-index_mut-2) → with_alias (body_of c.self.inside) c.args.param c.args.original
    ≡ record (body_of c.self.inside) {
      values = set c.self.inside.values.items c.index-2.result (record { ty = c.index_mut-2.result.now.ty; origin = Alias c.resolve_aliases-target.result });
      blocks = blocks_of c.self.inside.inst_links.items (set c.self.inside.blocks.items c.index.result (record c.index_mut.result.now { params = c.remove.new.self }));
    }
made c =
    let f : Body = body_of c.self.inside in
    let b : ℕ = home_of (value_at f c.args.param).origin in
    let at : c.index.result ≡ b = c.index.ensures.place ∙ home c in
    let read : c.index_mut.result.now.params ≡ (block_at f b).params =
    params_read c.self.inside.blocks.items c.self.inside.inst_links.items b c.index.result c.index_mut.result.now at (exists c) c.index_mut.ensures.value in
    let params : without c.args.param (block_at f b).params ≡ c.remove.new.self = ap (without c.args.param) (sym read) ∙ sym c.remove.ensures in
    let values : (with_alias f c.args.param c.args.original).values ≡ set c.self.inside.values.items c.index-2.result (record { ty = c.index_mut-2.result.now.ty; origin = Alias c.resolve_aliases-target.result }) =
    grind (arith, common_steps) in
    ap (λ (ps : List ℕ). record (with_alias f c.args.param c.args.original) { blocks = set f.blocks b (record (block_at f b) { params = ps }) }) params
    ∙ ap (λ (bs : List BlockNode). record (with_alias f c.args.param c.args.original) { blocks = bs })
    (params_written c.self.inside.blocks.items c.self.inside.inst_links.items b c.index.result c.index_mut.result.now at (exists c) c.index_mut.ensures.value c.remove.new.self)
    ∙ ap (λ (vs : List ValueNode). record f { values = vs; blocks = blocks_of c.self.inside.inst_links.items (set c.self.inside.blocks.items c.index.result (record c.index_mut.result.now { params = c.remove.new.self })) }) values

pub insert-requires : goal.insert-requires
insert-requires c =
    let param : (value_at (body_of c.self.inside) c.args.param).origin ≡ Param (home_of (value_at (body_of c.self.inside) c.args.param).origin) =
    subst (λ (f : Body). (value_at f c.args.param).origin ≡ Param (home_of (value_at f c.args.param).origin)) (sym c.self.view_is) c.requires.is_param in
    let inside : c.args.param < length c.self.inside.values.items = subst (λ (f : Body). c.args.param < length f.values) (sym c.self.view_is) c.requires.param_exists in
    let fewer : length c.self.inside.aliases + 1 ≤ length c.self.inside.values.items =
    listed_fewer c.self.inside.values.items c.args.param _ inside (ap alias_of_origin param) c.self.invariant.listed in
    omega (arith, fewer, c.self.invariant.consistent.values_fit)

pub invariant_of-self-2 : goal.invariant_of-self-2
invariant_of-self-2 c =
    let at : After-index_mut-2 = (goal.at.invariant_of-self-2 c).After-index_mut-2 in
    let param : (value_at (body_of c.self.inside) c.args.param).origin ≡ Param (home_of (value_at (body_of c.self.inside) c.args.param).origin) =
    subst (λ (f : Body). (value_at f c.args.param).origin ≡ Param (home_of (value_at f c.args.param).origin)) (sym c.self.view_is) c.requires.is_param in
    let apart : resolved (body_of c.self.inside) c.args.original ≢ c.args.param = subst (λ (f : Body). resolved f c.args.original ≢ c.args.param) (sym c.self.view_is) c.requires.apart in
    record {
      linked = c.self.invariant.linked;
      listed = listed_alias_with c.self.inside.values.items _ c.args.param c.resolve_aliases-target.result
          (record { ty = c.index_mut-2.result.now.ty; origin = Alias c.resolve_aliases-target.result }) _ _ c.in_ok-insert.ensures.ok (grind (arith, common_steps))
          (grind (arith, common_steps)) (ap alias_of_origin param) refl c.self.invariant.listed;
      consistent = consistent_at (with_alias (body_of c.self.inside) c.args.param c.args.original) _ (made at)
          (with_alias_consistent _ _ _ _ c.self.invariant.consistent (grind (arith, common_steps)) param (grind (arith, common_steps)) apart);
      threaded =
          ends_written c.self.inside.blocks.items c.self.inside.inst_links.items (home_of (value_at (body_of c.self.inside) c.args.param).origin) c.index.result c.index_mut.result.now
          (c.index.ensures.place ∙ home at) (exists at) c.index_mut.ensures.value _ refl refl refl c.self.invariant.threaded;
      link_count = c.self.invariant.link_count;
      place_count = grind (arith, common_steps, c.self.invariant.place_count);
    }

pub returns-clause-ok : goal.returns-clause-ok
returns-clause-ok c = sym (made (goal.at.returns-clause-ok c).After-index_mut-2) ∙ ap (λ f. with_alias f c.args.param c.args.original) c.self.view_is
