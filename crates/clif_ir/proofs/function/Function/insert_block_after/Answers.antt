use Rattle.std.proofs.Common.{arith, rules, ◌∙◌, ◌≡◌, ◌<◌, length, ap, sym, subst}
use Rattle.std.specs.Prelude.{slice_index_or}
use Rattle.std.specs.Vec.{with_items}
use Rattle.std.proofs.lemmas.Grind.{common_steps}
use Rattle.std.proofs.lemmas.List.{with_items_is, places}
use Rattle.clif_nodes.specs.declared.nodes.BlockPlace.{BlockPlace}
use Rattle.clif_ir.specs.Body.{Body}
use Rattle.clif_ir.specs.Changes.{with_layout_after}
use Rattle.clif_ir.specs.Consistent.{IsConsistent}
use Rattle.clif_instructions.specs.Members.{Stands}
use Rattle.clif_ir.specs.Whole.{IsLinked, body_of}
use Rattle.clif_nodes.specs.Places.{last_after, linked_after, no_place}
use Rattle.clif_ir.proofs.Linking.{IsOrdered, ordered_behind, ordered_read}
use Rattle.clif_ir.proofs.function.Function.insert_block_after.Goals as goal

pub invariant_of-self : goal.invariant_of-self
invariant_of-self c =
    let kept : (with_items c.self.inside.block_places c.link_after.new.places).items ≡ c.link_after.new.places = with_items_is c.self.inside.block_places c.link_after.new.places (search (rules, places)) in
    let count : length c.self.inside.block_places.items ≡ length (body_of c.self.inside).blocks = grind (arith, common_steps, c.self.invariant.place_count) in
    let there : IsOrdered (body_of c.self.inside) _ _ _ _ = ordered_read _ _ _ (with_items c.self.inside.block_places c.link_after.new.places).items _ _ c.last_after-self-inside.result
    (kept ∙ c.link_after.ensures ∙ ap (λ ps. linked_after ps c.args.block c.args.after) c.deref_mut.ensures.value)
    (c.last_after-self-inside.ensures ∙ ap (λ (p : BlockPlace). last_after c.self.inside.last_block p.next c.args.block) (c.place_at-next.ensures ∙ ap (λ ps. slice_index_or ps c.args.after no_place) c.deref.ensures.value))
    (ordered_behind (body_of c.self.inside) c.self.inside.block_places.items c.self.inside.first_block c.self.inside.last_block c.args.block c.args.after
    (subst (λ (f : Body). c.args.block < length f.blocks) (sym c.self.view_is) c.requires.exists)
    (subst (λ (f : Body). Stands c.args.after f.layout) (sym c.self.view_is) c.requires.inside)
    (subst (λ (f : Body). Stands c.args.block f.layout → ⊥) (sym c.self.view_is) c.requires.outside)
    c.self.invariant.consistent count c.self.invariant.linked) in
    record {
      linked = subst (λ l. IsLinked l (with_items c.self.inside.block_places c.link_after.new.places).items c.self.inside.first_block c.last_after-self-inside.result) (sym there.chained) there.linked;
      listed = c.self.invariant.listed;
      consistent = subst (λ l. IsConsistent (record (body_of c.self.inside) { layout = l })) (sym there.chained) there.consistent;
      threaded = c.self.invariant.threaded;
      link_count = c.self.invariant.link_count;
      place_count = there.place_count ∙ grind (arith, common_steps);
    }

pub returns : goal.returns
returns c =
    let kept : (with_items c.self.inside.block_places c.link_after.new.places).items ≡ c.link_after.new.places = with_items_is c.self.inside.block_places c.link_after.new.places (search (rules, places)) in
    let count : length c.self.inside.block_places.items ≡ length (body_of c.self.inside).blocks = grind (arith, common_steps, c.self.invariant.place_count) in
    let there : IsOrdered (body_of c.self.inside) _ _ _ _ = ordered_read _ _ _ (with_items c.self.inside.block_places c.link_after.new.places).items _ _ c.last_after-self-inside.result
    (kept ∙ c.link_after.ensures ∙ ap (λ ps. linked_after ps c.args.block c.args.after) c.deref_mut.ensures.value)
    (c.last_after-self-inside.ensures ∙ ap (λ (p : BlockPlace). last_after c.self.inside.last_block p.next c.args.block) (c.place_at-next.ensures ∙ ap (λ ps. slice_index_or ps c.args.after no_place) c.deref.ensures.value))
    (ordered_behind (body_of c.self.inside) c.self.inside.block_places.items c.self.inside.first_block c.self.inside.last_block c.args.block c.args.after
    (subst (λ (f : Body). c.args.block < length f.blocks) (sym c.self.view_is) c.requires.exists)
    (subst (λ (f : Body). Stands c.args.after f.layout) (sym c.self.view_is) c.requires.inside)
    (subst (λ (f : Body). Stands c.args.block f.layout → ⊥) (sym c.self.view_is) c.requires.outside)
    c.self.invariant.consistent count c.self.invariant.linked) in
    ap (λ l. record (body_of c.self.inside) { layout = l }) there.chained ∙ ap (λ f. with_layout_after f c.args.block c.args.after) c.self.view_is
