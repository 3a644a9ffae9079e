use Rattle.std.proofs.Common.{arith, ◌∙◌, ◌≡◌, ◌<◌, [], length, ap, sym, subst, refl}
use Rattle.std.specs.Prelude.{slice_index_or, slice_set, true, Some}
use Rattle.std.specs.Vec.{with_items}
use Rattle.std.proofs.lemmas.Grind.{common_steps}
use Rattle.clif_ir.specs.Body.{Body}
use Rattle.clif_ir.specs.Changes.{with_layout}
use Rattle.clif_ir.specs.Consistent.{IsConsistent}
use Rattle.clif_ir.specs.Whole.{IsLinked, body_of}
use Rattle.clif_nodes.specs.Places.{no_place}
use Rattle.clif_ir.proofs.Linking.{IsOrdered, ordered_only, ordered_read}
use Rattle.clif_ir.proofs.function.Function.insert_only_block.Goals as goal

pub invariant_of-self : goal.invariant_of-self
invariant_of-self c =
    let kept : (with_items c.self.inside.block_places c.mark_inserted.new.places).items ≡ c.mark_inserted.new.places = grind (arith, common_steps) in
    let count : length c.self.inside.block_places.items ≡ length (body_of c.self.inside).blocks = grind (arith, common_steps, c.self.invariant.place_count) in
    let there : IsOrdered (body_of c.self.inside) _ _ _ _ = ordered_read _ _ _ (with_items c.self.inside.block_places c.mark_inserted.new.places).items _ _ _
    (kept ∙ c.mark_inserted.ensures ∙ ap (λ ps. slice_set ps c.args.block (record (slice_index_or ps c.args.block no_place) { is_inserted = true })) c.deref_mut.ensures.value) refl
    (ordered_only (body_of c.self.inside) c.self.inside.block_places.items c.self.inside.first_block c.self.inside.last_block c.args.block
    (subst (λ (f : Body). c.args.block < length f.blocks) (sym c.self.view_is) c.requires.exists)
    (subst (λ (f : Body). f.layout ≡ []) (sym c.self.view_is) c.requires.empty)
    c.self.invariant.consistent count c.self.invariant.linked) in
    record {
      linked = subst (λ l. IsLinked l (with_items c.self.inside.block_places c.mark_inserted.new.places).items (Some c.args.block) (Some c.args.block)) (sym there.chained) there.linked;
      listed = c.self.invariant.listed;
      consistent = subst (λ l. IsConsistent (record (body_of c.self.inside) { layout = l })) (sym there.chained) there.consistent;
      threaded = c.self.invariant.threaded;
      link_count = c.self.invariant.link_count;
      place_count = there.place_count ∙ grind (arith, common_steps);
    }

pub returns : goal.returns
returns c =
    let kept : (with_items c.self.inside.block_places c.mark_inserted.new.places).items ≡ c.mark_inserted.new.places = grind (arith, common_steps) in
    let count : length c.self.inside.block_places.items ≡ length (body_of c.self.inside).blocks = grind (arith, common_steps, c.self.invariant.place_count) in
    let there : IsOrdered (body_of c.self.inside) _ _ _ _ = ordered_read _ _ _ (with_items c.self.inside.block_places c.mark_inserted.new.places).items _ _ _
    (kept ∙ c.mark_inserted.ensures ∙ ap (λ ps. slice_set ps c.args.block (record (slice_index_or ps c.args.block no_place) { is_inserted = true })) c.deref_mut.ensures.value) refl
    (ordered_only (body_of c.self.inside) c.self.inside.block_places.items c.self.inside.first_block c.self.inside.last_block c.args.block
    (subst (λ (f : Body). c.args.block < length f.blocks) (sym c.self.view_is) c.requires.exists)
    (subst (λ (f : Body). f.layout ≡ []) (sym c.self.view_is) c.requires.empty)
    c.self.invariant.consistent count c.self.invariant.linked) in
    ap (λ l. record (body_of c.self.inside) { layout = l }) there.chained ∙ ap (λ f. with_layout f c.args.block) c.self.view_is
