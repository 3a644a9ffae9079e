use Rattle.std.proofs.Common.{arith, rules, refl, ◌≡◌, ◌∙◌, ◌-◌, ◌^◌, ℕ, List, subst, sym, ap, ◌<◌, length}
use Rattle.std.specs.Prelude.{EachIndex, All, IfSome, slice_index, slice_index_or}
use Rattle.std.specs.Vec.{with_items}
use Rattle.std.proofs.lemmas.Grind.{common_steps}
use Rattle.std.proofs.lemmas.List.{with_items_is, places}
use Rattle.clif_instructions.specs.declared.insert_at.InsertAt.TheVariants.{Behind}
use Rattle.clif_instructions.specs.Instruction.{contexts, entries_of, operands, destinations}
use Rattle.clif_instructions.specs.Members.{Stands}
use Rattle.clif_tables.specs.Callees.{types_of_results}
use Rattle.clif_nodes.specs.declared.inst_links.InstLinks.{InstLinks}
use Rattle.clif_nodes.specs.declared.nodes.BlockData.{BlockData}
use Rattle.clif_nodes.specs.declared.nodes.InstNode.{InstNode}
use Rattle.clif_nodes.specs.declared.nodes.ValueNode.{ValueNode}
use Rattle.clif_nodes.specs.Links.{blocks_of, linked_between}
use Rattle.clif_nodes.specs.Nodes.{BlockNode, no_data}
use Rattle.clif_ir.specs.Body.{Body, block_at, resolved}
use Rattle.clif_ir.specs.Changes.{with_inst}
use Rattle.clif_ir.specs.Consistent.{IsConsistent, EdgeExists, EntryExists, ValueExists}
use Rattle.clif_ir.specs.Whole.{body_of, place_behind}
use Rattle.clif_ir.proofs.KeepsInst.{with_inst_consistent, branch-types_of_results, length-types_of_results, with_inst-unaliased}
use Rattle.clif_ir.proofs.KeepsListed.{listed_results}
use Rattle.clif_ir.proofs.KeepsThreads.{rows_with, with_inst_blocks, with_inst_links, with_inst_threaded}
use Rattle.clif_ir.proofs.KeepsWhole.{whole_with}
use Rattle.clif_ir.proofs.Rows.{IsPlaceBehind, count_fits, own_read, place_behind-is}
use Rattle.clif_ir.proofs.function.Function.insert_inst_behind.Goals as goal
use Rattle.clif_ir.proofs.function.Function.insert_inst_behind.Goals.{After-push_reserved}

pub put_between-requires-clause-room : goal.put_between-requires-clause-room
put_between-requires-clause-room c =
    subst (λ rows. (slice_index_or rows c.args.block no_data).inst_count < 2 ^ 32 - 1) (sym c.deref_mut.ensures.value)
    (count_fits (body_of c.self.inside) c.self.inside.blocks.items c.self.inside.inst_links.items c.args.block (2 ^ 32 - 1) c.self.invariant.consistent c.self.invariant.threaded c.in_ok-results.ensures.few_insts)

pub link_between-requires-clause-next_exists : goal.link_between-requires-clause-next_exists
link_between-requires-clause-next_exists c =
    let exists : c.args.block < length (body_of c.self.inside).blocks = subst (λ (f : Body). c.args.block < length f.blocks) (sym c.self.view_is) c.requires.block_exists in
    let place : IsPlaceBehind (body_of c.self.inside) c.args.block c.args.previous c.links_behind-links.result =
    place_behind-is (body_of c.self.inside) c.self.inside.blocks.items c.self.inside.inst_links.items c.args.block c.args.previous c.links_behind-links.result c.self.invariant.consistent c.self.invariant.threaded
    (subst (λ (f : Body). IfSome c.args.previous (λ p. Stands p (block_at f c.args.block).insts)) (sym c.self.view_is) c.requires.previous_stands)
    (own_read c.self.inside.blocks.items c.self.inside.inst_links.items c.deref.result.now c.args.block c.index.result c.index-2.result.now c.args.previous c.links_behind-links.result c.index.ensures.place exists
    c.index-2.ensures (c.deref.ensures.value ∙ c.in_ok-results.ensures.same_links) c.links_behind-links.ensures) in
    let count : length c.self.inside.insts.items ≡ length c.room_for_inst.new.links.items = sym c.self.invariant.link_count ∙ ap (λ (ls : List InstLinks). length ls) (sym c.in_ok-results.ensures.same_links) in
    subst (λ n. IfSome c.links_behind-links.result.next (λ i. i < n)) count place.next_exists

exists : (c : After-push_reserved) → c.args.block < length (body_of c.self.inside).blocks
exists c = subst (λ (f : Body). c.args.block < length f.blocks) (sym c.self.view_is) c.requires.block_exists

place : (c : After-push_reserved) → IsPlaceBehind (body_of c.self.inside) c.args.block c.args.previous c.links_behind-links.result
place c =
    place_behind-is (body_of c.self.inside) c.self.inside.blocks.items c.self.inside.inst_links.items c.args.block c.args.previous c.links_behind-links.result c.self.invariant.consistent c.self.invariant.threaded
    (subst (λ (f : Body). IfSome c.args.previous (λ p. Stands p (block_at f c.args.block).insts)) (sym c.self.view_is) c.requires.previous_stands)
    (own_read c.self.inside.blocks.items c.self.inside.inst_links.items c.deref.result.now c.args.block c.index.result c.index-2.result.now c.args.previous c.links_behind-links.result c.index.ensures.place (exists c)
    c.index-2.ensures (c.deref.ensures.value ∙ c.in_ok-results.ensures.same_links) c.links_behind-links.ensures)

rows_are : (c : After-push_reserved) → rows_with c.self.inside.blocks.items c.args.block (length c.self.inside.insts.items) c.links_behind-links.result ≡ (with_items c.self.inside.blocks c.put_between.new.blocks).items
rows_are c =
    let kept : (with_items c.self.inside.blocks c.put_between.new.blocks).items ≡ c.put_between.new.blocks = with_items_is c.self.inside.blocks c.put_between.new.blocks (search (rules, places)) in
    let number : c.new-inst.result ≡ length c.self.inside.insts.items = grind (arith, common_steps) in
    ap (λ n. rows_with c.self.inside.blocks.items c.args.block n c.links_behind-links.result) (sym number)
    ∙ sym (kept ∙ c.put_between.ensures ∙ ap (λ (rs : List BlockData). rows_with rs c.args.block c.new-inst.result c.links_behind-links.result) c.deref_mut.ensures.value)

links_are : (c : After-push_reserved) → linked_between c.self.inside.inst_links.items c.links_behind-links.result ≡ c.link_between.new.links.items
links_are c = sym (c.link_between.ensures ∙ ap (λ (ls : List InstLinks). linked_between ls c.links_behind-links.result) c.in_ok-results.ensures.same_links)

-- the place where it is put
abbrev at : (c : After-push_reserved) → ℕ
at c = place_behind c.args.previous (block_at (body_of c.self.inside) c.args.block).insts

-- the function with the new instruction
abbrev after : (c : After-push_reserved) → Body
after c =
    with_inst (body_of c.self.inside) c.args.block (Behind (at c)) c.args.shape
    (types_of_results c.self.inside.tables c.args.shape c.args.ctrl_type) c.args.srcloc

consistent : (c : After-push_reserved) → IsConsistent (after c)
consistent c =
    with_inst_consistent (body_of c.self.inside) c.args.block (Behind (at c)) c.args.shape (types_of_results c.self.inside.tables c.args.shape c.args.ctrl_type) c.args.srcloc c.self.invariant.consistent (exists c) (place c).fits
    (subst (λ (f : Body). EachIndex (operands c.args.shape) (λ k. slice_index (operands c.args.shape) k < length f.values)) (sym c.self.view_is) c.requires.operands_exist)
    (subst (λ (f : Body). All (EdgeExists f) (destinations c.args.shape)) (sym c.self.view_is) c.requires.edges_exist)
    (subst (λ (f : Body). All (ValueExists f) (contexts c.args.shape)) (sym c.self.view_is) c.requires.contexts_exist)
    (subst (λ (f : Body). All (EntryExists f.tables) (entries_of c.args.shape)) (sym c.self.view_is) c.requires.entries_exist)
    (branch-types_of_results c.self.inside.tables c.args.shape c.args.ctrl_type) (grind (arith, common_steps)) (grind (arith, common_steps, length-types_of_results c.self.inside.tables c.args.shape c.args.ctrl_type))

row_count : (c : After-push_reserved) → length c.self.inside.blocks.items ≡ length (body_of c.self.inside).blocks
row_count c = grind (arith, common_steps)

body : (c : After-push_reserved) → after c
    ≡ record (body_of c.self.inside) {
      values = c.push_results.new.values.items;
      insts = c.push_reserved.new.self.items;
      blocks = blocks_of c.link_between.new.links.items (with_items c.self.inside.blocks c.put_between.new.blocks).items;
    }
body c =
    let values : (after c).values ≡ c.push_results.new.values.items = grind (arith, common_steps) in
    let insts : (after c).insts ≡ c.push_reserved.new.self.items = grind (arith, common_steps, length-types_of_results c.self.inside.tables c.args.shape c.args.ctrl_type) in
    let blocks : (after c).blocks ≡ blocks_of c.link_between.new.links.items (with_items c.self.inside.blocks c.put_between.new.blocks).items =
    sym (with_inst_blocks (body_of c.self.inside) c.args.block (at c) c.args.shape (types_of_results c.self.inside.tables c.args.shape c.args.ctrl_type) c.args.srcloc c.self.inside.blocks.items c.self.inside.inst_links.items c.links_behind-links.result
    c.self.invariant.consistent (exists c) (place c).fits (row_count c) c.self.invariant.link_count (place c).before (place c).after c.self.invariant.threaded refl (consistent c))
    ∙ ap (λ (rs : List BlockData). blocks_of (linked_between c.self.inside.inst_links.items c.links_behind-links.result) rs) (rows_are c)
    ∙ ap (λ (ls : List InstLinks). blocks_of ls (with_items c.self.inside.blocks c.put_between.new.blocks).items) (links_are c) in
    ap (λ (vs : List ValueNode). record (after c) { values = vs }) values
    ∙ ap (λ (is : List InstNode). record (after c) { values = c.push_results.new.values.items; insts = is }) insts
    ∙ ap (λ (bs : List BlockNode). record (body_of c.self.inside) { values = c.push_results.new.values.items; insts = c.push_reserved.new.self.items; blocks = bs }) blocks

pub invariant_of-self-2 : goal.invariant_of-self-2
invariant_of-self-2 c =
    whole_with (after c) _ _ _ (body c) (rows_are c) (links_are c) (consistent c)
    (with_inst_threaded (body_of c.self.inside) c.args.block (at c) c.args.shape (types_of_results c.self.inside.tables c.args.shape c.args.ctrl_type) c.args.srcloc c.self.inside.blocks.items c.self.inside.inst_links.items c.links_behind-links.result
    c.self.invariant.consistent (exists c) (place c).fits (row_count c) c.self.invariant.link_count (place c).before (place c).after c.self.invariant.threaded)
    (with_inst_links (body_of c.self.inside) c.args.block (at c) c.args.shape (types_of_results c.self.inside.tables c.args.shape c.args.ctrl_type) c.args.srcloc c.self.inside.blocks.items c.self.inside.inst_links.items c.links_behind-links.result
    c.self.invariant.consistent (exists c) (place c).fits (row_count c) c.self.invariant.link_count (place c).before (place c).after c.self.invariant.threaded ∙ grind (arith, common_steps))
    (grind (arith, common_steps, c.self.invariant.place_count)) c.self.invariant.linked
    (listed_results c.self.inside.values.items _ (length c.self.inside.insts.items) (types_of_results c.self.inside.tables c.args.shape c.args.ctrl_type) _ (grind (arith, common_steps)) c.self.invariant.listed)

pub returns-clause-ok : goal.returns-clause-ok
returns-clause-ok c =
    sym (body (goal.at.returns-clause-ok c).After-push_reserved)
    ∙ ap (λ (f : Body). with_inst f c.args.block (Behind (place_behind c.args.previous (block_at f c.args.block).insts)) c.args.shape (types_of_results f.tables c.args.shape c.args.ctrl_type) c.args.srcloc) c.self.view_is

pub returns-clause-unaliased : goal.returns-clause-unaliased
returns-clause-unaliased c =
    subst (λ g. resolved g (length c.args.self.now.values) ≡ length c.args.self.now.values) (sym (returns-clause-ok c))
    (with_inst-unaliased c.args.self.now c.args.block (Behind (place_behind c.args.previous (block_at c.args.self.now c.args.block).insts)) c.args.shape (types_of_results c.args.self.now.tables c.args.shape c.args.ctrl_type) c.args.srcloc)
