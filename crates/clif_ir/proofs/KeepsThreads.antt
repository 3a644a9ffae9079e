-- The changes of a function keep its instructions linked.
use Rattle.std.proofs.Common.{◌≡◌, ◌≢◌, ℕ, ◌+◌, ◌-◌, ◌<◌, ◌≤◌, List, [], ◌∷◌, ◌++◌, length, set, refl, ap, arith, sym, ◌∙◌, subst, Bool, true}
use Rattle.std.specs.Prelude.{slice_index, slice_index_or, slice_get, Some}
use Rattle.std.specs.List.{insert}
use Rattle.std.proofs.lemmas.Grind.{common_steps}
use Rattle.std.proofs.lemmas.List.{map-set, map-append}
use Rattle.std.proofs.lemmas.Option.{slice_get_within, get_or_from_slice_get}
use Rattle.clif_types.specs.declared.types.«Type».{«Type»}
use Rattle.clif_instructions.specs.declared.insert_at.InsertAt.TheVariants.{Behind}
use Rattle.clif_instructions.specs.declared.instructions.InstructionData.{InstructionData}
use Rattle.clif_instructions.proofs.Lists.{at_push, at_set, at_past}
use Rattle.clif_nodes.specs.declared.inst_links.InstLinks.{InstLinks}
use Rattle.clif_nodes.specs.declared.nodes.BlockData.{BlockData}
use Rattle.clif_nodes.specs.Links.{block_of, blocks_of, inst_chain, linked_between, with_inst_between}
use Rattle.clif_nodes.specs.Nodes.{BlockNode, empty_block, no_data}
use Rattle.clif_ir.specs.Body.{Body, block_at, inst_at}
use Rattle.clif_ir.specs.Changes.{with_inst}
use Rattle.clif_ir.specs.Consistent.{IsConsistent}
use Rattle.clif_ir.specs.Whole.{AreThreaded, IsThread, entry_before}
use Rattle.clif_ir.proofs.Neighbours.{before-is}
use Rattle.clif_ir.proofs.Threads.{IsBetween, blocks_of-at, blocks_of-each, inst_chain-none, linked_between-is, next_bound, previous_bound, thread-chain, thread_kept, thread_put}

-- ROWS THAT CHANGE IN ONE BLOCK -----------------------------------------------------------------------------------

-- what is kept of a block's instructions is the same
pub record AreEnds (now before : BlockData) : Type 0 where
  pub first : now.first_inst ≡ before.first_inst
  pub last : now.last_inst ≡ before.last_inst
  pub count : now.inst_count ≡ before.inst_count

thread_same : (xs ys : List ℕ) (now before : BlockData) (links : List InstLinks) → ys ≡ xs → AreEnds now before → IsThread xs before links → IsThread ys now links
thread_same xs ys now before links same ends thread =
    subst (λ zs. IsThread zs now links) (sym same)
    (record {
      first_is = ends.first ∙ thread.first_is;
      last_is = ends.last ∙ thread.last_is;
      count_is = ends.count ∙ thread.count_is;
      next_is = thread.next_is;
      previous_is = thread.previous_is;
    })

-- a block whose row changes, but not in what is kept of its instructions
pub row_set : (rows : List BlockData) (links : List InstLinks) (b : ℕ) (row : BlockData) → b < length rows → AreEnds row (slice_index_or rows b no_data)
    → AreThreaded (blocks_of links rows) rows links → AreThreaded (blocks_of links (set rows b row)) (set rows b row) links
row_set rows links b row inside ends threaded = record {
  thread = λ c.
      let same_ends : AreEnds (slice_index_or (set rows b row) c no_data) (slice_index_or rows c no_data) =
      at_set (λ (r : BlockData). AreEnds r (slice_index_or rows c no_data)) rows b row c no_data inside
      (λ same. subst (λ d. AreEnds row (slice_index_or rows d no_data)) (sym same) ends) (λ _. record { first = refl; last = refl; count = refl }) in
      let same_insts : (slice_index_or (blocks_of links (set rows b row)) c empty_block).insts ≡ (slice_index_or (blocks_of links rows) c empty_block).insts =
      ap (λ (n : BlockNode). n.insts) (blocks_of-at links (set rows b row) c) ∙ ap (inst_chain (length links) links) same_ends.first
      ∙ sym (ap (λ (n : BlockNode). n.insts) (blocks_of-at links rows c)) in
      thread_same _ _ _ _ links same_insts same_ends (threaded.thread c);
}

-- a new block
pub row_push : (rows : List BlockData) (links : List InstLinks) → AreThreaded (blocks_of links rows) rows links
    → AreThreaded (blocks_of links (rows ++ no_data ∷ [])) (rows ++ no_data ∷ []) links
row_push rows links threaded = record {
  thread = λ c.
      let same : slice_index_or (rows ++ no_data ∷ []) c no_data ≡ slice_index_or rows c no_data =
      at_push (λ (r : BlockData). r ≡ slice_index_or rows c no_data) rows no_data c no_data (λ _. refl)
      (λ here. sym (at_past rows c no_data (omega (arith, here)))) (λ past. sym (at_past rows c no_data (omega (arith, past)))) in
      let same_insts : (slice_index_or (blocks_of links (rows ++ no_data ∷ [])) c empty_block).insts ≡ (slice_index_or (blocks_of links rows) c empty_block).insts =
      ap (λ (n : BlockNode). n.insts) (blocks_of-at links (rows ++ no_data ∷ []) c ∙ ap (block_of links) same ∙ sym (blocks_of-at links rows c)) in
      thread_same _ _ _ _ links same_insts
      (record { first = ap (λ (r : BlockData). r.first_inst) same; last = ap (λ (r : BlockData). r.last_inst) same; count = ap (λ (r : BlockData). r.inst_count) same })
      (threaded.thread c);
}

-- the blocks that contracts see, as a row changes
pub blocks-cold : (rows : List BlockData) (links : List InstLinks) (b : ℕ)
    → blocks_of links (set rows b (record (slice_index_or rows b no_data) { is_cold = true }))
    ≡ set (blocks_of links rows) b (record (slice_index_or (blocks_of links rows) b empty_block) { is_cold = true })
blocks-cold rows links b =
    map-set (block_of links) rows b (record (slice_index_or rows b no_data) { is_cold = true })
    ∙ ap (λ (n : BlockNode). set (blocks_of links rows) b (record n { is_cold = true })) (sym (blocks_of-at links rows b))

pub blocks-params : (rows : List BlockData) (links : List InstLinks) (b : ℕ) (params : List ℕ)
    → blocks_of links (set rows b (record (slice_index_or rows b no_data) { params = params }))
    ≡ set (blocks_of links rows) b (record (slice_index_or (blocks_of links rows) b empty_block) { params = params })
blocks-params rows links b params =
    map-set (block_of links) rows b (record (slice_index_or rows b no_data) { params = params })
    ∙ ap (λ (n : BlockNode). set (blocks_of links rows) b (record n { params = params })) (sym (blocks_of-at links rows b))

pub blocks-push : (rows : List BlockData) (links : List InstLinks) → blocks_of links (rows ++ no_data ∷ []) ≡ blocks_of links rows ++ empty_block ∷ []
blocks-push rows links =
    map-append (block_of links) rows (no_data ∷ [])
    ∙ ap (λ (xs : List ℕ). blocks_of links rows ++ record empty_block { insts = xs } ∷ []) (inst_chain-none (length links) links)

-- A NEW INSTRUCTION -----------------------------------------------------------------------------------------------

-- the row of a block with one more instruction
abbrev pub rows_with : List BlockData → ℕ → ℕ → InstLinks → List BlockData
rows_with rows b inst own = set rows b (with_inst_between (slice_index_or rows b no_data) inst own)

-- links that lead along the instructions of each block make the blocks
blocks_read : (g : Body) (rows : List BlockData) (links : List InstLinks) → IsConsistent g → length rows ≡ length g.blocks → length links ≡ length g.insts
    → ((b : ℕ) → (slice_index_or rows b no_data).params ≡ (block_at g b).params) → ((b : ℕ) → (slice_index_or rows b no_data).is_cold ≡ (block_at g b).is_cold)
    → AreThreaded g.blocks rows links → blocks_of links rows ≡ g.blocks
blocks_read g rows links known row_count link_count params cold threaded =
    blocks_of-each links rows g.blocks row_count (λ b inside.
    let row : BlockData = slice_index_or rows b no_data in
    let node : BlockNode = block_at g b in
    let insts : inst_chain (length links) links row.first_inst ≡ node.insts =
    thread-chain node.insts row links (known.insts_once b) (λ k here. omega (arith, (known.insts_known b k here).0, link_count)) (threaded.thread b) in
    ap (λ (ps : List ℕ). record (block_of links row) { params = ps }) (params b)
    ∙ ap (λ (xs : List ℕ). record node { insts = xs; is_cold = row.is_cold }) insts
    ∙ ap (λ (c : Bool). record node { is_cold = c }) (cold b))

module _ (f : Body) (b c : ℕ) (shape : InstructionData) (types : List «Type») (loc : ℕ) (rows : List BlockData) (links : List InstLinks) (own : InstLinks)
    (known : IsConsistent f) (exists : b < length f.blocks) (fits : c ≤ length (block_at f b).insts) (row_count : length rows ≡ length f.blocks)
    (link_count : length links ≡ length f.insts) (previous : own.previous ≡ entry_before (block_at f b).insts c) (next : own.next ≡ slice_get (block_at f b).insts c)
    (threaded : AreThreaded f.blocks rows links) where
  below : (d k : ℕ) → k < length (block_at f d).insts → slice_index (block_at f d).insts k < length links
  below d k inside = omega (arith, (known.insts_known d k inside).0, link_count)

  -- an instruction of another block is none of this one
  apart : (d k : ℕ) → d ≢ b → k < length (block_at f d).insts → (j : ℕ) → j < length (block_at f b).insts → slice_index (block_at f b).insts j ≢ slice_index (block_at f d).insts k
  apart d k other inside j here same =
      other (sym (known.insts_known d k inside).1 ∙ ap (λ i. (inst_at f i).block) (sym same) ∙ (known.insts_known b j here).1)

  made : IsBetween links own (linked_between links own)
  made = linked_between-is links own (previous_bound (block_at f b).insts (length links) own.previous c previous fits (below b)) (next_bound (block_at f b).insts (length links) own.next c next (below b))

  not_previous : (d k : ℕ) → d ≢ b → k < length (block_at f d).insts → own.previous ≢ Some (slice_index (block_at f d).insts k)
  not_previous d k other inside same =
      let there : (0 < c) × (slice_index (block_at f b).insts (c - 1) ≡ slice_index (block_at f d).insts k) × (c ≤ length (block_at f b).insts) = before-is _ c _ (sym previous ∙ same) in
      apart d k other inside (c - 1) (omega (arith, there.0, there.2)) there.1

  not_next : (d k : ℕ) → d ≢ b → k < length (block_at f d).insts → own.next ≢ Some (slice_index (block_at f d).insts k)
  not_next d k other inside same =
      apart d k other inside c (slice_get_within _ c _ (sym next ∙ same)) (get_or_from_slice_get _ c _ 0 (sym next ∙ same))

  pub with_inst_threaded : AreThreaded (with_inst f b (Behind c) shape types loc).blocks (rows_with rows b (length f.insts) own) (linked_between links own)
  with_inst_threaded =
      let xs : List ℕ = (block_at f b).insts in
      let inside : b < length rows = omega (arith, exists, row_count) in
      let changed : BlockNode = record (block_at f b) { insts = insert xs c (length f.insts) } in
      let row : BlockData = with_inst_between (slice_index_or rows b no_data) (length f.insts) own in
      let now : List InstLinks = linked_between links own in
      let put : IsThread changed.insts row now =
      subst (λ x. IsThread (insert xs c x) (with_inst_between (slice_index_or rows b no_data) x own) now) link_count
      (thread_put xs (slice_index_or rows b no_data) links own c fits (known.insts_once b) (below b) previous next (threaded.thread b)) in
      record {
        thread = λ d.
            at_set (λ (n : BlockNode). IsThread n.insts (slice_index_or (set rows b row) d no_data) now) f.blocks b changed d empty_block exists
            (λ same.
            at_set (λ (r : BlockData). IsThread changed.insts r now) rows b row d no_data inside (λ _. put) (λ other. absurd (other same)))
            (λ other.
            at_set (λ (r : BlockData). IsThread (block_at f d).insts r now) rows b row d no_data inside (λ same. absurd (other same))
            (λ _. thread_kept (block_at f d).insts (slice_index_or rows d no_data) links now own made (below d) (λ k. not_previous d k other) (λ k. not_next d k other) (threaded.thread d)));
      }

  pub with_inst_links : length (linked_between links own) ≡ length f.insts + 1
  with_inst_links = omega (arith, made.count, link_count)

  -- and they make the blocks that contracts see
  pub with_inst_blocks : f.blocks ≡ blocks_of links rows → IsConsistent (with_inst f b (Behind c) shape types loc)
      → blocks_of (linked_between links own) (rows_with rows b (length f.insts) own) ≡ (with_inst f b (Behind c) shape types loc).blocks
  with_inst_blocks are kept =
      let g : Body = with_inst f b (Behind c) shape types loc in
      let xs : List ℕ = (block_at f b).insts in
      let inside : b < length rows = omega (arith, exists, row_count) in
      let changed : BlockNode = record (block_at f b) { insts = insert xs c (length f.insts) } in
      let row : BlockData = with_inst_between (slice_index_or rows b no_data) (length f.insts) own in
      let was : (d : ℕ) → block_at f d ≡ block_of links (slice_index_or rows d no_data) = λ d. ap (λ (bs : List BlockNode). slice_index_or bs d empty_block) are ∙ blocks_of-at links rows d in
      let row_params : (d : ℕ) → (slice_index_or (set rows b row) d no_data).params ≡ (slice_index_or rows d no_data).params = λ d.
      at_set (λ (r : BlockData). r.params ≡ (slice_index_or rows d no_data).params) rows b row d no_data inside (λ same. ap (λ e. (slice_index_or rows e no_data).params) (sym same)) (λ _. refl) in
      let row_cold : (d : ℕ) → (slice_index_or (set rows b row) d no_data).is_cold ≡ (slice_index_or rows d no_data).is_cold = λ d.
      at_set (λ (r : BlockData). r.is_cold ≡ (slice_index_or rows d no_data).is_cold) rows b row d no_data inside (λ same. ap (λ e. (slice_index_or rows e no_data).is_cold) (sym same)) (λ _. refl) in
      let node_params : (d : ℕ) → (block_at g d).params ≡ (block_at f d).params = λ d.
      at_set (λ (n : BlockNode). n.params ≡ (block_at f d).params) f.blocks b changed d empty_block exists (λ same. ap (λ e. (block_at f e).params) (sym same)) (λ _. refl) in
      let node_cold : (d : ℕ) → (block_at g d).is_cold ≡ (block_at f d).is_cold = λ d.
      at_set (λ (n : BlockNode). n.is_cold ≡ (block_at f d).is_cold) f.blocks b changed d empty_block exists (λ same. ap (λ e. (block_at f e).is_cold) (sym same)) (λ _. refl) in
      blocks_read g (rows_with rows b (length f.insts) own) (linked_between links own) kept (grind (arith, common_steps, row_count)) (with_inst_links ∙ sym (grind (arith, common_steps)))
      (λ d. row_params d ∙ sym (ap (λ (n : BlockNode). n.params) (was d)) ∙ sym (node_params d))
      (λ d. row_cold d ∙ sym (ap (λ (n : BlockNode). n.is_cold) (was d)) ∙ sym (node_cold d))
      with_inst_threaded
