-- What calls read and write of the rows of blocks, and what contracts see of it.
use Rattle.std.proofs.Common.{◌≡◌, ℕ, ◌+◌, ◌-◌, ◌<◌, ◌≤◌, List, [], ◌∷◌, length, get_or, set, refl, ap, arith, sym, ◌∙◌, subst, true}
use Rattle.std.specs.Prelude.{slice_index, slice_index_or, slice_get, Option, Some, None, IfSome}
use Rattle.std.specs.List.{insert}
use Rattle.std.proofs.lemmas.Grind.{common_steps}
use Rattle.std.proofs.lemmas.List.{length-map}
use Rattle.std.proofs.lemmas.Option.{slice_get-get_or, slice_get_within, get_or_from_slice_get}
use Rattle.std.proofs.lemmas.List.Edits.{insert_end}
use Rattle.clif_types.specs.declared.types.«Type».{«Type»}
use Rattle.clif_instructions.specs.declared.insert_at.InsertAt.{InsertAt}
use Rattle.clif_instructions.specs.declared.insert_at.InsertAt.TheVariants.{Behind, Back}
use Rattle.clif_instructions.specs.declared.instructions.InstructionData.{InstructionData}
use Rattle.clif_instructions.specs.Members.{IsPlaceOf, Once, Stands, next_in, put_at}
use Rattle.clif_instructions.proofs.Members.{next_in-at}
use Rattle.clif_nodes.specs.declared.inst_links.InstLinks.{InstLinks}
use Rattle.clif_nodes.specs.declared.nodes.BlockData.{BlockData}
use Rattle.clif_nodes.specs.Links.{block_of, blocks_of, links_at, links_behind}
use Rattle.clif_nodes.specs.Nodes.{BlockNode, empty_block, no_data}
use Rattle.clif_ir.specs.Body.{Body, block_at, inst_at}
use Rattle.clif_ir.specs.Consistent.{IsConsistent}
use Rattle.clif_ir.specs.Changes.{with_inst}
use Rattle.clif_ir.specs.Reading.{place_in_block}
use Rattle.clif_ir.specs.Whole.{AreThreaded, count_before, entry_before, place_behind}
use Rattle.clif_ir.proofs.KeepsThreads.{blocks-cold, blocks-params, row_set}
use Rattle.clif_ir.proofs.Neighbours.{before-more}
use Rattle.clif_ir.proofs.Orders.{Once-length}
use Rattle.clif_ir.proofs.Threads.{before-place_behind, before-stands, blocks_of-at, links_behind-next, links_behind-previous, next_bound, place_behind-before, place_of-at, place_behind-fits, previous_bound}

not_some : {x : ℕ} → ◌≡◌ {A = Option ℕ} None (Some x) → ⊥
not_some same = cc

-- a block that contracts see has a row
pub row_exists : (rows : List BlockData) (links : List InstLinks) (b : ℕ) → b < length (blocks_of links rows) → b < length rows
row_exists rows links b inside = omega (arith, inside, length-map rows (block_of links))

module _ (rows : List BlockData) (links : List InstLinks) (b i : ℕ) (row : BlockData) (at : i ≡ b) (exists : b < length (blocks_of links rows)) (read : row ≡ get_or rows i row) where
  -- the row that was read is that of the block
  pub row_read : row ≡ slice_index_or rows b no_data
  row_read =
      let here : i < length rows = omega (arith, at, row_exists rows links b exists) in
      let other : get_or rows i row ≡ get_or rows i no_data = grind (arith, common_steps) in
      read ∙ other ∙ ap (λ j. get_or rows j no_data) at

  pub params_read : row.params ≡ (slice_index_or (blocks_of links rows) b empty_block).params
  params_read = ap (λ (r : BlockData). r.params) row_read ∙ sym (ap (λ (n : BlockNode). n.params) (blocks_of-at links rows b))

  pub cold_written : set (blocks_of links rows) b (record (slice_index_or (blocks_of links rows) b empty_block) { is_cold = true })
      ≡ blocks_of links (set rows i (record row { is_cold = true }))
  cold_written =
      sym (blocks-cold rows links b)
      ∙ ap (λ (r : BlockData). blocks_of links (set rows b (record r { is_cold = true }))) (sym row_read)
      ∙ ap (λ j. blocks_of links (set rows j (record row { is_cold = true }))) (sym at)

  pub params_written : (params : List ℕ) → set (blocks_of links rows) b (record (slice_index_or (blocks_of links rows) b empty_block) { params = params })
      ≡ blocks_of links (set rows i (record row { params = params }))
  params_written params =
      sym (blocks-params rows links b params)
      ∙ ap (λ (r : BlockData). blocks_of links (set rows b (record r { params = params }))) (sym row_read)
      ∙ ap (λ j. blocks_of links (set rows j (record row { params = params }))) (sym at)

  -- the instructions stay linked where the row changes otherwise
  pub ends_written : (now : BlockData) → now.first_inst ≡ row.first_inst → now.last_inst ≡ row.last_inst → now.inst_count ≡ row.inst_count
      → AreThreaded (blocks_of links rows) rows links → AreThreaded (blocks_of links (set rows i now)) (set rows i now) links
  ends_written now first last count threaded =
      let there : row ≡ slice_index_or rows i no_data = row_read ∙ ap (λ j. slice_index_or rows j no_data) (sym at) in
      row_set rows links i now (omega (arith, at, row_exists rows links b exists))
      (record {
        first = first ∙ ap (λ (r : BlockData). r.first_inst) there;
        last = last ∙ ap (λ (r : BlockData). r.last_inst) there;
        count = count ∙ ap (λ (r : BlockData). r.inst_count) there;
      })
      threaded

-- what the links say of an instruction's neighbours
pub next_read : (f : Body) (rows : List BlockData) (links : List InstLinks) (i : ℕ) → IsConsistent f → AreThreaded f.blocks rows links → i < length f.insts
    → (links_at links i).next ≡ next_in (block_at f (inst_at f i).block).insts i
next_read f rows links i known threaded exists =
    let xs : List ℕ = (block_at f (inst_at f i).block).insts in
    let stands : Stands i xs = (known.insts_stand i exists).1 in
    ap (λ j. (links_at links j).next) (sym stands.2) ∙ (threaded.thread (inst_at f i).block).next_is stands.0 stands.1
    ∙ sym (next_in-at xs stands.0 i (known.insts_once (inst_at f i).block) stands.1 stands.2)

-- at the place where the instruction stands
pub previous_read : (f : Body) (rows : List BlockData) (links : List InstLinks) (i : ℕ) → AreThreaded f.blocks rows links → (stands : Stands i (block_at f (inst_at f i).block).insts)
    → (links_at links i).previous ≡ entry_before (block_at f (inst_at f i).block).insts stands.0
previous_read f rows links i threaded stands =
    ap (λ j. (links_at links j).previous) (sym stands.2) ∙ (threaded.thread (inst_at f i).block).previous_is stands.0 stands.1

-- the instruction before another one, and the place of that one
pub record IsBefore (f : Body) (i : ℕ) (previous : Option ℕ) : Type 0 where
  pub place : place_behind previous (block_at f (inst_at f i).block).insts ≡ place_in_block f i
  pub stands : IfSome previous (λ p. Stands p (block_at f (inst_at f i).block).insts)

pub before_read : (f : Body) (rows : List BlockData) (links : List InstLinks) (i : ℕ) (previous : Option ℕ) → IsConsistent f → AreThreaded f.blocks rows links → i < length f.insts
    → previous ≡ (links_at links i).previous → IsBefore f i previous
before_read f rows links i previous known threaded exists read =
    let xs : List ℕ = (block_at f (inst_at f i).block).insts in
    let stands : Stands i xs = (known.insts_stand i exists).1 in
    let is : previous ≡ entry_before xs stands.0 = read ∙ previous_read f rows links i threaded stands in
    let fits : stands.0 ≤ length xs = omega (arith, stands.1) in
    record {
      place =
          ap (λ o. place_behind o xs) is ∙ place_behind-before xs stands.0 (known.insts_once (inst_at f i).block) fits
          ∙ sym (place_of-at xs stands.0 i (known.insts_once (inst_at f i).block) stands.1 stands.2);
      stands = subst (λ o. IfSome o (λ p. Stands p xs)) (sym is) (before-stands xs stands.0 fits);
    }

-- there is an entry at each place of a list
pub inside_some : (xs : List ℕ) (k : ℕ) → k < length xs → slice_get xs k ≡ None → ⊥
inside_some xs k inside none = not_some (sym none ∙ slice_get-get_or xs k 0 inside)

-- a step along the instructions of a block
pub record IsStep (f : Body) (b k i : ℕ) : Type 0 where
  pub exists : i < length f.insts
  pub next : next_in (block_at f (inst_at f i).block).insts i ≡ slice_get (block_at f b).insts k

pub step_along : (f : Body) (b k i : ℕ) → IsConsistent f → 1 ≤ k → slice_get (block_at f b).insts (k - 1) ≡ Some i → IsStep f b k i
step_along f b k i known behind is =
    let xs : List ℕ = (block_at f b).insts in
    let inside : k - 1 < length xs = slice_get_within xs (k - 1) i is in
    let at : slice_index xs (k - 1) ≡ i = get_or_from_slice_get xs (k - 1) i 0 is in
    let own : (inst_at f i).block ≡ b = ap (λ j. (inst_at f j).block) (sym at) ∙ (known.insts_known b (k - 1) inside).1 in
    let more : (k - 1) + 1 ≡ k = omega (arith, behind) in
    record {
      exists = subst (λ j. j < length f.insts) at (known.insts_known b (k - 1) inside).0;
      next = ap (λ c. next_in (block_at f c).insts i) own ∙ next_in-at xs (k - 1) i (known.insts_once b) inside at ∙ ap (slice_get xs) more;
    }

-- A NEW INSTRUCTION -----------------------------------------------------------------------------------------------

-- a block has at most as many instructions as there are
pub count_fits : (f : Body) (rows : List BlockData) (links : List InstLinks) (b n : ℕ) → IsConsistent f → AreThreaded f.blocks rows links → length f.insts < n
    → (slice_index_or rows b no_data).inst_count < n
count_fits f rows links b n known threaded fits =
    let few : length (block_at f b).insts ≤ length f.insts = Once-length (length f.insts) (block_at f b).insts (known.insts_once b) (λ k inside. (known.insts_known b k inside).0) in
    omega (arith, (threaded.thread b).count_is, few, fits)

-- the place behind an instruction, and its neighbours
pub record IsPlaceBehind (f : Body) (b : ℕ) (previous : Option ℕ) (own : InstLinks) : Type 0 where
  pub fits : place_behind previous (block_at f b).insts ≤ length (block_at f b).insts
  pub before : own.previous ≡ entry_before (block_at f b).insts (place_behind previous (block_at f b).insts)
  pub after : own.next ≡ slice_get (block_at f b).insts (place_behind previous (block_at f b).insts)
  pub previous_exists : IfSome own.previous (λ i. i < length f.insts)
  pub next_exists : IfSome own.next (λ i. i < length f.insts)

pub place_behind-is : (f : Body) (rows : List BlockData) (links : List InstLinks) (b : ℕ) (previous : Option ℕ) (own : InstLinks) → IsConsistent f
    → AreThreaded f.blocks rows links → IfSome previous (λ p. Stands p (block_at f b).insts) → own ≡ links_behind (slice_index_or rows b no_data) links previous
    → IsPlaceBehind f b previous own
place_behind-is f rows links b previous own known threaded stands is =
    let xs : List ℕ = (block_at f b).insts in
    let row : BlockData = slice_index_or rows b no_data in
    let fits : place_behind previous xs ≤ length xs = place_behind-fits previous xs (known.insts_once b) stands in
    let at : previous ≡ entry_before xs (place_behind previous xs) = before-place_behind previous xs (known.insts_once b) stands in
    let before : own.previous ≡ entry_before xs (place_behind previous xs) = ap (λ (l : InstLinks). l.previous) is ∙ links_behind-previous row links previous ∙ at in
    let after : own.next ≡ slice_get xs (place_behind previous xs) = ap (λ (l : InstLinks). l.next) is ∙ links_behind-next xs row links previous (place_behind previous xs) fits at (threaded.thread b) in
    record {
      fits = fits;
      before = before;
      after = after;
      previous_exists = previous_bound xs (length f.insts) own.previous (place_behind previous xs) before fits (λ k inside. (known.insts_known b k inside).0);
      next_exists = next_bound xs (length f.insts) own.next (place_behind previous xs) after (λ k inside. (known.insts_known b k inside).0);
    }

-- the neighbours as they were read
pub own_read : (rows : List BlockData) (links links' : List InstLinks) (b i : ℕ) (row : BlockData) (previous : Option ℕ) (own : InstLinks) → i ≡ b
    → b < length (blocks_of links rows) → row ≡ get_or rows i row → links' ≡ links → own ≡ links_behind row links' previous
    → own ≡ links_behind (slice_index_or rows b no_data) links previous
own_read rows links links' b i row previous own at exists read same is =
    is ∙ ap (λ (r : BlockData). links_behind r links' previous) (row_read rows links b i row at exists read)
    ∙ ap (λ (ls : List InstLinks). links_behind (slice_index_or rows b no_data) ls previous) same

-- a place that is worded otherwise
pub put_at-behind : (at : InsertAt) (x : ℕ) (xs : List ℕ) (previous : Option ℕ) → Once xs → IsPlaceOf at (length xs) → previous ≡ entry_before xs (count_before at (length xs))
    → put_at (Behind (place_behind previous xs)) x xs ≡ put_at at x xs
put_at-behind (Behind count) x xs previous once fits is =
    ap (λ n. insert xs n x) (ap (λ o. place_behind o xs) is ∙ place_behind-before xs count once fits)
put_at-behind Back x xs previous once fits is =
    ap (λ n. insert xs n x) (ap (λ o. place_behind o xs) is ∙ place_behind-before xs (length xs) once (omega arith)) ∙ insert_end xs x

pub with_inst-behind : (f : Body) (b : ℕ) (at : InsertAt) (previous : Option ℕ) (shape : InstructionData) (types : List «Type») (loc : ℕ) → IsConsistent f
    → IsPlaceOf at (length (block_at f b).insts) → previous ≡ entry_before (block_at f b).insts (count_before at (length (block_at f b).insts))
    → with_inst f b (Behind (place_behind previous (block_at f b).insts)) shape types loc ≡ with_inst f b at shape types loc
with_inst-behind f b at previous shape types loc known fits is =
    ap (λ (xs : List ℕ). record (with_inst f b at shape types loc) { blocks = set f.blocks b (record (block_at f b) { insts = xs }) })
    (put_at-behind at (length f.insts) (block_at f b).insts previous (known.insts_once b) fits is)

pub before-stands_at : (xs : List ℕ) (at : InsertAt) (previous : Option ℕ) → IsPlaceOf at (length xs) → previous ≡ entry_before xs (count_before at (length xs))
    → IfSome previous (λ p. Stands p xs)
before-stands_at xs (Behind count) previous fits is = subst (λ o. IfSome o (λ p. Stands p xs)) (sym is) (before-stands xs count fits)
before-stands_at xs Back previous fits is = subst (λ o. IfSome o (λ p. Stands p xs)) (sym is) (before-stands xs (length xs) (omega arith))

-- the entry before the back of a list is its last one
pub before-back : (xs : List ℕ) → slice_get xs (length xs - 1) ≡ entry_before xs (length xs)
before-back [] = refl
before-back (x ∷ xs) =
    let more : length (x ∷ xs) ≡ (length (x ∷ xs) - 1) + 1 = omega arith in
    sym (before-more (x ∷ xs) (length (x ∷ xs) - 1) (length (x ∷ xs)) more)
