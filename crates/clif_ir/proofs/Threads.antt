-- The links between the instructions of a block, and the list that they make.
use Rattle.std.proofs.Common.{◌≡◌, ◌≢◌, ℕ, zero, suc, ◌+◌, ◌-◌, ◌<◌, ◌≤◌, List, [], ◌∷◌, ◌++◌, length, refl, ap, arith, sym, ◌∙◌, subst}
use Rattle.std.specs.Prelude.{slice_index, slice_index_or, slice_get, Option, Some, None, IfSome}
use Rattle.std.specs.List.{insert}
use Rattle.std.proofs.Math.ListN.{get_or-append, get_or-map}
use Rattle.std.proofs.lemmas.Grind.{common_steps}
use Rattle.std.proofs.lemmas.List.Edits.{length-insert}
use Rattle.std.proofs.lemmas.Option.{slice_get-get_or}
use Rattle.clif_instructions.specs.Members.{Stands, Once, place_of}
use Rattle.clif_instructions.proofs.Lists.{at_set}
use Rattle.clif_instructions.proofs.Members.{place_of-first}
use Rattle.clif_nodes.specs.declared.inst_links.InstLinks.{InstLinks}
use Rattle.clif_nodes.specs.declared.nodes.BlockData.{BlockData}
use Rattle.clif_nodes.specs.Links.{block_of, blocks_of, inst_chain, linked_before, linked_behind, linked_between, links_at, links_behind, no_links, with_inst_between}
use Rattle.clif_nodes.specs.Nodes.{BlockNode, empty_block, no_data}
use Rattle.clif_nodes.specs.Places.{last_after}
use Rattle.clif_ir.specs.Whole.{IsThread, entry_before, place_behind}
use Rattle.clif_ir.proofs.Neighbours.{first_inserted, last_inserted, next_inserted, previous_inserted}
use Rattle.clif_ir.proofs.Orders.{Once-length, get-below}

-- THE CHAIN -------------------------------------------------------------------------------------------------------

pub inst_chain-none : (n : ℕ) (links : List InstLinks) → inst_chain n links None ≡ []
unfolding inst_chain
inst_chain-none zero links = refl
inst_chain-none (suc n) links = refl

-- links that are those of a list lead along the list
inst_chain-list : (n : ℕ) (xs : List ℕ) (links : List InstLinks) → length xs ≤ n
    → ((k : ℕ) → k < length xs → (links_at links (slice_index xs k)).next ≡ slice_get xs (suc k))
    → inst_chain n links (slice_get xs 0) ≡ xs
unfolding inst_chain
inst_chain-list zero [] links short next = refl
inst_chain-list (suc n) [] links short next = refl
inst_chain-list zero (x ∷ xs) links short next = absurd (omega (arith, short))
inst_chain-list (suc n) (x ∷ xs) links short next =
    ap (λ at. x ∷ inst_chain n links at) (next 0 (omega arith))
    ∙ ap (λ rest. x ∷ rest) (inst_chain-list n xs links (omega (arith, short)) (λ k inside. next (suc k) (omega (arith, inside))))

pub thread-chain : (xs : List ℕ) (block : BlockData) (links : List InstLinks) → Once xs → ((k : ℕ) → k < length xs → slice_index xs k < length links)
    → IsThread xs block links → inst_chain (length links) links block.first_inst ≡ xs
thread-chain xs block links once below thread =
    ap (inst_chain (length links) links) thread.first_is
    ∙ inst_chain-list (length links) xs links (Once-length (length links) xs once below)
    (λ k inside. let more : k + 1 ≡ suc k = omega arith in thread.next_is k inside ∙ ap (slice_get xs) more)

-- THE LINKS OF A NEW INSTRUCTION ----------------------------------------------------------------------------------

abbrev AllBelow : ℕ → Option ℕ → Type 0
AllBelow n o = IfSome o (λ i. i < n)

below_more : (n : ℕ) (o : Option ℕ) → AllBelow n o → AllBelow (n + 1) o
below_more n None below = tt
below_more n (Some i) below = omega (arith, below)

below_read : (n : ℕ) (o : Option ℕ) (i : ℕ) → AllBelow n o → o ≡ Some i → i < n
below_read n o i below is = subst (AllBelow n) is below

length-behind : (links : List InstLinks) (o : Option ℕ) (x : ℕ) → length (linked_behind links o x) ≡ length links
length-behind links None x = refl
length-behind links (Some p) x = grind (arith, common_steps)

length-before : (links : List InstLinks) (o : Option ℕ) (x : ℕ) → length (linked_before links o x) ≡ length links
length-before links None x = refl
length-before links (Some n) x = grind (arith, common_steps)

behind-previous : (links : List InstLinks) (o : Option ℕ) (x i : ℕ) → AllBelow (length links) o
    → (links_at (linked_behind links o x) i).previous ≡ (links_at links i).previous
behind-previous links None x i below = refl
behind-previous links (Some p) x i below =
    at_set (λ (l : InstLinks). l.previous ≡ (links_at links i).previous) links p (record (links_at links p) { next = Some x }) i no_links below
    (λ same. ap (λ j. (links_at links j).previous) (sym same)) (λ _. refl)

before-next : (links : List InstLinks) (o : Option ℕ) (x i : ℕ) → AllBelow (length links) o
    → (links_at (linked_before links o x) i).next ≡ (links_at links i).next
before-next links None x i below = refl
before-next links (Some n) x i below =
    at_set (λ (l : InstLinks). l.next ≡ (links_at links i).next) links n (record (links_at links n) { previous = Some x }) i no_links below
    (λ same. ap (λ j. (links_at links j).next) (sym same)) (λ _. refl)

behind-there : (links : List InstLinks) (o : Option ℕ) (x p : ℕ) → AllBelow (length links) o → o ≡ Some p
    → (links_at (linked_behind links o x) p).next ≡ Some x
behind-there links o x p below is =
    ap (λ q. (links_at (linked_behind links q x) p).next) is
    ∙ at_set (λ (l : InstLinks). l.next ≡ Some x) links p (record (links_at links p) { next = Some x }) p no_links (below_read (length links) o p below is)
    (λ _. refl) (λ other. absurd (other refl))

before-there : (links : List InstLinks) (o : Option ℕ) (x n : ℕ) → AllBelow (length links) o → o ≡ Some n
    → (links_at (linked_before links o x) n).previous ≡ Some x
before-there links o x n below is =
    ap (λ q. (links_at (linked_before links q x) n).previous) is
    ∙ at_set (λ (l : InstLinks). l.previous ≡ Some x) links n (record (links_at links n) { previous = Some x }) n no_links (below_read (length links) o n below is)
    (λ _. refl) (λ other. absurd (other refl))

behind-other : (links : List InstLinks) (o : Option ℕ) (x i : ℕ) → AllBelow (length links) o → o ≢ Some i
    → (links_at (linked_behind links o x) i).next ≡ (links_at links i).next
behind-other links None x i below apart = refl
behind-other links (Some p) x i below apart =
    at_set (λ (l : InstLinks). l.next ≡ (links_at links i).next) links p (record (links_at links p) { next = Some x }) i no_links below
    (λ same. absurd (apart (ap Some (sym same)))) (λ _. refl)

before-other : (links : List InstLinks) (o : Option ℕ) (x i : ℕ) → AllBelow (length links) o → o ≢ Some i
    → (links_at (linked_before links o x) i).previous ≡ (links_at links i).previous
before-other links None x i below apart = refl
before-other links (Some n) x i below apart =
    at_set (λ (l : InstLinks). l.previous ≡ (links_at links i).previous) links n (record (links_at links n) { previous = Some x }) i no_links below
    (λ same. absurd (apart (ap Some (sym same)))) (λ _. refl)

-- what the links are after a new instruction was linked between two
pub record IsBetween (links : List InstLinks) (own : InstLinks) (now : List InstLinks) : Type 0 where
  pub count : length now ≡ length links + 1
  pub own_next : (links_at now (length links)).next ≡ own.next
  pub own_previous : (links_at now (length links)).previous ≡ own.previous
  pub before : (p : ℕ) → own.previous ≡ Some p → (links_at now p).next ≡ Some (length links)
  pub after : (n : ℕ) → own.next ≡ Some n → (links_at now n).previous ≡ Some (length links)
  pub other_next : (i : ℕ) → i < length links → own.previous ≢ Some i → (links_at now i).next ≡ (links_at links i).next
  pub other_previous : (i : ℕ) → i < length links → own.next ≢ Some i → (links_at now i).previous ≡ (links_at links i).previous

pub linked_between-is : (links : List InstLinks) (own : InstLinks) → IfSome own.previous (λ i. i < length links) → IfSome own.next (λ i. i < length links)
    → IsBetween links own (linked_between links own)
linked_between-is links own previous_below next_below =
    let x : ℕ = length links in
    let pushed : List InstLinks = links ++ own ∷ [] in
    let behind : List InstLinks = linked_behind pushed own.previous x in
    let more : length pushed ≡ x + 1 = grind (arith, common_steps) in
    let behind_count : length behind ≡ x + 1 = length-behind pushed own.previous x ∙ more in
    let below_pushed : IfSome own.previous (λ i. i < length pushed) = subst (λ n. IfSome own.previous (λ i. i < n)) (sym more) (below_more x own.previous previous_below) in
    let below_behind : IfSome own.next (λ i. i < length behind) = subst (λ n. IfSome own.next (λ i. i < n)) (sym behind_count) (below_more x own.next next_below) in
    let new : links_at pushed x ≡ own = grind (arith, common_steps) in
    let old : (i : ℕ) → i < x → links_at pushed i ≡ links_at links i = λ i inside. get_or-append links (own ∷ []) no_links i inside in
    let not_own : (o : Option ℕ) → IfSome o (λ i. i < x) → o ≢ Some x = λ o below same. absurd (omega (arith, below_read x o x below same)) in
    record {
      count = length-before behind own.next x ∙ behind_count;
      own_next = before-next behind own.next x x below_behind ∙ behind-other pushed own.previous x x below_pushed (not_own own.previous previous_below) ∙ ap (λ (l : InstLinks). l.next) new;
      own_previous = before-other behind own.next x x below_behind (not_own own.next next_below) ∙ behind-previous pushed own.previous x x below_pushed ∙ ap (λ (l : InstLinks). l.previous) new;
      before = λ p is. before-next behind own.next x p below_behind ∙ behind-there pushed own.previous x p below_pushed is;
      after = λ n is. before-there behind own.next x n below_behind is;
      other_next = λ i inside apart. before-next behind own.next x i below_behind ∙ behind-other pushed own.previous x i below_pushed apart ∙ ap (λ (l : InstLinks). l.next) (old i inside);
      other_previous = λ i inside apart. before-other behind own.next x i below_behind apart ∙ behind-previous pushed own.previous x i below_pushed ∙ ap (λ (l : InstLinks). l.previous) (old i inside);
    }

-- the neighbours of a place of a list are below what the list is below
before-below : (n : ℕ) (xs : List ℕ) (c : ℕ) → ((k : ℕ) → k < length xs → slice_index xs k < n) → c ≤ length xs → IfSome (entry_before xs c) (λ i. i < n)
before-below n xs zero below fits = tt
before-below n xs (suc k) below fits =
    subst (λ o. IfSome o (λ i. i < n)) (sym (slice_get-get_or xs k 0 (omega (arith, fits)))) (below k (omega (arith, fits)))

pub previous_bound : (xs : List ℕ) (n : ℕ) (o : Option ℕ) (c : ℕ) → o ≡ entry_before xs c → c ≤ length xs → ((k : ℕ) → k < length xs → slice_index xs k < n) → IfSome o (λ i. i < n)
previous_bound xs n o c is fits below = subst (λ p. IfSome p (λ i. i < n)) (sym is) (before-below n xs c below fits)

pub next_bound : (xs : List ℕ) (n : ℕ) (o : Option ℕ) (c : ℕ) → o ≡ slice_get xs c → ((k : ℕ) → k < length xs → slice_index xs k < n) → IfSome o (λ i. i < n)
next_bound xs n o c is below = subst (λ p. IfSome p (λ i. i < n)) (sym is) (get-below n c xs below)

-- a new instruction is put among those of a block
pub thread_put : (xs : List ℕ) (block : BlockData) (links : List InstLinks) (own : InstLinks) (c : ℕ) → c ≤ length xs → Once xs
    → ((k : ℕ) → k < length xs → slice_index xs k < length links) → own.previous ≡ entry_before xs c → own.next ≡ slice_get xs c → IsThread xs block links
    → IsThread (insert xs c (length links)) (with_inst_between block (length links) own) (linked_between links own)
thread_put xs block links own c fits once below previous next thread =
    let x : ℕ = length links in
    let now : List InstLinks = linked_between links own in
    let made : IsBetween links own now =
    linked_between-is links own (previous_bound xs x own.previous c previous fits below) (next_bound xs x own.next c next below) in
    record {
      first_is = ap (λ o. last_after o own.previous x) thread.first_is ∙ ap (λ o. last_after (slice_get xs 0) o x) previous ∙ first_inserted c x xs fits;
      last_is = ap (λ o. last_after o own.next x) thread.last_is ∙ ap (λ o. last_after (slice_get xs (length xs - 1)) o x) next ∙ last_inserted c x xs fits;
      count_is = ap (λ n. n + 1) thread.count_is ∙ sym (length-insert xs c x fits);
      next_is =
          next_inserted (λ i. (links_at links i).next) (λ i. (links_at now i).next) c x xs fits once (λ k inside same. absurd (omega (arith, below k inside, same)))
          (made.own_next ∙ next) (λ p is. made.before p (previous ∙ is)) (λ k inside apart. made.other_next _ (below k inside) (λ same. apart (sym previous ∙ same))) thread.next_is;
      previous_is =
          previous_inserted (λ i. (links_at links i).previous) (λ i. (links_at now i).previous) c x xs fits once
          (made.own_previous ∙ previous) (λ n is. made.after n (next ∙ is)) (λ k inside apart. made.other_previous _ (below k inside) (λ same. apart (sym next ∙ same))) thread.previous_is;
    }

-- the others keep their links
pub thread_kept : (zs : List ℕ) (block : BlockData) (links now : List InstLinks) (own : InstLinks) → IsBetween links own now
    → ((k : ℕ) → k < length zs → slice_index zs k < length links)
    → ((k : ℕ) → k < length zs → own.previous ≢ Some (slice_index zs k)) → ((k : ℕ) → k < length zs → own.next ≢ Some (slice_index zs k))
    → IsThread zs block links → IsThread zs block now
thread_kept zs block links now own made below not_previous not_next thread = record {
  first_is = thread.first_is;
  last_is = thread.last_is;
  count_is = thread.count_is;
  next_is = λ k inside. made.other_next _ (below k inside) (not_previous k inside) ∙ thread.next_is k inside;
  previous_is = λ k inside. made.other_previous _ (below k inside) (not_next k inside) ∙ thread.previous_is k inside;
}

-- the neighbours that a new instruction gets are those of its place
pub links_behind-previous : (block : BlockData) (links : List InstLinks) (o : Option ℕ) → (links_behind block links o).previous ≡ o
links_behind-previous block links None = refl
links_behind-previous block links (Some p) = refl

pub links_behind-next : (xs : List ℕ) (block : BlockData) (links : List InstLinks) (o : Option ℕ) (c : ℕ) → c ≤ length xs → o ≡ entry_before xs c → IsThread xs block links
    → (links_behind block links o).next ≡ slice_get xs c
links_behind-next xs block links o zero fits is thread = ap (λ p. (links_behind block links p).next) is ∙ thread.first_is
links_behind-next xs block links o (suc k) fits is thread =
    let inside : k < length xs = omega (arith, fits) in
    let more : k + 1 ≡ suc k = omega arith in
    ap (λ p. (links_behind block links p).next) (is ∙ slice_get-get_or xs k 0 inside) ∙ thread.next_is k inside ∙ ap (slice_get xs) more

-- THE PLACE OF AN ENTRY -------------------------------------------------------------------------------------------

pub place_of-at : (xs : List ℕ) (k x : ℕ) → Once xs → k < length xs → slice_index xs k ≡ x → place_of x xs ≡ k
place_of-at xs k x once inside is = place_of-first xs k x inside is (λ j before same. once j k before inside (same ∙ sym is))

pub place_behind-fits : (o : Option ℕ) (xs : List ℕ) → Once xs → IfSome o (λ p. Stands p xs) → place_behind o xs ≤ length xs
place_behind-fits None xs once stands = omega arith
place_behind-fits (Some p) xs once (k, inside, is) = omega (arith, place_of-at xs k p once inside is, inside)

pub before-place_behind : (o : Option ℕ) (xs : List ℕ) → Once xs → IfSome o (λ p. Stands p xs) → o ≡ entry_before xs (place_behind o xs)
before-place_behind None xs once stands = refl
before-place_behind (Some p) xs once (k, inside, is) =
    let there : suc k ≡ place_of p xs + 1 = omega (arith, place_of-at xs k p once inside is) in
    ap Some (sym is) ∙ sym (slice_get-get_or xs k 0 inside) ∙ ap (entry_before xs) there

pub place_behind-before : (xs : List ℕ) (c : ℕ) → Once xs → c ≤ length xs → place_behind (entry_before xs c) xs ≡ c
place_behind-before xs zero once fits = refl
place_behind-before xs (suc k) once fits =
    let inside : k < length xs = omega (arith, fits) in
    ap (λ o. place_behind o xs) (slice_get-get_or xs k 0 inside) ∙ omega (arith, place_of-at xs k (slice_index xs k) once inside refl)

pub before-stands : (xs : List ℕ) (c : ℕ) → c ≤ length xs → IfSome (entry_before xs c) (λ p. Stands p xs)
before-stands xs zero fits = tt
before-stands xs (suc k) fits =
    let inside : k < length xs = omega (arith, fits) in
    subst (λ o. IfSome o (λ p. Stands p xs)) (sym (slice_get-get_or xs k 0 inside)) (k, inside, refl)

-- THE BLOCKS ------------------------------------------------------------------------------------------------------

-- a block by its number
pub blocks_of-at : (links : List InstLinks) (blocks : List BlockData) (b : ℕ)
    → slice_index_or (blocks_of links blocks) b empty_block ≡ block_of links (slice_index_or blocks b no_data)
blocks_of-at links blocks b =
    let none : block_of links no_data ≡ empty_block = ap (λ (xs : List ℕ). record empty_block { insts = xs }) (inst_chain-none (length links) links) in
    ap (λ (d : BlockNode). slice_index_or (blocks_of links blocks) b d) (sym none) ∙ get_or-map (block_of links) blocks b no_data

-- blocks that are so one by one
pub blocks_of-each : (links : List InstLinks) (rows : List BlockData) (blocks : List BlockNode) → length rows ≡ length blocks
    → ((b : ℕ) → b < length rows → block_of links (slice_index_or rows b no_data) ≡ slice_index_or blocks b empty_block) → blocks_of links rows ≡ blocks
blocks_of-each links [] [] count each = refl
blocks_of-each links [] (y ∷ ys) count each = absurd (omega (arith, count))
blocks_of-each links (x ∷ xs) [] count each = absurd (omega (arith, count))
blocks_of-each links (x ∷ xs) (y ∷ ys) count each =
    ap (λ (b : BlockNode). b ∷ blocks_of links xs) (each 0 (omega arith))
    ∙ ap (λ (bs : List BlockNode). y ∷ bs) (blocks_of-each links xs ys (omega (arith, count)) (λ b inside. each (suc b) (omega (arith, inside))))
