-- Rows of blocks and the table of the parameters that wait, through each change.
use Rattle.std.proofs.Common.{◌≡◌, ◌≢◌, ℕ, ◌+◌, ◌-◌, ◌<◌, ◌≤◌, suc, zero, List, [], ◌∷◌, ◌++◌, length, set, map, reverse, refl, ap, arith, sym, subst, ◌∙◌, inl, inr}
use Rattle.std.specs.Prelude.{◌==◌, ◌^◌, if◌then◌else◌, slice_index_or}
use Rattle.std.proofs.Math.ListN.{get_or-append}
use Rattle.std.proofs.lemmas.Bool.{cases_eq}
use Rattle.std.proofs.lemmas.Grind.{common_steps}
use Rattle.std.proofs.lemmas.List.{get_or-set_same, get_or-set_other, get_or_push, get_or_read, length_push, append_assoc, reverse-append, length-map}
use Rattle.clif_instructions.specs.Members.{Stands}
use Rattle.clif_instructions.proofs.Lists.{at_push, at_set, at_past, below_or_not}
use Rattle.clif_records.specs.declared.tables.BlockRow.{BlockRow}
use Rattle.clif_records.specs.declared.tables.Pending.{Pending}
use Rattle.clif_records.specs.declared.tables.RowState.{RowState}
use Rattle.clif_records.specs.declared.tables.RowState.TheVariants as state
use Rattle.clif_records.specs.declared.waiting.PendingNode.{PendingNode}
use Rattle.clif_records.specs.Tables.{SsaBlock, Sealed, No, Yes, known_at, sealed_at, predecessors_at, pending_of}
use Rattle.clif_records.specs.Waiting.{AreLinked, IsBlockTable, known_of, last_of, listed_to, listed_within, new_row, no_node, node_at, one_if_waiting, row_at, sealed_by, waiting_rows}

-- no parameter is listed from no place
none_listed : (most : ℕ) (nodes : List PendingNode) → listed_within most nodes 0 ≡ []
none_listed zero nodes = refl
none_listed (suc most) nodes = refl

-- how many places are allowed doesn't matter, once they are enough
enough_places : (nodes : List PendingNode) → AreLinked nodes → (m n place : ℕ) → place ≤ m → place ≤ n → place ≤ length nodes
    → listed_within m nodes place ≡ listed_within n nodes place
enough_places nodes linked m n zero fits fits-too inside = none_listed m nodes ∙ sym (none_listed n nodes)
enough_places nodes linked zero n (suc k) fits fits-too inside = absurd (omega (arith, fits))
enough_places nodes linked (suc m) zero (suc k) fits fits-too inside = absurd (omega (arith, fits-too))
enough_places nodes linked (suc m) (suc n) (suc k) fits fits-too inside =
    let back : (node_at nodes k).previous ≤ k = linked k (omega (arith, inside)) in
    ap (λ l. l ++ (node_at nodes k).pending ∷ [])
    (enough_places nodes linked m n (node_at nodes k).previous (omega (arith, back, fits)) (omega (arith, back, fits-too)) (omega (arith, back, inside)))

-- a parameter is listed behind those to which it leads back
pub list_step : (nodes : List PendingNode) (place : ℕ) → AreLinked nodes → 0 < place → place ≤ length nodes
    → listed_to nodes place ≡ listed_to nodes (node_at nodes (place - 1)).previous ++ (node_at nodes (place - 1)).pending ∷ []
list_step nodes zero linked some inside = absurd (omega (arith, some))
list_step nodes (suc k) linked some inside =
    let same : suc k - 1 ≡ k = omega arith in
    let back : (node_at nodes k).previous ≤ k = linked k (omega (arith, inside)) in
    rw same
    (ap (λ l. l ++ (node_at nodes k).pending ∷ [])
    (enough_places nodes linked k (node_at nodes k).previous (node_at nodes k).previous back (omega arith) (omega (arith, back, inside))))

-- one more node at the end changes no list of the places before it
listed_before : (nodes more : List PendingNode) → AreLinked nodes → (most place : ℕ) → place ≤ length nodes
    → listed_within most (nodes ++ more) place ≡ listed_within most nodes place
listed_before nodes more linked zero place inside = refl
listed_before nodes more linked (suc most) zero inside = refl
listed_before nodes more linked (suc most) (suc k) inside =
    let within : k < length nodes = omega (arith, inside) in
    let same : node_at (nodes ++ more) k ≡ node_at nodes k = get_or-append nodes more no_node k within in
    let back : (node_at nodes k).previous ≤ length nodes = omega (arith, linked k within, within) in
    rw same (ap (λ l. l ++ (node_at nodes k).pending ∷ []) (listed_before nodes more linked most (node_at nodes k).previous back))

-- the list to a node that is put behind the others
listed_new : (nodes : List PendingNode) (n : PendingNode) → AreLinked nodes → n.previous ≤ length nodes
    → listed_to (nodes ++ n ∷ []) (length nodes + 1) ≡ listed_to nodes n.previous ++ n.pending ∷ []
listed_new nodes n linked inside =
    let suc_is : length nodes + 1 ≡ suc (length nodes) = omega arith in
    let same : node_at (nodes ++ n ∷ []) (length nodes) ≡ n = get_or_push nodes n no_node (length nodes) refl in
    ap (λ k. listed_within k (nodes ++ n ∷ []) k) suc_is
    ∙ ap (λ (m : PendingNode). listed_within (length nodes) (nodes ++ n ∷ []) m.previous ++ m.pending ∷ []) same
    ∙ ap (λ l. l ++ n.pending ∷ []) (listed_before nodes (n ∷ []) linked (length nodes) n.previous inside ∙ enough_places nodes linked (length nodes) n.previous n.previous inside (omega arith) inside)

pub linked_new : (nodes : List PendingNode) (n : PendingNode) → AreLinked nodes → n.previous ≤ length nodes → AreLinked (nodes ++ n ∷ [])
linked_new nodes n linked inside = λ k here.
    at_push (λ (m : PendingNode). m.previous ≤ k) nodes n k no_node (λ old. linked k old) (λ last. omega (arith, last, inside)) (λ past. omega arith)

-- a walk back along the places keeps what is listed
pub walked : (nodes : List PendingNode) (last place : ℕ) (items : List Pending) (node : PendingNode) → AreLinked nodes → 0 < place → place ≤ length nodes
    → node ≡ node_at nodes (place - 1) → listed_to nodes last ≡ listed_to nodes place ++ reverse items
    → listed_to nodes last ≡ listed_to nodes node.previous ++ reverse (items ++ node.pending ∷ [])
walked nodes last place items node linked some inside is so =
    so
    ∙ ap (λ l. l ++ reverse items)
    (list_step nodes place linked some inside ∙ ap (λ (n : PendingNode). listed_to nodes n.previous ++ n.pending ∷ []) (sym is))
    ∙ append_assoc (listed_to nodes node.previous) (node.pending ∷ []) (reverse items)
    ∙ ap (λ l. listed_to nodes node.previous ++ l) (sym (reverse-append items (node.pending ∷ [])))

none_stands : (x : ℕ) → Stands x [] → ⊥
none_stands x (k, inside, at) = omega (arith, inside)

-- what is known of a block is what its row says
pub known_is : (nodes : List PendingNode) (rows : List BlockRow) (b : ℕ) → known_at (map (known_of nodes) rows) b ≡ known_of nodes (row_at rows b)
known_is nodes [] b = refl
known_is nodes (row ∷ rows) zero = refl
known_is nodes (row ∷ rows) (suc b) = known_is nodes rows b

pub sealed_is : (nodes : List PendingNode) (rows : List BlockRow) (b : ℕ) → sealed_at (map (known_of nodes) rows) b ≡ sealed_by nodes (row_at rows b).state
sealed_is nodes rows b = ap (λ (known : SsaBlock). known.sealed) (known_is nodes rows b)

pub predecessors_are : (nodes : List PendingNode) (rows : List BlockRow) (b : ℕ) → predecessors_at (map (known_of nodes) rows) b ≡ (row_at rows b).predecessors
predecessors_are nodes rows b = ap (λ (known : SsaBlock). known.predecessors) (known_is nodes rows b)

-- one more row of which nothing is known changes nothing
pub same_rows : (rows : List BlockRow) (b : ℕ) → row_at (rows ++ new_row ∷ []) b ≡ row_at rows b
same_rows rows b =
    at_push (λ (r : BlockRow). r ≡ row_at rows b) rows new_row b new_row (λ here. refl) (λ last. sym (at_past rows b new_row (omega (arith, last)))) (λ past. sym (at_past rows b new_row (omega (arith, past))))

-- one more row counts as it waits
pub waiting_more : (rows : List BlockRow) (row : BlockRow) → waiting_rows (rows ++ row ∷ []) ≡ waiting_rows rows + one_if_waiting (last_of row.state)
waiting_more [] row = omega arith
waiting_more (r ∷ rows) row = omega (arith, waiting_more rows row)

-- where a row is replaced, the old one counts no more
pub waiting_set : (rows : List BlockRow) (b : ℕ) (row : BlockRow) → b < length rows
    → waiting_rows (set rows b row) + one_if_waiting (last_of (row_at rows b).state) ≡ waiting_rows rows + one_if_waiting (last_of row.state)
waiting_set [] b row inside = absurd (omega (arith, inside))
waiting_set (r ∷ rows) zero row inside = omega arith
waiting_set (r ∷ rows) (suc b) row inside = omega (arith, waiting_set rows b row (omega (arith, inside)))

one_at_most : (last : ℕ) → one_if_waiting last ≤ 1
one_at_most zero = omega arith
one_at_most (suc last) = omega arith

zero_if_none : (last : ℕ) → one_if_waiting last ≡ 0 → last ≡ 0
zero_if_none zero none = refl
zero_if_none (suc last) none = absurd (omega (arith, none))

-- no more rows wait than there are
pub waiting_few : (rows : List BlockRow) → waiting_rows rows ≤ length rows
waiting_few [] = omega arith
waiting_few (r ∷ rows) = omega (arith, waiting_few rows, one_at_most (last_of r.state))

-- where no row waits, none has a place
pub none_waits : (rows : List BlockRow) (b : ℕ) → waiting_rows rows ≡ 0 → last_of (row_at rows b).state ≡ 0
none_waits [] b none = refl
none_waits (r ∷ rows) zero none = zero_if_none (last_of r.state) (omega (arith, none))
none_waits (r ∷ rows) (suc b) none = none_waits rows b (omega (arith, none))

if_same : {X : Type 0} (c b : ℕ) (x y : X) → c ≡ b → (if c == b then x else y) ≡ x
if_same c b x y same = grind (arith, common_steps, same)

if_other : {X : Type 0} (c b : ℕ) (x y : X) → c ≢ b → (if c == b then x else y) ≡ y
if_other c b x y apart = grind (arith, common_steps, apart)

-- a block that is known has a row, and so has one to which a branch leads
pub has_row : (nodes : List PendingNode) (rows : List BlockRow) (known : List SsaBlock) (block k : ℕ) → map (known_of nodes) rows ≡ known → block < length known → k ≡ block
    → k < length rows
has_row nodes rows known block k is there place =
    let count : length rows ≡ length known = sym (length-map rows (known_of nodes)) ∙ ap length is in omega (arith, count, there, place)

pub has_row_if_led : (nodes : List PendingNode) (rows : List BlockRow) (known : List SsaBlock) (block k branch : ℕ) → map (known_of nodes) rows ≡ known
    → Stands branch (predecessors_at known block) → k ≡ block → k < length rows
has_row_if_led nodes rows known block k branch is stands place =
    elim (below_or_not k (length rows)) [
      | inl here ↦ here
      | inr past ↦
          let none : predecessors_at known block ≡ [] =
          ap (λ (view : List SsaBlock). predecessors_at view block) (sym is) ∙ predecessors_are nodes rows block ∙ ap (λ (r : BlockRow). r.predecessors) (at_past rows block new_row (omega (arith, past, place))) in
          absurd (none_stands branch (subst (λ (xs : List ℕ). Stands branch xs) none stands))
    ]

-- what a place says of whether parameters wait there
pub counts_one : (last n : ℕ) → (last ≡ 0 → n ≡ 1) → (last ≢ 0 → n ≡ 0) → n + one_if_waiting last ≡ 1
counts_one zero n none some = omega (arith, none refl)
counts_one (suc last) n none some = omega (arith, some (λ same. omega (arith, same)))

pub counts_some : (last n : ℕ) → (last ≡ 0 → n ≡ 0) → (last ≢ 0 → n ≡ 1) → n ≡ one_if_waiting last
counts_some zero n none some = none refl
counts_some (suc last) n none some = some (λ same. omega (arith, same))

-- a table with more rows of which nothing is known is a table
pub table_grown : (rows more : List BlockRow) (nodes : List PendingNode) (waiting : ℕ) → IsBlockTable rows nodes waiting → length more < 2 ^ 32
    → ((b : ℕ) → row_at more b ≡ row_at rows b) → waiting_rows more ≡ waiting_rows rows → IsBlockTable more nodes waiting
table_grown rows more nodes waiting table few same counted = record {
  few = few;
  linked = table.linked;
  inside = λ b. subst (λ (r : BlockRow). last_of r.state ≤ length nodes) (sym (same b)) (table.inside b);
  counted = table.counted ∙ sym counted;
}

pub known_grown : (rows more : List BlockRow) (nodes kept : List PendingNode) (known : List SsaBlock) → map (known_of nodes) rows ≡ known → kept ≡ nodes
    → ((b : ℕ) → row_at more b ≡ row_at rows b) → (b : ℕ) → known_at (map (known_of kept) more) b ≡ known_at known b
known_grown rows more nodes kept known is keeps same b =
    ap (λ (ns : List PendingNode). known_at (map (known_of ns) more) b) keeps ∙ known_is nodes more b ∙ ap (known_of nodes) (same b) ∙ sym (known_is nodes rows b)
    ∙ ap (λ (view : List SsaBlock). known_at view b) is

-- a table in which a row gets other predecessors is a table
pub table_led : (rows : List BlockRow) (b : ℕ) (row : BlockRow) (nodes : List PendingNode) (waiting : ℕ) → IsBlockTable rows nodes waiting → b < length rows
    → row.state ≡ (row_at rows b).state → IsBlockTable (set rows b row) nodes waiting
table_led rows b row nodes waiting table there same = record {
  few = let count : length (set rows b row) ≡ length rows = grind (arith, common_steps) in omega (arith, count, table.few);
  linked = table.linked;
  inside = λ c.
      at_set (λ (r : BlockRow). last_of r.state ≤ length nodes) rows b row c new_row there (λ is. subst (λ (s : RowState). last_of s ≤ length nodes) (sym same) (table.inside b))
      (λ apart. table.inside c);
  counted =
      let counts : one_if_waiting (last_of row.state) ≡ one_if_waiting (last_of (row_at rows b).state) = ap (λ (s : RowState). one_if_waiting (last_of s)) same in
      omega (arith, waiting_set rows b row there, counts, table.counted);
}

pub sealed_led : (rows : List BlockRow) (b : ℕ) (row : BlockRow) (nodes : List PendingNode) → b < length rows → row.state ≡ (row_at rows b).state
    → (c : ℕ) → sealed_at (map (known_of nodes) (set rows b row)) c ≡ sealed_at (map (known_of nodes) rows) c
sealed_led rows b row nodes there same c =
    sealed_is nodes (set rows b row) c
    ∙ at_set (λ (r : BlockRow). sealed_by nodes r.state ≡ sealed_by nodes (row_at rows c).state) rows b row c new_row there
    (λ is. ap (sealed_by nodes) same ∙ ap (λ d. sealed_by nodes (row_at rows d).state) (sym is)) (λ apart. refl)
    ∙ sym (sealed_is nodes rows c)

-- where the predecessors of one row change, those of its block do, and no others
pub predecessors_led : (rows : List BlockRow) (k block : ℕ) (row : BlockRow) (nodes : List PendingNode) (change : List ℕ → List ℕ) (old : ℕ → List ℕ) → k < length rows → k ≡ block
    → row.predecessors ≡ change (row_at rows k).predecessors → ((b : ℕ) → predecessors_at (map (known_of nodes) rows) b ≡ old b)
    → (b : ℕ) → predecessors_at (map (known_of nodes) (set rows k row)) b ≡ (if b == block then change (old b) else old b)
predecessors_led rows k block row nodes change old there place changed was b =
    predecessors_are nodes (set rows k row) b ∙ elim (cases_eq b block) [
      | inl same ↦
          let here : b ≡ k = same ∙ sym place in
          ap (λ (r : BlockRow). r.predecessors) (ap (λ d. row_at (set rows k row) d) here ∙ get_or-set_same rows k row new_row there)
          ∙ changed
          ∙ ap change (ap (λ d. (row_at rows d).predecessors) (sym here) ∙ sym (predecessors_are nodes rows b) ∙ was b)
          ∙ sym (if_same b block _ _ same)
      | inr apart ↦
          ap (λ (r : BlockRow). r.predecessors) (get_or-set_other rows k b row new_row (λ here. apart (here ∙ place)))
          ∙ sym (predecessors_are nodes rows b)
          ∙ was b
          ∙ sym (if_other b block _ _ apart)
    ]

-- where a row keeps its predecessors, all rows do, whatever nodes there are
pub predecessors_kept : (rows : List BlockRow) (b : ℕ) (row : BlockRow) (nodes more : List PendingNode) → b < length rows → row.predecessors ≡ (row_at rows b).predecessors
    → (c : ℕ) → predecessors_at (map (known_of more) (set rows b row)) c ≡ predecessors_at (map (known_of nodes) rows) c
predecessors_kept rows b row nodes more there same c =
    predecessors_are more (set rows b row) c
    ∙ at_set (λ (r : BlockRow). r.predecessors ≡ (row_at rows c).predecessors) rows b row c new_row there (λ is. same ∙ ap (λ d. (row_at rows d).predecessors) (sym is)) (λ apart. refl)
    ∙ sym (predecessors_are nodes rows c)

-- one more node changes nothing of a row that was there before
sealed_before : (nodes more : List PendingNode) (s : RowState) → AreLinked nodes → last_of s ≤ length nodes → sealed_by (nodes ++ more) s ≡ sealed_by nodes s
sealed_before nodes more (state.Unsealed last) linked inside = ap No (listed_before nodes more linked last last inside)
sealed_before nodes more state.Sealed linked inside = refl

last_is : (s : RowState) (last : ℕ) → s ≡ state.Unsealed last → last_of s ≡ last
last_is s last is = ap last_of is

-- a table in which one more parameter waits is a table
pub table_waits : (rows : List BlockRow) (b : ℕ) (row : BlockRow) (nodes : List PendingNode) (n : PendingNode) (waiting one : ℕ) → IsBlockTable rows nodes waiting → b < length rows
    → (row_at rows b).state ≡ state.Unsealed n.previous → row.state ≡ state.Unsealed (length nodes + 1) → one + one_if_waiting n.previous ≡ 1
    → IsBlockTable (set rows b row) (nodes ++ n ∷ []) (waiting + one)
table_waits rows b row nodes n waiting one table there was is counts =
    let back : n.previous ≤ length nodes = subst (λ (l : ℕ). l ≤ length nodes) (last_is _ _ was) (table.inside b) in
    let grown : length (nodes ++ n ∷ []) ≡ length nodes + 1 = length_push nodes n in
    record {
      few = let count : length (set rows b row) ≡ length rows = grind (arith, common_steps) in omega (arith, count, table.few);
      linked = linked_new nodes n table.linked back;
      inside = λ c.
          at_set (λ (r : BlockRow). last_of r.state ≤ length (nodes ++ n ∷ [])) rows b row c new_row there (λ same. omega (arith, last_is row.state (length nodes + 1) is, grown))
          (λ apart. omega (arith, table.inside c, grown));
      counted =
          let new : one_if_waiting (last_of row.state) ≡ 1 = ap one_if_waiting (last_is row.state (length nodes + 1) is ∙ (let e : length nodes + 1 ≡ suc (length nodes) = omega arith in e)) in
          let old : one_if_waiting (last_of (row_at rows b).state) ≡ one_if_waiting n.previous = ap one_if_waiting (last_is (row_at rows b).state n.previous was) in
          omega (arith, waiting_set rows b row there, new, old, counts, table.counted);
    }

pub waits_there : (rows : List BlockRow) (b : ℕ) (row : BlockRow) (nodes : List PendingNode) (n : PendingNode) (waiting : ℕ) → IsBlockTable rows nodes waiting → b < length rows
    → (row_at rows b).state ≡ state.Unsealed n.previous → row.state ≡ state.Unsealed (length nodes + 1)
    → (c : ℕ) → sealed_at (map (known_of (nodes ++ n ∷ [])) (set rows b row)) c
    ≡ (if c == b then No (pending_of (sealed_at (map (known_of nodes) rows) c) ++ n.pending ∷ []) else sealed_at (map (known_of nodes) rows) c)
waits_there rows b row nodes n waiting table there was is c =
    let back : n.previous ≤ length nodes = subst (λ (l : ℕ). l ≤ length nodes) (last_is _ _ was) (table.inside b) in
    elim (cases_eq c b) [
      | inl same ↦
          let old : sealed_at (map (known_of nodes) rows) c ≡ No (listed_to nodes n.previous) = sealed_is nodes rows c ∙ ap (λ d. sealed_by nodes (row_at rows d).state) same ∙ ap (sealed_by nodes) was in
          sealed_is (nodes ++ n ∷ []) (set rows b row) c
          ∙ ap (λ (r : BlockRow). sealed_by (nodes ++ n ∷ []) r.state) (ap (λ d. row_at (set rows b row) d) same ∙ get_or-set_same rows b row new_row there)
          ∙ ap (sealed_by (nodes ++ n ∷ [])) is
          ∙ ap No (listed_new nodes n table.linked back)
          ∙ ap (λ (s : Sealed). No (pending_of s ++ n.pending ∷ [])) (sym old)
          ∙ sym (if_same c b _ _ same)
      | inr apart ↦
          sealed_is (nodes ++ n ∷ []) (set rows b row) c
          ∙ ap (λ (r : BlockRow). sealed_by (nodes ++ n ∷ []) r.state) (get_or-set_other rows b c row new_row apart)
          ∙ sealed_before nodes (n ∷ []) (row_at rows c).state table.linked (table.inside c)
          ∙ sym (sealed_is nodes rows c)
          ∙ sym (if_other c b _ _ apart)
    ]

-- a table in which one more block is sealed is a table
pub table_seals : (rows : List BlockRow) (b : ℕ) (row : BlockRow) (nodes : List PendingNode) (waiting one : ℕ) → IsBlockTable rows nodes waiting → b < length rows
    → row.state ≡ state.Sealed → one ≡ one_if_waiting (last_of (row_at rows b).state) → IsBlockTable (set rows b row) nodes (waiting - one)
table_seals rows b row nodes waiting one table there is counts = record {
  few = let count : length (set rows b row) ≡ length rows = grind (arith, common_steps) in omega (arith, count, table.few);
  linked = table.linked;
  inside = λ c.
      at_set (λ (r : BlockRow). last_of r.state ≤ length nodes) rows b row c new_row there (λ same. let none : last_of row.state ≡ 0 = ap last_of is in omega (arith, none)) (λ apart. table.inside c);
  counted = let new : one_if_waiting (last_of row.state) ≡ 0 = ap (λ (s : RowState). one_if_waiting (last_of s)) is in omega (arith, waiting_set rows b row there, new, counts, table.counted);
}

-- a block that waits is counted
pub counted_there : (rows : List BlockRow) (b : ℕ) → b < length rows → one_if_waiting (last_of (row_at rows b).state) ≤ waiting_rows rows
counted_there [] b there = absurd (omega (arith, there))
counted_there (r ∷ rows) zero there = omega arith
counted_there (r ∷ rows) (suc b) there = omega (arith, counted_there rows b (omega (arith, there)))

pub seals_there : (rows : List BlockRow) (b : ℕ) (row : BlockRow) (nodes : List PendingNode) → b < length rows → row.state ≡ state.Sealed
    → (c : ℕ) → sealed_at (map (known_of nodes) (set rows b row)) c ≡ (if c == b then Yes else sealed_at (map (known_of nodes) rows) c)
seals_there rows b row nodes there is c =
    elim (cases_eq c b) [
      | inl same ↦
          sealed_is nodes (set rows b row) c
          ∙ ap (λ (r : BlockRow). sealed_by nodes r.state) (ap (λ d. row_at (set rows b row) d) same ∙ get_or-set_same rows b row new_row there)
          ∙ ap (sealed_by nodes) is
          ∙ sym (if_same c b _ _ same)
      | inr apart ↦
          sealed_is nodes (set rows b row) c
          ∙ ap (λ (r : BlockRow). sealed_by nodes r.state) (get_or-set_other rows b c row new_row apart)
          ∙ sym (sealed_is nodes rows c)
          ∙ sym (if_other c b _ _ apart)
    ]

-- where no block waits, the nodes mean nothing
sealed_alone : (nodes : List PendingNode) (s : RowState) → last_of s ≡ 0 → sealed_by [] s ≡ sealed_by nodes s
sealed_alone nodes (state.Unsealed last) none = ap (λ k. No (listed_to [] k)) none ∙ ap (λ k. No (listed_to nodes k)) (sym none)
sealed_alone nodes state.Sealed none = refl

pub table_emptied : (rows : List BlockRow) (nodes : List PendingNode) (waiting : ℕ) → IsBlockTable rows nodes waiting → waiting ≡ 0 → IsBlockTable rows [] waiting
table_emptied rows nodes waiting table none = record {
  few = table.few;
  linked = λ k there. absurd (omega (arith, there));
  inside = λ b. let place : last_of (row_at rows b).state ≡ 0 = none_waits rows b (sym table.counted ∙ none) in omega (arith, place);
  counted = table.counted;
}

pub known_emptied : (rows : List BlockRow) (nodes : List PendingNode) → waiting_rows rows ≡ 0 → map (known_of []) rows ≡ map (known_of nodes) rows
known_emptied [] nodes none = refl
known_emptied (r ∷ rows) nodes none =
    let place : last_of r.state ≡ 0 = none_waits (r ∷ rows) 0 none in
    ap (λ (s : Sealed). (let known : SsaBlock = record { predecessors = r.predecessors; sealed = s } in known) ∷ map (known_of []) rows) (sealed_alone nodes r.state place)
    ∙ ap (λ (rest : List SsaBlock). known_of nodes r ∷ rest) (known_emptied rows nodes (omega (arith, none)))

-- a row that was read, and its state, by the number of its block
pub row_there : (nodes : List PendingNode) (rows : List BlockRow) (known : List SsaBlock) (block k : ℕ) (row : BlockRow) → map (known_of nodes) rows ≡ known → block < length known → k ≡ block
    → row ≡ slice_index_or rows k row → row ≡ row_at rows k
row_there nodes rows known block k row is there place read = get_or_read rows k row (has_row nodes rows known block k is there place) read new_row

pub state_there : (nodes : List PendingNode) (rows : List BlockRow) (known : List SsaBlock) (block j k : ℕ) (row : BlockRow) (s : RowState) → map (known_of nodes) rows ≡ known → block < length known
    → j ≡ block → k ≡ block → row ≡ slice_index_or rows j row → row.state ≡ s → (row_at rows k).state ≡ s
state_there nodes rows known block j k row s is there place place-too read state-is =
    ap (λ i. (row_at rows i).state) (place-too ∙ sym place) ∙ ap (λ (r : BlockRow). r.state) (sym (row_there nodes rows known block j row is there place read)) ∙ state-is

-- the nodes can go where no block waits
pub same_emptied : (rows : List BlockRow) (nodes after : List PendingNode) (waiting : ℕ) → IsBlockTable rows nodes waiting → waiting ≡ 0 → after ≡ []
    → map (known_of after) rows ≡ map (known_of nodes) rows
same_emptied rows nodes after waiting table none empty =
    ap (λ (ns : List PendingNode). map (known_of ns) rows) empty ∙ known_emptied rows nodes (sym table.counted ∙ none)
