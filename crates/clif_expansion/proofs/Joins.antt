-- Each call more on both sides keeps ledgers joined.
use Rattle.std.proofs.Common.{◌≡◌, ◌<◌, ◌+◌, ◌==◌, ◌⊎◌, inl, inr, ℕ, zero, suc, Bool, true, false, List, [], ◌∷◌, ◌++◌, length, refl, sym, ◌∙◌, ap, ap₂, subst, arith, Option, Some, None}
use Rattle.std.specs.Prelude.{if◌then◌else◌, option_and_then, slice_get}
use Rattle.std.specs.List.{AllZip, cons_option}
use Rattle.std.proofs.lemmas.Bool.{eq-eqb, eqb-true}
use Rattle.std.proofs.lemmas.List.{length-append}
use Rattle.clif_tables.specs.Entries.{with_entry}
use Rattle.clif_meaning.specs.Event.{Tag}
use Rattle.clif_meaning.specs.Instruction.{Edge, Instruction, Operation}
use Rattle.clif_meaning.specs.Ledger.{ABlock, AVariable, AValue, AnInstruction, AnEntry, AnEdge, AJumpTable, AnExceptionTable, Answered, BlockState, ExceptionTable, Ledger, VariableState, answer_at, answered_edge, answers_to, changed_by, edge_named, edges_named, edges_of_items, empty_ledger, exception_table, item_context, item_edge, item_kind, ledger_with, new_block, next_answer, touched_at, with_begun, with_instruction, with_served, with_tried}
use Rattle.clif_meaning.specs.Name.{Name, answer_of}
use Rattle.clif_meaning.specs.Request.{Request, CreateBlock, GivenEntry, TableItem, TagTo, DefaultTo, InContext, Build}
use Rattle.clif_expansion.specs.Expansion.{IsReadBlock}
use Rattle.clif_expansion.specs.Joining.{AreJoinedStates, AskingKeepsJoins, Both, IsJoined, IsOwnState, IsReadAnswer, IsReadCurrent, IsReadException, IsReadExceptionTable, IsReadLayout, IsReadRequest, IsReadState, IsReadTable, IsReadTableItem, IsUnread, NoMore, NoneLeads, answers_at, reading_after, reading_with}
use Rattle.clif_expansion.specs.Reading.{Generated, IsOneToOne, IsReadAs, IsReadEdge, IsReadInstruction, NotMade, Reading, ScriptName, StandsFor}
use Rattle.clif_expansion.specs.Walk.{IsGenerated}
use Rattle.clif_expansion.proofs.Among.{among_each, among_joined, ended_joined, leading_later}
use Rattle.clif_expansion.proofs.JoinedStates.{all_changed, begun_read, built_read, changed_read, maps_same, put_read, served_read, tried_read, zip_each, zip_flattened, zip_joined}
use Rattle.clif_expansion.proofs.Names.{same_script}
pub use Rattle.clif_expansion.proofs.ReadEffects.{KeepsReading, values_read}
use Rattle.clif_expansion.proofs.ReadEffects.{ReadEffects, ReadLedgerEffect, BothKeep, BothChange, BothChangeEach, BothBegin, BothVary, BothCreate, BothEnter, BothPut, BothEnlist, BothTable, BothCatch, BothTouch, BothAppend, edge_later, read_effects}

-- A LATER READING ---------------------------------------------------------------------------------------------------------

-- what was generated stays so
abbrev pub KeepsGenerated : Reading → Reading → Type 0
KeepsGenerated reading later = (x : Name) → reading x ≡ Generated → later x ≡ Generated

module _ (reading later : Reading) (keeps : KeepsReading reading later) where
  pub names_later : (names' names : List Name) → AllZip (IsReadAs reading) names' names → AllZip (IsReadAs later) names' names
  names_later names' names are = zip_each (IsReadAs reading) (IsReadAs later) keeps names' names are

  pub edges_later : (edges' edges : List (Edge Name Name)) → AllZip (IsReadEdge reading) edges' edges → AllZip (IsReadEdge later) edges' edges
  edges_later edges' edges are = zip_each (IsReadEdge reading) (IsReadEdge later) (edge_later reading later keeps) edges' edges are

  pub table_later : (table' table : Option (List (Edge Name Name))) → IsReadTable reading table' table → IsReadTable later table' table
  table_later None None is = tt
  table_later (Some edges') (Some edges) is = edges_later edges' edges is
  table_later None (Some edges) is = absurd is
  table_later (Some edges') None is = absurd is

  pub exception_later : (table' table : Option ExceptionTable) → IsReadException reading table' table → IsReadException later table' table
  exception_later None None is = tt
  exception_later (Some table') (Some table) is = record {
    signature = is.signature;
    edges = edges_later table'.edges table.edges is.edges;
    items = is.items;
    contexts = names_later table'.contexts table.contexts is.contexts;
  }
  exception_later None (Some table) is = absurd is
  exception_later (Some table') None is = absurd is

  pub block_later : (block' block : Option Name) → IsReadBlock reading block' block → IsReadBlock later block' block
  block_later None None is = tt
  block_later (Some x) (Some block) is = keeps x block is
  block_later None (Some block) is = absurd is
  block_later (Some x) None is = absurd is

  pub answer_later : (answer' answer : Option Answered) → IsReadAnswer reading answer' answer → IsReadAnswer later answer' answer
  answer_later None None is = tt
  answer_later (Some ABlock) (Some ABlock) is = tt
  answer_later (Some (AVariable v')) (Some (AVariable v)) is = is
  answer_later (Some (AValue t')) (Some (AValue t)) is = is
  answer_later (Some AnInstruction) (Some AnInstruction) is = tt
  answer_later (Some (AnEntry e' n')) (Some (AnEntry e n)) is = is
  answer_later (Some (AnEdge edge')) (Some (AnEdge edge)) is = edge_later reading later keeps edge' edge is
  answer_later (Some (AJumpTable n')) (Some (AJumpTable n)) is = is
  answer_later (Some (AnExceptionTable n')) (Some (AnExceptionTable n)) is = is
  answer_later _ _ is = absurd is

-- So it is, what was generated stays so, and what no name is read as, of so many calls, no name is read as.
pub record GoesOn (reading later : Reading) (made further : ℕ) : Type 0 where
  pub keeps : KeepsReading reading later
  pub generated : KeepsGenerated reading later
  pub unread : (name : Name) → IsUnread reading made name → IsUnread later further name

module _ (reading later : Reading) (made further : ℕ) (on : GoesOn reading later made further) where
  state_later : (state' state : BlockState) → IsReadState reading made state' state → IsReadState later further state' state
  state_later state' state is = record {
    block = on.keeps state'.block state.block is.block;
    parameters = is.parameters;
    is_pristine = is.is_pristine;
    is_filled = is.is_filled;
    is_sealed = is.is_sealed;
    is_cold = is.is_cold;
    predecessors = leading_later reading later made further on.keeps on.generated on.unread state'.predecessors state.predecessors is.predecessors;
  }

  own_later : (state : BlockState) → IsOwnState reading state → IsOwnState later state
  own_later state own = record { block = on.generated state.block own.block; is_filled = own.is_filled; is_sealed = own.is_sealed }

  pub current_later : (plain : Ledger) (current' current : Option Name) → IsReadCurrent reading plain current' current → IsReadCurrent later plain current' current
  current_later plain None None is = tt
  current_later plain (Some x) (Some block) is = on.keeps x block is
  current_later plain (Some x) None is = (λ none. made_later (reading x) refl none, is.1)
    where
      made_later : (stands : StandsFor) → reading x ≡ stands → later x ≡ NotMade → ⊥
      made_later NotMade was none = is.0 was
      made_later Generated was none = let apart : Generated ≡ NotMade = sym (on.generated x was) ∙ none in cc
      made_later (ScriptName name) was none = let apart : ScriptName name ≡ NotMade = sym (on.keeps x name was) ∙ none in cc
  current_later plain None (Some block) is = absurd is

  layout_later : (layout' layout : List Name) → IsReadLayout reading layout' layout → IsReadLayout later layout' layout
  layout_later [] [] are = tt
  layout_later (x ∷ layout') (block ∷ layout) are =
      (on.keeps x block are.0, among_each (IsReadAs reading) (IsGenerated reading) (IsReadAs later) (IsGenerated later) on.keeps on.generated layout' layout are.1)
  layout_later [] (block ∷ layout) are = absurd are
  layout_later (x ∷ layout') [] are = absurd are

  pub states_later : (plain ledger : Ledger) → AreJoinedStates reading made plain ledger → AreJoinedStates later further plain ledger
  states_later plain ledger are = record {
    blocks = among_each (IsReadState reading made) (IsOwnState reading) (IsReadState later further) (IsOwnState later) state_later own_later plain.blocks ledger.blocks are.blocks;
    current = current_later plain plain.current ledger.current are.current;
    layout = layout_later plain.layout ledger.layout are.layout;
    variables = are.variables;
    jump_tables = zip_each (IsReadTable reading) (IsReadTable later) (table_later reading later on.keeps) plain.jump_tables ledger.jump_tables are.jump_tables;
    exception_tables = zip_each (IsReadException reading) (IsReadException later) (exception_later reading later on.keeps) plain.exception_tables ledger.exception_tables are.exception_tables;
    tables = are.tables;
  }

-- THE NEXT READING --------------------------------------------------------------------------------------------------------

pub same_place : (place index : ℕ) → (place == place) ≡ true
same_place place index = eq-eqb place place refl

-- an answer to the next call is read so
pub read_there : (reading : Reading) (place index : ℕ) (answers : ℕ → StandsFor) → reading_with reading place answers (answer_of place index) ≡ answers index
read_there reading place index answers = ap (λ (c : Bool). if c then answers index else reading (answer_of place index)) (same_place place index)

-- an earlier one as before
pub read_before : (reading : Reading) (place : ℕ) (answers : ℕ → StandsFor) (x : Name) → x.place < place → reading_with reading place answers x ≡ reading x
read_before reading place answers x below = by (x.place == place) refl
  where
    by : (c : Bool) → (x.place == place) ≡ c → (if c then answers x.index else reading x) ≡ reading x
    by true is = absurd (let at = eqb-true x.place place is in omega (arith, below, at))
    by false is = refl

-- what is read behind the call is an answer to it, or was read before
pub read_either : (reading : Reading) (place : ℕ) (answers : ℕ → StandsFor) (x : Name) (stands : StandsFor) → reading_with reading place answers x ≡ stands
    → ((x.place ≡ place) × (answers x.index ≡ stands)) ⊎ (reading x ≡ stands)
read_either reading place answers x stands is = by (x.place == place) refl is
  where
    by : (c : Bool) → (x.place == place) ≡ c → (if c then answers x.index else reading x) ≡ stands → ((x.place ≡ place) × (answers x.index ≡ stands)) ⊎ (reading x ≡ stands)
    by true at is = inl (eqb-true x.place place at, is)
    by false at is = inr is

-- ANSWERS -----------------------------------------------------------------------------------------------------------------

-- the answers to earlier calls, and to the last one
pub answers_before : (answers : List (List Answered)) (more : List Answered) (place index : ℕ) → place < length answers
    → option_and_then (λ (given : List Answered). slice_get given index) (slice_get (answers ++ more ∷ []) place)
    ≡ option_and_then (λ (given : List Answered). slice_get given index) (slice_get answers place)
answers_before [] more place index below = absurd (omega (arith, below))
answers_before (given ∷ answers) more zero index below = refl
answers_before (given ∷ answers) more (suc place) index below = answers_before answers more place index (omega (arith, below))

pub answers_last : (answers : List (List Answered)) (more : List Answered) (index : ℕ)
    → option_and_then (λ (given : List Answered). slice_get given index) (slice_get (answers ++ more ∷ []) (length answers)) ≡ slice_get more index
answers_last [] more index = refl
answers_last (given ∷ answers) more index = answers_last answers more index

-- the element at a place is read so
pub at_read : (reading : Reading) (answers' answers : List Answered) (index : ℕ) → AllZip (λ a' a. IsReadAnswer reading (Some a') (Some a)) answers' answers
    → IsReadAnswer reading (slice_get answers' index) (slice_get answers index)
at_read reading [] [] index are = tt
at_read reading [] (a ∷ answers) index are = absurd are
at_read reading (a' ∷ answers') [] index are = absurd are
at_read reading (a' ∷ answers') (a ∷ answers) zero are = are.0
at_read reading (a' ∷ answers') (a ∷ answers) (suc index) are = at_read reading answers' answers index are.1

-- ONE CALL MORE -----------------------------------------------------------------------------------------------------------

-- there is an edge that is read, or none in either
abbrev IsReadSomeEdge : Reading → Option (Edge Name Name) → Option (Edge Name Name) → Type 0
IsReadSomeEdge reading None None = Unit {0}
IsReadSomeEdge reading (Some edge') (Some edge) = IsReadEdge reading edge' edge
IsReadSomeEdge reading _ _ = ⊥

edge_read : (reading : Reading) (answer' answer : Option Answered) → IsReadAnswer reading answer' answer → IsReadSomeEdge reading (answered_edge answer') (answered_edge answer)
edge_read reading None None is = tt
edge_read reading (Some ABlock) (Some ABlock) is = tt
edge_read reading (Some (AVariable v')) (Some (AVariable v)) is = tt
edge_read reading (Some (AValue t')) (Some (AValue t)) is = tt
edge_read reading (Some AnInstruction) (Some AnInstruction) is = tt
edge_read reading (Some (AnEntry e' n')) (Some (AnEntry e n)) is = tt
edge_read reading (Some (AnEdge edge')) (Some (AnEdge edge)) is = is
edge_read reading (Some (AJumpTable n')) (Some (AJumpTable n)) is = tt
edge_read reading (Some (AnExceptionTable n')) (Some (AnExceptionTable n)) is = tt
edge_read reading _ _ is = absurd is

-- what an item of an exception table names is read, and the answer to a call depends on it in the same way
item_edge_read : (reading : Reading) (item' item : TableItem) → IsReadTableItem reading item' item → AllZip (IsReadAs reading) (item_edge item') (item_edge item)
item_edge_read reading (TagTo tag' x) (TagTo tag edge) is = (is.1, tt)
item_edge_read reading (DefaultTo x) (DefaultTo edge) is = (is, tt)
item_edge_read reading (InContext x) (InContext value) is = tt
item_edge_read reading _ _ is = absurd is

item_context_read : (reading : Reading) (item' item : TableItem) → IsReadTableItem reading item' item → AllZip (IsReadAs reading) (item_context item') (item_context item)
item_context_read reading (TagTo tag' x) (TagTo tag edge) is = tt
item_context_read reading (DefaultTo x) (DefaultTo edge) is = tt
item_context_read reading (InContext x) (InContext value) is = (is, tt)
item_context_read reading _ _ is = absurd is

item_kind_same : (reading : Reading) (item' item : TableItem) → IsReadTableItem reading item' item → item_kind item' ≡ item_kind item
item_kind_same reading (TagTo tag' x) (TagTo tag edge) is = ap Tag is.0
item_kind_same reading (DefaultTo x) (DefaultTo edge) is = refl
item_kind_same reading (InContext x) (InContext value) is = refl
item_kind_same reading _ _ is = absurd is

module _ (reading : Reading) (plain ledger : Ledger) (joined : IsJoined reading plain ledger) where
  -- the edges with these names
  pub edges_read : (names' names : List Name) → AllZip (IsReadAs reading) names' names → AllZip (IsReadEdge reading) (edges_named plain names') (edges_named ledger names)
  edges_read [] [] are = tt
  edges_read [] (name ∷ names) are = absurd are
  edges_read (x ∷ names') [] are = absurd are
  edges_read (x ∷ names') (name ∷ names) are =
      by (edge_named plain x) (edge_named ledger name) (edge_read reading (answer_at plain x) (answer_at ledger name) (joined.ledgers.answers x name are.0)) (edges_read names' names are.1)
    where
      by : (edge' edge : Option (Edge Name Name)) → IsReadSomeEdge reading edge' edge → AllZip (IsReadEdge reading) (edges_named plain names') (edges_named ledger names)
          → AllZip (IsReadEdge reading) (cons_option edge' (edges_named plain names')) (cons_option edge (edges_named ledger names))
      by None None is rest = rest
      by (Some edge') (Some edge) is rest = (is, rest)
      by None (Some edge) is rest = absurd is
      by (Some edge') None is rest = absurd is

  abbrev pub later : Reading
  later = reading_after reading plain ledger

  abbrev here' : ℕ
  here' = length plain.answers

  abbrev here : ℕ
  here = length ledger.answers

  pub keeps : KeepsReading reading later
  keeps x name is = read_before reading here' (answers_at here) x (joined.made x name is).0 ∙ is

  pub one_to_one : IsOneToOne later
  one_to_one x y name first second = by (read_either reading here' (answers_at here) x (ScriptName name) first) (read_either reading here' (answers_at here) y (ScriptName name) second)
    where
      apart : (z w : Name) → ScriptName (answer_of here z.index) ≡ ScriptName name → IsReadAs reading w name → ⊥
      apart z w new old =
          let place : here ≡ name.place = ap (λ (n : Name). n.place) (same_script (answer_of here z.index) name new) in
          let below = (joined.made w name old).1 in
          absurd (omega (arith, place, below))

      by : ((x.place ≡ here') × (ScriptName (answer_of here x.index) ≡ ScriptName name)) ⊎ IsReadAs reading x name
          → ((y.place ≡ here') × (ScriptName (answer_of here y.index) ≡ ScriptName name)) ⊎ IsReadAs reading y name → x ≡ y
      by (inl new) (inl other) =
          let index : x.index ≡ y.index = ap (λ (n : Name). n.index) (same_script (answer_of here x.index) (answer_of here y.index) (new.1 ∙ sym other.1)) in
          let place : x.place ≡ y.place = new.0 ∙ sym other.0 in
          λ i. answer_of (place i) (index i)
      by (inl new) (inr old) = absurd (apart x y new.1 old)
      by (inr old) (inl new) = absurd (apart y x new.1 old)
      by (inr old) (inr other) = joined.one_to_one x y name old other

  pub keeps_generated : KeepsGenerated reading later
  keeps_generated x is = read_before reading here' (answers_at here) x (joined.generated x is) ∙ is

  keeps_unread : (name : Name) → IsUnread reading here name → IsUnread later (suc here) name
  keeps_unread name is = record {
    unread = λ x read. by x (read_either reading here' (answers_at here) x (ScriptName name) read);
    before = let below = is.before in omega (arith, below);
  }
    where
      by : (x : Name) → ((x.place ≡ here') × (ScriptName (answer_of here x.index) ≡ ScriptName name)) ⊎ IsReadAs reading x name → ⊥
      by x (inl new) =
          let place : here ≡ name.place = ap (λ (n : Name). n.place) (same_script (answer_of here x.index) name new.1) in
          let below = is.before in
          absurd (omega (arith, place, below))
      by x (inr old) = is.unread x old

  pub goes_on : GoesOn reading later here (suc here)
  goes_on = record { keeps = keeps; generated = keeps_generated; unread = keeps_unread }

  -- what is generated behind the call was so before
  pub generated_before : (x : Name) → IsGenerated later x → IsGenerated reading x
  generated_before x is = by (read_either reading here' (answers_at here) x Generated is)
    where
      by : ((x.place ≡ here') × (ScriptName (answer_of here x.index) ≡ Generated)) ⊎ IsGenerated reading x → IsGenerated reading x
      by (inl new) = let apart = new.1 in cc
      by (inr old) = old

  states : AreJoinedStates later (suc here) plain ledger
  states = states_later reading later here (suc here) goes_on plain ledger joined.ledgers.states

  next_read : IsReadAs later (next_answer plain) (next_answer ledger)
  next_read = read_there reading here' 0 (answers_at here)

  abbrev State : BlockState → BlockState → Type 0
  State state' state = IsReadState later (suc here) state' state

  abbrev Joined : Ledger → Ledger → Type 0
  Joined a b = AreJoinedStates later (suc here) a b

  with_variables : (a b : Ledger) (variables' variables : List VariableState) → Joined a b → variables' ≡ variables
      → Joined (record a { variables = variables' }) (record b { variables = variables })
  with_variables a b variables' variables are same = record {
    blocks = are.blocks;
    current = are.current;
    layout = are.layout;
    variables = same;
    jump_tables = are.jump_tables;
    exception_tables = are.exception_tables;
    tables = are.tables;
  }

  with_tables : (a b : Ledger) (tables' tables : List (Option (List (Edge Name Name)))) → Joined a b → AllZip (IsReadTable later) tables' tables
      → Joined (record a { jump_tables = tables' }) (record b { jump_tables = tables })
  with_tables a b tables' tables are read = record {
    blocks = are.blocks;
    current = are.current;
    layout = are.layout;
    variables = are.variables;
    jump_tables = read;
    exception_tables = are.exception_tables;
    tables = are.tables;
  }

  with_exceptions : (a b : Ledger) (tables' tables : List (Option ExceptionTable)) → Joined a b → AllZip (IsReadException later) tables' tables
      → Joined (record a { exception_tables = tables' }) (record b { exception_tables = tables })
  with_exceptions a b tables' tables are read = record {
    blocks = are.blocks;
    current = are.current;
    layout = are.layout;
    variables = are.variables;
    jump_tables = are.jump_tables;
    exception_tables = read;
    tables = are.tables;
  }

  -- an exception table of these parts
  table_read : (number signature : ℕ) (first normal : Name) (listed items : List TableItem) → number ≡ signature → IsReadAs reading first normal → AllZip (IsReadTableItem reading) listed items
      → IsReadExceptionTable later (exception_table plain number first listed) (exception_table ledger signature normal items)
  table_read number signature first normal listed items same is are = record {
    signature = same;
    edges = edges_later reading later keeps _ _ (edges_read (edges_of_items first listed) (edges_of_items normal items)
        (is, zip_flattened (IsReadTableItem reading) (IsReadAs reading) item_edge item_edge (item_edge_read reading) listed items are));
    items = maps_same (IsReadTableItem reading) item_kind item_kind (item_kind_same reading) listed items are;
    contexts = names_later reading later keeps _ _
        (zip_flattened (IsReadTableItem reading) (IsReadAs reading) item_context item_context (item_context_read reading) listed items are);
  }

  built : (entries' entries : List GivenEntry) (instruction' instruction : Instruction Name Name) → entries' ≡ entries → IsReadInstruction reading instruction' instruction
      → Joined (changed_by plain (Build entries' instruction')) (changed_by ledger (Build entries instruction))
  built entries' entries instruction' instruction same is =
      with_exceptions (record (with_instruction plain instruction') { jump_tables = with_served plain.jump_tables entries' })
      (record (with_instruction ledger instruction) { jump_tables = with_served ledger.jump_tables entries })
      (with_tried plain.exception_tables entries') (with_tried ledger.exception_tables entries)
      (with_tables (with_instruction plain instruction') (with_instruction ledger instruction) (with_served plain.jump_tables entries') (with_served ledger.jump_tables entries)
      (subst (λ (operation : Operation). Joined (with_instruction plain (record instruction' { operation = operation })) (with_instruction ledger instruction)) (sym is.operation)
      (built_read later (suc here) one_to_one plain ledger (next_answer plain) (next_answer ledger) instruction.operation instruction'.edges instruction.edges states next_read
      (edges_later reading later keeps instruction'.edges instruction.edges is.edges)))
      (subst (λ (es : List GivenEntry). AllZip (IsReadTable later) (with_served plain.jump_tables es) (with_served ledger.jump_tables entries)) (sym same)
      (served_read later entries plain.jump_tables ledger.jump_tables states.jump_tables)))
      (subst (λ (es : List GivenEntry). AllZip (IsReadException later) (with_tried plain.exception_tables es) (with_tried ledger.exception_tables entries)) (sym same)
      (tried_read later entries plain.exception_tables ledger.exception_tables states.exception_tables))

  -- a block that is created is no other one
  other_block : (x : Name) → (reading x ≡ NotMade → ⊥) → (stands : StandsFor) → reading x ≡ stands → next_answer plain ≡ x → ⊥
  other_block x some NotMade was same = some was
  other_block x some Generated was same =
      let below = joined.generated x was in
      let place : here' ≡ x.place = ap (λ (n : Name). n.place) same in
      absurd (omega (arith, below, place))
  other_block x some (ScriptName name) was same =
      let below = (joined.made x name was).0 in
      let place : here' ≡ x.place = ap (λ (n : Name). n.place) same in
      absurd (omega (arith, below, place))

  created_current : (current' current : Option Name) → IsReadCurrent reading plain current' current → IsReadCurrent later plain current' current
      → IsReadCurrent later (record plain { blocks = plain.blocks ++ new_block (next_answer plain) ∷ [] }) current' current
  created_current None None was is = tt
  created_current (Some x) (Some block) was is = is
  created_current (Some x) None was is =
      (is.0, ended_joined x plain.blocks (new_block (next_answer plain) ∷ []) plain.layout (λ same. absurd (other_block x was.0 (reading x) refl same), tt) is.1)
  created_current None (Some block) was is = absurd is

  created : Joined (changed_by plain CreateBlock) (changed_by ledger CreateBlock)
  created = record {
    blocks = among_joined State (IsOwnState later) plain.blocks (new_block (next_answer plain) ∷ []) ledger.blocks (new_block (next_answer ledger) ∷ []) states.blocks
        (Both _ _ [] [] (record { block = next_read; parameters = refl; is_pristine = refl; is_filled = refl; is_sealed = refl; is_cold = refl; predecessors = NoneLeads }) NoMore);
    current = created_current plain.current ledger.current joined.ledgers.states.current states.current;
    layout = states.layout;
    variables = states.variables;
    jump_tables = states.jump_tables;
    exception_tables = states.exception_tables;
    tables = states.tables;
  }

  of_ledgers : (a b a' b' : Ledger) → a' ≡ a → b' ≡ b → Joined a b → Joined a' b'
  of_ledgers a b a' b' same' same are = subst (λ (l : Ledger). Joined l b') (sym same') (subst (λ (l : Ledger). Joined a l) (sym same) are)

  changed_so : (asked request : Request) → ReadLedgerEffect reading asked request → Joined (changed_by plain asked) (changed_by ledger request)
  changed_so asked request (BothKeep a r is' is) = of_ledgers plain ledger _ _ (is' plain) (is ledger) states
  changed_so asked request (BothChange a r x block change' change read ends respects is' is) =
      of_ledgers _ _ _ _ (is' plain) (is ledger)
      (changed_read later (suc here) one_to_one plain ledger x block change' change states (keeps x block read) ends (respects later (suc here) keeps one_to_one))
  changed_so asked request (BothChangeEach a r change' change ends respects is' is) =
      of_ledgers _ _ _ _ (is' plain) (is ledger)
      (all_changed later (suc here) one_to_one plain ledger change' change states ends (respects later (suc here) keeps one_to_one))
  changed_so asked request (BothBegin a r is' is) = of_ledgers _ _ _ _ (is' plain) (is ledger) (begun_read later (suc here) one_to_one plain ledger states)
  changed_so asked request (BothVary a r change' change same is' is) =
      of_ledgers _ _ _ _ (is' plain) (is ledger) (with_variables plain ledger _ _ states (same plain.variables ∙ ap change states.variables))
  changed_so asked request BothCreate = created
  changed_so asked request (BothEnter x block is) = record {
    blocks = states.blocks;
    current = keeps x block is;
    layout = states.layout;
    variables = states.variables;
    jump_tables = states.jump_tables;
    exception_tables = states.exception_tables;
    tables = states.tables;
  }
  changed_so asked request (BothPut x block behind after is at) =
      put_read later (suc here) one_to_one plain ledger x block behind after states (keeps x block is) (keeps behind after at)
  changed_so asked request (BothEnlist entry' entry is) = record {
    blocks = states.blocks;
    current = states.current;
    layout = states.layout;
    variables = states.variables;
    jump_tables = states.jump_tables;
    exception_tables = states.exception_tables;
    tables = ap₂ with_entry states.tables is;
  }
  changed_so asked request (BothTable first default names entries are) =
      with_tables plain ledger _ _ states (zip_joined (IsReadTable later) plain.jump_tables (Some (edges_named plain (first ∷ names)) ∷ []) ledger.jump_tables (Some (edges_named ledger (default ∷ entries)) ∷ []) states.jump_tables
      (edges_later reading later keeps (edges_named plain (first ∷ names)) (edges_named ledger (default ∷ entries)) (edges_read (first ∷ names) (default ∷ entries) are), tt))
  changed_so asked request (BothCatch number signature first normal listed items same is are) =
      with_exceptions plain ledger _ _ states (zip_joined (IsReadException later) plain.exception_tables (Some (exception_table plain number first listed) ∷ [])
      ledger.exception_tables (Some (exception_table ledger signature normal items) ∷ []) states.exception_tables
      (table_read number signature first normal listed items same is are, tt))
  changed_so asked request (BothTouch number variable is) =
      let begun = begun_read later (suc here) one_to_one plain ledger states in
      with_variables (with_begun plain) (with_begun ledger) _ _ begun (ap₂ touched_at is begun.variables)
  changed_so asked request (BothAppend entries' entries instruction' instruction same is) = built entries' entries instruction' instruction same is

  one_longer : (answers : List (List Answered)) (more : List Answered) → length (answers ++ more ∷ []) ≡ length answers + 1
  one_longer answers more = length-append answers (more ∷ [])

  longer_by_one : (answers : List (List Answered)) (more : List Answered) → length (answers ++ more ∷ []) ≡ suc (length answers)
  longer_by_one [] more = refl
  longer_by_one (given ∷ answers) more = ap suc (longer_by_one answers more)

  module _ (asked request : Request) (is : IsReadRequest reading asked request) where
    effects : ReadEffects reading asked request
    effects = read_effects reading asked request is

    abbrev after' : Ledger
    after' = ledger_with plain asked

    abbrev after : Ledger
    after = ledger_with ledger request

    answers_read : (x name : Name) → IsReadAs later x name → IsReadAnswer later (answer_at after' x) (answer_at after name)
    answers_read x name read = by (read_either reading here' (answers_at here) x (ScriptName name) read)
      where
        by : ((x.place ≡ here') × (ScriptName (answer_of here x.index) ≡ ScriptName name)) ⊎ IsReadAs reading x name → IsReadAnswer later (answer_at after' x) (answer_at after name)
        by (inl new) =
            let name_is : answer_of here x.index ≡ name = same_script (answer_of here x.index) name new.1 in
            let x_is : answer_of here' x.index ≡ x = λ i. answer_of (sym new.0 i) x.index in
            subst (λ (z : Name). IsReadAnswer later (answer_at after' z) (answer_at after name)) x_is
            (subst (λ (z : Name). IsReadAnswer later (answer_at after' (answer_of here' x.index)) (answer_at after z)) name_is
            (subst (λ (answer : Option Answered). IsReadAnswer later answer (answer_at after (answer_of here x.index))) (sym (answers_last plain.answers (answers_to plain asked) x.index))
            (subst (λ (answer : Option Answered). IsReadAnswer later (slice_get (answers_to plain asked) x.index) answer) (sym (answers_last ledger.answers (answers_to ledger request) x.index))
            (at_read later (answers_to plain asked) (answers_to ledger request) x.index (effects.answers later (suc here) plain ledger keeps states)))))
        by (inr old) =
            let both = joined.made x name old in
            subst (λ (answer : Option Answered). IsReadAnswer later answer (answer_at after name)) (sym (answers_before plain.answers (answers_to plain asked) x.place x.index both.0))
            (subst (λ (answer : Option Answered). IsReadAnswer later (answer_at plain x) answer) (sym (answers_before ledger.answers (answers_to ledger request) name.place name.index both.1))
            (answer_later reading later keeps (answer_at plain x) (answer_at ledger name) (joined.ledgers.answers x name old)))

    made : (x name : Name) → IsReadAs later x name → (x.place < length after'.answers) × (name.place < length after.answers)
    made x name read = by (read_either reading here' (answers_at here) x (ScriptName name) read)
      where
        longer' : length after'.answers ≡ here' + 1
        longer' = one_longer plain.answers (answers_to plain asked)

        longer : length after.answers ≡ here + 1
        longer = one_longer ledger.answers (answers_to ledger request)

        by : ((x.place ≡ here') × (ScriptName (answer_of here x.index) ≡ ScriptName name)) ⊎ IsReadAs reading x name → (x.place < length after'.answers) × (name.place < length after.answers)
        by (inl new) =
            let place : here ≡ name.place = ap (λ (n : Name). n.place) (same_script (answer_of here x.index) name new.1) in
            let place' : x.place ≡ here' = new.0 in
            (omega (arith, place', longer'), omega (arith, place, longer))
        by (inr old) =
            let below' : x.place < here' = (joined.made x name old).0 in
            let below : name.place < here = (joined.made x name old).1 in
            (omega (arith, below', longer'), omega (arith, below, longer))

    pub asked_joined : IsJoined later after' after
    asked_joined =
        let s = changed_so asked request effects.ledger in
        record {
          ledgers = record {
            states = subst (λ (n : ℕ). AreJoinedStates later n after' after) (sym (longer_by_one ledger.answers (answers_to ledger request))) (record { blocks = s.blocks; current = s.current; layout = s.layout; variables = s.variables; jump_tables = s.jump_tables; exception_tables = s.exception_tables; tables = s.tables });
            answers = answers_read;
          };
          one_to_one = one_to_one;
          made = made;
          generated = λ x own.
              let below : x.place < here' = joined.generated x (generated_before x own) in
              let longer' : length after'.answers ≡ here' + 1 = one_longer plain.answers (answers_to plain asked) in
              omega (arith, below, longer');
        }

starts : IsJoined (λ x. NotMade) empty_ledger empty_ledger
starts = record {
  ledgers = record { states = record { blocks = NoMore; current = tt; layout = tt; variables = refl; jump_tables = tt; exception_tables = tt; tables = refl }; answers = λ x name is. cc };
  one_to_one = λ x y name first second. cc;
  made = λ x name is. cc;
  generated = λ x is. let apart : NotMade ≡ Generated = is in cc;
}

pub asking_keeps_joins : AskingKeepsJoins
asking_keeps_joins = record { starts = starts; keeps = λ reading plain ledger asked request joined is. asked_joined reading plain ledger joined asked request is }
