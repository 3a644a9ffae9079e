-- The conditions on calls are the same in joined ledgers.
use Rattle.std.proofs.Common.{◌≡◌, ℕ, zero, suc, Bool, true, false, cond, not, ◌&&◌, ◌||◌, List, [], ◌∷◌, length, refl, sym, ◌∙◌, ap, ap₂, subst, Option, Some, None}
use Rattle.std.specs.Prelude.{find, if◌then◌else◌, is_some, option_and_then, option_map, slice_get}
use Rattle.std.specs.List.{AllZip, list_all, list_any}
use Rattle.clif_tables.specs.Lists.{TableLists}
use Rattle.clif_types.specs.declared.types.«Type».{«Type»}
use Rattle.clif_tables.specs.Entries.{TableEntry}
use Rattle.clif_meaning.specs.Acceptance.{allows, blames_variable, can_assign, can_lead, can_leave, has_argument, has_entry, has_item, is_open, is_unfinished, may_give, may_give_all, refusal_of, tables_differ, unfinished, Unfilled, Unsealed, fits_stack_map}
use Rattle.clif_meaning.specs.Instruction.{Argument, Known, CallResult, CallPayload, Edge, Instruction}
use Rattle.clif_meaning.specs.Ledger.{ABlock, AVariable, AValue, AnInstruction, AnEntry, AnEdge, AJumpTable, AnExceptionTable, Answered, BlockState, ExceptionTable, Ledger, VariableState, answer_at, answered_edge, begins_with, block_state, edge_named, has_block, has_predecessors, has_value, is_empty, is_filled, is_inserted, is_instruction_answer, is_pristine, is_sealed, is_unreachable, leads_to, state_has, type_of, value_answer_type, variable_type, or_invalid}
use Rattle.clif_meaning.specs.Name.{Name, same_name}
use Rattle.clif_meaning.specs.Request.{Request, GivenEntry, ServedBy, TriedBy, Imported, TableItem, TagTo, DefaultTo, InContext, Finalize}
use Rattle.clif_expansion.specs.Joining.{AreJoinedLedgers, Both, ConditionsAreRead, IsOwnState, IsReadAnswer, IsReadCurrent, IsReadException, IsReadLayout, NoMore, Own, StandAmong, IsReadRefusal, IsReadRequest, IsReadState, IsReadTable, IsReadTableItem}
use Rattle.clif_expansion.specs.Reading.{IsOneToOne, IsReadArgument, IsReadAs, IsReadEdge, IsReadInstruction, Reading}
use Rattle.clif_expansion.specs.ScriptCall.{Emit, call_allowed, can_emit, is_byte, is_second_byte, sets_bytes}
use Rattle.clif_expansion.proofs.Among.{any_leading, leading_empty, other_generated}
use Rattle.clif_expansion.proofs.JoinedStates.{inserted_read}
use Rattle.clif_expansion.proofs.Names.{same_read}
use Rattle.clif_expansion.proofs.ReadDemands.{Demand, NameTest, IsABlock, IsUnfilled, IsUnsealed, IsOutside, IsInserted, IsPristine, IsUntouched, IsAnEdge, IsForStackMaps, IsOfVariable, AsksBoth, AsksName, AsksLeading, AsksValues, AsksEdges, AsksArguments, AsksItems, AsksTargets, AsksEntries, AsksOpen, AsksLeaving, AsksTables, AsksVariables, IsReadDemand, NeitherBlames, BothAssigned, BothUsed, ReadBlame, holds, passes}
use Rattle.clif_expansion.proofs.ReadEffects.{read_demands}

-- LISTS -------------------------------------------------------------------------------------------------------------------

all_same : {X Y : Type 0} (R : X → Y → Type 0) (f : X → Bool) (g : Y → Bool) → ((x : X) (y : Y) → R x y → f x ≡ g y) → (xs : List X) (ys : List Y) → AllZip R xs ys
    → list_all f xs ≡ list_all g ys
all_same R f g each [] [] are = refl
all_same R f g each [] (y ∷ ys) are = absurd are
all_same R f g each (x ∷ xs) [] are = absurd are
all_same R f g each (x ∷ xs) (y ∷ ys) are = ap₂ (λ (a b : Bool). a && b) (each x y are.0) (all_same R f g each xs ys are.1)

-- the state of a block that is read, or none in either
abbrev IsReadSomeState : Reading → ℕ → Option BlockState → Option BlockState → Type 0
IsReadSomeState reading made None None = Unit {0}
IsReadSomeState reading made (Some state') (Some state) = IsReadState reading made state' state
IsReadSomeState reading made _ _ = ⊥

found : (reading : Reading) (made : ℕ) (f g : BlockState → Bool) → ((state' state : BlockState) → IsReadState reading made state' state → f state' ≡ g state)
    → ((state : BlockState) → IsOwnState reading state → f state ≡ false)
    → (states' states : List BlockState) → StandAmong (IsReadState reading made) (IsOwnState reading) states' states → IsReadSomeState reading made (find f states') (find g states)
found reading made f g each own [] [] NoMore = tt
found reading made f g each own [] (state ∷ states) are = elim are [ ]
found reading made f g each own (state' ∷ states') (state ∷ states) (Both a b zs ws is are) =
    by (f state') (g state) (each state' state is) (found reading made f g each own states' states are)
  where
    by : (c' c : Bool) → c' ≡ c → IsReadSomeState reading made (find f states') (find g states)
        → IsReadSomeState reading made (cond c' (Some state') (find f states')) (cond c (Some state) (find g states))
    by true true same rest = is
    by true false same rest = cc
    by false true same rest = cc
    by false false same rest = rest
found reading made f g each own (state' ∷ states') states (Own a zs ws is are) =
    subst (λ (c : Bool). IsReadSomeState reading made (cond c (Some state') (find f states')) (find g states)) (sym (own state' is)) (found reading made f g each own states' states are)

-- a test of states answers the same
has_same : (reading : Reading) (made : ℕ) (f g : BlockState → Bool) → ((state' state : BlockState) → IsReadState reading made state' state → f state' ≡ g state)
    → (state' state : Option BlockState) → IsReadSomeState reading made state' state → state_has f state' ≡ state_has g state
has_same reading made f g each None None is = refl
has_same reading made f g each (Some state') (Some state) is = each state' state is
has_same reading made f g each None (Some state) is = absurd is
has_same reading made f g each (Some state') None is = absurd is

some_same : (reading : Reading) (made : ℕ) (state' state : Option BlockState) → IsReadSomeState reading made state' state → is_some state' ≡ is_some state
some_same reading made None None is = refl
some_same reading made (Some state') (Some state) is = refl
some_same reading made None (Some state) is = absurd is
some_same reading made (Some state') None is = absurd is

-- ANSWERS -----------------------------------------------------------------------------------------------------------------

value_same : (reading : Reading) (answer' answer : Option Answered) → IsReadAnswer reading answer' answer → value_answer_type answer' ≡ value_answer_type answer
value_same reading None None is = refl
value_same reading (Some ABlock) (Some ABlock) is = refl
value_same reading (Some (AVariable v')) (Some (AVariable v)) is = refl
value_same reading (Some (AValue t')) (Some (AValue t)) is = ap (λ (ty : «Type»). Some ty) is
value_same reading (Some AnInstruction) (Some AnInstruction) is = refl
value_same reading (Some (AnEntry e' n')) (Some (AnEntry e n)) is = refl
value_same reading (Some (AnEdge edge')) (Some (AnEdge edge)) is = refl
value_same reading (Some (AJumpTable n')) (Some (AJumpTable n)) is = refl
value_same reading (Some (AnExceptionTable n')) (Some (AnExceptionTable n)) is = refl
value_same reading _ _ is = absurd is

edge_same : (reading : Reading) (answer' answer : Option Answered) → IsReadAnswer reading answer' answer → is_some (answered_edge answer') ≡ is_some (answered_edge answer)
edge_same reading None None is = refl
edge_same reading (Some ABlock) (Some ABlock) is = refl
edge_same reading (Some (AVariable v')) (Some (AVariable v)) is = refl
edge_same reading (Some (AValue t')) (Some (AValue t)) is = refl
edge_same reading (Some AnInstruction) (Some AnInstruction) is = refl
edge_same reading (Some (AnEntry e' n')) (Some (AnEntry e n)) is = refl
edge_same reading (Some (AnEdge edge')) (Some (AnEdge edge)) is = refl
edge_same reading (Some (AJumpTable n')) (Some (AJumpTable n)) is = refl
edge_same reading (Some (AnExceptionTable n')) (Some (AnExceptionTable n)) is = refl
edge_same reading _ _ is = absurd is

instruction_same : (reading : Reading) (answer' answer : Option Answered) → IsReadAnswer reading answer' answer → is_instruction_answer answer' ≡ is_instruction_answer answer
instruction_same reading None None is = refl
instruction_same reading (Some ABlock) (Some ABlock) is = refl
instruction_same reading (Some (AVariable v')) (Some (AVariable v)) is = refl
instruction_same reading (Some (AValue t')) (Some (AValue t)) is = refl
instruction_same reading (Some AnInstruction) (Some AnInstruction) is = refl
instruction_same reading (Some (AnEntry e' n')) (Some (AnEntry e n)) is = refl
instruction_same reading (Some (AnEdge edge')) (Some (AnEdge edge)) is = refl
instruction_same reading (Some (AJumpTable n')) (Some (AJumpTable n)) is = refl
instruction_same reading (Some (AnExceptionTable n')) (Some (AnExceptionTable n)) is = refl
instruction_same reading _ _ is = absurd is

-- TABLES ------------------------------------------------------------------------------------------------------------------

table_same : (reading : Reading) (tables' tables : List (Option (List (Edge Name Name)))) (k : ℕ) → AllZip (IsReadTable reading) tables' tables
    → is_some (option_and_then (λ edges. edges) (slice_get tables' k)) ≡ is_some (option_and_then (λ edges. edges) (slice_get tables k))
table_same reading [] [] k are = refl
table_same reading [] (table ∷ tables) k are = absurd are
table_same reading (table' ∷ tables') [] k are = absurd are
table_same reading (None ∷ tables') (None ∷ tables) zero are = refl
table_same reading (Some edges' ∷ tables') (Some edges ∷ tables) zero are = refl
table_same reading (None ∷ tables') (Some edges ∷ tables) zero are = absurd are.0
table_same reading (Some edges' ∷ tables') (None ∷ tables) zero are = absurd are.0
table_same reading (table' ∷ tables') (table ∷ tables) (suc k) are = table_same reading tables' tables k are.1

exception_same : (reading : Reading) (tables' tables : List (Option ExceptionTable)) (k : ℕ) → AllZip (IsReadException reading) tables' tables
    → is_some (option_and_then (λ held. held) (slice_get tables' k)) ≡ is_some (option_and_then (λ held. held) (slice_get tables k))
exception_same reading [] [] k are = refl
exception_same reading [] (table ∷ tables) k are = absurd are
exception_same reading (table' ∷ tables') [] k are = absurd are
exception_same reading (None ∷ tables') (None ∷ tables) zero are = refl
exception_same reading (Some held' ∷ tables') (Some held ∷ tables) zero are = refl
exception_same reading (None ∷ tables') (Some held ∷ tables) zero are = absurd are.0
exception_same reading (Some held' ∷ tables') (None ∷ tables) zero are = absurd are.0
exception_same reading (table' ∷ tables') (table ∷ tables) (suc k) are = exception_same reading tables' tables k are.1

-- CONDITIONS --------------------------------------------------------------------------------------------------------------

module _ (reading : Reading) (plain ledger : Ledger) (ledgers : AreJoinedLedgers reading plain ledger) (one_to_one : IsOneToOne reading) where
  abbrev made : ℕ
  made = length ledger.answers

  state_read : (x block : Name) → IsReadAs reading x block → IsReadSomeState reading made (block_state plain x) (block_state ledger block)
  state_read x block is =
      found reading made (λ state. same_name state.block x) (λ state. same_name state.block block)
      (λ state' state read. same_read reading one_to_one state'.block x state.block block read.block is)
      (λ state own. other_generated reading x state.block block is own.block)
      plain.blocks ledger.blocks ledgers.states.blocks

  tested : (f g : BlockState → Bool) → ((state' state : BlockState) → IsReadState reading made state' state → f state' ≡ g state) → (x block : Name) → IsReadAs reading x block
      → state_has f (block_state plain x) ≡ state_has g (block_state ledger block)
  tested f g each x block is = has_same reading made f g each (block_state plain x) (block_state ledger block) (state_read x block is)

  block_same : (x block : Name) → IsReadAs reading x block → has_block plain x ≡ has_block ledger block
  block_same x block is = some_same reading made (block_state plain x) (block_state ledger block) (state_read x block is)

  pub filled_same : (x block : Name) → IsReadAs reading x block → is_filled plain x ≡ is_filled ledger block
  filled_same x block is = tested (λ state. state.is_filled) (λ state. state.is_filled) (λ state' state read. read.is_filled) x block is

  sealed_same : (x block : Name) → IsReadAs reading x block → is_sealed plain x ≡ is_sealed ledger block
  sealed_same x block is = tested (λ state. state.is_sealed) (λ state. state.is_sealed) (λ state' state read. read.is_sealed) x block is

  pristine_same : (x block : Name) → IsReadAs reading x block → is_pristine plain x ≡ is_pristine ledger block
  pristine_same x block is = tested (λ state. state.is_pristine) (λ state. state.is_pristine) (λ state' state read. read.is_pristine) x block is

  led_same : (x block : Name) → IsReadAs reading x block → has_predecessors plain x ≡ has_predecessors ledger block
  led_same x block is =
      tested (λ state. not (is_empty state.predecessors)) (λ state. not (is_empty state.predecessors))
      (λ state' state read. ap not (leading_empty reading made state'.predecessors state.predecessors read.predecessors)) x block is

  leads_same : (jump branch x block : Name) → IsReadAs reading jump branch → IsReadAs reading x block → leads_to plain jump x ≡ leads_to ledger branch block
  leads_same jump branch x block by is =
      tested (λ state. list_any (same_name jump) state.predecessors) (λ state. list_any (same_name branch) state.predecessors)
      (λ state' state read. any_leading reading made one_to_one jump branch state'.predecessors state.predecessors by read.predecessors) x block is

  is_inserted_same : (x block : Name) → IsReadAs reading x block → is_inserted plain x ≡ is_inserted ledger block
  is_inserted_same x block is = inserted_read reading made one_to_one plain ledger x block ledgers.states is

  begins_same : (x block : Name) (layout' layout : List Name) → IsReadAs reading x block → IsReadLayout reading layout' layout → begins_with layout' x ≡ begins_with layout block
  begins_same x block [] [] is are = refl
  begins_same x block [] (entry ∷ layout) is are = absurd are
  begins_same x block (entry' ∷ layout') [] is are = absurd are
  begins_same x block (entry' ∷ layout') (entry ∷ layout) is are = same_read reading one_to_one entry' x entry block are.0 is

  layout_empty : (layout' layout : List Name) → IsReadLayout reading layout' layout → is_empty layout' ≡ is_empty layout
  layout_empty [] [] are = refl
  layout_empty [] (entry ∷ layout) are = absurd are
  layout_empty (entry' ∷ layout') [] are = absurd are
  layout_empty (entry' ∷ layout') (entry ∷ layout) are = refl

  unreachable_same : (x block : Name) → IsReadAs reading x block → is_unreachable plain x ≡ is_unreachable ledger block
  unreachable_same x block is =
      let layout = ledgers.states.layout in
      λ i. not (layout_empty plain.layout ledger.layout layout i) && not (begins_same x block plain.layout ledger.layout is layout i)
      && sealed_same x block is i && not (led_same x block is i)

  open_same : (current' current : Option Name) → IsReadCurrent reading plain current' current → is_open plain current' ≡ is_open ledger current
  open_same None None is = refl
  open_same (Some x) (Some block) is = ap not (filled_same x block is)
  open_same None (Some block) is = absurd is
  open_same (Some x) None is = ap not is.1.filled

  leave_same : (current' current : Option Name) → IsReadCurrent reading plain current' current → can_leave plain current' ≡ can_leave ledger current
  leave_same None None is = refl
  leave_same (Some x) (Some block) is = λ i. unreachable_same x block is i || pristine_same x block is i || filled_same x block is i
  leave_same None (Some block) is = absurd is
  leave_same (Some x) None is = ap (λ (c : Bool). is_unreachable plain x || is_pristine plain x || c) is.1.filled ∙ always (is_unreachable plain x) (is_pristine plain x)
    where
      always : (c d : Bool) → (c || d || true) ≡ true
      always true d = refl
      always false true = refl
      always false false = refl

  pub opened : is_open plain plain.current ≡ is_open ledger ledger.current
  opened = open_same plain.current ledger.current ledgers.states.current

  pub type_same : (x name : Name) → IsReadAs reading x name → type_of plain x ≡ type_of ledger name
  type_same x name is = value_same reading (answer_at plain x) (answer_at ledger name) (ledgers.answers x name is)

  pub has_value_same : (x name : Name) → IsReadAs reading x name → has_value plain x ≡ has_value ledger name
  has_value_same x name is = ap (λ (ty : Option «Type»). is_some ty) (type_same x name is)

  argument_same : (argument' argument : Argument Name) → IsReadArgument reading argument' argument → has_argument plain argument' ≡ has_argument ledger argument
  argument_same (Known x) (Known name) is = has_value_same x name is
  argument_same (CallResult k) (CallResult index) is = refl
  argument_same (CallPayload k) (CallPayload index) is = refl
  argument_same _ _ is = absurd is

  arguments_same : (edge' edge : Edge Name Name) → IsReadEdge reading edge' edge → list_all (has_argument plain) edge'.arguments ≡ list_all (has_argument ledger) edge.arguments
  arguments_same edge' edge is = all_same (IsReadArgument reading) (has_argument plain) (has_argument ledger) argument_same edge'.arguments edge.arguments is.arguments

  lead_same : (edge' edge : Edge Name Name) → IsReadEdge reading edge' edge → can_lead plain edge' ≡ can_lead ledger edge
  lead_same edge' edge is = λ i. block_same edge'.target edge.target is.target i && not (sealed_same edge'.target edge.target is.target i) && arguments_same edge' edge is i

  give_same : (entry : GivenEntry) → may_give plain entry ≡ may_give ledger entry
  give_same (ServedBy table) = table_same reading plain.jump_tables ledger.jump_tables table ledgers.states.jump_tables
  give_same (TriedBy table) = exception_same reading plain.exception_tables ledger.exception_tables table ledgers.states.exception_tables
  give_same (Imported entry) = ap (λ (tables : TableLists). has_entry tables entry) ledgers.states.tables

  gives_same : (entries : List GivenEntry) → list_all (may_give plain) entries ≡ list_all (may_give ledger) entries
  gives_same [] = refl
  gives_same (entry ∷ entries) = ap₂ (λ (a b : Bool). a && b) (give_same entry) (gives_same entries)

  values_same : (names' names : List Name) → AllZip (IsReadAs reading) names' names → list_all (has_value plain) names' ≡ list_all (has_value ledger) names
  values_same names' names are = all_same (IsReadAs reading) (has_value plain) (has_value ledger) has_value_same names' names are

  pub variable_same : (number variable : ℕ) → number ≡ variable → variable_type plain number ≡ variable_type ledger variable
  variable_same number variable is =
      ap₂ (λ (variables : List VariableState) (v : ℕ). option_map (λ (state : VariableState). state.ty) (slice_get variables v)) ledgers.states.variables is

  assign_same : (number variable : ℕ) (x value : Name) → number ≡ variable → IsReadAs reading x value
      → can_assign (variable_type plain number) (type_of plain x) ≡ can_assign (variable_type ledger variable) (type_of ledger value)
  assign_same number variable x value same is = ap₂ can_assign (variable_same number variable same) (type_same x value is)

  named_same : (x name : Name) → IsReadAs reading x name → is_some (edge_named plain x) ≡ is_some (edge_named ledger name)
  named_same x name is = edge_same reading (answer_at plain x) (answer_at ledger name) (ledgers.answers x name is)

  edges_same : (names' names : List Name) → AllZip (IsReadAs reading) names' names → list_all (λ name. is_some (edge_named plain name)) names' ≡ list_all (λ name. is_some (edge_named ledger name)) names
  edges_same names' names are =
      all_same (IsReadAs reading) (λ name. is_some (edge_named plain name)) (λ name. is_some (edge_named ledger name))
      named_same names' names are

  item_same : (item' item : TableItem) → IsReadTableItem reading item' item → has_item plain item' ≡ has_item ledger item
  item_same (TagTo tag' x) (TagTo tag edge) is = named_same x edge is.1
  item_same (DefaultTo x) (DefaultTo edge) is = named_same x edge is
  item_same (InContext x) (InContext value) is = has_value_same x value is
  item_same _ _ is = absurd is

  -- the second operand is a byte under both names
  byte_same : (names' names : List Name) → AllZip (IsReadAs reading) names' names → is_second_byte plain names' ≡ is_second_byte ledger names
  byte_same [] [] is = refl
  byte_same (x ∷ []) (name ∷ []) is = refl
  byte_same (x ∷ y ∷ names') (name ∷ other ∷ names) is = ap is_byte (type_same y other is.1.0)
  byte_same [] (name ∷ names) is = absurd is
  byte_same (x ∷ names') [] is = absurd is
  byte_same (x ∷ []) (name ∷ other ∷ names) is = absurd is.1
  byte_same (x ∷ y ∷ names') (name ∷ []) is = absurd is.1

  -- an instruction that only scripts have may be emitted under both names
  pub emission_same : (imports' imports : List TableEntry) (instruction' instruction : Instruction Name Name) → IsReadInstruction reading instruction' instruction
      → call_allowed plain (Emit imports' instruction') ≡ call_allowed ledger (Emit imports instruction)
  emission_same imports' imports instruction' instruction is =
      let operands = values_same instruction'.operands instruction.operands is.operands in
      let contexts = values_same instruction'.contexts instruction.contexts is.contexts in
      let edges = all_same (IsReadEdge reading) (can_lead plain) (can_lead ledger) lead_same instruction'.edges instruction.edges is.edges in
      let byte = byte_same instruction'.operands instruction.operands is.operands in
      λ i. contexts i && (if sets_bytes (is.operation i) then byte i else true) && opened i && operands i && edges i && can_emit (is.operation i) (is.controlling i)

  -- a test of a name answers the same
  passes_same : (test : NameTest) (x name : Name) → IsReadAs reading x name → passes plain test x ≡ passes ledger test name
  passes_same IsABlock x block is = block_same x block is
  passes_same IsUnfilled x block is = λ i. block_same x block is i && not (filled_same x block is i)
  passes_same IsUnsealed x block is = λ i. block_same x block is i && not (sealed_same x block is i)
  passes_same IsOutside x block is = λ i. block_same x block is i && not (is_inserted_same x block is i)
  passes_same IsInserted x block is = is_inserted_same x block is
  passes_same IsPristine x block is = pristine_same x block is
  passes_same IsUntouched x block is = λ i. pristine_same x block is i && not (led_same x block is i)
  passes_same IsAnEdge x name is = named_same x name is
  passes_same IsForStackMaps x value is = λ i. has_value_same x value is i && fits_stack_map (or_invalid (type_same x value is i))
  passes_same (IsOfVariable variable) x value is = assign_same variable variable x value refl is

  leading_same : (jump branch x block : Name) → IsReadAs reading jump branch → IsReadAs reading x block → holds plain (AsksLeading jump x) ≡ holds ledger (AsksLeading branch block)
  leading_same jump branch x block by is =
      let branches = instruction_same reading (answer_at plain jump) (answer_at ledger branch) (ledgers.answers jump branch by) in
      λ i. branches i && leads_same jump branch x block by is i && not (sealed_same x block is i)

  -- and so does a demand
  demand_same : (demand' demand : Demand) → IsReadDemand reading demand' demand → holds plain demand' ≡ holds ledger demand
  demand_same (AsksBoth first' second') (AsksBoth first second) is = ap₂ (λ (a b : Bool). a && b) (demand_same first' first is.0) (demand_same second' second is.1)
  demand_same (AsksName test' x) (AsksName test name) is = ap (λ (t : NameTest). passes plain t x) is.0 ∙ passes_same test x name is.1
  demand_same (AsksLeading jump x) (AsksLeading branch block) is = leading_same jump branch x block is.0 is.1
  demand_same (AsksValues names') (AsksValues names) is = values_same names' names is
  demand_same (AsksEdges names') (AsksEdges names) is = edges_same names' names is
  demand_same (AsksArguments arguments') (AsksArguments arguments) is = all_same (IsReadArgument reading) (has_argument plain) (has_argument ledger) argument_same arguments' arguments is
  demand_same (AsksItems items') (AsksItems items) is = all_same (IsReadTableItem reading) (has_item plain) (has_item ledger) item_same items' items is
  demand_same (AsksTargets edges') (AsksTargets edges) is = all_same (IsReadEdge reading) (can_lead plain) (can_lead ledger) lead_same edges' edges is
  demand_same (AsksEntries entries') (AsksEntries entries) is =
      ap (λ (es : List GivenEntry). may_give_all plain es) is ∙ ap (λ (each : Bool). tables_differ entries && each) (gives_same entries)
  demand_same (AsksOpen asks') (AsksOpen asks) is = λ i. if is i then opened i else true
  demand_same AsksLeaving AsksLeaving is = leave_same plain.current ledger.current ledgers.states.current
  demand_same (AsksTables test') (AsksTables test) is = ap₂ (λ (t : TableLists → Bool) (tables : TableLists). t tables) is ledgers.states.tables
  demand_same (AsksVariables test') (AsksVariables test) is = ap₂ (λ (t : List VariableState → Bool) (states : List VariableState). t states) is ledgers.states.variables
  demand_same _ _ is = absurd is

  allowed : (asked request : Request) → IsReadRequest reading asked request → allows plain asked ≡ allows ledger request
  allowed asked request is =
      let demands = read_demands reading asked request is in
      demands.asks' plain ∙ demand_same demands.plain demands.script demands.reads ∙ sym (demands.asks ledger)

  blamed_so : (asked request : Request) → ReadBlame reading asked request → blames_variable plain asked ≡ blames_variable ledger request
  blamed_so asked request (NeitherBlames a r none' none) = none' plain ∙ sym (none ledger)
  blamed_so asked request (BothAssigned number variable x value same is) = λ i. opened i && has_value_same x value is i && not (assign_same number variable x value same is i)
  blamed_so asked request (BothUsed number variable is) = λ i. opened i && not (is_some (variable_same number variable is i))

  blamed : (asked request : Request) → IsReadRequest reading asked request → blames_variable plain asked ≡ blames_variable ledger request
  blamed asked request is = blamed_so asked request (read_demands reading asked request is).blame

  unfinished_read : (state' state : Option BlockState) → IsReadSomeState reading made state' state → IsReadRefusal reading (unfinished state') (unfinished state)
  unfinished_read None None is = tt
  unfinished_read (Some state') (Some state) is = by state'.is_sealed state.is_sealed is.is_sealed
    where
      by : (c' c : Bool) → c' ≡ c → IsReadRefusal reading (Some (if c' then Unfilled state'.block else Unsealed state'.block)) (Some (if c then Unfilled state.block else Unsealed state.block))
      by true true same = is.block
      by true false same = cc
      by false true same = cc
      by false false same = is.block
  unfinished_read None (Some state) is = absurd is
  unfinished_read (Some state') None is = absurd is

  finished_same : (state' state : BlockState) → IsReadState reading made state' state → is_unfinished state' ≡ is_unfinished state
  finished_same state' state read = λ i. not (read.is_pristine i) && not (read.is_sealed i && read.is_filled i)

  own_finished : (state : BlockState) → IsOwnState reading state → is_unfinished state ≡ false
  own_finished state own =
      (λ i. not state.is_pristine && not (own.is_sealed i && own.is_filled i)) ∙ never state.is_pristine
    where
      never : (c : Bool) → (not c && false) ≡ false
      never true = refl
      never false = refl

  refused : (asked request : Request) → IsReadRequest reading asked request → IsReadRefusal reading (refusal_of plain asked) (refusal_of ledger request)
  refused Finalize Finalize is =
      unfinished_read (find is_unfinished plain.blocks) (find is_unfinished ledger.blocks)
      (found reading made is_unfinished is_unfinished finished_same own_finished plain.blocks ledger.blocks ledgers.states.blocks)
  refused Finalize _ is = absurd is
  refused _ Finalize is = absurd is
  refused _ _ is = tt

pub conditions_are_read : ConditionsAreRead
conditions_are_read = record {
  allowed = λ reading plain ledger asked request ledgers one_to_one is. allowed reading plain ledger ledgers one_to_one asked request is;
  blamed = λ reading plain ledger asked request ledgers one_to_one is. blamed reading plain ledger ledgers one_to_one asked request is;
  refused = λ reading plain ledger asked request ledgers one_to_one is. refused reading plain ledger ledgers one_to_one asked request is;
}
