-- What a request asks of the ledger before it may be made: demands, of a few kinds. With its names read it asks the same demands, on names
-- that are read. Laws of the conditions on requests go over the kinds of demands, and over no requests.
use Rattle.std.proofs.Common.{◌≡◌, ℕ, Bool, true, false, ◌&&◌, List, refl}
use Rattle.std.specs.Prelude.{if◌then◌else◌, is_some, not, option_map, slice_get}
use Rattle.std.specs.List.{AllZip, list_all}
use Rattle.clif_instructions.specs.Instruction.{ASignatureRef}
use Rattle.clif_types.specs.Types.{is_type}
use Rattle.clif_types.specs.declared.types.«Type».{«Type»}
use Rattle.clif_tables.specs.Entries.{TableEntry}
use Rattle.clif_tables.specs.Lists.{TableLists}
use Rattle.clif_meaning.specs.Acceptance.{allows, blames_variable, can_assign, can_lead, can_leave, can_make, can_operate, fits_stack_map, has_argument, has_entry, has_item, is_open, may_give_all, may_mark}
use Rattle.clif_meaning.specs.Instruction.{Argument, Edge, Operation, operation_entries}
use Rattle.clif_meaning.specs.Ledger.{Ledger, VariableState, edge_named, has_block, has_instruction, has_predecessors, has_value, is_filled, is_inserted, is_pristine, is_sealed, leads_to, or_invalid, type_of, variable_type}
use Rattle.clif_meaning.specs.Name.{Name}
use Rattle.clif_meaning.specs.Request.{Request, DefVar, UseVar, GivenEntry, TableItem}
use Rattle.clif_expansion.specs.Joining.{IsReadRequest, IsReadTableItem}
use Rattle.clif_expansion.specs.Reading.{IsReadArgument, IsReadAs, IsReadEdge, Reading}

-- DEMANDS -----------------------------------------------------------------------------------------------------------------

-- what is asked of one name
pub data NameTest : Type 0 where
  -- a block is there; and isn't filled, or sealed, or in the layout
  IsABlock IsUnfilled IsUnsealed IsOutside : NameTest
  -- a block is in the layout
  IsInserted : NameTest
  -- nothing was made in a block; and nothing leads to it
  IsPristine IsUntouched : NameTest
  -- an edge
  IsAnEdge : NameTest
  -- a value for which a stack map has room
  IsForStackMaps : NameTest
  -- a value of the variable's type
  IsOfVariable : (variable : ℕ) → NameTest

abbrev pub passes : Ledger → NameTest → Name → Bool
passes ledger IsABlock block = has_block ledger block
passes ledger IsUnfilled block = has_block ledger block && not (is_filled ledger block)
passes ledger IsUnsealed block = has_block ledger block && not (is_sealed ledger block)
passes ledger IsOutside block = has_block ledger block && not (is_inserted ledger block)
passes ledger IsInserted block = is_inserted ledger block
passes ledger IsPristine block = is_pristine ledger block
passes ledger IsUntouched block = is_pristine ledger block && not (has_predecessors ledger block)
passes ledger IsAnEdge name = is_some (edge_named ledger name)
passes ledger IsForStackMaps name = has_value ledger name && fits_stack_map (or_invalid (type_of ledger name))
passes ledger (IsOfVariable variable) name = can_assign (variable_type ledger variable) (type_of ledger name)

pub data Demand : Type 0 where
  AsksBoth : (first second : Demand) → Demand
  AsksName : NameTest → Name → Demand
  -- a branch leads to a block that isn't sealed
  AsksLeading : (branch block : Name) → Demand
  -- lists of what is there: values, edges, operands of edges, items of exception tables, and edges to blocks that aren't sealed
  AsksValues : List Name → Demand
  AsksEdges : List Name → Demand
  AsksArguments : List (Argument Name) → Demand
  AsksItems : List TableItem → Demand
  AsksTargets : List (Edge Name Name) → Demand
  -- entries that may be given
  AsksEntries : List GivenEntry → Demand
  -- the current block is open, if that is asked, or can be left
  AsksOpen : Bool → Demand
  AsksLeaving : Demand
  -- what the tables or the variables alone say
  AsksTables : (TableLists → Bool) → Demand
  AsksVariables : (List VariableState → Bool) → Demand

abbrev pub holds : Ledger → Demand → Bool
holds ledger (AsksBoth first second) = holds ledger first && holds ledger second
holds ledger (AsksName test name) = passes ledger test name
holds ledger (AsksLeading branch block) = has_instruction ledger branch && leads_to ledger branch block && not (is_sealed ledger block)
holds ledger (AsksValues names) = list_all (has_value ledger) names
holds ledger (AsksEdges names) = list_all (λ name. is_some (edge_named ledger name)) names
holds ledger (AsksArguments arguments) = list_all (has_argument ledger) arguments
holds ledger (AsksItems items) = list_all (has_item ledger) items
holds ledger (AsksTargets edges) = list_all (can_lead ledger) edges
holds ledger (AsksEntries entries) = may_give_all ledger entries
holds ledger (AsksOpen asks) = if asks then is_open ledger ledger.current else true
holds ledger AsksLeaving = can_leave ledger ledger.current
holds ledger (AsksTables test) = test ledger.tables
holds ledger (AsksVariables test) = test ledger.variables

-- nothing is asked
abbrev pub asks_nothing : Demand
asks_nothing = AsksTables (λ tables. true)

-- the demand with its names read
abbrev pub IsReadDemand : Reading → (plain demand : Demand) → Type 0
IsReadDemand reading (AsksBoth first' second') (AsksBoth first second) = IsReadDemand reading first' first × IsReadDemand reading second' second
IsReadDemand reading (AsksName test' x) (AsksName test name) = (test' ≡ test) × IsReadAs reading x name
IsReadDemand reading (AsksLeading jump x) (AsksLeading branch block) = IsReadAs reading jump branch × IsReadAs reading x block
IsReadDemand reading (AsksValues names') (AsksValues names) = AllZip (IsReadAs reading) names' names
IsReadDemand reading (AsksEdges names') (AsksEdges names) = AllZip (IsReadAs reading) names' names
IsReadDemand reading (AsksArguments arguments') (AsksArguments arguments) = AllZip (IsReadArgument reading) arguments' arguments
IsReadDemand reading (AsksItems items') (AsksItems items) = AllZip (IsReadTableItem reading) items' items
IsReadDemand reading (AsksTargets edges') (AsksTargets edges) = AllZip (IsReadEdge reading) edges' edges
IsReadDemand reading (AsksEntries entries') (AsksEntries entries) = entries' ≡ entries
IsReadDemand reading (AsksOpen asks') (AsksOpen asks) = asks' ≡ asks
IsReadDemand reading AsksLeaving AsksLeaving = Unit {0}
IsReadDemand reading (AsksTables test') (AsksTables test) = test' ≡ test
IsReadDemand reading (AsksVariables test') (AsksVariables test) = test' ≡ test
IsReadDemand reading _ _ = ⊥

-- WHOM A REFUSAL BLAMES ---------------------------------------------------------------------------------------------------

pub data ReadBlame (reading : Reading) : (asked request : Request) → Type 0 where
  NeitherBlames : (asked request : Request) → ((ledger : Ledger) → blames_variable ledger asked ≡ false) → ((ledger : Ledger) → blames_variable ledger request ≡ false)
      → ReadBlame reading asked request
  BothAssigned : (number variable : ℕ) (x value : Name) → number ≡ variable → IsReadAs reading x value → ReadBlame reading (DefVar number x) (DefVar variable value)
  BothUsed : (number variable : ℕ) → number ≡ variable → ReadBlame reading (UseVar number) (UseVar variable)

-- REQUESTS ----------------------------------------------------------------------------------------------------------------

-- The demands of a request and of the request with its names read; where names of the demands are read in another reading, so are those
-- of the request.
pub record ReadDemands (wide : Reading) (asked request : Request) : Type 0 where
  pub plain : Demand
  pub script : Demand
  pub asks' : (ledger : Ledger) → allows ledger asked ≡ holds ledger plain
  pub asks : (ledger : Ledger) → allows ledger request ≡ holds ledger script
  pub reads : IsReadDemand wide plain script
  pub again : (reading : Reading) → IsReadDemand reading plain script → IsReadRequest reading asked request
  pub blame : ReadBlame wide asked request

-- what variables say: one is declared, and one may be marked
abbrev pub declares : ℕ → List VariableState → Bool
declares variable states = is_some (option_map (λ (state : VariableState). state.ty) (slice_get states variable))

abbrev pub may_mark_one : ℕ → List VariableState → Bool
may_mark_one variable states = may_mark (slice_get states variable)

-- what tables say: it is a type, whatever they hold, an entry may be made, a signature was imported, an operation may be built at the type,
-- and the entries that it names were made
abbrev pub has_type : «Type» → TableLists → Bool
has_type ty tables = is_type ty

abbrev pub makes : TableEntry → TableLists → Bool
makes entry tables = can_make tables entry

abbrev pub has_signature : ℕ → TableLists → Bool
has_signature signature tables = has_entry tables (ASignatureRef signature)

abbrev pub operates : Operation → «Type» → TableLists → Bool
operates operation ty tables = can_operate operation ty

abbrev pub has_entries : Operation → TableLists → Bool
has_entries operation tables = list_all (has_entry tables) (operation_entries operation)

pub two_last : (a b c : Bool) → ((a && b) && c) ≡ (a && (b && c))
two_last true b c = refl
two_last false b c = refl
