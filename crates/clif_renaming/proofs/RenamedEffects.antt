-- What a call and the same call with its names renamed do and ask: a few effects, which both have, and a few kinds of conditions
-- serve all calls. Laws of a call beside its renaming are by these, so that a new call needs its rows here, and none there.
use Rattle.std.proofs.Common.{◌≡◌, ℕ, Bool, true, not, List, [], ◌∷◌, ◌++◌, map, refl, ap, Option}
use Rattle.std.specs.Prelude.{◌&&◌, if◌then◌else◌, is_some, length, nat_lt, option_map, slice_get}
use Rattle.std.specs.List.{list_all}
use Rattle.clif_types.specs.Types.{is_type}
use Rattle.clif_types.specs.declared.types.«Type».{«Type»}
use Rattle.clif_tables.specs.Entries.{with_entry}
use Rattle.clif_tables.specs.Lists.{TableLists}
use Rattle.clif_meaning.specs.Acceptance.{allows, can_assign, can_lead, can_leave, can_make, can_operate, fits_stack_map, has_argument, has_entry, has_item, is_open, may_give, may_mark, tables_differ}
use Rattle.clif_meaning.specs.Instruction.{Argument, Edge, Instruction, operation_entries}
use Rattle.clif_meaning.specs.Ledger.{BlockState, Ledger, VariableState, block_state, changed_by, edge_named, has_block, has_instruction, has_value, is_empty, is_inserted, is_sealed, leads_to, new_variable, or_invalid, state_has, touched_at, type_of, with_begun, with_cold_mark, with_need, with_parameter_types, with_state}
use Rattle.clif_meaning.specs.Name.{Name}
use Rattle.clif_meaning.specs.Program.{Program, answers_from, extended, with_inserted, with_parameters, with_redirected}
use Rattle.clif_meaning.specs.Request.{Request, CreateBlock, SwitchToBlock, SealBlock, SealAllBlocks, InsertBlockAfter, SetColdBlock, EnsureInsertedBlock, AppendBlockParams, AppendFunctionParams, DeclareVar, DefVar, UseVar, MakeEntry, MakeEdge, MakeJumpTable, MakeExceptionTable, Annotate, NeedStackMap, Build, GivenEntry, ChangeJumpDestination, Finalize, StackMapNeed, OfVariable, OfValue, TableItem}
use Rattle.clif_renaming.specs.Renaming.{renamed_argument, renamed_edge}
use Rattle.clif_renaming.specs.Sealing.{is_sealing, renamed_item, renamed_need, renamed_request}

-- CALLS THAT SEAL -------------------------------------------------------------------------------------------------------

-- which calls seal
pub data Seals (request : Request) : Type 0 where
  SealsOne : (block : Name) → request ≡ SealBlock block → Seals request
  SealsAll : request ≡ SealAllBlocks → Seals request

pub sealing_is : (request : Request) → is_sealing request ≡ true → Seals request
sealing_is (SealBlock block) seals = SealsOne block refl
sealing_is SealAllBlocks seals = SealsAll refl
sealing_is _ seals = let none : ⊥ = cc in absurd none

-- THE PROGRAM -----------------------------------------------------------------------------------------------------------

pub data RenamedProgramEffect (rename : Name → Name) (request : Request) : Type 0 where
  -- both add nothing
  BothLeave : ((program : Program) → extended program request ≡ program) → ((program : Program) → extended program (renamed_request rename request) ≡ program)
      → RenamedProgramEffect rename request
  -- the current block comes into the layout
  BothInsert : ((program : Program) → extended program request ≡ with_inserted program) → ((program : Program) → extended program (renamed_request rename request) ≡ with_inserted program)
      → RenamedProgramEffect rename request
  -- parameters of the caller's
  BothTake : (block : Name) (types : List «Type»)
      → ((program : Program) → extended program request ≡ with_parameters program block (answers_from program.place 0 types))
      → ((program : Program) → extended program (renamed_request rename request) ≡ with_parameters program (rename block) (answers_from program.place 0 types))
      → RenamedProgramEffect rename request
  BothSwitch : (block : Name) → request ≡ SwitchToBlock block → RenamedProgramEffect rename request
  -- an item of the current block
  BothAssign : (variable : ℕ) (value : Name) → request ≡ DefVar variable value → RenamedProgramEffect rename request
  BothUse : (variable : ℕ) → request ≡ UseVar variable → RenamedProgramEffect rename request
  BothBuild : (entries : List GivenEntry) (instruction : Instruction Name Name) → request ≡ Build entries instruction → RenamedProgramEffect rename request
  -- edges of items lead elsewhere
  BothRedirect : (branch from to : Name)
      → ((program : Program) → extended program request ≡ with_redirected program branch from to)
      → ((program : Program) → extended program (renamed_request rename request) ≡ with_redirected program (rename branch) (rename from) (rename to))
      → RenamedProgramEffect rename request

pub renamed_program_effect : (rename : Name → Name) (request : Request) → RenamedProgramEffect rename request
renamed_program_effect rename EnsureInsertedBlock = BothInsert (λ program. refl) (λ program. refl)
renamed_program_effect rename (AppendBlockParams block types) = BothTake block types (λ program. refl) (λ program. refl)
renamed_program_effect rename (AppendFunctionParams block types) = BothTake block types (λ program. refl) (λ program. refl)
renamed_program_effect rename (SwitchToBlock block) = BothSwitch block refl
renamed_program_effect rename (DefVar variable value) = BothAssign variable value refl
renamed_program_effect rename (UseVar variable) = BothUse variable refl
renamed_program_effect rename (Build entries instruction) = BothBuild entries instruction refl
renamed_program_effect rename (ChangeJumpDestination branch from to) = BothRedirect branch from to (λ program. refl) (λ program. refl)
-- the others add nothing
renamed_program_effect rename _ = BothLeave (λ program. refl) (λ program. refl)

-- THE LEDGER ------------------------------------------------------------------------------------------------------------

-- the state with its names renamed, and sealed or not
abbrev pub renamed_state : (Name → Name) → Bool → BlockState → BlockState
renamed_state rename is_sealed state = record {
  block = rename state.block;
  parameters = state.parameters;
  is_pristine = state.is_pristine;
  is_filled = state.is_filled;
  is_sealed = is_sealed;
  is_cold = state.is_cold;
  predecessors = map rename state.predecessors;
}

-- two changes of states that keep names and filled blocks, and of which one changes a renamed state as the other one the state
pub record ChangesAlike (rename : Name → Name) (change renamed : BlockState → BlockState) : Type 0 where
  pub name : (state : BlockState) → (change state).block ≡ state.block
  pub filled : (state : BlockState) → (change state).is_filled ≡ state.is_filled
  pub renamed_name : (state : BlockState) → (renamed state).block ≡ state.block
  pub renamed_filled : (state : BlockState) → (renamed state).is_filled ≡ state.is_filled
  pub along : (is_sealed : Bool) (state : BlockState) → renamed (renamed_state rename is_sealed state) ≡ renamed_state rename is_sealed (change state)

pub data RenamedLedgerEffect (rename : Name → Name) (request : Request) : Type 0 where
  -- their answers aside, both change variables and tables alike, or nothing
  BothList : (variables : List VariableState → List VariableState) (tables : TableLists → TableLists)
      → ((ledger : Ledger) → changed_by ledger request ≡ record ledger { variables = variables ledger.variables; tables = tables ledger.tables })
      → ((ledger : Ledger) → changed_by ledger (renamed_request rename request) ≡ record ledger { variables = variables ledger.variables; tables = tables ledger.tables })
      → RenamedLedgerEffect rename request
  -- the state of one block
  BothChange : (block : Name) (change renamed : BlockState → BlockState) → ChangesAlike rename change renamed
      → ((ledger : Ledger) → changed_by ledger request ≡ with_state ledger block change)
      → ((ledger : Ledger) → changed_by ledger (renamed_request rename request) ≡ with_state ledger (rename block) renamed)
      → RenamedLedgerEffect rename request
  -- something is made in the current block, and variables change alike
  BothBegin : (variables : List VariableState → List VariableState)
      → ((ledger : Ledger) → changed_by ledger request ≡ record (with_begun ledger) { variables = variables (with_begun ledger).variables })
      → ((ledger : Ledger) → changed_by ledger (renamed_request rename request) ≡ record (with_begun ledger) { variables = variables (with_begun ledger).variables })
      → RenamedLedgerEffect rename request
  BothSeal : is_sealing request ≡ true → is_sealing (renamed_request rename request) ≡ true → RenamedLedgerEffect rename request
  BothCreate : request ≡ CreateBlock → RenamedLedgerEffect rename request
  BothEnter : (block : Name) → request ≡ SwitchToBlock block → RenamedLedgerEffect rename request
  -- the order of the layout
  BothInsertAfter : (block after : Name) → request ≡ InsertBlockAfter block after → RenamedLedgerEffect rename request
  -- a table of edges that are named
  BothMakeJumpTable : (default : Name) (entries : List Name) → request ≡ MakeJumpTable default entries → RenamedLedgerEffect rename request
  BothMakeExceptionTable : (signature : ℕ) (normal : Name) (items : List TableItem) → request ≡ MakeExceptionTable signature normal items → RenamedLedgerEffect rename request
  BothAppend : (entries : List GivenEntry) (instruction : Instruction Name Name) → request ≡ Build entries instruction → RenamedLedgerEffect rename request
  -- what leads to blocks
  BothChangeJump : (branch from to : Name) → request ≡ ChangeJumpDestination branch from to → RenamedLedgerEffect rename request

-- what stack maps are asked to name marks variables by their numbers alone
needed_alike : (rename : Name → Name) (need : StackMapNeed) (states : List VariableState) → with_need (renamed_need rename need) states ≡ with_need need states
needed_alike rename (OfVariable variable) states = refl
needed_alike rename (OfValue value) states = refl

colds : (rename : Name → Name) → ChangesAlike rename with_cold_mark with_cold_mark
colds rename = record { name = λ state. refl; filled = λ state. refl; renamed_name = λ state. refl; renamed_filled = λ state. refl; along = λ is_sealed state. refl }

takes : (rename : Name → Name) (types : List «Type») → ChangesAlike rename (with_parameter_types types) (with_parameter_types types)
takes rename types = record { name = λ state. refl; filled = λ state. refl; renamed_name = λ state. refl; renamed_filled = λ state. refl; along = λ is_sealed state. refl }

pub renamed_ledger_effect : (rename : Name → Name) (request : Request) → RenamedLedgerEffect rename request
renamed_ledger_effect rename CreateBlock = BothCreate refl
renamed_ledger_effect rename (SwitchToBlock block) = BothEnter block refl
renamed_ledger_effect rename (SealBlock block) = BothSeal refl refl
renamed_ledger_effect rename SealAllBlocks = BothSeal refl refl
renamed_ledger_effect rename (InsertBlockAfter block after) = BothInsertAfter block after refl
renamed_ledger_effect rename (SetColdBlock block) = BothChange block with_cold_mark with_cold_mark (colds rename) (λ ledger. refl) (λ ledger. refl)
renamed_ledger_effect rename EnsureInsertedBlock = BothBegin (λ states. states) (λ ledger. refl) (λ ledger. refl)
renamed_ledger_effect rename (AppendBlockParams block types) =
    BothChange block (with_parameter_types types) (with_parameter_types types) (takes rename types) (λ ledger. refl) (λ ledger. refl)
renamed_ledger_effect rename (AppendFunctionParams block types) =
    BothChange block (with_parameter_types types) (with_parameter_types types) (takes rename types) (λ ledger. refl) (λ ledger. refl)
renamed_ledger_effect rename (DeclareVar ty) = BothList (λ states. states ++ new_variable ty ∷ []) (λ tables. tables) (λ ledger. refl) (λ ledger. refl)
renamed_ledger_effect rename (DefVar variable value) = BothList (touched_at variable) (λ tables. tables) (λ ledger. refl) (λ ledger. refl)
renamed_ledger_effect rename (UseVar variable) = BothBegin (touched_at variable) (λ ledger. refl) (λ ledger. refl)
renamed_ledger_effect rename (MakeEntry entry) = BothList (λ states. states) (λ tables. with_entry tables entry) (λ ledger. refl) (λ ledger. refl)
renamed_ledger_effect rename (MakeJumpTable default entries) = BothMakeJumpTable default entries refl
renamed_ledger_effect rename (MakeExceptionTable signature normal items) = BothMakeExceptionTable signature normal items refl
renamed_ledger_effect rename (NeedStackMap need) =
    BothList (with_need need) (λ tables. tables) (λ ledger. refl)
    (λ ledger. ap (λ (states : List VariableState). record ledger { variables = states }) (needed_alike rename need ledger.variables))
renamed_ledger_effect rename (Build entries instruction) = BothAppend entries instruction refl
renamed_ledger_effect rename (ChangeJumpDestination branch from to) = BothChangeJump branch from to refl
-- the others change nothing
renamed_ledger_effect rename _ = BothList (λ states. states) (λ tables. tables) (λ ledger. refl) (λ ledger. refl)

-- CONDITIONS ------------------------------------------------------------------------------------------------------------

-- What a call asks, of a few kinds: the condition of each call is made of these, and a renamed call asks the same of renamed names.
pub data Condition : Type 0 where
  -- of variables and tables, in which are no names
  OfLists : (test : List VariableState → TableLists → Bool) → Condition
  And : Condition → Condition → Condition
  Not : Condition → Condition
  Where : (test : Bool) → Condition → Condition
  HasBlock : (block : Name) → Condition
  -- of a block: whether it is pristine, whether it is filled, and whether branches lead to it
  OfBlock : (block : Name) (test : Bool → Bool → Bool → Bool) → Condition
  IsUnsealed : (block : Name) → Condition
  IsInserted : (block : Name) → Condition
  -- the current block isn't filled, or can be left
  IsOpen : Condition
  CanLeave : Condition
  -- of variables, and of the type of a value
  OfType : (value : Name) (test : List VariableState → Option «Type» → Bool) → Condition
  HasValues : (values : List Name) → Condition
  HasArguments : (arguments : List (Argument Name)) → Condition
  HasEdge : (edge : Name) → Condition
  HasEdges : (edges : List Name) → Condition
  HasItems : (items : List TableItem) → Condition
  MayGive : (entries : List GivenEntry) → Condition
  CanLead : (edges : List (Edge Name Name)) → Condition
  HasInstruction : (branch : Name) → Condition
  LeadsTo : (branch block : Name) → Condition

abbrev pub meets : Ledger → Condition → Bool
meets ledger (OfLists test) = test ledger.variables ledger.tables
meets ledger (And one other) = meets ledger one && meets ledger other
meets ledger (Not condition) = not (meets ledger condition)
meets ledger (Where test condition) = if test then meets ledger condition else true
meets ledger (HasBlock block) = has_block ledger block
meets ledger (OfBlock block test) = state_has (λ state. test state.is_pristine state.is_filled (not (is_empty state.predecessors))) (block_state ledger block)
meets ledger (IsUnsealed block) = not (is_sealed ledger block)
meets ledger (IsInserted block) = is_inserted ledger block
meets ledger IsOpen = is_open ledger ledger.current
meets ledger CanLeave = can_leave ledger ledger.current
meets ledger (OfType value test) = test ledger.variables (type_of ledger value)
meets ledger (HasValues values) = list_all (has_value ledger) values
meets ledger (HasArguments arguments) = list_all (has_argument ledger) arguments
meets ledger (HasEdge edge) = is_some (edge_named ledger edge)
meets ledger (HasEdges edges) = list_all (λ name. is_some (edge_named ledger name)) edges
meets ledger (HasItems items) = list_all (has_item ledger) items
meets ledger (MayGive entries) = list_all (may_give ledger) entries
meets ledger (CanLead edges) = list_all (can_lead ledger) edges
meets ledger (HasInstruction branch) = has_instruction ledger branch
meets ledger (LeadsTo branch block) = leads_to ledger branch block

abbrev pub renamed_condition : (Name → Name) → Condition → Condition
renamed_condition rename (OfLists test) = OfLists test
renamed_condition rename (And one other) = And (renamed_condition rename one) (renamed_condition rename other)
renamed_condition rename (Not condition) = Not (renamed_condition rename condition)
renamed_condition rename (Where test condition) = Where test (renamed_condition rename condition)
renamed_condition rename (HasBlock block) = HasBlock (rename block)
renamed_condition rename (OfBlock block test) = OfBlock (rename block) test
renamed_condition rename (IsUnsealed block) = IsUnsealed (rename block)
renamed_condition rename (IsInserted block) = IsInserted (rename block)
renamed_condition rename IsOpen = IsOpen
renamed_condition rename CanLeave = CanLeave
renamed_condition rename (OfType value test) = OfType (rename value) test
renamed_condition rename (HasValues values) = HasValues (map rename values)
renamed_condition rename (HasArguments arguments) = HasArguments (map (renamed_argument rename) arguments)
renamed_condition rename (HasEdge edge) = HasEdge (rename edge)
renamed_condition rename (HasEdges edges) = HasEdges (map rename edges)
renamed_condition rename (HasItems items) = HasItems (map (renamed_item rename) items)
renamed_condition rename (MayGive entries) = MayGive entries
renamed_condition rename (CanLead edges) = CanLead (map (renamed_edge rename) edges)
renamed_condition rename (HasInstruction branch) = HasInstruction (rename branch)
renamed_condition rename (LeadsTo branch block) = LeadsTo (rename branch) (rename block)

-- it asks nothing
abbrev always : Condition
always = OfLists (λ variables tables. true)

abbrev is_pristine_block : Name → Condition
is_pristine_block block = OfBlock block (λ pristine filled led. pristine)

abbrev type_among : List VariableState → ℕ → Option «Type»
type_among variables variable = option_map (λ state. state.ty) (slice_get variables variable)

-- what each kind of call asks
abbrev pub condition_of : Request → Condition
condition_of CreateBlock = always
condition_of (SwitchToBlock block) = And (And (HasBlock block) (Not (OfBlock block (λ pristine filled led. filled)))) CanLeave
condition_of (SealBlock block) = And (HasBlock block) (IsUnsealed block)
condition_of SealAllBlocks = always
condition_of (InsertBlockAfter block after) = And (And (HasBlock block) (Not (IsInserted block))) (IsInserted after)
condition_of (SetColdBlock block) = HasBlock block
condition_of EnsureInsertedBlock = IsOpen
condition_of (AppendBlockParams block types) = is_pristine_block block
condition_of (AppendFunctionParams block types) = And (is_pristine_block block) (Not (OfBlock block (λ pristine filled led. led)))
condition_of (DeclareVar ty) = OfLists (λ variables tables. is_type ty)
condition_of (DefVar variable value) = And IsOpen (OfType value (λ variables ty. can_assign (type_among variables variable) ty))
condition_of (UseVar variable) = And IsOpen (OfLists (λ variables tables. is_some (type_among variables variable)))
condition_of (MakeEntry entry) = OfLists (λ variables tables. can_make tables entry)
condition_of (MakeEdge edge) = And (HasBlock edge.target) (HasArguments edge.arguments)
condition_of (MakeJumpTable default entries) = HasEdges (default ∷ entries)
condition_of (MakeExceptionTable signature normal items) =
    And (And (HasEdge normal) (HasItems items)) (OfLists (λ variables tables. nat_lt signature (length tables.signatures)))
condition_of (Annotate inside values) = And (Where inside IsOpen) (HasValues values)
condition_of (NeedStackMap (OfVariable variable)) = OfLists (λ variables tables. may_mark (slice_get variables variable))
condition_of (NeedStackMap (OfValue value)) = OfType value (λ variables ty. is_some ty && fits_stack_map (or_invalid ty))
condition_of (Build entries instruction) =
    And (And (And (And (And (And (HasValues instruction.contexts)
    (And (OfLists (λ variables tables. tables_differ entries)) (MayGive entries))) IsOpen) (HasValues instruction.operands)) (CanLead instruction.edges))
    (OfLists (λ variables tables. can_operate instruction.operation instruction.controlling)))
    (OfLists (λ variables tables. list_all (has_entry tables) (operation_entries instruction.operation)))
condition_of (ChangeJumpDestination branch from to) =
    And (And (And (And (HasInstruction branch) (LeadsTo branch from)) (IsUnsealed from)) (HasBlock to)) (IsUnsealed to)
condition_of Finalize = always

-- a call may be made where this is met,
pub allowed_where_met : (ledger : Ledger) (request : Request) → allows ledger request ≡ meets ledger (condition_of request)
allowed_where_met ledger (NeedStackMap (OfVariable variable)) = refl
allowed_where_met ledger _ = refl

-- and the renamed call asks the same of renamed names
pub renamed_asks : (rename : Name → Name) (request : Request) → condition_of (renamed_request rename request) ≡ renamed_condition rename (condition_of request)
renamed_asks rename (NeedStackMap (OfVariable variable)) = refl
renamed_asks rename _ = refl
