-- What a call does to parts of the ledger: to its tables, and to the predecessors of blocks. A call that leaves them, as most do, needs
-- no row here.
use Rattle.std.proofs.Common.{◌≡◌, ℕ, Bool, true, false, List, [], ◌∷◌, ◌++◌, refl, ap₂, ◌∙◌, Option, None, Some}
use Rattle.std.specs.Prelude.{map, if◌then◌else◌}
use Rattle.clif_tables.specs.Entries.{TableEntry}
use Rattle.clif_meaning.specs.Name.{Name, same_name}
use Rattle.clif_meaning.specs.Instruction.{Instruction}
use Rattle.clif_meaning.specs.Request.{Request, CreateBlock, SealBlock, SealAllBlocks, SetColdBlock, EnsureInsertedBlock, AppendBlockParams, AppendFunctionParams, UseVar, MakeEntry, MakeJumpTable, MakeExceptionTable, Build, GivenEntry, TableItem, ChangeJumpDestination}
use Rattle.clif_meaning.specs.Ledger.{BlockState, Ledger, changed_by, is_inserted, sealed, with_begun, with_begun_at, with_cold_mark, with_layout, with_parameter_types, with_state}

-- TABLES ------------------------------------------------------------------------------------------------------------------

pub record SameTables (later ledger : Ledger) : Type 0 where
  pub jump_tables : later.jump_tables ≡ ledger.jump_tables
  pub exception_tables : later.exception_tables ≡ ledger.exception_tables
  pub tables : later.tables ≡ ledger.tables

-- the call makes no jump table
abbrev pub MakesNoJumpTable : Request → Type 0
MakesNoJumpTable (MakeJumpTable default entries) = ⊥
MakesNoJumpTable _ = Unit {0}

pub data TablesEffect (request : Request) : Type 0 where
  TablesStay : MakesNoJumpTable request → ((ledger : Ledger) → SameTables (changed_by ledger request) ledger) → TablesEffect request
  EntryMade : (entry : TableEntry) → request ≡ MakeEntry entry → TablesEffect request
  JumpTableMade : (default : Name) (entries : List Name) → request ≡ MakeJumpTable default entries → TablesEffect request
  ExceptionTableMade : (signature : ℕ) (normal : Name) (items : List TableItem) → request ≡ MakeExceptionTable signature normal items → TablesEffect request
  -- those among the entries serve
  TablesServe : (entries : List GivenEntry) (instruction : Instruction Name Name) → request ≡ Build entries instruction → TablesEffect request

tables_begun : (ledger : Ledger) (o : Option Name) → SameTables (with_begun_at ledger o) ledger
tables_begun ledger None = record { jump_tables = refl; exception_tables = refl; tables = refl }
tables_begun ledger (Some block) = record { jump_tables = laid.jump_tables; exception_tables = laid.exception_tables; tables = laid.tables }
  where
    by : (inserted : Bool) → SameTables (if inserted then ledger else record ledger { layout = ledger.layout ++ block ∷ [] }) ledger
    by true = record { jump_tables = refl; exception_tables = refl; tables = refl }
    by false = record { jump_tables = refl; exception_tables = refl; tables = refl }

    laid : SameTables (with_layout ledger block) ledger
    laid = by (is_inserted ledger block)

pub tables_effect : (request : Request) → TablesEffect request
tables_effect EnsureInsertedBlock = TablesStay tt (λ ledger. tables_begun ledger ledger.current)
tables_effect (UseVar variable) = TablesStay tt (λ ledger.
    let begun : SameTables (with_begun ledger) ledger = tables_begun ledger ledger.current in
    record { jump_tables = begun.jump_tables; exception_tables = begun.exception_tables; tables = begun.tables })
tables_effect (MakeEntry entry) = EntryMade entry refl
tables_effect (MakeJumpTable default entries) = JumpTableMade default entries refl
tables_effect (MakeExceptionTable signature normal items) = ExceptionTableMade signature normal items refl
tables_effect (Build entries instruction) = TablesServe entries instruction refl
tables_effect _ = TablesStay tt (λ ledger. record { jump_tables = refl; exception_tables = refl; tables = refl })

-- PREDECESSORS ------------------------------------------------------------------------------------------------------------

-- the predecessors of each block
abbrev pub leading : List BlockState → List (List Name)
leading states = map (λ state. state.predecessors) states

pub data LeadingEffect (request : Request) : Type 0 where
  LeadsStay : ((ledger : Ledger) → leading (changed_by ledger request).blocks ≡ leading ledger.blocks) → LeadingEffect request
  -- a block to which nothing leads
  BlockMade : request ≡ CreateBlock → LeadingEffect request
  EdgesLead : (entries : List GivenEntry) (instruction : Instruction Name Name) → request ≡ Build entries instruction → LeadingEffect request
  LeadsMove : (branch from to : Name) → request ≡ ChangeJumpDestination branch from to → LeadingEffect request

mapped_leads : (change : BlockState → BlockState) → ((state : BlockState) → (change state).predecessors ≡ state.predecessors) → (states : List BlockState)
    → leading (map change states) ≡ leading states
mapped_leads change keeps [] = refl
mapped_leads change keeps (state ∷ states) = ap₂ (λ (first : List Name) (rest : List (List Name)). first ∷ rest) (keeps state) (mapped_leads change keeps states)

state_leads : (ledger : Ledger) (block : Name) (change : BlockState → BlockState) → ((state : BlockState) → (change state).predecessors ≡ state.predecessors)
    → leading (with_state ledger block change).blocks ≡ leading ledger.blocks
state_leads ledger block change keeps =
    mapped_leads (λ state. if same_name state.block block then change state else state) (λ state. by state (same_name state.block block)) ledger.blocks
  where
    by : (state : BlockState) (test : Bool) → (if test then change state else state).predecessors ≡ state.predecessors
    by state true = keeps state
    by state false = refl

begun_leads : (ledger : Ledger) (o : Option Name) → leading (with_begun_at ledger o).blocks ≡ leading ledger.blocks
begun_leads ledger None = refl
begun_leads ledger (Some block) =
    state_leads (with_layout ledger block) block (λ state. record state { is_pristine = false }) (λ state. refl) ∙ by (is_inserted ledger block)
  where
    by : (inserted : Bool) → leading (if inserted then ledger else record ledger { layout = ledger.layout ++ block ∷ [] }).blocks ≡ leading ledger.blocks
    by true = refl
    by false = refl

pub leading_effect : (request : Request) → LeadingEffect request
leading_effect CreateBlock = BlockMade refl
leading_effect (SealBlock block) = LeadsStay (λ ledger. state_leads ledger block sealed (λ state. refl))
leading_effect SealAllBlocks = LeadsStay (λ ledger. mapped_leads sealed (λ state. refl) ledger.blocks)
leading_effect (SetColdBlock block) = LeadsStay (λ ledger. state_leads ledger block with_cold_mark (λ state. refl))
leading_effect EnsureInsertedBlock = LeadsStay (λ ledger. begun_leads ledger ledger.current)
leading_effect (AppendBlockParams block types) = LeadsStay (λ ledger. state_leads ledger block (with_parameter_types types) (λ state. refl))
leading_effect (AppendFunctionParams block types) = LeadsStay (λ ledger. state_leads ledger block (with_parameter_types types) (λ state. refl))
leading_effect (UseVar variable) = LeadsStay (λ ledger. begun_leads ledger ledger.current)
leading_effect (Build entries instruction) = EdgesLead entries instruction refl
leading_effect (ChangeJumpDestination branch from to) = LeadsMove branch from to refl
leading_effect _ = LeadsStay (λ ledger. refl)
