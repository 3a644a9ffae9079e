-- A ledger has no more entries of each table than its calls make, and as many variables as the ledger of the plain calls that stand
-- for a script's calls.
use Rattle.std.proofs.Common.{◌≡◌, ◌≤◌, ◌+◌, ℕ, Bool, true, false, List, [], ◌∷◌, ◌++◌, length, Option, Some, None, refl, ap, arith, ◌∙◌}
use Rattle.std.specs.Prelude.{fold, if◌then◌else◌, slice_set}
use Rattle.std.proofs.lemmas.List.{length-append, length-map, length-set}
use Rattle.clif_tables.specs.Entries.{TableEntry, AStackSlot, ADynamicStackSlot, AGlobalValue, ASignature, AFunction, with_entry}
use Rattle.clif_tables.specs.Lists.{TableLists}
use Rattle.clif_meaning.specs.Instruction.{Edge, Instruction}
use Rattle.clif_meaning.specs.Ledger.{BlockState, ExceptionTable, Ledger, VariableState, changed_by, empty_ledger, is_inserted, is_terminator, ledger_after, ledger_with, with_begun, with_begun_at, with_filled_at, with_instruction, with_layout, with_predecessor, with_served, with_state, with_terminator, with_tried}
use Rattle.clif_meaning.specs.Name.{Name}
use Rattle.clif_meaning.specs.Request.{Request, CreateBlock, SealBlock, SealAllBlocks, SetColdBlock, EnsureInsertedBlock, AppendBlockParams, AppendFunctionParams, UseVar, MakeEntry, MakeJumpTable, MakeExceptionTable, GivenEntry, Imported, ServedBy, TriedBy, Build, ChangeJumpDestination, Script}
use Rattle.clif_meaning.specs.Sizes.{Table, Blocks, JumpTables, ExceptionTables, StackSlots, DynamicStackSlots, GlobalValues, Signatures, Functions, made_by, made_by_script, one_in, table_for}
use Rattle.clif_expansion.specs.JoinedCalls.{AreJoinedCalls}
use Rattle.clif_expansion.specs.Reading.{Reading}
use Rattle.clif_expansion.specs.ScriptCall.{ScriptCall, ledger_of}
use Rattle.clif_expansion.proofs.JoinedCalls.{joined_calls}

-- how many entries of a table a ledger tells of: of values, instructions and constants it tells of none
abbrev pub ledger_entries : Ledger → Table → ℕ
ledger_entries ledger Blocks = length ledger.blocks
ledger_entries ledger JumpTables = length ledger.jump_tables
ledger_entries ledger ExceptionTables = length ledger.exception_tables
ledger_entries ledger StackSlots = length ledger.tables.stack_slots
ledger_entries ledger DynamicStackSlots = length ledger.tables.dynamic_stack_slots
ledger_entries ledger GlobalValues = length ledger.tables.global_values
ledger_entries ledger Signatures = length ledger.tables.signatures
ledger_entries ledger Functions = length ledger.tables.functions
ledger_entries ledger _ = 0

-- WHAT KEEPS THEM ---------------------------------------------------------------------------------------------------------

-- there are as many after a change as before it
record KeepsEntries (after before : Ledger) : Type 0 where
  blocks : length after.blocks ≡ length before.blocks
  jump_tables : length after.jump_tables ≡ length before.jump_tables
  exception_tables : length after.exception_tables ≡ length before.exception_tables
  tables : after.tables ≡ before.tables

same_keeps : (ledger : Ledger) → KeepsEntries ledger ledger
same_keeps ledger = record { blocks = refl; jump_tables = refl; exception_tables = refl; tables = refl }

then_keeps : (last mid first : Ledger) → KeepsEntries last mid → KeepsEntries mid first → KeepsEntries last first
then_keeps last mid first later earlier = record {
  blocks = later.blocks ∙ earlier.blocks;
  jump_tables = later.jump_tables ∙ earlier.jump_tables;
  exception_tables = later.exception_tables ∙ earlier.exception_tables;
  tables = later.tables ∙ earlier.tables;
}

state_keeps : (ledger : Ledger) (block : Name) (change : BlockState → BlockState) → KeepsEntries (with_state ledger block change) ledger
state_keeps ledger block change = record { blocks = length-map ledger.blocks _; jump_tables = refl; exception_tables = refl; tables = refl }

layout_keeps : (ledger : Ledger) (block : Name) → KeepsEntries (with_layout ledger block) ledger
layout_keeps ledger block = by (is_inserted ledger block)
  where
    by : (there : Bool) → KeepsEntries (if there then ledger else record ledger { layout = ledger.layout ++ block ∷ [] }) ledger
    by true = same_keeps ledger
    by false = record { blocks = refl; jump_tables = refl; exception_tables = refl; tables = refl }

begun_keeps : (ledger : Ledger) (current : Option Name) → KeepsEntries (with_begun_at ledger current) ledger
begun_keeps ledger None = same_keeps ledger
begun_keeps ledger (Some block) = then_keeps _ (with_layout ledger block) ledger (state_keeps (with_layout ledger block) block _) (layout_keeps ledger block)

filled_keeps : (ledger : Ledger) (ends : Bool) (current : Option Name) → KeepsEntries (if ends then with_filled_at ledger current else ledger) ledger
filled_keeps ledger false current = same_keeps ledger
filled_keeps ledger true None = same_keeps ledger
filled_keeps ledger true (Some block) = state_keeps ledger block _

led_keeps : (branch : Name) (ledger : Ledger) (edges : List (Edge Name Name)) → KeepsEntries (fold (with_predecessor branch) ledger edges) ledger
led_keeps branch ledger [] = same_keeps ledger
led_keeps branch ledger (edge ∷ edges) =
    let led : Ledger = with_predecessor branch ledger edge in then_keeps _ led ledger (led_keeps branch led edges) (state_keeps ledger edge.target _)

served_keeps : (tables : List (Option (List (Edge Name Name)))) (entries : List GivenEntry) → length (with_served tables entries) ≡ length tables
served_keeps tables [] = refl
served_keeps tables (ServedBy table ∷ entries) = served_keeps (slice_set tables table None) entries ∙ length-set tables table None
served_keeps tables (TriedBy table ∷ entries) = served_keeps tables entries
served_keeps tables (Imported entry ∷ entries) = served_keeps tables entries

tried_keeps : (tables : List (Option ExceptionTable)) (entries : List GivenEntry) → length (with_tried tables entries) ≡ length tables
tried_keeps tables [] = refl
tried_keeps tables (ServedBy table ∷ entries) = tried_keeps tables entries
tried_keeps tables (TriedBy table ∷ entries) = tried_keeps (slice_set tables table None) entries ∙ length-set tables table None
tried_keeps tables (Imported entry ∷ entries) = tried_keeps tables entries

built_keeps : (ledger : Ledger) (entries : List GivenEntry) (instruction : Instruction Name Name) → KeepsEntries (changed_by ledger (Build entries instruction)) ledger
built_keeps ledger entries instruction = record {
  blocks = all.blocks;
  jump_tables = served_keeps ledger.jump_tables entries;
  exception_tables = tried_keeps ledger.exception_tables entries;
  tables = all.tables;
}
  where
    begun : Ledger
    begun = with_begun ledger

    ended : Ledger
    ended = with_terminator begun instruction.operation

    all : KeepsEntries (with_instruction ledger instruction) ledger
    all =
        then_keeps _ ended ledger (led_keeps _ ended instruction.edges)
        (then_keeps ended begun ledger (filled_keeps begun (is_terminator instruction.operation) begun.current) (begun_keeps ledger ledger.current))

-- WHAT CALLS MAKE ---------------------------------------------------------------------------------------------------------

kept : (after before : Ledger) (more : ℕ) (table : Table) → KeepsEntries after before → ledger_entries after table ≤ ledger_entries before table + more
kept after before more table same = let equal = by table in omega arith
  where
    by : (table : Table) → ledger_entries after table ≡ ledger_entries before table
    by Blocks = same.blocks
    by JumpTables = same.jump_tables
    by ExceptionTables = same.exception_tables
    by StackSlots = ap (λ (t : TableLists). length t.stack_slots) same.tables
    by DynamicStackSlots = ap (λ (t : TableLists). length t.dynamic_stack_slots) same.tables
    by GlobalValues = ap (λ (t : TableLists). length t.global_values) same.tables
    by Signatures = ap (λ (t : TableLists). length t.signatures) same.tables
    by Functions = ap (λ (t : TableLists). length t.functions) same.tables
    by _ = refl

entry_made : (ledger : Ledger) (entry : TableEntry) (table : Table)
    → ledger_entries (record ledger { tables = with_entry ledger.tables entry }) table ≤ ledger_entries ledger table + one_in (table_for entry) table
entry_made ledger (AStackSlot slot) StackSlots = simp length-append (omega arith)
entry_made ledger (ADynamicStackSlot slot) DynamicStackSlots = simp length-append (omega arith)
entry_made ledger (AGlobalValue value) GlobalValues = simp length-append (omega arith)
entry_made ledger (ASignature signature) Signatures = simp length-append (omega arith)
entry_made ledger (AFunction function) Functions = simp length-append (omega arith)
entry_made ledger _ _ = omega arith

-- what a call changes, entry for entry
change_made : (ledger : Ledger) (request : Request) (table : Table) → ledger_entries (changed_by ledger request) table ≤ ledger_entries ledger table + made_by request table
change_made ledger CreateBlock Blocks = simp length-append (omega arith)
change_made ledger (SealBlock block) table = kept _ ledger (made_by (SealBlock block) table) table (state_keeps ledger block _)
change_made ledger SealAllBlocks Blocks = simp length-map (omega arith)
change_made ledger (SetColdBlock block) table = kept _ ledger (made_by (SetColdBlock block) table) table (state_keeps ledger block _)
change_made ledger EnsureInsertedBlock table = kept _ ledger (made_by EnsureInsertedBlock table) table (begun_keeps ledger ledger.current)
change_made ledger (AppendBlockParams block types) table = kept _ ledger (made_by (AppendBlockParams block types) table) table (state_keeps ledger block _)
change_made ledger (AppendFunctionParams block types) table = kept _ ledger (made_by (AppendFunctionParams block types) table) table (state_keeps ledger block _)
change_made ledger (UseVar variable) table =
    let begun = begun_keeps ledger ledger.current in
    kept (changed_by ledger (UseVar variable)) ledger (made_by (UseVar variable) table) table
    (record { blocks = begun.blocks; jump_tables = begun.jump_tables; exception_tables = begun.exception_tables; tables = begun.tables })
change_made ledger (MakeEntry entry) table = entry_made ledger entry table
change_made ledger (MakeJumpTable default entries) JumpTables = simp length-append (omega arith)
change_made ledger (MakeExceptionTable signature normal items) ExceptionTables = simp length-append (omega arith)
change_made ledger (Build entries instruction) table = kept _ ledger (made_by (Build entries instruction) table) table (built_keeps ledger entries instruction)
change_made ledger (ChangeJumpDestination branch from to) Blocks = simp length-map (omega arith)
change_made ledger _ _ = omega arith

-- one more call
call_made : (ledger : Ledger) (request : Request) (table : Table) → ledger_entries (ledger_with ledger request) table ≤ ledger_entries ledger table + made_by request table
call_made ledger request table = let change = change_made ledger request table in let same = by table in omega arith
  where
    by : (table : Table) → ledger_entries (ledger_with ledger request) table ≡ ledger_entries (changed_by ledger request) table
    by _ = refl

-- the entries of which the ledger of a script tells are no more than its calls make
pub ledger-made : (script : Script) (table : Table) → ledger_entries (ledger_after script) table ≤ made_by_script script table
ledger-made script table = let all = from empty_ledger script in let none = starts table in omega arith
  where
    starts : (table : Table) → ledger_entries empty_ledger table ≡ 0
    starts Blocks = refl
    starts _ = refl

    from : (ledger : Ledger) (script : Script) → ledger_entries (fold ledger_with ledger script) table ≤ ledger_entries ledger table + made_by_script script table
    from ledger [] = omega arith
    from ledger (request ∷ script) =
        let first = call_made ledger request table in let rest = from (ledger_with ledger request) script in omega arith

-- the plain calls of a script's calls declare the same variables
pub joined-variables : (reading : Reading) (plain : Script) (calls : List ScriptCall) → AreJoinedCalls reading plain calls
    → length (ledger_after plain).variables ≡ length (ledger_of calls).variables
joined-variables reading plain calls are = ap (λ (states : List VariableState). length states) (joined_calls reading plain calls are).ledgers.states.variables
