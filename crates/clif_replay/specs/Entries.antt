-- The entries of tables that calls make and name, by their numbers. Source: own.
use Rattle.std.specs.Prelude.{ℕ, Bool, true, false, length, Option, option_and_then, unwrap_or, Result, Ok, Err}
use Rattle.clif_types.specs.declared.error.BuildError.{BuildError}
use Rattle.clif_tables.specs.Entries.{TableEntry, ADynamicStackSlot, AFunction, AGlobalValue, ASignature, AStackSlot}
use Rattle.clif_tables.specs.Lists.{TableLists}
use Rattle.clif_meaning.specs.Ledger.{AnEntry, AnExceptionTable, AJumpTable, Answered, Ledger, answer_at}
use Rattle.clif_meaning.specs.Name.{Name}
use Rattle.clif_calls.specs.declared.call.Name as named
use Rattle.clif_calls.specs.declared.entry.EntryCall.{EntryCall}
use Rattle.clif_calls.specs.declared.entry.ImportedFunction.{ImportedFunction}
use Rattle.clif_calls.specs.declared.entry.EntryCall.TheVariants as call
use Rattle.clif_resolution.specs.Entries.{ExceptionTables, Functions, JumpTables, NamedTable, Numbers, Signatures, StackSlots, number_in}
use Rattle.clif_resolution.specs.declared.answers.Entry.{Entry}
use Rattle.clif_resolution.specs.declared.answers.Entry.TheVariants as entry
use Rattle.clif_replay.specs.declared.make_entities.NewEntry.{NewEntry}
use Rattle.clif_replay.specs.declared.make_entities.NewEntry.TheVariants as new

-- what entry an answer of the ledger is
abbrev pub entry_as : Answered → Entry
entry_as (AnEntry (AStackSlot slot) number) = entry.StackSlot number
entry_as (AnEntry (ASignature signature) number) = entry.Signature number
entry_as (AnEntry (AFunction function) number) = entry.Function number
entry_as (AJumpTable number) = entry.JumpTable number
entry_as (AnExceptionTable number) = entry.ExceptionTable number
entry_as _ = entry.Unnamed

-- it is one of a table
abbrev pub is_entry : Answered → Bool
is_entry (AnEntry made number) = true
is_entry (AJumpTable number) = true
is_entry (AnExceptionTable number) = true
is_entry _ = false

-- the entry of the table that a name of the ledger leads to
abbrev pub entry_named : NamedTable → Ledger → Name → Option ℕ
entry_named table ledger name = option_and_then (λ answered. number_in table (entry_as answered)) (answer_at ledger name)

-- how many entries of the table the ledger has
abbrev pub count_of : NamedTable → Ledger → ℕ
count_of StackSlots ledger = length ledger.tables.stack_slots
count_of Signatures ledger = length ledger.tables.signatures
count_of Functions ledger = length ledger.tables.functions
count_of JumpTables ledger = length ledger.jump_tables
count_of ExceptionTables ledger = length ledger.exception_tables

-- Which number a name of an entry stands for in a ledger, with names so known: that of the entry to which it leads, or else that of the
-- next one, which isn't there.
abbrev pub numbers_in : (named.Name → Name) → Ledger → Numbers
numbers_in naming ledger table name = unwrap_or (entry_named table ledger (naming name)) (count_of table ledger)

-- a function that is imported
abbrev pub function_in : Numbers → ImportedFunction → TableEntry
function_in numbers function =
    AFunction (record { name = function.name; signature = numbers Signatures function.signature; colocated = function.colocated; patchable = function.patchable })

-- the entry that a call makes
abbrev pub entry_in : Numbers → EntryCall → TableEntry
entry_in numbers (call.CreateSizedStackSlot size align_shift) = AStackSlot (record { size = size; align_shift = align_shift })
entry_in numbers (call.CreateDynamicStackSlot slot) = ADynamicStackSlot slot
entry_in numbers (call.CreateGlobalValue value) = AGlobalValue value
entry_in numbers (call.ImportSignature signature) = ASignature signature
entry_in numbers (call.ImportFunction function) = function_in numbers function

-- how many entries its table has
abbrev pub count_with : TableLists → EntryCall → ℕ
count_with tables (call.CreateSizedStackSlot size align_shift) = length tables.stack_slots
count_with tables (call.CreateDynamicStackSlot slot) = length tables.dynamic_stack_slots
count_with tables (call.CreateGlobalValue value) = length tables.global_values
count_with tables (call.ImportSignature signature) = length tables.signatures
count_with tables (call.ImportFunction function) = length tables.functions

-- an entry that is to be made
abbrev pub entry_new : NewEntry → TableEntry
entry_new (new.StackSlot slot) = AStackSlot slot
entry_new (new.DynamicStackSlot slot) = ADynamicStackSlot slot
entry_new (new.GlobalValue value) = AGlobalValue value
entry_new (new.Signature signature) = ASignature signature
entry_new (new.Function function) = AFunction function

-- and what it is once it has its number
abbrev pub entry_made : TableEntry → Result ℕ BuildError → Result Entry BuildError
entry_made made (Ok number) = Ok (entry_as (AnEntry made number))
entry_made made (Err error) = Err error
