-- The entries of tables that calls name, and their numbers. Own.
use Rattle.std.specs.Prelude.{◌==◌, ℕ, List, length, slice_get, unwrap_or, Option, Some, None, if◌then◌else◌}
use Rattle.clif_tables.specs.Lists.{TableLists}
use Rattle.clif_ir.specs.Body.{Body}
use Rattle.clif_calls.specs.declared.call.Name.{Name}
use Rattle.clif_resolution.specs.declared.answers.Entry.{Entry}
use Rattle.clif_resolution.specs.declared.answers.Entry.TheVariants as entry
use Rattle.clif_resolution.specs.declared.answers.Answer.{Answer}
use Rattle.clif_resolution.specs.declared.answers.Answer.TheVariants as answer

-- the tables whose entries calls name
pub data NamedTable : Type 0 where
  StackSlots : NamedTable
  Signatures : NamedTable
  Functions : NamedTable
  JumpTables : NamedTable
  ExceptionTables : NamedTable

-- how many entries the table has
abbrev pub count_in : NamedTable → TableLists → ℕ
count_in StackSlots tables = length tables.stack_slots
count_in Signatures tables = length tables.signatures
count_in Functions tables = length tables.functions
count_in JumpTables tables = length tables.jump_tables
count_in ExceptionTables tables = length tables.exception_tables

-- the number of an entry, if it is one of the table
abbrev pub number_in : NamedTable → Entry → Option ℕ
number_in StackSlots (entry.StackSlot slot) = Some slot
number_in Signatures (entry.Signature signature) = Some signature
number_in Functions (entry.Function function) = Some function
number_in JumpTables (entry.JumpTable table) = Some table
number_in ExceptionTables (entry.ExceptionTable table) = Some table
number_in _ _ = None

-- the entry of the table that a name leads to
abbrev pub entry_in : NamedTable → ℕ → Option Answer → Option ℕ
entry_in table index (Some (answer.Entry entry)) = if index == 0 then number_in table entry else None
entry_in table index _ = None

abbrev pub entry_of : NamedTable → List Answer → Name → Option ℕ
entry_of table answers name = entry_in table name.answer (slice_get answers name.place)

-- Which number a name of an entry stands for: that of the entry to which it leads, or else that of the next one, which isn't there.
abbrev pub Numbers : Type 0
Numbers = NamedTable → Name → ℕ

abbrev pub numbers_at : Body → List Answer → Numbers
numbers_at f answers table name = unwrap_or (entry_of table answers name) (count_in table f.tables)
