-- Tables of which each serves one instruction, which takes what the table holds: jump tables and exception tables. Source: own,
-- after the crate's documentation of them.
use Rattle.std.specs.Prelude.{◌≡◌, ℕ, List, All, Option, Some, slice_get}
use Rattle.clif_instructions.specs.declared.block_call.BlockCall.{BlockCall}
use Rattle.clif_instructions.specs.ExceptionTables.{ExceptionShape, contexts_of}
use Rattle.clif_instructions.specs.Instruction.{ASignatureRef, EntryRef}
use Rattle.clif_tables.specs.Lists.{TableLists, unserved, with_exception_table, with_exception_table_served, with_jump_table, with_table_served}

-- a kind of such tables, of which each holds a `T` until an instruction takes it
pub record TableKind (T : Type 0) : Type 1 where
  -- the tables, by number
  pub tables : TableLists → List (Option T)
  -- with one more at the end, which serves no instruction so far
  pub with_table : TableLists → T → TableLists
  -- with what the table of this number holds taken
  pub with_served : TableLists → ℕ → TableLists
  -- an instruction may name what one holds, where these edges may be made, and where these values and entries exist
  pub CanBeNamed : (BlockCall → Type 0) → (ℕ → Type 0) → (EntryRef → Type 0) → T → Type 0

-- a jump table holds its edges, the default first
abbrev pub jump_tables : TableKind (List BlockCall)
jump_tables = record {
  tables = λ t. t.jump_tables;
  with_table = with_jump_table;
  with_served = with_table_served;
  CanBeNamed = λ can_lead has_value has_entry edges. All can_lead edges;
}

-- an exception table names its edges, its contexts, and the signature of its calls
abbrev pub exception_tables : TableKind ExceptionShape
exception_tables = record {
  tables = λ t. t.exception_tables;
  with_table = with_exception_table;
  with_served = with_exception_table_served;
  CanBeNamed = λ can_lead has_value has_entry table.
      All can_lead table.edges × All has_value (contexts_of table) × has_entry (ASignatureRef table.sig);
}

-- what the table of this number holds, if there is one that serves no instruction so far
abbrev pub unserved_in : {T : Type 0} → TableKind T → TableLists → ℕ → Option T
unserved_in {T} kind t number = unserved (slice_get (kind.tables t) number)

-- there is such a table, and an instruction may name what it holds
abbrev pub CanServe : {T : Type 0} → TableKind T → TableLists → (BlockCall → Type 0) → (ℕ → Type 0) → (EntryRef → Type 0) → ℕ → Type 0
CanServe {T} kind t can_lead has_value has_entry number =
    (held : T) × (unserved_in kind t number ≡ Some held) × kind.CanBeNamed can_lead has_value has_entry held
