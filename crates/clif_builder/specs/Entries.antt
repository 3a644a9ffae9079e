-- What each call that makes an entry of a table of the function makes of a builder. Source: own, after the crate's
-- documentation of `FunctionBuilder`.
use Rattle.std.specs.Prelude.{◌≡◌, ◌≢◌, ◌-◌, ◌^◌, ◌↔◌, ℕ, List, [], ◌∷◌, length, false, slice_get, Option, Some, Result, Err, IfOk, OnOk, OnErr}
use Rattle.clif_types.specs.declared.error.BuildError.{BuildError}
use Rattle.clif_types.specs.declared.error.BuildError.TheVariants.{Failed, Full}
use Rattle.clif_tables.specs.Entries.{TableEntry, count_for, with_entry}
use Rattle.clif_types.specs.Signature.{SignatureShape}
use Rattle.clif_tables.specs.Constants.{constant_of, has_constant}
use Rattle.clif_tables.specs.Lists.{TableLists, with_constant}
use Rattle.clif_instructions.specs.declared.block_call.BlockArg.{BlockArg}
use Rattle.clif_instructions.specs.declared.block_call.BlockCall.{BlockCall}
use Rattle.clif_instructions.specs.declared.exception_table.ExceptionTableData.{ExceptionTableData}
use Rattle.clif_instructions.specs.ExceptionTables.{ExceptionShape, exception_shape}
use Rattle.clif_inst_builder.specs.Served.{CanServe, TableKind, exception_tables, jump_tables, unserved_in}
use Rattle.clif_ir.specs.Consistent.{EntryExists, ValueExists}
use Rattle.clif_ir.specs.Changes.{with_tables}
use Rattle.clif_meaning.specs.Request.{AnsweredCall, MakeEntry}
use Rattle.clif_builder.specs.declared.builder.FunctionBuilder.{FunctionBuilder}
use Rattle.clif_builder.specs.Builder.{CanLead, HasCurrent}
use Rattle.clif_builder.specs.Calls.{IsCall, IsTold, answered}
use Rattle.clif_builder.specs.Growth.{Grows, GrowsBesideTables, RemembersIn}
use Rattle.clif_builder.specs.Ledger.{AgreesWithLedger}
use Rattle.clif_builder.specs.StandsFor.{StandsFor}

-- the entry gets the next number of its table, and nothing but the table changes
pub record MakesEntry {R : Type 0} (entry : TableEntry) (old new : FunctionBuilder R) (answer : Result ℕ BuildError) : Type 0 where
  pub call : IsCall old new answer
  pub function : OnOk answer (new.func.now ≡ with_tables old.func.now (with_entry old.func.now.tables entry))
  pub number : IfOk answer (λ number. number ≡ count_for old.func.now.tables entry)
  pub kept : OnErr answer (new.func.now ≡ old.func.now)
  pub context : new.ctx.now.parts ≡ old.ctx.now.parts
  -- a full table is answered exactly where its table holds 2^32 - 1 entries
  pub full : (answer ≡ Err Full) ↔ ((old.failed ≡ false) × (count_for old.func.now.tables entry ≡ 2 ^ 32 - 1))
  pub told : IsTold old new answer (λ _. Unit {0}) (λ number. answered (MakeEntry entry) (number ∷ []))
  pub grows : OnOk answer (Grows old.func.now new.func.now)
  pub remembers : (x b : ℕ) → OnOk answer (RemembersIn x b old new)
  pub current : HasCurrent old → OnOk answer (HasCurrent new)

-- The function has these tables now, and nothing else changes. It is no call of a list: what instructions take of tables, they have
-- themselves. So a builder stands for the same list.
pub record SetsTables {A : Type 0} {R : Type 0} (tables : TableLists) (old new : FunctionBuilder R) (answer : Result A BuildError) : Type 0 where
  pub call : IsCall old new answer
  pub function : OnOk answer (new.func.now ≡ with_tables old.func.now tables)
  pub kept : OnErr answer (new.func.now ≡ old.func.now)
  pub context : new.ctx.now.parts ≡ old.ctx.now.parts
  pub ledger : (calls : List AnsweredCall) → AgreesWithLedger calls old → OnOk answer (AgreesWithLedger calls new)
  pub stands : (signature : SignatureShape) (calls : List AnsweredCall) → StandsFor signature calls old → OnOk answer (StandsFor signature calls new)
  pub grows : OnOk answer (GrowsBesideTables old.func.now new.func.now)
  pub remembers : (x b : ℕ) → OnOk answer (RemembersIn x b old new)
  pub current : HasCurrent old → OnOk answer (HasCurrent new)

-- Bytes are pooled: the answer is the number of the constant with them, and nothing but the constants changes.
pub record PoolsConstant {R : Type 0} (old new : FunctionBuilder R) (bytes : List ℕ) (answer : Result ℕ BuildError) : Type 0 where
  pub sets : SetsTables (with_constant old.func.now.tables bytes) old new answer
  pub grows : OnOk answer (Grows old.func.now new.func.now)
  pub number : IfOk answer (λ number. number ≡ constant_of old.func.now.tables.constants bytes)
  pub found : IfOk answer (λ number. slice_get new.func.now.tables.constants number ≡ Some bytes)
  -- a full table is answered exactly where the bytes are new and there are 2^32 - 1 constants
  pub full : (answer ≡ Err Full)
      ↔ ((old.failed ≡ false) × (has_constant old.func.now.tables.constants bytes ≡ false) × (length old.func.now.tables.constants ≡ 2 ^ 32 - 1))

-- what the table of this kind and number holds, if there is one that serves no instruction so far
abbrev pub table_held : {T : Type 0} → {R : Type 0} → TableKind T → FunctionBuilder R → ℕ → Option T
table_held {T} kind b table = unserved_in kind b.func.now.tables table

-- the edges of a jump table
abbrev pub table_edges : {R : Type 0} → FunctionBuilder R → ℕ → Option (List BlockCall)
table_edges b table = table_held jump_tables b table

-- an instruction may name what such a table holds
abbrev pub CanBeNamed : {T : Type 0} → {R : Type 0} → TableKind T → FunctionBuilder R → T → Type 0
CanBeNamed {T} kind b held = kind.CanBeNamed (CanLead b) (ValueExists b.func.now) (EntryExists b.func.now.tables) held

-- there is such a table, and an instruction may name what it holds
abbrev pub MayServeFor : {T : Type 0} → {R : Type 0} → TableKind T → FunctionBuilder R → ℕ → Type 0
MayServeFor {T} kind b table =
    CanServe kind b.func.now.tables (CanLead b) (ValueExists b.func.now) (EntryExists b.func.now.tables) table

abbrev pub MayServe : {R : Type 0} → FunctionBuilder R → ℕ → Type 0
MayServe b table = MayServeFor jump_tables b table

abbrev pub MayServeTry : {R : Type 0} → FunctionBuilder R → ℕ → Type 0
MayServeTry b table = MayServeFor exception_tables b table

-- A table of this kind that holds this gets the next number, and serves no instruction so far.
pub record Creates {T : Type 0} {R : Type 0} (kind : TableKind T) (held : T) (old new : FunctionBuilder R) (answer : Result ℕ BuildError) : Type 0 where
  pub sets : SetsTables (kind.with_table old.func.now.tables held) old new answer
  pub number : IfOk answer (λ number. number ≡ length (kind.tables old.func.now.tables))
  pub serves : IfOk answer (λ number. table_held kind new number ≡ Some held)
  -- a full table is answered exactly where there are 2^32 - 1 tables of this kind
  pub full : (answer ≡ Err Full) ↔ ((old.failed ≡ false) × (length (kind.tables old.func.now.tables) ≡ 2 ^ 32 - 1))

-- A jump table of these edges, the default first, is created.
abbrev pub CreatesJumpTable : {R : Type 0} → List BlockCall → FunctionBuilder R → FunctionBuilder R → Result ℕ BuildError → Type 0
CreatesJumpTable edges old new answer = Creates jump_tables edges old new answer

-- An exception table of this signature, normal edge and items is created.
abbrev pub CreatesExceptionTable : {R : Type 0} → ExceptionTableData → FunctionBuilder R → FunctionBuilder R → Result ℕ BuildError → Type 0
CreatesExceptionTable table old new answer = Creates exception_tables (exception_shape table) old new answer

-- The answer is what a table of this kind holds, which serves an instruction from now on.
pub record Takes {T : Type 0} {R : Type 0} (kind : TableKind T) (old new : FunctionBuilder R) (table : ℕ) (answer : Result T BuildError) : Type 0 where
  pub sets : SetsTables (kind.with_served old.func.now.tables table) old new answer
  pub held : IfOk answer (λ held. table_held kind old table ≡ Some held)
  pub can_be_named : MayServeFor kind old table → IfOk answer (CanBeNamed kind new)
  pub only_failed : OnErr answer (answer ≡ Err Failed)

-- the edges of a jump table are taken
abbrev pub TakesJumpTable : {R : Type 0} → FunctionBuilder R → FunctionBuilder R → ℕ → Result (List BlockCall) BuildError → Type 0
TakesJumpTable old new table answer = Takes jump_tables old new table answer

-- an exception table is taken
abbrev pub TakesExceptionTable : {R : Type 0} → FunctionBuilder R → FunctionBuilder R → ℕ → Result ExceptionShape BuildError → Type 0
TakesExceptionTable old new table answer = Takes exception_tables old new table answer

-- The answer is an edge to a block that passes these arguments. Nothing changes.
pub record MakesEdge {R : Type 0} (block : ℕ) (args : List BlockArg) (old new : FunctionBuilder R) (answer : Result BlockCall BuildError) : Type 0 where
  pub sets : SetsTables old.func.now.tables old new answer
  pub grows : OnOk answer (Grows old.func.now new.func.now)
  pub edge : IfOk answer (λ edge. edge ≡ record { block = block; args = args })
  pub never_full : answer ≢ Err Full
