-- How many entries of a function's tables calls make at most. Source: own, after the crate's documentation of its builder.
use Rattle.std.specs.Prelude.{ℕ, ◌+◌, ◌≤◌, List, [], ◌∷◌, length}
use Rattle.clif_tables.specs.Entries.{TableEntry, AStackSlot, ADynamicStackSlot, AGlobalValue, ASignature, AFunction}
use Rattle.clif_ir.specs.Body.{Body}
use Rattle.clif_meaning.specs.Instruction.{Operation, Compute, PooledConst}
use Rattle.clif_meaning.specs.Program.{result_types}
use Rattle.clif_meaning.specs.Request.{Request, CreateBlock, AppendBlockParams, AppendFunctionParams, MakeEntry, MakeJumpTable, MakeExceptionTable, Build, Script}

-- the tables of a function that calls lengthen
pub data Table : Type 0 where
  Values : Table
  Instructions : Table
  Blocks : Table
  Constants : Table
  JumpTables : Table
  ExceptionTables : Table
  StackSlots : Table
  DynamicStackSlots : Table
  GlobalValues : Table
  Signatures : Table
  Functions : Table

-- how many entries a table of the function has
abbrev pub entries_in : Body → Table → ℕ
entries_in f Values = length f.values
entries_in f Instructions = length f.insts
entries_in f Blocks = length f.blocks
entries_in f Constants = length f.tables.constants
entries_in f JumpTables = length f.tables.jump_tables
entries_in f ExceptionTables = length f.tables.exception_tables
entries_in f StackSlots = length f.tables.stack_slots
entries_in f DynamicStackSlots = length f.tables.dynamic_stack_slots
entries_in f GlobalValues = length f.tables.global_values
entries_in f Signatures = length f.tables.signatures
entries_in f Functions = length f.tables.functions

-- the second function has no table with more entries than the first one had, and as many as `most` says beside them
abbrev pub MakesAtMost : (most : Table → ℕ) → Body → Body → Type 0
MakesAtMost most f g = (table : Table) → entries_in g table ≤ entries_in f table + most table

-- the table of an entry
abbrev pub table_for : TableEntry → Table
table_for (AStackSlot slot) = StackSlots
table_for (ADynamicStackSlot slot) = DynamicStackSlots
table_for (AGlobalValue value) = GlobalValues
table_for (ASignature signature) = Signatures
table_for (AFunction function) = Functions

-- one entry in this table, and none in another one
abbrev pub one_in : Table → Table → ℕ
one_in Values Values = 1
one_in Instructions Instructions = 1
one_in Blocks Blocks = 1
one_in Constants Constants = 1
one_in JumpTables JumpTables = 1
one_in ExceptionTables ExceptionTables = 1
one_in StackSlots StackSlots = 1
one_in DynamicStackSlots DynamicStackSlots = 1
one_in GlobalValues GlobalValues = 1
one_in Signatures Signatures = 1
one_in Functions Functions = 1
one_in _ _ = 0

-- the constants that an operation needs: its own bytes, if it is a pooled constant
abbrev pub constants_for : Operation → ℕ
constants_for (Compute (PooledConst name bytes)) = 1
constants_for _ = 0

-- Of each table the entries that a call makes itself, at most; what the construction of SSA form makes for it comes beside them.
abbrev pub made_by : Request → Table → ℕ
made_by CreateBlock table = one_in Blocks table
made_by (AppendBlockParams block types) Values = length types
made_by (AppendFunctionParams block types) Values = length types
made_by (MakeEntry entry) table = one_in (table_for entry) table
made_by (MakeJumpTable default entries) table = one_in JumpTables table
made_by (MakeExceptionTable signature normal items) table = one_in ExceptionTables table
made_by (Build entries instruction) Instructions = 1
made_by (Build entries instruction) Values = length (result_types instruction.operation instruction.controlling)
made_by (Build entries instruction) Constants = constants_for instruction.operation
made_by _ _ = 0

-- the entries that all calls of a script make
abbrev pub made_by_script : Script → Table → ℕ
made_by_script [] table = 0
made_by_script (request ∷ script) table = made_by request table + made_by_script script table
