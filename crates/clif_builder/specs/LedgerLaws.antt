-- What a ledger and requests say by names, where it agrees with a builder, as this crate's law functions state it. Own.
use Rattle.std.specs.Prelude.{◌≡◌, ℕ, ◌<◌, ◌==◌, List, [], ◌∷◌, ◌++◌, length, slice_get, Bool, Option, Some, true, false, ℤ}
use Rattle.clif_types.specs.declared.condcodes.IntCC.{IntCC}
use Rattle.clif_types.specs.declared.trapcode.TrapCode.{TrapCode}
use Rattle.clif_types.specs.MemFlags.{MemFlagsShape}
use Rattle.clif_opcodes.specs.declared.opcodes.BinaryOpcode.{BinaryOpcode}
use Rattle.clif_opcodes.specs.declared.opcodes.CondTrapOpcode.{CondTrapOpcode}
use Rattle.clif_opcodes.specs.declared.opcodes.FloatConstOpcode.{FloatConstOpcode}
use Rattle.clif_opcodes.specs.declared.opcodes.ConvertOpcode.{ConvertOpcode}
use Rattle.clif_opcodes.specs.declared.opcodes.PooledConstOpcode.TheVariants.{F128const, Vconst}
use Rattle.clif_opcodes.specs.declared.opcodes.StackOpcode.{StackOpcode}
use Rattle.clif_opcodes.specs.declared.opcodes.UnaryOpcode.{UnaryOpcode}
use Rattle.clif_types.specs.declared.types.«Type».TheVariants.{Invalid}
use Rattle.clif_instructions.specs.declared.block_call.BlockArg.{BlockArg}
use Rattle.clif_instructions.specs.declared.block_call.BlockCall.{BlockCall}
use Rattle.clif_instructions.specs.ExceptionTables.{ExceptionShape}
use Rattle.clif_instructions.specs.declared.instructions.InstructionData.{InstructionData}
use Rattle.clif_meaning.specs.Acceptance as request
use Rattle.clif_meaning.specs.Instruction.{Edge, Instruction}
use Rattle.clif_inst_builder.specs.Shapes.{edge_to, multi_ary, unary_imm}
use Rattle.clif_inst_builder.specs.Shapes as shape
use Rattle.clif_types.specs.declared.types.«Type».{«Type»}
use Rattle.clif_ir.specs.Body.{Body, value_at}
use Rattle.clif_instructions.specs.Members.{stands_in}
use Rattle.clif_meaning.specs.Name.{Name, same_name}
use Rattle.clif_meaning.specs.Request.{AnsweredCall, Annotate, Build, GivenEntry, MakeEdge, MakeExceptionTable, MakeJumpTable, Request, TableItem}
use Rattle.clif_meaning.specs.Ledger.{BlockState, ExceptionTable, block_state, has_block, is_inserted, type_of, unserved_edges, unserved_exceptions, variable_type}
use Rattle.clif_types.specs.Signature.{SignatureShape}
use Rattle.clif_builder.specs.Calls.{answered}
use Rattle.clif_builder.specs.Context.{ContextState}
use Rattle.clif_builder.specs.StandsFor.{StandsIn}
use Rattle.clif_builder.specs.Ledger.{AgreesIn, BlockAgrees, HasShape, LedgerAgrees, NamesBlock, NamesEdge, NamesEdges, NamesExceptions, NamesValue, NamesValues, block_name, ledger_of, value_type, was_touched}
use Rattle.clif_builder.specs.Marks.{IsUnused}

-- this request asks for an instruction of this shape, made at this type
abbrev pub AsksForShape : List AnsweredCall → Body → Request → InstructionData → «Type» → Type 0
AsksForShape calls f asked shape ty =
    (entries : List GivenEntry) × (instruction : Instruction Name Name) × (asked ≡ Build entries instruction) × HasShape calls f instruction shape ty

-- The request of each format, with names of its operands, asks for the shape that the method of the format builds.
pub record AskForTheirShapes (calls : List AnsweredCall) (f : Body) : Type 0 where
  pub iconst : (ty : «Type») (imm : ℤ) → AsksForShape calls f (request.iconst ty imm) (unary_imm imm) ty
  pub unary : (opcode : UnaryOpcode) (a : Name) (x : ℕ) → NamesValue calls a x
      → AsksForShape calls f (request.unary (ledger_of calls) opcode a) (shape.unary opcode x) (value_at f x).ty
  pub binary : (opcode : BinaryOpcode) (a b : Name) (x y : ℕ) → NamesValue calls a x → NamesValue calls b y
      → AsksForShape calls f (request.binary (ledger_of calls) opcode a b) (shape.binary opcode x y) (value_at f x).ty
  pub convert : (opcode : ConvertOpcode) (ty : «Type») (a : Name) (x : ℕ) → NamesValue calls a x
      → AsksForShape calls f (request.convert opcode ty a) (shape.convert opcode x) ty
  pub select : (condition a b : Name) (c x y : ℕ) → NamesValue calls condition c → NamesValue calls a x → NamesValue calls b y
      → AsksForShape calls f (request.select (ledger_of calls) condition a b) (shape.ternary c x y) (value_at f x).ty
  pub float_const : (opcode : FloatConstOpcode) (bits : ℕ) → AsksForShape calls f (request.float_const opcode bits) (shape.unary_ieee opcode bits) Invalid
  -- of a constant that has these bytes
  pub f128const : (bytes : List ℕ) (constant : ℕ) → slice_get f.tables.constants constant ≡ Some bytes
      → AsksForShape calls f (request.pooled_const F128const Invalid bytes) (shape.unary_const F128const constant) Invalid
  pub vconst : (ty : «Type») (bytes : List ℕ) (constant : ℕ) → slice_get f.tables.constants constant ≡ Some bytes
      → AsksForShape calls f (request.pooled_const Vconst ty bytes) (shape.unary_const Vconst constant) ty
  pub compare : (condition : IntCC) (a b : Name) (x y : ℕ) → NamesValue calls a x → NamesValue calls b y
      → AsksForShape calls f (request.compare (ledger_of calls) condition a b) (shape.int_compare condition x y) (value_at f x).ty
  pub concat : (a b : Name) (x y : ℕ) → NamesValue calls a x → NamesValue calls b y
      → AsksForShape calls f (request.concat (ledger_of calls) a b) (shape.concat x y) (value_at f x).ty
  pub split : (a : Name) (x : ℕ) → NamesValue calls a x
      → AsksForShape calls f (request.split (ledger_of calls) a) (shape.split x) (value_at f x).ty
  pub load : (flags : MemFlagsShape) (ty : «Type») (a : Name) (x : ℕ) (offset : ℤ) → NamesValue calls a x
      → AsksForShape calls f (request.load flags ty a offset) (shape.load flags x offset) ty
  pub store : (flags : MemFlagsShape) (a b : Name) (x y : ℕ) (offset : ℤ) → NamesValue calls a x → NamesValue calls b y
      → AsksForShape calls f (request.store (ledger_of calls) flags a b offset) (shape.store flags x y offset) Invalid
  pub stack : (opcode : StackOpcode) (ty : «Type») (slot : ℕ) (offset : ℤ)
      → AsksForShape calls f (request.stack opcode ty slot offset) (shape.stack opcode slot offset) ty
  pub stack_store : (a : Name) (x slot : ℕ) (offset : ℤ) → NamesValue calls a x
      → AsksForShape calls f (request.stack_store (ledger_of calls) a slot offset) (shape.stack_store x slot offset) Invalid
  pub trap : (code : TrapCode) → AsksForShape calls f (request.trap code) (shape.trap code) Invalid
  pub cond_trap : (opcode : CondTrapOpcode) (a : Name) (x : ℕ) (code : TrapCode) → NamesValue calls a x
      → AsksForShape calls f (request.cond_trap (ledger_of calls) opcode a code) (shape.cond_trap opcode x code) Invalid
  pub jump : (edge : Edge Name Name) (block : ℕ) (args : List BlockArg) → NamesEdge calls edge (edge_to block args)
      → AsksForShape calls f (request.jump edge) (shape.jump block args) Invalid
  pub brif : (condition : Name) (c : ℕ) (first second : Edge Name Name) (taken other : BlockCall)
      → NamesValue calls condition c → NamesEdge calls first taken → NamesEdge calls second other
      → AsksForShape calls f (request.brif (ledger_of calls) condition first second) (shape.brif c taken other) Invalid
  -- of a table with these edges
  pub br_table : (index : Name) (x number : ℕ) (edges : List (Edge Name Name)) (table : List BlockCall)
      → NamesValue calls index x → unserved_edges (ledger_of calls) number ≡ Some edges → NamesEdges calls edges table
      → AsksForShape calls f (request.br_table (ledger_of calls) index number) (shape.branch_table x table) Invalid
  pub call_function : (function : ℕ) (names : List Name) (values : List ℕ) → NamesValues calls names values
      → AsksForShape calls f (request.call_function (ledger_of calls) function names) (shape.call function values) Invalid
  pub call_indirect : (signature : ℕ) (callee : Name) (address : ℕ) (names : List Name) (values : List ℕ)
      → NamesValue calls callee address → NamesValues calls names values
      → AsksForShape calls f (request.call_indirect (ledger_of calls) signature callee names) (shape.call_indirect signature address values) Invalid
  pub try_call : (function number : ℕ) (names : List Name) (values : List ℕ) (held : ExceptionTable) (table : ExceptionShape)
      → NamesValues calls names values → unserved_exceptions (ledger_of calls) number ≡ Some held → NamesExceptions calls held table
      → AsksForShape calls f (request.try_call (ledger_of calls) function names number) (shape.try_call function values table) Invalid
  pub try_call_indirect : (number : ℕ) (callee : Name) (address : ℕ) (names : List Name) (values : List ℕ) (held : ExceptionTable) (table : ExceptionShape)
      → NamesValue calls callee address → NamesValues calls names values → unserved_exceptions (ledger_of calls) number ≡ Some held
      → NamesExceptions calls held table
      → AsksForShape calls f (request.try_call_indirect (ledger_of calls) callee names number) (shape.try_call_indirect address values table) Invalid
  pub return_ : (names : List Name) (values : List ℕ) → NamesValues calls names values
      → AsksForShape calls f (request.return_ names) (multi_ary values) Invalid

-- Edges, jump tables and exception tables that a list makes add nothing to what a builder stands for: they reach the function
-- with the instruction that they serve. The numbers of tables count those of the list.
pub record TableCallsAddNothing : Type 0 where
  pub edge_ledger : (calls : List AnsweredCall) (f : Body) (c : ContextState) (position : Option ℕ) (edge : Edge Name Name) (number : ℕ)
      → AgreesIn calls f c position → AgreesIn (calls ++ answered (MakeEdge edge) (number ∷ []) ∷ []) f c position
  pub edge : (signature : SignatureShape) (calls : List AnsweredCall) (f : Body) (c : ContextState) (position : Option ℕ) (edge : Edge Name Name) (number : ℕ)
      → StandsIn signature calls f c position → StandsIn signature (calls ++ answered (MakeEdge edge) (number ∷ []) ∷ []) f c position
  pub table_ledger : (calls : List AnsweredCall) (f : Body) (c : ContextState) (position : Option ℕ) (default : Name) (entries : List Name) (number : ℕ)
      → number ≡ length (ledger_of calls).jump_tables → AgreesIn calls f c position
      → AgreesIn (calls ++ answered (MakeJumpTable default entries) (number ∷ []) ∷ []) f c position
  pub table : (signature : SignatureShape) (calls : List AnsweredCall) (f : Body) (c : ContextState) (position : Option ℕ) (default : Name) (entries : List Name) (number : ℕ)
      → number ≡ length (ledger_of calls).jump_tables → StandsIn signature calls f c position
      → StandsIn signature (calls ++ answered (MakeJumpTable default entries) (number ∷ []) ∷ []) f c position
  pub exceptions_ledger : (calls : List AnsweredCall) (f : Body) (c : ContextState) (position : Option ℕ) (callee : ℕ) (normal : Name) (items : List TableItem) (number : ℕ)
      → number ≡ length (ledger_of calls).exception_tables → AgreesIn calls f c position
      → AgreesIn (calls ++ answered (MakeExceptionTable callee normal items) (number ∷ []) ∷ []) f c position
  pub exceptions : (signature : SignatureShape) (calls : List AnsweredCall) (f : Body) (c : ContextState) (position : Option ℕ) (callee : ℕ) (normal : Name) (items : List TableItem) (number : ℕ)
      → number ≡ length (ledger_of calls).exception_tables → StandsIn signature calls f c position
      → StandsIn signature (calls ++ answered (MakeExceptionTable callee normal items) (number ∷ []) ∷ []) f c position

-- Nor do the notes that a list makes.
pub record NotesAddNothing : Type 0 where
  pub ledger : (calls : List AnsweredCall) (f : Body) (c : ContextState) (position : Option ℕ) (inside : Bool) (values : List Name)
      → AgreesIn calls f c position → AgreesIn (calls ++ answered (Annotate inside values) [] ∷ []) f c position
  pub stands : (signature : SignatureShape) (calls : List AnsweredCall) (f : Body) (c : ContextState) (position : Option ℕ) (inside : Bool) (values : List Name)
      → StandsIn signature calls f c position → StandsIn signature (calls ++ answered (Annotate inside values) [] ∷ []) f c position

-- They do where the ledger agrees with a builder's parts.
abbrev pub RequestsAskForTheirShapes : Type 0
RequestsAskForTheirShapes =
    (calls : List AnsweredCall) (f : Body) (c : ContextState) (position : Option ℕ)
    → LedgerAgrees calls (ledger_of calls) f c position → AskForTheirShapes calls f

-- the state that the ledger finds by a block's name is that of the block with this number
pub record IsStateOf (calls : List AnsweredCall) (f : Body) (c : ContextState) (block : ℕ) (name : Name) : Type 0 where
  pub state : BlockState
  pub found : block_state (ledger_of calls) name ≡ Some state
  pub agrees : BlockAgrees calls f c block state

-- What the ledger of the calls says of a name, this function and this context say of the name's number.
pub record IsReadByNumber (calls : List AnsweredCall) (f : Body) (c : ContextState) : Type 0 where
  -- a block exists, has one name, and is in the layout where its name is
  pub exists : (block : ℕ) (name : Name) → block_name (ledger_of calls) block ≡ Some name → block < length f.blocks
  pub state : (block : ℕ) (name : Name) → block_name (ledger_of calls) block ≡ Some name → IsStateOf calls f c block name
  pub same : (j k : ℕ) (a b : Name) → block_name (ledger_of calls) j ≡ Some a → block_name (ledger_of calls) k ≡ Some b → same_name a b ≡ (j == k)
  pub inserted : (block : ℕ) (name : Name) → block_name (ledger_of calls) block ≡ Some name → is_inserted (ledger_of calls) name ≡ stands_in block f.layout
  -- a name of a block is that of a block of the ledger, and it is the one with the name's number
  pub numbered : (name : Name) → has_block (ledger_of calls) name ≡ true → (block : ℕ) × (block_name (ledger_of calls) block ≡ Some name)
  pub named : (name : Name) (block : ℕ) → NamesBlock calls name block → block_name (ledger_of calls) block ≡ Some name
  -- a value has one type, by its name and by its number, and so has a variable
  pub value : (name : Name) (value : ℕ) → NamesValue calls name value → (ty : «Type») × (type_of (ledger_of calls) name ≡ Some ty) × (value_type f value ≡ Some ty)
  pub variable : (variable : ℕ) → variable_type (ledger_of calls) variable ≡ slice_get c.variables variable
  pub variable_count : length (ledger_of calls).variables ≡ length c.variables
  -- a variable that no call used or assigned has no record in any block, and no number has one that isn't declared
  pub unused : (variable : ℕ) → was_touched (slice_get (ledger_of calls).variables variable) ≡ false → IsUnused c variable

-- It is so where the ledger agrees with a builder's parts.
abbrev pub LedgerIsReadByNumber : Type 0
LedgerIsReadByNumber =
    (calls : List AnsweredCall) (f : Body) (c : ContextState) (position : Option ℕ) → LedgerAgrees calls (ledger_of calls) f c position → IsReadByNumber calls f c
