-- The calls of a script, as the builder sees them: what is asked, with earlier answers by their names. After the
-- methods of Cranelift's `FunctionBuilder`. A variable is known by its number, and by nothing else.
use Rattle.std.specs.Prelude.{ℕ, List, map, Option, slice_get, option_and_then, Bool, true, false}
use Rattle.clif_types.specs.declared.types.«Type».{«Type»}
use Rattle.clif_instructions.specs.Instruction.{EntryRef}
use Rattle.clif_tables.specs.Entries.{TableEntry}
use Rattle.clif_meaning.specs.Instruction.{Edge, Instruction}
use Rattle.clif_meaning.specs.Name.{Name}

-- An entry of a table that an instruction is given by its number. A jump table or an exception table serves it from then on, and
-- no other. Any other entry of the function's tables, be it a function, a signature, a stack slot or a constant, is imported, and
-- may be given to any number of them; calls give functions and signatures alone.
pub data GivenEntry : Type 0 where
  ServedBy : (table : ℕ) → GivenEntry
  TriedBy : (table : ℕ) → GivenEntry
  Imported : EntryRef → GivenEntry

-- an item of an exception table: the edge that an exception with a tag takes, or any other exception, or the context of the
-- tags that follow
pub data TableItem : Type 0 where
  TagTo : (tag : ℕ) (edge : Name) → TableItem
  DefaultTo : (edge : Name) → TableItem
  InContext : (value : Name) → TableItem

-- What stack maps are asked to name, by which a moving collector finds what it moves: each value that a variable gets, or one value.
pub data StackMapNeed : Type 0 where
  OfVariable : (variable : ℕ) → StackMapNeed
  OfValue : (value : Name) → StackMapNeed

pub data Request : Type 0 where
  CreateBlock : Request
  SwitchToBlock : (block : Name) → Request
  SealBlock : (block : Name) → Request
  SealAllBlocks : Request
  -- the block comes behind the other one in the layout
  InsertBlockAfter : (block after : Name) → Request
  SetColdBlock : (block : Name) → Request
  EnsureInsertedBlock : Request
  -- parameters of the caller's at the end of those of a block: it answers them, in order
  AppendBlockParams : (block : Name) (types : List «Type») → Request
  -- the same with the function's parameters
  AppendFunctionParams : (block : Name) (types : List «Type») → Request
  DeclareVar : (ty : «Type») → Request
  DefVar : (variable : ℕ) (value : Name) → Request
  UseVar : (variable : ℕ) → Request
  -- an entry at the end of its table in the function. It is known by its number there, and by nothing else.
  MakeEntry : TableEntry → Request
  -- an edge to a block, with what it passes, for a table
  MakeEdge : Edge Name Name → Request
  -- a jump table of edges that were made. It is known by its number among the jump tables.
  MakeJumpTable : (default : Name) (entries : List Name) → Request
  -- an exception table of a signature that is known by its number, and of edges that were made: the one along which a call
  -- returns, and those of the items. It is known by its number among the exception tables.
  MakeExceptionTable : (signature : ℕ) (normal : Name) (items : List TableItem) → Request
  -- A note on these values, or on none: a place in the source or a label for a debugger, or, inside a block, a copy of no bytes. The
  -- function means the same with it.
  Annotate : (inside : Bool) (values : List Name) → Request
  -- stack maps name this where it is live across a call: it is tracked
  NeedStackMap : StackMapNeed → Request
  -- an instruction at the end of the current block, with the entries that it is given. It answers its number, and then its
  -- results.
  Build : (entries : List GivenEntry) → Instruction Name Name → Request
  -- the edges of a branch that lead to one block lead to another one
  ChangeJumpDestination : (branch from to : Name) → Request
  -- the end of every script
  Finalize : Request

-- a script: calls in their order
abbrev pub Script : Type 0
Script = List Request

-- A call as it is made: a request, and whether it is only tried, as by `try_use_var` and `try_def_var`. One that is only
-- tried is refused where its variable is to blame, and the request itself would be a misuse; else the two are the same.
pub record Attempt : Type 0 where
  pub request : Request
  pub is_tried : Bool

abbrev pub outright : Request → Attempt
outright request = record { request = request; is_tried = false }

abbrev pub tried : Request → Attempt
tried request = record { request = request; is_tried = true }

-- a call together with the numbers that the builder answered
pub record AnsweredCall : Type 0 where
  pub request : Request
  pub numbers : List ℕ

-- the script of answered calls
abbrev pub script_of : List AnsweredCall → Script
script_of calls = map (λ call. call.request) calls

-- the number that answered a name
abbrev pub number_of : List AnsweredCall → Name → Option ℕ
number_of calls name = option_and_then (λ call. slice_get call.numbers name.index) (slice_get calls name.place)
