-- How a builder agrees with the ledger of the calls that were made on it: what the ledger tells of answers, blocks,
-- layout and variables is what the builder answered and its queries answer. Own.
use Rattle.std.specs.Prelude.{◌≡◌, ℕ, ◌≤◌, List, [], ◌∷◌, length, map, slice_get, Option, Some, None, option_map, Bool, Contains, false, not, IsTrue, Result, Ok, Err}
use Rattle.std.specs.List.{AllByRecursion}
use Rattle.clif_types.specs.declared.types.«Type».{«Type»}
use Rattle.clif_instructions.specs.declared.instructions.InstructionData.{InstructionData}
use Rattle.clif_instructions.specs.declared.block_call.BlockArg.{BlockArg}
use Rattle.clif_instructions.specs.declared.block_call.BlockArg.TheVariants as arg
use Rattle.clif_instructions.specs.declared.block_call.BlockCall.{BlockCall}
use Rattle.clif_instructions.specs.ExceptionTables.{ExceptionShape, contexts_of}
use Rattle.clif_instructions.specs.Instruction.{contexts, destinations, operands, result_types}
use Rattle.clif_meaning.specs.Instruction.{Argument, CallPayload, CallResult, Edge, Instruction, Known}
use Rattle.clif_meaning.specs.View.{call_item_of, made_at, operation_of}
use Rattle.clif_tables.specs.Lists.{TableLists}
use Rattle.clif_nodes.specs.declared.nodes.ValueNode.{ValueNode}
use Rattle.clif_nodes.specs.declared.nodes.InstNode.{InstNode}
use Rattle.clif_ir.specs.Body.{Body, block_at}
use Rattle.clif_meaning.specs.Name.{Name, answer_of}
use Rattle.clif_meaning.specs.Request.{AnsweredCall, script_of, number_of}
use Rattle.clif_meaning.specs.Ledger.{Answered, ABlock, AVariable, AValue, AnInstruction, AnEntry, AnEdge, AJumpTable, AnExceptionTable, BlockState, ExceptionTable, Ledger, VariableState, ledger_after, answer_at, has_block, has_instruction, has_value, is_marked}
use Rattle.clif_meaning.specs.Tracked.{TracksNothing}
use Rattle.clif_meaning.specs.Acceptance.{Refusal}
use Rattle.clif_meaning.specs.Acceptance as refusal
use Rattle.clif_records.specs.Tables.{is_yes}
use Rattle.clif_records.specs.Tracking.{marked_of}
use Rattle.clif_types.specs.EntitySet.{has}
use Rattle.clif_ssa.specs.Own.{Own}
use Rattle.clif_ssa.specs.LookUp.{branch_block}
use Rattle.clif_ssa.specs.Ssa.{predecessors_of, sealed_of}
use Rattle.clif_simulation.specs.Carries.{IsValue}
use Rattle.clif_builder.specs.declared.context.BlockStatus.TheVariants.{Empty}
use Rattle.clif_builder.specs.declared.error.FinalizeError.{FinalizeError}
use Rattle.clif_builder.specs.declared.error.FinalizeError.TheVariants as error
use Rattle.clif_builder.specs.declared.builder.FunctionBuilder.{FunctionBuilder}
use Rattle.clif_builder.specs.Context.{ContextState, status_of}
pub use Rattle.clif_builder.specs.Order.{AloneUnlessBegun, AreTypesOf, IsBegun, IsEnded, IsStructured}
use Rattle.clif_builder.specs.Builder.{is_empty_status, is_filled_status}
use Rattle.clif_builder.specs.Recorded.{RecordsExactly}
use Rattle.clif_builder.specs.Counted.{CountsCalls}
use Rattle.clif_builder.specs.Tracking.{IsUntracked}

-- the ledger of answered calls
abbrev pub ledger_of : List AnsweredCall → Ledger
ledger_of calls = ledger_after (script_of calls)

-- The variables that calls marked are marked, and of a function with these values exactly what calls ask for is recorded. Where
-- no call asks for stack maps nothing is recorded.
pub record TracksAgree (calls : List AnsweredCall) (values : List ValueNode) (c : ContextState) : Type 0 where
  pub marks : (variable : ℕ) → is_marked (ledger_of calls) variable ≡ has (marked_of c.ssa.tracking) variable
  pub exactly : RecordsExactly calls values c.ssa
  pub untracked : TracksNothing (script_of calls) → IsUntracked c

-- the name of the block with this number: blocks are numbered as they were created
abbrev pub block_name : Ledger → ℕ → Option Name
block_name ledger k = option_map (λ (state : BlockState). state.block) (slice_get ledger.blocks k)

-- the type of the value with this number, if it exists
abbrev pub value_type : Body → ℕ → Option «Type»
value_type f v = option_map (λ (node : ValueNode). node.ty) (slice_get f.values v)

-- a name of the block with this number
pub record NamesBlock (calls : List AnsweredCall) (name : Name) (block : ℕ) : Type 0 where
  pub number : number_of calls name ≡ Some block
  pub is_block : IsTrue (has_block (ledger_of calls) name)

-- a name of the value with this number
pub record NamesValue (calls : List AnsweredCall) (name : Name) (value : ℕ) : Type 0 where
  pub number : number_of calls name ≡ Some value
  pub is_value : IsTrue (has_value (ledger_of calls) name)

-- names of these values, in order
pub record NamesValues (calls : List AnsweredCall) (names : List Name) (values : List ℕ) : Type 0 where
  pub numbers : map (number_of calls) names ≡ map Some values
  pub are_values : AllByRecursion (IsValue calls) names

-- a name of the instruction with this number
pub record NamesInstruction (calls : List AnsweredCall) (name : Name) (inst : ℕ) : Type 0 where
  pub number : number_of calls name ≡ Some inst
  pub is_instruction : IsTrue (has_instruction (ledger_of calls) name)

-- names of what an edge passes, in order
abbrev pub NamesArgument : List AnsweredCall → Argument Name → BlockArg → Type 0
NamesArgument calls (Known name) (arg.Value value) = NamesValue calls name value
NamesArgument calls (CallResult index) (arg.TryCallRet place) = index ≡ place
NamesArgument calls (CallPayload index) (arg.TryCallExn place) = index ≡ place
NamesArgument calls _ _ = ⊥

abbrev pub NamesArguments : List AnsweredCall → List (Argument Name) → List BlockArg → Type 0
NamesArguments calls [] [] = Unit {0}
NamesArguments calls (argument ∷ arguments) (arg ∷ args) = NamesArgument calls argument arg × NamesArguments calls arguments args
NamesArguments calls _ _ = ⊥

-- names of an edge: of its target and of what it passes
pub record NamesEdge (calls : List AnsweredCall) (edge : Edge Name Name) (call : BlockCall) : Type 0 where
  pub target : NamesBlock calls edge.target call.block
  pub arguments : NamesArguments calls edge.arguments call.args

abbrev pub NamesEdges : List AnsweredCall → List (Edge Name Name) → List BlockCall → Type 0
NamesEdges calls [] [] = Unit {0}
NamesEdges calls (edge ∷ edges) (made ∷ others) = NamesEdge calls edge made × NamesEdges calls edges others
NamesEdges calls _ _ = ⊥

-- names of what an exception table holds: of its edges, and of its contexts like those of what an edge passes
pub record NamesExceptions (calls : List AnsweredCall) (held : ExceptionTable) (table : ExceptionShape) : Type 0 where
  pub signature : held.signature ≡ table.sig
  pub items : held.items ≡ map call_item_of table.items
  pub edges : NamesEdges calls held.edges table.edges
  pub contexts : NamesArguments calls (map Known held.contexts) (map arg.Value (contexts_of table))

-- the instruction, with the numbers that answered the names in it, is of this shape and made at this type
pub record HasShape (calls : List AnsweredCall) (f : Body) (instruction : Instruction Name Name) (shape : InstructionData) (ty : «Type») : Type 0 where
  pub operation : instruction.operation ≡ operation_of f.tables shape
  pub controlling : instruction.controlling ≡ made_at f shape ty
  -- its results have the types that they have at that type: the two differ only where an operand tells the type, and the
  -- results' types follow from the one that is given
  pub typed : result_types shape ty ≡ result_types shape (made_at f shape ty)
  pub operands_named : NamesValues calls instruction.operands (operands shape)
  pub contexts_numbered : map (number_of calls) instruction.contexts ≡ map Some (contexts shape)
  pub edges : NamesEdges calls instruction.edges (destinations shape)

-- a block of the ledger is the builder's block with number `k`, is sealed, pristine and filled exactly where that one
-- is, is cold where that one is in the function, and has the same predecessors in the same order
pub record BlockAgrees (calls : List AnsweredCall) (f : Body) (c : ContextState) (k : ℕ) (state : BlockState) : Type 0 where
  pub number : number_of calls state.block ≡ Some k
  pub is_sealed : state.is_sealed ≡ is_yes (sealed_of c.ssa k)
  pub is_pristine : state.is_pristine ≡ is_empty_status (status_of c k)
  pub is_filled : state.is_filled ≡ is_filled_status (status_of c k)
  pub is_cold : state.is_cold ≡ (block_at f k).is_cold
  pub predecessors : map (number_of calls) state.predecessors ≡ map Some (predecessors_of c.ssa k)

-- an answer of the ledger with this name is the builder's answer with this number: the block that the ledger has
-- under the name, the variable, the entry of a table, the jump table or exception table, an existing value of the type, an existing instruction. An
-- edge has no number of the builder's: any will do.
abbrev pub AnswerAgrees : Ledger → Body → Name → Answered → ℕ → Type 0
AnswerAgrees ledger f name ABlock number = block_name ledger number ≡ Some name
AnswerAgrees ledger f name (AVariable variable) number = number ≡ variable
AnswerAgrees ledger f name (AValue ty) number = value_type f number ≡ Some ty
AnswerAgrees ledger f name (AnEntry entry place) number = number ≡ place
AnswerAgrees ledger f name (AnEdge edge) number = Unit {0}
AnswerAgrees ledger f name (AJumpTable place) number = number ≡ place
AnswerAgrees ledger f name (AnExceptionTable place) number = number ≡ place
AnswerAgrees ledger f name AnInstruction number = (node : InstNode) × (slice_get f.insts number ≡ Some node)

-- what follows the number of an instruction are its results, all of them and in order
abbrev pub ResultsFollow : Body → List Answered → List ℕ → Type 0
ResultsFollow f (AnInstruction ∷ answers) (inst ∷ numbers) =
    (node : InstNode) × (slice_get f.insts inst ≡ Some node) × (numbers ≡ node.results)
ResultsFollow f _ _ = Unit {0}

-- the answers of the ledger to the call at this place are the builder's, with these numbers
pub record AnswersAgree (ledger : Ledger) (f : Body) (place : ℕ) (answers : List Answered) (numbers : List ℕ) : Type 0 where
  pub count : length numbers ≡ length answers
  pub each : (index : ℕ) (answer : Answered) (number : ℕ) → slice_get answers index ≡ Some answer → slice_get numbers index ≡ Some number
      → AnswerAgrees ledger f (answer_of place index) answer number
  pub results : ResultsFollow f answers numbers

-- these values have these types, in order
abbrev pub HaveTypes : Body → List ℕ → List «Type» → Type 0
HaveTypes f values types = map (value_type f) values ≡ map Some types

-- the tables whose entries calls of a list make. Constants, jump tables and exception tables are none: an instruction has its
-- constant's bytes and what its table holds itself. Nor are the labels of values, which mean nothing to a run
abbrev pub tables_of_calls : TableLists → TableLists
tables_of_calls tables = record tables { constants = []; jump_tables = []; exception_tables = []; value_labels = None }

-- whether a call used or assigned the variable with this state, if there is one
abbrev pub was_touched : Option VariableState → Bool
was_touched None = false
was_touched (Some state) = state.is_touched

-- a variable was declared, and no call used or assigned it
abbrev pub is_new : Option VariableState → Bool
is_new None = false
is_new (Some state) = not state.is_touched

abbrev pub never_touched : Ledger → ℕ → Bool
never_touched ledger variable = is_new (slice_get ledger.variables variable)

-- the types of the variables, in order, and which were used or assigned
pub record VariablesAgree (states : List VariableState) (c : ContextState) : Type 0 where
  pub types : map (λ (state : VariableState). state.ty) states ≡ c.variables
  pub touched : (variable : ℕ) → was_touched (slice_get states variable) ≡ has c.touched variable

-- a ledger of calls agrees with the parts of a builder: its function, its context and its current block
pub record LedgerAgrees (calls : List AnsweredCall) (ledger : Ledger) (f : Body) (c : ContextState) (position : Option ℕ) : Type 0 where
  -- each call is in the ledger, with its answers
  pub places : length ledger.answers ≡ length calls
  pub answers : (place : ℕ) (call : AnsweredCall) (answers : List Answered) → slice_get calls place ≡ Some call → slice_get ledger.answers place ≡ Some answers
      → AnswersAgree ledger f place answers call.numbers
  -- each block is in the ledger, in its place
  pub block_count : length ledger.blocks ≡ length f.blocks
  pub blocks : (k : ℕ) (state : BlockState) → slice_get ledger.blocks k ≡ Some state → BlockAgrees calls f c k state
  pub block_answers : (k : ℕ) (name : Name) → block_name ledger k ≡ Some name → answer_at ledger name ≡ Some ABlock
  -- the current block, and the blocks of the layout in their order: one has the name, the other the number
  pub current : option_map Some ledger.current ≡ option_map (block_name ledger) position
  pub layout : map Some ledger.layout ≡ map (block_name ledger) f.layout
  pub variables : VariablesAgree ledger.variables c
  -- stack slots, signatures, functions and so on
  pub tables : ledger.tables ≡ tables_of_calls f.tables
  -- what is asked for of stack maps
  pub tracks : TracksAgree calls f.values c
  -- how many values and instructions there are
  pub counts : CountsCalls calls f c
  -- what the caller made, and beside it parameters, edges and records in order
  pub own : Own
  pub structured : IsStructured own f c
  -- the caller's parameters of each block have the types that the ledger has for it
  pub callers_types : (k : ℕ) (state : BlockState) → slice_get ledger.blocks k ≡ Some state → HaveTypes f (own.params k) state.parameters
  pub callers_alone : (block : ℕ) → AloneUnlessBegun own f c block
  -- a branch that leads somewhere ends a block of the layout
  pub branches : (block branch : ℕ) → Contains (predecessors_of c.ssa block) branch → IsEnded f c (branch_block f branch)
  -- a block that doesn't exist yet is neither sealed nor begun, and nothing leads to it
  pub fresh : (k : ℕ) → length f.blocks ≤ k → (is_yes (sealed_of c.ssa k) ≡ false) × (status_of c k ≡ Empty) × (predecessors_of c.ssa k ≡ [])

-- the ledger of the calls agrees with these parts of a builder
abbrev pub AgreesIn : List AnsweredCall → Body → ContextState → Option ℕ → Type 0
AgreesIn calls f c position = LedgerAgrees calls (ledger_of calls) f c position

-- the ledger of the calls that were made on a builder agrees with it
abbrev pub AgreesWithLedger : {R : Type 0} → List AnsweredCall → FunctionBuilder R → Type 0
AgreesWithLedger calls b = LedgerAgrees calls (ledger_of calls) b.func.now b.ctx.now.parts b.position

-- what `finalize` answers is the refusal of the ledger, with the number of the block
abbrev pub RefusalAgrees : List AnsweredCall → Option Refusal → Result (Unit {0}) FinalizeError → Type 0
RefusalAgrees calls None result = result ≡ Ok tt
RefusalAgrees calls (Some (refusal.Unsealed name)) result =
    (block : ℕ) × (number_of calls name ≡ Some block) × (result ≡ Err (error.Unsealed block))
RefusalAgrees calls (Some (refusal.Unfilled name)) result =
    (block : ℕ) × (number_of calls name ≡ Some block) × (result ≡ Err (error.Unfilled block))
