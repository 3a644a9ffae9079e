-- The variable program of a script: for each block the instructions, uses and assignments that were called while it
-- was current, in order. It has variables, and no parameters for them. Sealing and layout are no part of it. Own;
-- what variables mean is from the documentation of Cranelift's `FunctionBuilder`.
use Rattle.std.specs.Prelude.{ℕ, suc, if◌then◌else◌, List, [], ◌∷◌, ◌++◌, map, Option, Some, None, fold}
use Rattle.clif_types.specs.declared.types.«Type».{«Type»}
use Rattle.clif_opcodes.specs.Kinds.{result_type}
use Rattle.clif_tables.specs.Callees.{types_of}
use Rattle.clif_meaning.specs.Instruction.{Edge, Operation, operation_returns, operation_typing, Instruction}
use Rattle.clif_meaning.specs.Name.{Name, answer_of, same_name}
use Rattle.clif_meaning.specs.Request.{Request, CreateBlock, SwitchToBlock, SealBlock, SealAllBlocks, InsertBlockAfter, SetColdBlock, EnsureInsertedBlock, AppendBlockParams, AppendFunctionParams, DeclareVar, DefVar, UseVar, MakeEntry, MakeEdge, MakeJumpTable, MakeExceptionTable, Annotate, NeedStackMap, Build, ChangeJumpDestination, Finalize, Script}

-- the types of an instruction's results, at the controlling type: by its row of the typing table, and those of what a plain
-- call gives
abbrev pub result_types : Operation → «Type» → List «Type»
result_types operation ty = map (result_type ty) (operation_typing operation).results ++ types_of (operation_returns operation)

-- the answers to the call at this place from this one on, as many as types
abbrev pub answers_from : ℕ → ℕ → List «Type» → List Name
answers_from place index [] = []
answers_from place index (ty ∷ types) = answer_of place index ∷ answers_from place (suc index) types

-- the names of the results of an instruction that was built at this place: they follow its number
abbrev pub result_names : ℕ → Instruction Name Name → List Name
result_names place instruction = answers_from place 1 (result_types instruction.operation instruction.controlling)

pub data Item : Type 0 where
  -- the instruction that was built at this place of the script, and the names of its results
  Instruct : (place : ℕ) → Instruction Name Name → (results : List Name) → Item
  -- the name gets the bits of the variable
  Use : (variable : ℕ) (name : Name) → Item
  -- the variable gets the bits of the name
  Assign : (variable : ℕ) (name : Name) → Item

pub record Program : Type 0 where
  -- how many calls there were: the place of the next one
  pub place : ℕ
  pub current : Option Name
  -- the block that was current at the first call that put a block into the layout
  pub entry : Option Name
  -- the caller's parameters of each block
  pub parameters : Name → List Name
  pub items : Name → List Item

-- before the first call
abbrev pub empty_program : Program
empty_program = record { place = 0; current = None; entry = None; parameters = λ block. []; items = λ block. [] }

-- an item at the end of a block
abbrev pub with_item_at : Program → Option Name → Item → Program
with_item_at program None item = program
with_item_at program (Some block) item =
    record program { items = λ other. if same_name other block then program.items other ++ item ∷ [] else program.items other }

-- an item at the end of the current block
abbrev pub with_item : Program → Item → Program
with_item program item = with_item_at program program.current item

-- names at the end of the caller's parameters of a block
abbrev pub with_parameters : Program → Name → List Name → Program
with_parameters program block names =
    record program { parameters = λ other. if same_name other block then program.parameters other ++ names else program.parameters other }

-- the first of two blocks that there is
abbrev pub first_block : Option Name → Option Name → Option Name
first_block None block = block
first_block (Some entry) block = Some entry

-- the current block is put into the layout, and is the entry if it is the first one there
abbrev pub with_inserted : Program → Program
with_inserted program = record program { entry = first_block program.entry program.current }

-- an edge that leads to one block leads to another one, and passes what it passed
abbrev pub redirected_edge : (from to : Name) → Edge Name Name → Edge Name Name
redirected_edge from to edge = if same_name edge.target from then record edge { target = to } else edge

abbrev pub redirected_instruction : (from to : Name) → Instruction Name Name → Instruction Name Name
redirected_instruction from to instruction = record instruction { edges = map (redirected_edge from to) instruction.edges }

-- each edge of one branch does, wherever it stands
abbrev pub redirected_item : (branch from to : Name) → Item → Item
redirected_item branch from to (Instruct place instruction results) =
    Instruct place (if same_name (answer_of place 0) branch then redirected_instruction from to instruction else instruction) results
redirected_item branch from to (Use variable name) = Use variable name
redirected_item branch from to (Assign variable name) = Assign variable name

abbrev pub with_redirected : Program → (branch from to : Name) → Program
with_redirected program branch from to =
    record program { items = λ block. map (redirected_item branch from to) (program.items block) }

-- what a call adds, its place aside; a change of a branch's edges adds nothing, and changes an item
abbrev pub extended : Program → Request → Program
extended program CreateBlock = program
extended program (SwitchToBlock block) = record program { current = Some block }
extended program (SealBlock block) = program
extended program SealAllBlocks = program
extended program (InsertBlockAfter block after) = program
extended program (SetColdBlock block) = program
extended program EnsureInsertedBlock = with_inserted program
extended program (AppendBlockParams block types) = with_parameters program block (answers_from program.place 0 types)
extended program (AppendFunctionParams block types) = with_parameters program block (answers_from program.place 0 types)
extended program (DeclareVar ty) = program
extended program (DefVar variable value) = with_item program (Assign variable value)
extended program (UseVar variable) = with_item (with_inserted program) (Use variable (answer_of program.place 0))
extended program (MakeEntry entry) = program
extended program (MakeEdge edge) = program
extended program (MakeJumpTable default entries) = program
extended program (MakeExceptionTable signature normal items) = program
extended program (Annotate inside values) = program
extended program (NeedStackMap need) = program
extended program (Build entries instruction) =
    with_item (with_inserted program) (Instruct program.place instruction (result_names program.place instruction))
extended program (ChangeJumpDestination branch from to) = with_redirected program branch from to
extended program Finalize = program

-- the program with one more call
abbrev pub with_call : Program → Request → Program
with_call program request = record (extended program request) { place = suc program.place }

-- the variable program of a script
abbrev pub program_of : Script → Program
program_of script = fold with_call empty_program script
