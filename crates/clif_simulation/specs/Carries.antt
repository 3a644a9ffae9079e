-- When a function, with the state of its construction, carries a list of calls: its blocks hold the program's
-- instructions in order, operands and contexts being the answers of the names, with only zeros before them, whatever the program is;
-- and the state on paths is sound where the entry is free. Its edges may pass more than the program's: arguments for
-- variables. Source: own.
use Rattle.std.specs.Prelude.{◌≡◌, ◌≢◌, ◌<◌, ◌⊎◌, ℕ, suc, List, [], ◌∷◌, length, map, flat_map, Some, None, IsTrue, Contains, false}
use Rattle.std.specs.List.{AllByRecursion}
use Rattle.clif_types.specs.declared.types.«Type».{«Type»}
use Rattle.clif_instructions.specs.declared.block_call.BlockArg.{BlockArg}
use Rattle.clif_ir.specs.Body.{Body}
use Rattle.clif_ir.specs.Changes.{with_param}
use Rattle.clif_tables.specs.Lists.{stack_map_at}
use Rattle.clif_instructions.specs.Members.{stands_in}
use Rattle.clif_ssa.specs.Own.{Own}
use Rattle.clif_ssa.specs.Ssa.{SsaState, predecessors_of, Declares, SameBlocks, SamePredecessors, SameRecords}
use Rattle.clif_ssa.specs.Sound.{Describes, CountsArguments, EntryIsFree, entry_of, edge_target}
use Rattle.clif_ssa.specs.Structured.{HasType, Structured, VariableTypes}
use Rattle.clif_paths.specs.Places.{start}
use Rattle.clif_paths.specs.Blocks.{Blocks}
use Rattle.clif_paths.specs.BlockLaws.{BlocksSound}
use Rattle.clif_meaning.specs.Name.{Name, answer_of}
use Rattle.clif_meaning.specs.Request.{AnsweredCall, script_of}
use Rattle.clif_meaning.specs.Ledger.{AnInstruction, BlockState, answer_at, ledger_after, has_value, is_filled, type_of, variable_type}
use Rattle.clif_meaning.specs.Instruction.{Instruction, Argument, Known, CallResult, CallPayload, Edge}
use Rattle.clif_meaning.specs.Program.{Item, Instruct, Use, Assign}
use Rattle.clif_meaning.specs.FunctionView.{Placed}
use Rattle.clif_meaning.specs.Typing.{call_shape}
use Rattle.clif_meaning.specs.View.{argument_of, placed_of}
use Rattle.clif_simulation.specs.Tracks.{TracksOnPaths}
use Rattle.clif_simulation.specs.Tables.{code, answered, block_name, callers_parameters, program_so_far, IsProgramOf}

-- what an edge passes, and an edge, with numbers in place of names
abbrev pub answered_argument : List AnsweredCall → Argument Name → Argument ℕ
answered_argument calls (Known name) = Known (answered calls name)
answered_argument calls (CallResult index) = CallResult index
answered_argument calls (CallPayload index) = CallPayload index

abbrev pub answered_edge : List AnsweredCall → Edge Name Name → Edge ℕ ℕ
answered_edge calls edge = record { target = answered calls edge.target; arguments = map (answered_argument calls) edge.arguments }

-- an instruction, with numbers in place of names
abbrev pub answered_instruction : List AnsweredCall → Instruction Name Name → Instruction ℕ ℕ
answered_instruction calls instruction = record {
  operation = instruction.operation;
  controlling = instruction.controlling;
  operands = map (answered calls) instruction.operands;
  contexts = map (answered calls) instruction.contexts;
  edges = map (answered_edge calls) instruction.edges;
}

-- What an item is in the function: an instruction with its results, or nothing. No call gives an instruction a stack map.
abbrev pub carried : List AnsweredCall → Item → List Placed
carried calls (Instruct place instruction results) =
    record { instruction = answered_instruction calls instruction; results = map (answered calls) results; stack_map = [] } ∷ []
carried calls (Use variable name) = []
carried calls (Assign variable name) = []

-- edges, of which the first has this number, with what the caller passed in place of what they pass
abbrev pub as_passed : (ℕ → List BlockArg) → ℕ → List (Edge ℕ ℕ) → List (Edge ℕ ℕ)
as_passed passed k [] = []
as_passed passed k (edge ∷ edges) = record edge { arguments = map argument_of (passed k) } ∷ as_passed passed (suc k) edges

-- an instruction of the caller's as the machine sees it, but that its edges pass what the caller passed: arguments for
-- variables are put behind that
abbrev pub own_placed : Own → Body → ℕ → Placed
own_placed own f inst =
    let placed = placed_of f inst in
    record placed { instruction = record placed.instruction { edges = as_passed (own.passed inst) 0 placed.instruction.edges } }

-- a block's own instructions are those of the program's items, in order
abbrev pub HasItems : List AnsweredCall → Body → Own → Type 0
HasItems calls f own =
    (block : ℕ) (name : Name) → block_name calls block ≡ Some name
    → map (own_placed own f) (own.insts block) ≡ flat_map (carried calls) ((program_so_far calls).items name)

-- the entry of the layout is the program's
pub record HasEntry (calls : List AnsweredCall) (f : Body) : Type 0 where
  pub none : (program_so_far calls).entry ≡ None → entry_of f ≡ None
  pub some : (entry : Name) → (program_so_far calls).entry ≡ Some entry
      → (block : ℕ) × (entry_of f ≡ Some block) × (block_name calls block ≡ Some entry)

-- a name was answered
abbrev pub IsEarlier : List AnsweredCall → Name → Type 0
IsEarlier calls name = name.place < length calls

-- a name was answered by a value
abbrev pub IsValue : List AnsweredCall → Name → Type 0
IsValue calls name = IsTrue (has_value (ledger_after (script_of calls)) name)

-- a name was answered by an instruction
abbrev pub IsInstruction : List AnsweredCall → Name → Type 0
IsInstruction calls name = answer_at (ledger_after (script_of calls)) name ≡ Some AnInstruction

-- each branch that the ledger has as a predecessor of a block was answered by an instruction
abbrev pub LeadsBuilt : List AnsweredCall → Type 0
LeadsBuilt calls =
    AllByRecursion (λ (state : BlockState). AllByRecursion (IsInstruction calls) state.predecessors) (ledger_after (script_of calls)).blocks

-- Instructions that were answered are among so many, and no two names were answered by one.
pub record InstructionsApart (calls : List AnsweredCall) (count : ℕ) : Type 0 where
  pub exist : (name : Name) → IsInstruction calls name → answered calls name < count
  pub differ : (a b : Name) → IsInstruction calls a → IsInstruction calls b → answered calls a ≡ answered calls b → a ≡ b

-- the instruction that an item is, by its number
abbrev pub instruction_of : List AnsweredCall → Item → List ℕ
instruction_of calls (Instruct place instruction results) = answered calls (answer_of place 0) ∷ []
instruction_of calls (Use variable name) = []
instruction_of calls (Assign variable name) = []

-- it was answered by the call at its place
abbrev pub IsBuilt : List AnsweredCall → Item → Type 0
IsBuilt calls (Instruct place instruction results) = IsInstruction calls (answer_of place 0)
IsBuilt calls (Use variable name) = Unit {0}
IsBuilt calls (Assign variable name) = Unit {0}

-- a block's own instructions are the answers of its items, in order
abbrev pub OwnAnswers : List AnsweredCall → Own → Type 0
OwnAnswers calls own =
    (block : ℕ) (name : Name) → block_name calls block ≡ Some name
    → own.insts block ≡ flat_map (instruction_of calls) ((program_so_far calls).items name)

-- what an edge passes was answered by a value
abbrev pub PassesEarlier : List AnsweredCall → Argument Name → Type 0
PassesEarlier calls (Known name) = IsValue calls name
PassesEarlier calls (CallResult index) = Unit {0}
PassesEarlier calls (CallPayload index) = Unit {0}

-- the target of an edge was answered, and is the block with the number of its answer; what the edge passes was answered
pub record EdgeEarlier (calls : List AnsweredCall) (edge : Edge Name Name) : Type 0 where
  pub target : IsEarlier calls edge.target
  pub leads : block_name calls (answered calls edge.target) ≡ Some edge.target
  pub passes : AllByRecursion (PassesEarlier calls) edge.arguments

-- what an item names as an operand was answered by a value; what else it names, and what it gives, was answered
abbrev pub NamesEarlier : List AnsweredCall → Item → Type 0
NamesEarlier calls (Instruct place instruction results) =
    AllByRecursion (IsValue calls) instruction.operands × AllByRecursion (IsEarlier calls) results × AllByRecursion (EdgeEarlier calls) instruction.edges
    × AllByRecursion (IsEarlier calls) instruction.contexts
NamesEarlier calls (Use variable name) = IsEarlier calls name
NamesEarlier calls (Assign variable name) = IsEarlier calls name

-- an item makes no outside call
abbrev pub CallsNothing : Item → Type 0
CallsNothing (Instruct place instruction results) = call_shape instruction.operation ≡ None
CallsNothing (Use variable name) = Unit {0}
CallsNothing (Assign variable name) = Unit {0}

-- an instruction with edges is the last item of its block
abbrev pub EdgesEnd : List Item → Type 0
EdgesEnd [] = Unit {0}
EdgesEnd (Instruct place instruction results ∷ rest) = ((instruction.edges ≡ []) ⊎ (rest ≡ [])) × EdgesEnd rest
EdgesEnd (Use variable name ∷ rest) = EdgesEnd rest
EdgesEnd (Assign variable name ∷ rest) = EdgesEnd rest

-- no instruction has a stack map
abbrev pub HasNoMaps : Body → Type 0
HasNoMaps f = (inst : ℕ) → stack_map_at f.tables inst ≡ []

-- the caller's instructions exist
abbrev pub OwnExist : Body → (ℕ → List ℕ) → Type 0
OwnExist f own = (block : ℕ) → AllByRecursion (λ inst. inst < length f.insts) (own block)

-- only blocks that have a name have instructions of the caller's
abbrev pub OwnNamed : List AnsweredCall → (ℕ → List ℕ) → Type 0
OwnNamed calls own = (block : ℕ) → block_name calls block ≡ None → own block ≡ []

-- a block outside the layout has no instructions of the caller's
abbrev pub OwnInserted : Body → (ℕ → List ℕ) → Type 0
OwnInserted f own = (block : ℕ) → stands_in block f.layout ≡ false → own block ≡ []

-- an instruction of the caller's is declared at each block that one of its edges leads to
abbrev pub AreDeclared : Body → SsaState → (ℕ → List ℕ) → Type 0
AreDeclared f s own =
    (block inst k target : ℕ) → Contains (own block) inst → edge_target f inst k ≡ Some target → Contains (predecessors_of s target) inst

-- each branch that leads to a block has an edge to it
abbrev pub HaveEdges : Body → SsaState → Type 0
HaveEdges f s = (target inst : ℕ) → Contains (predecessors_of s target) inst → (k : ℕ) × (edge_target f inst k ≡ Some target)

-- the caller's parameters of each block are the values that answered the program's, in order
abbrev pub OwnParameters : List AnsweredCall → Own → Type 0
OwnParameters calls own = (block : ℕ) → own.params block ≡ map (answered calls) (callers_parameters calls (block_name calls block))

-- what the ledger of the calls has as a value of a type was answered by one of that type
abbrev pub ValuesTyped : List AnsweredCall → Body → Type 0
ValuesTyped calls f = (name : Name) (ty : «Type») → type_of (ledger_after (script_of calls)) name ≡ Some ty → HasType f (answered calls name) ty

-- what the ledger of the calls has as a value is given by an item, or as a block is entered
abbrev pub ValuesGiven : List AnsweredCall → Blocks → Type 0
ValuesGiven calls blocks = (name : Name) → IsTrue (has_value (ledger_after (script_of calls)) name) → (blocks.naming (code name)).home ≢ start

-- no branch leads to any block
abbrev pub NothingLeads : SsaState → Type 0
NothingLeads s = (block : ℕ) → predecessors_of s block ≡ []

-- Blocks have different names, which were answered before, and only blocks have items and parameters.
pub record NamesBlocks (calls : List AnsweredCall) : Type 0 where
  pub distinct : (b c : ℕ) (name : Name) → block_name calls b ≡ Some name → block_name calls c ≡ Some name → b ≡ c
  pub earlier : (block : ℕ) (name : Name) → block_name calls block ≡ Some name → name.place < length calls
  pub only : (name : Name) → ((program_so_far calls).items name ≡ []) ⊎ ((block : ℕ) × (block_name calls block ≡ Some name))
  pub only_parameters : (name : Name) → ((program_so_far calls).parameters name ≡ []) ⊎ ((block : ℕ) × (block_name calls block ≡ Some name))

-- Each branch that leads to a block is one of the caller's, in a block that has its terminator.
abbrev pub LeadsOwn : List AnsweredCall → Own → SsaState → Type 0
LeadsOwn calls own s =
    (target inst : ℕ) → Contains (predecessors_of s target) inst
    → (block : ℕ) × (name : Name) × Contains (own.insts block) inst × (block_name calls block ≡ Some name)
    × IsTrue (is_filled (ledger_after (script_of calls)) name)

-- the variables that the calls declare have these types
abbrev pub AreTypes : List AnsweredCall → VariableTypes → Type 0
AreTypes calls types = (x : ℕ) (ty : «Type») → variable_type (ledger_after (script_of calls)) x ≡ Some ty → types x ≡ ty

-- What the function holds of the calls, in every program. `own` is what the caller made.
pub record Holds (calls : List AnsweredCall) (own : Own) (f : Body) (s : SsaState) : Type 0 where
  pub blocks : NamesBlocks calls
  pub items : HasItems calls f own
  pub own_answers : OwnAnswers calls own
  pub items_built : (name : Name) → AllByRecursion (IsBuilt calls) ((program_so_far calls).items name)
  pub instructions : InstructionsApart calls (length f.insts)
  pub earlier : (name : Name) → AllByRecursion (NamesEarlier calls) ((program_so_far calls).items name)
  pub edges_end : (name : Name) → EdgesEnd ((program_so_far calls).items name)
  pub no_maps : HasNoMaps f
  pub own_exist : OwnExist f own.insts
  pub own_named : OwnNamed calls own.insts
  pub own_inserted : OwnInserted f own.insts
  pub declared : AreDeclared f s own.insts
  pub leads_own : LeadsOwn calls own s
  pub have_edges : HaveEdges f s
  pub parameters : OwnParameters calls own
  pub parameters_values : (name : Name) → AllByRecursion (IsValue calls) ((program_so_far calls).parameters name)
  pub values_typed : ValuesTyped calls f
  pub entry : HasEntry calls f
  pub structured : (types : VariableTypes) → AreTypes calls types → Structured types own f s []

-- The state on paths is sound.
pub record SoundOnPaths (calls : List AnsweredCall) (own : Own) (f : Body) (s : SsaState) : Type 0 where
  pub tables : Blocks
  pub program : IsProgramOf calls tables
  pub values_given : ValuesGiven calls tables
  pub describes : Describes own f s [] tables
  pub sound : BlocksSound tables
  pub counts : CountsArguments own f s tables
  pub tracked : TracksOnPaths calls s tables

-- no edge of an item leads to this block
abbrev pub SparesBlock : Name → Item → Type 0
SparesBlock block (Instruct place instruction results) = AllByRecursion (λ (edge : Edge Name Name). edge.target ≢ block) instruction.edges
SparesBlock block (Use variable name) = Unit {0}
SparesBlock block (Assign variable name) = Unit {0}

-- no branch of the calls names their entry
abbrev pub SparesEntry : List AnsweredCall → Type 0
SparesEntry calls =
    (entry : Name) → (program_so_far calls).entry ≡ Some entry
    → (block : Name) → AllByRecursion (SparesBlock entry) ((program_so_far calls).items block)

-- The function carries the calls: it holds what they say, in every program; and the state on paths is sound where the
-- entry is free. It is where no branch names it, and while it is unsealed.
pub record Carries (calls : List AnsweredCall) (f : Body) (s : SsaState) : Type 0 where
  -- what the caller made
  pub own : Own
  pub holds : Holds calls own f s
  pub on_paths : EntryIsFree f s → SoundOnPaths calls own f s

-- one instruction is declared at each of these blocks in turn, once for each, and nothing else changes
abbrev pub DeclaredAlong : SsaState → ℕ → List ℕ → SsaState → Type 0
DeclaredAlong s inst [] t = SameRecords s t × SameBlocks s t × SamePredecessors s t
DeclaredAlong s inst (block ∷ blocks) t =
    (between : SsaState) × SameRecords s between × SameBlocks s between × Declares s between block inst × DeclaredAlong between inst blocks t

-- a function with parameters of these types at the end of those of a block, one after the other
abbrev pub with_params : Body → ℕ → List «Type» → Body
with_params f b [] = f
with_params f b (ty ∷ types) = with_params (with_param f b ty) b types

-- as many numbers as types, from this one on
abbrev pub numbers_from : ℕ → List «Type» → List ℕ
numbers_from n [] = []
numbers_from n (ty ∷ types) = n ∷ numbers_from (suc n) types

-- the current block, by its number and its name
pub record IsCurrent (calls : List AnsweredCall) (block : ℕ) (name : Name) : Type 0 where
  pub current : (program_so_far calls).current ≡ Some name
  pub named : block_name calls block ≡ Some name
