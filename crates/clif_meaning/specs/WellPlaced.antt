-- Well placed: what an item names was given before, on every path from the entry. The usual dominance of uses by
-- definitions, said by paths. An item names its operands and contexts before its results are given, and its edges'
-- arguments after; parameters are given as their block is entered.
use Rattle.std.specs.Prelude.{◌≡◌, ℕ, zero, suc, ◌+◌, ◌⊎◌, List, [], ◌∷◌, length, map, flat_map, Option, Some, None, slice_get, Contains}
use Rattle.clif_meaning.specs.Instruction.{Argument, Known, CallResult, CallPayload, Instruction, named_operands}
use Rattle.clif_meaning.specs.Name.{Name}
use Rattle.clif_meaning.specs.Program.{Item, Instruct, Use, Assign, Program}
use Rattle.clif_meaning.specs.FunctionView.{Placed, FunctionView}
use Rattle.clif_meaning.specs.Path.{Place, Flow, IsPath}

-- what blocks give and name: the graph, the parameters of each block, and of each place what it gives, what it names
-- before that, and what its edges pass after that
pub record Code (Block Thing : Type 0) : Type 0 where
  pub flow : Flow Block
  pub parameters : Block → List Thing
  pub gives : Place Block → List Thing
  pub names : Place Block → List Thing
  pub passes : Place Block → List Thing

-- the parameters that are given as a place is come to: its block's, where it is the first one
abbrev pub given_on_entry : {Block Thing : Type 0} → Code Block Thing → Block → ℕ → List Thing
given_on_entry code block zero = code.parameters block
given_on_entry code block (suc index) = []

-- given at a place of the path or as one of them was come to
abbrev pub IsGivenAlong : {Block Thing : Type 0} → Code Block Thing → Thing → List (Place Block) → Type 0
IsGivenAlong code x [] = ⊥
IsGivenAlong code x (p ∷ path) = Contains (code.gives p) x ⊎ Contains (given_on_entry code p.block p.index) x ⊎ IsGivenAlong code x path

-- given before the place on every path from the entry
abbrev pub IsGivenBefore : {Block Thing : Type 0} → Code Block Thing → Thing → Place Block → Type 0
IsGivenBefore {Block} code x q =
    (path : List (Place Block)) → IsPath code.flow (q ∷ path) → Contains (given_on_entry code q.block q.index) x ⊎ IsGivenAlong code x path

-- whatever a place names is given before it, and whatever its edges pass before it or by it
pub record IsWellPlaced {Block Thing : Type 0} (code : Code Block Thing) : Type 0 where
  pub named : (q : Place Block) (x : Thing) → Contains (code.names q) x → IsGivenBefore code x q
  pub passed : (q : Place Block) (x : Thing) → Contains (code.passes q) x → Contains (code.gives q) x ⊎ IsGivenBefore code x q

-- the operands among the arguments of an edge: what a try call gives is there on its own edges
abbrev pub known_argument : {Operand : Type 0} → Argument Operand → List Operand
known_argument (Known operand) = operand ∷ []
known_argument (CallResult index) = []
known_argument (CallPayload index) = []

-- the operands that an instruction's edges pass
abbrev pub passed_operands : {Block Operand : Type 0} → Instruction Block Operand → List Operand
passed_operands instruction = flat_map (λ edge. flat_map known_argument edge.arguments) instruction.edges

-- the blocks that an instruction's edges lead to
abbrev pub edge_targets : {Block Operand : Type 0} → Instruction Block Operand → List Block
edge_targets instruction = map (λ edge. edge.target) instruction.edges

-- Of an item of a script: the blocks that it leads to, what it gives, what it names, and what its edges pass. Variables
-- aren't names.
abbrev pub item_targets : Option Item → List Name
item_targets (Some (Instruct place instruction results)) = edge_targets instruction
item_targets _ = []

abbrev pub item_gives : Option Item → List Name
item_gives (Some (Instruct place instruction results)) = results
item_gives (Some (Use variable name)) = name ∷ []
item_gives (Some (Assign variable name)) = []
item_gives None = []

abbrev pub item_names : Option Item → List Name
item_names (Some (Instruct place instruction results)) = named_operands instruction
item_names (Some (Use variable name)) = []
item_names (Some (Assign variable name)) = name ∷ []
item_names None = []

abbrev pub item_passes : Option Item → List Name
item_passes (Some (Instruct place instruction results)) = passed_operands instruction
item_passes _ = []

-- the item at a place of a variable program
abbrev pub item_at : Program → Place Name → Option Item
item_at program p = slice_get (program.items p.block) p.index

abbrev pub program_flow : Program → Flow Name
program_flow program = record {
  entry = program.entry;
  size = λ block. length (program.items block);
  targets = λ p. item_targets (item_at program p);
}

-- the code of a variable program
abbrev pub program_code : Program → Code Name Name
program_code program = record {
  flow = program_flow program;
  parameters = program.parameters;
  gives = λ p. item_gives (item_at program p);
  names = λ p. item_names (item_at program p);
  passes = λ p. item_passes (item_at program p);
}

-- Of an instruction of a function: the same, operands after their aliases.
abbrev pub placed_targets : Option Placed → List ℕ
placed_targets None = []
placed_targets (Some placed) = edge_targets placed.instruction

abbrev pub placed_gives : Option Placed → List ℕ
placed_gives None = []
placed_gives (Some placed) = placed.results

abbrev pub placed_names : (ℕ → ℕ) → Option Placed → List ℕ
placed_names resolved None = []
placed_names resolved (Some placed) = map resolved (named_operands placed.instruction)

abbrev pub placed_passes : (ℕ → ℕ) → Option Placed → List ℕ
placed_passes resolved None = []
placed_passes resolved (Some placed) = map resolved (passed_operands placed.instruction)

abbrev pub placed_at : FunctionView → Place ℕ → Option Placed
placed_at function p = slice_get (function.blocks p.block).items p.index

abbrev pub function_flow : FunctionView → Flow ℕ
function_flow function = record {
  entry = function.entry;
  size = λ block. length (function.blocks block).items;
  targets = λ p. placed_targets (placed_at function p);
}

-- the code of a function
abbrev pub function_code : FunctionView → Code ℕ ℕ
function_code function = record {
  flow = function_flow function;
  parameters = λ block. (function.blocks block).parameters;
  gives = λ p. placed_gives (placed_at function p);
  names = λ p. placed_names function.resolved (placed_at function p);
  passes = λ p. placed_passes function.resolved (placed_at function p);
}

-- in a function: on every path from the entry a value, after aliases, is defined before each operand, each
-- context of a try call and each argument of an edge that names it
abbrev pub WellPlaced : FunctionView → Type 0
WellPlaced function = IsWellPlaced (function_code function)

-- given before the end of the block, on every path from the entry that comes there
abbrev pub IsGivenBeforeEnd : {Block Thing : Type 0} → Code Block Thing → Thing → Block → Type 0
IsGivenBeforeEnd {Block} code x block =
    (p : Place Block) (path : List (Place Block)) → p.block ≡ block → p.index + 1 ≡ code.flow.size block → IsPath code.flow (p ∷ path) → IsGivenAlong code x (p ∷ path)

-- what a builder knows beside its function: the values that it recorded for variables at the end of each block, and the
-- values that answered uses, each at the place of the first instruction behind the use
pub record Records : Type 0 where
  pub recorded : (block : ℕ) → List ℕ
  pub answered : Place ℕ → List ℕ

-- In a function: on every path from the entry a record's value, after aliases, is defined before its block's end, and a
-- use's answer before that use.
pub record RecordsWellPlaced (function : FunctionView) (records : Records) : Type 0 where
  pub at_end : (block value : ℕ) → Contains (records.recorded block) value → IsGivenBeforeEnd (function_code function) (function.resolved value) block
  pub at_use : (p : Place ℕ) (value : ℕ) → Contains (records.answered p) value → IsGivenBefore (function_code function) (function.resolved value) p
