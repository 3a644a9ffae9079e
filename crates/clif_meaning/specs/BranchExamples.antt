-- Branches, by computation: differences, the edge that a condition takes, and the row `both_arms` on both machines.
-- Own; the row is from the project's worked examples.
use Rattle.std.specs.Prelude.{◌≡◌, ◌≢◌, ◌-◌, ◌^◌, ℕ, zero, suc, List, [], ◌∷◌, Some, pos, negsuc}
use Rattle.clif_types.specs.declared.types.«Type».TheVariants as type
use Rattle.clif_types.specs.declared.call_conv.CallConv.TheVariants.{SystemV}
use Rattle.clif_types.specs.Signature.{SignatureShape}
use Rattle.clif_meaning.specs.World.{World}
use Rattle.clif_meaning.specs.Instruction.{Iconst, Binary, Compute, Jump, Brif, BrTable, Return, Known, Edge}
use Rattle.clif_opcodes.specs.declared.opcodes.BinaryOpcode.TheVariants.{Iadd, Isub}
use Rattle.clif_meaning.specs.Outcome.{Goes, Values, computed, outcome_of}
use Rattle.clif_meaning.specs.Name.{Name, answer_of}
use Rattle.clif_meaning.specs.Request.{Request, CreateBlock, SwitchToBlock, SealBlock, DeclareVar, DefVar, UseVar, MakeEdge, MakeJumpTable, Build, ServedBy, Script}
use Rattle.clif_meaning.specs.Acceptance.{iconst, jump, table_branch, return_, Accepted, Misuse, verdict_on}
use Rattle.clif_meaning.specs.FunctionView.{Placed, BlockView, FunctionView}
use Rattle.clif_meaning.specs.Typing.{EdgesMatch}
use Rattle.clif_meaning.specs.SameMeaning.{SameMeaning}
use Rattle.clif_meaning.specs.Headline.{script_behaviour, function_behaviour}
use Rattle.clif_meaning.specs.Examples.{i8, i32, invalid, placed, ended_with}

-- an edge that passes nothing
abbrev pub plain : {Block Operand : Type 0} → Block → Edge Block Operand
plain block = record { target = block; arguments = [] }

-- an edge that passes one value
abbrev pub passing : ℕ → ℕ → Edge ℕ ℕ
passing block value = record { target = block; arguments = Known value ∷ [] }

-- a branch of 32 bits
abbrev pub branch : Name → Name → Name → Request
branch condition taken other =
    Build [] (record { operation = Brif; controlling = i32; operands = condition ∷ []; contexts = []; edges = plain taken ∷ plain other ∷ [] })

abbrev pub block : ℕ → Name
block number = answer_of number 0

-- The row: block0: x = 5, jump to block1; block1: by x to block2 or block3; block2: x = x + (-1), by x to block1 or block1;
-- block3 returns x. block1 is sealed behind block2, the other ones as soon as their branches are there.
abbrev pub both_arms_script : Script
both_arms_script =
    CreateBlock ∷ CreateBlock ∷ CreateBlock ∷ CreateBlock ∷ DeclareVar i32
    ∷ SwitchToBlock (block 0) ∷ SealBlock (block 0) ∷ iconst i32 (pos 5) ∷ DefVar 0 (answer_of 7 1) ∷ jump (plain (block 1))
    ∷ SwitchToBlock (block 1) ∷ UseVar 0 ∷ branch (answer_of 11 0) (block 2) (block 3)
    ∷ SwitchToBlock (block 2) ∷ SealBlock (block 2) ∷ UseVar 0 ∷ iconst i32 (negsuc 0)
    ∷ Build [] (record { operation = Compute (Binary Iadd); controlling = i32; operands = answer_of 15 0 ∷ answer_of 16 1 ∷ []; contexts = []; edges = [] })
    ∷ DefVar 0 (answer_of 17 1) ∷ branch (answer_of 17 1) (block 1) (block 1) ∷ SealBlock (block 1)
    ∷ SwitchToBlock (block 3) ∷ SealBlock (block 3) ∷ UseVar 0 ∷ return_ (answer_of 23 0 ∷ []) ∷ []

abbrev pub no_block : BlockView
no_block = record { parameters = []; items = [] }

-- an instruction without results and stack map, at these edges
abbrev pub going : List ℕ → List (Edge ℕ ℕ) → Placed
going [] edges = record {
  instruction = record { operation = Jump; controlling = type.Invalid; operands = []; contexts = []; edges = edges };
  results = [];
  stack_map = [];
}
going (condition ∷ more) edges = record {
  instruction = record { operation = Brif; controlling = i32; operands = condition ∷ []; contexts = []; edges = edges };
  results = [];
  stack_map = [];
}

-- the function of the row, where block1 and block2 end in branches with these edges
abbrev pub both_arms_blocks : List (Edge ℕ ℕ) → List (Edge ℕ ℕ) → ℕ → BlockView
both_arms_blocks first second zero =
    record { parameters = []; items = placed (Compute (Iconst (pos 5))) i32 [] (0 ∷ []) ∷ going [] (passing 1 0 ∷ []) ∷ [] }
both_arms_blocks first second (suc zero) = record { parameters = 1 ∷ []; items = going (1 ∷ []) first ∷ [] }
both_arms_blocks first second (suc (suc zero)) =
    record {
      parameters = [];
      items = placed (Compute (Iconst (negsuc 0))) i32 [] (2 ∷ []) ∷ placed (Compute (Binary Iadd)) i32 (1 ∷ 2 ∷ []) (3 ∷ []) ∷ going (3 ∷ []) second ∷ [];
    }
both_arms_blocks first second (suc (suc (suc zero))) = record { parameters = []; items = placed Return type.Invalid (1 ∷ []) [] ∷ [] }
both_arms_blocks first second (suc (suc (suc (suc number)))) = no_block

abbrev pub both_arms_signature : SignatureShape
both_arms_signature = record { params = []; returns = record { value_type = i32 } ∷ []; call_conv = SystemV }

abbrev pub both_arms_with : List (Edge ℕ ℕ) → List (Edge ℕ ℕ) → FunctionView
both_arms_with first second = record {
  signature = both_arms_signature;
  entry = Some 0;
  blocks = both_arms_blocks first second;
  resolved = λ v. v;
  value_type = λ v. i32;
  slots = [];
}

abbrev pub both_arms_function : FunctionView
both_arms_function = both_arms_with (plain 2 ∷ plain 3 ∷ []) (passing 1 3 ∷ passing 1 3 ∷ [])

-- the argument stands on one arm alone
abbrev pub one_arm_function : FunctionView
one_arm_function = both_arms_with (plain 2 ∷ plain 3 ∷ []) (passing 1 3 ∷ plain 1 ∷ [])

-- the arms of the first branch are swapped
abbrev pub swapped_function : FunctionView
swapped_function = both_arms_with (plain 3 ∷ plain 2 ∷ []) (passing 1 3 ∷ passing 1 3 ∷ [])

-- by this name, along the one edge of the jump table, to block1
abbrev pub by_table : Name → Request
by_table index = Build (ServedBy 0 ∷ []) (table_branch index (plain (block 1) ∷ []))

-- two blocks branch by one jump table
abbrev pub served_twice : Script
served_twice =
    CreateBlock ∷ CreateBlock ∷ MakeEdge (plain (block 1)) ∷ MakeJumpTable (answer_of 2 0) [] ∷ SwitchToBlock (block 0)
    ∷ iconst i32 (pos 0) ∷ by_table (answer_of 5 1) ∷ CreateBlock ∷ SwitchToBlock (block 7) ∷ iconst i32 (pos 0)
    ∷ by_table (answer_of 9 1) ∷ []

pub record BranchExamples : Type 0 where
  pub difference : computed (Binary Isub) i8 [] (3 ∷ 5 ∷ []) ≡ Values (254 ∷ [])
  pub no_difference : computed (Binary Isub) i8 [] (200 ∷ 200 ∷ []) ≡ Values (0 ∷ [])
  pub taken : (world : World) → outcome_of world Brif i8 (i8 ∷ []) (7 ∷ []) world.memory ≡ Goes 0 [] world.memory
  pub other : (world : World) → outcome_of world Brif i8 (i8 ∷ []) (0 ∷ []) world.memory ≡ Goes 1 [] world.memory
  -- a table of two entries: index 1 takes the second of them, and 2 and -1 the default
  pub entry : (world : World) → outcome_of world (BrTable 2) invalid (i32 ∷ []) (1 ∷ []) world.memory ≡ Goes 2 [] world.memory
  pub past : (world : World) → outcome_of world (BrTable 2) invalid (i32 ∷ []) (2 ∷ []) world.memory ≡ Goes 0 [] world.memory
  pub greatest : (world : World) → outcome_of world (BrTable 2) invalid (i32 ∷ []) ((2 ^ 32 - 1) ∷ []) world.memory ≡ Goes 0 [] world.memory
  -- an index isn't the number of its edge
  pub not_default : (world : World) → outcome_of world (BrTable 2) invalid (i32 ∷ []) (0 ∷ []) world.memory ≢ Goes 0 [] world.memory
  -- the row answers 0 on both machines, in every world
  pub script : (world : World) → script_behaviour both_arms_script both_arms_function world 42 ≡ ended_with (0 ∷ []) world
  pub function : (world : World) → function_behaviour both_arms_script both_arms_function world 24 ≡ ended_with (0 ∷ []) world
  -- with swapped arms the function answers 5 at once, and doesn't mean what the row means
  pub swapped : (world : World) → function_behaviour both_arms_script swapped_function world 4 ≡ ended_with (5 ∷ []) world
  pub swapped_differs : (world : World) → SameMeaning (script_behaviour both_arms_script swapped_function world) (function_behaviour both_arms_script swapped_function world) → ⊥
  pub accepted : verdict_on both_arms_script ≡ Accepted
  pub edges_match : EdgesMatch both_arms_function
  pub one_arm : EdgesMatch one_arm_function → ⊥
  -- a table serves one instruction
  pub served_twice : verdict_on served_twice ≡ Misuse 10
  -- a jump to a sealed block
  pub sealed : verdict_on (CreateBlock ∷ SwitchToBlock (block 0) ∷ SealBlock (block 0) ∷ jump (plain (block 0)) ∷ []) ≡ Misuse 3
