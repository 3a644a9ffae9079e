-- The rows `sample` and `sample_late`, by computation: the documented example of the crate whose behaviour this one has,
-- a loop over three variables, sealed as soon as may be or all at once, on both machines; and a loop that names, in a later
-- block, what it read in an earlier one.
-- Source: the documentation of cranelift-frontend; the functions are from the project's worked examples.
use Rattle.std.specs.Prelude.{◌≡◌, ℕ, zero, suc, ◌+◌, ◌^◌, List, [], ◌∷◌, map, Some, pos, negsuc, ◌==◌, if◌then◌else◌}
use Rattle.clif_types.specs.declared.types.«Type».TheVariants as type
use Rattle.clif_types.specs.declared.call_conv.CallConv.TheVariants.{SystemV}
use Rattle.clif_types.specs.Signature.{SignatureShape}
use Rattle.clif_meaning.specs.World.{World}
use Rattle.clif_meaning.specs.Instruction.{Arithmetic, Iconst, Binary, Compute, Return, Known, Edge}
use Rattle.clif_opcodes.specs.declared.opcodes.BinaryOpcode.TheVariants.{Iadd, Isub}
use Rattle.clif_meaning.specs.Name.{Name, answer_of}
use Rattle.clif_meaning.specs.Request.{Request, CreateBlock, SwitchToBlock, SealBlock, SealAllBlocks, AppendFunctionParams, DeclareVar, DefVar, UseVar, Build, Script}
use Rattle.clif_meaning.specs.Acceptance.{iconst, jump, return_, Accepted, verdict_on}
use Rattle.clif_meaning.specs.FunctionView.{BlockView, FunctionView, Placed}
use Rattle.clif_meaning.specs.Headline.{script_behaviour, function_behaviour}
use Rattle.clif_meaning.specs.Examples.{i32, placed, ended_with}
use Rattle.clif_meaning.specs.BranchExamples.{block, branch, going, no_block, plain}

-- an instruction on two values of 32 bits
abbrev pub of_two : Arithmetic → Name → Name → Request
of_two arithmetic x y = Build [] (record { operation = Compute arithmetic; controlling = i32; operands = x ∷ y ∷ []; contexts = []; edges = [] })

-- block0(x): y = 2, z = x + y, jump to block1; block1: z = y + z, by y to block3 or block2; block2: z = z - x, returns y;
-- block3: y = y - x, jump to block1. Each block is sealed as soon as its branches are there.
abbrev pub sample_script : Script
sample_script =
    CreateBlock ∷ CreateBlock ∷ CreateBlock ∷ CreateBlock ∷ DeclareVar i32 ∷ DeclareVar i32 ∷ DeclareVar i32 ∷ AppendFunctionParams (block 0) (i32 ∷ [])
    ∷ SwitchToBlock (block 0) ∷ SealBlock (block 0) ∷ DefVar 0 (answer_of 7 0) ∷ iconst i32 (pos 2) ∷ DefVar 1 (answer_of 11 1)
    ∷ UseVar 0 ∷ UseVar 1 ∷ of_two (Binary Iadd) (answer_of 13 0) (answer_of 14 0) ∷ DefVar 2 (answer_of 15 1) ∷ jump (plain (block 1))
    ∷ SwitchToBlock (block 1) ∷ UseVar 1 ∷ UseVar 2 ∷ of_two (Binary Iadd) (answer_of 19 0) (answer_of 20 0) ∷ DefVar 2 (answer_of 21 1)
    ∷ UseVar 1 ∷ branch (answer_of 23 0) (block 3) (block 2)
    ∷ SwitchToBlock (block 2) ∷ SealBlock (block 2) ∷ UseVar 2 ∷ UseVar 0 ∷ of_two (Binary Isub) (answer_of 27 0) (answer_of 28 0) ∷ DefVar 2 (answer_of 29 1)
    ∷ UseVar 1 ∷ return_ (answer_of 31 0 ∷ [])
    ∷ SwitchToBlock (block 3) ∷ SealBlock (block 3) ∷ UseVar 1 ∷ UseVar 0 ∷ of_two (Binary Isub) (answer_of 35 0) (answer_of 36 0) ∷ DefVar 1 (answer_of 37 1)
    ∷ jump (plain (block 1)) ∷ SealBlock (block 1) ∷ []

-- the same, with all blocks sealed at the end
abbrev pub sample_late_script : Script
sample_late_script =
    CreateBlock ∷ CreateBlock ∷ CreateBlock ∷ CreateBlock ∷ DeclareVar i32 ∷ DeclareVar i32 ∷ DeclareVar i32 ∷ AppendFunctionParams (block 0) (i32 ∷ [])
    ∷ SwitchToBlock (block 0) ∷ DefVar 0 (answer_of 7 0) ∷ iconst i32 (pos 2) ∷ DefVar 1 (answer_of 10 1)
    ∷ UseVar 0 ∷ UseVar 1 ∷ of_two (Binary Iadd) (answer_of 12 0) (answer_of 13 0) ∷ DefVar 2 (answer_of 14 1) ∷ jump (plain (block 1))
    ∷ SwitchToBlock (block 1) ∷ UseVar 1 ∷ UseVar 2 ∷ of_two (Binary Iadd) (answer_of 18 0) (answer_of 19 0) ∷ DefVar 2 (answer_of 20 1)
    ∷ UseVar 1 ∷ branch (answer_of 22 0) (block 3) (block 2)
    ∷ SwitchToBlock (block 2) ∷ UseVar 2 ∷ UseVar 0 ∷ of_two (Binary Isub) (answer_of 25 0) (answer_of 26 0) ∷ DefVar 2 (answer_of 27 1)
    ∷ UseVar 1 ∷ return_ (answer_of 29 0 ∷ [])
    ∷ SwitchToBlock (block 3) ∷ UseVar 1 ∷ UseVar 0 ∷ of_two (Binary Isub) (answer_of 32 0) (answer_of 33 0) ∷ DefVar 1 (answer_of 34 1)
    ∷ jump (plain (block 1)) ∷ SealAllBlocks ∷ []

abbrev pub sample_signature : SignatureShape
sample_signature = record { params = record { value_type = i32 } ∷ []; returns = record { value_type = i32 } ∷ []; call_conv = SystemV }

-- an edge to block1 that passes these values
abbrev pub to_second : List ℕ → Edge ℕ ℕ
to_second values = record { target = 1; arguments = map Known values }

abbrev pub sum : ℕ → ℕ → ℕ → Placed
sum x y result = placed (Compute (Binary Iadd)) i32 (x ∷ y ∷ []) (result ∷ [])

abbrev pub difference : ℕ → ℕ → ℕ → Placed
difference x y result = placed (Compute (Binary Isub)) i32 (x ∷ y ∷ []) (result ∷ [])

abbrev pub two : Placed
two = placed (Compute (Iconst (pos 2))) i32 [] (1 ∷ [])

abbrev pub returns : ℕ → Placed
returns value = placed Return type.Invalid (value ∷ []) []

-- a function of the row's signature with these blocks and aliases
abbrev pub sample_with : (ℕ → BlockView) → (ℕ → ℕ) → FunctionView
sample_with blocks resolved =
    record { signature = sample_signature; entry = Some 0; blocks = blocks; resolved = resolved; value_type = λ v. i32; slots = [] }

-- the function of `sample`, with these edges of block1's branch:
--     block0(v0: i32):
--         v6 -> v0
--         v1 = iconst.i32 2
--         v2 = iadd v0, v1
--         jump block1(v1, v2)
--     block1(v3: i32, v4: i32):
--         v5 = iadd v3, v4
--         brif v3, block3, block2
--     block2:
--         v7 = isub v5, v6
--         return v3
--     block3:
--         v8 = isub v3, v6
--         jump block1(v8, v5)
abbrev pub sample_blocks : List (Edge ℕ ℕ) → ℕ → BlockView
sample_blocks arms zero = record { parameters = 0 ∷ []; items = two ∷ sum 0 1 2 ∷ going [] (to_second (1 ∷ 2 ∷ []) ∷ []) ∷ [] }
sample_blocks arms (suc zero) = record { parameters = 3 ∷ 4 ∷ []; items = sum 3 4 5 ∷ going (3 ∷ []) arms ∷ [] }
sample_blocks arms (suc (suc zero)) = record { parameters = []; items = difference 5 6 7 ∷ returns 3 ∷ [] }
sample_blocks arms (suc (suc (suc zero))) = record { parameters = []; items = difference 3 6 8 ∷ going [] (to_second (8 ∷ 5 ∷ []) ∷ []) ∷ [] }
sample_blocks arms (suc (suc (suc (suc number)))) = no_block

abbrev pub sample_function_to : List (Edge ℕ ℕ) → FunctionView
sample_function_to arms = sample_with (sample_blocks arms) (λ v. if v == 6 then 0 else v)

abbrev pub sample_function : FunctionView
sample_function = sample_function_to (plain 3 ∷ plain 2 ∷ [])

-- the function of `sample_late`:
--     block0(v0: i32):
--         v1 = iconst.i32 2
--         v2 = iadd v0, v1
--         jump block1(v1, v2, v0)
--     block1(v3: i32, v4: i32, v14: i32):
--         v9 -> v3, v10 -> v3, v7 -> v14, v11 -> v14
--         v5 = iadd v3, v4
--         v6 -> v5, v13 -> v5
--         brif v3, block3, block2
--     block2:
--         v8 = isub v6, v7
--         return v9
--     block3:
--         v12 = isub v10, v11
--         jump block1(v12, v13, v11)
abbrev pub sample_late_blocks : ℕ → BlockView
sample_late_blocks zero = record { parameters = 0 ∷ []; items = two ∷ sum 0 1 2 ∷ going [] (to_second (1 ∷ 2 ∷ 0 ∷ []) ∷ []) ∷ [] }
sample_late_blocks (suc zero) = record { parameters = 3 ∷ 4 ∷ 14 ∷ []; items = sum 3 4 5 ∷ going (3 ∷ []) (plain 3 ∷ plain 2 ∷ []) ∷ [] }
sample_late_blocks (suc (suc zero)) = record { parameters = []; items = difference 6 7 8 ∷ returns 9 ∷ [] }
sample_late_blocks (suc (suc (suc zero))) = record { parameters = []; items = difference 10 11 12 ∷ going [] (to_second (12 ∷ 13 ∷ 11 ∷ []) ∷ []) ∷ [] }
sample_late_blocks (suc (suc (suc (suc number)))) = no_block

abbrev pub late_resolved : ℕ → ℕ
late_resolved v =
    if v == 9 then 3 else (if v == 10 then 3 else (if v == 7 then 14 else (if v == 11 then 14 else (if v == 6 then 5 else (if v == 13 then 5 else v)))))

abbrev pub sample_late_function : FunctionView
sample_late_function = sample_with sample_late_blocks late_resolved

-- A reading that is named in a later block. block0(x): jump to block1; block1: n = x, by n to block2 or block3; block2:
-- x = x + (-1), jump to block1; block3 returns n.
abbrev pub reading_script : Script
reading_script =
    CreateBlock ∷ CreateBlock ∷ CreateBlock ∷ CreateBlock ∷ DeclareVar i32 ∷ AppendFunctionParams (block 0) (i32 ∷ [])
    ∷ SwitchToBlock (block 0) ∷ SealBlock (block 0) ∷ DefVar 0 (answer_of 5 0) ∷ jump (plain (block 1))
    ∷ SwitchToBlock (block 1) ∷ UseVar 0 ∷ branch (answer_of 11 0) (block 2) (block 3)
    ∷ SwitchToBlock (block 2) ∷ SealBlock (block 2) ∷ UseVar 0 ∷ iconst i32 (negsuc 0) ∷ of_two (Binary Iadd) (answer_of 15 0) (answer_of 16 1) ∷ DefVar 0 (answer_of 17 1)
    ∷ jump (plain (block 1)) ∷ SealBlock (block 1)
    ∷ SwitchToBlock (block 3) ∷ SealBlock (block 3) ∷ return_ (answer_of 11 0 ∷ []) ∷ []

--     block0(v0: i32):
--         jump block1(v0)
--     block1(v1: i32):
--         brif v1, block2, block3
--     block2:
--         v2 = iconst.i32 -1
--         v3 = iadd v1, v2
--         jump block1(v3)
--     block3:
--         return v1
abbrev pub reading_blocks : ℕ → BlockView
reading_blocks zero = record { parameters = 0 ∷ []; items = going [] (to_second (0 ∷ []) ∷ []) ∷ [] }
reading_blocks (suc zero) = record { parameters = 1 ∷ []; items = going (1 ∷ []) (plain 2 ∷ plain 3 ∷ []) ∷ [] }
reading_blocks (suc (suc zero)) =
    record {
      parameters = [];
      items = placed (Compute (Iconst (negsuc 0))) i32 [] (2 ∷ []) ∷ sum 1 2 3 ∷ going [] (to_second (3 ∷ []) ∷ []) ∷ [];
    }
reading_blocks (suc (suc (suc zero))) = record { parameters = []; items = returns 1 ∷ [] }
reading_blocks (suc (suc (suc (suc number)))) = no_block

abbrev pub reading_function : FunctionView
reading_function = sample_with reading_blocks (λ v. v)

-- a world that passes this number
abbrev pub passing_one : ℕ → World → World
passing_one argument world = record world { arguments = argument ∷ [] }

-- a script and a function answer 0 for this argument, in every world, after so many steps
pub record AnswerZero (script : Script) (function : FunctionView) (argument steps items : ℕ) : Type 0 where
  pub by_script : (world : World) → script_behaviour script function (passing_one argument world) steps ≡ ended_with (0 ∷ []) world
  pub by_function : (world : World) → function_behaviour script function (passing_one argument world) items ≡ ended_with (0 ∷ []) world

pub record SampleExamples : Type 0 where
  -- y goes 2, 1, 0, or at once to 0, also past the end of 32 bits
  pub sample_one : AnswerZero sample_script sample_function 1 42 15
  pub sample_two : AnswerZero sample_script sample_function 2 31 11
  pub sample_past : AnswerZero sample_script sample_function (2 ^ 31 + 1) 42 15
  pub late_one : AnswerZero sample_late_script sample_late_function 1 42 15
  pub late_two : AnswerZero sample_late_script sample_late_function 2 31 11
  pub late_past : AnswerZero sample_late_script sample_late_function (2 ^ 31 + 1) 42 15
  -- x counts down from 3
  pub reading : AnswerZero reading_script reading_function 3 26 15
  pub reading_accepted : verdict_on reading_script ≡ Accepted
  pub accepted : verdict_on sample_script ≡ Accepted
  pub late_accepted : verdict_on sample_late_script ≡ Accepted
  -- with swapped arms the function answers 2 at once
  pub swapped : (world : World) → function_behaviour sample_script (sample_function_to (plain 2 ∷ plain 3 ∷ [])) (passing_one 1 world) 7 ≡ ended_with (2 ∷ []) world
