-- Parameters that the caller makes, by computation: a script whose entry takes the function's parameters and passes their
-- difference to a block, on both machines; and calls that may not be made. Own.
use Rattle.std.specs.Prelude.{◌≡◌, ℕ, zero, suc, List, [], ◌∷◌, Some, pos}
use Rattle.clif_types.specs.declared.types.«Type».TheVariants as type
use Rattle.clif_types.specs.declared.call_conv.CallConv.TheVariants.{SystemV}
use Rattle.clif_types.specs.Signature.{SignatureShape}
use Rattle.clif_meaning.specs.World.{World}
use Rattle.clif_meaning.specs.Instruction.{Binary, Compute, Return, Known}
use Rattle.clif_opcodes.specs.declared.opcodes.BinaryOpcode.TheVariants.{Isub}
use Rattle.clif_meaning.specs.Name.{answer_of}
use Rattle.clif_meaning.specs.Request.{CreateBlock, SwitchToBlock, SealBlock, AppendBlockParams, AppendFunctionParams, Build, Script}
use Rattle.clif_meaning.specs.Ledger.{ledger_after, type_of}
use Rattle.clif_meaning.specs.Program.{program_of}
use Rattle.clif_meaning.specs.Acceptance.{iconst, jump, return_, Accepted, Misuse, verdict_on}
use Rattle.clif_meaning.specs.FunctionView.{BlockView, FunctionView}
use Rattle.clif_meaning.specs.Headline.{script_behaviour, function_behaviour}
use Rattle.clif_meaning.specs.Examples.{i32, placed, ended_with}
use Rattle.clif_meaning.specs.BranchExamples.{block, going, no_block, passing, plain}

-- block0(x, y): jump to block1(x - y); block1(z): return z
abbrev pub difference_script : Script
difference_script =
    CreateBlock ∷ CreateBlock ∷ AppendFunctionParams (block 0) (i32 ∷ i32 ∷ []) ∷ AppendBlockParams (block 1) (i32 ∷ [])
    ∷ SwitchToBlock (block 0) ∷ SealBlock (block 0)
    ∷ Build [] (record { operation = Compute (Binary Isub); controlling = i32; operands = answer_of 2 0 ∷ answer_of 2 1 ∷ []; contexts = []; edges = [] })
    ∷ jump (record { target = block 1; arguments = Known (answer_of 6 1) ∷ [] })
    ∷ SealBlock (block 1) ∷ SwitchToBlock (block 1) ∷ return_ (answer_of 3 0 ∷ []) ∷ []

abbrev pub difference_signature : SignatureShape
difference_signature =
    record { params = record { value_type = i32 } ∷ record { value_type = i32 } ∷ []; returns = record { value_type = i32 } ∷ []; call_conv = SystemV }

-- the function of the script, whose entry has these parameters
abbrev pub difference_blocks : List ℕ → ℕ → BlockView
difference_blocks parameters zero =
    record { parameters = parameters; items = placed (Compute (Binary Isub)) i32 (0 ∷ 1 ∷ []) (3 ∷ []) ∷ going [] (passing 1 3 ∷ []) ∷ [] }
difference_blocks parameters (suc zero) = record { parameters = 2 ∷ []; items = placed Return type.Invalid (2 ∷ []) [] ∷ [] }
difference_blocks parameters (suc (suc number)) = no_block

abbrev pub difference_with : List ℕ → FunctionView
difference_with parameters = record {
  signature = difference_signature;
  entry = Some 0;
  blocks = difference_blocks parameters;
  resolved = λ v. v;
  value_type = λ v. i32;
  slots = [];
}

abbrev pub difference_function : FunctionView
difference_function = difference_with (0 ∷ 1 ∷ [])

-- a world that passes 9 and 4
abbrev pub passing_two : World → World
passing_two world = record world { arguments = 9 ∷ 4 ∷ [] }

pub record ParameterExamples : Type 0 where
  -- 9 less 4, on both machines; with the parameters in the other order the function answers another number
  pub script : (world : World) → script_behaviour difference_script difference_function (passing_two world) 3 ≡ ended_with (5 ∷ []) world
  pub function : (world : World) → function_behaviour difference_script difference_function (passing_two world) 3 ≡ ended_with (5 ∷ []) world
  pub turned : (world : World) → function_behaviour difference_script (difference_with (1 ∷ 0 ∷ [])) (passing_two world) 3 ≡ ended_with (4294967291 ∷ []) world
  pub accepted : verdict_on difference_script ≡ Accepted
  pub parameters : (program_of difference_script).parameters (block 0) ≡ answer_of 2 0 ∷ answer_of 2 1 ∷ []
  pub second : type_of (ledger_after difference_script) (answer_of 2 1) ≡ Some i32
  -- no parameters of a block that isn't there, or in which something was made
  pub no_block_there : verdict_on (AppendBlockParams (block 0) (i32 ∷ []) ∷ []) ≡ Misuse 0
  pub begun : verdict_on (CreateBlock ∷ SwitchToBlock (block 0) ∷ iconst i32 (pos 1) ∷ AppendBlockParams (block 0) (i32 ∷ []) ∷ []) ≡ Misuse 3
  -- nor the function's, of a block to which a branch leads
  pub led_to : verdict_on (CreateBlock ∷ CreateBlock ∷ SwitchToBlock (block 0) ∷ jump (plain (block 1)) ∷ AppendFunctionParams (block 1) (i32 ∷ []) ∷ []) ≡ Misuse 4
