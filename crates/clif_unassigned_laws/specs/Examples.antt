-- Worked examples of uses of unassigned variables, and what the laws refuse. Own.
use Rattle.std.specs.Prelude.{◌≡◌, ℕ, zero, suc, false, List, [], ◌∷◌, map, Some, pos}
use Rattle.clif_types.specs.Signature.{SignatureShape}
use Rattle.clif_types.specs.Target.{pointer_type_of}
use Rattle.clif_types.specs.declared.call_conv.CallConv.TheVariants.{SystemV}
use Rattle.clif_types.specs.declared.extname.ExternalName.{ExternalName}
use Rattle.clif_types.specs.declared.extname.ExternalName.TheVariants.{User}
use Rattle.clif_types.specs.declared.target.PointerWidth.TheVariants.{U64}
use Rattle.clif_types.specs.declared.types.«Type».TheVariants as type
use Rattle.clif_instructions.specs.Instruction.{AFunctionRef}
use Rattle.clif_tables.specs.Entries.{AFunction, ASignature, TableEntry}
use Rattle.clif_meaning.specs.Acceptance.{Accepted, iconst, jump, return_, verdict_on}
use Rattle.clif_meaning.specs.BranchExamples.{block, branch, going, no_block, passing, plain}
use Rattle.clif_meaning.specs.CallExamples.{i64}
use Rattle.clif_meaning.specs.Event.{CallShape, Event}
use Rattle.clif_meaning.specs.Examples.{empty_function, ended_with, first_function, first_script, first_signature, i32, moved_by_16, one_block, placed}
use Rattle.clif_meaning.specs.FunctionView.{BlockView, FunctionView, Placed}
use Rattle.clif_meaning.specs.Headline.{IsWorldOf, MeansTheSame, function_behaviour, script_behaviour, script_run}
use Rattle.clif_meaning.specs.Instruction.{Call, Compute, Iconst, Return}
use Rattle.clif_meaning.specs.Machine.{HasReturned, state_after}
use Rattle.clif_meaning.specs.Name.{Name, answer_of}
use Rattle.clif_meaning.specs.Premises.{Premises}
use Rattle.clif_meaning.specs.Program.{Use}
use Rattle.clif_meaning.specs.Request.{AppendFunctionParams, Build, CreateBlock, DeclareVar, DefVar, Imported, MakeEntry, NeedStackMap, OfVariable, Request, Script, SealAllBlocks, SealBlock, SwitchToBlock, UseVar}
use Rattle.clif_meaning.specs.SampleExamples.{passing_one}
use Rattle.clif_meaning.specs.ScriptMachine.{script_machine}
use Rattle.clif_meaning.specs.World.{World}
use Rattle.clif_unassigned_laws.specs.Laws.{ReadsZero, ReturnsZero}
use Rattle.clif_unassigned_laws.specs.Unassigned.{ComesTo, HoldsUnassigned, IsUnassigned, PassesName, ReturnsName, ScriptMachine, UsesUnassigned, held_after}

-- the script's machine, beside a function
abbrev pub machine_of : Script → FunctionView → World → ScriptMachine
machine_of script function world = script_machine (script_run script function world)

-- script and function return this number, after so many steps of each
pub record BothReturn (script : Script) (function : FunctionView) (bits steps items : ℕ) (world : World)
    : Type 0 where
  pub by_script : script_behaviour script function world steps ≡ ended_with (bits ∷ []) world
  pub by_function : function_behaviour script function world items ≡ ended_with (bits ∷ []) world

-- NEVER ASSIGNED ----------------------------------------------------------------------------------------------------------

-- a variable that is never assigned is returned
abbrev pub never_script : Script
never_script =
    CreateBlock ∷ SwitchToBlock (block 0) ∷ SealBlock (block 0) ∷ DeclareVar i32
    ∷ UseVar 0 ∷ return_ (answer_of 4 0 ∷ []) ∷ []

-- value `value` is this constant; it is returned
abbrev pub number : (constant value : ℕ) → Placed
number constant value = placed (Compute (Iconst (pos constant))) i32 [] (value ∷ [])

abbrev pub returning : (value : ℕ) → Placed
returning value = placed Return type.Invalid (value ∷ []) []

-- the finished function, with another constant for the zero:
--     block0:
--         v0 = iconst.i32 0
--         return v0
abbrev pub never_function_with : ℕ → FunctionView
never_function_with constant = record {
  signature = first_signature;
  entry = Some 0;
  blocks = one_block (number constant 0 ∷ returning 0 ∷ []);
  resolved = λ v. v;
  value_type = λ v. i32;
  slots = [];
}

abbrev pub never_function : FunctionView
never_function = never_function_with 0

abbrev pub never_machine : World → ScriptMachine
never_machine = machine_of never_script never_function

-- the machine, but variables hold this number at first
abbrev pub starting_with : ℕ → ScriptMachine → ScriptMachine
starting_with number machine =
    record machine { start = record machine.start { variables = λ v. number } }

pub record NeverAssigned : Type 0 where
  pub accepted : verdict_on never_script ≡ Accepted
  -- the function means what the script means; it has a world, and each world meets the premises
  pub a_world : (world : World) × IsWorldOf first_signature never_function U64 world
  pub premises : (world : World) → Premises never_script first_signature (pointer_type_of U64)
      (script_run never_script never_function world)
  pub means : MeansTheSame never_script first_signature U64 never_function
  -- the law speaks of what is returned, and both machines return zero
  pub unassigned : (world : World) → HoldsUnassigned (never_machine world) 1 0 (answer_of 4 0)
  pub returns : (world : World) → ReturnsName (never_machine world) 1 0 (answer_of 4 0)
  pub return_zero : (world : World) → BothReturn never_script never_function 0 2 2 world
  pub by_law : (world : World) → IsWorldOf first_signature never_function U64 world
      → ReturnsZero (function_behaviour never_script never_function world) 0
  -- a function with another number doesn't mean what the script means
  pub seven : MeansTheSame never_script first_signature U64 (never_function_with 7) → ⊥
  -- nor is the law true of a machine whose variables hold another number at first
  pub reads_seven : (world : World)
      → held_after (starting_with 7 (never_machine world)) 1 (answer_of 4 0) ≡ 7
  pub other_start : (world : World) → ReadsZero (starting_with 7 (never_machine world)) → ⊥

-- ON ONE PATH -------------------------------------------------------------------------------------------------------------

-- Block0 branches by its parameter to block1 or block2, and both jump to block3. Block1 assigns 5 to a
-- variable, block2 assigns nothing; block3 returns the variable.
abbrev pub path_script : Script
path_script =
    CreateBlock ∷ CreateBlock ∷ CreateBlock ∷ CreateBlock
    ∷ AppendFunctionParams (block 0) (i32 ∷ []) ∷ DeclareVar i32
    ∷ SwitchToBlock (block 0) ∷ branch (answer_of 4 0) (block 1) (block 2)
    ∷ SwitchToBlock (block 1) ∷ iconst i32 (pos 5) ∷ DefVar 0 (answer_of 9 1)
    ∷ jump (plain (block 3))
    ∷ SwitchToBlock (block 2) ∷ jump (plain (block 3))
    ∷ SwitchToBlock (block 3) ∷ UseVar 0 ∷ return_ (answer_of 15 0 ∷ []) ∷ SealAllBlocks ∷ []

abbrev pub with_items : (parameters : List ℕ) → List Placed → BlockView
with_items parameters items = record { parameters = parameters; items = items }

--     block0(v0: i32):
--         v1 = iconst.i32 0
--         brif v0, block1, block2
--     block1:
--         v2 = iconst.i32 5
--         jump block3(v2)
--     block2:
--         jump block3(v1)
--     block3(v3: i32):
--         return v3
abbrev pub path_blocks : ℕ → BlockView
path_blocks zero = with_items (0 ∷ []) (number 0 1 ∷ going (0 ∷ []) (plain 1 ∷ plain 2 ∷ []) ∷ [])
path_blocks (suc zero) = with_items [] (number 5 2 ∷ going [] (passing 3 2 ∷ []) ∷ [])
path_blocks (suc (suc zero)) = with_items [] (going [] (passing 3 1 ∷ []) ∷ [])
path_blocks (suc (suc (suc zero))) = with_items (3 ∷ []) (returning 3 ∷ [])
path_blocks (suc (suc (suc (suc block)))) = no_block

abbrev pub path_function : FunctionView
path_function = record {
  signature = record first_signature { params = record { value_type = i32 } ∷ [] };
  entry = Some 0;
  blocks = path_blocks;
  resolved = λ v. v;
  value_type = λ v. i32;
  slots = [];
}

-- in a world that passes this number
abbrev pub path_machine : ℕ → World → ScriptMachine
path_machine argument world = machine_of path_script path_function (passing_one argument world)

pub record OnOnePath : Type 0 where
  pub accepted : verdict_on path_script ≡ Accepted
  -- 0 takes the path without an assignment
  pub unassigned : (world : World) → UsesUnassigned (path_machine 0 world) 2 0 (answer_of 15 0)
  pub return_zero : (world : World) → BothReturn path_script path_function 0 4 4 (passing_one 0 world)
  -- 1 takes the other one, and the law doesn't speak of the use
  pub comes : (world : World) → ComesTo (path_machine 1 world) 4 (Use 0 (answer_of 15 0))
  pub assigned : (world : World) → IsUnassigned (path_machine 1 world) 4 0 → ⊥
  pub reads_five : (world : World) → held_after (path_machine 1 world) 5 (answer_of 15 0) ≡ 5
  pub return_five : (world : World) → BothReturn path_script path_function 5 6 5 (passing_one 1 world)

abbrev pub first_machine : World → ScriptMachine
first_machine = machine_of first_script first_function

-- The row `first` uses a variable, assigns it, and uses it again. The law speaks of the first use, also
-- behind the assignment, and not of the second one.
pub record BeforeAssigned : Type 0 where
  pub unassigned : (world : World) → HoldsUnassigned (first_machine world) 5 0 (answer_of 3 0)
  pub assigned : (world : World) → UsesUnassigned (first_machine world) 4 0 (answer_of 7 0) → ⊥
  pub reads_seven : (world : World) → held_after (first_machine world) 5 (answer_of 7 0) ≡ 7

-- IN A LOOP ---------------------------------------------------------------------------------------------------------------

-- Block1 uses a variable, assigns 5 to it, and branches by what the use read: back, or to block2, which
-- returns that.
abbrev pub loop_script : Script
loop_script =
    CreateBlock ∷ CreateBlock ∷ CreateBlock ∷ DeclareVar i32
    ∷ SwitchToBlock (block 0) ∷ jump (plain (block 1))
    ∷ SwitchToBlock (block 1) ∷ UseVar 0 ∷ iconst i32 (pos 5) ∷ DefVar 0 (answer_of 8 1)
    ∷ branch (answer_of 7 0) (block 2) (block 1)
    ∷ SwitchToBlock (block 2) ∷ return_ (answer_of 7 0 ∷ []) ∷ SealAllBlocks ∷ []

abbrev pub loop_machine : World → ScriptMachine
loop_machine = machine_of loop_script empty_function

-- The law speaks of what the use read at first, and not of what it reads the next time.
pub record InLoop : Type 0 where
  pub accepted : verdict_on loop_script ≡ Accepted
  pub at_first : (world : World) → HoldsUnassigned (loop_machine world) 5 0 (answer_of 7 0)
  pub comes : (world : World) → ComesTo (loop_machine world) 5 (Use 0 (answer_of 7 0))
  pub returns : (world : World) → ReturnsName (loop_machine world) 9 0 (answer_of 7 0)
  pub anew : (world : World) → HoldsUnassigned (loop_machine world) 9 0 (answer_of 7 0) → ⊥
  pub reads_five : (world : World) → held_after (loop_machine world) 9 (answer_of 7 0) ≡ 5

-- ACROSS A CALL -----------------------------------------------------------------------------------------------------------

abbrev pub takes_one : SignatureShape
takes_one = record { params = record { value_type = i64 } ∷ []; returns = []; call_conv = SystemV }

abbrev pub callee : ExternalName
callee = User (record { namespace = 0; index = 0 })

abbrev pub imported : TableEntry
imported = AFunction (record { name = callee; signature = 0; colocated = false; patchable = false })

abbrev pub calling : Name → Request
calling argument =
    Build (Imported (AFunctionRef 0) ∷ []) (record {
      operation = Call callee takes_one;
      controlling = type.Invalid;
      operands = argument ∷ [];
      contexts = [];
      edges = [];
    })

-- Stack maps are asked to name two variables. 64 is assigned to the second one, a use of the first one is
-- passed to a call, and behind it that use and the second variable are returned.
abbrev pub call_script : Script
call_script =
    CreateBlock ∷ DeclareVar i64 ∷ DeclareVar i64
    ∷ NeedStackMap (OfVariable 0) ∷ NeedStackMap (OfVariable 1)
    ∷ MakeEntry (ASignature takes_one) ∷ MakeEntry imported
    ∷ SwitchToBlock (block 0) ∷ SealBlock (block 0) ∷ iconst i64 (pos 64) ∷ DefVar 1 (answer_of 9 1)
    ∷ UseVar 0 ∷ calling (answer_of 11 0)
    ∷ UseVar 1 ∷ return_ (answer_of 11 0 ∷ answer_of 13 0 ∷ []) ∷ []

abbrev pub call_machine : World → ScriptMachine
call_machine = machine_of call_script empty_function

-- in a world whose collector adds 16 to each number but zero
pub record AcrossCall (world : World) : Type 0 where
  pub moves : (events : List Event) (call : CallShape) → world.moved events call ≡ moved_by_16
  -- zero is passed and stays, and 64 moves
  pub passed : HoldsUnassigned (call_machine world) 3 0 (answer_of 11 0)
  pub passes : PassesName (call_machine world) 3 0 (answer_of 11 0)
  pub unassigned : HoldsUnassigned (call_machine world) 5 0 (answer_of 11 0)
  pub returns : ReturnsName (call_machine world) 5 0 (answer_of 11 0)
  pub is_passed : map (λ event. event.arguments) (state_after (call_machine world) 6).events
      ≡ (0 ∷ []) ∷ []
  pub is_returned : (state_after (call_machine world) 6).control ≡ HasReturned (0 ∷ 80 ∷ [])
  -- it doesn't speak of the other variable
  pub assigned : UsesUnassigned (call_machine world) 4 1 (answer_of 13 0) → ⊥

pub record UnassignedExamples : Type 0 where
  pub never : NeverAssigned
  pub on_one_path : OnOnePath
  pub before : BeforeAssigned
  pub in_loop : InLoop
  pub call_accepted : verdict_on call_script ≡ Accepted
  pub across_call : (world : World) × AcrossCall world
