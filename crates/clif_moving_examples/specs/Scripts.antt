-- The scripts of the examples, and the finished functions beside them: a parameter that lives across two calls, and a variable behind a
-- join that lives across one. Own; spilled code has the form of the project's worked rows.
use Rattle.std.specs.Prelude.{ℕ, zero, suc, false, List, [], ◌∷◌, replicate, Some, pos}
use Rattle.clif_opcodes.specs.declared.opcodes.StackOpcode.TheVariants.{StackAddr}
use Rattle.clif_types.specs.Signature.{SignatureShape}
use Rattle.clif_types.specs.StackSlot.{StackSlotShape}
use Rattle.clif_types.specs.declared.extname.ExternalName.{ExternalName}
use Rattle.clif_types.specs.declared.extname.ExternalName.TheVariants as name
use Rattle.clif_types.specs.declared.stackmap.UserStackMapEntry.{UserStackMapEntry}
use Rattle.clif_types.specs.declared.types.«Type».{«Type»}
use Rattle.clif_types.specs.declared.types.«Type».TheVariants as type
use Rattle.clif_instructions.specs.Instruction.{AFunctionRef}
use Rattle.clif_tables.specs.Entries.{AFunction, ASignature, TableEntry}
use Rattle.clif_meaning.specs.Acceptance.{iconst, jump, return_}
use Rattle.clif_meaning.specs.BranchExamples.{block, no_block, passing, plain}
use Rattle.clif_meaning.specs.CallExamples.{i64}
use Rattle.clif_meaning.specs.Examples.{placed}
use Rattle.clif_meaning.specs.FunctionView.{BlockView, FunctionView, Placed}
use Rattle.clif_meaning.specs.Instruction.{Brif, Call, Compute, Edge, Iconst, Jump, Load, Operation, Return, Stack, Store}
use Rattle.clif_meaning.specs.Name.{Name, answer_of}
use Rattle.clif_meaning.specs.Request.{AppendFunctionParams, Build, CreateBlock, DeclareVar, DefVar, Imported, MakeEntry, NeedStackMap, OfVariable, Request, Script, SealAllBlocks, SealBlock, SwitchToBlock, UseVar}
use Rattle.clif_premise_examples.specs.Scripts.{taking, trusted}

-- an example: a script for a function of this signature, and the blocks of the finished function, whose calls have this stack map
pub record Example : Type 0 where
  pub script : Script
  pub signature : SignatureShape
  pub blocks : List UserStackMapEntry → ℕ → BlockView

abbrev pub takes_nothing : SignatureShape
takes_nothing = taking [] []

abbrev pub takes_one : SignatureShape
takes_one = taking (i64 ∷ []) []

-- a function takes an `i64`, and returns one
abbrev pub passes_one : SignatureShape
passes_one = taking (i64 ∷ []) (i64 ∷ [])

-- SCRIPTS -----------------------------------------------------------------------------------------------------------------

abbrev pub callee : ℕ → ExternalName
callee number = name.User (record { namespace = 0; index = number })

-- the function with this number has the signature with the same number
abbrev pub imported : ℕ → TableEntry
imported number = AFunction (record { name = callee number; signature = number; colocated = false; patchable = false })

abbrev pub calling : (number : ℕ) → SignatureShape → List Name → Request
calling number signature arguments =
    Build (Imported (AFunctionRef number) ∷ []) (record {
      operation = Call (callee number) signature;
      controlling = type.Invalid;
      operands = arguments;
      contexts = [];
      edges = [];
    })

-- The parameter is assigned to a variable that stack maps are asked to name. Behind one call the variable is read, what was read is
-- passed to a second call, and behind that it is returned.
abbrev pub across_script : Script
across_script =
    CreateBlock ∷ AppendFunctionParams (block 0) (i64 ∷ []) ∷ DeclareVar i64 ∷ NeedStackMap (OfVariable 0)
    ∷ MakeEntry (ASignature takes_nothing) ∷ MakeEntry (ASignature takes_one) ∷ MakeEntry (imported 0) ∷ MakeEntry (imported 1)
    ∷ SwitchToBlock (block 0) ∷ SealBlock (block 0) ∷ DefVar 0 (answer_of 1 0) ∷ calling 0 takes_nothing []
    ∷ UseVar 0 ∷ calling 1 takes_one (answer_of 12 0 ∷ []) ∷ return_ (answer_of 12 0 ∷ []) ∷ []

-- by a name of 64 bits
abbrev pub branch : Name → Name → Name → Request
branch condition taken other =
    Build [] (record {
      operation = Brif;
      controlling = i64;
      operands = condition ∷ [];
      contexts = [];
      edges = plain taken ∷ plain other ∷ [];
    })

-- By the parameter 100 or 200 is assigned to such a variable. Where both ways meet, a call is made, and behind it the variable is
-- returned.
abbrev pub join_script : Script
join_script =
    CreateBlock ∷ CreateBlock ∷ CreateBlock ∷ CreateBlock ∷ AppendFunctionParams (block 0) (i64 ∷ []) ∷ DeclareVar i64
    ∷ NeedStackMap (OfVariable 0) ∷ MakeEntry (ASignature takes_nothing) ∷ MakeEntry (imported 0)
    ∷ SwitchToBlock (block 0) ∷ branch (answer_of 4 0) (block 1) (block 2)
    ∷ SwitchToBlock (block 1) ∷ iconst i64 (pos 100) ∷ DefVar 0 (answer_of 12 1) ∷ jump (plain (block 3))
    ∷ SwitchToBlock (block 2) ∷ iconst i64 (pos 200) ∷ DefVar 0 (answer_of 16 1) ∷ jump (plain (block 3))
    ∷ SwitchToBlock (block 3) ∷ calling 0 takes_nothing [] ∷ UseVar 0 ∷ return_ (answer_of 21 0 ∷ []) ∷ SealAllBlocks ∷ []

-- FUNCTIONS ---------------------------------------------------------------------------------------------------------------

-- spill code claims that its accesses are aligned and don't trap
abbrev pub address_of_slot : ℕ → Placed
address_of_slot address = placed (Stack StackAddr 0 (pos 0)) i64 [] (address ∷ [])

abbrev pub store_in : (value address : ℕ) → Placed
store_in value address = placed (Store trusted (pos 0)) i64 (value ∷ address ∷ []) []

abbrev pub load_from : (address copy : ℕ) → Placed
load_from address copy = placed (Load trusted (pos 0)) i64 (address ∷ []) (copy ∷ [])

abbrev pub calls : List UserStackMapEntry → (number : ℕ) → SignatureShape → List ℕ → Placed
calls entries number signature arguments =
    record (placed (Call (callee number) signature) type.Invalid arguments []) { stack_map = entries }

abbrev pub returns : ℕ → Placed
returns value = placed Return type.Invalid (value ∷ []) []

abbrev pub leads : Operation → «Type» → List ℕ → List (Edge ℕ ℕ) → Placed
leads operation ty operands edges = record {
  instruction = record { operation = operation; controlling = ty; operands = operands; contexts = []; edges = edges };
  results = [];
  stack_map = [];
}

--     block0(v0: i64):
--         v1 = stack_addr.i64 ss0
--         store notrap aligned v0, v1
--         call fn0(), stack_map=[i64 @ ss0+0]
--         v2 = stack_addr.i64 ss0
--         v3 = load.i64 notrap aligned v2
--         call fn1(v3), stack_map=[i64 @ ss0+0]
--         v4 = stack_addr.i64 ss0
--         v5 = load.i64 notrap aligned v4
--         return v5
abbrev pub across_blocks : List UserStackMapEntry → ℕ → BlockView
across_blocks entries zero = record {
  parameters = 0 ∷ [];
  items = address_of_slot 1 ∷ store_in 0 1 ∷ calls entries 0 takes_nothing []
      ∷ address_of_slot 2 ∷ load_from 2 3 ∷ calls entries 1 takes_one (3 ∷ [])
      ∷ address_of_slot 4 ∷ load_from 4 5 ∷ returns 5 ∷ [];
}
across_blocks entries (suc number) = no_block

abbrev pub constant_to_join : ℕ → ℕ → BlockView
constant_to_join number value = record {
  parameters = [];
  items = placed (Compute (Iconst (pos number))) i64 [] (value ∷ []) ∷ leads Jump type.Invalid [] (passing 3 value ∷ []) ∷ [];
}

--     block0(v0: i64):
--         brif v0, block1, block2
--     block1:
--         v1 = iconst.i64 100
--         jump block3(v1)
--     block2:
--         v2 = iconst.i64 200
--         jump block3(v2)
--     block3(v3: i64):
--         v4 = stack_addr.i64 ss0
--         store notrap aligned v3, v4
--         call fn0(), stack_map=[i64 @ ss0+0]
--         v5 = stack_addr.i64 ss0
--         v6 = load.i64 notrap aligned v5
--         return v6
abbrev pub join_blocks : List UserStackMapEntry → ℕ → BlockView
join_blocks entries zero = record { parameters = 0 ∷ []; items = leads Brif i64 (0 ∷ []) (plain 1 ∷ plain 2 ∷ []) ∷ [] }
join_blocks entries (suc zero) = constant_to_join 100 1
join_blocks entries (suc (suc zero)) = constant_to_join 200 2
join_blocks entries (suc (suc (suc zero))) = record {
  parameters = 3 ∷ [];
  items = address_of_slot 4 ∷ store_in 3 4 ∷ calls entries 0 takes_nothing [] ∷ address_of_slot 5 ∷ load_from 5 6 ∷ returns 6 ∷ [];
}
join_blocks entries (suc (suc (suc (suc number)))) = no_block

abbrev pub across : Example
across = record { script = across_script; signature = passes_one; blocks = across_blocks }

abbrev pub join : Example
join = record { script = join_script; signature = passes_one; blocks = join_blocks }

-- a spill slot of an `i64`, and the entry of a stack map that names one
abbrev pub word : StackSlotShape
word = record { size = 8; align_shift = 3 }

abbrev pub entry_of : ℕ → UserStackMapEntry
entry_of slot = record { ty = i64; slot = slot; offset = 0 }

-- the finished function with so many spill slots, whose calls have this stack map
abbrev pub spilled : Example → (slots : ℕ) → List UserStackMapEntry → FunctionView
spilled e slots entries = record {
  signature = e.signature;
  entry = Some 0;
  blocks = e.blocks entries;
  resolved = λ v. v;
  value_type = λ v. i64;
  slots = replicate slots word;
}

-- the function as it should be
abbrev pub finished : Example → FunctionView
finished e = spilled e 1 (entry_of 0 ∷ [])
