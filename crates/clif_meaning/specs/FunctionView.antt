-- A finished function as the machines see it. After Cranelift's `Function`: blocks with parameters and instructions,
-- aliases, types of values, stack slots and stack maps. Own.
use Rattle.std.specs.Prelude.{ℕ, List, Option}
use Rattle.clif_types.specs.declared.types.«Type».{«Type»}
use Rattle.clif_types.specs.Signature.{SignatureShape}
use Rattle.clif_types.specs.StackSlot.{StackSlotShape}
use Rattle.clif_types.specs.declared.stackmap.UserStackMapEntry.{UserStackMapEntry}
use Rattle.clif_meaning.specs.Instruction.{Instruction}

-- an instruction of the function, with its results and its stack map
pub record Placed : Type 0 where
  pub instruction : Instruction ℕ ℕ
  pub results : List ℕ
  pub stack_map : List UserStackMapEntry

pub record BlockView : Type 0 where
  pub parameters : List ℕ
  pub items : List Placed

pub record FunctionView : Type 0 where
  pub signature : SignatureShape
  -- the first block of the layout
  pub entry : Option ℕ
  -- by the number of a block; a block outside the layout is no part of the function, and has no items
  pub blocks : ℕ → BlockView
  -- the value at the end of a value's aliases
  pub resolved : ℕ → ℕ
  pub value_type : ℕ → «Type»
  pub slots : List StackSlotShape
