-- The instructions that only scripts have: no function has one, and no call builds one as an instruction. Own.
use Rattle.std.specs.Prelude.{◌≡◌, Bool, true, false}
use Rattle.clif_instructions.specs.declared.instructions.InstructionData.{InstructionData}
use Rattle.clif_tables.specs.Lists.{TableLists}
use Rattle.clif_types.specs.declared.types.«Type».{«Type»}
use Rattle.clif_meaning.specs.Acceptance.{can_operate}
use Rattle.clif_meaning.specs.Instruction.{AddConstant, CompareConstant, Compute, Operation, Bytes, Switch}
use Rattle.clif_meaning.specs.View.{operation_of}

-- only scripts have it
abbrev pub is_of_scripts : Operation → Bool
is_of_scripts (Compute (AddConstant number)) = true
is_of_scripts (Compute (CompareConstant condition number)) = true
is_of_scripts (Switch keys) = true
is_of_scripts (Bytes operation) = true
is_of_scripts _ = false

pub record ScriptsAlone : Type 0 where
  -- what an instruction of a function does is none of these
  pub no_function : (tables : TableLists) (shape : InstructionData) → is_of_scripts (operation_of tables shape) ≡ false
  -- and none of these is built
  pub not_built : (operation : Operation) (ty : «Type») → is_of_scripts operation ≡ true → can_operate operation ty ≡ false
