-- What only scripts have no function has.
use Rattle.std.proofs.Common.{◌≡◌, true, false, refl}
use Rattle.clif_instructions.specs.declared.instructions.InstructionData.{InstructionData}
use Rattle.clif_instructions.specs.declared.instructions.InstructionData.TheVariants.{UnaryImm}
use Rattle.clif_tables.specs.Lists.{TableLists}
use Rattle.clif_types.specs.declared.types.«Type».{«Type»}
use Rattle.clif_meaning.specs.Acceptance.{can_operate}
use Rattle.clif_meaning.specs.Instruction.{AddConstant, CompareConstant, Compute, Operation, Bytes, Switch}
use Rattle.clif_meaning.specs.View.{operation_of}
use Rattle.clif_expansion.specs.ScriptsAlone.{ScriptsAlone, is_of_scripts}

no_function : (tables : TableLists) (shape : InstructionData) → is_of_scripts (operation_of tables shape) ≡ false
no_function tables (UnaryImm imm) = refl
no_function tables _ = refl

not_built : (operation : Operation) (ty : «Type») → is_of_scripts operation ≡ true → can_operate operation ty ≡ false
not_built (Compute (AddConstant number)) ty is = refl
not_built (Compute (CompareConstant condition number)) ty is = refl
not_built (Switch keys) ty is = refl
not_built (Bytes operation) ty is = refl
not_built _ ty is = let none : ⊥ = cc in absurd none

pub scripts_alone : ScriptsAlone
scripts_alone = record { no_function = no_function; not_built = not_built }
