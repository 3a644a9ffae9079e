-- An instruction of a function and what it does have one row of the typing table, and give the same.
use Rattle.std.proofs.Common.{◌≡◌, List, ◌++◌, refl, ap₂, map}
use Rattle.clif_types.specs.declared.types.«Type».{«Type»}
use Rattle.clif_types.specs.declared.extfunc.AbiParam.{AbiParam}
use Rattle.clif_opcodes.specs.Kinds.{result_type}
use Rattle.clif_opcodes.specs.Typing.{Row}
use Rattle.clif_instructions.specs.declared.instructions.InstructionData.{InstructionData}
use Rattle.clif_instructions.specs.declared.instructions.InstructionData.TheVariants.{UnaryImm, UnaryIeee, UnaryConst, Unary, Binary, IntCompare, Concat, Split, Convert, Ternary, Load, Store, StackLoad, StackStore, Jump, Brif, BranchTable, MultiAry, Trap, CondTrap, Call, CallIndirect, TryCall, TryCallIndirect}
use Rattle.clif_instructions.specs.Instruction.{typing_of}
use Rattle.clif_tables.specs.Callees.{given_by_call, types_of, types_of_results}
use Rattle.clif_tables.specs.Lists.{TableLists}
use Rattle.clif_meaning.specs.Instruction.{operation_returns, operation_typing}
use Rattle.clif_meaning.specs.Program.{result_types}
use Rattle.clif_meaning.specs.View.{operation_of}

pub operation_typed : (t : TableLists) (shape : InstructionData) → operation_typing (operation_of t shape) ≡ typing_of shape
operation_typed t (UnaryImm imm) = refl
operation_typed t (UnaryIeee opcode bits) = refl
operation_typed t (UnaryConst opcode constant) = refl
operation_typed t (Unary opcode arg) = refl
operation_typed t (Binary opcode args) = refl
operation_typed t (IntCompare condition args) = refl
operation_typed t (Concat args) = refl
operation_typed t (Split arg) = refl
operation_typed t (Convert opcode arg) = refl
operation_typed t (Ternary args) = refl
operation_typed t (Load flags arg offset) = refl
operation_typed t (Store flags args offset) = refl
operation_typed t (StackLoad opcode slot offset) = refl
operation_typed t (StackStore arg slot offset) = refl
operation_typed t (Jump destination) = refl
operation_typed t (Brif arg blocks) = refl
operation_typed t (BranchTable arg table) = refl
operation_typed t (MultiAry args) = refl
operation_typed t (Trap reason) = refl
operation_typed t (CondTrap opcode arg reason) = refl
operation_typed t (Call function args) = refl
operation_typed t (CallIndirect sig args) = refl
operation_typed t (TryCall function args table) = refl
operation_typed t (TryCallIndirect args table) = refl

pub operation_gives : (t : TableLists) (shape : InstructionData) → operation_returns (operation_of t shape) ≡ given_by_call t shape
operation_gives t (Call function args) = refl
operation_gives t (CallIndirect sig args) = refl
operation_gives t _ = refl

-- the results of the instruction have the types that the operation has
pub operation_results : (t : TableLists) (shape : InstructionData) (ty : «Type») → result_types (operation_of t shape) ty ≡ types_of_results t shape ty
operation_results t shape ty =
    ap₂ (λ (row : Row) (given : List AbiParam). map (result_type ty) row.results ++ types_of given) (operation_typed t shape) (operation_gives t shape)
