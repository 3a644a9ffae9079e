-- What an instruction that calls nothing is given.
use Rattle.std.proofs.Common.{◌≡◌, [], false, refl}
use Rattle.clif_instructions.specs.declared.instructions.InstructionData.{InstructionData}
use Rattle.clif_instructions.specs.declared.instructions.InstructionData.TheVariants.{Call, CallIndirect}
use Rattle.clif_instructions.specs.Instruction.{is_call}
use Rattle.clif_tables.specs.Callees.{given_by_call}
use Rattle.clif_tables.specs.Lists.{TableLists}

pub no_call_gives : (t : TableLists) (shape : InstructionData) → is_call shape ≡ false → given_by_call t shape ≡ []
no_call_gives t (Call function args) no_call = cc
no_call_gives t (CallIndirect sig args) no_call = cc
no_call_gives t _ no_call = refl
