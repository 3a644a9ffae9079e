-- What instructions of any shape have in common, by whether their block goes on or ends.
use Rattle.std.proofs.Common.{◌≡◌, [], refl, ◌⊎◌, inl, inr}
use Rattle.std.specs.Prelude.{true, false}
use Rattle.clif_types.specs.declared.types.«Type».{«Type»}
use Rattle.clif_opcodes.specs.declared.opcodes.FloatConstOpcode.TheVariants.{F16const, F32const, F64const}
use Rattle.clif_opcodes.specs.declared.opcodes.PooledConstOpcode.TheVariants.{F128const, Vconst}
use Rattle.clif_opcodes.specs.declared.opcodes.StackOpcode.TheVariants as stack
use Rattle.clif_instructions.specs.declared.instructions.InstructionData.{InstructionData}
use Rattle.clif_instructions.specs.declared.instructions.InstructionData.TheVariants.{UnaryIeee, UnaryConst, StackLoad, Jump, Brif, BranchTable, MultiAry, Trap, TryCall, TryCallIndirect}
use Rattle.clif_instructions.specs.Instruction.{destinations, is_branch, is_terminator}
use Rattle.clif_tables.specs.Callees.{types_of_results}
use Rattle.clif_tables.specs.Lists.{TableLists}

-- it stays in its block, which goes on; with results of any number
pub record StaysInBlock (shape : InstructionData) : Type 0 where
  pub no_edges : destinations shape ≡ []
  pub no_branch : is_branch shape ≡ false
  pub goes_on : is_terminator shape ≡ false

-- it ends its block
pub record EndsBlock (tables : TableLists) (shape : InstructionData) (ty : «Type») : Type 0 where
  pub ends : is_terminator shape ≡ true
  pub none : types_of_results tables shape ty ≡ []

pub sort_of : (tables : TableLists) (shape : InstructionData) (ty : «Type») → StaysInBlock shape ⊎ EndsBlock tables shape ty
sort_of tables (Jump destination) ty = inr (record { ends = refl; none = refl })
sort_of tables (Brif arg blocks) ty = inr (record { ends = refl; none = refl })
sort_of tables (BranchTable arg table) ty = inr (record { ends = refl; none = refl })
sort_of tables (MultiAry args) ty = inr (record { ends = refl; none = refl })
sort_of tables (Trap code) ty = inr (record { ends = refl; none = refl })
sort_of tables (TryCall function args table) ty = inr (record { ends = refl; none = refl })
sort_of tables (TryCallIndirect args table) ty = inr (record { ends = refl; none = refl })
sort_of tables (UnaryIeee F16const bits) ty = inl (record { no_edges = refl; no_branch = refl; goes_on = refl })
sort_of tables (UnaryIeee F32const bits) ty = inl (record { no_edges = refl; no_branch = refl; goes_on = refl })
sort_of tables (UnaryIeee F64const bits) ty = inl (record { no_edges = refl; no_branch = refl; goes_on = refl })
sort_of tables (UnaryConst F128const constant) ty = inl (record { no_edges = refl; no_branch = refl; goes_on = refl })
sort_of tables (UnaryConst Vconst constant) ty = inl (record { no_edges = refl; no_branch = refl; goes_on = refl })
sort_of tables (StackLoad stack.StackAddr slot offset) ty = inl (record { no_edges = refl; no_branch = refl; goes_on = refl })
sort_of tables (StackLoad stack.StackLoad slot offset) ty = inl (record { no_edges = refl; no_branch = refl; goes_on = refl })
sort_of tables _ ty = inl (record { no_edges = refl; no_branch = refl; goes_on = refl })
