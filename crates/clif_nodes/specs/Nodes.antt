-- The rows of a function's tables that stand for what isn't there, those of results, and a block as contracts see it.
-- Source: own.
use Rattle.std.specs.Prelude.{ℕ, List, [], ◌∷◌, ◌+◌, Bool, false, None}
use Rattle.clif_types.specs.declared.types.«Type».{«Type»}
use Rattle.clif_types.specs.declared.types.«Type».TheVariants.{Invalid}
use Rattle.clif_instructions.specs.declared.instructions.InstructionData.TheVariants.{MultiAry}
use Rattle.clif_nodes.specs.declared.nodes.ValueOrigin.TheVariants.{Result, Param}
use Rattle.clif_nodes.specs.declared.nodes.ValueNode.{ValueNode}
use Rattle.clif_nodes.specs.declared.nodes.InstNode.{InstNode}
use Rattle.clif_nodes.specs.declared.nodes.BlockData.{BlockData}

-- a block: its parameters and its instructions, in order, and whether it is seldom reached
pub record BlockNode : Type 0 where
  pub params : List ℕ
  pub insts : List ℕ
  pub is_cold : Bool

-- a block as it is made
abbrev pub empty_block : BlockNode
empty_block = record { params = []; insts = []; is_cold = false }

-- what a function keeps of a block as it is made
abbrev pub no_data : BlockData
no_data = record { params = []; first_inst = None; last_inst = None; inst_count = 0; is_cold = false }

-- what stands for a value that isn't there
abbrev pub no_value : ValueNode
no_value = record { ty = Invalid; origin = Param 0 }

-- what stands for an instruction that isn't there
abbrev pub no_inst : InstNode
no_inst = record { shape = MultiAry []; results = []; block = 0; srcloc = 0 }

-- the results of instruction `i`, from its result `k` on
abbrev pub result_nodes : ℕ → ℕ → List «Type» → List ValueNode
result_nodes i k [] = []
result_nodes i k (ty ∷ types) = record { ty = ty; origin = Result i k } ∷ result_nodes i (k + 1) types
