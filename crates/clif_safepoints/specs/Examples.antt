-- Worked examples of liveness. The first function is the project's row `slot_reuse`; the other one is own.
use Rattle.std.specs.Prelude.{ℕ, List, [], ◌∷◌, false, pos}
use Rattle.clif_types.specs.declared.types.«Type».TheVariants as type
use Rattle.clif_types.specs.declared.types.LaneType.TheVariants as lane
use Rattle.clif_instructions.specs.declared.instructions.InstructionData.{InstructionData}
use Rattle.clif_instructions.specs.declared.instructions.InstructionData.TheVariants.{Call, Jump, MultiAry, UnaryImm}
use Rattle.clif_instructions.specs.declared.block_call.BlockArg.TheVariants as arg
use Rattle.clif_nodes.specs.declared.nodes.InstNode.{InstNode}
use Rattle.clif_nodes.specs.declared.nodes.ValueNode.{ValueNode}
use Rattle.clif_nodes.specs.declared.nodes.ValueOrigin.TheVariants.{Result, Param}
use Rattle.clif_ir.specs.Body.{Body, empty_function}
use Rattle.clif_meaning.specs.View.{view_of}
use Rattle.clif_safepoints.specs.Analysis.{IsExact}
use Rattle.clif_safepoints.specs.Fronts.{at}
use Rattle.clif_safepoints.specs.Liveness.{IsLiveAcross, every_argument}

-- an instruction of block0
abbrev pub node : InstructionData → List ℕ → InstNode
node shape results = record { shape = shape; results = results; block = 0; srcloc = 0 }

abbrev pub result_of : ℕ → ValueNode
result_of inst = record { ty = type.Lane lane.I32; origin = Result inst 0 }

-- block0: v0 = iconst; call fn0(v0); call fn0(v0); v1 = iconst; call fn0(v1); call fn0(v1); return
abbrev pub slot_body : Body
slot_body = record empty_function {
  values = result_of 0 ∷ result_of 3 ∷ [];
  insts =
      node (UnaryImm (pos 0)) (0 ∷ []) ∷ node (Call 0 (0 ∷ [])) [] ∷ node (Call 0 (0 ∷ [])) []
      ∷ node (UnaryImm (pos 1)) (1 ∷ []) ∷ node (Call 0 (1 ∷ [])) [] ∷ node (Call 0 (1 ∷ [])) []
      ∷ node (MultiAry []) [] ∷ [];
  blocks = record { params = []; insts = 0 ∷ 1 ∷ 2 ∷ 3 ∷ 4 ∷ 5 ∷ 6 ∷ []; is_cold = false } ∷ [];
  layout = 0 ∷ [];
}

-- block0: v0 = call fn0(); call fn0(); jump block1(v0); block1(v1): return
abbrev pub edge_body : Body
edge_body = record empty_function {
  values = result_of 0 ∷ record { ty = type.Lane lane.I32; origin = Param 1 } ∷ [];
  insts =
      node (Call 0 []) (0 ∷ []) ∷ node (Call 0 []) [] ∷ node (Jump (record { block = 1; args = arg.Value 0 ∷ [] })) []
      ∷ record { shape = MultiAry []; results = []; block = 1; srcloc = 0 } ∷ [];
  blocks =
      record { params = []; insts = 0 ∷ 1 ∷ 2 ∷ []; is_cold = false }
      ∷ record { params = 1 ∷ []; insts = 3 ∷ []; is_cold = false } ∷ [];
  layout = 0 ∷ 1 ∷ [];
}

pub record LivenessExamples : Type 0 where
  -- v0 is used by the second call, behind the first one, and by nothing behind the second
  pub used_again : IsLiveAcross every_argument (view_of slot_body) (at 0 1) 0
  pub used_up : IsLiveAcross every_argument (view_of slot_body) (at 0 2) 0 → ⊥
  -- v1 is used behind the first call, but defined before that
  pub not_yet_defined : IsLiveAcross every_argument (view_of slot_body) (at 0 1) 1 → ⊥
  -- a list of all recorded values isn't exact
  pub not_all : IsExact slot_body (0 ∷ 1 ∷ []) 2 (0 ∷ 1 ∷ []) → ⊥
  -- an edge uses its argument, which keeps it alive across the second call; a result isn't live across its own call
  pub passed : IsLiveAcross every_argument (view_of edge_body) (at 0 1) 0
  pub own_result : IsLiveAcross every_argument (view_of edge_body) (at 0 0) 0 → ⊥
