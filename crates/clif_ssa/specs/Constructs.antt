-- What the construction of SSA form changes in a function: zeros come to the front of blocks, with their constants, parameters
-- come and go, edges pass more at their end, and parameters become names of other values. All else stays.
-- Source: own, after Braun et al. 2013 (the construction adds operands and parameters, and removes trivial ones).
use Rattle.std.specs.Prelude.{◌≡◌, ◌<◌, ◌≤◌, ◌+◌, ◌-◌, ◌⊎◌, ℕ, suc, Bool, List, [], ◌∷◌, ◌++◌, length, slice_get, Some, reverse}
use Rattle.std.specs.List.{filter, AllByRecursion}
use Rattle.clif_ir.specs.Body.{Body, value_at, inst_at, block_at}
use Rattle.clif_instructions.specs.Instruction.{with_argument}
use Rattle.clif_nodes.specs.Nodes.{BlockNode}
use Rattle.clif_nodes.specs.declared.nodes.InstNode.{InstNode}
use Rattle.clif_nodes.specs.declared.nodes.ValueNode.{ValueNode}
use Rattle.clif_nodes.specs.declared.nodes.ValueOrigin.TheVariants.{Param, Alias}
use Rattle.clif_instructions.specs.declared.instructions.InstructionData.{InstructionData}
use Rattle.clif_types.specs.declared.types.«Type».{«Type»}
use Rattle.clif_ssa.specs.Ssa.{no_srcloc}
use Rattle.clif_tables.specs.Lists.{TableLists}
use Rattle.clif_ssa.specs.Zeros.{ZeroAt, ZeroStep, HasZero, HasZeros, zero_steps}

-- numbers that rise, none below `least` and each below `bound`
abbrev pub Rises : ℕ → ℕ → List ℕ → Type 0
Rises least bound [] = least ≤ bound
Rises least bound (x ∷ xs) = (least ≤ x) × Rises (suc x) bound xs

-- a value stays, or was a parameter and is another name of a value, of the same type
abbrev pub StaysOrNames : ValueNode → ValueNode → Type 0
StaysOrNames old new =
    (new ≡ old) ⊎ ((home : ℕ) × (original : ℕ) × (old.origin ≡ Param home) × (new ≡ record old { origin = Alias original }))

-- an instruction, of whose edges each that goes to a block passes the value beside that block as well, at the end
abbrev pub with_passed : List (ℕ × ℕ) → InstructionData → InstructionData
with_passed [] shape = shape
with_passed (more ∷ others) shape = with_passed others (with_argument more.0 more.1 shape)

-- an instruction stays, but that its edges may pass more
abbrev pub MayPassMore : InstNode → InstNode → Type 0
MayPassMore old new = (more : List (ℕ × ℕ)) × (new ≡ record old { shape = with_passed more old.shape })

-- The instruction is the step of a zero at a place. The first step's result, and so those of all, are values that `f` doesn't
-- have; its constant, if it names one, has zero bytes in `g`.
pub record IsNewStep (f g : Body) (inst : InstNode) : Type 0 where
  pub ty : «Type»
  pub place : ℕ
  pub step : ZeroStep
  pub is_step : slice_get (zero_steps ty) place ≡ Some step
  pub value : ℕ
  pub is_new : length f.values + place ≤ value
  pub constant : ℕ
  pub zeros : HasZeros g constant step.size
  pub shape : inst.shape ≡ step.shape constant (value - 1)
  pub results : inst.results ≡ value ∷ []
  pub srcloc : inst.srcloc ≡ no_srcloc

-- the instructions of each zero in turn
abbrev pub in_turn : List (List ℕ) → List ℕ
in_turn [] = []
in_turn (insts ∷ zeros) = insts ++ in_turn zeros

-- they are no more than a zero has
abbrev pub FitsZero : List ℕ → Type 0
FitsZero insts = (ty : «Type») × (length insts ≤ length (zero_steps ty))

-- A block's instructions are new ones, each zero's in their order, those of the latest zero first, and then those that it had;
-- its parameters are some of those that it had, in their order, and then new ones. Where a call failed, its last zero may lack
-- steps.
pub record ConstructsBlock (f g : Body) (old new : BlockNode) : Type 0 where
  pub zeros : List (List ℕ)
  pub stays : ℕ → Bool
  pub added : List ℕ
  pub node : new ≡ record old { params = filter stays old.params ++ added; insts = in_turn (reverse zeros) ++ old.insts }
  pub zeros_fit : AllByRecursion FitsZero zeros
  pub zeros_new : Rises (length f.insts) (length g.insts) (in_turn zeros)
  pub added_new : Rises (length f.values) (length g.values) added

-- each of the bytes is zero
abbrev pub AreZeros : List ℕ → Type 0
AreZeros bytes = AllByRecursion (λ byte. byte ≡ 0) bytes

-- there may be more constants, behind those that there were, whose bytes are zero; nothing else changes in the tables
pub record PoolsZeros (t u : TableLists) : Type 0 where
  pub same : u ≡ record t { constants = u.constants }
  pub more : List (List ℕ)
  pub behind : u.constants ≡ t.constants ++ more
  pub zeros : AllByRecursion AreZeros more

-- `f` is the function before, `g` after. As each function is consistent, a parameter that its block lost is a name, and each
-- new value is a parameter, a name or the result of a step of a new zero.
pub record OnlyConstructs (f g : Body) : Type 0 where
  -- beside the values, the instructions, the blocks, the layout and the constants nothing changes
  pub same : g ≡ record f { values = g.values; insts = g.insts; blocks = g.blocks; layout = g.layout; tables = g.tables }
  pub tables : PoolsZeros f.tables g.tables
  pub values : length f.values ≤ length g.values
  pub same_values : (v : ℕ) → v < length f.values → StaysOrNames (value_at f v) (value_at g v)
  -- each instruction that was there keeps its block, results and source place, and each new one is a step of a zero
  pub insts : length f.insts ≤ length g.insts
  pub same_insts : (i : ℕ) → i < length f.insts → MayPassMore (inst_at f i) (inst_at g i)
  pub zeros : (i : ℕ) → length f.insts ≤ i → i < length g.insts → IsNewStep f g (inst_at g i)
  -- no block comes or goes
  pub block_count : length g.blocks ≡ length f.blocks
  pub blocks : (b : ℕ) → ConstructsBlock f g (block_at f b) (block_at g b)
  -- the layout is as it was, and may have more blocks behind
  pub layout : (more : List ℕ) × (g.layout ≡ f.layout ++ more)

-- the zero stands in this block of the function, whole
pub record StandsWhole (f : Body) (block : ℕ) (zero : ZeroAt) : Type 0 where
  pub stands : HasZero f zero
  pub blocks : (k : ℕ) → k < length (zero_steps zero.ty) → (inst_at f (zero.inst + k)).block ≡ block

-- the instructions from a number on are those of zeros in these blocks, one zero after the other
abbrev pub AreToldFrom : Body → ℕ → List ℕ → Type 0
AreToldFrom f inst [] = length f.insts ≡ inst
AreToldFrom f inst (block ∷ told) =
    (zero : ZeroAt) × (zero.inst ≡ inst) × StandsWhole f block zero × AreToldFrom f (inst + length (zero_steps zero.ty)) told

-- the new instructions are those of zeros in the blocks that are told, in order: each zero is told once
pub record TellsZeros (f g : Body) (told : List ℕ) : Type 0 where
  pub zeros : AreToldFrom g (length f.insts) told

-- the same, where more is told than before
abbrev pub TellsMore : Body → Body → List ℕ → List ℕ → Type 0
TellsMore f g before after = (told : List ℕ) × (after ≡ before ++ told) × TellsZeros f g told
