-- What the analysis tells of a function. Source: own; a safepoint is a call, as in Cranelift.
use Rattle.std.specs.Prelude.{◌≡◌, ◌↔◌, ◌<◌, ◌+◌, ◌*◌, ◌≤◌, ◌⊎◌, ℕ, List, [], length, flat_map, sum_by, Some, IsTrue, Contains, slice_index_or}
use Rattle.std.specs.List.Sorted.{IsStrictlyIncreasing}
use Rattle.clif_instructions.specs.Instruction.{is_call}
use Rattle.clif_instructions.specs.Members.{Once}
use Rattle.clif_ir.specs.Body.{Body, inst_at}
use Rattle.clif_ir.specs.Reading.{place_in_block}
use Rattle.clif_meaning.specs.FunctionView.{FunctionView}
use Rattle.clif_meaning.specs.Path.{Place, IsReachable}
use Rattle.clif_meaning.specs.WellPlaced.{edge_targets, function_flow}
use Rattle.clif_meaning.specs.View.{view_of}
use Rattle.clif_safepoints.specs.Liveness.{every_argument, IsLiveAcross, IsLiveBefore}
use Rattle.clif_safepoints.specs.Order.{IsDepthFirst, IsSorted, followed_blocks}

-- The blocks that are reached, in order. The values that are live before each block's parameters are given and after, by its number.
-- The values that are live across each instruction, by its number. How many blocks were handled before the last pass.
pub record Findings : Type 0 where
  pub order : List ℕ
  pub live_in : List (List ℕ)
  pub after_params : List (List ℕ)
  pub across : List (List ℕ)
  pub handled : ℕ

-- what is found where nothing was looked at
abbrev pub nothing_found : Findings
nothing_found = record { order = []; live_in = []; after_params = []; across = []; handled = 0 }

-- the values found for a block, and for an instruction
abbrev pub found_in : Findings → ℕ → List ℕ
found_in found block = slice_index_or found.live_in block []

abbrev pub found_after_params : Findings → ℕ → List ℕ
found_after_params found block = slice_index_or found.after_params block []

abbrev pub found_across : Findings → ℕ → List ℕ
found_across found inst = slice_index_or found.across inst []

-- where an instruction stands
abbrev pub place_of_inst : Body → ℕ → Place ℕ
place_of_inst f inst = record { block = (inst_at f inst).block; index = place_in_block f inst }

-- the first place of a block
abbrev pub first_place : ℕ → Place ℕ
first_place block = record { block = block; index = 0 }

-- A recorded value is to be found for an instruction: it is a call that a path from the entry comes to, and the value,
-- which is no alias, is live across it.
pub record IsTracedAcross (f : Body) (recorded : List ℕ) (inst value : ℕ) : Type 0 where
  pub exists : inst < length f.insts
  pub call : IsTrue (is_call (inst_at f inst).shape)
  pub reachable : IsReachable (function_flow (view_of f)) (place_of_inst f inst)
  pub member : Contains recorded value
  pub unaliased : (view_of f).resolved value ≡ value
  pub live : IsLiveAcross every_argument (view_of f) (place_of_inst f inst) value

-- a list is exact for an instruction: the values to be found for it, by rising number and once each
pub record IsExact (f : Body) (recorded : List ℕ) (inst : ℕ) (values : List ℕ) : Type 0 where
  pub rising : IsStrictlyIncreasing values
  pub members : (value : ℕ) → Contains values value ↔ IsTracedAcross f recorded inst value

-- edges from the entry lead to the block, or it is the entry. A block without instructions may be one, too.
abbrev pub IsReached : FunctionView → ℕ → Type 0
IsReached function block =
    (function.entry ≡ Some block)
    ⊎ ((p : Place ℕ) × IsReachable (function_flow function) p × Contains ((function_flow function).targets p) block)

-- how many edges leave a block
abbrev pub edges_from : FunctionView → ℕ → ℕ
edges_from function block = length (flat_map (λ placed. edge_targets placed.instruction) (function.blocks block).items)

-- A recorded value is to be found at the front of a block: an edge from the entry comes to the block, and the value, which is no
-- alias, is live before its first instruction, the parameters given.
pub record IsTracedAfterParams (f : Body) (recorded : List ℕ) (block value : ℕ) : Type 0 where
  pub reached : IsReached (view_of f) block
  pub member : Contains recorded value
  pub unaliased : (view_of f).resolved value ≡ value
  pub live : IsLiveBefore every_argument (view_of f) (first_place block) value

-- before the parameters are given, too: it is none of them
abbrev pub IsTracedIn : Body → List ℕ → (block value : ℕ) → Type 0
IsTracedIn f recorded block value =
    IsTracedAfterParams f recorded block value
    × (¬ Contains ((view_of f).blocks block).parameters value)

-- a list is exact: those that are to be found, by rising number and once each
pub record IsExactList (IsToBeFound : ℕ → Type 0) (values : List ℕ) : Type 0 where
  pub rising : IsStrictlyIncreasing values
  pub members : (value : ℕ) → Contains values value ↔ IsToBeFound value

-- The blocks that are reached, each once, as a depth-first search from the entry leaves them. So what every way to a block passes
-- comes after it.
pub record IsBlockOrder (function : FunctionView) (order : List ℕ) : Type 0 where
  pub depth_first : IsDepthFirst (followed_blocks function) function.entry order
  pub once : Once order
  pub reached : (block : ℕ) → Contains order block ↔ IsReached function block
  pub sorted : IsSorted (followed_blocks function) function.entry order

-- How many blocks were handled: each that is reached at least once, and no more than once for it and once for each
-- recorded value and each edge that leaves it.
pub record IsHandledCount (function : FunctionView) (recorded : List ℕ) (handled : ℕ) : Type 0 where
  pub blocks : List ℕ
  pub once : Once blocks
  pub reached : (block : ℕ) → Contains blocks block ↔ IsReached function block
  pub each : length blocks ≤ handled
  pub at_most : handled ≤ length blocks + sum_by (edges_from function) blocks * length recorded

-- the analysis of a function
pub record IsAnalysis (f : Body) (recorded : List ℕ) (found : Findings) : Type 0 where
  pub order : IsBlockOrder (view_of f) found.order
  pub live_in : (block : ℕ) → IsExactList (IsTracedIn f recorded block) (found_in found block)
  pub after_params : (block : ℕ)
      → IsExactList (IsTracedAfterParams f recorded block) (found_after_params found block)
  pub exact : (inst : ℕ) → IsExact f recorded inst (found_across found inst)
  pub handled : IsHandledCount (view_of f) recorded found.handled
