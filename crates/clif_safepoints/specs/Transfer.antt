-- The equations of liveness for a block, whatever is taken to be live at the fronts of blocks. Source: the usual
-- equations of data flow: what is live before an instruction is what it uses, and what is live behind it and not
-- defined by it.
use Rattle.std.specs.Prelude.{ℕ, ◌==◌, Bool, false, not, ◌||◌, ◌&&◌, List, [], ◌∷◌, flat_map, if◌then◌else◌, Option, Some, None}
use Rattle.std.specs.List.{list_any}
use Rattle.clif_instructions.specs.declared.block_call.BlockArg.{BlockArg}
use Rattle.clif_instructions.specs.declared.block_call.BlockArg.TheVariants as arg
use Rattle.clif_instructions.specs.declared.block_call.BlockCall.{BlockCall}
use Rattle.clif_instructions.specs.Edges.{targets}
use Rattle.clif_instructions.specs.declared.instructions.InstructionData.{InstructionData}
use Rattle.clif_instructions.specs.ExceptionTables.{ExceptionShape}
use Rattle.clif_instructions.specs.Instruction.{destinations, exception_table, operands}
use Rattle.clif_instructions.specs.Members.{stands_in}
use Rattle.clif_ir.specs.Body.{Body, block_at, inst_at, resolved}
use Rattle.clif_safepoints.specs.Order.{first_to_back}

-- the instructions of a block; none of a block outside the layout
abbrev pub insts_of : Body → ℕ → List ℕ
insts_of f block = if stands_in block f.layout then (block_at f block).insts else []

-- one of the values resolves to this one
abbrev pub names : Body → List ℕ → ℕ → Bool
names f values value = list_any (λ x. resolved f x == value) values

-- an argument of an edge passes the value
abbrev pub argument_passes : Body → ℕ → BlockArg → Bool
argument_passes f value (arg.Value x) = resolved f x == value
argument_passes f value (arg.TryCallRet index) = false
argument_passes f value (arg.TryCallExn index) = false

-- along the edge the value is passed, or it is live at the front of the target
abbrev pub edge_needs : Body → (live_at : ℕ → Bool) → ℕ → BlockCall → Bool
edge_needs f live_at value edge = live_at edge.block || list_any (argument_passes f value) edge.args

-- live across an instruction: needed along one of its edges or live before what follows, and no result of it
abbrev pub is_live_behind : Body → (live_at : ℕ → Bool) → ℕ → ℕ → (next : Bool) → Bool
is_live_behind f live_at value inst next =
    not (stands_in value (inst_at f inst).results)
    && (list_any (edge_needs f live_at value) (destinations (inst_at f inst).shape) || next)

-- live before the instructions, where `live_at` tells the blocks at whose front it is live
abbrev pub is_live_before : Body → (live_at : ℕ → Bool) → ℕ → List ℕ → Bool
is_live_before f live_at value [] = false
is_live_before f live_at value (inst ∷ insts) =
    names f (operands (inst_at f inst).shape) value
    || is_live_behind f live_at value inst (is_live_before f live_at value insts)

-- live at the front of a block
abbrev pub is_live_in : Body → (live_at : ℕ → Bool) → ℕ → ℕ → Bool
is_live_in f live_at block value =
    not (stands_in value (block_at f block).params) && is_live_before f live_at value (insts_of f block)

-- what an instruction has for each of its edges, in the order in which a search follows them: where it has an exception table the
-- first edge is the normal one, and comes last
abbrev pub in_order : {X : Type 0} → Option ExceptionShape → List X → List X
in_order None xs = xs
in_order (Some table) xs = first_to_back xs

-- the targets of an instruction's edges, in that order
abbrev pub targets_followed : InstructionData → List ℕ
targets_followed shape = in_order (exception_table shape) (targets (destinations shape))

-- those of instructions
abbrev pub targets_from : Body → List ℕ → List ℕ
targets_from f insts = flat_map (λ inst. targets_followed (inst_at f inst).shape) insts

-- the blocks that the edges of a block lead to, in that order and with repeats
abbrev pub successors_of : Body → ℕ → List ℕ
successors_of f block = targets_from f (insts_of f block)
