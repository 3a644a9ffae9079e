-- The targets of a block's last instruction exist.
use Rattle.std.proofs.Common.{◌≡◌, ℕ, ◌<◌, List, length, subst}
use Rattle.std.specs.Prelude.{Option, Some, None, slice_get, slice_index, EachIndex, All}
use Rattle.std.proofs.lemmas.Option.{slice_get_within, get_or_from_slice_get}
use Rattle.std.proofs.lemmas.List.Elements.{All-get_or, All-map, All-weaker, All-nil}
use Rattle.clif_instructions.specs.declared.block_call.BlockCall.{BlockCall}
use Rattle.clif_ir.specs.Body.{Body, block_at}
use Rattle.clif_ir.specs.Consistent.{IsConsistent, EdgeExists}
use Rattle.clif_instructions.specs.Edges.{targets}
use Rattle.clif_ir.specs.Reading.{edges_of}

edges_of-exist : (f : Body) → IsConsistent f → (i : Option ℕ) → All (EdgeExists f) (edges_of f i)
edges_of-exist f known None = All-nil (EdgeExists f)
edges_of-exist f known (Some i) = known.edges_exist i

targets-exist : (f : Body) (edges : List BlockCall) → All (EdgeExists f) edges → All (λ b. b < length f.blocks) (targets edges)
targets-exist f edges here =
    All-map (λ b. b < length f.blocks) (λ (edge : BlockCall). edge.block) edges
    (All-weaker (EdgeExists f) (λ edge. edge.block < length f.blocks) (λ edge exists. exists.0) edges here)

pub edges_of-targets_exist : (f : Body) → IsConsistent f → (i : Option ℕ) → EachIndex (targets (edges_of f i)) (λ k. slice_index (targets (edges_of f i)) k < length f.blocks)
edges_of-targets_exist f known i k inside = All-get_or (λ b. b < length f.blocks) (targets (edges_of f i)) k 0 inside (targets-exist f (edges_of f i) (edges_of-exist f known i))

-- what stands in a block exists
pub inst_exists : (f : Body) → IsConsistent f → (b k i : ℕ) → slice_get (block_at f b).insts k ≡ Some i → i < length f.insts
inst_exists f known b k i here =
    subst (λ j. j < length f.insts) (get_or_from_slice_get (block_at f b).insts k i 0 here) (known.insts_known b k (slice_get_within (block_at f b).insts k i here)).0
