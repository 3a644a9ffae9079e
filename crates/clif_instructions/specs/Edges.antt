-- What changes the edges of a branch. Source: own.
use Rattle.std.specs.Prelude.{ℕ, ◌==◌, ◌-◌, ◌++◌, List, [], ◌∷◌, length, map, take, drop, slice_index_or, slice_set, if◌then◌else◌, codes}
use Rattle.std.specs.Fmt.{decimal}
use Rattle.clif_instructions.specs.declared.block_call.BlockArg.{BlockArg}
use Rattle.clif_instructions.specs.declared.block_call.BlockArg.TheVariants.{Value, TryCallRet, TryCallExn}
use Rattle.clif_instructions.specs.declared.block_call.BlockCall.{BlockCall}

-- an edge that passes this value as well, at the end, if it goes to the block
abbrev pub appended_to : ℕ → ℕ → BlockCall → BlockCall
appended_to block value edge = if edge.block == block then record edge { args = edge.args ++ Value value ∷ [] } else edge

-- edges, of which each that goes to the block passes this value as well
abbrev pub with_argument_to : ℕ → ℕ → List BlockCall → List BlockCall
with_argument_to block value edges = map (appended_to block value) edges

-- an edge without its last argument, if it goes to the block
abbrev pub taken_from : ℕ → BlockCall → BlockCall
taken_from block edge = if edge.block == block then record edge { args = take (length edge.args - 1) edge.args } else edge

-- edges, of which the first ones that go to the block are without their last argument
abbrev pub taken_back : ℕ → ℕ → List BlockCall → List BlockCall
taken_back block count edges = map (taken_from block) (take count edges) ++ drop count edges

-- an edge that goes to the second block, if it went to the first; what it passes stays
abbrev pub redirected : ℕ → ℕ → BlockCall → BlockCall
redirected from to edge = if edge.block == from then record edge { block = to } else edge

-- edges, of which each that went to the first block goes to the second
abbrev pub with_target_changed : ℕ → ℕ → List BlockCall → List BlockCall
with_target_changed from to edges = map (redirected from to) edges

-- an edge that passes this value at this place
abbrev pub with_passed : ℕ → ℕ → BlockCall → BlockCall
with_passed place value edge = record edge { args = slice_set edge.args place (Value value) }

-- what stands for an edge that isn't there
abbrev pub no_edge : BlockCall
no_edge = record { block = 0; args = [] }

abbrev pub edge_at : List BlockCall → ℕ → BlockCall
edge_at edges k = slice_index_or edges k no_edge

-- edges, of which edge `k` passes this value at this place
abbrev pub with_passed_at : ℕ → ℕ → ℕ → List BlockCall → List BlockCall
with_passed_at k place value edges = slice_set edges k (with_passed place value (edge_at edges k))

-- what an argument of an edge prints
abbrev pub argument_text : BlockArg → List ℕ
argument_text (Value v) = codes "v" ++ decimal v
argument_text (TryCallRet k) = codes "ret" ++ decimal k
argument_text (TryCallExn k) = codes "exn" ++ decimal k

-- the targets of edges, in order
abbrev pub targets : List BlockCall → List ℕ
targets edges = map (λ (edge : BlockCall). edge.block) edges
