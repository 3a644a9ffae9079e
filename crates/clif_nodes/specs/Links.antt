-- The links between the instructions of a block, as a function keeps them. Source: own. Contracts of a function don't
-- speak of them.
use Rattle.std.specs.Prelude.{ℕ, ◌+◌, zero, suc, List, [], ◌∷◌, ◌++◌, length, map, slice_index_or, slice_set, Option, Some, None}
use Rattle.clif_nodes.specs.declared.inst_links.InstLinks.{InstLinks}
use Rattle.clif_nodes.specs.declared.nodes.BlockData.{BlockData}
use Rattle.clif_nodes.specs.Nodes.{BlockNode}
use Rattle.clif_nodes.specs.Places.{last_after}

-- the links of an instruction that stands alone
abbrev pub no_links : InstLinks
no_links = record { previous = None; next = None }

abbrev pub links_at : List InstLinks → ℕ → InstLinks
links_at links i = slice_index_or links i no_links

-- the links with `inst` as what follows `previous`, if there is such an instruction
abbrev pub linked_behind : List InstLinks → Option ℕ → ℕ → List InstLinks
linked_behind links None inst = links
linked_behind links (Some previous) inst = slice_set links previous (record (links_at links previous) { next = Some inst })

-- the links with `inst` as what comes before `next`, if there is such an instruction
abbrev pub linked_before : List InstLinks → Option ℕ → ℕ → List InstLinks
linked_before links None inst = links
linked_before links (Some next) inst = slice_set links next (record (links_at links next) { previous = Some inst })

-- the links that a new instruction gets behind `previous`, which is at the front of the block where it is none
abbrev pub links_behind : BlockData → List InstLinks → Option ℕ → InstLinks
links_behind block links None = record { previous = None; next = block.first_inst }
links_behind block links (Some previous) = record { previous = Some previous; next = (links_at links previous).next }

-- the links with those of a new instruction, and those of its neighbours to it
abbrev pub linked_between : List InstLinks → InstLinks → List InstLinks
linked_between links own = linked_before (linked_behind (links ++ own ∷ []) own.previous (length links)) own.next (length links)

-- a block with one more instruction, which has these neighbours
abbrev pub with_inst_between : BlockData → ℕ → InstLinks → BlockData
with_inst_between block inst own =
    record block {
      first_inst = last_after block.first_inst own.previous inst;
      last_inst = last_after block.last_inst own.next inst;
      inst_count = block.inst_count + 1;
    }

-- the instructions from `at` on, along at most so many links
unfoldable pub inst_chain : ℕ → List InstLinks → Option ℕ → List ℕ
inst_chain zero links at = []
inst_chain (suc steps) links None = []
inst_chain (suc steps) links (Some i) = i ∷ inst_chain steps links (links_at links i).next

-- a block as contracts see it
abbrev pub block_of : List InstLinks → BlockData → BlockNode
block_of links block =
    record { params = block.params; insts = inst_chain (length links) links block.first_inst; is_cold = block.is_cold }

abbrev pub blocks_of : List InstLinks → List BlockData → List BlockNode
blocks_of links blocks = map (block_of links) blocks
