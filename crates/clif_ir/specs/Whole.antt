-- How the fields of a function make the record that contracts see, and what they keep beside it.
-- Source: own. No contract of another crate speaks of it.
use Rattle.std.specs.Prelude.{◌≡◌, ℕ, ◌+◌, ◌-◌, ◌<◌, zero, suc, List, [], ◌∷◌, length, slice_index, slice_index_or, slice_get, Option, Some, None, IsSome, All, Contains}
use Rattle.clif_instructions.specs.declared.insert_at.InsertAt.{InsertAt}
use Rattle.clif_instructions.specs.declared.insert_at.InsertAt.TheVariants.{Behind, Back}
use Rattle.clif_instructions.specs.Members.{next_in, place_of, stands_in}
use Rattle.clif_nodes.specs.declared.inst_links.InstLinks.{InstLinks}
use Rattle.clif_nodes.specs.declared.nodes.BlockData.{BlockData}
use Rattle.clif_nodes.specs.declared.nodes.BlockPlace.{BlockPlace}
use Rattle.clif_nodes.specs.declared.nodes.ValueNode.{ValueNode}
use Rattle.clif_nodes.specs.Links.{blocks_of, links_at}
use Rattle.clif_nodes.specs.Nodes.{BlockNode, empty_block, no_data}
use Rattle.clif_nodes.specs.Places.{no_place}
use Rattle.clif_ir.specs.declared.function.Function.TheInside.{Inside}
use Rattle.clif_ir.specs.Body.{Body, alias_of}
use Rattle.clif_ir.specs.Consistent.{IsConsistent, alias_count}

-- the blocks from `at` on, along at most so many links
unfoldable pub chain : ℕ → List BlockPlace → Option ℕ → List ℕ
chain zero places at = []
chain (suc steps) places None = []
chain (suc steps) places (Some b) = b ∷ chain steps places (slice_index_or places b no_place).next

abbrev pub body_of : Inside → Body
body_of f =
    record {
      name = f.name;
      signature = f.signature;
      values = f.values.items;
      insts = f.insts.items;
      blocks = blocks_of f.inst_links.items f.blocks.items;
      layout = chain (length f.block_places.items) f.block_places.items f.first_block;
      tables = f.tables;
    }

-- the entry before place `k` of a list, if `k` isn't its front
abbrev pub entry_before : List ℕ → ℕ → Option ℕ
entry_before xs zero = None
entry_before xs (suc k) = slice_get xs k

-- behind how many of so many instructions a place is
abbrev pub count_before : InsertAt → ℕ → ℕ
count_before (Behind count) len = count
count_before Back len = len

-- the place right behind `previous`, or the front where it is none
abbrev pub place_behind : Option ℕ → List ℕ → ℕ
place_behind None xs = 0
place_behind (Some previous) xs = place_of previous xs + 1

-- a block knows the first and the last of its instructions and how many they are, and each of them its neighbours
pub record IsThread (insts : List ℕ) (block : BlockData) (links : List InstLinks) : Type 0 where
  pub first_is : block.first_inst ≡ slice_get insts 0
  pub last_is : block.last_inst ≡ slice_get insts (length insts - 1)
  pub count_is : block.inst_count ≡ length insts
  pub next_is : (k : ℕ) → k < length insts → (links_at links (slice_index insts k)).next ≡ slice_get insts (k + 1)
  pub previous_is : (k : ℕ) → k < length insts → (links_at links (slice_index insts k)).previous ≡ entry_before insts k

-- what is kept of each block is so with its instructions
pub record AreThreaded (blocks : List BlockNode) (rows : List BlockData) (links : List InstLinks) : Type 0 where
  pub thread : (b : ℕ) → IsThread (slice_index_or blocks b empty_block).insts (slice_index_or rows b no_data) links

-- the links are those of the layout
pub record IsLinked (layout : List ℕ) (places : List BlockPlace) (first last : Option ℕ) : Type 0 where
  pub first_is : first ≡ slice_get layout 0
  pub last_is : last ≡ slice_get layout (length layout - 1)
  pub next_is : (b : ℕ) → (slice_index_or places b no_place).next ≡ next_in layout b
  pub inserted_is : (b : ℕ) → (slice_index_or places b no_place).is_inserted ≡ stands_in b layout

-- the list has the aliases, each once
pub record IsListed (values : List ValueNode) (aliases : List ℕ) : Type 0 where
  pub sound : All (λ v. IsSome (alias_of values v)) aliases
  pub complete : (v : ℕ) → IsSome (alias_of values v) → Contains aliases v
  pub count_is : length aliases ≡ alias_count values

pub record IsWhole (f : Inside) : Type 0 where
  pub consistent : IsConsistent (body_of f)
  pub listed : IsListed f.values.items f.aliases
  pub threaded : AreThreaded (body_of f).blocks f.blocks.items f.inst_links.items
  pub link_count : length f.inst_links.items ≡ length f.insts.items
  pub place_count : length f.block_places.items ≡ length f.blocks.items
  pub linked : IsLinked (body_of f).layout f.block_places.items f.first_block f.last_block
