-- Each change of the blocks' tables keeps soundness of the state that they stand for.
-- Source: own.
use Rattle.std.specs.Prelude.{◌≡◌, ◌≢◌, ℕ, false, Option, None, Some, List, Bool, true}
use Rattle.clif_paths.specs.Places.{Place, start, Arm, Edges}
use Rattle.clif_paths.specs.Sound.{Sound}
use Rattle.clif_paths.specs.Steps.{updated, aliased, CanGive}
use Rattle.clif_paths.specs.ValueLabels.{Labelled}
use Rattle.clif_paths.specs.Blocks.{Blocks, state_of, no_blocks, with_block_sealed, with_blocks_sealed, with_item, CanAppend, with_born, with_read, CanRead, with_record, with_write, CanWrite, CanCopy, IsChain, with_chain, with_parameter, CanAddParameter, with_filled, CanFillIn, with_dropped, CanDropIn, with_zero_in, CanUndefineIn, SaysTheSame, CompleteAtFronts, Role, Birth, result_of, place_of, home_by, Resolves, FallsAlong}

-- the state of the tables is sound, and labels are kept
pub record BlocksSound (blocks : Blocks) : Type 0 where
  pub sound : Sound (state_of blocks)
  pub labelled : Labelled blocks

abbrev pub FirstBlocksSound : Type 0
FirstBlocksSound = BlocksSound no_blocks

abbrev pub BlockSealKeeps : Type 0
BlockSealKeeps =
    (blocks : Blocks) (block : ℕ) (into : Edges) → blocks.sealed block ≡ false → BlocksSound blocks →
    BlocksSound (with_block_sealed blocks block into)

abbrev pub BlocksSealKeeps : Type 0
BlocksSealKeeps =
    (blocks : Blocks) (chosen : ℕ → Bool) (into : Edges) → ((b : ℕ) → chosen b ≡ true → blocks.sealed b ≡ false) →
    BlocksSound blocks → BlocksSound (with_blocks_sealed blocks chosen into)

abbrev pub ItemKeeps : Type 0
ItemKeeps =
    (blocks : Blocks) (block : ℕ) → CanAppend blocks block → BlocksSound blocks →
    BlocksSound (with_item blocks block)

abbrev pub BornKeeps : Type 0
BornKeeps =
    (blocks : Blocks) (place : Place) (n v : ℕ) → CanGive (state_of blocks) place n v → BlocksSound blocks →
    BlocksSound (with_born blocks place n v)

abbrev pub ReadKeeps : Type 0
ReadKeeps =
    (blocks : Blocks) (block n x v : ℕ) → CanRead blocks block n x v → BlocksSound blocks →
    BlocksSound (with_read blocks block n x v)

abbrev pub WriteKeeps : Type 0
WriteKeeps =
    (blocks : Blocks) (block x n : ℕ) → CanWrite blocks block x n → BlocksSound blocks →
    BlocksSound (with_write blocks block x n)

abbrev pub CopyKeeps : Type 0
CopyKeeps =
    (blocks : Blocks) (block x v : ℕ) → CanCopy blocks block x v → BlocksSound blocks →
    BlocksSound (with_record blocks block x v)

-- a look-up along a chain of single predecessors records in each block what it found
abbrev pub ChainKeeps : Type 0
ChainKeeps =
    (blocks : Blocks) (x v from : ℕ) (chain : List ℕ) → blocks.recorded from x ≡ Some v →
    IsChain blocks x from chain →
    BlocksSound blocks → BlocksSound (with_chain blocks x v chain)

abbrev pub ParameterKeeps : Type 0
ParameterKeeps =
    (blocks : Blocks) (block x v : ℕ) → CanAddParameter blocks block x v → BlocksSound blocks →
    BlocksSound (with_parameter blocks block x v)

abbrev pub FilledKeeps : Type 0
FilledKeeps =
    (blocks : Blocks) (block x v : ℕ) (given : Arm → ℕ) → CanFillIn blocks block x v given → BlocksSound blocks →
    BlocksSound (with_filled blocks x v given)

abbrev pub DroppedKeeps : Type 0
DroppedKeeps =
    (blocks : Blocks) (block x v target : ℕ) → CanDropIn blocks block x v target → BlocksSound blocks →
    BlocksSound (with_dropped blocks v target)

abbrev pub ZeroInKeeps : Type 0
ZeroInKeeps =
    (blocks : Blocks) (block x z : ℕ) → (blocks.function.definition z).home ≡ start → BlocksSound blocks →
    BlocksSound (with_zero_in blocks block x z)

abbrev pub UndefinedKeeps : Type 0
UndefinedKeeps =
    (blocks : Blocks) (block x v z : ℕ) → CanUndefineIn blocks block x v z → BlocksSound blocks →
    BlocksSound (with_dropped blocks v z)

-- tables that say the same of all that a path can see are as sound
abbrev pub RestatedKeeps : Type 0
RestatedKeeps =
    (blocks blocks' : Blocks) → CompleteAtFronts blocks → SaysTheSame blocks blocks' → BlocksSound blocks →
    BlocksSound blocks'

-- records may be forgotten
abbrev pub ForgetKeeps : Type 0
ForgetKeeps =
    (blocks : Blocks) (recorded : ℕ → ℕ → Option ℕ) →
    ((b x v : ℕ) → recorded b x ≡ Some v → blocks.recorded b x ≡ Some v) → BlocksSound blocks →
    BlocksSound (record blocks { recorded = recorded })

-- an instruction that is added to the map has its home there, and all other values keep theirs
abbrev pub RolesExtend : Type 0
RolesExtend =
    (roles : ℕ → Role) (instruction : ℕ) (role : Role) →
    (home_by (updated roles instruction role) (result_of instruction) ≡ place_of role) ×
    ((birth : Birth) → birth ≢ result_of instruction →
    home_by (updated roles instruction role) birth ≡ home_by roles birth)

-- the end of a value's links is its own end
abbrev pub EndsAreEnds : Type 0
EndsAreEnds =
    (link : ℕ → Option ℕ) (resolve : ℕ → ℕ) → Resolves link resolve → (v : ℕ) → resolve (resolve v) ≡ resolve v

-- a new link from an unlinked value to another makes that one an alias
abbrev pub NewLinkResolves : Type 0
NewLinkResolves =
    (link : ℕ → Option ℕ) (resolve : ℕ → ℕ) (v target : ℕ) → Resolves link resolve →
    link v ≡ None → link target ≡ None → target ≢ v →
    Resolves (updated link v (Some target)) (aliased resolve v target)

-- where no links run in a circle, they resolve in one way
abbrev pub EndsAreUnique : Type 0
EndsAreUnique =
    (link : ℕ → Option ℕ) (rank : ℕ → ℕ) (resolve resolve' : ℕ → ℕ) → FallsAlong link rank →
    Resolves link resolve → Resolves link resolve' → (v : ℕ) → resolve v ≡ resolve' v
