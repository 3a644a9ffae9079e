-- How the tables of the theory of variables on paths change as a function and the state of its construction do.
-- Source: own.
use Rattle.std.specs.Prelude.{◌≡◌, ◌≢◌, ℕ, suc, ◌<◌, ◌==◌, ◌&&◌, ◌||◌, List, [], ◌∷◌, ◌++◌, ◌+◌, length, Bool, true, false, None, Contains, slice_get, if◌then◌else◌}
use Rattle.std.specs.List.{AllByRecursion}
use Rattle.clif_types.specs.declared.types.«Type».{«Type»}
use Rattle.clif_types.specs.declared.extname.UserFuncName.{UserFuncName}
use Rattle.clif_types.specs.Signature.{SignatureShape}
use Rattle.clif_ir.specs.Body.{Body, block_at, empty_body}
use Rattle.clif_ir.specs.Changes.{inserted_in, with_block, with_inst, with_param}
use Rattle.clif_ir.specs.Consistent.{IsConsistent}
use Rattle.clif_instructions.specs.Instruction.{destinations}
use Rattle.clif_instructions.specs.Members.{without}
use Rattle.clif_instructions.specs.declared.block_call.BlockArg.{BlockArg}
use Rattle.clif_instructions.specs.declared.instructions.InstructionData.{InstructionData}
use Rattle.clif_instructions.specs.declared.insert_at.InsertAt.TheVariants.{Back}
use Rattle.clif_paths.specs.Places.{Place, start, Edges, same_place}
use Rattle.clif_paths.specs.State.{Naming, Definition, State, born, fresh}
use Rattle.clif_paths.specs.Steps.{updated, IsNewName}
use Rattle.clif_paths.specs.Blocks.{Blocks, front, last_place, state_of, no_blocks, with_blocks_sealed, with_block_sealed, with_zero_in, with_dropped, with_item, with_born, with_read, with_write, Knows}
use Rattle.clif_paths.specs.BlockLaws.{BlocksSound}
use Rattle.clif_records.specs.declared.tables.Pending.{Pending}
use Rattle.clif_records.specs.Tables.{is_yes, pending_of}
use Rattle.clif_ssa.specs.Ssa.{SsaState, no_state, record_of, sealed_of, predecessors_of, completed, Records, SameRecords, SameBlocks, SamePredecessors, Seals, Waits, Zeroes}
use Rattle.clif_ssa.specs.LookUp.{branch_block}
use Rattle.clif_ssa.specs.Zeros.{steps_before}
use Rattle.clif_ssa.specs.Own.{Own, no_own, with_one_more, with_own_param}
use Rattle.clif_ssa.specs.Sound.{Describes, CountsArguments, PassesOwn, args_of, has_entry, entry_of, is_some_block, edge_target, SameProgram, Keeps, KeepsAndKnows}

-- the one arm into the entry's front, from the virtual start
abbrev pub enters : ℕ → Edges
enters entry arm = same_place arm.source start && (same_place arm.target (front entry) && (arm.edge == 0))

-- The tables as a block enters a layout: the first one is the entry, and the blocks that are sealed already are so for
-- the paths from then on.
abbrev pub with_entry : List ℕ → SsaState → ℕ → Blocks → Blocks
with_entry [] s b blocks = with_blocks_sealed blocks (λ c. is_yes (sealed_of s c)) (enters b)
with_entry (c ∷ layout) s b blocks = blocks

-- The tables as parameter `v` of block `b`, which waits for `x`, becomes a name of a new zero `z`.
abbrev pub with_zeroed : List ℕ → SsaState → ℕ → ℕ → ℕ → ℕ → Blocks → Blocks
with_zeroed layout s b x v z blocks = with_dropped (with_zero_in (with_entry layout s b blocks) b x z) v z

-- the edges of these branches to the block
abbrev pub edges_into : Body → Blocks → ℕ → List ℕ → Edges
edges_into f blocks b [] arm = false
edges_into f blocks b (branch ∷ branches) arm =
    same_place arm.source (last_place blocks (branch_block f branch)) && is_some_block b (edge_target f branch arm.edge)
    || edges_into f blocks b branches arm

-- the arms into a block: the one from the start, if it is the entry, and the edges of the branches that lead to it
abbrev pub arms_into : Body → SsaState → Blocks → ℕ → Edges
arms_into f s blocks b arm = is_some_block b (entry_of f) && enters b arm || edges_into f blocks b (predecessors_of s b) arm

-- The tables as a block is sealed: the arms into it are known from then on, if there is an entry.
abbrev pub with_seal : List ℕ → Bool → ℕ → Edges → Blocks → Blocks
with_seal [] was_sealed b into blocks = blocks
with_seal (entry ∷ layout) true b into blocks = blocks
with_seal (entry ∷ layout) false b into blocks = with_block_sealed blocks b into

-- what an edge of an instruction of this shape passes
abbrev pub shape_passes : InstructionData → ℕ → List BlockArg
shape_passes shape k = args_of (slice_get (destinations shape) k)

-- what the caller made, with one more instruction of this shape in block `b`
abbrev pub with_own : Own → ℕ → ℕ → InstructionData → Own
with_own own b inst shape = record own { insts = with_one_more own.insts b inst; passed = updated own.passed inst (shape_passes shape) }

-- the names, the definitions and the answers as these names are given at a place, by values that are born there, from this
-- number on
abbrev pub all_named : Place → (ℕ → Naming) → List ℕ → ℕ → Naming
all_named place naming [] = naming
all_named place naming (n ∷ names) = all_named place (updated naming n (record { home = place; origin = fresh })) names

abbrev pub all_born : Place → (ℕ → Definition) → List ℕ → ℕ → ℕ → Definition
all_born place definition [] v = definition
all_born place definition (n ∷ names) v =
    all_born place (updated definition v (record { home = place; kind = born n })) names (suc v)

abbrev pub all_answered : (ℕ → ℕ) → List ℕ → ℕ → ℕ → ℕ
all_answered answer [] v = answer
all_answered answer (n ∷ names) v = all_answered (updated answer n v) names (suc v)

-- GIVE several names at a place, each by the next value.
abbrev pub with_all_born : Blocks → Place → List ℕ → ℕ → Blocks
with_all_born blocks place names v = record blocks {
  naming = all_named place blocks.naming names;
  function = record blocks.function { definition = all_born place blocks.function.definition names v };
  answer = all_answered blocks.answer names v;
}

-- new names, all different
abbrev pub AreNewNames : State → List ℕ → Type 0
AreNewNames s [] = Unit {0}
AreNewNames s (n ∷ names) = IsNewName s n × AllByRecursion (λ m. m ≢ n) names × AreNewNames s names

-- tables that describe a function and a state, and are sound; and the edges to blocks pass what they have to
abbrev pub DescribesSoundly : Own → Body → SsaState → Blocks → Type 0
DescribesSoundly own f s blocks = Describes own f s [] blocks × BlocksSound blocks × CountsArguments own f s blocks

-- no branch that leads somewhere stands in the block
abbrev pub IsOpen : Body → SsaState → ℕ → Type 0
IsOpen f s b = (c i : ℕ) → Contains (predecessors_of s c) i → branch_block f i ≢ b

-- the first tables describe a function without blocks, of which nothing is known
abbrev pub FirstDescribes : Type 0
FirstDescribes =
    (name : UserFuncName) (signature : SignatureShape) →
    DescribesSoundly no_own (empty_body name signature) no_state no_blocks

-- the tables describe each state with the same records and the same blocks
abbrev pub SameStateKeeps : Type 0
SameStateKeeps =
    (own : Own) (f : Body) (s t : SsaState) (blocks : Blocks) → SameRecords s t → SameBlocks s t →
    SamePredecessors s t →
    (Describes own f s [] blocks → Describes own f t [] blocks) × (CountsArguments own f s blocks → CountsArguments own f t blocks)

-- a block enters the layout, unless it is there
abbrev pub InsertionKeeps : Type 0
InsertionKeeps =
    (own : Own) (f : Body) (s : SsaState) (completing : List Pending) (blocks : Blocks) (b : ℕ) →
    Describes own f s completing blocks → BlocksSound blocks →
    Describes own (inserted_in f b) s completing (with_entry f.layout s b blocks)
    × BlocksSound (with_entry f.layout s b blocks)
    × SameProgram blocks (with_entry f.layout s b blocks)
    × (CountsArguments own f s blocks → CountsArguments own (inserted_in f b) s (with_entry f.layout s b blocks))

-- a new block
abbrev pub NewBlockKeeps : Type 0
NewBlockKeeps =
    (own : Own) (f : Body) (s : SsaState) (blocks : Blocks) →
    (Describes own f s [] blocks → Describes own (with_block f) s [] blocks)
    × (CountsArguments own f s blocks → CountsArguments own (with_block f) s blocks)

-- an item that uses a variable: the new name is answered by a value that the block knows to hold it
abbrev pub ReadItemKeeps : Type 0
ReadItemKeeps =
    (own : Own) (f : Body) (s : SsaState) (blocks : Blocks) (b n x v : ℕ) → DescribesSoundly own f s blocks →
    IsOpen f s b → IsNewName (state_of blocks) n → Knows blocks b x v → v < length f.values →
    DescribesSoundly own f s (with_read (with_item blocks b) b n x v)

-- an assignment at the last place of a block, which doesn't assign the variable
abbrev pub WriteHereKeeps : Type 0
WriteHereKeeps =
    (own : Own) (f : Body) (s t : SsaState) (blocks : Blocks) (b x n : ℕ) → DescribesSoundly own f s blocks →
    IsOpen f s b → (blocks.naming n).home ≢ start → blocks.assigned (last_place blocks b) x ≡ None →
    Records s t x b (blocks.answer n) → SameBlocks s t → SamePredecessors s t →
    DescribesSoundly own f t (with_write blocks b x n)

-- an item that assigns a name to a variable
abbrev pub WriteItemKeeps : Type 0
WriteItemKeeps =
    (own : Own) (f : Body) (s t : SsaState) (blocks : Blocks) (b x n : ℕ) → DescribesSoundly own f s blocks →
    IsOpen f s b → (blocks.naming n).home ≢ start → Records s t x b (blocks.answer n) → SameBlocks s t → SamePredecessors s t →
    DescribesSoundly own f t (with_write (with_item blocks b) b x n)

-- an instruction of the caller's at the end of a block, by whose results new names are given, in order
abbrev pub OwnInstructionKeeps : Type 0
OwnInstructionKeeps =
    (own : Own) (f : Body) (s : SsaState) (blocks : Blocks) (b : ℕ) (names : List ℕ) (shape : InstructionData)
    (types : List «Type») (loc : ℕ) →
    IsConsistent f → DescribesSoundly own f s blocks → IsOpen f s b → b < length f.blocks →
    length names ≡ length types → AreNewNames (state_of blocks) names →
    DescribesSoundly (with_own own b (length f.insts) shape) (with_inst f b Back shape types loc) s
    (with_all_born (with_item blocks b) (last_place (with_item blocks b) b) names (length f.values))

-- a parameter of the caller's, by which a new name is given as the block is entered: the block has no parameter of a
-- variable so far
abbrev pub OwnParameterKeeps : Type 0
OwnParameterKeeps =
    (own : Own) (f : Body) (s : SsaState) (blocks : Blocks) (b n : ℕ) (ty : «Type») →
    IsConsistent f → DescribesSoundly own f s blocks → b < length f.blocks → (block_at f b).params ≡ own.params b →
    IsNewName (state_of blocks) n →
    DescribesSoundly (with_own_param own b (length f.values)) (with_param f b ty) s
    (with_born blocks (front b) n (length f.values))

-- a use of a variable that isn't recorded in an unsealed block
abbrev pub WaitingUseKeeps : Type 0
WaitingUseKeeps =
    (own : Own) (f g : Body) (s t : SsaState) (blocks : Blocks) (x : ℕ) (ty : «Type») (b : ℕ) →
    IsConsistent f → DescribesSoundly own f s blocks → b < length f.blocks →
    record_of s x b ≡ None → is_yes (sealed_of s b) ≡ false → Waits s t f g x ty b → SamePredecessors s t →
    KeepsAndKnows own blocks g t b x (length f.values)

-- the same in a sealed block to which no branch leads
abbrev pub ZeroUseKeeps : Type 0
ZeroUseKeeps =
    (own : Own) (f g : Body) (s t : SsaState) (blocks : Blocks) (x : ℕ) (ty : «Type») (b : ℕ) →
    IsConsistent f → DescribesSoundly own f s blocks → predecessors_of s b ≡ [] → b < length f.blocks →
    record_of s x b ≡ None → is_yes (sealed_of s b) ≡ true → Zeroes s t f g x ty b → SamePredecessors s t →
    KeepsAndKnows own blocks g t b x (length f.values + 1 + steps_before ty)

-- a block to which no branch leads is sealed, and what waited in it is completed
abbrev pub SealingKeeps : Type 0
SealingKeeps =
    (own : Own) (f : Body) (s t : SsaState) (blocks : Blocks) (b : ℕ) →
    IsConsistent f → DescribesSoundly own f s blocks → predecessors_of s b ≡ [] →
    SameRecords s t → Seals s t b → SamePredecessors s t →
    Keeps own blocks (completed f (pending_of (sealed_of s b))) t

-- a branch, whose edges to an unsealed block pass what the caller passed, is put behind those that lead to it
abbrev pub PredecessorDeclared : Type 0
PredecessorDeclared =
    (own : Own) (f : Body) (s t : SsaState) (blocks : Blocks) (b i : ℕ) → DescribesSoundly own f s blocks →
    i < length f.insts → has_entry f.layout ≡ true → is_yes (sealed_of s b) ≡ false →
    ((j : ℕ) → Contains (predecessors_of s b) j → branch_block f j ≢ branch_block f i) →
    PassesOwn own f b i → SameRecords s t → SameBlocks s t →
    ((c : ℕ) → predecessors_of t c ≡ (if c == b then predecessors_of s c ++ i ∷ [] else predecessors_of s c)) →
    DescribesSoundly own f t blocks

-- a branch leads no longer to an unsealed block
abbrev pub PredecessorRemoved : Type 0
PredecessorRemoved =
    (own : Own) (f : Body) (s t : SsaState) (blocks : Blocks) (b i : ℕ) → DescribesSoundly own f s blocks →
    is_yes (sealed_of s b) ≡ false → SameRecords s t → SameBlocks s t →
    ((c : ℕ) → predecessors_of t c ≡ (if c == b then without i (predecessors_of s c) else predecessors_of s c)) →
    DescribesSoundly own f t blocks

-- tables with the same program have the same new names
abbrev pub NewNameStays : Type 0
NewNameStays =
    (blocks blocks' : Blocks) (n : ℕ) → SameProgram blocks blocks' → IsNewName (state_of blocks) n →
    IsNewName (state_of blocks') n
