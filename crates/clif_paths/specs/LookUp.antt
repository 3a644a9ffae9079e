-- The look-up of a variable, as a machine with an explicit stack: what stands on the stack while look-ups in
-- predecessors are under way, and that each move of the machine keeps it.
-- Source: reading a variable, adding operands and removing trivial parameters in Braun et al. 2013; that two stacks
-- of calls and results take the place of recursion is upstream's.
use Rattle.std.specs.Prelude.{◌≡◌, ◌≢◌, ℕ, Option, None, Some, true, List, [], ◌∷◌, ◌++◌, ◌⊎◌, length, ◌+◌}
use Rattle.clif_paths.specs.Places.{start, Arm}
use Rattle.clif_paths.specs.Blocks.{Blocks, front, last_place, Knows, IsChain, with_chain, with_parameter, CanAddParameter, WaitsIn, with_filled, with_dropped, with_zero_in}
use Rattle.clif_paths.specs.BlockLaws.{BlocksSound}

-- A look-up in the predecessors of a block that is under way for a parameter of it: the predecessors whose results
-- are there, the latest first, with these results, and the predecessors that are still to do, the next first.
pub record Frame : Type 0 where
  pub parameter : ℕ
  pub block : ℕ
  pub done : List ℕ
  pub results : List ℕ
  pub todo : List ℕ

-- The stack of calls that frames make, the next call first: look the variable up in a block, or finish the look-up
-- of a parameter.
pub data Call : Type 0 where
  look : (block : ℕ) → Call
  finish : (parameter block : ℕ) → Call

abbrev pub looks : List ℕ → List Call → List Call
looks [] calls = calls
looks (b ∷ todo) calls = look b ∷ looks todo calls

abbrev pub calls_of : List Frame → List Call
calls_of [] = []
calls_of (f ∷ frames) = looks f.todo (finish f.parameter f.block ∷ calls_of frames)

-- the stack of results, the latest first
abbrev pub results_of : List Frame → List ℕ
results_of [] = []
results_of (f ∷ frames) = f.results ++ results_of frames

-- a list turned round, in front of another
abbrev pub back_onto : List ℕ → List ℕ → List ℕ
back_onto [] rest = rest
back_onto (b ∷ bs) rest = back_onto bs (b ∷ rest)

-- each block's record of the variable resolves as its result does
abbrev pub AllKnow : Blocks → ℕ → List ℕ → List ℕ → Type 0
AllKnow blocks x [] [] = Unit {0}
AllKnow blocks x (b ∷ bs) (r ∷ rs) = Knows blocks b x r × AllKnow blocks x bs rs
AllKnow blocks x _ _ = ⊥

-- the frame's parameter waits, and the predecessors that are done know their results
pub record FrameFits (blocks : Blocks) (x : ℕ) (f : Frame) : Type 0 where
  pub waits : WaitsIn blocks f.block x f.parameter
  pub no_alias : blocks.function.resolve f.parameter ≡ f.parameter
  pub known : AllKnow blocks x f.done f.results

-- none of the frames is for this parameter
abbrev pub NotFor : ℕ → List Frame → Type 0
NotFor v [] = Unit {0}
NotFor v (f ∷ frames) = (v ≢ f.parameter) × NotFor v frames

-- The next result is for block `b`: below all frames that is the block in which the look-up began, if it began with
-- a use (`first`); on a frame it is a predecessor between those that are done and those to do. The frame's own
-- result is for a block, further down, whose record is the frame's parameter so far; or for nothing, where sealing
-- began the look-up.
abbrev pub Expects : Blocks → (ℕ → List ℕ) → ℕ → Option ℕ → List Frame → ℕ → Type 0
Expects blocks predecessors x first [] b = first ≡ Some b
Expects blocks predecessors x first (f ∷ frames) b =
    FrameFits blocks x f ×
    (predecessors f.block ≡ back_onto f.done (b ∷ f.todo)) ×
    NotFor f.parameter frames ×
    (((frames ≡ []) × (first ≡ None)) ⊎
    ((c : ℕ) × (Knows blocks c x f.parameter) × (Expects blocks predecessors x first frames c)))

-- a value that is a result for what the frames expect
abbrev pub GoesTo : Blocks → (ℕ → List ℕ) → ℕ → Option ℕ → List Frame → ℕ → Type 0
GoesTo blocks predecessors x first frames r =
    ((frames ≡ []) × (first ≡ None)) ⊎
    ((c : ℕ) × (Knows blocks c x r) × (Expects blocks predecessors x first frames c))

-- Between two calls: all predecessors of the frame's block are done or to do.
pub record AtRest (blocks : Blocks) (predecessors : ℕ → List ℕ) (x : ℕ) (first : Option ℕ) (f : Frame)
    (frames : List Frame) : Type 0 where
  pub fits : FrameFits blocks x f
  pub all : predecessors f.block ≡ back_onto f.done f.todo
  pub apart : NotFor f.parameter frames
  pub below : GoesTo blocks predecessors x first frames f.parameter

-- sound tables, a stack that waits for a block's result, and what that block's record resolves as
pub record Finds (blocks : Blocks) (predecessors : ℕ → List ℕ) (x : ℕ) (first : Option ℕ)
    (frames : List Frame) (b r : ℕ) : Type 0 where
  pub sound : BlocksSound blocks
  pub expects : Expects blocks predecessors x first frames b
  pub knows : Knows blocks b x r

-- sound tables, and a result for what the frames expect
pub record Delivers (blocks : Blocks) (predecessors : ℕ → List ℕ) (x : ℕ) (first : Option ℕ)
    (frames : List Frame) (r : ℕ) : Type 0 where
  pub sound : BlocksSound blocks
  pub goes : GoesTo blocks predecessors x first frames r

-- the block at the end of a chain
abbrev pub last_of : ℕ → List ℕ → ℕ
last_of from [] = from
last_of from (b ∷ chain) = last_of b chain

-- none of a chain's blocks has a record of the variable, unless it is this value
abbrev pub Unrecorded : Blocks → ℕ → ℕ → List ℕ → Type 0
Unrecorded blocks x v [] = Unit {0}
Unrecorded blocks x v (b ∷ chain) = ((w : ℕ) → blocks.recorded b x ≡ Some w → w ≡ v) × Unrecorded blocks x v chain

abbrev pub InList : List ℕ → ℕ → Type 0
InList [] v = ⊥
InList (w ∷ ws) v = (v ≡ w) ⊎ InList ws v

-- the two stand at the same place of two lists
abbrev pub Paired : List ℕ → List ℕ → ℕ → ℕ → Type 0
Paired [] rs b r = ⊥
Paired (c ∷ bs) [] b r = ⊥
Paired (c ∷ bs) (s ∷ rs) b r = ((b ≡ c) × (r ≡ s)) ⊎ Paired bs rs b r

-- each known arm into the block leaves the last place of one of these blocks
pub record LeavesOneOf (blocks : Blocks) (block : ℕ) (among : List ℕ) : Type 0 where
  pub from :
      (arm : Arm) → blocks.joins arm ≡ true → arm.target ≡ front block →
      (b : ℕ) × (InList among b) × (arm.source ≡ last_place blocks b)

-- LAWS ------------------------------------------------------------------------------------------------------------

-- a result goes to the topmost frame, for the predecessor that it is for
abbrev pub ResultIsPushed : Type 0
ResultIsPushed =
    (blocks : Blocks) (predecessors : ℕ → List ℕ) (x : ℕ) (first : Option ℕ)
    (f : Frame) (frames : List Frame) (r : ℕ) →
    Delivers blocks predecessors x first (f ∷ frames) r →
    (b : ℕ) × AtRest blocks predecessors x first (record f { done = b ∷ f.done; results = r ∷ f.results }) frames

-- the last result of a use is what the block's record resolves as
abbrev pub LastResultAnswers : Type 0
LastResultAnswers =
    (blocks : Blocks) (predecessors : ℕ → List ℕ) (x block r : ℕ) →
    Delivers blocks predecessors x (Some block) [] r → Knows blocks block x r

-- what a look-up finds is a result
abbrev pub FoundIsDelivered : Type 0
FoundIsDelivered =
    (blocks : Blocks) (predecessors : ℕ → List ℕ) (x : ℕ) (first : Option ℕ) (frames : List Frame) (b r : ℕ) →
    Finds blocks predecessors x first frames b r → Delivers blocks predecessors x first frames r

-- the next predecessor is looked up
abbrev pub NextIsExpected : Type 0
NextIsExpected =
    (blocks : Blocks) (predecessors : ℕ → List ℕ) (x : ℕ) (first : Option ℕ)
    (f : Frame) (frames : List Frame) (b : ℕ) (todo : List ℕ) →
    f.todo ≡ b ∷ todo → AtRest blocks predecessors x first f frames →
    Expects blocks predecessors x first (record f { todo = todo } ∷ frames) b

-- a record is found, along a chain of single predecessors from the block that has it
abbrev pub RecordIsFound : Type 0
RecordIsFound =
    (blocks : Blocks) (predecessors : ℕ → List ℕ) (x : ℕ) (first : Option ℕ)
    (frames : List Frame) (from v : ℕ) (chain : List ℕ) →
    BlocksSound blocks → Expects blocks predecessors x first frames (last_of from chain) →
    blocks.recorded from x ≡ Some v → IsChain blocks x from chain → Unrecorded blocks x v chain →
    Finds (with_chain blocks x v chain) predecessors x first frames (last_of from chain) v

-- none is found: a parameter is added where the chain begins
abbrev pub ParameterIsAdded : Type 0
ParameterIsAdded =
    (blocks : Blocks) (predecessors : ℕ → List ℕ) (x : ℕ) (first : Option ℕ)
    (frames : List Frame) (from v : ℕ) (chain : List ℕ) →
    BlocksSound blocks → Expects blocks predecessors x first frames (last_of from chain) →
    CanAddParameter blocks from x v → blocks.recorded from x ≡ None → IsChain blocks x from chain →
    Unrecorded blocks x v chain →
    Finds (with_chain (with_parameter blocks from x v) x v chain) predecessors x first frames (last_of from chain) v ×
    NotFor v frames

-- a parameter of a sealed block begins a look-up in its predecessors
abbrev pub FrameIsPushed : Type 0
FrameIsPushed =
    (blocks : Blocks) (predecessors : ℕ → List ℕ) (x : ℕ) (first : Option ℕ) (frames : List Frame) (block v : ℕ) →
    Delivers blocks predecessors x first frames v → WaitsIn blocks block x v → blocks.function.resolve v ≡ v →
    NotFor v frames →
    AtRest blocks predecessors x first
    (record { parameter = v; block = block; done = []; results = []; todo = predecessors block }) frames

-- at sealing, the look-up for a parameter begins with an empty stack
abbrev pub SealingBegins : Type 0
SealingBegins =
    (blocks : Blocks) (predecessors : ℕ → List ℕ) (x v : ℕ) → BlocksSound blocks →
    Delivers blocks predecessors x None [] v

-- a look-up ends with one value beside the parameter: that value is the result
abbrev pub DroppingFinishes : Type 0
DroppingFinishes =
    (blocks : Blocks) (predecessors : ℕ → List ℕ) (x : ℕ) (first : Option ℕ)
    (f : Frame) (frames : List Frame) (target : ℕ) →
    BlocksSound blocks → AtRest blocks predecessors x first f frames → f.todo ≡ [] →
    LeavesOneOf blocks f.block (predecessors f.block) →
    blocks.function.resolve target ≡ target → target ≢ f.parameter →
    ((r : ℕ) → InList f.results r → (blocks.function.resolve r ≡ target) ⊎ (blocks.function.resolve r ≡ f.parameter)) →
    ((r : ℕ) × (InList f.results r) × (blocks.function.resolve r ≡ target)) →
    Delivers (with_dropped blocks f.parameter target) predecessors x first frames target

-- It ends with more: the parameter gets each predecessor's result on its arms, and is the result. `back_onto` turns
-- the results round, into the order of the predecessors.
abbrev pub FillingFinishes : Type 0
FillingFinishes =
    (blocks : Blocks) (predecessors : ℕ → List ℕ) (x : ℕ) (first : Option ℕ) (f : Frame) (frames : List Frame)
    (given : Arm → ℕ) →
    BlocksSound blocks → AtRest blocks predecessors x first f frames → f.todo ≡ [] →
    ((arm : Arm) → blocks.joins arm ≡ true → arm.target ≡ front f.block →
    (b : ℕ) × (Paired (predecessors f.block) (back_onto f.results []) b (given arm)) ×
    (arm.source ≡ last_place blocks b)) →
    Delivers (with_filled blocks x f.parameter given) predecessors x first frames f.parameter

-- a frame has one result for each predecessor that is done
abbrev pub ResultsAreCounted : Type 0
ResultsAreCounted =
    (blocks : Blocks) (predecessors : ℕ → List ℕ) (x : ℕ) (first : Option ℕ) (f : Frame) (frames : List Frame) →
    AtRest blocks predecessors x first f frames → length f.results + length f.todo ≡ length (predecessors f.block)

-- it ends with none: a zero is put into the block, and is the result
abbrev pub ZeroFinishes : Type 0
ZeroFinishes =
    (blocks : Blocks) (predecessors : ℕ → List ℕ) (x : ℕ) (first : Option ℕ)
    (f : Frame) (frames : List Frame) (z : ℕ) →
    BlocksSound blocks → AtRest blocks predecessors x first f frames → f.todo ≡ [] →
    ((arm : Arm) → blocks.joins arm ≡ true → arm.target ≡ front f.block →
    (arm.source ≡ start) ⊎ ((b : ℕ) × (InList (predecessors f.block) b) × (arm.source ≡ last_place blocks b))) →
    (blocks.function.definition z).home ≡ start → blocks.function.resolve z ≡ z →
    ((r : ℕ) → InList f.results r → blocks.function.resolve r ≡ f.parameter) →
    Delivers (with_dropped (with_zero_in blocks f.block x z) f.parameter z) predecessors x first frames z
