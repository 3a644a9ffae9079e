-- What each step of the construction keeps, whatever it makes and however it ends. Source: own.
use Rattle.std.specs.Prelude.{◌≡◌, ◌≢◌, ◌+◌, ◌<◌, ◌≤◌, ◌⊎◌, ℕ, List, [], ◌∷◌, length, Contains, Bool, true, false, None, Result, Err, OnOk, OnErr, IfOk, IfSome}
use Rattle.clif_types.specs.declared.error.BuildError.{BuildError}
use Rattle.clif_types.specs.declared.error.BuildError.TheVariants.{Full, Failed}
use Rattle.clif_types.specs.declared.types.«Type».{«Type»}
use Rattle.clif_ir.specs.Body.{Body, block_at, value_at}
use Rattle.clif_records.specs.declared.side_effects.SideEffects.{SideEffects}
use Rattle.clif_ssa.specs.Constructs.{OnlyConstructs, TellsZeros}
use Rattle.clif_ssa.specs.Pools.{MayPoolAll}
use Rattle.clif_paths.specs.Blocks.{Blocks}
use Rattle.clif_records.specs.Stacks.{no_look_up}
use Rattle.clif_ssa.specs.LookUp.{UsesVariable}
use Rattle.clif_ssa.specs.Own.{Own}
use Rattle.clif_ssa.specs.Running.{CountsOnce, found, stage}
use Rattle.clif_ssa.specs.Sound.{Keeps, KeepsAndKnows, SparesIfEntry}
use Rattle.clif_ssa.specs.SoundLaws.{DescribesSoundly}
use Rattle.clif_ssa.specs.Structured.{HasType, Structured, VariableTypes}
use Rattle.clif_ssa.specs.Tracked.{TracksMade}
use Rattle.clif_ssa.specs.Within.{HoldsBranches, HoldsWaiting, StaysWithin}
use Rattle.clif_ssa.specs.Ssa.{SsaState, predecessors_of, record_of, sealed_of, CountsLookup, HasMore, IsLocal, KnowsNoMore, NamesExist, RecordsStay, SameBlocks, SameLookups, SamePredecessors, SealedStays, Waits, Zeroes}
use Rattle.clif_ssa.specs.Sealing.{SealsBelow, SealsByLookUp, SealsLocally, SealsOne}
use Rattle.clif_ssa.specs.Structure.{HasRecordOf, LooksOnce, Remembers}
use Rattle.clif_records.specs.Tables.{is_yes, pending_of}
use Rattle.clif_records.specs.declared.tables.Pending.{Pending}
use Rattle.clif_ssa.specs.Zeros.{steps_before}

-- Which constants a step may pool: those of the zeros of these types. Each value keeps its type, and what waits now did before or
-- has one of the types.
pub record StepPools (types : List «Type») (f : Body) (s : SsaState) (g : Body) (t : SsaState) : Type 0 where
  pub tables : MayPoolAll types f.tables g.tables
  pub typed : (v : ℕ) → v < length f.values → (v < length g.values) × ((value_at g v).ty ≡ (value_at f v).ty)
  pub waiting : (b : ℕ) (p : Pending) → Contains (pending_of (sealed_of t b)) p
      → Contains (pending_of (sealed_of s b)) p ⊎ ((p.param < length g.values) × Contains types (value_at g p.param).ty)

-- From one function and state to the next, also where the step fails: the branches that lead to a block, what is sealed and
-- each record stay, the function has more, as the construction makes it, and what is named exists.
pub record StepLeaves (f : Body) (s : SsaState) (g : Body) (t : SsaState) : Type 0 where
  pub predecessors : SamePredecessors s t
  pub stay : RecordsStay s t
  pub flags : SealedStays s t
  pub no_more : KnowsNoMore s t (length f.blocks)
  pub more : HasMore f g
  pub constructs : OnlyConstructs f g
  pub names : NamesExist f s → NamesExist g t

-- The same for one variable of a type, of which alone records are made; and look-ups begin at most once.
pub record StepKeeps (x : ℕ) (ty : «Type») (f : Body) (s : SsaState) (g : Body) (t : SsaState) : Type 0 where
  pub predecessors : SamePredecessors s t
  pub stay : RecordsStay s t
  pub flags : SealedStays s t
  pub no_more : KnowsNoMore s t (length f.blocks)
  pub more : HasMore f g
  pub constructs : OnlyConstructs f g
  pub names : NamesExist f s → NamesExist g t
  pub once : CountsOnce s t
  pub pools : StepPools (ty ∷ []) f s g t

-- How a step ends: it fails for want of room alone, of memory or in a table of the function.
pub record StepEnds (TableIsFull : Body → Type 0) (g : Body) {A : Type 0} (answer : Result A BuildError) : Type 0 where
  pub full : answer ≡ Err Full → TableIsFull g
  pub never_failed : answer ≢ Err Failed

-- A use of a variable that isn't recorded in a block which is unsealed, or to which nothing leads.
pub record UsesLocally (x : ℕ) (ty : «Type») (b : ℕ) (f : Body) (s : SsaState) (g : Body) (t : SsaState) (answer : Result (ℕ × SideEffects) BuildError) : Type 0 where
  pub waits : is_yes (sealed_of s b) ≡ false
      → OnOk answer (Waits s t f g x ty b) × IfOk answer (λ r. (r.0 ≡ length f.values) × (r.1.instructions_added_to_blocks.items ≡ []))
  pub zero : is_yes (sealed_of s b) ≡ true
      → OnOk answer (Zeroes s t f g x ty b) × IfOk answer (λ r. (r.0 ≡ length f.values + 1 + steps_before ty) × (r.1.instructions_added_to_blocks.items ≡ b ∷ []))
  pub counts_none : is_yes (sealed_of s b) ≡ false → OnOk answer (SameLookups s t)
  pub counts_one : is_yes (sealed_of s b) ≡ true → OnOk answer (CountsLookup s t x b)
  pub tells : IfOk answer (λ r. TellsZeros f g r.1.instructions_added_to_blocks.items)
  pub err : OnErr answer (SameBlocks s t)

-- What a use of a variable makes, by what is known of the variable in the block: the value that is recorded is the answer; in an unsealed
-- block it is a parameter that waits; in one to which nothing leads a zero; and in any other one what a look-up finds.
pub record UseMakes (x : ℕ) (ty : «Type») (b : ℕ) (f : Body) (s : SsaState) (g : Body) (t : SsaState) (answer : Result (ℕ × SideEffects) BuildError) : Type 0 where
  pub known : IfSome (record_of s x b) (λ v. OnOk answer ((g ≡ f) × (t ≡ s)) × IfOk answer (λ r. (r.0 ≡ v) × (r.1.instructions_added_to_blocks.items ≡ [])))
  pub waits : record_of s x b ≡ None → is_yes (sealed_of s b) ≡ false
      → OnOk answer (Waits s t f g x ty b) × IfOk answer (λ r. (r.0 ≡ length f.values) × (r.1.instructions_added_to_blocks.items ≡ []))
  pub zero : record_of s x b ≡ None → is_yes (sealed_of s b) ≡ true → predecessors_of s b ≡ []
      → OnOk answer (Zeroes s t f g x ty b) × IfOk answer (λ r. (r.0 ≡ length f.values + 1 + steps_before ty) × (r.1.instructions_added_to_blocks.items ≡ b ∷ []))
  pub looks : record_of s x b ≡ None → is_yes (sealed_of s b) ≡ true → predecessors_of s b ≢ []
      → IfOk answer (λ r. UsesVariable x ty b (stage f s no_look_up) r.0 (stage g t (found r.0 r.1.instructions_added_to_blocks.items)))
  pub counts_none : record_of s x b ≡ None → is_yes (sealed_of s b) ≡ false → OnOk answer (SameLookups s t)
  pub counts_one : record_of s x b ≡ None → is_yes (sealed_of s b) ≡ true → predecessors_of s b ≡ [] → OnOk answer (CountsLookup s t x b)
  -- where nothing leads to the block no block gets a parameter that stays
  pub parameters : IsLocal s x b → is_yes (sealed_of s b) ≡ true → (c : ℕ) → OnOk answer ((block_at g c).params ≡ (block_at f c).params)
  pub err : IsLocal s x b → OnErr answer (SameBlocks s t)

-- What it answers, with zeros put into the blocks `told`: a value that is the variable's on every path, is on record in the block, and has
-- the variable's type.
pub record UseGives (x : ℕ) (ty : «Type») (b : ℕ) (f : Body) (s : SsaState) (g : Body) (t : SsaState) (value : ℕ) (told : List ℕ) : Type 0 where
  pub keeps : (own : Own) (tables : Blocks) → DescribesSoundly own f s tables → KeepsAndKnows own tables g t b x value
  pub recorded : HasRecordOf g t x b value
  pub remembers : (y c : ℕ) → Remembers y c f s g t
  pub structured : (types : VariableTypes) (own : Own) → ty ≡ types x → Structured types own f s [] → Structured types own g t [] × HasType g value ty
  pub tells : TellsZeros f g told
  pub tracks : NamesExist f s → TracksMade (length f.values) s t
  pub within : (holds : ℕ → Bool) → HoldsBranches f s holds → holds b ≡ true → StaysWithin holds f g told
  pub exists : NamesExist f s → value < length g.values

-- What the sealing of a block leaves, also where it fails.
pub record SealKeeps (b : ℕ) (f : Body) (s : SsaState) (g : Body) (t : SsaState) : Type 0 where
  pub predecessors : SamePredecessors s t
  pub stay : RecordsStay s t
  pub no_more : b < length f.blocks → KnowsNoMore s t (length f.blocks)
  pub more : HasMore f g
  pub constructs : OnlyConstructs f g
  pub names : NamesExist f s → NamesExist g t
  pub looks_once : LooksOnce s → LooksOnce t

-- What the sealing of a block makes.
pub record SealMakes (b : ℕ) (f : Body) (s : SsaState) (g : Body) (t : SsaState) (answer : Result SideEffects BuildError) : Type 0 where
  pub sealed : OnOk answer (SealsOne s t b)
  pub err : OnErr answer (SealedStays s t ⊎ SealsOne s t b)
  pub local : predecessors_of s b ≡ [] → SealsLocally f s g t b answer
  pub completes : predecessors_of s b ≢ [] → IfOk answer (λ r. SealsByLookUp f s g t b r.instructions_added_to_blocks.items)
  pub tells : IfOk answer (λ r. TellsZeros f g r.instructions_added_to_blocks.items)

-- What sealing keeps, whatever it seals: values are the variables' on every path, where the sealing of no block is ruled out by a branch to
-- the entry (`Spares`); zeros come into blocks of a part of the function that branches don't leave, if what waits is within it (`Waits`).
pub record SealGives (Spares : Type 0) (WaitsWithin : (ℕ → Bool) → Type 0) (f : Body) (s : SsaState) (g : Body) (t : SsaState) (answer : Result SideEffects BuildError) : Type 0 where
  pub keeps : (own : Own) (tables : Blocks) → Spares → DescribesSoundly own f s tables → OnOk answer (Keeps own tables g t)
  pub remembers : (x b : ℕ) → OnOk answer (Remembers x b f s g t)
  pub structured : (types : VariableTypes) (own : Own) → Structured types own f s [] → OnOk answer (Structured types own g t [])
  pub tells : IfOk answer (λ r. TellsZeros f g r.instructions_added_to_blocks.items)
  pub tracks : NamesExist f s → OnOk answer (TracksMade (length f.values) s t)
  pub within : (holds : ℕ → Bool) → HoldsBranches f s holds → WaitsWithin holds → IfOk answer (λ r. StaysWithin holds f g r.instructions_added_to_blocks.items)

-- for one block
abbrev pub SealBlockGives : ℕ → Body → SsaState → Body → SsaState → Result SideEffects BuildError → Type 0
SealBlockGives b f s g t answer = SealGives (SparesIfEntry f s b) (λ holds. HoldsWaiting f s holds b) f s g t answer

-- for all blocks of the function
abbrev pub SealAllGives : Body → SsaState → Body → SsaState → Result SideEffects BuildError → Type 0
SealAllGives f s g t answer =
    SealGives ((b : ℕ) → b < length f.blocks → SparesIfEntry f s b) (λ holds. (b : ℕ) → b < length f.blocks → HoldsWaiting f s holds b) f s g t answer

-- All blocks of the function are sealed, by rising number, and no other block.
pub record SealAllMakes (f : Body) (s : SsaState) (g : Body) (t : SsaState) (answer : Result SideEffects BuildError) : Type 0 where
  pub sealed : OnOk answer ((b : ℕ) → b < length f.blocks → is_yes (sealed_of t b) ≡ true)
  pub sealed_stays : (b : ℕ) → is_yes (sealed_of s b) ≡ true → is_yes (sealed_of t b) ≡ true
  pub others : (b : ℕ) → length f.blocks ≤ b → is_yes (sealed_of t b) ≡ is_yes (sealed_of s b)
  pub in_turn : IfOk answer (λ r. SealsBelow f s (length f.blocks) g t r.instructions_added_to_blocks.items)

-- What that leaves, also where it fails.
pub record SealAllKeeps (f : Body) (s : SsaState) (g : Body) (t : SsaState) : Type 0 where
  pub predecessors : SamePredecessors s t
  pub stay : RecordsStay s t
  pub no_more : length s.blocks ≤ length f.blocks → length t.blocks ≤ length f.blocks
  pub more : HasMore f g
  pub constructs : OnlyConstructs f g
  pub names : NamesExist f s → NamesExist g t
  pub looks_once : LooksOnce s → LooksOnce t
