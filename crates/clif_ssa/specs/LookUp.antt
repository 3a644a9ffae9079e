-- The look-up of a variable: the walk along single predecessors, and the machine that looks it up in the predecessors
-- of blocks.
-- Source: Braun et al. 2013 (reading a variable, adding operands, removing trivial parameters); the walk, and the two
-- stacks in place of recursion, are upstream's.
use Rattle.std.specs.Prelude.{◌≡◌, ◌≢◌, ℕ, ◌<◌, ◌==◌, ◌&&◌, ◌⊎◌, List, [], ◌∷◌, ◌++◌, length, reverse, Option, Some, None, true, false, Contains, if◌then◌else◌}
use Rattle.clif_types.specs.declared.types.«Type».{«Type»}
use Rattle.clif_ir.specs.Body.{Body, inst_at, value_at, resolved}
use Rattle.clif_ir.specs.Changes.{with_param, with_branch_argument, with_alias}
use Rattle.clif_instructions.specs.Members.{Once, stands_in}
use Rattle.clif_ir.specs.Reading.{param_home}
use Rattle.clif_records.specs.declared.look_up.Call.{Call}
use Rattle.clif_records.specs.declared.look_up.Call.TheVariants.{UseVar, FinishPredecessorsLookup}
use Rattle.clif_records.specs.Tables.{No, is_yes, pending_of}
use Rattle.clif_records.specs.Passed.{before_first}
use Rattle.clif_records.specs.Tracking.{with_binding}
use Rattle.clif_records.specs.Stacks.{LookUpState, calls_for}
use Rattle.clif_ssa.specs.Ssa.{SsaState, record_of, sealed_of, predecessors_of, zeroed, zero_value, SameBlocks, SamePredecessors, SameLookups, CountsLookup}

-- THE WALK --------------------------------------------------------------------------------------------------------

-- the block in which a branch stands
abbrev pub branch_block : Body → ℕ → ℕ
branch_block f branch = (inst_at f branch).block

abbrev pub only_block : Body → List ℕ → Option ℕ
only_block f [] = None
only_block f (branch ∷ []) = Some (branch_block f branch)
only_block f (branch ∷ another ∷ branches) = None

-- the block from which alone control comes to a sealed block, by one branch
abbrev pub single_predecessor : Body → SsaState → ℕ → Option ℕ
single_predecessor f s block = if is_yes (sealed_of s block) then only_block f (predecessors_of s block) else None

-- the walk from a block to another one passes these blocks, in order: none records the variable, and each has a single
-- predecessor, which is the next
abbrev pub IsWalk : Body → SsaState → ℕ → ℕ → List ℕ → ℕ → Type 0
IsWalk f s x block [] reached = block ≡ reached
IsWalk f s x block (b ∷ passed) reached =
    (b ≡ block) × (record_of s x block ≡ None)
    × ((next : ℕ) × (single_predecessor f s block ≡ Some next) × IsWalk f s x next passed reached)

-- the walk goes as far as it can: it ends where the variable is recorded, where there is no single predecessor, or at
-- a block that it has passed
pub record WalksTo (f : Body) (s : SsaState) (x block : ℕ) (passed : List ℕ) (reached : ℕ) : Type 0 where
  pub walk : IsWalk f s x block passed reached
  pub once : Once passed
  pub ends : (record_of s x reached ≢ None) ⊎ ((single_predecessor f s reached ≡ None) ⊎ (stands_in reached passed ≡ true))

-- a value is recorded for the variable in these blocks, and all other records are as before
abbrev pub Copies : SsaState → SsaState → ℕ → ℕ → List ℕ → Type 0
Copies s t x value blocks = (y b : ℕ) → record_of t y b ≡ (if y == x && stands_in b blocks then Some value else record_of s y b)

-- THE MACHINE -----------------------------------------------------------------------------------------------------

-- what the construction has while variables are looked up
pub record Stage : Type 0 where
  pub function : Body
  pub state : SsaState
  pub look_up : LookUpState

-- a look-up in a block finds a record, at the end of the walk: it is copied to the blocks passed, and is a result
pub record FindsRecord (x block : ℕ) (m n : Stage) : Type 0 where
  pub passed : List ℕ
  pub reached : ℕ
  pub value : ℕ
  pub walks : WalksTo m.function m.state x block passed reached
  pub is_recorded : record_of m.state x reached ≡ Some value
  pub function : n.function ≡ m.function
  pub copies : Copies m.state n.state x value passed
  pub blocks : SameBlocks m.state n.state
  pub predecessors : SamePredecessors m.state n.state
  pub lookups : SameLookups m.state n.state
  pub tracking : n.state.tracking ≡ m.state.tracking
  pub look_up : n.look_up ≡ record m.look_up { results = value ∷ m.look_up.results }

-- it finds none: a new parameter of the block reached is recorded there and in the blocks passed until then
pub record AddsParameter (x : ℕ) (ty : «Type») (block reached : ℕ) (m n : Stage) : Type 0 where
  pub passed : List ℕ
  pub walks : WalksTo m.function m.state x block passed reached
  pub exists : reached < length m.function.blocks
  pub unrecorded : record_of m.state x reached ≡ None
  pub function : n.function ≡ with_param m.function reached ty
  pub copies : Copies m.state n.state x (length m.function.values) (reached ∷ before_first reached passed)
  pub tracking : n.state.tracking ≡ with_binding m.state.tracking x (length m.function.values)
  pub predecessors : SamePredecessors m.state n.state

-- where that block is unsealed, the parameter waits, and is a result
pub record ParameterWaits (x : ℕ) (ty : «Type») (block : ℕ) (m n : Stage) : Type 0 where
  pub reached : ℕ
  pub adds : AddsParameter x ty block reached m n
  pub unsealed : is_yes (sealed_of m.state reached) ≡ false
  pub blocks : (b : ℕ) → sealed_of n.state b ≡ (if b == reached then No (pending_of (sealed_of m.state b) ++ record { variable = x; param = length m.function.values } ∷ []) else sealed_of m.state b)
  pub lookups : SameLookups m.state n.state
  pub look_up : n.look_up ≡ record m.look_up { results = length m.function.values ∷ m.look_up.results }

-- a look-up in the predecessors of a block begins
pub record BeginsLookUp (x param block : ℕ) (m n : Stage) : Type 0 where
  pub counted : CountsLookup m.state n.state x block
  pub look_up : n.look_up ≡ record m.look_up { calls = calls_for (predecessors_of m.state block) param block ++ m.look_up.calls }

-- where it is sealed, the look-up in its predecessors begins
pub record ParameterBegins (x : ℕ) (ty : «Type») (block : ℕ) (m n : Stage) : Type 0 where
  pub reached : ℕ
  pub adds : AddsParameter x ty block reached m n
  pub is_sealed : is_yes (sealed_of m.state reached) ≡ true
  pub blocks : SameBlocks m.state n.state
  pub begins : BeginsLookUp x (length m.function.values) reached m n

-- the variable is looked up in a block
abbrev pub LooksUp : ℕ → «Type» → ℕ → Stage → Stage → Type 0
LooksUp x ty block m n = FindsRecord x block m n ⊎ (ParameterWaits x ty block m n ⊎ ParameterBegins x ty block m n)

-- each of these branches passes its value on each of its edges to the block, at the end
abbrev pub with_arguments : Body → ℕ → List ℕ → List ℕ → Body
with_arguments f block [] values = f
with_arguments f block (branch ∷ branches) [] = f
with_arguments f block (branch ∷ branches) (value ∷ values) =
    with_arguments (with_branch_argument f branch block value) block branches values

-- What comes to a parameter: nothing but itself, one other value, or several. `results` are one for each predecessor.
pub record NothingComes (f : Body) (param : ℕ) (results : List ℕ) : Type 0 where
  pub itself : (r : ℕ) → Contains results r → resolved f r ≡ param

pub record OneComes (f : Body) (param value : ℕ) (results : List ℕ) : Type 0 where
  pub other : value ≢ param
  pub comes : (r : ℕ) × Contains results r × (resolved f r ≡ value)
  pub alone : (r : ℕ) → Contains results r → (resolved f r ≡ value) ⊎ (resolved f r ≡ param)

pub record SeveralCome (f : Body) (param : ℕ) (results : List ℕ) : Type 0 where
  pub first : ℕ
  pub second : ℕ
  pub first_comes : Contains results first
  pub second_comes : Contains results second
  pub apart : resolved f first ≢ resolved f second
  pub first_other : resolved f first ≢ param
  pub second_other : resolved f second ≢ param

-- What is no parameter stays as it is.
pub record IsNoParameter (param : ℕ) (f g : Body) (value : ℕ) (zeros : List ℕ) : Type 0 where
  pub gone : param_home f param ≡ None
  pub function : g ≡ f
  pub answer : value ≡ param
  pub told : zeros ≡ []

-- The look-up of a parameter ends: nothing comes to it, and it is a name of a new zero; one value comes, and it is a name
-- of that; or several come, and each edge of its block's predecessors passes one.
pub record EndsInZero (param home : ℕ) (results : List ℕ) (f g : Body) (value : ℕ) (zeros : List ℕ) : Type 0 where
  pub nothing : NothingComes f param results
  pub function : g ≡ zeroed f home param
  pub answer : value ≡ zero_value f (value_at f param).ty
  pub told : zeros ≡ home ∷ []

pub record EndsInValue (param : ℕ) (results : List ℕ) (f g : Body) (value : ℕ) (zeros : List ℕ) : Type 0 where
  pub one : OneComes f param value results
  pub function : g ≡ with_alias f param value
  pub told : zeros ≡ []

pub record EndsInParameter (param block : ℕ) (predecessors results : List ℕ) (f g : Body) (value : ℕ) (zeros : List ℕ) : Type 0 where
  pub several : SeveralCome f param results
  pub function : g ≡ with_arguments f block predecessors results
  pub answer : value ≡ param
  pub told : zeros ≡ []

-- `predecessors` and `results` are in the same order; `home` is the block of which the parameter is one, and is `block`
-- in every state that tables describe
abbrev pub EndsLookUp : ℕ → ℕ → ℕ → List ℕ → List ℕ → Body → Body → ℕ → List ℕ → Type 0
EndsLookUp param home block predecessors results f g value zeros =
    EndsInZero param home results f g value zeros
    ⊎ (EndsInValue param results f g value zeros ⊎ EndsInParameter param block predecessors results f g value zeros)

-- the last results, one for each predecessor of the parameter's block, end its look-up
pub record FinishesLookUp (param block : ℕ) (m n : Stage) : Type 0 where
  -- those that are used, the latest first, and those that stay
  pub results : List ℕ
  pub others : List ℕ
  pub taken : m.look_up.results ≡ results ++ others
  pub count : length results ≡ length (predecessors_of m.state block)
  pub value : ℕ
  pub zeros : List ℕ
  pub ends :
      IsNoParameter param m.function n.function value zeros
      ⊎ ((home : ℕ) × (param_home m.function param ≡ Some home)
      × EndsLookUp param home block (predecessors_of m.state block) (reverse results) m.function n.function value zeros)
  pub state : n.state ≡ m.state
  pub look_up : n.look_up ≡ record { calls = m.look_up.calls; results = value ∷ others; zeros = m.look_up.zeros ++ zeros }

-- the stage without its next call
abbrev pub with_calls : Stage → List Call → Stage
with_calls m calls = record m { look_up = record m.look_up { calls = calls } }

-- the next call is made
pub record MakesLook (x : ℕ) (ty : «Type») (m n : Stage) : Type 0 where
  pub branch : ℕ
  pub calls : List Call
  pub is_next : m.look_up.calls ≡ UseVar branch ∷ calls
  pub looks : LooksUp x ty (branch_block m.function branch) (with_calls m calls) n

pub record MakesFinish (m n : Stage) : Type 0 where
  pub param : ℕ
  pub block : ℕ
  pub calls : List Call
  pub is_next : m.look_up.calls ≡ FinishPredecessorsLookup param block ∷ calls
  pub finishes : FinishesLookUp param block (with_calls m calls) n

abbrev pub MakesCall : ℕ → «Type» → Stage → Stage → Type 0
MakesCall x ty m n = MakesLook x ty m n ⊎ MakesFinish m n

-- calls are made in turn
pub data MakesCalls (x : ℕ) (ty : «Type») : Stage → Stage → Type 0 where
  none_made : {m : Stage} → MakesCalls x ty m m
  made : {m n k : Stage} → MakesCalls x ty m n → MakesCall x ty n k → MakesCalls x ty m k

-- A use of a variable: it is looked up in the block, and calls are made until none is left; the one result is the
-- answer.
pub record UsesVariable (x : ℕ) (ty : «Type») (block : ℕ) (m : Stage) (value : ℕ) (n : Stage) : Type 0 where
  pub begun : Stage
  pub looks : LooksUp x ty block m begun
  pub made : MakesCalls x ty begun n
  pub answered : n.look_up.results ≡ value ∷ []
  pub ended : n.look_up.calls ≡ []

-- The completion of a parameter that waited in a block for a variable: the look-up in its predecessors begins, and calls
-- are made until none is left.
pub record CompletesParameter (x : ℕ) (ty : «Type») (param block : ℕ) (m n : Stage) : Type 0 where
  pub begun : Stage
  pub done : Stage
  pub value : ℕ
  pub same_function : begun.function ≡ m.function
  pub same_records : (y b : ℕ) → record_of begun.state y b ≡ record_of m.state y b
  pub same_blocks : SameBlocks m.state begun.state
  pub same_predecessors : SamePredecessors m.state begun.state
  pub same_tracking : begun.state.tracking ≡ m.state.tracking
  pub begins : BeginsLookUp x param block m begun
  pub made : MakesCalls x ty begun done
  pub answered : done.look_up.results ≡ value ∷ []
  pub ended : done.look_up.calls ≡ []
  pub next : n ≡ record done { look_up = record done.look_up { results = [] } }
