-- When the tables of the theory of variables on paths describe a function and the state of its construction. The
-- tables have the program's side (items, assignments, names and their answers), which the caller brings, and the
-- function's side, which is said here. Source: own, after the data that Braun et al. 2013 keep.
use Rattle.std.specs.Prelude.{◌≡◌, ◌≢◌, ℕ, ◌+◌, ◌<◌, ◌≤◌, ◌==◌, ◌&&◌, ◌⊎◌, Bool, true, false, List, [], ◌∷◌, ◌++◌, length, map, Option, Some, None, slice_get, slice_index_or, Contains, if◌then◌else◌}
use Rattle.std.specs.List.{AllByRecursion}
use Rattle.clif_ir.specs.Body.{Body, inst_at, block_at, resolved}
use Rattle.clif_instructions.specs.Members.{Once, place_of}
use Rattle.clif_instructions.specs.Instruction.{destinations}
use Rattle.clif_ir.specs.Reading.{param_home}
use Rattle.clif_instructions.specs.Edges.{targets}
use Rattle.clif_instructions.specs.declared.block_call.BlockArg.{BlockArg}
use Rattle.clif_instructions.specs.declared.block_call.BlockArg.TheVariants.{Value}
use Rattle.clif_instructions.specs.declared.block_call.BlockCall.{BlockCall}
use Rattle.clif_paths.specs.Places.{Place, start, inside, Arm}
use Rattle.clif_paths.specs.State.{fresh, Kind, unborn, born, pending, complete, zero_of}
use Rattle.clif_paths.specs.Blocks.{Blocks, front, last_place, AssignsNot, Knows}
use Rattle.clif_paths.specs.BlockLaws.{BlocksSound}
use Rattle.clif_records.specs.declared.tables.Pending.{Pending}
use Rattle.clif_ssa.specs.Own.{Own}
use Rattle.clif_records.specs.Tables.{is_yes, pending_of}
use Rattle.clif_ssa.specs.Ssa.{SsaState, record_of, sealed_of, predecessors_of}
use Rattle.clif_ssa.specs.LookUp.{branch_block}
use Rattle.clif_ssa.specs.Zeros.{ZeroAt, HasZero, insts_of_zeros, value_of_zero}

-- the first block of the layout
abbrev pub entry_of : Body → Option ℕ
entry_of f = slice_get f.layout 0

-- The entry is free: once it is sealed, no branch leads to it. While it is unsealed any branches may.
abbrev pub EntryIsFree : Body → SsaState → Type 0
EntryIsFree f s = (entry : ℕ) → entry_of f ≡ Some entry → is_yes (sealed_of s entry) ≡ true → predecessors_of s entry ≡ []

-- no branch leads to this block, if it is the entry
abbrev pub SparesIfEntry : Body → SsaState → ℕ → Type 0
SparesIfEntry f s block = entry_of f ≡ Some block → predecessors_of s block ≡ []

abbrev pub has_entry : List ℕ → Bool
has_entry [] = false
has_entry (block ∷ layout) = true

-- The zero of a variable, for the front of this block. The results of its other steps are no values of the theory.
pub record IsZero (f : Body) (blocks : Blocks) (block : ℕ) (zero : ZeroAt) : Type 0 where
  pub variable : ℕ
  pub stands : HasZero f zero
  pub defined : blocks.function.definition (value_of_zero zero) ≡ record { home = front block; kind = zero_of variable }
  pub others : (v : ℕ) → zero.value ≤ v → v < value_of_zero zero
      → blocks.function.definition v ≡ record { home = start; kind = unborn }

-- The instructions of a block are those of zeros, and then its own: those that the caller made, in order.
pub record HasInstructions (f : Body) (blocks : Blocks) (block : ℕ) (own : List ℕ) : Type 0 where
  pub zeros : List ZeroAt
  pub in_order : (block_at f block).insts ≡ insts_of_zeros zeros ++ own
  pub are_zeros : AllByRecursion (IsZero f blocks block) zeros

-- the parameter of the block waits for its variable
pub record IsWaiting (f : Body) (blocks : Blocks) (block : ℕ) (p : Pending) : Type 0 where
  pub parameter : param_home f p.param ≡ Some block
  pub defined : blocks.function.definition p.param ≡ record { home = front block; kind = pending p.variable }

-- what stands for a parameter that isn't in a list
abbrev pub no_pending : Pending
no_pending = record { variable = 0; param = 0 }

abbrev pub is_some_block : ℕ → Option ℕ → Bool
is_some_block block None = false
is_some_block block (Some b) = b == block

-- those of the list that are parameters of the block
abbrev pub is_parameter_of : Body → ℕ → Pending → Bool
is_parameter_of f block p = is_some_block block (param_home f p.param)

abbrev pub parameters_of : Body → ℕ → List Pending → List Pending
parameters_of f block [] = []
parameters_of f block (p ∷ ps) = if is_parameter_of f block p then p ∷ parameters_of f block ps else parameters_of f block ps

-- they stand among the parameters in their order
abbrev pub InOrder : List ℕ → List Pending → Type 0
InOrder params ps = (j k : ℕ) → j < k → k < length ps
    → place_of (slice_index_or ps j no_pending).param params < place_of (slice_index_or ps k no_pending).param params

-- where a value is defined, by its kind
abbrev pub HomeFits : Blocks → ℕ → Kind → Type 0
HomeFits blocks v unborn = (blocks.function.definition v).home ≡ start
HomeFits blocks v (born n) =
    (blocks.naming n ≡ record { home = (blocks.function.definition v).home; origin = fresh })
    × (blocks.answer n ≡ v) × ((blocks.function.definition v).home ≢ start)
HomeFits blocks v (pending x) = (block : ℕ) × ((blocks.function.definition v).home ≡ front block)
HomeFits blocks v (complete x) = (block : ℕ) × ((blocks.function.definition v).home ≡ front block) × (blocks.sealed block ≡ true)
HomeFits blocks v (zero_of x) = (block : ℕ) × ((blocks.function.definition v).home ≡ front block)

-- the edges of an instruction
abbrev pub edges_at : Body → ℕ → List BlockCall
edges_at f inst = destinations (inst_at f inst).shape

-- the block to which edge `k` of an instruction leads
abbrev pub edge_target : Body → ℕ → ℕ → Option ℕ
edge_target f inst k = slice_get (targets (edges_at f inst)) k

-- what edge `k` of an instruction passes at place `j`
abbrev pub args_of : Option BlockCall → List BlockArg
args_of None = []
args_of (Some edge) = edge.args

abbrev pub passed_at : Body → ℕ → ℕ → ℕ → Option BlockArg
passed_at f inst k j = slice_get (args_of (slice_get (edges_at f inst) k)) j

-- the arm is an edge to the block, of a branch that leads to it
pub record IsEdgeInto (f : Body) (s : SsaState) (blocks : Blocks) (block : ℕ) (arm : Arm) : Type 0 where
  pub branch : ℕ
  pub leads : Contains (predecessors_of s block) branch
  pub from : arm.source ≡ last_place blocks (branch_block f branch)
  pub to : edge_target f branch arm.edge ≡ Some block

-- An argument of an edge belongs to a parameter of the block: it stands as far behind what the caller passed as the
-- parameter behind the caller's.
abbrev pub BelongsTo : Own → ℕ → ℕ → ℕ → ℕ → ℕ → Type 0
BelongsTo own block branch edge place argument = argument + length (own.params block) ≡ place + length (own.passed branch edge)

-- The tables describe the function and the state, while these parameters are being completed: those of sealed blocks
-- that wait, those of one block in the order of its parameters. `own` is what the caller made.
pub record Describes (own : Own) (f : Body) (s : SsaState) (completing : List Pending) (blocks : Blocks) : Type 0 where
  -- the arms into a block are known once it is sealed and there is an entry
  pub sealed : (b : ℕ) → blocks.sealed b ≡ (is_yes (sealed_of s b) && has_entry f.layout)
  -- they are the one from the start, if it is the entry, and the edges of the branches that lead to it
  pub joined : (arm : Arm) → blocks.joins arm ≡ true
      → (b : ℕ) × (arm.target ≡ front b) × (is_yes (sealed_of s b) ≡ true)
      × (((arm.source ≡ start) × (entry_of f ≡ Some b)) ⊎ IsEdgeInto f s blocks b arm)
  pub entered : (entry : ℕ) → entry_of f ≡ Some entry → blocks.sealed entry ≡ true
      → blocks.joins (record { source = start; target = front entry; edge = 0 }) ≡ true
  pub led : (b : ℕ) (arm : Arm) → is_yes (sealed_of s b) ≡ true → arm.target ≡ front b → IsEdgeInto f s blocks b arm
      → blocks.joins arm ≡ true
  -- branches that lead somewhere exist, and there is an entry then; those that lead to one block stand in different
  -- blocks; the entry is free
  pub leading : (b i : ℕ) → Contains (predecessors_of s b) i → (i < length f.insts) × (has_entry f.layout ≡ true)
  pub leading_apart : (b : ℕ) → Once (map (branch_block f) (predecessors_of s b))
  pub entry_free : EntryIsFree f s
  -- aliases, and records
  pub resolves : (v : ℕ) → blocks.function.resolve v ≡ resolved f v
  pub recorded : (b x : ℕ) → blocks.recorded b x ≡ record_of s x b
  pub records_exist : (b x v : ℕ) → record_of s x b ≡ Some v → v < length f.values
  -- a block that has no record of a variable doesn't assign it, and what isn't written assigns nothing
  pub unrecorded : (b x : ℕ) → record_of s x b ≡ None → AssignsNot blocks b x
  pub unwritten : (b k x : ℕ) → blocks.count b < k → blocks.assigned (inside b k) x ≡ None
  -- values: none behind those of the function; where each is defined; what is born answers its name
  pub absent : (v : ℕ) → length f.values ≤ v → blocks.function.definition v ≡ record { home = start; kind = unborn }
  pub homes : (v : ℕ) → HomeFits blocks v (blocks.function.definition v).kind
  pub answered : (n : ℕ) → (blocks.naming n).home ≢ start → blocks.answer n < length f.values
  pub born_there : (n : ℕ) → (blocks.naming n).home ≢ start → (blocks.naming n).origin ≡ fresh
      → (blocks.function.definition (blocks.answer n) ≡ record { home = (blocks.naming n).home; kind = born n })
      × (resolved f (blocks.answer n) ≡ blocks.answer n)
  -- parameters that wait, in unsealed blocks or to be completed now, and no others; the variable of each is recorded
  pub waiting : (b : ℕ) (p : Pending) → Contains (pending_of (sealed_of s b)) p → IsWaiting f blocks b p
  pub completed : (p : Pending) → Contains completing p
      → ((param_home f p.param ≡ None) × (resolved f p.param ≢ p.param)) ⊎ ((b : ℕ) × IsWaiting f blocks b p × (is_yes (sealed_of s b) ≡ true))
  pub pends : (v x : ℕ) → resolved f v ≡ v → (blocks.function.definition v).kind ≡ pending x
      → ((b : ℕ) × Contains (pending_of (sealed_of s b)) (record { variable = x; param = v }))
      ⊎ Contains completing (record { variable = x; param = v })
  pub waiting_recorded : (b : ℕ) (p : Pending) → Contains (pending_of (sealed_of s b)) p → record_of s p.variable b ≢ None
  -- a complete parameter is one of its block, before those that wait; they stand in the order in which they are completed
  pub complete_there : {made_for : ℕ} (b v : ℕ) → blocks.function.definition v ≡ record { home = front b; kind = complete made_for }
      → param_home f v ≡ Some b
  pub complete_first : {made_for : ℕ} (b v u x : ℕ) → blocks.function.definition v ≡ record { home = front b; kind = complete made_for }
      → blocks.function.definition u ≡ record { home = front b; kind = pending x } → param_home f u ≡ Some b
      → place_of v (block_at f b).params < place_of u (block_at f b).params
  pub waiting_order : (b : ℕ) → InOrder (block_at f b).params (pending_of (sealed_of s b))
  pub completing_order : (b : ℕ) → InOrder (block_at f b).params (parameters_of f b completing)
  -- each edge to its block passes what the arm gives it, where that belongs to it
  pub passes : {made_for : ℕ} (b v : ℕ) (arm : Arm) (edge : IsEdgeInto f s blocks b arm)
      → blocks.function.definition v ≡ record { home = front b; kind = complete made_for } → arm.target ≡ front b
      → (j : ℕ) → BelongsTo own b edge.branch arm.edge (place_of v (block_at f b).params) j
      → passed_at f edge.branch arm.edge j ≡ Some (Value (blocks.function.argument v arm))
  -- the blocks' instructions
  pub instructions : (b : ℕ) → HasInstructions f blocks b (own.insts b)

-- how many arguments edge `k` of an instruction passes
abbrev pub passed_count : Body → ℕ → ℕ → ℕ
passed_count f inst k = length (args_of (slice_get (edges_at f inst) k))

-- a parameter of this kind stands at this place of a block that has so many parameters of the caller's: these come first
abbrev pub IsBehind : Kind → ℕ → ℕ → Type 0
IsBehind unborn place callers = ⊥
IsBehind (born n) place callers = place < callers
IsBehind (pending x) place callers = callers ≤ place
IsBehind (complete x) place callers = callers ≤ place
IsBehind (zero_of x) place callers = ⊥

-- An edge that passes so many arguments, so many of them the caller's, passes one more to each complete parameter and
-- none to those that wait.
abbrev pub IsCounted : Kind → ℕ → ℕ → ℕ → ℕ → Type 0
IsCounted unborn place callers count given = Unit {0}
IsCounted (born n) place callers count given = Unit {0}
IsCounted (pending x) place callers count given = count + callers ≤ place + given
IsCounted (complete x) place callers count given = place + given < count + callers
IsCounted (zero_of x) place callers count given = Unit {0}

-- In each block the caller's parameters come first. The edges of the branches that lead to it pass what the caller
-- passed, and then arguments to exactly those of the other parameters that don't wait, which come first among these.
pub record CountsArguments (own : Own) (f : Body) (s : SsaState) (blocks : Blocks) : Type 0 where
  pub behind : (b v : ℕ) → param_home f v ≡ Some b
      → IsBehind (blocks.function.definition v).kind (place_of v (block_at f b).params) (length (own.params b))
  pub callers : (b : ℕ) → length (own.params b) ≤ length (block_at f b).params
  pub counted : (b i k v : ℕ) → Contains (predecessors_of s b) i → edge_target f i k ≡ Some b → param_home f v ≡ Some b
      → IsCounted (blocks.function.definition v).kind (place_of v (block_at f b).params) (length (own.params b)) (passed_count f i k) (length (own.passed i k))
  pub no_fewer : (b i k : ℕ) → Contains (predecessors_of s b) i → edge_target f i k ≡ Some b
      → length (own.passed i k) ≤ passed_count f i k
  pub no_more : (b i k : ℕ) → Contains (predecessors_of s b) i → edge_target f i k ≡ Some b
      → passed_count f i k + length (own.params b) ≤ length (block_at f b).params + length (own.passed i k)

-- The edges of a branch to the block pass what the caller passed, and nothing else.
abbrev pub PassesOwn : Own → Body → ℕ → ℕ → Type 0
PassesOwn own f block inst = (k : ℕ) → edge_target f inst k ≡ Some block → passed_count f inst k ≡ length (own.passed inst k)

-- the program's side of both tables is the same
pub record SameProgram (blocks blocks' : Blocks) : Type 0 where
  pub count : (b : ℕ) → blocks'.count b ≡ blocks.count b
  pub assigned : (place : Place) (x : ℕ) → blocks'.assigned place x ≡ blocks.assigned place x
  pub naming : (n : ℕ) → blocks'.naming n ≡ blocks.naming n
  pub answer : (n : ℕ) → blocks'.answer n ≡ blocks.answer n

-- the value is a parameter that was made for the variable
abbrev pub IsParameterFor : Blocks → ℕ → ℕ → Type 0
IsParameterFor blocks v x =
    ((blocks.function.definition v).kind ≡ pending x) ⊎ ((blocks.function.definition v).kind ≡ complete x)

-- what a value is stays; a parameter that waited may be complete
abbrev pub KindStays : Kind → Kind → Type 0
KindStays unborn kind = Unit {0}
KindStays (born n) kind = kind ≡ born n
KindStays (pending x) kind = (kind ≡ pending x) ⊎ (kind ≡ complete x)
KindStays (complete x) kind = kind ≡ complete x
KindStays (zero_of x) kind = kind ≡ zero_of x

-- From the tables before a call to those behind it: each value stays what it is, also one that becomes an alias; a
-- parameter that is new is on record for its variable in some block; and what is on record for a variable was so
-- before, in some block, or is a new parameter that was made for it.
pub record KeepsParameters (blocks tables : Blocks) (t : SsaState) : Type 0 where
  pub kinds : (v : ℕ) → KindStays (blocks.function.definition v).kind (tables.function.definition v).kind
  pub on_record : (v x : ℕ) → (blocks.function.definition v).kind ≡ unborn → IsParameterFor tables v x
      → (b : ℕ) × (record_of t x b ≡ Some v)
  pub for_variable : (v x b : ℕ) → record_of t x b ≡ Some v
      → ((c : ℕ) × (blocks.recorded c x ≡ Some v))
      ⊎ (((blocks.function.definition v).kind ≡ unborn) × IsParameterFor tables v x)

-- What a call of the construction keeps: there are sound tables with the same program's side that describe what it
-- left, and parameters are kept.
pub record Keeps (own : Own) (blocks : Blocks) (g : Body) (t : SsaState) : Type 0 where
  pub tables : Blocks
  pub describes : Describes own g t [] tables
  pub sound : BlocksSound tables
  pub same : SameProgram blocks tables
  pub counts : CountsArguments own g t tables
  pub parameters : KeepsParameters blocks tables t

-- the same, and the value holds the variable at the end of the block
pub record KeepsAndKnows (own : Own) (blocks : Blocks) (g : Body) (t : SsaState) (block variable value : ℕ) : Type 0 where
  pub kept : Keeps own blocks g t
  pub known : Knows kept.tables block variable value
