-- The state of the construction, and what its calls make of a function.
-- Source: Braun et al. 2013, and the crate's documentation of its SSA builder.
use Rattle.std.specs.Prelude.{◌≡◌, ℕ, ◌-◌, ◌^◌, ◌<◌, ◌≤◌, List, [], ◌∷◌, ◌++◌, Option, Some, None, length, take, slice_set, suc, ◌+◌, ◌==◌, ◌&&◌, if◌then◌else◌, ◌⊎◌, Contains, true}
use Rattle.clif_types.specs.declared.types.«Type».{«Type»}
use Rattle.clif_ir.specs.Body.{Body, block_at, value_at}
use Rattle.clif_ir.specs.Changes.{inserted_in, with_param, with_alias}
use Rattle.clif_nodes.specs.declared.nodes.InstNode.{InstNode}
use Rattle.clif_nodes.specs.declared.nodes.ValueNode.{ValueNode}
use Rattle.clif_nodes.specs.declared.nodes.ValueOrigin.TheVariants.{Result}
use Rattle.std.specs.List.{range_with_len}
use Rattle.clif_ssa.specs.Zeros.{ZeroStep, zero_steps, steps_before, with_pooled, zeros_number}
use Rattle.std.specs.Option.{option_to_list}
use Rattle.clif_ir.specs.Reading.{param_home}
use Rattle.clif_instructions.specs.Members.{without}
use Rattle.clif_records.specs.declared.tables.Pending.{Pending}
use Rattle.clif_records.specs.Tables.{No, RecordMap, Sealed, SsaBlock, Yes, is_yes, lookups_at, one_more, pending_of, predecessors_at, record_at, record_map_code, sealed_at, ssa_block_code}
use Rattle.std.specs.FinMap as map
use Rattle.std.specs.Coded.{Coded, code_by, coded×, coded_list}
use Rattle.clif_records.specs.Tracking.{Tracked, tracked_code, nothing_tracked, with_binding}

-- what is known of each variable in each block, and of each block; which variables are marked, and which values are recorded
pub record SsaState : Type 0 where
  pub records : RecordMap
  pub blocks : List SsaBlock
  pub tracking : Tracked

abbrev pub ssa_state_code : Coded SsaState
ssa_state_code =
    code_by (RecordMap × (List SsaBlock × Tracked)) (coded× record_map_code (coded× (coded_list ssa_block_code) tracked_code)) (λ s. (s.records, (s.blocks, s.tracking)))
    (λ p. record { records = p.0; blocks = (p.1).0; tracking = (p.1).1 }) (λ s i. s)

abbrev pub record_of : SsaState → ℕ → ℕ → Option ℕ
record_of s variable block = record_at s.records variable block

abbrev pub lookups_of : SsaState → ℕ → ℕ → ℕ
lookups_of s variable block = lookups_at s.records variable block

abbrev pub sealed_of : SsaState → ℕ → Sealed
sealed_of s block = sealed_at s.blocks block

abbrev pub predecessors_of : SsaState → ℕ → List ℕ
predecessors_of s block = predecessors_at s.blocks block

-- what the state names exists in the function
pub record NamesExist (f : Body) (s : SsaState) : Type 0 where
  pub recorded : (x b v : ℕ) → record_of s x b ≡ Some v → v < length f.values
  pub leading : (b i : ℕ) → Contains (predecessors_of s b) i → i < length f.insts
  pub waiting : (b : ℕ) (p : Pending) → Contains (pending_of (sealed_of s b)) p → p.param < length f.values

-- nothing is known
abbrev pub no_state : SsaState
no_state = record { records = map.empty; blocks = []; tracking = nothing_tracked }

-- that is so wherever a branch leads to a block
abbrev pub SomethingLeads : SsaState → Type 0
SomethingLeads s = (b : ℕ) × (i : ℕ) × Contains (predecessors_of s b) i

abbrev pub Named : Body → SsaState → Type 0
Named f s = SomethingLeads s → NamesExist f s

-- the function has what it had, and maybe more values and instructions
pub record HasMore (f g : Body) : Type 0 where
  pub values : length f.values ≤ length g.values
  pub insts : length f.insts ≤ length g.insts
  pub blocks : length g.blocks ≡ length f.blocks

-- a block is sealed where it was
abbrev pub SealedStays : SsaState → SsaState → Type 0
SealedStays old new = (b : ℕ) → is_yes (sealed_of new b) ≡ is_yes (sealed_of old b)

-- one record is new, and all others are as before
abbrev pub Records : SsaState → SsaState → ℕ → ℕ → ℕ → Type 0
Records old new variable block value =
    (v b : ℕ) → record_of new v b ≡ (if v == variable && b == block then Some value else record_of old v b)

-- what is tracked is as before, or with a value for a variable
abbrev pub MayBind : SsaState → SsaState → ℕ → ℕ → Type 0
MayBind old new variable value = (new.tracking ≡ old.tracking) ⊎ (new.tracking ≡ with_binding old.tracking variable value)

-- each record is as before
abbrev pub SameRecords : SsaState → SsaState → Type 0
SameRecords old new = (v b : ℕ) → record_of new v b ≡ record_of old v b

-- each record that is there stays
abbrev pub RecordsStay : SsaState → SsaState → Type 0
RecordsStay old new = (v b value : ℕ) → record_of old v b ≡ Some value → record_of new v b ≡ Some value

-- the branches that lead to each block are as before
abbrev pub SamePredecessors : SsaState → SsaState → Type 0
SamePredecessors old new = (b : ℕ) → predecessors_of new b ≡ predecessors_of old b

-- one more branch leads to a block
abbrev pub Declares : SsaState → SsaState → ℕ → ℕ → Type 0
Declares old new block branch =
    (b : ℕ) → predecessors_of new b ≡ (if b == block then predecessors_of old b ++ branch ∷ [] else predecessors_of old b)

-- as many blocks are known as before at most, or no more than `bound`
abbrev pub KnowsNoMore : SsaState → SsaState → ℕ → Type 0
KnowsNoMore old new bound = (length new.blocks ≤ length old.blocks) ⊎ (length new.blocks ≤ bound)

-- one branch doesn't lead to a block any more
abbrev pub Removes : SsaState → SsaState → ℕ → ℕ → Type 0
Removes old new block branch =
    (b : ℕ) → predecessors_of new b ≡ (if b == block then without branch (predecessors_of old b) else predecessors_of old b)

-- the value of a variable in a block is found there alone: it is recorded, or the block is unsealed, or nothing leads
-- to it
abbrev pub IsLocal : SsaState → ℕ → ℕ → Type 0
IsLocal s variable block = record_of s variable block ≡ None → is_yes (sealed_of s block) ≡ true → predecessors_of s block ≡ []

-- each count of look-ups is as before
abbrev pub SameLookups : SsaState → SsaState → Type 0
SameLookups old new = (v b : ℕ) → lookups_of new v b ≡ lookups_of old v b

-- one look-up more is counted
abbrev pub CountsLookup : SsaState → SsaState → ℕ → ℕ → Type 0
CountsLookup old new variable block =
    (v b : ℕ) → lookups_of new v b ≡ (if v == variable && b == block then one_more (lookups_of old v b) else lookups_of old v b)

-- a count of look-ups of variable `v` in block `b`, after one more in `block` for each of these parameters
abbrev pub counted_for : ℕ → List Pending → ℕ → ℕ → ℕ → ℕ
counted_for block [] v b count = count
counted_for block (p ∷ pending) v b count = counted_for block pending v b (if v == p.variable && b == block then one_more count else count)

-- one look-up more is counted for each of these parameters
abbrev pub CountsEach : SsaState → SsaState → ℕ → List Pending → Type 0
CountsEach old new block pending = (v b : ℕ) → lookups_of new v b ≡ counted_for block pending v b (lookups_of old v b)

-- whether each block is sealed, and what waits in it, is as before
abbrev pub SameBlocks : SsaState → SsaState → Type 0
SameBlocks old new = (b : ℕ) → sealed_of new b ≡ sealed_of old b

-- one block is sealed, and each other one is as before
abbrev pub Seals : SsaState → SsaState → ℕ → Type 0
Seals old new block = (b : ℕ) → sealed_of new b ≡ (if b == block then Yes else sealed_of old b)

-- the source place that stands for none
abbrev pub no_srcloc : ℕ
no_srcloc = 2 ^ 32 - 1

-- the results of steps, which are the instructions from `inst` on
abbrev pub step_values : ℕ → List ZeroStep → List ValueNode
step_values inst [] = []
step_values inst (step ∷ steps) = record { ty = step.ty; origin = Result inst 0 } ∷ step_values (suc inst) steps

-- the instructions of block `b` that steps are, in a function with these constants; their results are the values from `value`
-- on
abbrev pub step_insts : List (List ℕ) → ℕ → ℕ → List ZeroStep → List InstNode
step_insts constants b value [] = []
step_insts constants b value (step ∷ steps) =
    record { shape = step.shape (zeros_number constants step.size) (value - 1); results = value ∷ []; block = b; srcloc = no_srcloc }
    ∷ step_insts constants b (suc value) steps

-- the function with these steps before the first instruction of block `b`, in order
abbrev pub with_steps : Body → ℕ → List ZeroStep → Body
with_steps f b steps =
    record f {
      values = f.values ++ step_values (length f.insts) steps;
      insts = f.insts ++ step_insts f.tables.constants b (length f.values) steps;
      blocks = slice_set f.blocks b (record (block_at f b) { insts = range_with_len (length f.insts) (length steps) ++ (block_at f b).insts });
    }

-- the same with some of the steps of a zero, the first ones: they are all that a call that failed may leave
abbrev pub HasSomeSteps : Body → Body → ℕ → «Type» → Type 0
HasSomeSteps f g b ty = (count : ℕ) × (count ≤ length (zero_steps ty)) × (g ≡ with_steps f b (take count (zero_steps ty)))

-- what a call leaves that failed to put a zero: nothing has changed, or the block is in the layout, with the zero's constant and
-- some of the steps, or without
abbrev pub MayHaveSomeSteps : Body → Body → ℕ → «Type» → Type 0
MayHaveSomeSteps f g b ty = (g ≡ f) ⊎ ((g ≡ inserted_in f b) ⊎ HasSomeSteps (with_pooled (inserted_in f b) ty) g b ty)

-- the function with a zero before the first instruction of block `b`, which is in the layout then
abbrev pub with_zero : Body → ℕ → «Type» → Body
with_zero f b ty = with_steps (with_pooled (inserted_in f b) ty) b (zero_steps ty)

-- the next zero of a type that is put
abbrev pub zero_value : Body → «Type» → ℕ
zero_value f ty = length f.values + steps_before ty

-- the function in which nothing comes to parameter `v` of block `b`: it is a name of a zero
abbrev pub zeroed : Body → ℕ → ℕ → Body
zeroed f b v = with_alias (with_zero f b (value_at f v).ty) v (zero_value f (value_at f v).ty)

-- the same for a value that may be a parameter of a block; what is none stays
abbrev pub zeroed_in : Option ℕ → Body → ℕ → Body
zeroed_in None f v = f
zeroed_in (Some b) f v = zeroed f b v

-- the function after parameters to which nothing comes were completed, in order
abbrev pub completed : Body → List Pending → Body
completed f [] = f
completed f (p ∷ pending) = completed (zeroed_in (param_home f p.param) f p.param) pending

-- the blocks of the zeros that are put on the way
abbrev pub completing_blocks : Body → List Pending → List ℕ
completing_blocks f [] = []
completing_blocks f (p ∷ pending) =
    option_to_list (param_home f p.param) ++ completing_blocks (zeroed_in (param_home f p.param) f p.param) pending

-- a use of a variable that isn't recorded in an unsealed block: a new parameter is recorded and waits; stack maps need it, if the
-- variable is marked
pub record Waits (old new : SsaState) (f g : Body) (variable : ℕ) (ty : «Type») (block : ℕ) : Type 0 where
  pub function : g ≡ with_param f block ty
  pub recorded : Records old new variable block (length f.values)
  pub tracking : new.tracking ≡ with_binding old.tracking variable (length f.values)
  pub waiting : (b : ℕ) → sealed_of new b ≡ (if b == block then No (pending_of (sealed_of old b) ++ record { variable = variable; param = length f.values } ∷ []) else sealed_of old b)

-- the same in a sealed block: the new parameter is recorded, and is another name of a zero, which stack maps don't need
pub record Zeroes (old new : SsaState) (f g : Body) (variable : ℕ) (ty : «Type») (block : ℕ) : Type 0 where
  pub function : g ≡ zeroed (with_param f block ty) block (length f.values)
  pub recorded : Records old new variable block (length f.values)
  pub tracking : new.tracking ≡ with_binding old.tracking variable (length f.values)
  pub unchanged : SameBlocks old new
