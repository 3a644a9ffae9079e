-- What a look-up that is under way keeps, and why it ends. Source: own.
use Rattle.std.specs.Prelude.{◌≡◌, ◌≢◌, ℕ, zero, suc, ◌+◌, ◌-◌, ◌<◌, ◌≤◌, ◌==◌, List, [], ◌∷◌, ◌++◌, length, map, slice_index, Option, Some, None, true, false, Contains, EachIndex, if◌then◌else◌}
use Rattle.clif_types.specs.declared.types.«Type».{«Type»}
use Rattle.clif_ir.specs.Body.{Body, value_at}
use Rattle.clif_ir.specs.Changes.{with_param}
use Rattle.clif_instructions.specs.Members.{Once}
use Rattle.clif_records.specs.declared.look_up.Call.{Call}
use Rattle.clif_records.specs.declared.look_up.Call.TheVariants.{UseVar, FinishPredecessorsLookup}
use Rattle.clif_records.specs.declared.tables.Pending.{Pending}
use Rattle.clif_records.specs.Tables.{No, is_yes, pending_of}
use Rattle.clif_records.specs.Tracking.{with_binding}
use Rattle.clif_ssa.specs.Ssa.{SsaState, record_of, lookups_of, sealed_of, predecessors_of, Records, SameBlocks, SamePredecessors, SameLookups}
use Rattle.clif_records.specs.Stacks.{LookUpState}
use Rattle.clif_ssa.specs.LookUp.{Stage, BeginsLookUp, CompletesParameter, MakesCalls}
use Rattle.clif_ssa.specs.Structure.{LooksOnce}

abbrev pub stage : Body → SsaState → LookUpState → Stage
stage f s l = record { function = f; state = s; look_up = l }

-- a look-up that has found its value
abbrev pub found : ℕ → List ℕ → LookUpState
found value zeros = record { calls = []; results = value ∷ []; zeros = zeros }

abbrev pub with_call : Call → LookUpState → LookUpState
with_call call l = record l { calls = call ∷ l.calls }

-- what a call names exists, and a parameter has the variable's type
abbrev pub CallExists : «Type» → Body → Call → Type 0
CallExists ty f (UseVar branch) = branch < length f.insts
CallExists ty f (FinishPredecessorsLookup param block) = (param < length f.values) × ((value_at f param).ty ≡ ty)

-- each call has the results that it takes, and one is left after the last
abbrev pub Balances : SsaState → List Call → ℕ → Type 0
Balances s [] results = results ≡ 1
Balances s (UseVar branch ∷ calls) results = Balances s calls (suc results)
Balances s (FinishPredecessorsLookup param block ∷ calls) results =
    (length (predecessors_of s block) ≤ results) × Balances s calls (suc (results - length (predecessors_of s block)))

pub record CallsFit (ty : «Type») (f : Body) (s : SsaState) (l : LookUpState) : Type 0 where
  pub calls : (call : Call) → Contains l.calls call → CallExists ty f call
  pub results : EachIndex l.results (λ k. slice_index l.results k < length f.values)
  pub balances : Balances s l.calls (length l.results)

-- the calls that are left and those that look-ups in the first `n` blocks would still make: each block begins at most one
abbrev pub work_at : Option ℕ → ℕ → ℕ
work_at None predecessors = suc predecessors
work_at (Some value) predecessors = 0

unfoldable pub work_below : SsaState → ℕ → ℕ → ℕ
work_below s x zero = 0
work_below s x (suc n) = work_at (record_of s x n) (length (predecessors_of s n)) + work_below s x n

abbrev pub work_of : Stage → ℕ → ℕ
work_of m x = length m.look_up.calls + work_below m.state x (length m.function.blocks)

-- a new parameter of a block: it waits, or the look-up in the block's predecessors begins
pub record Adds (x : ℕ) (ty : «Type») (block : ℕ) (m n : Stage) : Type 0 where
  pub function : n.function ≡ with_param m.function block ty
  pub recorded : Records m.state n.state x block (length m.function.values)
  pub tracking : n.state.tracking ≡ with_binding m.state.tracking x (length m.function.values)
  pub predecessors : SamePredecessors m.state n.state
  pub waits : is_yes (sealed_of m.state block) ≡ false
      → ((b : ℕ) → sealed_of n.state b ≡ (if b == block then No (pending_of (sealed_of m.state b) ++ record { variable = x; param = length m.function.values } ∷ []) else sealed_of m.state b))
      × SameLookups m.state n.state
      × (n.look_up ≡ record m.look_up { results = length m.function.values ∷ m.look_up.results })
  pub begins : is_yes (sealed_of m.state block) ≡ true
      → SameBlocks m.state n.state × BeginsLookUp x (length m.function.values) block m n

-- the record of a variable in a block, which is a result then, or a new parameter of the block
pub record Got (x : ℕ) (ty : «Type») (block value : ℕ) (m n : Stage) : Type 0 where
  pub finds : (v : ℕ) → record_of m.state x block ≡ Some v
      → (value ≡ v) × (n.function ≡ m.function) × (n.state ≡ m.state) × (n.look_up ≡ record m.look_up { results = v ∷ m.look_up.results })
  pub adds : record_of m.state x block ≡ None → (value ≡ length m.function.values) × Adds x ty block m n

-- parameters that waited in a block are completed in turn
abbrev pub CompletesAll : ℕ → List Pending → Stage → Stage → Type 0
CompletesAll block [] m n = n ≡ m
CompletesAll block (p ∷ ps) m n =
    (k : Stage) × CompletesParameter p.variable (value_at m.function p.param).ty p.param block m k × CompletesAll block ps k n

-- calls are made until none is left; the one result is the answer, and is taken
pub record MakesAll (x : ℕ) (ty : «Type») (m : Stage) (value : ℕ) (n : Stage) : Type 0 where
  pub last : Stage
  pub made : MakesCalls x ty m last
  pub ended : last.look_up ≡ found value n.look_up.zeros
  pub function : n.function ≡ last.function
  pub state : n.state ≡ last.state
  pub look_up : n.look_up ≡ record { calls = []; results = []; zeros = last.look_up.zeros }

-- A step keeps that look-ups begin at most once: no record is lost, and where one was, no look-up begins.
pub record CountsOnce (s t : SsaState) : Type 0 where
  pub looks_once : LooksOnce s → LooksOnce t
  pub counts : (x b : ℕ) → record_of s x b ≢ None → lookups_of t x b ≡ lookups_of s x b
  pub records : (x b : ℕ) → record_of t x b ≡ None → record_of s x b ≡ None

-- Parameters that waited in a block, which is sealed now, are still to be completed: the look-ups of their variables,
-- which are different ones, didn't begin.
pub record ToComplete (s : SsaState) (block : ℕ) (waiting : List Pending) : Type 0 where
  pub once : LooksOnce s
  pub sealed : is_yes (sealed_of s block) ≡ true
  pub none_began : (p : Pending) → Contains waiting p → lookups_of s p.variable block ≡ 0
  pub recorded : (p : Pending) → Contains waiting p → record_of s p.variable block ≢ None
  pub apart : Once (map (λ (p : Pending). p.variable) waiting)
