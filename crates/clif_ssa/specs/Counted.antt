-- How much the construction makes: for each variable and block at most one parameter, and for each parameter at most one zero,
-- which is at most two instructions with one result each. Source: own.
use Rattle.std.specs.Prelude.{◌≡◌, ◌≢◌, ◌⊎◌, ℕ, zero, suc, ◌+◌, ◌*◌, ◌<◌, ◌≤◌, List, [], ◌∷◌, length, Option, Some, None, Contains, Result, Err, OnErr}
use Rattle.clif_types.specs.declared.error.BuildError.{BuildError}
use Rattle.clif_types.specs.declared.error.BuildError.TheVariants.{Memory}
use Rattle.clif_ir.specs.Body.{Body}
use Rattle.clif_records.specs.declared.look_up.Call.{Call}
use Rattle.clif_records.specs.declared.look_up.Call.TheVariants.{UseVar, FinishPredecessorsLookup}
use Rattle.clif_records.specs.declared.tables.Pending.{Pending}
use Rattle.clif_records.specs.Tables.{pending_of}
use Rattle.clif_ssa.specs.Ssa.{SsaState, record_of, sealed_of}

-- the sum of what is given for each number below one
unfoldable pub sum_below : ℕ → (ℕ → ℕ) → ℕ
sum_below zero f = 0
sum_below (suc n) f = f n + sum_below n f

abbrev pub one_if_some : Option ℕ → ℕ
one_if_some None = 0
one_if_some (Some value) = 1

-- in how many pairs of a variable and a block, both below these numbers, a value is recorded
abbrev pub recorded_pairs : (variables blocks : ℕ) → SsaState → ℕ
recorded_pairs variables blocks s = sum_below variables (λ x. sum_below blocks (λ b. one_if_some (record_of s x b)))

-- how many parameters wait in the blocks below a number
abbrev pub waiting_below : ℕ → SsaState → ℕ
waiting_below blocks s = sum_below blocks (λ b. length (pending_of (sealed_of s b)))

-- how many of these calls end the look-up of a parameter
abbrev pub finishes : List Call → ℕ
finishes [] = 0
finishes (UseVar branch ∷ calls) = finishes calls
finishes (FinishPredecessorsLookup param block ∷ calls) = suc (finishes calls)

-- the variables of these parameters are below a number
abbrev pub AreBelow : ℕ → List Pending → Type 0
AreBelow variables waiting = (p : Pending) → Contains waiting p → p.variable < variables

-- so are those of all parameters that wait
abbrev pub WaitsBelow : ℕ → SsaState → Type 0
WaitsBelow variables s = (b : ℕ) → AreBelow variables (pending_of (sealed_of s b))

-- at most so many values are new, and so many instructions
pub record AddsAtMost (most : ℕ) (f g : Body) : Type 0 where
  pub values : length g.values ≤ length f.values + most
  pub insts : length g.insts ≤ length f.insts + most

-- From one function and state to the next: a pair that becomes recorded pays for three values and two instructions, of which the
-- parameter is one value. The others are for its zero, and are kept by a parameter that waits, or whose look-up is under way: `begun`
-- are under way before, and `left` after.
pub record MakesCounted (variables blocks begun : ℕ) (f : Body) (s : SsaState) (left : ℕ) (g : Body) (t : SsaState) : Type 0 where
  pub values : length g.values + 3 * recorded_pairs variables blocks s + 2 * (waiting_below blocks t + left)
      ≤ length f.values + 3 * recorded_pairs variables blocks t + 2 * (waiting_below blocks s + begun)
  pub insts : length g.insts + 2 * recorded_pairs variables blocks s + 2 * (waiting_below blocks t + left)
      ≤ length f.insts + 2 * recorded_pairs variables blocks t + 2 * (waiting_below blocks s + begun)
  pub waits : WaitsBelow variables s → WaitsBelow variables t

-- the same for each number of variables that fits, and each number of blocks below which those of the function are
pub record CountsFor (Fits : ℕ → Type 0) (begun : ℕ) (f : Body) (s : SsaState) (left : ℕ) (g : Body) (t : SsaState) : Type 0 where
  pub each : (variables blocks : ℕ) → Fits variables → length f.blocks ≤ blocks → MakesCounted variables blocks begun f s left g t

-- so it is after a step, if memory wasn't refused
pub record StepCounts (Fits : ℕ → Type 0) (begun : ℕ) (f : Body) (s : SsaState) (g : Body) (t : SsaState) {A : Type 0} (answer : Result A BuildError) : Type 0 where
  pub counts : answer ≢ Err Memory → CountsFor Fits begun f s 0 g t

-- what a step leaves that failed, if memory wasn't refused: the state as it was, and so many values and instructions more at most
abbrev pub StepStops : ℕ → Body → SsaState → Body → SsaState → {A : Type 0} → Result A BuildError → Type 0
StepStops most f s g t answer = OnErr answer ((answer ≡ Err Memory) ⊎ ((t ≡ s) × AddsAtMost most f g))
