-- What values go on standing for, what a block keeps of its parameters, and which zeros are needed. Source: own, after
-- Braun et al. 2013 (a variable's value in a block stays the same value while parameters are completed; a parameter
-- without arguments is replaced).
use Rattle.std.specs.Prelude.{◌≡◌, ◌≢◌, ◌≤◌, ℕ, List, [], ◌∷◌, ◌++◌, map, Some, None, false, Contains}
use Rattle.std.specs.List.{AllByRecursion}
use Rattle.clif_ir.specs.Body.{Body, block_at, resolved}
use Rattle.clif_instructions.specs.Members.{Once, Stands}
use Rattle.clif_ir.specs.Reading.{param_home}
use Rattle.clif_records.specs.declared.tables.Pending.{Pending}
use Rattle.clif_records.specs.Tables.{is_yes, pending_of}
use Rattle.clif_ssa.specs.Zeros.{ZeroAt, HasZero, insts_of_zeros, value_of_zero}
use Rattle.clif_ssa.specs.Ssa.{SsaState, record_of, lookups_of, sealed_of}

-- two values that stand for one value go on doing so
abbrev pub StayAlike : Body → Body → Type 0
StayAlike f g = (u v : ℕ) → resolved f u ≡ resolved f v → resolved g u ≡ resolved g v

-- the block's record of the variable stands for the same value as this one
abbrev pub HasRecordOf : Body → SsaState → ℕ → ℕ → ℕ → Type 0
HasRecordOf f s variable block value = (v : ℕ) × (record_of s variable block ≡ Some v) × (resolved f v ≡ resolved f value)

-- The block's record of the variable stays, if there is one, and values that stand for one value go on doing so.
pub record Remembers (variable block : ℕ) (f : Body) (s : SsaState) (g : Body) (t : SsaState) : Type 0 where
  pub recorded : (v : ℕ) → record_of s variable block ≡ Some v → record_of t variable block ≡ Some v
  pub alike : StayAlike f g

-- what the construction has at a moment
pub record Moment : Type 0 where
  pub function : Body
  pub state : SsaState

-- each moment remembers what the one before it had on record for the variable in the block
abbrev pub AreSteps : ℕ → ℕ → Moment → List Moment → Type 0
AreSteps variable block m [] = Unit {0}
AreSteps variable block m (n ∷ moments) =
    Remembers variable block m.function m.state n.function n.state × AreSteps variable block n moments

abbrev pub last_of : Moment → List Moment → Moment
last_of m [] = m
last_of m (n ∷ moments) = last_of n moments

-- Two uses of a variable in a block: where no step between them assigns it there, their answers stand for one value.
abbrev pub UsesAgree : Type 0
UsesAgree =
    (variable block first second : ℕ) (m : Moment) (moments : List Moment)
    → HasRecordOf m.function m.state variable block first
    → AreSteps variable block m moments
    → HasRecordOf (last_of m moments).function (last_of m moments).state variable block second
    → resolved (last_of m moments).function first ≡ resolved (last_of m moments).function second

-- The blocks' parameters are those that they had, without the ones that waited.
pub record LosesWaiting (f g : Body) (waited : List Pending) : Type 0 where
  pub gone : (p : Pending) (b : ℕ) → Contains waited p → Stands p.param (block_at g b).params → ⊥
  pub stayed : (v b : ℕ) → ((p : Pending) → Contains waited p → p.param ≢ v) → Stands v (block_at f b).params → Stands v (block_at g b).params
  pub no_other : (v b : ℕ) → Stands v (block_at g b).params → Stands v (block_at f b).params

-- The zero stands there, and something needs it: another value stands for it.
pub record IsNeededZero (f : Body) (zero : ZeroAt) : Type 0 where
  pub stands : HasZero f zero
  pub no_parameter : param_home f (value_of_zero zero) ≡ None
  pub alias : ℕ
  pub another : alias ≢ value_of_zero zero
  pub stands_for : resolved f alias ≡ value_of_zero zero

-- The instructions of a block are those of zeros that something needs, and then its own: those that the caller made, in order.
pub record HasNeededZeros (f : Body) (block : ℕ) (own : List ℕ) : Type 0 where
  pub zeros : List ZeroAt
  pub in_order : (block_at f block).insts ≡ insts_of_zeros zeros ++ own
  pub needed : AllByRecursion (IsNeededZero f) zeros

-- At most one look-up of a variable begins in the predecessors of a block, since it leaves a record there.
pub record LooksOnce (s : SsaState) : Type 0 where
  pub once : (x b : ℕ) → lookups_of s x b ≤ 1
  -- none began where nothing is recorded, or where the block is unsealed
  pub unrecorded : (x b : ℕ) → record_of s x b ≡ None → lookups_of s x b ≡ 0
  pub unsealed : (x b : ℕ) → is_yes (sealed_of s b) ≡ false → lookups_of s x b ≡ 0
  -- the variables of parameters that wait in a block are recorded there, and are different ones
  pub waiting_recorded : (b : ℕ) (p : Pending) → Contains (pending_of (sealed_of s b)) p → record_of s p.variable b ≢ None
  pub apart : (b : ℕ) → Once (map (λ (p : Pending). p.variable) (pending_of (sealed_of s b)))
