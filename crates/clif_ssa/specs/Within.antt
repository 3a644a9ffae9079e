-- Where zeros come: into the block of a use, into the block of a parameter that waits, and into blocks in which a branch stands.
-- Source: own, after Braun et al. 2013 (a variable is looked up in the predecessors of a block, and then in theirs).
use Rattle.std.specs.Prelude.{◌≡◌, ◌≢◌, ◌⊎◌, ℕ, Bool, true, List, [], Some, Contains}
use Rattle.std.specs.List.{AllByRecursion}
use Rattle.clif_ir.specs.Body.{Body}
use Rattle.clif_ir.specs.Consistent.{IsConsistent}
use Rattle.clif_ir.specs.Reading.{param_home}
use Rattle.clif_instructions.specs.Members.{stands_in}
use Rattle.clif_records.specs.declared.tables.Pending.{Pending}
use Rattle.clif_ssa.specs.Own.{Own}
use Rattle.clif_records.specs.Tables.{pending_of}
use Rattle.clif_ssa.specs.Ssa.{SsaState, sealed_of, predecessors_of}
use Rattle.clif_ssa.specs.LookUp.{branch_block}
use Rattle.clif_ssa.specs.Structured.{VariableTypes, Structured}

-- a set of blocks, given by a test, holds each block in which a branch stands that leads somewhere
abbrev pub HoldsBranches : Body → SsaState → (ℕ → Bool) → Type 0
HoldsBranches f s holds = (b i : ℕ) → Contains (predecessors_of s b) i → holds (branch_block f i) ≡ true

-- it holds the block of which each parameter is one that waits in block `b`; that is `b` in each function with the structure
abbrev pub HoldsWaiting : Body → SsaState → (ℕ → Bool) → ℕ → Type 0
HoldsWaiting f s holds b =
    (p : Pending) (home : ℕ) → Contains (pending_of (sealed_of s b)) p → param_home f p.param ≡ Some home → holds home ≡ true

-- The zeros that are told come into blocks of the set, and no other block gets a parameter or enters the layout.
pub record StaysWithin (holds : ℕ → Bool) (f g : Body) (told : List ℕ) : Type 0 where
  pub zeros : AllByRecursion (λ b. holds b ≡ true) told
  pub parameters : (v b : ℕ) → param_home g v ≡ Some b → (param_home f v ≡ Some b) ⊎ (holds b ≡ true)
  pub layout : (b : ℕ) → stands_in b g.layout ≡ true → (stands_in b f.layout ≡ true) ⊎ (holds b ≡ true)

-- LAW -------------------------------------------------------------------------------------------------------------

-- In a function with the structure the set holds what waits in a block as soon as it holds the block, where anything waits.
abbrev pub WaitingHeld : Type 0
WaitingHeld =
    (types : VariableTypes) (own : Own) (f : Body) (s : SsaState) (holds : ℕ → Bool) (b : ℕ) →
    IsConsistent f → Structured types own f s [] → (pending_of (sealed_of s b) ≢ [] → holds b ≡ true) → HoldsWaiting f s holds b
