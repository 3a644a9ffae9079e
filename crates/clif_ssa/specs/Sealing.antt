-- What sealing a block makes of the state of the construction. Source: own.
use Rattle.std.specs.Prelude.{◌≡◌, ◌≢◌, ℕ, ◌+◌, ◌==◌, ◌⊎◌, List, [], ◌++◌, true, Result, Ok, OnOk, OnErr, IfOk, if◌then◌else◌}
use Rattle.clif_types.specs.declared.error.BuildError.{BuildError}
use Rattle.clif_ir.specs.Body.{Body}
use Rattle.clif_records.specs.declared.side_effects.SideEffects.{SideEffects}
use Rattle.clif_records.specs.Tables.{is_yes, pending_of}
use Rattle.clif_ssa.specs.Ssa.{SsaState, sealed_of, predecessors_of, completed, completing_blocks, CountsEach, SameBlocks, SamePredecessors, SameRecords, Seals}
use Rattle.clif_records.specs.Stacks.{LookUpState, no_look_up}
use Rattle.clif_ssa.specs.Running.{stage, CompletesAll}

-- the block is sealed, and no other one
abbrev pub SealsOne : SsaState → SsaState → ℕ → Type 0
SealsOne old new block = (b : ℕ) → is_yes (sealed_of new b) ≡ (if b == block then true else is_yes (sealed_of old b))

-- a block to which nothing leads is sealed: what waits in it becomes names of zeros
pub record SealsLocally (f : Body) (s : SsaState) (g : Body) (t : SsaState) (block : ℕ) (answer : Result SideEffects BuildError) : Type 0 where
  pub sealed : OnOk answer (Seals s t block)
  pub refused : OnErr answer (SameBlocks s t ⊎ Seals s t block)
  pub records : SameRecords s t
  pub tracking : t.tracking ≡ s.tracking
  pub counted : OnOk answer (CountsEach s t block (pending_of (sealed_of s block)))
  pub function : OnOk answer (g ≡ completed f (pending_of (sealed_of s block)))
  pub told : IfOk answer (λ r. r.instructions_added_to_blocks.items ≡ completing_blocks f (pending_of (sealed_of s block)))

-- a block to which branches lead is sealed, and then the variable of each parameter that waits in it is looked up in the
-- predecessors; zeros are put into the blocks `told`
pub record SealsByLookUp (f : Body) (s : SsaState) (g : Body) (t : SsaState) (block : ℕ) (told : List ℕ) : Type 0 where
  pub sealed : SsaState
  pub look_up : LookUpState
  pub records : SameRecords s sealed
  pub tracking : sealed.tracking ≡ s.tracking
  pub seals : Seals s sealed block
  pub predecessors : SamePredecessors s sealed
  pub completes : CompletesAll block (pending_of (sealed_of s block)) (stage f sealed no_look_up) (stage g t look_up)
  pub is_told : told ≡ look_up.zeros

-- a block is sealed, whether branches lead to it or not, with this answer
pub record SealsWith (f : Body) (s : SsaState) (g : Body) (t : SsaState) (block : ℕ) (answer : SideEffects) : Type 0 where
  pub predecessors : SamePredecessors s t
  pub local : predecessors_of s block ≡ [] → SealsLocally f s g t block (Ok answer)
  pub completes : predecessors_of s block ≢ [] → SealsByLookUp f s g t block answer.instructions_added_to_blocks.items

-- the blocks below a number are sealed in turn, from number 0 on; zeros are put into the blocks `told`
pub data SealsBelow (f : Body) (s : SsaState) : ℕ → Body → SsaState → List ℕ → Type 0 where
  none_sealed : SealsBelow f s 0 f s []
  next_sealed : {n : ℕ} {g h : Body} {t u : SsaState} {told : List ℕ} {answer : SideEffects} → SealsBelow f s n g t told →
      SealsWith g t h u n answer → SealsBelow f s (n + 1) h u (told ++ answer.instructions_added_to_blocks.items)
