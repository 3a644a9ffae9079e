-- What moving a branch from one block to another makes of a function and of the state of its construction.
-- Source: own, after the crate's documentation of `change_jump_destination`.
use Rattle.std.specs.Prelude.{◌≡◌, ℕ, ◌==◌, List, [], ◌∷◌, ◌++◌, if◌then◌else◌}
use Rattle.clif_ir.specs.Body.{Body}
use Rattle.clif_ir.specs.Changes.{with_branch_target}
use Rattle.clif_instructions.specs.Members.{stands_in, without}
use Rattle.clif_ssa.specs.Ssa.{SsaState, predecessors_of, SameBlocks}

-- a list with a number at its end, unless it stands there
abbrev pub with_once : ℕ → List ℕ → List ℕ
with_once x xs = if stands_in x xs then xs else xs ++ x ∷ []

-- a branch leads to a block, behind those that did, unless it led there
abbrev pub LeadsOnce : SsaState → SsaState → ℕ → ℕ → Type 0
LeadsOnce old new block branch =
    (b : ℕ) → predecessors_of new b ≡ (if b == block then with_once branch (predecessors_of old b) else predecessors_of old b)

-- a branch leads no longer to `from`, but to `to`; the other branches keep their order
abbrev pub moved_leads : ℕ → ℕ → ℕ → ℕ → List ℕ → List ℕ
moved_leads branch from to block branches =
    if block == from then without branch branches else (if block == to then with_once branch branches else branches)

-- Each edge of the branch to `from` goes to `to`, and passes what it passed. Where both are one block nothing changes.
pub record MovesBranch (f : Body) (s : SsaState) (g : Body) (t : SsaState) (branch from to : ℕ) : Type 0 where
  pub function : g ≡ (if from == to then f else with_branch_target f branch from to)
  pub leads : (b : ℕ) → predecessors_of t b ≡ (if from == to then predecessors_of s b else moved_leads branch from to b (predecessors_of s b))
  pub blocks : SameBlocks s t
