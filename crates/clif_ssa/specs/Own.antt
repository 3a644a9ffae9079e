-- What the caller made of a function. Source: own.
use Rattle.std.specs.Prelude.{ℕ, List, [], ◌∷◌, ◌++◌}
use Rattle.clif_paths.specs.Steps.{updated}
use Rattle.clif_instructions.specs.declared.block_call.BlockArg.{BlockArg}

pub record Own : Type 0 where
  -- the instructions of each block, in order
  pub insts : ℕ → List ℕ
  -- the parameters of each block, in order
  pub params : ℕ → List ℕ
  -- what each edge of a branch passed when it was made
  pub passed : ℕ → ℕ → List BlockArg

-- the instructions of each block, with one more in block `b`
abbrev pub with_one_more : (ℕ → List ℕ) → ℕ → ℕ → ℕ → List ℕ
with_one_more insts b inst = updated insts b (insts b ++ inst ∷ [])

-- with one more parameter of the caller's at the end of those of block `b`
abbrev pub with_own_param : Own → ℕ → ℕ → Own
with_own_param own b param = record own { params = updated own.params b (own.params b ++ param ∷ []) }

-- nothing so far
abbrev pub no_own : Own
no_own = record { insts = λ b. []; params = λ b. []; passed = λ i k. [] }
