-- The stacks of a look-up that is under way. Source: Braun et al. 2013 (adding operands); two stacks in place of recursion
-- are upstream's.
use Rattle.std.specs.Prelude.{ℕ, List, [], ◌∷◌, ◌++◌, map}
use Rattle.clif_records.specs.declared.look_up.Call.{Call}
use Rattle.clif_records.specs.declared.look_up.Call.TheVariants.{UseVar, FinishPredecessorsLookup}

-- the calls that are still to do, the next one first; the results so far, the latest first; and the blocks of the zeros
-- that were put, in order
pub record LookUpState : Type 0 where
  pub calls : List Call
  pub results : List ℕ
  pub zeros : List ℕ

-- nothing is looked up yet
abbrev pub no_look_up : LookUpState
no_look_up = record { calls = []; results = []; zeros = [] }

-- the calls that look the variable up in the predecessors of a block, for a parameter of it
abbrev pub calls_for : List ℕ → ℕ → ℕ → List Call
calls_for predecessors param block = map UseVar predecessors ++ FinishPredecessorsLookup param block ∷ []
