-- How much a function has that a builder makes: what the calls made themselves, and what the construction of SSA form pays for.
-- Source: own.
use Rattle.std.specs.Prelude.{ℕ, ◌+◌, ◌*◌, ◌≤◌, List, length}
use Rattle.clif_ir.specs.Body.{Body}
use Rattle.clif_meaning.specs.Request.{AnsweredCall, script_of}
use Rattle.clif_meaning.specs.Sizes.{Values, Instructions, made_by_script}
use Rattle.clif_ssa.specs.Counted.{recorded_pairs, waiting_below}
use Rattle.clif_builder.specs.Context.{ContextState}

-- The function has no more values and instructions than the calls made themselves, and three values and two instructions for each
-- pair of a variable and a block that has a record. Two of each are kept for the zero of a parameter that still waits.
pub record CountsCalls (calls : List AnsweredCall) (f : Body) (c : ContextState) : Type 0 where
  pub values : length f.values + 2 * waiting_below (length f.blocks) c.ssa
      ≤ made_by_script (script_of calls) Values + 3 * recorded_pairs (length c.variables) (length f.blocks) c.ssa
  pub insts : length f.insts + 2 * waiting_below (length f.blocks) c.ssa
      ≤ made_by_script (script_of calls) Instructions + 2 * recorded_pairs (length c.variables) (length f.blocks) c.ssa

-- The function has no more than the calls made themselves, and three values and two instructions for each pair of so many variables
-- and blocks.
pub record IsWithinCalls (calls : List AnsweredCall) (variables blocks : ℕ) (f : Body) : Type 0 where
  pub values : length f.values ≤ made_by_script (script_of calls) Values + 3 * (variables * blocks)
  pub insts : length f.insts ≤ made_by_script (script_of calls) Instructions + 2 * (variables * blocks)
