-- Worked examples: plain calls perform a sum with a constant, and the run of the calls that emit it is sound; with the negated
-- constant they don't. The run of a negation is sound, and one in which a name holds more bits than its type has isn't. Own.
use Rattle.std.specs.Prelude.{ℕ, Bool, pos, negsuc, List, [], ◌∷◌}
use Rattle.clif_types.specs.declared.types.LaneType.TheVariants as lane
use Rattle.clif_types.specs.declared.types.«Type».TheVariants as type
use Rattle.clif_meaning.specs.Examples.{i32}
use Rattle.clif_meaning.specs.Instruction.{Compute, Iconst}
use Rattle.clif_meaning.specs.Ledger.{ledger_after}
use Rattle.clif_meaning.specs.Name.{answer_of}
use Rattle.clif_meaning.specs.Program.{Item, Instruct}
use Rattle.clif_meaning.specs.ScriptMachine.{ScriptRun}
use Rattle.clif_meaning.specs.World.{World}
use Rattle.clif_expansion.specs.Emission.{AreGiven}
use Rattle.clif_expansion.specs.Constants.{computing}
use Rattle.clif_expansion.specs.Examples.{negating, negation, of_32_bits, run_of}
use Rattle.clif_expansion.specs.JoinedCalls.{AreJoinedCalls}
use Rattle.clif_expansion.specs.CallsRun.{calls_run}
use Rattle.clif_expansion.specs.Laws.{IsSoundRun}
use Rattle.clif_expansion.specs.PerformedCalls.{ArePerformed, IsPerformed}
use Rattle.clif_expansion.specs.Reading.{Reading}
use Rattle.clif_expansion.specs.ScriptCall.{ledger_of}
use Rattle.clif_expansion.specs.ScriptCallExamples.{begun_calls, begun_script, seven_more, sum, summing_calls, summing_script}

-- x = 300, y = -x
abbrev pub negating_300 : List Item
negating_300 = Instruct 1 (of_32_bits (Compute (Iconst (pos 300))) []) (answer_of 1 1 ∷ []) ∷ Instruct 2 negation (answer_of 2 1 ∷ []) ∷ []

-- a run of it in which names are said to have 8 bits
abbrev pub narrow_run : World → ScriptRun
narrow_run world = record (run_of negating_300 world) { name_type = λ x. type.Lane lane.I8 }

pub record JoinedRunExamples (world : World) : Type 0 where
  -- the calls of a sum with seven are joined, and perform it
  pub performed : (reading : Reading) × (joined : AreJoinedCalls reading summing_script summing_calls) × ArePerformed world.pointer_width reading summing_script summing_calls joined
  -- and the run of the calls that emit it is sound, wherever spill slots lie
  pub sound_calls : (hidden : ℕ → Bool) → IsSoundRun (calls_run summing_calls hidden world)
  -- a sum with minus seven doesn't perform it
  pub negated : (reading : Reading)
      → IsPerformed world.pointer_width AreGiven reading (ledger_after begun_script) (ledger_of begun_calls) (computing (Iconst (negsuc 6)) i32 [] ∷ []) sum (seven_more (answer_of 2 1)) → ⊥
  pub sound : IsSoundRun (run_of negating world)
  -- 300 isn't a value of 8 bits
  pub narrow : IsSoundRun (narrow_run world) → ⊥
