-- The worked function `%dead` of sharper liveness: a recorded value is passed to a recorded parameter that nothing needs, and an outside
-- call is made before the jump and one after it. Where each argument counts as a use, the value is spilled across the first call. Where
-- this one doesn't, nothing is spilled, and the function after is the one before: the call moves the value in the one run alone, and
-- both mean the same. Where the parameter isn't recorded, such an argument isn't allowed. The texts are those of the project's worked
-- functions.
use Rattle.std.specs.Prelude.{◌≡◌, ℕ, suc, zero, Bool, false, List, [], ◌∷◌, length, Some}
use Rattle.clif_types.specs.Signature.{SignatureShape}
use Rattle.clif_types.specs.StackSlot.{StackSlotShape}
use Rattle.clif_types.specs.declared.call_conv.CallConv.TheVariants.{SystemV}
use Rattle.clif_meaning.specs.CallExamples.{i64}
use Rattle.clif_meaning.specs.FunctionMachine.{function_machine}
use Rattle.clif_meaning.specs.FunctionView.{BlockView, FunctionView}
use Rattle.clif_meaning.specs.Instruction.{Known}
use Rattle.clif_meaning.specs.Machine.{IsEnd, observed, state_after}
use Rattle.clif_meaning.specs.SameMeaning.{Behaviour, SameMeaning}
use Rattle.clif_meaning.specs.World.{World}
use Rattle.clif_spilling_laws.specs.ExampleParts.{address_of_slot, empty_block, every, load_from, only_first, store_in, the_entry}
use Rattle.clif_spilling_laws.specs.Laws.{MaySpill}
use Rattle.clif_spilling_laws.specs.MovedExample.{calls_with}
use Rattle.clif_spilling_laws.specs.Rewriting.{IsSpilling, jump_item}
use Rattle.clif_spilling_laws.specs.Runs.{CountsEnough, IsMetBy, after_run, before_run}
use Rattle.clif_spilling_laws.specs.SlotReuseExample.{first_two, returns_nothing}
use Rattle.clif_spilling_laws.specs.Spilling.{Spilling}

abbrev pub takes_one : SignatureShape
takes_one = record { params = record { value_type = i64 } ∷ []; returns = []; call_conv = SystemV }

-- no argument of an edge counts
abbrev pub none_counts : ℕ → ℕ → Bool
none_counts target place = false

-- The function before, and the one after where the argument doesn't count:
--     block0(v0: i64):
--         call fn0()
--         jump block1(v0)
--     block1(v1: i64):
--         call fn0()
--         return
abbrev pub dead_blocks : ℕ → BlockView
dead_blocks zero = record { parameters = 0 ∷ []; items = calls_with [] ∷ jump_item 1 (Known 0 ∷ []) ∷ [] }
dead_blocks (suc zero) = record { parameters = 1 ∷ []; items = calls_with [] ∷ returns_nothing ∷ [] }
dead_blocks (suc (suc n)) = empty_block

-- The function after where it counts:
--     block0(v0: i64):
--         v4 = stack_addr.i64 ss0
--         store notrap aligned v0, v4
--         call fn0(), stack_map=[i64 @ ss0+0]
--         v2 = stack_addr.i64 ss0
--         v3 = load.i64 notrap aligned v2
--         jump block1(v3)
--     block1(v1: i64):
--         call fn0()
--         return
abbrev pub kept_alive : ℕ → BlockView
kept_alive zero = record {
  parameters = 0 ∷ [];
  items = address_of_slot 4 ∷ store_in 0 4 ∷ calls_with (the_entry ∷ []) ∷ address_of_slot 2 ∷ load_from 2 3 ∷ jump_item 1 (Known 3 ∷ []) ∷ [];
}
kept_alive (suc zero) = record { parameters = 1 ∷ []; items = calls_with [] ∷ returns_nothing ∷ [] }
kept_alive (suc (suc n)) = empty_block

abbrev pub dead_view : (ℕ → BlockView) → List StackSlotShape → FunctionView
dead_view blocks slots = record {
  signature = takes_one;
  entry = Some 0;
  blocks = blocks;
  resolved = λ v. v;
  value_type = λ v. i64;
  slots = slots;
}

-- both values are recorded
abbrev pub all_counted : Spilling
all_counted = record {
  before = dead_view dead_blocks [];
  after = dead_view kept_alive (record { size = 8; align_shift = 3 } ∷ []);
  count = 2;
  is_spilled = only_first;
  slot_of = λ v. 0;
  pointer = i64;
}

abbrev pub none_counted : Spilling
none_counted = record {
  before = dead_view dead_blocks [];
  after = dead_view dead_blocks [];
  count = 2;
  is_spilled = λ v. false;
  slot_of = λ v. 0;
  pointer = i64;
}

abbrev pub dead_before : Spilling → World → Behaviour
dead_before s world = observed (function_machine (before_run s first_two world))

abbrev pub dead_after : Spilling → World → Behaviour
dead_after s world = observed (function_machine (after_run s world))

-- In a world that passes 64, and whose collector adds 16: the run before has 80 in the parameter, the run after the 64 that was passed;
-- both end after two calls.
pub record DiesUnmoved (world : World) : Type 0 where
  pub met : IsMetBy first_two none_counted world
  pub moved : (state_after (function_machine (before_run none_counted first_two world)) 2).values 1 ≡ 80
  pub unmoved : (state_after (function_machine (after_run none_counted world)) 2).values 1 ≡ 64
  pub calls : length (dead_after none_counted world 4).events ≡ 2
  pub ends : IsEnd (dead_after none_counted world 4).ending
  pub same : SameMeaning (dead_before none_counted world) (dead_after none_counted world)

-- where it counts, both have 80
pub record DiesMoved (world : World) : Type 0 where
  pub met : IsMetBy first_two all_counted world
  pub moved : (state_after (function_machine (before_run all_counted first_two world)) 2).values 1 ≡ 80
  pub moved_too : (state_after (function_machine (after_run all_counted world)) 6).values 1 ≡ 80
  pub same : SameMeaning (dead_before all_counted world) (dead_after all_counted world)

pub record UncountedExample : Type 0 where
  pub counted : IsSpilling every all_counted first_two
  pub counted_may : MaySpill every first_two all_counted
  pub counted_world : (world : World) × DiesMoved world
  pub uncounted : IsSpilling none_counts none_counted first_two
  pub uncounted_may : MaySpill none_counts first_two none_counted
  pub uncounted_world : (world : World) × DiesUnmoved world
  -- a parameter that isn't recorded
  pub unrecorded : CountsEnough none_counts only_first none_counted → ⊥
