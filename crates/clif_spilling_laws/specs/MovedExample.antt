-- A worked world of the law of spilling: a parameter that is recorded lives across one outside call, which moves it. All premises of
-- the law hold at once, and both runs return the moved number. Where the call's stack map lacks the entry, the function is no
-- spilling, and returns the number that was passed. Own; the collector is that of the worked calls: it adds 16.
use Rattle.std.specs.Prelude.{◌≡◌, ℕ, suc, zero, List, [], ◌∷◌, length, Some}
use Rattle.clif_types.specs.declared.stackmap.UserStackMapEntry.{UserStackMapEntry}
use Rattle.clif_types.specs.declared.types.«Type».TheVariants as type
use Rattle.clif_types.specs.StackSlot.{StackSlotShape}
use Rattle.clif_meaning.specs.Bits.{Bits, value_of_bytes}
use Rattle.clif_meaning.specs.CallExamples.{i64}
use Rattle.clif_meaning.specs.FunctionMachine.{function_machine}
use Rattle.clif_meaning.specs.FunctionView.{BlockView, FunctionView, Placed}
use Rattle.clif_meaning.specs.Instruction.{Call}
use Rattle.clif_meaning.specs.Machine.{observed, state_after}
use Rattle.clif_meaning.specs.Memory.{bytes_in}
use Rattle.clif_meaning.specs.SameMeaning.{Behaviour, SameMeaning}
use Rattle.clif_meaning.specs.World.{World}
use Rattle.clif_spilling_laws.specs.ExampleParts.{address_of_slot, callee, empty_block, every, load_from, no_signature, only_first, passes_one, returned_bits, returns_value, store_in, the_entry}
use Rattle.clif_spilling_laws.specs.Laws.{MaySpill}
use Rattle.clif_spilling_laws.specs.Rewriting.{IsSpilling}
use Rattle.clif_spilling_laws.specs.Runs.{IsMetBy, after_run, before_run, slot_range}
use Rattle.clif_spilling_laws.specs.Spilling.{Spilling, plain_item}

-- the call `fn0()`, with its stack map
abbrev pub calls_with : List UserStackMapEntry → Placed
calls_with entries = record (plain_item (Call callee no_signature) type.Invalid [] []) { stack_map = entries }

-- The function before:
--     block0(v0: i64):
--         call fn0()
--         return v0
abbrev pub moved_blocks : ℕ → BlockView
moved_blocks zero = record { parameters = 0 ∷ []; items = calls_with [] ∷ returns_value 0 ∷ [] }
moved_blocks (suc n) = empty_block

-- The function after:
--     block0(v0: i64):
--         v1 = stack_addr.i64 ss0
--         store notrap aligned v0, v1
--         call fn0(), stack_map=[i64 @ ss0+0]
--         v2 = stack_addr.i64 ss0
--         v3 = load.i64 notrap aligned v2
--         return v3
abbrev pub kept_blocks : List UserStackMapEntry → ℕ → BlockView
kept_blocks entries zero = record {
  parameters = 0 ∷ [];
  items = address_of_slot 1 ∷ store_in 0 1
      ∷ calls_with entries ∷ address_of_slot 2 ∷ load_from 2 3 ∷ returns_value 3 ∷ [];
}
kept_blocks entries (suc n) = empty_block

abbrev pub moved_view : (ℕ → BlockView) → List StackSlotShape → FunctionView
moved_view blocks slots = record {
  signature = passes_one;
  entry = Some 0;
  blocks = blocks;
  resolved = λ v. v;
  value_type = λ v. i64;
  slots = slots;
}

abbrev pub moved_with : List UserStackMapEntry → Spilling
moved_with entries = record {
  before = moved_view moved_blocks [];
  after = moved_view (kept_blocks entries) (record { size = 8; align_shift = 3 } ∷ []);
  count = 1;
  is_spilled = only_first;
  slot_of = λ v. 0;
  pointer = i64;
}

abbrev pub moved_spilling : Spilling
moved_spilling = moved_with (the_entry ∷ [])

-- what the two runs show
abbrev pub shown_before : World → Behaviour
shown_before world = observed (function_machine (before_run moved_spilling only_first world))

abbrev pub shown_after : List UserStackMapEntry → World → Behaviour
shown_after entries world = observed (function_machine (after_run (moved_with entries) world))

-- what the slot holds after some steps of the run after
abbrev pub slot_after : World → ℕ → Bits
slot_after world n =
    value_of_bytes (bytes_in (state_after (function_machine (after_run moved_spilling world)) n).memory (slot_range moved_spilling world 0))

-- In a world that passes 64, and whose collector adds 16, both runs return 80 after one outside call, the function before in two
-- steps and the one after in six. Without the entry, 64 is returned, and the meaning is another.
pub record MovesInSlot (world : World) : Type 0 where
  pub met : IsMetBy only_first moved_spilling world
  pub before : returned_bits (shown_before world 2).ending ≡ 80 ∷ []
  pub after : returned_bits (shown_after (the_entry ∷ []) world 6).ending ≡ 80 ∷ []
  -- the slot holds the number before the call, and the moved one after it
  pub held_before : slot_after world 2 ≡ 64
  pub held_after : slot_after world 3 ≡ 80
  pub one_call : length (shown_after (the_entry ∷ []) world 6).events ≡ 1
  pub same : SameMeaning (shown_before world) (shown_after (the_entry ∷ []) world)
  pub unmoved : returned_bits (shown_after [] world 6).ending ≡ 64 ∷ []
  pub differs : SameMeaning (shown_before world) (shown_after [] world) → ⊥

pub record MovedExample : Type 0 where
  pub spilling : IsSpilling every moved_spilling only_first
  pub may_spill : MaySpill every only_first moved_spilling
  pub a_world : (world : World) × MovesInSlot world
  -- a stack map that lacks the entry
  pub lacks_entry : IsSpilling every (moved_with []) only_first → ⊥
