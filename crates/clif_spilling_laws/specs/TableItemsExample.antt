-- The try call with two items in its table, whose edges pass the recorded argument to one block: each of them leads to a landing block of
-- its own, and the normal edge, which passes nothing, stays. All premises of the law hold at once, whichever item is thrown to. Own.
use Rattle.std.specs.Prelude.{◌≡◌, ℕ, suc, zero, List, [], ◌∷◌, Some}
use Rattle.clif_types.specs.declared.call_conv.CallConv.TheVariants.{SystemV}
use Rattle.clif_types.specs.declared.stackmap.UserStackMapEntry.{UserStackMapEntry}
use Rattle.clif_types.specs.declared.types.«Type».TheVariants as type
use Rattle.clif_types.specs.StackSlot.{StackSlotShape}
use Rattle.clif_meaning.specs.CallExamples.{i64}
use Rattle.clif_meaning.specs.Event.{CallShape, Default, Tag}
use Rattle.clif_meaning.specs.FunctionMachine.{function_machine}
use Rattle.clif_meaning.specs.FunctionView.{BlockView, FunctionView, Placed}
use Rattle.clif_meaning.specs.Instruction.{Known, Edge, TryCall}
use Rattle.clif_meaning.specs.Machine.{observed}
use Rattle.clif_meaning.specs.SameMeaning.{Behaviour, SameMeaning}
use Rattle.clif_meaning.specs.Typing.{EdgesMatch}
use Rattle.clif_meaning.specs.World.{World}
use Rattle.clif_spilling_laws.specs.EdgeLaws.{LeadsInside}
use Rattle.clif_spilling_laws.specs.ExampleParts.{address_of_slot, callee, empty_block, every, load_from, only_first, passes_one, returned_bits, returns_value, store_in, the_entry}
use Rattle.clif_spilling_laws.specs.Examples.{trapping}
use Rattle.clif_spilling_laws.specs.Laws.{MaySpill}
use Rattle.clif_spilling_laws.specs.Rewriting.{IsSpilling, jump_item}
use Rattle.clif_spilling_laws.specs.Runs.{IsMetBy, after_run, before_run}
use Rattle.clif_spilling_laws.specs.Spilling.{Spilling}

-- a call that takes an `i64` and returns nothing, with a tag and a default in its table
abbrev pub two_items : CallShape
two_items = record {
  signature = record { params = record { value_type = i64 } ∷ []; returns = []; call_conv = SystemV };
  items = Tag 0 ∷ Default ∷ [];
}

abbrev pub tries_both : (operand : ℕ) → List (Edge ℕ ℕ) → List UserStackMapEntry → Placed
tries_both operand edges entries = record {
  instruction = record { operation = TryCall callee two_items; controlling = type.Invalid; operands = operand ∷ []; contexts = []; edges = edges };
  results = [];
  stack_map = entries;
}

-- the normal edge, and that of each item
abbrev pub plain_edge : Edge ℕ ℕ
plain_edge = record { target = 1; arguments = [] }

abbrev pub item_edge : Edge ℕ ℕ
item_edge = record { target = 2; arguments = Known 0 ∷ [] }

-- The function before:
--     block0(v0: i64):
--         try_call fn0(v0), sig0, block1, [ tag0: block2(v0), default: block2(v0) ]
--     block1:
--         trap heap_oob
--     block2(v1: i64):
--         return v1
abbrev pub returning_second : BlockView
returning_second = record { parameters = 1 ∷ []; items = returns_value 1 ∷ [] }

abbrev pub joined_blocks : ℕ → BlockView
joined_blocks zero = record { parameters = 0 ∷ []; items = tries_both 0 (plain_edge ∷ item_edge ∷ item_edge ∷ []) [] ∷ [] }
joined_blocks (suc zero) = trapping
joined_blocks (suc (suc zero)) = returning_second
joined_blocks (suc (suc (suc n))) = empty_block

-- The function after:
--     block0(v0: i64):
--         v8 = stack_addr.i64 ss0
--         store notrap aligned v0, v8
--         v6 = stack_addr.i64 ss0
--         v7 = load.i64 notrap aligned v6
--         try_call fn0(v7), sig0, block1, [ tag0: block3, default: block4 ], stack_map=[i64 @ ss0+0]
--     block3:
--         v4 = stack_addr.i64 ss0
--         v5 = load.i64 notrap aligned v4
--         jump block2(v5)
--     block4:
--         v2 = stack_addr.i64 ss0
--         v3 = load.i64 notrap aligned v2
--         jump block2(v3)
-- and block1 and block2 as they were.
abbrev pub landing_at : ℕ → Edge ℕ ℕ
landing_at block = record { target = block; arguments = [] }

abbrev pub reloading : (address copy : ℕ) → BlockView
reloading address copy = record { parameters = []; items = address_of_slot address ∷ load_from address copy ∷ jump_item 2 (Known copy ∷ []) ∷ [] }

abbrev pub parted_blocks : ℕ → BlockView
parted_blocks zero = record {
  parameters = 0 ∷ [];
  items = address_of_slot 8 ∷ store_in 0 8 ∷ address_of_slot 6 ∷ load_from 6 7
      ∷ tries_both 7 (plain_edge ∷ landing_at 3 ∷ landing_at 4 ∷ []) (the_entry ∷ []) ∷ [];
}
parted_blocks (suc zero) = trapping
parted_blocks (suc (suc zero)) = returning_second
parted_blocks (suc (suc (suc zero))) = reloading 4 5
parted_blocks (suc (suc (suc (suc zero)))) = reloading 2 3
parted_blocks (suc (suc (suc (suc (suc n))))) = empty_block

abbrev pub items_view : (ℕ → BlockView) → List StackSlotShape → FunctionView
items_view blocks slots = record {
  signature = passes_one;
  entry = Some 0;
  blocks = blocks;
  resolved = λ v. v;
  value_type = λ v. i64;
  slots = slots;
}

abbrev pub parted : Spilling
parted = record {
  before = items_view joined_blocks [];
  after = items_view parted_blocks (record { size = 8; align_shift = 3 } ∷ []);
  count = 2;
  is_spilled = only_first;
  slot_of = λ v. 0;
  pointer = i64;
}

abbrev pub items_shown_before : World → Behaviour
items_shown_before world = observed (function_machine (before_run parted only_first world))

abbrev pub items_shown_after : World → Behaviour
items_shown_after world = observed (function_machine (after_run parted world))

-- In a world that passes 64, and whose collector adds 16, both runs return 80.
pub record ItemIsThrown (world : World) : Type 0 where
  pub met : IsMetBy only_first parted world
  pub before : returned_bits (items_shown_before world 2).ending ≡ 80 ∷ []
  pub after : returned_bits (items_shown_after world 9).ending ≡ 80 ∷ []
  pub same : SameMeaning (items_shown_before world) (items_shown_after world)

pub record TableItemsExample : Type 0 where
  pub spilling : IsSpilling every parted only_first
  pub may_spill : MaySpill every only_first parted
  pub leads_inside : LeadsInside every parted
  pub edges_match : EdgesMatch parted.after
  -- a world in which the call throws to the first item, and one in which it throws to the second
  pub first : (world : World) × ItemIsThrown world
  pub second : (world : World) × ItemIsThrown world
