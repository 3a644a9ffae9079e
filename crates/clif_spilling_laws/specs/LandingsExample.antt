-- The try call with two landing blocks: its recorded argument is also passed along both edges, so that each of them leads to a landing
-- block that reloads it. All premises of the law hold at once, whichever edge is taken, and the edges of the function after match. The
-- text is that of the project's worked rows.
use Rattle.std.specs.Prelude.{◌≡◌, ◌||◌, ◌==◌, ℕ, suc, zero, if◌then◌else◌, List, [], ◌∷◌, Some}
use Rattle.clif_types.specs.declared.types.«Type».{«Type»}
use Rattle.clif_types.specs.StackSlot.{StackSlotShape}
use Rattle.clif_meaning.specs.CallExamples.{i64}
use Rattle.clif_meaning.specs.Examples.{i32}
use Rattle.clif_meaning.specs.FunctionMachine.{function_machine}
use Rattle.clif_meaning.specs.FunctionView.{BlockView, FunctionView}
use Rattle.clif_meaning.specs.Instruction.{Known, CallResult, Edge}
use Rattle.clif_meaning.specs.Machine.{observed}
use Rattle.clif_meaning.specs.SameMeaning.{Behaviour, SameMeaning}
use Rattle.clif_meaning.specs.Typing.{EdgesMatch}
use Rattle.clif_meaning.specs.World.{World}
use Rattle.clif_spilling_laws.specs.ExampleParts.{address_of_slot, empty_block, every, load_from, only_first, passes_one, returned_bits, returns_value, store_in, the_entry}
use Rattle.clif_spilling_laws.specs.EdgeLaws.{LeadsInside}
use Rattle.clif_spilling_laws.specs.Examples.{normal_edge, returning, tries_along}
use Rattle.clif_spilling_laws.specs.Laws.{MaySpill}
use Rattle.clif_spilling_laws.specs.Rewriting.{IsSpilling, jump_item}
use Rattle.clif_spilling_laws.specs.Runs.{IsMetBy, after_run, before_run}
use Rattle.clif_spilling_laws.specs.Spilling.{Spilling}

-- the edge of the table's item
abbrev pub default_edge : Edge ℕ ℕ
default_edge = record { target = 2; arguments = Known 0 ∷ [] }

abbrev pub returning_third : BlockView
returning_third = record { parameters = 3 ∷ []; items = returns_value 3 ∷ [] }

-- The function before:
--     block0(v0: i64):
--         try_call fn0(v0), sig0, block1(v0, ret0), [ default: block2(v0) ]
--     block1(v1: i64, v2: i32):
--         return v1
--     block2(v3: i64):
--         return v3
abbrev pub forked_blocks : ℕ → BlockView
forked_blocks zero = record { parameters = 0 ∷ []; items = tries_along (0 ∷ []) (normal_edge ∷ default_edge ∷ []) [] ∷ [] }
forked_blocks (suc zero) = returning
forked_blocks (suc (suc zero)) = returning_third
forked_blocks (suc (suc (suc n))) = empty_block

-- The function after:
--     block0(v0: i64):
--         v11 = stack_addr.i64 ss0
--         store notrap aligned v0, v11
--         v9 = stack_addr.i64 ss0
--         v10 = load.i64 notrap aligned v9
--         try_call fn0(v10), sig0, block4(ret0), [ default: block3 ], stack_map=[i64 @ ss0+0]
--     block3:
--         v4 = stack_addr.i64 ss0
--         v5 = load.i64 notrap aligned v4
--         jump block2(v5)
--     block4(v8: i32):
--         v6 = stack_addr.i64 ss0
--         v7 = load.i64 notrap aligned v6
--         jump block1(v7, v8)
-- and block1 and block2 as they were.
abbrev pub normal_landing : Edge ℕ ℕ
normal_landing = record { target = 4; arguments = CallResult 0 ∷ [] }

abbrev pub default_landing : Edge ℕ ℕ
default_landing = record { target = 3; arguments = [] }

abbrev pub landed_blocks : ℕ → BlockView
landed_blocks zero = record {
  parameters = 0 ∷ [];
  items = address_of_slot 11 ∷ store_in 0 11 ∷ address_of_slot 9 ∷ load_from 9 10
      ∷ tries_along (10 ∷ []) (normal_landing ∷ default_landing ∷ []) (the_entry ∷ []) ∷ [];
}
landed_blocks (suc zero) = returning
landed_blocks (suc (suc zero)) = returning_third
landed_blocks (suc (suc (suc zero))) = record { parameters = []; items = address_of_slot 4 ∷ load_from 4 5 ∷ jump_item 2 (Known 5 ∷ []) ∷ [] }
landed_blocks (suc (suc (suc (suc zero)))) = record {
  parameters = 8 ∷ [];
  items = address_of_slot 6 ∷ load_from 6 7 ∷ jump_item 1 (Known 7 ∷ Known 8 ∷ []) ∷ [];
}
landed_blocks (suc (suc (suc (suc (suc n))))) = empty_block

-- the call's result is an `i32`, and the other values are `i64`
abbrev pub forked_type : ℕ → «Type»
forked_type v = if (v == 2) || (v == 8) then i32 else i64

abbrev pub forked_view : (ℕ → BlockView) → List StackSlotShape → FunctionView
forked_view blocks slots = record {
  signature = passes_one;
  entry = Some 0;
  blocks = blocks;
  resolved = λ v. v;
  value_type = forked_type;
  slots = slots;
}

abbrev pub forked : Spilling
forked = record {
  before = forked_view forked_blocks [];
  after = forked_view landed_blocks (record { size = 8; align_shift = 3 } ∷ []);
  count = 4;
  is_spilled = only_first;
  slot_of = λ v. 0;
  pointer = i64;
}

abbrev pub fork_shown_before : World → Behaviour
fork_shown_before world = observed (function_machine (before_run forked only_first world))

abbrev pub fork_shown_after : World → Behaviour
fork_shown_after world = observed (function_machine (after_run forked world))

-- In a world that passes 64, and whose collector adds 16, both runs return 80.
pub record LandsInBoth (world : World) : Type 0 where
  pub met : IsMetBy only_first forked world
  pub before : returned_bits (fork_shown_before world 2).ending ≡ 80 ∷ []
  pub after : returned_bits (fork_shown_after world 9).ending ≡ 80 ∷ []
  pub same : SameMeaning (fork_shown_before world) (fork_shown_after world)

pub record LandingsExample : Type 0 where
  pub spilling : IsSpilling every forked only_first
  pub may_spill : MaySpill every only_first forked
  -- it leads to no landing block but by the call, and its edges match
  pub leads_inside : LeadsInside every forked
  pub edges_match : EdgesMatch forked.after
  -- a world in which the call returns, and one in which it throws
  pub returns : (world : World) × LandsInBoth world
  pub throws : (world : World) × LandsInBoth world
