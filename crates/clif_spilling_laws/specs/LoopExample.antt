-- The row `loop` of the project's worked rows: a recorded value lives around a loop, whose body makes and spills another one. The first is
-- named by an alias in the loop. Both are live across one call, which has two entries, so that they have a slot each. All premises of the
-- law hold at once; with one slot for both, they don't.
use Rattle.std.specs.Prelude.{◌≡◌, ◌||◌, ◌==◌, ℕ, suc, zero, if◌then◌else◌, Bool, true, false, List, [], ◌∷◌, Some, pos}
use Rattle.clif_opcodes.specs.declared.opcodes.StackOpcode.TheVariants.{StackAddr}
use Rattle.clif_types.specs.Signature.{SignatureShape}
use Rattle.clif_types.specs.StackSlot.{StackSlotShape}
use Rattle.clif_types.specs.declared.call_conv.CallConv.TheVariants.{SystemV}
use Rattle.clif_types.specs.declared.extname.ExternalName.{ExternalName}
use Rattle.clif_types.specs.declared.extname.ExternalName.TheVariants as name
use Rattle.clif_types.specs.declared.stackmap.UserStackMapEntry.{UserStackMapEntry}
use Rattle.clif_types.specs.declared.types.«Type».{«Type»}
use Rattle.clif_types.specs.declared.types.«Type».TheVariants as type
use Rattle.clif_meaning.specs.CallExamples.{i64}
use Rattle.clif_meaning.specs.Examples.{i32}
use Rattle.clif_meaning.specs.FunctionMachine.{function_machine}
use Rattle.clif_meaning.specs.FunctionView.{BlockView, FunctionView, Placed}
use Rattle.clif_meaning.specs.Instruction.{Brif, Call, Stack}
use Rattle.clif_meaning.specs.Machine.{observed}
use Rattle.clif_meaning.specs.SameMeaning.{Behaviour, SameMeaning}
use Rattle.clif_meaning.specs.World.{World}
use Rattle.clif_spilling_laws.specs.ExampleParts.{empty_block, every}
use Rattle.clif_spilling_laws.specs.Laws.{MaySpill}
use Rattle.clif_spilling_laws.specs.Live.{SharesNoSlot}
use Rattle.clif_spilling_laws.specs.Rewriting.{IsSpilling, jump_item}
use Rattle.clif_spilling_laws.specs.Runs.{IsMetBy, after_run, before_run}
use Rattle.clif_spilling_laws.specs.SlotReuseExample.{arguments_of, calls_on, first_two, load_number, returns_nothing, store_number, takes_number}
use Rattle.clif_spilling_laws.specs.Spilling.{Spilling, plain_item}

-- `%make`, which returns an `i32`
abbrev pub maker : ExternalName
maker = name.User (record { namespace = 0; index = 2 })

abbrev pub makes_number : SignatureShape
makes_number = record { params = []; returns = record { value_type = i32 } ∷ []; call_conv = SystemV }

abbrev pub makes : ℕ → List UserStackMapEntry → Placed
makes value entries = record (plain_item (Call maker makes_number) type.Invalid [] (value ∷ [])) { stack_map = entries }

-- back to block 1, or on to block 2
abbrev pub branches_on : ℕ → Placed
branches_on value = record {
  instruction = record {
    operation = Brif;
    controlling = i32;
    operands = value ∷ [];
    contexts = [];
    edges = record { target = 1; arguments = [] } ∷ record { target = 2; arguments = [] } ∷ [];
  };
  results = [];
  stack_map = [];
}

-- The function before, where v2 is an alias of v0:
--     block0(v0: i32):
--         jump block1
--     block1:
--         v1 = call fn1()
--         call fn0(v1)
--         call fn0(v1)
--         call fn0(v2)
--         brif v2, block1, block2
--     block2:
--         return
abbrev pub loop_blocks : ℕ → BlockView
loop_blocks zero = record { parameters = 0 ∷ []; items = jump_item 1 [] ∷ [] }
loop_blocks (suc zero) = record { parameters = []; items = makes 1 [] ∷ calls_on 1 [] ∷ calls_on 1 [] ∷ calls_on 2 [] ∷ branches_on 2 ∷ [] }
loop_blocks (suc (suc zero)) = record { parameters = []; items = returns_nothing ∷ [] }
loop_blocks (suc (suc (suc n))) = empty_block

-- The function after:
--     block0(v0: i32):
--         v12 = stack_addr.i64 ss0
--         store notrap aligned v0, v12
--         jump block1
--     block1:
--         v1 = call fn1(), stack_map=[i32 @ ss0+0]
--         v11 = stack_addr.i64 ss1
--         store notrap aligned v1, v11
--         v9 = stack_addr.i64 ss1
--         v10 = load.i32 notrap aligned v9
--         call fn0(v10), stack_map=[i32 @ ss0+0, i32 @ ss1+0]
--         v7 = stack_addr.i64 ss1
--         v8 = load.i32 notrap aligned v7
--         call fn0(v8), stack_map=[i32 @ ss0+0]
--         v5 = stack_addr.i64 ss0
--         v6 = load.i32 notrap aligned v5
--         call fn0(v6), stack_map=[i32 @ ss0+0]
--         v3 = stack_addr.i64 ss0
--         v4 = load.i32 notrap aligned v3
--         brif v4, block1, block2
-- and block2 as it was.
abbrev pub address_of : (slot address : ℕ) → Placed
address_of slot address = plain_item (Stack StackAddr slot (pos 0)) i64 [] (address ∷ [])

abbrev pub slot_entry : ℕ → UserStackMapEntry
slot_entry slot = record { ty = i32; slot = slot; offset = 0 }

abbrev pub spilled_loop : ℕ → BlockView
spilled_loop zero = record { parameters = 0 ∷ []; items = address_of 0 12 ∷ store_number 0 12 ∷ jump_item 1 [] ∷ [] }
spilled_loop (suc zero) = record {
  parameters = [];
  items = makes 1 (slot_entry 0 ∷ []) ∷ address_of 1 11 ∷ store_number 1 11
      ∷ address_of 1 9 ∷ load_number 9 10 ∷ calls_on 10 (slot_entry 0 ∷ slot_entry 1 ∷ [])
      ∷ address_of 1 7 ∷ load_number 7 8 ∷ calls_on 8 (slot_entry 0 ∷ [])
      ∷ address_of 0 5 ∷ load_number 5 6 ∷ calls_on 6 (slot_entry 0 ∷ [])
      ∷ address_of 0 3 ∷ load_number 3 4 ∷ branches_on 4 ∷ [];
}
spilled_loop (suc (suc zero)) = record { parameters = []; items = returns_nothing ∷ [] }
spilled_loop (suc (suc (suc n))) = empty_block

-- addresses are `i64`, and the other values `i32`
abbrev pub loop_type : ℕ → «Type»
loop_type v = if (v == 3) || (v == 5) || (v == 7) || (v == 9) || (v == 11) || (v == 12) then i64 else i32

abbrev pub loop_resolved : ℕ → ℕ
loop_resolved zero = 0
loop_resolved (suc zero) = 1
loop_resolved (suc (suc zero)) = 0
loop_resolved (suc (suc (suc n))) = suc (suc (suc n))

abbrev pub loop_view : (ℕ → BlockView) → List StackSlotShape → FunctionView
loop_view blocks slots = record {
  signature = takes_number;
  entry = Some 0;
  blocks = blocks;
  resolved = loop_resolved;
  value_type = loop_type;
  slots = slots;
}

-- all three are recorded, the alias too
abbrev pub first_three : ℕ → Bool
first_three zero = true
first_three (suc zero) = true
first_three (suc (suc zero)) = true
first_three (suc (suc (suc n))) = false

abbrev pub looping : Spilling
looping = record {
  before = loop_view loop_blocks [];
  after = loop_view spilled_loop (record { size = 4; align_shift = 2 } ∷ record { size = 4; align_shift = 2 } ∷ []);
  count = 3;
  is_spilled = first_two;
  slot_of = λ v. v;
  pointer = i64;
}

abbrev pub loop_shown_before : World → Behaviour
loop_shown_before world = observed (function_machine (before_run looping first_three world))

abbrev pub loop_shown_after : World → Behaviour
loop_shown_after world = observed (function_machine (after_run looping world))

-- In a world that passes 64, in which `%make` returns 5, and whose collector adds 16, the calls of the first turn pass nothing, 5, 21 and
-- 112, since the recorded value has moved three times by the last of them; newest first.
pub record LoopMoves (world : World) : Type 0 where
  pub met : IsMetBy first_three looping world
  pub before : arguments_of (loop_shown_before world 5).events ≡ (112 ∷ []) ∷ (21 ∷ []) ∷ (5 ∷ []) ∷ [] ∷ []
  pub after : arguments_of (loop_shown_after world 15).events ≡ (112 ∷ []) ∷ (21 ∷ []) ∷ (5 ∷ []) ∷ [] ∷ []
  pub same : SameMeaning (loop_shown_before world) (loop_shown_after world)

pub record LoopExample : Type 0 where
  pub spilling : IsSpilling every looping first_three
  pub may_spill : MaySpill every first_three looping
  pub a_world : (world : World) × LoopMoves world
  -- one slot for both
  pub one_slot : SharesNoSlot every (record looping { slot_of = λ v. 0 }) → ⊥
