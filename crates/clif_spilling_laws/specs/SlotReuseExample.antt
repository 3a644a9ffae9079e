-- The row `slot_reuse` of the project's worked rows: two recorded values, one after the other, are passed to two calls each, and share a
-- slot of four bytes. The first call of each pair has an entry in its stack map, the second has none. All premises of the law hold at
-- once, and both runs make the same four calls.
use Rattle.std.specs.Prelude.{◌≡◌, ◌||◌, ◌==◌, ℕ, suc, zero, if◌then◌else◌, Bool, true, false, List, [], ◌∷◌, map, None, Some, pos}
use Rattle.clif_types.specs.declared.call_conv.CallConv.TheVariants.{SystemV}
use Rattle.clif_types.specs.declared.stackmap.UserStackMapEntry.{UserStackMapEntry}
use Rattle.clif_types.specs.declared.types.«Type».{«Type»}
use Rattle.clif_types.specs.declared.types.«Type».TheVariants as type
use Rattle.clif_types.specs.Signature.{SignatureShape}
use Rattle.clif_types.specs.StackSlot.{StackSlotShape}
use Rattle.clif_meaning.specs.Bits.{Bits}
use Rattle.clif_meaning.specs.CallExamples.{i64}
use Rattle.clif_meaning.specs.Event.{Event}
use Rattle.clif_meaning.specs.Examples.{i32}
use Rattle.clif_meaning.specs.FunctionMachine.{function_machine}
use Rattle.clif_meaning.specs.FunctionView.{BlockView, FunctionView, Placed}
use Rattle.clif_meaning.specs.Instruction.{Call, Compute, Iconst, Load, Return, Store}
use Rattle.clif_meaning.specs.Machine.{observed}
use Rattle.clif_meaning.specs.SameMeaning.{Behaviour, SameMeaning}
use Rattle.clif_meaning.specs.World.{World}
use Rattle.clif_spilling_laws.specs.ExampleParts.{address_of_slot, callee, empty_block, every, no_signature}
use Rattle.clif_spilling_laws.specs.Laws.{MaySpill}
use Rattle.clif_spilling_laws.specs.Rewriting.{IsSpilling}
use Rattle.clif_spilling_laws.specs.Runs.{IsMetBy, after_run, before_run}
use Rattle.clif_spilling_laws.specs.Spilling.{Spilling, plain_item, trusted}

abbrev pub takes_number : SignatureShape
takes_number = record { params = record { value_type = i32 } ∷ []; returns = []; call_conv = SystemV }

-- `iconst.i32`, a call of `%g` with this value, and `return`
abbrev pub gives_number : (number value : ℕ) → Placed
gives_number number value = plain_item (Compute (Iconst (pos number))) i32 [] (value ∷ [])

abbrev pub calls_on : ℕ → List UserStackMapEntry → Placed
calls_on value entries = record (plain_item (Call callee takes_number) type.Invalid (value ∷ []) []) { stack_map = entries }

abbrev pub returns_nothing : Placed
returns_nothing = plain_item Return type.Invalid [] []

-- The function before:
--     block0:
--         v0 = iconst.i32 0
--         call fn0(v0)
--         call fn0(v0)
--         v1 = iconst.i32 1
--         call fn0(v1)
--         call fn0(v1)
--         return
abbrev pub pairs_of_calls : ℕ → BlockView
pairs_of_calls zero = record {
  parameters = [];
  items = gives_number 0 0 ∷ calls_on 0 [] ∷ calls_on 0 [] ∷ gives_number 1 1 ∷ calls_on 1 [] ∷ calls_on 1 [] ∷ returns_nothing ∷ [];
}
pairs_of_calls (suc n) = empty_block

-- The function after:
--     block0:
--         v0 = iconst.i32 0
--         v11 = stack_addr.i64 ss0
--         store notrap aligned v0, v11
--         v9 = stack_addr.i64 ss0
--         v10 = load.i32 notrap aligned v9
--         call fn0(v10), stack_map=[i32 @ ss0+0]
--         v7 = stack_addr.i64 ss0
--         v8 = load.i32 notrap aligned v7
--         call fn0(v8)
--         v1 = iconst.i32 1
--         v6 = stack_addr.i64 ss0
--         store notrap aligned v1, v6
--         v4 = stack_addr.i64 ss0
--         v5 = load.i32 notrap aligned v4
--         call fn0(v5), stack_map=[i32 @ ss0+0]
--         v2 = stack_addr.i64 ss0
--         v3 = load.i32 notrap aligned v2
--         call fn0(v3)
--         return
abbrev pub load_number : (address copy : ℕ) → Placed
load_number address copy = plain_item (Load (trusted None) (pos 0)) i32 (address ∷ []) (copy ∷ [])

abbrev pub store_number : (value address : ℕ) → Placed
store_number value address = plain_item (Store (trusted None) (pos 0)) i32 (value ∷ address ∷ []) []

abbrev pub number_entry : UserStackMapEntry
number_entry = record { ty = i32; slot = 0; offset = 0 }

abbrev pub spilled_pairs : ℕ → BlockView
spilled_pairs zero = record {
  parameters = [];
  items = gives_number 0 0 ∷ address_of_slot 11 ∷ store_number 0 11
      ∷ address_of_slot 9 ∷ load_number 9 10 ∷ calls_on 10 (number_entry ∷ [])
      ∷ address_of_slot 7 ∷ load_number 7 8 ∷ calls_on 8 []
      ∷ gives_number 1 1 ∷ address_of_slot 6 ∷ store_number 1 6
      ∷ address_of_slot 4 ∷ load_number 4 5 ∷ calls_on 5 (number_entry ∷ [])
      ∷ address_of_slot 2 ∷ load_number 2 3 ∷ calls_on 3 []
      ∷ returns_nothing ∷ [];
}
spilled_pairs (suc n) = empty_block

-- addresses are `i64`, and the other values `i32`
abbrev pub pairs_type : ℕ → «Type»
pairs_type v = if (v == 2) || (v == 4) || (v == 6) || (v == 7) || (v == 9) || (v == 11) then i64 else i32

abbrev pub pairs_view : (ℕ → BlockView) → List StackSlotShape → FunctionView
pairs_view blocks slots = record {
  signature = no_signature;
  entry = Some 0;
  blocks = blocks;
  resolved = λ v. v;
  value_type = pairs_type;
  slots = slots;
}

-- both values are recorded
abbrev pub first_two : ℕ → Bool
first_two zero = true
first_two (suc zero) = true
first_two (suc (suc v)) = false

abbrev pub reuse : Spilling
reuse = record {
  before = pairs_view pairs_of_calls [];
  after = pairs_view spilled_pairs (record { size = 4; align_shift = 2 } ∷ []);
  count = 2;
  is_spilled = first_two;
  slot_of = λ v. 0;
  pointer = i64;
}

abbrev pub pairs_shown_before : World → Behaviour
pairs_shown_before world = observed (function_machine (before_run reuse first_two world))

abbrev pub pairs_shown_after : World → Behaviour
pairs_shown_after world = observed (function_machine (after_run reuse world))

abbrev pub arguments_of : List Event → List (List Bits)
arguments_of events = map (λ event. event.arguments) events

-- In a world whose collector adds 16 to each number but zero, both pass 0 twice, and then 1 and 17; newest first.
pub record SlotIsReused (world : World) : Type 0 where
  pub met : IsMetBy first_two reuse world
  pub before : arguments_of (pairs_shown_before world 7).events ≡ (17 ∷ []) ∷ (1 ∷ []) ∷ (0 ∷ []) ∷ (0 ∷ []) ∷ []
  pub after : arguments_of (pairs_shown_after world 19).events ≡ (17 ∷ []) ∷ (1 ∷ []) ∷ (0 ∷ []) ∷ (0 ∷ []) ∷ []
  pub same : SameMeaning (pairs_shown_before world) (pairs_shown_after world)

pub record SlotReuseExample : Type 0 where
  pub spilling : IsSpilling every reuse first_two
  pub may_spill : MaySpill every first_two reuse
  pub a_world : (world : World) × SlotIsReused world
