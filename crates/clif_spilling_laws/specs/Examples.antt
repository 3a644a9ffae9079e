-- Worked examples: the function of the row `try_call` before and after, with its landing block, is a spilling, and meets what the law
-- asks of functions; and wrong ones are refused. The text is that of the project's worked rows.
use Rattle.std.specs.Prelude.{ℕ, zero, suc, ◌==◌, ◌||◌, if◌then◌else◌, true, List, [], ◌∷◌, Some, pos}
use Rattle.clif_types.specs.declared.call_conv.CallConv.TheVariants.{SystemV}
use Rattle.clif_types.specs.declared.stackmap.UserStackMapEntry.{UserStackMapEntry}
use Rattle.clif_types.specs.declared.trapcode.TrapCode.TheVariants.{HeapOutOfBounds}
use Rattle.clif_types.specs.declared.types.«Type».{«Type»}
use Rattle.clif_types.specs.declared.types.«Type».TheVariants as type
use Rattle.clif_types.specs.StackSlot.{StackSlotShape}
use Rattle.clif_meaning.specs.CallExamples.{i64}
use Rattle.clif_meaning.specs.Event.{CallShape, Default}
use Rattle.clif_meaning.specs.Examples.{i32}
use Rattle.clif_meaning.specs.FunctionView.{BlockView, FunctionView, Placed}
use Rattle.clif_meaning.specs.Instruction.{Known, CallResult, Compute, Edge, Iconst, Return, Trap, TryCall, Call}
use Rattle.clif_meaning.specs.Typing.{EdgesMatch}
use Rattle.clif_spilling_laws.specs.ExampleParts.{address_of_slot, callee, empty_block, every, load_from, no_signature, only_first, reload_of, returns_value, store_in, the_entry}
use Rattle.clif_spilling_laws.specs.GivesOnce.{GivesOnce}
use Rattle.clif_spilling_laws.specs.Laws.{MaySpill}
use Rattle.clif_spilling_laws.specs.Live.{IsLiveBefore, SharesNoSlot, place_at}
use Rattle.clif_spilling_laws.specs.Rewriting.{IsExactMap, IsLedOn, IsRead, IsSpilling, jump_item}
use Rattle.clif_spilling_laws.specs.Spilling.{AreStores, Spilling, plain_item}

abbrev pub narrows : CallShape
narrows = record {
  signature = record { params = record { value_type = i64 } ∷ []; returns = record { value_type = i32 } ∷ []; call_conv = SystemV };
  items = Default ∷ [];
}

abbrev pub tries_along : (operands : List ℕ) → List (Edge ℕ ℕ) → List UserStackMapEntry → Placed
tries_along operands edges entries = record {
  instruction = record { operation = TryCall callee narrows; controlling = type.Invalid; operands = operands; contexts = []; edges = edges };
  results = [];
  stack_map = entries;
}

abbrev pub tries : (operands : List ℕ) → Edge ℕ ℕ → List UserStackMapEntry → Placed
tries operands normal entries = tries_along operands (normal ∷ record { target = 2; arguments = [] } ∷ []) entries

-- block1 returns its first parameter, and block2 traps
abbrev pub returning : BlockView
returning = record { parameters = 1 ∷ 2 ∷ []; items = returns_value 1 ∷ [] }

abbrev pub trapping : BlockView
trapping = record { parameters = []; items = plain_item (Trap HeapOutOfBounds) type.Invalid [] [] ∷ [] }

-- the normal edge: the recorded value, and what the call returns
abbrev pub normal_edge : Edge ℕ ℕ
normal_edge = record { target = 1; arguments = Known 0 ∷ CallResult 0 ∷ [] }

-- block0(v0): try_call fn0(v0), sig0, block1(v0, ret0), [ default: block2 ]
abbrev pub try_blocks : Edge ℕ ℕ → ℕ → BlockView
try_blocks normal zero = record { parameters = 0 ∷ []; items = tries (0 ∷ []) normal [] ∷ [] }
try_blocks normal (suc zero) = returning
try_blocks normal (suc (suc zero)) = trapping
try_blocks normal (suc (suc (suc n))) = empty_block

abbrev pub try_type : ℕ → «Type»
try_type v = if (v == 2) || (v == 5) then i32 else i64

abbrev pub view_with : (ℕ → BlockView) → List StackSlotShape → FunctionView
view_with blocks slots = record {
  signature = no_signature;
  entry = Some 0;
  blocks = blocks;
  resolved = λ v. v;
  value_type = try_type;
  slots = slots;
}

-- The function after:
--     block0(v0: i64):
--         v8 = stack_addr.i64 ss0
--         store notrap aligned v0, v8
--         v6 = stack_addr.i64 ss0
--         v7 = load.i64 notrap aligned v6
--         try_call fn0(v7), sig0, block3(ret0), [ default: block2 ], stack_map=[i64 @ ss0+0]
--     block3(v5: i32):
--         v3 = stack_addr.i64 ss0
--         v4 = load.i64 notrap aligned v3
--         jump block1(v4, v5)
abbrev pub landing_edge : Edge ℕ ℕ
landing_edge = record { target = 3; arguments = CallResult 0 ∷ [] }

abbrev pub spilled_blocks : ℕ → BlockView
spilled_blocks zero = record {
  parameters = 0 ∷ [];
  items = address_of_slot 8 ∷ store_in 0 8 ∷ address_of_slot 6 ∷ load_from 6 7
      ∷ tries (7 ∷ []) landing_edge (the_entry ∷ []) ∷ [];
}
spilled_blocks (suc zero) = returning
spilled_blocks (suc (suc zero)) = trapping
spilled_blocks (suc (suc (suc zero))) = record {
  parameters = 5 ∷ [];
  items = address_of_slot 3 ∷ load_from 3 4 ∷ jump_item 1 (Known 4 ∷ Known 5 ∷ []) ∷ [];
}
spilled_blocks (suc (suc (suc (suc n)))) = empty_block

abbrev pub try_spilling : Spilling
try_spilling = record {
  before = view_with (try_blocks normal_edge) [];
  after = view_with spilled_blocks (record { size = 8; align_shift = 3 } ∷ []);
  count = 3;
  is_spilled = only_first;
  slot_of = λ v. 0;
  pointer = i64;
}

-- WRONG ONES ------------------------------------------------------------------------------------------------------------

-- two values that are live across one call
abbrev pub two_live : ℕ → BlockView
two_live zero = record {
  parameters = 0 ∷ 1 ∷ [];
  items = plain_item (Call callee no_signature) type.Invalid [] [] ∷ plain_item Return type.Invalid (0 ∷ 1 ∷ []) [] ∷ [];
}
two_live (suc n) = empty_block

-- both are spilled, to one slot
abbrev pub one_slot : Spilling
one_slot = record {
  before = view_with two_live [];
  after = view_with two_live [];
  count = 2;
  is_spilled = λ v. true;
  slot_of = λ v. 0;
  pointer = i64;
}

-- a value that is given by two instructions
abbrev pub given_twice : ℕ → BlockView
given_twice zero = record {
  parameters = [];
  items = plain_item (Compute (Iconst (pos 1))) i64 [] (0 ∷ []) ∷ plain_item (Compute (Iconst (pos 2))) i64 [] (0 ∷ []) ∷ [];
}
given_twice (suc n) = empty_block

pub record SpillingExamples : Type 0 where
  -- the row `try_call`, with its landing block
  pub try_call : IsSpilling every try_spilling only_first
  pub may_spill : MaySpill every only_first try_spilling
  -- one slot for two values that are live at once
  pub shared : SharesNoSlot every one_slot → ⊥
  -- a reload before the try call that its edge uses
  pub before_call : IsLedOn every try_spilling (Some narrows) (reload_of 0 6 7 ∷ []) normal_edge
      (record { target = 1; arguments = Known 7 ∷ CallResult 0 ∷ [] }) → ⊥
  -- a stack map that lacks an entry
  pub lacks_entry : IsExactMap every only_first try_spilling (place_at 0 0) [] → ⊥
  -- a store that is left out
  pub no_store : AreStores try_spilling (IsLiveBefore every try_spilling.before (place_at 0 0)) (0 ∷ []) [] → ⊥
  -- a reload from another value's slot
  pub other_slot : IsRead try_spilling (reload_of 1 6 7 ∷ []) 0 7 → ⊥
  -- an edge with an argument too few
  pub too_few : EdgesMatch (view_with (try_blocks (record { target = 1; arguments = Known 0 ∷ [] })) []) → ⊥
  -- a value given twice
  pub twice : GivesOnce (view_with given_twice []) 1 → ⊥
