-- Worked examples of the definitions. The rows, their texts and their answers are those of the crate's documentation
-- and of its hostile scripts.
use Rattle.std.specs.Prelude.{◌≡◌, ◌≢◌, ℕ, zero, suc, ◌+◌, ◌-◌, ◌*◌, ◌%◌, ◌^◌, ◌==◌, nat_lt, if◌then◌else◌, List, [], ◌∷◌, ◌++◌, Some, None, pos, negsuc}
use Rattle.std.specs.declared.cmp.Ordering.{Ordering}
use Rattle.std.specs.declared.cmp.Ordering.TheVariants.{Less, Equal, Greater}
use Rattle.clif_types.specs.declared.types.«Type».{«Type»}
use Rattle.clif_types.specs.declared.call_conv.CallConv.TheVariants.{SystemV, Fast}
use Rattle.clif_types.specs.declared.types.«Type».TheVariants as type
use Rattle.clif_types.specs.declared.types.LaneType.TheVariants as lane
use Rattle.clif_types.specs.Types.{bits_of}
use Rattle.clif_types.specs.declared.trapcode.TrapCode.TheVariants.{DivisionByZero, IntegerOverflow}
use Rattle.clif_types.specs.Signature.{SignatureShape}
use Rattle.clif_types.specs.declared.target.PointerWidth.TheVariants.{U64}
use Rattle.clif_types.specs.Target.{pointer_type_of}
use Rattle.clif_meaning.specs.Bits.{value_bytes, value_of_bytes}
use Rattle.clif_meaning.specs.Memory.{Memory, bytes_in, copied, filled, written, byte_order}
use Rattle.clif_meaning.specs.Switch.{switch_target}
use Rattle.clif_meaning.specs.Instruction.{Iconst, FloatConst, PooledConst, Unary, Binary, Compare, Concat, Split, Convert, Select, Operation, Compute, Return}
use Rattle.clif_types.specs.declared.condcodes.IntCC.TheVariants.{SignedLessThan, SignedGreaterThanOrEqual, UnsignedLessThan}
use Rattle.clif_types.specs.declared.condcodes.IntCC.TheVariants as cc
use Rattle.clif_opcodes.specs.declared.opcodes.PooledConstOpcode.TheVariants.{F128const, Vconst}
use Rattle.clif_opcodes.specs.declared.opcodes.FloatConstOpcode.TheVariants.{F32const}
use Rattle.clif_opcodes.specs.declared.opcodes.BinaryOpcode.TheVariants.{Iadd, Imul, Band, Bor, Bxor, Ishl, Ushr, Sshr, Udiv, Sdiv, Urem, Srem}
use Rattle.clif_opcodes.specs.declared.opcodes.UnaryOpcode.TheVariants.{Ineg, Bnot}
use Rattle.clif_opcodes.specs.declared.opcodes.ConvertOpcode.TheVariants.{Splat, Uextend, Sextend, Ireduce}
use Rattle.clif_types.specs.declared.types.LaneCount.TheVariants as count
use Rattle.clif_meaning.specs.Event.{CallShape, Event}
use Rattle.clif_meaning.specs.World.{World}
use Rattle.clif_meaning.specs.Outcome.{Values, Fault, Undefined, computed}
use Rattle.clif_meaning.specs.Machine.{Observation, Returned, Stuck}
use Rattle.clif_meaning.specs.SameMeaning.{SameMeaning}
use Rattle.clif_meaning.specs.Name.{Name, answer_of}
use Rattle.clif_meaning.specs.Request.{CreateBlock, SwitchToBlock, SealBlock, DeclareVar, DefVar, UseVar, Finalize, Script, outright, tried}
use Rattle.clif_meaning.specs.Ledger.{ledger_after}
use Rattle.clif_meaning.specs.Acceptance.{iconst, binary, return_, Accepted, Misuse, Refused, verdict_on, verdict_on_attempts, Unsealed, Unfilled, refusal_of}
use Rattle.clif_meaning.specs.FunctionView.{Placed, BlockView, FunctionView}
use Rattle.clif_meaning.specs.WellPlaced.{WellPlaced, Records, RecordsWellPlaced}
use Rattle.clif_meaning.specs.Typing.{EdgesMatch}
use Rattle.clif_meaning.specs.Premises.{Premises}
use Rattle.clif_meaning.specs.Headline.{script_run, IsWorldOf, script_behaviour, function_behaviour, MeansTheSame}

abbrev pub i8 : «Type»
i8 = type.Lane lane.I8

abbrev pub i16 : «Type»
i16 = type.Lane lane.I16

abbrev pub i32 : «Type»
i32 = type.Lane lane.I32

abbrev pub invalid : «Type»
invalid = type.Invalid

abbrev pub i8x4 : «Type»
i8x4 = type.Vector lane.I8 count.Four

abbrev pub i128 : «Type»
i128 = type.Lane lane.I128

-- Constants are cut to their width, or have their sign repeated; sums and products wrap; signed quotients are rounded
-- toward zero.
pub record ArithmeticExamples : Type 0 where
  pub cut : computed (Iconst (pos 300)) i8 [] [] ≡ Values (44 ∷ [])
  pub negative : computed (Iconst (negsuc 6)) i8 [] [] ≡ Values (249 ∷ [])
  pub wide : computed (Iconst (negsuc 0)) i128 [] [] ≡ Values ((2 ^ 128 - 1) ∷ [])
  pub sum : computed (Binary Iadd) i32 [] (0 ∷ 7 ∷ []) ≡ Values (7 ∷ [])
  pub wraps : computed (Binary Iadd) i8 [] (200 ∷ 100 ∷ []) ≡ Values (44 ∷ [])
  pub wraps_at_128 : computed (Binary Iadd) i128 [] ((2 ^ 128 - 1) ∷ 2 ∷ []) ≡ Values (1 ∷ [])
  pub too_few : computed (Binary Iadd) i8 [] (200 ∷ []) ≡ Undefined
  -- two's complement, and bit by bit; 300 - 256 is 44
  pub least : computed (Unary Ineg) i8 [] (128 ∷ []) ≡ Values (128 ∷ [])
  pub of_zero : computed (Unary Ineg) i8 [] (0 ∷ []) ≡ Values (0 ∷ [])
  pub turned : computed (Unary Bnot) i8 [] (5 ∷ []) ≡ Values (250 ∷ [])
  pub product : computed (Binary Imul) i8 [] (20 ∷ 15 ∷ []) ≡ Values (44 ∷ [])
  pub both : computed (Binary Band) i8 [] (12 ∷ 10 ∷ []) ≡ Values (8 ∷ [])
  pub either : computed (Binary Bor) i8 [] (12 ∷ 10 ∷ []) ≡ Values (14 ∷ [])
  pub one_of_two : computed (Binary Bxor) i8 [] (12 ∷ 10 ∷ []) ≡ Values (6 ∷ [])
  -- at 8 bits a shift by 9 is a shift by 1; 200 is -56, whose eighth is -7
  pub left : computed (Binary Ishl) i8 [] (1 ∷ 9 ∷ []) ≡ Values (2 ∷ [])
  pub right : computed (Binary Ushr) i8 [] (200 ∷ 3 ∷ []) ≡ Values (25 ∷ [])
  pub right_by_sign : computed (Binary Sshr) i8 [] (200 ∷ 3 ∷ []) ≡ Values (249 ∷ [])
  -- -7 / 2 is -3, with remainder -1
  pub quotient : computed (Binary Udiv) i8 [] (200 ∷ 7 ∷ []) ≡ Values (28 ∷ [])
  pub remainder : computed (Binary Urem) i8 [] (200 ∷ 7 ∷ []) ≡ Values (4 ∷ [])
  pub signed_quotient : computed (Binary Sdiv) i8 [] (249 ∷ 2 ∷ []) ≡ Values (253 ∷ [])
  pub signed_remainder : computed (Binary Srem) i8 [] (249 ∷ 2 ∷ []) ≡ Values (255 ∷ [])
  -- the least number by -1
  pub too_great : computed (Binary Sdiv) i8 [] (128 ∷ 255 ∷ []) ≡ Fault IntegerOverflow
  pub none_left : computed (Binary Srem) i8 [] (128 ∷ 255 ∷ []) ≡ Values (0 ∷ [])
  pub by_none : computed (Binary Udiv) i8 [] (7 ∷ 0 ∷ []) ≡ Fault DivisionByZero
  pub signed_by_none : computed (Binary Sdiv) i8 [] (128 ∷ 0 ∷ []) ≡ Fault DivisionByZero
  -- 300 - 256 is 44; 84215045 is 05050505 in hexadecimal
  pub widened : computed (Convert Uextend) i32 [] (200 ∷ []) ≡ Values (200 ∷ [])
  pub narrowed : computed (Convert Ireduce) i8 [] (300 ∷ []) ≡ Values (44 ∷ [])
  pub in_each_lane : computed (Convert Splat) i8x4 [] (5 ∷ []) ≡ Values (84215045 ∷ [])
  -- 200 is -56 at 8 bits
  pub sign_repeated : computed (Convert Sextend) i32 (i8 ∷ []) (200 ∷ []) ≡ Values ((2 ^ 32 - 56) ∷ [])
  pub zeros_repeated : computed (Convert Sextend) i32 (i8 ∷ []) (100 ∷ []) ≡ Values (100 ∷ [])
  -- -56 is below 5, and 200 isn't
  pub signed_below : computed (Compare SignedLessThan) i8 [] (200 ∷ 5 ∷ []) ≡ Values (1 ∷ [])
  pub unsigned_not_below : computed (Compare UnsignedLessThan) i8 [] (200 ∷ 5 ∷ []) ≡ Values (0 ∷ [])
  pub signed_at_least : computed (Compare SignedGreaterThanOrEqual) i8 [] (200 ∷ 200 ∷ []) ≡ Values (1 ∷ [])
  pub alike : computed (Compare cc.Equal) i128 [] ((2 ^ 127) ∷ (2 ^ 127) ∷ []) ≡ Values (1 ∷ [])
  -- 4660 is 18 * 256 + 52
  pub of_halves : computed Concat i8 [] (52 ∷ 18 ∷ []) ≡ Values (4660 ∷ [])
  pub halves : computed Split i16 [] (4660 ∷ []) ≡ Values (52 ∷ 18 ∷ [])
  pub halves_of_128 : computed Split i128 [] ((2 ^ 64 * 5 + 7) ∷ []) ≡ Values (7 ∷ 5 ∷ [])
  -- the bits of 1.0
  pub float_bits : computed (FloatConst F32const 0x3f80_0000) invalid [] [] ≡ Values (1065353216 ∷ [])
  -- the bytes 1, 2, 3, 4 are 04030201 in hexadecimal
  pub pooled_bytes : computed (PooledConst Vconst (1 ∷ 2 ∷ 3 ∷ 4 ∷ [])) i8x4 [] [] ≡ Values (0x0403_0201 ∷ [])
  pub pooled_float : computed (PooledConst F128const (1 ∷ 2 ∷ [])) invalid [] [] ≡ Values (0x0201 ∷ [])
  pub chosen : computed Select i8 [] (7 ∷ 1 ∷ 2 ∷ []) ≡ Values (1 ∷ [])
  pub other_chosen : computed Select i8 [] (0 ∷ 1 ∷ 2 ∷ []) ≡ Values (2 ∷ [])
  -- wrong rows
  pub not_one : computed (Unary Ineg) i8 [] (1 ∷ []) ≢ Values (1 ∷ [])
  pub not_either : computed (Binary Bxor) i8 [] (12 ∷ 10 ∷ []) ≢ Values (14 ∷ [])
  pub not_extended_by_zeros : computed (Convert Sextend) i32 (i8 ∷ []) (200 ∷ []) ≢ Values (200 ∷ [])
  pub not_unsigned : computed (Compare SignedLessThan) i8 [] (200 ∷ 5 ∷ []) ≢ Values (0 ∷ [])
  pub not_halves_swapped : computed Concat i8 [] (52 ∷ 18 ∷ []) ≢ Values (13330 ∷ [])
  pub not_parts_swapped : computed Split i16 [] (4660 ∷ []) ≢ Values (18 ∷ 52 ∷ [])
  pub not_bytes_reversed : computed (PooledConst Vconst (1 ∷ 2 ∷ 3 ∷ 4 ∷ [])) i8x4 [] [] ≢ Values (0x0102_0304 ∷ [])
  pub not_rounded_down : computed (Binary Sdiv) i8 [] (249 ∷ 2 ∷ []) ≢ Values (252 ∷ [])

-- the byte at an address of a memory that holds 1, 2, 3 .. from an address on
abbrev pub counting_from : ℕ → Memory
counting_from start = λ address. if nat_lt address start then 0 else (address + 1 - start) % 256

-- Sixteen bytes 01 .. 10 (hexadecimal) from address 100 on; twelve of them are copied four places up, over themselves.
pub record ByteExamples : Type 0 where
  pub little_endian : value_of_bytes (0x34 ∷ 0x12 ∷ []) ≡ 4660
  pub back : value_bytes 2 4660 ≡ 0x34 ∷ 0x12 ∷ []
  pub copy : bytes_in (copied (counting_from 100) (record { width = 64; start = 104; size = 12 }) 100) (record { width = 64; start = 100; size = 16 })
      ≡ 1 ∷ 2 ∷ 3 ∷ 4 ∷ 1 ∷ 2 ∷ 3 ∷ 4 ∷ 5 ∷ 6 ∷ 7 ∷ 8 ∷ 9 ∷ 10 ∷ 11 ∷ 12 ∷ []
  pub fill : bytes_in (filled (counting_from 100) (record { width = 64; start = 101; size = 2 }) 0xab) (record { width = 64; start = 100; size = 4 })
      ≡ 1 ∷ 0xab ∷ 0xab ∷ 4 ∷ []
  pub round_the_end : bytes_in (written (λ address. 0) (record { width = 16; start = 65535; size = 2 }) (5 ∷ 6 ∷ [])) (record { width = 16; start = 65535; size = 3 })
      ≡ 5 ∷ 6 ∷ 0 ∷ []
  pub less : byte_order (1 ∷ 200 ∷ 3 ∷ []) (1 ∷ 201 ∷ 0 ∷ []) ≡ Less
  pub equal : byte_order (1 ∷ 2 ∷ []) (1 ∷ 2 ∷ []) ≡ Equal

-- Default block 0; keys 0, 1, 5, 7, 10, 11, 12 lead to blocks 1 to 7.
abbrev pub many_entries : List (ℕ × ℕ)
many_entries = (0, 1) ∷ (1, 2) ∷ (5, 3) ∷ (7, 4) ∷ (10, 5) ∷ (11, 6) ∷ (12, 7) ∷ []

pub record SwitchExamples : Type 0 where
  pub hit : switch_target many_entries 0 12 ≡ 7
  pub miss : switch_target many_entries 0 9 ≡ 0

-- The row `first`: use x (of 32 bits, never assigned, in an unsealed block), x = x + 7, return x, seal the block.
abbrev pub block0 : Name
block0 = answer_of 0 0

abbrev pub first_calls : Script
first_calls = CreateBlock ∷ SwitchToBlock block0 ∷ DeclareVar i32 ∷ UseVar 0 ∷ iconst i32 (pos 7) ∷ []

abbrev pub first_script : Script
first_script =
    CreateBlock ∷ SwitchToBlock block0 ∷ DeclareVar i32 ∷ UseVar 0 ∷ iconst i32 (pos 7)
    ∷ binary (ledger_after first_calls) Iadd (answer_of 3 0) (answer_of 4 1) ∷ DefVar 0 (answer_of 5 1) ∷ UseVar 0
    ∷ return_ (answer_of 7 0 ∷ []) ∷ SealBlock block0 ∷ []

-- an instruction without edges and stack map
abbrev pub placed : Operation → «Type» → List ℕ → List ℕ → Placed
placed operation ty operands results = record {
  instruction = record { operation = operation; controlling = ty; operands = operands; contexts = []; edges = [] };
  results = results;
  stack_map = [];
}

-- the blocks of a function with one block
abbrev pub one_block : List Placed → ℕ → BlockView
one_block items zero = record { parameters = []; items = items }
one_block items (suc block) = record { parameters = []; items = [] }

-- the signature of the row: it takes nothing, and returns an `i32`
abbrev pub first_signature : SignatureShape
first_signature = record { params = []; returns = record { value_type = i32 } ∷ []; call_conv = SystemV }

-- the function of the row, with `number` for the 7:
--     v3 = iconst.i32 0
--     v0 -> v3
--     v1 = iconst.i32 7
--     v2 = iadd v0, v1
--     return v2
abbrev pub first_function_with : ℕ → FunctionView
first_function_with number = record {
  signature = first_signature;
  entry = Some 0;
  blocks = one_block (
      placed (Compute (Iconst (pos 0))) i32 [] (3 ∷ [])
      ∷ placed (Compute (Iconst (pos number))) i32 [] (1 ∷ [])
      ∷ placed (Compute (Binary Iadd)) i32 (0 ∷ 1 ∷ []) (2 ∷ [])
      ∷ placed Return type.Invalid (2 ∷ []) []
      ∷ []);
  resolved = λ v. if v == 0 then 3 else v;
  value_type = λ v. i32;
  slots = [];
}

abbrev pub first_function : FunctionView
first_function = first_function_with 7

-- what the builder of the row knows: x is value 2 at the block's end; the first use of x, before the constant, was
-- answered by value 0, and the second one, before the return, by value 2
abbrev pub first_recorded : ℕ → List ℕ
first_recorded zero = 2 ∷ []
first_recorded (suc block) = []

abbrev pub first_answered : ℕ → ℕ → List ℕ
first_answered zero (suc zero) = 0 ∷ []
first_answered zero (suc (suc (suc zero))) = 2 ∷ []
first_answered _ _ = []

abbrev pub first_records : Records
first_records = record { recorded = first_recorded; answered = λ p. first_answered p.block p.index }

-- both machines end with these bits, without an event, in every world
abbrev pub ended_with : List ℕ → World → Observation
ended_with results world = record { events = []; ending = Returned results world.memory }

pub record FirstAnswersSeven : Type 0 where
  pub script : (world : World) → script_behaviour first_script first_function world 6 ≡ ended_with (7 ∷ []) world
  pub function : (world : World) → function_behaviour first_script first_function world 4 ≡ ended_with (7 ∷ []) world
  pub accepted : verdict_on first_script ≡ Accepted
  pub well_placed : WellPlaced first_function
  pub records : RecordsWellPlaced first_function first_records
  pub edges_match : EdgesMatch first_function

-- a number of 32 bits with the sign of the order
abbrev pub sign_number : Ordering → ℕ
sign_number Less = 2 ^ 32 - 1
sign_number Equal = 0
sign_number Greater = 1

-- a collector that adds 16 to each number but zero
abbrev pub moved_by_16 : «Type» → ℕ → ℕ
moved_by_16 ty bits = if bits == 0 then 0 else (bits + 16) % 2 ^ bits_of ty

-- a function that answers 8 in place of 7
abbrev pub EightIsNotSeven : Type 0
EightIsNotSeven = (world : World) →
    SameMeaning (script_behaviour first_script (first_function_with 8) world) (function_behaviour first_script (first_function_with 8) world) → ⊥

-- the row `empty`: no calls, and a function without blocks
abbrev pub empty_function : FunctionView
empty_function = record {
  signature = record { params = []; returns = []; call_conv = Fast };
  entry = None;
  blocks = λ block. record { parameters = []; items = [] };
  resolved = λ v. v;
  value_type = λ v. type.Invalid;
  slots = [];
}

abbrev pub stuck : Observation
stuck = record { events = []; ending = Stuck }

-- Both machines are stuck at once, and stay so; a function that is stuck is no function for the row `first`.
pub record EmptyIsStuck : Type 0 where
  pub script : (world : World) (n : ℕ) → script_behaviour [] empty_function world n ≡ stuck
  pub function : (world : World) (n : ℕ) → function_behaviour [] empty_function world n ≡ stuck
  pub not_first : (world : World) → SameMeaning (script_behaviour first_script empty_function world) (function_behaviour first_script empty_function world) → ⊥

-- Which calls are a misuse, and which are refused.
pub record VerdictExamples : Type 0 where
  -- a block that isn't sealed, and one that isn't filled
  pub unsealed : verdict_on (CreateBlock ∷ SwitchToBlock block0 ∷ iconst i32 (pos 1) ∷ []) ≡ Refused 3
  pub unfilled : verdict_on (CreateBlock ∷ SwitchToBlock block0 ∷ iconst i32 (pos 1) ∷ SealBlock block0 ∷ []) ≡ Refused 4
  -- a variable that was never declared
  pub undeclared : verdict_on (CreateBlock ∷ SwitchToBlock block0 ∷ UseVar 0 ∷ []) ≡ Misuse 2
  -- no current block
  pub no_block : verdict_on (UseVar 0 ∷ []) ≡ Misuse 0
  -- a name that leads to no answer
  pub no_answer : verdict_on (CreateBlock ∷ SwitchToBlock (answer_of 0 1) ∷ []) ≡ Misuse 1
  -- an instruction in a block that is filled
  pub filled : verdict_on (CreateBlock ∷ SwitchToBlock block0 ∷ iconst i32 (pos 1) ∷ return_ (answer_of 2 1 ∷ []) ∷ iconst i32 (pos 1) ∷ []) ≡ Misuse 4
  -- the same where it is only tried; a misuse goes before that
  pub undeclared_tried : verdict_on_attempts (outright CreateBlock ∷ outright (SwitchToBlock block0) ∷ tried (UseVar 0) ∷ []) ≡ Refused 2
  pub no_block_tried : verdict_on_attempts (tried (UseVar 0) ∷ []) ≡ Misuse 0
  -- a value of another type
  pub other_type : verdict_on (CreateBlock ∷ SwitchToBlock block0 ∷ DeclareVar i32 ∷ iconst i8 (pos 1) ∷ DefVar 0 (answer_of 3 1) ∷ []) ≡ Misuse 4
  pub other_type_tried : verdict_on_attempts (outright CreateBlock ∷ outright (SwitchToBlock block0) ∷ outright (DeclareVar i32)
      ∷ outright (iconst i8 (pos 1)) ∷ tried (DefVar 0 (answer_of 3 1)) ∷ []) ≡ Refused 4
  pub no_value_tried : verdict_on_attempts (outright CreateBlock ∷ outright (SwitchToBlock block0) ∷ tried (DefVar 0 (answer_of 3 1)) ∷ []) ≡ Misuse 2
  -- a block that was sealed before
  pub sealed : verdict_on (CreateBlock ∷ SealBlock block0 ∷ SealBlock block0 ∷ []) ≡ Misuse 2
  -- a value where a block is asked for, and an instruction's number where a value is
  pub no_such_block : verdict_on (CreateBlock ∷ SwitchToBlock block0 ∷ iconst i32 (pos 1) ∷ SealBlock (answer_of 2 1) ∷ []) ≡ Misuse 3
  pub no_such_value : verdict_on (CreateBlock ∷ SwitchToBlock block0 ∷ iconst i32 (pos 1) ∷ return_ (answer_of 2 0 ∷ []) ∷ []) ≡ Misuse 3
  -- operands of two types: types aren't a condition
  pub mixed : verdict_on (CreateBlock ∷ SwitchToBlock block0 ∷ SealBlock block0 ∷ iconst i32 (pos 1) ∷ iconst i8 (pos 1)
      ∷ binary (ledger_after (CreateBlock ∷ SwitchToBlock block0 ∷ SealBlock block0 ∷ iconst i32 (pos 1) ∷ [])) Iadd (answer_of 3 1) (answer_of 4 1) ∷ return_ [] ∷ [])
      ≡ Accepted
  -- a constant that is no integer
  pub no_integer : verdict_on (CreateBlock ∷ SwitchToBlock block0 ∷ iconst (type.Lane lane.F32) (pos 1) ∷ []) ≡ Misuse 2
  -- a block that was left before it was filled
  pub left_open : verdict_on (CreateBlock ∷ CreateBlock ∷ SwitchToBlock block0 ∷ iconst i32 (pos 1) ∷ SwitchToBlock (answer_of 1 0) ∷ []) ≡ Misuse 4
  -- one that was left before anything was made in it, and needs no sealing
  pub left_pristine : verdict_on (CreateBlock ∷ CreateBlock ∷ SwitchToBlock block0 ∷ SwitchToBlock (answer_of 1 0) ∷ return_ [] ∷ SealBlock (answer_of 1 0) ∷ []) ≡ Accepted
  pub nothing : verdict_on [] ≡ Accepted

-- Block 0 returns. Block 1, to which nothing leads, was sealed and may be left with a constant alone. Block 2 has a
-- constant, too.
abbrev pub three_blocks : Script
three_blocks =
    CreateBlock ∷ CreateBlock ∷ CreateBlock ∷ SwitchToBlock block0 ∷ return_ [] ∷ SealBlock (answer_of 1 0) ∷ SwitchToBlock (answer_of 1 0) ∷ iconst i32 (pos 1)
    ∷ SwitchToBlock (answer_of 2 0) ∷ iconst i32 (pos 1) ∷ []

-- `finalize` names the first block that isn't finished, and that it isn't sealed before that it isn't filled.
pub record RefusalExamples : Type 0 where
  pub no_misuse : verdict_on three_blocks ≡ Refused 10
  pub filled_unsealed : refusal_of (ledger_after three_blocks) Finalize ≡ Some (Unsealed block0)
  pub sealed_unfilled : refusal_of (ledger_after (three_blocks ++ SealBlock block0 ∷ [])) Finalize ≡ Some (Unfilled (answer_of 1 0))
  pub neither : refusal_of (ledger_after (CreateBlock ∷ SwitchToBlock block0 ∷ iconst i32 (pos 1) ∷ [])) Finalize ≡ Some (Unsealed block0)
  pub pristine : refusal_of (ledger_after (CreateBlock ∷ SwitchToBlock block0 ∷ [])) Finalize ≡ None

-- There is a world in which the function of the row `first` can run, with a collector that moves; every world meets the
-- premises for the row; and the function means what the script means.
pub record FirstMeansTheSame : Type 0 where
  pub a_world : (world : World) × IsWorldOf first_signature first_function U64 world × ((events : List Event) (call : CallShape) → world.moved events call ≡ moved_by_16)
  pub premises : (world : World) → Premises first_script first_signature (pointer_type_of U64) (script_run first_script first_function world)
  pub same : MeansTheSame first_script first_signature U64 first_function

-- What the theorem refuses: a function that answers 8 in place of 7, and one without blocks, whose signature is another.
pub record WrongFunctionsAreRefused : Type 0 where
  pub eight : MeansTheSame first_script first_signature U64 (first_function_with 8) → ⊥
  pub empty : MeansTheSame first_script first_signature U64 empty_function → ⊥
  -- the premises are no empty words: for a function that takes an argument the row meets them in no world
  pub other_signature : (function : FunctionView) (world : World)
      → Premises first_script (record first_signature { params = record { value_type = i32 } ∷ [] }) (pointer_type_of U64) (script_run first_script function world) → ⊥
