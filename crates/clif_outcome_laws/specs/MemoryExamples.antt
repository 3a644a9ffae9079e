-- Worked examples of loads, stores and traps, in every world with the accessible bytes that are chosen. The answers are
-- those of Cranelift's documentation of memory flags and of little-endian memory.
use Rattle.std.specs.Prelude.{◌≡◌, ◌≢◌, ℕ, ◌+◌, ◌*◌, ◌==◌, ◌&&◌, nat_lt, true, false, if◌then◌else◌, [], ◌∷◌, None, ℤ, pos, negsuc}
use Rattle.clif_types.specs.declared.types.«Type».{«Type»}
use Rattle.clif_types.specs.declared.types.«Type».TheVariants as type
use Rattle.clif_types.specs.declared.types.LaneType.TheVariants as lane
use Rattle.clif_types.specs.declared.trapcode.TrapCode.TheVariants.{HeapOutOfBounds, IntegerOverflow}
use Rattle.clif_types.specs.MemFlags.{MemFlagsShape}
use Rattle.clif_opcodes.specs.declared.opcodes.CondTrapOpcode.{CondTrapOpcode}
use Rattle.clif_opcodes.specs.declared.opcodes.CondTrapOpcode.TheVariants.{Trapz, Trapnz}
use Rattle.clif_opcodes.specs.declared.opcodes.StackOpcode.TheVariants.{StackAddr, StackLoad}
use Rattle.clif_meaning.specs.Memory.{Memory, written}
use Rattle.clif_meaning.specs.Instruction.{Load, Store, Stack, StackStore, Trap, CondTrap}
use Rattle.clif_meaning.specs.Outcome.{Outcome, Gives, Traps, NoStep, outcome_of}
use Rattle.clif_meaning.specs.World.{World}

abbrev pub i8 : «Type»
i8 = type.Lane lane.I8

abbrev pub i16 : «Type»
i16 = type.Lane lane.I16

abbrev pub i64 : «Type»
i64 = type.Lane lane.I64

-- flags that claim nothing, flags that claim that no access traps, and flags that claim an aligned address
abbrev pub plain : MemFlagsShape
plain = record { notrap = false; aligned = false; alias_region = None }

abbrev pub trusted : MemFlagsShape
trusted = record { notrap = true; aligned = false; alias_region = None }

abbrev pub aligned : MemFlagsShape
aligned = record { notrap = false; aligned = true; alias_region = None }

-- the world with the two bytes from 100 on accessible and no others
abbrev pub with_two_bytes : World → World
with_two_bytes world = record world { is_accessible = λ address. nat_lt 99 address && nat_lt address 102 }

-- the world with every byte accessible
abbrev pub with_all_bytes : World → World
with_all_bytes world = record world { is_accessible = λ address. true }

-- memory with the bytes 34 12 (hexadecimal) from 100 on, and ff elsewhere
abbrev pub loaded_memory : Memory
loaded_memory address = if address == 100 then 52 else (if address == 101 then 18 else 255)

-- memory with the byte 34 at the last address of 16 bits and 12 at address 0, and ff elsewhere
abbrev pub round_memory : Memory
round_memory address = if address == 65535 then 52 else (if address == 0 then 18 else 255)

-- memory after 1234 was stored from 100 on, addresses of 64 bits
abbrev pub stored_memory : Memory → Memory
stored_memory memory = written memory (record { width = 64; start = 100; size = 2 }) (52 ∷ 18 ∷ [])

-- A load where only the two bytes are accessible, at an offset from an address of a type; a load of two bytes from the
-- other memory at an address of 16 bits, where all are; and what a load from each memory gives.
abbrev pub load : World → MemFlagsShape → ℤ → (access address_type : «Type») → ℕ → Outcome
load world flags offset access address_type address =
    outcome_of (with_two_bytes world) (Load flags offset) access (address_type ∷ []) (address ∷ []) loaded_memory

abbrev pub load_round : World → MemFlagsShape → ℤ → ℕ → Outcome
load_round world flags offset address =
    outcome_of (with_all_bytes world) (Load flags offset) i16 (i16 ∷ []) (address ∷ []) round_memory

abbrev pub gives : ℕ → Outcome
gives number = Gives (number ∷ []) loaded_memory

abbrev pub gives_round : ℕ → Outcome
gives_round number = Gives (number ∷ []) round_memory

-- a store of 1234 at an offset from address 100 of 64 bits, and a load of what it left there
abbrev pub store : World → MemFlagsShape → ℤ → Memory → Outcome
store world flags offset memory =
    outcome_of world (Store flags offset) i16 (i16 ∷ i64 ∷ []) (4660 ∷ 100 ∷ []) memory

abbrev pub load_stored : World → Memory → Outcome
load_stored world memory =
    outcome_of (with_two_bytes world) (Load plain (pos 0)) i16 (i64 ∷ []) (100 ∷ []) (stored_memory memory)

-- Loads of two bytes: 1234 in hexadecimal is 4660, and 3412 is 13330.
pub record LoadExamples (world : World) : Type 0 where
  pub little_endian : load world plain (pos 0) i16 i64 100 ≡ gives 4660
  pub not_big_endian : load world plain (pos 0) i16 i64 100 ≢ gives 13330
  pub one_byte : load world plain (pos 0) i8 i64 101 ≡ gives 18
  pub negative_offset : load world plain (negsuc 7) i16 i64 108 ≡ gives 4660
  -- at 16 bits 65500 + 136 is 100; at 64 bits it isn't
  pub offset_wraps : load world plain (pos 136) i16 i16 65500 ≡ gives 4660
  pub wide_traps : load world plain (pos 136) i16 i64 65500 ≡ Traps HeapOutOfBounds
  -- after the last address comes address 0
  pub bytes_wrap : load_round world plain (pos 0) 65535 ≡ gives_round 4660
  pub negative_wraps : load_round world plain (negsuc 0) 0 ≡ gives_round 4660
  -- a byte is out of bounds
  pub second_traps : load world plain (pos 0) i16 i64 101 ≡ Traps HeapOutOfBounds
  pub first_traps : load world plain (pos 0) i16 i64 99 ≡ Traps HeapOutOfBounds
  pub other_reason : load world plain (pos 0) i16 i64 101 ≢ Traps IntegerOverflow
  -- what the flags claim isn't true, and there is no meaning; where it is true, the flags change nothing
  pub trusted_stuck : load world trusted (pos 0) i16 i64 101 ≡ NoStep
  pub trusted_loads : load world trusted (pos 0) i16 i64 100 ≡ gives 4660
  pub odd_stuck : load world aligned (pos 0) i16 i64 99 ≡ NoStep
  pub even_loads : load world aligned (pos 0) i16 i64 100 ≡ gives 4660
  pub even_traps : load world aligned (pos 0) i16 i64 102 ≡ Traps HeapOutOfBounds
  -- what is aligned is the sum of address and offset
  pub odd_with_offset : load world aligned (pos 1) i16 i64 99 ≡ gives 4660
  pub even_with_offset : load world aligned (negsuc 0) i16 i64 100 ≡ NoStep
  -- an odd address has no meaning, though all bytes are accessible
  pub odd_accessible : load_round world aligned (pos 0) 65535 ≡ NoStep

-- A store of two bytes, and the bytes of memory after it.
pub record StoreExamples (world : World) (memory : Memory) : Type 0 where
  pub stores : store (with_two_bytes world) plain (pos 0) memory ≡ Gives [] (stored_memory memory)
  pub low_byte : stored_memory memory 100 ≡ 52
  pub high_byte : stored_memory memory 101 ≡ 18
  pub other_bytes : (address : ℕ) → address ≢ 100 → address ≢ 101 → stored_memory memory address ≡ memory address
  pub loads_again : load_stored world memory ≡ Gives (4660 ∷ []) (stored_memory memory)
  pub not_loaded : load_stored world memory ≢ Gives (13330 ∷ []) (stored_memory memory)
  -- a store that traps, and two that have no meaning
  pub traps : store (with_two_bytes world) plain (pos 1) memory ≡ Traps HeapOutOfBounds
  pub trusted_stuck : store (with_two_bytes world) trusted (pos 1) memory ≡ NoStep
  pub odd_stuck : store (with_all_bytes world) aligned (pos 1) memory ≡ NoStep

-- the world with the two accessible bytes, pointers of 16 bits, and slot `s` placed at 100 + 4 * s
abbrev pub with_slots : World → World
with_slots world = record (with_two_bytes world) { pointer_width = 16; slot_place = λ slot. 100 + 4 * slot }

-- What instructions do with slots in it: they read an address at a type, load two bytes, and store 1234 there.
abbrev pub slot_address : World → (slot : ℕ) → ℤ → «Type» → Outcome
slot_address world slot offset ty = outcome_of (with_slots world) (Stack StackAddr slot offset) ty [] [] loaded_memory

abbrev pub slot_load : World → (slot : ℕ) → ℤ → Outcome
slot_load world slot offset = outcome_of (with_slots world) (Stack StackLoad slot offset) i16 [] [] loaded_memory

abbrev pub slot_store : World → (slot : ℕ) → ℤ → Memory → Outcome
slot_store world slot offset memory = outcome_of (with_slots world) (StackStore slot offset) i16 (i16 ∷ []) (4660 ∷ []) memory

-- memory after 1234 was stored from 100 on, addresses of 16 bits
abbrev pub slot_stored : Memory → Memory
slot_stored memory = written memory (record { width = 16; start = 100; size = 2 }) (52 ∷ 18 ∷ [])

pub record SlotExamples (world : World) (memory : Memory) : Type 0 where
  pub address : slot_address world 1 (pos 0) i64 ≡ gives 104
  pub offset_counts : slot_address world 1 (pos 8) i64 ≡ gives 112
  -- 100 - 101 at 16 bits, with zeros above; and the low bits of 356
  pub wraps : slot_address world 0 (negsuc 100) i64 ≡ gives 65535
  pub low_bits : slot_address world 0 (pos 256) i8 ≡ gives 100
  pub not_other : slot_address world 0 (pos 0) i64 ≢ gives 104
  pub loads : slot_load world 0 (pos 0) ≡ gives 4660
  pub loads_before : slot_load world 1 (negsuc 3) ≡ gives 4660
  pub load_traps : slot_load world 1 (pos 0) ≡ Traps HeapOutOfBounds
  pub stores : slot_store world 0 (pos 0) memory ≡ Gives [] (slot_stored memory)
  pub store_traps : slot_store world 0 (pos 1) memory ≡ Traps HeapOutOfBounds

-- A trap under a condition, on an operand.
abbrev pub cond_trap : World → CondTrapOpcode → ℕ → Memory → Outcome
cond_trap world opcode condition memory = outcome_of world (CondTrap opcode IntegerOverflow) i8 (i8 ∷ []) (condition ∷ []) memory

-- `trap` traps; `trapz` traps on zero, `trapnz` on any other number, and else they do nothing.
pub record TrapExamples (world : World) (memory : Memory) : Type 0 where
  pub trap : outcome_of world (Trap IntegerOverflow) type.Invalid [] [] memory ≡ Traps IntegerOverflow
  pub not_other : outcome_of world (Trap IntegerOverflow) type.Invalid [] [] memory ≢ Traps HeapOutOfBounds
  pub zero_traps : cond_trap world Trapz 0 memory ≡ Traps IntegerOverflow
  pub zero_passes : cond_trap world Trapz 5 memory ≡ Gives [] memory
  pub other_traps : cond_trap world Trapnz 5 memory ≡ Traps IntegerOverflow
  pub other_passes : cond_trap world Trapnz 0 memory ≡ Gives [] memory
  pub zero_not_passed : cond_trap world Trapz 0 memory ≢ Gives [] memory
  pub other_not_passed : cond_trap world Trapnz 5 memory ≢ Gives [] memory

-- The worked examples.
pub record MemoryExamples : Type 0 where
  pub loads : (world : World) → LoadExamples world
  pub stores : (world : World) (memory : Memory) → StoreExamples world memory
  pub slots : (world : World) (memory : Memory) → SlotExamples world memory
  pub traps : (world : World) (memory : Memory) → TrapExamples world memory
