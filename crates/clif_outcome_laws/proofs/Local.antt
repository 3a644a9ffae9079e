-- What an instruction does depends on the ranges that it may touch alone, and changes those alone.
use Rattle.std.proofs.Common.{◌≡◌, ◌+◌, ◌%◌, ◌^◌, ◌<◌, ◌==◌, ◌&&◌, ◌||◌, ℕ, zero, suc, List, [], ◌∷◌, Bool, true, false, not, if◌then◌else◌, refl, sym, ◌∙◌, ap, ap₂, subst, arith}
use Rattle.std.specs.Prelude.{ℤ, nat_lt}
use Rattle.std.proofs.Math.Nat.{mod-lt, mod-add-mod}
use Rattle.std.proofs.lemmas.Bool.{and_parts, ltb-true}
use Rattle.std.proofs.lemmas.Nat.{pow_pos}
use Rattle.clif_types.specs.declared.types.«Type».{«Type»}
use Rattle.clif_types.specs.Types.{bits_of}
use Rattle.clif_types.specs.MemFlags.{MemFlagsShape}
use Rattle.clif_types.specs.declared.trapcode.TrapCode.TheVariants.{HeapOutOfBounds}
use Rattle.clif_types.specs.declared.extname.ExternalName.{ExternalName}
use Rattle.clif_types.specs.declared.extname.ExternalName.TheVariants.{LibCall, TestCase, User}
use Rattle.clif_types.specs.declared.libcall.LibCall.{LibCall as LibraryFunction}
use Rattle.clif_types.specs.declared.libcall.LibCall.TheVariants.{Memcpy, Memmove, Memset, Memcmp}
use Rattle.clif_meaning.specs.Bits.{Bits, value_bytes, value_of_bytes}
use Rattle.clif_meaning.specs.ByteOperation.{ByteOperation, Copy, Fill, CompareBytes, CallLibrary, order_meets}
use Rattle.clif_meaning.specs.Memory.{Memory, Range, address_in, byte_order, index_in, lies_in, bytes_from, bytes_in, copied, filled, written}
use Rattle.clif_meaning.specs.Access.{call_ranges}
use Rattle.clif_meaning.specs.Library.{bytes_at, library_answer, library_memory, library_ranges}
use Rattle.clif_opcodes.specs.declared.opcodes.StackOpcode.TheVariants.{StackAddr, StackLoad}
use Rattle.clif_meaning.specs.Instruction.{Compute, Load, Store, Stack, StackStore, Trap, CondTrap, Jump, Brif, BrTable, Switch, Bytes, Return, Call, CallIndirect, TryCall, TryCallIndirect}
use Rattle.clif_meaning.specs.Event.{CallShape, plain_call}
use Rattle.clif_meaning.specs.Outcome.{Outcome, Computed, Values, Fault, Undefined, Gives, Goes, Traps, NoStep, access_outcome, accessed, byte_outcome, byte_ranges, byte_results, bytes_in_order, ranges_accessible, call_outcome, library_runs, no_claim, slot_accessed, are_accessible, computed, outcome_of_computed, low_bits_at, operand_type}
use Rattle.clif_meaning.specs.World.{World}
use Rattle.clif_meaning.proofs.Ranges.{lies_there}
use Rattle.clif_outcome_laws.specs.Locality.{ChangeAlike, SameInside, Agree, OutcomesAreLocal, lies_in_one}

-- memory that stays changes nothing
stays : (ranges : List Range) (left right : Memory) → SameInside ranges left right → ChangeAlike ranges left right left right
stays ranges left right same = record { left_outside = λ address outside. refl; right_outside = λ address outside. refl; inside = same }

-- two memories read alike from a place on
alike : (left right : Memory) (width start size : ℕ) → ((k : ℕ) → k < size → left ((start + k) % 2 ^ width) ≡ right ((start + k) % 2 ^ width))
    → bytes_from left width start size ≡ bytes_from right width start size
alike left right width start zero same = refl
alike left right width start (suc size) same =
    let first : left (start % 2 ^ width) ≡ right (start % 2 ^ width) =
    ap (λ (n : ℕ). left (n % 2 ^ width)) (at_zero start) ∙ same zero (omega arith) ∙ ap (λ (n : ℕ). right (n % 2 ^ width)) (sym (at_zero start)) in
    let rest = alike left right width (start + 1) size (λ k below.
    ap (λ (n : ℕ). left (n % 2 ^ width)) (one_on start k) ∙ same (suc k) (omega arith) ∙ ap (λ (n : ℕ). right (n % 2 ^ width)) (sym (one_on start k))) in
    ap (λ (b : ℕ). b ∷ bytes_from left width (start + 1) size) first ∙ ap (λ (bs : List ℕ). right (start % 2 ^ width) ∷ bs) rest
  where
    at_zero : (a : ℕ) → a ≡ a + 0
    at_zero a = omega arith

    one_on : (a k : ℕ) → a + 1 + k ≡ a + suc k
    one_on a k = omega arith

-- the bytes of a range are those of any memory with the same bytes there
same_bytes : (left right : Memory) (range : Range) → range.start < 2 ^ range.width → SameInside (range ∷ []) left right → bytes_in left range ≡ bytes_in right range
same_bytes left right range starts same = alike left right range.width range.start range.size (λ k below.
    let there : lies_in_one (range ∷ []) (address_in range k) ≡ true = rw (lies_there range k starts below) refl in
    same (address_in range k) there)

-- memory that is written to a range
writes : (left right : Memory) (range : Range) (bytes : List ℕ) → ChangeAlike (range ∷ []) left right (written left range bytes) (written right range bytes)
writes left right range bytes = record {
  left_outside = λ address outside. rw (only range address false outside) refl;
  right_outside = λ address outside. rw (only range address false outside) refl;
  inside = λ address inside. rw (only range address true inside) refl;
}
  where
    only : (range : Range) (address : ℕ) (b : Bool) → lies_in_one (range ∷ []) address ≡ b → lies_in range address ≡ b
    only range address b is = or_none (lies_in range address) ∙ is
      where
        or_none : (x : Bool) → x ≡ (x || false)
        or_none true = refl
        or_none false = refl

-- an access agrees if what it does agrees
access_by : (ranges : List Range) (left right : Memory) (misplaced accessible notrap : Bool) (outcome other : Outcome) → Agree ranges left right outcome other
    → Agree ranges left right (if misplaced then NoStep else (if accessible then outcome else (if notrap then NoStep else Traps HeapOutOfBounds)))
    (if misplaced then NoStep else (if accessible then other else (if notrap then NoStep else Traps HeapOutOfBounds)))
access_by ranges left right true accessible notrap outcome other agree = tt
access_by ranges left right false true notrap outcome other agree = agree
access_by ranges left right false false true outcome other agree = tt
access_by ranges left right false false false outcome other agree = refl

access_agrees : (world : World) (flags : MemFlagsShape) (range : Range) (left right : Memory) (outcome other : Outcome) → Agree (range ∷ []) left right outcome other
    → Agree (range ∷ []) left right (access_outcome world flags range outcome) (access_outcome world flags range other)
access_agrees world flags range left right outcome other agree =
    access_by (range ∷ []) left right (flags.aligned && not (range.start % range.size == 0)) (are_accessible world range range.size) flags.notrap outcome other agree

-- arithmetic leaves memory
computed_agrees : (left right : Memory) (c : Computed) → Agree [] left right (outcome_of_computed c left) (outcome_of_computed c right)
computed_agrees left right (Values results) = (refl, stays [] left right (λ address inside. cc))
computed_agrees left right (Fault reason) = refl
computed_agrees left right Undefined = tt

trap_agrees : (left right : Memory) (reason : _) (b : Bool) → Agree [] left right (if b then Traps reason else Gives [] left) (if b then Traps reason else Gives [] right)
trap_agrees left right reason true = refl
trap_agrees left right reason false = (refl, stays [] left right (λ address inside. cc))

-- what is the same in two ranges is the same in each
first_same : (one two : Range) (left right : Memory) → SameInside (one ∷ two ∷ []) left right → SameInside (one ∷ []) left right
first_same one two left right same address inside = same address (either (lies_in one address) (lies_in two address) inside)
  where
    either : (a b : Bool) → (a || false) ≡ true → (a || (b || false)) ≡ true
    either true b inside = refl
    either false b inside = let no_way : ⊥ = cc in absurd no_way

second_same : (one two : Range) (left right : Memory) → SameInside (one ∷ two ∷ []) left right → SameInside (two ∷ []) left right
second_same one two left right same address inside = same address (either (lies_in one address) (lies_in two address) inside)
  where
    either : (a b : Bool) → (b || false) ≡ true → (a || (b || false)) ≡ true
    either true b inside = refl
    either false b inside = inside

-- where an address is of no range, it isn't of the first
not_first : (one : Range) (ranges : List Range) (address : ℕ) → lies_in_one (one ∷ ranges) address ≡ false → lies_in one address ≡ false
not_first one ranges address outside = neither (lies_in one address) (lies_in_one ranges address) outside
  where
    neither : (a b : Bool) → (a || b) ≡ false → a ≡ false
    neither false b none = refl
    neither true b none = none

-- memory to which bytes are copied that are the same in both
module _ (left right : Memory) (width first second size : ℕ) where
  abbrev target : Range
  target = bytes_at width first size

  abbrev source : Range
  source = bytes_at width second size

  from : SameInside (target ∷ source ∷ []) left right → (address : ℕ) → lies_in target address ≡ true
      → left ((second + index_in target address) % 2 ^ width) ≡ right ((second + index_in target address) % 2 ^ width)
  from same address there =
      let index : ℕ = index_in target address in
      let below : index < size = ltb-true index size (and_parts (nat_lt address (2 ^ width)) (nat_lt index size) there).1 in
      let is : address_in source index ≡ (second + index) % 2 ^ width = mod-add-mod second (2 ^ width) index in
      let inside : lies_in_one (source ∷ []) (address_in source index) ≡ true = rw (lies_there source index (mod-lt second (pow_pos width)) below) refl in
      subst (λ (a : ℕ). left a ≡ right a) is (second_same target source left right same (address_in source index) inside)

  copied_to : SameInside (target ∷ source ∷ []) left right → (address : ℕ) → lies_in_one (target ∷ source ∷ []) address ≡ true
      → (there : Bool) → lies_in target address ≡ there → copied left target second address ≡ copied right target second address
  copied_to same address inside true there = let equal = from same address there in rw there equal
  copied_to same address inside false elsewhere = let equal = same address inside in rw elsewhere equal

  copies : SameInside (target ∷ source ∷ []) left right → ChangeAlike (target ∷ source ∷ []) left right (copied left target second) (copied right target second)
  copies same = record {
    left_outside = λ address outside. rw (not_first target (source ∷ []) address outside) refl;
    right_outside = λ address outside. rw (not_first target (source ∷ []) address outside) refl;
    inside = λ address inside. copied_to same address inside (lies_in target address) refl;
  }

-- memory that is filled
fills : (left right : Memory) (range : Range) (byte : ℕ) → ChangeAlike (range ∷ []) left right (filled left range byte) (filled right range byte)
fills left right range byte = record {
  left_outside = λ address outside. rw (not_first range [] address outside) refl;
  right_outside = λ address outside. rw (not_first range [] address outside) refl;
  inside = λ address inside. rw (only (lies_in range address) inside) refl;
}
  where
    only : (b : Bool) → (b || false) ≡ true → b ≡ true
    only true is = refl
    only false is = is

-- What a function of the C library does depends on the bytes of its ranges alone.
answered_alike : (world : World) (callee : LibraryFunction) (first second size : Bits) (left right : Memory)
    → SameInside (library_ranges world.pointer_width callee first second size) left right
    → library_answer world callee first second size left ≡ library_answer world callee first second size right
answered_alike world Memcpy first second size left right same = refl
answered_alike world Memmove first second size left right same = refl
answered_alike world Memset first second size left right same = refl
answered_alike world Memcmp first second size left right same =
    let one : Range = bytes_at world.pointer_width first size in
    let two : Range = bytes_at world.pointer_width second size in
    ap₂ world.memcmp_number
    (same_bytes left right one (mod-lt first (pow_pos world.pointer_width)) (first_same one two left right same))
    (same_bytes left right two (mod-lt second (pow_pos world.pointer_width)) (second_same one two left right same))

changed_alike : (width : ℕ) (callee : LibraryFunction) (first second size : Bits) (left right : Memory) → SameInside (library_ranges width callee first second size) left right
    → ChangeAlike (library_ranges width callee first second size) left right
    (library_memory width callee first second size left) (library_memory width callee first second size right)
changed_alike width Memcpy first second size left right same = copies left right width first second size same
changed_alike width Memmove first second size left right same = copies left right width first second size same
changed_alike width Memset first second size left right same = fills left right (bytes_at width first size) (second % 256)
changed_alike width Memcmp first second size left right same = stays (library_ranges width Memcmp first second size) left right same

-- an outcome that goes on with answers and memory agrees with one that goes on with the same answers, and changed memory alike
abbrev GoesOnAlike : (List Bits → Memory → Outcome) → Type 0
GoesOnAlike goes_on =
    (ranges : List Range) (left right after other : Memory) (bits others : List Bits) → bits ≡ others → ChangeAlike ranges left right after other
    → Agree ranges left right (goes_on bits after) (goes_on others other)

-- a call asks nothing of memory, except of a function of the C library
call_agrees : (world : World) (goes_on : List Bits → Memory → Outcome) → GoesOnAlike goes_on → (name : ExternalName) (call : CallShape) (arguments : List Bits)
    (left right : Memory) → SameInside (call_ranges world name arguments) left right
    → Agree (call_ranges world name arguments) left right (call_outcome world goes_on name call arguments left) (call_outcome world goes_on name call arguments right)
call_agrees world goes_on alike (LibCall callee) call [] left right same = tt
call_agrees world goes_on alike (LibCall callee) call (x ∷ []) left right same = tt
call_agrees world goes_on alike (LibCall callee) call (x ∷ y ∷ []) left right same = tt
call_agrees world goes_on alike (LibCall callee) call (first ∷ second ∷ size ∷ []) left right same = by (library_runs world callee call.signature first second size)
  where
    by : (runs : Bool) → Agree (library_ranges world.pointer_width callee first second size) left right
        (if runs then goes_on (library_answer world callee first second size left ∷ []) (library_memory world.pointer_width callee first second size left) else NoStep)
        (if runs then goes_on (library_answer world callee first second size right ∷ []) (library_memory world.pointer_width callee first second size right) else NoStep)
    by true =
        alike (library_ranges world.pointer_width callee first second size) left right _ _ _ _
        (ap (λ (bits : Bits). bits ∷ []) (answered_alike world callee first second size left right same))
        (changed_alike world.pointer_width callee first second size left right same)
    by false = tt
call_agrees world goes_on alike (LibCall callee) call (x ∷ y ∷ z ∷ w ∷ arguments) left right same = tt
call_agrees world goes_on alike (User reference) call arguments left right same = (refl, refl, refl)
call_agrees world goes_on alike (TestCase text) call arguments left right same = (refl, refl, refl)

-- an access begins at an address
begins : (access address_type : «Type») (address : Bits) (offset : ℤ) → (accessed access address_type address offset).start < 2 ^ (accessed access address_type address offset).width
begins access address_type address offset = mod-lt _ (pow_pos _)

-- OPERATIONS ON BYTES -----------------------------------------------------------------------------------------------------

either_agrees : (ranges : List Range) (left right : Memory) (runs : Bool) (outcome other : Outcome) → Agree ranges left right outcome other
    → Agree ranges left right (if runs then outcome else NoStep) (if runs then other else NoStep)
either_agrees ranges left right true outcome other agree = agree
either_agrees ranges left right false outcome other agree = tt

-- what is answered of bytes that are the same in both
library_results_alike : (world : World) (callee : LibraryFunction) (width first second size : ℕ) (left right : Memory)
    → SameInside (library_ranges width callee first second size) left right
    → byte_results world (CallLibrary callee) width (first ∷ second ∷ size ∷ []) left ≡ byte_results world (CallLibrary callee) width (first ∷ second ∷ size ∷ []) right
library_results_alike world Memcpy width first second size left right same = refl
library_results_alike world Memmove width first second size left right same = refl
library_results_alike world Memset width first second size left right same = refl
library_results_alike world Memcmp width first second size left right same =
    let one : Range = bytes_at width first size in
    let two : Range = bytes_at width second size in
    ap₂ (λ (xs ys : List ℕ). world.memcmp_number xs ys ∷ [])
    (same_bytes left right one (mod-lt first (pow_pos width)) (first_same one two left right same))
    (same_bytes left right two (mod-lt second (pow_pos width)) (second_same one two left right same))

bytes_agree : (world : World) (operation : ByteOperation) (width : ℕ) (operands : List Bits) (left right : Memory) → SameInside (byte_ranges operation width operands) left right
    → Agree (byte_ranges operation width operands) left right (byte_outcome world operation width operands left) (byte_outcome world operation width operands right)
bytes_agree world (Copy copy) width [] left right same = tt
bytes_agree world (Copy copy) width (x ∷ []) left right same = tt
bytes_agree world (Copy copy) width (target ∷ source ∷ []) left right same =
    either_agrees _ left right (ranges_accessible world (byte_ranges (Copy copy) width (target ∷ source ∷ []))) _ _ (refl, copies left right width target source copy.size same)
bytes_agree world (Copy copy) width (x ∷ y ∷ z ∷ operands) left right same = tt
bytes_agree world (Fill fill) width [] left right same = tt
bytes_agree world (Fill fill) width (target ∷ []) left right same =
    either_agrees _ left right (ranges_accessible world (byte_ranges (Fill fill) width (target ∷ []))) _ _ (refl, fills left right (bytes_at width target fill.size) (fill.byte % 256))
bytes_agree world (Fill fill) width (x ∷ y ∷ operands) left right same = tt
bytes_agree world (CompareBytes compare) width [] left right same = tt
bytes_agree world (CompareBytes compare) width (x ∷ []) left right same = tt
bytes_agree world (CompareBytes compare) width (x ∷ y ∷ []) left right same =
    let one : Range = bytes_at width x compare.size in
    let two : Range = bytes_at width y compare.size in
    either_agrees _ left right (ranges_accessible world (byte_ranges (CompareBytes compare) width (x ∷ y ∷ []))) _ _ (
      ap₂ (λ (xs ys : List ℕ). (if order_meets compare.condition (byte_order xs ys) then 1 else 0) ∷ [])
          (same_bytes left right one (mod-lt x (pow_pos width)) (first_same one two left right same))
          (same_bytes left right two (mod-lt y (pow_pos width)) (second_same one two left right same)),
      stays (one ∷ two ∷ []) left right same,
    )
bytes_agree world (CompareBytes compare) width (x ∷ y ∷ z ∷ operands) left right same = tt
bytes_agree world (CallLibrary callee) width [] left right same = tt
bytes_agree world (CallLibrary callee) width (x ∷ []) left right same = tt
bytes_agree world (CallLibrary callee) width (x ∷ y ∷ []) left right same = tt
bytes_agree world (CallLibrary callee) width (first ∷ second ∷ size ∷ []) left right same =
    either_agrees _ left right (bytes_in_order (CallLibrary callee) width (first ∷ second ∷ size ∷ []) && ranges_accessible world (library_ranges width callee first second size)) _ _
    (library_results_alike world callee width first second size left right same, changed_alike width callee first second size left right same)
bytes_agree world (CallLibrary callee) width (x ∷ y ∷ z ∷ w ∷ operands) left right same = tt

pub outcomes_are_local : OutcomesAreLocal
outcomes_are_local world (Compute arithmetic) ty types operands left right same = computed_agrees left right (computed arithmetic ty types operands)
outcomes_are_local world (Load flags offset) ty types [] left right same = tt
outcomes_are_local world (Load flags offset) ty types (address ∷ []) left right same =
    let range : Range = accessed ty (operand_type types 0) address offset in
    let read = same_bytes left right range (begins ty (operand_type types 0) address offset) same in
    access_agrees world flags range left right (Gives (low_bits_at ty (value_of_bytes (bytes_in left range)) ∷ []) left) (Gives (low_bits_at ty (value_of_bytes (bytes_in right range)) ∷ []) right)
    (ap (λ (bytes : List ℕ). low_bits_at ty (value_of_bytes bytes) ∷ []) read, stays (range ∷ []) left right same)
outcomes_are_local world (Load flags offset) ty types (address ∷ x ∷ operands) left right same = tt
outcomes_are_local world (Store flags offset) ty types [] left right same = tt
outcomes_are_local world (Store flags offset) ty types (stored ∷ []) left right same = tt
outcomes_are_local world (Store flags offset) ty types (stored ∷ address ∷ []) left right same =
    let range : Range = accessed ty (operand_type types 1) address offset in
    let bytes : List ℕ = value_bytes range.size stored in
    access_agrees world flags range left right (Gives [] (written left range bytes)) (Gives [] (written right range bytes)) (refl, writes left right range bytes)
outcomes_are_local world (Store flags offset) ty types (stored ∷ address ∷ x ∷ operands) left right same = tt
outcomes_are_local world (Stack StackAddr slot offset) ty types [] left right same = (refl, stays [] left right same)
outcomes_are_local world (Stack StackAddr slot offset) ty types (x ∷ operands) left right same = tt
outcomes_are_local world (Stack StackLoad slot offset) ty types [] left right same =
    let range : Range = slot_accessed world ty slot offset in
    let read = same_bytes left right range (mod-lt _ (pow_pos world.pointer_width)) same in
    access_agrees world no_claim range left right (Gives (low_bits_at ty (value_of_bytes (bytes_in left range)) ∷ []) left) (Gives (low_bits_at ty (value_of_bytes (bytes_in right range)) ∷ []) right)
    (ap (λ (bytes : List ℕ). low_bits_at ty (value_of_bytes bytes) ∷ []) read, stays (range ∷ []) left right same)
outcomes_are_local world (Stack StackLoad slot offset) ty types (x ∷ operands) left right same = tt
outcomes_are_local world (StackStore slot offset) ty types [] left right same = tt
outcomes_are_local world (StackStore slot offset) ty types (stored ∷ []) left right same =
    let range : Range = slot_accessed world ty slot offset in
    let bytes : List ℕ = value_bytes range.size stored in
    access_agrees world no_claim range left right (Gives [] (written left range bytes)) (Gives [] (written right range bytes)) (refl, writes left right range bytes)
outcomes_are_local world (StackStore slot offset) ty types (stored ∷ x ∷ operands) left right same = tt
outcomes_are_local world (Trap reason) ty types [] left right same = refl
outcomes_are_local world (Trap reason) ty types (x ∷ operands) left right same = tt
outcomes_are_local world (CondTrap opcode reason) ty types [] left right same = tt
outcomes_are_local world (CondTrap opcode reason) ty types (condition ∷ []) left right same = trap_agrees left right reason _
outcomes_are_local world (CondTrap opcode reason) ty types (condition ∷ x ∷ operands) left right same = tt
outcomes_are_local world Jump ty types [] left right same = (refl, refl, stays [] left right same)
outcomes_are_local world Jump ty types (x ∷ operands) left right same = tt
outcomes_are_local world Brif ty types [] left right same = tt
outcomes_are_local world Brif ty types (condition ∷ []) left right same = (refl, refl, stays [] left right same)
outcomes_are_local world Brif ty types (condition ∷ x ∷ operands) left right same = tt
outcomes_are_local world (BrTable entries) ty types [] left right same = tt
outcomes_are_local world (BrTable entries) ty types (index ∷ []) left right same = (refl, refl, stays [] left right same)
outcomes_are_local world (BrTable entries) ty types (index ∷ x ∷ operands) left right same = tt
outcomes_are_local world (Switch keys) ty types [] left right same = tt
outcomes_are_local world (Switch keys) ty types (key ∷ []) left right same = (refl, refl, stays [] left right same)
outcomes_are_local world (Switch keys) ty types (key ∷ x ∷ operands) left right same = tt
outcomes_are_local world (Bytes operation) ty types operands left right same = bytes_agree world operation (bits_of ty) operands left right same
outcomes_are_local world Return ty types operands left right same = refl
outcomes_are_local world (Call name signature) ty types operands left right same =
    call_agrees world Gives (λ ranges one two after other bits others equal changed. (equal, changed)) name (plain_call signature) operands left right same
outcomes_are_local world (CallIndirect signature) ty types [] left right same = tt
outcomes_are_local world (CallIndirect signature) ty types (address ∷ operands) left right same = (refl, refl, refl)
outcomes_are_local world (TryCall name call) ty types operands left right same =
    call_agrees world (Goes 0) (λ ranges one two after other bits others equal changed. (refl, equal, changed)) name call operands left right same
outcomes_are_local world (TryCallIndirect call) ty types [] left right same = tt
outcomes_are_local world (TryCallIndirect call) ty types (address ∷ operands) left right same = (refl, refl, refl)
