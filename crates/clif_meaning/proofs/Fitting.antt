-- Outcomes fit the typing table.
use Rattle.std.proofs.Common.{◌≡◌, ◌^◌, ◌*◌, ◌+◌, ◌/◌, ◌%◌, ◌<◌, ℕ, List, [], ◌∷◌, ◌++◌, arith, subst, refl, sym, ◌∙◌}
use Rattle.std.specs.Prelude.{ℤ, pos, negsuc, Option, Some, None, Bool, true, false, ◌==◌, ◌&&◌, not, if◌then◌else◌, take}
use Rattle.std.specs.List.{AllByRecursion}
use Rattle.std.proofs.Math.Nat.{mod-lt}
use Rattle.std.proofs.lemmas.Bool.{eq-eqb}
use Rattle.clif_types.specs.declared.types.LaneType.TheVariants as lane
use Rattle.clif_types.specs.declared.types.«Type».{«Type»}
use Rattle.clif_types.specs.declared.types.«Type».TheVariants as type
use Rattle.clif_types.specs.Types.{bits_of}
use Rattle.clif_types.specs.declared.trapcode.TrapCode.{TrapCode}
use Rattle.clif_types.specs.declared.trapcode.TrapCode.TheVariants.{HeapOutOfBounds}
use Rattle.clif_types.specs.MemFlags.{MemFlagsShape}
use Rattle.clif_types.specs.declared.extname.ExternalName.{ExternalName}
use Rattle.clif_types.specs.declared.extname.ExternalName.TheVariants as name
use Rattle.clif_types.specs.declared.libcall.LibCall.{LibCall}
use Rattle.clif_types.specs.declared.libcall.LibCall.TheVariants.{Memcpy, Memmove, Memset, Memcmp}
use Rattle.clif_types.specs.Signature.{SignatureShape}
use Rattle.clif_tables.specs.Callees.{types_of}
use Rattle.clif_opcodes.specs.declared.opcodes.FloatConstOpcode.TheVariants.{F16const, F32const, F64const}
use Rattle.clif_opcodes.specs.declared.opcodes.PooledConstOpcode.TheVariants.{F128const, Vconst}
use Rattle.clif_opcodes.specs.declared.kinds.OperandKind.{OperandKind}
use Rattle.clif_opcodes.specs.Kinds.{IsOfKind, double_of, half_of}
use Rattle.clif_opcodes.specs.declared.kinds.OperandKind.TheVariants as kind
use Rattle.clif_opcodes.specs.Typing.{AreOfKinds, binary_second, convert_operand}
use Rattle.clif_meaning.specs.Bits.{Bits, HasWidth, IsValue, AreValues, value_bytes, value_of_bytes, wrapped}
use Rattle.clif_opcodes.specs.declared.opcodes.StackOpcode.TheVariants.{StackAddr, StackLoad}
use Rattle.clif_meaning.specs.Instruction.{Iconst, FloatConst, PooledConst, Unary, Binary, Compare, Concat, Split, Convert, Select, AddConstant, CompareConstant, Operation, Compute, Load, Store, Stack, StackStore, Trap, CondTrap, Jump, Brif, BrTable, Switch, Bytes, Return, Call, CallIndirect, TryCall, TryCallIndirect}
use Rattle.clif_meaning.specs.ByteOperation.{ByteOperation, Copy, Fill, CompareBytes, CallLibrary, order_meets}
use Rattle.clif_meaning.specs.Memory.{Memory, Range, byte_order, bytes_in, written}
use Rattle.clif_meaning.specs.Access.{Accessible, Aligned, Holds, access_claims, byte_claims, call_claims, claims_if, promised_claims, claims_of, library_named}
use Rattle.clif_meaning.specs.Outcome.{Outcome, Gives, Goes, NoStep, Traps, access_outcome, accessed, are_accessible, byte_outcome, byte_ranges, byte_results, bytes_in_order, compares, converted_number, low_bits_at, no_claim, slot_accessed, slot_address, traps_on, unary_number, binary_fault, binary_number, call_outcome, library_outcome, outcome_of, outcome_of_computed, unless_fault}
use Rattle.clif_meaning.specs.Laws.{FitsTypes, OutcomesFit}
use Rattle.clif_meaning.specs.Program.{result_types}
use Rattle.clif_meaning.specs.Library.{bytes_at, library_answer, library_apart, library_memory, pointer_of}
use Rattle.clif_meaning.specs.Typing.{TakesOperands}
use Rattle.clif_meaning.specs.Premises.{HasLibrarySignature, IfLibraryCall}
use Rattle.clif_meaning.specs.Event.{CallShape, plain_call}
use Rattle.clif_meaning.specs.World.{World}
use Rattle.clif_meaning.proofs.LibraryCalls.{answer_fits, claimed_accessible, claimed_apart, claimed_runs, each_accessible, sign_fits, three_arguments}
use Rattle.clif_meaning.proofs.SampleWorld.{pow_pos}

low_fits : (ty : «Type») (number : ℕ) → IsValue ty (low_bits_at ty number)
low_fits ty number = mod-lt number (pow_pos (bits_of ty))

constant_fits : (width : ℕ) (number : ℤ) → HasWidth width (wrapped width number)
constant_fits width (pos n) = mod-lt n (pow_pos width)
constant_fits width (negsuc n) =
    let positive : 0 < 2 ^ width = pow_pos width in
    omega (arith, positive)

either_fits : (ty : «Type») (is_zero : Bool) (x y : Bits) → IsValue ty x → IsValue ty y → IsValue ty (if is_zero then y else x)
either_fits ty true x y x_fits y_fits = y_fits
either_fits ty false x y x_fits y_fits = x_fits

fits_unless : (ty : «Type») (returns : List «Type») (memory : Memory) (fault : Option TrapCode) (bits : Bits) → IsValue ty bits
    → FitsTypes (ty ∷ []) returns (outcome_of_computed (unless_fault fault bits) memory)
fits_unless ty returns memory None bits is_value = (is_value, tt)
fits_unless ty returns memory (Some reason) bits is_value = tt

-- a bit is an I8
pub bit_fits : (b : Bool) → HasWidth 8 (if b then 1 else 0)
bit_fits true = omega arith
bit_fits false = omega arith

trap_fits : (b : Bool) (reason : TrapCode) (returns : List «Type») (memory : Memory) → FitsTypes [] returns (if b then Traps reason else Gives [] memory)
trap_fits true reason returns memory = tt
trap_fits false reason returns memory = tt

-- BY THE NUMBER OF OPERANDS ---------------------------------------------------------------------------------------------

module _ (P : List «Type» → List Bits → Type 0) (ty : «Type») where
  no_operand : (types : List «Type») (operands : List Bits) → AreOfKinds ty [] types → AreValues types operands → P [] [] → P types operands
  no_operand [] [] fits values it = it
  no_operand [] (x ∷ operands) fits values it = absurd values
  no_operand (t ∷ types) operands fits values it = absurd fits

  one_operand : (k : OperandKind) (types : List «Type») (operands : List Bits) → AreOfKinds ty (k ∷ []) types → AreValues types operands
      → ((t : «Type») (x : Bits) → IsOfKind ty k t → IsValue t x → P (t ∷ []) (x ∷ [])) → P types operands
  one_operand k [] operands fits values it = absurd fits
  one_operand k (t ∷ u ∷ types) operands fits values it = absurd fits.1
  one_operand k (t ∷ []) [] fits values it = absurd values
  one_operand k (t ∷ []) (x ∷ y ∷ operands) fits values it = absurd values.1
  one_operand k (t ∷ []) (x ∷ []) fits values it = it t x fits.0 values.0

  two_operands : (j k : OperandKind) (types : List «Type») (operands : List Bits) → AreOfKinds ty (j ∷ k ∷ []) types → AreValues types operands
      → ((t u : «Type») (x y : Bits) → IsOfKind ty j t → IsOfKind ty k u → IsValue t x → IsValue u y → P (t ∷ u ∷ []) (x ∷ y ∷ [])) → P types operands
  two_operands j k [] operands fits values it = absurd fits
  two_operands j k (t ∷ []) operands fits values it = absurd fits.1
  two_operands j k (t ∷ u ∷ v ∷ types) operands fits values it = absurd fits.1.1
  two_operands j k (t ∷ u ∷ []) [] fits values it = absurd values
  two_operands j k (t ∷ u ∷ []) (x ∷ []) fits values it = absurd values.1
  two_operands j k (t ∷ u ∷ []) (x ∷ y ∷ z ∷ operands) fits values it = absurd values.1.1
  two_operands j k (t ∷ u ∷ []) (x ∷ y ∷ []) fits values it = it t u x y fits.0 fits.1.0 values.0 values.1.0

  three_operands : (i j k : OperandKind) (types : List «Type») (operands : List Bits) → AreOfKinds ty (i ∷ j ∷ k ∷ []) types → AreValues types operands
      → ((t u v : «Type») (x y z : Bits) → IsOfKind ty j u → IsOfKind ty k v → IsValue u y → IsValue v z → P (t ∷ u ∷ v ∷ []) (x ∷ y ∷ z ∷ [])) → P types operands
  three_operands i j k [] operands fits values it = absurd fits
  three_operands i j k (t ∷ []) operands fits values it = absurd fits.1
  three_operands i j k (t ∷ u ∷ []) operands fits values it = absurd fits.1.1
  three_operands i j k (t ∷ u ∷ v ∷ w ∷ types) operands fits values it = absurd fits.1.1.1
  three_operands i j k (t ∷ u ∷ v ∷ []) [] fits values it = absurd values
  three_operands i j k (t ∷ u ∷ v ∷ []) (x ∷ []) fits values it = absurd values.1
  three_operands i j k (t ∷ u ∷ v ∷ []) (x ∷ y ∷ []) fits values it = absurd values.1.1
  three_operands i j k (t ∷ u ∷ v ∷ []) (x ∷ y ∷ z ∷ w ∷ operands) fits values it = absurd values.1.1.1
  three_operands i j k (t ∷ u ∷ v ∷ []) (x ∷ y ∷ z ∷ []) fits values it = it t u v x y z fits.1.0 fits.1.1.0 values.1.0 values.1.1.0

  -- an address, and others behind it
  with_address : (types : List «Type») (operands : List Bits) → AreOfKinds ty (kind.Address ∷ []) (take 1 types) → AreValues types operands
      → ((t : «Type») (x : Bits) (more : List «Type») (bits : List Bits) → P (t ∷ more) (x ∷ bits)) → P types operands
  with_address [] operands fits values it = absurd fits
  with_address (t ∷ types) [] fits values it = absurd values
  with_address (t ∷ types) (x ∷ operands) fits values it = it t x types operands

-- CALLS -----------------------------------------------------------------------------------------------------------------

-- The call of a function of the C library, if what it claims is true. How it goes on is that of a call or of a try call.
library_fits : (world : World) (goes_on : List Bits → Memory → Outcome) (results returns : List «Type») (callee : LibCall) (signature : SignatureShape)
    (types : List «Type») (operands : List Bits) (memory : Memory)
    → HasLibrarySignature (pointer_of world.pointer_width) (record { callee = callee; signature = signature })
    → types ≡ types_of signature.params → AreValues types operands → AllByRecursion (Holds world) (call_claims world (name.LibCall callee) operands)
    → ((bits : List Bits) (after : Memory) → AreValues (types_of signature.returns) bits → FitsTypes results returns (goes_on bits after))
    → FitsTypes results returns (library_outcome world goes_on callee signature operands memory)
library_fits world goes_on results returns callee signature types operands memory has takes values claims fit =
    three_arguments (λ (xs : List Bits). AllByRecursion (Holds world) (call_claims world (name.LibCall callee) xs)
    → FitsTypes results returns (library_outcome world goes_on callee signature xs memory)) (pointer_of world.pointer_width) callee operands
    (subst (λ (ts : List «Type»). AreValues ts operands) (takes ∙ has.parameters) values)
    (λ first second size is_pointer true_claims.
    let runs = claimed_runs world callee signature first second size has true_claims in
    let answer : List Bits = library_answer world callee first second size memory ∷ [] in
    let after : Memory = library_memory world.pointer_width callee first second size memory in
    subst (λ (b : Bool). FitsTypes results returns (if b then goes_on answer after else NoStep)) (sym runs)
    (fit answer after (subst (λ (ts : List «Type»). AreValues ts answer) (sym has.returns)
    (answer_fits world (pointer_of world.pointer_width) callee first second size memory is_pointer)))) claims

-- the call of a function by its name
named_fits : (world : World) (goes_on : List Bits → Memory → Outcome) (results returns : List «Type») (called : ExternalName) (call : CallShape)
    (types : List «Type») (operands : List Bits) (memory : Memory)
    → IfLibraryCall (pointer_of world.pointer_width) (library_named called call.signature)
    → types ≡ types_of call.signature.params → AreValues types operands → AllByRecursion (Holds world) (call_claims world called operands)
    → ((bits : List Bits) (after : Memory) → AreValues (types_of call.signature.returns) bits → FitsTypes results returns (goes_on bits after))
    → FitsTypes results returns (call_outcome world goes_on called call operands memory)
named_fits world goes_on results returns (name.User reference) call types operands memory has takes values claims fit = tt
named_fits world goes_on results returns (name.TestCase text) call types operands memory has takes values claims fit = tt
named_fits world goes_on results returns (name.LibCall callee) call types operands memory has takes values claims fit =
    library_fits world goes_on results returns callee call.signature types operands memory has takes values claims fit

-- OPERATIONS ON BYTES -----------------------------------------------------------------------------------------------------

-- what runs gives
runs_by : (world : World) (operation : ByteOperation) (width : ℕ) (results returns : List «Type») (operands : List Bits) (memory : Memory)
    → bytes_in_order operation width operands ≡ true → AllByRecursion (Holds world) (byte_claims operation width operands)
    → AreValues results (byte_results world operation width operands memory) → FitsTypes results returns (byte_outcome world operation width operands memory)
runs_by world operation width results returns operands memory in_order claims fit =
    let accessible = claimed_accessible world (byte_ranges operation width operands) (promised_claims operation width operands) claims in
    rw (in_order, accessible) fit

-- what a function of the C library claims not to overlap doesn't
library_in_order : (world : World) (callee : LibCall) (width : ℕ) (first second size : Bits)
    → AllByRecursion (Holds world) (byte_claims (CallLibrary callee) width (first ∷ second ∷ size ∷ [])) → library_apart width callee first second size ≡ true
library_in_order world Memcpy width first second size claims =
    claimed_apart (bytes_at width first size) (bytes_at width second size) (mod-lt first (pow_pos width)) claims.1.1.0
library_in_order world Memmove width first second size claims = refl
library_in_order world Memset width first second size claims = refl
library_in_order world Memcmp width first second size claims = refl

library_gives : (world : World) (callee : LibCall) (ty : «Type») (width : ℕ) (first second size : Bits) (memory : Memory)
    → AreValues (result_types (Bytes (CallLibrary callee)) ty) (byte_results world (CallLibrary callee) width (first ∷ second ∷ size ∷ []) memory)
library_gives world Memcpy ty width first second size memory = tt
library_gives world Memmove ty width first second size memory = tt
library_gives world Memset ty width first second size memory = tt
library_gives world Memcmp ty width first second size memory =
    let left : List ℕ = bytes_in memory (bytes_at width first size) in
    let right : List ℕ = bytes_in memory (bytes_at width second size) in
    (sign_fits (byte_order left right) (world.memcmp_number left right) (world.memcmp_sign left right), tt)

module _ (world : World) (ty : «Type») (returns : List «Type») (memory : Memory) where
  abbrev ByteFits : ByteOperation → List Bits → Type 0
  ByteFits operation operands =
      AllByRecursion (Holds world) (byte_claims operation (bits_of ty) operands)
      → FitsTypes (result_types (Bytes operation) ty) returns (byte_outcome world operation (bits_of ty) operands memory)

  library_fit : (callee : LibCall) (first second size : Bits) → ByteFits (CallLibrary callee) (first ∷ second ∷ size ∷ [])
  library_fit callee first second size claims =
      runs_by world (CallLibrary callee) (bits_of ty) (result_types (Bytes (CallLibrary callee)) ty) returns (first ∷ second ∷ size ∷ []) memory
      (library_in_order world callee (bits_of ty) first second size claims) claims (library_gives world callee ty (bits_of ty) first second size memory)

  bytes_fit : (operation : ByteOperation) (types : List «Type») (operands : List Bits) → TakesOperands returns (Bytes operation) ty types → AreValues types operands
      → ByteFits operation operands
  bytes_fit (Copy copy) types operands fits values =
      two_operands (λ ts xs. ByteFits (Copy copy) xs) ty kind.Controlling kind.Controlling types operands fits values
      (λ t u x y first second x_is y_is claims. runs_by world (Copy copy) (bits_of ty) [] returns (x ∷ y ∷ []) memory refl claims tt)
  bytes_fit (Fill fill) types operands fits values =
      one_operand (λ ts xs. ByteFits (Fill fill) xs) ty kind.Controlling types operands fits values
      (λ t x is_kind is_value claims. runs_by world (Fill fill) (bits_of ty) [] returns (x ∷ []) memory refl claims tt)
  bytes_fit (CompareBytes compare) types operands fits values =
      two_operands (λ ts xs. ByteFits (CompareBytes compare) xs) ty kind.Controlling kind.Controlling types operands fits values
      (λ t u x y first second x_is y_is claims.
      let left : List ℕ = bytes_in memory (bytes_at (bits_of ty) x compare.size) in
      let right : List ℕ = bytes_in memory (bytes_at (bits_of ty) y compare.size) in
      runs_by world (CompareBytes compare) (bits_of ty) (type.Lane lane.I8 ∷ []) returns (x ∷ y ∷ []) memory refl claims
      (bit_fits (order_meets compare.condition (byte_order left right)), tt))
  bytes_fit (CallLibrary Memcpy) types operands fits values =
      three_operands (λ ts xs. ByteFits (CallLibrary Memcpy) xs) ty kind.Controlling kind.Controlling kind.Controlling types operands fits values
      (λ t u v x y z second third y_is z_is. library_fit Memcpy x y z)
  bytes_fit (CallLibrary Memmove) types operands fits values =
      three_operands (λ ts xs. ByteFits (CallLibrary Memmove) xs) ty kind.Controlling kind.Controlling kind.Controlling types operands fits values
      (λ t u v x y z second third y_is z_is. library_fit Memmove x y z)
  bytes_fit (CallLibrary Memset) types operands fits values =
      three_operands (λ ts xs. ByteFits (CallLibrary Memset) xs) ty kind.Controlling (kind.Exactly (type.Lane lane.I8)) kind.Controlling types operands fits values
      (λ t u v x y z second third y_is z_is. library_fit Memset x y z)
  bytes_fit (CallLibrary Memcmp) types operands fits values =
      three_operands (λ ts xs. ByteFits (CallLibrary Memcmp) xs) ty kind.Controlling kind.Controlling kind.Controlling types operands fits values
      (λ t u v x y z second third y_is z_is. library_fit Memcmp x y z)

-- ACCESSES --------------------------------------------------------------------------------------------------------------

-- the parts of what an access claims
claimed_inside : (world : World) (aligned : Bool) (inside multiple : _) → AllByRecursion (Holds world) (claims_if true inside ++ claims_if aligned multiple) → Holds world inside
claimed_inside world aligned inside multiple claims = claims.0

claimed_aligned : (world : World) (notrap : Bool) (inside multiple : _) → AllByRecursion (Holds world) (claims_if notrap inside ++ claims_if true multiple) → Holds world multiple
claimed_aligned world true inside multiple claims = claims.1.0
claimed_aligned world false inside multiple claims = claims.0

access_by : (world : World) (range : Range) (outcome : Outcome) (results returns : List «Type») (notrap aligned is_multiple accessible : Bool)
    → (range.start % range.size == 0) ≡ is_multiple → are_accessible world range range.size ≡ accessible
    → AllByRecursion (Holds world) (claims_if notrap (Accessible range) ++ claims_if aligned (Aligned range.start range.size)) → FitsTypes results returns outcome
    → FitsTypes results returns (if aligned && not is_multiple then NoStep else (if accessible then outcome else (if notrap then NoStep else Traps HeapOutOfBounds)))
access_by world range outcome results returns notrap true false accessible multiple inside claims fits =
    let is : Holds world (Aligned range.start range.size) = claimed_aligned world notrap (Accessible range) (Aligned range.start range.size) claims in
    let none : range.start % range.size ≡ 0 = subst (λ (n : ℕ). range.start % n ≡ 0) (sym is.1) is.2 in
    let same : true ≡ false = sym (eq-eqb (range.start % range.size) 0 none) ∙ multiple in
    let no_way : ⊥ = cc in absurd no_way
access_by world range outcome results returns notrap true true true multiple inside claims fits = fits
access_by world range outcome results returns notrap false is_multiple true multiple inside claims fits = fits
access_by world range outcome results returns false true true false multiple inside claims fits = tt
access_by world range outcome results returns false false is_multiple false multiple inside claims fits = tt
access_by world range outcome results returns true true true false multiple inside claims fits =
    let each : Holds world (Accessible range) = claimed_inside world true (Accessible range) (Aligned range.start range.size) claims in
    let same : true ≡ false = sym (each_accessible world range range.size each) ∙ inside in
    let no_way : ⊥ = cc in absurd no_way
access_by world range outcome results returns true false is_multiple false multiple inside claims fits =
    let each : Holds world (Accessible range) = claimed_inside world false (Accessible range) (Aligned range.start range.size) claims in
    let same : true ≡ false = sym (each_accessible world range range.size each) ∙ inside in
    let no_way : ⊥ = cc in absurd no_way

-- an access whose claims are true fits if what it does fits
access_fits : (world : World) (flags : MemFlagsShape) (range : Range) (outcome : Outcome) (results returns : List «Type»)
    → AllByRecursion (Holds world) (access_claims flags range) → FitsTypes results returns outcome → FitsTypes results returns (access_outcome world flags range outcome)
access_fits world flags range outcome results returns claims fits =
    access_by world range outcome results returns flags.notrap flags.aligned (range.start % range.size == 0) (are_accessible world range range.size) refl refl claims fits

-- THE TABLE -------------------------------------------------------------------------------------------------------------

-- an outcome fits, if the claims are true
abbrev Fits : World → Operation → «Type» → List «Type» → Memory → List «Type» → List Bits → Type 0
Fits world operation ty returns memory types operands =
    AllByRecursion (Holds world) (claims_of world operation ty types operands)
    → FitsTypes (result_types operation ty) returns (outcome_of world operation ty types operands memory)

pub outcomes_fit : OutcomesFit
outcomes_fit world (Compute (Iconst number)) ty returns types operands memory outside at fits values =
    no_operand (Fits world (Compute (Iconst number)) ty returns memory) ty types operands fits values (λ claims. (constant_fits (bits_of ty) number, tt))
outcomes_fit world (Compute (FloatConst F16const bits)) ty returns types operands memory outside at fits values =
    no_operand (Fits world (Compute (FloatConst F16const bits)) ty returns memory) ty types operands fits values (λ claims. (mod-lt bits (pow_pos 16), tt))
outcomes_fit world (Compute (FloatConst F32const bits)) ty returns types operands memory outside at fits values =
    no_operand (Fits world (Compute (FloatConst F32const bits)) ty returns memory) ty types operands fits values (λ claims. (mod-lt bits (pow_pos 32), tt))
outcomes_fit world (Compute (FloatConst F64const bits)) ty returns types operands memory outside at fits values =
    no_operand (Fits world (Compute (FloatConst F64const bits)) ty returns memory) ty types operands fits values (λ claims. (mod-lt bits (pow_pos 64), tt))
outcomes_fit world (Compute (PooledConst F128const bytes)) ty returns types operands memory outside at fits values =
    no_operand (Fits world (Compute (PooledConst F128const bytes)) ty returns memory) ty types operands fits values (λ claims. (mod-lt (value_of_bytes bytes) (pow_pos 128), tt))
outcomes_fit world (Compute (PooledConst Vconst bytes)) ty returns types operands memory outside at fits values =
    no_operand (Fits world (Compute (PooledConst Vconst bytes)) ty returns memory) ty types operands fits values (λ claims. (low_fits ty (value_of_bytes bytes), tt))
outcomes_fit world (Compute (Unary opcode)) ty returns types operands memory outside at fits values =
    one_operand (Fits world (Compute (Unary opcode)) ty returns memory) ty kind.Controlling types operands fits values
    (λ t x is_kind is_value claims. (low_fits ty (unary_number opcode (bits_of ty) x), tt))
outcomes_fit world (Compute (Binary opcode)) ty returns types operands memory outside at fits values =
    two_operands (Fits world (Compute (Binary opcode)) ty returns memory) ty kind.Controlling (binary_second opcode) types operands fits values
    (λ t u x y first second x_is y_is claims. fits_unless ty returns memory (binary_fault opcode (bits_of ty) x y) (low_bits_at ty (binary_number opcode (bits_of ty) x y))
    (low_fits ty (binary_number opcode (bits_of ty) x y)))
outcomes_fit world (Compute (Compare condition)) ty returns types operands memory outside at fits values =
    two_operands (Fits world (Compute (Compare condition)) ty returns memory) ty kind.Controlling kind.Controlling types operands fits values
    (λ t u x y first second x_is y_is claims. (bit_fits (compares condition (bits_of ty) x y), tt))
outcomes_fit world (Compute Concat) ty returns types operands memory outside at fits values =
    two_operands (Fits world (Compute Concat) ty returns memory) ty kind.Controlling kind.Controlling types operands fits values
    (λ t u x y first second x_is y_is claims. (low_fits (double_of ty) (x + 2 ^ bits_of ty * y), tt))
outcomes_fit world (Compute Split) ty returns types operands memory outside at fits values =
    one_operand (Fits world (Compute Split) ty returns memory) ty kind.Controlling types operands fits values
    (λ t x is_kind is_value claims. (low_fits (half_of ty) x, (low_fits (half_of ty) (x / 2 ^ bits_of (half_of ty)), tt)))
outcomes_fit world (Compute (Convert opcode)) ty returns types operands memory outside at fits values =
    one_operand (Fits world (Compute (Convert opcode)) ty returns memory) ty (convert_operand opcode) types operands fits values
    (λ t x is_kind is_value claims. (low_fits ty (converted_number opcode t ty x), tt))
outcomes_fit world (Compute Select) ty returns types operands memory outside at fits values =
    three_operands (Fits world (Compute Select) ty returns memory) ty kind.AnInteger kind.Controlling kind.Controlling types operands fits values
    (λ t u v x y z second third y_is z_is claims. (either_fits ty (x == 0) y z (subst (λ (s : «Type»). IsValue s y) second y_is) (subst (λ (s : «Type»). IsValue s z) third z_is), tt))
outcomes_fit world (Compute (AddConstant number)) ty returns types operands memory outside at fits values =
    one_operand (Fits world (Compute (AddConstant number)) ty returns memory) ty kind.Controlling types operands fits values
    (λ t x is_kind is_value claims. (low_fits ty (x + wrapped (bits_of ty) number), tt))
outcomes_fit world (Compute (CompareConstant condition number)) ty returns types operands memory outside at fits values =
    one_operand (Fits world (Compute (CompareConstant condition number)) ty returns memory) ty kind.Controlling types operands fits values
    (λ t x is_kind is_value claims. (bit_fits (compares condition (bits_of ty) x (wrapped (bits_of ty) number)), tt))
outcomes_fit world (Load flags offset) ty returns types operands memory outside at fits values =
    one_operand (Fits world (Load flags offset) ty returns memory) ty kind.Address types operands fits values
    (λ t x is_kind is_value claims.
    let range : Range = accessed ty t x offset in
    access_fits world flags range (Gives (low_bits_at ty (value_of_bytes (bytes_in memory range)) ∷ []) memory) (ty ∷ []) returns claims
    (low_fits ty (value_of_bytes (bytes_in memory range)), tt))
outcomes_fit world (Store flags offset) ty returns types operands memory outside at fits values =
    two_operands (Fits world (Store flags offset) ty returns memory) ty kind.Controlling kind.Address types operands fits values
    (λ t u x y first second x_is y_is claims.
    let range : Range = accessed ty u y offset in
    access_fits world flags range (Gives [] (written memory range (value_bytes range.size x))) [] returns claims tt)
outcomes_fit world (Stack StackAddr slot offset) ty returns types operands memory outside at fits values =
    no_operand (Fits world (Stack StackAddr slot offset) ty returns memory) ty types operands fits values (λ claims. (low_fits ty (slot_address world slot offset), tt))
outcomes_fit world (Stack StackLoad slot offset) ty returns types operands memory outside at fits values =
    no_operand (Fits world (Stack StackLoad slot offset) ty returns memory) ty types operands fits values
    (λ claims.
    let range : Range = slot_accessed world ty slot offset in
    access_fits world no_claim range (Gives (low_bits_at ty (value_of_bytes (bytes_in memory range)) ∷ []) memory) (ty ∷ []) returns tt
    (low_fits ty (value_of_bytes (bytes_in memory range)), tt))
outcomes_fit world (StackStore slot offset) ty returns types operands memory outside at fits values =
    one_operand (Fits world (StackStore slot offset) ty returns memory) ty kind.Controlling types operands fits values
    (λ t x is_kind is_value claims.
    let range : Range = slot_accessed world ty slot offset in
    access_fits world no_claim range (Gives [] (written memory range (value_bytes range.size x))) [] returns tt tt)
outcomes_fit world (Trap reason) ty returns types operands memory outside at fits values =
    no_operand (Fits world (Trap reason) ty returns memory) ty types operands fits values (λ claims. tt)
outcomes_fit world (CondTrap opcode reason) ty returns types operands memory outside at fits values =
    one_operand (Fits world (CondTrap opcode reason) ty returns memory) ty kind.Controlling types operands fits values
    (λ t x is_kind is_value claims. trap_fits (traps_on opcode x) reason returns memory)
outcomes_fit world Jump ty returns types operands memory outside at fits values =
    no_operand (Fits world Jump ty returns memory) ty types operands fits values (λ claims. tt)
outcomes_fit world Brif ty returns types operands memory outside at fits values =
    one_operand (Fits world Brif ty returns memory) ty kind.Controlling types operands fits values (λ t x is_kind is_value claims. tt)
outcomes_fit world (BrTable entries) ty returns types operands memory outside at fits values =
    one_operand (Fits world (BrTable entries) ty returns memory) ty (kind.Exactly (type.Lane lane.I32)) types operands fits values (λ t x is_kind is_value claims. tt)
outcomes_fit world (Switch keys) ty returns types operands memory outside at fits values =
    one_operand (Fits world (Switch keys) ty returns memory) ty kind.Controlling types operands fits values (λ t x is_kind is_value claims. tt)
outcomes_fit world (Bytes operation) ty returns types operands memory outside at fits values =
    bytes_fit world ty returns memory operation types operands fits values
outcomes_fit world Return ty returns types operands memory outside at fits values =
    λ claims. subst (λ (ts : List «Type»). AreValues ts operands) fits values
outcomes_fit world (Call name signature) ty returns types operands memory outside at fits values =
    λ claims. named_fits world Gives (types_of signature.returns) returns name (plain_call signature) types operands memory outside fits.1 values claims
    (λ bits after fit. fit)
outcomes_fit world (CallIndirect signature) ty returns types operands memory outside at fits values =
    with_address (Fits world (CallIndirect signature) ty returns memory) ty types operands fits.0 values (λ t x more bits claims. tt)
outcomes_fit world (TryCall name call) ty returns types operands memory outside at fits values =
    λ claims. named_fits world (Goes 0) [] returns name call types operands memory outside fits.1 values claims (λ bits after fit. tt)
outcomes_fit world (TryCallIndirect call) ty returns types operands memory outside at fits values =
    with_address (Fits world (TryCallIndirect call) ty returns memory) ty types operands fits.0 values (λ t x more bits claims. tt)
