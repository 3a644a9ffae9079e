-- Sums with a constant and comparisons with one: the code that a front end's methods `iadd_imm_s` and `icmp_imm_s` append, and
-- what it computes. The constant is a number of 64 bits; it is cut to the operand's type, or its sign is repeated. From the
-- documentation of Cranelift's `InstBuilder`, as are the names.
use Rattle.std.specs.Prelude.{◌≡◌, ◌≢◌, ◌<◌, ◌+◌, ◌^◌, ℕ, suc, ℤ, pos, negsuc, if◌then◌else◌, List, [], ◌∷◌, ◌++◌, IsTrue}
use Rattle.clif_opcodes.specs.declared.opcodes.BinaryOpcode.TheVariants.{Iadd}
use Rattle.clif_opcodes.specs.declared.opcodes.ConvertOpcode.TheVariants.{Sextend}
use Rattle.clif_types.specs.declared.condcodes.IntCC.{IntCC}
use Rattle.clif_types.specs.declared.condcodes.IntCC.TheVariants as cc
use Rattle.clif_types.specs.declared.types.LaneType.TheVariants as lane
use Rattle.clif_types.specs.declared.types.«Type».{«Type»}
use Rattle.clif_types.specs.declared.types.«Type».TheVariants as type
use Rattle.clif_types.specs.Types.{bits_of, is_int}
use Rattle.clif_meaning.specs.Bits.{Bits, wrapped}
use Rattle.clif_meaning.specs.Instruction.{AddConstant, Arithmetic, Iconst, Binary, Compare, CompareConstant, Convert, Compute, Instruction}
use Rattle.clif_meaning.specs.Memory.{Memory}
use Rattle.clif_meaning.specs.Name.{Name, same_name}
use Rattle.clif_meaning.specs.Outcome.{Values, compares, computed, low_bits_at}
use Rattle.clif_meaning.specs.Program.{Item, Instruct}
use Rattle.clif_meaning.specs.Store.{assigned}
use Rattle.clif_meaning.specs.World.{World}
use Rattle.clif_expansion.specs.Code.{NameTypes, Performs}
use Rattle.clif_expansion.specs.Line.{RunsTo}
use Rattle.clif_expansion.specs.Reading.{Generated, IsReadAs, Reading}

-- WHAT CODE YIELDS --------------------------------------------------------------------------------------------------------

-- From these names the code runs, touching no memory, to where beside generated names only the names `given` changed, which have
-- these values.
pub record YieldsIn (world : World) (reading : Reading) (types : Name → «Type») (code : List Item) (given : List Name) (values : List Bits) (names : Name → Bits) (memory : Memory) : Type 0 where
  pub after : Name → Bits
  pub runs : RunsTo world types [] code (record { names = names; memory = memory }) (record { names = after; memory = memory })
  pub kept : (x : Name) → reading x ≢ Generated → after x ≡ assigned same_name given values names x

-- It does so in every world, from all names and all memory, by a function of the names.
abbrev pub Yields : Reading → (Name → «Type») → List Item → List Name → ((Name → Bits) → List Bits) → Type 0
Yields reading types code given values =
    (world : World) (names : Name → Bits) (memory : Memory) → YieldsIn world reading types code given (values names) names memory

-- CONSTANTS ---------------------------------------------------------------------------------------------------------------

-- the number has 64 bits, one of them its sign
abbrev pub Has64Bits : ℤ → Type 0
Has64Bits (pos n) = n < 2 ^ 63
Has64Bits (negsuc n) = n < 2 ^ 63

abbrev pub i64 : «Type»
i64 = type.Lane lane.I64

-- an instruction that computes, at a type
abbrev pub computing : Arithmetic → «Type» → List Name → Instruction Name Name
computing arithmetic ty operands = record { operation = Compute arithmetic; controlling = ty; operands = operands; contexts = []; edges = [] }

-- The constant of a type. There is none of 128 bits: one of 64 bits has its sign repeated.
abbrev pub constant_code : «Type» → ℤ → (place : ℕ) (narrow constant : Name) → List Item
constant_code (type.Lane lane.I128) number place narrow constant =
    Instruct place (computing (Iconst number) i64 []) (narrow ∷ [])
    ∷ Instruct (suc place) (computing (Convert Sextend) (type.Lane lane.I128) (narrow ∷ [])) (constant ∷ []) ∷ []
constant_code ty number place narrow constant = Instruct place (computing (Iconst number) ty []) (constant ∷ []) ∷ []

-- the place behind the constant
abbrev pub place_behind : «Type» → (place : ℕ) → ℕ
place_behind (type.Lane lane.I128) place = suc (suc place)
place_behind ty place = suc place

-- the constant, and then arithmetic on a name and it
abbrev pub with_constant : Arithmetic → «Type» → ℤ → (place : ℕ) (narrow constant x result : Name) → List Item
with_constant arithmetic ty number place narrow constant x result =
    constant_code ty number place narrow constant ++ Instruct (place_behind ty place) (computing arithmetic ty (x ∷ constant ∷ [])) (result ∷ []) ∷ []

-- The narrow constant, where there is one, is generated and has 64 bits.
abbrev pub NamesNarrow : «Type» → Reading → (Name → «Type») → Name → Type 0
NamesNarrow (type.Lane lane.I128) reading types narrow = (reading narrow ≡ Generated) × (types narrow ≡ i64)
NamesNarrow ty reading types narrow = Unit {0}

-- The names of a constant of a type are generated.
pub record NamesConstant (ty : «Type») (reading : Reading) (types : Name → «Type») (narrow constant : Name) : Type 0 where
  pub narrow_named : NamesNarrow ty reading types narrow
  pub constant_generated : reading constant ≡ Generated

-- What is computed with a constant: the sum's low bits, or 1 if the condition holds of the name and the constant and else 0.
pub record ConstantsAreOperands : Type 0 where
  pub adds : (reading : Reading) (types : Name → «Type») (ty : «Type») (number : ℤ) (place : ℕ) (narrow constant x result : Name)
      → IsTrue (is_int ty) → Has64Bits number → NamesConstant ty reading types narrow constant → reading x ≢ Generated
      → Yields reading types (with_constant (Binary Iadd) ty number place narrow constant x result) (result ∷ [])
      (λ names. low_bits_at ty (names x + wrapped (bits_of ty) number) ∷ [])
  pub compares : (reading : Reading) (types : Name → «Type») (condition : IntCC) (ty : «Type») (number : ℤ) (place : ℕ) (narrow constant x result : Name)
      → IsTrue (is_int ty) → Has64Bits number → NamesConstant ty reading types narrow constant → reading x ≢ Generated
      → Yields reading types (with_constant (Compare condition) ty number place narrow constant x result) (result ∷ [])
      (λ names. (if compares condition (bits_of ty) (names x) (wrapped (bits_of ty) number) then 1 else 0) ∷ [])

-- Such code performs the script's one instruction.
pub record ConstantsArePerformed : Type 0 where
  pub adds : (pointer_width : ℕ) (reading : Reading) (types : NameTypes) (ty : «Type») (number : ℤ) (place : ℕ) (narrow constant plain given x result : Name)
      → IsTrue (is_int ty) → Has64Bits number → NamesConstant ty reading types.plain narrow constant → IsReadAs reading plain x → IsReadAs reading given result
      → Performs pointer_width reading types (with_constant (Binary Iadd) ty number place narrow constant plain given) (computing (AddConstant number) ty (x ∷ [])) (result ∷ [])
  pub compares : (pointer_width : ℕ) (reading : Reading) (types : NameTypes) (condition : IntCC) (ty : «Type») (number : ℤ) (place : ℕ) (narrow constant plain given x result : Name)
      → IsTrue (is_int ty) → Has64Bits number → NamesConstant ty reading types.plain narrow constant → IsReadAs reading plain x → IsReadAs reading given result
      → Performs pointer_width reading types (with_constant (Compare condition) ty number place narrow constant plain given) (computing (CompareConstant condition number) ty (x ∷ [])) (result ∷ [])

-- Worked out: 200 and -100 are 100 at 8 bits, and -1 is less than 0 at 128 bits, as a signed number.
pub record ConstantExamples : Type 0 where
  pub sum : computed (AddConstant (negsuc 99)) (type.Lane lane.I8) (type.Lane lane.I8 ∷ []) (200 ∷ []) ≡ Values (100 ∷ [])
  pub less : computed (CompareConstant cc.SignedLessThan (pos 0)) (type.Lane lane.I128) (type.Lane lane.I128 ∷ []) (340282366920938463463374607431768211455 ∷ []) ≡ Values (1 ∷ [])
  -- the sign of a constant of 64 bits is repeated in 128 bits
  pub equal : computed (CompareConstant cc.Equal (negsuc 0)) (type.Lane lane.I128) (type.Lane lane.I128 ∷ []) (340282366920938463463374607431768211455 ∷ []) ≡ Values (1 ∷ [])
  -- what has no sign of 64 bits is no constant
  pub too_wide : Has64Bits (pos 9223372036854775808) → ⊥
