-- The instructions of integers against mathematics: the signed number that bits mean, and what `iconcat` and the
-- conversions do to numbers. After the documentation of Cranelift's instructions.
use Rattle.std.specs.Prelude.{◌≡◌, ℕ, ◌-◌, ◌%◌, ◌/◌, ◌^◌, ◌≤◌, if◌then◌else◌, List, [], ◌∷◌, IsTrue, ℤ, pos, negsuc}
use Rattle.clif_types.specs.declared.types.«Type».{«Type»}
use Rattle.clif_types.specs.Types.{bits_of}
use Rattle.clif_opcodes.specs.declared.opcodes.ConvertOpcode.TheVariants.{Uextend, Sextend, Ireduce}
use Rattle.clif_opcodes.specs.declared.kinds.Demand.TheVariants.{ADoubled, AHalved}
use Rattle.clif_opcodes.specs.declared.kinds.OperandKind.TheVariants.{Narrower, Wider}
use Rattle.clif_opcodes.specs.Kinds.{IsOfKind, double_of, half_of, is_met}
use Rattle.clif_meaning.specs.Bits.{Bits, HasWidth, IsValue, wrapped}
use Rattle.clif_meaning.specs.Instruction.{Arithmetic, Concat, Convert, Split}
use Rattle.clif_meaning.specs.Outcome.{Values, computed, is_negative}

-- the number that bits mean in two's complement
abbrev pub signed_number : ℕ → Bits → ℤ
signed_number width x = if is_negative width x then negsuc (2 ^ width - 1 - x) else pos x

-- arithmetic gives one value of the type, of which this holds
abbrev pub Yields : Arithmetic → (result ty : «Type») → (types : List «Type») → (operands : List Bits) → (Bits → Type 0) → Type 0
Yields arithmetic result ty types operands P =
    (y : Bits) × (computed arithmetic ty types operands ≡ Values (y ∷ [])) × IsValue result y × P y

-- The parts of an integer: its low half and its high half, each as wide as told.
abbrev pub HasHalves : ℕ → (low high whole : Bits) → Type 0
HasHalves width low high whole = (whole % 2 ^ width ≡ low) × (whole / 2 ^ width ≡ high)

-- `iconcat` gives the integer whose low half is its first operand and whose high half is its second.
abbrev pub HalvesAreParts : Type 0
HalvesAreParts =
    (ty : «Type») (types : List «Type») (low high : Bits) → IsTrue (is_met ADoubled ty) → IsValue ty low → IsValue ty high
    → Yields Concat (double_of ty) ty types (low ∷ high ∷ []) (HasHalves (bits_of ty) low high)

-- `isplit` gives the low half of an integer and its high half, of which `iconcat` gives the integer again.
abbrev pub PartsMakeWhole : Type 0
PartsMakeWhole =
    (ty : «Type») (types others : List «Type») (whole : Bits) → IsTrue (is_met AHalved ty) → IsValue ty whole
    → (low : Bits) × (high : Bits) × (computed Split ty types (whole ∷ []) ≡ Values (low ∷ high ∷ []))
    × IsValue (half_of ty) low × IsValue (half_of ty) high × HasHalves (bits_of (half_of ty)) low high whole
    × (computed Concat (half_of ty) others (low ∷ high ∷ []) ≡ Values (whole ∷ []))

-- Conversions between integers: `sextend` keeps the signed number, `uextend` the unsigned one, and `ireduce` takes the
-- unsigned number modulo 2 to the width. And the bits of a signed number are those that mean it.
pub record ConversionsKeepNumbers : Type 0 where
  pub sextend : (from to : «Type») (types : List «Type») (x : Bits) → IsOfKind to Narrower from → IsValue from x
      → Yields (Convert Sextend) to to (from ∷ types) (x ∷ []) (λ y. signed_number (bits_of to) y ≡ signed_number (bits_of from) x)
  pub uextend : (from to : «Type») (types : List «Type») (x : Bits) → IsOfKind to Narrower from → IsValue from x
      → Yields (Convert Uextend) to to (from ∷ types) (x ∷ []) (λ y. y ≡ x)
  pub ireduce : (from to : «Type») (types : List «Type») (x : Bits) → IsOfKind to Wider from → IsValue from x
      → Yields (Convert Ireduce) to to (from ∷ types) (x ∷ []) (λ y. y ≡ x % 2 ^ bits_of to)
  pub bits_mean : (width : ℕ) (x : Bits) → 1 ≤ width → HasWidth width x → wrapped width (signed_number width x) ≡ x
