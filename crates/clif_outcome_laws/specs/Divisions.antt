-- Division and remainder against the integers. After the documentation of Cranelift's instructions.
use Rattle.std.specs.Prelude.{◌≡◌, ◌+◌, ◌*◌, ◌^◌, ◌%◌, ◌<◌, ◌≤◌, ◌<ℤ◌, ◌+ℤ◌, ◌*ℤ◌, ◌⊎◌, ◌↔◌, nat_abs, ℕ, ℤ, pos, None}
use Rattle.clif_opcodes.specs.declared.opcodes.BinaryOpcode.{BinaryOpcode}
use Rattle.clif_opcodes.specs.declared.opcodes.BinaryOpcode.TheVariants.{Udiv, Sdiv, Urem, Srem}
use Rattle.clif_meaning.specs.Bits.{Bits, HasWidth}
use Rattle.clif_meaning.specs.Outcome.{binary_fault, binary_number}
use Rattle.clif_outcome_laws.specs.Integers.{signed_number}

-- Division rounded toward zero: the remainder is what is left, it is smaller in magnitude than the divisor, and unless it
-- is zero it has the sign of the dividend.
pub record IsDivided (dividend divisor quotient remainder : ℤ) : Type 0 where
  pub sum : quotient *ℤ divisor +ℤ remainder ≡ dividend
  pub small : nat_abs remainder < nat_abs divisor
  pub sign : (remainder ≡ pos 0) ⊎ ((remainder <ℤ pos 0) ↔ (dividend <ℤ pos 0))

-- the signed number of an instruction's result
abbrev pub signed_result : BinaryOpcode → ℕ → Bits → Bits → ℤ
signed_result opcode width x y = signed_number width (binary_number opcode width x y % 2 ^ width)

-- `sdiv` and `srem` are the quotient and the remainder of the signed numbers, where `sdiv` has no fault; `udiv` and `urem`
-- those of the unsigned ones, where the divisor isn't zero.
pub record SignedDivisionIsMathematical : Type 0 where
  pub signed : (width : ℕ) (x y : Bits) → 1 ≤ width → HasWidth width x → HasWidth width y → binary_fault Sdiv width x y ≡ None
      → IsDivided (signed_number width x) (signed_number width y) (signed_result Sdiv width x y) (signed_result Srem width x y)
  pub unsigned : (width : ℕ) (x y : Bits) → binary_fault Udiv width x y ≡ None
      → (binary_number Udiv width x y * y + binary_number Urem width x y ≡ x) × (binary_number Urem width x y < y)
