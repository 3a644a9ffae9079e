-- The conditions of `icmp` against the order of integers. After the documentation of Cranelift's `IntCC`.
use Rattle.std.specs.Prelude.{◌≡◌, ◌≢◌, ◌<◌, ◌≤◌, ◌<ℤ◌, ◌≤ℤ◌, ◌↔◌, ℕ, true}
use Rattle.clif_types.specs.declared.condcodes.IntCC.{IntCC}
use Rattle.clif_types.specs.declared.condcodes.IntCC.TheVariants as cc
use Rattle.clif_meaning.specs.Bits.{Bits, HasWidth}
use Rattle.clif_meaning.specs.Outcome.{compares}
use Rattle.clif_outcome_laws.specs.Integers.{signed_number}

-- what a condition says of two integers: of their bits, of their signed numbers, or of their unsigned ones
abbrev pub Compares : IntCC → ℕ → Bits → Bits → Type 0
Compares cc.Equal width x y = x ≡ y
Compares cc.NotEqual width x y = x ≢ y
Compares cc.SignedLessThan width x y = signed_number width x <ℤ signed_number width y
Compares cc.SignedGreaterThanOrEqual width x y = signed_number width y ≤ℤ signed_number width x
Compares cc.SignedGreaterThan width x y = signed_number width y <ℤ signed_number width x
Compares cc.SignedLessThanOrEqual width x y = signed_number width x ≤ℤ signed_number width y
Compares cc.UnsignedLessThan width x y = x < y
Compares cc.UnsignedGreaterThanOrEqual width x y = y ≤ x
Compares cc.UnsignedGreaterThan width x y = y < x
Compares cc.UnsignedLessThanOrEqual width x y = x ≤ y

-- At each width a condition holds exactly if what it says is true, and two integers with one signed number are equal.
pub record SignedOrderIsMathematical : Type 0 where
  pub conditions : (condition : IntCC) (width : ℕ) (x y : Bits) → 1 ≤ width → HasWidth width x → HasWidth width y
      → (compares condition width x y ≡ true) ↔ Compares condition width x y
  pub one_number : (width : ℕ) (x y : Bits) → 1 ≤ width → HasWidth width x → HasWidth width y
      → signed_number width x ≡ signed_number width y → x ≡ y
