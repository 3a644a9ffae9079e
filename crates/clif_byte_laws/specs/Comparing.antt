-- Comparisons of bytes: what decides whether a condition holds of the order of two lists of bytes, be it integers that are loaded
-- or the number that `Memcmp` answers. From the C standard's `memcmp` and the documentation of Cranelift's
-- `emit_small_memory_compare`.
use Rattle.std.specs.Prelude.{◌≡◌, ℕ, true, false, List, [], ◌∷◌, length, IsTrue}
use Rattle.std.specs.declared.cmp.Ordering.{Ordering}
use Rattle.clif_types.specs.declared.condcodes.IntCC.{IntCC}
use Rattle.clif_types.specs.declared.condcodes.IntCC.TheVariants as cc
use Rattle.clif_meaning.specs.Bits.{AreBytes, Bits, value_of_bytes}
use Rattle.clif_meaning.specs.ByteOperation.{is_unsigned, order_meets}
use Rattle.clif_meaning.specs.Memory.{byte_order}
use Rattle.clif_meaning.specs.Outcome.{compares}
use Rattle.clif_meaning.specs.World.{HasSignOf}

-- the condition that compares a number, which has the sign of the order, with zero
abbrev pub sign_condition : IntCC → IntCC
sign_condition cc.UnsignedLessThan = cc.SignedLessThan
sign_condition cc.UnsignedGreaterThanOrEqual = cc.SignedGreaterThanOrEqual
sign_condition cc.UnsignedGreaterThan = cc.SignedGreaterThan
sign_condition cc.UnsignedLessThanOrEqual = cc.SignedLessThanOrEqual
sign_condition condition = condition

-- Two lists of as many bytes are equal exactly if the integers that they make, lowest byte first, are; of one byte the integers
-- have the order of the bytes; and a number with the sign of the order meets the sign condition with zero exactly if the order
-- meets the condition.
pub record ComparisonsAgree : Type 0 where
  pub equal : (width : ℕ) (left right : List ℕ) → AreBytes left → AreBytes right → length left ≡ length right
      → compares cc.Equal width (value_of_bytes left) (value_of_bytes right) ≡ order_meets cc.Equal (byte_order left right)
  pub unequal : (width : ℕ) (left right : List ℕ) → AreBytes left → AreBytes right → length left ≡ length right
      → compares cc.NotEqual width (value_of_bytes left) (value_of_bytes right) ≡ order_meets cc.NotEqual (byte_order left right)
  pub one_byte : (condition : IntCC) (width left right : ℕ) → IsTrue (is_unsigned condition)
      → compares condition width (value_of_bytes (left ∷ [])) (value_of_bytes (right ∷ []))
      ≡ order_meets condition (byte_order (left ∷ []) (right ∷ []))
  pub by_sign : (condition : IntCC) (order : Ordering) (number : Bits) → IsTrue (is_unsigned condition) → HasSignOf order number
      → compares (sign_condition condition) 32 number 0 ≡ order_meets condition order

-- Worked out: of no bytes the six conditions are 1, 0, 0, 1, 0, 1, and the first bytes decide, not the greatest integer.
pub record ComparisonExamples : Type 0 where
  pub none_equal : order_meets cc.Equal (byte_order [] []) ≡ true
  pub none_unequal : order_meets cc.NotEqual (byte_order [] []) ≡ false
  pub none_less : order_meets cc.UnsignedLessThan (byte_order [] []) ≡ false
  pub none_greater_or_equal : order_meets cc.UnsignedGreaterThanOrEqual (byte_order [] []) ≡ true
  pub none_greater : order_meets cc.UnsignedGreaterThan (byte_order [] []) ≡ false
  pub none_less_or_equal : order_meets cc.UnsignedLessThanOrEqual (byte_order [] []) ≡ true
  pub first_decides : order_meets cc.UnsignedLessThan (byte_order (1 ∷ 255 ∷ []) (2 ∷ 0 ∷ [])) ≡ true
  pub integers_differ : compares cc.UnsignedLessThan 16 (value_of_bytes (1 ∷ 255 ∷ [])) (value_of_bytes (2 ∷ 0 ∷ [])) ≡ false
  pub high_bytes : order_meets cc.UnsignedLessThan (byte_order (0x7f ∷ []) (0x80 ∷ [])) ≡ true
