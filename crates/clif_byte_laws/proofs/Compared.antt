-- Comparisons of integers, and the order of bytes.
use Rattle.std.proofs.Common.{◌≡◌, ◌+◌, ◌*◌, ◌%◌, ◌^◌, ◌<◌, ◌≤◌, ◌==◌, ◌⊎◌, inl, inr, ℕ, List, [], ◌∷◌, length, Bool, true, false, not, refl, ◌∙◌, ap, arith, subst}
use Rattle.std.specs.Prelude.{nat_le, nat_lt, IsTrue}
use Rattle.std.specs.Ordering.{is_eq, is_ge, is_gt, is_le, is_lt, is_ne, nat_cmp, ordering_then}
use Rattle.std.specs.declared.cmp.Ordering.{Ordering}
use Rattle.std.specs.declared.cmp.Ordering.TheVariants.{Less, Equal, Greater}
use Rattle.std.proofs.lemmas.Bool.{cases_order, eq-eqb, eqb-false, eqb-true, le-leb, le-ltb, lt-leb, lt-ltb, ne_eqb}
use Rattle.clif_types.specs.declared.condcodes.IntCC.{IntCC}
use Rattle.clif_types.specs.declared.condcodes.IntCC.TheVariants as cc
use Rattle.clif_meaning.specs.Bits.{AreBytes, Bits, value_of_bytes}
use Rattle.clif_meaning.specs.ByteOperation.{is_unsigned, order_meets}
use Rattle.clif_meaning.specs.Memory.{byte_order}
use Rattle.clif_meaning.specs.Outcome.{compares, signed_place}
use Rattle.clif_meaning.specs.World.{HasSignOf}
use Rattle.clif_byte_laws.specs.Comparing.{ComparisonsAgree, sign_condition}

-- ONE PAIR OF NUMBERS -----------------------------------------------------------------------------------------------------

-- all that is told of the order of two numbers
record Stand (a b : ℕ) (order : Ordering) : Type 0 where
  less : nat_lt a b ≡ is_lt order
  greater : nat_lt b a ≡ is_gt order
  no_more : nat_le a b ≡ is_le order
  no_less : nat_le b a ≡ is_ge order
  same : (a == b) ≡ is_eq order
  other : not (a == b) ≡ is_ne order

below : (a b : ℕ) → a < b → Stand a b Less
below a b is =
    let differ : (a == b) ≡ false = ne_eqb a b (λ e. omega arith) in
    record {
      less = lt-ltb a b is;
      greater = le-ltb b a (omega arith);
      no_more = le-leb a b (omega arith);
      no_less = lt-leb b a is;
      same = differ;
      other = rw differ refl;
    }

above : (a b : ℕ) → b < a → Stand a b Greater
above a b is =
    let differ : (a == b) ≡ false = ne_eqb a b (λ e. omega arith) in
    record {
      less = le-ltb a b (omega arith);
      greater = lt-ltb b a is;
      no_more = lt-leb a b is;
      no_less = le-leb b a (omega arith);
      same = differ;
      other = rw differ refl;
    }

level : (a b : ℕ) → a ≡ b → Stand a b Equal
level a b is =
    let agree : (a == b) ≡ true = eq-eqb a b is in
    record {
      less = le-ltb a b (omega arith);
      greater = le-ltb b a (omega arith);
      no_more = le-leb a b (omega arith);
      no_less = le-leb b a (omega arith);
      same = agree;
      other = rw agree refl;
    }

-- the order of two numbers, and of one byte each
compared : (a b : ℕ) → Stand a b (ordering_then (nat_cmp a b) Equal)
compared a b = by (cases_order a b)
  where
    by : (a ≡ b) ⊎ ((a < b) ⊎ (b < a)) → Stand a b (ordering_then (nat_cmp a b) Equal)
    by (inl same) = let stand = level a b same in rw (stand.less, stand.same) stand
    by (inr (inl less)) = let stand = below a b less in rw stand.less stand
    by (inr (inr greater)) = let stand = above a b greater in rw (stand.less, stand.same) stand

-- conditions of unsigned numbers agree
unsigned_agree : (condition : IntCC) (width a b : ℕ) (order : Ordering) → IsTrue (is_unsigned condition) → Stand a b order → compares condition width a b ≡ order_meets condition order
unsigned_agree cc.Equal width a b order is stand = stand.same
unsigned_agree cc.NotEqual width a b order is stand = stand.other
unsigned_agree cc.SignedLessThan width a b order is stand = cc
unsigned_agree cc.SignedGreaterThanOrEqual width a b order is stand = cc
unsigned_agree cc.SignedGreaterThan width a b order is stand = cc
unsigned_agree cc.SignedLessThanOrEqual width a b order is stand = cc
unsigned_agree cc.UnsignedLessThan width a b order is stand = stand.less
unsigned_agree cc.UnsignedGreaterThanOrEqual width a b order is stand = stand.no_less
unsigned_agree cc.UnsignedGreaterThan width a b order is stand = stand.greater
unsigned_agree cc.UnsignedLessThanOrEqual width a b order is stand = stand.no_more

one_byte : (condition : IntCC) (width left right : ℕ) → IsTrue (is_unsigned condition)
    → compares condition width (value_of_bytes (left ∷ [])) (value_of_bytes (right ∷ [])) ≡ order_meets condition (byte_order (left ∷ []) (right ∷ []))
one_byte condition width left right is =
    ap (λ (n : ℕ). compares condition width n (value_of_bytes (right ∷ []))) (alone left)
    ∙ ap (λ (n : ℕ). compares condition width left n) (alone right)
    ∙ unsigned_agree condition width left right (byte_order (left ∷ []) (right ∷ [])) is (compared left right)
  where
    alone : (n : ℕ) → n + 256 * 0 ≡ n
    alone n = omega arith

-- LISTS OF BYTES ----------------------------------------------------------------------------------------------------------

-- two integers are equal if their lowest bytes are and what stands above them is
split_equal : (a b x y : ℕ) (rest : Ordering) → a < 256 → b < 256 → (x == y) ≡ is_eq rest
    → (a + 256 * x == b + 256 * y) ≡ is_eq (ordering_then (nat_cmp a b) rest)
split_equal a b x y rest a_is b_is above_are = by (cases_order a b)
  where
    by : (a ≡ b) ⊎ ((a < b) ⊎ (b < a)) → (a + 256 * x == b + 256 * y) ≡ is_eq (ordering_then (nat_cmp a b) rest)
    by (inl same) =
        let stand = level a b same in
        rw (stand.less, stand.same) (high (x == y) refl ∙ above_are)
      where
        high : (alike : Bool) → (x == y) ≡ alike → (a + 256 * x == b + 256 * y) ≡ alike
        high true is = eq-eqb (a + 256 * x) (b + 256 * y) (let equal : x ≡ y = eqb-true x y is in omega arith)
        high false is = ne_eqb (a + 256 * x) (b + 256 * y) (λ e. eqb-false x y is (omega arith))
    by (inr (inl less)) = let stand = below a b less in rw stand.less (ne_eqb (a + 256 * x) (b + 256 * y) (λ e. omega arith))
    by (inr (inr greater)) = let stand = above a b greater in rw (stand.less, stand.same) (ne_eqb (a + 256 * x) (b + 256 * y) (λ e. omega arith))

lists_equal : (left right : List ℕ) → AreBytes left → AreBytes right → length left ≡ length right → (value_of_bytes left == value_of_bytes right) ≡ is_eq (byte_order left right)
lists_equal [] [] left_are right_are long = refl
lists_equal [] (b ∷ right) left_are right_are long = absurd (omega arith)
lists_equal (a ∷ left) [] left_are right_are long = absurd (omega arith)
lists_equal (a ∷ left) (b ∷ right) left_are right_are long =
    split_equal a b (value_of_bytes left) (value_of_bytes right) (byte_order left right) left_are.0 right_are.0
    (lists_equal left right left_are.1 right_are.1 (omega arith))

-- THE SIGN OF A NUMBER ----------------------------------------------------------------------------------------------------

-- where a number with the sign of an order stands beside zero, among the signed numbers
beside_zero : (order : Ordering) (number : Bits) → HasSignOf order number → Stand (signed_place 32 number) (signed_place 32 0) order
beside_zero Less number sign = below (signed_place 32 number) (signed_place 32 0) (by number sign.0 sign.1)
  where
    by : (number : ℕ) → 2 ^ 31 ≤ number → number < 2 ^ 32 → (number + 2 ^ 31) % 2 ^ 32 < 2 ^ 31
    by number enough small = omega arith
beside_zero Equal number sign = level (signed_place 32 number) (signed_place 32 0) (ap (λ (n : ℕ). signed_place 32 n) sign)
beside_zero Greater number sign = above (signed_place 32 number) (signed_place 32 0) (by number sign.0 sign.1)
  where
    by : (number : ℕ) → 0 < number → number < 2 ^ 31 → 2 ^ 31 < (number + 2 ^ 31) % 2 ^ 32
    by number some small = omega arith

-- whether it is zero
is_zero : (order : Ordering) (number : Bits) → HasSignOf order number → (number == 0) ≡ is_eq order
is_zero Less number sign = ne_eqb number 0 (λ e. let no_way : 2 ^ 31 ≤ 0 = subst (λ (n : ℕ). 2 ^ 31 ≤ n) e sign.0 in omega arith)
is_zero Equal number sign = eq-eqb number 0 sign
is_zero Greater number sign = ne_eqb number 0 (λ e. let no_way : 0 < 0 = subst (λ (n : ℕ). 0 < n) e sign.0 in omega arith)

negated : (order : Ordering) → not (is_eq order) ≡ is_ne order
negated Less = refl
negated Equal = refl
negated Greater = refl

by_sign : (condition : IntCC) (order : Ordering) (number : Bits) → IsTrue (is_unsigned condition) → HasSignOf order number
    → compares (sign_condition condition) 32 number 0 ≡ order_meets condition order
by_sign cc.Equal order number is sign = is_zero order number sign
by_sign cc.NotEqual order number is sign = ap not (is_zero order number sign) ∙ negated order
by_sign cc.SignedLessThan order number is sign = cc
by_sign cc.SignedGreaterThanOrEqual order number is sign = cc
by_sign cc.SignedGreaterThan order number is sign = cc
by_sign cc.SignedLessThanOrEqual order number is sign = cc
by_sign cc.UnsignedLessThan order number is sign = (beside_zero order number sign).less
by_sign cc.UnsignedGreaterThanOrEqual order number is sign = (beside_zero order number sign).no_less
by_sign cc.UnsignedGreaterThan order number is sign = (beside_zero order number sign).greater
by_sign cc.UnsignedLessThanOrEqual order number is sign = (beside_zero order number sign).no_more

pub comparisons_agree : ComparisonsAgree
comparisons_agree = record {
  equal = λ width. lists_equal;
  unequal = λ width left right left_are right_are long. ap not (lists_equal left right left_are right_are long) ∙ negated (byte_order left right);
  one_byte = one_byte;
  by_sign = by_sign;
}
