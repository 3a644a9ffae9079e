-- The constant of a fill, at each width.
use Rattle.std.proofs.Common.{◌≡◌, ◌-◌, ◌*◌, ◌/◌, ◌%◌, ◌^◌, ◌<◌, ◌≤◌, ◌⊎◌, inl, inr, ℕ, zero, suc, ℤ, pos, refl, sym, ◌∙◌, ap, arith, subst, w64, to_z, of_z}
use Rattle.std.specs.Prelude.{negsuc, ◌-ℤ◌}
use Rattle.std.proofs.Math.Nat.{mod-eq_of_lt}
use Rattle.std.proofs.lemmas.Bool.{cases_lt, le-ltb, lt-ltb}
use Rattle.std.proofs.lemmas.Int.{ints, of_z-to_z}
use Rattle.clif_types.specs.Types.{bits_of}
use Rattle.clif_types.specs.declared.types.«Type».{«Type»}
use Rattle.clif_instructions.specs.Immediates.{centred, signed_at}
use Rattle.clif_meaning.specs.Bits.{wrapped}
use Rattle.clif_byte_laws.specs.Pieces.{repeated_byte}
use Rattle.clif_access_plans.specs.Constants.{RepeatsByte}
use Rattle.clif_access_plans.specs.Plans.{IsAccess}

-- the byte in each of eight places
abbrev pub everywhere : ℕ → ℕ
everywhere byte = byte * 0x0101_0101_0101_0101

-- a number below twice half of all, as it is read with a sign: positive, or negative by this much and one
centred_is : (half low : ℕ) → low < 2 * half
    → ((low < half) × (centred half low ≡ pos low)) ⊎ ((half ≤ low) × (centred half low ≡ negsuc (2 * half - suc low)))
centred_is half low small = by (cases_lt low half)
  where
    by : (low < half) ⊎ (half ≤ low) → ((low < half) × (centred half low ≡ pos low)) ⊎ ((half ≤ low) × (centred half low ≡ negsuc (2 * half - suc low)))
    by (inl below) = let is = lt-ltb low half below in inl (below, rw is refl)
    by (inr above) =
        let is = le-ltb low half above in
        let negative : pos low -ℤ pos (2 * half) ≡ negsuc (2 * half - suc low) = omega (arith, ints) in
        inr (above, rw is negative)

-- what is read with a sign has the same low bits, at the width and among 64 bits
left_of : (width half low : ℕ) → 2 ^ width ≡ 2 * half → low < 2 * half
    → (half ≤ low → (2 ^ 64 - suc (2 * half - suc low)) % (2 * half) ≡ low)
    → (wrapped width (centred half low) ≡ low) × (of_z w64 (centred half low) % (2 * half) ≡ low)
left_of width half low whole small round = by (centred_is half low small)
  where
    by : ((low < half) × (centred half low ≡ pos low)) ⊎ ((half ≤ low) × (centred half low ≡ negsuc (2 * half - suc low)))
        → (wrapped width (centred half low) ≡ low) × (of_z w64 (centred half low) % (2 * half) ≡ low)
    by (inl (below, is)) = rw is (ap (λ (n : ℕ). low % n) whole ∙ mod-eq_of_lt small, mod-eq_of_lt small)
    by (inr (above, is)) =
        let rest : (2 * half - suc low) % (2 * half) ≡ 2 * half - suc low = mod-eq_of_lt (omega arith) in
        let left : 2 * half - 1 - (2 * half - suc low) % (2 * half) ≡ low = omega (arith, rest, small) in
        rw is (ap (λ (n : ℕ). n - 1 - (2 * half - suc low) % n) whole ∙ left, round above)

-- the constant at a width of so many bits
record RepeatsAt (bits byte : ℕ) (constant : ℤ) : Type 0 where
  repeats : wrapped bits constant ≡ repeated_byte (bits / 8) byte
  signed : signed_at bits constant ≡ constant

one : (byte : ℕ) → byte < 256 → RepeatsAt 8 byte (centred 128 (everywhere byte % 256))
one byte small =
    let left = left_of 8 128 (everywhere byte % 256) refl (omega arith) (λ above. omega arith) in
    record { repeats = left.0 ∙ omega arith; signed = ap (centred 128) left.1 }

two : (byte : ℕ) → byte < 256 → RepeatsAt 16 byte (centred 32768 (everywhere byte % 65536))
two byte small =
    let left = left_of 16 32768 (everywhere byte % 65536) refl (omega arith) (λ above. omega arith) in
    record { repeats = left.0 ∙ omega arith; signed = ap (centred 32768) left.1 }

four : (byte : ℕ) → byte < 256 → RepeatsAt 32 byte (centred 2147483648 (everywhere byte % 4294967296))
four byte small =
    let left = left_of 32 2147483648 (everywhere byte % 4294967296) refl (omega arith) (λ above. omega arith) in
    record { repeats = left.0 ∙ omega arith; signed = ap (centred 2147483648) left.1 }

-- a number of 64 bits, read with a sign, is the number
whole_wrapped : (n : ℕ) → n < 2 ^ 64 → wrapped 64 (to_z w64 n) ≡ n
whole_wrapped n small = by (cases_lt n (2 ^ 63))
  where
    by : (n < 2 ^ 63) ⊎ (2 ^ 63 ≤ n) → wrapped 64 (to_z w64 n) ≡ n
    by (inl below) = let is = lt-ltb n (2 ^ 63) below in rw is (mod-eq_of_lt small)
    by (inr above) =
        let is = le-ltb n (2 ^ 63) above in
        let rest : (2 ^ 64 - suc n) % 2 ^ 64 ≡ 2 ^ 64 - suc n = mod-eq_of_lt (omega arith) in
        rw is (omega (arith, rest))

eight : (byte : ℕ) → byte < 256 → RepeatsAt 64 byte (to_z w64 (everywhere byte))
eight byte small = record { repeats = whole_wrapped (everywhere byte) (omega arith) ∙ omega arith; signed = refl }

at_width : (exponent byte : ℕ) → exponent ≤ 3 → byte < 256 → RepeatsAt (8 * 2 ^ exponent) byte (signed_at (8 * 2 ^ exponent) (to_z w64 (everywhere byte)))
at_width exponent byte few small = by exponent few
  where
    back : of_z w64 (to_z w64 (everywhere byte)) ≡ everywhere byte
    back = of_z-to_z w64 (everywhere byte) (omega arith)

    by : (exponent : ℕ) → exponent ≤ 3 → RepeatsAt (8 * 2 ^ exponent) byte (signed_at (8 * 2 ^ exponent) (to_z w64 (everywhere byte)))
    by zero few = subst (λ (n : ℕ). RepeatsAt 8 byte (centred 128 (n % 256))) (sym back) (one byte small)
    by (suc zero) few = subst (λ (n : ℕ). RepeatsAt 16 byte (centred 32768 (n % 65536))) (sym back) (two byte small)
    by (suc (suc zero)) few = subst (λ (n : ℕ). RepeatsAt 32 byte (centred 2147483648 (n % 4294967296))) (sym back) (four byte small)
    by (suc (suc (suc zero))) few = eight byte small
    by (suc (suc (suc (suc more)))) few = absurd (omega arith)

pub repeated : (ty : «Type») (bytes byte : ℕ) (constant : ℤ) → IsAccess ty bytes → byte < 256 → constant ≡ signed_at (bits_of ty) (to_z w64 (everywhere byte)) → RepeatsByte ty byte constant
repeated ty bytes byte constant access small is =
    let bits : 8 * 2 ^ access.exponent ≡ bits_of ty = ap (λ (n : ℕ). 8 * n) (sym access.is_power) ∙ sym access.bits in
    let at = subst (λ (n : ℕ). RepeatsAt n byte (signed_at n (to_z w64 (everywhere byte)))) bits (at_width access.exponent byte access.few small) in
    let there = subst (λ (z : ℤ). RepeatsAt (bits_of ty) byte z) (sym is) at in
    record { repeats = there.repeats; signed = there.signed }
