-- Pieces of a range lie within it, are accessible where it is, and aligned where it is.
use Rattle.std.proofs.Common.{◌≡◌, ◌+◌, ◌-◌, ◌*◌, ◌%◌, ◌^◌, ◌<◌, ◌≤◌, ◌⊎◌, inl, inr, ℕ, suc, true, refl, sym, ◌∙◌, ap, arith, subst}
use Rattle.std.specs.Prelude.{nat_lt, IsTrue}
use Rattle.std.proofs.Math.Nat.{mod-le, mod-add-mod, add-mod-mod, add-mul-mod_self_right, mul-le-mul_right, suc-mul, zero-mod}
use Rattle.std.proofs.Math.Pow.{mod-mod-pow, pow-lt}
use Rattle.std.proofs.lemmas.Bool.{and_parts, cases_lt, lt-ltb, ltb-true}
use Rattle.std.proofs.lemmas.Nat.{pow_pos}
use Rattle.clif_meaning.specs.Access.{Accessible, Aligned, Holds}
use Rattle.clif_meaning.specs.Library.{bytes_at}
use Rattle.clif_meaning.specs.Memory.{lies_in}
use Rattle.clif_meaning.specs.World.{World}
use Rattle.clif_byte_laws.specs.Pieces.{PiecesLieWithin}
use Rattle.clif_byte_laws.proofs.Indices.{index_from, index_on}

-- the end of a piece is no later than that of the whole
ends : (place count size : ℕ) → place < count → place * size + size ≤ count * size
ends place count size below = by (mul-le-mul_right {m = suc place} {n = count} size (omega arith))
  where
    by : suc place * size ≤ count * size → place * size + size ≤ count * size
    by less = omega (arith, suc-mul place size)

pub within : (width size start place count address : ℕ) → place < count → lies_in (bytes_at width (start + place * size) size) address ≡ true
    → lies_in (bytes_at width start (count * size)) address ≡ true
within width size start place count address below there =
    let whole : ℕ = 2 ^ width in
    let parts = and_parts (nat_lt address whole) (nat_lt (index_from whole (start + place * size) address) size) there in
    let inside : index_from whole (start + place * size) address < size = ltb-true (index_from whole (start + place * size) address) size parts.1 in
    let on = index_on whole start (place * size) address (pow_pos width) in
    let little = mod-le (index_from whole (start + place * size) address + place * size) whole in
    let last = ends place count size below in
    let less : index_from whole start address < count * size = omega (arith, on, little, inside, last) in
    let is = lt-ltb (index_from whole start address) (count * size) less in
    rw (parts.0, is) refl

pub accessible : (world : World) (width size start place count : ℕ) → place < count → Holds world (Accessible (bytes_at width start (count * size)))
    → Holds world (Accessible (bytes_at width (start + place * size) size))
accessible world width size start place count below holds k early =
    let last = ends place count size below in
    let inside : place * size + k < count * size = omega arith in
    let moved : start + (place * size + k) ≡ start + place * size + k = omega arith in
    let same : (start % 2 ^ width + (place * size + k)) % 2 ^ width ≡ ((start + place * size) % 2 ^ width + k) % 2 ^ width =
    mod-add-mod start (2 ^ width) (place * size + k) ∙ ap (λ (n : ℕ). n % 2 ^ width) moved ∙ sym (mod-add-mod (start + place * size) (2 ^ width) k) in
    subst (λ (address : ℕ). IsTrue (world.is_accessible address)) same (holds (place * size + k) inside)

-- a lesser power of two has a lesser exponent
lesser : (j k : ℕ) → 2 ^ j ≤ 2 ^ k → j ≤ k
lesser j k less = by (cases_lt k j)
  where
    by : (k < j) ⊎ (j ≤ k) → j ≤ k
    by (inr no_more) = no_more
    by (inl above) = let greater : 2 ^ k < 2 ^ j = pow-lt above in omega arith

-- what is a multiple of a power of two is one of each lesser power
coarse : (j k n : ℕ) → j ≤ k → n % 2 ^ k ≡ 0 → n % 2 ^ j ≡ 0
coarse j k n less none =
    let parts : k ≡ (k - j) + j = omega arith in
    sym (mod-mod-pow n (k - j) j) ∙ ap (λ (m : ℕ). n % 2 ^ m % 2 ^ j) (sym parts) ∙ ap (λ (m : ℕ). m % 2 ^ j) none ∙ zero-mod (2 ^ j)

pub aligned : (world : World) (width shift start place alignment : ℕ) → 2 ^ shift ≤ alignment → shift ≤ width → Holds world (Aligned start alignment)
    → Holds world (Aligned ((start + place * 2 ^ shift) % 2 ^ width) (2 ^ shift))
aligned world width shift start place alignment enough narrow (power, is, none) =
    let less : shift ≤ power = lesser shift power (subst (λ (n : ℕ). 2 ^ shift ≤ n) is enough) in
    let parts : width ≡ (width - shift) + shift = omega arith in
    let multiple : (start + place * 2 ^ shift) % 2 ^ width % 2 ^ shift ≡ (start + place * 2 ^ shift) % 2 ^ shift =
    ap (λ (m : ℕ). (start + place * 2 ^ shift) % 2 ^ m % 2 ^ shift) parts ∙ mod-mod-pow (start + place * 2 ^ shift) (width - shift) shift in
    (shift, refl, multiple ∙ add-mul-mod_self_right start place (2 ^ shift) ∙ coarse shift power start less none)

pub pieces_lie_within : PiecesLieWithin
pieces_lie_within = record {
  begins = λ width size start place. add-mod-mod start (place * size) (2 ^ width);
  within = within;
  accessible = accessible;
  aligned = aligned;
}
