-- Reading what was written to a range.
use Rattle.std.proofs.Common.{◌≡◌, ◌+◌, ◌-◌, ◌%◌, ◌^◌, ◌<◌, ℕ, zero, suc, List, [], ◌∷◌, length, replicate, true, false, refl, sym, ◌∙◌, ap, arith}
use Rattle.std.proofs.Math.Nat.{mod-lt, mod-add-mod, add-mod_right, mod-eq_of_lt, mod-le}
use Rattle.std.proofs.lemmas.Bool.{lt-ltb}
use Rattle.std.specs.List.{slice_index}
use Rattle.clif_meaning.specs.Memory.{Memory, Range, address_in, index_in, lies_in, bytes_from, bytes_in, written, copied, filled, IsProper}
use Rattle.clif_meaning.proofs.SampleWorld.{pow_pos}

-- the byte with this number is that at its address
index_of : (range : Range) (k : ℕ) → range.start < 2 ^ range.width → k < 2 ^ range.width → index_in range (address_in range k) ≡ k
index_of range k starts below =
    let whole : ℕ = 2 ^ range.width in
    let back : (range.start + k) % whole + whole - range.start ≡ (range.start + k) % whole + (whole - range.start) = omega arith in
    let round : range.start + k + (whole - range.start) ≡ k + whole = omega arith in
    ap (λ (n : ℕ). n % whole) back ∙ mod-add-mod (range.start + k) whole (whole - range.start) ∙ ap (λ (n : ℕ). n % whole) round
    ∙ add-mod_right k whole ∙ mod-eq_of_lt below

-- each byte of a range that begins at an address lies in it, however long it is
pub lies_there : (range : Range) (k : ℕ) → range.start < 2 ^ range.width → k < range.size → lies_in range (address_in range k) ≡ true
lies_there range k starts below =
    let whole : ℕ = 2 ^ range.width in
    let back : (range.start + k) % whole + whole - range.start ≡ (range.start + k) % whole + (whole - range.start) = omega arith in
    let round : range.start + k + (whole - range.start) ≡ k + whole = omega arith in
    let index : index_in range (address_in range k) ≡ k % whole =
    ap (λ (n : ℕ). n % whole) back ∙ mod-add-mod (range.start + k) whole (whole - range.start) ∙ ap (λ (n : ℕ). n % whole) round
    ∙ add-mod_right k whole in
    let inside = lt-ltb (address_in range k) (2 ^ range.width) (mod-lt (range.start + k) (pow_pos range.width)) in
    let little : k % whole < range.size = omega (arith, mod-le k whole, below) in
    let early = lt-ltb (k % whole) range.size little in
    rw (inside, index, early) refl

-- each byte of a range lies in it
lies : (range : Range) (k : ℕ) → IsProper range → k < range.size → lies_in range (address_in range k) ≡ true
lies range k proper below = lies_there range k proper.start below

-- two memories read alike from two places on
alike : (left right : Memory) (width s t size : ℕ) → ((k : ℕ) → k < size → left ((s + k) % 2 ^ width) ≡ right ((t + k) % 2 ^ width))
    → bytes_from left width s size ≡ bytes_from right width t size
alike left right width s t zero same = refl
alike left right width s t (suc size) same =
    let first : left (s % 2 ^ width) ≡ right (t % 2 ^ width) =
    ap (λ (n : ℕ). left (n % 2 ^ width)) (at_zero s) ∙ same zero (omega arith) ∙ ap (λ (n : ℕ). right (n % 2 ^ width)) (sym (at_zero t)) in
    let rest = alike left right width (s + 1) (t + 1) size (λ k below.
    ap (λ (n : ℕ). left (n % 2 ^ width)) (one_on s k) ∙ same (suc k) (omega arith) ∙ ap (λ (n : ℕ). right (n % 2 ^ width)) (sym (one_on t k))) in
    ap (λ (b : ℕ). b ∷ bytes_from left width (s + 1) size) first ∙ ap (λ (bs : List ℕ). right (t % 2 ^ width) ∷ bs) rest
  where
    at_zero : (a : ℕ) → a ≡ a + 0
    at_zero a = omega arith

    one_on : (a k : ℕ) → a + 1 + k ≡ a + suc k
    one_on a k = omega arith

-- what a memory holds from a place on, if that is known of each byte
holds : (memory : Memory) (width s : ℕ) (bytes : List ℕ) → ((k : ℕ) → k < length bytes → memory ((s + k) % 2 ^ width) ≡ slice_index bytes k)
    → bytes_from memory width s (length bytes) ≡ bytes
holds memory width s [] known = refl
holds memory width s (byte ∷ bytes) known =
    let first : memory (s % 2 ^ width) ≡ byte = ap (λ (n : ℕ). memory (n % 2 ^ width)) (at_zero s) ∙ known zero (omega arith) in
    let rest = holds memory width (s + 1) bytes (λ k below. ap (λ (n : ℕ). memory (n % 2 ^ width)) (one_on s k) ∙ known (suc k) (omega arith)) in
    ap (λ (b : ℕ). b ∷ bytes_from memory width (s + 1) (length bytes)) first ∙ ap (λ (bs : List ℕ). byte ∷ bs) rest
  where
    at_zero : (a : ℕ) → a ≡ a + 0
    at_zero a = omega arith

    one_on : (a k : ℕ) → a + 1 + k ≡ a + suc k
    one_on a k = omega arith

-- a memory of one byte
all_one : (byte width s size : ℕ) → bytes_from (λ address. byte) width s size ≡ replicate size byte
all_one byte width s zero = refl
all_one byte width s (suc size) = ap (λ (bs : List ℕ). byte ∷ bs) (all_one byte width (s + 1) size)

pub written_read : (memory : Memory) (range : Range) (bytes : List ℕ) → IsProper range → length bytes ≡ range.size → bytes_in (written memory range bytes) range ≡ bytes
written_read memory range bytes proper long =
    ap (λ (n : ℕ). bytes_from (written memory range bytes) range.width range.start n) (sym long)
    ∙ holds (written memory range bytes) range.width range.start bytes known
  where
    known : (k : ℕ) → k < length bytes → written memory range bytes (address_in range k) ≡ slice_index bytes k
    known k below =
        let inside : k < range.size = omega arith in
        let there = lies range k proper inside in
        let index = index_of range k proper.start (omega (arith, proper.size)) in
        rw (there, index) refl

pub copied_read : (memory : Memory) (target : Range) (source : ℕ) → IsProper target
    → bytes_in (copied memory target source) target ≡ bytes_in memory (record target { start = source })
copied_read memory target source proper = alike (copied memory target source) memory target.width target.start source target.size known
  where
    known : (k : ℕ) → k < target.size → copied memory target source (address_in target k) ≡ memory ((source + k) % 2 ^ target.width)
    known k below =
        let there = lies target k proper below in
        let index = index_of target k proper.start (omega (arith, proper.size)) in
        rw (there, index) refl

pub filled_read : (memory : Memory) (range : Range) (byte : ℕ) → IsProper range → bytes_in (filled memory range byte) range ≡ replicate range.size byte
filled_read memory range byte proper =
    alike (filled memory range byte) (λ address. byte) range.width range.start range.start range.size known
    ∙ all_one byte range.width range.start range.size
  where
    known : (k : ℕ) → k < range.size → filled memory range byte (address_in range k) ≡ byte
    known k below =
        let there = lies range k proper below in
        rw there refl

pub written_leaves : (memory : Memory) (range : Range) (bytes : List ℕ) (address : ℕ) → lies_in range address ≡ false → written memory range bytes address ≡ memory address
written_leaves memory range bytes address outside = rw outside refl

pub copied_leaves : (memory : Memory) (target : Range) (source address : ℕ) → lies_in target address ≡ false → copied memory target source address ≡ memory address
copied_leaves memory target source address outside = rw outside refl

pub filled_leaves : (memory : Memory) (range : Range) (byte address : ℕ) → lies_in range address ≡ false → filled memory range byte address ≡ memory address
filled_leaves memory range byte address outside = rw outside refl
