-- Stores of pieces are one write of their bytes, and loads of pieces read the bytes of the whole.
use Rattle.std.proofs.Common.{◌≡◌, ◌+◌, ◌-◌, ◌*◌, ◌/◌, ◌%◌, ◌^◌, ◌<◌, ◌≤◌, ◌++◌, ◌&&◌, ◌⊎◌, inl, inr, ℕ, zero, suc, List, [], ◌∷◌, length, replicate, Bool, true, false, if◌then◌else◌, refl, sym, ◌∙◌, ap, arith}
use Rattle.std.specs.Prelude.{nat_lt}
use Rattle.std.specs.List.{flat_map, slice_index}
use Rattle.std.proofs.Math.Nat.{mod-add-mod, mod-mod, mod-eq_of_lt, suc-mul, zero-mul}
use Rattle.std.proofs.Math.Path.{fun_ext}
use Rattle.std.proofs.lemmas.Bool.{and_parts, cases_lt, le-ltb, lt-ltb, ltb-true}
use Rattle.std.proofs.lemmas.List.{get_or-append-add, get_or_append_left, get_or-replicate, replicate-append-replicate}
use Rattle.std.proofs.lemmas.Nat.{pow_pos}
use Rattle.clif_meaning.specs.Bits.{AreBytes, Bits, value_bytes, value_of_bytes}
use Rattle.clif_meaning.specs.Library.{bytes_at}
use Rattle.clif_meaning.specs.Memory.{Memory, Range, bytes_from, bytes_in, copied, filled, lies_in, written}
use Rattle.clif_meaning.specs.Outcome.{repeated}
use Rattle.clif_meaning.proofs.BitLists.{value_as_many, value_in_range, value_listed}
use Rattle.clif_byte_laws.specs.Pieces.{HoldsBytes, PiecesMakeWhole, pieces_loaded, pieces_stored, repeated_byte}
use Rattle.clif_byte_laws.proofs.Indices.{index_from, next_index}

-- TWO WRITES --------------------------------------------------------------------------------------------------------------

-- what stands at a place of the first or of the second of two parts
in_parts : (x whole d e n m : ℕ) (first second : List ℕ) → n + m ≤ whole → length first ≡ n
    → (e + n ≡ d) ⊎ ((d < n) × (e + n ≡ d + whole))
    → (if nat_lt e m then slice_index second e else (if nat_lt d n then slice_index first d else x))
    ≡ (if nat_lt d (n + m) then slice_index (first ++ second) d else x)
in_parts x whole d e n m first second few long (inr (early, round)) =
    let not_second : nat_lt e m ≡ false = le-ltb e m (omega arith) in
    let is_first : nat_lt d n ≡ true = lt-ltb d n early in
    let in_all : nat_lt d (n + m) ≡ true = lt-ltb d (n + m) (omega arith) in
    rw (not_second, is_first, in_all) (sym (get_or_append_left first second 0 d (omega arith)))
in_parts x whole d e n m first second few long (inl later) = by (cases_lt e m)
  where
    not_first : nat_lt d n ≡ false
    not_first = le-ltb d n (omega arith)

    by : (e < m) ⊎ (m ≤ e)
        → (if nat_lt e m then slice_index second e else (if nat_lt d n then slice_index first d else x))
        ≡ (if nat_lt d (n + m) then slice_index (first ++ second) d else x)
    by (inl inside) =
        let is_second : nat_lt e m ≡ true = lt-ltb e m inside in
        let in_all : nat_lt d (n + m) ≡ true = lt-ltb d (n + m) (omega arith) in
        let there : d ≡ length first + e = omega arith in
        rw (is_second, in_all, there) (sym (get_or-append-add first second e 0))
    by (inr outside) =
        let not_second : nat_lt e m ≡ false = le-ltb e m outside in
        let not_all : nat_lt d (n + m) ≡ false = le-ltb d (n + m) (omega arith) in
        rw (not_second, not_first, not_all) refl

-- two writes, the second one behind the first, are one
joined : (memory : Memory) (width start n m address : ℕ) (first second : List ℕ) → n + m ≤ 2 ^ width → length first ≡ n
    → written (written memory (bytes_at width start n) first) (bytes_at width (start + n) m) second address
    ≡ written memory (bytes_at width start (n + m)) (first ++ second) address
joined memory width start n m address first second few long = by (nat_lt address (2 ^ width))
  where
    by : (inside : Bool)
        → (if inside && nat_lt (index_from (2 ^ width) (start + n) address) m then slice_index second (index_from (2 ^ width) (start + n) address)
        else (if inside && nat_lt (index_from (2 ^ width) start address) n then slice_index first (index_from (2 ^ width) start address) else memory address))
        ≡ (if inside && nat_lt (index_from (2 ^ width) start address) (n + m) then slice_index (first ++ second) (index_from (2 ^ width) start address) else memory address)
    by false = refl
    by true =
        in_parts (memory address) (2 ^ width) (index_from (2 ^ width) start address) (index_from (2 ^ width) (start + n) address) n m first second few long
        (next_index (2 ^ width) start n address (pow_pos width) (omega arith))

-- ALL STORES --------------------------------------------------------------------------------------------------------------

-- no address lies in an empty range
writes_nothing : (memory : Memory) (width start n address : ℕ) → n ≡ 0 → written memory (bytes_at width start n) [] address ≡ memory address
writes_nothing memory width start n address none = by (nat_lt address (2 ^ width))
  where
    outside : nat_lt (index_from (2 ^ width) start address) n ≡ false
    outside = le-ltb (index_from (2 ^ width) start address) n (omega arith)

    by : (inside : Bool) → (if inside && nat_lt (index_from (2 ^ width) start address) n then slice_index [] (index_from (2 ^ width) start address) else memory address) ≡ memory address
    by false = refl
    by true = rw outside refl

stored_is : (memory : Memory) (width size target : ℕ) (values : List Bits) (address : ℕ) → length values * size ≤ 2 ^ width
    → pieces_stored memory width size target values address
    ≡ written memory (bytes_at width target (length values * size)) (flat_map (value_bytes size) values) address
stored_is memory width size target [] address few = sym (writes_nothing memory width target (0 * size) address (zero-mul size))
stored_is memory width size target (bits ∷ values) address few =
    let more : suc (length values) * size ≡ size + length values * size = one_more (length values) size in
    let rest = stored_is (written memory (bytes_at width target size) (value_bytes size bits)) width size (target + size) values address (omega arith) in
    rest ∙ joined memory width target size (length values * size) address (value_bytes size bits) (flat_map (value_bytes size) values) (omega arith) (value_as_many size bits)
    ∙ ap (λ (n : ℕ). written memory (bytes_at width target n) (value_bytes size bits ++ flat_map (value_bytes size) values) address) (sym more)
  where
    one_more : (count size : ℕ) → suc count * size ≡ size + count * size
    one_more count size = omega (arith, suc-mul count size)

-- ALL LOADS ---------------------------------------------------------------------------------------------------------------

-- bytes are read from where a place is, modulo all addresses
turned : (memory : Memory) (width s t size : ℕ) → s % 2 ^ width ≡ t % 2 ^ width → bytes_from memory width s size ≡ bytes_from memory width t size
turned memory width s t zero same = refl
turned memory width s t (suc size) same =
    let next : (s + 1) % 2 ^ width ≡ (t + 1) % 2 ^ width =
    sym (mod-add-mod s (2 ^ width) 1) ∙ ap (λ (n : ℕ). (n + 1) % 2 ^ width) same ∙ mod-add-mod t (2 ^ width) 1 in
    ap (λ (n : ℕ). memory n ∷ bytes_from memory width (s + 1) size) same
    ∙ ap (λ (bytes : List ℕ). memory (t % 2 ^ width) ∷ bytes) (turned memory width (s + 1) (t + 1) size next)

in_two : (memory : Memory) (width start n m : ℕ) → bytes_from memory width start (n + m) ≡ bytes_from memory width start n ++ bytes_from memory width (start + n) m
in_two memory width start zero m =
    ap (λ (k : ℕ). bytes_from memory width start k) (none m) ∙ ap (λ (s : ℕ). bytes_from memory width s m) (sym (still start))
  where
    none : (m : ℕ) → 0 + m ≡ m
    none m = omega arith

    still : (s : ℕ) → s + 0 ≡ s
    still s = omega arith
in_two memory width start (suc n) m =
    ap (λ (k : ℕ). bytes_from memory width start k) (one_more n m)
    ∙ ap (λ (bytes : List ℕ). memory (start % 2 ^ width) ∷ bytes)
    (in_two memory width (start + 1) n m ∙ ap (λ (s : ℕ). bytes_from memory width (start + 1) n ++ bytes_from memory width s m) (moved start n))
  where
    one_more : (n m : ℕ) → suc n + m ≡ suc (n + m)
    one_more n m = omega arith

    moved : (s n : ℕ) → s + 1 + n ≡ s + suc n
    moved s n = omega arith

as_many : (memory : Memory) (width start size : ℕ) → length (bytes_from memory width start size) ≡ size
as_many memory width start zero = refl
as_many memory width start (suc size) = ap suc (as_many memory width (start + 1) size)

are_bytes : (memory : Memory) (width start size : ℕ) → HoldsBytes memory → AreBytes (bytes_from memory width start size)
are_bytes memory width start zero bytes = tt
are_bytes memory width start (suc size) bytes = (bytes (start % 2 ^ width), are_bytes memory width (start + 1) size bytes)

-- what is loaded has the bytes that were there
spelled : (memory : Memory) (width start size : ℕ) → HoldsBytes memory → value_bytes size (value_of_bytes (bytes_from memory width start size)) ≡ bytes_from memory width start size
spelled memory width start size bytes =
    ap (λ (n : ℕ). value_bytes n (value_of_bytes (bytes_from memory width start size))) (sym (as_many memory width start size))
    ∙ value_listed (bytes_from memory width start size) (are_bytes memory width start size bytes)

loaded_are : (memory : Memory) (width size source count : ℕ) → HoldsBytes memory
    → flat_map (value_bytes size) (pieces_loaded memory width size source count) ≡ bytes_from memory width source (count * size)
loaded_are memory width size source zero bytes = ap (λ (n : ℕ). bytes_from memory width source n) (sym (zero-mul size))
loaded_are memory width size source (suc count) bytes =
    let first : value_bytes size (value_of_bytes (bytes_in memory (bytes_at width source size))) ≡ bytes_from memory width source size =
    spelled memory width (source % 2 ^ width) size bytes ∙ turned memory width (source % 2 ^ width) source size (mod-mod source (2 ^ width)) in
    let rest = loaded_are memory width size (source + size) count bytes in
    let more : suc count * size ≡ size + count * size = omega (arith, suc-mul count size) in
    ap (λ (bs : List ℕ). bs ++ flat_map (value_bytes size) (pieces_loaded memory width size (source + size) count)) first
    ∙ ap (λ (bs : List ℕ). bytes_from memory width source size ++ bs) rest
    ∙ sym (in_two memory width source size (count * size))
    ∙ ap (λ (n : ℕ). bytes_from memory width source n) (sym more)

how_many : (memory : Memory) (width size source count : ℕ) → length (pieces_loaded memory width size source count) ≡ count
how_many memory width size source zero = refl
how_many memory width size source (suc count) = ap suc (how_many memory width size (source + size) count)

-- COPIES AND FILLS --------------------------------------------------------------------------------------------------------

read_at : (memory : Memory) (width start size i : ℕ) → i < size → slice_index (bytes_from memory width start size) i ≡ memory ((start + i) % 2 ^ width)
read_at memory width start zero i below = absurd (omega arith)
read_at memory width start (suc size) zero below = ap (λ (n : ℕ). memory (n % 2 ^ width)) (still start)
  where
    still : (s : ℕ) → s ≡ s + 0
    still s = omega arith
read_at memory width start (suc size) (suc i) below =
    read_at memory width (start + 1) size i (omega arith) ∙ ap (λ (n : ℕ). memory (n % 2 ^ width)) (moved start i)
  where
    moved : (s i : ℕ) → s + 1 + i ≡ s + suc i
    moved s i = omega arith

-- a write of bytes that are known at each place
writes : (memory : Memory) (width start n address : ℕ) (bytes : List ℕ) (f : ℕ → ℕ) → ((i : ℕ) → i < n → slice_index bytes i ≡ f i)
    → written memory (bytes_at width start n) bytes address ≡ (if lies_in (bytes_at width start n) address then f (index_from (2 ^ width) start address) else memory address)
writes memory width start n address bytes f known = by (lies_in (bytes_at width start n) address) refl
  where
    index : ℕ
    index = index_from (2 ^ width) start address

    by : (there : Bool) → lies_in (bytes_at width start n) address ≡ there
        → (if there then slice_index bytes index else memory address) ≡ (if there then f index else memory address)
    by false is = refl
    by true is = known index (ltb-true index n (and_parts (nat_lt address (2 ^ width)) (nat_lt index n) is).1)

pub copies : (memory : Memory) (width size target source count : ℕ) → HoldsBytes memory → count * size ≤ 2 ^ width
    → pieces_stored memory width size target (pieces_loaded memory width size source count) ≡ copied memory (bytes_at width target (count * size)) source
copies memory width size target source count bytes few = fun_ext at
  where
    values : List Bits
    values = pieces_loaded memory width size source count

    many : length values * size ≡ count * size
    many = ap (λ (n : ℕ). n * size) (how_many memory width size source count)

    at : (address : ℕ) → pieces_stored memory width size target values address ≡ copied memory (bytes_at width target (count * size)) source address
    at address =
        stored_is memory width size target values address (omega (arith, many, few))
        ∙ ap (λ (n : ℕ). written memory (bytes_at width target n) (flat_map (value_bytes size) values) address) many
        ∙ ap (λ (bs : List ℕ). written memory (bytes_at width target (count * size)) bs address) (loaded_are memory width size source count bytes)
        ∙ writes memory width target (count * size) address (bytes_from memory width source (count * size)) (λ i. memory ((source + i) % 2 ^ width))
        (read_at memory width source (count * size))

-- the bytes of the repeated byte
all_bytes : (size byte : ℕ) → byte < 256 → value_bytes size (repeated_byte size byte) ≡ replicate size byte
all_bytes zero byte small = refl
all_bytes (suc size) byte small =
    let low : (byte + 256 * repeated size 8 byte) % 256 ≡ byte = omega arith in
    let high : (byte + 256 * repeated size 8 byte) / 256 ≡ repeated size 8 byte = omega arith in
    rw (low, high) (ap (λ (bytes : List ℕ). byte ∷ bytes) (all_bytes size byte small))

all_pieces : (count size byte : ℕ) → byte < 256 → flat_map (value_bytes size) (replicate count (repeated_byte size byte)) ≡ replicate (count * size) byte
all_pieces zero size byte small = ap (λ (n : ℕ). replicate n byte) (sym (zero-mul size))
all_pieces (suc count) size byte small =
    let more : suc count * size ≡ size + count * size = omega (arith, suc-mul count size) in
    ap (λ (bytes : List ℕ). bytes ++ flat_map (value_bytes size) (replicate count (repeated_byte size byte))) (all_bytes size byte small)
    ∙ ap (λ (bytes : List ℕ). replicate size byte ++ bytes) (all_pieces count size byte small)
    ∙ replicate-append-replicate size (count * size) byte
    ∙ ap (λ (n : ℕ). replicate n byte) (sym more)

how_often : {A : Type 0} (count : ℕ) (x : A) → length (replicate count x) ≡ count
how_often zero x = refl
how_often (suc count) x = ap suc (how_often count x)

pub fills : (memory : Memory) (width size target byte count : ℕ) → byte < 256 → count * size ≤ 2 ^ width
    → pieces_stored memory width size target (replicate count (repeated_byte size byte)) ≡ filled memory (bytes_at width target (count * size)) byte
fills memory width size target byte count small few = fun_ext at
  where
    values : List Bits
    values = replicate count (repeated_byte size byte)

    many : length values * size ≡ count * size
    many = ap (λ (n : ℕ). n * size) (how_often count (repeated_byte size byte))

    at : (address : ℕ) → pieces_stored memory width size target values address ≡ filled memory (bytes_at width target (count * size)) byte address
    at address =
        stored_is memory width size target values address (omega (arith, many, few))
        ∙ ap (λ (n : ℕ). written memory (bytes_at width target n) (flat_map (value_bytes size) values) address) many
        ∙ ap (λ (bs : List ℕ). written memory (bytes_at width target (count * size)) bs address) (all_pieces count size byte small)
        ∙ writes memory width target (count * size) address (replicate (count * size) byte) (λ i. byte)
        (λ i below. get_or-replicate (count * size) i byte 0 below)

-- BYTES STAY --------------------------------------------------------------------------------------------------------------

pub copy_holds_bytes : (memory : Memory) (target : Range) (source : ℕ) → HoldsBytes memory → HoldsBytes (copied memory target source)
copy_holds_bytes memory target source bytes address = by (lies_in target address)
  where
    by : (there : Bool) → (if there then memory ((source + (address + 2 ^ target.width - target.start) % 2 ^ target.width) % 2 ^ target.width) else memory address) < 256
    by true = bytes _
    by false = bytes address

pub fill_holds_bytes : (memory : Memory) (target : Range) (byte : ℕ) → HoldsBytes memory → byte < 256 → HoldsBytes (filled memory target byte)
fill_holds_bytes memory target byte bytes small address = by (lies_in target address)
  where
    by : (there : Bool) → (if there then byte else memory address) < 256
    by true = small
    by false = bytes address

pub whole_load : (memory : Memory) (range : Range) → HoldsBytes memory → value_of_bytes (bytes_in memory range) % 2 ^ (8 * range.size) ≡ value_of_bytes (bytes_in memory range)
whole_load memory range bytes =
    let long : length (bytes_in memory range) ≡ range.size = as_many memory range.width range.start range.size in
    let small = value_in_range (bytes_in memory range) (are_bytes memory range.width range.start range.size bytes) in
    mod-eq_of_lt (rw long at small)

pub pieces_make_whole : PiecesMakeWhole
pieces_make_whole = record {
  copies = copies;
  fills = fills;
  copy_holds_bytes = copy_holds_bytes;
  fill_holds_bytes = fill_holds_bytes;
  whole_load = whole_load;
}
