-- Copies and fills by pieces are performed.
use Rattle.std.proofs.Common.{◌≡◌, ◌+◌, ◌*◌, ◌/◌, ◌%◌, ◌^◌, ◌<◌, ◌≤◌, ◌&&◌, ◌||◌, ℕ, zero, suc, Bool, true, false, List, [], ◌∷◌, ◌++◌, length, map, replicate, refl, sym, ◌∙◌, ap, ap₂, subst, arith, if◌then◌else◌}
use Rattle.std.specs.Prelude.{◌≢◌, ℤ, min, nat_le, nat_lt, IsTrue}
use Rattle.std.specs.List.{AllByRecursion, list_any}
use Rattle.std.proofs.Math.Nat.{mod-eq_of_lt, pow-le-pow_right, zero-mul}
use Rattle.std.proofs.lemmas.Bool.{and_parts, leb-true, ltb-true}
use Rattle.clif_types.specs.Types.{bits_of, bytes_of}
use Rattle.clif_types.specs.declared.types.LaneType.TheVariants as lane
use Rattle.clif_types.specs.declared.types.«Type».{«Type»}
use Rattle.clif_types.specs.declared.types.«Type».TheVariants as type
use Rattle.clif_meaning.specs.Access.{Accessible, Aligned, Claim, Holds, claims_if, promised_claims}
use Rattle.clif_meaning.specs.Bits.{Bits, wrapped}
use Rattle.clif_meaning.specs.ByteOperation.{Copy, CopyShape, Fill, FillShape, access_size, greatest_power, is_by_accesses}
use Rattle.clif_meaning.specs.Instruction.{Bytes}
use Rattle.clif_meaning.specs.Library.{bytes_at}
use Rattle.clif_meaning.specs.Memory.{Memory, Range, copied, filled, lies_in}
use Rattle.clif_meaning.specs.Name.{Name, same_name}
use Rattle.clif_meaning.specs.Store.{assigned}
use Rattle.clif_meaning.specs.World.{World}
use Rattle.clif_meaning.proofs.LibraryCalls.{claimed_accessible}
use Rattle.clif_byte_laws.specs.Pieces.{HoldsBytes, pieces_loaded, pieces_stored, repeated_byte}
use Rattle.clif_byte_laws.proofs.Whole.{copies, fills}
use Rattle.clif_access_plans.specs.Constants.{RepeatsByte}
use Rattle.clif_access_plans.proofs.Powers.{accesses}
use Rattle.clif_expansion.specs.Code.{IsSound, NameTypes, PerformsIn}
use Rattle.clif_expansion.specs.Line.{RunsTo}
use Rattle.clif_expansion.specs.Reading.{Agree, Reading}
use Rattle.clif_expansion.specs.ScriptCall.{can_emit, can_emit_bytes, has_size, is_pointer}
use Rattle.clif_expansion.proofs.Names.{assigned_elsewhere, not_generated}
use Rattle.clif_helper_calls.specs.Codes.{copy_code, copy_flags, doing, fill_code, fill_flags, load_pieces, store_pieces}
use Rattle.clif_helper_calls.specs.Performing.{HasAccesses, NamesCopy, NamesFill, PiecesArePerformed}
use Rattle.clif_helper_calls.proofs.Pieces.{IsLined}
use Rattle.clif_helper_calls.proofs.Runs
use Rattle.clif_helper_calls.proofs.Runs.{given_here, runs_behind}

-- SIZES -------------------------------------------------------------------------------------------------------------------

pub pointer_bits : (ty : «Type») → is_pointer ty ≡ true → (16 ≤ bits_of ty) × (bits_of ty ≤ 64)
pointer_bits type.Invalid is = cc
pointer_bits (type.Vector l n) is = cc
pointer_bits (type.Lane lane.I8) is = cc
pointer_bits (type.Lane lane.I16) is = (omega arith, omega arith)
pointer_bits (type.Lane lane.I32) is = (omega arith, omega arith)
pointer_bits (type.Lane lane.I64) is = (omega arith, omega arith)
pointer_bits (type.Lane lane.I128) is = cc
pointer_bits (type.Lane lane.F16) is = cc
pointer_bits (type.Lane lane.F32) is = cc
pointer_bits (type.Lane lane.F64) is = cc
pointer_bits (type.Lane lane.F128) is = cc

-- what is known of a size that may be emitted, at accesses
record Sized (pointer ty : «Type») (size count : ℕ) : Type 0 where
  some : 0 < size
  fits : size < 2 ^ bits_of pointer
  whole : count * access_size size ≡ size
  narrow : (shift : ℕ) → shift ≤ 3 → shift ≤ bits_of pointer
  bits : bits_of ty ≡ 8 * access_size size
  bytes : bytes_of ty ≡ access_size size

sized : (pointer ty : «Type») (size count : ℕ) → is_pointer pointer ≡ true → has_size pointer size ≡ true → HasAccesses ty size count → Sized pointer ty size count
sized pointer ty size count is has done =
    let wide = pointer_bits pointer is in
    let sizes = and_parts (nat_lt 0 size) (nat_lt size (2 ^ bits_of pointer)) has in
    let some : 0 < size = ltb-true 0 size sizes.0 in
    let fits : size < 2 ^ bits_of pointer = ltb-true size (2 ^ bits_of pointer) sizes.1 in
    let widest : 2 ^ bits_of pointer ≤ 2 ^ 64 = pow-le-pow_right {n = 2} (omega arith) {i = bits_of pointer} {j = 64} wide.1 in
    let all = accesses size some (omega (arith, fits, widest)) in
    let eighth : 8 * access_size size / 8 ≡ access_size size = omega arith in
    record {
      some = some;
      fits = fits;
      whole = ap (λ (n : ℕ). n * access_size size) done.many ∙ all.whole;
      narrow = λ shift few. omega (arith, few, wide.0);
      bits = done.access.bits;
      bytes = ap (λ (n : ℕ). n / 8) done.access.bits ∙ eighth;
    }

pub at_start : (x bytes : ℕ) → x + 0 * bytes ≡ x
at_start x bytes = let none = zero-mul bytes in omega arith

-- CLAIMS ------------------------------------------------------------------------------------------------------------------

flagged : (world : World) (promised flags : Bool) (apart one two : Claim) → flags ≡ true
    → AllByRecursion (Holds world) (claims_if promised apart ++ claims_if flags one ++ claims_if flags two) → Holds world one × Holds world two
flagged world promised false apart one two is claims = let no_way : ⊥ = cc in absurd no_way
flagged world true true apart one two is claims = (claims.1.0, claims.1.1.0)
flagged world false true apart one two is claims = (claims.0, claims.1.0)

pub both : (a b : Bool) → a ≡ true → b ≡ true → (a && b) ≡ true
both a b first second = rw (first, second) refl

pub in_first : (one two : Range) (address : ℕ) → lies_in one address ≡ true → list_any (λ other. lies_in other address) (one ∷ two ∷ []) ≡ true
in_first one two address there = rw there refl

pub in_second : (one two : Range) (address : ℕ) → lies_in two address ≡ true → list_any (λ other. lies_in other address) (one ∷ two ∷ []) ≡ true
in_second one two address there = by (lies_in one address)
  where
    either : (c : Bool) → (c || (true || false)) ≡ true
    either true = refl
    either false = refl

    by : (c : Bool) → (c || (lies_in two address || false)) ≡ true
    by c = rw there (either c)

in_only : (one : Range) (address : ℕ) → lies_in one address ≡ true → list_any (λ other. lies_in other address) (one ∷ []) ≡ true
in_only one address there = rw there refl

-- COPIES ------------------------------------------------------------------------------------------------------------------

module _ (reading : Reading) (types : NameTypes) (pointer ty : «Type») (copy : CopyShape) (place : ℕ) (names : List Name) (target source given_target given_source : Name)
    (may : IsTrue (can_emit (Bytes (Copy copy)) pointer)) (has : HasAccesses ty copy.size (length names))
    (named : NamesCopy reading types target source given_target given_source names) where
  abbrev size : ℕ
  size = copy.size

  abbrev bytes : ℕ
  bytes = access_size copy.size

  abbrev width : ℕ
  width = bits_of pointer

  emitted : (is_pointer pointer ≡ true) × (has_size pointer size ≡ true)
  emitted =
      let parts = and_parts (is_pointer pointer) (can_emit_bytes (Copy copy) pointer) may in
      let sizes = and_parts (has_size pointer size) (nat_le (min copy.target_alignment copy.source_alignment) (greatest_power size)) parts.1 in
      (parts.0, sizes.0)

  sizes : Sized pointer ty size (length names)
  sizes = sized pointer ty size (length names) emitted.0 emitted.1 has

  some_code : copy_code (copy_flags copy) ty bytes target source place names ≢ []
  some_code = by names sizes.whole
    where
      by : (list : List Name) → length list * bytes ≡ size → copy_code (copy_flags copy) ty bytes target source place list ≢ []
      by [] whole none = let nothing = zero-mul bytes in let positive = sizes.some in absurd (omega (arith, nothing, whole, positive))
      by (name ∷ list) whole none = cc

  module _ (world : World) (plain script : Name → Bits) (memory : Memory) (holds_bytes : HoldsBytes memory) (agree : Agree reading plain script)
      (sound : IsSound world types.script (doing (Bytes (Copy copy)) pointer (given_target ∷ given_source ∷ [])) script) where
    abbrev t : ℕ
    t = script given_target

    abbrev s : ℕ
    s = script given_source

    abbrev ranges : List Range
    ranges = bytes_at width t size ∷ bytes_at width s size ∷ []

    -- where the flags of the accesses say that they are aligned, both addresses are
    lined : (copy_flags copy).aligned ≡ true → IsLined world t bytes × IsLined world s bytes
    lined = by (nat_le bytes copy.target_alignment) (nat_le bytes copy.source_alignment) refl refl
      where
        by : (reaches_target reaches_source : Bool) → nat_le bytes copy.target_alignment ≡ reaches_target → nat_le bytes copy.source_alignment ≡ reaches_source
            → (if reaches_target && reaches_source then record copy.flags { aligned = true } else copy.flags).aligned ≡ true → IsLined world t bytes × IsLined world s bytes
        by true true first second is = (
          (copy.target_alignment, leb-true bytes copy.target_alignment first, sound.claims.1.1.0),
          (copy.source_alignment, leb-true bytes copy.source_alignment second, sound.claims.1.1.1.0),
        )
        by true false first second is = said is
          where
            said : copy.flags.aligned ≡ true → IsLined world t bytes × IsLined world s bytes
            said aligned =
                let true_claims = flagged world copy.no_overlap (copy.flags.aligned && is_by_accesses size) _ (Aligned t bytes) (Aligned s bytes) (both copy.flags.aligned (is_by_accesses size) aligned has.few) sound.claims.1.1.1.1 in
                ((bytes, omega arith, true_claims.0), (bytes, omega arith, true_claims.1))
        by false reaches first second is = said is
          where
            said : copy.flags.aligned ≡ true → IsLined world t bytes × IsLined world s bytes
            said aligned =
                let true_claims = flagged world copy.no_overlap (copy.flags.aligned && is_by_accesses size) _ (Aligned t bytes) (Aligned s bytes) (both copy.flags.aligned (is_by_accesses size) aligned has.few) sound.claims.1.1.1.1 in
                ((bytes, omega arith, true_claims.0), (bytes, omega arith, true_claims.1))

    loaded : Runs.Loaded world types.plain reading ranges (copy_flags copy) ty width has.access.exponent bytes s (length names)
        has.access.is_power (sizes.narrow has.access.exponent has.access.few) sizes.bits sizes.bytes
        (subst (λ (n : ℕ). Holds world (Accessible (bytes_at width s n))) (sym sizes.whole) sound.claims.1.0) (λ is. (lined is).1)
        (λ address there. in_second (bytes_at width t size) (bytes_at width s size) address (subst (λ (n : ℕ). lies_in (bytes_at width s n) address ≡ true) sizes.whole there))
        source (ap bits_of (named.source_typed ∙ sound.typed.1.1.0)) memory place 0 names plain
    loaded = Runs.loads world types.plain reading ranges (copy_flags copy) ty width has.access.exponent bytes s (length names)
        has.access.is_power (sizes.narrow has.access.exponent has.access.few) sizes.bits sizes.bytes
        (subst (λ (n : ℕ). Holds world (Accessible (bytes_at width s n))) (sym sizes.whole) sound.claims.1.0) (λ is. (lined is).1)
        (λ address there. in_second (bytes_at width t size) (bytes_at width s size) address (subst (λ (n : ℕ). lies_in (bytes_at width s n) address ≡ true) sizes.whole there))
        source (ap bits_of (named.source_typed ∙ sound.typed.1.1.0)) memory place 0 names plain holds_bytes (not_generated reading source given_source named.source_read)
        (omega arith) (agree source given_source named.source_read) named.generated named.distinct

    stored : RunsTo world types.plain ranges (store_pieces (copy_flags copy) ty bytes target (place + length names) 0 names) (record { names = loaded.after; memory = memory })
        (record { names = loaded.after; memory = pieces_stored memory width bytes (t + 0 * bytes) (map loaded.after names) })
    stored = Runs.stores world types.plain reading ranges (copy_flags copy) ty width has.access.exponent bytes t (length names)
        has.access.is_power (sizes.narrow has.access.exponent has.access.few) sizes.bits sizes.bytes
        (subst (λ (n : ℕ). Holds world (Accessible (bytes_at width t n))) (sym sizes.whole) sound.claims.0) (λ is. (lined is).0)
        (λ address there. in_first (bytes_at width t size) (bytes_at width s size) address (subst (λ (n : ℕ). lies_in (bytes_at width t n) address ≡ true) sizes.whole there))
        target (ap bits_of (named.target_typed ∙ sound.typed.1.0)) memory (place + length names) 0 names loaded.after (omega arith)
        (loaded.kept target (not_generated reading target given_target named.target_read) ∙ agree target given_target named.target_read)

    whole_copied : pieces_stored memory width bytes (t + 0 * bytes) (map loaded.after names) ≡ copied memory (bytes_at width t size) s
    whole_copied =
        ap (λ (start : ℕ). pieces_stored memory width bytes start (map loaded.after names)) (at_start t bytes)
        ∙ ap (λ (values : List Bits). pieces_stored memory width bytes t values)
        (loaded.holds ∙ ap (λ (start : ℕ). pieces_loaded memory width bytes start (length names)) (at_start s bytes))
        ∙ copies memory width bytes t s (length names) holds_bytes (let fits = sizes.fits in let whole = sizes.whole in omega (arith, fits, whole))
        ∙ ap (λ (n : ℕ). copied memory (bytes_at width t n) s) sizes.whole

    copy_performed : PerformsIn world reading types (doing (Bytes (Copy copy)) pointer (given_target ∷ given_source ∷ [])) [] (copy_code (copy_flags copy) ty bytes target source place names) plain script memory
    copy_performed = record {
      values = [];
      after = record { names = loaded.after; memory = copied memory (bytes_at width t size) s };
      outcome =
          let accessible = claimed_accessible world ranges (promised_claims (Copy copy) width (t ∷ s ∷ [])) sound.claims in rw accessible refl;
      runs = runs_behind world types.plain ranges (load_pieces (copy_flags copy) ty bytes source place 0 names) (store_pieces (copy_flags copy) ty bytes target (place + length names) 0 names)
          (record { names = plain; memory = memory }) (record { names = loaded.after; memory = memory }) (record { names = loaded.after; memory = copied memory (bytes_at width t size) s })
          loaded.runs
          (subst (λ (m : Memory). RunsTo world types.plain ranges (store_pieces (copy_flags copy) ty bytes target (place + length names) 0 names) (record { names = loaded.after; memory = memory }) (record { names = loaded.after; memory = m })) whole_copied stored);
      kept = loaded.kept;
    }

-- FILLS -------------------------------------------------------------------------------------------------------------------

filled_names : (f : Name → Bits) (count : ℕ) (name : Name) (bits : Bits) → f name ≡ bits → map f (replicate count name) ≡ replicate count bits
filled_names f zero name bits is = refl
filled_names f (suc count) name bits is = ap₂ (λ (first : Bits) (rest : List Bits). first ∷ rest) is (filled_names f count name bits is)

how_many : {A : Type 0} (count : ℕ) (x : A) → length (replicate count x) ≡ count
how_many zero x = refl
how_many (suc count) x = ap suc (how_many count x)

module _ (reading : Reading) (types : NameTypes) (pointer ty : «Type») (fill : FillShape) (place : ℕ) (number : ℤ) (count : ℕ) (target given_target constant : Name)
    (may : IsTrue (can_emit (Bytes (Fill fill)) pointer)) (has : HasAccesses ty fill.size count) (repeats : RepeatsByte ty fill.byte number)
    (named : NamesFill reading types target given_target constant) where
  abbrev fill_bytes : ℕ
  fill_bytes = access_size fill.size

  abbrev fill_width : ℕ
  fill_width = bits_of pointer

  fill_emitted : (is_pointer pointer ≡ true) × (fill.byte < 256) × (has_size pointer fill.size ≡ true)
  fill_emitted =
      let parts = and_parts (is_pointer pointer) (can_emit_bytes (Fill fill) pointer) may in
      let outer = and_parts (nat_lt fill.byte 256 && has_size pointer fill.size) (nat_le fill.alignment (greatest_power fill.size)) parts.1 in
      let inner = and_parts (nat_lt fill.byte 256) (has_size pointer fill.size) outer.0 in
      (parts.0, ltb-true fill.byte 256 inner.0, inner.1)

  fill_sizes : Sized pointer ty fill.size count
  fill_sizes = sized pointer ty fill.size count fill_emitted.0 fill_emitted.2 has

  module _ (world : World) (plain script : Name → Bits) (memory : Memory) (agree : Agree reading plain script)
      (sound : IsSound world types.script (doing (Bytes (Fill fill)) pointer (given_target ∷ [])) script) where
    abbrev f : ℕ
    f = script given_target

    abbrev fill_ranges : List Range
    fill_ranges = bytes_at fill_width f fill.size ∷ []

    abbrev between : Name → Bits
    between = assigned same_name (constant ∷ []) (wrapped (bits_of ty) number ∷ []) plain

    fill_lined : (fill_flags fill).aligned ≡ true → IsLined world f fill_bytes
    fill_lined = by (nat_le fill_bytes fill.alignment) refl
      where
        last : (c : Bool) → c ≡ true → AllByRecursion (Holds world) (claims_if c (Aligned f fill_bytes)) → Holds world (Aligned f fill_bytes)
        last true is claims = claims.0
        last false is claims = let no_way : ⊥ = cc in absurd no_way

        by : (reaches : Bool) → nat_le fill_bytes fill.alignment ≡ reaches → (if reaches then record fill.flags { aligned = true } else fill.flags).aligned ≡ true → IsLined world f fill_bytes
        by true first is = (fill.alignment, leb-true fill_bytes fill.alignment first, sound.claims.1.0)
        by false first is =
            (fill_bytes, omega arith, last (fill.flags.aligned && is_by_accesses fill.size) (both fill.flags.aligned (is_by_accesses fill.size) is has.few) sound.claims.1.1)

    fill_stored : RunsTo world types.plain fill_ranges (store_pieces (fill_flags fill) ty fill_bytes target (suc place) 0 (replicate count constant)) (record { names = between; memory = memory })
        (record { names = between; memory = pieces_stored memory fill_width fill_bytes (f + 0 * fill_bytes) (map between (replicate count constant)) })
    fill_stored = Runs.stores world types.plain reading fill_ranges (fill_flags fill) ty fill_width has.access.exponent fill_bytes f count
        has.access.is_power (fill_sizes.narrow has.access.exponent has.access.few) fill_sizes.bits fill_sizes.bytes
        (subst (λ (n : ℕ). Holds world (Accessible (bytes_at fill_width f n))) (sym fill_sizes.whole) sound.claims.0) fill_lined
        (λ address there. in_only (bytes_at fill_width f fill.size) address (subst (λ (n : ℕ). lies_in (bytes_at fill_width f n) address ≡ true) fill_sizes.whole there))
        target (ap bits_of (named.target_typed ∙ sound.typed.1.0)) memory (suc place) 0 (replicate count constant) between (let long = how_many count constant in omega (arith, long))
        (assigned_elsewhere reading (constant ∷ []) (wrapped (bits_of ty) number ∷ []) plain target (named.generated, tt) (not_generated reading target given_target named.target_read)
        ∙ agree target given_target named.target_read)

    constant_is : between constant ≡ repeated_byte fill_bytes fill.byte
    constant_is =
        given_here constant (wrapped (bits_of ty) number) plain ∙ repeats.repeats ∙ ap (λ (n : ℕ). repeated_byte n fill.byte) fill_sizes.bytes

    whole_filled : pieces_stored memory fill_width fill_bytes (f + 0 * fill_bytes) (map between (replicate count constant)) ≡ filled memory (bytes_at fill_width f fill.size) (fill.byte % 256)
    whole_filled =
        ap (λ (start : ℕ). pieces_stored memory fill_width fill_bytes start (map between (replicate count constant))) (at_start f fill_bytes)
        ∙ ap (λ (values : List Bits). pieces_stored memory fill_width fill_bytes f values) (filled_names between count constant (repeated_byte fill_bytes fill.byte) constant_is)
        ∙ fills memory fill_width fill_bytes f fill.byte count fill_emitted.1 (let fits = fill_sizes.fits in let whole = fill_sizes.whole in omega (arith, fits, whole))
        ∙ ap (λ (n : ℕ). filled memory (bytes_at fill_width f n) fill.byte) fill_sizes.whole
        ∙ ap (λ (byte : ℕ). filled memory (bytes_at fill_width f fill.size) byte) (sym (mod-eq_of_lt fill_emitted.1))

    fill_performed : PerformsIn world reading types (doing (Bytes (Fill fill)) pointer (given_target ∷ [])) [] (fill_code (fill_flags fill) ty fill_bytes target place number constant count) plain script memory
    fill_performed = record {
      values = [];
      after = record { names = between; memory = filled memory (bytes_at fill_width f fill.size) (fill.byte % 256) };
      outcome =
          let accessible = claimed_accessible world fill_ranges (promised_claims (Fill fill) fill_width (f ∷ [])) sound.claims in rw accessible refl;
      runs = (
        wrapped (bits_of ty) number ∷ [],
        memory,
        record { gives = refl; safe = record { claims = tt; within = tt } },
        subst (λ (m : Memory). RunsTo world types.plain fill_ranges (store_pieces (fill_flags fill) ty fill_bytes target (suc place) 0 (replicate count constant)) (record { names = between; memory = memory }) (record { names = between; memory = m })) whole_filled fill_stored,
      );
      kept = λ y other. assigned_elsewhere reading (constant ∷ []) (wrapped (bits_of ty) number ∷ []) plain y (named.generated, tt) other;
    }

pub pieces_are_performed : PiecesArePerformed
pieces_are_performed = record {
  copies = λ pointer_width reading types pointer ty copy place names target source given_target given_source wide may has named. record {
    begins = some_code reading types pointer ty copy place names target source given_target given_source may has named;
    given = [];
    named = tt;
    performs = λ world plain script memory width bytes agree sound.
        copy_performed reading types pointer ty copy place names target source given_target given_source may has named world plain script memory bytes agree sound;
  };
  fills = λ pointer_width reading types pointer ty fill place number count target given_target constant wide may has repeats named. record {
    begins = λ none. cc;
    given = [];
    named = tt;
    performs = λ world plain script memory width bytes agree sound.
        fill_performed reading types pointer ty fill place number count target given_target constant may has repeats named world plain script memory agree sound;
  };
}
