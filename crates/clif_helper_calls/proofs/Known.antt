-- Calls with a constant size are performed.
use Rattle.std.proofs.Common.{◌≡◌, ◌%◌, ◌&&◌, ℕ, Bool, true, false, if◌then◌else◌, List, [], ◌∷◌, ◌++◌, refl, sym, ◌∙◌, ap, ap₂, subst}
use Rattle.std.specs.Prelude.{◌≢◌, ℤ, IsTrue}
use Rattle.std.specs.List.{AllByRecursion}
use Rattle.std.proofs.lemmas.Bool.{and_parts}
use Rattle.clif_types.specs.Signature.{SignatureShape}
use Rattle.clif_types.specs.Types.{bits_of}
use Rattle.clif_types.specs.declared.libcall.LibCall.{LibCall}
use Rattle.clif_types.specs.declared.libcall.LibCall.TheVariants.{Memcpy, Memmove, Memset, Memcmp}
use Rattle.clif_types.specs.declared.types.«Type».{«Type»}
use Rattle.clif_meaning.specs.Access.{Aligned, Apart, Claim, Holds, claims_if, promised_claims}
use Rattle.clif_meaning.specs.Bits.{Bits, wrapped}
use Rattle.clif_meaning.specs.ByteOperation.{CompareBytes, CompareShape, Copy, CopyShape, Fill, FillShape, access_size, is_by_accesses, is_unsigned, order_meets}
use Rattle.clif_meaning.specs.Instruction.{Bytes}
use Rattle.clif_meaning.specs.Library.{bytes_at, library_answer}
use Rattle.clif_meaning.specs.Memory.{Memory, byte_order, bytes_in, copied, filled}
use Rattle.clif_meaning.specs.Name.{Name, same_name}
use Rattle.clif_meaning.specs.Outcome.{Gives, compares, low_bits_at}
use Rattle.clif_meaning.specs.Store.{assigned}
use Rattle.clif_meaning.specs.World.{World}
use Rattle.clif_meaning.proofs.LibraryCalls.{claimed_accessible}
use Rattle.clif_byte_laws.specs.Comparing.{sign_condition}
use Rattle.clif_byte_laws.proofs.Compared.{comparisons_agree}
use Rattle.clif_expansion.specs.Code.{IsSound, NameTypes, PerformsIn}
use Rattle.clif_expansion.specs.Line.{GivesIn}
use Rattle.clif_expansion.specs.Reading.{Agree, Generated, IsReadAs, Reading}
use Rattle.clif_expansion.specs.ScriptCall.{can_emit, can_emit_bytes, fits, is_pointer}
use Rattle.clif_expansion.proofs.Names.{assigned_elsewhere, not_generated}
use Rattle.clif_helper_calls.specs.Codes.{doing}
use Rattle.clif_helper_calls.specs.LibraryCodes.{IsConstant, calling, compare_call_code, copy_call_code, copying_function, fill_call_code, i32, i8}
use Rattle.clif_helper_calls.specs.PerformingCalls.{HasSignature, KnownCallsArePerformed, ReadsTwo}
use Rattle.clif_helper_calls.proofs.Called.{called, low_byte, number_is}
use Rattle.clif_helper_calls.proofs.Runs.{given_here, kept_by_other}

-- COPIES ------------------------------------------------------------------------------------------------------------------

promised : (world : World) (claimed : Bool) (apart : Claim) (one two : List Claim) → claimed ≡ true → AllByRecursion (Holds world) (claims_if claimed apart ++ one ++ two) → Holds world apart
promised world true apart one two is claims = claims.0
promised world false apart one two is claims = let no_way : ⊥ = cc in absurd no_way

module _ (pointer_width : ℕ) (reading : Reading) (types : NameTypes) (pointer : «Type») (signature : SignatureShape) (copy : CopyShape) (number : ℤ) (place : ℕ)
    (target source given_target given_source size answer : Name) (width_is : bits_of pointer ≡ pointer_width) (constant : IsConstant pointer number copy.size)
    (reads : ReadsTwo reading target source given_target given_source) (size_generated : reading size ≡ Generated) (answer_generated : reading answer ≡ Generated)
    (world : World) (plain script : Name → Bits) (memory : Memory) (wide : world.pointer_width ≡ pointer_width) (agree : Agree reading plain script)
    (sound : IsSound world types.script (doing (Bytes (Copy copy)) pointer (given_target ∷ given_source ∷ [])) script) where
  abbrev t : ℕ
  t = script given_target

  abbrev s : ℕ
  s = script given_source

  abbrev w : ℕ
  w = bits_of pointer

  abbrev sized : Name → Bits
  sized = assigned same_name (size ∷ []) (wrapped w number ∷ []) plain

  sized_keeps : (y : Name) → reading y ≢ Generated → sized y ≡ plain y
  sized_keeps y other = assigned_elsewhere reading (size ∷ []) (wrapped w number ∷ []) plain y (size_generated, tt) other

  -- the call of a function that copies, and behind it names and memory
  abbrev Copies : LibCall → Type 0
  Copies callee =
      GivesIn world types.plain (bytes_at w t copy.size ∷ bytes_at w s copy.size ∷ []) (calling callee signature target source size)
      (record { names = sized; memory = memory }) (t ∷ []) (copied memory (bytes_at w t copy.size) s)

  performed_by : (no_overlap : Bool) → Copies (copying_function no_overlap)
      → PerformsIn world reading types (doing (Bytes (Copy copy)) pointer (given_target ∷ given_source ∷ [])) [] (copy_call_code no_overlap signature pointer number place target source size answer) plain script memory
  performed_by no_overlap does = record {
    values = [];
    after = record { names = assigned same_name (answer ∷ []) (t ∷ []) sized; memory = copied memory (bytes_at w t copy.size) s };
    outcome =
        let accessible = claimed_accessible world (bytes_at w t copy.size ∷ bytes_at w s copy.size ∷ []) (promised_claims (Copy copy) w (t ∷ s ∷ [])) sound.claims in rw accessible refl;
    runs = (wrapped w number ∷ [], memory, record { gives = refl; safe = record { claims = tt; within = tt } }, (t ∷ [], copied memory (bytes_at w t copy.size) s, does, refl));
    kept = λ y other. assigned_elsewhere reading (answer ∷ []) (t ∷ []) sized y (answer_generated, tt) other ∙ sized_keeps y other;
  }

  target_is : sized target ≡ t
  target_is = sized_keeps target (not_generated reading target given_target reads.first_read) ∙ agree target given_target reads.first_read

  source_is : sized source ≡ s
  source_is = sized_keeps source (not_generated reading source given_source reads.second_read) ∙ agree source given_source reads.second_read

  size_is : sized size ≡ copy.size
  size_is = given_here size (wrapped w number) plain ∙ constant

  abbrev flagged : Bool
  flagged = copy.flags.aligned && is_by_accesses copy.size

  copies_by : (no_overlap : Bool) → copy.no_overlap ≡ no_overlap → HasSignature pointer_width (copying_function no_overlap) signature → Copies (copying_function no_overlap)
  copies_by true is has =
      called world types.plain w (wide ∙ sym width_is) Memcpy signature (subst (λ (n : ℕ). HasSignature n Memcpy signature) (sym width_is) has) sized memory target source size t s copy.size
      target_is source_is size_is (
        sound.claims.0,
        (
          sound.claims.1.0,
          (
            promised world copy.no_overlap (Apart (bytes_at w t copy.size) (bytes_at w s copy.size))
                (claims_if flagged (Aligned t (access_size copy.size))) (claims_if flagged (Aligned s (access_size copy.size))) is sound.claims.1.1.1.1,
            tt,
          ),
        ),
      )
  copies_by false is has =
      called world types.plain w (wide ∙ sym width_is) Memmove signature (subst (λ (n : ℕ). HasSignature n Memmove signature) (sym width_is) has) sized memory target source size t s copy.size
      target_is source_is size_is (sound.claims.0, (sound.claims.1.0, tt))

  copy_performed : HasSignature pointer_width (copying_function copy.no_overlap) signature
      → PerformsIn world reading types (doing (Bytes (Copy copy)) pointer (given_target ∷ given_source ∷ [])) [] (copy_call_code copy.no_overlap signature pointer number place target source size answer) plain script memory
  copy_performed has = performed_by copy.no_overlap (copies_by copy.no_overlap refl has)

-- FILLS -------------------------------------------------------------------------------------------------------------------

module _ (pointer_width : ℕ) (reading : Reading) (types : NameTypes) (pointer : «Type») (signature : SignatureShape) (fill : FillShape) (filling number : ℤ) (place : ℕ)
    (target given_target byte size extended answer : Name) (width_is : bits_of pointer ≡ pointer_width) (has : HasSignature pointer_width Memset signature)
    (filling_is : IsConstant i8 filling fill.byte) (constant : IsConstant pointer number fill.size)
    (read : IsReadAs reading target given_target) (generated : AllByRecursion (λ name. reading name ≡ Generated) (byte ∷ size ∷ extended ∷ answer ∷ []))
    (byte_other : byte ≢ size) (size_other : size ≢ extended)
    (world : World) (plain script : Name → Bits) (memory : Memory) (wide : world.pointer_width ≡ pointer_width) (agree : Agree reading plain script)
    (sound : IsSound world types.script (doing (Bytes (Fill fill)) pointer (given_target ∷ [])) script) where
  abbrev f : ℕ
  f = script given_target

  abbrev v : ℕ
  v = bits_of pointer

  abbrev with_byte : Name → Bits
  with_byte = assigned same_name (byte ∷ []) (wrapped 8 filling ∷ []) plain

  abbrev with_size : Name → Bits
  with_size = assigned same_name (size ∷ []) (wrapped v number ∷ []) with_byte

  abbrev widened : Bits
  widened = low_bits_at i32 (with_size byte)

  abbrev with_wide : Name → Bits
  with_wide = assigned same_name (extended ∷ []) (widened ∷ []) with_size

  wide_keeps : (y : Name) → reading y ≢ Generated → with_wide y ≡ plain y
  wide_keeps y other =
      assigned_elsewhere reading (extended ∷ []) (widened ∷ []) with_size y (generated.1.1.0, tt) other
      ∙ assigned_elsewhere reading (size ∷ []) (wrapped v number ∷ []) with_byte y (generated.1.0, tt) other
      ∙ assigned_elsewhere reading (byte ∷ []) (wrapped 8 filling ∷ []) plain y (generated.0, tt) other

  size_there : with_wide size ≡ fill.size
  size_there = kept_by_other size extended widened with_size size_other ∙ given_here size (wrapped v number) with_byte ∙ constant

  byte_is : with_size byte ≡ fill.byte
  byte_is = kept_by_other byte size (wrapped v number) with_byte byte_other ∙ given_here byte (wrapped 8 filling) plain ∙ filling_is

  fill_performed : PerformsIn world reading types (doing (Bytes (Fill fill)) pointer (given_target ∷ [])) [] (fill_call_code signature pointer filling number place target byte size extended answer) plain script memory
  fill_performed = record {
    values = [];
    after = record { names = assigned same_name (answer ∷ []) (f ∷ []) with_wide; memory = filled memory (bytes_at v f fill.size) (fill.byte % 256) };
    outcome = let accessible = claimed_accessible world (bytes_at v f fill.size ∷ []) (promised_claims (Fill fill) v (f ∷ [])) sound.claims in rw accessible refl;
    runs = (
      wrapped 8 filling ∷ [],
      memory,
      record { gives = refl; safe = record { claims = tt; within = tt } },
      (
        wrapped v number ∷ [],
        memory,
        record { gives = refl; safe = record { claims = tt; within = tt } },
        (
          widened ∷ [],
          memory,
          record { gives = refl; safe = record { claims = tt; within = tt } },
          (f ∷ [], filled memory (bytes_at v f fill.size) (fill.byte % 256), does, refl),
        ),
      ),
    );
    kept = λ y other. assigned_elsewhere reading (answer ∷ []) (f ∷ []) with_wide y (generated.1.1.1.0, tt) other ∙ wide_keeps y other;
  }
    where
      does : GivesIn world types.plain (bytes_at v f fill.size ∷ []) (calling Memset signature target extended size) (record { names = with_wide; memory = memory }) (f ∷ [])
          (filled memory (bytes_at v f fill.size) (fill.byte % 256))
      does =
          subst (λ (b : ℕ). GivesIn world types.plain (bytes_at v f fill.size ∷ []) (calling Memset signature target extended size) (record { names = with_wide; memory = memory }) (f ∷ [])
          (filled memory (bytes_at v f fill.size) b)) (ap (λ (x : ℕ). low_bits_at i32 x % 256) byte_is ∙ low_byte fill.byte)
          (called world types.plain v (wide ∙ sym width_is) Memset signature (subst (λ (n : ℕ). HasSignature n Memset signature) (sym width_is) has) with_wide memory target extended size f widened fill.size
          (wide_keeps target (not_generated reading target given_target read) ∙ agree target given_target read)
          (given_here extended widened with_size) size_there (sound.claims.0, tt))

-- COMPARISONS -------------------------------------------------------------------------------------------------------------

module _ (pointer_width : ℕ) (reading : Reading) (types : NameTypes) (pointer : «Type») (signature : SignatureShape) (compare : CompareShape) (number : ℤ) (place : ℕ)
    (left right given_left given_right size answer zero result given_result : Name) (width_is : bits_of pointer ≡ pointer_width)
    (may : IsTrue (can_emit (Bytes (CompareBytes compare)) pointer)) (has : HasSignature pointer_width Memcmp signature) (constant : IsConstant pointer number compare.size)
    (reads : ReadsTwo reading left right given_left given_right) (size_generated : reading size ≡ Generated) (answer_generated : reading answer ≡ Generated) (zero_generated : reading zero ≡ Generated)
    (apart : answer ≢ zero)
    (world : World) (plain script : Name → Bits) (memory : Memory) (wide : world.pointer_width ≡ pointer_width) (agree : Agree reading plain script)
    (sound : IsSound world types.script (doing (Bytes (CompareBytes compare)) pointer (given_left ∷ given_right ∷ [])) script) where
  abbrev l : ℕ
  l = script given_left

  abbrev r : ℕ
  r = script given_right

  abbrev u : ℕ
  u = bits_of pointer

  abbrev left_bytes : List ℕ
  left_bytes = bytes_in memory (bytes_at u l compare.size)

  abbrev right_bytes : List ℕ
  right_bytes = bytes_in memory (bytes_at u r compare.size)

  abbrev told : Bits
  told = library_answer world Memcmp l r compare.size memory

  abbrev bit : Bits
  bit = if order_meets compare.condition (byte_order left_bytes right_bytes) then 1 else 0

  abbrev named_size : Name → Bits
  named_size = assigned same_name (size ∷ []) (wrapped u number ∷ []) plain

  abbrev named_answer : Name → Bits
  named_answer = assigned same_name (answer ∷ []) (told ∷ []) named_size

  abbrev named_zero : Name → Bits
  named_zero = assigned same_name (zero ∷ []) (0 ∷ []) named_answer

  size_keeps : (y : Name) → reading y ≢ Generated → named_size y ≡ plain y
  size_keeps y other = assigned_elsewhere reading (size ∷ []) (wrapped u number ∷ []) plain y (size_generated, tt) other

  unsigned : IsTrue (is_unsigned compare.condition)
  unsigned =
      let parts = and_parts (is_pointer pointer) (can_emit_bytes (CompareBytes compare) pointer) may in
      (and_parts (is_unsigned compare.condition) (fits pointer compare.size) parts.1).0

  meets : compares (sign_condition compare.condition) 32 told 0 ≡ order_meets compare.condition (byte_order left_bytes right_bytes)
  meets =
      ap (λ (n : ℕ). compares (sign_condition compare.condition) 32 n 0) (number_is world u l r compare.size memory (wide ∙ sym width_is))
      ∙ comparisons_agree.by_sign compare.condition (byte_order left_bytes right_bytes) (world.memcmp_number left_bytes right_bytes) unsigned (world.memcmp_sign left_bytes right_bytes)

  compare_performed : PerformsIn world reading types (doing (Bytes (CompareBytes compare)) pointer (given_left ∷ given_right ∷ [])) (result ∷ [])
      (compare_call_code compare.condition signature pointer number place left right size answer zero result) plain script memory
  compare_performed = record {
    values = bit ∷ [];
    after = record { names = assigned same_name (result ∷ []) (bit ∷ []) named_zero; memory = memory };
    outcome =
        let accessible = claimed_accessible world (bytes_at u l compare.size ∷ bytes_at u r compare.size ∷ []) (promised_claims (CompareBytes compare) u (l ∷ r ∷ [])) sound.claims in rw accessible refl;
    runs = (
      wrapped u number ∷ [],
      memory,
      record { gives = refl; safe = record { claims = tt; within = tt } },
      (
        told ∷ [],
        memory,
        called world types.plain u (wide ∙ sym width_is) Memcmp signature (subst (λ (n : ℕ). HasSignature n Memcmp signature) (sym width_is) has) named_size memory left right size l r compare.size
            (size_keeps left (not_generated reading left given_left reads.first_read) ∙ agree left given_left reads.first_read)
            (size_keeps right (not_generated reading right given_right reads.second_read) ∙ agree right given_right reads.second_read)
            (given_here size (wrapped u number) plain ∙ constant) (sound.claims.0, (sound.claims.1.0, tt)),
        (
          0 ∷ [],
          memory,
          record { gives = refl; safe = record { claims = tt; within = tt } },
          (bit ∷ [], memory, record { gives = decides; safe = record { claims = tt; within = tt } }, refl),
        ),
      ),
    );
    kept = λ y other.
        ap (λ (old : Bits). if same_name y result then bit else old)
        (assigned_elsewhere reading (zero ∷ []) (0 ∷ []) named_answer y (zero_generated, tt) other
        ∙ assigned_elsewhere reading (answer ∷ []) (told ∷ []) named_size y (answer_generated, tt) other ∙ size_keeps y other);
  }
    where
      decides : Gives ((if compares (sign_condition compare.condition) 32 (named_zero answer) (named_zero zero) then 1 else 0) ∷ []) memory ≡ Gives (bit ∷ []) memory
      decides =
          ap₂ (λ (a b : ℕ). Gives ((if compares (sign_condition compare.condition) 32 a b then 1 else 0) ∷ []) memory)
          (kept_by_other answer zero 0 named_answer apart ∙ given_here answer told named_size) (given_here zero 0 named_answer)
          ∙ ap (λ (c : Bool). Gives ((if c then 1 else 0) ∷ []) memory) meets

pub known_calls_are_performed : KnownCallsArePerformed
known_calls_are_performed = record {
  copies = λ pointer_width reading types pointer signature copy number place target source given_target given_source size answer width_is has constant reads size_generated answer_generated. record {
    begins = λ none. cc;
    given = [];
    named = tt;
    performs = λ world plain script memory wide bytes agree sound.
        copy_performed pointer_width reading types pointer signature copy number place target source given_target given_source size answer width_is constant reads size_generated answer_generated
        world plain script memory wide agree sound has;
  };
  compares = λ pointer_width reading types pointer signature compare number place left right given_left given_right size answer zero result given_result width_is may has constant reads
      size_generated answer_generated zero_generated apart read. record {
        begins = λ none. cc;
        given = result ∷ [];
        named = (read, tt);
        performs = λ world plain script memory wide bytes agree sound.
            compare_performed pointer_width reading types pointer signature compare number place left right given_left given_right size answer zero result given_result width_is may has constant reads
            size_generated answer_generated zero_generated apart world plain script memory wide agree sound;
      };
  fills = λ pointer_width reading types pointer signature fill filling number place target given_target byte size extended answer width_is has filling_is constant read generated byte_other size_other. record {
    begins = λ none. cc;
    given = [];
    named = tt;
    performs = λ world plain script memory wide bytes agree sound.
        fill_performed pointer_width reading types pointer signature fill filling number place target given_target byte size extended answer width_is has filling_is constant read generated
        byte_other size_other world plain script memory wide agree sound;
  };
}
