-- Calls of functions of the C library are performed.
use Rattle.std.proofs.Common.{◌≡◌, ◌%◌, ◌||◌, ℕ, Bool, true, false, if◌then◌else◌, List, [], ◌∷◌, ◌++◌, map, refl, sym, ◌∙◌, ap, subst}
use Rattle.std.specs.Prelude.{◌≢◌}
use Rattle.std.specs.List.{AllByRecursion, list_any}
use Rattle.std.proofs.Math.Nat.{mod-lt}
use Rattle.std.proofs.Math.Pow.{mod-mod-pow}
use Rattle.std.proofs.lemmas.Nat.{pow_pos}
use Rattle.clif_types.specs.Signature.{SignatureShape}
use Rattle.clif_types.specs.Types.{bits_of}
use Rattle.clif_types.specs.declared.extname.ExternalName.TheVariants as name
use Rattle.clif_types.specs.declared.libcall.LibCall.{LibCall}
use Rattle.clif_types.specs.declared.libcall.LibCall.TheVariants.{Memcpy, Memmove, Memset, Memcmp}
use Rattle.clif_types.specs.declared.types.«Type».{«Type»}
use Rattle.clif_meaning.specs.Access.{Accessible, Holds, call_claims, overlap_claims, promised_claims}
use Rattle.clif_meaning.specs.Bits.{Bits}
use Rattle.clif_meaning.specs.ByteOperation.{ByteOperation, CallLibrary}
use Rattle.clif_meaning.specs.Instruction.{Bytes}
use Rattle.clif_meaning.specs.Library.{bytes_at, library_answer, library_apart, library_memory, library_ranges}
use Rattle.clif_meaning.specs.Memory.{Memory, Range, bytes_in, filled, lies_in}
use Rattle.clif_meaning.specs.Name.{Name, same_name}
use Rattle.clif_meaning.specs.Outcome.{Gives, NoStep, Outcome, byte_outcome, byte_results, low_bits_at}
use Rattle.clif_meaning.specs.Store.{assigned}
use Rattle.clif_meaning.specs.World.{World}
use Rattle.clif_meaning.proofs.LibraryCalls.{claimed_accessible, claimed_apart, claimed_runs}
use Rattle.clif_expansion.specs.Code.{IsSound, NameTypes, PerformsIn}
use Rattle.clif_expansion.specs.Line.{GivesIn, LiesWithin}
use Rattle.clif_expansion.specs.Reading.{Agree, Generated, Reading}
use Rattle.clif_expansion.proofs.Names.{assigned_elsewhere, not_generated}
use Rattle.clif_helper_calls.specs.Codes.{doing}
use Rattle.clif_helper_calls.specs.LibraryCodes.{call_code, calling, i32, set_code}
use Rattle.clif_helper_calls.specs.PerformingCalls.{CallsArePerformed, HasSignature, ReadsThree}
use Rattle.clif_helper_calls.proofs.Runs.{given_here}

-- ONE CALL ----------------------------------------------------------------------------------------------------------------

-- ranges lie within themselves
all_within : (ranges others : List Range) → ((address : ℕ) → list_any (λ other. lies_in other address) ranges ≡ true → list_any (λ other. lies_in other address) others ≡ true)
    → AllByRecursion (LiesWithin others) ranges
all_within [] others inside = tt
all_within (range ∷ ranges) others inside = (
  λ address there. inside address (rw there refl),
  all_within ranges others (λ address there. inside address (behind (lies_in range address) (list_any (λ other. lies_in other address) ranges) there)),
)
  where
    behind : (a b : Bool) → b ≡ true → (a || b) ≡ true
    behind true b is = refl
    behind false b is = is

module _ (world : World) (types : Name → «Type») (width : ℕ) (wide : world.pointer_width ≡ width) (callee : LibCall) (signature : SignatureShape)
    (has : HasSignature width callee signature) (names : Name → Bits) (memory : Memory) (a b n : Name) (first second size : Bits)
    (first_is : names a ≡ first) (second_is : names b ≡ second) (size_is : names n ≡ size)
    (claims : AllByRecursion (Holds world) (map Accessible (library_ranges width callee first second size) ++ overlap_claims width callee first second size)) where
  -- at the world's width, and with the names' bits
  abbrev Called : (w x y z : ℕ) → Type 0
  Called w x y z =
      GivesIn world types (library_ranges w callee x y z) (calling callee signature a b n) (record { names = names; memory = memory })
      (library_answer world callee x y z memory ∷ []) (library_memory w callee x y z memory)

  own_claims : AllByRecursion (Holds world) (call_claims world (name.LibCall callee) (names a ∷ names b ∷ names n ∷ []))
  own_claims =
      subst (λ (w : ℕ). AllByRecursion (Holds world) (map Accessible (library_ranges w callee (names a) (names b) (names n)) ++ overlap_claims w callee (names a) (names b) (names n))) (sym wide)
      (subst (λ (x : ℕ). AllByRecursion (Holds world) (map Accessible (library_ranges width callee x (names b) (names n)) ++ overlap_claims width callee x (names b) (names n))) (sym first_is)
      (subst (λ (y : ℕ). AllByRecursion (Holds world) (map Accessible (library_ranges width callee first y (names n)) ++ overlap_claims width callee first y (names n))) (sym second_is)
      (subst (λ (z : ℕ). AllByRecursion (Holds world) (map Accessible (library_ranges width callee first second z) ++ overlap_claims width callee first second z)) (sym size_is) claims)))

  own_called : Called world.pointer_width (names a) (names b) (names n)
  own_called =
      let runs = claimed_runs world callee signature (names a) (names b) (names n) (subst (λ (w : ℕ). HasSignature w callee signature) (sym wide) has) own_claims in
      let ranges : List Range = library_ranges world.pointer_width callee (names a) (names b) (names n) in
      record {
        gives = ap (λ (c : Bool). if c then Gives (library_answer world callee (names a) (names b) (names n) memory ∷ []) (library_memory world.pointer_width callee (names a) (names b) (names n) memory) else NoStep) runs;
        safe = record { claims = own_claims; within = all_within ranges ranges (λ address there. there) };
      }

  pub called : Called width first second size
  called =
      subst (λ (z : ℕ). Called width first second z) size_is
      (subst (λ (y : ℕ). Called width first y (names n)) second_is
      (subst (λ (x : ℕ). Called width x (names b) (names n)) first_is
      (subst (λ (w : ℕ). Called w (names a) (names b) (names n)) wide own_called)))

-- what it claims not to overlap doesn't
in_order : (world : World) (callee : LibCall) (width : ℕ) (first second size : Bits)
    → AllByRecursion (Holds world) (map Accessible (library_ranges width callee first second size) ++ overlap_claims width callee first second size)
    → library_apart width callee first second size ≡ true
in_order world Memcpy width first second size claims =
    claimed_apart (bytes_at width first size) (bytes_at width second size) (mod-lt first (pow_pos width)) claims.1.1.0
in_order world Memmove width first second size claims = refl
in_order world Memset width first second size claims = refl
in_order world Memcmp width first second size claims = refl

-- what the row of a call gives, where it claims what is true
row_gives : (world : World) (callee : LibCall) (width : ℕ) (first second size : Bits) (memory : Memory)
    → AllByRecursion (Holds world) (map Accessible (library_ranges width callee first second size) ++ promised_claims (CallLibrary callee) width (first ∷ second ∷ size ∷ []))
    → byte_outcome world (CallLibrary callee) width (first ∷ second ∷ size ∷ []) memory
    ≡ Gives (byte_results world (CallLibrary callee) width (first ∷ second ∷ size ∷ []) memory) (library_memory width callee first second size memory)
row_gives world callee width first second size memory claims =
    let apart = in_order world callee width first second size claims in
    let accessible = claimed_accessible world (library_ranges width callee first second size) (promised_claims (CallLibrary callee) width (first ∷ second ∷ size ∷ [])) claims in
    rw (apart, accessible) refl

-- CALLS WITH A SIZE THAT IS A VALUE ---------------------------------------------------------------------------------------

module _ (pointer_width : ℕ) (reading : Reading) (types : NameTypes) (pointer : «Type») (callee : LibCall) (signature : SignatureShape) (place : ℕ)
    (a b n given_a given_b given_n answer : Name) (width_is : bits_of pointer ≡ pointer_width) (has : HasSignature pointer_width callee signature)
    (reads : ReadsThree reading a b n given_a given_b given_n) where
  abbrev row : List Bits → ByteOperation → Memory → World → Outcome
  row operands operation memory world = byte_outcome world operation (bits_of pointer) operands memory

  -- code of one call, whose answer stands for these names with these values
  by_call : (given results : List Name) → (assign : (values : List Bits) (old : Name → Bits) (y : Name) → reading y ≢ Generated
      → assigned same_name (answer ∷ []) values old y ≡ assigned same_name given values old y)
      → (world : World) (plain script : Name → Bits) (memory : Memory) → world.pointer_width ≡ pointer_width → Agree reading plain script
      → IsSound world types.script (doing (Bytes (CallLibrary callee)) pointer (given_a ∷ given_b ∷ given_n ∷ [])) script
      → (values : List Bits) → byte_results world (CallLibrary callee) (bits_of pointer) (script given_a ∷ script given_b ∷ script given_n ∷ []) memory ≡ values
      → ((old : Name → Bits) (y : Name) → assigned same_name given (library_answer world callee (script given_a) (script given_b) (script given_n) memory ∷ []) old y ≡ assigned same_name given values old y)
      → PerformsIn world reading types (doing (Bytes (CallLibrary callee)) pointer (given_a ∷ given_b ∷ given_n ∷ [])) given (call_code callee signature place a b n answer) plain script memory
  by_call given results assign world plain script memory wide agree sound values values_are same = record {
    values = values;
    after = record {
      names = assigned same_name (answer ∷ []) (library_answer world callee (script given_a) (script given_b) (script given_n) memory ∷ []) plain;
      memory = library_memory (bits_of pointer) callee (script given_a) (script given_b) (script given_n) memory;
    };
    outcome = row_gives world callee (bits_of pointer) (script given_a) (script given_b) (script given_n) memory sound.claims
        ∙ ap (λ (vs : List Bits). Gives vs (library_memory (bits_of pointer) callee (script given_a) (script given_b) (script given_n) memory)) values_are;
    runs = (
      library_answer world callee (script given_a) (script given_b) (script given_n) memory ∷ [],
      library_memory (bits_of pointer) callee (script given_a) (script given_b) (script given_n) memory,
      called world types.plain (bits_of pointer) (wide ∙ sym width_is) callee signature (subst (λ (w : ℕ). HasSignature w callee signature) (sym width_is) has) plain memory a b n
          (script given_a) (script given_b) (script given_n) (agree a given_a reads.first_read) (agree b given_b reads.second_read) (agree n given_n reads.third_read) sound.claims,
      refl,
    );
    kept = λ y other. assign (library_answer world callee (script given_a) (script given_b) (script given_n) memory ∷ []) plain y other ∙ same plain y;
  }

-- what is generated keeps no other name from what it has
generated_only : (reading : Reading) (answer : Name) → reading answer ≡ Generated → (values : List Bits) (old : Name → Bits) (y : Name) → reading y ≢ Generated
    → assigned same_name (answer ∷ []) values old y ≡ assigned same_name [] values old y
generated_only reading answer generated values old y other = assigned_elsewhere reading (answer ∷ []) values old y (generated, tt) other

-- `Memset` takes a byte that is widened: its low byte is the byte
pub low_byte : (x : ℕ) → low_bits_at i32 x % 256 ≡ x % 256
low_byte x = mod-mod-pow x 24 8

module _ (pointer_width : ℕ) (reading : Reading) (types : NameTypes) (pointer : «Type») (signature : SignatureShape) (place : ℕ)
    (target byte size given_target given_byte given_size wide answer : Name) (width_is : bits_of pointer ≡ pointer_width) (has : HasSignature pointer_width Memset signature)
    (reads : ReadsThree reading target byte size given_target given_byte given_size) (wide_generated : reading wide ≡ Generated) (answer_generated : reading answer ≡ Generated) where
  set_performed : (world : World) (plain script : Name → Bits) (memory : Memory) → world.pointer_width ≡ pointer_width → Agree reading plain script
      → IsSound world types.script (doing (Bytes (CallLibrary Memset)) pointer (given_target ∷ given_byte ∷ given_size ∷ [])) script
      → PerformsIn world reading types (doing (Bytes (CallLibrary Memset)) pointer (given_target ∷ given_byte ∷ given_size ∷ [])) [] (set_code signature place target byte size wide answer) plain script memory
  set_performed world plain script memory at_width agree sound = record {
    values = [];
    after = record { names = assigned same_name (answer ∷ []) (script given_target ∷ []) between; memory = filled memory (bytes_at (bits_of pointer) (script given_target) (script given_size)) (script given_byte % 256) };
    outcome = row_gives world Memset (bits_of pointer) (script given_target) (script given_byte) (script given_size) memory sound.claims;
    runs = (
      widened ∷ [],
      memory,
      record { gives = refl; safe = record { claims = tt; within = tt } },
      (
        script given_target ∷ [],
        filled memory (bytes_at (bits_of pointer) (script given_target) (script given_size)) (script given_byte % 256),
        subst (λ (b : ℕ). GivesIn world types.plain (library_ranges (bits_of pointer) Memset (script given_target) (script given_byte) (script given_size)) (calling Memset signature target wide size)
            (record { names = between; memory = memory }) (script given_target ∷ []) (filled memory (bytes_at (bits_of pointer) (script given_target) (script given_size)) b))
            (ap (λ (x : ℕ). low_bits_at i32 x % 256) (agree byte given_byte reads.second_read) ∙ low_byte (script given_byte))
            (called world types.plain (bits_of pointer) (at_width ∙ sym width_is) Memset signature (subst (λ (w : ℕ). HasSignature w Memset signature) (sym width_is) has) between memory target wide size
            (script given_target) widened (script given_size)
            (kept target (not_generated reading target given_target reads.first_read) ∙ agree target given_target reads.first_read)
            (given_here wide widened plain)
            (kept size (not_generated reading size given_size reads.third_read) ∙ agree size given_size reads.third_read) sound.claims),
        refl,
      ),
    );
    kept = λ y other. assigned_elsewhere reading (answer ∷ []) (script given_target ∷ []) between y (answer_generated, tt) other ∙ kept y other;
  }
    where
      widened : Bits
      widened = low_bits_at i32 (plain byte)

      between : Name → Bits
      between = assigned same_name (wide ∷ []) (widened ∷ []) plain

      kept : (y : Name) → reading y ≢ Generated → between y ≡ plain y
      kept y other = assigned_elsewhere reading (wide ∷ []) (widened ∷ []) plain y (wide_generated, tt) other

-- the number that `Memcmp` answers is the row's
pub number_is : (world : World) (width : ℕ) (first second size : Bits) (memory : Memory) → world.pointer_width ≡ width
    → library_answer world Memcmp first second size memory ≡ world.memcmp_number (bytes_in memory (bytes_at width first size)) (bytes_in memory (bytes_at width second size))
number_is world width first second size memory wide =
    ap (λ (w : ℕ). world.memcmp_number (bytes_in memory (bytes_at w first size)) (bytes_in memory (bytes_at w second size))) wide

pub calls_are_performed : CallsArePerformed
calls_are_performed = record {
  copies = λ pointer_width reading types pointer signature place target source size given_target given_source given_size answer width_is has reads generated. record {
    begins = λ none. cc;
    given = [];
    named = tt;
    performs = λ world plain script memory wide bytes agree sound.
        by_call pointer_width reading types pointer Memcpy signature place target source size given_target given_source given_size answer width_is has reads [] []
        (generated_only reading answer generated) world plain script memory wide agree sound [] refl (λ old y. refl);
  };
  moves = λ pointer_width reading types pointer signature place target source size given_target given_source given_size answer width_is has reads generated. record {
    begins = λ none. cc;
    given = [];
    named = tt;
    performs = λ world plain script memory wide bytes agree sound.
        by_call pointer_width reading types pointer Memmove signature place target source size given_target given_source given_size answer width_is has reads [] []
        (generated_only reading answer generated) world plain script memory wide agree sound [] refl (λ old y. refl);
  };
  compares = λ pointer_width reading types pointer signature place left right size given_left given_right given_size answer given_answer width_is has reads read. record {
    begins = λ none. cc;
    given = answer ∷ [];
    named = (read, tt);
    performs = λ world plain script memory wide bytes agree sound.
        by_call pointer_width reading types pointer Memcmp signature place left right size given_left given_right given_size answer width_is has reads (answer ∷ []) (given_answer ∷ [])
        (λ values old y other. refl) world plain script memory wide agree sound
        (library_answer world Memcmp (script given_left) (script given_right) (script given_size) memory ∷ [])
        (ap (λ (x : Bits). x ∷ []) (sym (number_is world (bits_of pointer) (script given_left) (script given_right) (script given_size) memory (wide ∙ sym width_is)))) (λ old y. refl);
  };
  sets = λ pointer_width reading types pointer signature place target byte size given_target given_byte given_size wide answer width_is has reads wide_generated generated. record {
    begins = λ none. cc;
    given = [];
    named = tt;
    performs = λ world plain script memory at_width bytes agree sound.
        set_performed pointer_width reading types pointer signature place target byte size given_target given_byte given_size wide answer width_is has reads wide_generated generated
        world plain script memory at_width agree sound;
  };
}
