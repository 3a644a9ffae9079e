-- The calls of a memory helper are a line that stands for its emission.
use Rattle.std.proofs.Common.{◌≡◌, ◌<◌, ◌≤◌, ◌+◌, ◌-◌, ◌*◌, ◌/◌, ◌^◌, ◌&&◌, ◌||◌, ◌==◌, ◌⊎◌, inl, inr, ℕ, ℤ, zero, suc, pos, Bool, true, false, if◌then◌else◌, List, [], ◌∷◌, ◌++◌, length, map, refl, sym, ◌∙◌, ap, subst, arith, w64, Some, None}
use Rattle.std.specs.Prelude.{IsTrue, is_some, nat_le, min}
use Rattle.std.specs.Int.{cast_signed}
use Rattle.std.specs.List.{AllZip}
use Rattle.std.proofs.Math.Nat.{mod-eq_of_lt}
use Rattle.std.proofs.lemmas.Bool.{and_parts, cases_lt, eqb-true, false≢true, ltb-true}
use Rattle.std.proofs.lemmas.List.{map-append}
use mir.Facts.{to_z_pos, to_z-neg}
use Rattle.clif_types.specs.Target.{pointer_type_of}
use Rattle.clif_types.specs.Types.{bits_of, int_of, is_int}
use Rattle.clif_types.specs.declared.condcodes.IntCC.{IntCC}
use Rattle.clif_types.specs.declared.condcodes.IntCC.TheVariants as cc
use Rattle.clif_types.specs.declared.libcall.LibCall.{LibCall}
use Rattle.clif_types.specs.declared.libcall.LibCall.TheVariants.{Memcpy, Memmove, Memset, Memcmp}
use Rattle.clif_types.specs.declared.target.PointerWidth.{PointerWidth}
use Rattle.clif_types.specs.declared.target.PointerWidth.TheVariants.{U16, U32, U64}
use Rattle.clif_types.specs.declared.target.TargetFrontendConfig.{TargetFrontendConfig}
use Rattle.clif_types.specs.declared.types.LaneType.TheVariants as lane
use Rattle.clif_types.specs.declared.types.«Type».{«Type»}
use Rattle.clif_types.specs.declared.types.«Type».TheVariants as type
use Rattle.clif_tables.specs.Callees.{types_of}
use Rattle.clif_tables.specs.Entries.{TableEntry}
use Rattle.clif_tables.specs.Lists.{TableLists}
use Rattle.clif_access_plans.specs.Plans.{compare_plan, fits_pointer, may_move, move_plan, type_of_bytes}
use Rattle.clif_access_plans.specs.declared.comparing.ComparePlan.{ComparePlan}
use Rattle.clif_access_plans.specs.declared.comparing.ComparePlan.TheVariants as compare
use Rattle.clif_access_plans.specs.declared.moving.Accesses.{Accesses}
use Rattle.clif_access_plans.specs.declared.moving.MovePlan.{MovePlan}
use Rattle.clif_access_plans.specs.declared.moving.MovePlan.TheVariants as move
use Rattle.clif_access_plans.proofs.Powers.{plans_are_exact}
use Rattle.clif_byte_laws.specs.Comparing.{sign_condition}
use Rattle.clif_meaning.specs.Bits.{wrapped}
use Rattle.clif_meaning.specs.ByteOperation.{CallLibrary, CompareBytes, CompareShape, Copy, CopyShape, Fill, FillShape, access_size, greatest_power, is_by_accesses, is_by_loads, is_unsigned}
use Rattle.clif_meaning.specs.Instruction.{Instruction}
use Rattle.clif_meaning.specs.Library.{library_parameters, library_returns, pointer_of}
use Rattle.clif_meaning.specs.Name.{Name}
use Rattle.clif_meaning.specs.Request.{GivenEntry, Script}
use Rattle.clif_expansion.specs.Emission.{AreGenerated, AreGiven, building, line_calls_with}
use Rattle.clif_expansion.specs.Reading.{IsReadAs, Reading}
use Rattle.clif_helper_calls.specs.FillStanding.{constant_line, fill_line, loads_line, set_line, told_of_none}
use Rattle.clif_helper_calls.specs.KnownStanding.{compare_line, copy_line}
use Rattle.clif_helper_calls.specs.LibraryCodes.{IsConstant, copying_function, i8}
use Rattle.clif_helper_calls.specs.Lines.{Line, LineStands, all_but_last, last_of}
use Rattle.clif_helper_calls.specs.Performing.{HasAccesses}
use Rattle.clif_helper_calls.specs.PerformingCalls.{HasSignature, ReadsThree, ReadsTwo}
use Rattle.clif_helper_calls.specs.PieceStanding.{copied_line, copy_instructions, fill_instructions, filled_line, none_of_it}
use Rattle.clif_helper_calls.specs.Standing.{single_line}
use Rattle.clif_helper_calls.proofs.FillStanding.{fill_calls_stand}
use Rattle.clif_helper_calls.proofs.KnownStanding.{known_calls_stand}
use Rattle.clif_helper_calls.proofs.PieceStanding.{pieces_stand}
use Rattle.clif_helper_calls.proofs.Standing.{single_calls_stand}
use Rattle.clif_memory_helpers.specs.HelperLines.{HelpersAreLines, IsLineOf, has_64, if_compared_by_call, if_moved_by_call}
use Rattle.clif_memory_helpers.specs.Helpers.{FillsWith, compared_by, imported, library_entries, library_signature, may_make, moved_by, size_constant}

-- THE C LIBRARY -----------------------------------------------------------------------------------------------------------

parameters_are : (width : PointerWidth) (callee : LibCall)
    → library_parameters (pointer_type_of width) callee ≡ library_parameters (pointer_of (bits_of (pointer_type_of width))) callee
parameters_are U16 callee = refl
parameters_are U32 callee = refl
parameters_are U64 callee = refl

returns_are : (width : PointerWidth) (callee : LibCall)
    → library_returns (pointer_type_of width) callee ≡ library_returns (pointer_of (bits_of (pointer_type_of width))) callee
returns_are U16 callee = refl
returns_are U32 callee = refl
returns_are U64 callee = refl

-- the signature is the function's
signed : (config : TargetFrontendConfig) (callee : LibCall) → HasSignature (bits_of (pointer_type_of config.pointer_width)) callee (library_signature config callee)
signed config callee = record {
  parameters = given config.pointer_width callee ∙ parameters_are config.pointer_width callee;
  returns = answered config.pointer_width callee ∙ returns_are config.pointer_width callee;
}
  where
    given : (width : PointerWidth) (function : LibCall) → types_of (library_signature (record config { pointer_width = width }) function).params ≡ library_parameters (pointer_type_of width) function
    given width Memcpy = refl
    given width Memmove = refl
    given width Memset = refl
    given width Memcmp = refl

    answered : (width : PointerWidth) (function : LibCall) → types_of (library_signature (record config { pointer_width = width }) function).returns ≡ library_returns (pointer_type_of width) function
    answered width Memcpy = refl
    answered width Memmove = refl
    answered width Memset = refl
    answered width Memcmp = refl

-- CONSTANTS ---------------------------------------------------------------------------------------------------------------

-- a size that fits is its constant
size_fits : (width : PointerWidth) (size : ℕ) → fits_pointer width size ≡ true → IsConstant (pointer_type_of width) (size_constant size) size
size_fits U16 size fits =
    let below : size < 2 ^ 16 = ltb-true size (2 ^ 16) fits in
    ap (wrapped 16) (to_z_pos w64 (omega (arith, below))) ∙ mod-eq_of_lt below
size_fits U32 size fits =
    let below : size < 2 ^ 32 = ltb-true size (2 ^ 32) fits in
    ap (wrapped 32) (to_z_pos w64 (omega (arith, below))) ∙ mod-eq_of_lt below
size_fits U64 size fits = by (cases_lt size (2 ^ 63))
  where
    below : size < 2 ^ 64
    below = ltb-true size (2 ^ 64) fits

    by : (size < 2 ^ 63) ⊎ (2 ^ 63 ≤ size) → IsConstant (pointer_type_of U64) (size_constant size) size
    by (inl low) = ap (wrapped 64) (to_z_pos w64 low) ∙ mod-eq_of_lt below
    by (inr high) =
        let rest : ℕ = 2 ^ 64 - suc size in
        let back : 2 ^ 64 - suc rest ≡ size = omega (arith, below) in
        let small : rest < 2 ^ 63 = omega (arith, high, below) in
        ap (λ (n : ℕ). wrapped 64 (cast_signed w64 n)) (sym back) ∙ ap (wrapped 64) (to_z-neg w64 rest small)
        ∙ ap (λ (n : ℕ). 2 ^ 64 - 1 - n) (mod-eq_of_lt (omega (arith, small))) ∙ omega (arith, below)

byte_fits : (byte : ℕ) → byte < 256 → IsConstant i8 (pos byte) byte
byte_fits byte below = mod-eq_of_lt below

-- PLANS -------------------------------------------------------------------------------------------------------------------

size_some : (size : ℕ) → (size == 0) ≡ false → 0 < size
size_some zero none = let no_way : true ≡ false = none in cc
size_some (suc size) none = omega arith

-- what an inline plan has
abbrev accesses_of : ℕ → Accesses
accesses_of size = record { ty = type_of_bytes (access_size size); bytes = access_size size; count = size / access_size size }

plan_is : (size : ℕ) (inside : Bool) → (size == 0) ≡ false → is_by_accesses size ≡ inside → move_plan size ≡ (if inside then move.Inline (accesses_of size) else move.LibraryCall)
plan_is size inside some is =
    ap (λ (none : Bool). if none then move.Nothing else (if is_by_accesses size then move.Inline (accesses_of size) else move.LibraryCall)) some
    ∙ ap (λ (c : Bool). if c then move.Inline (accesses_of size) else move.LibraryCall) is

int_of_power : (exponent : ℕ) → exponent ≤ 3 → IsTrue (is_int (type_of_bytes (2 ^ exponent)))
int_of_power zero few = refl
int_of_power (suc zero) few = refl
int_of_power (suc (suc zero)) few = refl
int_of_power (suc (suc (suc zero))) few = refl
int_of_power (suc (suc (suc (suc more)))) few = absurd (omega (arith, few))

int_of_access : (size : ℕ) → (size == 0) ≡ false → has_64 size → IsTrue (is_int (type_of_bytes (access_size size)))
int_of_access size some small =
    let access = (plans_are_exact.accesses size (size_some size some) small).is_access in
    subst (λ (bytes : ℕ). IsTrue (is_int (type_of_bytes bytes))) (sym access.is_power) (int_of_power access.exponent access.few)

has_accesses : (size : ℕ) → (size == 0) ≡ false → has_64 size → is_by_accesses size ≡ true → HasAccesses (type_of_bytes (access_size size)) size (size / access_size size)
has_accesses size some small inside =
    record { few = inside; access = (plans_are_exact.accesses size (size_some size some) small).is_access; many = refl }

some_accesses : (size : ℕ) → (size == 0) ≡ false → has_64 size → 0 < size / access_size size
some_accesses size some small = by (size / access_size size) (plans_are_exact.accesses size (size_some size some) small).whole
  where
    by : (count : ℕ) → count * access_size size ≡ size → 0 < count
    by zero whole = let above = size_some size some in absurd (omega (arith, whole, above))
    by (suc count) whole = omega arith

fits_of : (width : PointerWidth) (size alignment : ℕ) → (size == 0) ≡ false → may_move width size alignment ≡ true → fits_pointer width size ≡ true
fits_of width size alignment some may =
    (and_parts (nat_le alignment (greatest_power size)) (fits_pointer width size)
    (sym (ap (λ (none : Bool). none || (nat_le alignment (greatest_power size) && fits_pointer width size)) some) ∙ may)).1

-- READINGS ----------------------------------------------------------------------------------------------------------------

-- what reads more reads this
reading_more : (pointer : «Type») (line : Line) (Reads More : Reading → Type 0) → ((reading : Reading) → More reading → Reads reading) → LineStands pointer line Reads → LineStands pointer line More
reading_more pointer line Reads More less stands = record {
  joined = stands.joined;
  performed = λ imports given reading plain calls imported are done reads may. stands.performed imports given reading plain calls imported are done (less reading reads) may;
}

reads_two : (a b x y : Name) (reading : Reading) → AllZip (IsReadAs reading) (a ∷ b ∷ []) (x ∷ y ∷ []) → ReadsTwo reading a b x y
reads_two a b x y reading are = record { first_read = are.0; second_read = are.1.0 }

reads_three : (a b n x y z : Name) (reading : Reading) → AllZip (IsReadAs reading) (a ∷ b ∷ n ∷ []) (x ∷ y ∷ z ∷ []) → ReadsThree reading a b n x y z
reads_three a b n x y z reading are = record { first_read = are.0; second_read = are.1.0; third_read = are.1.1.0 }

-- REQUESTS ----------------------------------------------------------------------------------------------------------------

-- instructions that are all but the last one and the last one
in_parts : (all front : List (Instruction Name Name)) (last : Instruction Name Name) → front ++ last ∷ [] ≡ all → map building all ≡ map building front ++ building last ∷ []
in_parts all front last parts = ap (map building) (sym parts) ∙ map-append building front (last ∷ [])

none_on : (place : ℕ) → place ≡ 0 + place
none_on place = omega arith

two_on : (place : ℕ) → suc (suc place) ≡ 2 + place
two_on place = omega arith

-- the calls of a comparison by this plan
abbrev AreCompared : ComparePlan → (constant : ℤ → Script) (loads : «Type» → Script) (call : Script) (first second : TableEntry) (given : List GivenEntry) → Line → (place : ℕ) → Type 0
AreCompared (compare.Constant number) constant loads call first second given line place = constant number ≡ line_calls_with given [] (line.code place) (line.last place)
AreCompared (compare.Inline ty) constant loads call first second given line place = loads ty ≡ line_calls_with given [] (line.code place) (line.last place)
AreCompared (compare.LibraryCall condition) constant loads call first second given line place =
    call ≡ line_calls_with given (first ∷ second ∷ []) (line.code (suc (suc place))) (line.last (suc (suc place)))

-- the calls by a plan
inline_requests : (plan : MovePlan) (accesses : Accesses) (pieces : Accesses → Script) (call : Script) (entries : List TableEntry) (line : Line) (place : ℕ) → plan ≡ move.Inline accesses
    → pieces accesses ≡ line_calls_with [] [] (line.code place) (line.last place)
    → moved_by plan pieces call ≡ line_calls_with [] (if_moved_by_call plan entries) (line.code (length (if_moved_by_call plan entries) + place)) (line.last (length (if_moved_by_call plan entries) + place))
inline_requests plan accesses pieces call entries line place is same =
    subst (λ (p : MovePlan). moved_by p pieces call
    ≡ line_calls_with [] (if_moved_by_call p entries) (line.code (length (if_moved_by_call p entries) + place)) (line.last (length (if_moved_by_call p entries) + place))) (sym is)
    (same ∙ ap (λ (n : ℕ). line_calls_with [] [] (line.code n) (line.last n)) (none_on place))

called_requests : (plan : MovePlan) (pieces : Accesses → Script) (call : Script) (first second : TableEntry) (given : List GivenEntry) (line : Line) (place : ℕ) → plan ≡ move.LibraryCall
    → call ≡ line_calls_with given (first ∷ second ∷ []) (line.code (suc (suc place))) (line.last (suc (suc place)))
    → moved_by plan pieces call
    ≡ line_calls_with given (if_moved_by_call plan (first ∷ second ∷ [])) (line.code (length (if_moved_by_call plan (first ∷ second ∷ [])) + place))
    (line.last (length (if_moved_by_call plan (first ∷ second ∷ [])) + place))
called_requests plan pieces call first second given line place is same =
    subst (λ (p : MovePlan). moved_by p pieces call
    ≡ line_calls_with given (if_moved_by_call p (first ∷ second ∷ [])) (line.code (length (if_moved_by_call p (first ∷ second ∷ [])) + place))
    (line.last (length (if_moved_by_call p (first ∷ second ∷ [])) + place))) (sym is)
    (same ∙ ap (λ (n : ℕ). line_calls_with given (first ∷ second ∷ []) (line.code n) (line.last n)) (two_on place))

compared_requests : (plan is_plan : ComparePlan) (constant : ℤ → Script) (loads : «Type» → Script) (call : Script) (first second : TableEntry) (given : List GivenEntry) (line : Line) (place : ℕ)
    → plan ≡ is_plan → AreCompared is_plan constant loads call first second given line place
    → compared_by plan constant loads call
    ≡ line_calls_with given (if_compared_by_call plan (first ∷ second ∷ [])) (line.code (length (if_compared_by_call plan (first ∷ second ∷ [])) + place))
    (line.last (length (if_compared_by_call plan (first ∷ second ∷ [])) + place))
compared_requests plan is_plan constant loads call first second given line place is same =
    subst (λ (p : ComparePlan). compared_by p constant loads call
    ≡ line_calls_with given (if_compared_by_call p (first ∷ second ∷ [])) (line.code (length (if_compared_by_call p (first ∷ second ∷ [])) + place))
    (line.last (length (if_compared_by_call p (first ∷ second ∷ [])) + place))) (sym is) (by is_plan same)
  where
    by : (p : ComparePlan) → AreCompared p constant loads call first second given line place
        → compared_by p constant loads call
        ≡ line_calls_with given (if_compared_by_call p (first ∷ second ∷ [])) (line.code (length (if_compared_by_call p (first ∷ second ∷ [])) + place))
        (line.last (length (if_compared_by_call p (first ∷ second ∷ [])) + place))
    by (compare.Constant number) made = made ∙ ap (λ (n : ℕ). line_calls_with given [] (line.code n) (line.last n)) (none_on place)
    by (compare.Inline ty) made = made ∙ ap (λ (n : ℕ). line_calls_with given [] (line.code n) (line.last n)) (none_on place)
    by (compare.LibraryCall condition) made = made ∙ ap (λ (n : ℕ). line_calls_with given (first ∷ second ∷ []) (line.code n) (line.last n)) (two_on place)

-- COPIES ------------------------------------------------------------------------------------------------------------------

module _ (config : TargetFrontendConfig) (copy : CopyShape) (filling : ℤ) (tables : TableLists) (a b x y : Name) (may : IsTrue (may_make config.pointer_width (Copy copy))) (small : has_64 copy.size)
    (some : (copy.size == 0) ≡ false) where
  abbrev callee : LibCall
  callee = copying_function copy.no_overlap

  abbrev pointer : «Type»
  pointer = pointer_type_of config.pointer_width

  abbrev ty : «Type»
  ty = type_of_bytes (access_size copy.size)

  abbrev count : ℕ
  count = copy.size / access_size copy.size

  abbrev inline_line : Line
  inline_line = copied_line copy pointer ty count a b x y

  abbrev called_line : Line
  called_line = copy_line copy (library_signature config callee) pointer (size_constant copy.size) a b x y

  copied : (inside : Bool) → is_by_accesses copy.size ≡ inside → IsLineOf config (Copy copy) filling tables (a ∷ b ∷ []) (x ∷ y ∷ [])
  copied true inside = record {
    line = inline_line;
    how = refl;
    emission = refl;
    answered = λ place. refl;
    given = [];
    imported = tt;
    requests = λ place.
        inline_requests (move_plan copy.size) (accesses_of copy.size) _ _ (library_entries config callee tables) inline_line place (plan_is copy.size true some inside)
        (in_parts (copy_instructions copy ty a b place count) (all_but_last (copy_instructions copy ty a b place count)) (last_of (none_of_it ty) (copy_instructions copy ty a b place count))
        (pieces_stand.all_copies copy ty a b place count (some_accesses copy.size some small)));
    stands = reading_more pointer inline_line _ _ (reads_two a b x y)
        (pieces_stand.copies pointer ty copy count a b x y (int_of_access copy.size some small) (has_accesses copy.size some small inside) (some_accesses copy.size some small));
  }
  copied false outside = record {
    line = called_line;
    how = refl;
    emission = refl;
    answered = λ place. refl;
    given = imported tables;
    imported = (tt, tt);
    requests = λ place. called_requests (move_plan copy.size) _ _ _ _ (imported tables) called_line place (plan_is copy.size false some outside) refl;
    stands = reading_more pointer called_line _ _ (reads_two a b x y)
        (known_calls_stand.copies pointer (library_signature config callee) copy (size_constant copy.size) a b x y (signed config callee)
        (size_fits config.pointer_width copy.size (fits_of config.pointer_width copy.size (min copy.target_alignment copy.source_alignment) some may)));
  }

-- FILLS -------------------------------------------------------------------------------------------------------------------

module _ (config : TargetFrontendConfig) (fill : FillShape) (filling : ℤ) (tables : TableLists) (a x : Name) (may : IsTrue (may_make config.pointer_width (Fill fill))) (small : has_64 fill.size)
    (byte : fill.byte < 256) (some : (fill.size == 0) ≡ false) (fills : FillsWith (Fill fill) filling) where
  abbrev set_pointer : «Type»
  set_pointer = pointer_type_of config.pointer_width

  abbrev stored : «Type»
  stored = type_of_bytes (access_size fill.size)

  abbrev times : ℕ
  times = fill.size / access_size fill.size

  abbrev stored_line : Line
  stored_line = filled_line fill set_pointer stored filling times a x

  abbrev set_by_call : Line
  set_by_call = fill_line fill (library_signature config Memset) set_pointer (pos fill.byte) (size_constant fill.size) a x

  filled : (inside : Bool) → is_by_accesses fill.size ≡ inside → IsLineOf config (Fill fill) filling tables (a ∷ []) (x ∷ [])
  filled true inside = record {
    line = stored_line;
    how = refl;
    emission = refl;
    answered = λ place. refl;
    given = [];
    imported = tt;
    requests = λ place.
        inline_requests (move_plan fill.size) (accesses_of fill.size) _ _ (library_entries config Memset tables) stored_line place (plan_is fill.size true some inside)
        (in_parts (fill_instructions fill stored filling a place times) (all_but_last (fill_instructions fill stored filling a place times)) (last_of (none_of_it stored) (fill_instructions fill stored filling a place times))
        (pieces_stand.all_fills fill stored filling a place times));
    stands = reading_more set_pointer stored_line _ _ (λ reading are. are.0)
        (pieces_stand.fills set_pointer stored fill filling times a x (int_of_access fill.size some small) (has_accesses fill.size some small inside)
        (fills (accesses_of fill.size) (plan_is fill.size true some inside)));
  }
  filled false outside = record {
    line = set_by_call;
    how = refl;
    emission = refl;
    answered = λ place. refl;
    given = imported tables;
    imported = (tt, tt);
    requests = λ place. called_requests (move_plan fill.size) _ _ _ _ (imported tables) set_by_call place (plan_is fill.size false some outside) refl;
    stands = reading_more set_pointer set_by_call _ _ (λ reading are. are.0)
        (fill_calls_stand.fills set_pointer (library_signature config Memset) fill (pos fill.byte) (size_constant fill.size) a x (signed config Memset) (byte_fits fill.byte byte)
        (size_fits config.pointer_width fill.size (fits_of config.pointer_width fill.size fill.alignment some may)));
  }

-- COMPARISONS -------------------------------------------------------------------------------------------------------------

-- an integer of as many bits
abbrev IsPower : ℕ → Type 0
IsPower size = (exponent : ℕ) × (size ≡ 2 ^ exponent) × (exponent ≤ 4)

exactly : (size bits exponent : ℕ) → bits ≡ 8 * 2 ^ exponent → exponent ≤ 4 → (8 * size == bits) ≡ true → IsPower size
exactly size bits exponent eighth few same = let are = eqb-true (8 * size) bits same in (exponent, omega (arith, are, eighth), few)

power_of_bits : (size : ℕ) → is_some (int_of (8 * size)) ≡ true → IsPower size
power_of_bits size is = by (8 * size == 8) (8 * size == 16) (8 * size == 32) (8 * size == 64) (8 * size == 128) refl refl refl refl refl is
  where
    by : (c1 c2 c3 c4 c5 : Bool) → (8 * size == 8) ≡ c1 → (8 * size == 16) ≡ c2 → (8 * size == 32) ≡ c3 → (8 * size == 64) ≡ c4 → (8 * size == 128) ≡ c5
        → is_some (if c1 then Some (type.Lane lane.I8) else (if c2 then Some (type.Lane lane.I16) else (if c3 then Some (type.Lane lane.I32) else (if c4 then Some (type.Lane lane.I64) else (if c5 then Some (type.Lane lane.I128) else None))))) ≡ true
        → IsPower size
    by true c2 c3 c4 c5 one two four eight sixteen found = exactly size 8 0 refl (omega arith) one
    by false true c3 c4 c5 one two four eight sixteen found = exactly size 16 1 refl (omega arith) two
    by false false true c4 c5 one two four eight sixteen found = exactly size 32 2 refl (omega arith) four
    by false false false true c5 one two four eight sixteen found = exactly size 64 3 refl (omega arith) eight
    by false false false false true one two four eight sixteen found = exactly size 128 4 refl (omega arith) sixteen
    by false false false false false one two four eight sixteen found = absurd (false≢true found)

-- so it is where there are loads
power_of_loads : (condition : IntCC) (size : ℕ) → is_by_loads condition size ≡ true → IsPower size
power_of_loads cc.Equal size is = power_of_bits size is
power_of_loads cc.NotEqual size is = power_of_bits size is
power_of_loads _ size is = (0, eqb-true size 1 is, omega arith)

loaded_int : (exponent : ℕ) → exponent ≤ 4 → IsTrue (is_int (type_of_bytes (2 ^ exponent)))
loaded_int zero few = refl
loaded_int (suc zero) few = refl
loaded_int (suc (suc zero)) few = refl
loaded_int (suc (suc (suc zero))) few = refl
loaded_int (suc (suc (suc (suc zero)))) few = refl
loaded_int (suc (suc (suc (suc (suc more))))) few = absurd (omega (arith, few))

loaded_bits : (exponent : ℕ) → exponent ≤ 4 → bits_of (type_of_bytes (2 ^ exponent)) ≡ 8 * 2 ^ exponent
loaded_bits zero few = refl
loaded_bits (suc zero) few = refl
loaded_bits (suc (suc zero)) few = refl
loaded_bits (suc (suc (suc zero))) few = refl
loaded_bits (suc (suc (suc (suc zero)))) few = refl
loaded_bits (suc (suc (suc (suc (suc more))))) few = absurd (omega (arith, few))

module _ (config : TargetFrontendConfig) (compared : CompareShape) (filling : ℤ) (tables : TableLists) (a b x y : Name)
    (may : IsTrue (may_make config.pointer_width (CompareBytes compared))) where
  abbrev sides : «Type»
  sides = pointer_type_of config.pointer_width

  abbrev loaded : «Type»
  loaded = type_of_bytes compared.size

  abbrev by_loads_line : Line
  by_loads_line = loads_line compared sides loaded a b x y

  abbrev by_call_line : Line
  by_call_line = compare_line compared (library_signature config Memcmp) sides (size_constant compared.size) a b x y

  abbrev IsComparison : Type 0
  IsComparison = IsLineOf config (CompareBytes compared) filling tables (a ∷ b ∷ []) (x ∷ y ∷ [])

  compared_plan : (none loads : Bool) → (compared.size == 0) ≡ none → is_by_loads compared.condition compared.size ≡ loads
      → compare_plan compared.condition compared.size
      ≡ (if none then compare.Constant (told_of_none compared.condition) else (if loads then compare.Inline loaded else compare.LibraryCall (sign_condition compared.condition)))
  compared_plan none loads is are =
      ap (λ (c : Bool). if c then compare.Constant (told_of_none compared.condition)
      else (if is_by_loads compared.condition compared.size then compare.Inline loaded else compare.LibraryCall (sign_condition compared.condition))) is
      ∙ ap (λ (c : Bool). if none then compare.Constant (told_of_none compared.condition)
      else (if c then compare.Inline loaded else compare.LibraryCall (sign_condition compared.condition))) are

  fits : fits_pointer config.pointer_width compared.size ≡ true
  fits = (and_parts (is_unsigned compared.condition) (fits_pointer config.pointer_width compared.size) may).1

  by_plan : (none loads : Bool) → (compared.size == 0) ≡ none → is_by_loads compared.condition compared.size ≡ loads → IsComparison
  by_plan true loads none are = record {
    line = constant_line compared sides x y;
    how = refl;
    emission = refl;
    answered = λ place. refl;
    given = [];
    imported = tt;
    requests = λ place.
        compared_requests (compare_plan compared.condition compared.size) (compare.Constant (told_of_none compared.condition)) _ _ _ _ _ [] (constant_line compared sides x y) place
        (compared_plan true loads none are) refl;
    stands = reading_more sides (constant_line compared sides x y) _ _ (reads_two a b x y) (fill_calls_stand.nothing sides compared a b x y (eqb-true compared.size 0 none));
  }
  by_plan false true none are =
      let power = power_of_loads compared.condition compared.size are in
      record {
        line = by_loads_line;
        how = refl;
        emission = refl;
        answered = λ place. refl;
        given = [];
        imported = tt;
        requests = λ place.
            compared_requests (compare_plan compared.condition compared.size) (compare.Inline loaded) _ _ _ _ _ [] by_loads_line place (compared_plan false true none are) refl;
        stands = reading_more sides by_loads_line _ _ (reads_two a b x y)
            (fill_calls_stand.loads sides loaded compared a b x y (subst (λ (size : ℕ). IsTrue (is_int (type_of_bytes size))) (sym power.1) (loaded_int power.0 power.2))
            (record {
              by_loads = are;
              bits = ap (λ (size : ℕ). bits_of (type_of_bytes size)) power.1 ∙ loaded_bits power.0 power.2 ∙ ap (λ (size : ℕ). 8 * size) (sym power.1);
              exponent = power.0;
              is_power = power.1;
              few = power.2;
            }));
      }
  by_plan false false none are = record {
    line = by_call_line;
    how = refl;
    emission = refl;
    answered = λ place. refl;
    given = imported tables;
    imported = (tt, tt);
    requests = λ place.
        compared_requests (compare_plan compared.condition compared.size) (compare.LibraryCall (sign_condition compared.condition)) _ _ _ _ _ (imported tables) by_call_line place
        (compared_plan false false none are) refl;
    stands = reading_more sides by_call_line _ _ (reads_two a b x y)
        (known_calls_stand.compares sides (library_signature config Memcmp) compared (size_constant compared.size) a b x y (signed config Memcmp)
        (size_fits config.pointer_width compared.size fits));
  }

-- SIZES THAT ARE VALUES ---------------------------------------------------------------------------------------------------

sized : (config : TargetFrontendConfig) (callee : LibCall) (filling : ℤ) (tables : TableLists) (a b n x y z : Name)
    → IsLineOf config (CallLibrary callee) filling tables (a ∷ b ∷ n ∷ []) (x ∷ y ∷ z ∷ [])
sized config Memcpy filling tables a b n x y z =
    let line : Line = single_line AreGenerated Memcpy (library_signature config Memcpy) (pointer_type_of config.pointer_width) a b n x y z in
    record {
      line = line;
      how = refl;
      emission = refl;
      answered = λ place. refl;
      given = imported tables;
      imported = (tt, tt);
      requests = λ place. refl;
      stands = reading_more (pointer_type_of config.pointer_width) line _ _ (reads_three a b n x y z)
          (single_calls_stand.copies (pointer_type_of config.pointer_width) (library_signature config Memcpy) a b n x y z (signed config Memcpy));
    }
sized config Memmove filling tables a b n x y z =
    let line : Line = single_line AreGenerated Memmove (library_signature config Memmove) (pointer_type_of config.pointer_width) a b n x y z in
    record {
      line = line;
      how = refl;
      emission = refl;
      answered = λ place. refl;
      given = imported tables;
      imported = (tt, tt);
      requests = λ place. refl;
      stands = reading_more (pointer_type_of config.pointer_width) line _ _ (reads_three a b n x y z)
          (single_calls_stand.moves (pointer_type_of config.pointer_width) (library_signature config Memmove) a b n x y z (signed config Memmove));
    }
sized config Memcmp filling tables a b n x y z =
    let line : Line = single_line AreGiven Memcmp (library_signature config Memcmp) (pointer_type_of config.pointer_width) a b n x y z in
    record {
      line = line;
      how = refl;
      emission = refl;
      answered = λ place. refl;
      given = imported tables;
      imported = (tt, tt);
      requests = λ place. refl;
      stands = reading_more (pointer_type_of config.pointer_width) line _ _ (reads_three a b n x y z)
          (single_calls_stand.compares (pointer_type_of config.pointer_width) (library_signature config Memcmp) a b n x y z (signed config Memcmp));
    }
sized config Memset filling tables a b n x y z =
    let line : Line = set_line (library_signature config Memset) (pointer_type_of config.pointer_width) a b n x y z in
    record {
      line = line;
      how = refl;
      emission = refl;
      answered = λ place. refl;
      given = imported tables;
      imported = (tt, tt);
      requests = λ place. ap (λ (k : ℕ). line_calls_with (imported tables) (library_entries config Memset tables) (line.code k) (line.last k)) (two_on place);
      stands = reading_more (pointer_type_of config.pointer_width) line _ _ (reads_three a b n x y z)
          (fill_calls_stand.sets (pointer_type_of config.pointer_width) (library_signature config Memset) a b n x y z (signed config Memset));
    }

pub helpers_are_lines : HelpersAreLines
helpers_are_lines = record {
  copies = λ config copy filling tables a b x y may small some. copied config copy filling tables a b x y may small some (is_by_accesses copy.size) refl;
  fills = λ config fill filling tables a x may small byte some fills. filled config fill filling tables a x may small byte some fills (is_by_accesses fill.size) refl;
  compares = λ config compared filling tables a b x y may. by_plan config compared filling tables a b x y may (compared.size == 0) (is_by_loads compared.condition compared.size) refl refl;
  sized = sized;
}
