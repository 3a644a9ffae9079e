-- Calls of `Memset` stand for fills, and two loads for a comparison.
use Rattle.std.proofs.Common.{◌≡◌, ◌⊎◌, inl, inr, ◌+◌, ◌<◌, ◌&&◌, ℕ, suc, ℤ, pos, true, List, [], ◌∷◌, ◌++◌, length, map, refl, sym, ◌∙◌, ap, subst, arith}
use Rattle.std.specs.Prelude.{◌≢◌, IsTrue, Option, Some, None, is_some}
use Rattle.std.specs.List.{list_all}
use Rattle.std.proofs.lemmas.Bool.{and_parts}
use Rattle.clif_opcodes.specs.Kinds.{is_address}
use Rattle.clif_opcodes.specs.Typing.{AreOfKinds}
use Rattle.clif_opcodes.specs.declared.kinds.OperandKind.TheVariants.{Address, Narrower}
use Rattle.clif_opcodes.specs.declared.opcodes.ConvertOpcode.TheVariants.{Uextend}
use Rattle.clif_types.specs.Signature.{SignatureShape}
use Rattle.clif_types.specs.Types.{bits_of, is_int, is_type}
use Rattle.clif_types.specs.declared.libcall.LibCall.TheVariants.{Memset}
use Rattle.clif_types.specs.declared.types.LaneType.TheVariants as lane
use Rattle.clif_types.specs.declared.types.«Type».{«Type»}
use Rattle.clif_types.specs.declared.types.«Type».TheVariants as type
use Rattle.clif_access_plans.specs.Plans.{is_aligned_load}
use Rattle.clif_meaning.specs.Acceptance.{is_open}
use Rattle.clif_meaning.specs.ByteOperation.{CallLibrary, CompareBytes, CompareShape, Fill, FillShape}
use Rattle.clif_meaning.specs.Instruction.{Bytes, Convert, Iconst, Instruction, Load}
use Rattle.clif_meaning.specs.Ledger.{Ledger, has_value, ledger_with, type_of}
use Rattle.clif_meaning.specs.Library.{pointer_of}
use Rattle.clif_meaning.specs.Name.{Name, answer_of}
use Rattle.clif_meaning.specs.Program.{Item, Instruct, answers_from}
use Rattle.clif_expansion.specs.Code.{NameTypes, PerformsItem}
use Rattle.clif_expansion.specs.Constants.{computing}
use Rattle.clif_expansion.specs.Emission.{AreGenerated, AreGiven, building, reading_behind}
use Rattle.clif_expansion.specs.JoinedPrograms.{built_items}
use Rattle.clif_expansion.specs.Joining.{IsJoined}
use Rattle.clif_expansion.specs.Laying.{IsLaid}
use Rattle.clif_expansion.specs.PerformedCalls.{HaveTypes, IsPerformed}
use Rattle.clif_expansion.specs.Reading.{Generated, IsReadAs, Reading}
use Rattle.clif_expansion.specs.ScriptCall.{Emit, can_emit, can_emit_bytes, emitted_item, is_byte, is_pointer}
use Rattle.clif_expansion.proofs.EmittedPrograms.{emitted_before, emitted_inner, emitted_none, emitted_result}
use Rattle.clif_expansion.proofs.LedgerTypes.{call_types_before, types_before}
use Rattle.clif_expansion.proofs.ReadConditions
use Rattle.clif_helper_calls.specs.Codes.{doing, flags_where}
use Rattle.clif_helper_calls.specs.FillStanding.{FillCallsStand, fill_emission, fill_first, fill_last, fill_line, loads_first, loads_last, loads_line, set_first, set_last, set_line}
use Rattle.clif_helper_calls.specs.KnownStanding.{compare_emission}
use Rattle.clif_helper_calls.specs.LibraryCodes.{IsConstant, fill_call_code, i32, i8, set_code}
use Rattle.clif_helper_calls.specs.Performing.{HasLoads}
use Rattle.clif_helper_calls.specs.PerformingCalls.{HasSignature, ReadsThree, ReadsTwo}
use Rattle.clif_helper_calls.specs.Standing.{library_emission}
use Rattle.clif_helper_calls.proofs.Called.{calls_are_performed}
use Rattle.clif_helper_calls.proofs.Known.{known_calls_are_performed}
use Rattle.clif_helper_calls.proofs.KnownStanding.{answer_typed, longer, pointer_is_int}
use Rattle.clif_helper_calls.proofs.Laid.{codes_are_laid}
use Rattle.clif_helper_calls.proofs.Loads.{loads_are_performed}
use Rattle.clif_helper_calls.proofs.Lines.{line_stands}
use Rattle.clif_helper_calls.proofs.Nothing.{nothing_stands}
use Rattle.clif_helper_calls.proofs.Standing.{own_pointer, three_read, two_read}

three_types : (a b c p own w : «Type») → a ≡ p → b ≡ w → c ≡ p → own ≡ p → a ∷ b ∷ c ∷ [] ≡ own ∷ w ∷ own ∷ []
three_types a b c p own w first second third is = cc

-- a byte is narrower than 32 bits
narrower : (t : «Type») → t ≡ i8 → AreOfKinds i32 (Narrower ∷ []) (t ∷ [])
narrower t is = subst (λ (u : «Type»). AreOfKinds i32 (Narrower ∷ []) (u ∷ [])) (sym is) ((refl, omega arith), tt)

-- VALUES ------------------------------------------------------------------------------------------------------------------

module _ (pointer : «Type») (signature : SignatureShape) (has : HasSignature (bits_of pointer) Memset signature) (a b c x y z : Name)
    (reading : Reading) (plain ledger : Ledger) (joined : IsJoined reading plain ledger) (reads : ReadsThree reading a b c x y z) (pointed : is_pointer pointer ≡ true) where
  abbrev n : ℕ
  n = length plain.answers

  abbrev last : Instruction Name Name
  last = set_last signature n a c

  abbrev behind : Reading
  behind = reading_behind AreGenerated reading plain ledger (set_first b)

  set_built : built_items n (set_first b ++ last ∷ []) ≡ set_code signature n a b c (answer_of n 1) (answer_of (suc n) 1)
  set_built = ap (λ (ts : List «Type»). Instruct n (computing (Convert Uextend) i32 (b ∷ [])) (answer_of n 1 ∷ []) ∷ Instruct (suc n) last (answers_from (suc n) 1 ts) ∷ []) has.returns

  still : (name given : Name) → IsReadAs reading name given → IsReadAs behind name given
  still name given is = emitted_before AreGenerated reading plain ledger (set_first b) name (joined.made name given is).0 ∙ is

  reads_behind : ReadsThree behind a b c x y z
  reads_behind = record { first_read = still a x reads.first_read; second_read = still b y reads.second_read; third_read = still c z reads.third_read }

  set_done : IsPerformed (bits_of pointer) AreGenerated reading plain ledger (set_first b) last (library_emission Memset pointer x y z)
  set_done = record {
    performs = λ types have' have.
        subst (λ (items : List Item). PerformsItem (bits_of pointer) behind types items (emitted_item (length ledger.answers) (library_emission Memset pointer x y z))) (sym set_built)
        (calls_are_performed.sets (bits_of pointer) behind types pointer signature n a b c x y z (answer_of n 1) (answer_of (suc n) 1) refl has reads_behind
        (emitted_inner AreGenerated reading plain ledger (set_first b) n 0 1 (omega arith) (omega arith)) (emitted_none reading plain ledger (set_first b) (suc n) 1 (omega arith)));
    laid = λ program.
        subst (λ (items : List Item). IsLaid behind program items (emitted_item (length ledger.answers) (library_emission Memset pointer x y z))) (sym set_built)
        (codes_are_laid.sets behind program signature pointer n (length ledger.answers) (Bytes (CallLibrary Memset)) a b c x y z (answer_of n 1) (answer_of (suc n) 1) reads_behind);
    typed = λ types others have' agree typed. (
      record { made_at = refl; operands = narrower (types.plain b) (agree b y reads_behind.second_read ∙ typed.operands.1.0); edges = tt },
      (
        record {
          made_at = refl;
          operands = (
            tt,
            three_types (types.plain a) (types.plain (answer_of n 1)) (types.plain c) pointer (pointer_of (bits_of pointer)) i32
                (agree a x reads_behind.first_read ∙ typed.operands.0)
                (answer_typed plain (computing (Convert Uextend) i32 (b ∷ [])) (building last ∷ []) types.plain i32 n refl refl have')
                (agree c z reads_behind.third_read ∙ typed.operands.1.1.0) (own_pointer pointer pointed)
                ∙ sym has.parameters,
          );
          edges = tt;
        },
        tt,
      ),
    );
    as_named = (tt, (has, tt));
  }

-- KNOWN SIZES -------------------------------------------------------------------------------------------------------------

next_differs : (place : ℕ) → answer_of place 1 ≢ answer_of (suc place) 1
next_differs place same = let places : place ≡ suc place = ap (λ (name : Name). name.place) same in omega (arith, places)

module _ (pointer : «Type») (signature : SignatureShape) (fill : FillShape) (filling number : ℤ) (has : HasSignature (bits_of pointer) Memset signature)
    (filling_is : IsConstant i8 filling fill.byte) (constant : IsConstant pointer number fill.size) (a x : Name)
    (reading : Reading) (plain ledger : Ledger) (joined : IsJoined reading plain ledger) (read : IsReadAs reading a x) (pointed : is_pointer pointer ≡ true) where
  abbrev m : ℕ
  m = length plain.answers

  abbrev code : List (Instruction Name Name)
  code = fill_first pointer filling number m

  abbrev called : Instruction Name Name
  called = fill_last signature m a

  abbrev past : Reading
  past = reading_behind AreGenerated reading plain ledger code

  fill_built : built_items m (code ++ called ∷ [])
      ≡ fill_call_code signature pointer filling number m a (answer_of m 1) (answer_of (suc m) 1) (answer_of (suc (suc m)) 1) (answer_of (suc (suc (suc m))) 1)
  fill_built =
      ap (λ (ts : List «Type»). Instruct m (computing (Iconst filling) i8 []) (answer_of m 1 ∷ []) ∷ Instruct (suc m) (computing (Iconst number) pointer []) (answer_of (suc m) 1 ∷ [])
      ∷ Instruct (suc (suc m)) (computing (Convert Uextend) i32 (answer_of m 1 ∷ [])) (answer_of (suc (suc m)) 1 ∷ [])
      ∷ Instruct (suc (suc (suc m))) called (answers_from (suc (suc (suc m))) 1 ts) ∷ []) has.returns

  read_past : IsReadAs past a x
  read_past = emitted_before AreGenerated reading plain ledger code a (joined.made a x read).0 ∙ read

  inner : (place k : ℕ) → place ≡ m + k → k < 3 → past (answer_of place 1) ≡ Generated
  inner place k is below = emitted_inner AreGenerated reading plain ledger code place k 1 is below

  fill_done : IsPerformed (bits_of pointer) AreGenerated reading plain ledger code called (fill_emission fill pointer x)
  fill_done = record {
    performs = λ types have' have.
        subst (λ (items : List Item). PerformsItem (bits_of pointer) past types items (emitted_item (length ledger.answers) (fill_emission fill pointer x))) (sym fill_built)
        (known_calls_are_performed.fills (bits_of pointer) past types pointer signature fill filling number m a x
        (answer_of m 1) (answer_of (suc m) 1) (answer_of (suc (suc m)) 1) (answer_of (suc (suc (suc m))) 1) refl has filling_is constant read_past (
          inner m 0 (omega arith) (omega arith),
          (
            inner (suc m) 1 (omega arith) (omega arith),
            (
              inner (suc (suc m)) 2 (omega arith) (omega arith),
              (emitted_none reading plain ledger code (suc (suc (suc m))) 1 (omega arith), tt),
            ),
          ),
        ) (next_differs m) (next_differs (suc m)));
    laid = λ program.
        subst (λ (items : List Item). IsLaid past program items (emitted_item (length ledger.answers) (fill_emission fill pointer x))) (sym fill_built)
        (codes_are_laid.fill_calls past program signature pointer filling number m (length ledger.answers) (Bytes (Fill fill)) a x
        (answer_of m 1) (answer_of (suc m) 1) (answer_of (suc (suc m)) 1) (answer_of (suc (suc (suc m))) 1) read_past);
    typed = λ types others have' agree typed.
        let widening : Instruction Name Name = computing (Convert Uextend) i32 (answer_of m 1 ∷ []) in
        let bytes : Ledger = ledger_with plain (building (computing (Iconst filling) i8 [])) in
        let sizes : Ledger = ledger_with bytes (building (computing (Iconst number) pointer [])) in
        let one = longer plain (computing (Iconst filling) i8 []) in
        let two = longer bytes (computing (Iconst number) pointer []) in (
          record { made_at = refl; operands = tt; edges = tt },
          (
            record { made_at = pointer_is_int pointer pointed; operands = tt; edges = tt },
            (
              record {
                made_at = refl;
                operands = narrower (types.plain (answer_of m 1))
                    (answer_typed plain (computing (Iconst filling) i8 []) (building (computing (Iconst number) pointer []) ∷ building widening ∷ building called ∷ []) types.plain i8 m refl refl have');
                edges = tt;
              },
              (
                record {
                  made_at = refl;
                  operands = (
                    tt,
                    three_types (types.plain a) (types.plain (answer_of (suc (suc m)) 1)) (types.plain (answer_of (suc m) 1)) pointer (pointer_of (bits_of pointer)) i32
                        (agree a x read_past ∙ typed.operands.0)
                        (answer_typed sizes widening (building called ∷ []) types.plain i32 (suc (suc m)) (omega (arith, one, two)) refl have')
                        (answer_typed bytes (computing (Iconst number) pointer []) (building widening ∷ building called ∷ []) types.plain pointer (suc m) (sym one) refl have') (own_pointer pointer pointed)
                        ∙ sym has.parameters,
                  );
                  edges = tt;
                },
                tt,
              ),
            ),
          ),
        );
    as_named = (tt, (tt, (tt, (has, tt))));
  }

-- LOADS -------------------------------------------------------------------------------------------------------------------

pub int_is_type : (ty : «Type») → IsTrue (is_int ty) → IsTrue (is_type ty)
int_is_type type.Invalid is = cc
int_is_type (type.Vector l k) is = cc
int_is_type (type.Lane l) is = refl

pointer_is_address : (pointer : «Type») → is_pointer pointer ≡ true → IsTrue (is_address pointer)
pointer_is_address type.Invalid is = cc
pointer_is_address (type.Vector l n) is = cc
pointer_is_address (type.Lane lane.I8) is = cc
pointer_is_address (type.Lane lane.I16) is = refl
pointer_is_address (type.Lane lane.I32) is = refl
pointer_is_address (type.Lane lane.I64) is = refl
pointer_is_address (type.Lane lane.I128) is = cc
pointer_is_address (type.Lane lane.F16) is = cc
pointer_is_address (type.Lane lane.F32) is = cc
pointer_is_address (type.Lane lane.F64) is = cc
pointer_is_address (type.Lane lane.F128) is = cc

pub addressed : (t pointer ty : «Type») → t ≡ pointer → is_pointer pointer ≡ true → AreOfKinds ty (Address ∷ []) (t ∷ [])
addressed t pointer ty is pointed = subst (λ (u : «Type»). AreOfKinds ty (Address ∷ []) (u ∷ [])) (sym is) (pointer_is_address pointer pointed, tt)

module _ (pointer ty : «Type») (compare : CompareShape) (int : IsTrue (is_int ty)) (has : HasLoads ty compare) (a b x y : Name)
    (reading : Reading) (plain ledger : Ledger) (joined : IsJoined reading plain ledger) (reads : ReadsTwo reading a b x y)
    (may : IsTrue (can_emit (Bytes (CompareBytes compare)) pointer))
    (same_type : (types : NameTypes) → (name given : Name) → IsReadAs reading name given → (given ≡ x) ⊎ (given ≡ y) → HaveTypes plain types.plain → HaveTypes ledger types.script → types.plain name ≡ types.script given) where
  abbrev k : ℕ
  k = length plain.answers

  abbrev loading : List (Instruction Name Name)
  loading = loads_first compare ty a b

  abbrev compared : Instruction Name Name
  compared = loads_last compare ty k

  abbrev since : Reading
  since = reading_behind AreGiven reading plain ledger loading

  reads_since : ReadsTwo since a b x y
  reads_since = record {
    first_read = emitted_before AreGiven reading plain ledger loading a (joined.made a x reads.first_read).0 ∙ reads.first_read;
    second_read = emitted_before AreGiven reading plain ledger loading b (joined.made b y reads.second_read).0 ∙ reads.second_read;
  }

  within : (place i : ℕ) → place ≡ k + i → i < 2 → since (answer_of place 1) ≡ Generated
  within place i is below = emitted_inner AreGiven reading plain ledger loading place i 1 is below

  result_read : IsReadAs since (answer_of (suc (suc k)) 1) (answer_of (length ledger.answers) 0)
  result_read = emitted_result reading plain ledger loading (suc (suc k)) 0 (omega arith)

  pointed_loads : is_pointer pointer ≡ true
  pointed_loads = (and_parts (is_pointer pointer) (can_emit_bytes (CompareBytes compare) pointer) may).0

  loads_done : IsPerformed (bits_of pointer) AreGiven reading plain ledger loading compared (compare_emission compare pointer x y)
  loads_done = record {
    performs = λ types have' have.
        let before' : HaveTypes plain types.plain = types_before plain (map building loading ++ building compared ∷ []) types.plain have' in
        let before : HaveTypes ledger types.script = call_types_before ledger (Emit [] (compare_emission compare pointer x y)) types.script have in
        loads_are_performed (bits_of pointer) since types pointer ty compare k a b x y (answer_of k 1) (answer_of (suc k) 1) (answer_of (suc (suc k)) 1) (answer_of (length ledger.answers) 0) may has
        (record {
          left_read = reads_since.first_read;
          right_read = reads_since.second_read;
          left_typed = same_type types a x reads.first_read (inl refl) before' before;
          right_typed = same_type types b y reads.second_read (inr refl) before' before;
          one_generated = within k 0 (omega arith) (omega arith);
          two_generated = within (suc k) 1 (omega arith) (omega arith);
          apart = next_differs k;
          result_read = result_read;
        });
    laid = λ program.
        codes_are_laid.compares since program compare ty pointer k (length ledger.answers) (Bytes (CompareBytes compare)) a b x y (answer_of k 1) (answer_of (suc k) 1) (answer_of (suc (suc k)) 1)
        (answer_of (length ledger.answers) 0) reads_since result_read;
    typed = λ types others have' agree typed.
        let left_load : Instruction Name Name = doing (Load (flags_where compare.flags (is_aligned_load compare.condition compare.size compare.left_alignment)) (pos 0)) ty (a ∷ []) in
        let right_load : Instruction Name Name = doing (Load (flags_where compare.flags (is_aligned_load compare.condition compare.size compare.right_alignment)) (pos 0)) ty (b ∷ []) in
        let one = longer plain left_load in (
          record { made_at = int_is_type ty int; operands = addressed (types.plain a) pointer ty (agree a x reads_since.first_read ∙ typed.operands.0) pointed_loads; edges = tt },
          (
            record { made_at = int_is_type ty int; operands = addressed (types.plain b) pointer ty (agree b y reads_since.second_read ∙ typed.operands.1.0) pointed_loads; edges = tt },
            (
              record {
                made_at = int;
                operands = (
                  answer_typed plain left_load (building right_load ∷ building compared ∷ []) types.plain ty k refl refl have',
                  (answer_typed (ledger_with plain (building left_load)) right_load (building compared ∷ []) types.plain ty (suc k) (sym one) refl have', tt),
                );
                edges = tt;
              },
              tt,
            ),
          ),
        );
    as_named = (tt, (tt, (tt, tt)));
  }

-- A name that is read as a value of the script has its type.
some_type : (o : Option «Type») → is_some o ≡ true → (ty : «Type») × (o ≡ Some ty)
some_type None is = cc
some_type (Some ty) is = (ty, refl)

pub typed_alike : (reading : Reading) (plain ledger : Ledger) → IsJoined reading plain ledger → (types : NameTypes) (name given : Name) → IsReadAs reading name given
    → has_value ledger given ≡ true → HaveTypes plain types.plain → HaveTypes ledger types.script → types.plain name ≡ types.script given
typed_alike reading plain ledger joined types name given is there have' have =
    let found = some_type (type_of ledger given) there in
    have' name found.0 (ReadConditions.type_same reading plain ledger joined.ledgers joined.one_to_one name given is ∙ found.1) ∙ sym (have given found.0 found.1)

pub one_of_two : (ledger : Ledger) (x y given : Name) → list_all (has_value ledger) (x ∷ y ∷ []) ≡ true → (given ≡ x) ⊎ (given ≡ y) → has_value ledger given ≡ true
one_of_two ledger x y given are (inl same) = ap (has_value ledger) same ∙ (and_parts (has_value ledger x) (has_value ledger y && true) are).0
one_of_two ledger x y given are (inr same) =
    ap (has_value ledger) same ∙ (and_parts (has_value ledger y) true (and_parts (has_value ledger x) (has_value ledger y && true) are).1).0

pub fill_calls_stand : FillCallsStand
fill_calls_stand = record {
  sets = λ pointer signature a b c x y z has.
      line_stands pointer (set_line signature pointer a b c x y z) (λ reading. ReadsThree reading a b c x y z)
      (λ place. (record { no_edges = refl; goes_on = refl }, tt)) (λ place. record { no_edges = refl; goes_on = refl }) (record { no_edges = refl; goes_on = refl }) (λ place. refl)
      (λ reading later keeps reads. three_read reading later keeps a b c x y z reads)
      (λ reading plain ledger joined reads may.
      let ready =
      and_parts (is_byte (type_of ledger y) && is_open ledger ledger.current && list_all (has_value ledger) (x ∷ y ∷ z ∷ []) && true)
      (can_emit (Bytes (CallLibrary Memset)) pointer) may in
      let pointed = and_parts (is_pointer pointer) true ready.1 in
      set_done pointer signature has a b c x y z reading plain ledger joined reads pointed.0);
  fills = λ pointer signature fill filling number a x has filling_is constant.
      line_stands pointer (fill_line fill signature pointer filling number a x) (λ reading. IsReadAs reading a x)
      (λ place. (record { no_edges = refl; goes_on = refl }, (record { no_edges = refl; goes_on = refl }, (record { no_edges = refl; goes_on = refl }, tt))))
      (λ place. record { no_edges = refl; goes_on = refl }) (record { no_edges = refl; goes_on = refl }) (λ place. refl)
      (λ reading later keeps read. keeps a x read)
      (λ reading plain ledger joined read may.
      let ready = and_parts (is_open ledger ledger.current && list_all (has_value ledger) (x ∷ []) && true) (can_emit (Bytes (Fill fill)) pointer) may in
      let pointed = and_parts (is_pointer pointer) (can_emit_bytes (Fill fill) pointer) ready.1 in
      fill_done pointer signature fill filling number has filling_is constant a x reading plain ledger joined read pointed.0);
  nothing = nothing_stands;
  loads = λ pointer ty compare a b x y int has.
      line_stands pointer (loads_line compare pointer ty a b x y) (λ reading. ReadsTwo reading a b x y)
      (λ place. (record { no_edges = refl; goes_on = refl }, (record { no_edges = refl; goes_on = refl }, tt)))
      (λ place. record { no_edges = refl; goes_on = refl }) (record { no_edges = refl; goes_on = refl }) (λ place. refl)
      (λ reading later keeps reads. two_read reading later keeps a b x y reads)
      (λ reading plain ledger joined reads may.
      let ready = and_parts (is_open ledger ledger.current && list_all (has_value ledger) (x ∷ y ∷ []) && true) (can_emit (Bytes (CompareBytes compare)) pointer) may in
      loads_done pointer ty compare int has a b x y reading plain ledger joined reads ready.1
      (λ types name given is which have' have.
      let open_values = and_parts (is_open ledger ledger.current && list_all (has_value ledger) (x ∷ y ∷ [])) true ready.0 in
      let values = and_parts (is_open ledger ledger.current) (list_all (has_value ledger) (x ∷ y ∷ [])) open_values.0 in
      typed_alike reading plain ledger joined types name given is (one_of_two ledger x y given values.1 which) have' have));
}
