-- Calls with a constant size stand for the copy or the comparison that is emitted.
use Rattle.std.proofs.Common.{◌≡◌, ◌+◌, ◌<◌, ◌&&◌, ℕ, suc, ℤ, pos, true, false, Bool, List, [], ◌∷◌, ◌++◌, length, map, refl, sym, ◌∙◌, ap, subst, arith}
use Rattle.std.specs.Prelude.{◌≢◌, IsTrue, fold, slice_get}
use Rattle.std.specs.List.{list_all}
use Rattle.std.proofs.lemmas.Bool.{and_parts}
use Rattle.clif_types.specs.Signature.{SignatureShape}
use Rattle.clif_types.specs.Types.{bits_of, is_int}
use Rattle.clif_types.specs.declared.libcall.LibCall.TheVariants.{Memcmp}
use Rattle.clif_types.specs.declared.types.LaneType.TheVariants as lane
use Rattle.clif_types.specs.declared.types.«Type».{«Type»}
use Rattle.clif_types.specs.declared.types.«Type».TheVariants as type
use Rattle.clif_tables.specs.Callees.{types_of}
use Rattle.clif_meaning.specs.Acceptance.{is_open}
use Rattle.clif_meaning.specs.ByteOperation.{CompareBytes, CompareShape, Copy, CopyShape}
use Rattle.clif_meaning.specs.Instruction.{Bytes, Iconst, Instruction}
use Rattle.clif_meaning.specs.Ledger.{AValue, AnInstruction, Ledger, answers_to, has_value, ledger_with, value_answer_type}
use Rattle.clif_meaning.specs.Library.{library_parameters, library_returns, pointer_of}
use Rattle.clif_meaning.specs.Name.{Name, answer_of}
use Rattle.clif_meaning.specs.Program.{Item, Instruct, answers_from}
use Rattle.clif_meaning.specs.Request.{Script}
use Rattle.clif_expansion.specs.Code.{PerformsItem}
use Rattle.clif_expansion.specs.Constants.{computing}
use Rattle.clif_expansion.specs.Emission.{AreGenerated, AreGiven, building, reading_behind}
use Rattle.clif_expansion.specs.JoinedPrograms.{built_items}
use Rattle.clif_expansion.specs.Joining.{IsJoined}
use Rattle.clif_expansion.specs.Laying.{IsLaid}
use Rattle.clif_expansion.specs.PerformedCalls.{HaveTypes, IsPerformed}
use Rattle.clif_expansion.specs.Reading.{Generated, IsReadAs, Reading}
use Rattle.clif_expansion.specs.ScriptCall.{can_emit, can_emit_bytes, emitted_item, emitted_types, is_pointer}
use Rattle.clif_expansion.proofs.EmittedPrograms.{emitted_before, emitted_inner, emitted_none, emitted_result, one_longer}
use Rattle.clif_expansion.proofs.Joins.{answers_last}
use Rattle.clif_expansion.proofs.LedgerTypes.{types_before}
use Rattle.clif_helper_calls.specs.KnownStanding.{KnownCallsStand, compare_emission, compare_first, compare_last, compare_line, copy_emission, copy_first, copy_last, copy_line}
use Rattle.clif_helper_calls.specs.LibraryCodes.{IsConstant, calling, compare_call_code, copy_call_code, copying_function, i32}
use Rattle.clif_helper_calls.specs.PerformingCalls.{HasSignature, ReadsTwo}
use Rattle.clif_helper_calls.proofs.Known.{known_calls_are_performed}
use Rattle.clif_helper_calls.proofs.Laid.{codes_are_laid}
use Rattle.clif_helper_calls.proofs.Lines.{line_stands}
use Rattle.clif_helper_calls.proofs.Standing.{own_pointer, three_pointers, two_read}

pub pointer_is_int : (pointer : «Type») → is_pointer pointer ≡ true → IsTrue (is_int pointer)
pointer_is_int type.Invalid is = cc
pointer_is_int (type.Vector l n) is = cc
pointer_is_int (type.Lane lane.I8) is = cc
pointer_is_int (type.Lane lane.I16) is = refl
pointer_is_int (type.Lane lane.I32) is = refl
pointer_is_int (type.Lane lane.I64) is = refl
pointer_is_int (type.Lane lane.I128) is = cc
pointer_is_int (type.Lane lane.F16) is = cc
pointer_is_int (type.Lane lane.F32) is = cc
pointer_is_int (type.Lane lane.F64) is = cc
pointer_is_int (type.Lane lane.F128) is = cc

-- what a call of code answers has its type, in later ledgers, too
pub answer_typed : (plain : Ledger) (instruction : Instruction Name Name) (more : Script) (types : Name → «Type») (ty : «Type») (place : ℕ) → place ≡ length plain.answers
    → emitted_types instruction ≡ ty ∷ [] → HaveTypes (fold ledger_with (ledger_with plain (building instruction)) more) types → types (answer_of place 1) ≡ ty
answer_typed plain instruction more types ty place here gives have =
    ap (λ (n : ℕ). types (answer_of n 1)) here
    ∙ types_before (ledger_with plain (building instruction)) more types have (answer_of (length plain.answers) 1) ty
    (ap value_answer_type (answers_last plain.answers (AnInstruction ∷ map AValue (emitted_types instruction)) 1)
    ∙ ap (λ (ts : List «Type»). value_answer_type (slice_get (AnInstruction ∷ map AValue ts) 1)) gives)

pub longer : (plain : Ledger) (instruction : Instruction Name Name) → length (ledger_with plain (building instruction)).answers ≡ suc (length plain.answers)
longer plain instruction = one_longer plain.answers (answers_to plain (building instruction))

copying_returns : (no_overlap : Bool) (pointer : «Type») → library_returns pointer (copying_function no_overlap) ≡ pointer ∷ []
copying_returns true pointer = refl
copying_returns false pointer = refl

copying_parameters : (no_overlap : Bool) (pointer : «Type») → library_parameters pointer (copying_function no_overlap) ≡ pointer ∷ pointer ∷ pointer ∷ []
copying_parameters true pointer = refl
copying_parameters false pointer = refl

-- COPIES ------------------------------------------------------------------------------------------------------------------

module _ (pointer : «Type») (signature : SignatureShape) (copy : CopyShape) (number : ℤ) (has : HasSignature (bits_of pointer) (copying_function copy.no_overlap) signature)
    (constant : IsConstant pointer number copy.size) (a b x y : Name) (reading : Reading) (plain ledger : Ledger) (joined : IsJoined reading plain ledger)
    (reads : ReadsTwo reading a b x y) (pointed : is_pointer pointer ≡ true) where
  abbrev n : ℕ
  n = length plain.answers

  abbrev code : List (Instruction Name Name)
  code = copy_first pointer number

  abbrev last : Instruction Name Name
  last = copy_last copy signature n a b

  abbrev behind : Reading
  behind = reading_behind AreGenerated reading plain ledger code

  copy_built : built_items n (code ++ last ∷ []) ≡ copy_call_code copy.no_overlap signature pointer number n a b (answer_of n 1) (answer_of (suc n) 1)
  copy_built =
      ap (λ (ts : List «Type»). Instruct n (computing (Iconst number) pointer []) (answer_of n 1 ∷ []) ∷ Instruct (suc n) last (answers_from (suc n) 1 ts) ∷ [])
      (has.returns ∙ copying_returns copy.no_overlap (pointer_of (bits_of pointer)))

  reads_behind : ReadsTwo behind a b x y
  reads_behind = record {
    first_read = emitted_before AreGenerated reading plain ledger code a (joined.made a x reads.first_read).0 ∙ reads.first_read;
    second_read = emitted_before AreGenerated reading plain ledger code b (joined.made b y reads.second_read).0 ∙ reads.second_read;
  }

  copy_done : IsPerformed (bits_of pointer) AreGenerated reading plain ledger code last (copy_emission copy pointer x y)
  copy_done = record {
    performs = λ types have' have.
        subst (λ (items : List Item). PerformsItem (bits_of pointer) behind types items (emitted_item (length ledger.answers) (copy_emission copy pointer x y))) (sym copy_built)
        (known_calls_are_performed.copies (bits_of pointer) behind types pointer signature copy number n a b x y (answer_of n 1) (answer_of (suc n) 1) refl has constant reads_behind
        (emitted_inner AreGenerated reading plain ledger code n 0 1 (omega arith) (omega arith)) (emitted_none reading plain ledger code (suc n) 1 (omega arith)));
    laid = λ program.
        subst (λ (items : List Item). IsLaid behind program items (emitted_item (length ledger.answers) (copy_emission copy pointer x y))) (sym copy_built)
        (codes_are_laid.copy_calls behind program copy.no_overlap signature pointer number n (length ledger.answers) (Bytes (Copy copy)) a b x y (answer_of n 1) (answer_of (suc n) 1) reads_behind);
    typed = λ types others have' agree typed. (
      record { made_at = pointer_is_int pointer pointed; operands = tt; edges = tt },
      (
        record {
          made_at = refl;
          operands = (
            tt,
            three_pointers (types.plain a) (types.plain b) (types.plain (answer_of n 1)) pointer (pointer_of (bits_of pointer))
                (agree a x reads_behind.first_read ∙ typed.operands.0) (agree b y reads_behind.second_read ∙ typed.operands.1.0)
                (answer_typed plain (computing (Iconst number) pointer []) (building last ∷ []) types.plain pointer n refl refl have') (own_pointer pointer pointed)
                ∙ sym (has.parameters ∙ copying_parameters copy.no_overlap (pointer_of (bits_of pointer))),
          );
          edges = tt;
        },
        tt,
      ),
    );
    as_named = (tt, (has, tt));
  }

-- COMPARISONS -------------------------------------------------------------------------------------------------------------

answers_apart : (place : ℕ) → answer_of (suc place) 1 ≢ answer_of (suc (suc place)) 1
answers_apart place same = let places : suc place ≡ suc (suc place) = ap (λ (name : Name). name.place) same in omega (arith, places)

module _ (pointer : «Type») (signature : SignatureShape) (compare : CompareShape) (number : ℤ) (has : HasSignature (bits_of pointer) Memcmp signature)
    (constant : IsConstant pointer number compare.size) (a b x y : Name) (reading : Reading) (plain ledger : Ledger) (joined : IsJoined reading plain ledger)
    (reads : ReadsTwo reading a b x y) (may : IsTrue (can_emit (Bytes (CompareBytes compare)) pointer)) where
  abbrev m : ℕ
  m = length plain.answers

  abbrev compare_code : List (Instruction Name Name)
  compare_code = compare_first signature pointer number m a b

  abbrev compared : Instruction Name Name
  compared = compare_last compare m

  abbrev past : Reading
  past = reading_behind AreGiven reading plain ledger compare_code

  abbrev call : Instruction Name Name
  call = calling Memcmp signature a b (answer_of m 1)

  is_pointed : is_pointer pointer ≡ true
  is_pointed = (and_parts (is_pointer pointer) (can_emit_bytes (CompareBytes compare) pointer) may).0

  gives : types_of signature.returns ≡ i32 ∷ []
  gives = has.returns

  compare_built : built_items m (compare_code ++ compared ∷ [])
      ≡ compare_call_code compare.condition signature pointer number m a b (answer_of m 1) (answer_of (suc m) 1) (answer_of (suc (suc m)) 1) (answer_of (suc (suc (suc m))) 1)
  compare_built =
      ap (λ (ts : List «Type»). Instruct m (computing (Iconst number) pointer []) (answer_of m 1 ∷ []) ∷ Instruct (suc m) call (answers_from (suc m) 1 ts)
      ∷ Instruct (suc (suc m)) (computing (Iconst (pos 0)) i32 []) (answer_of (suc (suc m)) 1 ∷ [])
      ∷ Instruct (suc (suc (suc m))) compared (answer_of (suc (suc (suc m))) 1 ∷ []) ∷ []) gives

  reads_past : ReadsTwo past a b x y
  reads_past = record {
    first_read = emitted_before AreGiven reading plain ledger compare_code a (joined.made a x reads.first_read).0 ∙ reads.first_read;
    second_read = emitted_before AreGiven reading plain ledger compare_code b (joined.made b y reads.second_read).0 ∙ reads.second_read;
  }

  inner : (place k : ℕ) → place ≡ m + k → k < 3 → past (answer_of place 1) ≡ Generated
  inner place k is below = emitted_inner AreGiven reading plain ledger compare_code place k 1 is below

  result_read : IsReadAs past (answer_of (suc (suc (suc m))) 1) (answer_of (length ledger.answers) 0)
  result_read = emitted_result reading plain ledger compare_code (suc (suc (suc m))) 0 (omega arith)

  compare_done : IsPerformed (bits_of pointer) AreGiven reading plain ledger compare_code compared (compare_emission compare pointer x y)
  compare_done = record {
    performs = λ types have' have.
        subst (λ (items : List Item). PerformsItem (bits_of pointer) past types items (emitted_item (length ledger.answers) (compare_emission compare pointer x y))) (sym compare_built)
        (known_calls_are_performed.compares (bits_of pointer) past types pointer signature compare number m a b x y
        (answer_of m 1) (answer_of (suc m) 1) (answer_of (suc (suc m)) 1) (answer_of (suc (suc (suc m))) 1) (answer_of (length ledger.answers) 0) refl may has constant reads_past
        (inner m 0 (omega arith) (omega arith)) (inner (suc m) 1 (omega arith) (omega arith)) (inner (suc (suc m)) 2 (omega arith) (omega arith)) (answers_apart m) result_read);
    laid = λ program.
        subst (λ (items : List Item). IsLaid past program items (emitted_item (length ledger.answers) (compare_emission compare pointer x y))) (sym compare_built)
        (codes_are_laid.compare_calls past program compare.condition signature pointer number m (length ledger.answers) (Bytes (CompareBytes compare)) a b x y
        (answer_of m 1) (answer_of (suc m) 1) (answer_of (suc (suc m)) 1) (answer_of (suc (suc (suc m))) 1) (answer_of (length ledger.answers) 0) reads_past result_read);
    typed = λ types others have' agree typed.
        let sized : Ledger = ledger_with plain (building (computing (Iconst number) pointer [])) in
        let asked : Ledger = ledger_with sized (building call) in
        let one = longer plain (computing (Iconst number) pointer []) in
        let two = longer sized call in (
          record { made_at = pointer_is_int pointer is_pointed; operands = tt; edges = tt },
          (
            record {
              made_at = refl;
              operands = (
                tt,
                three_pointers (types.plain a) (types.plain b) (types.plain (answer_of m 1)) pointer (pointer_of (bits_of pointer))
                    (agree a x reads_past.first_read ∙ typed.operands.0) (agree b y reads_past.second_read ∙ typed.operands.1.0)
                    (answer_typed plain (computing (Iconst number) pointer []) (building call ∷ building (computing (Iconst (pos 0)) i32 []) ∷ building compared ∷ []) types.plain pointer m refl refl have')
                    (own_pointer pointer is_pointed)
                    ∙ sym has.parameters,
              );
              edges = tt;
            },
            (
              record { made_at = refl; operands = tt; edges = tt },
              (
                record {
                  made_at = refl;
                  operands = (
                    answer_typed sized call (building (computing (Iconst (pos 0)) i32 []) ∷ building compared ∷ []) types.plain i32 (suc m) (sym one) gives have',
                    (answer_typed asked (computing (Iconst (pos 0)) i32 []) (building compared ∷ []) types.plain i32 (suc (suc m)) (omega (arith, one, two)) refl have', tt),
                  );
                  edges = tt;
                },
                tt,
              ),
            ),
          ),
        );
    as_named = (tt, (has, (tt, (tt, tt))));
  }

pub known_calls_stand : KnownCallsStand
known_calls_stand = record {
  copies = λ pointer signature copy number a b x y has constant.
      line_stands pointer (copy_line copy signature pointer number a b x y) (λ reading. ReadsTwo reading a b x y)
      (λ place. (record { no_edges = refl; goes_on = refl }, tt)) (λ place. record { no_edges = refl; goes_on = refl }) (record { no_edges = refl; goes_on = refl }) (λ place. refl)
      (λ reading later keeps reads. two_read reading later keeps a b x y reads)
      (λ reading plain ledger joined reads may.
      let ready = and_parts (is_open ledger ledger.current && list_all (has_value ledger) (x ∷ y ∷ []) && true) (can_emit (Bytes (Copy copy)) pointer) may in
      let pointed = and_parts (is_pointer pointer) (can_emit_bytes (Copy copy) pointer) ready.1 in
      copy_done pointer signature copy number has constant a b x y reading plain ledger joined reads pointed.0);
  compares = λ pointer signature compare number a b x y has constant.
      line_stands pointer (compare_line compare signature pointer number a b x y) (λ reading. ReadsTwo reading a b x y)
      (λ place. (record { no_edges = refl; goes_on = refl }, (record { no_edges = refl; goes_on = refl }, (record { no_edges = refl; goes_on = refl }, tt))))
      (λ place. record { no_edges = refl; goes_on = refl }) (record { no_edges = refl; goes_on = refl }) (λ place. refl)
      (λ reading later keeps reads. two_read reading later keeps a b x y reads)
      (λ reading plain ledger joined reads may.
      let ready = and_parts (is_open ledger ledger.current && list_all (has_value ledger) (x ∷ y ∷ []) && true) (can_emit (Bytes (CompareBytes compare)) pointer) may in
      compare_done pointer signature compare number has constant a b x y reading plain ledger joined reads ready.1);
}
