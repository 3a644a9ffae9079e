-- Calls of functions of the C library stand for their emissions.
use Rattle.std.proofs.Common.{◌≡◌, ◌&&◌, ℕ, true, List, [], ◌∷◌, length, refl, sym, ◌∙◌, ap, subst}
use Rattle.std.specs.List.{list_all}
use Rattle.std.proofs.lemmas.Bool.{and_parts}
use Rattle.clif_types.specs.Signature.{SignatureShape}
use Rattle.clif_types.specs.Types.{bits_of}
use Rattle.clif_types.specs.declared.libcall.LibCall.{LibCall}
use Rattle.clif_types.specs.declared.libcall.LibCall.TheVariants.{Memcpy, Memmove, Memcmp}
use Rattle.clif_types.specs.declared.types.LaneType.TheVariants as lane
use Rattle.clif_types.specs.declared.types.«Type».{«Type»}
use Rattle.clif_types.specs.declared.types.«Type».TheVariants as type
use Rattle.clif_tables.specs.Callees.{types_of}
use Rattle.clif_meaning.specs.Acceptance.{is_open}
use Rattle.clif_meaning.specs.ByteOperation.{CallLibrary}
use Rattle.clif_meaning.specs.Instruction.{Bytes, Instruction}
use Rattle.clif_meaning.specs.Ledger.{Ledger, has_value}
use Rattle.clif_meaning.specs.Library.{library_parameters, library_returns, pointer_of}
use Rattle.clif_meaning.specs.Name.{Name, answer_of}
use Rattle.clif_meaning.specs.Program.{Item, Instruct, Program, answers_from}
use Rattle.clif_expansion.specs.Code.{NameTypes, PerformsItem}
use Rattle.clif_expansion.specs.Emission.{AreAnswered, AreGenerated, AreGiven, LastResults, StaysInLine, reading_behind, results_as}
use Rattle.clif_expansion.specs.JoinedPrograms.{built_items}
use Rattle.clif_expansion.specs.Joining.{IsJoined}
use Rattle.clif_expansion.specs.Laying.{IsLaid}
use Rattle.clif_expansion.specs.PerformedCalls.{IsPerformed, IsTypedInLine}
use Rattle.clif_expansion.specs.Reading.{IsReadAs, Reading}
use Rattle.clif_expansion.specs.ScriptCall.{can_emit, emitted_item, is_pointer, takes_byte}
use Rattle.clif_expansion.proofs.EmittedPrograms.{emitted_before}
use Rattle.clif_expansion.proofs.Joins.{KeepsReading, read_there}
use Rattle.clif_helper_calls.specs.LibraryCodes.{call_code, calling}
use Rattle.clif_helper_calls.specs.PerformingCalls.{HasSignature, ReadsThree, ReadsTwo}
use Rattle.clif_helper_calls.specs.Standing.{SingleCallsStand, StandsForEmission, library_emission, single_line}
use Rattle.clif_helper_calls.proofs.Called.{calls_are_performed}
use Rattle.clif_helper_calls.proofs.Laid.{codes_are_laid}
use Rattle.clif_helper_calls.proofs.Lines.{line_stands}

-- a type of pointers is that of its width
pub own_pointer : (pointer : «Type») → is_pointer pointer ≡ true → pointer_of (bits_of pointer) ≡ pointer
own_pointer type.Invalid is = cc
own_pointer (type.Vector l n) is = cc
own_pointer (type.Lane lane.I8) is = cc
own_pointer (type.Lane lane.I16) is = refl
own_pointer (type.Lane lane.I32) is = refl
own_pointer (type.Lane lane.I64) is = refl
own_pointer (type.Lane lane.I128) is = cc
own_pointer (type.Lane lane.F16) is = cc
own_pointer (type.Lane lane.F32) is = cc
own_pointer (type.Lane lane.F64) is = cc
own_pointer (type.Lane lane.F128) is = cc

pub three_pointers : (a b c pointer own : «Type») → a ≡ pointer → b ≡ pointer → c ≡ pointer → own ≡ pointer → a ∷ b ∷ c ∷ [] ≡ own ∷ own ∷ own ∷ []
three_pointers a b c pointer own first second third is = cc

-- names that are read stay so
pub three_read : (reading later : Reading) → KeepsReading reading later → (a b n x y z : Name) → ReadsThree reading a b n x y z → ReadsThree later a b n x y z
three_read reading later keeps a b n x y z reads = record {
  first_read = keeps a x reads.first_read;
  second_read = keeps b y reads.second_read;
  third_read = keeps n z reads.third_read;
}

pub two_read : (reading later : Reading) → KeepsReading reading later → (a b x y : Name) → ReadsTwo reading a b x y → ReadsTwo later a b x y
two_read reading later keeps a b x y reads = record { first_read = keeps a x reads.first_read; second_read = keeps b y reads.second_read }

module _ (how : LastResults) (callee : LibCall)
    (parameters : (pointer : «Type») → library_parameters pointer callee ≡ pointer ∷ pointer ∷ pointer ∷ [])
    (answer_type : «Type» → «Type») (returns : (pointer : «Type») → library_returns pointer callee ≡ answer_type pointer ∷ [])
    (takes : (types : Name → «Type») (others : List «Type») (pointer : «Type») (a b n : Name) → IsTypedInLine types others (library_emission callee pointer a b n)
    → (types a ≡ pointer) × (types b ≡ pointer) × (types n ≡ pointer))
    (whole_stays : (pointer : «Type») (a b n : Name) → StaysInLine (library_emission callee pointer a b n))
    (emits : (pointer : «Type») → can_emit (Bytes (CallLibrary callee)) pointer ≡ (is_pointer pointer && true))
    (answered : (pointer : «Type») (signature : SignatureShape) (a b n x y z : Name) → types_of signature.returns ≡ answer_type (pointer_of (bits_of pointer)) ∷ []
    → AreAnswered how (calling callee signature a b n) (library_emission callee pointer x y z))
    (performs : (pointer : «Type») (signature : SignatureShape) (reading : Reading) (types : NameTypes) (place other : ℕ) (a b n x y z : Name)
    → HasSignature (bits_of pointer) callee signature → ReadsThree reading a b n x y z → reading (answer_of place 1) ≡ results_as how other 1
    → PerformsItem (bits_of pointer) reading types (call_code callee signature place a b n (answer_of place 1)) (emitted_item other (library_emission callee pointer x y z)))
    (lays : (pointer : «Type») (signature : SignatureShape) (reading : Reading) (program : Program) (place other : ℕ) (a b n x y z : Name)
    → ReadsThree reading a b n x y z → reading (answer_of place 1) ≡ results_as how other 1
    → IsLaid reading program (call_code callee signature place a b n (answer_of place 1)) (emitted_item other (library_emission callee pointer x y z))) where
  module _ (pointer : «Type») (signature : SignatureShape) (has : HasSignature (bits_of pointer) callee signature) (a b n x y z : Name) where
    abbrev last : Instruction Name Name
    last = calling callee signature a b n

    abbrev whole : Instruction Name Name
    whole = library_emission callee pointer x y z

    abbrev width : ℕ
    width = bits_of pointer

    gives : types_of signature.returns ≡ answer_type (pointer_of width) ∷ []
    gives = has.returns ∙ returns (pointer_of width)

    -- what is built is the call with its one answer
    same_code : (place : ℕ) → built_items place (last ∷ []) ≡ call_code callee signature place a b n (answer_of place 1)
    same_code place = ap (λ (ts : List «Type»). Instruct place last (answers_from place 1 ts) ∷ []) gives

    module _ (reading : Reading) (plain ledger : Ledger) (joined : IsJoined reading plain ledger) (reads : ReadsThree reading a b n x y z) (pointed : is_pointer pointer ≡ true) where
      abbrev behind : Reading
      behind = reading_behind how reading plain ledger []

      still : (name given : Name) → IsReadAs reading name given → IsReadAs behind name given
      still name given is = emitted_before how reading plain ledger [] name (joined.made name given is).0 ∙ is

      reads_behind : ReadsThree behind a b n x y z
      reads_behind = record { first_read = still a x reads.first_read; second_read = still b y reads.second_read; third_read = still n z reads.third_read }

      answer_there : behind (answer_of (length plain.answers) 1) ≡ results_as how (length ledger.answers) 1
      answer_there = read_there reading (length plain.answers) 1 (results_as how (length ledger.answers))

      done : IsPerformed width how reading plain ledger [] last whole
      done = record {
        performs = λ types have' have.
            subst (λ (code : List Item). PerformsItem width behind types code (emitted_item (length ledger.answers) whole)) (sym (same_code (length plain.answers)))
            (performs pointer signature behind types (length plain.answers) (length ledger.answers) a b n x y z has reads_behind answer_there);
        laid = λ program.
            subst (λ (code : List Item). IsLaid behind program code (emitted_item (length ledger.answers) whole)) (sym (same_code (length plain.answers)))
            (lays pointer signature behind program (length plain.answers) (length ledger.answers) a b n x y z reads_behind answer_there);
        typed = λ types others have' agree typed.
            let own = takes types.script others pointer x y z typed in (
              record {
                made_at = refl;
                operands = (
                  tt,
                  three_pointers (types.plain a) (types.plain b) (types.plain n) pointer (pointer_of width)
                      (agree a x reads_behind.first_read ∙ own.0) (agree b y reads_behind.second_read ∙ own.1) (agree n z reads_behind.third_read ∙ own.2) (own_pointer pointer pointed)
                      ∙ sym (has.parameters ∙ parameters (pointer_of width)),
                );
                edges = tt;
              },
              tt,
            );
        as_named = (has, tt);
      }

  stands : StandsForEmission how callee
  stands pointer signature a b n x y z has =
      line_stands pointer (single_line how callee signature pointer a b n x y z) (λ reading. ReadsThree reading a b n x y z)
      (λ place. tt) (λ place. record { no_edges = refl; goes_on = refl }) (whole_stays pointer x y z)
      (λ place. answered pointer signature a b n x y z (has.returns ∙ returns (pointer_of (bits_of pointer))))
      (λ reading later keeps reads. three_read reading later keeps a b n x y z reads)
      (λ reading plain ledger joined reads may.
      let ready =
      and_parts (takes_byte ledger (Bytes (CallLibrary callee)) (x ∷ y ∷ z ∷ []) && is_open ledger ledger.current && list_all (has_value ledger) (x ∷ y ∷ z ∷ []) && true)
      (can_emit (Bytes (CallLibrary callee)) pointer) may in
      let pointed = and_parts (is_pointer pointer) true (sym (emits pointer) ∙ ready.1) in
      done pointer signature has a b n x y z reading plain ledger joined reads pointed.0)

pub single_calls_stand : SingleCallsStand
single_calls_stand = record {
  copies = stands AreGenerated Memcpy (λ pointer. refl) (λ pointer. pointer) (λ pointer. refl)
      (λ types others pointer a b n typed. (typed.operands.0, typed.operands.1.0, typed.operands.1.1.0))
      (λ pointer a b n. record { no_edges = refl; goes_on = refl }) (λ pointer. refl) (λ pointer signature a b n x y z is. refl)
      (λ pointer signature reading types place other a b n x y z has reads answer.
      calls_are_performed.copies (bits_of pointer) reading types pointer signature place a b n x y z (answer_of place 1) refl has reads answer)
      (λ pointer signature reading program place other a b n x y z reads answer.
      codes_are_laid.calls reading program Memcpy signature pointer place other (Bytes (CallLibrary Memcpy)) a b n x y z (answer_of place 1) reads);
  moves = stands AreGenerated Memmove (λ pointer. refl) (λ pointer. pointer) (λ pointer. refl)
      (λ types others pointer a b n typed. (typed.operands.0, typed.operands.1.0, typed.operands.1.1.0))
      (λ pointer a b n. record { no_edges = refl; goes_on = refl }) (λ pointer. refl) (λ pointer signature a b n x y z is. refl)
      (λ pointer signature reading types place other a b n x y z has reads answer.
      calls_are_performed.moves (bits_of pointer) reading types pointer signature place a b n x y z (answer_of place 1) refl has reads answer)
      (λ pointer signature reading program place other a b n x y z reads answer.
      codes_are_laid.calls reading program Memmove signature pointer place other (Bytes (CallLibrary Memmove)) a b n x y z (answer_of place 1) reads);
  compares = stands AreGiven Memcmp (λ pointer. refl) (λ pointer. type.Lane lane.I32) (λ pointer. refl)
      (λ types others pointer a b n typed. (typed.operands.0, typed.operands.1.0, typed.operands.1.1.0))
      (λ pointer a b n. record { no_edges = refl; goes_on = refl }) (λ pointer. refl) (λ pointer signature a b n x y z is. is)
      (λ pointer signature reading types place other a b n x y z has reads answer.
      calls_are_performed.compares (bits_of pointer) reading types pointer signature place a b n x y z (answer_of place 1) (answer_of other 0) refl has reads answer)
      (λ pointer signature reading program place other a b n x y z reads answer.
      codes_are_laid.answers reading program Memcmp signature pointer place other (Bytes (CallLibrary Memcmp)) a b n x y z (answer_of place 1) (answer_of other 0) reads answer);
}
