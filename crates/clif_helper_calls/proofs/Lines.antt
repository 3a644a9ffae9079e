-- Lines that call the C library stand for their emissions, if what they build is performed.
use Rattle.std.proofs.Common.{List, [], ◌∷◌, ◌++◌, ◌∙◌, length, map}
use Rattle.std.specs.Prelude.{IsTrue}
use Rattle.std.specs.List.{AllByRecursion, AllZip}
use Rattle.clif_types.specs.Types.{bits_of}
use Rattle.clif_types.specs.declared.types.«Type».{«Type»}
use Rattle.clif_tables.specs.Entries.{TableEntry}
use Rattle.clif_meaning.specs.Instruction.{Call, Instruction, Operation}
use Rattle.clif_meaning.specs.Ledger.{Ledger, ledger_after}
use Rattle.clif_meaning.specs.Name.{Name}
use Rattle.clif_meaning.specs.Request.{GivenEntry, Script}
use Rattle.clif_expansion.specs.Emission.{AreAnswered, StaysInLine, building, building_with, given_to, importing, ledger_importing, line_calls, line_calls_with, reading_importing, reading_line}
use Rattle.clif_expansion.specs.JoinedCalls.{Emitting, Giving, IsBuiltWith, IsGiven, IsImported, IsSame}
use Rattle.clif_expansion.specs.Joining.{IsJoined}
use Rattle.clif_expansion.specs.PerformedCalls.{IsPerformed}
use Rattle.clif_expansion.specs.Reading.{Reading}
use Rattle.clif_expansion.specs.ScriptCall.{Emit, call_allowed, ledger_of, with_imports}
use Rattle.clif_expansion.proofs.Imports.{importing_before, imports_joined}
use Rattle.clif_expansion.proofs.JoinedCalls.{emission_placed, joined_calls}
use Rattle.clif_expansion.proofs.JoinedStates.{zip_joined}
use Rattle.clif_expansion.proofs.Joins.{KeepsReading}
use Rattle.clif_helper_calls.specs.Lines.{Line, LineStands, place_importing}

-- GIVEN -------------------------------------------------------------------------------------------------------------------

given_imported : (given : List GivenEntry) (operation : Operation) → AllByRecursion IsImported given → AllByRecursion IsImported (given_to given operation)
given_imported [] operation are = tt
given_imported (entry ∷ given) (Call name signature) are = are
given_imported (entry ∷ given) _ are = tt

one_given : (given : List GivenEntry) → AllByRecursion IsImported given → (instruction : Instruction Name Name) → IsGiven (building instruction) (building_with given instruction)
one_given given are instruction = IsBuiltWith (given_to given instruction.operation) instruction (given_imported given instruction.operation are)

code_given : (given : List GivenEntry) → AllByRecursion IsImported given → (code : List (Instruction Name Name)) (last : Instruction Name Name)
    → AllZip IsGiven (map building code ++ building last ∷ []) (map (building_with given) code ++ building_with given last ∷ [])
code_given given are [] last = (one_given given are last, tt)
code_given given are (first ∷ code) last = (one_given given are first, code_given given are code last)

same_calls : (script : Script) → AllZip IsGiven script script
same_calls [] = tt
same_calls (request ∷ script) = (IsSame request, same_calls script)

line_given : (given : List GivenEntry) → AllByRecursion IsImported given → (plain : Script) (imports : List TableEntry) (code : List (Instruction Name Name)) (last : Instruction Name Name)
    → AllZip IsGiven (plain ++ line_calls imports code last) (plain ++ line_calls_with given imports code last)
line_given given are plain imports code last =
    zip_joined IsGiven plain (line_calls imports code last) plain (line_calls_with given imports code last) (same_calls plain)
    (zip_joined IsGiven (importing imports) (map building code ++ building last ∷ []) (importing imports) (map (building_with given) code ++ building_with given last ∷ [])
    (same_calls (importing imports)) (code_given given are code last))

-- STANDING ----------------------------------------------------------------------------------------------------------------

module _ (pointer : «Type») (line : Line) (Reads : Reading → Type 0)
    (line_stays : (place : _) → AllByRecursion StaysInLine (line.code place)) (stays : (place : _) → StaysInLine (line.last place)) (whole_stays : StaysInLine line.emission)
    (answered : (place : _) → AreAnswered line.how (line.last place) line.emission)
    (reads_on : (reading later : Reading) → KeepsReading reading later → Reads reading → Reads later)
    (done : (reading : Reading) (plain ledger : Ledger) → IsJoined reading plain ledger → Reads reading → IsTrue (call_allowed ledger (Emit [] line.emission))
    → IsPerformed (bits_of pointer) line.how reading plain ledger (line.code (length plain.answers)) (line.last (length plain.answers)) line.emission) where
  pub line_stands : LineStands pointer line Reads
  line_stands = record {
    joined = λ imports given reading plain calls imported are may.
        let place = place_importing plain imports in
        Giving (reading_line line.how reading (ledger_after plain) (ledger_of calls) imports (line.code place)) (plain ++ line_calls imports (line.code place) (line.last place))
        (plain ++ line_calls_with given imports (line.code place) (line.last place)) (calls ++ Emit imports line.emission ∷ [])
        (Emitting line.how reading plain calls imports (line.code place) (line.last place) line.emission are
        (emission_placed reading (ledger_after plain) (ledger_of calls) (joined_calls reading plain calls are) imports line.emission may)
        (line_stays place) (stays place) whole_stays (answered place))
        (line_given given imported plain imports (line.code place) (line.last place));
    performed = λ imports given reading plain calls imported are done_before reads may.
        let joined = joined_calls reading plain calls are in (
          done_before,
          done (reading_importing reading (ledger_after plain) imports) (ledger_importing (ledger_after plain) imports) (with_imports imports (ledger_of calls))
              (imports_joined reading (ledger_after plain) (ledger_of calls) imports joined)
              (reads_on reading (reading_importing reading (ledger_after plain) imports)
              (λ x name is. importing_before reading (ledger_after plain) imports x (joined.made x name is).0 ∙ is) reads)
              may,
        );
  }
