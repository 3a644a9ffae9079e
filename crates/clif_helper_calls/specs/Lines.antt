-- Lines of code that stand for an emission: for a call of the C library the function's signature and the function are imported first,
-- and the call is given the function. Own.
use Rattle.std.specs.Prelude.{ℕ, List, [], ◌∷◌, ◌++◌, IsTrue, length}
use Rattle.std.specs.List.{AllByRecursion}
use Rattle.clif_types.specs.Types.{bits_of}
use Rattle.clif_types.specs.declared.types.«Type».{«Type»}
use Rattle.clif_tables.specs.Entries.{TableEntry}
use Rattle.clif_meaning.specs.Instruction.{Instruction}
use Rattle.clif_meaning.specs.Ledger.{ledger_after}
use Rattle.clif_meaning.specs.Name.{Name}
use Rattle.clif_meaning.specs.Request.{GivenEntry, Script}
use Rattle.clif_expansion.specs.Emission.{LastResults, ledger_importing, line_calls_with, reading_line}
use Rattle.clif_expansion.specs.JoinedCalls.{AreJoinedCalls, IsImported}
use Rattle.clif_expansion.specs.PerformedCalls.{ArePerformed}
use Rattle.clif_expansion.specs.Reading.{Reading}
use Rattle.clif_expansion.specs.ScriptCall.{Emit, ScriptCall, call_allowed, ledger_of}

-- A line: its instructions from a place on, the last one, what becomes of that one's results, and the emission that it stands for.
pub record Line : Type 0 where
  pub how : LastResults
  pub code : (place : ℕ) → List (Instruction Name Name)
  pub last : (place : ℕ) → Instruction Name Name
  pub emission : Instruction Name Name

-- of instructions all but the last one, and the last one, or this one where there is none
abbrev pub all_but_last : List (Instruction Name Name) → List (Instruction Name Name)
all_but_last [] = []
all_but_last (one ∷ []) = []
all_but_last (one ∷ next ∷ more) = one ∷ all_but_last (next ∷ more)

abbrev pub last_of : Instruction Name Name → List (Instruction Name Name) → Instruction Name Name
last_of other [] = other
last_of other (one ∷ more) = last_of one more

-- the place of the next call behind imports
abbrev pub place_importing : Script → List TableEntry → ℕ
place_importing plain imports = length (ledger_importing (ledger_after plain) imports).answers

-- the plain calls with the line at their end, which imports entries and whose calls are given some
abbrev pub calls_with_line : Line → List TableEntry → List GivenEntry → Script → Script
calls_with_line line imports given plain =
    plain ++ line_calls_with given imports (line.code (place_importing plain imports)) (line.last (place_importing plain imports))

-- the reading behind it
abbrev pub reading_with_line : Line → List TableEntry → Reading → (plain : Script) → List ScriptCall → Reading
reading_with_line line imports reading plain calls =
    reading_line line.how reading (ledger_after plain) (ledger_of calls) imports (line.code (place_importing plain imports))

-- Joined calls stay joined with the line and the emission at their ends, whatever it imports and is given; and if each emission was
-- performed so far where pointers have this type, each is, if the reading reads the operands.
pub record LineStands (pointer : «Type») (line : Line) (Reads : Reading → Type 0) : Type 0 where
  pub joined : (imports : List TableEntry) (given : List GivenEntry) (reading : Reading) (plain : Script) (calls : List ScriptCall)
      → AllByRecursion IsImported given → AreJoinedCalls reading plain calls → IsTrue (call_allowed (ledger_of calls) (Emit imports line.emission))
      → AreJoinedCalls (reading_with_line line imports reading plain calls) (calls_with_line line imports given plain) (calls ++ Emit imports line.emission ∷ [])
  pub performed : (imports : List TableEntry) (given : List GivenEntry) (reading : Reading) (plain : Script) (calls : List ScriptCall)
      (imported : AllByRecursion IsImported given) (are : AreJoinedCalls reading plain calls) → ArePerformed (bits_of pointer) reading plain calls are → Reads reading
      → (may : IsTrue (call_allowed (ledger_of calls) (Emit imports line.emission)))
      → ArePerformed (bits_of pointer) (reading_with_line line imports reading plain calls) (calls_with_line line imports given plain) (calls ++ Emit imports line.emission ∷ [])
      (joined imports given reading plain calls imported are may)
