-- Emissions and their code in a line: the plain calls build instructions that stay in line, and the last one's results are those of
-- the instruction that is emitted. Own.
use Rattle.std.specs.Prelude.{◌≡◌, ◌+◌, ℕ, nat_lt, if◌then◌else◌, false, List, [], ◌∷◌, ◌++◌, fold, length, map}
use Rattle.std.specs.List.{AllByRecursion}
use Rattle.clif_meaning.specs.Instruction.{Call, Instruction, Operation}
use Rattle.clif_meaning.specs.Ledger.{Ledger, is_terminator, ledger_with}
use Rattle.clif_meaning.specs.Name.{Name}
use Rattle.clif_meaning.specs.Request.{GivenEntry, Request, Build, MakeEntry, Script}
use Rattle.clif_tables.specs.Entries.{TableEntry}
use Rattle.clif_expansion.specs.Joining.{IsJoined, reading_with, results_at}
use Rattle.clif_expansion.specs.Reading.{Generated, Reading, StandsFor}
use Rattle.clif_expansion.specs.ScriptCall.{Emit, emitted_types, ledger_with_call, with_imports}

-- The instruction has no edges and doesn't end its block.
pub record StaysInLine (instruction : Instruction Name Name) : Type 0 where
  pub no_edges : instruction.edges ≡ []
  pub goes_on : is_terminator instruction.operation ≡ false

-- entries of the function's tables that code imports, before its instructions
abbrev pub importing : List TableEntry → Script
importing imports = map MakeEntry imports

abbrev pub ledger_importing : Ledger → List TableEntry → Ledger
ledger_importing plain imports = fold ledger_with plain (importing imports)

-- it is built, with no entry of a table
abbrev pub building : Instruction Name Name → Request
building instruction = Build [] instruction

-- the reading behind an instruction that was generated
abbrev pub reading_generated : Reading → (plain : Ledger) → Reading
reading_generated reading plain = reading_with reading (length plain.answers) (λ index. Generated)

-- the reading behind imports, which were generated
abbrev pub reading_importing : Reading → (plain : Ledger) → List TableEntry → Reading
reading_importing reading plain [] = reading
reading_importing reading plain (entry ∷ imports) = reading_importing (reading_generated reading plain) (ledger_with plain (MakeEntry entry)) imports

-- What becomes of the results of code's last instruction: they are those of the instruction that is emitted, or are generated, as those
-- of the others are.
pub data LastResults : Type 0 where
  AreGiven : LastResults
  AreGenerated : LastResults

abbrev pub results_as : LastResults → (place : ℕ) → ℕ → StandsFor
results_as AreGiven place index = results_at place index
results_as AreGenerated place index = Generated

-- the reading behind code in a line
abbrev pub reading_behind : LastResults → Reading → (plain ledger : Ledger) → List (Instruction Name Name) → Reading
reading_behind how reading plain ledger [] = reading_with reading (length plain.answers) (results_as how (length ledger.answers))
reading_behind how reading plain ledger (first ∷ code) = reading_behind how (reading_generated reading plain) (ledger_with plain (building first)) ledger code

-- the plain calls of code in a line: imports, instructions, and the last one
abbrev pub line_calls : List TableEntry → List (Instruction Name Name) → (last : Instruction Name Name) → Script
line_calls imports code last = importing imports ++ (map building code ++ building last ∷ [])

-- the reading behind them
abbrev pub reading_line : LastResults → Reading → (plain ledger : Ledger) → List TableEntry → List (Instruction Name Name) → Reading
reading_line how reading plain ledger imports code =
    reading_behind how (reading_importing reading plain imports) (ledger_importing plain imports) (with_imports imports ledger) code

-- Entries that were imported may be given to a call of a function, and to no other instruction.
abbrev pub given_to : List GivenEntry → Operation → List GivenEntry
given_to [] operation = []
given_to given (Call name signature) = given
given_to given _ = []

abbrev pub building_with : List GivenEntry → Instruction Name Name → Request
building_with given instruction = Build (given_to given instruction.operation) instruction

-- the calls of a line, with these entries
abbrev pub line_calls_with : List GivenEntry → List TableEntry → List (Instruction Name Name) → (last : Instruction Name Name) → Script
line_calls_with given imports code last = importing imports ++ (map (building_with given) code ++ building_with given last ∷ [])

-- where the last instruction's results are those of the script's next call
abbrev pub reading_emitted : Reading → (plain ledger : Ledger) → List (Instruction Name Name) → Reading
reading_emitted = reading_behind AreGiven

-- The results are of the same types, or where they are generated the emitted instruction gives nothing.
abbrev pub AreAnswered : LastResults → (last instruction : Instruction Name Name) → Type 0
AreAnswered AreGiven last instruction = emitted_types last ≡ emitted_types instruction
AreAnswered AreGenerated last instruction = emitted_types instruction ≡ []

-- the reading, in which the answers to so many calls from this place on were generated
abbrev pub reading_across : Reading → (place count : ℕ) → Reading
reading_across reading place count x = if nat_lt x.place place then reading x else (if nat_lt x.place (place + count) then Generated else reading x)

-- Code in a line, of imports, instructions and a last one, keeps the join with an instruction that is emitted and imports the same: it
-- has results of the same types, or gives nothing and all of the code is generated.
abbrev pub EmittingKeepsJoins : Type 0
EmittingKeepsJoins =
    (how : LastResults) (reading : Reading) (plain ledger : Ledger) (imports : List TableEntry) (code : List (Instruction Name Name))
    (last instruction : Instruction Name Name) → IsJoined reading plain ledger → AllByRecursion StaysInLine code → StaysInLine last → StaysInLine instruction
    → AreAnswered how last instruction
    → IsJoined (reading_line how reading plain ledger imports code) (fold ledger_with plain (line_calls imports code last))
    (ledger_with_call ledger (Emit imports instruction))
