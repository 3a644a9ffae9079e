-- The plain calls of a script's calls, and the reading of their names: each call that asks the builder stands for one call, and one
-- that emits for the calls that build its code, in a line or, for a switch, in blocks of its own. What is put into a block is put into
-- one on both sides: behind a switch the plain calls have a current block that the script doesn't have. Own.
use Rattle.std.specs.Prelude.{◌≡◌, ℕ, Bool, true, false, List, [], ◌∷◌, ◌++◌, length, is_some, Some}
use Rattle.std.specs.List.{AllByRecursion, AllZip}
use Rattle.clif_types.specs.declared.types.«Type».{«Type»}
use Rattle.clif_tables.specs.Entries.{TableEntry}
use Rattle.clif_meaning.specs.Instruction.{Edge, Instruction}
use Rattle.clif_meaning.specs.Ledger.{Ledger, ledger_after}
use Rattle.clif_meaning.specs.Name.{Name}
use Rattle.clif_meaning.specs.Request.{GivenEntry, Imported, Request, EnsureInsertedBlock, DefVar, UseVar, Build, Script}
use Rattle.clif_expansion.specs.Emission.{AreAnswered, LastResults, StaysInLine, line_calls, reading_across, reading_line}
use Rattle.clif_expansion.specs.Joining.{IsJoined, IsReadRequest, reading_after}
use Rattle.clif_expansion.specs.Reading.{IsReadInstruction, NotMade, Reading}
use Rattle.clif_expansion.specs.ScriptCall.{Ask, Emit, ScriptCall, ledger_of}
use Rattle.clif_expansion.specs.Switching.{IsSwitchCode, switching}

-- it puts something into the current block
abbrev pub uses_current : Request → Bool
uses_current EnsureInsertedBlock = true
uses_current (DefVar variable value) = true
uses_current (UseVar variable) = true
uses_current (Build entries instruction) = true
uses_current _ = false

-- there is a current block on both sides, or on neither
abbrev pub HaveCurrent : (plain ledger : Ledger) → Type 0
HaveCurrent plain ledger = is_some plain.current ≡ is_some ledger.current

-- the entry is imported
abbrev pub IsImported : GivenEntry → Type 0
IsImported (Imported entry) = Unit {0}
IsImported _ = ⊥

-- The plain call is the same, or one that builds an instruction is given entries that are imported: no table serves it.
pub data IsGiven : (plain given : Request) → Type 0 where
  IsSame : (request : Request) → IsGiven request request
  IsBuiltWith : (entries : List GivenEntry) (instruction : Instruction Name Name) → AllByRecursion IsImported entries
      → IsGiven (Build [] instruction) (Build entries instruction)

pub data AreJoinedCalls : Reading → (plain : Script) → List ScriptCall → Type 0 where
  -- before the first call
  Starting : AreJoinedCalls (λ x. NotMade) [] []
  -- a call of the builder, with its names read
  Asking : (reading : Reading) (plain : Script) (calls : List ScriptCall) (asked request : Request)
      → AreJoinedCalls reading plain calls
      → IsReadRequest reading asked request
      → (uses_current request ≡ true → HaveCurrent (ledger_after plain) (ledger_of calls))
      → AreJoinedCalls (reading_after reading (ledger_after plain) (ledger_of calls)) (plain ++ asked ∷ []) (calls ++ Ask request ∷ [])
  -- an instruction that only scripts have, and code in a line with a last instruction whose results are as many and of the same types,
  -- or are generated where the script's gives nothing
  Emitting : (how : LastResults) (reading : Reading) (plain : Script) (calls : List ScriptCall) (imports : List TableEntry)
      (code : List (Instruction Name Name)) (last instruction : Instruction Name Name)
      → AreJoinedCalls reading plain calls
      → HaveCurrent (ledger_after plain) (ledger_of calls)
      → AllByRecursion StaysInLine code
      → StaysInLine last
      → StaysInLine instruction
      → AreAnswered how last instruction
      → AreJoinedCalls (reading_line how reading (ledger_after plain) (ledger_of calls) imports code) (plain ++ line_calls imports code last)
      (calls ++ Emit imports instruction ∷ [])
  -- a switch, and code in blocks of its own that decides where it goes
  Switching : (reading : Reading) (plain more : Script) (calls : List ScriptCall) (block value : Name) (ty : «Type») (keys : List ℕ)
      (edges : List (Edge Name Name)) (switch : Instruction Name Name) (branches tables : ℕ)
      → AreJoinedCalls reading plain calls
      → (ledger_after plain).current ≡ Some block
      → HaveCurrent (ledger_after plain) (ledger_of calls)
      → IsReadInstruction reading (switching keys ty value edges) switch
      → IsSwitchCode plain more block value ty keys edges branches tables
      → AreJoinedCalls (reading_across reading (length plain) (length more)) (plain ++ more) (calls ++ Emit [] switch ∷ [])
  -- The plain calls may be given what was imported.
  Giving : (reading : Reading) (plain given : Script) (calls : List ScriptCall)
      → AreJoinedCalls reading plain calls
      → AllZip IsGiven plain given
      → AreJoinedCalls reading given calls

-- Joined calls have joined ledgers.
abbrev pub JoinedCallsHaveJoinedLedgers : Type 0
JoinedCallsHaveJoinedLedgers =
    (reading : Reading) (plain : Script) (calls : List ScriptCall) → AreJoinedCalls reading plain calls → IsJoined reading (ledger_after plain) (ledger_of calls)
