-- Emissions that are performed: behind its last call the code of each emission performs the instruction that is emitted, is laid, and
-- is well typed where that instruction is. Names have the types that ledgers give them. Own.
use Rattle.std.specs.Prelude.{ℕ, List, [], ◌∷◌, ◌++◌, fold, length, map}
use Rattle.std.specs.List.{AllByRecursion}
use Rattle.clif_types.specs.declared.types.«Type».{«Type»}
use Rattle.clif_meaning.specs.Access.{library_call}
use Rattle.clif_meaning.specs.Instruction.{Instruction}
use Rattle.clif_meaning.specs.Ledger.{Ledger, ledger_after, ledger_with}
use Rattle.clif_meaning.specs.Library.{pointer_of}
use Rattle.clif_meaning.specs.Name.{Name}
use Rattle.clif_meaning.specs.Premises.{IfLibraryCall}
use Rattle.clif_meaning.specs.Program.{Program}
use Rattle.clif_meaning.specs.Request.{Script}
use Rattle.clif_expansion.specs.Code.{NameTypes, PerformsItem}
use Rattle.clif_expansion.specs.Emission.{LastResults, building, ledger_importing, reading_behind, reading_importing}
use Rattle.clif_expansion.specs.JoinedCalls.{AreJoinedCalls, Asking, Emitting, Giving, Starting, Switching}
use Rattle.clif_expansion.specs.JoinedPrograms.{built_items}
use Rattle.clif_expansion.specs.Laying.{IsLaid}
pub use Rattle.clif_expansion.specs.LedgerTypes.{HaveTypes, IsTypedInLine}
use Rattle.clif_expansion.specs.Reading.{Agree, Reading}
use Rattle.clif_expansion.specs.ScriptCall.{Emit, ScriptCall, emitted_item, ledger_of, ledger_with_call, with_imports}

-- Code that is built behind these ledgers, of instructions and a last one, does what the instruction does that is emitted: it
-- performs it, whatever types later names have, is laid, is well typed where the instruction is, and calls functions of the C
-- library by their signatures.
pub record IsPerformed (pointer_width : ℕ) (how : LastResults) (reading : Reading) (plain_ledger ledger : Ledger) (code : List (Instruction Name Name)) (last instruction : Instruction Name Name) : Type 0 where
  pub performs : (types : NameTypes)
      → HaveTypes (fold ledger_with plain_ledger (map building code ++ building last ∷ [])) types.plain
      → HaveTypes (ledger_with_call ledger (Emit [] instruction)) types.script
      → PerformsItem pointer_width (reading_behind how reading plain_ledger ledger code) types
      (built_items (length plain_ledger.answers) (code ++ last ∷ [])) (emitted_item (length ledger.answers) instruction)
  pub laid : (program : Program)
      → IsLaid (reading_behind how reading plain_ledger ledger code) program
      (built_items (length plain_ledger.answers) (code ++ last ∷ [])) (emitted_item (length ledger.answers) instruction)
  pub typed : (types : NameTypes) (returns : List «Type»)
      → HaveTypes (fold ledger_with plain_ledger (map building code ++ building last ∷ [])) types.plain
      → Agree (reading_behind how reading plain_ledger ledger code) types.plain types.script
      → IsTypedInLine types.script returns instruction → AllByRecursion (IsTypedInLine types.plain returns) (code ++ last ∷ [])
  pub as_named : AllByRecursion (λ each. IfLibraryCall (pointer_of pointer_width) (library_call each.operation)) (code ++ last ∷ [])

-- each emission of joined calls is performed, where pointers have this width
abbrev pub ArePerformed : (pointer_width : ℕ) (reading : Reading) (plain : Script) (calls : List ScriptCall) → AreJoinedCalls reading plain calls → Type 0
ArePerformed pointer_width reading plain calls Starting = Unit {0}
ArePerformed pointer_width reading plain calls (Asking before script earlier asked request are is placed) = ArePerformed pointer_width before script earlier are
ArePerformed pointer_width reading plain calls (Emitting how before script earlier imports code last instruction are placed line stays whole types) =
    ArePerformed pointer_width before script earlier are
    × IsPerformed pointer_width how (reading_importing before (ledger_after script) imports) (ledger_importing (ledger_after script) imports)
    (with_imports imports (ledger_of earlier)) code last instruction
-- of a switch this is said where it is joined
ArePerformed pointer_width reading plain calls (Switching before script more earlier block value ty keys edges switch branches tables are at placed is code) =
    ArePerformed pointer_width before script earlier are
-- what is given changes nothing
ArePerformed pointer_width reading plain calls (Giving before script given earlier are is) = ArePerformed pointer_width before script earlier are
