-- Imports keep ledgers joined: the plain calls make entries of tables, and the script's tables have them, too.
use Rattle.std.proofs.Common.{◌≡◌, ◌<◌, ◌+◌, ◌⊎◌, inl, inr, suc, List, [], ◌∷◌, length, sym, ◌∙◌, ap, subst, arith, Option}
use Rattle.clif_tables.specs.Entries.{TableEntry, with_entry}
use Rattle.clif_tables.specs.Lists.{TableLists}
use Rattle.clif_meaning.specs.Ledger.{Answered, Ledger, answer_at, answers_to, ledger_with}
use Rattle.clif_meaning.specs.Name.{Name}
use Rattle.clif_meaning.specs.Request.{MakeEntry}
use Rattle.clif_expansion.specs.Emission.{ledger_importing, reading_generated, reading_importing}
use Rattle.clif_expansion.specs.Joining.{IsJoined, IsReadAnswer}
use Rattle.clif_expansion.specs.Reading.{Generated, IsReadAs, Reading, ScriptName}
use Rattle.clif_expansion.specs.ScriptCall.{with_imports}
use Rattle.clif_expansion.proofs.EmittedPrograms.{one_longer}
use Rattle.clif_expansion.proofs.Joins.{GoesOn, KeepsReading, answer_later, answers_before, read_before, read_either, states_later}

-- how many calls there are behind one more
pub import_longer : (plain : Ledger) (entry : TableEntry) → length (ledger_with plain (MakeEntry entry)).answers ≡ suc (length plain.answers)
import_longer plain entry = one_longer plain.answers (answers_to plain (MakeEntry entry))

-- ONE IMPORT --------------------------------------------------------------------------------------------------------------

-- what is generated so was so before, or is an answer to the import; and what is read was read before
pub read_old : (reading : Reading) (plain : Ledger) (x name : Name) → IsReadAs (reading_generated reading plain) x name → IsReadAs reading x name
read_old reading plain x name is = by (read_either reading (length plain.answers) (λ index. Generated) x (ScriptName name) is)
  where
    by : ((x.place ≡ length plain.answers) × (Generated ≡ ScriptName name)) ⊎ IsReadAs reading x name → IsReadAs reading x name
    by (inl new) = let apart = new.1 in cc
    by (inr before) = before

module _ (reading : Reading) (plain ledger : Ledger) (joined : IsJoined reading plain ledger) (entry : TableEntry) where
  abbrev pub later : Reading
  later = reading_generated reading plain

  abbrev pub plain_after : Ledger
  plain_after = ledger_with plain (MakeEntry entry)

  abbrev pub ledger_after : Ledger
  ledger_after = with_imports (entry ∷ []) ledger

  keeps : KeepsReading reading later
  keeps x name is = read_before reading (length plain.answers) (λ index. Generated) x (joined.made x name is).0 ∙ is

  pub import_on : GoesOn reading later (length ledger.answers) (length ledger.answers)
  import_on = record {
    keeps = keeps;
    generated = λ x is. read_before reading (length plain.answers) (λ index. Generated) x (joined.generated x is) ∙ is;
    unread = λ name is. record { unread = λ x read. is.unread x (read_old reading plain x name read); before = is.before };
  }

  generated_before : (x : Name) → later x ≡ Generated → x.place < length plain_after.answers
  generated_before x is = by (read_either reading (length plain.answers) (λ index. Generated) x Generated is)
    where
      more : length plain_after.answers ≡ suc (length plain.answers)
      more = import_longer plain entry

      by : ((x.place ≡ length plain.answers) × (Generated ≡ Generated)) ⊎ (reading x ≡ Generated) → x.place < length plain_after.answers
      by (inl new) = let place = new.0 in omega (arith, place, more)
      by (inr old) = let below = joined.generated x old in omega (arith, below, more)

  answers : (x name : Name) → IsReadAs later x name → IsReadAnswer later (answer_at plain_after x) (answer_at ledger name)
  answers x name is =
      let before = read_old reading plain x name is in
      subst (λ (answer : Option Answered). IsReadAnswer later answer (answer_at ledger name))
      (sym (answers_before plain.answers (answers_to plain (MakeEntry entry)) x.place x.index (joined.made x name before).0))
      (answer_later reading later keeps (answer_at plain x) (answer_at ledger name) (joined.ledgers.answers x name before))

  pub import_joined : IsJoined later plain_after ledger_after
  import_joined =
      let states = states_later reading later (length ledger.answers) (length ledger.answers) import_on plain ledger joined.ledgers.states in
      record {
        ledgers = record {
          states = record {
            blocks = states.blocks;
            current = states.current;
            layout = states.layout;
            variables = states.variables;
            jump_tables = states.jump_tables;
            exception_tables = states.exception_tables;
            tables = ap (λ (t : TableLists). with_entry t entry) states.tables;
          };
          answers = answers;
        };
        one_to_one = λ x y name first second. joined.one_to_one x y name (read_old reading plain x name first) (read_old reading plain y name second);
        made = λ x name is.
            let both = joined.made x name (read_old reading plain x name is) in
            let below = both.0 in
            let more = import_longer plain entry in
            (omega (arith, below, more), both.1);
        generated = generated_before;
      }

-- ALL IMPORTS -------------------------------------------------------------------------------------------------------------

pub imports_joined : (reading : Reading) (plain ledger : Ledger) (imports : List TableEntry) → IsJoined reading plain ledger
    → IsJoined (reading_importing reading plain imports) (ledger_importing plain imports) (with_imports imports ledger)
imports_joined reading plain ledger [] joined = joined
imports_joined reading plain ledger (entry ∷ imports) joined =
    imports_joined (reading_generated reading plain) (ledger_with plain (MakeEntry entry)) (with_imports (entry ∷ []) ledger) imports (import_joined reading plain ledger joined entry)

-- earlier names are read as before
pub importing_before : (reading : Reading) (plain : Ledger) (imports : List TableEntry) (x : Name) → x.place < length plain.answers → reading_importing reading plain imports x ≡ reading x
importing_before reading plain [] x below = λ i. reading x
importing_before reading plain (entry ∷ imports) x below =
    let more = import_longer plain entry in
    importing_before (reading_generated reading plain) (ledger_with plain (MakeEntry entry)) imports x (omega (arith, below, more))
    ∙ read_before reading (length plain.answers) (λ index. Generated) x below

-- how many calls there are behind imports
pub importing_longer : (plain : Ledger) (imports : List TableEntry) → length (ledger_importing plain imports).answers ≡ length plain.answers + length imports
importing_longer plain [] = omega arith
importing_longer plain (entry ∷ imports) =
    let more = import_longer plain entry in
    let rest = importing_longer (ledger_with plain (MakeEntry entry)) imports in
    omega (arith, more, rest)
