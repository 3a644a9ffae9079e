-- Names that were made and that no answer has: those behind a call that answers nothing.
use Rattle.std.proofs.Common.{◌≡◌, ◌<◌, ◌⊎◌, inl, inr, List, [], ◌∷◌, ◌++◌, length, arith, sym, ◌∙◌, subst}
use Rattle.std.specs.Prelude.{Bool, true, false, fold, None, if◌then◌else◌, ◌==◌}
use Rattle.clif_meaning.specs.Instruction.{Instruction}
use Rattle.clif_meaning.specs.Ledger.{Ledger, answer_at, empty_ledger, ledger_after, ledger_with}
use Rattle.clif_meaning.specs.Name as named
use Rattle.clif_meaning.specs.Request.{MakeEntry, Script}
use Rattle.clif_tables.specs.Entries.{TableEntry}
use Rattle.clif_expansion.specs.Emission.{AreGenerated, LastResults, building, reading_behind, reading_generated, reading_importing, results_as}
use Rattle.clif_expansion.specs.Reading.{Generated, IsReadAs, Reading, ScriptName}
use Rattle.clif_expansion.specs.ScriptCall.{ScriptCall, call_answers, ledger_of, ledger_with_call}
use Rattle.clif_expansion.proofs.EmittedPrograms.{one_longer}
use Rattle.clif_expansion.proofs.JoinedCalls.{fold_on}
use Rattle.clif_expansion.proofs.Joins.{answers_before}
use Rattle.clif_expansion.proofs.SwitchedLedgers.{answer_fold, fold_longer}

-- two names, one of either side, that are no answers
pub record AreUnanswered (plain ledger : Ledger) (x name : named.Name) : Type 0 where
  pub plain_made : x.place < length plain.answers
  pub made : name.place < length ledger.answers
  pub none_plain : answer_at plain x ≡ None
  pub none : answer_at ledger name ≡ None

-- They stay so as calls are made.
pub still-unanswered : (plain more : Script) (script : List ScriptCall) (call : ScriptCall) (x name : named.Name) → AreUnanswered (ledger_after plain) (ledger_of script) x name
    → AreUnanswered (ledger_after (plain ++ more)) (ledger_of (script ++ call ∷ [])) x name
still-unanswered plain more script call x name gone =
    subst (λ (after : Ledger). AreUnanswered after (ledger_of (script ++ call ∷ [])) x name) (sym (fold_on ledger_with empty_ledger plain more))
    (subst (λ (after : Ledger). AreUnanswered (fold ledger_with (ledger_after plain) more) after x name) (sym (fold_on ledger_with_call empty_ledger script (call ∷ []))) (record {
      plain_made = let longer = fold_longer more (ledger_after plain) in let below = gone.plain_made in omega (arith, longer, below);
      made = let longer = one_longer (ledger_of script).answers (call_answers (ledger_of script) call) in let below = gone.made in omega (arith, longer, below);
      none_plain = answer_fold more (ledger_after plain) x gone.plain_made ∙ gone.none_plain;
      none = answers_before (ledger_of script).answers (call_answers (ledger_of script) call) name.place name.index gone.made ∙ gone.none;
    }))

-- what was generated isn't read
not-generated : (reading : Reading) (here : Bool) (x name : named.Name) → (if here then Generated else reading x) ≡ ScriptName name → IsReadAs reading x name
not-generated reading true x name is = let no_way : ⊥ = cc in absurd no_way
not-generated reading false x name is = is

-- What is read behind code in a line is read so whatever was read before it, or was read before it.
pub emitted-alike : (how : LastResults) (first second : Reading) (plain ledger : Ledger) (code : List (Instruction named.Name named.Name)) (x name : named.Name) → IsReadAs (reading_behind how first plain ledger code) x name
    → IsReadAs (reading_behind how second plain ledger code) x name ⊎ IsReadAs first x name
emitted-alike how first second plain ledger [] x name is = by (x.place == length plain.answers) is
  where
    by : (here : Bool) → (if here then results_as how (length ledger.answers) x.index else first x) ≡ ScriptName name
        → ((if here then results_as how (length ledger.answers) x.index else second x) ≡ ScriptName name) ⊎ IsReadAs first x name
    by true is = inl is
    by false is = inr is
emitted-alike how first second plain ledger (instruction ∷ code) x name is =
    by (emitted-alike how (reading_generated first plain) (reading_generated second plain) (ledger_with plain (building instruction)) ledger code x name is)
  where
    by : IsReadAs (reading_behind how second plain ledger (instruction ∷ code)) x name ⊎ IsReadAs (reading_generated first plain) x name
        → IsReadAs (reading_behind how second plain ledger (instruction ∷ code)) x name ⊎ IsReadAs first x name
    by (inl read) = inl read
    by (inr old) = inr (not-generated first (x.place == length plain.answers) x name old)

-- Behind imports, and behind code all of whose answers are generated, it was read before.
pub importing-read : (reading : Reading) (plain : Ledger) (imports : List TableEntry) (x name : named.Name) → IsReadAs (reading_importing reading plain imports) x name → IsReadAs reading x name
importing-read reading plain [] x name is = is
importing-read reading plain (entry ∷ imports) x name is =
    not-generated reading (x.place == length plain.answers) x name
    (importing-read (reading_generated reading plain) (ledger_with plain (MakeEntry entry)) imports x name is)

pub generated-read : (reading : Reading) (plain ledger : Ledger) (code : List (Instruction named.Name named.Name)) (x name : named.Name) → IsReadAs (reading_behind AreGenerated reading plain ledger code) x name
    → IsReadAs reading x name
generated-read reading plain ledger [] x name is = not-generated reading (x.place == length plain.answers) x name is
generated-read reading plain ledger (instruction ∷ code) x name is =
    not-generated reading (x.place == length plain.answers) x name
    (generated-read (reading_generated reading plain) (ledger_with plain (building instruction)) ledger code x name is)
