-- Joined calls have joined ledgers.
use Rattle.std.proofs.Common.{◌≡◌, Bool, true, false, List, [], ◌∷◌, ◌++◌, length, refl, sym, ◌∙◌, ap, subst, arith, Option, Some, None}
use Rattle.std.specs.Prelude.{◌&&◌, fold, is_some}
use Rattle.std.specs.List.{list_all}
use Rattle.std.proofs.lemmas.Bool.{and_parts}
use Rattle.clif_tables.specs.Entries.{TableEntry}
use Rattle.clif_meaning.specs.Acceptance.{allows, can_assign, can_lead, can_operate, has_entry, is_open, may_give_all}
use Rattle.clif_meaning.specs.Instruction.{Instruction, operation_entries}
use Rattle.clif_meaning.specs.Ledger.{Ledger, empty_ledger, has_value, ledger_after, ledger_with, type_of, variable_type}
use Rattle.clif_meaning.specs.Request.{Request, EnsureInsertedBlock, DefVar, UseVar, Build, Script}
use Rattle.clif_meaning.specs.Name.{Name}
use Rattle.clif_expansion.specs.Emission.{line_calls, reading_across, reading_line}
use Rattle.clif_expansion.specs.JoinedCalls.{Asking, Emitting, Giving, HaveCurrent, JoinedCallsHaveJoinedLedgers, Starting, Switching, uses_current}
use Rattle.clif_expansion.specs.Joining.{IsJoined, IsReadCurrent, reading_after}
use Rattle.clif_expansion.specs.Reading.{IsReadAs, Reading}
use Rattle.clif_expansion.specs.ScriptCall.{Ask, Emit, ScriptCall, call_allowed, can_emit, ledger_of, ledger_with_call, takes_byte}
pub use Rattle.clif_expansion.proofs.Emissions.{fold_on}
use Rattle.clif_expansion.proofs.Emissions.{emitting_keeps_joins}
use Rattle.clif_expansion.proofs.GivenCalls.{given_ledger}
use Rattle.clif_expansion.proofs.Joins.{asking_keeps_joins}
use Rattle.clif_expansion.proofs.SwitchedLedgers.{fold_longer, switched_joined}

-- later calls, from joined ledgers on
later_joined : (reading : Reading) (plain more : Script) (calls last : List ScriptCall)
    → IsJoined reading (fold ledger_with (ledger_after plain) more) (fold ledger_with_call (ledger_of calls) last)
    → IsJoined reading (ledger_after (plain ++ more)) (ledger_of (calls ++ last))
later_joined reading plain more calls last joined =
    subst (λ (l : Ledger). IsJoined reading l (ledger_of (calls ++ last))) (sym (fold_on ledger_with empty_ledger plain more))
    (subst (λ (l : Ledger). IsJoined reading (fold ledger_with (ledger_after plain) more) l) (sym (fold_on ledger_with_call empty_ledger calls last)) joined)

-- the script has a current block where the plain calls have one
pub current_read : (reading : Reading) (plain ledger : Ledger) (current' current : Option Name) (x : Name) → IsReadCurrent reading plain current' current → current' ≡ Some x
    → is_some current' ≡ is_some current → (block : Name) × (current ≡ Some block) × IsReadAs reading x block
current_read reading plain ledger None None x read same both = let no_way : ⊥ = cc in absurd no_way
current_read reading plain ledger None (Some block) x read same both = absurd read
current_read reading plain ledger (Some y) None x read same both = let no_way : true ≡ false = both in cc
current_read reading plain ledger (Some y) (Some block) x read same both = (block, refl, ap reading (sym (some_same y x same)) ∙ read)
  where
    some_same : (a b : Name) → Some a ≡ Some b → a ≡ b
    some_same a b equal = ap (λ (o : Option Name). name_or a o) equal
      where
        name_or : Name → Option Name → Name
        name_or other None = other
        name_or other (Some n) = n

-- where the script's current block is open, there is one on both sides
pub have_current : (reading : Reading) (plain ledger : Ledger) → IsJoined reading plain ledger → is_open ledger ledger.current ≡ true → HaveCurrent plain ledger
have_current reading plain ledger joined opened = by plain.current ledger.current joined.ledgers.states.current opened
  where
    by : (current' current : Option Name) → IsReadCurrent reading plain current' current → is_open ledger current ≡ true → is_some current' ≡ is_some current
    by None None read is = refl
    by None (Some block) read is = absurd read
    by (Some x) (Some block) read is = refl
    by (Some x) None read is = let no_way : false ≡ true = is in cc

-- so a call that may be made finds one on both sides if it uses the current block, and so does an emission that may be made
pub asked_placed : (reading : Reading) (plain ledger : Ledger) → IsJoined reading plain ledger → (request : Request) → allows ledger request ≡ true → uses_current request ≡ true → HaveCurrent plain ledger
asked_placed reading plain ledger joined EnsureInsertedBlock may uses = have_current reading plain ledger joined may
asked_placed reading plain ledger joined (DefVar variable value) may uses =
    have_current reading plain ledger joined (and_parts (is_open ledger ledger.current) (can_assign (variable_type ledger variable) (type_of ledger value)) may).0
asked_placed reading plain ledger joined (UseVar variable) may uses =
    have_current reading plain ledger joined (and_parts (is_open ledger ledger.current) (is_some (variable_type ledger variable)) may).0
asked_placed reading plain ledger joined (Build entries instruction) may uses =
    have_current reading plain ledger joined
    (built_open (list_all (has_value ledger) instruction.contexts) (may_give_all ledger entries) (is_open ledger ledger.current) (list_all (has_value ledger) instruction.operands)
    (list_all (can_lead ledger) instruction.edges) (can_operate instruction.operation instruction.controlling) (list_all (has_entry ledger.tables) (operation_entries instruction.operation)) may)
  where
    built_open : (a b c d e f g : Bool) → (a && b && c && d && e && f && g) ≡ true → c ≡ true
    built_open true true true d e f g is = refl
    built_open true true false d e f g is = is
    built_open true false c d e f g is = let no_way : false ≡ true = is in cc
    built_open false b c d e f g is = let no_way : false ≡ true = is in cc
asked_placed reading plain ledger joined _ may uses = let no_way : false ≡ true = uses in cc

pub emission_placed : (reading : Reading) (plain ledger : Ledger) → IsJoined reading plain ledger → (imports : List TableEntry) (instruction : Instruction Name Name)
    → call_allowed ledger (Emit imports instruction) ≡ true → HaveCurrent plain ledger
emission_placed reading plain ledger joined imports instruction may =
    have_current reading plain ledger joined
    (emitted_open (list_all (has_value ledger) instruction.contexts) (takes_byte ledger instruction.operation instruction.operands) (is_open ledger ledger.current) (list_all (has_value ledger) instruction.operands)
    (list_all (can_lead ledger) instruction.edges) (can_emit instruction.operation instruction.controlling) may)
  where
    emitted_open : (a b c d e f : Bool) → (a && b && c && d && e && f) ≡ true → c ≡ true
    emitted_open true true true d e f is = refl
    emitted_open true true false d e f is = is
    emitted_open true false c d e f is = let no_way : false ≡ true = is in cc
    emitted_open false b c d e f is = let no_way : false ≡ true = is in cc

pub calls_made : (script : Script) → length script ≡ length (ledger_after script).answers
calls_made script = let all = fold_longer script empty_ledger in omega (arith, all)

pub joined_calls : JoinedCallsHaveJoinedLedgers
joined_calls reading plain calls Starting = asking_keeps_joins.starts
joined_calls reading plain calls (Asking before script earlier asked request are is placed) =
    later_joined (reading_after before (ledger_after script) (ledger_of earlier)) script (asked ∷ []) earlier (Ask request ∷ [])
    (asking_keeps_joins.keeps before (ledger_after script) (ledger_of earlier) asked request (joined_calls before script earlier are) is)
joined_calls reading plain calls (Emitting how before script earlier imports code last instruction are placed line stays whole types) =
    later_joined (reading_line how before (ledger_after script) (ledger_of earlier) imports code) script (line_calls imports code last) earlier (Emit imports instruction ∷ [])
    (emitting_keeps_joins how before (ledger_after script) (ledger_of earlier) imports code last instruction (joined_calls before script earlier are) line stays whole types)
joined_calls reading plain calls (Switching before script more earlier block value ty keys edges switch branches tables are at placed is code) =
    let joined = joined_calls before script earlier are in
    let here = current_read before (ledger_after script) (ledger_of earlier) (ledger_after script).current (ledger_of earlier).current block joined.ledgers.states.current at placed in
    let from = fold_on ledger_with empty_ledger script more in
    subst (λ (l : Ledger). IsJoined (reading_across before (length script) (length more)) (ledger_after (script ++ more)) l) (sym (fold_on ledger_with_call empty_ledger earlier (Emit [] switch ∷ [])))
    (switched_joined before script more (ledger_of earlier) joined block here.0 value ty keys edges switch branches tables at here.1 here.2 is code (calls_made script) from)
joined_calls reading plain calls (Giving before script given earlier are is) =
    subst (λ (l : Ledger). IsJoined before l (ledger_of earlier)) (given_ledger script given is) (joined_calls before script earlier are)
