-- Calls that are given what was imported have the ledger and the program of those that are given nothing.
use Rattle.std.proofs.Common.{◌≡◌, List, [], ◌∷◌, refl, sym, ap, ap₂, ◌∙◌, Option}
use Rattle.std.specs.Prelude.{fold}
use Rattle.std.specs.List.{AllByRecursion, AllZip}
use Rattle.clif_meaning.specs.Instruction.{Edge}
use Rattle.clif_meaning.specs.Ledger.{ExceptionTable, Ledger, empty_ledger, ledger_after, ledger_with, with_served, with_tried}
use Rattle.clif_meaning.specs.Name.{Name}
use Rattle.clif_meaning.specs.Program.{Program, empty_program, program_of, with_call}
use Rattle.clif_meaning.specs.Request.{Build, GivenEntry, Imported, Request, Script, ServedBy, TriedBy}
use Rattle.clif_expansion.specs.JoinedCalls.{IsBuiltWith, IsGiven, IsImported, IsSame}

none_served : (tables : List (Option (List (Edge Name Name)))) (entries : List GivenEntry) → AllByRecursion IsImported entries → with_served tables entries ≡ tables
none_served tables [] are = refl
none_served tables (Imported entry ∷ entries) are = none_served tables entries are.1
none_served tables (ServedBy table ∷ entries) are = absurd are.0
none_served tables (TriedBy table ∷ entries) are = absurd are.0

none_tried : (tables : List (Option ExceptionTable)) (entries : List GivenEntry) → AllByRecursion IsImported entries → with_tried tables entries ≡ tables
none_tried tables [] are = refl
none_tried tables (Imported entry ∷ entries) are = none_tried tables entries are.1
none_tried tables (ServedBy table ∷ entries) are = absurd are.0
none_tried tables (TriedBy table ∷ entries) are = absurd are.0

one_ledger : (ledger : Ledger) (plain given : Request) → IsGiven plain given → ledger_with ledger plain ≡ ledger_with ledger given
one_ledger ledger plain given (IsSame request) = refl
one_ledger ledger plain given (IsBuiltWith entries instruction are) =
    let built : Ledger = ledger_with ledger (Build [] instruction) in
    ap₂ (λ (tables : List (Option (List (Edge Name Name)))) (exceptions : List (Option ExceptionTable)). record built { jump_tables = tables; exception_tables = exceptions })
    (sym (none_served ledger.jump_tables entries are)) (sym (none_tried ledger.exception_tables entries are))

ledgers_from : (ledger : Ledger) (plain given : Script) → AllZip IsGiven plain given → fold ledger_with ledger plain ≡ fold ledger_with ledger given
ledgers_from ledger [] [] are = refl
ledgers_from ledger (request ∷ plain) (other ∷ given) are =
    ap (λ (l : Ledger). fold ledger_with l plain) (one_ledger ledger request other are.0) ∙ ledgers_from (ledger_with ledger other) plain given are.1
ledgers_from ledger [] (other ∷ given) are = absurd are
ledgers_from ledger (request ∷ plain) [] are = absurd are

pub given_ledger : (plain given : Script) → AllZip IsGiven plain given → ledger_after plain ≡ ledger_after given
given_ledger plain given are = ledgers_from empty_ledger plain given are

one_program : (program : Program) (plain given : Request) → IsGiven plain given → with_call program plain ≡ with_call program given
one_program program plain given (IsSame request) = refl
one_program program plain given (IsBuiltWith entries instruction are) = refl

programs_from : (program : Program) (plain given : Script) → AllZip IsGiven plain given → fold with_call program plain ≡ fold with_call program given
programs_from program [] [] are = refl
programs_from program (request ∷ plain) (other ∷ given) are =
    ap (λ (p : Program). fold with_call p plain) (one_program program request other are.0) ∙ programs_from (with_call program other) plain given are.1
programs_from program [] (other ∷ given) are = absurd are
programs_from program (request ∷ plain) [] are = absurd are

pub given_program : (plain given : Script) → AllZip IsGiven plain given → program_of plain ≡ program_of given
given_program plain given are = programs_from empty_program plain given are
