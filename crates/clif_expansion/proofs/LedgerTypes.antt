-- Types by a later ledger are types by the ledger.
use Rattle.std.proofs.Common.{◌≡◌, ℕ, zero, suc, List, [], ◌∷◌, ◌++◌, Some}
use Rattle.std.specs.Prelude.{fold, option_and_then, slice_get}
use Rattle.clif_types.specs.declared.types.«Type».{«Type»}
use Rattle.clif_meaning.specs.Ledger.{Answered, Ledger, answers_to, ledger_with, value_answer_type}
use Rattle.clif_meaning.specs.Name.{Name}
use Rattle.clif_meaning.specs.Request.{Script}
use Rattle.clif_expansion.specs.PerformedCalls.{HaveTypes}
use Rattle.clif_expansion.specs.ScriptCall.{ScriptCall, call_answers, ledger_with_call}

-- a value keeps its type behind a call more
type_on : (answers : List (List Answered)) (more : List Answered) (place index : ℕ) (ty : «Type»)
    → value_answer_type (option_and_then (λ (given : List Answered). slice_get given index) (slice_get answers place)) ≡ Some ty
    → value_answer_type (option_and_then (λ (given : List Answered). slice_get given index) (slice_get (answers ++ more ∷ []) place)) ≡ Some ty
type_on [] more place index ty is = let none : ⊥ = cc in absurd none
type_on (given ∷ answers) more zero index ty is = is
type_on (given ∷ answers) more (suc place) index ty is = type_on answers more place index ty is

-- so types by a later ledger are types by the ledger
pub types_before : (ledger : Ledger) (more : Script) (types : Name → «Type») → HaveTypes (fold ledger_with ledger more) types → HaveTypes ledger types
types_before ledger [] types have = have
types_before ledger (request ∷ more) types have =
    λ x ty is. types_before (ledger_with ledger request) more types have x ty (type_on ledger.answers (answers_to ledger request) x.place x.index ty is)

pub call_types_before : (ledger : Ledger) (call : ScriptCall) (types : Name → «Type») → HaveTypes (ledger_with_call ledger call) types → HaveTypes ledger types
call_types_before ledger call types have = λ x ty is. have x ty (type_on ledger.answers (call_answers ledger call) x.place x.index ty is)
