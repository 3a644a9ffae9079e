-- Lists of calls with one more at the end.
use Rattle.std.proofs.Common.{◌≡◌, ◌+◌, ℕ, zero, suc, List, [], ◌∷◌, ◌++◌, length, refl, ◌∙◌, ap, arith, Some, None, length-append}
use Rattle.std.specs.Prelude.{fold, slice_get, option_and_then, Option}
use Rattle.clif_meaning.specs.Name.{Name, answer_of}
use Rattle.clif_meaning.specs.Request.{Script, AnsweredCall, number_of}
use Rattle.clif_meaning.specs.Program.{Program, with_call, empty_program, program_of}
use Rattle.clif_meaning.specs.Ledger.{Ledger, ledger_with, empty_ledger, ledger_after}

place_from : (program : Program) (script : Script) → (fold with_call program script).place ≡ program.place + length script
place_from program [] = omega arith
place_from program (request ∷ script) = place_from (with_call program request) script ∙ omega arith

pub program_place : (script : Script) → (program_of script).place ≡ length script
program_place script = place_from empty_program script ∙ omega arith

answers_from : (ledger : Ledger) (script : Script) → length (fold ledger_with ledger script).answers ≡ length ledger.answers + length script
answers_from ledger [] = omega arith
answers_from ledger (request ∷ script) =
    answers_from (ledger_with ledger request) script ∙ omega (arith, length-append ledger.answers)

pub ledger_place : (script : Script) → length (ledger_after script).answers ≡ length script
ledger_place script = answers_from empty_ledger script ∙ omega arith

slice_get-front : {X : Type 0} (xs ys : List X) (i : ℕ) (x : X) → slice_get xs i ≡ Some x → slice_get (xs ++ ys) i ≡ Some x
slice_get-front [] ys i x found = cc
slice_get-front (y ∷ xs) ys zero x found = found
slice_get-front (y ∷ xs) ys (suc i) x found = slice_get-front xs ys i x found

slice_get-last : {X : Type 0} (xs : List X) (x : X) → slice_get (xs ++ x ∷ []) (length xs) ≡ Some x
slice_get-last [] x = refl
slice_get-last (y ∷ xs) x = slice_get-last xs x

pub kept : (calls : List AnsweredCall) (call : AnsweredCall) (name : Name) (number : ℕ) → number_of calls name ≡ Some number → number_of (calls ++ call ∷ []) name ≡ Some number
kept calls call name number found = by (slice_get calls name.place) refl found
  where
    by : (earlier : Option AnsweredCall) → slice_get calls name.place ≡ earlier
        → option_and_then (λ (c : AnsweredCall). slice_get c.numbers name.index) earlier ≡ Some number
        → number_of (calls ++ call ∷ []) name ≡ Some number
    by None there found = cc
    by (Some c) there found = ap (option_and_then (λ (c : AnsweredCall). slice_get c.numbers name.index)) (slice_get-front calls (call ∷ []) name.place c there) ∙ found

pub new : (calls : List AnsweredCall) (call : AnsweredCall) (index : ℕ) → number_of (calls ++ call ∷ []) (answer_of (length calls) index) ≡ slice_get call.numbers index
new calls call index = ap (option_and_then (λ (c : AnsweredCall). slice_get c.numbers index)) (slice_get-last calls call)
