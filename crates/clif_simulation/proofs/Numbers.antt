-- Lists of calls with one more at the end: what they answered, and their programs.
use Rattle.std.proofs.Common.{◌≡◌, ◌≢◌, ℕ, zero, suc, ◌<◌, List, [], ◌∷◌, ◌++◌, length, refl, ◌∙◌, ap, arith, Some, ◌⊎◌, inl, inr}
use Rattle.std.specs.Prelude.{slice_get, option_and_then, Option, fold}
use Rattle.clif_meaning.specs.Name.{Name}
use Rattle.clif_meaning.specs.Request.{AnsweredCall, script_of}
use Rattle.clif_meaning.specs.Program.{program_of, with_call, empty_program}
use Rattle.clif_meaning.specs.Ledger.{ledger_after, ledger_with, empty_ledger}
use Rattle.clif_meaning.proofs.CallLists.{program_place}
use Rattle.clif_simulation.specs.Tables.{answered, number_or_none, program_so_far}

pub slice_get-front : {X : Type 0} (xs ys : List X) (i : ℕ) → i < length xs → slice_get (xs ++ ys) i ≡ slice_get xs i
slice_get-front [] ys i below = absurd (omega arith)
slice_get-front (x ∷ xs) ys zero below = refl
slice_get-front (x ∷ xs) ys (suc i) below = slice_get-front xs ys i (omega arith)

pub slice_get-last : {X : Type 0} (xs : List X) (x : X) → slice_get (xs ++ x ∷ []) (length xs) ≡ Some x
slice_get-last [] x = refl
slice_get-last (y ∷ xs) x = slice_get-last xs x

pub slice_get-other : {X : Type 0} (xs : List X) (x : X) (i : ℕ) → i ≢ length xs → slice_get (xs ++ x ∷ []) i ≡ slice_get xs i
slice_get-other [] x zero other = absurd (other refl)
slice_get-other [] x (suc i) other = refl
slice_get-other (y ∷ xs) x zero other = refl
slice_get-other (y ∷ xs) x (suc i) other = slice_get-other xs x i (λ same. other (omega (arith, same)))

-- an entry of the longer list is one of the shorter, or the new one at its end
pub slice_get-longer : {X : Type 0} (xs : List X) (x : X) (i : ℕ) (y : X) → slice_get (xs ++ x ∷ []) i ≡ Some y
    → ((slice_get xs i ≡ Some y) × (i < length xs)) ⊎ ((i ≡ length xs) × (x ≡ y))
slice_get-longer [] x zero y found = inr (refl, cc)
slice_get-longer [] x (suc i) y found = cc
slice_get-longer (z ∷ xs) x zero y found = inl (found, omega arith)
slice_get-longer {X} (z ∷ xs) x (suc i) y found = by (slice_get-longer xs x i y found)
  where
    by : ((slice_get xs i ≡ Some y) × (i < length xs)) ⊎ ((i ≡ length xs) × (x ≡ y))
        → ((slice_get xs i ≡ Some y) × (suc i < suc (length xs))) ⊎ ((suc i ≡ suc (length xs)) × (x ≡ y))
    by (inl h) = inl (h.0, omega arith)
    by (inr h) = inr (ap suc h.0, h.1)

-- what was answered before keeps its number
pub answered_stays : (calls : List AnsweredCall) (call : AnsweredCall) (name : Name) → name.place < length calls → answered (calls ++ call ∷ []) name ≡ answered calls name
answered_stays calls call name earlier =
    ap (λ (o : Option AnsweredCall). number_or_none (option_and_then (λ (c : AnsweredCall). slice_get c.numbers name.index) o))
    (slice_get-front calls (call ∷ []) name.place earlier)

pub script_longer : (calls : List AnsweredCall) (call : AnsweredCall) → script_of (calls ++ call ∷ []) ≡ script_of calls ++ call.request ∷ []
script_longer [] call = refl
script_longer (c ∷ calls) call = ap (λ rest. c.request ∷ rest) (script_longer calls call)

fold_longer : {A B : Type 0} (f : B → A → B) (start : B) (xs : List A) (x : A) → fold f start (xs ++ x ∷ []) ≡ f (fold f start xs) x
fold_longer f start [] x = refl
fold_longer f start (y ∷ xs) x = fold_longer f (f start y) xs x

pub program_longer : (calls : List AnsweredCall) (call : AnsweredCall) → program_so_far (calls ++ call ∷ []) ≡ with_call (program_so_far calls) call.request
program_longer calls call = ap program_of (script_longer calls call) ∙ fold_longer with_call empty_program (script_of calls) call.request

pub ledger_longer : (calls : List AnsweredCall) (call : AnsweredCall) → ledger_after (script_of (calls ++ call ∷ [])) ≡ ledger_with (ledger_after (script_of calls)) call.request
ledger_longer calls call = ap ledger_after (script_longer calls call) ∙ fold_longer ledger_with empty_ledger (script_of calls) call.request

pub script_length : (calls : List AnsweredCall) → length (script_of calls) ≡ length calls
script_length [] = refl
script_length (c ∷ calls) = ap suc (script_length calls)

pub place_so_far : (calls : List AnsweredCall) → (program_so_far calls).place ≡ length calls
place_so_far calls = program_place (script_of calls) ∙ script_length calls
