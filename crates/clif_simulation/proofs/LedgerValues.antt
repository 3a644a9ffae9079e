-- Values of the ledger and their types after one more call.
use Rattle.std.proofs.Common.{◌≡◌, ℕ, suc, ◌<◌, ◌⊎◌, inl, inr, List, [], ◌∷◌, ◌++◌, length, sym, ◌∙◌, ap, subst, arith, true, false, Some, None, refl}
use Rattle.std.specs.Prelude.{slice_get, Option, IsTrue, is_some, option_and_then}
use Rattle.std.proofs.lemmas.Option.{slice_get_within}
use Rattle.clif_types.specs.declared.types.«Type».{«Type»}
use Rattle.clif_ir.specs.Body.{Body}
use Rattle.clif_ssa.specs.Structured.{HasType}
use Rattle.clif_meaning.specs.Name.{Name, answer_of}
use Rattle.clif_meaning.specs.Request.{AnsweredCall, script_of}
use Rattle.clif_meaning.specs.Ledger.{Answered, Ledger, ledger_after, answers_to, type_of, value_answer_type}
use Rattle.clif_meaning.proofs.CallLists.{ledger_place}
use Rattle.clif_simulation.specs.Tables.{answered}
use Rattle.clif_simulation.specs.Carries.{IsValue, ValuesTyped}
use Rattle.clif_simulation.proofs.Numbers.{answered_stays, ledger_longer, slice_get-front, slice_get-last, script_length}
use Rattle.clif_simulation.proofs.Values.{false_is, is_value_at}

-- the type of an answer, if it is there
abbrev type_in : Option (List Answered) → ℕ → Option «Type»
type_in o index = value_answer_type (option_and_then (λ (answers : List Answered). slice_get answers index) o)

pub as_many : (calls : List AnsweredCall) → length (ledger_after (script_of calls)).answers ≡ length calls
as_many calls = ledger_place (script_of calls) ∙ script_length calls

none_some : (ty : «Type») → None ≡ Some ty → ⊥
none_some ty same = cc

-- a name that has a type was answered
pub typed_earlier : (calls : List AnsweredCall) (name : Name) (ty : «Type») → type_of (ledger_after (script_of calls)) name ≡ Some ty → name.place < length calls
typed_earlier calls name ty is = by (slice_get (ledger_after (script_of calls)).answers name.place) refl is
  where
    by : (o : Option (List Answered)) → slice_get (ledger_after (script_of calls)).answers name.place ≡ o → type_in o name.index ≡ Some ty → name.place < length calls
    by None found h = absurd (none_some ty h)
    by (Some answers) found h = omega (arith, slice_get_within (ledger_after (script_of calls)).answers name.place answers found, as_many calls)

-- a value has a type
pub value_type : (calls : List AnsweredCall) (name : Name) → IsValue calls name → (ty : «Type») × (type_of (ledger_after (script_of calls)) name ≡ Some ty)
value_type calls name is = by (type_of (ledger_after (script_of calls)) name) refl is
  where
    by : (o : Option «Type») → type_of (ledger_after (script_of calls)) name ≡ o → IsTrue (is_some o) → (ty : «Type») × (type_of (ledger_after (script_of calls)) name ≡ Some ty)
    by None found h = absurd (false_is h)
    by (Some ty) found h = (ty, found)

pub value_earlier : (calls : List AnsweredCall) (name : Name) → IsValue calls name → name.place < length calls
value_earlier calls name is = let typed = value_type calls name is in typed_earlier calls name typed.0 typed.1

module _ (calls : List AnsweredCall) (call : AnsweredCall) where
  abbrev ledger : Ledger
  ledger = ledger_after (script_of calls)

  abbrev after : List AnsweredCall
  after = calls ++ call ∷ []

  pub answers_are : (ledger_after (script_of after)).answers ≡ ledger.answers ++ answers_to ledger call.request ∷ []
  answers_are = ap (λ (l : Ledger). l.answers) (ledger_longer calls call)

  -- what was answered before keeps its type
  pub type_stays : (name : Name) → name.place < length calls → type_of (ledger_after (script_of after)) name ≡ type_of ledger name
  type_stays name below =
      ap (λ (answers : List (List Answered)). type_in (slice_get answers name.place) name.index) answers_are
      ∙ ap (λ (o : Option (List Answered)). type_in o name.index)
      (slice_get-front ledger.answers (answers_to ledger call.request ∷ []) name.place (omega (arith, below, as_many calls)))

  pub value_stays : (name : Name) → IsValue calls name → IsValue after name
  value_stays name is = subst (λ (o : Option «Type»). IsTrue (is_some o)) (sym (type_stays name (value_earlier calls name is))) is

  -- what the call answers has its type
  pub type_new : (index : ℕ) → type_of (ledger_after (script_of after)) (answer_of (length calls) index) ≡ value_answer_type (slice_get (answers_to ledger call.request) index)
  type_new index =
      ap (λ (answers : List (List Answered)). type_in (slice_get answers (length calls)) index) answers_are
      ∙ ap (λ (o : Option (List Answered)). type_in o index)
      (ap (slice_get (ledger.answers ++ answers_to ledger call.request ∷ [])) (sym (as_many calls)) ∙ slice_get-last ledger.answers (answers_to ledger call.request))

  -- values keep their types in the function, and the call's answers have theirs
  pub typed_on : (f g : Body) → ValuesTyped calls f → ((v : ℕ) (ty : «Type») → HasType f v ty → HasType g v ty)
      → ((index : ℕ) (ty : «Type») → value_answer_type (slice_get (answers_to ledger call.request) index) ≡ Some ty → HasType g (answered after (answer_of (length calls) index)) ty)
      → ValuesTyped after g
  typed_on f g typed keeps new name ty is = by (order name.place (length calls))
    where
      order : (a b : ℕ) → (a < b) ⊎ ((a ≡ b) ⊎ (b < a))
      order a b = grind arith

      longer : length after ≡ suc (length calls)
      longer = ones calls
        where
          ones : (cs : List AnsweredCall) → length (cs ++ call ∷ []) ≡ suc (length cs)
          ones [] = refl
          ones (c ∷ cs) = ap suc (ones cs)

      by : (name.place < length calls) ⊎ ((name.place ≡ length calls) ⊎ (length calls < name.place)) → HasType g (answered after name) ty
      by (inl below) =
          subst (λ (v : ℕ). HasType g v ty) (sym (answered_stays calls call name below)) (keeps (answered calls name) ty (typed name ty (sym (type_stays name below) ∙ is)))
      by (inr (inl here)) =
          let same : answer_of (length calls) name.index ≡ name = ap (λ (p : ℕ). answer_of p name.index) (sym here) in
          subst (λ (n : Name). HasType g (answered after n) ty) same
          (new name.index ty (sym (type_new name.index) ∙ ap (type_of (ledger_after (script_of after))) same ∙ is))
      by (inr (inr above)) = let below = typed_earlier after name ty is in absurd (omega (arith, below, above, longer))

  -- a call that answers no value
  pub none_new : ((index : ℕ) → is_value_at (answers_to ledger call.request) index ≡ false)
      → (index : ℕ) (ty : «Type») → value_answer_type (slice_get (answers_to ledger call.request) index) ≡ Some ty → ⊥
  none_new none index ty is = apart (sym (none index) ∙ ap is_some is)
    where
      apart : false ≡ true → ⊥
      apart h = cc
