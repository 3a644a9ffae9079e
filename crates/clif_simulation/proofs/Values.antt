-- Values of the ledger are given by items, after each kind of call; and the names of the next answers are new.
use Rattle.std.proofs.Common.{◌≡◌, ◌≢◌, ℕ, suc, ◌<◌, List, [], ◌∷◌, ◌++◌, length, refl, sym, ◌∙◌, ap, subst, arith, Some, None, ◌⊎◌, inl, inr, Bool, false}
use Rattle.std.specs.Prelude.{slice_get, Option, Contains, IsTrue, is_some, option_and_then}
use Rattle.clif_paths.specs.Places.{start, inside}
use Rattle.clif_paths.specs.State.{Naming}
use Rattle.clif_paths.specs.Steps.{IsNewName}
use Rattle.clif_paths.specs.Blocks.{Blocks, state_of}
use Rattle.clif_paths.proofs.PathLemmas.{dec_place}
use Rattle.clif_ssa.specs.Sound.{SameProgram}
use Rattle.clif_meaning.specs.Name.{Name, answer_of}
use Rattle.clif_meaning.specs.Request.{AnsweredCall, script_of}
use Rattle.clif_meaning.specs.Ledger.{Answered, Ledger, ledger_after, has_value, answers_to, value_answer_type}
use Rattle.clif_meaning.specs.Program.{Item}
use Rattle.clif_meaning.specs.WellPlaced.{item_gives}
use Rattle.clif_meaning.proofs.CallLists.{ledger_place}
use Rattle.clif_simulation.specs.Tables.{code, answered, IsProgramOf}
use Rattle.clif_simulation.specs.Carries.{ValuesGiven}
use Rattle.clif_simulation.proofs.Codes.{differ as codes_differ}
use Rattle.clif_simulation.proofs.GivenNames.{is_named}
use Rattle.clif_simulation.proofs.Numbers.{ledger_longer, slice_get-front, slice_get-last, script_length}
use Rattle.clif_simulation.proofs.Extending.{AddsItem}
use Rattle.std.proofs.lemmas.Option.{slice_get_past}

pub false_is : IsTrue false → ⊥
false_is h = cc

-- the value of an answer list, if it has one there
abbrev pub is_value_at : List Answered → ℕ → Bool
is_value_at answers index = is_some (value_answer_type (slice_get answers index))

abbrev pub is_value_in : Option (List Answered) → ℕ → Bool
is_value_in o index = is_some (value_answer_type (option_and_then (λ (answers : List Answered). slice_get answers index) o))

module _ (calls : List AnsweredCall) (call : AnsweredCall) where
  abbrev ledger : Ledger
  ledger = ledger_after (script_of calls)

  abbrev after : List AnsweredCall
  after = calls ++ call ∷ []

  answers_are : (ledger_after (script_of after)).answers ≡ ledger.answers ++ answers_to ledger call.request ∷ []
  answers_are = ap (λ (l : Ledger). l.answers) (ledger_longer calls call)

  as_many : length ledger.answers ≡ length calls
  as_many = ledger_place (script_of calls) ∙ script_length calls

  -- a value of the longer list is one of the shorter, or an answer to the call
  value_cases : (name : Name) → IsTrue (has_value (ledger_after (script_of after)) name)
      → (IsTrue (has_value ledger name) × (name.place < length calls))
      ⊎ ((name.place ≡ length calls) × IsTrue (is_value_at (answers_to ledger call.request) name.index))
  value_cases name is = by (order name.place (length calls))
    where
      now : IsTrue (is_value_in (slice_get (ledger.answers ++ answers_to ledger call.request ∷ []) name.place) name.index)
      now = subst (λ (answers : List (List Answered)). IsTrue (is_value_in (slice_get answers name.place) name.index)) answers_are is

      order : (a b : ℕ) → (a < b) ⊎ ((a ≡ b) ⊎ (b < a))
      order a b = grind arith

      longer : (answers : List (List Answered)) (last : List Answered) → length (answers ++ last ∷ []) ≡ suc (length answers)
      longer [] last = refl
      longer (x ∷ answers) last = ap suc (longer answers last)

      by : (name.place < length calls) ⊎ ((name.place ≡ length calls) ⊎ (length calls < name.place))
          → (IsTrue (has_value ledger name) × (name.place < length calls)) ⊎ ((name.place ≡ length calls) × IsTrue (is_value_at (answers_to ledger call.request) name.index))
      by (inl below) =
          let old = slice_get-front ledger.answers (answers_to ledger call.request ∷ []) name.place (omega (arith, below, as_many)) in
          inl (subst (λ (o : Option (List Answered)). IsTrue (is_value_in o name.index)) old now, below)
      by (inr (inl here)) =
          let there : slice_get (ledger.answers ++ answers_to ledger call.request ∷ []) name.place ≡ Some (answers_to ledger call.request) =
          ap (slice_get (ledger.answers ++ answers_to ledger call.request ∷ [])) (here ∙ sym as_many) ∙ slice_get-last ledger.answers (answers_to ledger call.request) in
          inr (here, subst (λ (o : Option (List Answered)). IsTrue (is_value_in o name.index)) there now)
      by (inr (inr above)) =
          let none : slice_get (ledger.answers ++ answers_to ledger call.request ∷ []) name.place ≡ None =
          slice_get_past (ledger.answers ++ answers_to ledger call.request ∷ []) name.place (omega (arith, above, as_many, longer ledger.answers (answers_to ledger call.request))) in
          absurd (false_is (subst (λ (o : Option (List Answered)). IsTrue (is_value_in o name.index)) none now))

  -- a call that answers no value
  pub values_kept : (T T' : Blocks) → SameProgram T T' → ((index : ℕ) → is_value_at (answers_to ledger call.request) index ≡ false) → ValuesGiven calls T → ValuesGiven after T'
  values_kept T T' same none given name is = by (value_cases name is)
    where
      by : (IsTrue (has_value ledger name) × (name.place < length calls)) ⊎ ((name.place ≡ length calls) × IsTrue (is_value_at (answers_to ledger call.request) name.index))
          → (T'.naming (code name)).home ≢ start
      by (inl old) at_start = given name old.0 (sym (ap (λ (n : Naming). n.home) (same.naming (code name))) ∙ at_start)
      by (inr new) at_start = false_is (subst IsTrue (none name.index) new.1)

  -- a call with an item, whose values the item gives
  module _ (T T' : Blocks) (b : ℕ) (B : Name) (item : Item) (adds : AddsItem calls after T T' b B item)
      (gives : (index : ℕ) → IsTrue (is_value_at (answers_to ledger call.request) index) → Contains (item_gives (Some item)) (answer_of (length calls) index)) where
    given_new : (x : Name) → Contains (item_gives (Some item)) x → (T'.naming (code x)).home ≢ start
    given_new x here at_start = differ (sym (ap (λ (n : Naming). n.home) (adds.gives_new x here).1) ∙ at_start)
      where
        differ : inside b (suc (T.count b)) ≡ start → ⊥
        differ h = cc

    pub values_added : ValuesGiven calls T → ValuesGiven after T'
    values_added given name is = by (value_cases name is) (adds.gives_decided (code name))
      where
        renamed : name.place ≡ length calls → answer_of (length calls) name.index ≡ name
        renamed here = ap (λ (p : ℕ). answer_of p name.index) (sym here)

        by : (IsTrue (has_value ledger name) × (name.place < length calls)) ⊎ ((name.place ≡ length calls) × IsTrue (is_value_at (answers_to ledger call.request) name.index))
            → ((x : Name) × Contains (item_gives (Some item)) x × (code x ≡ code name)) ⊎ ((T'.naming (code name) ≡ T.naming (code name)) × (T'.answer (code name) ≡ T.answer (code name)))
            → (T'.naming (code name)).home ≢ start
        by (inl old) (inl new) = subst (λ (x : Name). (T'.naming (code x)).home ≢ start) (codes_differ new.0 name new.2) (given_new new.0 new.1)
        by (inl old) (inr kept) = λ at_start. given name old.0 (sym (ap (λ (n : Naming). n.home) kept.0) ∙ at_start)
        by (inr new) d = subst (λ (x : Name). (T'.naming (code x)).home ≢ start) (renamed new.0) (given_new (answer_of (length calls) name.index) (gives name.index new.1))

-- the name of the next call's answer is new
pub next_is_new : (calls : List AnsweredCall) (T : Blocks) (index : ℕ) → IsProgramOf calls T → IsNewName (state_of T) (code (answer_of (length calls) index))
next_is_new calls T index was = record {
  new_name = by (dec_place (T.naming (code name)).home start);
  unassigned = λ place x is.
      let a = was.assigned_earlier place x (code name) is in
      late a.0 (codes_differ a.0 name a.1) a.2;
}
  where
    name : Name
    name = answer_of (length calls) index

    late : (x : Name) → x ≡ name → x.place < length calls → ⊥
    late x same earlier = let p : x.place ≡ length calls = ap (λ (n : Name). n.place) same in omega (arith, p, earlier)

    by : Dec ((T.naming (code name)).home ≡ start) → (T.naming (code name)).home ≡ start
    by (yes at_start) = at_start
    by (no given) = let g = is_named calls T was (code name) given in absurd (late g.name (codes_differ g.name name g.coded) g.earlier)

-- a value of the ledger is answered by the tables as by the builder
pub value_answered : (calls : List AnsweredCall) (T : Blocks) (name : Name) → IsProgramOf calls T → ValuesGiven calls T → IsTrue (has_value (ledger_after (script_of calls)) name)
    → (T.answer (code name) ≡ answered calls name) × (name.place < length calls) × ((T.naming (code name)).home ≢ start)
value_answered calls T name was values is =
    let home = values name is in
    let g = is_named calls T was (code name) home in
    let same : g.name ≡ name = codes_differ g.name name g.coded in
    (g.answers ∙ ap (answered calls) same, subst (λ (x : Name). x.place < length calls) same g.earlier, home)
