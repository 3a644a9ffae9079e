-- What an item gives, and a parameter of the caller's, the ledger has as a value.
use Rattle.std.proofs.Common.{◌≡◌, ℕ, zero, suc, ◌+◌, ◌<◌, false, List, [], ◌∷◌, ◌++◌, length, map, Option, Some, None, inl, inr, refl, sym, ◌∙◌, ap, subst, arith}
use Rattle.std.specs.Prelude.{IsTrue, fold, is_some, option_and_then, slice_get}
use Rattle.std.specs.List.{AllByRecursion}
use Rattle.std.proofs.lemmas.Option.{slice_get_within}
use Rattle.clif_types.specs.declared.types.«Type».{«Type»}
use Rattle.clif_meaning.specs.Name.{Name, answer_of}
use Rattle.clif_meaning.specs.Instruction.{Instruction}
use Rattle.clif_meaning.specs.Request.{AnsweredCall, Build, DefVar, Request, Script, SwitchToBlock, UseVar, script_of}
use Rattle.clif_meaning.specs.Ledger.{AValue, AnInstruction, Answered, Ledger, answers_to, empty_ledger, ledger_with, value_answer_type}
use Rattle.clif_meaning.specs.Program.{Item, Instruct, Use, Assign, Program, answers_from, empty_program, extended, result_names, result_types, with_call, with_inserted, with_item_at, with_parameters, with_redirected}
use Rattle.clif_meaning.proofs.Answering.{TakesParameters, takes_parameters}
use Rattle.clif_meaning.proofs.Effects.{ProgramEffect, program_effect, Leaves, Inserts, Takes, Switches, Assigns, Uses, Builds, Redirects}
use Rattle.clif_simulation.specs.Carries.{IsValue}
use Rattle.clif_simulation.specs.Reading.{IsGivenFresh}
use Rattle.clif_simulation.specs.Tables.{item_at, program_so_far}
use Rattle.clif_simulation.proofs.Redirections.EachRedirected.{all_redirected}
use Rattle.clif_simulation.proofs.Finished.Giving.{In, contained_in}
use Rattle.clif_simulation.proofs.Labelling.EachGiven.{items_with, parameters_leave, parameters_with}
use Rattle.clif_simulation.proofs.Listed.{all_at}
use Rattle.clif_simulation.proofs.Numbers.{slice_get-front, slice_get-last}

-- Among these answers the name's is a value.
abbrev answer_in : Option (List Answered) → ℕ → Option Answered
answer_in o index = option_and_then (λ (answers : List Answered). slice_get answers index) o

abbrev IsValueIn : List (List Answered) → Name → Type 0
IsValueIn answers name = IsTrue (is_some (value_answer_type (answer_in (slice_get answers name.place) name.index)))

abbrev GivesValues : List (List Answered) → Item → Type 0
GivesValues answers (Instruct place instruction results) = AllByRecursion (IsValueIn answers) results
GivesValues answers (Use variable name) = IsValueIn answers name
GivesValues answers (Assign variable name) = Unit {0}

record AreValues (answers : List (List Answered)) (program : Program) : Type 0 where
  place : program.place ≡ length answers
  items : (block : Name) → AllByRecursion (GivesValues answers) (program.items block)
  parameters : (block : Name) → AllByRecursion (IsValueIn answers) (program.parameters block)

none_is : IsTrue false → ⊥
none_is is = cc

module _ (answers : List (List Answered)) (new : List Answered) where
  -- with one call more
  abbrev after : List (List Answered)
  after = answers ++ new ∷ []

  value_stays : (name : Name) → IsValueIn answers name → IsValueIn after name
  value_stays name is = by (slice_get answers name.place) refl is
    where
      by : (o : Option (List Answered)) → slice_get answers name.place ≡ o → IsTrue (is_some (value_answer_type (answer_in o name.index))) → IsValueIn after name
      by None found h = absurd (none_is h)
      by (Some there) found h =
          subst (λ (o : Option (List Answered)). IsTrue (is_some (value_answer_type (answer_in o name.index))))
          (sym (slice_get-front answers (new ∷ []) name.place (slice_get_within answers name.place there found) ∙ found)) h

  values_stay : (names : List Name) → AllByRecursion (IsValueIn answers) names → AllByRecursion (IsValueIn after) names
  values_stay [] all = tt
  values_stay (name ∷ names) all = (value_stays name all.0, values_stay names all.1)

  item_stays : (item : Item) → GivesValues answers item → GivesValues after item
  item_stays (Instruct place instruction results) gives = values_stay results gives
  item_stays (Use variable name) gives = value_stays name gives
  item_stays (Assign variable name) gives = tt

  items_stay : (items : List Item) → AllByRecursion (GivesValues answers) items → AllByRecursion (GivesValues after) items
  items_stay [] all = tt
  items_stay (item ∷ items) all = (item_stays item all.0, items_stay items all.1)

  -- what the call answers
  value_new : (index : ℕ) → IsTrue (is_some (value_answer_type (slice_get new index))) → IsValueIn after (answer_of (length answers) index)
  value_new index is = subst (λ (o : Option (List Answered)). IsTrue (is_some (value_answer_type (answer_in o index)))) (sym (slice_get-last answers new)) is

  values_new : (index : ℕ) (types : List «Type») → ((k : ℕ) → k < length types → IsTrue (is_some (value_answer_type (slice_get new (index + k)))))
      → AllByRecursion (IsValueIn after) (answers_from (length answers) index types)
  values_new index [] are = tt
  values_new index (ty ∷ types) are =
      let here : index + 0 ≡ index = omega arith in (
        value_new index (subst (λ (i : ℕ). IsTrue (is_some (value_answer_type (slice_get new i)))) here (are 0 (omega arith))),
        values_new (suc index) types (λ k below.
            let next : index + suc k ≡ suc index + k = omega arith in
            subst (λ (i : ℕ). IsTrue (is_some (value_answer_type (slice_get new i)))) next (are (suc k) (omega (arith, below)))),
      )

  -- the items and parameters that were there
  module _ (program : Program) (was : AreValues answers program) where
    old_items : (block : Name) → AllByRecursion (GivesValues after) (program.items block)
    old_items block = items_stay (program.items block) (was.items block)

    old_parameters : (block : Name) → AllByRecursion (IsValueIn after) (program.parameters block)
    old_parameters block = values_stay (program.parameters block) (was.parameters block)

    next_place : suc program.place ≡ length after
    next_place = ap suc was.place ∙ sym (longer answers)
      where
        longer : (xs : List (List Answered)) → length (xs ++ new ∷ []) ≡ suc (length xs)
        longer [] = refl
        longer (x ∷ xs) = ap suc (longer xs)

    -- a program with these items and parameters
    made : (other : Program) → ((block : Name) → AllByRecursion (GivesValues after) (other.items block)) → ((block : Name) → AllByRecursion (IsValueIn after) (other.parameters block))
        → AreValues after (record other { place = suc program.place })
    made other items parameters = record { place = next_place; items = items; parameters = parameters }

typed_value : (types : List «Type») (k : ℕ) → k < length types → IsTrue (is_some (value_answer_type (slice_get (map AValue types) k)))
typed_value [] k below = absurd (omega (arith, below))
typed_value (ty ∷ types) zero below = refl
typed_value (ty ∷ types) (suc k) below = typed_value types k (omega (arith, below))

module _ (ledger : Ledger) (program : Program) (was : AreValues ledger.answers program) where
  abbrev Becomes : Request → Type 0
  Becomes request = AreValues (ledger.answers ++ answers_to ledger request ∷ []) (with_call program request)

  -- nothing is given
  keeps : (new : List Answered) (other : Program) → other.items ≡ program.items → other.parameters ≡ program.parameters
      → AreValues (ledger.answers ++ new ∷ []) (record other { place = suc program.place })
  keeps new other items parameters =
      made ledger.answers new program was other
      (λ block. subst (λ (of : Name → List Item). AllByRecursion (GivesValues (ledger.answers ++ new ∷ [])) (of block)) (sym items) (old_items ledger.answers new program was block))
      (λ block. subst (λ (of : Name → List Name). AllByRecursion (IsValueIn (ledger.answers ++ new ∷ [])) (of block)) (sym parameters) (old_parameters ledger.answers new program was block))

  -- an item that gives values alone
  with_item_here : (new : List Answered) (from : Program) (item : Item) → from.items ≡ program.items → from.parameters ≡ program.parameters → GivesValues (ledger.answers ++ new ∷ []) item
      → AreValues (ledger.answers ++ new ∷ []) (record (with_item_at from program.current item) { place = suc program.place })
  with_item_here new from item items parameters gives =
      made ledger.answers new program was (with_item_at from program.current item)
      (items_with (GivesValues (ledger.answers ++ new ∷ [])) from program.current item
      (λ block. subst (λ (of : Name → List Item). AllByRecursion (GivesValues (ledger.answers ++ new ∷ [])) (of block)) (sym items) (old_items ledger.answers new program was block)) gives)
      (λ block. subst (λ (of : Name → List Name). AllByRecursion (IsValueIn (ledger.answers ++ new ∷ [])) (of block))
      (sym (parameters_leave from program.current item ∙ parameters)) (old_parameters ledger.answers new program was block))

  -- parameters of the caller's
  takes : (block : Name) (types : List «Type»)
      → AreValues (ledger.answers ++ map AValue types ∷ []) (record (with_parameters program block (answers_from program.place 0 types)) { place = suc program.place })
  takes block types =
      made ledger.answers (map AValue types) program was (with_parameters program block (answers_from program.place 0 types))
      (old_items ledger.answers (map AValue types) program was)
      (parameters_with (IsValueIn (ledger.answers ++ map AValue types ∷ [])) program (answers_from program.place 0 types) block (old_parameters ledger.answers (map AValue types) program was)
      (subst (λ (place : ℕ). AllByRecursion (IsValueIn (ledger.answers ++ map AValue types ∷ [])) (answers_from place 0 types)) (sym was.place)
      (values_new ledger.answers (map AValue types) 0 types (λ k below.
      let same : k ≡ 0 + k = omega arith in
      subst (λ (i : ℕ). IsTrue (is_some (value_answer_type (slice_get (map AValue types) i)))) same (typed_value types k below)))))

  -- an instruction
  builds : (instruction : Instruction Name Name)
      → AreValues (ledger.answers ++ (AnInstruction ∷ map AValue (result_types instruction.operation instruction.controlling)) ∷ [])
      (record (with_item_at (with_inserted program) program.current (Instruct program.place instruction (result_names program.place instruction))) { place = suc program.place })
  builds instruction =
      let types : List «Type» = result_types instruction.operation instruction.controlling in
      with_item_here (AnInstruction ∷ map AValue types) (with_inserted program) (Instruct program.place instruction (result_names program.place instruction)) refl refl
      (subst (λ (place : ℕ). AllByRecursion (IsValueIn (ledger.answers ++ (AnInstruction ∷ map AValue types) ∷ [])) (answers_from place 1 types)) (sym was.place)
      (values_new ledger.answers (AnInstruction ∷ map AValue types) 1 types (λ k below.
      let same : suc k ≡ 1 + k = omega arith in
      subst (λ (i : ℕ). IsTrue (is_some (value_answer_type (slice_get (AnInstruction ∷ map AValue types) i)))) same (typed_value types k below))))

  -- a use
  uses : (variable : ℕ) → Becomes (UseVar variable)
  uses variable =
      with_item_here (answers_to ledger (UseVar variable)) (with_inserted program) (Use variable (answer_of program.place 0)) refl refl
      (subst (λ (place : ℕ). IsValueIn (ledger.answers ++ answers_to ledger (UseVar variable) ∷ []) (answer_of place 0)) (sym was.place)
      (value_new ledger.answers (answers_to ledger (UseVar variable)) 0 refl))

  redirects : (new : List Answered) (branch from to : Name) → AreValues (ledger.answers ++ new ∷ []) (record (with_redirected program branch from to) { place = suc program.place })
  redirects new branch from to =
      made ledger.answers new program was (with_redirected program branch from to)
      (λ block. all_redirected (GivesValues (ledger.answers ++ new ∷ [])) (GivesValues (ledger.answers ++ new ∷ [])) branch from to (λ item gives. gives)
      (λ place instruction results gives. gives) (program.items block) (old_items ledger.answers new program was block))
      (old_parameters ledger.answers new program was)

  becomes : (request : Request) → Becomes request
  becomes request = by (program_effect request)
    where
      of_program : (other : Program) → extended program request ≡ other → AreValues (ledger.answers ++ answers_to ledger request ∷ []) (record other { place = suc program.place })
          → Becomes request
      of_program other is holds = subst (λ (p : Program). AreValues (ledger.answers ++ answers_to ledger request ∷ []) (record p { place = suc program.place })) (sym is) holds

      of_request : (other : Request) → request ≡ other → Becomes other → Becomes request
      of_request other is holds = subst Becomes (sym is) holds

      taken : TakesParameters request → Becomes request
      taken made =
          of_program (with_parameters program made.block (answers_from program.place 0 made.types)) (made.program program)
          (subst (λ (new : List Answered). AreValues (ledger.answers ++ new ∷ [])
          (record (with_parameters program made.block (answers_from program.place 0 made.types)) { place = suc program.place })) (sym (made.answers ledger)) (takes made.block made.types))

      by : ProgramEffect request → Becomes request
      by (Leaves stays is) = of_program program (is program) (keeps _ program refl refl)
      by (Inserts stays is) = of_program (with_inserted program) (is program) (keeps _ (with_inserted program) refl refl)
      by (Takes block types stays makes is) = taken (takes_parameters request makes)
      by (Switches block is) = of_request (SwitchToBlock block) is (keeps _ (record program { current = Some block }) refl refl)
      by (Assigns variable value is) = of_request (DefVar variable value) is (with_item_here _ program (Assign variable value) refl refl tt)
      by (Uses variable is) = of_request (UseVar variable) is (uses variable)
      by (Builds entries instruction is) = of_request (Build entries instruction) is (builds instruction)
      by (Redirects branch from to stays is) = of_program (with_redirected program branch from to) (is program) (redirects _ branch from to)

are_from : (ledger : Ledger) (program : Program) (script : Script) → AreValues ledger.answers program
    → AreValues (fold ledger_with ledger script).answers (fold with_call program script)
are_from ledger program [] was = was
are_from ledger program (request ∷ script) was = are_from (ledger_with ledger request) (with_call program request) script (becomes ledger program was request)

are_values : (calls : List AnsweredCall) → AreValues (fold ledger_with empty_ledger (script_of calls)).answers (program_so_far calls)
are_values calls = are_from empty_ledger empty_program (script_of calls) (record { place = refl; items = λ block. tt; parameters = λ block. tt })

pub listed : {X : Type 0} (P : X → Type 0) (xs : List X) (x : X) → AllByRecursion P xs → In x xs → P x
listed P [] x all there = absurd there
listed P (y ∷ xs) x all (inl here) = subst P (sym here) all.0
listed P (y ∷ xs) x all (inr later) = listed P xs x all.1 later

-- a name that is given afresh was answered by a value
pub fresh_value : (calls : List AnsweredCall) (name : Name) → IsGivenFresh (program_so_far calls) name → IsValue calls name
fresh_value calls name (inl given) =
    listed (IsValueIn (fold ledger_with empty_ledger (script_of calls)).answers) given.results name
    (listed (GivesValues (fold ledger_with empty_ledger (script_of calls)).answers) ((program_so_far calls).items given.block) (Instruct given.place given.instruction given.results)
    ((are_values calls).items given.block) (contained_in ((program_so_far calls).items given.block) (Instruct given.place given.instruction given.results) given.stands))
    (contained_in given.results name given.among)
fresh_value calls name (inr given) =
    listed (IsValueIn (fold ledger_with empty_ledger (script_of calls)).answers) ((program_so_far calls).parameters given.0) name
    ((are_values calls).parameters given.0) (contained_in ((program_so_far calls).parameters given.0) name given.1)

-- and so was what a use answers
pub used_value : (calls : List AnsweredCall) (block : Name) (k x : ℕ) (name : Name) → item_at calls block k ≡ Some (Use x name) → IsValue calls name
used_value calls block k x name stands =
    all_at (GivesValues (fold ledger_with empty_ledger (script_of calls)).answers) ((program_so_far calls).items block) k (Use x name) ((are_values calls).items block) stands
