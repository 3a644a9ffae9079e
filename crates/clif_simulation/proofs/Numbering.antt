-- Instructions are known by their numbers: those of a block are the answers of its items, in order, and no two names are
-- answered by one instruction. How a call keeps this.
use Rattle.std.proofs.Common.{◌≡◌, ℕ, zero, suc, ◌<◌, ◌≤◌, List, [], ◌∷◌, ◌++◌, length, map, refl, sym, ◌∙◌, ap, ap₂, subst, arith, Option, Some, None, ◌⊎◌, inl, inr}
use Rattle.std.specs.Prelude.{flat_map, option_and_then, slice_get}
use Rattle.std.specs.List.{AllByRecursion}
use Rattle.std.proofs.lemmas.List.{append-nil, append_assoc}
use Rattle.std.proofs.lemmas.Option.{slice_get_within}
use Rattle.clif_types.specs.declared.types.«Type».{«Type»}
use Rattle.clif_meaning.specs.Instruction.{Edge}
use Rattle.clif_meaning.specs.Ledger.{Answered, AnEdge, AnInstruction, AValue, Ledger, answers_to, ledger_after}
use Rattle.clif_meaning.specs.Name.{Name, answer_of}
use Rattle.clif_meaning.specs.Program.{Item, Instruct, Use, Assign, result_types}
use Rattle.clif_meaning.specs.Request.{AnsweredCall, Request, Build, script_of}
use Rattle.clif_meaning.proofs.Answering.{AnswersEffect, AnswersNothing, AnswersValues, AnswersEntity, AnswersEdge, AnswersInstruction, IsEntity, answers_effect}
use Rattle.clif_simulation.specs.Carries.{InstructionsApart, IsBuilt, IsInstruction, instruction_of}
use Rattle.clif_simulation.specs.Tables.{answered}
use Rattle.clif_simulation.proofs.LedgerValues.{answers_are, as_many}
use Rattle.clif_simulation.proofs.ItemCalls.{number_of_answer}
use Rattle.clif_simulation.proofs.Numbers.{answered_stays, slice_get-front, slice_get-last, slice_get-longer}

none_some : None ≡ Some AnInstruction → ⊥
none_some same = cc

no_value : (ty : «Type») → Some (AValue ty) ≡ Some AnInstruction → ⊥
no_value ty same = cc

pub values_alone : (types : List «Type») (index : ℕ) → slice_get (map AValue types) index ≡ Some AnInstruction → ⊥
values_alone [] index is = none_some is
values_alone (ty ∷ types) zero is = no_value ty is
values_alone (ty ∷ types) (suc index) is = values_alone types index is

same_answer : (answer : Answered) → Some answer ≡ Some AnInstruction → answer ≡ AnInstruction
same_answer answer same = cc

-- the call makes no instruction
abbrev pub MakesNoInstruction : Request → Type 0
MakesNoInstruction (Build entries instruction) = ⊥
MakesNoInstruction _ = Unit {0}

pub none_made : (ledger : Ledger) (request : Request) → MakesNoInstruction request → (index : ℕ) → slice_get (answers_to ledger request) index ≡ Some AnInstruction → ⊥
none_made ledger request none index is = by (answers_effect request)
  where
    of_answers : (answers : List Answered) → answers_to ledger request ≡ answers → slice_get answers index ≡ Some AnInstruction
    of_answers answers same = ap (λ (given : List Answered). slice_get given index) (sym same) ∙ is

    one : (answer : Answered) → IsEntity answer → (at : ℕ) → slice_get (answer ∷ []) at ≡ Some AnInstruction → ⊥
    one answer entity zero there = subst IsEntity (same_answer answer there) entity
    one answer entity (suc at) there = none_some there

    edge_alone : (edge : Edge Name Name) (at : ℕ) → slice_get (AnEdge edge ∷ []) at ≡ Some AnInstruction → ⊥
    edge_alone edge zero there = cc
    edge_alone edge (suc at) there = none_some there

    by : AnswersEffect request → ⊥
    by (AnswersNothing same) = none_some (of_answers _ (same ledger))
    by (AnswersValues types same) = values_alone (types ledger) index (of_answers _ (same ledger))
    by (AnswersEntity answer entity same) = one (answer ledger) (entity ledger) index (of_answers _ (same ledger))
    by (AnswersEdge edge same) = edge_alone edge index (of_answers _ (ap (answers_to ledger) same))
    by (AnswersInstruction entries instruction same) = subst MakesNoInstruction same none

-- an instruction is the first of its call's answers
pub instruction_first : (types : List «Type») (index : ℕ) → slice_get (AnInstruction ∷ map AValue types) index ≡ Some AnInstruction → index ≡ 0
instruction_first types zero is = refl
instruction_first types (suc index) is = absurd (values_alone types index is)

abbrev answer_in : Option (List Answered) → ℕ → Option Answered
answer_in o index = option_and_then (λ (answers : List Answered). slice_get answers index) o

-- what an instruction answered was answered
pub instruction_earlier : (calls : List AnsweredCall) (name : Name) → IsInstruction calls name → name.place < length calls
instruction_earlier calls name is = by (slice_get (ledger_after (script_of calls)).answers name.place) refl is
  where
    by : (o : Option (List Answered)) → slice_get (ledger_after (script_of calls)).answers name.place ≡ o → answer_in o name.index ≡ Some AnInstruction → name.place < length calls
    by None found h = absurd (none_some h)
    by (Some answers) found h = omega (arith, slice_get_within (ledger_after (script_of calls)).answers name.place answers found, as_many calls)

module _ (calls : List AnsweredCall) (call : AnsweredCall) where
  abbrev ledger : Ledger
  ledger = ledger_after (script_of calls)

  abbrev after : List AnsweredCall
  after = calls ++ call ∷ []

  -- it stays one
  pub instruction_stays : (name : Name) → IsInstruction calls name → IsInstruction after name
  instruction_stays name is =
      let below = instruction_earlier calls name is in
      ap (λ (answers : List (List Answered)). answer_in (slice_get answers name.place) name.index) (answers_are calls call)
      ∙ ap (λ (o : Option (List Answered)). answer_in o name.index)
      (slice_get-front ledger.answers (answers_to ledger call.request ∷ []) name.place (omega (arith, below, as_many calls)))
      ∙ is

  -- what the call answers is one where its answer is
  pub instruction_new : (index : ℕ) → slice_get (answers_to ledger call.request) index ≡ Some AnInstruction → IsInstruction after (answer_of (length calls) index)
  instruction_new index is =
      ap (λ (answers : List (List Answered)). answer_in (slice_get answers (length calls)) index) (answers_are calls call)
      ∙ ap (λ (o : Option (List Answered)). answer_in o index)
      (ap (slice_get (ledger.answers ++ answers_to ledger call.request ∷ [])) (sym (as_many calls)) ∙ slice_get-last ledger.answers (answers_to ledger call.request))
      ∙ is

  -- there is no other one
  pub instruction_cases : (name : Name) → IsInstruction after name
      → IsInstruction calls name ⊎ ((name.place ≡ length calls) × (slice_get (answers_to ledger call.request) name.index ≡ Some AnInstruction))
  instruction_cases name is = by (slice_get (ledger_after (script_of after)).answers name.place) refl is
    where
      by : (o : Option (List Answered)) → slice_get (ledger_after (script_of after)).answers name.place ≡ o → answer_in o name.index ≡ Some AnInstruction
          → IsInstruction calls name ⊎ ((name.place ≡ length calls) × (slice_get (answers_to ledger call.request) name.index ≡ Some AnInstruction))
      by None found h = absurd (none_some h)
      by (Some answers) found h =
          elim (slice_get-longer ledger.answers (answers_to ledger call.request) name.place answers
          (ap (λ (all : List (List Answered)). slice_get all name.place) (sym (answers_are calls call)) ∙ found)) [
            | inl old ↦ inl (ap (λ (o : Option (List Answered)). answer_in o name.index) old.0 ∙ h)
            | inr new ↦ inr (new.0 ∙ as_many calls, ap (λ (all : List Answered). slice_get all name.index) new.1 ∙ h)
          ]

  same_number : (name : Name) → IsInstruction calls name → answered after name ≡ answered calls name
  same_number name is = answered_stays calls call name (instruction_earlier calls name is)

  -- ITEMS -----------------------------------------------------------------------------------------------------------------

  pub built_stays : (item : Item) → IsBuilt calls item → IsBuilt after item
  built_stays (Instruct place instruction results) is = instruction_stays (answer_of place 0) is
  built_stays (Use variable name) is = tt
  built_stays (Assign variable name) is = tt

  item_number : (item : Item) → IsBuilt calls item → instruction_of after item ≡ instruction_of calls item
  item_number (Instruct place instruction results) is = ap (λ (inst : ℕ). inst ∷ []) (same_number (answer_of place 0) is)
  item_number (Use variable name) is = refl
  item_number (Assign variable name) is = refl

  pub item_numbers : (items : List Item) → AllByRecursion (IsBuilt calls) items → flat_map (instruction_of after) items ≡ flat_map (instruction_of calls) items
  item_numbers [] all = refl
  item_numbers (item ∷ items) all = ap₂ (λ (first rest : List ℕ). first ++ rest) (item_number item all.0) (item_numbers items all.1)

  -- NUMBERS ---------------------------------------------------------------------------------------------------------------

  -- a call that answers no instruction
  pub apart_on : (m n : ℕ) → ((index : ℕ) → slice_get (answers_to ledger call.request) index ≡ Some AnInstruction → ⊥) → m ≤ n → InstructionsApart calls m → InstructionsApart after n
  apart_on m n none more apart = record {
    exist = λ name is. let was = old name is in let below = apart.exist name was in omega (arith, below, more, same_number name was);
    differ = λ a b is_a is_b same.
        let was_a = old a is_a in
        let was_b = old b is_b in
        apart.differ a b was_a was_b (sym (same_number a was_a) ∙ same ∙ same_number b was_b);
  }
    where
      old : (name : Name) → IsInstruction after name → IsInstruction calls name
      old name is =
          elim (instruction_cases name is) [
            | inl was ↦ was
            | inr new ↦ absurd (none name.index new.1)
          ]

  -- a call whose one instruction has the first number that there was none with
  pub apart_made : (m n : ℕ) → ((index : ℕ) → slice_get (answers_to ledger call.request) index ≡ Some AnInstruction → index ≡ 0)
      → answered after (answer_of (length calls) 0) ≡ m → m < n → InstructionsApart calls m → InstructionsApart after n
  apart_made m n first number more apart = record {
    exist = λ name is.
        elim (instruction_cases name is) [
          | inl was ↦ let below = apart.exist name was in omega (arith, below, more, same_number name was)
          | inr new ↦ let at = new_number name new in omega (arith, at, more)
        ];
    differ = λ a b is_a is_b same. by a b same (instruction_cases a is_a) (instruction_cases b is_b);
  }
    where
      the_name : (name : Name) → (name.place ≡ length calls) × (slice_get (answers_to ledger call.request) name.index ≡ Some AnInstruction) → answer_of (length calls) 0 ≡ name
      the_name name new = ap₂ (λ (place index : ℕ). answer_of place index) (sym new.0) (sym (first name.index new.1))

      new_number : (name : Name) → (name.place ≡ length calls) × (slice_get (answers_to ledger call.request) name.index ≡ Some AnInstruction) → answered after name ≡ m
      new_number name new = ap (answered after) (sym (the_name name new)) ∙ number

      clash : (old other : Name) → IsInstruction calls old → answered after old ≡ answered after other → answered after other ≡ m → ⊥
      clash old other was same at = let below = apart.exist old was in omega (arith, below, same, at, same_number old was)

      by : (a b : Name) → answered after a ≡ answered after b
          → IsInstruction calls a ⊎ ((a.place ≡ length calls) × (slice_get (answers_to ledger call.request) a.index ≡ Some AnInstruction))
          → IsInstruction calls b ⊎ ((b.place ≡ length calls) × (slice_get (answers_to ledger call.request) b.index ≡ Some AnInstruction)) → a ≡ b
      by a b same (inl was_a) (inl was_b) = apart.differ a b was_a was_b (sym (same_number a was_a) ∙ same ∙ same_number b was_b)
      by a b same (inl was_a) (inr new_b) = absurd (clash a b was_a same (new_number b new_b))
      by a b same (inr new_a) (inl was_b) = absurd (clash b a was_b (sym same) (new_number a new_a))
      by a b same (inr new_a) (inr new_b) = sym (the_name a new_a) ∙ the_name b new_b

-- WHOLE LISTS -----------------------------------------------------------------------------------------------------------

-- a call's instruction, if it answers one, has this number, and the next one comes after it
abbrev pub HasNumber : Request → List ℕ → ℕ → Type 0
HasNumber (Build entries instruction) numbers n = slice_get numbers 0 ≡ Some n
HasNumber _ numbers n = Unit {0}

abbrev pub next_number : Request → ℕ → ℕ
next_number (Build entries instruction) n = suc n
next_number _ n = n

abbrev pub NumbersRise : ℕ → List AnsweredCall → Type 0
NumbersRise n [] = Unit {0}
NumbersRise n (call ∷ rest) = HasNumber call.request call.numbers n × NumbersRise (next_number call.request n) rest

abbrev pub numbers_end : ℕ → List AnsweredCall → ℕ
numbers_end n [] = n
numbers_end n (call ∷ rest) = numbers_end (next_number call.request n) rest

-- one more call
apart_next : (calls : List AnsweredCall) (request : Request) (numbers : List ℕ) (n : ℕ) → HasNumber request numbers n → InstructionsApart calls n
    → InstructionsApart (calls ++ record { request = request; numbers = numbers } ∷ []) (next_number request n)
apart_next calls (Build entries instruction) numbers n has apart =
    let call : AnsweredCall = record { request = Build entries instruction; numbers = numbers } in
    apart_made calls call n (suc n) (λ index is. instruction_first (result_types instruction.operation instruction.controlling) index is) (sym (number_of_answer calls call 0 n has)) (omega arith) apart
apart_next calls request numbers n has apart = apart_on calls _ n n (none_made (ledger_after (script_of calls)) request tt) (omega arith) apart

apart_more : (done rest : List AnsweredCall) (n : ℕ) → InstructionsApart done n → NumbersRise n rest → InstructionsApart (done ++ rest) (numbers_end n rest)
apart_more done [] n apart rise = subst (λ (calls : List AnsweredCall). InstructionsApart calls n) (sym (append-nil done)) apart
apart_more done (call ∷ rest) n apart rise =
    subst (λ (calls : List AnsweredCall). InstructionsApart calls (numbers_end (next_number call.request n) rest)) (append_assoc done (call ∷ []) rest)
    (apart_more (done ++ call ∷ []) rest (next_number call.request n) (apart_next done call.request call.numbers n rise.0 apart) rise.1)

none_answered : (name : Name) → IsInstruction [] name → ⊥
none_answered name is = by name.place is
  where
    by : (place : ℕ) → answer_in (slice_get [] place) name.index ≡ Some AnInstruction → ⊥
    by zero h = none_some h
    by (suc place) h = none_some h

-- before the first call
pub apart_first : (count : ℕ) → InstructionsApart [] count
apart_first count = record { exist = λ name is. absurd (none_answered name is); differ = λ a b is_a is_b same. absurd (none_answered a is_a) }

-- where the numbers of a list's instructions rise by one, they are apart
pub apart_all : (calls : List AnsweredCall) → NumbersRise 0 calls → InstructionsApart calls (numbers_end 0 calls)
apart_all calls rise = apart_more [] calls 0 (apart_first 0) rise
