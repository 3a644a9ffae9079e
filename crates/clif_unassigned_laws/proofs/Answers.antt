-- In the program of a script a name that a use answers is given by that use alone.
use Rattle.std.proofs.Common.{◌≡◌, ◌+◌, ℕ, suc, Bool, true, false, List, [], ◌∷◌, ◌++◌, Option, Some, None, sym, ap, subst, arith, map, slice_get}
use Rattle.std.specs.Prelude.{fold, if◌then◌else◌}
use Rattle.std.specs.List.{AllByRecursion}
use Rattle.clif_types.specs.declared.types.«Type».{«Type»}
use Rattle.clif_meaning.specs.Name.{Name, answer_of, same_name}
use Rattle.clif_meaning.specs.Program.{Assign, Instruct, Item, Program, Use, answers_from, empty_program, extended, program_of, redirected_item, result_types, with_call, with_inserted, with_item_at, with_parameters}
use Rattle.clif_meaning.specs.Request.{Build, Request, Script, UseVar}
use Rattle.clif_meaning.proofs.Effects.{Assigns, Builds, Inserts, Leaves, MakesNoParameter, ProgramEffect, Redirects, Switches, Takes, Uses, program_effect}

-- the call is there, and is no use
abbrev pub IsNoUse : Option Request → Type 0
IsNoUse None = ⊥
IsNoUse (Some (UseVar variable)) = ⊥
IsNoUse (Some _) = Unit {0}

module _ (script : Script) where
  -- what the name's place has is no use
  abbrev pub IsNoAnswer : Name → Type 0
  IsNoAnswer name = IsNoUse (slice_get script name.place)

  -- an instruction's results answer no use, and the name of a use answers that use
  abbrev pub AnswersRight : Item → Type 0
  AnswersRight (Instruct place instruction results) = AllByRecursion IsNoAnswer results
  AnswersRight (Use variable name) = slice_get script name.place ≡ Some (UseVar variable)
  AnswersRight (Assign variable name) = Unit {0}

  pub record AllAnswerRight (program : Program) : Type 0 where
    pub items : (block : Name) → AllByRecursion AnswersRight (program.items block)
    pub parameters : (block : Name) → AllByRecursion IsNoAnswer (program.parameters block)

  joined : {X : Type 0} (P : X → Type 0) (xs ys : List X) → AllByRecursion P xs → AllByRecursion P ys → AllByRecursion P (xs ++ ys)
  joined P [] ys left right = right
  joined P (x ∷ xs) ys left right = (left.0, joined P xs ys left.1 right)

  -- those of a block or of another one, by a test
  either : {X : Type 0} (P : X → Type 0) (test : Bool) (xs ys : List X) → AllByRecursion P xs → AllByRecursion P ys → AllByRecursion P (if test then xs ++ ys else xs)
  either P true xs ys left right = joined P xs ys left right
  either P false xs ys left right = left

  inserted : (program : Program) → AllAnswerRight program → AllAnswerRight (with_inserted program)
  inserted program right = record { items = right.items; parameters = right.parameters }

  item_at : (program : Program) (current : Option Name) (item : Item) → AllAnswerRight program → AnswersRight item → AllAnswerRight (with_item_at program current item)
  item_at program None item right is = right
  item_at program (Some block) item right is = record {
    items = λ other. either AnswersRight (same_name other block) (program.items other) (item ∷ []) (right.items other) (is, tt);
    parameters = right.parameters;
  }

  more_parameters : (program : Program) (block : Name) (names : List Name) → AllAnswerRight program → AllByRecursion IsNoAnswer names
      → AllAnswerRight (with_parameters program block names)
  more_parameters program block names right are = record {
    items = right.items;
    parameters = λ other. either IsNoAnswer (same_name other block) (program.parameters other) names (right.parameters other) are;
  }

  no_answers : (place index : ℕ) (types : List «Type») → IsNoUse (slice_get script place) → AllByRecursion IsNoAnswer (answers_from place index types)
  no_answers place index [] is = tt
  no_answers place index (ty ∷ types) is = (is, no_answers place (suc index) types is)

  redirected : (branch from to : Name) (item : Item) → AnswersRight item → AnswersRight (redirected_item branch from to item)
  redirected branch from to (Instruct place instruction results) is = is
  redirected branch from to (Use variable name) is = is
  redirected branch from to (Assign variable name) is = is

  all_redirected : (branch from to : Name) (items : List Item) → AllByRecursion AnswersRight items → AllByRecursion AnswersRight (map (redirected_item branch from to) items)
  all_redirected branch from to [] are = tt
  all_redirected branch from to (item ∷ items) are = (redirected branch from to item are.0, all_redirected branch from to items are.1)

  no_use : (place : ℕ) (request : Request) → slice_get script place ≡ Some request → IsNoUse (Some request) → IsNoUse (slice_get script place)
  no_use place request there is = subst IsNoUse (sym there) is

  -- what makes parameters is no use
  takes_no_use : (request : Request) → (MakesNoParameter request → ⊥) → IsNoUse (Some request)
  takes_no_use (UseVar variable) makes = makes tt
  takes_no_use _ makes = tt

  one_more : (program : Program) (request : Request) → slice_get script program.place ≡ Some request → AllAnswerRight program → AllAnswerRight (extended program request)
  one_more program request there right = by (program_effect request)
    where
      of_program : (other : Program) → extended program request ≡ other → AllAnswerRight other → AllAnswerRight (extended program request)
      of_program other is answer = subst AllAnswerRight (sym is) answer

      of_request : (other : Request) → request ≡ other → (slice_get script program.place ≡ Some other → AllAnswerRight (extended program other))
          → AllAnswerRight (extended program request)
      of_request other is answer =
          subst (λ (r : Request). AllAnswerRight (extended program r)) (sym is) (answer (subst (λ (r : Request). slice_get script program.place ≡ Some r) is there))

      by : ProgramEffect request → AllAnswerRight (extended program request)
      by (Leaves stays is) = of_program _ (is program) right
      by (Inserts stays is) = of_program _ (is program) (inserted program right)
      by (Takes block types stays makes is) =
          of_program _ (is program)
          (more_parameters program block (answers_from program.place 0 types) right
          (no_answers program.place 0 types (no_use program.place request there (takes_no_use request makes))))
      by (Switches block is) = of_request _ is (λ found. record { items = right.items; parameters = right.parameters })
      by (Assigns variable value is) = of_request _ is (λ found. item_at program program.current (Assign variable value) right tt)
      by (Uses variable is) =
          of_request _ is (λ found. item_at (with_inserted program) program.current (Use variable (answer_of program.place 0)) (inserted program right) found)
      by (Builds entries instruction is) =
          of_request _ is (λ found. item_at (with_inserted program) program.current
          (Instruct program.place instruction (answers_from program.place 1 (result_types instruction.operation instruction.controlling)))
          (inserted program right)
          (no_answers program.place 1 (result_types instruction.operation instruction.controlling) (no_use program.place (Build entries instruction) found tt)))
      by (Redirects branch from to stays is) =
          of_program _ (is program) (record {
            items = λ block. all_redirected branch from to (program.items block) (right.items block);
            parameters = right.parameters;
          })

  placed : (program : Program) (place : ℕ) → AllAnswerRight program → AllAnswerRight (record program { place = place })
  placed program place right = record { items = right.items; parameters = right.parameters }

  -- the calls of the script from the program's place on
  folded : (rest : Script) (program : Program) → ((k : ℕ) → slice_get script (program.place + k) ≡ slice_get rest k) → AllAnswerRight program
      → AllAnswerRight (fold with_call program rest)
  folded [] program are right = right
  folded (request ∷ rest) program are right =
      folded rest (with_call program request) next
      (placed (extended program request) (suc program.place) (one_more program request (subst (λ (n : ℕ). slice_get script n ≡ Some request) at_first (are 0)) right))
    where
      at_first : program.place + 0 ≡ program.place
      at_first = omega arith

      next : (k : ℕ) → slice_get script (suc program.place + k) ≡ slice_get rest k
      next k = subst (λ (n : ℕ). slice_get script n ≡ slice_get rest k) (let e : program.place + suc k ≡ suc program.place + k = omega arith in e) (are (suc k))

  pub all_answer_right : AllAnswerRight (program_of script)
  all_answer_right = folded script empty_program (λ k. ap (slice_get script) (let e : empty_program.place + k ≡ k = omega arith in e)) (record { items = λ block. tt; parameters = λ block. tt })
