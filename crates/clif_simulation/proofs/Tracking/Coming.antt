-- Which request each item comes from: a use from one to use its variable, and an assignment from one to assign it. What an
-- instruction or a block's entry gives answers no use.
use Rattle.std.proofs.Common.{◌≡◌, ℕ, suc, ◌<◌, List, [], ◌∷◌, ◌++◌, length, Some, ◌⊎◌, inl, inr, refl, sym, ◌∙◌, ap, subst, arith, append_assoc, length-append}
use Rattle.std.specs.Prelude.{fold, slice_get}
use Rattle.std.specs.List.{AllByRecursion}
use Rattle.std.proofs.lemmas.Option.{slice_get_within}
use Rattle.std.proofs.lemmas.List.{append-nil}
use Rattle.clif_types.specs.declared.types.«Type».{«Type»}
use Rattle.clif_meaning.specs.Name.{Name, answer_of}
use Rattle.clif_meaning.specs.Instruction.{Instruction}
use Rattle.clif_meaning.specs.Request.{AnsweredCall, Build, DefVar, GivenEntry, Request, Script, SwitchToBlock, UseVar, script_of}
use Rattle.clif_meaning.specs.Program.{Item, Instruct, Use, Assign, Program, answers_from, empty_program, extended, program_of, result_names, result_types, with_call, with_inserted, with_item_at, with_parameters, with_redirected}
use Rattle.clif_meaning.proofs.Effects.{MakesNoParameter, ProgramEffect, program_effect, Leaves, Inserts, Takes, Switches, Assigns, Uses, Builds, Redirects}
use Rattle.clif_simulation.specs.Reading.{IsGivenFresh}
use Rattle.clif_simulation.specs.Tables.{program_so_far}
use Rattle.clif_simulation.specs.Tracks.{AssignsTo}
use Rattle.clif_simulation.proofs.Carrying.{all_mapped}
use Rattle.clif_simulation.proofs.Redirections.EachRedirected.{all_redirected}
use Rattle.clif_simulation.proofs.Finished.Giving.{contained_in}
use Rattle.clif_simulation.proofs.Labelling.EachGiven.{items_with, parameters_leave, parameters_with}
use Rattle.clif_simulation.proofs.Labelling.FreshValues.{listed}
use Rattle.clif_simulation.proofs.Numbers.{slice_get-front, slice_get-last, slice_get-longer}

-- the name answers a use of the variable
abbrev pub AnswersUse : Script → ℕ → Name → Type 0
AnswersUse script x name = (slice_get script name.place ≡ Some (UseVar x)) × (name.index ≡ 0)

-- it answers a call that is no use
abbrev pub AnswersNoUse : Script → Name → Type 0
AnswersNoUse script name = (name.place < length script) × ((x : ℕ) → slice_get script name.place ≡ Some (UseVar x) → ⊥)

abbrev ComesOf : Script → Item → Type 0
ComesOf script (Instruct place instruction results) = AllByRecursion (AnswersNoUse script) results
ComesOf script (Use x name) = AnswersUse script x name
ComesOf script (Assign x name) = AssignsTo script x name

record Comes (script : Script) (program : Program) : Type 0 where
  place : program.place ≡ length script
  items : (block : Name) → AllByRecursion (ComesOf script) (program.items block)
  parameters : (block : Name) → AllByRecursion (AnswersNoUse script) (program.parameters block)

-- what a script has, it has with one request more
pub request_there : (script : Script) (more : Request) (place : ℕ) (request : Request) → slice_get script place ≡ Some request
    → slice_get (script ++ more ∷ []) place ≡ Some request
request_there script more place request is =
    slice_get-front script (more ∷ []) place (slice_get_within script place request is) ∙ is

same_request : (a b : Request) → Some a ≡ Some b → a ≡ b
same_request a b is = cc

-- with one request more
module _ (script : Script) (request : Request) where
  abbrev after : Script
  after = script ++ request ∷ []

  longer : length after ≡ suc (length script)
  longer = omega (arith, length-append script)

  no_use_stays : (name : Name) → AnswersNoUse script name → AnswersNoUse after name
  no_use_stays name none = (let below = none.0 in omega (arith, below, longer), λ x is. by x (slice_get-longer script request name.place (UseVar x) is))
    where
      by : (x : ℕ) → ((slice_get script name.place ≡ Some (UseVar x)) × (name.place < length script))
          ⊎ ((name.place ≡ length script) × (request ≡ UseVar x)) → ⊥
      by x (inl old) = none.1 x old.0
      by x (inr new) = let below = none.0 in let here = new.0 in omega (arith, below, here)

  no_uses_stay : (names : List Name) → AllByRecursion (AnswersNoUse script) names → AllByRecursion (AnswersNoUse after) names
  no_uses_stay = all_mapped (AnswersNoUse script) (AnswersNoUse after) no_use_stays

  item_stays : (item : Item) → ComesOf script item → ComesOf after item
  item_stays (Instruct place instruction results) comes = no_uses_stay results comes
  item_stays (Use x name) comes = (request_there script request name.place (UseVar x) comes.0, comes.1)
  item_stays (Assign x name) comes = (comes.0, request_there script request comes.0 (DefVar x name) comes.1)

  -- what a call answers that is no use
  new_no_use : ((x : ℕ) → request ≡ UseVar x → ⊥) → (index : ℕ) (types : List «Type»)
      → AllByRecursion (AnswersNoUse after) (answers_from (length script) index types)
  new_no_use none index [] = tt
  new_no_use none index (ty ∷ types) =
      ((omega (arith, longer), λ x is. none x (same_request request (UseVar x) (sym (slice_get-last script request) ∙ is))), new_no_use none (suc index) types)

  module _ (program : Program) (was : Comes script program) where
    old_items : (block : Name) → AllByRecursion (ComesOf after) (program.items block)
    old_items block = all_mapped (ComesOf script) (ComesOf after) item_stays (program.items block) (was.items block)

    old_parameters : (block : Name) → AllByRecursion (AnswersNoUse after) (program.parameters block)
    old_parameters block = no_uses_stay (program.parameters block) (was.parameters block)

    abbrev Becomes : Program → Type 0
    Becomes other = Comes after (record other { place = suc program.place })

    made : (other : Program) → ((block : Name) → AllByRecursion (ComesOf after) (other.items block))
        → ((block : Name) → AllByRecursion (AnswersNoUse after) (other.parameters block)) → Becomes other
    made other items parameters = record { place = ap suc was.place ∙ sym longer; items = items; parameters = parameters }

    -- nothing is given
    keeps : (other : Program) → other.items ≡ program.items → other.parameters ≡ program.parameters → Becomes other
    keeps other items parameters =
        made other (λ block. subst (λ (of : Name → List Item). AllByRecursion (ComesOf after) (of block)) (sym items) (old_items block))
        (λ block. subst (λ (of : Name → List Name). AllByRecursion (AnswersNoUse after) (of block)) (sym parameters) (old_parameters block))

    with_item_here : (from : Program) (item : Item) → from.items ≡ program.items → from.parameters ≡ program.parameters → ComesOf after item
        → Becomes (with_item_at from program.current item)
    with_item_here from item items parameters comes =
        made (with_item_at from program.current item)
        (items_with (ComesOf after) from program.current item
        (λ block. subst (λ (of : Name → List Item). AllByRecursion (ComesOf after) (of block)) (sym items) (old_items block)) comes)
        (λ block. subst (λ (of : Name → List Name). AllByRecursion (AnswersNoUse after) (of block))
        (sym (parameters_leave from program.current item ∙ parameters)) (old_parameters block))

    takes : ((x : ℕ) → request ≡ UseVar x → ⊥) → (taking : Name) (types : List «Type»)
        → Becomes (with_parameters program taking (answers_from program.place 0 types))
    takes none taking types =
        made (with_parameters program taking (answers_from program.place 0 types)) old_items
        (parameters_with (AnswersNoUse after) program (answers_from program.place 0 types) taking old_parameters
        (subst (λ (place : ℕ). AllByRecursion (AnswersNoUse after) (answers_from place 0 types)) (sym was.place) (new_no_use none 0 types)))

    redirects : (branch from to : Name) → Becomes (with_redirected program branch from to)
    redirects branch from to =
        made (with_redirected program branch from to)
        (λ block. all_redirected (ComesOf after) (ComesOf after) branch from to (λ item comes. comes)
        (λ place instruction results comes. comes) (program.items block) (old_items block))
        old_parameters

module _ (script : Script) (program : Program) (was : Comes script program) where
  abbrev Next : Request → Type 0
  Next request = Comes (script ++ request ∷ []) (with_call program request)

  builds : (entries : List GivenEntry) (instruction : Instruction Name Name) → Next (Build entries instruction)
  builds entries instruction =
      with_item_here script (Build entries instruction) program was (with_inserted program)
      (Instruct program.place instruction (result_names program.place instruction)) refl refl
      (subst (λ (place : ℕ). AllByRecursion (AnswersNoUse (script ++ Build entries instruction ∷ []))
      (answers_from place 1 (result_types instruction.operation instruction.controlling))) (sym was.place)
      (new_no_use script (Build entries instruction) (λ x is. cc) 1 (result_types instruction.operation instruction.controlling)))

  uses : (x : ℕ) → Next (UseVar x)
  uses x =
      with_item_here script (UseVar x) program was (with_inserted program) (Use x (answer_of program.place 0)) refl refl
      (ap (slice_get (script ++ UseVar x ∷ [])) was.place ∙ slice_get-last script (UseVar x), refl)

  assigns : (x : ℕ) (name : Name) → Next (DefVar x name)
  assigns x name =
      with_item_here script (DefVar x name) program was program (Assign x name) refl refl (length script, slice_get-last script (DefVar x name))

  next : (request : Request) → Next request
  next request = by (program_effect request)
    where
      of_program : (other : Program) → extended program request ≡ other → Becomes script request program was other → Next request
      of_program other is holds = subst (Becomes script request program was) (sym is) holds

      of_request : (other : Request) → request ≡ other → Next other → Next request
      of_request other is holds = subst Next (sym is) holds

      by : ProgramEffect request → Next request
      by (Leaves stays is) = of_program program (is program) (keeps script request program was program refl refl)
      by (Inserts stays is) = of_program (with_inserted program) (is program) (keeps script request program was (with_inserted program) refl refl)
      by (Takes block types stays makes is) =
          of_program (with_parameters program block (answers_from program.place 0 types)) (is program)
          (takes script request program was (λ x uses. makes (subst MakesNoParameter (sym uses) tt)) block types)
      by (Switches block is) = of_request (SwitchToBlock block) is (keeps script (SwitchToBlock block) program was (record program { current = Some block }) refl refl)
      by (Assigns variable value is) = of_request (DefVar variable value) is (assigns variable value)
      by (Uses variable is) = of_request (UseVar variable) is (uses variable)
      by (Builds entries instruction is) = of_request (Build entries instruction) is (builds entries instruction)
      by (Redirects branch from to stays is) = of_program (with_redirected program branch from to) (is program) (redirects script request program was branch from to)

comes_from : (first : Script) (program : Program) (rest : Script) → Comes first program → Comes (first ++ rest) (fold with_call program rest)
comes_from first program [] was = subst (λ (script : Script). Comes script program) (sym (append-nil first)) was
comes_from first program (request ∷ rest) was =
    subst (λ (script : Script). Comes script (fold with_call (with_call program request) rest)) (append_assoc first (request ∷ []) rest)
    (comes_from (first ++ request ∷ []) (with_call program request) rest (next first program was request))

comes : (script : Script) → Comes script (program_of script)
comes script = comes_from [] empty_program script (record { place = refl; items = λ block. tt; parameters = λ block. tt })

-- what an instruction or a block's entry gives answers no use
pub fresh_no_use : (calls : List AnsweredCall) (name : Name) → IsGivenFresh (program_so_far calls) name
    → (x : ℕ) → AnswersUse (script_of calls) x name → ⊥
fresh_no_use calls name given x uses = (no_use given).1 x uses.0
  where
    no_use : IsGivenFresh (program_so_far calls) name → AnswersNoUse (script_of calls) name
    no_use (inl g) =
        listed (AnswersNoUse (script_of calls)) g.results name
        (listed (ComesOf (script_of calls)) ((program_so_far calls).items g.block) (Instruct g.place g.instruction g.results)
        ((comes (script_of calls)).items g.block) (contained_in ((program_so_far calls).items g.block) (Instruct g.place g.instruction g.results) g.stands))
        (contained_in g.results name g.among)
    no_use (inr g) =
        listed (AnswersNoUse (script_of calls)) ((program_so_far calls).parameters g.0) name
        ((comes (script_of calls)).parameters g.0) (contained_in ((program_so_far calls).parameters g.0) name g.1)

-- each item of a program comes of its request
pub each_comes : (P : Item → Type 0) (calls : List AnsweredCall)
    → ((place : ℕ) (instruction : Instruction Name Name) (results : List Name) → P (Instruct place instruction results))
    → ((x : ℕ) (name : Name) → AnswersUse (script_of calls) x name → P (Use x name))
    → ((x : ℕ) (name : Name) → AssignsTo (script_of calls) x name → P (Assign x name))
    → (block : Name) → AllByRecursion P ((program_so_far calls).items block)
each_comes P calls instructs uses assigns block =
    all_mapped (ComesOf (script_of calls)) P one ((program_so_far calls).items block) ((comes (script_of calls)).items block)
  where
    one : (item : Item) → ComesOf (script_of calls) item → P item
    one (Instruct place instruction results) from = instructs place instruction results
    one (Use x name) from = uses x name from
    one (Assign x name) from = assigns x name from
