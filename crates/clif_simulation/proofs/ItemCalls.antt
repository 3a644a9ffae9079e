-- The program's side after a use, an assignment and an instruction.
use Rattle.std.proofs.Common.{◌≡◌, ◌≢◌, ℕ, suc, ◌+◌, ◌<◌, List, [], ◌∷◌, ◌++◌, length, map, refl, sym, ◌∙◌, ap, arith, Some, None, ◌⊎◌, inl, inr, Bool, true, false, length-append}
use Rattle.std.specs.Prelude.{slice_get, Option, Contains, if◌then◌else◌, ◌==◌}
use Rattle.clif_paths.specs.Places.{Place, inside}
use Rattle.clif_paths.specs.State.{Naming, fresh, reads}
use Rattle.clif_paths.specs.Steps.{updated}
use Rattle.clif_paths.specs.Blocks.{Blocks, last_place, state_of, with_item, with_read, with_write}
use Rattle.clif_paths.proofs.Tables.{updated-same, updated-other, updated_cases, updated_at-same, updated_at-other, number_equal, number_other}
use Rattle.clif_ssa.specs.SoundLaws.{AreNewNames, with_all_born}
use Rattle.clif_ssa.proofs.Born.{named_at, names_cases}
use Rattle.clif_meaning.specs.Name.{Name, answer_of, same_name}
use Rattle.clif_meaning.specs.Instruction.{Instruction}
use Rattle.clif_meaning.specs.Request.{AnsweredCall}
use Rattle.clif_meaning.specs.Program.{Program, Item, Instruct, Use, Assign, with_item_at}
use Rattle.clif_meaning.proofs.CallLists
use Rattle.clif_simulation.specs.Tables.{code, answered, number_or_none, program_so_far, block_name, assigned_by}
use Rattle.clif_simulation.proofs.Numbers.{answered_stays}
use Rattle.clif_simulation.proofs.Listed.{MakesNoParameter, parameters_stay}
use Rattle.clif_simulation.proofs.NameLists.{same_name-equal, same_name_cases, only_one, none_in, the_one, MakesNoBlock, names_stay}
use Rattle.clif_simulation.proofs.Extending.{AddsItem}
use Rattle.clif_simulation.proofs.Places.{contained_at, mapped_at, mapped_from, place_of_one}

-- a program with an item behind those of the current block
module _ (program : Program) (B : Name) (item : Item) where
  pub items-here : (with_item_at program (Some B) item).items B ≡ program.items B ++ item ∷ []
  items-here = by (same_name B B) (same_name-equal B B refl)
    where
      by : (c : Bool) → c ≡ true → (if c then program.items B ++ item ∷ [] else program.items B) ≡ program.items B ++ item ∷ []
      by true is = refl
      by false is = cc

  pub items-elsewhere : (N : Name) → N ≢ B → (with_item_at program (Some B) item).items N ≡ program.items N
  items-elsewhere N other = by (same_name_cases N B)
    where
      test : (c : Bool) → c ≡ false → (if c then program.items N ++ item ∷ [] else program.items N) ≡ program.items N
      test true is = cc
      test false is = refl

      by : (N ≡ B) ⊎ ((N ≢ B) × (same_name N B ≡ false)) → (with_item_at program (Some B) item).items N ≡ program.items N
      by (inl same) = absurd (other same)
      by (inr apart) = test (same_name N B) apart.1

-- the call's item is put behind those of the current block
pub record PutsItem (calls : List AnsweredCall) (call : AnsweredCall) (B : Name) (item : Item) : Type 0 where
  pub items : (N : Name) → (program_so_far (calls ++ call ∷ [])).items N ≡ (with_item_at (program_so_far calls) (Some B) item).items N
  pub no_block : MakesNoBlock call.request
  pub no_parameter : MakesNoParameter call.request

pub same_or_other : (B N : Name) → (N ≡ B) ⊎ (N ≢ B)
same_or_other B N = by (same_name_cases N B)
  where
    by : (N ≡ B) ⊎ ((N ≢ B) × (same_name N B ≡ false)) → (N ≡ B) ⊎ (N ≢ B)
    by (inl same) = inl same
    by (inr apart) = inr apart.0

count_here : (T : Blocks) (b : ℕ) → (with_item T b).count b ≡ suc (T.count b)
count_here T b = updated-same T.count b (suc (T.count b)) b refl

pub last-with_item : (T : Blocks) (b : ℕ) → last_place (with_item T b) b ≡ inside b (suc (T.count b))
last-with_item T b = ap (inside b) (count_here T b)

pub number_of_answer : (calls : List AnsweredCall) (call : AnsweredCall) (index v : ℕ) → slice_get call.numbers index ≡ Some v → v ≡ answered (calls ++ call ∷ []) (answer_of (length calls) index)
number_of_answer calls call index v is = sym (ap number_or_none (CallLists.new calls call index ∙ is))

module _ (calls : List AnsweredCall) (call : AnsweredCall) (T : Blocks) (b : ℕ) (B : Name)
    (named : block_name calls b ≡ Some B) (unwritten : (y : ℕ) → T.assigned (inside b (suc (T.count b))) y ≡ None) where
  -- the name of an answer of the call
  abbrev name_at : ℕ → Name
  name_at index = answer_of (length calls) index

  abbrev later : List AnsweredCall
  later = calls ++ call ∷ []

  -- one name is given, by a value
  module _ (index v : ℕ) (naming : Naming) (number : slice_get call.numbers index ≡ Some v) where
    given_here : (y : Name) → name_at index ≡ y
        → (y.place ≡ length calls) × (updated T.naming (code (name_at index)) naming (code y) ≡ naming) × (updated T.answer (code (name_at index)) v (code y) ≡ answered later y)
    given_here y same = (
      ap (λ (n : Name). n.place) (sym same),
      updated-same T.naming (code (name_at index)) naming (code y) (ap code (sym same)),
      updated-same T.answer (code (name_at index)) v (code y) (ap code (sym same)) ∙ number_of_answer calls call index v number ∙ ap (answered later) same,
    )

    given_or_not : (n : ℕ) → ((y : Name) × Contains (name_at index ∷ []) y × (code y ≡ n))
        ⊎ ((updated T.naming (code (name_at index)) naming n ≡ T.naming n) × (updated T.answer (code (name_at index)) v n ≡ T.answer n))
    given_or_not n = by (updated_cases T.naming (code (name_at index)) naming n) (updated_cases T.answer (code (name_at index)) v n)
      where
        by : ((n ≡ code (name_at index)) × (updated T.naming (code (name_at index)) naming n ≡ naming)) ⊎ ((n ≢ code (name_at index)) × (updated T.naming (code (name_at index)) naming n ≡ T.naming n))
            → ((n ≡ code (name_at index)) × (updated T.answer (code (name_at index)) v n ≡ v)) ⊎ ((n ≢ code (name_at index)) × (updated T.answer (code (name_at index)) v n ≡ T.answer n))
            → ((y : Name) × Contains (name_at index ∷ []) y × (code y ≡ n))
            ⊎ ((updated T.naming (code (name_at index)) naming n ≡ T.naming n) × (updated T.answer (code (name_at index)) v n ≡ T.answer n))
        by (inl here) answer = inl (name_at index, the_one (name_at index), sym here.0)
        by (inr there) (inl here) = absurd (there.0 here.0)
        by (inr there) (inr other) = inr (there.1, other.1)

  -- a use of a variable
  pub adds_use : (x v : ℕ) → PutsItem calls call B (Use x (name_at 0)) → slice_get call.numbers 0 ≡ Some v
      → AddsItem calls later T (with_read (with_item T b) b (code (name_at 0)) x v) b B (Use x (name_at 0))
  adds_use x v puts number = record {
    named = named;
    names = names_stay calls call puts.no_block;
    longer = omega (arith, length-append calls);
    items_here = puts.items B ∙ items-here (program_so_far calls) B (Use x (name_at 0));
    items_elsewhere = λ N other. puts.items N ∙ items-elsewhere (program_so_far calls) B (Use x (name_at 0)) N other;
    parameters = parameters_stay calls call puts.no_parameter;
    same_or_other = same_or_other B;
    count_here = count_here T b;
    count_elsewhere = λ c other. updated-other T.count b (suc (T.count b)) c other;
    assigned_here = λ y. unwritten y;
    assigned_elsewhere = λ place y other. refl;
    unassigned = unwritten;
    assigns_earlier = λ y n none. cc;
    gives_new = λ y gives.
        let h = given_here 0 v (record { home = last_place (with_item T b) b; origin = reads x }) number y (only_one (name_at 0) y gives) in
        (h.0, h.1 ∙ ap (λ (place : Place). record { home = place; origin = reads x }) (last-with_item T b), h.2);
    gives_decided = given_or_not 0 v (record { home = last_place (with_item T b) b; origin = reads x }) number;
    answers_stay = λ y earlier. answered_stays calls call y earlier;
  }

  -- an assignment
  pub adds_assignment : (x : ℕ) (n : Name) → PutsItem calls call B (Assign x n) → n.place < length calls
      → AddsItem calls later T (with_write (with_item T b) b x (code n)) b B (Assign x n)
  adds_assignment x n puts earlier = record {
    named = named;
    names = names_stay calls call puts.no_block;
    longer = omega (arith, length-append calls);
    items_here = puts.items B ∙ items-here (program_so_far calls) B (Assign x n);
    items_elsewhere = λ N other. puts.items N ∙ items-elsewhere (program_so_far calls) B (Assign x n) N other;
    parameters = parameters_stay calls call puts.no_parameter;
    same_or_other = same_or_other B;
    count_here = count_here T b;
    count_elsewhere = λ c other. updated-other T.count b (suc (T.count b)) c other;
    assigned_here = assigned_here;
    assigned_elsewhere = λ place y other.
        ap (λ (row : ℕ → Option ℕ). row y)
        (updated_at-other T.assigned (last_place (with_item T b) b) (updated (T.assigned (last_place (with_item T b) b)) x (Some (code n))) place (λ same. other (same ∙ last-with_item T b)));
    unassigned = unwritten;
    assigns_earlier = λ y k is. (n, written y k (updated_cases (λ (z : ℕ). None) x (Some (code n)) y) is, earlier);
    gives_new = λ y gives. absurd (none_in y gives);
    gives_decided = λ k. inr (refl, refl);
    answers_stay = λ y before. answered_stays calls call y before;
  }
    where
      assigned_test : (y : ℕ) (c : Bool) → (y == x) ≡ c → (if c then Some (code n) else None) ≡ assigned_by (Some (Assign x n)) y
      assigned_test y c is = ap (λ (d : Bool). if d then Some (code n) else None) (sym is)

      row : (y : ℕ) → updated (T.assigned (last_place (with_item T b) b)) x (Some (code n)) y ≡ assigned_by (Some (Assign x n)) y
      row y = by (updated_cases (T.assigned (last_place (with_item T b) b)) x (Some (code n)) y)
        where
          by : ((y ≡ x) × (updated (T.assigned (last_place (with_item T b) b)) x (Some (code n)) y ≡ Some (code n)))
              ⊎ ((y ≢ x) × (updated (T.assigned (last_place (with_item T b) b)) x (Some (code n)) y ≡ T.assigned (last_place (with_item T b) b) y))
              → updated (T.assigned (last_place (with_item T b) b)) x (Some (code n)) y ≡ assigned_by (Some (Assign x n)) y
          by (inl here) = here.1 ∙ assigned_test y true (number_equal y x here.0)
          by (inr there) =
              there.1 ∙ ap (λ (place : Place). T.assigned place y) (last-with_item T b) ∙ unwritten y ∙ assigned_test y false (number_other y x there.0)

      assigned_here : (y : ℕ) → (with_write (with_item T b) b x (code n)).assigned (inside b (suc (T.count b))) y ≡ assigned_by (Some (Assign x n)) y
      assigned_here y =
          ap (λ (r : ℕ → Option ℕ). r y)
          (updated_at-same T.assigned (last_place (with_item T b) b) (updated (T.assigned (last_place (with_item T b) b)) x (Some (code n))) (inside b (suc (T.count b))) (sym (last-with_item T b)))
          ∙ row y

      written : (y k : ℕ)
          → ((y ≡ x) × (updated (λ (z : ℕ). None) x (Some (code n)) y ≡ Some (code n))) ⊎ ((y ≢ x) × (updated (λ (z : ℕ). None) x (Some (code n)) y ≡ None))
          → assigned_by (Some (Assign x n)) y ≡ Some k → code n ≡ k
      written y k (inl here) is = some_is (code n) k (assigned_test y true (number_equal y x here.0) ∙ is)
        where
          some_is : (i j : ℕ) → Some i ≡ Some j → i ≡ j
          some_is i j same = cc
      written y k (inr there) is = absurd (none_is k (assigned_test y false (number_other y x there.0) ∙ is))
        where
          none_is : (j : ℕ) → None ≡ Some j → ⊥
          none_is j same = cc

  -- an instruction, whose results are given at this place by the values from this one on
  pub adds_instruction : (instruction : Instruction Name Name) (results : List Name) (v : ℕ) (place : Place) → PutsItem calls call B (Instruct (length calls) instruction results)
      → ((k : ℕ) (y : Name) → slice_get results k ≡ Some y → (y.place ≡ length calls) × (answered later y ≡ v + k)) → AreNewNames (state_of T) (map code results)
      → place ≡ inside b (suc (T.count b))
      → AddsItem calls later T (with_all_born (with_item T b) place (map code results) v) b B (Instruct (length calls) instruction results)
  adds_instruction instruction results v place puts numbered new here = record {
    named = named;
    names = names_stay calls call puts.no_block;
    longer = omega (arith, length-append calls);
    items_here = puts.items B ∙ items-here (program_so_far calls) B (Instruct (length calls) instruction results);
    items_elsewhere = λ N other. puts.items N ∙ items-elsewhere (program_so_far calls) B (Instruct (length calls) instruction results) N other;
    parameters = parameters_stay calls call puts.no_parameter;
    same_or_other = same_or_other B;
    count_here = count_here T b;
    count_elsewhere = λ c other. updated-other T.count b (suc (T.count b)) c other;
    assigned_here = λ y. unwritten y;
    assigned_elsewhere = λ there y other. refl;
    unassigned = unwritten;
    assigns_earlier = λ y n none. cc;
    gives_new = λ y gives.
        let at = place_of_one results y gives in
        let known = numbered at.0 y at.1 in
        let given = named_at (state_of T) place T.naming T.answer (map code results) v at.0 (code y) new (mapped_at code results at.0 y at.1) in
        (known.0, given.0 ∙ ap (λ (there : Place). record { home = there; origin = fresh }) here, given.1 ∙ sym known.1);
    gives_decided = λ n.
        elim (names_cases place T.naming T.answer (map code results) v n) [
          | inl now ↦ let name = mapped_from code results now.0 n now.1 in inl (name.0, contained_at results now.0 name.0 name.1, name.2)
          | inr old ↦ inr old
        ];
    answers_stay = λ y before. answered_stays calls call y before;
  }
