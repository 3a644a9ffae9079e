-- A call that puts parameters of the caller's at the end of those of a block leaves a function that carries it.
use Rattle.std.proofs.Common.{◌≡◌, ◌≢◌, ◌⊎◌, ℕ, zero, suc, ◌+◌, ◌<◌, ◌≤◌, Bool, false, List, [], ◌∷◌, ◌++◌, length, map, inl, inr, refl, sym, ◌∙◌, ap, subst, arith, Option, Some, None}
use Rattle.std.specs.Prelude.{slice_get, Contains, IsTrue, is_some, if◌then◌else◌}
use Rattle.std.specs.List.{AllByRecursion}
use Rattle.std.proofs.Math.Decide.{ℕ_discrete}
use Rattle.std.proofs.lemmas.List.{map-append}
use Rattle.clif_types.specs.declared.types.«Type».{«Type»}
use Rattle.clif_instructions.specs.declared.block_call.BlockArg.{BlockArg}
use Rattle.clif_ir.specs.Body.{Body, block_at}
use Rattle.clif_ir.specs.Consistent.{IsConsistent}
use Rattle.clif_instructions.specs.Members.{stands_in}
use Rattle.clif_paths.specs.Places.{start, inside}
use Rattle.clif_paths.specs.State.{Definition, Naming, fresh}
use Rattle.clif_paths.specs.Blocks.{Blocks, front}
use Rattle.clif_ssa.specs.Own.{Own}
use Rattle.clif_ssa.specs.Ssa.{SsaState}
use Rattle.clif_ssa.specs.Structured.{HasType}
use Rattle.clif_ssa.proofs.Bodies.{firm_from}
use Rattle.clif_meaning.specs.Name.{Name, answer_of, same_name}
use Rattle.clif_meaning.specs.Request.{Request, AppendBlockParams, AppendFunctionParams, AnsweredCall, script_of}
use Rattle.clif_meaning.specs.Ledger.{AValue, Answered, answers_to, ledger_after, has_value, type_of, value_answer_type}
use Rattle.clif_meaning.specs.Program.{Item, Program, answers_from, with_call, with_parameters}
use Rattle.clif_meaning.specs.WellPlaced.{item_gives}
use Rattle.clif_meaning.proofs.CallLists
use Rattle.clif_simulation.specs.Tables.{answered, assigned_by, block_name, callers_parameters, code, item_at, number_or_none, origin_of, program_so_far, IsGiven, IsParameter, IsProgramOf}
use Rattle.clif_simulation.specs.Carries.{Carries, IsEarlier, IsValue, NamesBlocks, OwnParameters, SoundOnPaths, ValuesGiven, ValuesTyped, own_placed, with_params, numbers_from}
use Rattle.clif_simulation.specs.Structure.{HasCallersAlone}
use Rattle.clif_simulation.proofs.Appending
use Rattle.clif_simulation.proofs.Appending.{among, decide, goes_on-params, own_after, own_elsewhere, own_here, own_insts, own_passed, tables_after, typed_now, typed_still, Numbered}
use Rattle.clif_simulation.proofs.Calls.{longer_calls, name_stays, structured_so_far}
use Rattle.clif_simulation.proofs.Carrying.{all_append, all_mapped, declared_kept, holds_on, edges_there, leads_kept, numbers_kept}
use Rattle.clif_simulation.proofs.FreeEntry.{free_before}
use Rattle.clif_simulation.proofs.Numbering.{values_alone}
use Rattle.clif_simulation.proofs.Codes
use Rattle.clif_simulation.proofs.Finished.Giving.{In, contained_in, in_contained}
use Rattle.clif_simulation.proofs.GivenNames.{named_earlier}
use Rattle.clif_simulation.proofs.Growing.{KeepsInsts, insts_kept}
use Rattle.clif_simulation.proofs.Finished.InLists.{in_either}
use Rattle.clif_simulation.proofs.ItemCalls.{same_or_other}
use Rattle.clif_simulation.proofs.LedgerValues.{type_new, type_stays, typed_on, value_earlier, value_stays, value_type}
use Rattle.clif_simulation.proofs.Ledgers.{types_before}
use Rattle.clif_simulation.proofs.NameLists.{MakesNoBlock, names_stay, same_name-equal, same_name_cases}
use Rattle.clif_simulation.proofs.Numbers.{answered_stays, place_so_far, program_longer}
use Rattle.clif_simulation.proofs.Requests.{entry_stays}
use Rattle.clif_simulation.proofs.Tracking.Steps.{NamesNothing, tracks_quiet}
use Rattle.clif_simulation.proofs.Tracking.Giving.{params_same}
use Rattle.clif_simulation.proofs.Values.{next_is_new}

-- the call makes parameters of these types, of this block
abbrev pub Makes : Request → Name → List «Type» → Type 0
Makes request B types = (request ≡ AppendBlockParams B types) ⊎ (request ≡ AppendFunctionParams B types)

-- Lists -----------------------------------------------------------------------------------------------------------------

number_at : (n : ℕ) (types : List «Type») (k : ℕ) → k < length types → number_or_none (slice_get (numbers_from n types) k) ≡ n + k
number_at n [] k below = absurd (omega (arith, below))
number_at n (ty ∷ types) zero below = omega arith
number_at n (ty ∷ types) (suc k) below = number_at (suc n) types k (omega (arith, below)) ∙ omega arith

type_at : (types : List «Type») (k : ℕ) (ty : «Type») → value_answer_type (slice_get (map AValue types) k) ≡ Some ty → slice_get types k ≡ Some ty
type_at [] zero ty is = cc
type_at [] (suc k) ty is = cc
type_at (t ∷ types) zero ty is = is
type_at (t ∷ types) (suc k) ty is = type_at types k ty is

value_at_type : (types : List «Type») (k : ℕ) → k < length types → IsTrue (is_some (value_answer_type (slice_get (map AValue types) k)))
value_at_type [] k below = absurd (omega (arith, below))
value_at_type (t ∷ types) zero below = refl
value_at_type (t ∷ types) (suc k) below = value_at_type types k (omega (arith, below))

type_within : (types : List «Type») (k : ℕ) (ty : «Type») → slice_get types k ≡ Some ty → k < length types
type_within [] zero ty is = cc
type_within [] (suc k) ty is = cc
type_within (t ∷ types) zero ty is = omega arith
type_within (t ∷ types) (suc k) ty is = omega (arith, type_within types k ty is)

-- a name of the answers, by its index
answer_there : (place index : ℕ) (types : List «Type») (k : ℕ) → k < length types → In (answer_of place (index + k)) (answers_from place index types)
answer_there place index [] k below = absurd (omega (arith, below))
answer_there place index (ty ∷ types) zero below = let same : index + 0 ≡ index = omega arith in inl (ap (answer_of place) same)
answer_there place index (ty ∷ types) (suc k) below =
    let same : suc index + k ≡ index + suc k = omega arith in
    inr (subst (λ (i : ℕ). In (answer_of place i) (answers_from place (suc index) types)) same (answer_there place (suc index) types k (omega (arith, below))))

all_answers : (P : Name → Type 0) (place index : ℕ) (types : List «Type») → ((k : ℕ) → k < length types → P (answer_of place (index + k))) → AllByRecursion P (answers_from place index types)
all_answers P place index [] each = tt
all_answers P place index (ty ∷ types) each =
    let same : index + 0 ≡ index = omega arith in (
      subst (λ (i : ℕ). P (answer_of place i)) same (each 0 (omega arith)),
      all_answers P place (suc index) types (λ k below. let later : index + suc k ≡ suc index + k = omega arith in
          subst (λ (i : ℕ). P (answer_of place i)) later (each (suc k) (omega (arith, below)))),
    )

module _ (calls : List AnsweredCall) (f : Body) (s : SsaState) (c : Carries calls f s) (consistent : IsConsistent f)
    (b : ℕ) (B : Name) (named : block_name calls b ≡ Some B) (there : b < length f.blocks) (alone : HasCallersAlone calls f b)
    (types : List «Type») (call : AnsweredCall) (makes : Makes call.request B types) (numbers : call.numbers ≡ numbers_from (length f.values) types) where
  abbrev after : List AnsweredCall
  after = calls ++ call ∷ []

  abbrev g : Body
  g = with_params f b types

  -- the names of the parameters
  abbrev names : List Name
  names = answers_from (length calls) 0 types

  abbrev mine : Own
  mine = own_after c.own f b types

  -- WHAT THE CALL DOES --------------------------------------------------------------------------------------------------

  by_request : (P : Request → Type 0) → P (AppendBlockParams B types) → P (AppendFunctionParams B types) → P call.request
  by_request P first second = by makes
    where
      by : Makes call.request B types → P call.request
      by (inl is) = subst P (sym is) first
      by (inr is) = subst P (sym is) second

  no_block : MakesNoBlock call.request
  no_block = by_request MakesNoBlock tt tt

  program_is : program_so_far after ≡ record (with_parameters (program_so_far calls) B names) { place = suc (program_so_far calls).place }
  program_is =
      program_longer calls call
      ∙ by_request (λ (r : Request). with_call (program_so_far calls) r ≡ record (with_parameters (program_so_far calls) B (answers_from (program_so_far calls).place 0 types)) { place = suc (program_so_far calls).place }) refl refl
      ∙ ap (λ (place : ℕ). record (with_parameters (program_so_far calls) B (answers_from place 0 types)) { place = suc (program_so_far calls).place }) (place_so_far calls)

  items : (N : Name) → (program_so_far after).items N ≡ (program_so_far calls).items N
  items N = ap (λ (p : Program). p.items N) program_is

  entry : (program_so_far after).entry ≡ (program_so_far calls).entry
  entry = ap (λ (p : Program). p.entry) program_is

  parameters_here : (program_so_far after).parameters B ≡ (program_so_far calls).parameters B ++ names
  parameters_here =
      ap (λ (p : Program). p.parameters B) program_is
      ∙ ap (λ (t : Bool). if t then (program_so_far calls).parameters B ++ names else (program_so_far calls).parameters B) (same_name-equal B B refl)

  parameters_elsewhere : (N : Name) → N ≢ B → (program_so_far after).parameters N ≡ (program_so_far calls).parameters N
  parameters_elsewhere N other = ap (λ (p : Program). p.parameters N) program_is ∙ by (same_name_cases N B)
    where
      by : (N ≡ B) ⊎ ((N ≢ B) × (same_name N B ≡ false))
          → (if same_name N B then (program_so_far calls).parameters N ++ names else (program_so_far calls).parameters N) ≡ (program_so_far calls).parameters N
      by (inl same) = absurd (other same)
      by (inr apart) = ap (λ (t : Bool). if t then (program_so_far calls).parameters N ++ names else (program_so_far calls).parameters N) apart.1

  answers_are : answers_to (ledger_after (script_of calls)) call.request ≡ map AValue types
  answers_are = by_request (λ (r : Request). answers_to (ledger_after (script_of calls)) r ≡ map AValue types) refl refl

  stays : (d : ℕ) (N : Name) → block_name calls d ≡ Some N → block_name after d ≡ Some N
  stays = name_stays calls call no_block

  was : (d : ℕ) (N : Name) → block_name after d ≡ Some N → block_name calls d ≡ Some N
  was d N is = sym (names_stay calls call no_block d) ∙ is

  longer : length after ≡ suc (length calls)
  longer = longer_calls calls call

  numbered : Numbered (length calls) 0 types (length f.values) (answered after)
  numbered k below =
      let same : 0 + k ≡ k = omega arith in
      ap (λ (i : ℕ). answered after (answer_of (length calls) i)) same
      ∙ ap number_or_none (CallLists.new calls call k)
      ∙ ap (λ (ns : List ℕ). number_or_none (slice_get ns k)) numbers ∙ number_at (length f.values) types k below

  -- a new name is no older one
  late : (x : Name) → In x names → x.place < length calls → ⊥
  late x there earlier = let here = (among (length calls) 0 types x there).0 in absurd (omega (arith, here, earlier))

  new_earlier : (x : Name) → In x names → x.place < length after
  new_earlier x there = let here = (among (length calls) 0 types x there).0 in omega (arith, here, longer)

  -- VALUES --------------------------------------------------------------------------------------------------------------

  is_new_value : (k : ℕ) → k < length types → IsValue after (answer_of (length calls) (0 + k))
  is_new_value k below =
      let same : k ≡ 0 + k = omega arith in
      subst (λ (i : ℕ). IsValue after (answer_of (length calls) i)) same
      (subst (λ (o : Option «Type»). IsTrue (is_some o))
      (sym (type_new calls call k ∙ ap (λ (answers : List Answered). value_answer_type (slice_get answers k)) answers_are)) (value_at_type types k below))

  parameters_values : (N : Name) → AllByRecursion (IsValue after) ((program_so_far after).parameters N)
  parameters_values N = by (same_or_other B N)
    where
      old : (M : Name) → AllByRecursion (IsValue after) ((program_so_far calls).parameters M)
      old M = all_mapped (IsValue calls) (IsValue after) (value_stays calls call) ((program_so_far calls).parameters M) (c.holds.parameters_values M)

      by : (N ≡ B) ⊎ (N ≢ B) → AllByRecursion (IsValue after) ((program_so_far after).parameters N)
      by (inl same) =
          subst (λ (M : Name). AllByRecursion (IsValue after) ((program_so_far after).parameters M)) (sym same)
          (subst (AllByRecursion (IsValue after)) (sym parameters_here)
          (all_append (IsValue after) ((program_so_far calls).parameters B) names (old B) (all_answers (IsValue after) (length calls) 0 types is_new_value)))
      by (inr other) = subst (AllByRecursion (IsValue after)) (sym (parameters_elsewhere N other)) (old N)

  values_typed : ValuesTyped after g
  values_typed = typed_on calls call f g c.holds.values_typed (typed_still f b types) new
    where
      new : (index : ℕ) (ty : «Type») → value_answer_type (slice_get (answers_to (ledger_after (script_of calls)) call.request) index) ≡ Some ty
          → HasType g (answered after (answer_of (length calls) index)) ty
      new index ty is =
          let there : slice_get types index ≡ Some ty =
          type_at types index ty (sym (ap (λ (answers : List Answered). value_answer_type (slice_get answers index)) answers_are) ∙ is) in
          let number : answered after (answer_of (length calls) (0 + index)) ≡ length f.values + index = numbered index (type_within types index ty there) in
          let same : 0 + index ≡ index = omega arith in
          subst (λ (v : ℕ). HasType g v ty) (sym number ∙ ap (λ (i : ℕ). answered after (answer_of (length calls) i)) same) (typed_now f b types index ty there)

  -- WHAT THE CALLER MADE ------------------------------------------------------------------------------------------------

  kept_numbers : (N : Name) → map (answered after) ((program_so_far calls).parameters N) ≡ map (answered calls) ((program_so_far calls).parameters N)
  kept_numbers N =
      numbers_kept calls call ((program_so_far calls).parameters N)
      (all_mapped (IsValue calls) (IsEarlier calls) (value_earlier calls) ((program_so_far calls).parameters N) (c.holds.parameters_values N))

  own_parameters : OwnParameters after mine
  own_parameters d = by (ℕ_discrete d b)
    where
      of_name : (e : ℕ) (o : Option Name) → block_name calls e ≡ o → map (answered calls) (callers_parameters calls (block_name calls e)) ≡ map (answered calls) (callers_parameters calls o)
      of_name e o is = ap (λ (p : Option Name). map (answered calls) (callers_parameters calls p)) is

      here : mine.params b ≡ map (answered after) (callers_parameters after (block_name after b))
      here =
          own_here c.own f b types (length calls) 0 (answered after) numbered
          ∙ ap (λ (ps : List ℕ). ps ++ map (answered after) names) (c.holds.parameters b ∙ of_name b (Some B) named ∙ sym (kept_numbers B))
          ∙ sym (map-append (answered after) ((program_so_far calls).parameters B) names)
          ∙ ap (map (answered after)) (sym parameters_here)
          ∙ ap (λ (o : Option Name). map (answered after) (callers_parameters after o)) (sym (stays b B named))

      elsewhere : d ≢ b → (o : Option Name) → block_name calls d ≡ o
          → map (answered calls) (callers_parameters calls o) ≡ map (answered after) (callers_parameters after o)
      elsewhere other None is = refl
      elsewhere other (Some N) is =
          sym (kept_numbers N)
          ∙ ap (map (answered after)) (sym (parameters_elsewhere N (λ same. other (c.holds.blocks.distinct d b B (is ∙ ap (λ (M : Name). Some M) same) named))))

      by : Dec (d ≡ b) → mine.params d ≡ map (answered after) (callers_parameters after (block_name after d))
      by (yes same) = subst (λ (e : ℕ). mine.params e ≡ map (answered after) (callers_parameters after (block_name after e))) (sym same) here
      by (no other) =
          own_elsewhere c.own f b types d other ∙ c.holds.parameters d ∙ elsewhere other (block_name calls d) refl
          ∙ ap (λ (o : Option Name). map (answered after) (callers_parameters after o)) (sym (names_stay calls call no_block d))

  only_parameters : (N : Name) → ((program_so_far after).parameters N ≡ []) ⊎ ((d : ℕ) × (block_name after d ≡ Some N))
  only_parameters N = by (same_or_other B N) (c.holds.blocks.only_parameters N)
    where
      by : (N ≡ B) ⊎ (N ≢ B) → ((program_so_far calls).parameters N ≡ []) ⊎ ((d : ℕ) × (block_name calls d ≡ Some N))
          → ((program_so_far after).parameters N ≡ []) ⊎ ((d : ℕ) × (block_name after d ≡ Some N))
      by (inl same) old = inr (b, stays b B named ∙ ap (λ (M : Name). Some M) (sym same))
      by (inr other) (inl none) = inl (parameters_elsewhere N other ∙ none)
      by (inr other) (inr block) = inr (block.0, stays block.0 N block.1)

  only_items : (N : Name) → ((program_so_far calls).items N ≡ []) ⊎ ((d : ℕ) × (block_name calls d ≡ Some N)) → ((program_so_far after).items N ≡ []) ⊎ ((d : ℕ) × (block_name after d ≡ Some N))
  only_items N (inl none) = inl (items N ∙ none)
  only_items N (inr block) = inr (block.0, stays block.0 N block.1)

  blocks : NamesBlocks after
  blocks = record {
    distinct = λ d e N first second. c.holds.blocks.distinct d e N (was d N first) (was e N second);
    earlier = λ d N is. let old = c.holds.blocks.earlier d N (was d N is) in omega (arith, old, longer);
    only = λ N. only_items N (c.holds.blocks.only N);
    only_parameters = only_parameters;
  }

  -- THE TABLES ----------------------------------------------------------------------------------------------------------

  module _ (T : Blocks) (program : IsProgramOf calls T) where
    abbrev T' : Blocks
    T' = tables_after T f b (length calls) 0 types

    -- what was given before is given as before
    given_still : (x : Name) → x.place < length calls → (T'.naming (code x) ≡ T.naming (code x)) × (T'.answer (code x) ≡ T.answer (code x))
    given_still x earlier = Appending.others_same b (length calls) T f 0 types (code x) (λ y in_names same. late x (subst (λ (z : Name). In z names) (Codes.differ y x same) in_names) earlier)

    new_given : (x : Name) → In x names → (T'.naming (code x) ≡ record { home = front b; origin = fresh }) × (T'.answer (code x) ≡ answered after x)
    new_given x in_names = Appending.new_given b (length calls) T f 0 types (answered after) numbered x in_names

    not_start : (d k : ℕ) → inside d k ≢ start
    not_start d k same = cc

    earlier_at : (x : Name) (d k : ℕ) → (T.naming (code x)).home ≡ inside d k → x.place < length calls
    earlier_at x d k home = named_earlier calls T program x (λ none. not_start d k (sym home ∙ none))

    given : (d index : ℕ) (N : Name) (item : Item) → block_name after d ≡ Some N → item_at after N index ≡ Some item → (x : Name) → Contains (item_gives (Some item)) x
        → (T'.naming (code x) ≡ record { home = inside d (suc index); origin = origin_of item }) × (T'.answer (code x) ≡ answered after x)
    given d index N item is stands x gives =
        let old = program.given d index N item (was d N is) (sym (ap (λ (xs : List Item). slice_get xs index) (items N)) ∙ stands) x gives in
        let earlier = earlier_at x d (suc index) (ap (λ (m : Naming). m.home) old.0) in
        let same = given_still x earlier in
        (same.0 ∙ old.0, same.1 ∙ old.1 ∙ sym (answered_stays calls call x earlier))

    old_parameter : (d : ℕ) (N : Name) → block_name calls d ≡ Some N → (x : Name) → Contains ((program_so_far calls).parameters N) x
        → (T'.naming (code x) ≡ record { home = front d; origin = fresh }) × (T'.answer (code x) ≡ answered after x)
    old_parameter d N is x stands =
        let old = program.parameter d N is x stands in
        let earlier = earlier_at x d 0 (ap (λ (m : Naming). m.home) old.0) in
        let same = given_still x earlier in
        (same.0 ∙ old.0, same.1 ∙ old.1 ∙ sym (answered_stays calls call x earlier))

    parameter : (d : ℕ) (N : Name) → block_name after d ≡ Some N → (x : Name) → Contains ((program_so_far after).parameters N) x
        → (T'.naming (code x) ≡ record { home = front d; origin = fresh }) × (T'.answer (code x) ≡ answered after x)
    parameter d N is x stands = by (same_or_other B N)
      where
        of_two : d ≡ b → In x ((program_so_far calls).parameters B) ⊎ In x names → (T'.naming (code x) ≡ record { home = front d; origin = fresh }) × (T'.answer (code x) ≡ answered after x)
        of_two at (inl old) = old_parameter d B (ap (block_name calls) at ∙ named) x (in_contained ((program_so_far calls).parameters B) x old)
        of_two at (inr new) =
            let now = new_given x new in
            (now.0 ∙ ap (λ (e : ℕ). record { home = front e; origin = fresh }) (sym at), now.1)

        by : (N ≡ B) ⊎ (N ≢ B) → (T'.naming (code x) ≡ record { home = front d; origin = fresh }) × (T'.answer (code x) ≡ answered after x)
        by (inl same) =
            of_two (c.holds.blocks.distinct d b B (was d N is ∙ ap (λ (M : Name). Some M) same) named)
            (in_either ((program_so_far calls).parameters B) names x
            (contained_in ((program_so_far calls).parameters B ++ names) x (subst (λ (xs : List Name). Contains xs x) (ap (λ (M : Name). (program_so_far after).parameters M) same ∙ parameters_here) stands)))
        by (inr other) = old_parameter d N (was d N is) x (subst (λ (xs : List Name). Contains xs x) (parameters_elsewhere N other) stands)

    still_among : (N x : Name) → Contains ((program_so_far calls).parameters N) x → Contains ((program_so_far after).parameters N) x
    still_among N x stands = by (same_or_other B N)
      where
        in_first : (xs ys : List Name) → In x xs → In x (xs ++ ys)
        in_first [] ys old = absurd old
        in_first (z ∷ xs) ys (inl here) = inl here
        in_first (z ∷ xs) ys (inr old) = inr (in_first xs ys old)

        by : (N ≡ B) ⊎ (N ≢ B) → Contains ((program_so_far after).parameters N) x
        by (inl same) =
            subst (λ (xs : List Name). Contains xs x) (sym (ap (λ (M : Name). (program_so_far after).parameters M) same ∙ parameters_here))
            (in_contained ((program_so_far calls).parameters B ++ names) x
            (in_first ((program_so_far calls).parameters B) names (contained_in ((program_so_far calls).parameters B) x (subst (λ (M : Name). Contains ((program_so_far calls).parameters M) x) same stands))))
        by (inr other) = subst (λ (xs : List Name). Contains xs x) (sym (parameters_elsewhere N other)) stands

    now_among : (x : Name) → In x names → Contains ((program_so_far after).parameters B) x
    now_among x in_names =
        subst (λ (xs : List Name). Contains xs x) (sym parameters_here)
        (in_contained ((program_so_far calls).parameters B ++ names) x (in_second ((program_so_far calls).parameters B) in_names))
      where
        in_second : (xs : List Name) → In x names → In x (xs ++ names)
        in_second [] new = new
        in_second (z ∷ xs) new = inr (in_second xs new)

    given_only : (n : ℕ) → (T'.naming n).home ≢ start → IsGiven after T' n ⊎ IsParameter after T' n
    given_only n home = by (decide names n)
      where
        of_old : T'.naming n ≡ T.naming n → IsGiven calls T n ⊎ IsParameter calls T n → IsGiven after T' n ⊎ IsParameter after T' n
        of_old same (inl i) = inl (record {
          name = i.name;
          block = i.block;
          block_is = i.block_is;
          index = i.index;
          item = i.item;
          coded = i.coded;
          earlier = let e = i.earlier in omega (arith, e, longer);
          named = stays i.block i.block_is i.named;
          stands = ap (λ (xs : List Item). slice_get xs i.index) (items i.block_is) ∙ i.stands;
          gives = i.gives;
          naming = same ∙ i.naming;
        })
        of_old same (inr p) = inr (record {
          name = p.name;
          block = p.block;
          block_is = p.block_is;
          coded = p.coded;
          earlier = let e = p.earlier in omega (arith, e, longer);
          named = stays p.block p.block_is p.named;
          stands = still_among p.block_is p.name p.stands;
          naming = same ∙ p.naming;
        })

        by : ((x : Name) × In x names × (code x ≡ n)) ⊎ ((x : Name) → In x names → code x ≢ n) → IsGiven after T' n ⊎ IsParameter after T' n
        by (inl new) = inr (record {
          name = new.0;
          block = b;
          block_is = B;
          coded = new.2;
          earlier = new_earlier new.0 new.1;
          named = stays b B named;
          stands = now_among new.0 new.1;
          naming = ap T'.naming (sym new.2) ∙ (new_given new.0 new.1).0;
        })
        by (inr none) =
            let same = (Appending.others_same b (length calls) T f 0 types n none).0 in
            of_old same (program.given_only n (λ at_start. home (ap (λ (m : Naming). m.home) same ∙ at_start)))

    program_after : IsProgramOf after T'
    program_after = record {
      counts = λ d N is. Appending.same_count b (length calls) T f 0 types d ∙ program.counts d N (was d N is) ∙ ap length (sym (items N));
      no_count = λ d none. Appending.same_count b (length calls) T f 0 types d ∙ program.no_count d (sym (names_stay calls call no_block d) ∙ none);
      assigned = λ d index N is x.
          Appending.same_assigned b (length calls) T f 0 types (inside d (suc index)) x ∙ program.assigned d index N (was d N is) x
          ∙ ap (λ (xs : List Item). assigned_by (slice_get xs index) x) (sym (items N));
      front_assigns_nothing = λ d x. Appending.same_assigned b (length calls) T f 0 types (front d) x ∙ program.front_assigns_nothing d x;
      start_assigns_nothing = λ x. Appending.same_assigned b (length calls) T f 0 types start x ∙ program.start_assigns_nothing x;
      elsewhere_nothing = λ d index x none.
          Appending.same_assigned b (length calls) T f 0 types (inside d index) x ∙ program.elsewhere_nothing d index x (sym (names_stay calls call no_block d) ∙ none);
      given = given;
      parameter = parameter;
      given_only = given_only;
      assigned_earlier = λ place x n is.
          let a = program.assigned_earlier place x n (sym (Appending.same_assigned b (length calls) T f 0 types place x) ∙ is) in
          (a.0, a.1, let e = a.2 in omega (arith, e, longer));
      distinct = blocks.distinct;
      blocks_earlier = blocks.earlier;
      only_blocks = blocks.only;
      only_parameters = only_parameters;
    }

    values_given : ValuesGiven calls T → ValuesGiven after T'
    values_given old name is = by (decide names (code name))
      where
        by : ((x : Name) × In x names × (code x ≡ code name)) ⊎ ((x : Name) → In x names → code x ≢ code name) → (T'.naming (code name)).home ≢ start
        by (inl new) at_start =
            not_start b 0 (sym (ap (λ (m : Naming). m.home) (ap T'.naming (sym new.2) ∙ (new_given new.0 new.1).0)) ∙ at_start)
        by (inr none) at_start =
            old name (was_value (order name.place (length calls)))
            (sym (ap (λ (m : Naming). m.home) (Appending.others_same b (length calls) T f 0 types (code name) none).0) ∙ at_start)
          where
            order : (m n : ℕ) → (m < n) ⊎ (n ≤ m)
            order m n = grind arith

            was_value : (name.place < length calls) ⊎ (length calls ≤ name.place) → IsTrue (has_value (ledger_after (script_of calls)) name)
            was_value (inl earlier) = subst (λ (o : Option «Type»). IsTrue (is_some o)) (type_stays calls call name earlier) is
            was_value (inr past) =
                let below = value_earlier after name is in
                let here : length calls ≡ name.place = omega (arith, below, past, longer) in
                let same : answer_of (length calls) name.index ≡ name = ap (λ (p : ℕ). answer_of p name.index) here in
                let typed = value_type after name is in
                let there : slice_get types name.index ≡ Some typed.0 =
                type_at types name.index typed.0
                (sym (type_new calls call name.index ∙ ap (λ (answers : List Answered). value_answer_type (slice_get answers name.index)) answers_are)
                ∙ ap (type_of (ledger_after (script_of after))) same ∙ typed.1) in
                let zero_and : 0 + name.index ≡ name.index = omega arith in
                absurd (none name (subst (λ (x : Name). In x names) (ap (answer_of (length calls)) zero_and ∙ same)
                (answer_there (length calls) 0 types name.index (type_within types name.index typed.0 there))) refl)

  -- THE CALL ------------------------------------------------------------------------------------------------------------

  bare : (block_at f b).params ≡ c.own.params b
  bare = alone ∙ sym (c.holds.parameters b)

  keeps : KeepsInsts f g
  keeps = insts_kept f g consistent (goes_on-params f b types)

  kept : (i : ℕ) → i < length f.insts → own_placed mine g i ≡ own_placed c.own f i
  kept i below =
      ap (λ (passed : ℕ → ℕ → List BlockArg). own_placed (record c.own { passed = passed }) g i) (own_passed c.own f b types) ∙ keeps.placed c.own i below

  same_own : (d : ℕ) → mine.insts d ≡ c.own.insts d
  same_own d = ap (λ (insts : ℕ → List ℕ). insts d) (own_insts c.own f b types)

  laid : (d : ℕ) → stands_in d g.layout ≡ false → stands_in d f.layout ≡ false
  laid d out = ap (stands_in d) (sym (Appending.same_layout f b types)) ∙ out

  pub carries_params : Carries after g s
  carries_params = record {
    own = mine;
    holds = holds_on calls call stays c.own mine f g s s c.holds kept keeps.more laid (λ i. keeps.maps i ∙ c.holds.no_maps i)
        (λ index is. values_alone types index (ap (λ (answers : List Answered). slice_get answers index) (sym answers_are) ∙ is)) same_own own_parameters parameters_values values_typed blocks
        (λ d N is. inl (was d N is)) items
        (λ d i k target here to. declared_kept c.own f g s s keeps (λ e. refl) c.holds.own_exist c.holds.declared d i k target (subst (λ (is : List ℕ). Contains is i) (same_own d) here) to)
        (leads_kept calls call c.own mine s s stays (λ d i here. subst (λ (is : List ℕ). Contains is i) (sym (same_own d)) here) (λ d. refl) c.holds.leads_own)
        (edges_there f g s s keeps (λ d. refl) (structured_so_far calls f s c).leading c.holds.have_edges)
        (entry_stays calls after f g entry (ap (λ (l : List ℕ). slice_get l 0) (Appending.same_layout f b types)) stays c.holds.entry)
        (λ declared are.
        Appending.params_structured b (length calls) declared c.own f s types (firm_from f consistent) there bare (c.holds.structured declared (types_before calls call declared are)));
    on_paths = λ free.
        let p : SoundOnPaths calls c.own f s = c.on_paths
        (free_before f g s s (λ e is. ap (λ (l : List ℕ). slice_get l 0) (Appending.same_layout f b types) ∙ is) (λ d sealed. (sealed, refl)) free) in
        let described = Appending.params_soundly b (length calls) c.own f s p.tables 0 types (firm_from f consistent) there bare (λ k later. next_is_new calls p.tables k p.program)
        (p.describes, p.sound, p.counts) in
        record {
          tables = tables_after p.tables f b (length calls) 0 types;
          program = program_after p.tables p.program;
          values_given = values_given p.tables p.program p.values_given;
          describes = described.0;
          sound = described.1;
          counts = described.2;
          tracked = tracks_quiet calls call s s p.tables p.tracked (by_request NamesNothing tt tt) refl (λ x d. refl)
              (tables_after p.tables f b (length calls) 0 types)
              (params_same b (length calls) types p.tables f 0 (λ v past. ap (λ (d : Definition). d.kind) (p.describes.absent v past)));
        };
  }

  -- a block that had the caller's parameters alone has them alone: this one, and each other
  pub alone_still : (d : ℕ) → HasCallersAlone calls f d → HasCallersAlone after g d
  alone_still d before = by (ℕ_discrete d b)
    where
      by : Dec (d ≡ b) → HasCallersAlone after g d
      by (yes same) =
          subst (HasCallersAlone after g) (sym same) (Appending.bare_still b (length calls) c.own f types there bare ∙ own_parameters b)
      by (no other) =
          Appending.params_elsewhere b (length calls) f types d there other ∙ before ∙ sym (c.holds.parameters d)
          ∙ sym (own_elsewhere c.own f b types d other) ∙ own_parameters d
