-- Items of which the edges of one branch that lead to one block lead to another one: what they give and assign stays, and so
-- does the program's side of tables.
use Rattle.std.proofs.Common.{◌≡◌, ◌≢◌, ◌⊎◌, inl, inr, ◌<◌, ℕ, zero, suc, Bool, true, false, List, [], ◌∷◌, ◌++◌, length, map, refl, sym, ◌∙◌, ap, subst, arith, Some, None, length-append}
use Rattle.std.specs.Prelude.{Contains, flat_map, if◌then◌else◌, slice_get}
use Rattle.clif_paths.specs.Places.{start, inside}
use Rattle.clif_paths.specs.State.{Naming, Origin, fresh}
use Rattle.clif_paths.specs.Blocks.{Blocks, front}
use Rattle.clif_meaning.specs.Name.{Name, answer_of, same_name}
use Rattle.clif_meaning.specs.Instruction.{Edge}
use Rattle.clif_meaning.specs.Program.{Item, Instruct, Use, Assign, redirected_edge, redirected_instruction, redirected_item}
use Rattle.clif_meaning.specs.Request.{AnsweredCall}
use Rattle.clif_meaning.specs.WellPlaced.{item_gives}
use Rattle.clif_simulation.specs.Carries.{EdgesEnd, instruction_of}
use Rattle.clif_simulation.specs.Tables.{IsGiven, IsParameter, IsProgramOf, answered, assigned_by, block_name, code, item_at, origin_of, program_so_far}
use Rattle.clif_meaning.proofs.Effects.{MakesNoBlock, MakesNoParameter}
use Rattle.clif_simulation.proofs.GivenNames.{named_earlier}
use Rattle.clif_simulation.proofs.Listed.{parameters_stay}
use Rattle.clif_simulation.proofs.NameLists.{names_stay}
use Rattle.clif_simulation.proofs.Numbers.{answered_stays}
use Rattle.clif_simulation.proofs.Finished.Placing.{map_at, map_from, map_length}
use Rattle.clif_simulation.proofs.Staying.{inside≢start}

-- WHAT STAYS ------------------------------------------------------------------------------------------------------------

module _ (branch from to : Name) where
  abbrev pub moved : Item → Item
  moved = redirected_item branch from to

  pub gives_same : (item : Item) → item_gives (Some (moved item)) ≡ item_gives (Some item)
  gives_same (Instruct place instruction results) = refl
  gives_same (Use variable name) = refl
  gives_same (Assign variable name) = refl

  pub origin_same : (item : Item) → origin_of (moved item) ≡ origin_of item
  origin_same (Instruct place instruction results) = refl
  origin_same (Use variable name) = refl
  origin_same (Assign variable name) = refl

  pub assigns_same : (item : Item) (x : ℕ) → assigned_by (Some (moved item)) x ≡ assigned_by (Some item) x
  assigns_same (Instruct place instruction results) x = refl
  assigns_same (Use variable name) x = refl
  assigns_same (Assign variable name) x = refl

  pub assigned_at : (items : List Item) (index x : ℕ) → assigned_by (slice_get (map moved items) index) x ≡ assigned_by (slice_get items index) x
  assigned_at [] zero x = refl
  assigned_at [] (suc index) x = refl
  assigned_at (item ∷ items) zero x = assigns_same item x
  assigned_at (item ∷ items) (suc index) x = assigned_at items index x

  -- the instructions that items are have the numbers that they had
  pub numbers_same : (calls : List AnsweredCall) (items : List Item) → flat_map (instruction_of calls) (map moved items) ≡ flat_map (instruction_of calls) items
  numbers_same calls [] = refl
  numbers_same calls (Instruct place instruction results ∷ items) = ap (λ (rest : List ℕ). answered calls (answer_of place 0) ∷ rest) (numbers_same calls items)
  numbers_same calls (Use variable name ∷ items) = numbers_same calls items
  numbers_same calls (Assign variable name ∷ items) = numbers_same calls items

  edges_none : (edges : List (Edge Name Name)) → edges ≡ [] → map (redirected_edge from to) edges ≡ []
  edges_none [] none = refl
  edges_none (edge ∷ edges) none = let no_way : ⊥ = cc in absurd no_way

  -- an instruction with edges is still the last item
  pub edges_end_still : (items : List Item) → EdgesEnd items → EdgesEnd (map moved items)
  edges_end_still [] ends = tt
  edges_end_still (Instruct place instruction results ∷ items) ends = (by (same_name (answer_of place 0) branch) ends.0, edges_end_still items ends.1)
    where
      by : (test : Bool) → (instruction.edges ≡ []) ⊎ (items ≡ [])
          → ((if test then redirected_instruction from to instruction else instruction).edges ≡ []) ⊎ (map moved items ≡ [])
      by test (inr none) = inr (ap (map moved) none)
      by true (inl none) = inl (edges_none instruction.edges none)
      by false (inl none) = inl none
  edges_end_still (Use variable name ∷ items) ends = edges_end_still items ends
  edges_end_still (Assign variable name ∷ items) ends = edges_end_still items ends

  -- THE PROGRAM'S SIDE OF TABLES ------------------------------------------------------------------------------------------

  -- A call that changes items like that, and nothing else.
  module _ (calls : List AnsweredCall) (call : AnsweredCall) (no_block : MakesNoBlock call.request) (no_parameter : MakesNoParameter call.request)
      (items : (N : Name) → (program_so_far (calls ++ call ∷ [])).items N ≡ map moved ((program_so_far calls).items N)) where
    abbrev after : List AnsweredCall
    after = calls ++ call ∷ []

    named : (c : ℕ) (N : Name) → block_name after c ≡ Some N → block_name calls c ≡ Some N
    named c N is = sym (names_stay calls call no_block c) ∙ is

    still_named : (c : ℕ) (N : Name) → block_name calls c ≡ Some N → block_name after c ≡ Some N
    still_named c N is = names_stay calls call no_block c ∙ is

    unnamed : (c : ℕ) → block_name after c ≡ None → block_name calls c ≡ None
    unnamed c none = sym (names_stay calls call no_block c) ∙ none

    item_stood : (N : Name) (index : ℕ) (item : Item) → item_at after N index ≡ Some item → (old : Item) × (item_at calls N index ≡ Some old) × (moved old ≡ item)
    item_stood N index item here =
        map_from moved ((program_so_far calls).items N) index item (ap (λ (all : List Item). slice_get all index) (sym (items N)) ∙ here)

    parameter_stood : (N x : Name) → Contains ((program_so_far after).parameters N) x → Contains ((program_so_far calls).parameters N) x
    parameter_stood N x = subst (λ (xs : List Name). Contains xs x) (parameters_stay calls call no_parameter N)

    longer : length calls < length after
    longer = omega (arith, length-append calls)

    pub only_blocks : (N : Name) → ((program_so_far calls).items N ≡ []) ⊎ ((c : ℕ) × (block_name calls c ≡ Some N))
        → ((program_so_far after).items N ≡ []) ⊎ ((c : ℕ) × (block_name after c ≡ Some N))
    only_blocks N (inl none) = inl (items N ∙ ap (map moved) none)
    only_blocks N (inr block) = inr (block.0, still_named block.0 N block.1)

    pub only_bare : (N : Name) → ((program_so_far calls).parameters N ≡ []) ⊎ ((c : ℕ) × (block_name calls c ≡ Some N))
        → ((program_so_far after).parameters N ≡ []) ⊎ ((c : ℕ) × (block_name after c ≡ Some N))
    only_bare N (inl none) = inl (parameters_stay calls call no_parameter N ∙ none)
    only_bare N (inr block) = inr (block.0, still_named block.0 N block.1)

    module _ (T : Blocks) (was : IsProgramOf calls T) where
      given : (c index : ℕ) (N : Name) (item : Item) → block_name after c ≡ Some N → item_at after N index ≡ Some item → (x : Name) → Contains (item_gives (Some item)) x
          → (T.naming (code x) ≡ record { home = inside c (suc index); origin = origin_of item }) × (T.answer (code x) ≡ answered after x)
      given c index N item is here x gives =
          let old = item_stood N index item here in
          let g = was.given c index N old.0 (named c N is) old.1 x
          (subst (λ (xs : List Name). Contains xs x) (gives_same old.0) (subst (λ (i : Item). Contains (item_gives (Some i)) x) (sym old.2) gives)) in
          let earlier : x.place < length calls =
          named_earlier calls T was x (λ at_start. inside≢start c (suc index) (sym (ap (λ (n : Naming). n.home) g.0) ∙ at_start)) in (
            g.0 ∙ ap (λ (o : Origin). record { home = inside c (suc index); origin = o }) (sym (origin_same old.0) ∙ ap origin_of old.2),
            g.1 ∙ sym (answered_stays calls call x earlier),
          )

      parameter : (c : ℕ) (N : Name) → block_name after c ≡ Some N → (x : Name) → Contains ((program_so_far after).parameters N) x
          → (T.naming (code x) ≡ record { home = front c; origin = fresh }) × (T.answer (code x) ≡ answered after x)
      parameter c N is x stands =
          let p = was.parameter c N (named c N is) x (parameter_stood N x stands) in
          let earlier : x.place < length calls =
          named_earlier calls T was x (λ at_start. inside≢start c 0 (sym (ap (λ (n : Naming). n.home) p.0) ∙ at_start)) in
          (p.0, p.1 ∙ sym (answered_stays calls call x earlier))

      given_only : (n : ℕ) → (T.naming n).home ≢ start → IsGiven after T n ⊎ IsParameter after T n
      given_only n home = by (was.given_only n home)
        where
          by : IsGiven calls T n ⊎ IsParameter calls T n → IsGiven after T n ⊎ IsParameter after T n
          by (inl g) = inl (record {
            name = g.name;
            block = g.block;
            block_is = g.block_is;
            index = g.index;
            item = moved g.item;
            coded = g.coded;
            earlier = let e = g.earlier in let l = longer in omega (arith, e, l);
            named = still_named g.block g.block_is g.named;
            stands = ap (λ (all : List Item). slice_get all g.index) (items g.block_is) ∙ map_at moved ((program_so_far calls).items g.block_is) g.index g.item g.stands;
            gives = subst (λ (xs : List Name). Contains xs g.name) (sym (gives_same g.item)) g.gives;
            naming = g.naming ∙ ap (λ (o : Origin). record { home = inside g.block (suc g.index); origin = o }) (sym (origin_same g.item));
          })
          by (inr p) = inr (record {
            name = p.name;
            block = p.block;
            block_is = p.block_is;
            coded = p.coded;
            earlier = let e = p.earlier in let l = longer in omega (arith, e, l);
            named = still_named p.block p.block_is p.named;
            stands = subst (λ (xs : List Name). Contains xs p.name) (sym (parameters_stay calls call no_parameter p.block_is)) p.stands;
            naming = p.naming;
          })

      pub program_still : IsProgramOf after T
      program_still = record {
        counts = λ c N is. was.counts c N (named c N is) ∙ sym (map_length moved ((program_so_far calls).items N)) ∙ ap length (sym (items N));
        no_count = λ c none. was.no_count c (unnamed c none);
        assigned = λ c index N is x.
            was.assigned c index N (named c N is) x ∙ sym (assigned_at ((program_so_far calls).items N) index x)
            ∙ ap (λ (all : List Item). assigned_by (slice_get all index) x) (sym (items N));
        front_assigns_nothing = was.front_assigns_nothing;
        start_assigns_nothing = was.start_assigns_nothing;
        elsewhere_nothing = λ c index x none. was.elsewhere_nothing c index x (unnamed c none);
        given = given;
        parameter = parameter;
        given_only = given_only;
        assigned_earlier = λ place x n is.
            let a = was.assigned_earlier place x n is in
            (a.0, a.1, let e = a.2 in let l = longer in omega (arith, e, l));
        distinct = λ c d N first second. was.distinct c d N (named c N first) (named d N second);
        blocks_earlier = λ c N is. let e = was.blocks_earlier c N (named c N is) in let l = longer in omega (arith, e, l);
        only_blocks = λ N. only_blocks N (was.only_blocks N);
        only_parameters = λ N. only_bare N (was.only_parameters N);
      }
