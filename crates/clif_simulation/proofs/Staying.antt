-- The program's side where no item is added, and the current block and the entry after each call.
use Rattle.std.proofs.Common.{◌≡◌, ◌≢◌, ℕ, suc, ◌<◌, ◌≤◌, List, [], ◌∷◌, ◌++◌, length, refl, sym, ◌∙◌, ap, subst, arith, Some, None, ◌⊎◌, inl, inr, length-append}
use Rattle.std.specs.Prelude.{slice_get, Option, Contains}
use Rattle.std.proofs.lemmas.List.{map-append}
use Rattle.clif_paths.specs.Places.{start, inside}
use Rattle.clif_paths.specs.State.{Naming, fresh}
use Rattle.clif_paths.specs.Blocks.{Blocks, front}
use Rattle.clif_ssa.specs.Sound.{SameProgram}
use Rattle.clif_meaning.specs.Name.{Name, answer_of}
use Rattle.clif_meaning.specs.Request.{CreateBlock, AnsweredCall, script_of}
use Rattle.clif_meaning.specs.Ledger.{Ledger, ledger_after, ledger_with, new_block}
use Rattle.clif_meaning.specs.Program.{Item}
use Rattle.clif_meaning.specs.WellPlaced.{item_gives}
use Rattle.clif_meaning.proofs.CallLists.{ledger_place}
use Rattle.clif_simulation.specs.Tables.{code, answered, program_so_far, block_name, item_at, assigned_by, origin_of, IsGiven, IsParameter, IsProgramOf}
use Rattle.clif_meaning.proofs.StraightLine.{none_of}
use Rattle.clif_simulation.proofs.GivenNames.{named_earlier}
use Rattle.clif_simulation.proofs.Listed.{MakesNoParameter, parameters_stay}
use Rattle.clif_simulation.proofs.Numbers.{answered_stays, ledger_longer, slice_get-longer, slice_get-front, slice_get-last}
use Rattle.clif_simulation.proofs.NameLists.{MakesNoBlock, names_of, names_stay}
use Rattle.std.proofs.lemmas.Option.{slice_get_within}

pub inside≢start : (b k : ℕ) → inside b k ≢ start
inside≢start b k same = cc

-- Blocks may be added which have no items; nothing else changes.
pub record AddsNoItem (calls calls' : List AnsweredCall) (T T' : Blocks) : Type 0 where
  pub same : SameProgram T T'
  pub longer : length calls ≤ length calls'
  pub names_kept : (c : ℕ) (N : Name) → block_name calls c ≡ Some N → block_name calls' c ≡ Some N
  pub names_new : (c : ℕ) (N : Name) → block_name calls' c ≡ Some N
      → (block_name calls c ≡ Some N) ⊎ ((block_name calls c ≡ None) × (N.place ≡ length calls) × (length calls < length calls'))
  pub one_new : (c d : ℕ) (N : Name) → block_name calls' c ≡ Some N → block_name calls c ≡ None → block_name calls' d ≡ Some N → block_name calls d ≡ None → c ≡ d
  pub items : (N : Name) → (program_so_far calls').items N ≡ (program_so_far calls).items N
  pub parameters : (N : Name) → (program_so_far calls').parameters N ≡ (program_so_far calls).parameters N
  pub answers_stay : (x : Name) → x.place < length calls → answered calls' x ≡ answered calls x

module _ (calls calls' : List AnsweredCall) (T T' : Blocks) (adds : AddsNoItem calls calls' T T') (was : IsProgramOf calls T) where
  given_earlier : (x : Name) → (T.naming (code x)).home ≢ start → x.place < length calls
  given_earlier x home =
      named_earlier calls T was x home

  -- a block that is new has no items
  new_empty : (c : ℕ) (N : Name) → block_name calls c ≡ None → N.place ≡ length calls → (program_so_far calls).items N ≡ []
  new_empty c N none late = by (was.only_blocks N)
    where
      by : ((program_so_far calls).items N ≡ []) ⊎ ((d : ℕ) × (block_name calls d ≡ Some N)) → (program_so_far calls).items N ≡ []
      by (inl empty) = empty
      by (inr block) = let earlier : N.place < length calls = was.blocks_earlier block.0 N block.1 in absurd (omega (arith, earlier, late))

  none_at : (c : ℕ) → block_name calls' c ≡ None → block_name calls c ≡ None
  none_at c none = by (block_name calls c) refl
    where
      by : (o : Option Name) → block_name calls c ≡ o → block_name calls c ≡ None
      by None is = is
      by (Some N) is = let kept = adds.names_kept c N is in absurd (differ N (block_name calls' c) kept none)
        where
          differ : (M : Name) (o : Option Name) → o ≡ Some M → o ≡ None → ⊥
          differ M o first second = cc

  item_same : (N : Name) (index : ℕ) → item_at calls' N index ≡ item_at calls N index
  item_same N index = ap (λ (items : List Item). slice_get items index) (adds.items N)

  counts : (c : ℕ) (N : Name) → block_name calls' c ≡ Some N → T'.count c ≡ length ((program_so_far calls').items N)
  counts c N named = by (adds.names_new c N named)
    where
      by : (block_name calls c ≡ Some N) ⊎ ((block_name calls c ≡ None) × (N.place ≡ length calls) × (length calls < length calls')) → T'.count c ≡ length ((program_so_far calls').items N)
      by (inl old) = adds.same.count c ∙ was.counts c N old ∙ ap length (sym (adds.items N))
      by (inr new) = adds.same.count c ∙ was.no_count c new.0 ∙ ap length (sym (adds.items N ∙ new_empty c N new.0 new.1))

  assigned : (c index : ℕ) (N : Name) → block_name calls' c ≡ Some N → (x : ℕ) → T'.assigned (inside c (suc index)) x ≡ assigned_by (item_at calls' N index) x
  assigned c index N named x = by (adds.names_new c N named)
    where
      by : (block_name calls c ≡ Some N) ⊎ ((block_name calls c ≡ None) × (N.place ≡ length calls) × (length calls < length calls')) → T'.assigned (inside c (suc index)) x ≡ assigned_by (item_at calls' N index) x
      by (inl old) = adds.same.assigned (inside c (suc index)) x ∙ was.assigned c index N old x ∙ ap (λ (i : Option Item). assigned_by i x) (sym (item_same N index))
      by (inr new) =
          adds.same.assigned (inside c (suc index)) x ∙ was.elsewhere_nothing c (suc index) x new.0
          ∙ ap (λ (items : List Item). assigned_by (slice_get items index) x) (sym (adds.items N ∙ new_empty c N new.0 new.1))

  given : (c index : ℕ) (N : Name) (i : Item) → block_name calls' c ≡ Some N → item_at calls' N index ≡ Some i → (x : Name) → Contains (item_gives (Some i)) x
      → (T'.naming (code x) ≡ record { home = inside c (suc index); origin = origin_of i }) × (T'.answer (code x) ≡ answered calls' x)
  given c index N i named here x gives = by (adds.names_new c N named)
    where
      stood : item_at calls N index ≡ Some i
      stood = sym (item_same N index) ∙ here

      by : (block_name calls c ≡ Some N) ⊎ ((block_name calls c ≡ None) × (N.place ≡ length calls) × (length calls < length calls'))
          → (T'.naming (code x) ≡ record { home = inside c (suc index); origin = origin_of i }) × (T'.answer (code x) ≡ answered calls' x)
      by (inl old) =
          let g = was.given c index N i old stood x gives in
          let earlier : x.place < length calls = given_earlier x (λ at_start. inside≢start c (suc index) (sym (ap (λ (n : Naming). n.home) g.0) ∙ at_start)) in
          (adds.same.naming (code x) ∙ g.0, adds.same.answer (code x) ∙ g.1 ∙ sym (adds.answers_stay x earlier))
      by (inr new) =
          let none : slice_get [] index ≡ Some i = ap (λ (items : List Item). slice_get items index) (sym (new_empty c N new.0 new.1)) ∙ stood in
          absurd (differ i none)
        where
          differ : (j : Item) → None ≡ Some j → ⊥
          differ j h = cc

  -- a block that is new has no parameters either
  new_bare : (c : ℕ) (N : Name) → N.place ≡ length calls → (program_so_far calls).parameters N ≡ []
  new_bare c N late = by (was.only_parameters N)
    where
      by : ((program_so_far calls).parameters N ≡ []) ⊎ ((d : ℕ) × (block_name calls d ≡ Some N)) → (program_so_far calls).parameters N ≡ []
      by (inl empty) = empty
      by (inr block) = let earlier : N.place < length calls = was.blocks_earlier block.0 N block.1 in absurd (omega (arith, earlier, late))

  parameter : (c : ℕ) (N : Name) → block_name calls' c ≡ Some N → (x : Name) → Contains ((program_so_far calls').parameters N) x
      → (T'.naming (code x) ≡ record { home = front c; origin = fresh }) × (T'.answer (code x) ≡ answered calls' x)
  parameter c N named x stands = by (adds.names_new c N named)
    where
      stood : Contains ((program_so_far calls).parameters N) x
      stood = subst (λ (xs : List Name). Contains xs x) (adds.parameters N) stands

      by : (block_name calls c ≡ Some N) ⊎ ((block_name calls c ≡ None) × (N.place ≡ length calls) × (length calls < length calls'))
          → (T'.naming (code x) ≡ record { home = front c; origin = fresh }) × (T'.answer (code x) ≡ answered calls' x)
      by (inl old) =
          let p = was.parameter c N old x stood in
          let earlier : x.place < length calls = given_earlier x (λ at_start. inside≢start c 0 (sym (ap (λ (n : Naming). n.home) p.0) ∙ at_start)) in
          (adds.same.naming (code x) ∙ p.0, adds.same.answer (code x) ∙ p.1 ∙ sym (adds.answers_stay x earlier))
      by (inr new) = absurd (none_of ((program_so_far calls).parameters N) x (new_bare c N new.1) stood)

  given_only : (n : ℕ) → (T'.naming n).home ≢ start → IsGiven calls' T' n ⊎ IsParameter calls' T' n
  given_only n home = by (was.given_only n (λ at_start. home (ap (λ (m : Naming). m.home) (adds.same.naming n) ∙ at_start)))
    where
      by : IsGiven calls T n ⊎ IsParameter calls T n → IsGiven calls' T' n ⊎ IsParameter calls' T' n
      by (inl g) = inl (record {
        name = g.name;
        block = g.block;
        block_is = g.block_is;
        index = g.index;
        item = g.item;
        coded = g.coded;
        earlier = let e = g.earlier in let l = adds.longer in omega (arith, e, l);
        named = adds.names_kept g.block g.block_is g.named;
        stands = item_same g.block_is g.index ∙ g.stands;
        gives = g.gives;
        naming = adds.same.naming n ∙ g.naming;
      })
      by (inr p) = inr (record {
        name = p.name;
        block = p.block;
        block_is = p.block_is;
        coded = p.coded;
        earlier = let e = p.earlier in let l = adds.longer in omega (arith, e, l);
        named = adds.names_kept p.block p.block_is p.named;
        stands = subst (λ (xs : List Name). Contains xs p.name) (sym (adds.parameters p.block_is)) p.stands;
        naming = adds.same.naming n ∙ p.naming;
      })

  distinct : (c d : ℕ) (N : Name) → block_name calls' c ≡ Some N → block_name calls' d ≡ Some N → c ≡ d
  distinct c d N first second = by (adds.names_new c N first) (adds.names_new d N second)
    where
      late : (e : ℕ) → block_name calls e ≡ Some N → N.place ≡ length calls → ⊥
      late e old new = let earlier : N.place < length calls = was.blocks_earlier e N old in omega (arith, earlier, new)

      by : (block_name calls c ≡ Some N) ⊎ ((block_name calls c ≡ None) × (N.place ≡ length calls) × (length calls < length calls'))
          → (block_name calls d ≡ Some N) ⊎ ((block_name calls d ≡ None) × (N.place ≡ length calls) × (length calls < length calls')) → c ≡ d
      by (inl a) (inl b) = was.distinct c d N a b
      by (inl a) (inr b) = absurd (late c a b.1)
      by (inr a) (inl b) = absurd (late d b a.1)
      by (inr a) (inr b) = adds.one_new c d N first a.0 second b.0

  blocks_earlier : (c : ℕ) (N : Name) → block_name calls' c ≡ Some N → N.place < length calls'
  blocks_earlier c N named = by (adds.names_new c N named)
    where
      by : (block_name calls c ≡ Some N) ⊎ ((block_name calls c ≡ None) × (N.place ≡ length calls) × (length calls < length calls')) → N.place < length calls'
      by (inl old) = let e = was.blocks_earlier c N old in let l = adds.longer in omega (arith, e, l)
      by (inr new) = omega (arith, new.1, new.2)

  only_blocks : (N : Name) → ((program_so_far calls').items N ≡ []) ⊎ ((c : ℕ) × (block_name calls' c ≡ Some N))
  only_blocks N = by (was.only_blocks N)
    where
      by : ((program_so_far calls).items N ≡ []) ⊎ ((c : ℕ) × (block_name calls c ≡ Some N)) → ((program_so_far calls').items N ≡ []) ⊎ ((c : ℕ) × (block_name calls' c ≡ Some N))
      by (inl empty) = inl (adds.items N ∙ empty)
      by (inr block) = inr (block.0, adds.names_kept block.0 N block.1)

  only_parameters : (N : Name) → ((program_so_far calls').parameters N ≡ []) ⊎ ((c : ℕ) × (block_name calls' c ≡ Some N))
  only_parameters N = by (was.only_parameters N)
    where
      by : ((program_so_far calls).parameters N ≡ []) ⊎ ((c : ℕ) × (block_name calls c ≡ Some N)) → ((program_so_far calls').parameters N ≡ []) ⊎ ((c : ℕ) × (block_name calls' c ≡ Some N))
      by (inl empty) = inl (adds.parameters N ∙ empty)
      by (inr block) = inr (block.0, adds.names_kept block.0 N block.1)

  pub stays : IsProgramOf calls' T'
  stays = record {
    counts = counts;
    no_count = λ c none. adds.same.count c ∙ was.no_count c (none_at c none);
    assigned = assigned;
    front_assigns_nothing = λ c x. adds.same.assigned (front c) x ∙ was.front_assigns_nothing c x;
    start_assigns_nothing = λ x. adds.same.assigned start x ∙ was.start_assigns_nothing x;
    elsewhere_nothing = λ c index x none. adds.same.assigned (inside c index) x ∙ was.elsewhere_nothing c index x (none_at c none);
    given = given;
    parameter = parameter;
    given_only = given_only;
    assigned_earlier = λ place x n is.
        let a = was.assigned_earlier place x n (sym (adds.same.assigned place x) ∙ is) in
        (a.0, a.1, let e = a.2 in let l = adds.longer in omega (arith, e, l));
    distinct = distinct;
    blocks_earlier = blocks_earlier;
    only_blocks = only_blocks;
    only_parameters = only_parameters;
  }

pub same_program-refl : (T : Blocks) → SameProgram T T
same_program-refl T = record { count = λ b. refl; assigned = λ place x. refl; naming = λ n. refl; answer = λ n. refl }

-- the calls stay, and the tables have the same program's side
pub restated : (calls : List AnsweredCall) (T T' : Blocks) → SameProgram T T' → IsProgramOf calls T → IsProgramOf calls T'
restated calls T T' same was =
    stays calls calls T T'
    (record {
      same = same;
      longer = omega arith;
      names_kept = λ c N h. h;
      names_new = λ c N h. inl h;
      one_new = λ c d N first none second none'. absurd (differ N (block_name calls c) first none);
      items = λ N. refl;
      parameters = λ N. refl;
      answers_stay = λ x h. refl;
    })
    was
  where
    differ : (M : Name) (o : Option Name) → o ≡ Some M → o ≡ None → ⊥
    differ M o first second = cc

-- a call that makes no block and no item
pub unchanged : (calls : List AnsweredCall) (call : AnsweredCall) (T T' : Blocks) → SameProgram T T' → MakesNoBlock call.request → MakesNoParameter call.request
    → ((N : Name) → (program_so_far (calls ++ call ∷ [])).items N ≡ (program_so_far calls).items N)
    → IsProgramOf calls T → IsProgramOf (calls ++ call ∷ []) T'
unchanged calls call T T' same no_block no_parameter items was =
    stays calls (calls ++ call ∷ []) T T'
    (record {
      same = same;
      longer = omega (arith, length-append calls);
      names_kept = λ c N h. names_stay calls call no_block c ∙ h;
      names_new = λ c N h. inl (sym (names_stay calls call no_block c) ∙ h);
      one_new = λ c d N first none second none'. absurd (differ N (block_name calls c) (sym (names_stay calls call no_block c) ∙ first) none);
      items = items;
      parameters = parameters_stay calls call no_parameter;
      answers_stay = λ x h. answered_stays calls call x h;
    })
    was
  where
    differ : (M : Name) (o : Option Name) → o ≡ Some M → o ≡ None → ⊥
    differ M o first second = cc

-- the call that makes a block
names_more : (calls : List AnsweredCall) (call : AnsweredCall) → call.request ≡ CreateBlock
    → names_of (ledger_after (script_of (calls ++ call ∷ []))).blocks ≡ names_of (ledger_after (script_of calls)).blocks ++ answer_of (length calls) 0 ∷ []
names_more calls call is =
    ap (λ (ledger : Ledger). names_of ledger.blocks) (ledger_longer calls call ∙ ap (ledger_with (ledger_after (script_of calls))) is)
    ∙ map-append (λ state. state.block) (ledger_after (script_of calls)).blocks (new_block (answer_of (length (ledger_after (script_of calls)).answers) 0) ∷ [])
    ∙ ap (λ (place : ℕ). names_of (ledger_after (script_of calls)).blocks ++ answer_of place 0 ∷ []) (ledger_place (script_of calls) ∙ script_length calls)
  where
    script_length : (cs : List AnsweredCall) → length (script_of cs) ≡ length cs
    script_length [] = refl
    script_length (c ∷ cs) = ap suc (script_length cs)

module _ (calls : List AnsweredCall) (call : AnsweredCall) (is : call.request ≡ CreateBlock) where
  abbrev known : List Name
  known = names_of (ledger_after (script_of calls)).blocks

  block_created : (c : ℕ) → block_name (calls ++ call ∷ []) c ≡ slice_get (known ++ answer_of (length calls) 0 ∷ []) c
  block_created c = ap (λ (names : List Name). slice_get names c) (names_more calls call is)

  pub new_name : block_name (calls ++ call ∷ []) (length known) ≡ Some (answer_of (length calls) 0)
  new_name = block_created (length known) ∙ slice_get-last known (answer_of (length calls) 0)

  pub kept : (c : ℕ) (N : Name) → block_name calls c ≡ Some N → block_name (calls ++ call ∷ []) c ≡ Some N
  kept c N here = block_created c ∙ slice_get-front known (answer_of (length calls) 0 ∷ []) c (slice_get_within known c N here) ∙ here

  pub old_or_new : (c : ℕ) (N : Name) → block_name (calls ++ call ∷ []) c ≡ Some N → (block_name calls c ≡ Some N) ⊎ ((c ≡ length known) × (answer_of (length calls) 0 ≡ N))
  old_or_new c N here = by (slice_get-longer known (answer_of (length calls) 0) c N (sym (block_created c) ∙ here))
    where
      by : ((slice_get known c ≡ Some N) × (c < length known)) ⊎ ((c ≡ length known) × (answer_of (length calls) 0 ≡ N)) → (block_name calls c ≡ Some N) ⊎ ((c ≡ length known) × (answer_of (length calls) 0 ≡ N))
      by (inl old) = inl old.0
      by (inr new) = inr new

  past : (names : List Name) → slice_get names (length names) ≡ None
  past [] = refl
  past (N ∷ names) = past names

  pub created : (T T' : Blocks) → SameProgram T T'
      → ((N : Name) → (program_so_far (calls ++ call ∷ [])).items N ≡ (program_so_far calls).items N)
      → IsProgramOf calls T → IsProgramOf (calls ++ call ∷ []) T'
  created T T' same items was =
      let no_parameter : MakesNoParameter call.request = subst MakesNoParameter (sym is) tt in
      stays calls (calls ++ call ∷ []) T T'
      (record {
        same = same;
        longer = omega (arith, length-append calls);
        names_kept = kept;
        names_new = λ c N h. new c N (old_or_new c N h);
        one_new = λ c d N first none second none'. at_end c N none (old_or_new c N first) ∙ sym (at_end d N none' (old_or_new d N second));
        items = items;
        parameters = parameters_stay calls call no_parameter;
        answers_stay = λ x h. answered_stays calls call x h;
      })
      was
    where
      new : (c : ℕ) (N : Name) → (block_name calls c ≡ Some N) ⊎ ((c ≡ length known) × (answer_of (length calls) 0 ≡ N))
          → (block_name calls c ≡ Some N) ⊎ ((block_name calls c ≡ None) × (N.place ≡ length calls) × (length calls < length (calls ++ call ∷ [])))
      new c N (inl old) = inl old
      new c N (inr here) = inr (ap (slice_get known) here.0 ∙ past known, ap (λ (M : Name). M.place) (sym here.1), omega (arith, length-append calls))

      at_end : (c : ℕ) (N : Name) → block_name calls c ≡ None → (block_name calls c ≡ Some N) ⊎ ((c ≡ length known) × (answer_of (length calls) 0 ≡ N)) → c ≡ length known
      at_end c N none (inl old) = absurd (differ N (block_name calls c) old none)
        where
          differ : (M : Name) (o : Option Name) → o ≡ Some M → o ≡ None → ⊥
          differ M o first second = cc
      at_end c N none (inr here) = here.0
