-- The program's side of the tables after one more item.
use Rattle.std.proofs.Common.{◌≡◌, ◌≢◌, ℕ, suc, ◌<◌, List, [], ◌∷◌, ◌++◌, length, refl, sym, ◌∙◌, ap, subst, arith, Some, None, ◌⊎◌, inl, inr}
use Rattle.std.proofs.Math.Decide.{ℕ_discrete}
use Rattle.std.specs.Prelude.{slice_get, Option, Contains}
use Rattle.std.proofs.lemmas.Option.{slice_get_within}
use Rattle.clif_paths.proofs.PathLemmas.{dec_place}
use Rattle.clif_paths.specs.Places.{Place, start, inside}
use Rattle.clif_paths.specs.State.{Naming, fresh}
use Rattle.clif_paths.specs.Blocks.{Blocks, front}
use Rattle.clif_meaning.specs.Name.{Name}
use Rattle.clif_meaning.specs.Request.{AnsweredCall}
use Rattle.clif_meaning.specs.Program.{Item}
use Rattle.clif_meaning.specs.WellPlaced.{item_gives}
use Rattle.clif_simulation.specs.Tables.{code, answered, program_so_far, block_name, item_at, assigned_by, origin_of, IsGiven, IsParameter, IsProgramOf}
use Rattle.clif_simulation.proofs.Codes.{differ as codes_differ}
use Rattle.clif_simulation.proofs.GivenNames.{named_earlier}
use Rattle.clif_simulation.proofs.Numbers.{slice_get-last, slice_get-other, slice_get-longer, slice_get-front}

-- a call puts one item behind those of a block, and the tables say so
pub record AddsItem (calls calls' : List AnsweredCall) (T T' : Blocks) (b : ℕ) (B : Name) (item : Item) : Type 0 where
  pub named : block_name calls b ≡ Some B
  pub names : (c : ℕ) → block_name calls' c ≡ block_name calls c
  pub longer : length calls' ≡ suc (length calls)
  pub items_here : (program_so_far calls').items B ≡ (program_so_far calls).items B ++ item ∷ []
  pub items_elsewhere : (N : Name) → N ≢ B → (program_so_far calls').items N ≡ (program_so_far calls).items N
  pub parameters : (N : Name) → (program_so_far calls').parameters N ≡ (program_so_far calls).parameters N
  pub same_or_other : (N : Name) → (N ≡ B) ⊎ (N ≢ B)
  pub count_here : T'.count b ≡ suc (T.count b)
  pub count_elsewhere : (c : ℕ) → c ≢ b → T'.count c ≡ T.count c
  pub assigned_here : (x : ℕ) → T'.assigned (inside b (suc (T.count b))) x ≡ assigned_by (Some item) x
  pub assigned_elsewhere : (place : Place) (x : ℕ) → place ≢ inside b (suc (T.count b)) → T'.assigned place x ≡ T.assigned place x
  pub unassigned : (x : ℕ) → T.assigned (inside b (suc (T.count b))) x ≡ None
  pub assigns_earlier : (x n : ℕ) → assigned_by (Some item) x ≡ Some n → (name : Name) × (code name ≡ n) × (name.place < length calls)
  pub gives_new : (x : Name) → Contains (item_gives (Some item)) x
      → (x.place ≡ length calls)
      × (T'.naming (code x) ≡ record { home = inside b (suc (T.count b)); origin = origin_of item })
      × (T'.answer (code x) ≡ answered calls' x)
  pub gives_decided : (n : ℕ) → ((x : Name) × Contains (item_gives (Some item)) x × (code x ≡ n)) ⊎ ((T'.naming n ≡ T.naming n) × (T'.answer n ≡ T.answer n))
  pub answers_stay : (x : Name) → x.place < length calls → answered calls' x ≡ answered calls x

pub one_answer : {X : Type 0} (x y : X) (o : Option X) → o ≡ Some x → o ≡ Some y → x ≡ y
one_answer x y o first second = cc

inside≢start : (b k : ℕ) → inside b k ≢ start
inside≢start b k same = cc

steps_differ : (b c j k : ℕ) → inside b j ≡ inside c k → (b ≡ c) × (j ≡ k)
steps_differ b c j k same = (cc, cc)

module _ (calls calls' : List AnsweredCall) (T T' : Blocks) (b : ℕ) (B : Name) (item : Item)
    (adds : AddsItem calls calls' T T' b B item) (was : IsProgramOf calls T) where
  count_is : T.count b ≡ length ((program_so_far calls).items B)
  count_is = was.counts b B adds.named

  name_was : (c : ℕ) (N : Name) → block_name calls' c ≡ Some N → block_name calls c ≡ Some N
  name_was c N here = sym (adds.names c) ∙ here

  -- a name that was given before was answered before
  given_earlier : (x : Name) → (T.naming (code x)).home ≢ start → x.place < length calls
  given_earlier x home =
      named_earlier calls T was x home

  -- an item of the longer program is one of the shorter, or the new one
  item_cases : (c index : ℕ) (N : Name) (i : Item) → block_name calls c ≡ Some N → item_at calls' N index ≡ Some i
      → (item_at calls N index ≡ Some i) ⊎ ((N ≡ B) × (c ≡ b) × (index ≡ T.count b) × (item ≡ i))
  item_cases c index N i named here = by (adds.same_or_other N)
    where
      longer : N ≡ B → slice_get ((program_so_far calls).items B ++ item ∷ []) index ≡ Some i
      longer same =
          ap (λ (items : List Item). slice_get items index) (sym adds.items_here)
          ∙ ap (λ (M : Name). item_at calls' M index) (sym same) ∙ here

      of_longer : N ≡ B → ((slice_get ((program_so_far calls).items B) index ≡ Some i) × (index < length ((program_so_far calls).items B))) ⊎ ((index ≡ length ((program_so_far calls).items B)) × (item ≡ i))
          → (item_at calls N index ≡ Some i) ⊎ ((N ≡ B) × (c ≡ b) × (index ≡ T.count b) × (item ≡ i))
      of_longer same (inl old) = inl (ap (λ (M : Name). item_at calls M index) same ∙ old.0)
      of_longer same (inr new) =
          inr (same, was.distinct c b B (named ∙ ap (λ (M : Name). Some M) same) adds.named, new.0 ∙ sym count_is, new.1)

      by : (N ≡ B) ⊎ (N ≢ B) → (item_at calls N index ≡ Some i) ⊎ ((N ≡ B) × (c ≡ b) × (index ≡ T.count b) × (item ≡ i))
      by (inl same) = of_longer same (slice_get-longer _ item index i (longer same))
      by (inr other) = inl (ap (λ (items : List Item). slice_get items index) (sym (adds.items_elsewhere N other)) ∙ here)

  -- an item of the shorter program is one of the longer
  item_kept : (index : ℕ) (N : Name) (i : Item) → item_at calls N index ≡ Some i → item_at calls' N index ≡ Some i
  item_kept index N i here = by (adds.same_or_other N)
    where
      by : (N ≡ B) ⊎ (N ≢ B) → item_at calls' N index ≡ Some i
      by (inl same) =
          let below = slice_get_within ((program_so_far calls).items N) index i here in
          ap (λ (M : Name). item_at calls' M index) same
          ∙ ap (λ (items : List Item). slice_get items index) adds.items_here
          ∙ slice_get-front ((program_so_far calls).items B) (item ∷ []) index (subst (λ (M : Name). index < length ((program_so_far calls).items M)) same below)
          ∙ ap (λ (M : Name). item_at calls M index) (sym same) ∙ here
      by (inr other) = ap (λ (items : List Item). slice_get items index) (adds.items_elsewhere N other) ∙ here

  counts : (c : ℕ) (N : Name) → block_name calls' c ≡ Some N → T'.count c ≡ length ((program_so_far calls').items N)
  counts c N named = by (ℕ_discrete c b)
    where
      old : block_name calls c ≡ Some N
      old = name_was c N named

      here : c ≡ b → T'.count c ≡ length ((program_so_far calls').items N)
      here same =
          let is_b : N ≡ B = one_answer N B (block_name calls c) old (ap (block_name calls) same ∙ adds.named) in
          ap T'.count same ∙ adds.count_here ∙ ap suc count_is
          ∙ sym (longer_length ((program_so_far calls).items B))
          ∙ ap length (sym adds.items_here)
          ∙ ap (λ (M : Name). length ((program_so_far calls').items M)) (sym is_b)
        where
          longer_length : (items : List Item) → length (items ++ item ∷ []) ≡ suc (length items)
          longer_length [] = refl
          longer_length (x ∷ items) = ap suc (longer_length items)

      by : Dec (c ≡ b) → T'.count c ≡ length ((program_so_far calls').items N)
      by (yes same) = here same
      by (no other) =
          adds.count_elsewhere c other ∙ was.counts c N old
          ∙ ap length (sym (adds.items_elsewhere N (λ same. other (was.distinct c b B (old ∙ ap (λ (M : Name). Some M) same) adds.named))))

  no_count : (c : ℕ) → block_name calls' c ≡ None → T'.count c ≡ 0
  no_count c none =
      let old : block_name calls c ≡ None = sym (adds.names c) ∙ none in
      adds.count_elsewhere c (λ same. let some : block_name calls c ≡ Some B = ap (block_name calls) same ∙ adds.named in cc) ∙ was.no_count c old

  assigned : (c index : ℕ) (N : Name) → block_name calls' c ≡ Some N → (x : ℕ) → T'.assigned (inside c (suc index)) x ≡ assigned_by (item_at calls' N index) x
  assigned c index N named x = by (ℕ_discrete c b) (ℕ_discrete index (T.count b))
    where
      old : block_name calls c ≡ Some N
      old = name_was c N named

      is_b : c ≡ b → N ≡ B
      is_b same = one_answer N B (block_name calls c) old (ap (block_name calls) same ∙ adds.named)

      new_item : N ≡ B → index ≡ T.count b → item_at calls' N index ≡ Some item
      new_item same at_end =
          ap (λ (M : Name). item_at calls' M index) same
          ∙ ap (λ (items : List Item). slice_get items index) adds.items_here
          ∙ ap (slice_get ((program_so_far calls).items B ++ item ∷ [])) (at_end ∙ count_is)
          ∙ slice_get-last ((program_so_far calls).items B) item

      kept : N ≡ B → index ≢ T.count b → item_at calls' N index ≡ item_at calls N index
      kept same other =
          ap (λ (M : Name). item_at calls' M index) same
          ∙ ap (λ (items : List Item). slice_get items index) adds.items_here
          ∙ slice_get-other ((program_so_far calls).items B) item index (λ at_end. other (at_end ∙ sym count_is))
          ∙ ap (λ (M : Name). item_at calls M index) (sym same)

      by : Dec (c ≡ b) → Dec (index ≡ T.count b) → T'.assigned (inside c (suc index)) x ≡ assigned_by (item_at calls' N index) x
      by (yes same) (yes at_end) =
          ap (λ (place : Place). T'.assigned place x) (ap (λ (d : ℕ). inside d (suc index)) same ∙ ap (λ (k : ℕ). inside b (suc k)) at_end)
          ∙ adds.assigned_here x ∙ ap (λ (i : Option Item). assigned_by i x) (sym (new_item (is_b same) at_end))
      by (yes same) (no other) =
          adds.assigned_elsewhere (inside c (suc index)) x (λ e. let d = (steps_differ c b (suc index) (suc (T.count b)) e).1 in other (omega (arith, d)))
          ∙ was.assigned c index N old x ∙ ap (λ (i : Option Item). assigned_by i x) (sym (kept (is_b same) other))
      by (no other) d =
          adds.assigned_elsewhere (inside c (suc index)) x (λ e. other (steps_differ c b (suc index) (suc (T.count b)) e).0)
          ∙ was.assigned c index N old x
          ∙ ap (λ (items : List Item). assigned_by (slice_get items index) x)
          (sym (adds.items_elsewhere N (λ same. other (was.distinct c b B (old ∙ ap (λ (M : Name). Some M) same) adds.named))))

  elsewhere_nothing : (c index x : ℕ) → block_name calls' c ≡ None → T'.assigned (inside c index) x ≡ None
  elsewhere_nothing c index x none =
      let old : block_name calls c ≡ None = sym (adds.names c) ∙ none in
      adds.assigned_elsewhere (inside c index) x
      (λ e. let same = (steps_differ c b index (suc (T.count b)) e).0 in let some : block_name calls c ≡ Some B = ap (block_name calls) same ∙ adds.named in cc)
      ∙ was.elsewhere_nothing c index x old

  given : (c index : ℕ) (N : Name) (i : Item) → block_name calls' c ≡ Some N → item_at calls' N index ≡ Some i → (x : Name) → Contains (item_gives (Some i)) x
      → (T'.naming (code x) ≡ record { home = inside c (suc index); origin = origin_of i }) × (T'.answer (code x) ≡ answered calls' x)
  given c index N i named here x gives = by (item_cases c index N i old here)
    where
      old : block_name calls c ≡ Some N
      old = name_was c N named

      of_old : (T.naming (code x) ≡ record { home = inside c (suc index); origin = origin_of i }) → (T.answer (code x) ≡ answered calls x)
          → ((y : Name) × Contains (item_gives (Some item)) y × (code y ≡ code x)) ⊎ ((T'.naming (code x) ≡ T.naming (code x)) × (T'.answer (code x) ≡ T.answer (code x)))
          → (T'.naming (code x) ≡ record { home = inside c (suc index); origin = origin_of i }) × (T'.answer (code x) ≡ answered calls' x)
      of_old naming answer (inl new) =
          let earlier : x.place < length calls = given_earlier x (λ at_start. inside≢start c (suc index) (sym (ap (λ (n : Naming). n.home) naming) ∙ at_start)) in
          let same : new.0 ≡ x = codes_differ new.0 x new.2 in
          let late : new.0.place ≡ length calls = (adds.gives_new new.0 new.1).0 in
          absurd (omega (arith, earlier, late, ap (λ (y : Name). y.place) same))
      of_old naming answer (inr kept) =
          let earlier : x.place < length calls = given_earlier x (λ at_start. inside≢start c (suc index) (sym (ap (λ (n : Naming). n.home) naming) ∙ at_start)) in
          (kept.0 ∙ naming, kept.1 ∙ answer ∙ sym (adds.answers_stay x earlier))

      by : (item_at calls N index ≡ Some i) ⊎ ((N ≡ B) × (c ≡ b) × (index ≡ T.count b) × (item ≡ i))
          → (T'.naming (code x) ≡ record { home = inside c (suc index); origin = origin_of i }) × (T'.answer (code x) ≡ answered calls' x)
      by (inl there) = let g = was.given c index N i old there x gives in of_old g.0 g.1 (adds.gives_decided (code x))
      by (inr new) =
          let g = adds.gives_new x (subst (λ (j : Item). Contains (item_gives (Some j)) x) (sym new.3) gives) in
          let home : inside b (suc (T.count b)) ≡ inside c (suc index) = ap (λ (d : ℕ). inside d (suc (T.count b))) (sym new.1) ∙ ap (λ (k : ℕ). inside c (suc k)) (sym new.2) in
          (g.1 ∙ ap (λ (place : Place). record { home = place; origin = origin_of item }) home ∙ ap (λ (j : Item). record { home = inside c (suc index); origin = origin_of j }) new.3, g.2)

  -- the caller's parameters are given as before
  parameter : (c : ℕ) (N : Name) → block_name calls' c ≡ Some N → (x : Name) → Contains ((program_so_far calls').parameters N) x
      → (T'.naming (code x) ≡ record { home = front c; origin = fresh }) × (T'.answer (code x) ≡ answered calls' x)
  parameter c N named x stands = by (adds.gives_decided (code x))
    where
      old : (T.naming (code x) ≡ record { home = front c; origin = fresh }) × (T.answer (code x) ≡ answered calls x)
      old = was.parameter c N (name_was c N named) x (subst (λ (xs : List Name). Contains xs x) (adds.parameters N) stands)

      earlier : x.place < length calls
      earlier = given_earlier x (λ at_start. inside≢start c 0 (sym (ap (λ (n : Naming). n.home) old.0) ∙ at_start))

      by : ((y : Name) × Contains (item_gives (Some item)) y × (code y ≡ code x)) ⊎ ((T'.naming (code x) ≡ T.naming (code x)) × (T'.answer (code x) ≡ T.answer (code x)))
          → (T'.naming (code x) ≡ record { home = front c; origin = fresh }) × (T'.answer (code x) ≡ answered calls' x)
      by (inl new) =
          let same : new.0 ≡ x = codes_differ new.0 x new.2 in
          let late : new.0.place ≡ length calls = (adds.gives_new new.0 new.1).0 in
          absurd (omega (arith, earlier, late, ap (λ (y : Name). y.place) same))
      by (inr kept) = (kept.0 ∙ old.0, kept.1 ∙ old.1 ∙ sym (adds.answers_stay x earlier))

  given_only : (n : ℕ) → (T'.naming n).home ≢ start → IsGiven calls' T' n ⊎ IsParameter calls' T' n
  given_only n home = by (adds.gives_decided n)
    where
      of_parameter : T'.naming n ≡ T.naming n → IsParameter calls T n → IsParameter calls' T' n
      of_parameter same p = record {
        name = p.name;
        block = p.block;
        block_is = p.block_is;
        coded = p.coded;
        earlier = let e = p.earlier in omega (arith, e, adds.longer);
        named = adds.names p.block ∙ p.named;
        stands = subst (λ (xs : List Name). Contains xs p.name) (sym (adds.parameters p.block_is)) p.stands;
        naming = same ∙ p.naming;
      }

      of_old : T'.naming n ≡ T.naming n → IsGiven calls T n → IsGiven calls' T' n
      of_old same g = record {
        name = g.name;
        block = g.block;
        block_is = g.block_is;
        index = g.index;
        item = g.item;
        coded = g.coded;
        earlier = let e = g.earlier in omega (arith, e, adds.longer);
        named = adds.names g.block ∙ g.named;
        stands = item_kept g.index g.block_is g.item g.stands;
        gives = g.gives;
        naming = same ∙ g.naming;
      }

      of_new : (x : Name) → Contains (item_gives (Some item)) x → code x ≡ n → IsGiven calls' T' n
      of_new x gives coded =
          let g = adds.gives_new x gives in
          record {
            name = x;
            block = b;
            block_is = B;
            index = T.count b;
            item = item;
            coded = coded;
            earlier = let e = g.0 in omega (arith, e, adds.longer);
            named = adds.names b ∙ adds.named;
            stands = ap (λ (items : List Item). slice_get items (T.count b)) adds.items_here ∙ ap (slice_get ((program_so_far calls).items B ++ item ∷ [])) count_is ∙ slice_get-last ((program_so_far calls).items B) item;
            gives = gives;
            naming = ap T'.naming (sym coded) ∙ g.1;
          }

      by : ((x : Name) × Contains (item_gives (Some item)) x × (code x ≡ n)) ⊎ ((T'.naming n ≡ T.naming n) × (T'.answer n ≡ T.answer n)) → IsGiven calls' T' n ⊎ IsParameter calls' T' n
      by (inl new) = inl (of_new new.0 new.1 new.2)
      by (inr kept) = either (was.given_only n (λ at_start. home (ap (λ (m : Naming). m.home) kept.0 ∙ at_start)))
        where
          either : IsGiven calls T n ⊎ IsParameter calls T n → IsGiven calls' T' n ⊎ IsParameter calls' T' n
          either (inl g) = inl (of_old kept.0 g)
          either (inr p) = inr (of_parameter kept.0 p)

  -- the place of the new item, or another
  place_cases : (place : Place) → (place ≡ inside b (suc (T.count b))) ⊎ (place ≢ inside b (suc (T.count b)))
  place_cases place = by (dec_place place (inside b (suc (T.count b))))
    where
      by : Dec (place ≡ inside b (suc (T.count b))) → (place ≡ inside b (suc (T.count b))) ⊎ (place ≢ inside b (suc (T.count b)))
      by (yes e) = inl e
      by (no e) = inr e

  assigned_earlier : (place : Place) (x n : ℕ) → T'.assigned place x ≡ Some n → (name : Name) × (code name ≡ n) × (name.place < length calls')
  assigned_earlier place x n here = by (place_cases place)
    where
      longer : ((name : Name) × (code name ≡ n) × (name.place < length calls)) → (name : Name) × (code name ≡ n) × (name.place < length calls')
      longer h = (h.0, h.1, let e = h.2 in omega (arith, e, adds.longer))

      by : (place ≡ inside b (suc (T.count b))) ⊎ (place ≢ inside b (suc (T.count b))) → (name : Name) × (code name ≡ n) × (name.place < length calls')
      by (inl same) = longer (adds.assigns_earlier x n (sym (adds.assigned_here x) ∙ ap (λ (p : Place). T'.assigned p x) (sym same) ∙ here))
      by (inr other) = longer (was.assigned_earlier place x n (sym (adds.assigned_elsewhere place x other) ∙ here))

  only_blocks : (N : Name) → ((program_so_far calls').items N ≡ []) ⊎ ((c : ℕ) × (block_name calls' c ≡ Some N))
  only_blocks N = by (adds.same_or_other N)
    where
      of_old : N ≢ B → ((program_so_far calls).items N ≡ []) ⊎ ((c : ℕ) × (block_name calls c ≡ Some N)) → ((program_so_far calls').items N ≡ []) ⊎ ((c : ℕ) × (block_name calls' c ≡ Some N))
      of_old other (inl none) = inl (adds.items_elsewhere N other ∙ none)
      of_old other (inr block) = inr (block.0, adds.names block.0 ∙ block.1)

      by : (N ≡ B) ⊎ (N ≢ B) → ((program_so_far calls').items N ≡ []) ⊎ ((c : ℕ) × (block_name calls' c ≡ Some N))
      by (inl same) = inr (b, adds.names b ∙ adds.named ∙ ap (λ (M : Name). Some M) (sym same))
      by (inr other) = of_old other (was.only_blocks N)

  only_parameters : (N : Name) → ((program_so_far calls').parameters N ≡ []) ⊎ ((c : ℕ) × (block_name calls' c ≡ Some N))
  only_parameters N = by (was.only_parameters N)
    where
      by : ((program_so_far calls).parameters N ≡ []) ⊎ ((c : ℕ) × (block_name calls c ≡ Some N)) → ((program_so_far calls').parameters N ≡ []) ⊎ ((c : ℕ) × (block_name calls' c ≡ Some N))
      by (inl none) = inl (adds.parameters N ∙ none)
      by (inr block) = inr (block.0, adds.names block.0 ∙ block.1)

  pub extended : IsProgramOf calls' T'
  extended = record {
    counts = counts;
    no_count = no_count;
    assigned = assigned;
    front_assigns_nothing = λ c x. adds.assigned_elsewhere (front c) x (λ e. absurd (omega (arith, (steps_differ c b 0 (suc (T.count b)) e).1))) ∙ was.front_assigns_nothing c x;
    start_assigns_nothing = λ x. adds.assigned_elsewhere start x (λ e. inside≢start b (suc (T.count b)) (sym e)) ∙ was.start_assigns_nothing x;
    elsewhere_nothing = elsewhere_nothing;
    given = given;
    parameter = parameter;
    given_only = given_only;
    assigned_earlier = assigned_earlier;
    distinct = λ c d N first second. was.distinct c d N (name_was c N first) (name_was d N second);
    blocks_earlier = λ c N named. let e = was.blocks_earlier c N (name_was c N named) in omega (arith, e, adds.longer);
    only_blocks = only_blocks;
    only_parameters = only_parameters;
  }
