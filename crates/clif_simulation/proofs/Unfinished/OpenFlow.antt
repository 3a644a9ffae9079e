-- Each path along the edges of an unfinished function is one of the code so far: what is given before a place is given on
-- each path that comes to it. So the theory holds of these edges.
use Rattle.std.proofs.Common.{◌≡◌, ◌≢◌, ℕ, zero, suc, ◌<◌, ◌==◌, ◌&&◌, ◌||◌, nat_lt, if◌then◌else◌, Bool, true, false, List, [], ◌∷◌, length, slice_get, Option, Some, None, Contains, ◌⊎◌, inl, inr, refl, sym, ◌∙◌, ap, subst, arith}
use Rattle.std.proofs.lemmas.Bool.Decides.{nat_tests}
use Rattle.clif_ir.specs.Body.{Body}
use Rattle.clif_ir.specs.Consistent.{IsConsistent}
use Rattle.clif_paths.specs.Places as paths
use Rattle.clif_paths.specs.Places.{start, inside, same_place, Arm, Edges, Path, Follows, Visits, VisitsBefore, end_of, StrictlyBefore}
use Rattle.clif_paths.specs.Denotation as paths_denotation
use Rattle.clif_paths.specs.Blocks.{Blocks, state_of}
use Rattle.clif_paths.specs.Sound.{Allowed, Holds, SoundUnder}
use Rattle.clif_paths.proofs.PathLemmas.{same_place-true}
use Rattle.clif_paths.proofs.Concluding.{answer_holds}
use Rattle.clif_ssa.specs.LookUp.{branch_block}
use Rattle.clif_ssa.specs.Ssa.{SsaState}
use Rattle.clif_ssa.specs.Sound.{IsEdgeInto, entry_of}
use Rattle.std.specs.List.{list_any}
use Rattle.std.proofs.lemmas.Bool.{eqb-true}
use Rattle.std.specs.Prelude.{slice_index_or}
use Rattle.std.proofs.lemmas.Option.{slice_get_past}
use Rattle.clif_meaning.specs.Name.{Name, same_name}
use Rattle.clif_meaning.specs.Request.{AnsweredCall}
use Rattle.clif_meaning.specs.Program.{Program, Item, Instruct, Use, Assign}
use Rattle.clif_meaning.specs.Path.{Place, IsPath}
use Rattle.clif_meaning.specs.WellPlaced.{Code, item_gives, item_names, item_passes, IsWellPlaced, IsGivenAlong, IsGivenBefore, given_on_entry}
use Rattle.clif_simulation.specs.Tables.{code, program_so_far, block_name, item_at, assigned_by}
use Rattle.clif_simulation.specs.Reading.{behind}
use Rattle.clif_simulation.specs.Coming.{Coming, code_coming, targets_with}
use Rattle.clif_simulation.proofs.Unfinished.ComingCode.{leads_with, entering_here, along_program}
use Rattle.clif_simulation.proofs.Whole.{Whole}
use Rattle.clif_simulation.proofs.Finished.Flow
use Rattle.clif_simulation.proofs.Finished.Giving.{In}
use Rattle.clif_simulation.proofs.NameLists.{same_name-equal, same_name_cases}
use Rattle.clif_simulation.proofs.Unfinished.OpenArms
use Rattle.clif_simulation.proofs.Unfinished.OpenArms.{More, open_arms, open_into}
use Rattle.clif_simulation.proofs.Finished.Straight.{both_left, both_right}

none_some : {X : Type 0} (x : X) → None ≡ Some x → ⊥
none_some x e = cc

some_is : {X : Type 0} (x y : X) → Some x ≡ Some y → x ≡ y
some_is x y e = cc

-- The arms of edges that may still come: from the end so far of a block.
abbrev pub comes_to : Coming → Name → Option Name → Bool
comes_to coming target None = false
comes_to coming target (Some from) = list_any (same_name target) (coming from)

abbrev pub comes_from : List AnsweredCall → Blocks → Coming → Name → paths.Place → Bool
comes_from calls tables coming target start = false
comes_from calls tables coming target (inside c k) = (k == tables.count c) && comes_to coming target (block_name calls c)

abbrev pub comes_into : List AnsweredCall → Blocks → Coming → paths.Place → Option Name → Bool
comes_into calls tables coming source None = false
comes_into calls tables coming source (Some target) = comes_from calls tables coming target source

abbrev pub more_coming : List AnsweredCall → Blocks → Coming → More
more_coming calls tables coming b arm = comes_into calls tables coming arm.source (block_name calls b)

-- what the test finds stands in the list, and the other way round
pub listed_name : (x : Name) (xs : List Name) → list_any (same_name x) xs ≡ true → Contains xs x
listed_name x [] is = cc
listed_name x (y ∷ ys) is = by (same_name_cases x y) (λ there. listed_name x ys there)
  where
    by : (x ≡ y) ⊎ ((x ≢ y) × (same_name x y ≡ false)) → (list_any (same_name x) ys ≡ true → Contains ys x) → Contains (y ∷ ys) x
    by (inl same) later = (0, omega arith, sym same)
    by (inr other) later =
        let there : Contains ys x = later (sym (ap (λ (test : Bool). test || list_any (same_name x) ys) other.1) ∙ is) in
        (suc there.0, omega (arith, there.1), there.2)

second_of : (a b : Bool) → b ≡ true → (a || b) ≡ true
second_of true b is = refl
second_of false b is = is

pub name_listed : (x : Name) (xs : List Name) → Contains xs x → list_any (same_name x) xs ≡ true
name_listed x [] there = absurd (omega (arith, there.1))
name_listed x (y ∷ ys) there = by (λ later. name_listed x ys later) there.0 there.1 there.2
  where
    by : (Contains ys x → list_any (same_name x) ys ≡ true) → (k : ℕ) → k < length (y ∷ ys) → slice_index_or (y ∷ ys) k x ≡ x → list_any (same_name x) (y ∷ ys) ≡ true
    by later zero below here = let same : same_name x y ≡ true = same_name-equal x y (sym here) in rw same refl
    by later (suc k) below here = second_of (same_name x y) (list_any (same_name x) ys) (later (k, omega (arith, below), here))

module _ (coming : Coming) (calls : List AnsweredCall) (f : Body) (s : SsaState) (consistent : IsConsistent f) (carries : Whole calls f s) where
  abbrev program : Program
  program = program_so_far calls

  abbrev pub edges : Edges
  edges = open_arms (more_coming calls carries.tables coming) f s carries.tables

  abbrev so_far : Code Name Name
  so_far = code_coming coming calls

  abbrev WasVisited : Path → Place Name → Type 0
  WasVisited = Flow.WasVisited calls f s consistent carries

  abbrev pub IsGivenOn : Path → Name → Type 0
  IsGivenOn = Flow.IsGivenOn calls f s consistent carries

  -- The code's path beside one along the edges that stands behind so many items of a block: the places of the items before.
  pub record Walk (path : Path) (b k : ℕ) : Type 0 where
    pub name : Name
    pub named : block_name calls b ≡ Some name
    pub walk : List (Place Name)
    -- it comes to the next item, or to the block's end so far; and the last one of the block was come to
    pub comes : IsPath so_far.flow (behind name k ∷ walk)
    pub last : (j : ℕ) → k ≡ suc j → (rest : List (Place Name)) × (walk ≡ behind name j ∷ rest) × IsPath so_far.flow walk
    pub visited : (p : Place Name) → In p walk → WasVisited path p

  -- From one item to the next ---------------------------------------------------------------------------------------------

  next : (arm : Arm) (path : Path) (b k : ℕ) → arm.target ≡ inside b (suc k) → end_of path ≡ inside b k → k < carries.tables.count b → Walk path b k → Walk (arm ∷ path) b (suc k)
  next arm path b k target ends below before = record {
    name = before.name;
    named = before.named;
    walk = behind before.name k ∷ before.walk;
    comes = (inl (refl, omega arith, omega (arith, inside_block)), before.comes);
    last = λ j is.
        let same : k ≡ j = omega (arith, is) in
        (before.walk, ap (λ (i : ℕ). behind before.name i ∷ before.walk) same, before.comes);
    visited = visited;
  }
    where
      inside_block : k < length (program.items before.name)
      inside_block = let count = carries.program.counts b before.name before.named in omega (arith, below, count)

      visited : (p : Place Name) → In p (behind before.name k ∷ before.walk) → WasVisited (arm ∷ path) p
      visited p (inl is) = record {
        block = b;
        named = before.named ∙ ap (λ (q : Place Name). Some q.block) (sym is);
        visits = λ item stands. inl (ap (λ (q : Place Name). inside b (suc q.index)) is ∙ sym target);
        front = λ first. inr (Flow.ends_visits path b 0 (ends ∙ ap (inside b) (sym (ap (λ (q : Place Name). q.index) is) ∙ first)));
      }
      visited p (inr there) = Flow.visited_later calls f s consistent carries arm path p (before.visited p there)

  -- To the front of the entry, and along an edge --------------------------------------------------------------------------

  enters : (path : Path) (b : ℕ) → entry_of f ≡ Some b → Walk path b 0
  enters path b is =
      let entry = Flow.entry_named calls f s consistent carries b is program.entry refl in
      record {
        name = entry.0;
        named = entry.2;
        walk = [];
        comes = (entry.1, (refl, omega arith));
        last = λ j none. absurd (omega (arith, none));
        visited = λ p there. absurd there;
      }

  arrives : (arm : Arm) (path : Path) (b : ℕ) (edge : IsEdgeInto f s carries.tables b arm)
      → Walk path (branch_block f edge.branch) (carries.tables.count (branch_block f edge.branch)) → Walk (arm ∷ path) b 0
  arrives arm path b edge before =
      let ends = Flow.branch_ends calls f s consistent carries b arm edge before.name before.named in
      let count : carries.tables.count (branch_block f edge.branch) ≡ suc ends.j =
      carries.program.counts (branch_block f edge.branch) before.name before.named ∙ sym ends.is_last in
      let last = before.last ends.j count in
      record {
        name = ends.target;
        named = ends.named;
        walk = before.walk;
        comes = subst (λ (walk : List (Place Name)). IsPath so_far.flow (behind ends.target 0 ∷ walk)) (sym last.1)
            (inr (leads_with (coming before.name) (item_at calls before.name ends.j) ends.target ends.leads, (refl, omega arith)), subst (IsPath so_far.flow) last.1 last.2);
        last = λ j none. absurd (omega (arith, none));
        visited = λ p there. Flow.visited_later calls f s consistent carries arm path p (before.visited p there);
      }

  -- Along an edge that may still come -------------------------------------------------------------------------------------

  -- the block that an arm comes from, at its end so far
  pub record ComesFrom (arm : Arm) (b : ℕ) : Type 0 where
    pub block : ℕ
    pub from : Name
    pub target : Name
    pub source : arm.source ≡ inside block (carries.tables.count block)
    pub from_named : block_name calls block ≡ Some from
    pub named : block_name calls b ≡ Some target
    pub listed : Contains (coming from) target

  listed_from : (target : Name) (place : paths.Place) → comes_from calls carries.tables coming target place ≡ true
      → (c : ℕ) × (from : Name) × (place ≡ inside c (carries.tables.count c)) × (block_name calls c ≡ Some from) × Contains (coming from) target
  listed_from target start is = cc
  listed_from target (inside c k) is = by (block_name calls c) refl (both_right (k == carries.tables.count c) (comes_to coming target (block_name calls c)) is)
    where
      at_end : k ≡ carries.tables.count c
      at_end = eqb-true k (carries.tables.count c) (both_left (k == carries.tables.count c) (comes_to coming target (block_name calls c)) is)

      by : (o : Option Name) → block_name calls c ≡ o → comes_to coming target o ≡ true
          → (d : ℕ) × (from : Name) × (inside c k ≡ inside d (carries.tables.count d)) × (block_name calls d ≡ Some from) × Contains (coming from) target
      by None named none = cc
      by (Some from) named listed = (c, from, ap (inside c) at_end, named, listed_name target (coming from) listed)

  comes_along : (arm : Arm) (b : ℕ) → more_coming calls carries.tables coming b arm ≡ true → ComesFrom arm b
  comes_along arm b is = by (block_name calls b) refl is
    where
      by : (o : Option Name) → block_name calls b ≡ o → comes_into calls carries.tables coming arm.source o ≡ true → ComesFrom arm b
      by None named none = cc
      by (Some target) named one =
          let found = listed_from target arm.source one in
          record { block = found.0; from = found.1; target = target; source = found.2; from_named = found.3; named = named; listed = found.4 }

  arrives_coming : (arm : Arm) (path : Path) (b : ℕ) (c : ComesFrom arm b) → end_of path ≡ inside c.block (carries.tables.count c.block)
      → Walk path c.block (carries.tables.count c.block) → Walk (arm ∷ path) b 0
  arrives_coming arm path b c ends before = record {
    name = c.target;
    named = c.named;
    walk = end_place ∷ before.walk;
    comes = (inr (subst (λ (o : Option Item). Contains (targets_with (coming before.name) o) c.target) (sym nothing_there) listed, (refl, omega arith)), before.comes);
    last = λ j none. absurd (omega (arith, none));
    visited = visited;
  }
    where
      end_place : Place Name
      end_place = behind before.name (carries.tables.count c.block)

      same : before.name ≡ c.from
      same = some_is before.name c.from (sym before.named ∙ c.from_named)

      listed : Contains (coming before.name) c.target
      listed = subst (λ (name : Name). Contains (coming name) c.target) (sym same) c.listed

      nothing_there : item_at calls before.name (carries.tables.count c.block) ≡ None
      nothing_there =
          let count = carries.program.counts c.block before.name before.named in
          slice_get_past (program.items before.name) (carries.tables.count c.block) (omega (arith, count))

      visited : (p : Place Name) → In p (end_place ∷ before.walk) → WasVisited (arm ∷ path) p
      visited p (inl is) = record {
        block = c.block;
        named = before.named ∙ ap (λ (q : Place Name). Some q.block) (sym is);
        visits = λ item stands. absurd (none_some item (sym nothing_there ∙ ap (λ (q : Place Name). item_at calls q.block q.index) (sym is) ∙ stands));
        front = λ first. inr (Flow.ends_visits path c.block 0 (ends ∙ ap (inside c.block) (sym (ap (λ (q : Place Name). q.index) is) ∙ first)));
      }
      visited p (inr there) = Flow.visited_later calls f s consistent carries arm path p (before.visited p there)

  -- Each path -------------------------------------------------------------------------------------------------------------

  -- an arm to an item comes from the place before it
  pub record ToItem (arm : Arm) (b k : ℕ) : Type 0 where
    pub below : k < carries.tables.count b
    pub source : arm.source ≡ inside b k

  pub to_item : (arm : Arm) (b k : ℕ) → edges arm ≡ true → arm.target ≡ inside b (suc k) → ToItem arm b k
  to_item arm b k is ends =
      let known : (nat_lt k (carries.tables.count b) && (same_place arm.source (inside b k) && (arm.edge == 0))) ≡ true =
      subst (λ (p : paths.Place). open_into (more_coming calls carries.tables coming) f s carries.tables arm p ≡ true) ends is in
      let test : nat_lt k (carries.tables.count b) ≡ true = both_left (nat_lt k (carries.tables.count b)) (same_place arm.source (inside b k) && (arm.edge == 0)) known in
      record {
        below = grind (arith, nat_tests);
        source = same_place-true arm.source (inside b k) (both_left (same_place arm.source (inside b k)) (arm.edge == 0)
            (both_right (nat_lt k (carries.tables.count b)) (same_place arm.source (inside b k) && (arm.edge == 0)) known));
      }

  pub walk_of : (path : Path) (b k : ℕ) → Follows edges path → end_of path ≡ inside b k → Walk path b k
  walk_of [] b k follows ends = cc
  walk_of (arm ∷ path) b zero follows ends =
      by (OpenArms.comes_from (more_coming calls carries.tables coming) carries.own f s carries.tables carries.describes b arm ends follows.0) (λ c k at. walk_of path c k follows.2 at)
    where
      by : ((arm.source ≡ start) × (entry_of f ≡ Some b)) ⊎ (IsEdgeInto f s carries.tables b arm ⊎ (more_coming calls carries.tables coming b arm ≡ true))
          → ((c k : ℕ) → end_of path ≡ inside c k → Walk path c k) → Walk (arm ∷ path) b 0
      by (inl from_start) earlier = enters (arm ∷ path) b from_start.1
      by (inr (inl edge)) earlier =
          arrives arm path b edge
          (earlier (branch_block f edge.branch) (carries.tables.count (branch_block f edge.branch)) (sym follows.1 ∙ edge.from))
      by (inr (inr one_more)) earlier =
          let c = comes_along arm b one_more in
          let ends_there : end_of path ≡ inside c.block (carries.tables.count c.block) = sym follows.1 ∙ c.source in
          arrives_coming arm path b c ends_there (earlier c.block (carries.tables.count c.block) ends_there)
  walk_of (arm ∷ path) b (suc k) follows ends =
      let item : ToItem arm b k = to_item arm b k follows.0 ends in
      next arm path b k ends (sym follows.1 ∙ item.source) item.below (walk_of path b k follows.2 (sym follows.1 ∙ item.source))

  -- What is given before ----------------------------------------------------------------------------------------------------

  module _ (path : Path) (b k : ℕ) (B : Name) (follows : Follows edges path) (ends : end_of path ≡ inside b k) (named : block_name calls b ≡ Some B) (x : Name) where
    abbrev w : Walk path b k
    w = walk_of path b k follows ends

    same : w.name ≡ B
    same = some_is w.name B (sym w.named ∙ named)

    on_walk : Contains (given_on_entry so_far B k) x ⊎ IsGivenAlong so_far x w.walk → IsGivenOn path x
    on_walk (inl entering) =
        Flow.given_entering calls f s consistent carries path b B k x named (λ first. Flow.ends_visits path b 0 (ends ∙ ap (inside b) first))
        (subst (λ (things : List Name). Contains things x) (entering_here coming calls B k) entering)
    on_walk (inr along) = Flow.given_along_walk calls f s consistent carries path x w.walk w.visited (along_program coming calls x w.walk along)

    -- what is given before a place of the code so far is given on each path to it, whichever edges come
    pub given_before : IsGivenBefore so_far x (behind B k) → IsGivenOn path x
    given_before before = on_walk (before w.walk (subst (λ (name : Name). IsPath so_far.flow (behind name k ∷ w.walk)) same w.comes))

  -- what the item at this place names is given on each path to it
  pub named_before : IsWellPlaced so_far → (path : Path) (b k : ℕ) (B : Name) → Follows edges path → end_of path ≡ inside b k
      → block_name calls b ≡ Some B → (item : Item) → slice_get (program.items B) k ≡ Some item → (x : Name) → Contains (item_names (Some item)) x → IsGivenOn path x
  named_before placed path b k B follows ends named item stands x names =
      given_before path b k B follows ends named x
      (placed.named (behind B k) x (subst (λ (o : Option Item). Contains (item_names o) x) (sym stands) names))

  -- what the edges of the item at this place pass is given on each path through it
  pub passed_before : IsWellPlaced so_far → (path : Path) (b k : ℕ) (B : Name) → Follows edges path → end_of path ≡ inside b (suc k)
      → block_name calls b ≡ Some B → (item : Item) → slice_get (program.items B) k ≡ Some item → (x : Name) → Contains (item_passes (Some item)) x → IsGivenOn path x
  passed_before placed [] b k B follows ends named item stands x passes = cc
  passed_before placed (arm ∷ path) b k B follows ends named item stands x passes =
      by (placed.passed (behind B k) x (subst (λ (o : Option Item). Contains (item_passes o) x) (sym stands) passes))
    where
      ends_before : end_of path ≡ inside b k
      ends_before = sym follows.1 ∙ (to_item arm b k follows.0 ends).source

      was : WasVisited (arm ∷ path) (behind B k)
      was = record {
        block = b;
        named = named;
        visits = λ item' stands'. inl (sym ends);
        front = λ first. inr (Flow.ends_visits path b 0 (ends_before ∙ ap (inside b) first));
      }

      by : Contains (item_gives (item_at calls B k)) x ⊎ IsGivenBefore so_far x (behind B k) → IsGivenOn (arm ∷ path) x
      by (inl gives) = Flow.given_at_place calls f s consistent carries (arm ∷ path) (behind B k) x was (item_at calls B k) refl gives
      by (inr before) =
          Flow.given_longer calls f s consistent carries arm path x
          (given_before path b k B follows.2 ends_before named x before)

  -- The edges are allowed ---------------------------------------------------------------------------------------------------

  module _ (placed : IsWellPlaced so_far) where
    by_item : (b k x n : ℕ) (B : Name) → block_name calls b ≡ Some B → (o : Option Item) → item_at calls B k ≡ o → assigned_by o x ≡ Some n
        → (path : Path) → Follows edges path → end_of path ≡ inside b (suc k) → VisitsBefore (carries.tables.naming n).home path
    by_item b k x n B named None stands assigned path follows ends = cc
    by_item b k x n B named (Some (Instruct place instruction results)) stands assigned path follows ends = cc
    by_item b k x n B named (Some (Use variable name)) stands assigned path follows ends = cc
    by_item b k x n B named (Some (Assign variable name)) stands assigned [] follows ends = cc
    by_item b k x n B named (Some (Assign variable name)) stands assigned (arm ∷ path) follows ends = by (x == variable) assigned
      where
        by : (test : Bool) → (if test then Some (code name) else None) ≡ Some n → Visits (carries.tables.naming n).home path
        by false none = cc
        by true one =
            subst (λ (m : ℕ). Visits (carries.tables.naming m).home path) (some_is (code name) n one)
            (named_before placed path b k B follows.2 (sym follows.1 ∙ (to_item arm b k follows.0 ends).source) named (Assign variable name) stands name
            (0, omega arith, refl)).visits

    at_item : (b k x n : ℕ) (o : Option Name) → block_name calls b ≡ o → carries.tables.assigned (inside b (suc k)) x ≡ Some n
        → StrictlyBefore edges (carries.tables.naming n).home (inside b (suc k))
    at_item b k x n None name assigned = absurd (none_some n (sym (carries.program.elsewhere_nothing b (suc k) x name) ∙ assigned))
    at_item b k x n (Some B) name assigned =
        record { on_every_path = by_item b k x n B name (item_at calls B k) refl (sym (carries.program.assigned b k B name x) ∙ assigned) }

    at_place : (place : paths.Place) (x n : ℕ) → carries.tables.assigned place x ≡ Some n → StrictlyBefore edges (carries.tables.naming n).home place
    at_place start x n assigned = absurd (none_some n (sym (carries.program.start_assigns_nothing x) ∙ assigned))
    at_place (inside b zero) x n assigned = absurd (none_some n (sym (carries.program.front_assigns_nothing b x) ∙ assigned))
    at_place (inside b (suc k)) x n assigned = at_item b k x n (block_name calls b) refl assigned

    pub allowed : Allowed (state_of carries.tables).program edges
    allowed = record {
      known = λ arm sealed. OpenArms.known_open (more_coming calls carries.tables coming) carries.own f s carries.tables carries.describes arm sealed;
      rooted = λ arm at. ap (open_into (more_coming calls carries.tables coming) f s carries.tables arm) at;
      given_before = at_place;
    }

    pub under : SoundUnder edges (state_of carries.tables)
    under = carries.sound.sound.under edges allowed

    -- a name that is given on each path to a place is held there by its answer
    pub name_holds : (x : Name) (place : paths.Place) → (carries.tables.naming (code x)).home ≢ start
        → ((path : Path) → Follows edges path → end_of path ≡ place → IsGivenOn path x)
        → Holds edges (state_of carries.tables).program carries.tables.function (carries.tables.answer (code x)) (paths_denotation.name (code x)) place
    name_holds x place given on =
        answer_holds (state_of carries.tables) under (code x) given place (record { on_every_path = λ path follows ends. (on path follows ends).visits })
