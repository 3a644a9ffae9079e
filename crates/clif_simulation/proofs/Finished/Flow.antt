-- Each path along the known arms is one of the program: what an item names is given on each path that comes to it. So
-- the theory's conclusion holds of the tables of a finished function.
use Rattle.std.proofs.Common.{◌≡◌, ◌≢◌, ℕ, zero, suc, ◌<◌, ◌==◌, ◌&&◌, nat_lt, if◌then◌else◌, Bool, true, false, List, [], ◌∷◌, length, slice_get, Option, Some, None, Contains, ◌⊎◌, inl, inr, refl, sym, ◌∙◌, ap, subst, arith}
use Rattle.std.proofs.lemmas.Bool.Decides.{nat_tests}
use Rattle.clif_ir.specs.Body.{Body, resolved}
use Rattle.clif_ir.specs.Consistent.{IsConsistent}
use Rattle.clif_paths.specs.Places as paths
use Rattle.clif_paths.specs.Places.{start, inside, same_place, Arm, Path, Follows, Visits, VisitsBefore, end_of, StrictlyBefore}
use Rattle.clif_paths.specs.State.{Naming, pending}
use Rattle.clif_paths.specs.Blocks.{arm_into, state_of}
use Rattle.clif_paths.specs.Laws.{NothingPending, IsCorrect}
use Rattle.clif_paths.proofs.PathLemmas.{same_place-true}
use Rattle.clif_paths.proofs.Concluding.{correct}
use Rattle.clif_records.specs.declared.tables.Pending.{Pending}
use Rattle.clif_ssa.specs.LookUp.{branch_block}
use Rattle.clif_ssa.specs.Ssa.{SsaState, sealed_of}
use Rattle.clif_records.specs.Tables.{pending_of}
use Rattle.clif_ssa.specs.Sound.{IsEdgeInto, entry_of}
use Rattle.clif_meaning.specs.Name.{Name}
use Rattle.clif_meaning.specs.Request.{AnsweredCall}
use Rattle.clif_meaning.specs.Instruction.{Edge}
use Rattle.clif_meaning.specs.Program.{Program, Item, Instruct, Use, Assign}
use Rattle.clif_meaning.specs.Path.{Place, IsPath}
use Rattle.clif_meaning.specs.WellPlaced.{edge_targets, item_gives, item_names, item_passes, item_targets, program_code, program_flow, IsWellPlaced, IsGivenAlong, IsGivenBefore, given_on_entry}
use Rattle.clif_meaning.proofs.StraightLine.{nothing_contained, none_of}
use Rattle.clif_simulation.specs.Tables.{code, answered, program_so_far, block_name, item_at, assigned_by}
use Rattle.clif_simulation.proofs.Whole.{Whole}
use Rattle.clif_simulation.specs.Carries.{own_placed}
use Rattle.clif_simulation.specs.Laws.{IsFinished}
use Rattle.clif_simulation.proofs.Finished.Entry.{resolved_twice}
use Rattle.clif_simulation.proofs.Finished.Giving.{In}
use Rattle.clif_simulation.proofs.Finished.ItemsAt.{not_start}
use Rattle.clif_simulation.proofs.Listed.{place_within}
use Rattle.clif_simulation.proofs.Finished.OwnEdges
use Rattle.clif_simulation.proofs.Finished.OwnEdges.{last_item}
use Rattle.clif_simulation.proofs.Finished.Placing.{map_at, contained, OfItem}
use Rattle.clif_simulation.proofs.Finished.Straight.{arms, both_left, both_right, same_block}

none_some : {X : Type 0} (x : X) → None ≡ Some x → ⊥
none_some x e = cc

some_is : {X : Type 0} (x y : X) → Some x ≡ Some y → x ≡ y
some_is x y e = cc

-- a path comes to where it ends
pub ends_visits : (path : Path) (b k : ℕ) → end_of path ≡ inside b k → Visits (inside b k) path
ends_visits [] b k ends = cc
ends_visits (arm ∷ path) b k ends = inl (sym ends)

abbrev pub at_index : Name → ℕ → Place Name
at_index block index = record { block = block; index = index }

module _ (calls : List AnsweredCall) (f : Body) (s : SsaState) (consistent : IsConsistent f) (carries : Whole calls f s) where
  abbrev program : Program
  program = program_so_far calls

  -- a place of the program was come to on the path, with the item that stands there
  pub record WasVisited (path : Path) (p : Place Name) : Type 0 where
    pub block : ℕ
    pub named : block_name calls block ≡ Some p.block
    pub visits : (item : Item) → item_at calls p.block p.index ≡ Some item → Visits (inside block (suc p.index)) path
    -- and the front of its block, if it is the first one there
    pub front : p.index ≡ 0 → Visits (inside block 0) path

  -- The program's path beside one along the arms that stands behind so many items of a block: the places of the items
  -- before.
  pub record Walk (path : Path) (b k : ℕ) : Type 0 where
    pub name : Name
    pub named : block_name calls b ≡ Some name
    pub walk : List (Place Name)
    -- it comes to the next item, if there is one, and the last one of the block was come to
    pub comes : k < length (program.items name) → IsPath (program_flow program) (at_index name k ∷ walk)
    pub last : (j : ℕ) → k ≡ suc j → (rest : List (Place Name)) × (walk ≡ at_index name j ∷ rest) × IsPath (program_flow program) walk
    pub visited : (p : Place Name) → In p walk → WasVisited path p

  pub visited_later : (arm : Arm) (path : Path) (p : Place Name) → WasVisited path p → WasVisited (arm ∷ path) p
  visited_later arm path p was = record { block = was.block; named = was.named; visits = λ item stands. inr (was.visits item stands); front = λ first. inr (was.front first) }

  -- From one item to the next ---------------------------------------------------------------------------------------------

  next : (arm : Arm) (path : Path) (b k : ℕ) → arm.target ≡ inside b (suc k) → end_of path ≡ inside b k → k < carries.tables.count b → Walk path b k → Walk (arm ∷ path) b (suc k)
  next arm path b k target ends below before = record {
    name = before.name;
    named = before.named;
    walk = at_index before.name k ∷ before.walk;
    comes = λ within. (inl (refl, omega arith, within), here);
    last = λ j is. let same : k ≡ j = omega (arith, is) in (before.walk, ap (λ (i : ℕ). at_index before.name i ∷ before.walk) same, here);
    visited = visited;
  }
    where
      here : IsPath (program_flow program) (at_index before.name k ∷ before.walk)
      here = before.comes (let count = carries.program.counts b before.name before.named in omega (arith, below, count))

      visited : (p : Place Name) → In p (at_index before.name k ∷ before.walk) → WasVisited (arm ∷ path) p
      visited p (inl is) = record {
        block = b;
        named = before.named ∙ ap (λ (q : Place Name). Some q.block) (sym is);
        visits = λ item stands. inl (ap (λ (q : Place Name). inside b (suc q.index)) is ∙ sym target);
        front = λ first.
            inr (ends_visits path b 0 (ends ∙ ap (inside b) (sym (ap (λ (q : Place Name). q.index) is) ∙ first)));
      }
      visited p (inr there) = visited_later arm path p (before.visited p there)

  -- To the front of the entry ---------------------------------------------------------------------------------------------

  pub entry_named : (b : ℕ) → entry_of f ≡ Some b → (o : Option Name) → program.entry ≡ o → (name : Name) × (program.entry ≡ Some name) × (block_name calls b ≡ Some name)
  entry_named b is None none = absurd (none_some b (sym (carries.entry.none none) ∙ is))
  entry_named b is (Some name) entry =
      let found = carries.entry.some name entry in
      (name, entry, ap (block_name calls) (some_is b found.0 (sym is ∙ found.1)) ∙ found.2)

  enters : (path : Path) (b : ℕ) → entry_of f ≡ Some b → Walk path b 0
  enters path b is =
      let entry = entry_named b is program.entry refl in
      record {
        name = entry.0;
        named = entry.2;
        walk = [];
        comes = λ within. (entry.1, (refl, within));
        last = λ j none. absurd (omega (arith, none));
        visited = λ p there. absurd there;
      }

  -- Along an edge ---------------------------------------------------------------------------------------------------------

  -- The item with the edge to this block is the last one of its block.
  pub record EndsWith (C : Name) (b : ℕ) : Type 0 where
    pub j : ℕ
    pub is_last : suc j ≡ length (program.items C)
    pub target : Name
    pub leads : Contains (item_targets (item_at calls C j)) target
    pub named : block_name calls b ≡ Some target

  ends_with : (c : ℕ) (C : Name) → block_name calls c ≡ Some C → (t i k b : ℕ) → slice_get (carries.own.insts c) t ≡ Some i
      → (item : OfItem calls (program.items C) t (own_placed carries.own f i)) → (edge : Edge Name Name) → slice_get item.instruction.edges k ≡ Some edge → answered calls edge.target ≡ b → EndsWith C b
  ends_with c C named t i k b there item edge stands target = record {
    j = item.j;
    is_last = last_item (program.items C) item.j item.place item.instruction item.results k edge (carries.edges_end C) item.stands stands;
    target = edge.target;
    leads = subst (λ (o : Option Item). Contains (item_targets o) edge.target) (sym item.stands)
        (contained (edge_targets item.instruction) k edge.target (map_at (λ (e : Edge Name Name). e.target) item.instruction.edges k edge stands));
    named = ap (block_name calls) (sym target)
        ∙ OwnEdges.target_named calls f s consistent carries C item.j item.place item.instruction item.results item.stands k edge stands;
  }

  pub branch_ends : (b : ℕ) (arm : Arm) (edge : IsEdgeInto f s carries.tables b arm) (C : Name) → block_name calls (branch_block f edge.branch) ≡ Some C → EndsWith C b
  branch_ends b arm edge C named =
      let own = OwnEdges.is_own calls f s consistent carries b edge.branch arm.edge edge.leads edge.to in
      let item = OwnEdges.item_of calls f s consistent carries (branch_block f edge.branch) C named own.0 edge.branch own.1 in
      let of_program = OwnEdges.edge_in_program calls f s consistent carries edge.branch item.instruction item.results item.is arm.edge b edge.to in
      ends_with (branch_block f edge.branch) C named own.0 edge.branch arm.edge b own.1 item of_program.0 of_program.1 of_program.2

  arrives : (arm : Arm) (path : Path) (b : ℕ) (edge : IsEdgeInto f s carries.tables b arm)
      → Walk path (branch_block f edge.branch) (carries.tables.count (branch_block f edge.branch)) → Walk (arm ∷ path) b 0
  arrives arm path b edge before =
      let ends : EndsWith before.name b = branch_ends b arm edge before.name before.named in
      let count : carries.tables.count (branch_block f edge.branch) ≡ suc ends.j =
      carries.program.counts (branch_block f edge.branch) before.name before.named ∙ sym ends.is_last in
      let last = before.last ends.j count in
      record {
        name = ends.target;
        named = ends.named;
        walk = before.walk;
        comes = λ within. subst (λ (walk : List (Place Name)). IsPath (program_flow program) (at_index ends.target 0 ∷ walk)) (sym last.1)
            (inr (ends.leads, (refl, within)), subst (IsPath (program_flow program)) last.1 last.2);
        last = λ j none. absurd (omega (arith, none));
        visited = λ p there. visited_later arm path p (before.visited p there);
      }

  -- Each path -------------------------------------------------------------------------------------------------------------

  pub walk_of : (path : Path) (b k : ℕ) → Follows (arms carries.tables) path → end_of path ≡ inside b k → Walk path b k
  walk_of [] b k follows ends = cc
  walk_of (arm ∷ path) b zero follows ends =
      let known : (carries.tables.sealed b && carries.tables.joins arm) ≡ true =
      subst (λ (p : paths.Place). arm_into carries.tables.count carries.tables.sealed carries.tables.joins arm p ≡ true) ends follows.0 in
      let way = carries.describes.joined arm (both_right (carries.tables.sealed b) (carries.tables.joins arm) known) in
      let same : way.0 ≡ b = same_block (sym way.1 ∙ ends) in
      subst (λ (d : ℕ). Walk (arm ∷ path) d 0) same (by way.0 way.3 (λ c k at. walk_of path c k follows.2 at))
    where
      by : (d : ℕ) → ((arm.source ≡ start) × (entry_of f ≡ Some d)) ⊎ IsEdgeInto f s carries.tables d arm
          → ((c k : ℕ) → end_of path ≡ inside c k → Walk path c k) → Walk (arm ∷ path) d 0
      by d (inl from_start) earlier = enters (arm ∷ path) d from_start.1
      by d (inr edge) earlier =
          arrives arm path d edge
          (earlier (branch_block f edge.branch) (carries.tables.count (branch_block f edge.branch)) (sym follows.1 ∙ edge.from))
  walk_of (arm ∷ path) b (suc k) follows ends =
      let known : (nat_lt k (carries.tables.count b) && (same_place arm.source (inside b k) && (arm.edge == 0))) ≡ true =
      subst (λ (p : paths.Place). arm_into carries.tables.count carries.tables.sealed carries.tables.joins arm p ≡ true) ends follows.0 in
      let source : arm.source ≡ inside b k = same_place-true arm.source (inside b k) (both_left (same_place arm.source (inside b k)) (arm.edge == 0)
      (both_right (nat_lt k (carries.tables.count b)) (same_place arm.source (inside b k) && (arm.edge == 0)) known)) in
      let test : nat_lt k (carries.tables.count b) ≡ true = both_left (nat_lt k (carries.tables.count b)) (same_place arm.source (inside b k) && (arm.edge == 0)) known in
      let below : k < carries.tables.count b = grind (arith, nat_tests) in
      next arm path b k ends (sym follows.1 ∙ source) below (walk_of path b k follows.2 (sym follows.1 ∙ source))

  -- What items name -------------------------------------------------------------------------------------------------------

  -- the name is given, its answer is the builder's, and its home was come to on the path
  pub record IsGivenOn (path : Path) (x : Name) : Type 0 where
    pub given : (carries.tables.naming (code x)).home ≢ start
    pub answer : carries.tables.answer (code x) ≡ answered calls x
    pub visits : Visits (carries.tables.naming (code x)).home path

  pub given_at_place : (path : Path) (p : Place Name) (x : Name) → WasVisited path p → (o : Option Item) → item_at calls p.block p.index ≡ o
      → Contains (item_gives o) x → IsGivenOn path x
  given_at_place path p x was None stands gives = absurd (nothing_contained x gives)
  given_at_place path p x was (Some item) stands gives =
      let there = carries.program.given was.block p.index p.block item was.named stands x gives in
      let home : (carries.tables.naming (code x)).home ≡ inside was.block (suc p.index) = ap (λ (m : Naming). m.home) there.0 in
      record {
        given = not_start (carries.tables.naming (code x)).home was.block (suc p.index) home;
        answer = there.1;
        visits = subst (λ (q : paths.Place). Visits q path) (sym home) (was.visits item stands);
      }

  -- a parameter of the caller's is given as its block is entered
  pub given_entering : (path : Path) (b : ℕ) (B : Name) (k : ℕ) (x : Name) → block_name calls b ≡ Some B → (k ≡ 0 → Visits (inside b 0) path)
      → Contains (given_on_entry (program_code program) B k) x → IsGivenOn path x
  given_entering path b B zero x named visits there =
      let given = carries.program.parameter b B named x there in
      let home : (carries.tables.naming (code x)).home ≡ inside b 0 = ap (λ (m : Naming). m.home) given.0 in
      record {
        given = not_start (carries.tables.naming (code x)).home b 0 home;
        answer = given.1;
        visits = subst (λ (q : paths.Place). Visits q path) (sym home) (visits refl);
      }
  given_entering path b B (suc k) x named visits there = absurd (nothing_contained x there)

  pub given_along_walk : (path : Path) (x : Name) (walk : List (Place Name)) → ((p : Place Name) → In p walk → WasVisited path p)
      → IsGivenAlong (program_code program) x walk → IsGivenOn path x
  given_along_walk path x [] visited along = absurd along
  given_along_walk path x (p ∷ walk) visited (inl here) = given_at_place path p x (visited p (inl refl)) (item_at calls p.block p.index) refl here
  given_along_walk path x (p ∷ walk) visited (inr (inl entering)) =
      let was = visited p (inl refl) in given_entering path was.block p.block p.index x was.named was.front entering
  given_along_walk path x (p ∷ walk) visited (inr (inr along)) = given_along_walk path x walk (λ q there. visited q (inr there)) along

  -- what is given before a place of the program is given on each path to it
  pub given_before : (path : Path) (b k : ℕ) (B : Name) → Follows (arms carries.tables) path → end_of path ≡ inside b k
      → block_name calls b ≡ Some B → k < length (program.items B) → (x : Name) → IsGivenBefore (program_code program) x (at_index B k) → IsGivenOn path x
  given_before path b k B follows ends named within x before = by (walk_of path b k follows ends)
    where
      or_along : (w : Walk path b k) → Contains (given_on_entry (program_code program) B k) x ⊎ IsGivenAlong (program_code program) x w.walk → IsGivenOn path x
      or_along w (inl entering) = given_entering path b B k x named (λ first. ends_visits path b 0 (ends ∙ ap (inside b) first)) entering
      or_along w (inr along) = given_along_walk path x w.walk w.visited along

      by : Walk path b k → IsGivenOn path x
      by w =
          let same : w.name ≡ B = some_is w.name B (sym w.named ∙ named) in
          let comes : IsPath (program_flow program) (at_index B k ∷ w.walk) =
          subst (λ (name : Name). IsPath (program_flow program) (at_index name k ∷ w.walk)) same
          (w.comes (subst (λ (name : Name). k < length (program.items name)) (sym same) within)) in
          or_along w (before w.walk comes)

  -- what the item at this place names is given on each path to it
  pub named_before : IsWellPlaced (program_code program) → (path : Path) (b k : ℕ) (B : Name) → Follows (arms carries.tables) path → end_of path ≡ inside b k
      → block_name calls b ≡ Some B → (item : Item) → slice_get (program.items B) k ≡ Some item → (x : Name) → Contains (item_names (Some item)) x → IsGivenOn path x
  named_before placed path b k B follows ends named item stands x names =
      given_before path b k B follows ends named (place_within (program.items B) k item stands) x
      (placed.named (at_index B k) x (subst (λ (o : Option Item). Contains (item_names o) x) (sym stands) names))

  -- what is given on a path is given on a longer one
  pub given_longer : (arm : Arm) (path : Path) (x : Name) → IsGivenOn path x → IsGivenOn (arm ∷ path) x
  given_longer arm path x on = record { given = on.given; answer = on.answer; visits = inr on.visits }

  -- what the edges of the item at this place pass is given on each path through it
  pub passed_before : IsWellPlaced (program_code program) → (arm : Arm) (path : Path) (b k : ℕ) (B : Name) → Follows (arms carries.tables) path → end_of path ≡ inside b k
      → arm.target ≡ inside b (suc k) → block_name calls b ≡ Some B → (item : Item) → slice_get (program.items B) k ≡ Some item
      → (x : Name) → Contains (item_passes (Some item)) x → IsGivenOn (arm ∷ path) x
  passed_before placed arm path b k B follows ends target named item stands x passes =
      by (placed.passed (at_index B k) x (subst (λ (o : Option Item). Contains (item_passes o) x) (sym stands) passes))
    where
      was : WasVisited (arm ∷ path) (at_index B k)
      was = record {
        block = b;
        named = named;
        visits = λ item' stands'. inl (sym target);
        front = λ first. inr (ends_visits path b 0 (ends ∙ ap (inside b) first));
      }

      by : Contains (item_gives (item_at calls B k)) x ⊎ IsGivenBefore (program_code program) x (at_index B k) → IsGivenOn (arm ∷ path) x
      by (inl gives) = given_at_place (arm ∷ path) (at_index B k) x was (item_at calls B k) refl gives
      by (inr before) = given_longer arm path x (given_before path b k B follows ends named (place_within (program.items B) k item stands) x before)

  -- The theory's conclusion -----------------------------------------------------------------------------------------------

  module _ (placed : IsWellPlaced (program_code program)) where
    -- the arm to an item comes from the place before it
    pub to_item : (arm : Arm) (path : Path) (b k : ℕ) → Follows (arms carries.tables) (arm ∷ path) → arm.target ≡ inside b (suc k) → end_of path ≡ inside b k
    to_item arm path b k follows ends =
        let known : (nat_lt k (carries.tables.count b) && (same_place arm.source (inside b k) && (arm.edge == 0))) ≡ true =
        subst (λ (p : paths.Place). arm_into carries.tables.count carries.tables.sealed carries.tables.joins arm p ≡ true) ends follows.0 in
        sym follows.1
        ∙ same_place-true arm.source (inside b k) (both_left (same_place arm.source (inside b k)) (arm.edge == 0)
        (both_right (nat_lt k (carries.tables.count b)) (same_place arm.source (inside b k) && (arm.edge == 0)) known))

    by_item : (b k x n : ℕ) (B : Name) → block_name calls b ≡ Some B → (o : Option Item) → item_at calls B k ≡ o → assigned_by o x ≡ Some n
        → (path : Path) → Follows (arms carries.tables) path → end_of path ≡ inside b (suc k) → VisitsBefore (carries.tables.naming n).home path
    by_item b k x n B named None stands assigned path follows ends = cc
    by_item b k x n B named (Some (Instruct place instruction results)) stands assigned path follows ends = cc
    by_item b k x n B named (Some (Use variable name)) stands assigned path follows ends = cc
    by_item b k x n B named (Some (Assign variable name)) stands assigned [] follows ends = cc
    by_item b k x n B named (Some (Assign variable name)) stands assigned (arm ∷ path) follows ends = by (x == variable) assigned
      where
        by : (test : Bool) → (if test then Some (code name) else None) ≡ Some n → Visits (carries.tables.naming n).home path
        by false none = cc
        by true one =
            subst (λ (m : ℕ). Visits (carries.tables.naming m).home path) (some_is (code name) n one)
            (named_before placed path b k B follows.2 (to_item arm path b k follows ends) named (Assign variable name) stands name (0, omega arith, refl)).visits

    at_item : (b k x n : ℕ) (o : Option Name) → block_name calls b ≡ o → carries.tables.assigned (inside b (suc k)) x ≡ Some n
        → StrictlyBefore (arms carries.tables) (carries.tables.naming n).home (inside b (suc k))
    at_item b k x n None name assigned = absurd (none_some n (sym (carries.program.elsewhere_nothing b (suc k) x name) ∙ assigned))
    at_item b k x n (Some B) name assigned =
        record { on_every_path = by_item b k x n B name (item_at calls B k) refl (sym (carries.program.assigned b k B name x) ∙ assigned) }

    pub at_place : (place : paths.Place) (x n : ℕ) → carries.tables.assigned place x ≡ Some n → StrictlyBefore (arms carries.tables) (carries.tables.naming n).home place
    at_place start x n assigned = absurd (none_some n (sym (carries.program.start_assigns_nothing x) ∙ assigned))
    at_place (inside b zero) x n assigned = absurd (none_some n (sym (carries.program.front_assigns_nothing b x) ∙ assigned))
    at_place (inside b (suc k)) x n assigned = at_item b k x n (block_name calls b) refl assigned

    pub nothing_pending : IsFinished calls f s → NothingPending carries.tables.function
    nothing_pending finished = record { none = none }
      where
        by : (v x : ℕ) → ((b : ℕ) × Contains (pending_of (sealed_of s b)) (record { variable = x; param = v })) ⊎ Contains {X = Pending} [] (record { variable = x; param = v }) → ⊥
        by v x (inl waits) = none_of (pending_of (sealed_of s waits.0)) (record { variable = x; param = v }) (finished.none_waits waits.0) waits.1
        by v x (inr completes) = nothing_contained {X = Pending} (record { variable = x; param = v }) completes

        none : (u x : ℕ) → (carries.tables.function.definition (carries.tables.function.resolve u)).kind ≢ pending x
        none u x kind =
            by (resolved f u) x (carries.describes.pends (resolved f u) x (resolved_twice f u consistent)
            (subst (λ (v : ℕ). (carries.tables.function.definition v).kind ≡ pending x) (carries.describes.resolves u) kind))

    pub is_correct : IsFinished calls f s → IsCorrect (state_of carries.tables)
    is_correct finished = correct (state_of carries.tables) carries.sound.sound (nothing_pending finished) (record { given_before = at_place })
