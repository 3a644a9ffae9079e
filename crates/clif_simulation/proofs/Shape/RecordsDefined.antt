-- What a builder recorded, and what answered uses, is defined before the ends of blocks and before the uses, on each path of
-- a function that carries a list of calls, finished or not.
use Rattle.std.proofs.Common.{◌≡◌, ◌⊎◌, ℕ, zero, suc, ◌+◌, ◌<◌, ◌≤◌, ◌==◌, cond, Bool, true, List, [], ◌∷◌, length, drop, slice_get, Some, None, inl, inr, refl, sym, ◌∙◌, ap, subst, arith}
use Rattle.std.proofs.lemmas.Bool.Decides.{nat_tests}
use Rattle.clif_ir.specs.Body.{Body, block_at, resolved}
use Rattle.clif_ir.specs.Consistent.{IsConsistent}
use Rattle.clif_paths.specs.Places as paths
use Rattle.clif_paths.specs.Places.{inside, Edges, Path, Follows, Visits, end_of}
use Rattle.clif_paths.specs.State.{Naming}
use Rattle.clif_paths.specs.Blocks.{recorded_at}
use Rattle.clif_ssa.specs.Ssa.{SsaState, record_of}
use Rattle.clif_meaning.specs.Name.{Name}
use Rattle.clif_meaning.specs.Request.{AnsweredCall}
use Rattle.clif_meaning.specs.Program.{Item, Instruct, Use}
use Rattle.clif_meaning.specs.View.{items_of, view_of}
use Rattle.clif_meaning.specs.Path.{Place, IsPath}
use Rattle.clif_meaning.specs.WellPlaced.{function_code, function_flow, program_code, IsGivenAlong, IsWellPlaced, Records, RecordsWellPlaced}
use Rattle.clif_meaning.proofs.StraightLine.{nothing_contained}
use Rattle.clif_simulation.specs.Tables.{code, answered, program_so_far}
use Rattle.clif_simulation.specs.Coming.{MayCome}
use Rattle.clif_simulation.specs.Structure.{IsAnswerAt, AreRecords}
use Rattle.clif_simulation.proofs.Whole.{Whole}
use Rattle.clif_simulation.proofs.Shape.Beside
use Rattle.clif_simulation.proofs.Shape.Defined
use Rattle.clif_simulation.proofs.Finished.Flow.{IsGivenOn}
use Rattle.clif_simulation.proofs.Finished.ItemsAt.{not_start}
use Rattle.clif_simulation.proofs.Listed.{place_within}
use Rattle.clif_simulation.proofs.Finished.Placing.{counted_twice, fewer, map_length, so_many}
use Rattle.clif_simulation.proofs.Finished.Matching.{nothing_behind}
use Rattle.clif_simulation.proofs.Unfinished.ComingCode.{may_nothing, nothing_comes}
use Rattle.clif_simulation.proofs.Unfinished.OpenFlow

some_is : {X : Type 0} (x y : X) → Some x ≡ Some y → x ≡ y
some_is x y e = cc

module _ (calls : List AnsweredCall) (f : Body) (s : SsaState) (consistent : IsConsistent f) (carries : Whole calls f s)
    (placed : IsWellPlaced (program_code (program_so_far calls)))
  where
    abbrev may : MayCome nothing_comes calls s
    may = may_nothing calls s placed

    abbrev items : Name → List Item
    items = (program_so_far calls).items

    abbrev Stood : Place ℕ → List (Place ℕ) → Name → ℕ → ℕ → Type 0
    Stood = Defined.Stood nothing_comes calls f s consistent carries may

    abbrev Ahead : Place ℕ → List (Place ℕ) → Name → Type 0
    Ahead = Beside.Forward nothing_comes calls f s consistent carries may

    abbrev edges : Edges
    edges = OpenFlow.edges nothing_comes calls f s consistent carries

    -- Paths along the edges -----------------------------------------------------------------------------------------------------

    -- a path came through the places before in the block where it ends
    came_through : (path : Path) (b k j : ℕ) → Follows edges path → end_of path ≡ inside b k → j ≤ k → Visits (inside b j) path
    came_through [] b k j follows ends within = cc
    came_through (arm ∷ path) b zero j follows ends within = let same : j ≡ 0 = omega (arith, within) in inl (ap (inside b) same ∙ sym ends)
    came_through (arm ∷ path) b (suc k) j follows ends within = by (order j k within) (λ earlier. came_through path b k j follows.2 (Beside.step_to nothing_comes calls f s consistent carries may arm path b k follows ends).1 earlier)
      where
        order : (j k : ℕ) → j ≤ suc k → (j ≤ k) ⊎ (j ≡ suc k)
        order j k h = grind arith

        by : (j ≤ k) ⊎ (j ≡ suc k) → (j ≤ k → Visits (inside b j) path) → Visits (inside b j) (arm ∷ path)
        by (inl earlier) before = inr (before earlier)
        by (inr here) before = inl (ap (inside b) here ∙ sym ends)

    -- At the end of a block -----------------------------------------------------------------------------------------------------

    recorded_given : (x v : ℕ) (p : Place ℕ) (path : List (Place ℕ)) → record_of s x p.block ≡ Some v → p.index + 1 ≡ length (items_of f p.block)
        → IsPath (function_flow (view_of f)) (p ∷ path) → IsGivenAlong (function_code (view_of f)) (resolved f v) (p ∷ path)
    recorded_given x v p path is last walk =
        let more = Beside.more_paths nothing_comes calls f s consistent carries may path p walk in
        let below : p.index < length (items_of f p.block) = omega (arith, last) in
        let standing = Beside.onward nothing_comes calls f s consistent carries may p path below (Beside.beside nothing_comes calls f s consistent carries may path p more) in
        by standing.name (Beside.at_end nothing_comes calls f s consistent carries may (Beside.at p.block (suc p.index)) (p ∷ path) standing.name standing.k standing.left (omega (arith, last)) standing.is)
      where
        n : ℕ
        n = carries.tables.count p.block

        by : (name : Name) → Beside.AtEnd nothing_comes calls f s consistent carries may (Beside.at p.block (suc p.index)) (p ∷ path) name → IsGivenAlong (function_code (view_of f)) (resolved f v) (p ∷ path)
        by name end =
            let same : (carries.tables.count p.block == carries.tables.count p.block) ≡ true = grind (arith, nat_tests) in
            let here : recorded_at carries.tables.count carries.tables.recorded (inside p.block (carries.tables.count p.block)) x ≡ Some v =
            ap (λ (t : Bool). cond t (carries.tables.recorded p.block x) None) same ∙ carries.describes.recorded p.block x ∙ is in
            let holds = (Defined.under nothing_comes calls f s consistent carries may).records (inside p.block (carries.tables.count p.block)) x v here in
            of_place (Defined.value_given nothing_comes calls f s consistent carries may (Beside.at p.block (suc p.index)) (p ∷ path) name end.k end.is v
            (carries.describes.records_exist p.block x v is)
            (holds.there.on_every_path end.is.along end.is.follows (end.is.ends ∙ ap (inside p.block) end.is_end)))
          where
            of_place : Defined.IsFor nothing_comes calls f s consistent carries may (Beside.at p.block (suc p.index)) (p ∷ path) (resolved f v)
                → IsGivenAlong (function_code (view_of f)) (resolved f v) (p ∷ path)
            of_place (inl entering) = absurd (nothing_contained (resolved f v) entering)
            of_place (inr along) = along

    -- Uses ------------------------------------------------------------------------------------------------------------------------

    module _ (p : Place ℕ) (value : ℕ) (used : IsAnswerAt calls f p value) (path : List (Place ℕ)) where
      -- so many instructions are before the use
      place_of_use : Beside.IsInserted nothing_comes calls f s consistent carries may p.block
          → p.index ≡ Beside.zero_count nothing_comes calls f s consistent carries may p.block + so_many calls used.index (items used.block)
      place_of_use inserted =
          let insts = ap length (Beside.block_insts nothing_comes calls f s consistent carries may p.block inserted) in
          let mapped = map_length (Beside.placed_inst nothing_comes calls f s consistent carries may) (block_at f p.block).insts in
          let count = Beside.block_count nothing_comes calls f s consistent carries may p.block used.block inserted used.block_is in
          let all = counted_twice calls (items used.block) used.index in
          let place = used.place in
          omega (arith, insts, mapped, count, all, place)

      -- the use comes before the next instruction
      use_before : (j : ℕ) → so_many calls j (items used.block) ≡ so_many calls used.index (items used.block)
          → Beside.IsInstruct nothing_comes calls f s consistent carries may used.block j ⊎ (drop j (items used.block) ≡ []) → suc used.index ≤ j
      use_before j same (inr none) =
          let behind = nothing_behind (items used.block) j none in
          omega (arith, behind, place_within (items used.block) used.index (Use used.variable used.name) used.item)
      use_before j same (inl item) = by (order used.index j)
        where
          order : (i j : ℕ) → (suc i ≤ j) ⊎ (i ≡ j) ⊎ (j < i)
          order i j = grind arith

          by : (suc used.index ≤ j) ⊎ (used.index ≡ j) ⊎ (j < used.index) → suc used.index ≤ j
          by (inl before) = before
          by (inr (inl here)) =
              absurd (apart (sym used.item ∙ ap (slice_get (items used.block)) here ∙ item.stands))
            where
              apart : Some (Use used.variable used.name) ≡ Some (Instruct item.place item.instruction item.results) → ⊥
              apart h = cc
          by (inr (inr behind)) =
              let less = fewer calls (items used.block) j used.index item.place item.instruction item.results item.stands behind in
              absurd (omega (arith, less, same))

      -- a path beside comes to the use's place
      of_forward : Beside.IsInserted nothing_comes calls f s consistent carries may p.block → Ahead p path used.block
          → Defined.IsFor nothing_comes calls f s consistent carries may p path (resolved f (answered calls used.name))
      of_forward inserted ahead =
          let given = carries.program.given p.block used.index used.block (Use used.variable used.name) used.block_is used.item used.name (0, omega arith, refl) in
          let home : (carries.tables.naming (code used.name)).home ≡ inside p.block (suc used.index) = ap (λ (m : Naming). m.home) given.0 in
          let counted = ahead.is.counted in
          let here = place_of_use inserted in
          let same : so_many calls ahead.j (items used.block) ≡ so_many calls used.index (items used.block) = omega (arith, counted, here) in
          let visits = came_through ahead.is.along p.block ahead.j (suc used.index) ahead.is.follows ahead.is.ends (use_before ahead.j same ahead.stops) in
          let on : IsGivenOn calls f s consistent carries ahead.is.along used.name = record {
            given = not_start (carries.tables.naming (code used.name)).home p.block (suc used.index) home;
            answer = given.1;
            visits = subst (λ (place : paths.Place). Visits place ahead.is.along) (sym home) visits;
          } in
          Defined.answer_given nothing_comes calls f s consistent carries may p path used.block ahead.j ahead.is used.name on

      use_given : (k left : ℕ) → Stood p path used.block k left → Defined.IsFor nothing_comes calls f s consistent carries may p path (resolved f (answered calls used.name))
      use_given k zero b = of_forward b.inserted (Beside.forward nothing_comes calls f s consistent carries may p path used.block (drop k (items used.block)) k refl b)
      use_given k (suc left) b = absurd (by b.first)
        where
          by : (suc left ≡ 0) ⊎ (k ≡ 0) → ⊥
          by (inl none) = absurd (omega (arith, none))
          by (inr front) =
              let none : so_many calls k (items used.block) ≡ 0 = ap (λ (n : ℕ). so_many calls n (items used.block)) front in
              let here = place_of_use b.inserted in
              let counted = b.counted in
              absurd (omega (arith, counted, none, here))

      answer_before : IsPath (function_flow (view_of f)) (p ∷ path) → Defined.IsFor nothing_comes calls f s consistent carries may p path (resolved f value)
      answer_before walk =
          let standing = Beside.beside nothing_comes calls f s consistent carries may path p
          (Beside.more_paths nothing_comes calls f s consistent carries may path p walk) in
          let same : standing.name ≡ used.block = some_is standing.name used.block (sym standing.is.named ∙ used.block_is) in
          subst (λ (v : ℕ). Defined.IsFor nothing_comes calls f s consistent carries may p path (resolved f v)) used.answers
          (use_given standing.k standing.left (subst (λ (name : Name). Stood p path name standing.k standing.left) same standing.is))

    pub records_well_placed : (records : Records) → AreRecords calls f s records → RecordsWellPlaced (view_of f) records
    records_well_placed records are = record {
      at_end = λ block value here p path same last walk.
          let recorded = are.recorded block value here in
          recorded_given recorded.0 value p path (ap (record_of s recorded.0) same ∙ recorded.1) (last ∙ ap (λ (b : ℕ). length (items_of f b)) (sym same)) walk;
      at_use = λ p value here path walk. answer_before p value (are.answers p value here) path walk;
    }
