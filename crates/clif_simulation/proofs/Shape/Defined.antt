-- A function that carries a list of calls is well placed, finished or not: names by the theory's conclusion on them, and what
-- the construction passes by that on the arguments of parameters.
use Rattle.std.proofs.Common.{◌≡◌, ◌⊎◌, ℕ, zero, suc, ◌+◌, ◌<◌, List, [], ◌∷◌, ◌++◌, length, map, flat_map, slice_get, Option, None, Some, Contains, inl, inr, refl, sym, ◌∙◌, ap, subst, arith}
use Rattle.std.specs.Prelude.{slice_index}
use Rattle.std.proofs.lemmas.List.{append-nil, map-append}
use Rattle.std.proofs.lemmas.Option.{slice_get_within, get_or_from_slice_get}
use Rattle.clif_ir.specs.Body.{Body, inst_at, block_at, resolved}
use Rattle.clif_ir.specs.Consistent.{IsConsistent, EdgeExists, PassedExists}
use Rattle.clif_instructions.specs.Instruction.{contexts, destinations, operands}
use Rattle.clif_ir.specs.Reading.{param_home}
use Rattle.clif_instructions.specs.Members.{place_of}
use Rattle.clif_instructions.specs.declared.block_call.BlockArg.{BlockArg}
use Rattle.clif_instructions.specs.declared.block_call.BlockArg.TheVariants.{Value, TryCallRet, TryCallExn}
use Rattle.clif_instructions.specs.declared.block_call.BlockCall.{BlockCall}
use Rattle.clif_ir.proofs.Aliases.{follow-inside}
use Rattle.clif_ir.proofs.Keeps.{leads_inside}
use Rattle.clif_paths.specs.Places.{inside, Edges, Visits, Dominates}
use Rattle.clif_paths.specs.State.{Definition, home_of}
use Rattle.clif_paths.specs.Blocks.{state_of}
use Rattle.clif_paths.specs.Sound.{SoundUnder}
use Rattle.clif_paths.proofs.PathLemmas.{visits_through}
use Rattle.clif_ssa.specs.Ssa.{SsaState}
use Rattle.clif_ssa.specs.Sound.{IsCounted, args_of, passed_at, passed_count}
use Rattle.clif_ssa.proofs.Alike.{unaliased_home}
use Rattle.clif_ssa.proofs.Housing.{place_at}
use Rattle.clif_ssa.proofs.Losing.{stands_home}
use Rattle.clif_meaning.specs.Name.{Name}
use Rattle.clif_meaning.specs.Request.{AnsweredCall}
use Rattle.clif_meaning.specs.Instruction.{Argument, Known, CallResult, CallPayload, Edge, Instruction, named_operands}
use Rattle.clif_meaning.specs.Program.{Item, Instruct}
use Rattle.clif_meaning.specs.FunctionView.{Placed}
use Rattle.clif_meaning.specs.View.{argument_of, edge_of, edges_of, items_of, placed_of, view_of}
use Rattle.clif_meaning.specs.Path.{Place, IsPath, Leads}
use Rattle.clif_meaning.specs.WellPlaced.{known_argument, passed_operands, item_gives, item_passes, placed_names, placed_passes, placed_gives, program_code, IsGivenBefore, IsWellPlaced, WellPlaced}
use Rattle.clif_meaning.proofs.StraightLine.{none_of}
use Rattle.clif_simulation.specs.Tables.{code, answered, program_so_far}
use Rattle.clif_simulation.specs.Carries.{answered_argument}
use Rattle.clif_simulation.specs.Coming.{Coming, MayCome, code_coming, function_coming}
use Rattle.clif_simulation.proofs.Whole.{Whole}
use Rattle.clif_simulation.proofs.Finished.ZeroInsts.{IsFromBefore, zeros_in_turn}
use Rattle.clif_simulation.proofs.Shape.Beside
use Rattle.clif_simulation.proofs.Unfinished.ComingCode.{may_nothing, nothing_comes}
use Rattle.clif_simulation.proofs.Unfinished.OpenFlow
use Rattle.clif_simulation.proofs.Finished.IntoBlock
use Rattle.clif_simulation.proofs.Finished.Entry.{resolved_twice}
use Rattle.clif_simulation.proofs.Finished.Flow.{IsGivenOn, at_index}
use Rattle.clif_simulation.proofs.Finished.Giving.{In, contained_in, in_contained}
use Rattle.clif_simulation.proofs.Finished.InLists.{among_all, in_either}
use Rattle.clif_simulation.proofs.Listed.{none_mapped, place_within}
use Rattle.clif_simulation.proofs.Finished.OwnEdges
use Rattle.clif_simulation.proofs.Finished.Placing.{at_first, contained, contained_at, in_two, map_at, map_from, map_length}
use Rattle.clif_simulation.proofs.Finished.Straight.{next_arm}

-- Lists -----------------------------------------------------------------------------------------------------------------

-- what is among lists that stand for elements is in the list of one of these
record OfOne {X Y : Type 0} (g : X → List Y) (xs : List X) (y : Y) : Type 0 where
  k : ℕ
  x : X
  stands : slice_get xs k ≡ Some x
  has : In y (g x)

of_one : {X Y : Type 0} (g : X → List Y) (xs : List X) (y : Y) → In y (flat_map g xs) → OfOne g xs y
of_one g [] y there = absurd there
of_one {X} {Y} g (x ∷ xs) y there = by (in_either (g x) (flat_map g xs) y there) (of_one g xs y)
  where
    by : In y (g x) ⊎ In y (flat_map g xs) → (In y (flat_map g xs) → OfOne g xs y) → OfOne g (x ∷ xs) y
    by (inl first) later = record { k = 0; x = x; stands = refl; has = first }
    by (inr second) later = let found = later second in record { k = suc found.k; x = found.x; stands = found.stands; has = found.has }

-- Arguments -------------------------------------------------------------------------------------------------------------

known_is : (argument : Argument ℕ) (v : ℕ) → In v (known_argument argument) → argument ≡ Known v
known_is (Known operand) v (inl here) = ap (λ (n : ℕ). Known n) (sym here)
known_is (Known operand) v (inr there) = absurd there
known_is (CallResult index) v there = absurd there
known_is (CallPayload index) v there = absurd there

value_is : (argument : BlockArg) (v : ℕ) → argument_of argument ≡ Known v → argument ≡ Value v
value_is (Value value) v is = cc
value_is (TryCallRet index) v is = cc
value_is (TryCallExn index) v is = cc

-- the list of one known argument
known_there : {v : ℕ} (arguments : List (Argument ℕ)) (one : OfOne known_argument arguments v) → slice_get arguments one.k ≡ Some (Known v)
known_there {v} arguments one = one.stands ∙ ap (λ (argument : Argument ℕ). Some argument) (known_is one.x v one.has)

-- what an edge passes as the machine sees it is what it passes
value_passed : (call : BlockCall) (k v : ℕ) → slice_get (edge_of call).arguments k ≡ Some (Known v) → slice_get call.args k ≡ Some (Value v)
value_passed call k v is =
    let from = map_from argument_of call.args k (Known v) is in from.1 ∙ ap (λ (b : BlockArg). Some b) (value_is from.0 v from.2)

-- a name that stands for a known argument
name_is : (calls : List AnsweredCall) (argument : Argument Name) (v : ℕ) → answered_argument calls argument ≡ Known v
    → (name : Name) × (argument ≡ Known name) × (answered calls name ≡ v)
name_is calls (Known name) v is = (name, refl, known_same (answered calls name) is)
  where
    known_same : (w : ℕ) → ◌≡◌ {A = Argument ℕ} (Known w) (Known v) → w ≡ v
    known_same w h = cc
name_is calls (CallResult index) v is = cc
name_is calls (CallPayload index) v is = cc

-- what the caller passed is the answer of a name that the program's edge passes
name_passed : (calls : List AnsweredCall) (edge : Edge Name Name) (passed : List BlockArg) (j v : ℕ) → map argument_of passed ≡ map (answered_argument calls) edge.arguments
    → slice_get passed j ≡ Some (Value v) → (name : Name) × (slice_get edge.arguments j ≡ Some (Known name)) × (answered calls name ≡ v)
name_passed calls edge passed j v same is =
    let argument = map_from (answered_argument calls) edge.arguments j (Known v)
    (ap (λ (es : List (Argument ℕ)). slice_get es j) (sym same) ∙ map_at argument_of passed j (Value v) is) in
    let one = name_is calls argument.0 v argument.2 in
    (one.0, argument.1 ∙ ap (λ (a : Argument Name). Some a) one.1, one.2)

-- a name that an edge of an instruction passes is one that the instruction's edges pass
edges_pass : (instruction : Instruction Name Name) (n j : ℕ) (edge : Edge Name Name) (name : Name) → slice_get instruction.edges n ≡ Some edge
    → slice_get edge.arguments j ≡ Some (Known name) → Contains (passed_operands instruction) name
edges_pass instruction n j edge name is_edge is =
    in_contained (passed_operands instruction) name
    (among_all (λ (e : Edge Name Name). flat_map known_argument e.arguments) instruction.edges n edge name is_edge
    (among_all known_argument edge.arguments j (Known name) name is (inl refl)))

no_item : {X : Type 0} (xs : List X) (k : ℕ) (x : X) → xs ≡ [] → slice_get xs k ≡ Some x → ⊥
no_item [] zero x none is = cc
no_item [] (suc k) x none is = cc
no_item (y ∷ xs) k x none is = cc

same_value : (v w : ℕ) → Some (Value v) ≡ Some (Value w) → v ≡ w
same_value v w h = cc

-- where something is of a thing of a list, that stands there
stands_there : {X : Type 0} (of : Option X → List ℕ) → of None ≡ [] → (xs : List X) (k x : ℕ) → Contains (of (slice_get xs k)) x → k < length xs
stands_there {X} of none xs k x there = by (slice_get xs k) refl
  where
    by : (o : Option X) → slice_get xs k ≡ o → k < length xs
    by None is = absurd (none_of (of (slice_get xs k)) x (ap of is ∙ none) there)
    by (Some thing) is = place_within xs k thing is

module _ (coming : Coming) (calls : List AnsweredCall) (f : Body) (s : SsaState) (consistent : IsConsistent f) (carries : Whole calls f s)
    (may : MayCome coming calls s)
  where
    -- a path along the edges so far beside one of the function's places
    abbrev pub Stood : Place ℕ → List (Place ℕ) → Name → ℕ → ℕ → Type 0
    Stood = Beside.IsBeside coming calls f s consistent carries may

    abbrev pub AtOwn : Place ℕ → List (Place ℕ) → Name → Type 0
    AtOwn = Beside.AtInstruct coming calls f s consistent carries may

    abbrev pub IsFor : Place ℕ → List (Place ℕ) → ℕ → Type 0
    IsFor = Beside.IsGivenFor coming calls f s consistent carries may

    abbrev edges : Edges
    edges = OpenFlow.edges coming calls f s consistent carries

    pub under : SoundUnder edges (state_of carries.tables)
    under = OpenFlow.under coming calls f s consistent carries may.given_before

    -- What a path along the arms has come to ------------------------------------------------------------------------------------

    -- a value whose home was come to is given
    pub value_given : (q : Place ℕ) (path : List (Place ℕ)) (name : Name) (k : ℕ) (b : Stood q path name k 0) (v : ℕ) → v < length f.values
        → Visits (home_of carries.tables.function v) b.along → IsFor q path (resolved f v)
    value_given q path name k b v exists visits =
        by (b.given (resolved f v) (follow-inside f.values (length f.values) v (leads_inside f consistent) exists) (resolved_twice f v consistent)
        (subst (λ (w : ℕ). Visits (carries.tables.function.definition w).home b.along) (carries.describes.resolves v) visits))
      where
        by : IsFor q path (resolved f v) ⊎ Beside.IsAhead coming calls f s consistent carries may q 0 (resolved f v) → IsFor q path (resolved f v)
        by (inl given) = given
        by (inr ahead) = absurd (omega (arith, ahead.from, ahead.below))

    -- and so is the answer of a name that is given on it
    pub answer_given : (q : Place ℕ) (path : List (Place ℕ)) (name : Name) (k : ℕ) (b : Stood q path name k 0) (x : Name)
        → IsGivenOn calls f s consistent carries b.along x → IsFor q path (resolved f (answered calls x))
    answer_given q path name k b x on =
        subst (λ (v : ℕ). IsFor q path (resolved f v)) on.answer
        (value_given q path name k b (carries.tables.answer (code x)) (carries.describes.answered (code x) on.given)
        (visits_through (under.answers (code x) on.given).there b.along b.follows on.visits))

    -- Operands --------------------------------------------------------------------------------------------------------------------

    operand_given : (q : Place ℕ) (path : List (Place ℕ)) (name : Name) (a : AtOwn q path name) (x : ℕ)
        → Contains (placed_names (resolved f) (slice_get (items_of f q.block) q.index)) x → IsFor q path x
    operand_given q path name a x names =
        let values : List ℕ = operands (inst_at f a.i).shape ++ contexts (inst_at f a.i).shape in
        let named : List Name = named_operands a.item.instruction in
        let here : Contains (map (resolved f) values) x = subst (λ (o : Option Placed). Contains (placed_names (resolved f) o) x) a.here names in
        let there = contained_at (map (resolved f) values) x here in
        let value = map_from (resolved f) values there.0 x there.1 in
        let same : values ≡ map (answered calls) named =
        ap (λ (p : Placed). named_operands p.instruction) a.is_item ∙ sym (map-append (answered calls) a.item.instruction.operands a.item.instruction.contexts) in
        let of_name = map_from (answered calls) named there.0 value.0 (ap (λ (vs : List ℕ). slice_get vs there.0) (sym same) ∙ value.1) in
        let on = OpenFlow.named_before coming calls f s consistent carries may.given_before a.is.along q.block a.j name a.is.follows a.is.ends a.is.named
        (Instruct a.item.place a.item.instruction a.item.results) a.item.stands of_name.0 (contained named there.0 of_name.0 of_name.1) in
        subst (IsFor q path) (ap (resolved f) of_name.2 ∙ value.2) (answer_given q path name a.j a.is of_name.0 on)

    -- the operand of a step of a zero is given at the place before
    zero_operand : (q : Place ℕ) (x : ℕ) (z : Beside.AtZero coming calls f s consistent carries may q) → Contains (placed_names (resolved f) (slice_get (items_of f q.block) q.index)) x
        → (path : List (Place ℕ)) → IsPath (function_coming coming calls f).flow (q ∷ path) → IsFor q path x
    zero_operand q x z names path walk = by path walk
      where
        only_operands : operands (inst_at f z.i).shape ++ contexts (inst_at f z.i).shape ≡ operands (inst_at f z.i).shape
        only_operands = ap (λ (vs : List ℕ). operands (inst_at f z.i).shape ++ vs) z.is_zero.no_contexts ∙ append-nil (operands (inst_at f z.i).shape)

        here : Contains (map (resolved f) (operands (inst_at f z.i).shape)) x
        here = subst (λ (vs : List ℕ). Contains (map (resolved f) vs) x) only_operands (subst (λ (o : Option Placed). Contains (placed_names (resolved f) o) x) z.here names)

        there : (k : ℕ) × (slice_get (map (resolved f) (operands (inst_at f z.i).shape)) k ≡ Some x)
        there = contained_at (map (resolved f) (operands (inst_at f z.i).shape)) x here

        value : (v : ℕ) × (slice_get (operands (inst_at f z.i).shape) there.0 ≡ Some v) × (resolved f v ≡ x)
        value = map_from (resolved f) (operands (inst_at f z.i).shape) there.0 x there.1

        from : IsFromBefore f (Beside.zeros_of coming calls f s consistent carries may q.block) q.index value.0
        from =
            zeros_in_turn f consistent carries.tables q.block (carries.describes.instructions q.block).zeros (carries.describes.instructions q.block).are_zeros
            q.index z.i there.0 value.0 z.stands value.1

        same : value.0 ≡ x
        same = sym from.itself ∙ value.2

        gives : Contains (placed_gives (slice_get (items_of f q.block) from.before)) x
        gives =
            let zeros : List ℕ = Beside.zeros_of coming calls f s consistent carries may q.block in
            let placed = Beside.placed_inst coming calls f s consistent carries may in
            let within : from.before < length (map placed zeros) = let count = map_length placed zeros in omega (arith, place_within zeros from.before from.inst from.stands, count) in
            let stands : slice_get (items_of f q.block) from.before ≡ Some (placed_of f from.inst) =
            ap (λ (ps : List Placed). slice_get ps from.before) (Beside.block_items coming calls f s consistent carries may q.block z.inserted)
            ∙ at_first (map placed zeros) (map placed (carries.own.insts q.block)) from.before within
            ∙ map_at placed zeros from.before from.inst from.stands in
            subst (λ (o : Option Placed). Contains (placed_gives o) x) (sym stands)
            (contained (inst_at f from.inst).results 0 x (ap (λ (vs : List ℕ). slice_get vs 0) (from.gives ∙ ap (λ (v : ℕ). v ∷ []) same)))

        by : (path : List (Place ℕ)) → IsPath (function_coming coming calls f).flow (q ∷ path) → IsFor q path x
        by [] walk = absurd (omega (arith, walk.1.0, from.next))
        by (p ∷ path) walk = arrive walk.0
          where
            arrive : Leads (function_coming coming calls f).flow p q → IsFor q (p ∷ path) x
            arrive (inl next) =
                let one : from.before ≡ p.index = omega (arith, next.1, from.next) in
                inr (inl (subst (λ (b : ℕ). Contains (placed_gives (slice_get (items_of f b) p.index)) x) next.0
                (subst (λ (m : ℕ). Contains (placed_gives (slice_get (items_of f q.block) m)) x) one gives)))
            arrive (inr enters) = absurd (omega (arith, enters.1.0, from.next))

    named : (q : Place ℕ) (x : ℕ) → Contains (placed_names (resolved f) (slice_get (items_of f q.block) q.index)) x
        → (path : List (Place ℕ)) → IsPath (function_coming coming calls f).flow (q ∷ path) → IsFor q path x
    named q x names path walk =
        let standing = Beside.beside coming calls f s consistent carries may path q walk in
        by standing.name (Beside.what_stands coming calls f s consistent carries may q path standing.name standing.k standing.left standing.is
        (stands_there (placed_names (resolved f)) refl (items_of f q.block) q.index x names))
      where
        by : (name : Name) → Beside.AtZero coming calls f s consistent carries may q ⊎ AtOwn q path name → IsFor q path x
        by name (inl z) = zero_operand q x z names path walk
        by name (inr a) = operand_given q path name a x names

    -- Arguments of edges ------------------------------------------------------------------------------------------------------------

    -- the values that an instruction's edges pass
    abbrev passed_by : ℕ → List ℕ
    passed_by i = flat_map (λ (edge : Edge ℕ ℕ). flat_map known_argument edge.arguments) (edges_of (inst_at f i).shape)

    -- edge `n` of the instruction passes the value
    record IsPassed (i v : ℕ) : Type 0 where
      n : ℕ
      call : BlockCall
      stands : slice_get (destinations (inst_at f i).shape) n ≡ Some call
      j : ℕ
      passes : slice_get call.args j ≡ Some (Value v)

    is_passed : (i v : ℕ) → Contains (passed_by i) v → IsPassed i v
    is_passed i v there =
        let edge = of_one (λ (edge : Edge ℕ ℕ). flat_map known_argument edge.arguments) (edges_of (inst_at f i).shape) v
        (contained_in (passed_by i) v there) in
        let call = map_from edge_of (destinations (inst_at f i).shape) edge.k edge.x edge.stands in
        let argument = of_one known_argument edge.x.arguments v edge.has in
        record {
          n = edge.k;
          call = call.0;
          stands = call.1;
          j = argument.k;
          passes = value_passed call.0 argument.k v (ap (λ (e : Edge ℕ ℕ). slice_get e.arguments argument.k) call.2 ∙ known_there edge.x.arguments argument);
        }

    module _ (q : Place ℕ) (path : List (Place ℕ)) (name : Name) (a : AtOwn q path name) (v : ℕ) (is : IsPassed a.i v) where
      abbrev d : ℕ
      d = is.call.block

      -- an instruction with edges gives nothing
      no_results : (inst_at f a.i).results ≡ []
      no_results = consistent.edges_without_results a.i (λ none. no_item (destinations (inst_at f a.i).shape) is.n is.call none is.stands)

      gives_none : (r : ℕ) → Contains ((Beside.of_function coming calls f s consistent carries may).gives q) r → ⊥
      gives_none r gives =
          none_of (placed_gives (slice_get (items_of f q.block) q.index)) r (ap placed_gives a.here ∙ no_results) gives

      exists : v < length f.values
      exists =
          let edges = consistent.edges_exist a.i is.n is.call (slice_get_within (destinations (inst_at f a.i).shape) is.n is.call is.stands) in
          let args = (subst (EdgeExists f) (get_or_from_slice_get (destinations (inst_at f a.i).shape) is.n is.call is.call is.stands) edges).1 in
          subst (PassedExists f) (get_or_from_slice_get is.call.args is.j (Value v) (Value v) is.passes)
          (args is.j (Value v) (slice_get_within is.call.args is.j (Value v) is.passes))

      -- what the caller passed
      of_caller : slice_get (carries.own.passed a.i is.n) is.j ≡ Some (Value v) → IsFor q path (resolved f v)
      of_caller passes =
          let edge = Beside.of_program coming calls f s consistent carries may q path name a is.n is.call is.stands in
          let there = OwnEdges.edge_in_function calls f s consistent carries a.i a.item.instruction a.item.results a.is_item is.n edge.0 edge.1 in
          let one = name_passed calls edge.0 (carries.own.passed a.i is.n) is.j v there.passed passes in
          let passed : Contains (item_passes (Some (Instruct a.item.place a.item.instruction a.item.results))) one.0 =
          edges_pass a.item.instruction is.n is.j edge.0 one.0 edge.1 one.1 in
          subst (λ (w : ℕ). IsFor q path (resolved f w)) one.2 (answer_given q path name a.j a.is one.0
          (by one.0 (may.given_before.passed (at_index name a.j) one.0 (subst (λ (o : Option Item). Contains (item_passes o) one.0) (sym a.item.stands) passed))))
        where
          by : (x : Name) → Contains (item_gives (slice_get ((program_so_far calls).items name) a.j)) x ⊎ IsGivenBefore (code_coming coming calls) x (at_index name a.j)
              → IsGivenOn calls f s consistent carries a.is.along x
          by x (inl gives) =
              let results : (inst_at f a.i).results ≡ map (answered calls) a.item.results = ap (λ (p : Placed). p.results) a.is_item in
              absurd (none_of a.item.results x (none_mapped (answered calls) a.item.results (sym results ∙ no_results))
              (subst (λ (o : Option Item). Contains (item_gives o) x) a.item.stands gives))
          by x (inr before) =
              OpenFlow.given_before coming calls f s consistent carries a.is.along q.block a.j name a.is.follows a.is.ends a.is.named x before

      -- what belongs to a parameter of a variable
      of_variable : (m : ℕ) → is.j ≡ length (carries.own.passed a.i is.n) + m → IsFor q path (resolved f v)
      of_variable m behind =
          let leads = Beside.leads coming calls f s consistent carries may q path name a is.n is.call is.stands in
          let to = Beside.to coming calls f s consistent carries may q path name a is.n is.call is.stands in
          let place : ℕ = m + length (carries.own.params d) in
          let more = carries.counts.no_more d a.i is.n leads to in
          let count = ap (λ (o : Option BlockCall). length (args_of o)) is.stands in
          let below : place < length (block_at f d).params = omega (arith, behind, more, count, place_within is.call.args is.j (Value v) is.passes) in
          let w : ℕ = slice_index (block_at f d).params place in
          let home : param_home f w ≡ Some d = stands_home f consistent w d (place, below, refl) in
          let stands : place_of w (block_at f d).params ≡ place = place_at (block_at f d).params place (consistent.params_once d) below in
          let counted : IsCounted (carries.tables.function.definition w).kind (place_of w (block_at f d).params) (length (carries.own.params d)) (passed_count f a.i is.n)
          (length (carries.own.passed a.i is.n)) = carries.counts.counted d a.i is.n w leads to home in
          let reached : place_of w (block_at f d).params + length (carries.own.passed a.i is.n) < passed_count f a.i is.n + length (carries.own.params d) =
          omega (arith, stands, behind, count, place_within is.call.args is.j (Value v) is.passes) in
          let (_, defined) = IntoBlock.passed_complete calls f s consistent carries d w home (omega (arith, stands)) a.i is.n counted reached in
          let arm = Beside.arm coming calls f s consistent carries may q path name a is.n is.call is.stands in
          let into = Beside.into coming calls f s consistent carries may q path name a is.n is.call is.stands in
          let passes : passed_at f a.i is.n is.j ≡ Some (Value (carries.tables.function.argument w arm)) =
          carries.describes.passes d w arm into defined refl is.j (omega (arith, behind, stands)) in
          let same : carries.tables.function.argument w arm ≡ v =
          same_value (carries.tables.function.argument w arm) v (sym passes ∙ ap (λ (o : Option BlockCall). slice_get (args_of o) is.j) is.stands ∙ is.passes) in
          let itself : carries.tables.function.resolve w ≡ w = carries.describes.resolves w ∙ unaliased_home f w d home in
          let definition : carries.tables.function.definition (carries.tables.function.resolve w) ≡ carries.tables.function.definition w = ap carries.tables.function.definition itself in
          let there : Dominates edges (home_of carries.tables.function (carries.tables.function.argument (carries.tables.function.resolve w) arm)) arm.source =
          under.arguments.at_source w arm (ap (λ (x : Definition). x.kind) (definition ∙ defined)) (ap (λ (x : Definition). x.home) (definition ∙ defined))
          (Beside.known coming calls f s consistent carries may q path name a is.n is.call is.stands) in
          let visits = there.on_every_path (Beside.behind coming calls f s consistent carries may q path name a is.n is.call is.stands)
          (Beside.follows_behind coming calls f s consistent carries may q path name a is.n is.call is.stands)
          (ap (inside q.block) (Beside.is_last coming calls f s consistent carries may q path name a is.n is.call is.stands)) in
          by (subst (λ (u : ℕ). Visits (home_of carries.tables.function u) (next_arm q.block a.j ∷ a.is.along))
          (ap (λ (u : ℕ). carries.tables.function.argument u arm) itself ∙ same) visits)
        where
          by : Visits (home_of carries.tables.function v) (next_arm q.block a.j ∷ a.is.along) → IsFor q path (resolved f v)
          by (inl here) =
              absurd (gives_none (carries.tables.function.resolve v)
              (Beside.gives_here coming calls f s consistent carries may q path name a (carries.tables.function.resolve v) here))
          by (inr before) = value_given q path name a.j a.is v exists before

      argument_given : IsFor q path (resolved f v)
      argument_given =
          let leads = Beside.leads coming calls f s consistent carries may q path name a is.n is.call is.stands in
          let to = Beside.to coming calls f s consistent carries may q path name a is.n is.call is.stands in
          let own_first = carries.passes_first d a.i is.n leads to in
          let args : is.call.args ≡ carries.own.passed a.i is.n ++ own_first.0 = ap args_of (sym is.stands) ∙ own_first.1 in
          by own_first.0 (in_two (carries.own.passed a.i is.n) own_first.0 is.j (Value v) (ap (λ (xs : List BlockArg). slice_get xs is.j) (sym args) ∙ is.passes))
        where
          by : (more : List BlockArg) → ((is.j < length (carries.own.passed a.i is.n)) × (slice_get (carries.own.passed a.i is.n) is.j ≡ Some (Value v)))
              ⊎ ((m : ℕ) × (is.j ≡ length (carries.own.passed a.i is.n) + m) × (slice_get more m ≡ Some (Value v))) → IsFor q path (resolved f v)
          by more (inl first) = of_caller first.1
          by more (inr second) = of_variable second.0 second.1

    passed : (q : Place ℕ) (x : ℕ) → Contains (placed_passes (resolved f) (slice_get (items_of f q.block) q.index)) x
        → (path : List (Place ℕ)) → IsPath (function_coming coming calls f).flow (q ∷ path) → IsFor q path x
    passed q x passes path walk =
        let standing = Beside.beside coming calls f s consistent carries may path q walk in
        by standing.name (Beside.what_stands coming calls f s consistent carries may q path standing.name standing.k standing.left standing.is
        (stands_there (placed_passes (resolved f)) refl (items_of f q.block) q.index x passes))
      where
        by : (name : Name) → Beside.AtZero coming calls f s consistent carries may q ⊎ AtOwn q path name → IsFor q path x
        by name (inl z) =
            let none : edges_of (inst_at f z.i).shape ≡ [] = ap (map edge_of) z.is_zero.no_edges in
            absurd (none_of (placed_passes (resolved f) (slice_get (items_of f q.block) q.index)) x
            (ap (placed_passes (resolved f)) z.here
            ∙ ap (λ (edges : List (Edge ℕ ℕ)). map (resolved f) (flat_map (λ (edge : Edge ℕ ℕ). flat_map known_argument edge.arguments) edges)) none) passes)
        by name (inr a) =
            let there = contained_at (map (resolved f) (passed_by a.i)) x (subst (λ (o : Option Placed). Contains (placed_passes (resolved f) o) x) a.here passes) in
            let value = map_from (resolved f) (passed_by a.i) there.0 x there.1 in
            subst (IsFor q path) value.2 (argument_given q path name a value.0 (is_passed a.i value.0 (contained (passed_by a.i) there.0 value.0 value.1)))

    pub well_placed_coming : IsWellPlaced (function_coming coming calls f)
    well_placed_coming = record { named = named; passed = λ q x passes. inr (passed q x passes) }

-- as it is, where no edge may come
pub well_placed : (calls : List AnsweredCall) (f : Body) (s : SsaState) → IsConsistent f → Whole calls f s
    → IsWellPlaced (program_code (program_so_far calls)) → WellPlaced (view_of f)
well_placed calls f s consistent carries placed =
    let may = may_nothing calls s placed in
    record {
      named = λ q x names path walk. named nothing_comes calls f s consistent carries may q x names path (Beside.more_paths nothing_comes calls f s consistent carries may path q walk);
      passed = λ q x passes.
          inr (λ path walk. passed nothing_comes calls f s consistent carries may q x passes path (Beside.more_paths nothing_comes calls f s consistent carries may path q walk));
    }
