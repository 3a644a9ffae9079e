-- Beside each path of a function's places there is one along its edges so far, and where it ends the places before have given
-- each value that it came to the home of.
use Rattle.clif_simulation.proofs.Finished.ZeroInsts.{IsZeroInst, IsZeroValue, zero_insts}
use Rattle.clif_ssa.specs.Zeros.{insts_of_zeros}
use Rattle.std.proofs.Common.{◌≡◌, ◌≢◌, ◌⊎◌, ℕ, zero, suc, ◌+◌, ◌<◌, ◌≤◌, nat_lt, if◌then◌else◌, Bool, true, false, List, [], ◌∷◌, ◌++◌, length, map, flat_map, drop, slice_get, Option, Some, None, Contains, inl, inr, refl, sym, ◌∙◌, ap, subst, arith}
use Rattle.std.specs.Prelude.{◌==◌, ◌&&◌, slice_index}
use Rattle.std.proofs.lemmas.Bool.Decides.{nat_tests}
use Rattle.std.proofs.lemmas.List.{map-append, length-append}
use Rattle.clif_ir.specs.Body.{Body, value_at, inst_at, block_at, resolved, alias_of, alias_of_origin}
use Rattle.clif_ir.specs.Consistent.{IsConsistent, IsOrigin}
use Rattle.clif_instructions.specs.Members.{Stands, stands_in}
use Rattle.clif_instructions.specs.Instruction.{destinations}
use Rattle.clif_ir.specs.Reading.{home_of_param, param_home}
use Rattle.clif_instructions.specs.declared.block_call.BlockCall.{BlockCall}
use Rattle.clif_nodes.specs.declared.nodes.ValueOrigin.{ValueOrigin}
use Rattle.clif_nodes.specs.declared.nodes.ValueOrigin.TheVariants as origin
use Rattle.clif_ir.proofs.Aliases.{resolved-no_alias}
use Rattle.clif_paths.specs.Places.{start, inside, Arm, Edges, Path, Follows, Visits, end_of}
use Rattle.clif_paths.specs.State.{Naming, Definition}
use Rattle.clif_paths.specs.Blocks.{front, last_place}
use Rattle.clif_paths.proofs.PathLemmas.{same_place-refl}
use Rattle.clif_paths.proofs.Tables.{number_equal}
use Rattle.clif_ssa.specs.Ssa.{SsaState, predecessors_of}
use Rattle.clif_ssa.specs.Sound.{IsEdgeInto, edge_target, entry_of, has_entry}
use Rattle.clif_ssa.proofs.Bodies.{home_inside}
use Rattle.clif_ssa.proofs.Losing.{home_stands}
use Rattle.clif_meaning.specs.Name.{Name}
use Rattle.clif_meaning.specs.Request.{AnsweredCall}
use Rattle.clif_meaning.specs.Instruction.{Edge, Instruction}
use Rattle.clif_meaning.specs.Program.{Item, Instruct, Use, Assign}
use Rattle.clif_meaning.specs.FunctionView.{Placed}
use Rattle.clif_meaning.specs.View.{placed_of, items_of, edge_of, edges_of, view_of}
use Rattle.clif_meaning.specs.Path.{Flow, Place, IsPath, Leads}
use Rattle.clif_meaning.specs.WellPlaced.{Code, function_code, function_flow, placed_gives, placed_targets, given_on_entry, IsGivenAlong}
use Rattle.clif_meaning.proofs.StraightLine.{none_of}
use Rattle.clif_simulation.specs.Tables.{code, answered, program_so_far, block_name}
use Rattle.clif_simulation.specs.Carries.{carried, own_placed}
use Rattle.clif_simulation.specs.Coming.{Coming, MayCome, function_coming, numbers_coming, placed_targets_with}
use Rattle.clif_simulation.proofs.Whole.{Whole}
use Rattle.clif_simulation.proofs.Unfinished.OpenArms
use Rattle.clif_simulation.proofs.Unfinished.OpenArms.{open_arms}
use Rattle.clif_simulation.proofs.Unfinished.OpenFlow
use Rattle.clif_simulation.proofs.Unfinished.OpenFlow.{comes_into, comes_to, more_coming, name_listed}
use Rattle.clif_simulation.proofs.Finished.IntoBlock
use Rattle.clif_simulation.proofs.Finished.Giving.{in_contained}
use Rattle.clif_simulation.proofs.Finished.ItemsAt
use Rattle.clif_simulation.proofs.Finished.ItemsAt.{not_start}
use Rattle.clif_simulation.proofs.Listed.{all_at, place_within}
use Rattle.clif_simulation.proofs.Finished.Matching.{item_here, nothing_behind, rest_behind}
use Rattle.clif_simulation.proofs.Finished.OwnEdges
use Rattle.clif_simulation.proofs.Finished.OwnEdges.{last_item}
use Rattle.clif_simulation.proofs.Finished.Placing.{at_first, at_second, contained, contained_at, counted_item, counted_twice, in_two, item_placed, map_at, map_from, map_length, so_many, stands_at, placed_item, OfItem}
use Rattle.clif_simulation.proofs.Finished.Straight.{first_arm, next_arm, same_block, same_step}

some_is : {X : Type 0} (x y : X) → Some x ≡ Some y → x ≡ y
some_is x y e = cc

none_some : {X : Type 0} (x : X) → None ≡ Some x → ⊥
none_some x e = cc

value_in : (xs : List ℕ) (value t r : ℕ) → xs ≡ value ∷ [] → slice_get xs t ≡ Some r → r ≡ value
value_in [] value t r is at = cc
value_in (x ∷ xs) value zero r is at = cc
value_in (x ∷ []) value (suc zero) r is at = cc
value_in (x ∷ []) value (suc (suc t)) r is at = cc
value_in (x ∷ y ∷ xs) value (suc t) r is at = cc

no_item : {X : Type 0} (xs : List X) (k : ℕ) (x : X) → xs ≡ [] → slice_get xs k ≡ Some x → ⊥
no_item [] zero x none is = cc
no_item [] (suc k) x none is = cc
no_item (y ∷ xs) k x none is = cc

-- the place of a block
abbrev pub at : ℕ → ℕ → Place ℕ
at block index = record { block = block; index = index }

-- behind a list nothing stands
past_end : {X : Type 0} (xs : List X) (k : ℕ) → slice_get xs k ≡ None → length xs ≤ k
past_end [] k none = omega arith
past_end (x ∷ xs) zero none = absurd (none_some x (sym none))
past_end (x ∷ xs) (suc k) none = let rest = past_end xs k none in omega (arith, rest)

module _ (coming : Coming) (calls : List AnsweredCall) (f : Body) (s : SsaState) (consistent : IsConsistent f) (carries : Whole calls f s) (may : MayCome coming calls s)
  where
    abbrev pub items : Name → List Item
    items = (program_so_far calls).items

    abbrev pub edges : Edges
    edges = open_arms (more_coming calls carries.tables coming) f s carries.tables

    abbrev pub function : ℕ → Definition
    function = carries.tables.function.definition

    abbrev pub placed_inst : ℕ → Placed
    placed_inst inst = placed_of f inst

    abbrev pub of_function : Code ℕ ℕ
    of_function = function_code (view_of f)

    -- with the edges that may still come
    abbrev pub flow_coming : Flow ℕ
    flow_coming = (function_coming coming calls f).flow

    abbrev pub zeros_of : ℕ → List ℕ
    zeros_of b = insts_of_zeros (carries.describes.instructions b).zeros

    abbrev pub zero_count : ℕ → ℕ
    zero_count b = length (zeros_of b)

    abbrev pub IsInserted : ℕ → Type 0
    IsInserted b = stands_in b f.layout ≡ true

    -- The instructions of a block -----------------------------------------------------------------------------------------

    pub block_insts : (b : ℕ) → IsInserted b → items_of f b ≡ map placed_inst (block_at f b).insts
    block_insts b there = ap (λ (t : Bool). if t then map placed_inst (block_at f b).insts else []) there

    pub block_items : (b : ℕ) → IsInserted b → items_of f b ≡ map placed_inst (zeros_of b) ++ map placed_inst (carries.own.insts b)
    block_items b there =
        block_insts b there ∙ ap (map placed_inst) (carries.describes.instructions b).in_order ∙ map-append placed_inst (zeros_of b) (carries.own.insts b)

    -- a block with a place is inserted
    pub has_place : (b k : ℕ) → k < length (items_of f b) → IsInserted b
    has_place b k within = by (stands_in b f.layout) refl within
      where
        by : (t : Bool) → stands_in b f.layout ≡ t → k < length (if t then map placed_inst (block_at f b).insts else []) → stands_in b f.layout ≡ true
        by true there below = there
        by false out below = absurd (omega (arith, below))

    pub own_count : (b : ℕ) (B : Name) → block_name calls b ≡ Some B → length (carries.own.insts b) ≡ length (flat_map (carried calls) (items B))
    own_count b B named = sym (map_length (own_placed carries.own f) (carries.own.insts b)) ∙ ap length (carries.items b B named)

    pub block_count : (b : ℕ) (B : Name) → IsInserted b → block_name calls b ≡ Some B → length (items_of f b) ≡ zero_count b + length (flat_map (carried calls) (items B))
    block_count b B there named =
        let all = ap length (block_items b there) ∙ length-append (map placed_inst (zeros_of b)) (map placed_inst (carries.own.insts b)) in
        let zeros = map_length placed_inst (zeros_of b) in
        let own = map_length placed_inst (carries.own.insts b) in
        let known = own_count b B named in
        omega (arith, all, zeros, own, known)

    -- Where values are born -------------------------------------------------------------------------------------------------

    -- a result of an instruction of the caller's is born at its item
    own_home : (c m t i r : ℕ) (C : Name) → block_name calls c ≡ Some C → slice_get (carries.own.insts c) m ≡ Some i → slice_get (inst_at f i).results t ≡ Some r
        → (j : ℕ) × ((function r).home ≡ inside c (suc j))
    own_home c m t i r C named stands result =
        let it : OfItem calls (items C) m (own_placed carries.own f i) = OwnEdges.item_of calls f s consistent carries c C named m i stands in
        let results : (inst_at f i).results ≡ map (answered calls) it.results = ap (λ (p : Placed). p.results) it.is in
        let from : (x : Name) × (slice_get it.results t ≡ Some x) × (answered calls x ≡ r) =
        map_from (answered calls) it.results t r (ap (λ (vs : List ℕ). slice_get vs t) (sym results) ∙ result) in
        let given = carries.program.given c it.j C (Instruct it.place it.instruction it.results) named it.stands from.0 (contained it.results t from.0 from.1) in
        let home_n : (carries.tables.naming (code from.0)).home ≡ inside c (suc it.j) = ap (λ (n : Naming). n.home) given.0 in
        let born_there = carries.describes.born_there (code from.0) (not_start (carries.tables.naming (code from.0)).home c (suc it.j) home_n) (ap (λ (n : Naming). n.origin) given.0) in
        (it.j, ap (λ (v : ℕ). (function v).home) (sym from.2 ∙ sym given.1) ∙ ap (λ (d : Definition). d.home) born_there.0 ∙ home_n)

    -- one of the block's zeros gives the value
    pub record IsZeroOf (b r : ℕ) : Type 0 where
      pub m : ℕ
      pub below : m < zero_count b
      pub gives : Contains (placed_gives (slice_get (items_of f b) m)) r

    abbrev AtFront : ℕ → ℕ → Type 0
    AtFront b r = Stands r (block_at f b).params ⊎ IsZeroOf b r

    -- a value of a zero that is born at a front is a zero of that block
    zero_block : (c b v : ℕ) → (function v).home ≡ front b → IsZeroValue carries.tables c v → c ≡ b
    zero_block c b v home (inl put) = same_block (sym (ap (λ (d : Definition). d.home) put.1) ∙ home)
    zero_block c b v home (inr inner) = absurd (other (sym (ap (λ (d : Definition). d.home) inner) ∙ home))
      where
        other : start ≡ front b → ⊥
        other h = cc

    of_inst : (b r i t c q : ℕ) → IsInserted b → (function r).home ≡ front b → slice_get (inst_at f i).results t ≡ Some r
        → slice_get (block_at f c).insts q ≡ Some i → IsZeroOf b r
    of_inst b r i t c q there home result stands =
        by (in_two (zeros_of c) (carries.own.insts c) q i (ap (λ (insts : List ℕ). slice_get insts q) (sym (carries.describes.instructions c).in_order) ∙ stands))
      where
        by_name : (m : ℕ) → slice_get (carries.own.insts c) m ≡ Some i → (o : Option Name) → block_name calls c ≡ o → IsZeroOf b r
        by_name m own None none = absurd (no_item (carries.own.insts c) m i (carries.own_named c none) own)
        by_name m own (Some C) named = let born = own_home c m t i r C named own result in absurd (omega (arith, same_step (sym home ∙ born.1)))

        by : ((q < zero_count c) × (slice_get (zeros_of c) q ≡ Some i)) ⊎ ((m : ℕ) × (q ≡ zero_count c + m) × (slice_get (carries.own.insts c) m ≡ Some i)) → IsZeroOf b r
        by (inr second) = by_name second.0 second.2 (block_name calls c) refl
        by (inl put) =
            let is_zero : IsZeroInst f carries.tables c i = all_at (IsZeroInst f carries.tables c) (zeros_of c) q i (zero_insts f carries.tables c (carries.describes.instructions c).zeros (carries.describes.instructions c).are_zeros) put.1 in
            let same : r ≡ is_zero.value = value_in (inst_at f i).results is_zero.value t r is_zero.result result in
            let here : c ≡ b = zero_block c b is_zero.value (ap (λ (v : ℕ). (function v).home) (sym same) ∙ home) is_zero.defined in
            let below : q < zero_count b = subst (λ (d : ℕ). q < zero_count d) here put.0 in
            let within : q < length (map placed_inst (zeros_of b)) = let l = map_length placed_inst (zeros_of b) in omega (arith, below, l) in
            let stands_b : slice_get (items_of f b) q ≡ Some (placed_inst i) =
            ap (λ (ps : List Placed). slice_get ps q) (block_items b there) ∙ at_first (map placed_inst (zeros_of b)) (map placed_inst (carries.own.insts b)) q within
            ∙ map_at placed_inst (zeros_of b) q i (subst (λ (d : ℕ). slice_get (zeros_of d) q ≡ Some i) here put.1) in
            record {
              m = q;
              below = below;
              gives = subst (λ (o : Option Placed). Contains (placed_gives o) r) (sym stands_b) (contained (inst_at f i).results t r result);
            }

    -- what is born at the front of a block is one of its parameters or of its zeros
    at_front : (b r : ℕ) → r < length f.values → resolved f r ≡ r → IsInserted b → (function r).home ≡ front b → AtFront b r
    at_front b r exists itself there home = by (value_at f r).origin refl
      where
        by : (o : ValueOrigin) → (value_at f r).origin ≡ o → AtFront b r
        by (origin.Result i t) is =
            let known : IsOrigin f r (origin.Result i t) = subst (IsOrigin f r) is (consistent.origins r exists) in
            let stands : Stands i (block_at f (inst_at f i).block).insts = (consistent.insts_stand i known.0).1 in
            inr (of_inst b r i t (inst_at f i).block stands.0 there home (stands_at (inst_at f i).results t known.1 ∙ ap (λ (n : ℕ). Some n) known.2)
            (stands_at (block_at f (inst_at f i).block).insts stands.0 stands.1 ∙ ap (λ (n : ℕ). Some n) stands.2))
        by (origin.Param c) is =
            let known : param_home f r ≡ Some c = home_inside f.values r exists ∙ ap home_of_param is in
            let same : c ≡ b = same_block (sym (IntoBlock.parameter_front calls f s consistent carries c r known) ∙ home) in
            inl (home_stands f consistent r b (known ∙ ap (λ (d : ℕ). Some d) same))
        by (origin.Alias original) is =
            let none : alias_of f.values r ≡ None = subst (λ (v : ℕ). alias_of f.values v ≡ None) itself (resolved-no_alias f.values r consistent.aliases_end exists) in
            absurd (none_some original (sym none ∙ ap alias_of_origin is))

    -- Beside a path -----------------------------------------------------------------------------------------------------------

    -- the value is given as the place is come to, or at one before
    abbrev pub IsGivenFor : Place ℕ → List (Place ℕ) → ℕ → Type 0
    IsGivenFor q path r = Contains (given_on_entry of_function q.block q.index) r ⊎ IsGivenAlong of_function r path

    -- one of the next so many places gives it
    pub record IsAhead (q : Place ℕ) (left r : ℕ) : Type 0 where
      pub m : ℕ
      pub from : q.index ≤ m
      pub below : m < q.index + left
      pub gives : Contains (placed_gives (slice_get (items_of f q.block) m)) r

    -- A path along the edges ends behind so many items of the block, where so many zeros are left to do. Each value
    -- that it came to the home of is given, or is one of these zeros.
    pub record IsBeside (q : Place ℕ) (path : List (Place ℕ)) (name : Name) (k left : ℕ) : Type 0 where
      pub named : block_name calls q.block ≡ Some name
      pub inserted : IsInserted q.block
      pub along : Path
      pub follows : Follows edges along
      pub ends : end_of along ≡ inside q.block k
      pub counted : q.index + left ≡ zero_count q.block + so_many calls k (items name)
      pub first : (left ≡ 0) ⊎ (k ≡ 0)
      pub given : (r : ℕ) → r < length f.values → resolved f r ≡ r → Visits (function r).home along → IsGivenFor q path r ⊎ IsAhead q left r

    -- what is given for a place at which no zero is left is given along the path through it
    pub kept : (p : Place ℕ) (path : List (Place ℕ)) (r : ℕ) → IsGivenFor p path r ⊎ IsAhead p 0 r → IsGivenAlong of_function r (p ∷ path)
    kept p path r (inl (inl entering)) = inr (inl entering)
    kept p path r (inl (inr along)) = inr (inr along)
    kept p path r (inr ahead) = absurd (omega (arith, ahead.from, ahead.below))

    -- Over items that are no instructions -------------------------------------------------------------------------------------

    pub follow : (b k : ℕ) (B : Name) (item : Item) (along : Path) → block_name calls b ≡ Some B → slice_get (items B) k ≡ Some item
        → Follows edges along → end_of along ≡ inside b k → Follows edges (next_arm b k ∷ along)
    follow b k B item along named stands follows ends =
        let count = carries.program.counts b B named in
        let below : k < carries.tables.count b = omega (arith, count, place_within (items B) k item stands) in
        let there : nat_lt k (carries.tables.count b) ≡ true = grind (arith, nat_tests) in
        (rw (there, same_place-refl (inside b k)) refl, sym ends, follows)

    pass : (q : Place ℕ) (path : List (Place ℕ)) (name : Name) (k : ℕ) (item : Item) → slice_get (items name) k ≡ Some item → carried calls item ≡ []
        → ((w : ℕ) → (function w).home ≢ inside q.block (suc k)) → IsBeside q path name k 0 → IsBeside q path name (suc k) 0
    pass q path name k item stands nothing none_here b = record {
      named = b.named;
      inserted = b.inserted;
      along = next_arm q.block k ∷ b.along;
      follows = follow q.block k name item b.along b.named stands b.follows b.ends;
      ends = refl;
      counted = let one = counted_item calls (items name) k item stands in let none = ap length nothing in omega (arith, b.counted, one, none);
      first = inl refl;
      given = λ r exists itself visits. by r exists itself visits;
    }
      where
        by : (r : ℕ) → r < length f.values → resolved f r ≡ r → Visits (function r).home (next_arm q.block k ∷ b.along) → IsGivenFor q path r ⊎ IsAhead q 0 r
        by r exists itself (inl here) = absurd (none_here r here)
        by r exists itself (inr there) = b.given r exists itself there

    -- the item is an instruction
    pub record IsInstruct (name : Name) (j : ℕ) : Type 0 where
      pub place : ℕ
      pub instruction : Instruction Name Name
      pub results : List Name
      pub stands : slice_get (items name) j ≡ Some (Instruct place instruction results)

    -- as far as the next instruction, or the end of the block
    pub record Forward (q : Place ℕ) (path : List (Place ℕ)) (name : Name) : Type 0 where
      pub j : ℕ
      pub is : IsBeside q path name j 0
      pub stops : IsInstruct name j ⊎ (drop j (items name) ≡ [])

    pub forward : (q : Place ℕ) (path : List (Place ℕ)) (name : Name) (rest : List Item) (k : ℕ) → drop k (items name) ≡ rest → IsBeside q path name k 0 → Forward q path name
    forward q path name [] k is b = record { j = k; is = b; stops = inr is }
    forward q path name (Instruct place instruction results ∷ rest) k is b = record {
      j = k;
      is = b;
      stops = inl (record {
        place = place;
        instruction = instruction;
        results = results;
        stands = item_here (items name) k (Instruct place instruction results) rest is;
      });
    }
    forward q path name (Use x used ∷ rest) k is b =
        let stands = item_here (items name) k (Use x used) rest is in
        forward q path name rest (suc k) (rest_behind (items name) k (Use x used) rest is)
        (pass q path name k (Use x used) stands refl
        (ItemsAt.uses_there calls carries.own f s carries.tables carries.program carries.describes q.block name b.named k x used stands).no_values b)
    forward q path name (Assign x from ∷ rest) k is b =
        let stands = item_here (items name) k (Assign x from) rest is in
        forward q path name rest (suc k) (rest_behind (items name) k (Assign x from) rest is)
        (pass q path name k (Assign x from) stands refl
        (ItemsAt.assigns_there calls carries.own f s carries.tables carries.program carries.describes q.block name b.named k x from stands).no_values b)

    -- What stands at a place ----------------------------------------------------------------------------------------------------

    -- a zero
    pub record AtZero (q : Place ℕ) : Type 0 where
      pub i : ℕ
      pub is_zero : IsZeroInst f carries.tables q.block i
      pub inserted : IsInserted q.block
      pub stands : slice_get (zeros_of q.block) q.index ≡ Some i
      pub here : slice_get (items_of f q.block) q.index ≡ Some (placed_inst i)

    -- an instruction of the caller's, which is an item's
    pub record AtInstruct (q : Place ℕ) (path : List (Place ℕ)) (name : Name) : Type 0 where
      pub j : ℕ
      pub item : IsInstruct name j
      pub is : IsBeside q path name j 0
      pub t : ℕ
      pub i : ℕ
      pub own : slice_get (carries.own.insts q.block) t ≡ Some i
      pub is_item : own_placed carries.own f i ≡ placed_item calls item.instruction item.results
      pub here : slice_get (items_of f q.block) q.index ≡ Some (placed_inst i)

    pub at_instruct : (q : Place ℕ) (path : List (Place ℕ)) (name : Name) (j : ℕ) → IsInstruct name j → IsBeside q path name j 0 → AtInstruct q path name
    at_instruct q path name j item b =
        let t : ℕ = so_many calls j (items name) in
        let from = map_from (own_placed carries.own f) (carries.own.insts q.block) t (placed_item calls item.instruction item.results)
        (ap (λ (ps : List Placed). slice_get ps t) (carries.items q.block name b.named)
        ∙ item_placed calls (items name) j item.place item.instruction item.results item.stands) in
        let behind : q.index ≡ length (map placed_inst (zeros_of q.block)) + t = let l = map_length placed_inst (zeros_of q.block) in omega (arith, b.counted, l) in
        record {
          j = j;
          item = item;
          is = b;
          t = t;
          i = from.0;
          own = from.1;
          is_item = from.2;
          here = ap (λ (ps : List Placed). slice_get ps q.index) (block_items q.block b.inserted)
              ∙ at_second (map placed_inst (zeros_of q.block)) (map placed_inst (carries.own.insts q.block)) q.index t behind
              ∙ map_at placed_inst (carries.own.insts q.block) t from.0 from.1;
        }

    -- behind the last instruction a block has no place
    pub past_all : (q : Place ℕ) (path : List (Place ℕ)) (name : Name) (j : ℕ) → IsBeside q path name j 0 → drop j (items name) ≡ [] → q.index ≡ length (items_of f q.block)
    past_all q path name j b none =
        let all = counted_twice calls (items name) j in
        let rest = ap (λ (left : List Item). length (flat_map (carried calls) left)) none in
        let count = block_count q.block name b.inserted b.named in
        omega (arith, b.counted, all, rest, count)

    pub what_stands : (q : Place ℕ) (path : List (Place ℕ)) (name : Name) (k left : ℕ) → IsBeside q path name k left → q.index < length (items_of f q.block)
        → AtZero q ⊎ AtInstruct q path name
    what_stands q path name k zero b within = by (forward q path name (drop k (items name)) k refl b)
      where
        by : Forward q path name → AtZero q ⊎ AtInstruct q path name
        by ahead = stops ahead.stops
          where
            stops : IsInstruct name ahead.j ⊎ (drop ahead.j (items name) ≡ []) → AtZero q ⊎ AtInstruct q path name
            stops (inl item) = inr (at_instruct q path name ahead.j item ahead.is)
            stops (inr none) = absurd (omega (arith, within, past_all q path name ahead.j ahead.is none))
    what_stands q path name k (suc left) b within = by b.first
      where
        by : (suc left ≡ 0) ⊎ (k ≡ 0) → AtZero q ⊎ AtInstruct q path name
        by (inl none) = absurd (omega (arith, none))
        by (inr front) =
            let none : so_many calls k (items name) ≡ 0 = ap (λ (n : ℕ). so_many calls n (items name)) front in
            let below : q.index < zero_count q.block = omega (arith, b.counted, none) in
            let i : ℕ = slice_index (zeros_of q.block) q.index in
            let there : slice_get (zeros_of q.block) q.index ≡ Some i = stands_at (zeros_of q.block) q.index below in
            let length_is = map_length placed_inst (zeros_of q.block) in
            inl (record {
              i = i;
              inserted = b.inserted;
              stands = there;
              is_zero = all_at (IsZeroInst f carries.tables q.block) (zeros_of q.block) q.index i (zero_insts f carries.tables q.block (carries.describes.instructions q.block).zeros (carries.describes.instructions q.block).are_zeros) there;
              here = ap (λ (ps : List Placed). slice_get ps q.index) (block_items q.block b.inserted)
                  ∙ at_first (map placed_inst (zeros_of q.block)) (map placed_inst (carries.own.insts q.block)) q.index (omega (arith, below, length_is))
                  ∙ map_at placed_inst (zeros_of q.block) q.index i there;
            })

    -- To the next place of a block ----------------------------------------------------------------------------------------------

    -- an instruction gives what is born at its item
    pub gives_here : (q : Place ℕ) (path : List (Place ℕ)) (name : Name) (a : AtInstruct q path name) (r : ℕ) → (function r).home ≡ inside q.block (suc a.j)
        → Contains (of_function.gives q) r
    gives_here q path name a r home =
        let there = (ItemsAt.gives_there calls carries.own f s carries.tables carries.program carries.describes q.block name a.is.named a.j a.item.place
        a.item.instruction a.item.results a.item.stands a.is.along).only_values r home in
        let stands = contained_at a.item.results there.0 (in_contained a.item.results there.0 there.1) in
        let results : (inst_at f a.i).results ≡ map (answered calls) a.item.results = ap (λ (p : Placed). p.results) a.is_item in
        let gives : Contains (inst_at f a.i).results (answered calls there.0) =
        subst (λ (xs : List ℕ). Contains xs (answered calls there.0)) (sym results)
        (contained (map (answered calls) a.item.results) stands.0 (answered calls there.0) (map_at (answered calls) a.item.results stands.0 there.0 stands.1)) in
        subst (λ (o : Option Placed). Contains (placed_gives o) r) (sym a.here) (subst (Contains (inst_at f a.i).results) (sym there.2) gives)

    over_zero : (p : Place ℕ) (path : List (Place ℕ)) (name : Name) (k left : ℕ) → IsBeside p path name k (suc left) → IsBeside (at p.block (suc p.index)) (p ∷ path) name k left
    over_zero p path name k left b = record {
      named = b.named;
      inserted = b.inserted;
      along = b.along;
      follows = b.follows;
      ends = b.ends;
      counted = omega (arith, b.counted);
      first = inr (front b.first);
      given = λ r exists itself visits. by r (b.given r exists itself visits);
    }
      where
        front : (suc left ≡ 0) ⊎ (k ≡ 0) → k ≡ 0
        front (inl none) = absurd (omega (arith, none))
        front (inr is) = is

        order : (n m : ℕ) → n ≤ m → (m ≡ n) ⊎ (suc n ≤ m)
        order n m h = grind arith

        ahead : (r : ℕ) (a : IsAhead p (suc left) r) → (a.m ≡ p.index) ⊎ (suc p.index ≤ a.m) → IsGivenFor (at p.block (suc p.index)) (p ∷ path) r ⊎ IsAhead (at p.block (suc p.index)) left r
        ahead r a (inl here) = inl (inr (inl (subst (λ (m : ℕ). Contains (placed_gives (slice_get (items_of f p.block) m)) r) here a.gives)))
        ahead r a (inr later) = inr (record { m = a.m; from = later; below = omega (arith, a.below); gives = a.gives })

        by : (r : ℕ) → IsGivenFor p path r ⊎ IsAhead p (suc left) r → IsGivenFor (at p.block (suc p.index)) (p ∷ path) r ⊎ IsAhead (at p.block (suc p.index)) left r
        by r (inl (inl entering)) = inl (inr (inr (inl entering)))
        by r (inl (inr along)) = inl (inr (inr (inr along)))
        by r (inr a) = ahead r a (order p.index a.m a.from)

    pub over_instruct : (p : Place ℕ) (path : List (Place ℕ)) (name : Name) (a : AtInstruct p path name) → IsBeside (at p.block (suc p.index)) (p ∷ path) name (suc a.j) 0
    over_instruct p path name a = record {
      named = a.is.named;
      inserted = a.is.inserted;
      along = next_arm p.block a.j ∷ a.is.along;
      follows = follow p.block a.j name (Instruct a.item.place a.item.instruction a.item.results) a.is.along a.is.named a.item.stands a.is.follows a.is.ends;
      ends = refl;
      counted = let one = counted_item calls (items name) a.j (Instruct a.item.place a.item.instruction a.item.results) a.item.stands in omega (arith, a.is.counted, one);
      first = inl refl;
      given = λ r exists itself visits. inl (inr (by r exists itself visits));
    }
      where
        by : (r : ℕ) → r < length f.values → resolved f r ≡ r → Visits (function r).home (next_arm p.block a.j ∷ a.is.along) → IsGivenAlong of_function r (p ∷ path)
        by r exists itself (inl here) = inl (gives_here p path name a r here)
        by r exists itself (inr there) = kept p path r (a.is.given r exists itself there)

    -- To the front of a block -----------------------------------------------------------------------------------------------------

    -- what is born there is a parameter, or a zero that is left to do
    entering : (b : ℕ) (path : List (Place ℕ)) (r : ℕ) → AtFront b r → IsGivenFor (at b 0) path r ⊎ IsAhead (at b 0) (zero_count b) r
    entering b path r (inl parameter) =
        inl (inl (contained (block_at f b).params parameter.0 r (stands_at (block_at f b).params parameter.0 parameter.1 ∙ ap (λ (v : ℕ). Some v) parameter.2)))
    entering b path r (inr put) = inr (record { m = put.m; from = omega arith; below = omega (arith, put.below); gives = put.gives })

    -- An edge of the caller's instruction at a place.
    module _ (p : Place ℕ) (path : List (Place ℕ)) (name : Name) (a : AtInstruct p path name) (n : ℕ) (call : BlockCall)
        (stands : slice_get (destinations (inst_at f a.i).shape) n ≡ Some call)
      where
        abbrev pub d : ℕ
        d = call.block

        abbrev pub arm : Arm
        arm = record { source = last_place carries.tables p.block; target = front d; edge = n }

        pub to : edge_target f a.i n ≡ Some d
        to = map_at (λ (edge : BlockCall). edge.block) (destinations (inst_at f a.i).shape) n call stands

        pub of_program : (edge : Edge Name Name) × (slice_get a.item.instruction.edges n ≡ Some edge) × (answered calls edge.target ≡ d)
        of_program = OwnEdges.edge_in_program calls f s consistent carries a.i a.item.instruction a.item.results a.is_item n d to

        pub target_named : block_name calls d ≡ Some of_program.0.target
        target_named =
            ap (block_name calls) (sym of_program.2)
            ∙ OwnEdges.target_named calls f s consistent carries name a.j a.item.place a.item.instruction a.item.results a.item.stands n of_program.0 of_program.1

        pub leads : Contains (predecessors_of s d) a.i
        leads = carries.declared p.block a.i n d (contained (carries.own.insts p.block) a.t a.i a.own) to

        abbrev pub into : IsEdgeInto f s carries.tables d arm
        into = record {
          branch = a.i;
          leads = leads;
          from = ap (last_place carries.tables) (sym (OwnEdges.stands_in_block calls f s consistent carries p.block a.t a.i a.own));
          to = to;
        }

        pub known : edges arm ≡ true
        known = OpenArms.edge_open (more_coming calls carries.tables coming) carries.own f s carries.tables carries.describes d arm refl into

        -- the instruction is the last one of its block
        pub is_last : suc a.j ≡ carries.tables.count p.block
        is_last =
            last_item (items name) a.j a.item.place a.item.instruction a.item.results n of_program.0 (carries.edges_end name) a.item.stands of_program.1
            ∙ sym (carries.program.counts p.block name a.is.named)

        abbrev pub behind : Path
        behind = next_arm p.block a.j ∷ a.is.along

        pub follows_behind : Follows edges behind
        follows_behind = follow p.block a.j name (Instruct a.item.place a.item.instruction a.item.results) a.is.along a.is.named a.item.stands a.is.follows a.is.ends

        along_edge : IsInserted d → IsBeside (at d 0) (p ∷ path) of_program.0.target 0 (zero_count d)
        along_edge there = record {
          named = target_named;
          inserted = there;
          along = arm ∷ behind;
          follows = (known, ap (inside p.block) (sym is_last), follows_behind);
          ends = refl;
          counted = omega arith;
          first = inr refl;
          given = by;
        }
          where
            by : (r : ℕ) → r < length f.values → resolved f r ≡ r → Visits (function r).home (arm ∷ behind) → IsGivenFor (at d 0) (p ∷ path) r ⊎ IsAhead (at d 0) (zero_count d) r
            by r exists itself (inl here) = entering d (p ∷ path) r (at_front d r exists itself there here)
            by r exists itself (inr (inl last)) = inl (inr (inl (gives_here p path name a r last)))
            by r exists itself (inr (inr before)) = inl (inr (kept p path r (a.is.given r exists itself before)))

    -- Each path -------------------------------------------------------------------------------------------------------------------

    -- a block that has a place is in the layout, and its last place is its end so far
    pub in_size : (b k : ℕ) → k < flow_coming.size b → IsInserted b × (k ≤ length (items_of f b))
    in_size b k below = by (stands_in b f.layout) refl below
      where
        by : (t : Bool) → stands_in b f.layout ≡ t → k < (if t then suc (length (items_of f b)) else 0) → IsInserted b × (k ≤ length (items_of f b))
        by true there within = (there, omega (arith, within))
        by false out within = absurd (omega (arith, within))

    pub within : (path : List (Place ℕ)) (q : Place ℕ) → IsPath flow_coming (q ∷ path) → IsInserted q.block × (q.index ≤ length (items_of f q.block))
    within [] q walk = let first : q.index < flow_coming.size q.block = omega (arith, walk.1.0, walk.1.1) in in_size q.block q.index first
    within (p ∷ path) q walk = by walk.0
      where
        by : Leads flow_coming p q → IsInserted q.block × (q.index ≤ length (items_of f q.block))
        by (inl next) = in_size q.block q.index next.2
        by (inr enters) = let first : q.index < flow_coming.size q.block = omega (arith, enters.1.0, enters.1.1) in in_size q.block q.index first

    pub record Standing (q : Place ℕ) (path : List (Place ℕ)) : Type 0 where
      pub name : Name
      pub k : ℕ
      pub left : ℕ
      pub is : IsBeside q path name k left

    -- no place is any other
    same_place_of : (q : Place ℕ) (b k : ℕ) → q.block ≡ b → q.index ≡ k → q ≡ at b k
    same_place_of q b k block index = ap (λ (c : ℕ). at c q.index) block ∙ ap (at b) index

    starts : (q : Place ℕ) → entry_of f ≡ Some q.block → q.index ≡ 0 → IsInserted q.block → Standing q []
    starts q entry index there = by (program_so_far calls).entry refl
      where
        by : (o : Option Name) → (program_so_far calls).entry ≡ o → Standing q []
        by None none = absurd (none_some q.block (sym (carries.entry.none none) ∙ entry))
        by (Some name) is =
            let found = carries.entry.some name is in
            let same : found.0 ≡ q.block = some_is found.0 q.block (sym found.1 ∙ entry) in
            subst (λ (p : Place ℕ). Standing p []) (sym (same_place_of q q.block 0 refl index)) (record {
              name = name;
              k = 0;
              left = zero_count q.block;
              is = record {
                named = ap (block_name calls) (sym same) ∙ found.2;
                inserted = there;
                along = first_arm q.block ∷ [];
                follows = (OpenArms.start_open (more_coming calls carries.tables coming) carries.own f s carries.tables carries.describes q.block entry, refl, tt);
                ends = refl;
                counted = omega arith;
                first = inr refl;
                given = given;
              };
            })
          where
            given : (r : ℕ) → r < length f.values → resolved f r ≡ r → Visits (function r).home (first_arm q.block ∷ []) → IsGivenFor (at q.block 0) [] r ⊎ IsAhead (at q.block 0) (zero_count q.block) r
            given r exists itself (inl here) = entering q.block [] r (at_front q.block r exists itself there here)
            given r exists itself (inr none) = absurd none

    -- on from a place
    pub onward : (p : Place ℕ) (path : List (Place ℕ)) → p.index < length (items_of f p.block) → Standing p path → Standing (at p.block (suc p.index)) (p ∷ path)
    onward p path below before = by before.left before.is
      where
        by : (left : ℕ) → IsBeside p path before.name before.k left → Standing (at p.block (suc p.index)) (p ∷ path)
        by (suc left) b = record { name = before.name; k = before.k; left = left; is = over_zero p path before.name before.k left b }
        by zero b = ahead (forward p path before.name (drop before.k (items before.name)) before.k refl b)
          where
            ahead : Forward p path before.name → Standing (at p.block (suc p.index)) (p ∷ path)
            ahead found = stops found.stops
              where
                stops : IsInstruct before.name found.j ⊎ (drop found.j (items before.name) ≡ []) → Standing (at p.block (suc p.index)) (p ∷ path)
                stops (inl item) =
                    let a : AtInstruct p path before.name = at_instruct p path before.name found.j item found.is in
                    record { name = before.name; k = suc a.j; left = 0; is = over_instruct p path before.name a }
                stops (inr none) = absurd (omega (arith, below, past_all p path before.name found.j found.is none))

    -- along an edge from a place
    elsewhere : (p q : Place ℕ) (path : List (Place ℕ)) → p.index < length (items_of f p.block) → Standing p path → Contains (of_function.flow.targets p) q.block
        → q.index ≡ 0 → IsInserted q.block → Standing q (p ∷ path)
    elsewhere p q path below before leads index there_inserted = by (what_stands p path before.name before.k before.left before.is below)
      where
        by : AtZero p ⊎ AtInstruct p path before.name → Standing q (p ∷ path)
        by (inl z) =
            let none : edges_of (inst_at f z.i).shape ≡ [] = ap (map edge_of) z.is_zero.no_edges in
            absurd (none_of (of_function.flow.targets p) q.block (ap placed_targets z.here ∙ ap (map (λ (edge : Edge ℕ ℕ). edge.target)) none) leads)
        by (inr a) =
            let there = contained_at (map (λ (edge : Edge ℕ ℕ). edge.target) (edges_of (inst_at f a.i).shape)) q.block
            (subst (λ (o : Option Placed). Contains (placed_targets o) q.block) a.here leads) in
            let edge = map_from (λ (edge : Edge ℕ ℕ). edge.target) (edges_of (inst_at f a.i).shape) there.0 q.block there.1 in
            let call = map_from edge_of (destinations (inst_at f a.i).shape) there.0 edge.0 edge.1 in
            let block : call.0.block ≡ q.block = ap (λ (e : Edge ℕ ℕ). e.target) call.2 ∙ edge.2 in
            let inserted : IsInserted call.0.block = subst IsInserted (sym block) there_inserted in
            subst (λ (x : Place ℕ). Standing x (p ∷ path)) (sym (same_place_of q call.0.block 0 (sym block) index)) (record {
              name = (of_program p path before.name a there.0 call.0 call.1).0.target;
              k = 0;
              left = zero_count call.0.block;
              is = along_edge p path before.name a there.0 call.0 call.1 inserted;
            })

    -- Along an edge that may still come -------------------------------------------------------------------------------------------

    -- the arm to an item comes from the place before it
    pub step_to : (arm : Arm) (path : Path) (b k : ℕ) → Follows edges (arm ∷ path) → arm.target ≡ inside b (suc k)
        → (k < carries.tables.count b) × (end_of path ≡ inside b k)
    step_to arm path b k follows ends =
        let item = OpenFlow.to_item coming calls f s consistent carries arm b k follows.0 ends in
        (item.below, sym follows.1 ∙ item.source)

    -- no path goes behind the last item
    pub no_further : (path : Path) (b k : ℕ) → Follows edges path → end_of path ≡ inside b k → k ≤ carries.tables.count b
    no_further path b zero follows ends = omega arith
    no_further [] b (suc k) follows ends = cc
    no_further (arm ∷ path) b (suc k) follows ends = let below = (step_to arm path b k follows ends).0 in omega (arith, below)

    -- behind the last instruction of a block a path stands at its end so far
    pub record AtEnd (q : Place ℕ) (path : List (Place ℕ)) (name : Name) : Type 0 where
      pub k : ℕ
      pub is : IsBeside q path name k 0
      pub is_end : k ≡ carries.tables.count q.block

    pub at_end : (q : Place ℕ) (path : List (Place ℕ)) (name : Name) (k left : ℕ) → q.index ≡ length (items_of f q.block) → IsBeside q path name k left
        → AtEnd q path name
    at_end q path name k (suc left) last b =
        let all = counted_twice calls (items name) k in
        let count = block_count q.block name b.inserted b.named in
        absurd (omega (arith, b.counted, all, count, last))
    at_end q path name k zero last b = by (forward q path name (drop k (items name)) k refl b)
      where
        by : Forward q path name → AtEnd q path name
        by ahead = stops ahead.stops
          where
            stops : IsInstruct name ahead.j ⊎ (drop ahead.j (items name) ≡ []) → AtEnd q path name
            stops (inl item) =
                let a = at_instruct q path name ahead.j item ahead.is in
                absurd (omega (arith, last, place_within (items_of f q.block) q.index (placed_inst a.i) a.here))
            stops (inr none) =
                let behind = nothing_behind (items name) ahead.j none in
                let count = carries.program.counts q.block name ahead.is.named in
                let within_block = no_further ahead.is.along q.block ahead.j ahead.is.follows ahead.is.ends in
                record { k = ahead.j; is = ahead.is; is_end = omega (arith, behind, count, within_block) }

    module _ (p : Place ℕ) (path : List (Place ℕ)) (name : Name) (end : AtEnd p path name) (target : Name) (listed : Contains (coming name) target) where
      abbrev to_block : ℕ
      to_block = answered calls target

      arm_coming : Arm
      arm_coming = record { source = inside p.block end.k; target = front to_block; edge = 0 }

      may_be : more_coming calls carries.tables coming to_block arm_coming ≡ true
      unfolding arm_coming
      may_be =
          let last : (end.k == carries.tables.count p.block) ≡ true = number_equal end.k (carries.tables.count p.block) end.is_end in
          ap (comes_into calls carries.tables coming (inside p.block end.k)) (may.blocks name target listed)
          ∙ ap (λ (test : Bool). test && comes_to coming target (block_name calls p.block)) last
          ∙ ap (comes_to coming target) end.is.named ∙ name_listed target (coming name) listed

      open_there : edges arm_coming ≡ true
      unfolding arm_coming
      open_there =
          OpenArms.more_open (more_coming calls carries.tables coming) carries.own f s carries.tables carries.describes to_block arm_coming refl
          (carries.describes.sealed to_block ∙ ap (λ (t : Bool). t && has_entry f.layout) (may.unsealed name target listed)) may_be

      along_coming : IsInserted to_block → IsBeside (at to_block 0) (p ∷ path) target 0 (zero_count to_block)
      unfolding arm_coming
      along_coming there = record {
        named = may.blocks name target listed;
        inserted = there;
        along = arm_coming ∷ end.is.along;
        follows = (open_there, sym end.is.ends, end.is.follows);
        ends = refl;
        counted = omega arith;
        first = inr refl;
        given = by;
      }
        where
          by : (r : ℕ) → r < length f.values → resolved f r ≡ r → Visits (function r).home (arm_coming ∷ end.is.along)
              → IsGivenFor (at to_block 0) (p ∷ path) r ⊎ IsAhead (at to_block 0) (zero_count to_block) r
          by r exists itself (inl here) = entering to_block (p ∷ path) r (at_front to_block r exists itself there here)
          by r exists itself (inr before) = inl (inr (kept p path r (end.is.given r exists itself before)))

    arrives : (p q : Place ℕ) (path : List (Place ℕ)) → p.index ≡ length (items_of f p.block) → Standing p path
        → Contains (numbers_coming coming calls (block_name calls p.block)) q.block → q.index ≡ 0 → IsInserted q.block → Standing q (p ∷ path)
    arrives p q path last before leads index there =
        by (at_end p path before.name before.k before.left last before.is)
        (subst (λ (o : Option Name). Contains (numbers_coming coming calls o) q.block) before.is.named leads)
      where
        by : AtEnd p path before.name → Contains (map (answered calls) (coming before.name)) q.block → Standing q (p ∷ path)
        by end among =
            let stands = contained_at (map (answered calls) (coming before.name)) q.block among in
            let from = map_from (answered calls) (coming before.name) stands.0 q.block stands.1 in
            let listed : Contains (coming before.name) from.0 = contained (coming before.name) stands.0 from.0 from.1 in
            subst (λ (x : Place ℕ). Standing x (p ∷ path)) (sym (same_place_of q (answered calls from.0) 0 (sym from.2) index)) (record {
              name = from.0;
              k = 0;
              left = zero_count (answered calls from.0);
              is = along_coming p path before.name end from.0 listed (subst IsInserted (sym from.2) there);
            })

    pub beside : (path : List (Place ℕ)) (q : Place ℕ) → IsPath flow_coming (q ∷ path) → Standing q path
    beside [] q walk = starts q walk.0 walk.1.0 (within [] q walk).0
    beside (p ∷ path) q walk = by walk.0 (beside path p walk.1)
      where
        there : IsInserted q.block × (q.index ≤ length (items_of f q.block))
        there = within (p ∷ path) q walk

        along : (o : Option Placed) → slice_get (items_of f p.block) p.index ≡ o
            → Contains (placed_targets_with (numbers_coming coming calls (block_name calls p.block)) o) q.block → q.index ≡ 0 → Standing p path → Standing q (p ∷ path)
        along None none leads index before =
            let past = past_end (items_of f p.block) p.index none in
            let inside_block = (within path p walk.1).1 in
            arrives p q path (omega (arith, past, inside_block)) before leads index there.0
        along (Some placed) stands leads index before =
            elsewhere p q path (place_within (items_of f p.block) p.index placed stands) before
            (subst (λ (o : Option Placed). Contains (placed_targets o) q.block) (sym stands) leads) index there.0

        by : Leads flow_coming p q → Standing p path → Standing q (p ∷ path)
        by (inl next) before =
            let one : q.index ≡ suc p.index = omega (arith, next.1) in
            let below : q.index ≤ length (items_of f p.block) = subst (λ (b : ℕ). q.index ≤ length (items_of f b)) next.0 there.1 in
            subst (λ (x : Place ℕ). Standing x (p ∷ path)) (sym (same_place_of q p.block (suc p.index) next.0 one)) (onward p path (omega (arith, one, below)) before)
        by (inr enters) before = along (slice_get (items_of f p.block) p.index) refl enters.0 enters.1.0 before

    more_size : (b k : ℕ) → k < length (items_of f b) → k < flow_coming.size b
    more_size b k below = by (stands_in b f.layout) (has_place b k below)
      where
        by : (t : Bool) → t ≡ true → k < (if t then suc (length (items_of f b)) else 0)
        by true there = omega (arith, below)
        by false there = let no_way : ⊥ = cc in absurd no_way

    -- a path of the function's places is one of these
    pub more_paths : (path : List (Place ℕ)) (q : Place ℕ) → IsPath (function_flow (view_of f)) (q ∷ path) → IsPath flow_coming (q ∷ path)
    more_paths [] q walk = (walk.0, (walk.1.0, more_size q.block 0 walk.1.1))
    more_paths (p ∷ path) q walk = (by walk.0, more_paths path p walk.1)
      where
        more_targets : (o : Option Placed) → Contains (placed_targets o) q.block
            → Contains (placed_targets_with (numbers_coming coming calls (block_name calls p.block)) o) q.block
        more_targets None leads = absurd (none_of (placed_targets None) q.block refl leads)
        more_targets (Some placed) leads = leads

        by : Leads (function_flow (view_of f)) p q → Leads flow_coming p q
        by (inl next) = inl (next.0, next.1, more_size q.block q.index next.2)
        by (inr enters) = inr (more_targets (slice_get (items_of f p.block) p.index) enters.0, (enters.1.0, more_size q.block 0 enters.1.1))
