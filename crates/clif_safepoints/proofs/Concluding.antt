-- The analysis of a function, from its parts.
use Rattle.std.proofs.Common.{◌≡◌, ◌+◌, ◌*◌, ◌<◌, ◌≤◌, ◌⊎◌, ℕ, zero, suc, Bool, true, false, List, [], ◌∷◌, ◌++◌, length, map, get_or, length-append, refl, sym, ap, subst, ◌∙◌, arith, inl, inr, Option, Some, None, slice_index}
use Rattle.std.specs.Prelude.{Contains, slice_get, if◌then◌else◌, sum_by}
use Rattle.std.specs.List.{flat_map}
use Rattle.std.specs.List.Sorted.{IsStrictlyIncreasing}
use Rattle.std.proofs.lemmas.Bool.{false≢true}
use Rattle.std.proofs.lemmas.List.{get_or_default, map-append}
use Rattle.std.proofs.lemmas.Option.{get_or_from_slice_get, slice_get_within}
use Rattle.std.proofs.Math.ListN.{get_or-eq_default}
use Rattle.std.proofs.lemmas.List.Concat.{length-flat_map}
use Rattle.std.proofs.Math.Path.{fun_ext}
use Rattle.std.proofs.lemmas.List.Elements.{All-contains, Contains-append_cases, Contains-append_left, Contains-append_right, Contains-get_or}
use Rattle.clif_instructions.specs.declared.block_call.BlockCall.{BlockCall}
use Rattle.clif_instructions.specs.Edges.{targets}
use Rattle.clif_instructions.specs.declared.instructions.InstructionData.{InstructionData}
use Rattle.clif_instructions.specs.declared.instructions.InstructionData.TheVariants.{UnaryImm, UnaryIeee, UnaryConst, Unary, Binary, IntCompare, Concat, Split, Convert, Ternary, Load, Store, StackLoad, StackStore, Jump, Brif, BranchTable, MultiAry, Trap, CondTrap, Call, CallIndirect, TryCall, TryCallIndirect}
use Rattle.clif_instructions.specs.Instruction.{destinations, exception_table, is_call}
use Rattle.clif_instructions.specs.Members.{stands_in}
use Rattle.clif_instructions.proofs.Members.{place_of-first}
use Rattle.clif_ir.specs.Body.{Body, block_at, inst_at}
use Rattle.clif_ir.specs.Consistent.{EdgeExists, IsConsistent}
use Rattle.clif_ir.specs.Reading.{place_in_block}
use Rattle.clif_meaning.specs.FunctionView.{Placed}
use Rattle.clif_meaning.specs.Instruction.{Edge}
use Rattle.clif_meaning.specs.Path.{IsPath, IsReachable, Leads, Place}
use Rattle.clif_meaning.specs.View.{edge_of, operation_of, placed_of, view_of}
use Rattle.clif_meaning.specs.WellPlaced.{edge_targets, function_flow, placed_at, placed_gives, placed_targets}
use Rattle.clif_safepoints.specs.Analysis.{IsAnalysis, IsBlockOrder, IsExact, IsReached, IsTracedAcross, edges_from, place_of_inst}
use Rattle.clif_safepoints.specs.Fronts.{IsFinished, at}
use Rattle.clif_safepoints.specs.Graph.{IsClosed, IsOrder, leads_to}
use Rattle.clif_safepoints.specs.FrontTables.{AreFronts, FrontTables}
use Rattle.clif_safepoints.specs.LastPass.{IsListedBy, IsRow, is_live_across, row_at}
use Rattle.clif_safepoints.specs.Liveness.{IsLiveAcross, IsUsedAhead, every_argument}
use Rattle.clif_safepoints.specs.Order.{IsDepthFirst, IsSorted, IsWay, first_to_back, followed, followed_blocks, followed_targets}
use Rattle.clif_safepoints.specs.Sets.{in_set_of}
use Rattle.clif_safepoints.specs.Tables.{AreRows}
use Rattle.clif_safepoints.specs.Transfer.{in_order, insts_of, successors_of, targets_followed, targets_from}
use Rattle.clif_safepoints.proofs.Following.{followed_from, followed_long, followed_to}
use Rattle.clif_safepoints.proofs.FrontLists.{AreSolved, exact_after, exact_in}
use Rattle.clif_safepoints.proofs.Unaliased.{ahead_unaliased}
use Rattle.clif_safepoints.proofs.Paths.{across_from, across_to, block_reached, contained_in_map, contains_at, contains_map, place_of_member, items_are, placed_is, placed_none, reached_inside, size_is, stands_from, stands_to, targets_are}
use Rattle.clif_safepoints.proofs.Recording.{inst_home}

-- REACHED BLOCKS --------------------------------------------------------------------------------------------------------

-- a target of the instructions of a list, and the place of the instruction whose edge leads there
pub target_at : (f : Body) (insts : List ℕ) (t : ℕ) → Contains (targets_from f insts) t → (k inst : ℕ) × (slice_get insts k ≡ Some inst) × Contains (targets (destinations (inst_at f inst).shape)) t
target_at f [] t h = absurd (omega (arith, h.1))
target_at f (i ∷ insts) t h = by (target_at f insts t) (Contains-append_cases (targets_followed (inst_at f i).shape) (targets_from f insts) t h)
  where
    by : (Contains (targets_from f insts) t → (k inst : ℕ) × (slice_get insts k ≡ Some inst) × Contains (targets (destinations (inst_at f inst).shape)) t)
        → Contains (targets_followed (inst_at f i).shape) t ⊎ Contains (targets_from f insts) t
        → (k inst : ℕ) × (slice_get (i ∷ insts) k ≡ Some inst) × Contains (targets (destinations (inst_at f inst).shape)) t
    by rest (inl here) = (0, i, refl, followed_to (inst_at f i).shape t here)
    by rest (inr later) = let at = rest later in (suc at.0, at.1, at.2, at.3)

target_from : (f : Body) (insts : List ℕ) (k inst t : ℕ) → slice_get insts k ≡ Some inst → Contains (targets (destinations (inst_at f inst).shape)) t → Contains (targets_from f insts) t
target_from f [] k inst t at h = cc
target_from f (i ∷ insts) zero inst t at h =
    let e : inst ≡ i = (let both : Some i ≡ Some inst = at in cc) in
    Contains-append_left (targets_followed (inst_at f i).shape) (targets_from f insts) t
    (followed_from (inst_at f i).shape t (subst (λ x. Contains (targets (destinations (inst_at f x).shape)) t) e h))
target_from f (i ∷ insts) (suc k) inst t at h =
    Contains-append_right (targets_followed (inst_at f i).shape) (targets_from f insts) t (target_from f insts k inst t at h)

-- the targets of a place are those of its instruction's edges
pub place_targets : (f : Body) (b k inst t : ℕ) → slice_get (insts_of f b) k ≡ Some inst → Contains (targets (destinations (inst_at f inst).shape)) t
    → Contains ((function_flow (view_of f)).targets (at b k)) t
place_targets f b k inst t is h =
    let edge = contained_in_map (λ (e : BlockCall). e.block) (destinations (inst_at f inst).shape) t h in
    subst (λ (o : Option Placed). Contains (placed_targets o) t) (sym (placed_is f b k inst is))
    (subst (λ x. Contains (map (λ (e : Edge ℕ ℕ). e.target) (map edge_of (destinations (inst_at f inst).shape))) x) edge.2
    (contains_map (λ (e : Edge ℕ ℕ). e.target) (map edge_of (destinations (inst_at f inst).shape)) (edge_of edge.0)
    (contains_map edge_of (destinations (inst_at f inst).shape) edge.0 edge.1)))

-- a place from which an edge goes has an instruction
inst_of : (f : Body) (b k t : ℕ) → Contains ((function_flow (view_of f)).targets (at b k)) t → (inst : ℕ) × (slice_get (insts_of f b) k ≡ Some inst)
inst_of f b k t h = by (slice_get (insts_of f b) k) refl
  where
    by : (o : Option ℕ) → slice_get (insts_of f b) k ≡ o → (inst : ℕ) × (slice_get (insts_of f b) k ≡ Some inst)
    by (Some inst) is = (inst, is)
    by None is = absurd (omega (arith, (subst (λ (o : Option Placed). Contains (placed_targets o) t) (placed_none f b k is) h).1))

-- where an edge leads, the instructions of the block lead
successor_from : (f : Body) (b k t : ℕ) → Contains ((function_flow (view_of f)).targets (at b k)) t → Contains (successors_of f b) t
successor_from f b k t h =
    let inst = inst_of f b k t h in
    let edge = targets_are f b k inst.0 t inst.1 h in
    target_from f (insts_of f b) k inst.0 t inst.1
    (subst (λ x. Contains (targets (destinations (inst_at f inst.0).shape)) x) edge.2
    (contains_map (λ (e : BlockCall). e.block) (destinations (inst_at f inst.0).shape) edge.0 edge.1))

-- the lists of a graph are those of the function
pub record IsGraphOf (f : Body) (graph : List (List ℕ)) : Type 0 where
  pub size : length graph ≡ length f.blocks
  pub rows : (b : ℕ) → b < length f.blocks → leads_to graph b ≡ successors_of f b

leads_from : (f : Body) (graph : List (List ℕ)) → IsGraphOf f graph → (b t : ℕ) → Contains (leads_to graph b) t → Contains (successors_of f b) t
leads_from f graph is b t h = by (order b (length f.blocks))
  where
    order : (i j : ℕ) → (i < j) ⊎ (j ≤ i)
    order i j = grind arith

    by : (b < length f.blocks) ⊎ (length f.blocks ≤ b) → Contains (successors_of f b) t
    by (inl inside) = subst (λ xs. Contains xs t) (is.rows b inside) h
    by (inr past) =
        let e : leads_to graph b ≡ [] = get_or-eq_default graph [] (subst (λ n. n ≤ b) (sym is.size) past) in
        absurd (let none = subst (λ xs. Contains xs t) e h in omega (arith, none.1))

-- a way leads to blocks that are reached
way_reaches : (f : Body) (graph : List (List ℕ)) → IsGraphOf f graph → (way : List ℕ) (b : ℕ) → IsWay (leads_to graph) (slice_get f.layout 0) (b ∷ way) → IsReached (view_of f) b
way_reaches f graph is [] b walk = inl walk
way_reaches f graph is (a ∷ way) b walk =
    let before = way_reaches f graph is way a walk.1 in
    let from = target_at f (insts_of f a) b (leads_from f graph is a b walk.0) in
    let inside = slice_get_within (insts_of f a) from.0 from.1 from.2 in
    inr (at a from.0, reached_inside f a before from.0 inside, place_targets f a from.0 from.1 b from.2 from.3)

-- and a path comes to blocks to which ways lead
path_inside : (f : Body) (graph : List (List ℕ)) (order : List ℕ) → IsGraphOf f graph → IsOrder graph (slice_get f.layout 0) order → (path : List (Place ℕ)) (p : Place ℕ)
    → IsPath (function_flow (view_of f)) (p ∷ path) → (way : List ℕ) × IsWay (leads_to graph) (slice_get f.layout 0) (p.block ∷ way)
path_inside f graph order is ordered [] p start = ([], start.0)
path_inside f graph order is ordered (q ∷ path) p walk = by (path_inside f graph order is ordered path q walk.1) walk.0
  where
    by : (way : List ℕ) × IsWay (leads_to graph) (slice_get f.layout 0) (q.block ∷ way) → Leads (function_flow (view_of f)) q p → (way : List ℕ) × IsWay (leads_to graph) (slice_get f.layout 0) (p.block ∷ way)
    by before (inl next) = (before.0, subst (λ b. IsWay (leads_to graph) (slice_get f.layout 0) (b ∷ before.0)) (sym next.0) before.1)
    by before (inr edge) =
        let member : Contains order q.block = ordered.all q.block before.0 before.1 in
        let there : q.block < length f.blocks = subst (λ n. q.block < n) is.size (All-contains (λ b. b < length graph) order q.block ordered.exist member) in
        (q.block ∷ before.0, (subst (λ xs. Contains xs p.block) (sym (is.rows q.block there)) (successor_from f q.block q.index p.block edge.0), before.1))

pub order_reached : (f : Body) (graph : List (List ℕ)) (order : List ℕ) → IsGraphOf f graph → IsOrder graph (slice_get f.layout 0) order → (b : ℕ) → Contains order b → IsReached (view_of f) b
order_reached f graph order is ordered b h = let way = ordered.reached b h in way_reaches f graph is way.0 b way.1

pub reached_order : (f : Body) (graph : List (List ℕ)) (order : List ℕ) → IsGraphOf f graph → IsOrder graph (slice_get f.layout 0) order → (b : ℕ) → IsReached (view_of f) b → Contains order b
reached_order f graph order is ordered b (inl entry) = ordered.all b [] entry
reached_order f graph order is ordered b (inr from) =
    let way = path_inside f graph order is ordered from.1.0 from.0 from.1.1 in
    let member : Contains order from.0.block = ordered.all from.0.block way.0 way.1 in
    let there : from.0.block < length f.blocks = subst (λ n. from.0.block < n) is.size (All-contains (λ c. c < length graph) order from.0.block ordered.exist member) in
    ordered.all b (from.0.block ∷ way.0) (subst (λ xs. Contains xs b) (sym (is.rows from.0.block there)) (successor_from f from.0.block from.0.index b from.2), way.1)

-- EDGES -----------------------------------------------------------------------------------------------------------------

flat_alike : {X Y : Type 0} (g h : X → List Y) (xs : List X) → ((x : X) → g x ≡ h x) → flat_map g xs ≡ flat_map h xs
flat_alike g h [] same = refl
flat_alike g h (x ∷ xs) same = ap (λ ys. ys ++ flat_map g xs) (same x) ∙ ap (λ ys. h x ++ ys) (flat_alike g h xs same)

flat_of_map : {X Y Z : Type 0} (g : Y → List Z) (h : X → Y) (xs : List X) → flat_map g (map h xs) ≡ flat_map (λ x. g (h x)) xs
flat_of_map g h [] = refl
flat_of_map g h (x ∷ xs) = ap (λ ys. g (h x) ++ ys) (flat_of_map g h xs)

edge_targets_are : (edges : List BlockCall) → map (λ (e : Edge ℕ ℕ). e.target) (map edge_of edges) ≡ targets edges
edge_targets_are [] = refl
edge_targets_are (e ∷ edges) = ap (λ xs. e.block ∷ xs) (edge_targets_are edges)

-- the blocks to which a block leads, in the order in which a search follows its edges
first_to_back_map : {X Y : Type 0} (g : X → Y) (xs : List X) → map g (first_to_back xs) ≡ first_to_back (map g xs)
first_to_back_map g [] = refl
first_to_back_map g (x ∷ xs) = map-append g xs (x ∷ [])

followed_is : (f : Body) (inst : ℕ) → followed_targets (placed_of f inst) ≡ targets_followed (inst_at f inst).shape
followed_is f inst = by (inst_at f inst).shape ∙ ap (in_order (exception_table (inst_at f inst).shape)) (edge_targets_are (destinations (inst_at f inst).shape))
  where
    by : (shape : InstructionData) → followed (operation_of f.tables shape) (map (λ (e : Edge ℕ ℕ). e.target) (map edge_of (destinations shape)))
        ≡ in_order (exception_table shape) (map (λ (e : Edge ℕ ℕ). e.target) (map edge_of (destinations shape)))
    by (UnaryImm imm) = refl
    by (UnaryIeee opcode bits) = refl
    by (UnaryConst opcode constant) = refl
    by (Unary opcode arg) = refl
    by (Binary opcode args) = refl
    by (IntCompare condition args) = refl
    by (Concat args) = refl
    by (Split arg) = refl
    by (Convert opcode arg) = refl
    by (Ternary args) = refl
    by (Load flags arg offset) = refl
    by (Store flags args offset) = refl
    by (StackLoad opcode slot offset) = refl
    by (StackStore arg slot offset) = refl
    by (Jump destination) = refl
    by (Brif arg blocks) = refl
    by (BranchTable arg table) = refl
    by (MultiAry args) = refl
    by (Trap reason) = refl
    by (CondTrap opcode arg reason) = refl
    by (Call function args) = refl
    by (CallIndirect sig args) = refl
    by (TryCall function args table) = refl
    by (TryCallIndirect args table) = refl

pub followed_blocks_are : (f : Body) (b : ℕ) → followed_blocks (view_of f) b ≡ successors_of f b
followed_blocks_are f b =
    ap (flat_map followed_targets) (items_are f b) ∙ flat_of_map followed_targets (placed_of f) (insts_of f b)
    ∙ flat_alike (λ inst. followed_targets (placed_of f inst)) (λ inst. targets_followed (inst_at f inst).shape) (insts_of f b) (followed_is f)

-- how many edges leave a block
edges_long : (f : Body) (insts : List ℕ)
    → length (flat_map (λ (placed : Placed). edge_targets placed.instruction) (map (placed_of f) insts)) ≡ length (targets_from f insts)
edges_long f [] = refl
edges_long f (i ∷ insts) =
    length-append (edge_targets (placed_of f i).instruction) (flat_map (λ (placed : Placed). edge_targets placed.instruction) (map (placed_of f) insts))
    ∙ ap (λ n. n + length (flat_map (λ (placed : Placed). edge_targets placed.instruction) (map (placed_of f) insts)))
    (ap length (edge_targets_are (destinations (inst_at f i).shape)) ∙ sym (followed_long (inst_at f i).shape))
    ∙ ap (λ n. length (targets_followed (inst_at f i).shape) + n) (edges_long f insts)
    ∙ sym (length-append (targets_followed (inst_at f i).shape) (targets_from f insts))

edge_count : (f : Body) (order : List ℕ) → length (flat_map (successors_of f) order) ≡ sum_by (edges_from (view_of f)) order
edge_count f order = length-flat_map (successors_of f) order ∙ ap (λ (count : ℕ → ℕ). sum_by count order) (fun_ext (λ b. sym (own b)))
  where
    own : (b : ℕ) → edges_from (view_of f) b ≡ length (successors_of f b)
    own b = ap (λ items. length (flat_map (λ (placed : Placed). edge_targets placed.instruction) items)) (items_are f b) ∙ edges_long f (insts_of f b)

-- the order as the machines see the function
leads_alike : (f : Body) (graph : List (List ℕ)) → IsConsistent f → IsGraphOf f graph → leads_to graph ≡ followed_blocks (view_of f)
leads_alike f graph kept is = fun_ext (λ b. by b (order b (length f.blocks)) ∙ sym (followed_blocks_are f b))
  where
    order : (i j : ℕ) → (i < j) ⊎ (j ≤ i)
    order i j = grind arith

    away : (b : ℕ) → length f.blocks ≤ b → (c : Bool) → stands_in b f.layout ≡ c → targets_from f (if c then (block_at f b).insts else []) ≡ []
    away b past true stands =
        let at = stands_to b f.layout stands in
        let below = kept.layout_exists at.0 at.1 in
        let same : slice_index f.layout at.0 ≡ b = get_or_default f.layout at.0 0 b at.1 ∙ at.2 in absurd (omega (arith, past, below, same))
    away b past false stands = refl

    by : (b : ℕ) → (b < length f.blocks) ⊎ (length f.blocks ≤ b) → leads_to graph b ≡ successors_of f b
    by b (inl inside) = is.rows b inside
    by b (inr past) = get_or-eq_default graph [] (subst (λ n. n ≤ b) (sym is.size) past) ∙ sym (away b past (stands_in b f.layout) refl)

pub block_order : (f : Body) (graph : List (List ℕ)) (order : List ℕ) → IsConsistent f → IsGraphOf f graph → IsOrder graph (slice_get f.layout 0) order → IsBlockOrder (view_of f) order
block_order f graph order kept is ordered = record {
  depth_first = subst (λ leads. IsDepthFirst leads (slice_get f.layout 0) order) (leads_alike f graph kept is) ordered.depth_first;
  once = ordered.once;
  reached = λ b. (order_reached f graph order is ordered b, reached_order f graph order is ordered b);
  sorted = subst (λ leads. IsSorted leads (slice_get f.layout 0) order) (leads_alike f graph kept is) ordered.sorted;
}

-- INSTRUCTIONS ----------------------------------------------------------------------------------------------------------

-- where an instruction stands that is a call of a block of the order
pub record IsFoundAt (f : Body) (order : List ℕ) (inst place : ℕ) : Type 0 where
  pub member : Contains order (inst_at f inst).block
  pub here : slice_get (insts_of f (inst_at f inst).block) place ≡ Some inst
  pub call : is_call (inst_at f inst).shape ≡ true

found_or_not : (f : Body) (order : List ℕ) (inst : ℕ) → ((place : ℕ) × IsFoundAt f order inst place) ⊎ ((place : ℕ) → IsFoundAt f order inst place → ⊥)
found_or_not f order inst =
    by (is_call (inst_at f inst).shape) refl (stands_in (inst_at f inst).block order) refl (stands_in inst (insts_of f (inst_at f inst).block)) refl
  where
    by : (c : Bool) → is_call (inst_at f inst).shape ≡ c → (d : Bool) → stands_in (inst_at f inst).block order ≡ d → (e : Bool) → stands_in inst (insts_of f (inst_at f inst).block) ≡ e
        → ((place : ℕ) × IsFoundAt f order inst place) ⊎ ((place : ℕ) → IsFoundAt f order inst place → ⊥)
    by true call true member true stands =
        let there = place_of_member (insts_of f (inst_at f inst).block) inst (stands_to inst (insts_of f (inst_at f inst).block) stands) in
        inl (there.0, record { member = stands_to (inst_at f inst).block order member; here = there.1; call = call })
    by false none d member e stands = inr (λ place h. false≢true (sym none ∙ h.call))
    by true call false none e stands = inr (λ place h. false≢true (sym none ∙ stands_from (inst_at f inst).block order h.member))
    by true call true member false none =
        inr (λ place h. false≢true (sym none ∙ stands_from inst (insts_of f (inst_at f inst).block) (contains_at (insts_of f (inst_at f inst).block) place inst h.here)))

-- its place is the one that is told
found_place : (f : Body) → IsConsistent f → (order : List ℕ) (inst place : ℕ) → IsFoundAt f order inst place → place_of_inst f inst ≡ at (inst_at f inst).block place
found_place f kept order inst place h = ap (at (inst_at f inst).block) told
  where
    home : slice_get (block_at f (inst_at f inst).block).insts place ≡ Some inst
    home = (inst_home f kept (inst_at f inst).block place inst h.here).3

    inside : place < length (block_at f (inst_at f inst).block).insts
    inside = slice_get_within (block_at f (inst_at f inst).block).insts place inst home

    told : place_in_block f inst ≡ place
    told =
        place_of-first (block_at f (inst_at f inst).block).insts place inst inside (get_or_from_slice_get (block_at f (inst_at f inst).block).insts place inst 0 home)
        (λ j before same. kept.insts_once (inst_at f inst).block j place before inside (same ∙ sym (get_or_from_slice_get (block_at f (inst_at f inst).block).insts place inst 0 home)))

-- a place that a path comes to is one of its block
pub path_size : (f : Body) (path : List (Place ℕ)) (p : Place ℕ) → IsPath (function_flow (view_of f)) (p ∷ path) → p.index < (function_flow (view_of f)).size p.block
path_size f [] p start = let first = start.1.0 in let some = start.1.1 in omega (arith, first, some)
path_size f (q ∷ path) p walk = by walk.0
  where
    by : Leads (function_flow (view_of f)) q p → p.index < (function_flow (view_of f)).size p.block
    by (inl next) = subst (λ b. p.index < (function_flow (view_of f)).size b) refl next.2
    by (inr edge) = let first = edge.1.0 in let some = edge.1.1 in omega (arith, first, some)

-- a block with instructions is in the layout, and has all of its own
layout_has : (f : Body) (b k : ℕ) → k < length (insts_of f b) → insts_of f b ≡ (block_at f b).insts
layout_has f b k = by (stands_in b f.layout)
  where
    by : (c : Bool) → k < length (if c then (block_at f b).insts else []) → (if c then (block_at f b).insts else []) ≡ (block_at f b).insts
    by true inside = refl
    by false inside = absurd (omega (arith, inside))

-- a call that is reached is found
traced_found : (f : Body) → IsConsistent f → (recorded : List ℕ) (graph : List (List ℕ)) (order : List ℕ) → IsGraphOf f graph → IsOrder graph (slice_get f.layout 0) order → (inst v : ℕ)
    → IsTracedAcross f recorded inst v → (place : ℕ) × IsFoundAt f order inst place
traced_found f kept recorded graph order is ordered inst v h =
    let size : (place_of_inst f inst).index < length (insts_of f (inst_at f inst).block) =
    subst (λ n. (place_of_inst f inst).index < n) (size_is f (inst_at f inst).block) (path_size f h.reachable.0 (place_of_inst f inst) h.reachable.1) in
    let stands = (kept.insts_stand inst h.exists).1 in
    let own : Contains (block_at f (inst_at f inst).block).insts inst = (stands.0, stands.1, get_or_default (block_at f (inst_at f inst).block).insts stands.0 inst 0 stands.1 ∙ stands.2) in
    let there = place_of_member (insts_of f (inst_at f inst).block) inst
    (subst (λ xs. Contains xs inst) (sym (layout_has f (inst_at f inst).block (place_of_inst f inst).index size)) own) in (
      there.0,
      record {
        member = reached_order f graph order is ordered (inst_at f inst).block (block_reached f h.reachable.0 (place_of_inst f inst) h.reachable.1);
        here = there.1;
        call = h.call;
      },
    )

-- THE ANALYSIS ----------------------------------------------------------------------------------------------------------

-- all that its parts told
pub record Parts (f : Body) (recorded : List ℕ) (graph : List (List ℕ)) (order : List ℕ) (sets : List (List Bool)) (rows : List (List ℕ)) (tables : FrontTables) (handled : ℕ) : Type 0 where
  pub kept : IsConsistent f
  pub rising : IsStrictlyIncreasing recorded
  pub graph_is : IsGraphOf f graph
  pub ordered : IsOrder graph (slice_get f.layout 0) order
  pub finished : IsFinished f recorded order sets handled
  pub listed : IsListedBy f recorded sets order rows
  pub fronts : AreFronts f recorded sets order tables

exact_found : (f : Body) (recorded : List ℕ) (graph : List (List ℕ)) (order : List ℕ) (sets : List (List Bool)) (rows : List (List ℕ)) (tables : FrontTables) (handled : ℕ) → Parts f recorded graph order sets rows tables handled
    → (inst place : ℕ) → IsFoundAt f order inst place → IsExact f recorded inst (row_at rows inst)
exact_found f recorded graph order sets rows tables handled parts inst place found = record {
  rising = row.rising;
  members = λ v. (λ h. traced v ((row.members v).0 h), λ h. (row.members v).1 (listed v h));
}
  where
    block : ℕ
    block = (inst_at f inst).block

    row : IsRow recorded (is_live_across f recorded sets (insts_of f (inst_at f inst).block) place inst) (row_at rows inst)
    row = parts.listed.calls (inst_at f inst).block place inst found.member found.here found.call

    reached : IsReached (view_of f) (inst_at f inst).block
    reached = order_reached f graph order parts.graph_is parts.ordered (inst_at f inst).block found.member

    told : place_of_inst f inst ≡ at (inst_at f inst).block place
    told = found_place f parts.kept order inst place found

    traced : (v : ℕ) → (k : ℕ) × (k < length recorded) × (slice_index recorded k ≡ v) × (is_live_across f recorded sets (insts_of f (inst_at f inst).block) place inst k ≡ true)
        → IsTracedAcross f recorded inst v
    traced v h = subst (λ x. IsTracedAcross f recorded inst x) h.2 (record {
      exists = (inst_home f parts.kept (inst_at f inst).block place inst found.here).0;
      call = found.call;
      reachable = subst (λ p. IsReachable (function_flow (view_of f)) p) (sym told)
          (reached_inside f (inst_at f inst).block reached place (slice_get_within (insts_of f (inst_at f inst).block) place inst found.here));
      member = Contains-get_or recorded h.0 0 h.1;
      unaliased = ahead_unaliased f parts.kept (slice_index recorded h.0) live.1 (at (inst_at f inst).block place) live.2;
      live = subst (λ p. IsLiveAcross every_argument (view_of f) p (slice_index recorded h.0)) (sym told) live;
    })
      where
        live : (¬ Contains (placed_gives (placed_at (view_of f) (at (inst_at f inst).block place))) (slice_index recorded h.0)) × (path : List (Place ℕ))
            × IsUsedAhead every_argument (view_of f) (slice_index recorded h.0) (at (inst_at f inst).block place) path
        live = across_to f (in_set_of sets h.0) (slice_index recorded h.0) (inst_at f inst).block place inst (λ t in_set. parts.finished.sound h.0 t h.1 in_set) found.here h.3

    listed : (v : ℕ) → IsTracedAcross f recorded inst v
        → (k : ℕ) × (k < length recorded) × (slice_index recorded k ≡ v) × (is_live_across f recorded sets (insts_of f (inst_at f inst).block) place inst k ≡ true)
    listed v h =
        let k = h.member.0 in
        let is : slice_index recorded h.member.0 ≡ v = get_or_default recorded h.member.0 0 v h.member.1 ∙ h.member.2 in
        let live : IsLiveAcross every_argument (view_of f) (at (inst_at f inst).block place) (slice_index recorded h.member.0) =
        subst (λ p. IsLiveAcross every_argument (view_of f) p (slice_index recorded h.member.0)) told
        (subst (λ x. IsLiveAcross every_argument (view_of f) (place_of_inst f inst) x) (sym is) h.live) in (
          h.member.0,
          h.member.1,
          is,
          across_from f (in_set_of sets h.member.0) (slice_index recorded h.member.0)
              (λ t r l. parts.finished.settled t (reached_order f graph order parts.graph_is parts.ordered t r) h.member.0 h.member.1 l)
              live.1 (inst_at f inst).block place inst reached found.here live.0 live.2,
        )

exact_none : (f : Body) (recorded : List ℕ) (graph : List (List ℕ)) (order : List ℕ) (sets : List (List Bool)) (rows : List (List ℕ)) (tables : FrontTables) (handled : ℕ) → Parts f recorded graph order sets rows tables handled
    → (inst : ℕ) → ((place : ℕ) → IsFoundAt f order inst place → ⊥) → IsExact f recorded inst (row_at rows inst)
exact_none f recorded graph order sets rows tables handled parts inst none = subst (λ row. IsExact f recorded inst row) (sym empty) (record {
  rising = λ k inside. absurd (omega (arith, inside));
  members = λ v. (λ h. absurd (omega (arith, h.1)), λ h. absurd (let found = traced_found f parts.kept recorded graph order parts.graph_is parts.ordered inst v h in none found.0 found.1));
})
  where
    empty : row_at rows inst ≡ []
    empty = parts.listed.none inst (λ b k member here call.
        let home : (inst_at f inst).block ≡ b = (inst_home f parts.kept b k inst here).1 in
        none k (record {
          member = subst (λ x. Contains order x) (sym home) member;
          here = subst (λ x. slice_get (insts_of f x) k ≡ Some inst) (sym home) here;
          call = call;
        }))

pub analysis_from_parts : (f : Body) (recorded : List ℕ) (graph : List (List ℕ)) (order : List ℕ) (sets : List (List Bool)) (rows : List (List ℕ)) (tables : FrontTables) (handled : ℕ)
    → Parts f recorded graph order sets rows tables handled
    → IsAnalysis f recorded (record { order = order; live_in = tables.live_in; after_params = tables.after_params; across = rows; handled = handled })
analysis_from_parts f recorded graph order sets rows tables handled parts = record {
  order = block_order f graph order parts.kept parts.graph_is parts.ordered;
  live_in = exact_in f recorded order sets handled tables solved parts.fronts;
  after_params = exact_after f recorded order sets handled tables solved parts.fronts;
  exact = λ inst. by inst (found_or_not f order inst);
  handled = record {
    blocks = order;
    once = parts.ordered.once;
    reached = λ b. (order_reached f graph order parts.graph_is parts.ordered b, reached_order f graph order parts.graph_is parts.ordered b);
    each = parts.finished.least;
    at_most = subst (λ n. handled ≤ length order + n * length recorded) (edge_count f order) parts.finished.most;
  };
}
  where
    solved : AreSolved f recorded order sets handled
    solved = record {
      kept = parts.kept;
      finished = parts.finished;
      reached = order_reached f graph order parts.graph_is parts.ordered;
      all = reached_order f graph order parts.graph_is parts.ordered;
    }

    by : (inst : ℕ) → ((place : ℕ) × IsFoundAt f order inst place) ⊎ ((place : ℕ) → IsFoundAt f order inst place → ⊥) → IsExact f recorded inst (row_at rows inst)
    by inst (inl found) = exact_found f recorded graph order sets rows tables handled parts inst found.0 found.1
    by inst (inr none) = exact_none f recorded graph order sets rows tables handled parts inst none

-- the targets of edges exist
pub closed_graph : (f : Body) (graph : List (List ℕ)) → IsConsistent f → AreRows (length f.blocks) (successors_of f) graph → IsClosed graph
closed_graph f graph kept rows b k d inside =
    let h : Contains (leads_to graph b) (get_or (leads_to graph b) k d) = Contains-get_or (leads_to graph b) k d inside in
    let from : Contains (successors_of f b) (get_or (leads_to graph b) k d) = leads_from f graph (record { size = rows.size; rows = rows.rows }) b (get_or (leads_to graph b) k d) h in
    let at = target_at f (insts_of f b) (get_or (leads_to graph b) k d) from in
    let edge = contained_in_map (λ (e : BlockCall). e.block) (destinations (inst_at f at.1).shape) (get_or (leads_to graph b) k d) at.3 in
    let exists : EdgeExists f edge.0 = All-contains (λ e. EdgeExists f e) (destinations (inst_at f at.1).shape) edge.0 (kept.edges_exist at.1) edge.1 in
    subst (λ n. get_or (leads_to graph b) k d < n) (sym rows.size) (subst (λ x. x < length f.blocks) edge.2 exists.0)
