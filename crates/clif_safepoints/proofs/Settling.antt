-- What the work list keeps: all that it holds live is so by paths, each block that doesn't wait is settled, and each block that was
-- handled is paid for.
use Rattle.std.proofs.Common.{◌≡◌, ◌≢◌, ◌+◌, ◌-◌, ◌*◌, ◌^◌, ◌<◌, ◌≤◌, ◌⊎◌, ◌||◌, ◌&&◌, ◌==◌, not, ℕ, zero, suc, Bool, true, false, cond, List, [], ◌∷◌, ◌++◌, length, get_or, map, take, set, refl, sym, ap, subst, ◌∙◌, arith, inl, inr, Some, eqb, slice_index, slice_index_or, length-append}
use Rattle.std.specs.Prelude.{All, Contains}
use Rattle.std.specs.List.{filter, flat_map, list_any}
use Rattle.std.proofs.lemmas.List.{get_or-set_other, get_or_default, length-map}
use Rattle.std.proofs.lemmas.List.Elements.{Contains-append_cases, Contains-append_left, Contains-append_right, Contains-get_or, Contains-push_cases}
use Rattle.std.proofs.lemmas.List.Sums.{count_by-le-length}
use Rattle.std.proofs.lemmas.Grind.{get_or-set_at}
use Rattle.std.proofs.lemmas.Bool.{eq-eqb, false≢true}
use Rattle.std.proofs.lemmas.Bool.Decides.{eqb_tells}
use Rattle.std.proofs.Math.ListN.{get_or-eq_default, length-set}
use Rattle.clif_instructions.specs.declared.block_call.BlockCall.{BlockCall}
use Rattle.clif_instructions.specs.Edges.{targets}
use Rattle.clif_instructions.specs.Instruction.{destinations, operands}
use Rattle.clif_instructions.specs.Members.{stands_in}
use Rattle.clif_ir.specs.Body.{Body, block_at, inst_at}
use Rattle.clif_safepoints.specs.Graph.{arcs, leads_to, sources_of}
use Rattle.clif_safepoints.specs.Progress.{IsHandled, IsTaken, Progress, one_more, pushed_all}
use Rattle.clif_number_sets.specs.Sets.{Grows, IsSet, is_in, member_count}
use Rattle.clif_safepoints.specs.Sets.{AreSets, in_set_of}
use Rattle.clif_safepoints.specs.Transfer.{argument_passes, edge_needs, insts_of, is_live_before, is_live_in, names, successors_of, targets_followed, targets_from}
use Rattle.clif_safepoints.proofs.Following.{followed_from}
use Rattle.clif_safepoints.specs.Fronts.{IsFinished, IsLiveFront, IsStart}
use Rattle.clif_safepoints.proofs.Paths.{contained_in_map, front_to, or_cases, or_left}
use Rattle.clif_safepoints.proofs.Visits.{bit, times, times_append}
use Rattle.clif_safepoints.proofs.Working.{IsPushed, IsQueue, push_each}

-- THE EQUATIONS OF A BLOCK DEPEND ON THE FRONTS THAT IT LEADS TO ALONE ------------------------------------------------------

any_alike : {X : Type 0} (p q : X → Bool) (xs : List X) → ((x : X) → Contains xs x → p x ≡ q x) → list_any p xs ≡ list_any q xs
any_alike p q [] same = refl
any_alike p q (x ∷ xs) same =
    ap (λ (b : Bool). b || list_any p xs) (same x (0, omega arith, refl))
    ∙ ap (λ (b : Bool). q x || b) (any_alike p q xs (λ y h. same y (suc h.0, omega (arith, h.1), h.2)))

target_of : (edges : List BlockCall) (edge : BlockCall) → Contains edges edge → Contains (targets edges) edge.block
target_of edges edge h = (h.0, subst (λ n. h.0 < n) (sym (length-map edges (λ (e : BlockCall). e.block))) h.1, by edges h.0 h.1 h.2)
  where
    by : (xs : List BlockCall) (k : ℕ) → k < length xs → get_or xs k edge ≡ edge → get_or (targets xs) k edge.block ≡ edge.block
    by [] k inside is = absurd (omega (arith, inside))
    by (x ∷ xs) zero inside is = ap (λ (e : BlockCall). e.block) is
    by (x ∷ xs) (suc k) inside is = by xs k (omega (arith, inside)) is

before_alike : (f : Body) (l m : ℕ → Bool) (v : ℕ) (insts : List ℕ) → ((t : ℕ) → Contains (targets_from f insts) t → l t ≡ m t)
    → is_live_before f l v insts ≡ is_live_before f m v insts
before_alike f l m v [] same = refl
before_alike f l m v (inst ∷ insts) same =
    let edges : list_any (edge_needs f l v) (destinations (inst_at f inst).shape) ≡ list_any (edge_needs f m v) (destinations (inst_at f inst).shape) =
    any_alike (edge_needs f l v) (edge_needs f m v) (destinations (inst_at f inst).shape)
    (λ edge h. ap (λ (b : Bool). b || list_any (argument_passes f v) edge.args)
    (same edge.block (Contains-append_left (targets_followed (inst_at f inst).shape) (targets_from f insts) edge.block
    (followed_from (inst_at f inst).shape edge.block (target_of (destinations (inst_at f inst).shape) edge h))))) in
    let rest : is_live_before f l v insts ≡ is_live_before f m v insts = before_alike f l m v insts
    (λ t h. same t (Contains-append_right (targets_followed (inst_at f inst).shape) (targets_from f insts) t h)) in
    ap (λ (b : Bool). names f (operands (inst_at f inst).shape) v || (not (stands_in v (inst_at f inst).results) && (b || is_live_before f l v insts))) edges
    ∙ ap (λ (b : Bool). names f (operands (inst_at f inst).shape) v
    || (not (stands_in v (inst_at f inst).results) && (list_any (edge_needs f m v) (destinations (inst_at f inst).shape) || b))) rest

pub in_alike : (f : Body) (l m : ℕ → Bool) (b v : ℕ) → ((t : ℕ) → Contains (successors_of f b) t → l t ≡ m t) → is_live_in f l b v ≡ is_live_in f m b v
in_alike f l m b v same = ap (λ (c : Bool). not (stands_in v (block_at f b).params) && c) (before_alike f l m v (insts_of f b) same)

-- COUNTS ----------------------------------------------------------------------------------------------------------------

-- how many members the sets of these blocks have together
abbrev pub fills : List (List Bool) → List ℕ → ℕ
fills sets [] = 0
fills sets (t ∷ ts) = member_count (slice_index_or sets t []) + fills sets ts

-- the targets of all edges of these blocks
abbrev pub all_targets : List (List ℕ) → List ℕ → List ℕ
all_targets graph order = flat_map (leads_to graph) order

arcs_count : (xs : List ℕ) (t b : ℕ) → length (map (λ x. b) (filter (λ x. x == t) xs)) ≡ times t xs
arcs_count [] t b = refl
arcs_count (x ∷ xs) t b = by (x == t) (arcs_count xs t b)
  where
    by : (c : Bool) → length (map (λ (y : ℕ). b) (filter (λ y. y == t) xs)) ≡ times t xs
        → length (map (λ (y : ℕ). b) (cond c (x ∷ filter (λ y. y == t) xs) (filter (λ y. y == t) xs))) ≡ bit c + times t xs
    by true rest = omega (arith, rest)
    by false rest = omega (arith, rest)

pub sources_count : (graph : List (List ℕ)) (order : List ℕ) (t : ℕ) → length (sources_of graph order t) ≡ times t (all_targets graph order)
sources_count graph [] t = refl
sources_count graph (b ∷ order) t =
    let first = arcs_count (leads_to graph b) t b in
    let rest = sources_count graph order t in
    let left : length (sources_of graph (b ∷ order) t) ≡ length (arcs graph t b) + length (sources_of graph order t) = length-append (arcs graph t b) (sources_of graph order t) in
    let right = times_append t (leads_to graph b) (all_targets graph order) in
    omega (arith, first, rest, left, right)

fills_bound : (sets : List (List Bool)) (n : ℕ) (ts : List ℕ) → ((t : ℕ) → member_count (slice_index_or sets t []) ≤ n) → fills sets ts ≤ length ts * n
fills_bound sets n [] most = omega arith
fills_bound sets n (t ∷ ts) most =
    let rest = fills_bound sets n ts most in let first = most t in
    let e : suc (length ts) * n ≡ n + length ts * n = omega arith in omega (arith, rest, first, e)

pub fills_most : (sets : List (List Bool)) (blocks places : ℕ) (ts : List ℕ) → AreSets blocks places sets → fills sets ts ≤ length ts * places
fills_most sets blocks places ts sized = fills_bound sets places ts (λ t. by t (order t blocks))
  where
    order : (i j : ℕ) → (i < j) ⊎ (j ≤ i)
    order i j = grind arith

    by : (t : ℕ) → (t < blocks) ⊎ (blocks ≤ t) → member_count (slice_index_or sets t []) ≤ places
    by t (inl inside) = let most = count_by-le-length (λ (mark : Bool). mark) (slice_index_or sets t []) in let long = sized.each t inside in omega (arith, most, long)
    by t (inr past) = let e : slice_index_or sets t [] ≡ [] = get_or-eq_default sets [] (subst (λ n. n ≤ t) (sym sized.count) past) in
        let m : member_count (slice_index_or sets t []) ≡ 0 = ap member_count e in omega (arith, m)

-- a set that grows pays for each edge to its block
pub fills_grow : (sets : List (List Bool)) (b : ℕ) (new : List Bool) (ts : List ℕ) → b < length sets → member_count (slice_index_or sets b []) < member_count new
    → fills sets ts + times b ts ≤ fills (set sets b new) ts
fills_grow sets b new [] inside more = omega arith
fills_grow sets b new (t ∷ ts) inside more = by (eqb_tells t b) (fills_grow sets b new ts inside more)
  where
    by : ((eqb t b ≡ true) × (t ≡ b)) ⊎ ((eqb t b ≡ false) × (t ≢ b)) → fills sets ts + times b ts ≤ fills (set sets b new) ts
        → fills sets (t ∷ ts) + times b (t ∷ ts) ≤ fills (set sets b new) (t ∷ ts)
    by (inl same) rest =
        let now : member_count (slice_index_or (set sets b new) t []) ≡ member_count new = ap member_count (get_or-set_at sets b t new [] same.1 inside) in
        let old : member_count (slice_index_or sets t []) ≡ member_count (slice_index_or sets b []) = ap (λ x. member_count (slice_index_or sets x [])) same.1 in
        let one : bit (t == b) ≡ 1 = ap bit same.0 in
        omega (arith, rest, now, old, one, more)
    by (inr other) rest =
        let now : member_count (slice_index_or (set sets b new) t []) ≡ member_count (slice_index_or sets t []) = ap member_count (get_or-set_other sets b t new [] other.1) in
        let one : bit (t == b) ≡ 0 = ap bit other.0 in
        omega (arith, rest, now, one)

-- SOURCES ---------------------------------------------------------------------------------------------------------------

arcs_member : (xs : List ℕ) (t b k : ℕ) → k < length xs → get_or xs k t ≡ t → Contains (map (λ x. b) (filter (λ x. x == t) xs)) b
arcs_member [] t b k inside is = absurd (omega (arith, inside))
arcs_member (x ∷ xs) t b zero inside is = by (x == t) (eq-eqb x t is)
  where
    by : (c : Bool) → c ≡ true → Contains (map (λ (y : ℕ). b) (cond c (x ∷ filter (λ y. y == t) xs) (filter (λ y. y == t) xs))) b
    by true h = (0, omega arith, refl)
    by false h = cc
arcs_member (x ∷ xs) t b (suc k) inside is = by (x == t) (arcs_member xs t b k (omega (arith, inside)) is)
  where
    by : (c : Bool) → Contains (map (λ (y : ℕ). b) (filter (λ y. y == t) xs)) b → Contains (map (λ (y : ℕ). b) (cond c (x ∷ filter (λ y. y == t) xs) (filter (λ y. y == t) xs))) b
    by true h = (suc h.0, omega (arith, h.1), h.2)
    by false h = h

source_at : (graph : List (List ℕ)) (order : List ℕ) (q t k : ℕ) → k < length order → get_or order k q ≡ q → Contains (leads_to graph q) t → Contains (sources_of graph order t) q
source_at graph [] q t k inside is leads = absurd (omega (arith, inside))
source_at graph (b ∷ order) q t zero inside is leads =
    Contains-append_left (arcs graph t b) (sources_of graph order t) q
    (subst (λ x. Contains (arcs graph t x) q) (sym is) (arcs_member (leads_to graph q) t q leads.0 leads.1 leads.2))
source_at graph (b ∷ order) q t (suc k) inside is leads =
    Contains-append_right (arcs graph t b) (sources_of graph order t) q (source_at graph order q t k (omega (arith, inside)) is leads)

-- a block of the order is among the sources of what it leads to
pub is_source : (graph : List (List ℕ)) (order : List ℕ) (q t : ℕ) → Contains order q → Contains (leads_to graph q) t → Contains (sources_of graph order t) q
is_source graph order q t h leads = source_at graph order q t h.0 h.1 h.2 leads

-- THE INVARIANT ---------------------------------------------------------------------------------------------------------

pub record IsProgress (f : Body) (values order : List ℕ) (graph : List (List ℕ)) (p : Progress) : Type 0 where
  pub sized : AreSets (length f.blocks) (length values) p.sets
  pub queue : IsQueue (length f.blocks) p
  pub sound : (k b : ℕ) → k < length values → b < length f.blocks → in_set_of p.sets k b ≡ true → IsLiveFront f (slice_index values k) b
  pub settled : (b : ℕ) → Contains order b → is_in p.waits b ≡ false → (k : ℕ) → k < length values
      → is_live_in f (in_set_of p.sets k) b (slice_index values k) ≡ true → in_set_of p.sets k b ≡ true
  pub most : p.handled + length p.stack ≤ length order + fills p.sets (all_targets graph order)
  pub least : length order ≤ p.handled + length p.stack

-- the measure
abbrev pub to_do : List ℕ → List ℕ → List (List ℕ) → Progress → ℕ
to_do values order graph p = (length (all_targets graph order) * length values - fills p.sets (all_targets graph order)) + length p.stack

-- with the next block taken
abbrev pub taken : Progress → ℕ → List ℕ → Progress
taken p block rest = record p { stack = rest; waits = set p.waits block false }

pub taken_is : (p : Progress) (block : ℕ) (mid : Progress) → IsTaken p (Some block) mid → mid ≡ taken p block mid.stack
taken_is p block mid h =
    let build : List (List Bool) → List Bool → ℕ → Progress = λ sets waits handled. record { sets = sets; stack = mid.stack; waits = waits; handled = handled } in
    ap (λ (sets : List (List Bool)). build sets mid.waits mid.handled) h.2 ∙ ap (λ (waits : List Bool). build p.sets waits mid.handled) h.1
    ∙ ap (λ (n : ℕ). build p.sets (set p.waits block false) n) h.3

-- a member of a set of a block that is there
pub row_inside : (sets : List (List Bool)) (blocks places k b : ℕ) → AreSets blocks places sets → in_set_of sets k b ≡ true → b < blocks
row_inside sets blocks places k b sized h = by (order b blocks)
  where
    order : (i j : ℕ) → (i < j) ⊎ (j ≤ i)
    order i j = grind arith

    by : (b < blocks) ⊎ (blocks ≤ b) → b < blocks
    by (inl inside) = inside
    by (inr past) = let e : slice_index_or sets b [] ≡ [] = get_or-eq_default sets [] (subst (λ n. n ≤ b) (sym sized.count) past) in
        absurd (false≢true (sym (ap (λ (marks : List Bool). is_in marks k) e) ∙ h))

-- the fronts that the sets tell, in any block
pub fronts : (f : Body) (values order : List ℕ) (graph : List (List ℕ)) (p : Progress) → IsProgress f values order graph p → (k : ℕ) → k < length values
    → (t : ℕ) → in_set_of p.sets k t ≡ true → IsLiveFront f (slice_index values k) t
fronts f values order graph p so_far k below t h = so_far.sound k t below (row_inside p.sets (length f.blocks) (length values) k t so_far.sized h) h

not_block : (p : Progress) (block q : ℕ) → block < length p.waits → is_in (set p.waits block false) q ≡ true → (is_in p.waits q ≡ true) × (q ≢ block)
not_block p block q inside h = by (eqb_tells q block)
  where
    by : ((eqb q block ≡ true) × (q ≡ block)) ⊎ ((eqb q block ≡ false) × (q ≢ block)) → (is_in p.waits q ≡ true) × (q ≢ block)
    by (inl same) = absurd (false≢true (sym (get_or-set_at p.waits block q false false same.1 inside) ∙ h))
    by (inr other) = (sym (get_or-set_other p.waits block q false false other.1) ∙ h, other.1)

taken_queue : (count : ℕ) (p : Progress) (block : ℕ) (rest : List ℕ) → p.stack ≡ rest ++ block ∷ [] → IsQueue count p → IsQueue count (taken p block rest)
taken_queue count p block rest is queue = record {
  marks = length-set p.waits block false ∙ queue.marks;
  there = λ q h. queue.there q (subst (λ xs. Contains xs q) (sym is) (Contains-append_left rest (block ∷ []) q h));
  waiting = λ q h. let old = not_block p block q inside h in by q old.1 (Contains-push_cases rest block q (subst (λ xs. Contains xs q) is (queue.waiting q old.0)));
}
  where
    inside : block < length p.waits
    inside = subst (λ n. block < n) (sym queue.marks) (queue.there block (subst (λ xs. Contains xs block) (sym is) (Contains-append_right rest (block ∷ []) block (0, omega arith, refl))))

    by : (q : ℕ) → q ≢ block → Contains rest q ⊎ (block ≡ q) → Contains rest q
    by q other (inl h) = h
    by q other (inr same) = absurd (other (sym same))

one_more_is : (n bound : ℕ) → bound ≤ 2 ^ 128 - 1 → (one_more n ≤ n + 1) × ((m : ℕ) → bound ≤ n + 1 + m → bound ≤ one_more n + m)
one_more_is n bound small = (omega arith, λ m h. omega (arith, h, small))

-- a block is handled and its set doesn't grow
kept_same : (f : Body) (values order : List ℕ) (graph : List (List ℕ)) (p : Progress) (block : ℕ) (rest : List ℕ) (new : List Bool) → length order ≤ 2 ^ 128 - 1
    → p.stack ≡ rest ++ block ∷ [] → IsProgress f values order graph p
    → IsSet (length values) (λ k. is_live_in f (in_set_of p.sets k) block (slice_index values k) || in_set_of p.sets k block) new
    → new ≡ slice_index_or p.sets block []
    → IsProgress f values order graph (record (taken p block rest) { handled = one_more p.handled })
kept_same f values order graph p block rest new small is so_far union same = record {
  sized = so_far.sized;
  queue = let q = taken_queue (length f.blocks) p block rest is so_far.queue in record { marks = q.marks; there = q.there; waiting = q.waiting };
  sound = so_far.sound;
  settled = λ b member idle k below live. by b member idle k below live (eqb_tells b block);
  most = let up = one_more_is p.handled (length order) small in let old = so_far.most in omega (arith, up.0, old, long);
  least = let up = one_more_is p.handled (length order) small in let old = so_far.least in up.1 (length rest) (omega (arith, old, long));
}
  where
    long : length p.stack ≡ length rest + 1
    long = ap length is ∙ length-append rest (block ∷ [])

    by : (b : ℕ) → Contains order b → is_in (set p.waits block false) b ≡ false → (k : ℕ) → k < length values → is_live_in f (in_set_of p.sets k) b (slice_index values k) ≡ true
        → ((eqb b block ≡ true) × (b ≡ block)) ⊎ ((eqb b block ≡ false) × (b ≢ block)) → in_set_of p.sets k b ≡ true
    by b member idle k below live (inl here) =
        subst (λ x. in_set_of p.sets k x ≡ true) (sym here.1)
        (ap (λ (marks : List Bool). is_in marks k) (sym same) ∙ union.members k below
        ∙ or_left (is_live_in f (in_set_of p.sets k) block (slice_index values k)) (in_set_of p.sets k block)
        (subst (λ x. is_live_in f (in_set_of p.sets k) x (slice_index values k) ≡ true) here.1 live))
    by b member idle k below live (inr other) =
        so_far.settled b member (sym (get_or-set_other p.waits block b false false other.1) ∙ idle) k below live

-- a block is handled and its set grows
kept_grown : (f : Body) (values order : List ℕ) (graph : List (List ℕ)) (p : Progress) (block : ℕ) (rest : List ℕ) (row : List Bool) → length order ≤ 2 ^ 128 - 1
    → ((b : ℕ) → Contains order b → b < length f.blocks) → ((b : ℕ) → b < length f.blocks → leads_to graph b ≡ successors_of f b)
    → ((b : ℕ) → Contains (sources_of graph order block) b → b < length f.blocks)
    → p.stack ≡ rest ++ block ∷ [] → IsProgress f values order graph p
    → IsSet (length values) (λ k. is_live_in f (in_set_of p.sets k) block (slice_index values k) || in_set_of p.sets k block) row
    → Grows (slice_index_or p.sets block []) row
    → IsProgress f values order graph (pushed_all (record (taken p block rest) { sets = set p.sets block row; handled = one_more p.handled }) (sources_of graph order block))
kept_grown f values order graph p block rest row small there graph_is sources_there is so_far union grows = record {
  sized = subst (λ sets. AreSets (length f.blocks) (length values) sets) (sym after.0.sets) sized;
  queue = after.0.queue;
  sound = λ k b below inside h. sound k b below inside (subst (λ sets. in_set_of sets k b ≡ true) after.0.sets h) (eqb_tells b block);
  settled = λ b member idle k below live.
      subst (λ sets. in_set_of sets k b ≡ true) (sym after.0.sets)
      (settles b member idle k below (subst (λ sets. is_live_in f (in_set_of sets k) b (slice_index values k) ≡ true) after.0.sets live) (eqb_tells b block));
  most =
      let up = one_more_is p.handled (length order) small in let old = so_far.most in let pushes = after.0.most in
      let pay = fills_grow p.sets block row (all_targets graph order) within grows in let count = sources_count graph order block in
      let sets : fills new.sets (all_targets graph order) ≡ fills (set p.sets block row) (all_targets graph order) = ap (λ sets. fills sets (all_targets graph order)) after.0.sets in
      let same = after.0.handled in
      omega (arith, up.0, old, long, pushes, pay, count, sets, same);
  least =
      let up = one_more_is p.handled (length order) small in let old = so_far.least in
      let now : length order ≤ one_more p.handled + length rest = up.1 (length rest) (omega (arith, old, long)) in
      let same = after.0.handled in let pushes = after.0.least in omega (arith, now, same, pushes);
}
  where
    base : Progress
    base = record (taken p block rest) { sets = set p.sets block row; handled = one_more p.handled }

    new : Progress
    new = pushed_all base (sources_of graph order block)

    queue : IsQueue (length f.blocks) base
    queue = let q = taken_queue (length f.blocks) p block rest is so_far.queue in record { marks = q.marks; there = q.there; waiting = q.waiting }

    after : IsPushed (length f.blocks) (length (sources_of graph order block)) base new × ((x : ℕ) → Contains (sources_of graph order block) x → is_in new.waits x ≡ true)
    after = push_each (length f.blocks) (sources_of graph order block) base sources_there queue

    long : length p.stack ≡ length rest + 1
    long = ap length is ∙ length-append rest (block ∷ [])

    block_there : block < length f.blocks
    block_there = so_far.queue.there block (subst (λ xs. Contains xs block) (sym is) (Contains-append_right rest (block ∷ []) block (0, omega arith, refl)))

    within : block < length p.sets
    within = subst (λ n. block < n) (sym so_far.sized.count) block_there

    row_of : (b : ℕ) → ((eqb b block ≡ true) × (b ≡ block)) ⊎ ((eqb b block ≡ false) × (b ≢ block)) → b < length f.blocks → length (slice_index_or (set p.sets block row) b []) ≡ length values
    row_of b (inl here) inside = ap length (get_or-set_at p.sets block b row [] here.1 within) ∙ union.size
    row_of b (inr other) inside = ap length (get_or-set_other p.sets block b row [] other.1) ∙ so_far.sized.each b inside

    sized : AreSets (length f.blocks) (length values) (set p.sets block row)
    sized = record { count = length-set p.sets block row ∙ so_far.sized.count; each = λ b inside. row_of b (eqb_tells b block) inside }

    here_is : (k b : ℕ) → b ≡ block → in_set_of (set p.sets block row) k b ≡ is_in row k
    here_is k b same = ap (λ (marks : List Bool). is_in marks k) (get_or-set_at p.sets block b row [] same within)

    other_is : (k b : ℕ) → b ≢ block → in_set_of (set p.sets block row) k b ≡ in_set_of p.sets k b
    other_is k b other = ap (λ (marks : List Bool). is_in marks k) (get_or-set_other p.sets block b row [] other)

    sound : (k b : ℕ) → k < length values → b < length f.blocks → in_set_of (set p.sets block row) k b ≡ true
        → ((eqb b block ≡ true) × (b ≡ block)) ⊎ ((eqb b block ≡ false) × (b ≢ block)) → IsLiveFront f (slice_index values k) b
    sound k b below inside h (inl here) =
        subst (λ x. IsLiveFront f (slice_index values k) x) (sym here.1)
        (told (or_cases (is_live_in f (in_set_of p.sets k) block (slice_index values k)) (in_set_of p.sets k block) (sym (union.members k below) ∙ sym (here_is k b here.1) ∙ h)))
      where
        told : (is_live_in f (in_set_of p.sets k) block (slice_index values k) ≡ true) ⊎ (in_set_of p.sets k block ≡ true) → IsLiveFront f (slice_index values k) block
        told (inl live) = front_to f (in_set_of p.sets k) (slice_index values k) block (fronts f values order graph p so_far k below) live
        told (inr old) = so_far.sound k block below block_there old
    sound k b below inside h (inr other) = so_far.sound k b below inside (sym (other_is k b other.1) ∙ h)

    -- a block that leads to this one waits now
    leads_waits : (b : ℕ) → Contains order b → Contains (successors_of f b) block → is_in new.waits b ≡ true
    leads_waits b member leads =
        after.1 b (is_source graph order b block member (subst (λ xs. Contains xs block) (sym (graph_is b (there b member))) leads))

    -- the fronts to which a block leads that doesn't wait are as before
    alike : (b : ℕ) → Contains order b → is_in new.waits b ≡ false → (k t : ℕ) → Contains (successors_of f b) t → in_set_of (set p.sets block row) k t ≡ in_set_of p.sets k t
    alike b member idle k t leads = by (eqb_tells t block)
      where
        by : ((eqb t block ≡ true) × (t ≡ block)) ⊎ ((eqb t block ≡ false) × (t ≢ block)) → in_set_of (set p.sets block row) k t ≡ in_set_of p.sets k t
        by (inl here) = absurd (false≢true (sym idle ∙ leads_waits b member (subst (λ x. Contains (successors_of f b) x) here.1 leads)))
        by (inr other) = other_is k t other.1

    settles : (b : ℕ) → Contains order b → is_in new.waits b ≡ false → (k : ℕ) → k < length values
        → is_live_in f (in_set_of (set p.sets block row) k) b (slice_index values k) ≡ true
        → ((eqb b block ≡ true) × (b ≡ block)) ⊎ ((eqb b block ≡ false) × (b ≢ block)) → in_set_of (set p.sets block row) k b ≡ true
    settles b member idle k below live (inl here) =
        let before : is_live_in f (in_set_of p.sets k) b (slice_index values k) ≡ true =
        sym (in_alike f (in_set_of (set p.sets block row) k) (in_set_of p.sets k) b (slice_index values k) (alike b member idle k)) ∙ live in
        here_is k b here.1 ∙ union.members k below
        ∙ or_left (is_live_in f (in_set_of p.sets k) block (slice_index values k)) (in_set_of p.sets k block)
        (subst (λ x. is_live_in f (in_set_of p.sets k) x (slice_index values k) ≡ true) here.1 before)
    settles b member idle k below live (inr other) =
        let before : is_live_in f (in_set_of p.sets k) b (slice_index values k) ≡ true =
        sym (in_alike f (in_set_of (set p.sets block row) k) (in_set_of p.sets k) b (slice_index values k) (alike b member idle k)) ∙ live in
        other_is k b other.1 ∙ so_far.settled b member (idle_before b idle other.1) k below before
      where
        false_from : (x : Bool) → (x ≡ true → ⊥) → x ≡ false
        false_from true h = absurd (h refl)
        false_from false h = refl

        idle_before : (q : ℕ) → is_in new.waits q ≡ false → q ≢ block → is_in p.waits q ≡ false
        idle_before q now apart =
            false_from (is_in p.waits q)
            (λ h. false≢true (sym now ∙ after.0.kept q (get_or-set_other p.waits block q false false apart ∙ h)))

-- ONE ROUND -------------------------------------------------------------------------------------------------------------

pub progress_step : (f : Body) (values order : List ℕ) (graph : List (List ℕ)) (p mid new : Progress) (block : ℕ) (sources : List ℕ) → length order ≤ 2 ^ 128 - 1
    → ((b : ℕ) → Contains order b → b < length f.blocks) → ((b : ℕ) → b < length f.blocks → leads_to graph b ≡ successors_of f b)
    → ((b : ℕ) → Contains sources b → b < length f.blocks) → sources ≡ sources_of graph order block
    → IsProgress f values order graph p → IsTaken p (Some block) mid → IsHandled f values sources block mid new
    → IsProgress f values order graph new × (to_do values order graph new < to_do values order graph p)
progress_step f values order graph p mid new block sources small there graph_is sources_there sources_is so_far take handled =
    by (subst (λ (m : Progress). IsHandled f values (sources_of graph order block) block m new) (taken_is p block mid take)
    (subst (λ xs. IsHandled f values xs block mid new) sources_is handled))
  where
    long : length p.stack ≡ length mid.stack + 1
    long = ap length take.0 ∙ length-append mid.stack (block ∷ [])

    block_there : block < length p.sets
    block_there = subst (λ n. block < n) (sym so_far.sized.count) (so_far.queue.there block
        (subst (λ xs. Contains xs block) (sym take.0) (Contains-append_right mid.stack (block ∷ []) block (0, omega arith, refl))))

    which : (h : IsHandled f values (sources_of graph order block) block (taken p block mid.stack) new)
        → ((h.set ≡ slice_index_or p.sets block []) × (new ≡ record (taken p block mid.stack) { handled = one_more p.handled }))
        ⊎ (Grows (slice_index_or p.sets block []) h.set × (new ≡ pushed_all (record (taken p block mid.stack) { sets = set p.sets block h.set; handled = one_more p.handled }) (sources_of graph order block)))
        → IsProgress f values order graph new × (to_do values order graph new < to_do values order graph p)
    which h (inl same) =
        let kept = kept_same f values order graph p block mid.stack h.set small take.0 so_far h.union same.0 in (
          subst (λ (q : Progress). IsProgress f values order graph q) (sym same.1) kept,
          subst (λ (q : Progress). to_do values order graph q < to_do values order graph p) (sym same.1) (let e = long in omega (arith, e)),
        )
    which h (inr grown) =
        let kept = kept_grown f values order graph p block mid.stack h.set small there graph_is (λ b m. sources_there b (subst (λ xs. Contains xs b) (sym sources_is) m)) take.0 so_far h.union grown.0 in (
          subst (λ (q : Progress). IsProgress f values order graph q) (sym grown.1) kept,
          subst (λ (q : Progress). to_do values order graph q < to_do values order graph p) (sym grown.1)
              (less h kept grown.0),
        )
      where
        less : (h : IsHandled f values (sources_of graph order block) block (taken p block mid.stack) new)
            → IsProgress f values order graph (pushed_all (record (taken p block mid.stack) { sets = set p.sets block h.set; handled = one_more p.handled }) (sources_of graph order block))
            → Grows (slice_index_or p.sets block []) h.set
            → to_do values order graph (pushed_all (record (taken p block mid.stack) { sets = set p.sets block h.set; handled = one_more p.handled }) (sources_of graph order block))
            < to_do values order graph p
        less h kept grows =
            let queue = let q = taken_queue (length f.blocks) p block mid.stack take.0 so_far.queue in q in
            let after = push_each (length f.blocks) (sources_of graph order block) (record (taken p block mid.stack) { sets = set p.sets block h.set; handled = one_more p.handled })
            (λ b m. sources_there b (subst (λ xs. Contains xs b) (sym sources_is) m)) (record { marks = queue.marks; there = queue.there; waiting = queue.waiting }) in
            let pay = fills_grow p.sets block h.set (all_targets graph order) block_there grows in
            let count = sources_count graph order block in
            let most : fills (set p.sets block h.set) (all_targets graph order) ≤ length (all_targets graph order) * length values =
            subst (λ sets. fills sets (all_targets graph order) ≤ length (all_targets graph order) * length values) after.0.sets
            (fills_most (pushed_all (record (taken p block mid.stack) { sets = set p.sets block h.set; handled = one_more p.handled }) (sources_of graph order block)).sets
            (length f.blocks) (length values) (all_targets graph order) kept.sized) in
            let sets : fills (pushed_all (record (taken p block mid.stack) { sets = set p.sets block h.set; handled = one_more p.handled }) (sources_of graph order block)).sets (all_targets graph order)
            ≡ fills (set p.sets block h.set) (all_targets graph order) = ap (λ sets. fills sets (all_targets graph order)) after.0.sets in
            let pushes = after.0.most in let e = long in
            arithmetic (length (all_targets graph order) * length values) (fills p.sets (all_targets graph order)) (fills (set p.sets block h.set) (all_targets graph order))
            (fills (pushed_all (record (taken p block mid.stack) { sets = set p.sets block h.set; handled = one_more p.handled }) (sources_of graph order block)).sets (all_targets graph order))
            (length mid.stack) (length p.stack) (length (pushed_all (record (taken p block mid.stack) { sets = set p.sets block h.set; handled = one_more p.handled }) (sources_of graph order block)).stack)
            (times block (all_targets graph order)) (length (sources_of graph order block)) pay most sets count pushes e
          where
            arithmetic : (bound before after now rest old new' some count : ℕ) → before + some ≤ after → after ≤ bound → now ≡ after → count ≡ some → new' ≤ rest + count → old ≡ rest + 1
                → (bound - now) + new' < (bound - before) + old
            arithmetic bound before after now rest old new' some count a b c d e g = omega arith

    by : IsHandled f values (sources_of graph order block) block (taken p block mid.stack) new
        → IsProgress f values order graph new × (to_do values order graph new < to_do values order graph p)
    by h = which h h.after

-- the start, and the end
pub progress_start : (f : Body) (values order : List ℕ) (graph : List (List ℕ)) (sets : List (List Bool)) (stack : List ℕ) (waits : List Bool)
    → IsStart (length f.blocks) (length values) order sets stack waits → IsProgress f values order graph (record { sets = sets; stack = stack; waits = waits; handled = 0 })
progress_start f values order graph sets stack waits start = record {
  sized = start.sized;
  queue = record { marks = start.marks; there = start.there; waiting = start.waiting };
  sound = λ k b below inside h. absurd (start.empty k b h);
  settled = λ b member idle k below live. absurd (false≢true (sym idle ∙ start.all b member));
  most = let e = start.long in omega (arith, e);
  least = let e = start.long in omega (arith, e);
}

targets_alike : (f : Body) (graph : List (List ℕ)) (order : List ℕ) → ((k : ℕ) → k < length order → leads_to graph (get_or order k 0) ≡ successors_of f (get_or order k 0))
    → all_targets graph order ≡ flat_map (successors_of f) order
targets_alike f graph [] same = refl
targets_alike f graph (b ∷ order) same =
    ap (λ xs. xs ++ all_targets graph order) (same 0 (omega arith))
    ∙ ap (λ xs. successors_of f b ++ xs) (targets_alike f graph order (λ k inside. same (suc k) (omega (arith, inside))))

pub progress_end : (f : Body) (values order : List ℕ) (graph : List (List ℕ)) (p : Progress) → ((b : ℕ) → Contains order b → b < length f.blocks)
    → ((b : ℕ) → b < length f.blocks → leads_to graph b ≡ successors_of f b) → IsProgress f values order graph p → p.stack ≡ [] → IsFinished f values order p.sets p.handled
progress_end f values order graph p there graph_is done empty = record {
  sized = done.sized;
  sound = λ k b below h. fronts f values order graph p done k below b h;
  settled = λ b member. done.settled b member (idle b);
  most =
      let most = done.most in let full = fills_most p.sets (length f.blocks) (length values) (all_targets graph order) done.sized in let none : length p.stack ≡ 0 = ap length empty in
      let same : length (all_targets graph order) * length values ≡ length (flat_map (successors_of f) order) * length values = ap (λ ts. length ts * length values) alike in
      omega (arith, most, full, none, same);
  least = let least = done.least in let none : length p.stack ≡ 0 = ap length empty in omega (arith, least, none);
}
  where
    alike : all_targets graph order ≡ flat_map (successors_of f) order
    alike = targets_alike f graph order (λ k inside. graph_is (get_or order k 0) (there (get_or order k 0) (k, inside, get_or_default order k (get_or order k 0) 0 inside)))

    false_from : (x : Bool) → (x ≡ true → ⊥) → x ≡ false
    false_from true h = absurd (h refl)
    false_from false h = refl

    idle : (b : ℕ) → is_in p.waits b ≡ false
    idle b = false_from (is_in p.waits b) (λ h. no (subst (λ xs. Contains xs b) empty (done.queue.waiting b h)))
      where
        no : Contains [] b → ⊥
        no h = absurd (omega (arith, h.1))

-- the sources of a block are of the order
pub source_of : (graph : List (List ℕ)) (order : List ℕ) (t x : ℕ) → Contains (sources_of graph order t) x → Contains order x
source_of graph [] t x h = absurd (omega (arith, h.1))
source_of graph (b ∷ order) t x h = by (source_of graph order t x) (Contains-append_cases (arcs graph t b) (sources_of graph order t) x h)
  where
    by : (Contains (sources_of graph order t) x → Contains order x) → Contains (arcs graph t b) x ⊎ Contains (sources_of graph order t) x → Contains (b ∷ order) x
    by rest (inl here) = (0, omega arith, (contained_in_map (λ (y : ℕ). b) (filter (λ y. y == t) (leads_to graph b)) x here).2)
    by rest (inr later) = let at = rest later in (suc at.0, omega (arith, at.1), at.2)

-- what holds as a block was taken
pub round_block : (f : Body) (values order : List ℕ) (graph : List (List ℕ)) (p : Progress) (block : ℕ) (mid : Progress) → IsProgress f values order graph p → IsTaken p (Some block) mid
    → block < length f.blocks
round_block f values order graph p block mid so_far take =
    so_far.queue.there block (subst (λ xs. Contains xs block) (sym take.0) (Contains-append_right mid.stack (block ∷ []) block (0, omega arith, refl)))

pub round_sets : (f : Body) (values order : List ℕ) (graph : List (List ℕ)) (p : Progress) (block : ℕ) (mid : Progress) → IsProgress f values order graph p → IsTaken p (Some block) mid
    → AreSets (length f.blocks) (length values) mid.sets
round_sets f values order graph p block mid so_far take = subst (λ sets. AreSets (length f.blocks) (length values) sets) (sym take.2) so_far.sized

pub round_marks : (f : Body) (values order : List ℕ) (graph : List (List ℕ)) (p : Progress) (block : ℕ) (mid : Progress) → IsProgress f values order graph p → IsTaken p (Some block) mid
    → length mid.waits ≡ length f.blocks
round_marks f values order graph p block mid so_far take = ap length take.1 ∙ length-set p.waits block false ∙ so_far.queue.marks

-- the blocks that wait have marks
pub stack_marked : (f : Body) (values order : List ℕ) (graph : List (List ℕ)) (p : Progress) → IsProgress f values order graph p → All (λ b. b < length p.waits) p.stack
stack_marked f values order graph p so_far k d inside =
    subst (λ n. get_or p.stack k d < n) (sym so_far.queue.marks) (so_far.queue.there (get_or p.stack k d) (Contains-get_or p.stack k d inside))
