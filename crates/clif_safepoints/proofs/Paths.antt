-- The equations of a block and paths. What the equations tell is live by some path, where that is so of the fronts of blocks
-- that they rest on; and what is live by a path they tell, where the fronts of blocks that are reached have all that they tell.
use Rattle.std.proofs.Common.{◌≡◌, ◌<◌, ◌⊎◌, ℕ, zero, suc, Bool, true, false, not, ◌||◌, ◌&&◌, List, [], ◌∷◌, length, map, get_or, drop, refl, sym, ap, subst, ◌∙◌, arith, eqb, inl, inr, Option, Some, None, add-one}
use Rattle.std.specs.Prelude.{Contains, slice_get, if◌then◌else◌}
use Rattle.std.specs.List.{list_any}
use Rattle.std.specs.Option.{option_map}
use Rattle.std.proofs.lemmas.Bool.{eqb-true, eq-eqb}
use Rattle.std.proofs.lemmas.Option.{slice_get-map, slice_get_within, slice_get-get_or, get_or_from_slice_get}
use Rattle.std.proofs.Math.Seq.{drop-cons}
use Rattle.std.proofs.lemmas.List.{length-map}
use Rattle.clif_instructions.specs.declared.block_call.BlockArg.{BlockArg}
use Rattle.clif_instructions.specs.declared.block_call.BlockArg.TheVariants as arg
use Rattle.clif_instructions.specs.declared.block_call.BlockCall.{BlockCall}
use Rattle.clif_instructions.specs.Instruction.{destinations, operands}
use Rattle.clif_instructions.specs.Members.{stands_in}
use Rattle.clif_ir.specs.Body.{Body, block_at, inst_at, resolved}
use Rattle.clif_meaning.specs.FunctionView.{Placed}
use Rattle.clif_meaning.specs.Instruction.{Edge, Known}
use Rattle.clif_meaning.specs.Path.{IsPath, IsReachable, Leads, Place}
use Rattle.clif_meaning.specs.View.{argument_of, edge_of, items_of, placed_of, view_of}
use Rattle.clif_meaning.specs.WellPlaced.{function_code, function_flow, given_on_entry, placed_at, placed_gives, placed_targets}
use Rattle.clif_safepoints.specs.Analysis.{IsReached}
use Rattle.clif_safepoints.specs.Fronts.{IsLiveAt, IsLiveFront, at}
use Rattle.clif_safepoints.specs.Liveness.{IsPassed, IsUsedAhead, every_argument, used_operands}
use Rattle.clif_safepoints.specs.Transfer.{argument_passes, edge_needs, insts_of, is_live_before, is_live_behind, is_live_in, names}

-- TESTS -----------------------------------------------------------------------------------------------------------------

pub or_cases : (a b : Bool) → (a || b) ≡ true → (a ≡ true) ⊎ (b ≡ true)
or_cases true b h = inl refl
or_cases false b h = inr h

pub or_left : (a b : Bool) → a ≡ true → (a || b) ≡ true
or_left true b h = refl
or_left false b h = cc

pub or_right : (a b : Bool) → b ≡ true → (a || b) ≡ true
or_right true b h = refl
or_right false b h = h

pub and_cases : (a b : Bool) → (a && b) ≡ true → (a ≡ true) × (b ≡ true)
and_cases true b h = (refl, h)
and_cases false b h = cc

pub and_both : (a b : Bool) → a ≡ true → b ≡ true → (a && b) ≡ true
and_both true b g h = h
and_both false b g h = cc

pub not_cases : (a : Bool) → not a ≡ true → a ≡ true → ⊥
not_cases true h g = cc
not_cases false h g = cc

pub not_true : (a : Bool) → (a ≡ true → ⊥) → not a ≡ true
not_true true h = absurd (h refl)
not_true false h = refl

-- an element that passes a test, and where it stands
pub found : {X : Type 0} (p : X → Bool) (xs : List X) → list_any p xs ≡ true → (k : ℕ) × (x : X) × (slice_get xs k ≡ Some x) × (p x ≡ true)
found p [] h = cc
found {X} p (x ∷ xs) h = by (found p xs) (or_cases (p x) (list_any p xs) h)
  where
    by : (list_any p xs ≡ true → (k : ℕ) × (y : X) × (slice_get xs k ≡ Some y) × (p y ≡ true)) → (p x ≡ true) ⊎ (list_any p xs ≡ true)
        → (k : ℕ) × (y : X) × (slice_get (x ∷ xs) k ≡ Some y) × (p y ≡ true)
    by more (inl here) = (0, x, refl, here)
    by more (inr there) = let rest = more there in (suc rest.0, rest.1, rest.2, rest.3)

pub passes_at : {X : Type 0} (p : X → Bool) (xs : List X) (k : ℕ) (x : X) → slice_get xs k ≡ Some x → p x ≡ true → list_any p xs ≡ true
passes_at p [] k x at h = cc
passes_at p (y ∷ xs) zero x at h = or_left (p y) (list_any p xs) (let e : y ≡ x = cc in ap p e ∙ h)
passes_at p (y ∷ xs) (suc k) x at h = or_right (p y) (list_any p xs) (passes_at p xs k x at h)

-- membership, by places
pub contains_at : {X : Type 0} (xs : List X) (k : ℕ) (x : X) → slice_get xs k ≡ Some x → Contains xs x
contains_at xs k x at = (k, slice_get_within xs k x at, get_or_from_slice_get xs k x x at)

pub place_of_member : {X : Type 0} (xs : List X) (x : X) → Contains xs x → (k : ℕ) × (slice_get xs k ≡ Some x)
place_of_member xs x h = (h.0, slice_get-get_or xs h.0 x h.1 ∙ ap (λ y. Some y) h.2)

pub contains_map : {X Y : Type 0} (g : X → Y) (xs : List X) (x : X) → Contains xs x → Contains (map g xs) (g x)
contains_map g xs x h =
    let at = place_of_member xs x h in contains_at (map g xs) at.0 (g x) (slice_get-map g xs at.0 ∙ ap (option_map g) at.1)

unmap : {X Y : Type 0} (g : X → Y) (o : Option X) (y : Y) → option_map g o ≡ Some y → (x : X) × (o ≡ Some x) × (g x ≡ y)
unmap g None y h = cc
unmap g (Some x) y h = (x, refl, cc)

pub contained_in_map : {X Y : Type 0} (g : X → Y) (xs : List X) (y : Y) → Contains (map g xs) y → (x : X) × Contains xs x × (g x ≡ y)
contained_in_map g xs y h =
    let at = place_of_member (map g xs) y h in
    let from = unmap g (slice_get xs at.0) y (sym (slice_get-map g xs at.0) ∙ at.1) in
    (from.0, contains_at xs at.0 from.0 from.1, from.2)

-- a number stands in a list
pub stands_from : (v : ℕ) (xs : List ℕ) → Contains xs v → stands_in v xs ≡ true
stands_from v xs h = let at = place_of_member xs v h in passes_at (λ y. eqb y v) xs at.0 v at.1 (eq-eqb v v refl)

pub stands_to : (v : ℕ) (xs : List ℕ) → stands_in v xs ≡ true → Contains xs v
stands_to v xs h =
    let at = found (λ y. eqb y v) xs h in
    subst (λ x. Contains xs x) (eqb-true at.1 v at.3) (contains_at xs at.0 at.1 at.2)

pub names_from : (f : Body) (xs : List ℕ) (v : ℕ) → Contains (map (resolved f) xs) v → names f xs v ≡ true
names_from f xs v h =
    let from = contained_in_map (resolved f) xs v h in
    let at = place_of_member xs from.0 from.1 in
    passes_at (λ x. eqb (resolved f x) v) xs at.0 from.0 at.1 (eq-eqb (resolved f from.0) v from.2)

pub names_to : (f : Body) (xs : List ℕ) (v : ℕ) → names f xs v ≡ true → Contains (map (resolved f) xs) v
names_to f xs v h =
    let at = found (λ x. eqb (resolved f x) v) xs h in
    subst (λ x. Contains (map (resolved f) xs) x) (eqb-true (resolved f at.1) v at.3) (contains_map (resolved f) xs at.1 (contains_at xs at.0 at.1 at.2))

-- INSTRUCTIONS ----------------------------------------------------------------------------------------------------------

pub items_are : (f : Body) (b : ℕ) → items_of f b ≡ map (placed_of f) (insts_of f b)
items_are f b = by (stands_in b f.layout)
  where
    by : (c : Bool) → (if c then map (placed_of f) (block_at f b).insts else []) ≡ map (placed_of f) (if c then (block_at f b).insts else [])
    by true = refl
    by false = refl

pub placed_is : (f : Body) (b k inst : ℕ) → slice_get (insts_of f b) k ≡ Some inst → placed_at (view_of f) (at b k) ≡ Some (placed_of f inst)
placed_is f b k inst is =
    ap (λ (items : List Placed). slice_get items k) (items_are f b) ∙ slice_get-map (placed_of f) (insts_of f b) k ∙ ap (option_map (placed_of f)) is

pub placed_none : (f : Body) (b k : ℕ) → slice_get (insts_of f b) k ≡ None → placed_at (view_of f) (at b k) ≡ None
placed_none f b k is =
    ap (λ (items : List Placed). slice_get items k) (items_are f b) ∙ slice_get-map (placed_of f) (insts_of f b) k ∙ ap (option_map (placed_of f)) is

pub size_is : (f : Body) (b : ℕ) → (function_flow (view_of f)).size b ≡ length (insts_of f b)
size_is f b = ap (λ (items : List Placed). length items) (items_are f b) ∙ length-map (insts_of f b) (placed_of f)

pub inst_within : (f : Body) (b k : ℕ) → k < length (insts_of f b) → slice_get (insts_of f b) k ≡ Some (get_or (insts_of f b) k 0)
inst_within f b k inside = slice_get-get_or (insts_of f b) k 0 inside

-- along an edge control comes to the front of its target
pub enters : (f : Body) (b k inst : ℕ) (edge : BlockCall) → slice_get (insts_of f b) k ≡ Some inst → Contains (destinations (inst_at f inst).shape) edge
    → 0 < length (insts_of f edge.block) → Leads (function_flow (view_of f)) (at b k) (at edge.block 0)
enters f b k inst edge is member some =
    inr (
      subst (λ (o : Option Placed). Contains (placed_targets o) edge.block) (sym (placed_is f b k inst is))
          (contains_map (λ (e : Edge ℕ ℕ). e.target) (map edge_of (destinations (inst_at f inst).shape)) (edge_of edge)
          (contains_map edge_of (destinations (inst_at f inst).shape) edge member)),
      (refl, subst (λ n. 0 < n) (sym (size_is f edge.block)) some),
    )

-- control goes on to the next instruction
pub goes_on : (f : Body) (b k : ℕ) → suc k < length (insts_of f b) → Leads (function_flow (view_of f)) (at b k) (at b (suc k))
goes_on f b k inside = inl (refl, sym (add-one k), subst (λ n. suc k < n) (sym (size_is f b)) inside)

-- FROM THE EQUATIONS TO PATHS -------------------------------------------------------------------------------------------

-- an edge passes it
argument_to : (f : Body) (v : ℕ) (edge : BlockCall) (k : ℕ) (x : BlockArg) → slice_get edge.args k ≡ Some x → argument_passes f v x ≡ true
    → (operand : ℕ) × (slice_get (map argument_of edge.args) k ≡ Some (Known operand)) × (resolved f operand ≡ v)
argument_to f v edge k (arg.Value w) is passes =
    (w, slice_get-map argument_of edge.args k ∙ ap (option_map argument_of) is, eqb-true (resolved f w) v passes)
argument_to f v edge k (arg.TryCallRet index) is passes = cc
argument_to f v edge k (arg.TryCallExn index) is passes = cc

passed_to : (f : Body) (v inst : ℕ) (edge : BlockCall) → Contains (destinations (inst_at f inst).shape) edge → list_any (argument_passes f v) edge.args ≡ true
    → IsPassed every_argument (resolved f) v (Some (placed_of f inst))
passed_to f v inst edge member passes =
    let which = found (argument_passes f v) edge.args passes in
    let operand = argument_to f v edge which.0 which.1 which.2 which.3 in
    (edge_of edge, which.0, operand.0, contains_map edge_of (destinations (inst_at f inst).shape) edge member, operand.1, operand.2, tt)

no_member : (x : ℕ) → Contains [] x → ⊥
no_member x h = absurd (omega (arith, h.1))

pub behind_to : (f : Body) (live_at : ℕ → Bool) (v b k inst : ℕ) (insts : List ℕ) → ((t : ℕ) → live_at t ≡ true → IsLiveFront f v t)
    → slice_get (insts_of f b) k ≡ Some inst
    → (is_live_before f live_at v insts ≡ true → (suc k < length (insts_of f b)) × (path : List (Place ℕ)) × IsLiveAt f v (at b (suc k)) path)
    → is_live_behind f live_at v inst (is_live_before f live_at v insts) ≡ true
    → (¬ Contains (placed_gives (placed_at (view_of f) (at b k))) v) × (path : List (Place ℕ)) × IsUsedAhead every_argument (view_of f) v (at b k) path
behind_to f live_at v b k inst insts front is next live =
    let parts = and_cases (not (stands_in v (inst_at f inst).results)) (list_any (edge_needs f live_at v) (destinations (inst_at f inst).shape) || is_live_before f live_at v insts) live in
    let ahead = by (or_cases (list_any (edge_needs f live_at v) (destinations (inst_at f inst).shape)) (is_live_before f live_at v insts) parts.1) in (
      λ given. not_cases (stands_in v (inst_at f inst).results) parts.0
          (stands_from v (inst_at f inst).results (subst (λ (o : Option Placed). Contains (placed_gives o) v) (placed_is f b k inst is) given)),
      ahead.0,
      ahead.1,
    )
  where
    along : (edge : BlockCall) → Contains (destinations (inst_at f inst).shape) edge → (live_at edge.block ≡ true) ⊎ (list_any (argument_passes f v) edge.args ≡ true)
        → (path : List (Place ℕ)) × IsUsedAhead every_argument (view_of f) v (at b k) path
    along edge member (inl needed) =
        let target = front edge.block needed in
        (at edge.block 0 ∷ target.path, (enters f b k inst edge is member target.some, target.no_parameter, target.live))
    along edge member (inr passes) =
        ([], subst (λ (o : Option Placed). IsPassed every_argument (resolved f) v o) (sym (placed_is f b k inst is)) (passed_to f v inst edge member passes))

    by : (list_any (edge_needs f live_at v) (destinations (inst_at f inst).shape) ≡ true) ⊎ (is_live_before f live_at v insts ≡ true)
        → (path : List (Place ℕ)) × IsUsedAhead every_argument (view_of f) v (at b k) path
    by (inl edges) =
        let which = found (edge_needs f live_at v) (destinations (inst_at f inst).shape) edges in
        along which.1 (contains_at (destinations (inst_at f inst).shape) which.0 which.1 which.2)
        (or_cases (live_at which.1.block) (list_any (argument_passes f v) which.1.args) which.3)
    by (inr more) =
        let later = next more in
        (at b (suc k) ∷ later.1, (goes_on f b k later.0, (λ given. no_member v given), later.2))

nonempty : (xs : List ℕ) (k : ℕ) (x : ℕ) (rest : List ℕ) → drop k xs ≡ x ∷ rest → (k < length xs) × (slice_get xs k ≡ Some x) × (drop (suc k) xs ≡ rest)
nonempty [] zero x rest e = cc
nonempty [] (suc k) x rest e = cc
nonempty (y ∷ xs) zero x rest e = (omega arith, (let h : y ≡ x = cc in ap (λ z. Some z) h), (let h : xs ≡ rest = cc in h))
nonempty (y ∷ xs) (suc k) x rest e = let more = nonempty xs k x rest e in (let h = more.0 in omega (arith, h), more.1, more.2)

-- what the equations tell before the instructions of a block from a place on
pub before_to : (f : Body) (live_at : ℕ → Bool) (v b : ℕ) → ((t : ℕ) → live_at t ≡ true → IsLiveFront f v t)
    → (insts : List ℕ) (k : ℕ) → drop k (insts_of f b) ≡ insts → is_live_before f live_at v insts ≡ true
    → (k < length (insts_of f b)) × (path : List (Place ℕ)) × IsLiveAt f v (at b k) path
before_to f live_at v b front [] k rest live = cc
before_to f live_at v b front (inst ∷ insts) k rest live =
    by (before_to f live_at v b front insts (suc k) here.2)
    (or_cases (names f (operands (inst_at f inst).shape) v) (is_live_behind f live_at v inst (is_live_before f live_at v insts)) live)
  where
    here : (k < length (insts_of f b)) × (slice_get (insts_of f b) k ≡ Some inst) × (drop (suc k) (insts_of f b) ≡ insts)
    here = nonempty (insts_of f b) k inst insts rest

    by : (is_live_before f live_at v insts ≡ true → (suc k < length (insts_of f b)) × (path : List (Place ℕ)) × IsLiveAt f v (at b (suc k)) path)
        → (names f (operands (inst_at f inst).shape) v ≡ true) ⊎ (is_live_behind f live_at v inst (is_live_before f live_at v insts) ≡ true)
        → (k < length (insts_of f b)) × (path : List (Place ℕ)) × IsLiveAt f v (at b k) path
    by more (inl used) =
        (here.0, [], inl (subst (λ (o : Option Placed). Contains (used_operands (resolved f) o) v) (sym (placed_is f b k inst here.1)) (names_to f (operands (inst_at f inst).shape) v used)))
    by more (inr behind) = let ahead = behind_to f live_at v b k inst insts front here.1 more behind in (here.0, ahead.1, inr (ahead.0, ahead.2))

-- what they tell at the front of a block
pub front_to : (f : Body) (live_at : ℕ → Bool) (v b : ℕ) → ((t : ℕ) → live_at t ≡ true → IsLiveFront f v t)
    → is_live_in f live_at b v ≡ true → IsLiveFront f v b
front_to f live_at v b front live =
    let parts = and_cases (not (stands_in v (block_at f b).params)) (is_live_before f live_at v (insts_of f b)) live in
    let from = before_to f live_at v b front (insts_of f b) 0 refl parts.1 in
    record {
      no_parameter = λ h. not_cases (stands_in v (block_at f b).params) parts.0 (stands_from v (block_at f b).params h);
      some = from.0;
      path = from.1;
      live = from.2;
    }

-- and behind the results of an instruction
pub across_to : (f : Body) (live_at : ℕ → Bool) (v b k inst : ℕ) → ((t : ℕ) → live_at t ≡ true → IsLiveFront f v t)
    → slice_get (insts_of f b) k ≡ Some inst → is_live_behind f live_at v inst (is_live_before f live_at v (drop (suc k) (insts_of f b))) ≡ true
    → (¬ Contains (placed_gives (placed_at (view_of f) (at b k))) v) × (path : List (Place ℕ)) × IsUsedAhead every_argument (view_of f) v (at b k) path
across_to f live_at v b k inst front is live =
    behind_to f live_at v b k inst (drop (suc k) (insts_of f b)) front is (before_to f live_at v b front (drop (suc k) (insts_of f b)) (suc k) refl) live

-- WHAT IS REACHED -------------------------------------------------------------------------------------------------------

-- each place of a block that is reached
pub reached_inside : (f : Body) (b : ℕ) → IsReached (view_of f) b → (k : ℕ) → k < length (insts_of f b) → IsReachable (function_flow (view_of f)) (at b k)
reached_inside f b is zero inside = by is
  where
    first : 0 < (function_flow (view_of f)).size b
    first = subst (λ n. 0 < n) (sym (size_is f b)) inside

    by : IsReached (view_of f) b → IsReachable (function_flow (view_of f)) (at b 0)
    by (inl entry) = ([], (entry, (refl, first)))
    by (inr from) = (from.0 ∷ from.1.0, (inr (from.2, (refl, first)), from.1.1))
reached_inside f b is (suc k) inside =
    let before = reached_inside f b is k (omega arith) in (at b k ∷ before.0, (goes_on f b k inside, before.1))

-- the block of a place that a path comes to
pub block_reached : (f : Body) (path : List (Place ℕ)) (p : Place ℕ) → IsPath (function_flow (view_of f)) (p ∷ path) → IsReached (view_of f) p.block
block_reached f [] p start = inl start.0
block_reached f (q ∷ path) p walk = by (block_reached f path q walk.1) walk.0
  where
    by : IsReached (view_of f) q.block → Leads (function_flow (view_of f)) q p → IsReached (view_of f) p.block
    by before (inl next) = subst (λ b. IsReached (view_of f) b) (sym next.0) before
    by before (inr edge) = inr (q, (path, walk.1), edge.0)

-- the targets of the edges of an instruction
pub targets_are : (f : Body) (b k inst t : ℕ) → slice_get (insts_of f b) k ≡ Some inst → Contains ((function_flow (view_of f)).targets (at b k)) t
    → (edge : BlockCall) × Contains (destinations (inst_at f inst).shape) edge × (edge.block ≡ t)
targets_are f b k inst t is member =
    let inside : Contains (map (λ (e : Edge ℕ ℕ). e.target) (map edge_of (destinations (inst_at f inst).shape))) t =
    subst (λ (o : Option Placed). Contains (placed_targets o) t) (placed_is f b k inst is) member in
    let edge = contained_in_map (λ (e : Edge ℕ ℕ). e.target) (map edge_of (destinations (inst_at f inst).shape)) t inside in
    let call = contained_in_map edge_of (destinations (inst_at f inst).shape) edge.0 edge.1 in
    (call.0, call.1, ap (λ (e : Edge ℕ ℕ). e.target) call.2 ∙ edge.2)

-- FROM PATHS TO THE EQUATIONS -------------------------------------------------------------------------------------------

-- wherever a value is found live at the front of a block that is reached, it is taken to be live there
abbrev pub IsSettled : Body → ℕ → (ℕ → Bool) → Type 0
IsSettled f v live_at = (t : ℕ) → IsReached (view_of f) t → is_live_in f live_at t v ≡ true → live_at t ≡ true

no_result : (f : Body) (v b k inst : ℕ) → slice_get (insts_of f b) k ≡ Some inst → (¬ Contains (placed_gives (placed_at (view_of f) (at b k))) v)
    → not (stands_in v (inst_at f inst).results) ≡ true
no_result f v b k inst is none =
    not_true (stands_in v (inst_at f inst).results)
    (λ h. none (subst (λ (o : Option Placed). Contains (placed_gives o) v) (sym (placed_is f b k inst is)) (stands_to v (inst_at f inst).results h)))

-- an argument that passes it
argument_from : (f : Body) (v : ℕ) (x : BlockArg) (operand : ℕ) → argument_of x ≡ Known operand → resolved f operand ≡ v → argument_passes f v x ≡ true
argument_from f v (arg.Value w) operand is names = eq-eqb (resolved f w) v (let e : w ≡ operand = cc in ap (resolved f) e ∙ names)
argument_from f v (arg.TryCallRet index) operand is names = cc
argument_from f v (arg.TryCallExn index) operand is names = cc

edges_need : (f : Body) (live_at : ℕ → Bool) (v inst : ℕ) (edge : BlockCall) → Contains (destinations (inst_at f inst).shape) edge → edge_needs f live_at v edge ≡ true
    → list_any (edge_needs f live_at v) (destinations (inst_at f inst).shape) ≡ true
edges_need f live_at v inst edge member needs =
    let where_is = place_of_member (destinations (inst_at f inst).shape) edge member in
    passes_at (edge_needs f live_at v) (destinations (inst_at f inst).shape) where_is.0 edge where_is.1 needs

passed_from : (f : Body) (live_at : ℕ → Bool) (v b k inst : ℕ) → slice_get (insts_of f b) k ≡ Some inst
    → IsPassed every_argument (resolved f) v (placed_at (view_of f) (at b k)) → list_any (edge_needs f live_at v) (destinations (inst_at f inst).shape) ≡ true
passed_from f live_at v b k inst is passed =
    by (subst (λ (o : Option Placed). IsPassed every_argument (resolved f) v o) (placed_is f b k inst is) passed)
  where
    by : IsPassed every_argument (resolved f) v (Some (placed_of f inst)) → list_any (edge_needs f live_at v) (destinations (inst_at f inst).shape) ≡ true
    by given =
        let call = contained_in_map edge_of (destinations (inst_at f inst).shape) given.0 given.3 in
        let argument = unmap argument_of (slice_get call.0.args given.1) (Known given.2)
        (sym (slice_get-map argument_of call.0.args given.1) ∙ ap (λ (e : Edge ℕ ℕ). slice_get e.arguments given.1) call.2 ∙ given.4) in
        edges_need f live_at v inst call.0 call.1
        (or_right (live_at call.0.block) (list_any (argument_passes f v) call.0.args)
        (passes_at (argument_passes f v) call.0.args given.1 argument.0 argument.1 (argument_from f v argument.0 given.2 argument.2 given.5)))

-- before an instruction, from what holds behind it
before_from : (f : Body) (live_at : ℕ → Bool) (v b k inst : ℕ) (path : List (Place ℕ)) → slice_get (insts_of f b) k ≡ Some inst
    → ((¬ Contains (placed_gives (placed_at (view_of f) (at b k))) v) → IsUsedAhead every_argument (view_of f) v (at b k) path
    → is_live_behind f live_at v inst (is_live_before f live_at v (drop (suc k) (insts_of f b))) ≡ true)
    → IsLiveAt f v (at b k) path → is_live_before f live_at v (drop k (insts_of f b)) ≡ true
before_from f live_at v b k inst path is behind live =
    subst (λ insts. is_live_before f live_at v insts ≡ true) (sym ahead) (by live)
  where
    ahead : drop k (insts_of f b) ≡ inst ∷ drop (suc k) (insts_of f b)
    ahead =
        drop-cons (insts_of f b) k 0 (slice_get_within (insts_of f b) k inst is)
        ∙ ap (λ x. x ∷ drop (suc k) (insts_of f b)) (get_or_from_slice_get (insts_of f b) k inst 0 is)

    by : IsLiveAt f v (at b k) path → is_live_before f live_at v (inst ∷ drop (suc k) (insts_of f b)) ≡ true
    by (inl used) =
        or_left (names f (operands (inst_at f inst).shape) v) (is_live_behind f live_at v inst (is_live_before f live_at v (drop (suc k) (insts_of f b))))
        (names_from f (operands (inst_at f inst).shape) v (subst (λ (o : Option Placed). Contains (used_operands (resolved f) o) v) (placed_is f b k inst is) used))
    by (inr later) =
        or_right (names f (operands (inst_at f inst).shape) v) (is_live_behind f live_at v inst (is_live_before f live_at v (drop (suc k) (insts_of f b))))
        (behind later.0 later.1)

-- behind an instruction, from what its edges need or what holds before the next one
behind_from : (f : Body) (live_at : ℕ → Bool) (v b k inst : ℕ) → slice_get (insts_of f b) k ≡ Some inst → (¬ Contains (placed_gives (placed_at (view_of f) (at b k))) v)
    → (list_any (edge_needs f live_at v) (destinations (inst_at f inst).shape) ≡ true) ⊎ (is_live_before f live_at v (drop (suc k) (insts_of f b)) ≡ true)
    → is_live_behind f live_at v inst (is_live_before f live_at v (drop (suc k) (insts_of f b))) ≡ true
behind_from f live_at v b k inst is none which =
    and_both (not (stands_in v (inst_at f inst).results))
    (list_any (edge_needs f live_at v) (destinations (inst_at f inst).shape) || is_live_before f live_at v (drop (suc k) (insts_of f b)))
    (no_result f v b k inst is none) (by which)
  where
    by : (list_any (edge_needs f live_at v) (destinations (inst_at f inst).shape) ≡ true) ⊎ (is_live_before f live_at v (drop (suc k) (insts_of f b)) ≡ true)
        → (list_any (edge_needs f live_at v) (destinations (inst_at f inst).shape) || is_live_before f live_at v (drop (suc k) (insts_of f b))) ≡ true
    by (inl edges) = or_left (list_any (edge_needs f live_at v) (destinations (inst_at f inst).shape)) (is_live_before f live_at v (drop (suc k) (insts_of f b))) edges
    by (inr more) = or_right (list_any (edge_needs f live_at v) (destinations (inst_at f inst).shape)) (is_live_before f live_at v (drop (suc k) (insts_of f b))) more

-- the block that an edge of a place in a block that is reached leads to
reached_along : (f : Body) (b k t : ℕ) → IsReached (view_of f) b → k < length (insts_of f b) → Contains ((function_flow (view_of f)).targets (at b k)) t → IsReached (view_of f) t
reached_along f b k t is inside member = inr (at b k, reached_inside f b is k inside, member)

-- what is to be shown of a rest of a path
abbrev pub Tells : Body → (ℕ → Bool) → ℕ → List (Place ℕ) → Type 0
Tells f live_at v path =
    (b k inst : ℕ) → IsReached (view_of f) b → slice_get (insts_of f b) k ≡ Some inst → (¬ Contains (placed_gives (placed_at (view_of f) (at b k))) v)
    → IsUsedAhead every_argument (view_of f) v (at b k) path → is_live_behind f live_at v inst (is_live_before f live_at v (drop (suc k) (insts_of f b))) ≡ true

-- before the next place of a path
pub there : (f : Body) (live_at : ℕ → Bool) (v : ℕ) (path : List (Place ℕ)) → Tells f live_at v path → (c m : ℕ) → IsReached (view_of f) c → m < length (insts_of f c)
    → IsLiveAt f v (at c m) path → is_live_before f live_at v (drop m (insts_of f c)) ≡ true
there f live_at v path tells c m reached inside live =
    before_from f live_at v c m (get_or (insts_of f c) m 0) path (inst_within f c m inside)
    (λ none ahead. tells c m (get_or (insts_of f c) m 0) reached (inst_within f c m inside) none ahead) live

step_from : (f : Body) (live_at : ℕ → Bool) (v : ℕ) → IsSettled f v live_at → (path : List (Place ℕ)) → Tells f live_at v path → (b k inst c m : ℕ) → IsReached (view_of f) b
    → slice_get (insts_of f b) k ≡ Some inst → (¬ Contains (given_on_entry (function_code (view_of f)) c m) v) → IsLiveAt f v (at c m) path
    → Leads (function_flow (view_of f)) (at b k) (at c m)
    → (list_any (edge_needs f live_at v) (destinations (inst_at f inst).shape) ≡ true) ⊎ (is_live_before f live_at v (drop (suc k) (insts_of f b)) ≡ true)
step_from f live_at v settled path tells b k inst c m reached is no_parameter live (inl next) =
    let inside : m < length (insts_of f c) = subst (λ n. m < n) (size_is f c) next.2 in
    let here : IsReached (view_of f) c = subst (λ x. IsReached (view_of f) x) (sym next.0) reached in
    let before : is_live_before f live_at v (drop m (insts_of f c)) ≡ true = there f live_at v path tells c m here inside live in
    inr (subst (λ n. is_live_before f live_at v (drop n (insts_of f b)) ≡ true) (next.1 ∙ add-one k) (subst (λ x. is_live_before f live_at v (drop m (insts_of f x)) ≡ true) next.0 before))
step_from f live_at v settled path tells b k inst c m reached is no_parameter live (inr enters) =
    let some : 0 < length (insts_of f c) = subst (λ n. 0 < n) (size_is f c) enters.1.1 in
    let inside : m < length (insts_of f c) = subst (λ n. n < length (insts_of f c)) (sym enters.1.0) some in
    let target : IsReached (view_of f) c = reached_along f b k c reached (slice_get_within (insts_of f b) k inst is) enters.0 in
    let before : is_live_before f live_at v (drop m (insts_of f c)) ≡ true = there f live_at v path tells c m target inside live in
    let front : is_live_before f live_at v (insts_of f c) ≡ true = subst (λ n. is_live_before f live_at v (drop n (insts_of f c)) ≡ true) enters.1.0 before in
    let fresh : ¬ Contains (block_at f c).params v = subst (λ n. ¬ Contains (given_on_entry (function_code (view_of f)) c n) v) enters.1.0 no_parameter in
    let taken : live_at c ≡ true = settled c target
    (and_both (not (stands_in v (block_at f c).params)) (is_live_before f live_at v (insts_of f c))
    (not_true (stands_in v (block_at f c).params) (λ h. fresh (stands_to v (block_at f c).params h))) front) in
    let edge = targets_are f b k inst c is enters.0 in
    inl (edges_need f live_at v inst edge.0 edge.1
    (or_left (live_at edge.0.block) (list_any (argument_passes f v) edge.0.args) (subst (λ x. live_at x ≡ true) (sym edge.2) taken)))

pub across_from : (f : Body) (live_at : ℕ → Bool) (v : ℕ) → IsSettled f v live_at → (path : List (Place ℕ)) → Tells f live_at v path
across_from f live_at v settled [] b k inst reached is none passed = behind_from f live_at v b k inst is none (inl (passed_from f live_at v b k inst is passed))
across_from f live_at v settled (q ∷ path) b k inst reached is none ahead =
    behind_from f live_at v b k inst is none
    (step_from f live_at v settled path (across_from f live_at v settled path) b k inst q.block q.index reached is ahead.1 ahead.2 ahead.0)
