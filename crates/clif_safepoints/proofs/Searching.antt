-- A search by a stack of visits is the depth-first search, and what dominates a block is left no earlier. Stacks have the next
-- visit first here.
use Rattle.std.proofs.Common.{◌≡◌, ◌≢◌, ◌<◌, ◌≤◌, ◌⊎◌, ℕ, zero, suc, Bool, true, false, List, [], ◌∷◌, ◌++◌, length, reverse, set, replicate, refl, sym, ap, subst, ◌∙◌, arith, inl, inr, Option, Some, None, eqb}
use Rattle.std.specs.Prelude.{Contains, slice_get}
use Rattle.std.proofs.lemmas.Bool.{false≢true}
use Rattle.std.proofs.lemmas.Bool.Decides.{eqb_tells}
use Rattle.std.proofs.lemmas.List.{get_or-set_other, map-append, reverse-append, reverse-reverse}
use Rattle.std.proofs.lemmas.Grind.{get_or-set_at}
use Rattle.std.proofs.lemmas.Option.{slice_get_within}
use Rattle.clif_safepoints.specs.declared.graph.Visit.{Visit}
use Rattle.clif_safepoints.specs.declared.graph.Visit.TheVariants.{Enter, Leave}
use Rattle.clif_safepoints.specs.Graph.{IsClosed, IsOrder, leads_to}
use Rattle.clif_safepoints.specs.Order.{DepthFirst, Dominates, Ends, Enters, IsDepthFirst, IsSorted, IsWay, Passes, Visited, nothing_visited, with_left}
use Rattle.clif_number_sets.specs.Sets.{is_in}
use Rattle.clif_safepoints.specs.Visits.{entered}
use Rattle.clif_safepoints.proofs.Visits.{IsVisiting, enter_inside, visits_end, visits_enter, visits_leave, visits_skip, visits_start}

-- SEARCHES --------------------------------------------------------------------------------------------------------------

-- one search after another
pub joined : {leads : ℕ → List ℕ} {xs ys : List ℕ} {a b c : Visited} → DepthFirst leads xs a b → DepthFirst leads ys b c → DepthFirst leads (xs ++ ys) a c
joined (Ends visited) next = next
joined {leads} {xs} {ys} {a} {b} {c} (Passes block blocks before after known rest) next = Passes block (blocks ++ ys) before c known (joined rest next)
joined {leads} {xs} {ys} {a} {b} {c} (Enters block blocks before inside after fresh within rest) next =
    Enters block (blocks ++ ys) before inside c fresh within (joined rest next)

-- the visits that are still to be made lead from what was visited before to what is visited after
abbrev pub Completes : (ℕ → List ℕ) → List Visit → (before after : Visited) → Type 0
Completes leads [] before after = before ≡ after
Completes leads (Enter block ∷ stack) before after = (mid : Visited) × DepthFirst leads (block ∷ []) before mid × Completes leads stack mid after
Completes leads (Leave block ∷ stack) before after = Completes leads stack (with_left block before) after

-- blocks that are entered one after another
collected : (leads : ℕ → List ℕ) (xs : List ℕ) (stack : List Visit) (before after : Visited) → Completes leads (entered xs ++ stack) before after
    → (mid : Visited) × DepthFirst leads xs before mid × Completes leads stack mid after
collected leads [] stack before after h = (before, Ends before, h)
collected leads (x ∷ xs) stack before after h =
    let rest = collected leads xs stack h.0 after h.2 in (rest.0, joined h.1 rest.1, rest.2)

-- STACKS ----------------------------------------------------------------------------------------------------------------

-- the blocks that are open, the latest first
abbrev pub open_in : List Visit → List ℕ
open_in [] = []
open_in (Enter block ∷ stack) = open_in stack
open_in (Leave block ∷ stack) = block ∷ open_in stack

open_past : (xs : List ℕ) (stack : List Visit) → open_in (entered xs ++ stack) ≡ open_in stack
open_past [] stack = refl
open_past (x ∷ xs) stack = open_past xs stack

-- the open blocks below a visit are a way to its block
abbrev pub AreNested : (ℕ → List ℕ) → Option ℕ → List Visit → Type 0
AreNested leads entry [] = Unit {0}
AreNested leads entry (Enter block ∷ stack) = IsWay leads entry (block ∷ open_in stack) × AreNested leads entry stack
AreNested leads entry (Leave block ∷ stack) = IsWay leads entry (block ∷ open_in stack) × AreNested leads entry stack

nested_past : (leads : ℕ → List ℕ) (entry : Option ℕ) (xs : List ℕ) (block : ℕ) (stack : List Visit) → ((x : ℕ) → Contains xs x → Contains (leads block) x)
    → AreNested leads entry (Leave block ∷ stack) → AreNested leads entry (entered xs ++ Leave block ∷ stack)
nested_past leads entry [] block stack from nested = nested
nested_past leads entry (x ∷ xs) block stack from nested = (
  subst (λ blocks. IsWay leads entry (x ∷ blocks)) (sym (open_past xs (Leave block ∷ stack))) (from x (0, omega arith, refl), nested.0),
  nested_past leads entry xs block stack (λ y h. from y (suc h.0, omega (arith, h.1), h.2)) nested,
)

-- a block is open or, from this place on, left
abbrev pub IsOpenOrLater : List ℕ → List ℕ → ℕ → ℕ → Type 0
IsOpenOrLater blocks order i other = Contains blocks other ⊎ ((j : ℕ) × (i ≤ j) × (slice_get order j ≡ Some other))

-- What holds between visits, of what was entered and left. `known` has the blocks that were entered, the latest first.
pub record IsSearching (leads : ℕ → List ℕ) (entry : Option ℕ) (seen : List Bool) (stack : List Visit) (order : List ℕ) : Type 0 where
  pub known : List ℕ
  pub seen_known : (b : ℕ) → is_in seen b ≡ true → Contains known b
  pub known_seen : (b : ℕ) → Contains known b → is_in seen b ≡ true
  pub completes : (e : ℕ) → entry ≡ Some e → (after : Visited) → Completes leads stack (record { entered = known; left = order }) after
      → DepthFirst leads (e ∷ []) nothing_visited after
  pub nested : AreNested leads entry stack
  pub later : (i block other : ℕ) → slice_get order i ≡ Some block → Dominates leads entry other block → IsOpenOrLater (open_in stack) order i other

no_mark : (n b : ℕ) → is_in (replicate n false) b ≡ false
no_mark zero b = refl
no_mark (suc n) zero = refl
no_mark (suc n) (suc b) = no_mark n b

pub search_start : (leads : ℕ → List ℕ) (entry : Option ℕ) (e n : ℕ) → entry ≡ Some e → IsSearching leads entry (replicate n false) (Enter e ∷ []) []
search_start leads entry e n is = record {
  known = [];
  seen_known = λ b h. absurd (false≢true (sym (no_mark n b) ∙ h));
  known_seen = λ b h. absurd (omega (arith, h.1));
  completes = λ x first after h.
      let same : e ≡ x = (let both : Some e ≡ Some x = sym is ∙ first in cc) in
      subst (λ y. DepthFirst leads (y ∷ []) nothing_visited after) same (subst (λ v. DepthFirst leads (e ∷ []) nothing_visited v) h.2 h.1);
  nested = (is, tt);
  later = λ i block other at. absurd (let inside = slice_get_within [] i block at in omega (arith, inside));
}

-- a list with one more at its end
get_pushed : (xs : List ℕ) (x i y : ℕ) → slice_get (xs ++ x ∷ []) i ≡ Some y → ((i < length xs) × (slice_get xs i ≡ Some y)) ⊎ ((i ≡ length xs) × (x ≡ y))
get_pushed [] x zero y at = inr (refl, let e : x ≡ y = cc in e)
get_pushed [] x (suc i) y at = cc
get_pushed (z ∷ xs) x zero y at = inl (omega arith, at)
get_pushed (z ∷ xs) x (suc i) y at = by (get_pushed xs x i y at)
  where
    by : ((i < length xs) × (slice_get xs i ≡ Some y)) ⊎ ((i ≡ length xs) × (x ≡ y)) → ((suc i < suc (length xs)) × (slice_get xs i ≡ Some y)) ⊎ ((suc i ≡ suc (length xs)) × (x ≡ y))
    by (inl h) = inl (let below = h.0 in omega (arith, below), h.1)
    by (inr h) = inr (ap suc h.0, h.1)

get_left : (xs ys : List ℕ) (i y : ℕ) → slice_get xs i ≡ Some y → slice_get (xs ++ ys) i ≡ Some y
get_left [] ys i y at = cc
get_left (x ∷ xs) ys zero y at = at
get_left (x ∷ xs) ys (suc i) y at = get_left xs ys i y at

get_last : (xs : List ℕ) (x : ℕ) → slice_get (xs ++ x ∷ []) (length xs) ≡ Some x
get_last [] x = refl
get_last (z ∷ xs) x = get_last xs x

contains_cases : (x : ℕ) (xs : List ℕ) (y : ℕ) → Contains (x ∷ xs) y → (x ≡ y) ⊎ Contains xs y
contains_cases x xs y (zero, inside, is) = inl is
contains_cases x xs y (suc k, inside, is) = inr (k, omega (arith, inside), is)

contains_later : (x : ℕ) (xs : List ℕ) (y : ℕ) → Contains xs y → Contains (x ∷ xs) y
contains_later x xs y h = (suc h.0, let inside = h.1 in omega (arith, inside), h.2)

pub search_leave : (leads : ℕ → List ℕ) (entry : Option ℕ) (seen : List Bool) (b : ℕ) (stack : List Visit) (order : List ℕ) → IsSearching leads entry seen (Leave b ∷ stack) order
    → IsSearching leads entry seen stack (order ++ b ∷ [])
search_leave leads entry seen b stack order so_far = record {
  known = so_far.known;
  seen_known = so_far.seen_known;
  known_seen = so_far.known_seen;
  completes = λ e first after h. so_far.completes e first after h;
  nested = so_far.nested.1;
  later = λ i block other at dominates. by i block other dominates (get_pushed order b i block at);
}
  where
    open_now : (i other : ℕ) → i ≤ length order → (b ≡ other) ⊎ Contains (open_in stack) other → IsOpenOrLater (open_in stack) (order ++ b ∷ []) i other
    open_now i other below (inl same) = inr (length order, below, get_last order b ∙ ap (λ x. Some x) same)
    open_now i other below (inr opened) = inl opened

    old : (i other : ℕ) → i ≤ length order → IsOpenOrLater (b ∷ open_in stack) order i other → IsOpenOrLater (open_in stack) (order ++ b ∷ []) i other
    old i other below (inl opened) = open_now i other below (contains_cases b (open_in stack) other opened)
    old i other below (inr done) = inr (done.0, done.1, get_left order (b ∷ []) done.0 other done.2)

    by : (i block other : ℕ) → Dominates leads entry other block → ((i < length order) × (slice_get order i ≡ Some block)) ⊎ ((i ≡ length order) × (b ≡ block))
        → IsOpenOrLater (open_in stack) (order ++ b ∷ []) i other
    by i block other dominates (inl before) = old i other (let below = before.0 in omega (arith, below)) (so_far.later i block other before.1 dominates)
    by i block other dominates (inr here) =
        open_now i other (let same = here.0 in omega (arith, same))
        (contains_cases b (open_in stack) other (subst (λ x. Dominates leads entry other x) (sym here.1) dominates (open_in stack) so_far.nested.0))

pub search_skip : (leads : ℕ → List ℕ) (entry : Option ℕ) (seen : List Bool) (b : ℕ) (stack : List Visit) (order : List ℕ) → is_in seen b ≡ true
    → IsSearching leads entry seen (Enter b ∷ stack) order → IsSearching leads entry seen stack order
search_skip leads entry seen b stack order marked so_far = record {
  known = so_far.known;
  seen_known = so_far.seen_known;
  known_seen = so_far.known_seen;
  completes = λ e first after h.
      let now : Visited = record { entered = so_far.known; left = order } in
      so_far.completes e first after (now, Passes b [] now now (so_far.seen_known b marked) (Ends now), h);
  nested = so_far.nested.1;
  later = so_far.later;
}

pub search_enter : (leads : ℕ → List ℕ) (entry : Option ℕ) (seen : List Bool) (b : ℕ) (stack : List Visit) (order : List ℕ) → b < length seen → is_in seen b ≡ false
    → IsSearching leads entry seen (Enter b ∷ stack) order → IsSearching leads entry (set seen b true) (entered (leads b) ++ Leave b ∷ stack) order
search_enter leads entry seen b stack order inside fresh so_far = record {
  known = b ∷ so_far.known;
  seen_known = λ q h. known_now q h (eqb_tells q b);
  known_seen = λ q h. seen_now q (contains_cases b so_far.known q h) (eqb_tells q b);
  completes = λ e first after h. complete e first after (collected leads (leads b) (Leave b ∷ stack) (record { entered = b ∷ so_far.known; left = order }) after h);
  nested = nested_past leads entry (leads b) b stack (λ x h. h) so_far.nested;
  later = λ i block other at dominates.
      subst (λ blocks. IsOpenOrLater blocks order i other) (sym (open_past (leads b) (Leave b ∷ stack))) (wider i other (so_far.later i block other at dominates));
}
  where
    now : Visited
    now = record { entered = so_far.known; left = order }

    known_now : (q : ℕ) → is_in (set seen b true) q ≡ true → ((eqb q b ≡ true) × (q ≡ b)) ⊎ ((eqb q b ≡ false) × (q ≢ b)) → Contains (b ∷ so_far.known) q
    known_now q h (inl same) = (0, omega arith, sym same.1)
    known_now q h (inr other) = contains_later b so_far.known q (so_far.seen_known q (sym (get_or-set_other seen b q true false other.1) ∙ h))

    seen_now : (q : ℕ) → (b ≡ q) ⊎ Contains so_far.known q → ((eqb q b ≡ true) × (q ≡ b)) ⊎ ((eqb q b ≡ false) × (q ≢ b)) → is_in (set seen b true) q ≡ true
    seen_now q which (inl same) = get_or-set_at seen b q true false same.1 inside
    seen_now q (inl here) (inr other) = absurd (other.1 (sym here))
    seen_now q (inr old) (inr other) = get_or-set_other seen b q true false other.1 ∙ so_far.known_seen q old

    complete : (e : ℕ) → entry ≡ Some e → (after : Visited)
        → (mid : Visited) × DepthFirst leads (leads b) (record { entered = b ∷ so_far.known; left = order }) mid × Completes leads stack (with_left b mid) after
        → DepthFirst leads (e ∷ []) nothing_visited after
    complete e first after h =
        so_far.completes e first after (
          with_left b h.0,
          Enters b [] now h.0 (with_left b h.0) (λ known. false≢true (sym fresh ∙ so_far.known_seen b known)) h.1 (Ends (with_left b h.0)),
          h.2,
        )

    wider : (i other : ℕ) → IsOpenOrLater (open_in stack) order i other → IsOpenOrLater (b ∷ open_in stack) order i other
    wider i other (inl opened) = inl (contains_later b (open_in stack) other opened)
    wider i other (inr done) = inr done

-- no visits are left
pub search_order : (leads : ℕ → List ℕ) (entry : Option ℕ) (seen : List Bool) (order : List ℕ) (e : ℕ) → entry ≡ Some e → IsSearching leads entry seen [] order
    → IsDepthFirst leads entry order
search_order leads entry seen order e is done =
    subst (λ o. IsDepthFirst leads o order) (sym is) (done.known, done.completes e is (record { entered = done.known; left = order }) refl)

pub search_sorted : (leads : ℕ → List ℕ) (entry : Option ℕ) (seen : List Bool) (order : List ℕ) → IsSearching leads entry seen [] order → IsSorted leads entry order
search_sorted leads entry seen order done i block other at dominates = by (done.later i block other at dominates)
  where
    by : IsOpenOrLater [] order i other → (j : ℕ) × (i ≤ j) × (slice_get order j ≡ Some other)
    by (inl opened) = absurd (omega (arith, opened.1))
    by (inr done) = done

-- STACKS WITH THE NEXT VISIT LAST ---------------------------------------------------------------------------------------

pub turned : (rest : List Visit) (v : Visit) → reverse (rest ++ v ∷ []) ≡ v ∷ reverse rest
turned rest v = reverse-append rest (v ∷ [])

reverse_entered : (xs : List ℕ) → reverse (entered xs) ≡ entered (reverse xs)
reverse_entered [] = refl
reverse_entered (x ∷ xs) =
    reverse-append (Enter x ∷ []) (entered xs) ∙ ap (λ ys. ys ++ Enter x ∷ []) (reverse_entered xs) ∙ sym (map-append Enter (reverse xs) (x ∷ []))
    ∙ ap entered (sym (reverse-append (x ∷ []) xs))

pub turned_entered : (rest : List Visit) (b : ℕ) (xs : List ℕ) → reverse ((rest ++ Leave b ∷ []) ++ entered (reverse xs)) ≡ entered xs ++ Leave b ∷ reverse rest
turned_entered rest b xs =
    reverse-append (rest ++ Leave b ∷ []) (entered (reverse xs))
    ∙ ap (λ ys. ys ++ reverse (rest ++ Leave b ∷ [])) (reverse_entered (reverse xs) ∙ ap entered (reverse-reverse xs))
    ∙ ap (λ ys. entered xs ++ ys) (turned rest (Leave b))

-- BOTH ------------------------------------------------------------------------------------------------------------------

-- what holds between visits, the next one last
abbrev pub IsWalking : List (List ℕ) → Option ℕ → List Bool → List Visit → List ℕ → Type 0
IsWalking graph entry seen visits order = IsVisiting graph entry seen visits order × IsSearching (leads_to graph) entry seen (reverse visits) order

pub walk_start : (graph : List (List ℕ)) (entry : Option ℕ) (e : ℕ) → entry ≡ Some e → e < length graph
    → IsWalking graph entry (replicate (length graph) false) (Enter e ∷ []) []
walk_start graph entry e is inside = (visits_start graph entry e (length graph) is inside refl, search_start (leads_to graph) entry e (length graph) is)

pub walk_leave : (graph : List (List ℕ)) (entry : Option ℕ) (seen : List Bool) (rest : List Visit) (order : List ℕ) (b : ℕ) → IsWalking graph entry seen (rest ++ Leave b ∷ []) order
    → IsWalking graph entry seen rest (order ++ b ∷ [])
walk_leave graph entry seen rest order b so_far = (
  visits_leave graph entry seen rest order b so_far.0,
  search_leave (leads_to graph) entry seen b (reverse rest) order (subst (λ stack. IsSearching (leads_to graph) entry seen stack order) (turned rest (Leave b)) so_far.1),
)

pub walk_skip : (graph : List (List ℕ)) (entry : Option ℕ) (seen : List Bool) (rest : List Visit) (order : List ℕ) (b : ℕ) → is_in seen b ≡ true
    → IsWalking graph entry seen (rest ++ Enter b ∷ []) order → IsWalking graph entry seen rest order
walk_skip graph entry seen rest order b marked so_far = (
  visits_skip graph entry seen rest order b marked so_far.0,
  search_skip (leads_to graph) entry seen b (reverse rest) order marked
      (subst (λ stack. IsSearching (leads_to graph) entry seen stack order) (turned rest (Enter b)) so_far.1),
)

pub walk_enter : (graph : List (List ℕ)) (entry : Option ℕ) (seen : List Bool) (rest : List Visit) (order : List ℕ) (b : ℕ) → IsClosed graph → is_in seen b ≡ false
    → IsWalking graph entry seen (rest ++ Enter b ∷ []) order
    → IsWalking graph entry (set seen b true) ((rest ++ Leave b ∷ []) ++ entered (reverse (leads_to graph b))) order
walk_enter graph entry seen rest order b closed fresh so_far = (
  visits_enter graph entry seen rest order b closed fresh so_far.0,
  subst (λ stack. IsSearching (leads_to graph) entry (set seen b true) stack order) (sym (turned_entered rest b (leads_to graph b)))
      (search_enter (leads_to graph) entry seen b (reverse rest) order inside fresh
      (subst (λ stack. IsSearching (leads_to graph) entry seen stack order) (turned rest (Enter b)) so_far.1)),
)
  where
    inside : b < length seen
    inside = subst (λ n. b < n) (sym so_far.0.size) (enter_inside rest b so_far.0)

pub walk_end : (graph : List (List ℕ)) (entry : Option ℕ) (seen : List Bool) (order : List ℕ) (e : ℕ) → entry ≡ Some e → IsWalking graph entry seen [] order → IsOrder graph entry order
walk_end graph entry seen order e is done =
    visits_end graph entry seen order done.0 (search_order (leads_to graph) entry seen order e is done.1) (search_sorted (leads_to graph) entry seen order done.1)

-- nothing is reached where there is no entry
pub walk_none : (graph : List (List ℕ)) (entry : Option ℕ) → entry ≡ None → IsOrder graph entry []
walk_none graph entry none = record {
  once = λ j k before inside. absurd (omega (arith, inside));
  exist = λ k d inside. absurd (omega (arith, inside));
  reached = λ b h. absurd (omega (arith, h.1));
  all = λ b way walk. absurd (no_way way b walk);
  depth_first = subst (λ o. IsDepthFirst (leads_to graph) o []) (sym none) refl;
  sorted = λ i block other at. absurd (let inside = slice_get_within [] i block at in omega (arith, inside));
}
  where
    no_way : (way : List ℕ) (b : ℕ) → IsWay (leads_to graph) entry (b ∷ way) → ⊥
    no_way [] b walk = let both : None ≡ Some b = sym none ∙ walk in cc
    no_way (a ∷ way) b walk = no_way way a walk.1
