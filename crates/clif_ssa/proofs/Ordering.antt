-- Entries of lists, and the order of parameters.
use Rattle.std.proofs.Common.{◌≡◌, ◌≢◌, ℕ, zero, suc, ◌+◌, ◌<◌, ◌≤◌, ◌==◌, Bool, true, false, List, [], ◌∷◌, ◌++◌, length, refl, ap, arith, sym, ◌∙◌, subst, ◌⊎◌, inl, inr}
use Rattle.std.specs.Prelude.{Some, None, if◌then◌else◌, map, Contains, slice_index, slice_index_or}
use Rattle.std.proofs.lemmas.Grind.{common_steps}
use Rattle.std.proofs.lemmas.Bool.{cases_eq}
use Rattle.std.proofs.lemmas.List.Elements.{Contains-get_or, Contains-push_cases}
use Rattle.clif_ir.specs.Body.{Body}
use Rattle.clif_instructions.specs.Members.{Stands, place_of, without}
use Rattle.clif_ir.specs.Reading.{param_home}
use Rattle.clif_instructions.proofs.Members.{if_true, if_false}
use Rattle.clif_records.specs.declared.tables.Pending.{Pending}
use Rattle.clif_ssa.specs.Sound.{InOrder, parameters_of, is_parameter_of, is_some_block, no_pending}

pub same_number : (a b : ℕ) → a ≡ b → (a == b) ≡ true
same_number a b same = grind (arith, common_steps, same)

pub other_number : (a b : ℕ) → a ≢ b → (a == b) ≡ false
other_number a b other = grind (arith, common_steps, other)

true_false : true ≡ false → ⊥
true_false same = cc

-- LISTS -----------------------------------------------------------------------------------------------------------

pub contains_more : {X : Type 0} (x : X) (xs : List X) (y : X) → Contains xs y → Contains (x ∷ xs) y
contains_more x xs y here = (suc here.0, omega (arith, here.1), here.2)

pub contains_first : {X : Type 0} (x : X) (xs : List X) → Contains (x ∷ xs) x
contains_first x xs = (0, omega arith, refl)

pub contains_cons : {X : Type 0} (x : X) (xs : List X) (y : X) → Contains (x ∷ xs) y → (x ≡ y) ⊎ Contains xs y
contains_cons x xs y (zero, below, at) = inl at
contains_cons x xs y (suc k, below, at) = inr (k, omega (arith, below), at)

pub none_contained : {X : Type 0} (x : X) → Contains [] x → ⊥
none_contained x here = absurd (omega (arith, here.1))

pub nothing_contained : {X : Type 0} (xs : List X) → ((x : X) → Contains xs x → ⊥) → xs ≡ []
nothing_contained [] none = refl
nothing_contained (x ∷ xs) none = absurd (none x (contains_first x xs))

pub map_same : (h k : ℕ → ℕ) (xs : List ℕ) → ((x : ℕ) → Contains xs x → h x ≡ k x) → map h xs ≡ map k xs
map_same h k [] same = refl
map_same h k (x ∷ xs) same =
    let first : h x ≡ k x = same x (contains_first x xs) in
    let rest : map h xs ≡ map k xs = map_same h k xs (λ y here. same y (contains_more x xs y here)) in
    ap (λ y. y ∷ map h xs) first ∙ ap (λ ys. k x ∷ ys) rest

-- PARAMETERS IN A LIST -------------------------------------------------------------------------------------------

-- parameters with the same homes are parameters of the same blocks
pub parameters_same : (f g : Body) (b : ℕ) (ps : List Pending) → ((p : Pending) → Contains ps p → is_parameter_of g b p ≡ is_parameter_of f b p) → parameters_of g b ps ≡ parameters_of f b ps
parameters_same f g b [] same = refl
parameters_same f g b (p ∷ ps) same =
    let first : is_parameter_of g b p ≡ is_parameter_of f b p = same p (contains_first p ps) in
    let rest : parameters_of g b ps ≡ parameters_of f b ps = parameters_same f g b ps (λ q here. same q (contains_more p ps q here)) in
    ap (λ t. if t then p ∷ parameters_of g b ps else parameters_of g b ps) first ∙ ap (λ qs. if is_parameter_of f b p then p ∷ qs else qs) rest

pub parameters_first : (f : Body) (b : ℕ) (p : Pending) (ps : List Pending) → is_parameter_of f b p ≡ true → parameters_of f b (p ∷ ps) ≡ p ∷ parameters_of f b ps
parameters_first f b p ps is = ap (λ t. if t then p ∷ parameters_of f b ps else parameters_of f b ps) is

pub parameters_skip : (f : Body) (b : ℕ) (p : Pending) (ps : List Pending) → is_parameter_of f b p ≡ false → parameters_of f b (p ∷ ps) ≡ parameters_of f b ps
parameters_skip f b p ps is = ap (λ t. if t then p ∷ parameters_of f b ps else parameters_of f b ps) is

pub parameters_all : (f : Body) (b : ℕ) (ps : List Pending) → ((p : Pending) → Contains ps p → is_parameter_of f b p ≡ true) → parameters_of f b ps ≡ ps
parameters_all f b [] all = refl
parameters_all f b (p ∷ ps) all =
    let rest : parameters_of f b ps ≡ ps = parameters_all f b ps (λ q here. all q (contains_more p ps q here)) in
    parameters_first f b p ps (all p (contains_first p ps)) ∙ ap (λ qs. p ∷ qs) rest

pub parameters_none : (f : Body) (b : ℕ) (ps : List Pending) → ((p : Pending) → Contains ps p → is_parameter_of f b p ≡ false) → parameters_of f b ps ≡ []
parameters_none f b [] none = refl
parameters_none f b (p ∷ ps) none =
    let rest : parameters_of f b ps ≡ [] = parameters_none f b ps (λ q here. none q (contains_more p ps q here)) in
    parameters_skip f b p ps (none p (contains_first p ps)) ∙ rest

pub parameters_contain : (f : Body) (b : ℕ) (ps : List Pending) (q : Pending) → is_parameter_of f b q ≡ true → Contains ps q → Contains (parameters_of f b ps) q
parameters_contain f b [] q is here = absurd (none_contained q here)
parameters_contain f b (p ∷ ps) q is here =
    let induction : Contains ps q → Contains (parameters_of f b ps) q = parameters_contain f b ps q is in
    by induction (is_parameter_of f b p) refl (contains_cons p ps q here)
  where
    by : (Contains ps q → Contains (parameters_of f b ps) q) → (test : Bool) → is_parameter_of f b p ≡ test → (p ≡ q) ⊎ Contains ps q → Contains (if test then p ∷ parameters_of f b ps else parameters_of f b ps) q
    by induction true first (inl same) = subst (λ r. Contains (p ∷ parameters_of f b ps) r) same (contains_first p (parameters_of f b ps))
    by induction true first (inr later) = contains_more p (parameters_of f b ps) q (induction later)
    by induction false first (inl same) = absurd (true_false (sym is ∙ ap (is_parameter_of f b) (sym same) ∙ first))
    by induction false first (inr later) = induction later

pub parameters_fewer : (f : Body) (b : ℕ) (ps : List Pending) → length (parameters_of f b ps) ≤ length ps
parameters_fewer f b [] = omega arith
parameters_fewer f b (p ∷ ps) = by (parameters_fewer f b ps) (is_parameter_of f b p)
  where
    by : length (parameters_of f b ps) ≤ length ps → (test : Bool) → length (if test then p ∷ parameters_of f b ps else parameters_of f b ps) ≤ suc (length ps)
    by fewer true = omega (arith, fewer)
    by fewer false = omega (arith, fewer)

-- what is a parameter of the block
pub is_parameter : (f : Body) (b : ℕ) (p : Pending) → param_home f p.param ≡ Some b → is_parameter_of f b p ≡ true
is_parameter f b p is = ap (is_some_block b) is ∙ same_number b b refl

pub is_no_parameter : (f : Body) (b : ℕ) (p : Pending) → param_home f p.param ≡ None → is_parameter_of f b p ≡ false
is_no_parameter f b p is = ap (is_some_block b) is

pub is_parameter_elsewhere : (f : Body) (b c : ℕ) (p : Pending) → param_home f p.param ≡ Some c → c ≢ b → is_parameter_of f b p ≡ false
is_parameter_elsewhere f b c p is apart = ap (is_some_block b) is ∙ other_number c b apart

-- PLACES ----------------------------------------------------------------------------------------------------------

pub place_here : (x y : ℕ) (ys : List ℕ) → y ≡ x → place_of x (y ∷ ys) ≡ 0
place_here x y ys same = if_true y x 0 (place_of x ys + 1) same

pub place_later : (x y : ℕ) (ys : List ℕ) → y ≢ x → place_of x (y ∷ ys) ≡ place_of x ys + 1
place_later x y ys other = if_false y x 0 (place_of x ys + 1) other

pub without_here : (x y : ℕ) (ys : List ℕ) → y ≡ x → without x (y ∷ ys) ≡ ys
without_here x y ys same = if_true y x ys (y ∷ without x ys) same

pub without_later : (x y : ℕ) (ys : List ℕ) → y ≢ x → without x (y ∷ ys) ≡ y ∷ without x ys
without_later x y ys other = if_false y x ys (y ∷ without x ys) other

pub stands_place : (x : ℕ) (xs : List ℕ) → Stands x xs → place_of x xs < length xs
stands_place x [] here = absurd (omega (arith, here.1))
stands_place x (y ∷ ys) here =
    elim (cases_eq y x) [
      | inl same ↦ omega (arith, place_here x y ys same)
      | inr other ↦
          let rest : place_of x ys < length ys = stands_place x ys (behind here other) in
          omega (arith, place_later x y ys other, rest)
    ]
  where
    behind : Stands x (y ∷ ys) → y ≢ x → Stands x ys
    behind (zero, below, at) other = absurd (other at)
    behind (suc k, below, at) other = (k, omega (arith, below), at)

pub place_append : (x : ℕ) (xs ys : List ℕ) → place_of x xs < length xs → place_of x (xs ++ ys) ≡ place_of x xs
place_append x [] ys below = absurd (omega (arith, below))
place_append x (y ∷ xs) ys below =
    elim (cases_eq y x) [
      | inl same ↦ place_here x y (xs ++ ys) same ∙ sym (place_here x y xs same)
      | inr other ↦
          let rest : place_of x (xs ++ ys) ≡ place_of x xs = place_append x xs ys (omega (arith, below, place_later x y xs other)) in
          place_later x y (xs ++ ys) other ∙ ap (λ k. k + 1) rest ∙ sym (place_later x y xs other)
    ]

-- a number above all of a list, at its end
pub place_push : (x : ℕ) (xs : List ℕ) → ((k : ℕ) → k < length xs → slice_index xs k < x) → place_of x (xs ++ x ∷ []) ≡ length xs
place_push x [] above = place_here x x [] refl
place_push x (y ∷ xs) above =
    let less : y < x = above 0 (omega arith) in
    let rest : place_of x (xs ++ x ∷ []) ≡ length xs = place_push x xs (λ k below. above (suc k) (omega (arith, below))) in
    place_later x y (xs ++ x ∷ []) (λ same. absurd (omega (arith, less, same))) ∙ ap (λ k. k + 1) rest ∙ suc_length (length xs)
  where
    suc_length : (n : ℕ) → n + 1 ≡ suc n
    suc_length n = omega arith

-- a list without one of its numbers
pub place_without_before : (x v : ℕ) (xs : List ℕ) → place_of x xs < place_of v xs → place_of x (without v xs) ≡ place_of x xs
place_without_before x v [] below = refl
place_without_before x v (y ∷ xs) below =
    elim (cases_eq y v) [
      | inl same ↦ absurd (omega (arith, below, place_here v y xs same))
      | inr other ↦
          elim (cases_eq y x) [
            | inl first ↦ ap (place_of x) (without_later v y xs other) ∙ place_here x y (without v xs) first ∙ sym (place_here x y xs first)
            | inr later ↦
                let rest : place_of x (without v xs) ≡ place_of x xs = place_without_before x v xs (omega (arith, below, place_later v y xs other, place_later x y xs later)) in
                ap (place_of x) (without_later v y xs other) ∙ place_later x y (without v xs) later ∙ ap (λ k. k + 1) rest ∙ sym (place_later x y xs later)
          ]
    ]

pub order_without : (x w v : ℕ) (xs : List ℕ) → x ≢ v → w ≢ v → place_of x xs < place_of w xs → place_of x (without v xs) < place_of w (without v xs)
order_without x w v [] x_apart w_apart below = below
order_without x w v (y ∷ xs) x_apart w_apart below =
    elim (cases_eq y v) [
      | inl same ↦
          let x_later : place_of x (y ∷ xs) ≡ place_of x xs + 1 = place_later x y xs (λ one. x_apart (sym one ∙ same)) in
          let w_later : place_of w (y ∷ xs) ≡ place_of w xs + 1 = place_later w y xs (λ one. w_apart (sym one ∙ same)) in
          subst (λ zs. place_of x zs < place_of w zs) (sym (without_here v y xs same)) (omega (arith, below, x_later, w_later))
      | inr other ↦
          subst (λ zs. place_of x zs < place_of w zs) (sym (without_later v y xs other))
          (behind (order_without x w v xs x_apart w_apart) (cases_eq y x) (cases_eq y w))
    ]
  where
    behind : (place_of x xs < place_of w xs → place_of x (without v xs) < place_of w (without v xs)) → (y ≡ x) ⊎ (y ≢ x) → (y ≡ w) ⊎ (y ≢ w)
        → place_of x (y ∷ without v xs) < place_of w (y ∷ without v xs)
    behind induction first (inl w_first) = absurd (omega (arith, below, place_here w y xs w_first))
    behind induction (inl x_first) (inr w_behind) = omega (arith, place_here x y (without v xs) x_first, place_later w y (without v xs) w_behind)
    behind induction (inr x_behind) (inr w_behind) =
        let rest : place_of x (without v xs) < place_of w (without v xs) = induction (omega (arith, below, place_later x y xs x_behind, place_later w y xs w_behind)) in
        omega (arith, rest, place_later x y (without v xs) x_behind, place_later w y (without v xs) w_behind)

pub stands_without : (x v : ℕ) (xs : List ℕ) → x ≢ v → place_of x xs < length xs → place_of x (without v xs) < length (without v xs)
stands_without x v [] apart below = below
stands_without x v (y ∷ xs) apart below =
    elim (cases_eq y v) [
      | inl same ↦
          let later : place_of x (y ∷ xs) ≡ place_of x xs + 1 = place_later x y xs (λ one. apart (sym one ∙ same)) in
          subst (λ zs. place_of x zs < length zs) (sym (without_here v y xs same)) (omega (arith, below, later))
      | inr other ↦
          subst (λ zs. place_of x zs < length zs) (sym (without_later v y xs other))
          (elim (cases_eq y x) [
            | inl first ↦ omega (arith, place_here x y (without v xs) first)
            | inr later ↦
                let rest : place_of x (without v xs) < length (without v xs) = stands_without x v xs apart (omega (arith, below, place_later x y xs later)) in
                omega (arith, rest, place_later x y (without v xs) later)
          ])
    ]

-- what is so of each number of a list is so of each without one
pub below_without : (v n : ℕ) (xs : List ℕ) → ((k : ℕ) → k < length xs → slice_index xs k < n) → (k : ℕ) → k < length (without v xs) → slice_index (without v xs) k < n
below_without v n [] all k = λ below. absurd (omega (arith, below))
below_without v n (y ∷ xs) all k =
    elim (cases_eq y v) [
      | inl same ↦
          subst (λ zs. k < length zs → slice_index zs k < n) (sym (without_here v y xs same)) (λ below. all (suc k) (omega (arith, below)))
      | inr other ↦
          subst (λ zs. k < length zs → slice_index zs k < n) (sym (without_later v y xs other)) (at_head (below_without v n xs (λ j below. all (suc j) (omega (arith, below)))) k)
    ]
  where
    at_head : ((j : ℕ) → j < length (without v xs) → slice_index (without v xs) j < n) → (j : ℕ) → j < length (y ∷ without v xs) → slice_index (y ∷ without v xs) j < n
    at_head induction zero below = all 0 (omega arith)
    at_head induction (suc j) below = induction j (omega (arith, below))

-- ORDER -----------------------------------------------------------------------------------------------------------

pub in_order_small : (params : List ℕ) (ps : List Pending) → length ps ≤ 1 → InOrder params ps
in_order_small params ps small j k below inside = absurd (omega (arith, small, below, inside))

-- the same list among other parameters
pub in_order_moved : (params params' : List ℕ) (ps : List Pending)
    → ((p q : Pending) → Contains ps p → Contains ps q → place_of p.param params < place_of q.param params → place_of p.param params' < place_of q.param params')
    → InOrder params ps → InOrder params' ps
in_order_moved params params' ps moved order j k below inside =
    moved (slice_index_or ps j no_pending) (slice_index_or ps k no_pending)
    (Contains-get_or ps j no_pending (omega (arith, below, inside))) (Contains-get_or ps k no_pending inside) (order j k below inside)

pub in_order_tail : (params : List ℕ) (p : Pending) (ps : List Pending) → InOrder params (p ∷ ps) → InOrder params ps
in_order_tail params p ps order j k below inside = order (suc j) (suc k) (omega (arith, below)) (omega (arith, inside))

pub entry_any : {X : Type 0} (xs : List X) (k : ℕ) (d e : X) → k < length xs → slice_index_or xs k d ≡ slice_index_or xs k e
entry_any [] k d e below = absurd (omega (arith, below))
entry_any (x ∷ xs) zero d e below = refl
entry_any (x ∷ xs) (suc k) d e below = entry_any xs k d e (omega (arith, below))

-- the first stands before each other one
pub in_order_first : (params : List ℕ) (p : Pending) (ps : List Pending) (q : Pending) → InOrder params (p ∷ ps) → Contains ps q → place_of p.param params < place_of q.param params
in_order_first params p ps q order here =
    let at : slice_index_or ps here.0 no_pending ≡ q = entry_any ps here.0 no_pending q here.1 ∙ here.2 in
    subst (λ (r : Pending). place_of p.param params < place_of r.param params) at (order 0 (suc here.0) (omega arith) (omega (arith, here.1)))

pub in_order_cons : (params : List ℕ) (p : Pending) (ps : List Pending) → ((q : Pending) → Contains ps q → place_of p.param params < place_of q.param params) → InOrder params ps → InOrder params (p ∷ ps)
in_order_cons params p ps first order j zero below inside = absurd (omega (arith, below))
in_order_cons params p ps first order zero (suc k) below inside = first (slice_index_or ps k no_pending) (Contains-get_or ps k no_pending (omega (arith, inside)))
in_order_cons params p ps first order (suc j) (suc k) below inside = order j k (omega (arith, below)) (omega (arith, inside))

-- one more behind them
pub in_order_push : (params : List ℕ) (ps : List Pending) (q : Pending) → ((p : Pending) → Contains ps p → place_of p.param params < place_of q.param params) → InOrder params ps → InOrder params (ps ++ q ∷ [])
in_order_push params [] q last order = in_order_small params (q ∷ []) (omega arith)
in_order_push params (p ∷ ps) q last order =
    in_order_cons params p (ps ++ q ∷ [])
    (λ r here.
    elim (Contains-push_cases ps q r here) [
      | inl old ↦ in_order_first params p ps r order old
      | inr new ↦ subst (λ (t : Pending). place_of p.param params < place_of t.param params) new (last p (contains_first p ps))
    ])
    (in_order_push params ps q (λ r here. last r (contains_more p ps r here)) (in_order_tail params p ps order))
