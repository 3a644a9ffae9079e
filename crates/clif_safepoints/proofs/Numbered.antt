-- The recorded values without aliases: what is found is the same, and nothing more is handled.
use Rattle.std.proofs.Common.{◌≡◌, ◌+◌, ◌<◌, ◌≤◌, ◌⊎◌, ◌==◌, ℕ, zero, suc, Bool, true, false, cond, List, [], ◌∷◌, ◌++◌, length, get_or, refl, sym, ap, subst, ◌∙◌, arith, inl, inr}
use Rattle.std.specs.Prelude.{All, Contains, sum_by}
use Rattle.std.specs.List.{filter}
use Rattle.std.specs.List.Sorted.{IsStrictlyIncreasing}
use Rattle.std.proofs.lemmas.Bool.{eq-eqb}
use Rattle.std.proofs.lemmas.Map.Keys.{below_from_sorted, sorted_from_strictly_increasing}
use Rattle.std.proofs.Math.ListN.{get_or-eq_default}
use Rattle.std.proofs.Math.Nat.{mul-le-mul_left}
use Rattle.clif_nodes.specs.declared.nodes.ValueNode.{ValueNode}
use Rattle.clif_ir.specs.Body.{Body, alias_of_origin, resolved}
use Rattle.clif_ir.proofs.Aliases.{follow_end}
use Rattle.clif_meaning.specs.View.{view_of}
use Rattle.clif_safepoints.specs.Analysis.{Findings, IsAnalysis, IsTracedAcross, IsTracedAfterParams, edges_from}
use Rattle.clif_safepoints.specs.Numbered.{numbered}

-- FILTERS ---------------------------------------------------------------------------------------------------------------

head_or_later : (x : ℕ) (xs : List ℕ) (y : ℕ) → Contains (x ∷ xs) y → (x ≡ y) ⊎ Contains xs y
head_or_later x xs y (zero, inside, is) = inl is
head_or_later x xs y (suc k, inside, is) = inr (k, omega (arith, inside), is)

later : (x : ℕ) (xs : List ℕ) (y : ℕ) → Contains xs y → Contains (x ∷ xs) y
later x xs y h = (suc h.0, (let inside = h.1 in omega (arith, inside)), h.2)

pub filter_to : (p : ℕ → Bool) (xs : List ℕ) (y : ℕ) → Contains (filter p xs) y → Contains xs y × (p y ≡ true)
filter_to p [] y h = absurd (omega (arith, h.1))
filter_to p (x ∷ xs) y h = by (p x) refl (filter_to p xs y) h
  where
    here : p x ≡ true → (Contains (filter p xs) y → Contains xs y × (p y ≡ true)) → (x ≡ y) ⊎ Contains (filter p xs) y → Contains (x ∷ xs) y × (p y ≡ true)
    here passes rest (inl same) = ((0, omega arith, same), subst (λ z. p z ≡ true) same passes)
    here passes rest (inr more) = let from = rest more in (later x xs y from.0, from.1)

    by : (c : Bool) → p x ≡ c → (Contains (filter p xs) y → Contains xs y × (p y ≡ true)) → Contains (cond c (x ∷ filter p xs) (filter p xs)) y → Contains (x ∷ xs) y × (p y ≡ true)
    by true passes rest h = here passes rest (head_or_later x (filter p xs) y h)
    by false fails rest h = let from = rest h in (later x xs y from.0, from.1)

pub filter_from : (p : ℕ → Bool) (xs : List ℕ) (y : ℕ) → Contains xs y → p y ≡ true → Contains (filter p xs) y
filter_from p [] y h passes = absurd (omega (arith, h.1))
filter_from p (x ∷ xs) y h passes = by (λ more. filter_from p xs y more passes) (p x) refl (head_or_later x xs y h)
  where
    by : (Contains xs y → Contains (filter p xs) y) → (c : Bool) → p x ≡ c → (x ≡ y) ⊎ Contains xs y → Contains (cond c (x ∷ filter p xs) (filter p xs)) y
    by rest true is (inl same) = (0, omega arith, same)
    by rest true is (inr more) = later x (filter p xs) y (rest more)
    by rest false is (inl same) = let both : true ≡ false = sym passes ∙ ap p (sym same) ∙ is in cc
    by rest false is (inr more) = rest more

filter_short : (p : ℕ → Bool) (xs : List ℕ) → length (filter p xs) ≤ length xs
filter_short p [] = omega arith
filter_short p (x ∷ xs) = by (p x) (filter_short p xs)
  where
    by : (c : Bool) → length (filter p xs) ≤ length xs → length (cond c (x ∷ filter p xs) (filter p xs)) ≤ suc (length xs)
    by true rest = omega (arith, rest)
    by false rest = omega (arith, rest)

rising_rest : (x : ℕ) (xs : List ℕ) → IsStrictlyIncreasing (x ∷ xs) → IsStrictlyIncreasing xs
rising_rest x xs up k inside =
    subst (λ n. get_or xs k 0 < get_or (x ∷ xs) n 0) (let e : suc k + 1 ≡ suc (k + 1) = omega arith in e) (up (suc k) (omega (arith, inside)))

above_head : (x : ℕ) (xs : List ℕ) → IsStrictlyIncreasing (x ∷ xs) → (y : ℕ) → Contains xs y → x < y
above_head x xs up y h =
    let less : x < get_or xs h.0 0 = below_from_sorted (x ∷ xs) 0 (suc h.0) 0 (sorted_from_strictly_increasing (x ∷ xs) up) (omega arith) (let inside = h.1 in omega (arith, inside)) in
    subst (λ z. x < z) (at xs h.0 h.1 h.2) less
  where
    at : (ys : List ℕ) (k : ℕ) → k < length ys → get_or ys k y ≡ y → get_or ys k 0 ≡ y
    at [] k inside is = absurd (omega (arith, inside))
    at (z ∷ ys) zero inside is = is
    at (z ∷ ys) (suc k) inside is = at ys k (omega (arith, inside)) is

rising_more : (x : ℕ) (xs : List ℕ) → ((y : ℕ) → Contains xs y → x < y) → IsStrictlyIncreasing xs → IsStrictlyIncreasing (x ∷ xs)
rising_more x [] above up k inside = absurd (omega (arith, inside))
rising_more x (y ∷ xs) above up zero inside = above y (0, omega arith, refl)
rising_more x (y ∷ xs) above up (suc k) inside =
    subst (λ n. get_or (y ∷ xs) k 0 < get_or (x ∷ y ∷ xs) n 0) (let e : suc (k + 1) ≡ suc k + 1 = omega arith in e) (up k (omega (arith, inside)))

pub filter_rising : (p : ℕ → Bool) (xs : List ℕ) → IsStrictlyIncreasing xs → IsStrictlyIncreasing (filter p xs)
filter_rising p [] up = up
filter_rising p (x ∷ xs) up = by (p x) (filter_rising p xs (rising_rest x xs up))
  where
    by : (c : Bool) → IsStrictlyIncreasing (filter p xs) → IsStrictlyIncreasing (cond c (x ∷ filter p xs) (filter p xs))
    by true rest = rising_more x (filter p xs) (λ y h. above_head x xs up y (filter_to p xs y h).0) rest
    by false rest = rest

-- one more element of a list was asked
pub filter_kept : (p : ℕ → Bool) (done rest all : List ℕ) (x : ℕ) → p x ≡ true → done ++ filter p (x ∷ rest) ≡ all → (done ++ x ∷ []) ++ filter p rest ≡ all
filter_kept p done rest all x passes so_far =
    onto done x (filter p rest) ∙ ap (λ (c : Bool). done ++ cond c (x ∷ filter p rest) (filter p rest)) (sym passes) ∙ so_far
  where
    onto : (xs : List ℕ) (y : ℕ) (ys : List ℕ) → (xs ++ y ∷ []) ++ ys ≡ xs ++ y ∷ ys
    onto [] y ys = refl
    onto (z ∷ xs) y ys = ap (λ zs. z ∷ zs) (onto xs y ys)

pub filter_passed : (p : ℕ → Bool) (done rest all : List ℕ) (x : ℕ) → p x ≡ false → done ++ filter p (x ∷ rest) ≡ all → done ++ filter p rest ≡ all
filter_passed p done rest all x fails so_far = ap (λ (c : Bool). done ++ cond c (x ∷ filter p rest) (filter p rest)) (sym fails) ∙ so_far

pub filter_within : (p : ℕ → Bool) (xs : List ℕ) → All (λ v. Contains xs v) (filter p xs)
filter_within p xs k d inside = (filter_to p xs (get_or (filter p xs) k d) (k, inside, again (filter p xs) k d inside)).0
  where
    again : (ys : List ℕ) (j e : ℕ) → j < length ys → get_or ys j (get_or ys j e) ≡ get_or ys j e
    again [] j e below = absurd (omega (arith, below))
    again (y ∷ ys) zero e below = refl
    again (y ∷ ys) (suc j) e below = again ys j e (omega (arith, below))

-- a value that the function lacks is the end of its way
pub resolved_past : (f : Body) (v : ℕ) → length f.values ≤ v → resolved f v ≡ v
resolved_past f v past =
    follow_end f.values (length f.values) v (ap (λ (node : ValueNode). alias_of_origin node.origin) (get_or-eq_default f.values _ past))

-- THE ANALYSIS ----------------------------------------------------------------------------------------------------------

member_to : (f : Body) (recorded : List ℕ) (v : ℕ) → Contains (numbered f recorded) v → Contains recorded v
member_to f recorded v h = (filter_to (λ x. resolved f x == x) recorded v h).0

member_from : (f : Body) (recorded : List ℕ) (v : ℕ) → Contains recorded v → resolved f v ≡ v → Contains (numbered f recorded) v
member_from f recorded v h same = filter_from (λ x. resolved f x == x) recorded v h (eq-eqb (resolved f v) v same)

after_to : (f : Body) (recorded : List ℕ) (b v : ℕ) → IsTracedAfterParams f (numbered f recorded) b v → IsTracedAfterParams f recorded b v
after_to f recorded b v h = record { reached = h.reached; member = member_to f recorded v h.member; unaliased = h.unaliased; live = h.live }

after_from : (f : Body) (recorded : List ℕ) (b v : ℕ) → IsTracedAfterParams f recorded b v → IsTracedAfterParams f (numbered f recorded) b v
after_from f recorded b v h = record { reached = h.reached; member = member_from f recorded v h.member h.unaliased; unaliased = h.unaliased; live = h.live }

across_to' : (f : Body) (recorded : List ℕ) (i v : ℕ) → IsTracedAcross f (numbered f recorded) i v → IsTracedAcross f recorded i v
across_to' f recorded i v h = record {
  exists = h.exists;
  call = h.call;
  reachable = h.reachable;
  member = member_to f recorded v h.member;
  unaliased = h.unaliased;
  live = h.live;
}

across_from' : (f : Body) (recorded : List ℕ) (i v : ℕ) → IsTracedAcross f recorded i v → IsTracedAcross f (numbered f recorded) i v
across_from' f recorded i v h = record {
  exists = h.exists;
  call = h.call;
  reachable = h.reachable;
  member = member_from f recorded v h.member h.unaliased;
  unaliased = h.unaliased;
  live = h.live;
}

pub analysis_of_all : (f : Body) (recorded : List ℕ) (found : Findings) → IsAnalysis f (numbered f recorded) found → IsAnalysis f recorded found
analysis_of_all f recorded found is = record {
  order = is.order;
  live_in = λ b. record {
    rising = (is.live_in b).rising;
    members = λ v. (
      λ h. (let from = ((is.live_in b).members v).0 h in (after_to f recorded b v from.0, from.1)),
      λ h. ((is.live_in b).members v).1 (after_from f recorded b v h.0, h.1),
    );
  };
  after_params = λ b. record {
    rising = (is.after_params b).rising;
    members = λ v. (λ h. after_to f recorded b v (((is.after_params b).members v).0 h), λ h. ((is.after_params b).members v).1 (after_from f recorded b v h));
  };
  exact = λ i. record {
    rising = (is.exact i).rising;
    members = λ v. (λ h. across_to' f recorded i v (((is.exact i).members v).0 h), λ h. ((is.exact i).members v).1 (across_from' f recorded i v h));
  };
  handled = record {
    blocks = is.handled.blocks;
    once = is.handled.once;
    reached = is.handled.reached;
    each = is.handled.each;
    at_most = most found.handled (length is.handled.blocks) _ _ is.handled.at_most
        (mul-le-mul_left (sum_by (edges_from (view_of f)) is.handled.blocks) (filter_short (λ x. resolved f x == x) recorded));
  };
}
  where
    most : (handled blocks few all : ℕ) → handled ≤ blocks + few → few ≤ all → handled ≤ blocks + all
    most handled blocks few all a b = omega (arith, a, b)
