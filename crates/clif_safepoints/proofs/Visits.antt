-- The way through a graph in post-order.
use Rattle.std.proofs.Common.{◌≡◌, ◌≢◌, ◌+◌, ◌-◌, ◌<◌, ◌≤◌, ◌⊎◌, ◌==◌, ℕ, zero, suc, Bool, true, false, cond, List, [], ◌∷◌, ◌++◌, length, get_or, reverse, refl, sym, ap, subst, ◌∙◌, arith, inl, inr, Option, Some, eqb, set, replicate, zero-add, length-append}
use Rattle.std.specs.Prelude.{Contains}
use Rattle.std.specs.List.{flat_map}
use Rattle.std.proofs.lemmas.List.{append-nil, get_or-set_other, get_or-reverse, get_or_default, length-map, length-replicate, length-reverse, reverse-reverse}
use Rattle.std.proofs.lemmas.List.Elements.{Contains-append_cases, Contains-append_left, Contains-append_right, Contains-push_cases}
use Rattle.std.proofs.Math.ListN.{length-set}
use Rattle.std.proofs.lemmas.Grind.{flat_map-append, get_or-set_at}
use Rattle.std.proofs.lemmas.Bool.{eq-eqb, eqb-true, false≢true}
use Rattle.std.proofs.lemmas.Bool.Decides.{eqb_tells}
use Rattle.clif_instructions.specs.Members.{Once}
use Rattle.clif_safepoints.specs.declared.graph.Visit.{Visit}
use Rattle.clif_safepoints.specs.declared.graph.Visit.TheVariants.{Enter, Leave}
use Rattle.clif_safepoints.specs.Graph.{IsClosed, IsOrder, leads_to}
use Rattle.clif_safepoints.specs.Order.{IsDepthFirst, IsSorted, IsWay}
use Rattle.clif_number_sets.specs.Sets.{is_in}
use Rattle.clif_safepoints.specs.Visits.{entered}

abbrev pub bit : Bool → ℕ
bit mark = cond mark 1 0

-- how often a block stands in a list
abbrev pub times : ℕ → List ℕ → ℕ
times b [] = 0
times b (x ∷ xs) = cond (x == b) 1 0 + times b xs

-- the blocks that are still to be entered, and those that are still to be left
abbrev pub enter_of : Visit → List ℕ
enter_of (Enter b) = b ∷ []
enter_of (Leave b) = []

abbrev pub leave_of : Visit → List ℕ
leave_of (Enter b) = []
leave_of (Leave b) = b ∷ []

abbrev pub entering : List Visit → List ℕ
entering visits = flat_map enter_of visits

abbrev pub leaving : List Visit → List ℕ
leaving visits = flat_map leave_of visits

-- a way to the block
abbrev pub HasWay : List (List ℕ) → Option ℕ → ℕ → Type 0
HasWay graph entry b = (way : List ℕ) × IsWay (leads_to graph) entry (b ∷ way)

-- What holds between visits. A block that was seen is open or done, once; what it leads to was seen, or is still to be entered.
pub record IsVisiting (graph : List (List ℕ)) (entry : Option ℕ) (seen : List Bool) (visits : List Visit) (order : List ℕ) : Type 0 where
  pub size : length seen ≡ length graph
  pub placed : (b : ℕ) → times b (leaving visits) + times b order ≡ cond (is_in seen b) 1 0
  pub seen_way : (b : ℕ) → is_in seen b ≡ true → HasWay graph entry b
  pub enter_way : (b : ℕ) → Contains (entering visits) b → HasWay graph entry b
  pub enter_there : (b : ℕ) → Contains (entering visits) b → b < length graph
  pub onward : (b t : ℕ) → is_in seen b ≡ true → Contains (leads_to graph b) t → (is_in seen t ≡ true) ⊎ Contains (entering visits) t
  pub begun : (b : ℕ) → entry ≡ Some b → (is_in seen b ≡ true) ⊎ Contains (entering visits) b

-- the measure: what blocks that weren't seen will still add, and the visits that wait
abbrev pub unseen : List (List ℕ) → List Bool → ℕ
unseen [] seen = 0
unseen (row ∷ rows) [] = 0
unseen (row ∷ rows) (mark ∷ marks) = cond mark 0 (length row + 2) + unseen rows marks

pub unseen_set : (graph : List (List ℕ)) (seen : List Bool) (b : ℕ) → b < length graph → length seen ≡ length graph → is_in seen b ≡ false
    → unseen graph (set seen b true) + (length (leads_to graph b) + 2) ≡ unseen graph seen
unseen_set [] seen b inside size fresh = absurd (omega (arith, inside))
unseen_set (row ∷ rows) [] b inside size fresh = absurd (omega (arith, size))
unseen_set (row ∷ rows) (mark ∷ marks) zero inside size fresh = grind arith
unseen_set (row ∷ rows) (mark ∷ marks) (suc b) inside size fresh =
    let rest : unseen rows (set marks b true) + (length (leads_to rows b) + 2) ≡ unseen rows marks = unseen_set rows marks b (omega (arith, inside)) (omega (arith, size)) fresh in
    omega (arith, rest)

-- LISTS -----------------------------------------------------------------------------------------------------------------

pub times_append : (b : ℕ) (xs ys : List ℕ) → times b (xs ++ ys) ≡ times b xs + times b ys
times_append b [] ys = sym (zero-add (times b ys))
times_append b (x ∷ xs) ys = let rest : times b (xs ++ ys) ≡ times b xs + times b ys = times_append b xs ys in omega (arith, rest)

-- one block more
times_here : (b : ℕ) → times b (b ∷ []) ≡ 1
times_here b = by (b == b) (eq-eqb b b refl)
  where
    by : (c : Bool) → c ≡ true → cond c 1 0 + 0 ≡ 1
    by true is = omega arith
    by false is = cc

times_other : (b x : ℕ) → x ≢ b → times b (x ∷ []) ≡ 0
times_other b x apart = by (x == b) refl
  where
    by : (c : Bool) → (x == b) ≡ c → cond c 1 0 + 0 ≡ 0
    by true is = absurd (apart (eqb-true x b is))
    by false is = omega arith

pub times_contains : (b : ℕ) (xs : List ℕ) → 0 < times b xs → Contains xs b
times_contains b [] some = absurd (omega (arith, some))
times_contains b (x ∷ xs) some = by (times_contains b xs) (x == b) refl some
  where
    by : (0 < times b xs → Contains xs b) → (c : Bool) → (x == b) ≡ c → 0 < cond c 1 0 + times b xs → Contains (x ∷ xs) b
    by more true is h = (0, omega arith, eqb-true x b is)
    by more false is h = let later = more (omega (arith, h)) in (suc later.0, omega (arith, later.1), later.2)

pub contains_times : (b : ℕ) (xs : List ℕ) (k : ℕ) → k < length xs → get_or xs k 0 ≡ b → 0 < times b xs
contains_times b [] k inside is = absurd (omega (arith, inside))
contains_times b (x ∷ xs) zero inside is = by (x == b) (eq-eqb x b is)
  where
    by : (c : Bool) → c ≡ true → 0 < cond c 1 0 + times b xs
    by true h = omega arith
    by false h = cc
contains_times b (x ∷ xs) (suc k) inside is = let later = contains_times b xs k (omega (arith, inside)) is in omega (arith, later)

twice : (b : ℕ) (xs : List ℕ) (j k : ℕ) → j < k → k < length xs → get_or xs j 0 ≡ b → get_or xs k 0 ≡ b → 1 < times b xs
twice b [] j k before inside first second = absurd (omega (arith, inside))
twice b (x ∷ xs) zero zero before inside first second = absurd (omega (arith, before))
twice b (x ∷ xs) zero (suc k) before inside first second = by (x == b) (eq-eqb x b first) (contains_times b xs k (omega (arith, inside)) second)
  where
    by : (c : Bool) → c ≡ true → 0 < times b xs → 1 < cond c 1 0 + times b xs
    by true h some = omega (arith, some)
    by false h some = cc
twice b (x ∷ xs) (suc j) zero before inside first second = absurd (omega (arith, before))
twice b (x ∷ xs) (suc j) (suc k) before inside first second =
    let later = twice b xs j k (omega (arith, before)) (omega (arith, inside)) first second in omega (arith, later)

pub once_from_times : (xs : List ℕ) → ((b : ℕ) → times b xs ≤ 1) → Once xs
once_from_times xs most j k before inside same =
    let two = twice (get_or xs k 0) xs j k before inside same refl in let one = most (get_or xs k 0) in omega (arith, two, one)

entering_entered : (xs : List ℕ) → entering (entered xs) ≡ xs
entering_entered [] = refl
entering_entered (x ∷ xs) = ap (λ ys. x ∷ ys) (entering_entered xs)

leaving_entered : (xs : List ℕ) → leaving (entered xs) ≡ []
leaving_entered [] = refl
leaving_entered (x ∷ xs) = leaving_entered xs

mark_cases : (seen : List Bool) (b q : ℕ) → b < length seen → ((q ≡ b) × (is_in (set seen b true) q ≡ true)) ⊎ ((q ≢ b) × (is_in (set seen b true) q ≡ is_in seen q))
mark_cases seen b q inside = by (eqb_tells q b)
  where
    by : ((eqb q b ≡ true) × (q ≡ b)) ⊎ ((eqb q b ≡ false) × (q ≢ b)) → ((q ≡ b) × (is_in (set seen b true) q ≡ true)) ⊎ ((q ≢ b) × (is_in (set seen b true) q ≡ is_in seen q))
    by (inl same) = inl (same.1, get_or-set_at seen b q true false same.1 inside)
    by (inr other) = inr (other.1, get_or-set_other seen b q true false other.1)

-- a list and the list turned round
pub contains_turned : (xs : List ℕ) (x : ℕ) → Contains (reverse xs) x → Contains xs x
contains_turned xs x h =
    let inside : h.0 < length xs = subst (λ n. h.0 < n) (length-reverse xs) h.1 in
    (length xs - 1 - h.0, omega (arith, inside), sym (get_or-reverse xs h.0 x inside) ∙ h.2)

pub contains_reverse : (xs : List ℕ) (x : ℕ) → Contains xs x → Contains (reverse xs) x
contains_reverse xs x h = contains_turned (reverse xs) x (subst (λ ys. Contains ys x) (sym (reverse-reverse xs)) h)

-- VISITS ----------------------------------------------------------------------------------------------------------------

last_enter : (rest : List Visit) (v : Visit) → entering (rest ++ v ∷ []) ≡ entering rest ++ enter_of v
last_enter rest v = flat_map-append enter_of rest (v ∷ []) ∙ ap (λ xs. entering rest ++ xs) (append-nil (enter_of v))

last_leave : (rest : List Visit) (v : Visit) → leaving (rest ++ v ∷ []) ≡ leaving rest ++ leave_of v
last_leave rest v = flat_map-append leave_of rest (v ∷ []) ∙ ap (λ xs. leaving rest ++ xs) (append-nil (leave_of v))

in_rest : (rest : List Visit) (v : Visit) (b : ℕ) → Contains (entering rest) b → Contains (entering (rest ++ v ∷ [])) b
in_rest rest v b h = subst (λ xs. Contains xs b) (sym (last_enter rest v)) (Contains-append_left (entering rest) (enter_of v) b h)

rest_or_last : (rest : List Visit) (b q : ℕ) → Contains (entering (rest ++ Enter b ∷ [])) q → Contains (entering rest) q ⊎ (b ≡ q)
rest_or_last rest b q h = Contains-push_cases (entering rest) b q (subst (λ xs. Contains xs q) (last_enter rest (Enter b)) h)

only_rest : (rest : List Visit) (b q : ℕ) → Contains (entering (rest ++ Leave b ∷ [])) q → Contains (entering rest) q
only_rest rest b q h = subst (λ xs. Contains xs q) (last_enter rest (Leave b) ∙ append-nil (entering rest)) h

no_mark : (n b : ℕ) → is_in (replicate n false) b ≡ false
no_mark zero b = refl
no_mark (suc n) zero = refl
no_mark (suc n) (suc b) = no_mark n b

pub visits_start : (graph : List (List ℕ)) (entry : Option ℕ) (e n : ℕ) → entry ≡ Some e → e < n → n ≡ length graph
    → IsVisiting graph entry (replicate n false) (Enter e ∷ []) []
visits_start graph entry e n is inside size = record {
  size = length-replicate n false ∙ size;
  placed = λ b. ap bit (sym (none b));
  seen_way = λ b h. absurd (false≢true (sym (none b) ∙ h));
  enter_way = λ b h. ([], is ∙ ap (λ x. Some x) (only b h));
  enter_there = λ b h. subst (λ x. x < length graph) (only b h) (subst (λ m. e < m) size inside);
  onward = λ b t h. absurd (false≢true (sym (none b) ∙ h));
  begun = λ b first. inr (let same : e ≡ b = let both : Some e ≡ Some b = sym is ∙ first in cc in (0, omega arith, same));
}
  where
    none : (b : ℕ) → is_in (replicate n false) b ≡ false
    none b = no_mark n b

    only : (b : ℕ) → Contains (e ∷ []) b → e ≡ b
    only b h = by (Contains-push_cases [] e b h)
      where
        by : Contains [] b ⊎ (e ≡ b) → e ≡ b
        by (inl none) = absurd (omega (arith, none.1))
        by (inr same) = same

pub visits_leave : (graph : List (List ℕ)) (entry : Option ℕ) (seen : List Bool) (rest : List Visit) (order : List ℕ) (b : ℕ)
    → IsVisiting graph entry seen (rest ++ Leave b ∷ []) order → IsVisiting graph entry seen rest (order ++ b ∷ [])
visits_leave graph entry seen rest order b so_far = record {
  size = so_far.size;
  placed = λ q.
      let left : times q (leaving (rest ++ Leave b ∷ [])) ≡ times q (leaving rest) + times q (b ∷ []) = ap (times q) (last_leave rest (Leave b)) ∙ times_append q (leaving rest) (b ∷ []) in
      let done = times_append q order (b ∷ []) in let all = so_far.placed q in omega (arith, left, done, all);
  seen_way = so_far.seen_way;
  enter_way = λ q h. so_far.enter_way q (in_rest rest (Leave b) q h);
  enter_there = λ q h. so_far.enter_there q (in_rest rest (Leave b) q h);
  onward = λ q t h leads. by t (so_far.onward q t h leads);
  begun = λ q first. by q (so_far.begun q first);
}
  where
    by : (t : ℕ) → (is_in seen t ≡ true) ⊎ Contains (entering (rest ++ Leave b ∷ [])) t → (is_in seen t ≡ true) ⊎ Contains (entering rest) t
    by t (inl h) = inl h
    by t (inr h) = inr (only_rest rest b t h)

pub visits_skip : (graph : List (List ℕ)) (entry : Option ℕ) (seen : List Bool) (rest : List Visit) (order : List ℕ) (b : ℕ) → is_in seen b ≡ true
    → IsVisiting graph entry seen (rest ++ Enter b ∷ []) order → IsVisiting graph entry seen rest order
visits_skip graph entry seen rest order b known so_far = record {
  size = so_far.size;
  placed = λ q. ap (λ xs. times q xs + times q order) (sym (last_leave rest (Enter b) ∙ append-nil (leaving rest))) ∙ so_far.placed q;
  seen_way = so_far.seen_way;
  enter_way = λ q h. so_far.enter_way q (in_rest rest (Enter b) q h);
  enter_there = λ q h. so_far.enter_there q (in_rest rest (Enter b) q h);
  onward = λ q t h leads. by t (so_far.onward q t h leads);
  begun = λ q first. by q (so_far.begun q first);
}
  where
    or_last : (t : ℕ) → Contains (entering rest) t ⊎ (b ≡ t) → (is_in seen t ≡ true) ⊎ Contains (entering rest) t
    or_last t (inl h) = inr h
    or_last t (inr same) = inl (subst (λ x. is_in seen x ≡ true) same known)

    by : (t : ℕ) → (is_in seen t ≡ true) ⊎ Contains (entering (rest ++ Enter b ∷ [])) t → (is_in seen t ≡ true) ⊎ Contains (entering rest) t
    by t (inl h) = inl h
    by t (inr h) = or_last t (rest_or_last rest b t h)

pub visits_enter : (graph : List (List ℕ)) (entry : Option ℕ) (seen : List Bool) (rest : List Visit) (order : List ℕ) (b : ℕ) → IsClosed graph → is_in seen b ≡ false
    → IsVisiting graph entry seen (rest ++ Enter b ∷ []) order → IsVisiting graph entry (set seen b true) ((rest ++ Leave b ∷ []) ++ entered (reverse (leads_to graph b))) order
visits_enter graph entry seen rest order b closed fresh so_far = record {
  size = length-set seen b true ∙ so_far.size;
  placed = λ q. count q (mark_cases seen b q inside);
  seen_way = λ q h. way q (mark_cases seen b q inside) h;
  enter_way = λ q h. new_way q (rest_or_new q h);
  enter_there = λ q h. new_there q (rest_or_new q h);
  onward = λ q t h leads. on q t (mark_cases seen b q inside) h leads;
  begun = λ q first. still q (so_far.begun q first);
}
  where
    waits : Contains (entering (rest ++ Enter b ∷ [])) b
    waits = subst (λ xs. Contains xs b) (sym (last_enter rest (Enter b))) (Contains-append_right (entering rest) (b ∷ []) b (0, omega arith, refl))

    inside : b < length seen
    inside = subst (λ n. b < n) (sym so_far.size) (so_far.enter_there b waits)

    enters : entering ((rest ++ Leave b ∷ []) ++ entered (reverse (leads_to graph b))) ≡ entering rest ++ reverse (leads_to graph b)
    enters =
        flat_map-append enter_of (rest ++ Leave b ∷ []) (entered (reverse (leads_to graph b)))
        ∙ ap (λ xs. xs ++ entering (entered (reverse (leads_to graph b)))) (last_enter rest (Leave b) ∙ append-nil (entering rest))
        ∙ ap (λ xs. entering rest ++ xs) (entering_entered (reverse (leads_to graph b)))

    leaves : leaving ((rest ++ Leave b ∷ []) ++ entered (reverse (leads_to graph b))) ≡ leaving rest ++ b ∷ []
    leaves =
        flat_map-append leave_of (rest ++ Leave b ∷ []) (entered (reverse (leads_to graph b)))
        ∙ ap (λ xs. xs ++ leaving (entered (reverse (leads_to graph b)))) (last_leave rest (Leave b))
        ∙ ap (λ xs. (leaving rest ++ b ∷ []) ++ xs) (leaving_entered (reverse (leads_to graph b))) ∙ append-nil (leaving rest ++ b ∷ [])

    before : (q : ℕ) → times q (leaving rest) + times q order ≡ bit (is_in seen q)
    before q = ap (λ xs. times q xs + times q order) (sym (last_leave rest (Enter b) ∙ append-nil (leaving rest))) ∙ so_far.placed q

    count : (q : ℕ) → ((q ≡ b) × (is_in (set seen b true) q ≡ true)) ⊎ ((q ≢ b) × (is_in (set seen b true) q ≡ is_in seen q))
        → times q (leaving ((rest ++ Leave b ∷ []) ++ entered (reverse (leads_to graph b)))) + times q order ≡ bit (is_in (set seen b true) q)
    count q (inl same) =
        let now : times q (leaving ((rest ++ Leave b ∷ []) ++ entered (reverse (leads_to graph b)))) ≡ times q (leaving rest) + times q (b ∷ []) = ap (times q) leaves ∙ times_append q (leaving rest) (b ∷ []) in
        let one : times q (b ∷ []) ≡ 1 = ap (λ x. times x (b ∷ [])) same.0 ∙ times_here b in
        let none : bit (is_in seen q) ≡ 0 = ap (λ x. bit (is_in seen x)) same.0 ∙ ap bit fresh in
        let old = before q in let new : bit (is_in (set seen b true) q) ≡ 1 = ap bit same.1 in omega (arith, now, one, none, old, new)
    count q (inr other) =
        let now : times q (leaving ((rest ++ Leave b ∷ []) ++ entered (reverse (leads_to graph b)))) ≡ times q (leaving rest) + times q (b ∷ []) = ap (times q) leaves ∙ times_append q (leaving rest) (b ∷ []) in
        let one : times q (b ∷ []) ≡ 0 = times_other q b (λ e. other.0 (sym e)) in
        let old = before q in let new : bit (is_in (set seen b true) q) ≡ bit (is_in seen q) = ap bit other.1 in omega (arith, now, one, old, new)

    way : (q : ℕ) → ((q ≡ b) × (is_in (set seen b true) q ≡ true)) ⊎ ((q ≢ b) × (is_in (set seen b true) q ≡ is_in seen q)) → is_in (set seen b true) q ≡ true → HasWay graph entry q
    way q (inl same) h = subst (λ x. HasWay graph entry x) (sym same.0) (so_far.enter_way b waits)
    way q (inr other) h = so_far.seen_way q (sym other.1 ∙ h)

    rest_or_new : (q : ℕ) → Contains (entering ((rest ++ Leave b ∷ []) ++ entered (reverse (leads_to graph b)))) q → Contains (entering rest) q ⊎ Contains (leads_to graph b) q
    rest_or_new q h = turned (Contains-append_cases (entering rest) (reverse (leads_to graph b)) q (subst (λ xs. Contains xs q) enters h))
      where
        turned : Contains (entering rest) q ⊎ Contains (reverse (leads_to graph b)) q → Contains (entering rest) q ⊎ Contains (leads_to graph b) q
        turned (inl old) = inl old
        turned (inr leads) = inr (contains_turned (leads_to graph b) q leads)

    new_way : (q : ℕ) → Contains (entering rest) q ⊎ Contains (leads_to graph b) q → HasWay graph entry q
    new_way q (inl old) = so_far.enter_way q (in_rest rest (Enter b) q old)
    new_way q (inr leads) = let to = so_far.enter_way b waits in (b ∷ to.0, (leads, to.1))

    new_there : (q : ℕ) → Contains (entering rest) q ⊎ Contains (leads_to graph b) q → q < length graph
    new_there q (inl old) = so_far.enter_there q (in_rest rest (Enter b) q old)
    new_there q (inr leads) = subst (λ x. x < length graph) leads.2 (closed b leads.0 q leads.1)

    kept : (t : ℕ) → is_in seen t ≡ true → is_in (set seen b true) t ≡ true
    kept t h = by (mark_cases seen b t inside)
      where
        by : ((t ≡ b) × (is_in (set seen b true) t ≡ true)) ⊎ ((t ≢ b) × (is_in (set seen b true) t ≡ is_in seen t)) → is_in (set seen b true) t ≡ true
        by (inl same) = same.1
        by (inr other) = other.1 ∙ h

    old_or_here : (t : ℕ) → Contains (entering rest) t ⊎ (b ≡ t) → (is_in (set seen b true) t ≡ true) ⊎ Contains (entering ((rest ++ Leave b ∷ []) ++ entered (reverse (leads_to graph b)))) t
    old_or_here t (inl old) = inr (subst (λ xs. Contains xs t) (sym enters) (Contains-append_left (entering rest) (reverse (leads_to graph b)) t old))
    old_or_here t (inr same) = inl (get_or-set_at seen b t true false (sym same) inside)

    still : (t : ℕ) → (is_in seen t ≡ true) ⊎ Contains (entering (rest ++ Enter b ∷ [])) t
        → (is_in (set seen b true) t ≡ true) ⊎ Contains (entering ((rest ++ Leave b ∷ []) ++ entered (reverse (leads_to graph b)))) t
    still t (inl h) = inl (kept t h)
    still t (inr h) = old_or_here t (rest_or_last rest b t h)

    on : (q t : ℕ) → ((q ≡ b) × (is_in (set seen b true) q ≡ true)) ⊎ ((q ≢ b) × (is_in (set seen b true) q ≡ is_in seen q)) → is_in (set seen b true) q ≡ true
        → Contains (leads_to graph q) t → (is_in (set seen b true) t ≡ true) ⊎ Contains (entering ((rest ++ Leave b ∷ []) ++ entered (reverse (leads_to graph b)))) t
    on q t (inl same) h leads =
        inr (subst (λ xs. Contains xs t) (sym enters) (Contains-append_right (entering rest) (reverse (leads_to graph b)) t
        (contains_reverse (leads_to graph b) t (subst (λ x. Contains (leads_to graph x) t) same.0 leads))))
    on q t (inr other) h leads = still t (so_far.onward q t (sym other.1 ∙ h) leads)

-- the measure falls
pub visits_fewer : (graph : List (List ℕ)) (seen : List Bool) (rest : List Visit) (b : ℕ) → b < length graph → length seen ≡ length graph → is_in seen b ≡ false
    → unseen graph (set seen b true) + length ((rest ++ Leave b ∷ []) ++ entered (reverse (leads_to graph b))) < unseen graph seen + length (rest ++ Enter b ∷ [])
visits_fewer graph seen rest b inside size fresh =
    let less = unseen_set graph seen b inside size fresh in
    let now : length ((rest ++ Leave b ∷ []) ++ entered (reverse (leads_to graph b))) ≡ length (rest ++ Leave b ∷ []) + length (entered (reverse (leads_to graph b))) =
    length-append (rest ++ Leave b ∷ []) (entered (reverse (leads_to graph b))) in
    let one : length (rest ++ Leave b ∷ []) ≡ length rest + 1 = length-append rest (Leave b ∷ []) in
    let two : length (rest ++ Enter b ∷ []) ≡ length rest + 1 = length-append rest (Enter b ∷ []) in
    let new : length (entered (reverse (leads_to graph b))) ≡ length (leads_to graph b) =
    length-map (reverse (leads_to graph b)) Enter ∙ length-reverse (leads_to graph b) in
    omega (arith, less, now, one, two, new)

pub visits_end : (graph : List (List ℕ)) (entry : Option ℕ) (seen : List Bool) (order : List ℕ) → IsVisiting graph entry seen [] order → IsDepthFirst (leads_to graph) entry order → IsSorted (leads_to graph) entry order
    → IsOrder graph entry order
visits_end graph entry seen order done depth_first sorted = record {
  once = once_from_times order (λ b. most b (is_in seen b) (done.placed b));
  exist = λ k d inside.
      let at : get_or order k d ≡ get_or order k 0 = get_or_default order k d 0 inside in
      subst (λ x. x < length graph) (sym at)
      (subst (λ n. get_or order k 0 < n) done.size (marked_within seen (get_or order k 0) (is_seen (get_or order k 0) k inside refl)));
  reached = λ b h. done.seen_way b (is_seen b h.0 h.1 (get_or_default order h.0 0 b h.1 ∙ h.2));
  all = λ b way walk. times_contains b order (some b (is_in seen b) (done.placed b) (walked way b walk));
  depth_first = depth_first;
  sorted = sorted;
}
  where
    most : (b : ℕ) (mark : Bool) → 0 + times b order ≡ bit mark → times b order ≤ 1
    most b true is = omega (arith, is)
    most b false is = omega (arith, is)

    some : (b : ℕ) (mark : Bool) → 0 + times b order ≡ bit mark → mark ≡ true → 0 < times b order
    some b true is h = omega (arith, is)
    some b false is h = cc

    marked : (b : ℕ) (mark : Bool) → 0 + times b order ≡ bit mark → 0 < times b order → mark ≡ true
    marked b true is h = refl
    marked b false is h = absurd (omega (arith, is, h))

    is_seen : (b k : ℕ) → k < length order → get_or order k 0 ≡ b → is_in seen b ≡ true
    is_seen b k inside is = marked b (is_in seen b) (done.placed b) (contains_times b order k inside is)

    marked_within : (marks : List Bool) (b : ℕ) → is_in marks b ≡ true → b < length marks
    marked_within [] b h = cc
    marked_within (mark ∷ marks) zero h = omega arith
    marked_within (mark ∷ marks) (suc b) h = let more = marked_within marks b h in omega (arith, more)

    nothing : (b : ℕ) → (is_in seen b ≡ true) ⊎ Contains [] b → is_in seen b ≡ true
    nothing b (inl h) = h
    nothing b (inr h) = absurd (omega (arith, h.1))

    walked : (way : List ℕ) (b : ℕ) → IsWay (leads_to graph) entry (b ∷ way) → is_in seen b ≡ true
    walked [] b walk = nothing b (done.begun b walk)
    walked (a ∷ way) b walk = nothing b (done.onward a b (walked way a walk.1) walk.0)

-- the block that is entered next is there
pub enter_inside : {graph : List (List ℕ)} {entry : Option ℕ} {seen : List Bool} (rest : List Visit) {order : List ℕ} (b : ℕ)
    → IsVisiting graph entry seen (rest ++ Enter b ∷ []) order → b < length graph
enter_inside {graph} {entry} {seen} rest {order} b so_far =
    so_far.enter_there b (subst (λ xs. Contains xs b) (sym (last_enter rest (Enter b))) (Contains-append_right (entering rest) (b ∷ []) b (0, omega arith, refl)))
