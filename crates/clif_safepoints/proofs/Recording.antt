-- The last pass, step by step.
use Rattle.std.proofs.Common.{◌≡◌, ◌≢◌, ◌+◌, ◌-◌, ◌<◌, ◌≤◌, ◌⊎◌, ℕ, suc, Bool, true, false, List, [], ◌∷◌, ◌++◌, length, get_or, drop, refl, sym, ap, subst, ◌∙◌, arith, inl, inr, eqb, slice_index, slice_set, length-append, Some, None}
use Rattle.std.specs.Prelude.{Contains, EachIndex, slice_get, if◌then◌else◌}
use Rattle.std.specs.List.Sorted.{IsStrictlyIncreasing}
use Rattle.std.proofs.lemmas.List.{get_or-set_other, get_or_append_left}
use Rattle.std.proofs.lemmas.List.Elements.{Contains-append_left, Contains-get_or, Contains-push, Contains-push_cases}
use Rattle.std.proofs.Math.Seq.{get_or-append_seam}
use Rattle.std.proofs.lemmas.Grind.{get_or-set_at}
use Rattle.std.proofs.lemmas.Bool.{false≢true, true≢false}
use Rattle.std.proofs.lemmas.Bool.Decides.{eqb_tells}
use Rattle.std.proofs.lemmas.Map.Keys.{below_from_sorted, sorted_from_strictly_increasing}
use Rattle.std.proofs.lemmas.Option.{slice_get_within, get_or_from_slice_get, slice_get-get_or}
use Rattle.std.proofs.Math.ListN.{get_or-eq_default, length-set}
use Rattle.clif_instructions.specs.Instruction.{is_call}
use Rattle.clif_instructions.specs.Members.{Once, stands_in}
use Rattle.clif_ir.specs.Body.{Body, block_at, inst_at}
use Rattle.clif_ir.specs.Consistent.{IsConsistent}
use Rattle.clif_safepoints.specs.LastPass.{IsListedBy, IsPut, IsRecorded, IsRow, is_live_across, row_at}
use Rattle.clif_number_sets.specs.Sets.{is_in}
use Rattle.clif_safepoints.specs.Sets.{in_set_of}
use Rattle.clif_safepoints.specs.Transfer.{insts_of, is_live_before, is_live_behind}
use Rattle.clif_safepoints.specs.Tables.{AreRows}
use Rattle.clif_safepoints.proofs.Paths.{place_of_member, stands_from, stands_to}
use Rattle.clif_safepoints.proofs.Scanning.{IsLiveFrom}

-- ROWS ------------------------------------------------------------------------------------------------------------------

-- the members up to a place
pub record RowTo (values : List ℕ) (test : ℕ → Bool) (place : ℕ) (row : List ℕ) : Type 0 where
  pub rising : IsStrictlyIncreasing row
  pub from : (v : ℕ) → Contains row v → (k : ℕ) × (k < place) × (k < length values) × (slice_index values k ≡ v) × (test k ≡ true)
  pub to : (k : ℕ) → k < place → k < length values → test k ≡ true → Contains row (slice_index values k)

pub row_none : (values : List ℕ) (test : ℕ → Bool) → RowTo values test 0 []
row_none values test = record {
  rising = λ k inside. absurd (omega (arith, inside));
  from = λ v h. absurd (omega (arith, h.1));
  to = λ k below inside h. absurd (omega (arith, below));
}

-- there is no member between two places
pub row_jump : (values : List ℕ) (test : ℕ → Bool) (place found : ℕ) (row : List ℕ) → place ≤ found → ((k : ℕ) → place ≤ k → k < found → test k ≡ false) → RowTo values test place row
    → RowTo values test found row
row_jump values test place found row up none so_far = record {
  rising = so_far.rising;
  from = λ v h. let old = so_far.from v h in (old.0, omega (arith, old.1, up), old.2, old.3, old.4);
  to = λ k below inside h. by k below inside h (order k place);
}
  where
    order : (i j : ℕ) → (i < j) ⊎ (j ≤ i)
    order i j = grind arith

    by : (k : ℕ) → k < found → k < length values → test k ≡ true → (k < place) ⊎ (place ≤ k) → Contains row (slice_index values k)
    by k below inside h (inl before) = so_far.to k before inside h
    by k below inside h (inr past) = absurd (false≢true (sym (none k past below) ∙ h))

pub row_push : (values : List ℕ) (test : ℕ → Bool) (place x : ℕ) (row : List ℕ) → IsStrictlyIncreasing values → place < length values → slice_index values place ≡ x → test place ≡ true
    → RowTo values test place row → RowTo values test (place + 1) (row ++ x ∷ [])
row_push values test place x row up inside' is passes so_far = record {
  rising = λ k inside. rises k (let e = length-append row (x ∷ []) in omega (arith, inside, e)) (order (k + 1) (length row));
  from = λ v h. old_or_new v (Contains-push_cases row x v h);
  to = λ k below inside h. by k below inside h (order k place);
}
  where
    order : (i j : ℕ) → (i < j) ⊎ (j ≤ i)
    order i j = grind arith

    below_x : (v : ℕ) → Contains row v → v < x
    below_x v h =
        let old = so_far.from v h in
        let less : slice_index values old.0 < slice_index values place = below_from_sorted values old.0 place 0 (sorted_from_strictly_increasing values up) old.1 inside' in
        omega (arith, less, old.3, is)

    rises : (k : ℕ) → k + 1 < length row + 1 → (k + 1 < length row) ⊎ (length row ≤ k + 1) → slice_index (row ++ x ∷ []) k < slice_index (row ++ x ∷ []) (k + 1)
    rises k inside (inl before) =
        let a : slice_index (row ++ x ∷ []) k ≡ slice_index row k = get_or_append_left row (x ∷ []) 0 k (omega (arith, before)) in
        let b : slice_index (row ++ x ∷ []) (k + 1) ≡ slice_index row (k + 1) = get_or_append_left row (x ∷ []) 0 (k + 1) before in
        let less = so_far.rising k before in omega (arith, a, b, less)
    rises k inside (inr last) =
        let a : slice_index (row ++ x ∷ []) k ≡ slice_index row k = get_or_append_left row (x ∷ []) 0 k (omega (arith, inside)) in
        let e : k + 1 ≡ length row = omega (arith, inside, last) in
        let b : slice_index (row ++ x ∷ []) (k + 1) ≡ x = ap (λ n. get_or (row ++ x ∷ []) n 0) e ∙ get_or-append_seam row x [] 0 in
        let less = below_x (slice_index row k) (Contains-get_or row k 0 (omega (arith, inside))) in omega (arith, a, b, less)

    old_or_new : (v : ℕ) → Contains row v ⊎ (x ≡ v) → (k : ℕ) × (k < place + 1) × (k < length values) × (slice_index values k ≡ v) × (test k ≡ true)
    old_or_new v (inl h) = let old = so_far.from v h in (old.0, omega (arith, old.1), old.2, old.3, old.4)
    old_or_new v (inr e) = (place, omega arith, inside', is ∙ e, passes)

    by : (k : ℕ) → k < place + 1 → k < length values → test k ≡ true → (k < place) ⊎ (place ≤ k) → Contains (row ++ x ∷ []) (slice_index values k)
    by k below inside h (inl before) = Contains-append_left row (x ∷ []) (slice_index values k) (so_far.to k before inside h)
    by k below inside h (inr behind) =
        let e : place ≡ k = omega (arith, below, behind) in
        subst (λ v. Contains (row ++ x ∷ []) v) (sym is ∙ ap (slice_index values) e) (Contains-push row x)

-- one member more: the next one
pub row_next : (values : List ℕ) (test : ℕ → Bool) (place found : ℕ) (row new : List ℕ) → IsStrictlyIncreasing values → found < length values → place ≤ found → test found ≡ true
    → ((k : ℕ) → place ≤ k → k < found → test k ≡ false) → new ≡ row ++ slice_index values found ∷ [] → RowTo values test place row → RowTo values test (found + 1) new
row_next values test place found row new up inside below passes none more so_far =
    subst (λ r. RowTo values test (found + 1) r) (sym more)
    (row_push values test found (slice_index values found) row up inside refl passes (row_jump values test place found row below none so_far))

-- and no further one
pub row_last : (values : List ℕ) (test : ℕ → Bool) (place : ℕ) (row : List ℕ) → ((k : ℕ) → place ≤ k → test k ≡ false) → RowTo values test place row → IsRow values test row
row_last values test place row none so_far = record {
  rising = so_far.rising;
  members = λ v. (λ h. (let old = so_far.from v h in (old.0, old.2, old.3, old.4)), λ h. subst (λ x. Contains row x) h.2 (by h.0 h.1 h.3 (order h.0 place)));
}
  where
    order : (i j : ℕ) → (i < j) ⊎ (j ≤ i)
    order i j = grind arith

    by : (k : ℕ) → k < length values → test k ≡ true → (k < place) ⊎ (place ≤ k) → Contains row (slice_index values k)
    by k inside h (inl before) = so_far.to k before inside h
    by k inside h (inr past) = absurd (false≢true (sym (none k past) ∙ h))

-- a row by a test that agrees
pub row_alike : (values : List ℕ) (p q : ℕ → Bool) (row : List ℕ) → ((k : ℕ) → k < length values → p k ≡ q k) → IsRow values p row → IsRow values q row
row_alike values p q row same is = record {
  rising = is.rising;
  members = λ v. (
    λ h. (let old = (is.members v).0 h in (old.0, old.1, old.2, sym (same old.0 old.1) ∙ old.3)),
    λ h. (is.members v).1 (h.0, h.1, h.2, same h.0 h.1 ∙ h.3),
  );
}

-- PUTTING DOWN ----------------------------------------------------------------------------------------------------------

pub put_call : (f : Body) (values : List ℕ) (test : ℕ → Bool) (inst : ℕ) (old new : List (List ℕ)) (row : List ℕ) → inst < length old → is_call (inst_at f inst).shape ≡ true
    → new ≡ slice_set old inst row → IsRow values test row → IsPut f values test inst old new
put_call f values test inst old new row inside call is row_is = record {
  size = ap length is ∙ length-set old inst row;
  others = λ i other. ap (λ table. row_at table i) is ∙ get_or-set_other old inst i row [] other;
  call = λ h. subst (λ r. IsRow values test r) (sym (ap (λ table. row_at table inst) is ∙ get_or-set_at old inst inst row [] refl inside)) row_is;
  other = λ h. absurd (true≢false (sym call ∙ h));
}

pub put_none : (f : Body) (values : List ℕ) (test : ℕ → Bool) (inst : ℕ) (old : List (List ℕ)) → is_call (inst_at f inst).shape ≡ false → IsPut f values test inst old old
put_none f values test inst old none = record {
  size = refl;
  others = λ i other. refl;
  call = λ h. absurd (true≢false (sym h ∙ none));
  other = λ h. refl;
}

pub put_alike : (f : Body) (values : List ℕ) (p q : ℕ → Bool) (inst : ℕ) (old new : List (List ℕ)) → ((k : ℕ) → k < length values → p k ≡ q k) → IsPut f values p inst old new
    → IsPut f values q inst old new
put_alike f values p q inst old new same put = record {
  size = put.size;
  others = put.others;
  call = λ h. row_alike values p q (row_at new inst) same (put.call h);
  other = put.other;
}

-- the calls of a block from a place on have their rows
pub record RecordedFrom (f : Body) (values : List ℕ) (sets : List (List Bool)) (insts : List ℕ) (place : ℕ) (old new : List (List ℕ)) : Type 0 where
  pub size : length new ≡ length old
  pub others : (i : ℕ) → ((k : ℕ) → place ≤ k → slice_get insts k ≡ Some i → ⊥) → row_at new i ≡ row_at old i
  pub calls : (k i : ℕ) → place ≤ k → slice_get insts k ≡ Some i → is_call (inst_at f i).shape ≡ true → IsRow values (is_live_across f values sets insts k i) (row_at new i)
  pub other : (k i : ℕ) → place ≤ k → slice_get insts k ≡ Some i → is_call (inst_at f i).shape ≡ false → row_at new i ≡ row_at old i

pub recorded_none : (f : Body) (values : List ℕ) (sets : List (List Bool)) (insts : List ℕ) (place : ℕ) (old : List (List ℕ)) → length insts ≤ place
    → RecordedFrom f values sets insts place old old
recorded_none f values sets insts place old past = record {
  size = refl;
  others = λ i none. refl;
  calls = λ k i above is. absurd (let inside = slice_get_within insts k i is in omega (arith, above, inside, past));
  other = λ k i above is. absurd (let inside = slice_get_within insts k i is in omega (arith, above, inside, past));
}

once_place : (insts : List ℕ) (j k i : ℕ) → Once insts → slice_get insts j ≡ Some i → slice_get insts k ≡ Some i → j ≡ k
once_place insts j k i once first second = by (order j k)
  where
    order : (a b : ℕ) → (a < b) ⊎ ((a ≡ b) ⊎ (b < a))
    order a b = grind arith

    by : (j < k) ⊎ ((j ≡ k) ⊎ (k < j)) → j ≡ k
    by (inl before) = absurd (once j k before (slice_get_within insts k i second) (get_or_from_slice_get insts j i 0 first ∙ sym (get_or_from_slice_get insts k i 0 second)))
    by (inr (inl same)) = same
    by (inr (inr behind)) = absurd (once k j behind (slice_get_within insts j i first) (get_or_from_slice_get insts k i 0 second ∙ sym (get_or_from_slice_get insts j i 0 first)))

pub recorded_more : (f : Body) (values : List ℕ) (sets : List (List Bool)) (insts : List ℕ) (above inst : ℕ) (live : List Bool) (old mid new : List (List ℕ)) → Once insts
    → 0 < above → above ≤ length insts → inst ≡ get_or insts (above - 1) inst → IsLiveFrom f (in_set_of sets) values insts above live
    → IsPut f values (λ place. is_live_behind f (in_set_of sets place) (slice_index values place) inst (is_in live place)) inst mid new
    → RecordedFrom f values sets insts above old mid → RecordedFrom f values sets insts (above - 1) old new
recorded_more f values sets insts above inst live old mid new once some inside is before put so_far = record {
  size = put.size ∙ so_far.size;
  others = λ i none. away i none (eqb_tells i inst);
  calls = λ k i from at call. called k i from at call (eqb_tells i inst);
  other = λ k i from at none. not_called k i from at none (eqb_tells i inst);
}
  where
    here : slice_get insts (above - 1) ≡ Some inst
    here = slice_get-get_or insts (above - 1) inst (omega (arith, some, inside)) ∙ ap (λ x. Some x) (sym is)

    away : (i : ℕ) → ((k : ℕ) → above - 1 ≤ k → slice_get insts k ≡ Some i → ⊥) → ((eqb i inst ≡ true) × (i ≡ inst)) ⊎ ((eqb i inst ≡ false) × (i ≢ inst)) → row_at new i ≡ row_at old i
    away i none (inl same) = absurd (none (above - 1) (omega arith) (here ∙ ap (λ x. Some x) (sym same.1)))
    away i none (inr apart) = put.others i apart.1 ∙ so_far.others i (λ k from at. none k (omega (arith, from)) at)

    -- another instruction stands behind this place
    behind : (k i : ℕ) → above - 1 ≤ k → slice_get insts k ≡ Some i → i ≢ inst → above ≤ k
    behind k i from at apart = by (order above k)
      where
        order : (a b : ℕ) → (a ≤ b) ⊎ (b < a)
        order a b = grind arith

        by : (above ≤ k) ⊎ (k < above) → above ≤ k
        by (inl h) = h
        by (inr h) = let e : above - 1 ≡ k = omega (arith, from, h) in
            let both : Some inst ≡ Some i = sym here ∙ ap (slice_get insts) e ∙ at in
            absurd (apart (let same : i ≡ inst = cc in same))

    tests : (k : ℕ) → above - 1 ≡ k → (place : ℕ) → place < length values
        → is_live_behind f (in_set_of sets place) (slice_index values place) inst (is_in live place) ≡ is_live_across f values sets insts k inst place
    tests k e place below =
        ap (is_live_behind f (in_set_of sets place) (slice_index values place) inst)
        (before.members place below ∙ ap (λ n. is_live_before f (in_set_of sets place) (slice_index values place) (drop n insts)) (let h : above ≡ suc k = omega (arith, e, some) in h))

    called : (k i : ℕ) → above - 1 ≤ k → slice_get insts k ≡ Some i → is_call (inst_at f i).shape ≡ true → ((eqb i inst ≡ true) × (i ≡ inst)) ⊎ ((eqb i inst ≡ false) × (i ≢ inst))
        → IsRow values (is_live_across f values sets insts k i) (row_at new i)
    called k i from at call (inl same) =
        let e : above - 1 ≡ k = once_place insts (above - 1) k inst once here (at ∙ ap (λ x. Some x) same.1) in
        subst (λ x. IsRow values (is_live_across f values sets insts k x) (row_at new x)) (sym same.1)
        (row_alike values (λ place. is_live_behind f (in_set_of sets place) (slice_index values place) inst (is_in live place)) (is_live_across f values sets insts k inst) (row_at new inst)
        (tests k e) (put.call (subst (λ x. is_call (inst_at f x).shape ≡ true) same.1 call)))
    called k i from at call (inr apart) =
        subst (λ row. IsRow values (is_live_across f values sets insts k i) row) (sym (put.others i apart.1)) (so_far.calls k i (behind k i from at apart.1) at call)

    not_called : (k i : ℕ) → above - 1 ≤ k → slice_get insts k ≡ Some i → is_call (inst_at f i).shape ≡ false → ((eqb i inst ≡ true) × (i ≡ inst)) ⊎ ((eqb i inst ≡ false) × (i ≢ inst))
        → row_at new i ≡ row_at old i
    not_called k i from at none (inl same) =
        let e : above - 1 ≡ k = once_place insts (above - 1) k inst once here (at ∙ ap (λ x. Some x) same.1) in
        let put_is : row_at new i ≡ row_at mid i =
        ap (row_at new) same.1 ∙ put.other (subst (λ x. is_call (inst_at f x).shape ≡ false) same.1 none) ∙ ap (row_at mid) (sym same.1) in
        put_is ∙ so_far.others i (λ j from' at'. let g : j ≡ k = once_place insts j k i once at' at in omega (arith, from', g, e, some))
    not_called k i from at none (inr apart) = put.others i apart.1 ∙ so_far.other k i (behind k i from at apart.1) at none

pub recorded_all : (f : Body) (values : List ℕ) (sets : List (List Bool)) (insts : List ℕ) (place : ℕ) (old new : List (List ℕ)) → place ≤ 0
    → RecordedFrom f values sets insts place old new → IsRecorded f values sets insts old new
recorded_all f values sets insts place old new none done = record {
  size = done.size;
  others = λ i away. done.others i (λ k from at. away (k, slice_get_within insts k i at, get_or_from_slice_get insts k i i at));
  calls = λ k i at call. done.calls k i (omega (arith, none)) at call;
  other = λ k i at h. done.other k i (omega (arith, none)) at h;
}

-- BLOCK BY BLOCK --------------------------------------------------------------------------------------------------------

-- the instructions of a block are its own
pub inst_home : (f : Body) → IsConsistent f → (b k i : ℕ) → slice_get (insts_of f b) k ≡ Some i → (i < length f.insts) × ((inst_at f i).block ≡ b) × (stands_in b f.layout ≡ true) × (slice_get (block_at f b).insts k ≡ Some i)
inst_home f kept b k i at = by (stands_in b f.layout) refl at
  where
    by : (c : Bool) → stands_in b f.layout ≡ c → slice_get (if c then (block_at f b).insts else []) k ≡ Some i
        → (i < length f.insts) × ((inst_at f i).block ≡ b) × (stands_in b f.layout ≡ true) × (slice_get (block_at f b).insts k ≡ Some i)
    by true is h =
        let inside = slice_get_within (block_at f b).insts k i h in
        let e : slice_index (block_at f b).insts k ≡ i = get_or_from_slice_get (block_at f b).insts k i 0 h in
        let known = kept.insts_known b k inside in
        (subst (λ x. x < length f.insts) e known.0, subst (λ x. (inst_at f x).block ≡ b) e known.1, is, h)
    by false is h = let none : None ≡ Some i = h in cc

pub insts_once : (f : Body) → IsConsistent f → (b : ℕ) → Once (insts_of f b)
insts_once f kept b = by (stands_in b f.layout)
  where
    by : (c : Bool) → Once (if c then (block_at f b).insts else [])
    by true = kept.insts_once b
    by false = λ j k before inside. absurd (omega (arith, inside))

pub insts_exist : (f : Body) → IsConsistent f → (b : ℕ) → EachIndex (insts_of f b) (λ k. slice_index (insts_of f b) k < length f.insts)
insts_exist f kept b k inside = (inst_home f kept b k (slice_index (insts_of f b) k) (slice_get-get_or (insts_of f b) k 0 inside)).0

pub listed_none : (f : Body) (values : List ℕ) (sets : List (List Bool)) (rows : List (List ℕ)) → AreRows (length f.insts) (λ number. []) rows → IsListedBy f values sets [] rows
listed_none f values sets rows empty = record {
  size = empty.size;
  calls = λ b k i member. absurd (omega (arith, member.1));
  none = λ i h. by i (order i (length f.insts));
}
  where
    order : (i j : ℕ) → (i < j) ⊎ (j ≤ i)
    order i j = grind arith

    by : (i : ℕ) → (i < length f.insts) ⊎ (length f.insts ≤ i) → row_at rows i ≡ []
    by i (inl inside) = empty.rows i inside
    by i (inr past) = get_or-eq_default rows [] (subst (λ n. n ≤ i) (sym empty.size) past)

pub listed_more : (f : Body) (values : List ℕ) (sets : List (List Bool)) (blocks : List ℕ) (block : ℕ) (mid new : List (List ℕ)) → IsConsistent f
    → IsListedBy f values sets blocks mid → IsRecorded f values sets (insts_of f block) mid new → IsListedBy f values sets (blocks ++ block ∷ []) new
listed_more f values sets blocks block mid new kept so_far now = record {
  size = now.size ∙ so_far.size;
  calls = λ b k i member at call. by b k i at call (eqb_tells b block) (Contains-push_cases blocks block b member);
  none = λ i h. empty i h (stands_in i (insts_of f block)) refl (is_call (inst_at f i).shape) refl;
}
  where
    away : (b k i : ℕ) → slice_get (insts_of f b) k ≡ Some i → b ≢ block → row_at new i ≡ row_at mid i
    away b k i at apart = now.others i (λ h. apart (sym (inst_home f kept b k i at).1 ∙ home i h))
      where
        home : (j : ℕ) → Contains (insts_of f block) j → (inst_at f j).block ≡ block
        home j h = let there = place_of_member (insts_of f block) j h in (inst_home f kept block there.0 j there.1).1

    by : (b k i : ℕ) → slice_get (insts_of f b) k ≡ Some i → is_call (inst_at f i).shape ≡ true → ((eqb b block ≡ true) × (b ≡ block)) ⊎ ((eqb b block ≡ false) × (b ≢ block))
        → Contains blocks b ⊎ (block ≡ b) → IsRow values (is_live_across f values sets (insts_of f b) k i) (row_at new i)
    by b k i at call (inl same) which =
        subst (λ x. IsRow values (is_live_across f values sets (insts_of f x) k i) (row_at new i)) (sym same.1)
        (now.calls k i (subst (λ x. slice_get (insts_of f x) k ≡ Some i) same.1 at) call)
    by b k i at call (inr apart) (inl old) =
        subst (λ row. IsRow values (is_live_across f values sets (insts_of f b) k i) row) (sym (away b k i at apart.1)) (so_far.calls b k i old at call)
    by b k i at call (inr apart) (inr here) = absurd (apart.1 (sym here))

    empty : (i : ℕ) → ((b k : ℕ) → Contains (blocks ++ block ∷ []) b → slice_get (insts_of f b) k ≡ Some i → is_call (inst_at f i).shape ≡ true → ⊥)
        → (c : Bool) → stands_in i (insts_of f block) ≡ c → (d : Bool) → is_call (inst_at f i).shape ≡ d → row_at new i ≡ []
    empty i h true stands true call =
        let there = place_of_member (insts_of f block) i (stands_to i (insts_of f block) stands) in
        absurd (h block there.0 (Contains-push blocks block) there.1 call)
    empty i h true stands false none =
        let there = place_of_member (insts_of f block) i (stands_to i (insts_of f block) stands) in
        now.other there.0 i there.1 none ∙ so_far.none i (λ b k member at. h b k (Contains-append_left blocks (block ∷ []) b member) at)
    empty i h false stands d call =
        now.others i (λ m. false≢true (sym stands ∙ stands_from i (insts_of f block) m)) ∙ so_far.none i (λ b k member at. h b k (Contains-append_left blocks (block ∷ []) b member) at)
