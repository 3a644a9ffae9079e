-- The steps of the work list.
use Rattle.std.proofs.Common.{◌≡◌, ◌≢◌, ◌+◌, ◌<◌, ◌≤◌, ◌⊎◌, ◌||◌, ℕ, zero, suc, Bool, true, false, cond, List, [], ◌∷◌, ◌++◌, length, get_or, take, set, refl, sym, ap, subst, ◌∙◌, arith, inl, inr, eqb, slice_index, slice_index_or, slice_set, length-append}
use Rattle.std.specs.Prelude.{Contains}
use Rattle.std.proofs.lemmas.List.{get_or-set_other, get_or_default, set-get_or, take_more}
use Rattle.std.proofs.lemmas.List.Elements.{Contains-append_left, Contains-append_right, Contains-push_cases}
use Rattle.std.proofs.lemmas.Grind.{get_or-set_at}
use Rattle.std.proofs.lemmas.Bool.Decides.{eqb_tells}
use Rattle.std.proofs.Math.ListN.{length-set}
use Rattle.clif_ir.specs.Body.{Body}
use Rattle.clif_safepoints.specs.Progress.{IsHandled, Progress, one_more, pushed, pushed_all}
use Rattle.clif_number_sets.specs.Sets.{Grows, IsSet, is_in}
use Rattle.clif_safepoints.specs.Sets.{AreSets, in_set_of}
use Rattle.clif_safepoints.specs.Transfer.{is_live_in}

-- one more block is pushed
pub pushed_more : (p : Progress) (xs : List ℕ) (x : ℕ) → pushed_all p (xs ++ x ∷ []) ≡ pushed (pushed_all p xs) x
pushed_more p [] x = refl
pushed_more p (y ∷ xs) x = pushed_more (pushed p y) xs x

pub pushed_step : (p now next : Progress) (xs : List ℕ) (i x : ℕ) → i < length xs → x ≡ get_or xs i x → now ≡ pushed_all p (take i xs) → next ≡ pushed now x
    → next ≡ pushed_all p (take (i + 1) xs)
pushed_step p now next xs i x inside is before after =
    after ∙ ap (λ (q : Progress). pushed q x) before ∙ sym (pushed_more p (take i xs) x)
    ∙ ap (pushed_all p) (ap (λ y. take i xs ++ y ∷ []) is ∙ sym (take_more xs i x inside))

-- QUEUES ----------------------------------------------------------------------------------------------------------------

-- the blocks that are marked wait, and those that wait are there
pub record IsQueue (count : ℕ) (p : Progress) : Type 0 where
  pub marks : length p.waits ≡ count
  pub there : (b : ℕ) → Contains p.stack b → b < count
  pub waiting : (b : ℕ) → is_in p.waits b ≡ true → Contains p.stack b

-- what pushing keeps, and what it adds
pub record IsPushed (count added : ℕ) (old new : Progress) : Type 0 where
  pub queue : IsQueue count new
  pub sets : new.sets ≡ old.sets
  pub handled : new.handled ≡ old.handled
  pub kept : (b : ℕ) → is_in old.waits b ≡ true → is_in new.waits b ≡ true
  pub most : length new.stack ≤ length old.stack + added
  pub least : length old.stack ≤ length new.stack

mark_now : (marks : List Bool) (b : ℕ) → b < length marks → is_in (set marks b true) b ≡ true
mark_now marks b inside = get_or-set_at marks b b true false refl inside

push_one : (count : ℕ) (p : Progress) (b : ℕ) → b < count → IsQueue count p → IsPushed count 1 p (pushed p b) × (is_in (pushed p b).waits b ≡ true)
push_one count p b inside queue = by (is_in p.waits b) refl
  where
    new : Progress
    new = record p { stack = p.stack ++ b ∷ []; waits = slice_set p.waits b true }

    within : b < length p.waits
    within = subst (λ n. b < n) (sym queue.marks) inside

    old_or_new : (q : ℕ) → ((eqb q b ≡ true) × (q ≡ b)) ⊎ ((eqb q b ≡ false) × (q ≢ b)) → is_in (set p.waits b true) q ≡ true → Contains (p.stack ++ b ∷ []) q
    old_or_new q (inl same) h = subst (λ x. Contains (p.stack ++ b ∷ []) x) (sym same.1) (Contains-append_right p.stack (b ∷ []) b (0, omega arith, refl))
    old_or_new q (inr other) h =
        Contains-append_left p.stack (b ∷ []) q (queue.waiting q (sym (get_or-set_other p.waits b q true false other.1) ∙ h))

    still : (q : ℕ) → ((eqb q b ≡ true) × (q ≡ b)) ⊎ ((eqb q b ≡ false) × (q ≢ b)) → is_in p.waits q ≡ true → is_in (set p.waits b true) q ≡ true
    still q (inl same) h = get_or-set_at p.waits b q true false same.1 within
    still q (inr other) h = get_or-set_other p.waits b q true false other.1 ∙ h

    here : (q : ℕ) → Contains p.stack q ⊎ (b ≡ q) → q < count
    here q (inl old) = queue.there q old
    here q (inr same) = subst (λ x. x < count) same inside

    by : (c : Bool) → is_in p.waits b ≡ c → IsPushed count 1 p (cond c p new) × (is_in (cond c p new).waits b ≡ true)
    by true is = (
      record {
        queue = queue;
        sets = refl;
        handled = refl;
        kept = λ q h. h;
        most = omega arith;
        least = omega arith;
      },
      is,
    )
    by false is = (
      record {
        queue = record {
          marks = length-set p.waits b true ∙ queue.marks;
          there = λ q h. here q (Contains-push_cases p.stack b q h);
          waiting = λ q h. old_or_new q (eqb_tells q b) h;
        };
        sets = refl;
        handled = refl;
        kept = λ q h. still q (eqb_tells q b) h;
        most = let long = length-append p.stack (b ∷ []) in omega (arith, long);
        least = let long = length-append p.stack (b ∷ []) in omega (arith, long);
      },
      mark_now p.waits b within,
    )

pub push_each : (count : ℕ) (xs : List ℕ) (p : Progress) → ((x : ℕ) → Contains xs x → x < count) → IsQueue count p
    → IsPushed count (length xs) p (pushed_all p xs) × ((x : ℕ) → Contains xs x → is_in (pushed_all p xs).waits x ≡ true)
push_each count [] p inside queue = (
  record {
    queue = queue;
    sets = refl;
    handled = refl;
    kept = λ q h. h;
    most = omega arith;
    least = omega arith;
  },
  λ x h. absurd (omega (arith, h.1)),
)
push_each count (y ∷ xs) p inside queue =
    let one = push_one count p y (inside y (0, omega arith, refl)) queue in
    let rest = push_each count xs (pushed p y) (λ x h. inside x (suc h.0, omega (arith, h.1), h.2)) one.0.queue in (
      record {
        queue = rest.0.queue;
        sets = rest.0.sets ∙ one.0.sets;
        handled = rest.0.handled ∙ one.0.handled;
        kept = λ q h. rest.0.kept q (one.0.kept q h);
        most = omega (arith, rest.0.most, one.0.most);
        least = omega (arith, rest.0.least, one.0.least);
      },
      λ x h. by x h.0 h.1 h.2 (rest.0.kept y one.1) rest.1,
    )
  where
    by : (x k : ℕ) → k < suc (length xs) → get_or (y ∷ xs) k x ≡ x → is_in (pushed_all (pushed p y) xs).waits y ≡ true
        → ((z : ℕ) → Contains xs z → is_in (pushed_all (pushed p y) xs).waits z ≡ true) → is_in (pushed_all (pushed p y) xs).waits x ≡ true
    by x zero below is first rest = subst (λ z. is_in (pushed_all (pushed p y) xs).waits z ≡ true) is first
    by x (suc k) below is first rest = rest x (k, omega (arith, below), is)

-- HANDLING --------------------------------------------------------------------------------------------------------------

-- the set that a block gets, where its row was read at an index
union_of : (f : Body) (values : List ℕ) (block index blocks : ℕ) (old : Progress) (row scanned set : List Bool) → AreSets blocks (length values) old.sets → block < blocks
    → index ≡ block → row ≡ get_or old.sets index row → IsSet (length values) (λ k. is_live_in f (in_set_of old.sets k) block (slice_index values k)) scanned
    → IsSet (length row) (λ k. is_in scanned k || is_in row k) set
    → (row ≡ slice_index_or old.sets block [])
    × IsSet (length values) (λ k. is_live_in f (in_set_of old.sets k) block (slice_index values k) || in_set_of old.sets k block) set
union_of f values block index blocks old row scanned set sized inside at is scan union = (
  row_is,
  record {
    size = union.size ∙ long;
    members = λ k below.
        union.members k (subst (λ n. k < n) (sym long) below) ∙ ap (λ (b : Bool). b || is_in row k) (scan.members k below)
        ∙ ap (λ (marks : List Bool). is_live_in f (in_set_of old.sets k) block (slice_index values k) || is_in marks k) row_is;
  },
)
  where
    row_is : row ≡ slice_index_or old.sets block []
    row_is = is ∙ ap (λ n. get_or old.sets n row) at ∙ get_or_default old.sets block row [] (subst (λ n. block < n) (sym sized.count) inside)

    long : length row ≡ length values
    long = ap length row_is ∙ sized.each block inside

pub handled_same : (f : Body) (values sources : List ℕ) (block index blocks h : ℕ) (old : Progress) (row scanned set' : List Bool) → AreSets blocks (length values) old.sets → block < blocks
    → index ≡ block → row ≡ get_or old.sets index row → IsSet (length values) (λ k. is_live_in f (in_set_of old.sets k) block (slice_index values k)) scanned
    → IsSet (length row) (λ k. is_in scanned k || is_in row k) set' → h ≡ one_more old.handled → set' ≡ row
    → IsHandled f values sources block old (record old { sets = set old.sets index set'; handled = h })
handled_same f values sources block index blocks h old row scanned set' sized inside at is scan union more same =
    let found = union_of f values block index blocks old row scanned set' sized inside at is scan union in
    let sets : set old.sets index set' ≡ old.sets = ap (set old.sets index) (same ∙ is) ∙ set-get_or old.sets index row in
    record {
      set = set';
      union = found.1;
      after = inl (
        same ∙ found.0,
        ap (λ (sets : List (List Bool)). record old { sets = sets; handled = h }) sets ∙ ap (λ (n : ℕ). record old { handled = n }) more,
      );
    }

pub handled_grown : (f : Body) (values sources : List ℕ) (block index blocks h : ℕ) (old new : Progress) (row scanned set' : List Bool) → AreSets blocks (length values) old.sets → block < blocks
    → index ≡ block → row ≡ get_or old.sets index row → IsSet (length values) (λ k. is_live_in f (in_set_of old.sets k) block (slice_index values k)) scanned
    → IsSet (length row) (λ k. is_in scanned k || is_in row k) set' → h ≡ one_more old.handled → Grows row set'
    → new ≡ pushed_all (record old { sets = set old.sets index set'; handled = h }) sources
    → IsHandled f values sources block old new
handled_grown f values sources block index blocks h old new row scanned set' sized inside at is scan union more grows next =
    let found = union_of f values block index blocks old row scanned set' sized inside at is scan union in
    record {
      set = set';
      union = found.1;
      after = inr (
        subst (λ (marks : List Bool). Grows marks set') found.0 grows,
        next ∙ ap (λ (i : ℕ). pushed_all (record old { sets = set old.sets i set'; handled = h }) sources) at
            ∙ ap (λ (n : ℕ). pushed_all (record old { sets = set old.sets block set'; handled = n }) sources) more,
      );
    }
