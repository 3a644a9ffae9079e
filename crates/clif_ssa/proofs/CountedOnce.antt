-- At most one look-up of a variable begins in the predecessors of a block.
use Rattle.std.proofs.Common.{◌≡◌, ◌≢◌, ℕ, ◌==◌, ◌&&◌, Bool, true, false, List, [], ◌∷◌, ◌++◌, refl, ap, arith, sym, ◌∙◌, subst, ◌⊎◌, inl, inr}
use Rattle.std.specs.Prelude.{Option, Some, None, Contains, map, if◌then◌else◌}
use Rattle.std.proofs.lemmas.Grind.{common_steps}
use Rattle.std.proofs.lemmas.Bool.{cases_eq}
use Rattle.std.proofs.lemmas.List.{map-append}
use Rattle.std.proofs.lemmas.List.Elements.{Contains-push_cases}
use Rattle.clif_instructions.specs.Members.{Once}
use Rattle.clif_instructions.proofs.Members.{if_true, if_false, Once-tail}
use Rattle.clif_records.specs.declared.tables.Pending.{Pending}
use Rattle.clif_records.specs.declared.tables.Recorded.{Recorded}
use Rattle.clif_records.specs.Tables.{No, Sealed, Yes, is_yes, one_more, pending_of}
use Rattle.clif_ssa.specs.Ssa.{SsaState, no_state, record_of, lookups_of, sealed_of, Records, RecordsStay, SameBlocks, SameLookups, SameRecords, SealedStays, Seals, CountsLookup}
use Rattle.clif_ssa.specs.Structure.{LooksOnce}
use Rattle.clif_ssa.specs.Running.{CountsOnce, ToComplete}
use Rattle.clif_records.proofs.RecordMaps.{recorded_at-empty}
use Rattle.clif_ssa.proofs.Ordering.{contains_cons, contains_more, contains_first, none_contained}
use Rattle.clif_ssa.proofs.Leading.{once_first, once_push}

some_none : {x : ℕ} → ◌≡◌ {A = Option ℕ} (Some x) None → ⊥
some_none same = cc

yes_no : ◌≡◌ {A = Bool} true false → ⊥
yes_no same = cc

when_true : {X : Type 0} (test : Bool) (a b : X) → test ≡ true → (if test then a else b) ≡ a
when_true test a b is = ap (λ t. if t then a else b) is

when_false : {X : Type 0} (test : Bool) (a b : X) → test ≡ false → (if test then a else b) ≡ b
when_false test a b is = ap (λ t. if t then a else b) is

-- each record that is there stays
abbrev pub NoneLost : SsaState → SsaState → Type 0
NoneLost s t = (v d : ℕ) → record_of t v d ≡ None → record_of s v d ≡ None

pub none_lost : (s t : SsaState) → SameRecords s t → NoneLost s t
none_lost s t same v d none = sym (same v d) ∙ none

pub stay_lost : (s t : SsaState) → RecordsStay s t → NoneLost s t
stay_lost s t stay x b none = by (record_of s x b) refl
  where
    by : (o : Option ℕ) → record_of s x b ≡ o → record_of s x b ≡ None
    by None is = is
    by (Some v) is = absurd (some_none (sym (stay x b v is) ∙ none))

-- nothing was looked up where nothing is known
pub nothing_looked : LooksOnce no_state
nothing_looked = record {
  once = λ x b. omega (arith, none x b);
  unrecorded = λ x b _. none x b;
  unsealed = λ x b _. none x b;
  waiting_recorded = λ b p here. absurd (none_contained p here);
  apart = λ b j k below inside. absurd (omega (arith, inside));
}
  where
    none : (x b : ℕ) → lookups_of no_state x b ≡ 0
    none x b = ap (λ (r : Recorded). r.lookups) (recorded_at-empty x b)

abbrev variables_of : List Pending → List ℕ
variables_of ps = map (λ (p : Pending). p.variable) ps

-- a variable of the list is one of an entry
variable_from : (ps : List Pending) (y : ℕ) → Contains (variables_of ps) y → (p : Pending) × Contains ps p × (p.variable ≡ y)
variable_from [] y here = absurd (none_contained y here)
variable_from (p ∷ ps) y here =
    let induction : Contains (variables_of ps) y → (q : Pending) × Contains ps q × (q.variable ≡ y) = variable_from ps y in
    elim (contains_cons p.variable (variables_of ps) y here) [
      | inl same ↦ (p, contains_first p ps, same)
      | inr later ↦ let there : (q : Pending) × Contains ps q × (q.variable ≡ y) = induction later in (there.0, contains_more p ps there.0 there.1, there.2)
    ]

variable_in : (ps : List Pending) (p : Pending) → Contains ps p → Contains (variables_of ps) p.variable
variable_in [] p here = absurd (none_contained p here)
variable_in (q ∷ ps) p here =
    let induction : Contains ps p → Contains (variables_of ps) p.variable = variable_in ps p in
    elim (contains_cons q ps p here) [
      | inl same ↦ subst (λ (r : Pending). Contains (variables_of (q ∷ ps)) r.variable) same (contains_first q.variable (variables_of ps))
      | inr later ↦ contains_more q.variable (variables_of ps) p.variable (induction later)
    ]

-- STEPS -----------------------------------------------------------------------------------------------------------

pub counts_self : (s : SsaState) → CountsOnce s s
counts_self s = record { looks_once = λ once. once; counts = λ x b some. refl; records = λ x b none. none }

pub counts_then : (s t u : SsaState) → CountsOnce s t → CountsOnce t u → CountsOnce s u
counts_then s t u first next = record {
  looks_once = λ once. next.looks_once (first.looks_once once);
  counts = λ x b some. next.counts x b (λ none. some (first.records x b none)) ∙ first.counts x b some;
  records = λ x b none. first.records x b (next.records x b none);
}

-- no record is lost, and nothing is counted
pub once_kept : (s t : SsaState) → ((x b : ℕ) → record_of t x b ≡ None → record_of s x b ≡ None) → SameLookups s t → SameBlocks s t → CountsOnce s t
once_kept s t records lookups blocks = record {
  looks_once = λ once.
      record {
        once = λ x b. omega (arith, once.once x b, lookups x b);
        unrecorded = λ x b none. lookups x b ∙ once.unrecorded x b (records x b none);
        unsealed = λ x b no. lookups x b ∙ once.unsealed x b (ap is_yes (sym (blocks b)) ∙ no);
        waiting_recorded = λ b p here none. once.waiting_recorded b p (subst (λ entry. Contains (pending_of entry) p) (blocks b) here) (records p.variable b none);
        apart = λ b. subst (λ entry. Once (variables_of (pending_of entry))) (sym (blocks b)) (once.apart b);
      };
  counts = λ x b some. lookups x b;
  records = records;
}

written : (test : Bool) (v : ℕ) (old : Option ℕ) → (if test then Some v else old) ≡ None → old ≡ None
written true v old none = absurd (some_none none)
written false v old none = none

pub records_kept : (s t : SsaState) (x b v : ℕ) → Records s t x b v → (y c : ℕ) → record_of t y c ≡ None → record_of s y c ≡ None
records_kept s t x b v recorded y c none = written (y == x && c == b) v (record_of s y c) (sym (recorded y c) ∙ none)

-- a value is recorded
pub once_recorded : (s t : SsaState) (x b v : ℕ) → Records s t x b v → SameLookups s t → SameBlocks s t → CountsOnce s t
once_recorded s t x b v recorded lookups blocks = once_kept s t (records_kept s t x b v recorded) lookups blocks

pub here_recorded : (s t : SsaState) (x b v : ℕ) → Records s t x b v → record_of t x b ≢ None
here_recorded s t x b v recorded none =
    let at : record_of t x b ≡ Some v = recorded x b ∙ grind (arith, common_steps) in
    some_none (sym at ∙ none)

-- a new parameter is recorded and waits
pub once_waits : (s t : SsaState) (x b v : ℕ) → record_of s x b ≡ None → Records s t x b v → SameLookups s t
    → ((c : ℕ) → sealed_of t c ≡ (if c == b then No (pending_of (sealed_of s c) ++ record { variable = x; param = v } ∷ []) else sealed_of s c))
    → is_yes (sealed_of s b) ≡ false → CountsOnce s t
once_waits s t x b v unrecorded recorded lookups waiting unsealed = record {
  looks_once = λ once.
      record {
        once = λ y c. omega (arith, once.once y c, lookups y c);
        unrecorded = λ y c none. lookups y c ∙ once.unrecorded y c (kept y c none);
        unsealed = λ y c no. lookups y c ∙ once.unsealed y c (same_flag c ∙ no);
        waiting_recorded = λ c p here none. waits once c p (cases_eq c b) here none;
        apart = λ c. different once c (cases_eq c b);
      };
  counts = λ y c some. lookups y c;
  records = kept;
}
  where
    kept : (y c : ℕ) → record_of t y c ≡ None → record_of s y c ≡ None
    kept = records_kept s t x b v recorded

    here : (c : ℕ) → c ≡ b → sealed_of t c ≡ No (pending_of (sealed_of s b) ++ record { variable = x; param = v } ∷ [])
    here c same = ap (λ d. sealed_of t d) same ∙ waiting b ∙ if_true b b _ _ refl

    other : (c : ℕ) → c ≢ b → sealed_of t c ≡ sealed_of s c
    other c apart = waiting c ∙ if_false c b _ _ apart

    same_flag : (c : ℕ) → is_yes (sealed_of s c) ≡ is_yes (sealed_of t c)
    same_flag c = elim (cases_eq c b) [
      | inl same ↦ ap (λ d. is_yes (sealed_of s d)) same ∙ unsealed ∙ sym (ap is_yes (here c same))
      | inr apart ↦ sym (ap is_yes (other c apart))
    ]

    waits : LooksOnce s → (c : ℕ) (p : Pending) → (c ≡ b) ⊎ (c ≢ b) → Contains (pending_of (sealed_of t c)) p → record_of t p.variable c ≢ None
    waits once c p (inl same) in_t none =
        elim (Contains-push_cases (pending_of (sealed_of s b)) (record { variable = x; param = v }) p (subst (λ entry. Contains (pending_of entry) p) (here c same) in_t)) [
          | inl old ↦ once.waiting_recorded b p old (kept p.variable b (ap (record_of t p.variable) (sym same) ∙ none))
          | inr last ↦ here_recorded s t x b v recorded (ap (λ (q : Pending). record_of t q.variable b) last ∙ ap (record_of t p.variable) (sym same) ∙ none)
        ]
    waits once c p (inr apart) in_t none =
        once.waiting_recorded c p (subst (λ entry. Contains (pending_of entry) p) (other c apart) in_t) (kept p.variable c none)

    different : LooksOnce s → (c : ℕ) → (c ≡ b) ⊎ (c ≢ b) → Once (variables_of (pending_of (sealed_of t c)))
    different once c (inl same) =
        subst (λ entry. Once (variables_of (pending_of entry))) (sym (here c same))
        (subst (λ xs. Once xs) (sym (map-append (λ (p : Pending). p.variable) (pending_of (sealed_of s b)) (record { variable = x; param = v } ∷ [])))
        (once_push (variables_of (pending_of (sealed_of s b))) x
        (λ y in_s is.
        let p : (q : Pending) × Contains (pending_of (sealed_of s b)) q × (q.variable ≡ y) = variable_from (pending_of (sealed_of s b)) y in_s in
        once.waiting_recorded b p.0 p.1 (ap (λ z. record_of s z b) (p.2 ∙ is) ∙ unrecorded))
        (once.apart b)))
    different once c (inr apart) = subst (λ entry. Once (variables_of (pending_of entry))) (sym (other c apart)) (once.apart c)

one_from_none : (n : ℕ) → n ≡ 0 → one_more n ≡ 1
one_from_none n none = ap one_more none

-- counts after one look-up was counted: the one that was none is 1, and the others are as before
counted_here : (s t : SsaState) (x b : ℕ) → CountsLookup s t x b → lookups_of s x b ≡ 0 → lookups_of t x b ≡ 1
counted_here s t x b counted none =
    counted x b ∙ when_true (x == x && b == b) _ _ (grind (arith, common_steps)) ∙ one_from_none (lookups_of s x b) none

counted_other : (s t : SsaState) (x b : ℕ) → CountsLookup s t x b → (y c : ℕ) → (y ≡ x → c ≡ b → ⊥) → lookups_of t y c ≡ lookups_of s y c
counted_other s t x b counted y c apart = counted y c ∙ when_false (y == x && c == b) _ _ test
  where
    test : (y == x && c == b) ≡ false
    test = elim (cases_eq y x) [
      | inl same ↦ elim (cases_eq c b) [ inl at ↦ absurd (apart same at) | inr away ↦ grind (arith, common_steps, away) ]
      | inr away ↦ grind (arith, common_steps, away)
    ]

-- the cell is this one or another
this_or_other : (y c x b : ℕ) → ((y ≡ x) × (c ≡ b)) ⊎ (y ≡ x → c ≡ b → ⊥)
this_or_other y c x b =
    elim (cases_eq y x) [
      | inl same ↦ elim (cases_eq c b) [ inl at ↦ inl (same, at) | inr away ↦ inr (λ _ at. away at) ]
      | inr away ↦ inr (λ same _. away same)
    ]

-- a look-up of a variable that is recorded by now is counted, in a sealed block
counted_once : (s t : SsaState) (x b : ℕ) → record_of t x b ≢ None → is_yes (sealed_of s b) ≡ true → ((y c : ℕ) → record_of t y c ≡ None → record_of s y c ≡ None)
    → SameBlocks s t → CountsLookup s t x b → LooksOnce s → lookups_of s x b ≡ 0 → LooksOnce t
counted_once s t x b recorded sealed kept blocks counted once none = record {
  once = λ y c.
      elim (this_or_other y c x b) [
        | inl this ↦
            let at : lookups_of t y c ≡ 1 = ap (λ z. lookups_of t z c) this.0 ∙ ap (lookups_of t x) this.1 ∙ counted_here s t x b counted none in omega (arith, at)
        | inr other ↦ omega (arith, once.once y c, counted_other s t x b counted y c other)
      ];
  unrecorded = λ y c empty.
      counted_other s t x b counted y c (λ same at. recorded (ap (λ z. record_of t z b) (sym same) ∙ ap (record_of t y) (sym at) ∙ empty)) ∙ once.unrecorded y c (kept y c empty);
  unsealed = λ y c no.
      let was : is_yes (sealed_of s c) ≡ false = ap is_yes (sym (blocks c)) ∙ no in
      counted_other s t x b counted y c (λ _ at. yes_no (sym sealed ∙ ap (λ d. is_yes (sealed_of s d)) (sym at) ∙ was)) ∙ once.unsealed y c was;
  waiting_recorded = λ c p here empty. once.waiting_recorded c p (subst (λ entry. Contains (pending_of entry) p) (blocks c) here) (kept p.variable c empty);
  apart = λ c. subst (λ entry. Once (variables_of (pending_of entry))) (sym (blocks c)) (once.apart c);
}

-- a new parameter is recorded, and its look-up may begin
pub once_begins : (s t : SsaState) (x b v : ℕ) → record_of s x b ≡ None → is_yes (sealed_of s b) ≡ true → Records s t x b v → SameBlocks s t
    → SameLookups s t ⊎ CountsLookup s t x b → CountsOnce s t
once_begins s t x b v unrecorded sealed recorded blocks (inl same) = once_recorded s t x b v recorded same blocks
once_begins s t x b v unrecorded sealed recorded blocks (inr counted) = record {
  looks_once = λ once.
      counted_once s t x b (here_recorded s t x b v recorded) sealed (records_kept s t x b v recorded) blocks counted once (once.unrecorded x b unrecorded);
  counts = λ y c some. counted_other s t x b counted y c (λ same at. some (ap (λ z. record_of s z c) same ∙ ap (record_of s x) at ∙ unrecorded));
  records = records_kept s t x b v recorded;
}

-- SEALING ---------------------------------------------------------------------------------------------------------

pub once_seals : (s t : SsaState) (b : ℕ) → Seals s t b → SameRecords s t → SameLookups s t → LooksOnce s → ToComplete t b (pending_of (sealed_of s b))
once_seals s t b seals records lookups once = record {
  once = record {
    once = λ x c. omega (arith, once.once x c, lookups x c);
    unrecorded = λ x c none. lookups x c ∙ once.unrecorded x c (sym (records x c) ∙ none);
    unsealed = λ x c no.
        elim (cases_eq c b) [
          | inl same ↦ absurd (yes_no (sym (ap is_yes (here c same)) ∙ no))
          | inr apart ↦ lookups x c ∙ once.unsealed x c (ap is_yes (sym (other c apart)) ∙ no)
        ];
    waiting_recorded = λ c p in_t none.
        elim (cases_eq c b) [
          | inl same ↦ absurd (none_contained p (subst (λ entry. Contains (pending_of entry) p) (here c same) in_t))
          | inr apart ↦ once.waiting_recorded c p (subst (λ entry. Contains (pending_of entry) p) (other c apart) in_t) (sym (records p.variable c) ∙ none)
        ];
    apart = λ c.
        elim (cases_eq c b) [
          | inl same ↦ subst (λ entry. Once (variables_of (pending_of entry))) (sym (here c same)) (λ j k below inside. absurd (omega (arith, inside)))
          | inr apart ↦ subst (λ entry. Once (variables_of (pending_of entry))) (sym (other c apart)) (once.apart c)
        ];
  };
  sealed = ap is_yes (here b refl);
  none_began = λ p in_s. lookups p.variable b ∙ began (sealed_of s b) refl p in_s;
  recorded = λ p in_s none. once.waiting_recorded b p in_s (sym (records p.variable b) ∙ none);
  apart = once.apart b;
}
  where
    here : (c : ℕ) → c ≡ b → sealed_of t c ≡ Yes
    here c same = ap (λ d. sealed_of t d) same ∙ seals b ∙ if_true b b _ _ refl

    other : (c : ℕ) → c ≢ b → sealed_of t c ≡ sealed_of s c
    other c apart = seals c ∙ if_false c b _ _ apart

    began : (entry : Sealed) → sealed_of s b ≡ entry → (p : Pending) → Contains (pending_of entry) p → lookups_of s p.variable b ≡ 0
    began (No ps) is p in_s = once.unsealed p.variable b (ap is_yes is)
    began Yes is p in_s = absurd (none_contained p in_s)

-- the look-up of the first of them may begin
pub once_completes : (s t : SsaState) (b : ℕ) (p : Pending) (ps : List Pending) → SameRecords s t → SameBlocks s t → SameLookups s t ⊎ CountsLookup s t p.variable b
    → ToComplete s b (p ∷ ps) → ToComplete t b ps
once_completes s t b p ps records blocks counts before = record {
  once = once counts;
  sealed = ap is_yes (blocks b) ∙ before.sealed;
  none_began = λ q later. same_count counts q later ∙ before.none_began q (contains_more p ps q later);
  recorded = λ q later none. before.recorded q (contains_more p ps q later) (sym (records q.variable b) ∙ none);
  apart = Once-tail p.variable (variables_of ps) before.apart;
}
  where
    kept : (y c : ℕ) → record_of t y c ≡ None → record_of s y c ≡ None
    kept y c none = sym (records y c) ∙ none

    once : SameLookups s t ⊎ CountsLookup s t p.variable b → LooksOnce t
    once (inl same) = (once_kept s t kept same blocks).looks_once before.once
    once (inr counted) =
        counted_once s t p.variable b (λ none. before.recorded p (contains_first p ps) (kept p.variable b none)) before.sealed kept blocks counted before.once
        (before.none_began p (contains_first p ps))

    same_count : SameLookups s t ⊎ CountsLookup s t p.variable b → (q : Pending) → Contains ps q → lookups_of t q.variable b ≡ lookups_of s q.variable b
    same_count (inl same) q later = same q.variable b
    same_count (inr counted) q later =
        counted_other s t p.variable b counted q.variable b
        (λ same at. once_first p.variable (variables_of ps) q.variable before.apart (variable_in ps q later) (sym same))

-- and other look-ups follow
pub once_follows : (s t : SsaState) (b : ℕ) (ps : List Pending) → CountsOnce s t → SealedStays s t → ToComplete s b ps → ToComplete t b ps
once_follows s t b ps step stays before = record {
  once = step.looks_once before.once;
  sealed = stays b ∙ before.sealed;
  none_began = λ p here. step.counts p.variable b (before.recorded p here) ∙ before.none_began p here;
  recorded = λ p here none. before.recorded p here (step.records p.variable b none);
  apart = before.apart;
}

pub once_same : (s : SsaState) (b : ℕ) (ps qs : List Pending) → ps ≡ qs → ToComplete s b ps → ToComplete s b qs
once_same s b ps qs same before = subst (ToComplete s b) same before
