-- What the steps of the construction keep, one after another, and how they end.
use Rattle.std.proofs.Common.{◌≡◌, ◌≢◌, ℕ, ◌+◌, ◌-◌, ◌^◌, ◌<◌, ◌==◌, ◌&&◌, Bool, true, false, [], ◌∷◌, ◌++◌, length, refl, ap, arith, sym, ◌∙◌, subst, ◌⊎◌, inl, inr}
use Rattle.std.specs.Prelude.{Option, Some, None, Result, Ok, Err, if◌then◌else◌}
use Rattle.std.proofs.lemmas.Grind.{common_steps}
use Rattle.clif_types.specs.declared.error.BuildError.{BuildError}
use Rattle.clif_types.specs.declared.error.BuildError.TheVariants.{Memory, Full, Failed}
use Rattle.clif_types.specs.declared.types.«Type».{«Type»}
use Rattle.clif_ir.specs.Body.{Body}
use Rattle.clif_ir.specs.Changes.{with_param}
use Rattle.clif_records.specs.Tables.{No, is_yes, lookups_at, pending_of, predecessors_at, record_at, sealed_at}
use Rattle.clif_ssa.specs.Constructs.{OnlyConstructs}
use Rattle.clif_ssa.specs.Pools.{MayPool, UseIsFull}
use Rattle.clif_records.specs.Stacks.{LookUpState, calls_for}
use Rattle.clif_records.specs.Tracking.{with_binding}
use Rattle.clif_ssa.specs.Running.{stage, CountsOnce, Got}
use Rattle.clif_ssa.specs.Ssa.{SsaState, record_of, sealed_of, predecessors_of, HasMore, KnowsNoMore, Records, RecordsStay, SameBlocks, SameLookups, SamePredecessors, SameRecords, SealedStays, CountsLookup}
use Rattle.clif_ssa.specs.Steps.{StepKeeps, StepEnds}
use Rattle.clif_ssa.proofs.Calling.{added}
use Rattle.clif_ssa.proofs.Constructed.{param_made}
use Rattle.clif_ssa.proofs.Constructing.{constructs_none, constructs_then}
use Rattle.clif_ssa.proofs.CountedOnce.{none_lost, counts_self, counts_then, once_begins, once_kept, once_waits}
use Rattle.clif_ssa.proofs.Local.{named-grows, named-same, param-named-unrecorded}
use Rattle.clif_ssa.proofs.LocalSteps.{counted_from, waiting_from}
use Rattle.clif_ssa.proofs.Naming.{has_more, more-then, param_more, param-named, param-named-waits}
use Rattle.clif_ssa.proofs.Pooling.{pools_again, pools_kept, pools_none, pools_param, pools_waits}
use Rattle.clif_ssa.proofs.Waited.{no_more-self, no_more-then}

none_some : {v : ℕ} → ◌≡◌ {A = Option ℕ} None (Some v) → ⊥
none_some same = cc

no_yes : ◌≡◌ false true → ⊥
no_yes same = cc

-- NOTHING, AND ONE AFTER ANOTHER ----------------------------------------------------------------------------------

pub keeps_none : {ty : «Type»} (x : ℕ) (f : Body) (s : SsaState) → StepKeeps x ty f s f s
keeps_none {ty} x f s = record {
  predecessors = λ b. refl;
  stay = λ y b v is. is;
  flags = λ b. refl;
  no_more = no_more-self s (length f.blocks);
  more = has_more f;
  constructs = constructs_none f;
  names = λ named. named;
  once = counts_self s;
  pools = pools_none (ty ∷ []) f s;
}

pub keeps_then : {ty : «Type»} (x : ℕ) (f : Body) (s : SsaState) (g : Body) (t : SsaState) (h : Body) (u : SsaState) → StepKeeps x ty f s g t → StepKeeps x ty g t h u
    → StepKeeps x ty f s h u
keeps_then {ty} x f s g t h u first next = record {
  predecessors = λ b. next.predecessors b ∙ first.predecessors b;
  stay = λ y b v is. next.stay y b v (first.stay y b v is);
  flags = λ b. next.flags b ∙ first.flags b;
  no_more = no_more-then s t u (length f.blocks) (length g.blocks) first.more.blocks first.no_more next.no_more;
  more = more-then f g h first.more next.more;
  constructs = constructs_then f g h first.constructs next.constructs;
  names = λ named. next.names (first.names named);
  once = counts_then s t u first.once next.once;
  pools = pools_again ty f s g t h u first.pools next.pools;
}

-- the function stays
pub keeps_same : {ty : «Type»} (x : ℕ) (f g : Body) (s : SsaState) → g ≡ f → StepKeeps x ty f s g s
keeps_same {ty} x f g s same = subst (λ h. StepKeeps x ty f s h s) (sym same) (keeps_none x f s)

-- the function alone changes
pub keeps_grown : {ty : «Type»} (x : ℕ) (f g : Body) (s : SsaState) → HasMore f g → OnlyConstructs f g → MayPool ty f.tables g.tables → StepKeeps x ty f s g s
keeps_grown {ty} x f g s more constructs may = record {
  predecessors = λ b. refl;
  stay = λ y b v is. is;
  flags = λ b. refl;
  no_more = no_more-self s (length f.blocks);
  more = more;
  constructs = constructs;
  names = named-grows f g s more;
  once = counts_self s;
  pools = pools_kept ty f g s s may constructs (λ b. refl);
}

-- HOW A STEP ENDS -------------------------------------------------------------------------------------------------

same_error : {A : Type 0} {d e : BuildError} → ◌≡◌ {A = Result A BuildError} (Err d) (Err e) → d ≡ e
same_error same = cc

pub ends_ok : {TableIsFull : Body → Type 0} (g : Body) {A : Type 0} (a : A) → StepEnds TableIsFull g (Ok a)
ends_ok g {A = A} a = record {
  full = λ is. absurd (let no : ◌≡◌ {A = Result A BuildError} (Ok a) (Err Full) = is in cc);
  never_failed = λ is. absurd (let no : ◌≡◌ {A = Result A BuildError} (Ok a) (Err Failed) = is in cc);
}

-- for want of memory
pub ends_memory : {TableIsFull : Body → Type 0} (g : Body) {A B : Type 0} (e : BuildError) → ◌≡◌ {A = Result A BuildError} (Err e) (Err Memory)
    → StepEnds TableIsFull g {A = B} (Err e)
ends_memory g e memory = record {
  full = λ is. absurd (let no : ◌≡◌ {A = BuildError} Memory Full = sym (same_error memory) ∙ same_error is in cc);
  never_failed = λ is. absurd (let no : ◌≡◌ {A = BuildError} Memory Failed = sym (same_error memory) ∙ same_error is in cc);
}

-- an error is passed on
pub ends_as : {TableIsFull : Body → Type 0} (g : Body) {A B : Type 0} (e : BuildError) → StepEnds TableIsFull g {A = A} (Err e) → StepEnds TableIsFull g {A = B} (Err e)
ends_as g e ends = record {
  full = λ is. ends.full (ap (λ d. Err d) (same_error is));
  never_failed = λ is. ends.never_failed (ap (λ d. Err d) (same_error is));
}

pub ends_grown : {TableIsFull : Body → Type 0} (g : Body) {A B : Type 0} (e : BuildError) → (◌≡◌ {A = Result A BuildError} (Err e) (Err Full) → TableIsFull g)
    → ◌≢◌ {A = Result A BuildError} (Err e) (Err Failed) → StepEnds TableIsFull g {A = B} (Err e)
ends_grown g e full never = record {
  full = λ is. full (ap (λ d. Err d) (same_error is));
  never_failed = λ is. never (ap (λ d. Err d) (same_error is));
}

pub ends_zeros : {TableIsFull : Body → Type 0} (g : Body) {A : Type 0} (answer : Result A BuildError) → (answer ≡ Err Full → TableIsFull g) → answer ≢ Err Failed
    → StepEnds TableIsFull g answer
ends_zeros g answer full never = record { full = full; never_failed = never }

-- no parameter was made
pub ends_unmade : (ty : «Type») (f g : Body) {A B : Type 0} (e : BuildError) → g ≡ f → (◌≡◌ {A = Result A BuildError} (Err e) (Err Full) → length f.values ≡ 2 ^ 32 - 1)
    → ◌≢◌ {A = Result A BuildError} (Err e) (Err Failed) → StepEnds (UseIsFull ty) g {A = B} (Err e)
ends_unmade ty f g e same full never = ends_grown g e (λ is. inl (inl (ap (λ (h : Body). length h.values) same ∙ full is))) never

-- tables may be full for more than one reason
pub ends_wider : {TableIsFull MoreIsFull : Body → Type 0} (g : Body) {A : Type 0} (answer : Result A BuildError) → (TableIsFull g → MoreIsFull g)
    → StepEnds TableIsFull g answer → StepEnds MoreIsFull g answer
ends_wider g answer follows ends = record { full = λ is. follows (ends.full is); never_failed = ends.never_failed }

pub ends_typed : (ty same : «Type») (g : Body) {A : Type 0} (answer : Result A BuildError) → ty ≡ same → StepEnds (UseIsFull ty) g answer → StepEnds (UseIsFull same) g answer
ends_typed ty same g answer is ends = subst (λ (t : «Type»). StepEnds (UseIsFull t) g answer) is ends

-- A RECORD --------------------------------------------------------------------------------------------------------

pub stay_recorded : (s t : SsaState) (x b v : ℕ) → record_of s x b ≡ None → Records s t x b v → RecordsStay s t
stay_recorded s t x b v none recorded y c w is = recorded y c ∙ by (y == x && c == b) refl
  where
    by : (test : Bool) → (y == x && c == b) ≡ test → (if test then Some v else record_of s y c) ≡ Some w
    by false other = is
    by true here =
        let same : y ≡ x = grind (arith, common_steps, here) in
        let at : c ≡ b = grind (arith, common_steps, here) in
        absurd (none_some (sym none ∙ ap (λ z. record_of s z b) (sym same) ∙ ap (record_of s y) (sym at) ∙ is))

flags_waiting : (s t : SsaState) (x b v : ℕ) → is_yes (sealed_of s b) ≡ false
    → ((c : ℕ) → sealed_of t c ≡ (if c == b then No (pending_of (sealed_of s c) ++ record { variable = x; param = v } ∷ []) else sealed_of s c)) → SealedStays s t
flags_waiting s t x b v unsealed waiting c = ap is_yes (waiting c) ∙ by (c == b) refl
  where
    by : (test : Bool) → (c == b) ≡ test
        → is_yes (if test then No (pending_of (sealed_of s c) ++ record { variable = x; param = v } ∷ []) else sealed_of s c) ≡ is_yes (sealed_of s c)
    by false other = refl
    by true here = let same : c ≡ b = grind (arith, common_steps, here) in sym (ap (λ d. is_yes (sealed_of s d)) same ∙ unsealed)

pub known_below : (s t : SsaState) (b n : ℕ) → b < n → KnowsNoMore s t (b + 1) → KnowsNoMore s t n
known_below s t b n below (inl before) = inl before
known_below s t b n below (inr after) = inr (omega (arith, below, after))

pub known_same : (s t : SsaState) (n : ℕ) → t.blocks ≡ s.blocks → KnowsNoMore s t n
known_same s t n same = inl (omega (arith, ap length same))

-- a new parameter, which isn't recorded
pub keeps_unrecorded : (x : ℕ) (f g : Body) (s t : SsaState) (b : ℕ) (ty : «Type») → g ≡ with_param f b ty → SameRecords s t → SameBlocks s t → SameLookups s t
    → SamePredecessors s t → KnowsNoMore s t (length f.blocks) → StepKeeps x ty f s g t
keeps_unrecorded x f g s t b ty is records blocks lookups same known = record {
  predecessors = same;
  stay = λ y c v at. records y c ∙ at;
  flags = λ c. ap is_yes (blocks c);
  no_more = known;
  more = subst (λ h. HasMore f h) (sym is) (param_more f b ty);
  constructs = param_made f g b ty is;
  names = param-named-unrecorded f g s t b ty is same records blocks;
  once = once_kept s t (none_lost s t records) lookups blocks;
  pools = pools_param ty f g s t b is (param_made f g b ty is) blocks;
}

-- a new parameter is recorded, and its look-up may begin where the block is sealed
pub keeps_recorded : (x : ℕ) (f g : Body) (s t : SsaState) (b : ℕ) (ty : «Type») → b < length f.blocks → record_of s x b ≡ None → g ≡ with_param f b ty
    → Records s t x b (length f.values) → SameBlocks s t → SamePredecessors s t → KnowsNoMore s t (length f.blocks) → CountsOnce s t → StepKeeps x ty f s g t
keeps_recorded x f g s t b ty there none is recorded blocks same known once = record {
  predecessors = same;
  stay = stay_recorded s t x b (length f.values) none recorded;
  flags = λ c. ap is_yes (blocks c);
  no_more = known;
  more = subst (λ h. HasMore f h) (sym is) (param_more f b ty);
  constructs = param_made f g b ty is;
  names = param-named f g s t x b ty is recorded same blocks;
  once = once;
  pools = pools_param ty f g s t b is (param_made f g b ty is) blocks;
}

-- a new parameter is recorded and waits
pub keeps_waiting : (x : ℕ) (f g : Body) (s t : SsaState) (b : ℕ) (ty : «Type») → b < length f.blocks → record_of s x b ≡ None → is_yes (sealed_of s b) ≡ false
    → g ≡ with_param f b ty → Records s t x b (length f.values) → SameLookups s t
    → ((c : ℕ) → sealed_of t c ≡ (if c == b then No (pending_of (sealed_of s c) ++ record { variable = x; param = length f.values } ∷ []) else sealed_of s c))
    → SamePredecessors s t → KnowsNoMore s t (b + 1) → StepKeeps x ty f s g t
keeps_waiting x f g s t b ty there none unsealed is recorded lookups waiting same known = record {
  predecessors = same;
  stay = stay_recorded s t x b (length f.values) none recorded;
  flags = flags_waiting s t x b (length f.values) unsealed waiting;
  no_more = known_below s t b (length f.blocks) there known;
  more = subst (λ h. HasMore f h) (sym is) (param_more f b ty);
  constructs = param_made f g b ty is;
  names = param-named-waits f g s t x b ty is recorded same waiting;
  once = once_waits s t x b (length f.values) none recorded lookups waiting unsealed;
  pools = pools_waits x ty f g s t b is (param_made f g b ty is) waiting;
}

-- AFTER A PARAMETER WAS MADE --------------------------------------------------------------------------------------

-- the records and the blocks stay, and no look-up is counted
pub keeps_kept : {ty : «Type»} (x : ℕ) (f : Body) (s t : SsaState) → SameRecords s t → t.blocks ≡ s.blocks → SameLookups s t → StepKeeps x ty f s f t
keeps_kept {ty} x f s t records blocks lookups =
    let sealed : SameBlocks s t = λ b. ap (λ known. sealed_at known b) blocks in
    let same : SamePredecessors s t = λ b. ap (λ known. predecessors_at known b) blocks in
    record {
      predecessors = same;
      stay = λ y c v at. records y c ∙ at;
      flags = λ c. ap is_yes (sealed c);
      no_more = known_same s t (length f.blocks) blocks;
      more = has_more f;
      constructs = constructs_none f;
      names = named-same f f s t (has_more f) same records sealed;
      once = once_kept s t (none_lost s t records) lookups sealed;
      pools = pools_kept ty f f s t (inl refl) (constructs_none f) sealed;
    }

-- nothing waits after all
pub keeps_not_waiting : {ty : «Type»} (x : ℕ) (f g : Body) (s t u : SsaState) (b : ℕ) → b < length f.blocks → StepKeeps x ty f s g t → u.records ≡ t.records → SameBlocks t u
    → SamePredecessors t u → KnowsNoMore t u (b + 1) → StepKeeps x ty f s g u
keeps_not_waiting {ty} x f g s t u b there first records blocks same known =
    let kept : SameRecords t u = λ y c. ap (λ rows. record_at rows y c) records in
    keeps_then x f s g t g u first
    (record {
      predecessors = same;
      stay = λ y c v at. kept y c ∙ at;
      flags = λ c. ap is_yes (blocks c);
      no_more = known_below t u b (length g.blocks) (omega (arith, there, (first.more).blocks)) known;
      more = has_more g;
      constructs = constructs_none g;
      names = named-same g g t u (has_more g) same kept blocks;
      once = once_kept t u (none_lost t u kept) (λ y c. ap (λ rows. lookups_at rows y c) records) blocks;
      pools = pools_kept ty g g t u (inl refl) (constructs_none g) blocks;
    })

-- it waits
pub keeps_waits : (x : ℕ) (f g : Body) (s t u : SsaState) (b v : ℕ) (ty : «Type») → b < length f.blocks → record_of s x b ≡ None → is_yes (sealed_of s b) ≡ false
    → v ≡ length f.values → g ≡ with_param f b ty → Records s t x b (length f.values) → t.blocks ≡ s.blocks → SameLookups s t → u.records ≡ t.records
    → ((c : ℕ) → sealed_of u c ≡ (if c == b then No (pending_of (sealed_of t c) ++ record { variable = x; param = v } ∷ []) else sealed_of t c))
    → SamePredecessors t u → KnowsNoMore t u (b + 1) → StepKeeps x ty f s g u
keeps_waits x f g s t u b v ty there none unsealed number made recorded blocks lookups records waiting same known =
    keeps_waiting x f g s u b ty there none unsealed made
    (λ y c. ap (λ rows. record_at rows y c) records ∙ recorded y c) (λ y c. ap (λ rows. lookups_at rows y c) records ∙ lookups y c)
    (waiting_from s t u x b v (length f.values) blocks number waiting) (λ c. same c ∙ ap (λ all. predecessors_at all c) blocks)
    (by known)
  where
    by : KnowsNoMore t u (b + 1) → KnowsNoMore s u (b + 1)
    by (inl before) = inl (omega (arith, before, ap length blocks))
    by (inr after) = inr after

-- its look-up may begin
pub keeps_begun : (x : ℕ) (f g : Body) (s t u : SsaState) (b : ℕ) (ty : «Type») → b < length f.blocks → record_of s x b ≡ None → is_yes (sealed_of s b) ≡ true
    → g ≡ with_param f b ty → Records s t x b (length f.values) → t.blocks ≡ s.blocks → SameLookups s t → SameRecords t u → u.blocks ≡ t.blocks
    → SameLookups t u ⊎ CountsLookup t u x b → StepKeeps x ty f s g u
keeps_begun x f g s t u b ty there none sealed made recorded blocks lookups records still counts =
    let all : u.blocks ≡ s.blocks = still ∙ blocks in
    let written : Records s u x b (length f.values) = λ y c. records y c ∙ recorded y c in
    let same_sealed : SameBlocks s u = λ c. ap (λ known. sealed_at known c) all in
    keeps_recorded x f g s u b ty there none made written same_sealed (λ c. ap (λ known. predecessors_at known c) all) (known_same s u (length f.blocks) all)
    (once_begins s u x b (length f.values) none sealed written same_sealed (by counts))
  where
    by : SameLookups t u ⊎ CountsLookup t u x b → SameLookups s u ⊎ CountsLookup s u x b
    by (inl same) = inl (λ y c. same y c ∙ lookups y c)
    by (inr counted) = inr (counted_from s t u x b lookups counted)

-- what is had of a parameter that waits, or whose look-up began
pub got_waiting : (x : ℕ) (ty : «Type») (b v : ℕ) (f g : Body) (s t u : SsaState) (l l' : LookUpState) → record_of s x b ≡ None → is_yes (sealed_of s b) ≡ false
    → v ≡ length f.values → g ≡ with_param f b ty → Records s t x b (length f.values) → t.tracking ≡ with_binding s.tracking x (length f.values) → t.blocks ≡ s.blocks → SameLookups s t
    → u.records ≡ t.records → u.tracking ≡ t.tracking
    → ((c : ℕ) → sealed_of u c ≡ (if c == b then No (pending_of (sealed_of t c) ++ record { variable = x; param = v } ∷ []) else sealed_of t c))
    → SamePredecessors t u → l' ≡ record l { results = v ∷ l.results } → Got x ty b v (stage f s l) (stage g u l')
got_waiting x ty b v f g s t u l l' none unsealed number made recorded bound blocks lookups records tracking waiting same pushed =
    added x ty b f g s u l l' (Ok v) none number made (λ y c. ap (λ rows. record_at rows y c) records ∙ recorded y c) (tracking ∙ bound)
    (λ c. same c ∙ ap (λ all. predecessors_at all c) blocks)
    (λ _. (
      waiting_from s t u x b v (length f.values) blocks number waiting,
      λ y c. ap (λ rows. lookups_at rows y c) records ∙ lookups y c,
      pushed ∙ ap (λ w. let m : LookUpState = record l { results = w ∷ l.results } in m) number,
    ))
    (λ sealed. absurd (no_yes (sym unsealed ∙ sealed)))

pub got_begun : (x : ℕ) (ty : «Type») (b v : ℕ) (f g : Body) (s t u : SsaState) (l l' : LookUpState) → record_of s x b ≡ None → is_yes (sealed_of s b) ≡ true
    → v ≡ length f.values → g ≡ with_param f b ty → Records s t x b (length f.values) → t.tracking ≡ with_binding s.tracking x (length f.values) → t.blocks ≡ s.blocks → SameLookups s t
    → SameRecords t u → u.blocks ≡ t.blocks → u.tracking ≡ t.tracking
    → CountsLookup t u x b → l' ≡ record l { calls = calls_for (predecessors_of t b) v b ++ l.calls } → Got x ty b v (stage f s l) (stage g u l')
got_begun x ty b v f g s t u l l' none sealed number made recorded bound blocks lookups records still tracking counted begun =
    let all : u.blocks ≡ s.blocks = still ∙ blocks in
    added x ty b f g s u l l' (Ok v) none number made (λ y c. records y c ∙ recorded y c) (tracking ∙ bound) (λ c. ap (λ known. predecessors_at known c) all)
    (λ unsealed. absurd (no_yes (sym unsealed ∙ sealed)))
    (λ _. (
      λ c. ap (λ known. sealed_at known c) all,
      counted_from s t u x b lookups counted,
      begun ∙ ap (λ known. let m : LookUpState = record l { calls = calls_for (predecessors_at known b) v b ++ l.calls } in m) blocks
          ∙ ap (λ w. let m : LookUpState = record l { calls = calls_for (predecessors_of s b) w b ++ l.calls } in m) number,
    ))
