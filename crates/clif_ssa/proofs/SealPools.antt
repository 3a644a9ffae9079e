-- Which constants a sealing pools: those of the types of the parameters that wait, in order.
use Rattle.std.proofs.Common.{◌≡◌, ℕ, ◌<◌, ◌+◌, ◌==◌, Bool, true, false, List, [], ◌∷◌, ◌++◌, length, drop, refl, sym, subst, inl, inr}
use Rattle.std.specs.Prelude.{Contains, if◌then◌else◌}
use Rattle.std.specs.List.{AllByRecursion}
use Rattle.clif_types.specs.declared.types.«Type».{«Type»}
use Rattle.clif_tables.specs.Lists.{TableLists}
use Rattle.clif_ir.specs.Body.{Body, value_at}
use Rattle.clif_records.specs.declared.tables.Pending.{Pending}
use Rattle.clif_records.specs.Tables.{Sealed, Yes, pending_of, sealed_at}
use Rattle.clif_ssa.specs.Constructs.{OnlyConstructs}
use Rattle.clif_ssa.specs.Pools.{types_of, MayPool, MayPoolAll, MayPoolWaiting, SealingIsFull, UseIsFull, WaitsWithType}
use Rattle.clif_ssa.specs.Ssa.{SsaState, sealed_of, NamesExist, SameBlocks, Seals}
use Rattle.clif_ssa.specs.Steps.{StepPools}
use Rattle.clif_ssa.proofs.Constructing.{constructs_none}
use Rattle.clif_ssa.proofs.Ordering.{contains_cons, contains_first, contains_more, none_contained}
use Rattle.clif_ssa.proofs.Pooled.{all_append}
use Rattle.clif_ssa.proofs.Pooling.{pool_append, pool_none, pools_next, sealing_from, types_kept}

-- TYPES -----------------------------------------------------------------------------------------------------------

pub type_contained : (f : Body) (waiting : List Pending) (p : Pending) → Contains waiting p → Contains (types_of f waiting) (value_at f p.param).ty
type_contained f [] p here = absurd (none_contained p here)
type_contained f (q ∷ waiting) p here =
    elim (contains_cons q waiting p here) [
      | inl is ↦
          subst (λ (r : Pending). Contains (types_of f (q ∷ waiting)) (value_at f r.param).ty) is (contains_first (value_at f q.param).ty (types_of f waiting))
      | inr later ↦ contains_more (value_at f q.param).ty (types_of f waiting) (value_at f p.param).ty (type_contained f waiting p later)
    ]

all_types : (Is : «Type» → Type 0) (f : Body) (waiting : List Pending) → ((p : Pending) → Contains waiting p → Is (value_at f p.param).ty) → AllByRecursion Is (types_of f waiting)
all_types Is f [] each = tt
all_types Is f (q ∷ waiting) each = (each q (contains_first q waiting), all_types Is f waiting (λ p here. each p (contains_more q waiting p here)))

all_contained : (Is : «Type» → Type 0) (types : List «Type») (ty : «Type») → AllByRecursion Is types → Contains types ty → Is ty
all_contained Is [] ty all here = absurd (none_contained ty here)
all_contained Is (t ∷ types) ty all here =
    elim (contains_cons t types ty here) [ inl is ↦ subst Is is all.0 | inr later ↦ all_contained Is types ty all.1 later ]

-- THE PARAMETERS OF A BLOCK, ONE AFTER ANOTHER --------------------------------------------------------------------

-- the parameter that is completed next has the type that it had at first
pub same_type : (f g : Body) (waiting : List Pending) (p : Pending) → OnlyConstructs f g → ((q : Pending) → Contains waiting q → q.param < length f.values) → Contains waiting p
    → (value_at g p.param).ty ≡ (value_at f p.param).ty
same_type f g waiting p made exist here = (types_kept f g made p.param (exist p here)).1

-- one more of the parameters is completed
pub pools_further : (i : ℕ) (waiting : List Pending) (p : Pending) (first f : Body) (s : SsaState) (g : Body) (t : SsaState) (h : Body) (u : SsaState)
    → drop i waiting ≡ p ∷ drop (i + 1) waiting → (value_at f p.param).ty ≡ (value_at first p.param).ty → StepPools ((value_at f p.param).ty ∷ []) f s g t
    → StepPools (types_of first (drop (i + 1) waiting)) g t h u → StepPools (types_of first (drop i waiting)) f s h u
pools_further i waiting p first f s g t h u is typed now rest =
    subst (λ (ps : List Pending). StepPools (types_of first ps) f s h u) (sym is)
    (pools_next (value_at first p.param).ty (types_of first (drop (i + 1) waiting)) f s g t h u (subst (λ (ty : «Type»). StepPools (ty ∷ []) f s g t) typed now) rest)

pub pool_further : (i : ℕ) (waiting : List Pending) (p : Pending) (first f : Body) (t u v : TableLists) → drop i waiting ≡ p ∷ drop (i + 1) waiting
    → (value_at f p.param).ty ≡ (value_at first p.param).ty → MayPool (value_at f p.param).ty t u → MayPoolAll (types_of first (drop (i + 1) waiting)) u v
    → MayPoolAll (types_of first (drop i waiting)) t v
pool_further i waiting p first f t u v is typed now rest =
    subst (λ (ps : List Pending). MayPoolAll (types_of first ps) t v) (sym is) (u, subst (λ (ty : «Type»). MayPool ty t u) typed now, rest)

-- a table is full for the zero of one of them
pub full_further : (waiting : List Pending) (p : Pending) (first f g : Body) → Contains waiting p → (value_at f p.param).ty ≡ (value_at first p.param).ty
    → UseIsFull (value_at f p.param).ty g → SealingIsFull (Contains (types_of first waiting)) g
full_further waiting p first f g here typed full =
    sealing_from (Contains (types_of first waiting)) (value_at f p.param).ty g
    (subst (Contains (types_of first waiting)) (sym typed) (type_contained first waiting p here)) full

-- A BLOCK IS SEALED -----------------------------------------------------------------------------------------------

-- nothing is sealed
pub pools_refused : (types : List «Type») (f : Body) (s t : SsaState) → SameBlocks s t → StepPools types f s f t
pools_refused types f s t blocks = record {
  tables = pool_none types f.tables;
  typed = λ v there. (there, refl);
  waiting = λ b p here. inl (subst (λ (entry : Sealed). Contains (pending_of entry) p) (blocks b) here);
}

-- what waits still once the block is sealed waited before
waited : (s t : SsaState) (b c : ℕ) (p : Pending) → Seals s t b → Contains (pending_of (sealed_of t c)) p → Contains (pending_of (sealed_of s c)) p
waited s t b c p seals here = by (c == b) (subst (λ (entry : Sealed). Contains (pending_of entry) p) (seals c) here)
  where
    by : (test : Bool) → Contains (pending_of (if test then Yes else sealed_of s c)) p → Contains (pending_of (sealed_of s c)) p
    by true none = absurd (none_contained p none)
    by false old = old

pub pools_local : (types : List «Type») (f g : Body) (s t u : SsaState) (b : ℕ) → MayPoolAll types f.tables g.tables → OnlyConstructs f g → Seals s t b → u.blocks ≡ t.blocks
    → StepPools types f s g u
pools_local types f g s t u b tables made seals blocks = record {
  tables = tables;
  typed = types_kept f g made;
  waiting = λ c p here. inl (waited s t b c p seals (subst (λ known. Contains (pending_of (sealed_at known c)) p) blocks here));
}

pub pools_nothing : (types : List «Type») (f : Body) (s t : SsaState) (b : ℕ) → Seals s t b → StepPools types f s f t
pools_nothing types f s t b seals = pools_local types f f s t t b (pool_none types f.tables) (constructs_none f) seals refl

pub pools_sealed : (types : List «Type») (f g : Body) (s t u : SsaState) (b : ℕ) → Seals s t b → StepPools types f t g u → StepPools types f s g u
pools_sealed types f g s t u b seals pools = record {
  tables = pools.tables;
  typed = pools.typed;
  waiting = λ c p here. elim (pools.waiting c p here) [ inl old ↦ inl (waited s t b c p seals old) | inr new ↦ inr new ];
}

-- the parameters that wait in the block exist
pub waiting_exist : (f : Body) (s : SsaState) (b : ℕ) (waiting : List Pending) → waiting ≡ pending_of (sealed_of s b) → NamesExist f s → (p : Pending) → Contains waiting p
    → p.param < length f.values
waiting_exist f s b waiting same named p here = named.waiting b p (subst (λ (ps : List Pending). Contains ps p) same here)

pub block_pools : (f g : Body) (s : SsaState) (u : SsaState) (b : ℕ) (waiting : List Pending) → waiting ≡ pending_of (sealed_of s b) → StepPools (types_of f waiting) f s g u
    → StepPools (types_of f (pending_of (sealed_of s b))) f s g u
block_pools f g s u b waiting same pools = subst (λ (ps : List Pending). StepPools (types_of f ps) f s g u) same pools

pub block_full : (f g : Body) (s : SsaState) (b : ℕ) (waiting : List Pending) → waiting ≡ pending_of (sealed_of s b) → SealingIsFull (Contains (types_of f waiting)) g
    → SealingIsFull (Contains (types_of f (pending_of (sealed_of s b)))) g
block_full f g s b waiting same full = subst (λ (ps : List Pending). SealingIsFull (Contains (types_of f ps)) g) same full

-- BLOCK AFTER BLOCK -----------------------------------------------------------------------------------------------

-- what waits anywhere has the type of a parameter that waited at first
abbrev pub WaitsAsFirst : Body → SsaState → Body → SsaState → Type 0
WaitsAsFirst first r f s =
    (b : ℕ) (p : Pending) → b < length first.blocks → Contains (pending_of (sealed_of s b)) p → WaitsWithType first r (value_at f p.param).ty

pub first_waits : (f : Body) (s : SsaState) → WaitsAsFirst f s f s
first_waits f s b p there here = (b, there, type_contained f (pending_of (sealed_of s b)) p here)

first_types : (first : Body) (r : SsaState) (f : Body) (s : SsaState) (b : ℕ) → WaitsAsFirst first r f s → b < length first.blocks
    → AllByRecursion (WaitsWithType first r) (types_of f (pending_of (sealed_of s b)))
first_types first r f s b waits there = all_types (WaitsWithType first r) f (pending_of (sealed_of s b)) (λ p here. waits b p there here)

pub next_waits : (first : Body) (r : SsaState) (f : Body) (s : SsaState) (g : Body) (t : SsaState) (b : ℕ) → b < length first.blocks → NamesExist f s
    → WaitsAsFirst first r f s → StepPools (types_of f (pending_of (sealed_of s b))) f s g t → WaitsAsFirst first r g t
next_waits first r f s g t b there named waits pools c p inside here =
    elim (pools.waiting c p here) [
      | inl old ↦
          subst (WaitsWithType first r) (sym (pools.typed p.param (named.waiting c p old)).1) (waits c p inside old)
      | inr new ↦
          all_contained (WaitsWithType first r) (types_of f (pending_of (sealed_of s b))) (value_at g p.param).ty (first_types first r f s b waits there) new.1
    ]

pub first_pools : (f : Body) (s : SsaState) → MayPoolWaiting f s f.tables
first_pools f s = ([], tt, refl)

pub next_pools : (first : Body) (r : SsaState) (f : Body) (s : SsaState) (g : Body) (t : SsaState) (b : ℕ) → b < length first.blocks → WaitsAsFirst first r f s
    → MayPoolWaiting first r f.tables → StepPools (types_of f (pending_of (sealed_of s b))) f s g t → MayPoolWaiting first r g.tables
next_pools first r f s g t b there waits before pools =
    let now : List «Type» = types_of f (pending_of (sealed_of s b)) in (
      before.0 ++ now,
      all_append (WaitsWithType first r) before.0 now before.1 (first_types first r f s b waits there),
      pool_append before.0 now first.tables f.tables g.tables before.2 pools.tables,
    )

pub next_full : (first : Body) (r : SsaState) (f : Body) (s : SsaState) (g : Body) (b : ℕ) → b < length first.blocks → WaitsAsFirst first r f s
    → SealingIsFull (Contains (types_of f (pending_of (sealed_of s b)))) g → SealingIsFull (WaitsWithType first r) g
next_full first r f s g b there waits (inl full) = inl full
next_full first r f s g b there waits (inr lacks) =
    inr (
      lacks.0,
      all_contained (WaitsWithType first r) (types_of f (pending_of (sealed_of s b))) lacks.0 (first_types first r f s b waits there) lacks.1,
      lacks.2,
    )
