-- Which constants steps pool, one after another: pooling a zero's constant again changes nothing.
use Rattle.std.proofs.Common.{◌≡◌, ℕ, ◌<◌, ◌+◌, ◌==◌, Bool, true, false, List, [], ◌∷◌, ◌++◌, length, refl, ap, arith, sym, ◌∙◌, subst, ◌⊎◌, inl, inr}
use Rattle.std.specs.Prelude.{Option, Some, None, Contains, is_some, replicate, if◌then◌else◌}
use Rattle.clif_types.specs.declared.types.«Type».{«Type»}
use Rattle.clif_tables.specs.Constants.{number_of, with_constant}
use Rattle.clif_tables.specs.Lists.{TableLists}
use Rattle.clif_ir.specs.Body.{Body, value_at}
use Rattle.clif_ir.specs.Changes.{with_param}
use Rattle.clif_nodes.specs.declared.nodes.ValueNode.{ValueNode}
use Rattle.clif_records.specs.declared.tables.Pending.{Pending}
use Rattle.clif_records.specs.Tables.{No, pending_of}
use Rattle.clif_ssa.specs.Constructs.{OnlyConstructs}
use Rattle.clif_ssa.specs.Limits.{ConstructionIsFull}
use Rattle.clif_ssa.specs.Pools.{MayPool, MayPoolAll, SealingIsFull, UseIsFull}
use Rattle.clif_ssa.specs.Ssa.{SsaState, sealed_of, SameBlocks}
use Rattle.clif_ssa.specs.Steps.{StepPools}
use Rattle.clif_ssa.specs.Zeros.{with_zeros, zero_size}
use Rattle.clif_ssa.proofs.Naming.{contains_last}
use Rattle.clif_ssa.proofs.Ordering.{contains_cons, contains_first, contains_more, none_contained}
use Rattle.clif_ssa.proofs.Parameters.{param_count}
use Rattle.clif_ssa.proofs.Pooled.{found_behind}
use Rattle.clif_ssa.proofs.ZeroSteps.{param_type}

-- TABLES ----------------------------------------------------------------------------------------------------------

constant_again : (constants : List (List ℕ)) (bytes : List ℕ) → with_constant (with_constant constants bytes) bytes ≡ with_constant constants bytes
constant_again constants bytes = by (number_of constants bytes) refl
  where
    by : (o : Option ℕ) → number_of constants bytes ≡ o → with_constant (with_constant constants bytes) bytes ≡ with_constant constants bytes
    by (Some k) is = ap (λ (all : List (List ℕ)). with_constant all bytes) (ap (λ (n : Option ℕ). if is_some n then constants else constants ++ bytes ∷ []) is)
    by None is =
        let pooled : List (List ℕ) = constants ++ bytes ∷ [] in
        let same : with_constant constants bytes ≡ pooled = ap (λ (n : Option ℕ). if is_some n then constants else pooled) is in
        let found : with_constant pooled bytes ≡ pooled = ap (λ (n : Option ℕ). if is_some n then pooled else pooled ++ bytes ∷ []) (found_behind constants bytes is) in
        ap (λ (all : List (List ℕ)). with_constant all bytes) same ∙ found ∙ sym same

zeros_again : (t : TableLists) (size : Option ℕ) → with_zeros (with_zeros t size) size ≡ with_zeros t size
zeros_again t None = refl
zeros_again t (Some size) = ap (λ (all : List (List ℕ)). let u : TableLists = record t { constants = all } in u) (constant_again t.constants (replicate size 0))

pub pool_then : (ty : «Type») (t u v : TableLists) → MayPool ty t u → MayPool ty u v → MayPool ty t v
pool_then ty t u v (inl same) second = subst (λ (w : TableLists). MayPool ty w v) same second
pool_then ty t u v (inr pooled) (inl same) = inr (same ∙ pooled)
pool_then ty t u v (inr pooled) (inr again) =
    inr (again ∙ ap (λ (w : TableLists). with_zeros w (zero_size ty)) pooled ∙ zeros_again t (zero_size ty))

-- the tables stay after that
pub pool_same : (ty : «Type») (t u v : TableLists) → MayPool ty t u → v ≡ u → MayPool ty t v
pool_same ty t u v may same = pool_then ty t u v may (inl same)

pub pool_one : (ty : «Type») (t u : TableLists) → MayPoolAll (ty ∷ []) t u → MayPool ty t u
pool_one ty t u all = subst (MayPool ty t) (sym all.2) all.1

pub one_pool : (ty : «Type») (t u : TableLists) → MayPool ty t u → MayPoolAll (ty ∷ []) t u
one_pool ty t u may = (u, may, refl)

pub pool_none : (types : List «Type») (t : TableLists) → MayPoolAll types t t
pool_none [] t = refl
pool_none (ty ∷ types) t = (t, inl refl, pool_none types t)

pub pool_append : (types more : List «Type») (t u v : TableLists) → MayPoolAll types t u → MayPoolAll more u v → MayPoolAll (types ++ more) t v
pool_append [] more t u v same second = subst (λ (w : TableLists). MayPoolAll more w v) same second
pool_append (ty ∷ types) more t u v first second = (first.0, first.1, pool_append types more first.0 u v first.2 second)

-- STEPS -----------------------------------------------------------------------------------------------------------

-- the construction keeps the type of each value
pub types_kept : (f g : Body) → OnlyConstructs f g → (v : ℕ) → v < length f.values → (v < length g.values) × ((value_at g v).ty ≡ (value_at f v).ty)
types_kept f g made v there = (
  omega (arith, there, made.values),
  elim (made.same_values v there) [ inl same ↦ ap (λ (n : ValueNode). n.ty) same | inr names ↦ ap (λ (n : ValueNode). n.ty) names.3 ],
)

pub pools_none : (types : List «Type») (f : Body) (s : SsaState) → StepPools types f s f s
pools_none types f s = record { tables = pool_none types f.tables; typed = λ v there. (there, refl); waiting = λ b p here. inl here }

-- what waits stays as it was
pub pools_kept : (ty : «Type») (f g : Body) (s t : SsaState) → MayPool ty f.tables g.tables → OnlyConstructs f g → SameBlocks s t → StepPools (ty ∷ []) f s g t
pools_kept ty f g s t may made blocks = record {
  tables = one_pool ty f.tables g.tables may;
  typed = types_kept f g made;
  waiting = λ b p here. inl (subst (λ entry. Contains (pending_of entry) p) (blocks b) here);
}

-- a new parameter, whatever waits, if nothing else is new there
pub pools_param : (ty : «Type») (f g : Body) (s t : SsaState) (b : ℕ) → g ≡ with_param f b ty → OnlyConstructs f g → SameBlocks s t → StepPools (ty ∷ []) f s g t
pools_param ty f g s t b is made blocks = pools_kept ty f g s t (inl (ap (λ (h : Body). h.tables) is)) made blocks

-- it waits
pub pools_waits : (x : ℕ) (ty : «Type») (f g : Body) (s t : SsaState) (b : ℕ) → g ≡ with_param f b ty → OnlyConstructs f g
    → ((c : ℕ) → sealed_of t c ≡ (if c == b then No (pending_of (sealed_of s c) ++ record { variable = x; param = length f.values } ∷ []) else sealed_of s c))
    → StepPools (ty ∷ []) f s g t
pools_waits x ty f g s t b is made waits = record {
  tables = one_pool ty f.tables g.tables (inl (ap (λ (h : Body). h.tables) is));
  typed = types_kept f g made;
  waiting = λ c p here. by c p (c == b) (subst (λ entry. Contains (pending_of entry) p) (waits c) here);
}
  where
    new_there : length f.values < length g.values
    new_there = let count : length g.values ≡ length f.values + 1 = ap (λ (h : Body). length h.values) is ∙ param_count f b ty in omega (arith, count)

    has_type : (value_at g (length f.values)).ty ≡ ty
    has_type = ap (λ (h : Body). (value_at h (length f.values)).ty) is ∙ param_type f b ty

    new_waits : (p : Pending) → length f.values ≡ p.param → (p.param < length g.values) × Contains (ty ∷ []) (value_at g p.param).ty
    new_waits p at = (
      omega (arith, at, new_there),
      subst (Contains (ty ∷ [])) (sym has_type ∙ ap (λ v. (value_at g v).ty) at) (contains_first ty []),
    )

    by : (c : ℕ) (p : Pending) (test : Bool)
        → Contains (pending_of (if test then No (pending_of (sealed_of s c) ++ record { variable = x; param = length f.values } ∷ []) else sealed_of s c)) p
        → Contains (pending_of (sealed_of s c)) p ⊎ ((p.param < length g.values) × Contains (ty ∷ []) (value_at g p.param).ty)
    by c p false here = inl here
    by c p true here =
        elim (contains_last (pending_of (sealed_of s c)) (record { variable = x; param = length f.values }) p here) [
          | inl old ↦ inl old
          | inr last ↦ inr (new_waits p (ap (λ (q : Pending). q.param) last))
        ]

new_type : (f g : Body) (b v : ℕ) (ty : «Type») → g ≡ with_param f b ty → v ≡ length f.values → (value_at g v).ty ≡ ty
new_type f g b v ty is at = ap (λ (h : Body). (value_at h v).ty) is ∙ ap (λ w. (value_at (with_param f b ty) w).ty) at ∙ param_type f b ty

-- the zero of a new parameter has the parameter's type
pub zero_pools : (f g h : Body) (b v : ℕ) (ty : «Type») → g ≡ with_param f b ty → v ≡ length f.values → MayPool (value_at g v).ty g.tables h.tables
    → MayPool ty g.tables h.tables
zero_pools f g h b v ty is at may = subst (λ (t : «Type»). MayPool t g.tables h.tables) (new_type f g b v ty is at) may

pub zero_full : (f g h : Body) (b v : ℕ) (ty : «Type») → g ≡ with_param f b ty → v ≡ length f.values → UseIsFull (value_at g v).ty h → UseIsFull ty h
zero_full f g h b v ty is at full = subst (λ (t : «Type»). UseIsFull t h) (new_type f g b v ty is at) full

-- one after another, with tables that are known to follow
steps_pool : (xs ys zs : List «Type») (f : Body) (s : SsaState) (g : Body) (t : SsaState) (h : Body) (u : SsaState)
    → ((ty : «Type») → Contains xs ty → Contains zs ty) → ((ty : «Type») → Contains ys ty → Contains zs ty) → MayPoolAll zs f.tables h.tables
    → StepPools xs f s g t → StepPools ys g t h u → StepPools zs f s h u
steps_pool xs ys zs f s g t h u first_in second_in tables first second = record {
  tables = tables;
  typed = λ v there.
      let once = first.typed v there in
      let twice = second.typed v once.0 in
      (twice.0, twice.1 ∙ once.1);
  waiting = λ b p here.
      elim (second.waiting b p here) [
        | inl old ↦
            elim (first.waiting b p old) [
              | inl older ↦ inl older
              | inr new ↦ let kept = second.typed p.param new.0 in inr (kept.0, subst (Contains zs) (sym kept.1) (first_in (value_at g p.param).ty new.1))
            ]
        | inr new ↦ inr (new.0, second_in (value_at h p.param).ty new.1)
      ];
}

-- for the same type
pub pools_again : (ty : «Type») (f : Body) (s : SsaState) (g : Body) (t : SsaState) (h : Body) (u : SsaState) → StepPools (ty ∷ []) f s g t → StepPools (ty ∷ []) g t h u
    → StepPools (ty ∷ []) f s h u
pools_again ty f s g t h u first second =
    steps_pool (ty ∷ []) (ty ∷ []) (ty ∷ []) f s g t h u (λ x here. here) (λ x here. here)
    (one_pool ty f.tables h.tables (pool_then ty f.tables g.tables h.tables (pool_one ty f.tables g.tables first.tables) (pool_one ty g.tables h.tables second.tables)))
    first second

-- for a type, and then for others
pub pools_next : (ty : «Type») (types : List «Type») (f : Body) (s : SsaState) (g : Body) (t : SsaState) (h : Body) (u : SsaState) → StepPools (ty ∷ []) f s g t
    → StepPools types g t h u → StepPools (ty ∷ types) f s h u
pools_next ty types f s g t h u first second =
    steps_pool (ty ∷ []) types (ty ∷ types) f s g t h u (only_first ty types) (λ x here. contains_more ty types x here)
    (g.tables, pool_one ty f.tables g.tables first.tables, second.tables) first second
  where
    only_first : (y : «Type») (ys : List «Type») (x : «Type») → Contains (y ∷ []) x → Contains (y ∷ ys) x
    only_first y ys x here = elim (contains_cons y [] x here) [ inl is ↦ subst (Contains (y ∷ ys)) is (contains_first y ys) | inr none ↦ absurd (none_contained x none) ]

-- WHAT IS FULL ----------------------------------------------------------------------------------------------------

pub use_full : (ty : «Type») (f : Body) → UseIsFull ty f → ConstructionIsFull f
use_full ty f (inl full) = inl full
use_full ty f (inr lacks) = inr lacks.3

pub sealing_full : (IsWaiting : «Type» → Type 0) (f : Body) → SealingIsFull IsWaiting f → ConstructionIsFull f
sealing_full IsWaiting f (inl full) = inl full
sealing_full IsWaiting f (inr lacks) = inr lacks.2.3

-- a use's table is one of a sealing's
pub sealing_from : (IsWaiting : «Type» → Type 0) (ty : «Type») (f : Body) → IsWaiting ty → UseIsFull ty f → SealingIsFull IsWaiting f
sealing_from IsWaiting ty f waits (inl full) = inl full
sealing_from IsWaiting ty f waits (inr lacks) = inr (ty, waits, lacks)
