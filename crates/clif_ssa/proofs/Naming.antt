-- What a state names goes on existing.
use Rattle.std.proofs.Common.{◌≡◌, ℕ, zero, suc, ◌<◌, ◌==◌, ◌&&◌, Bool, true, false, List, [], ◌∷◌, ◌++◌, length, refl, ap, arith, sym, ◌∙◌, subst, ◌⊎◌, inl, inr}
use Rattle.std.specs.Prelude.{Option, Some, Contains, if◌then◌else◌}
use Rattle.std.proofs.lemmas.Grind.{common_steps}
use Rattle.clif_types.specs.declared.types.«Type».{«Type»}
use Rattle.clif_ir.specs.Body.{Body}
use Rattle.clif_ir.specs.Changes.{with_param}
use Rattle.clif_records.specs.declared.tables.Pending.{Pending}
use Rattle.clif_records.specs.Tables.{No, pending_of}
use Rattle.clif_ssa.specs.Ssa.{SsaState, record_of, sealed_of, NamesExist, HasMore, Records, SameBlocks, SamePredecessors}

-- the function has more, records are old ones or of a value that exists, and so are parameters that wait
pub named-more : (f g : Body) (s t : SsaState) → HasMore f g → SamePredecessors s t
    → ((x b v : ℕ) → record_of t x b ≡ Some v → (record_of s x b ≡ Some v) ⊎ (v < length g.values))
    → ((b : ℕ) (p : Pending) → Contains (pending_of (sealed_of t b)) p → Contains (pending_of (sealed_of s b)) p ⊎ (p.param < length g.values))
    → NamesExist f s → NamesExist g t
named-more f g s t more same recorded waiting named = record {
  recorded = λ x b v is. elim (recorded x b v is) [ inl old ↦ omega (arith, named.recorded x b v old, more.values) | inr new ↦ new ];
  leading = λ b i here. omega (arith, named.leading b i (subst (λ branches. Contains branches i) (same b) here), more.insts);
  waiting = λ b p here. elim (waiting b p here) [ inl old ↦ omega (arith, named.waiting b p old, more.values) | inr new ↦ new ];
}

pub has_more : (f : Body) → HasMore f f
has_more f = record { values = omega arith; insts = omega arith; blocks = refl }

pub more-then : (f g h : Body) → HasMore f g → HasMore g h → HasMore f h
more-then f g h first second = record {
  values = omega (arith, first.values, second.values);
  insts = omega (arith, first.insts, second.insts);
  blocks = second.blocks ∙ first.blocks;
}

pub param_more : (f : Body) (b : ℕ) (ty : «Type») → HasMore f (with_param f b ty)
param_more f b ty = record { values = grind (arith, common_steps); insts = omega arith; blocks = grind (arith, common_steps) }

same_some : {x y : ℕ} → ◌≡◌ {A = Option ℕ} (Some x) (Some y) → x ≡ y
same_some same = cc

written : (test : Bool) (v w : ℕ) (old : Option ℕ) → (if test then Some v else old) ≡ Some w → (old ≡ Some w) ⊎ (w ≡ v)
written true v w old is = inr (sym (same_some is))
written false v w old is = inl is

new_inside : (f : Body) (b : ℕ) (ty : «Type») → length f.values < length (with_param f b ty).values
new_inside f b ty = grind (arith, common_steps)

-- a new parameter is recorded
pub param-named : (f g : Body) (s t : SsaState) (x b : ℕ) (ty : «Type») → g ≡ with_param f b ty → Records s t x b (length f.values)
    → SamePredecessors s t → SameBlocks s t → NamesExist f s → NamesExist g t
param-named f g s t x b ty is recorded same blocks named =
    subst (λ h. NamesExist h t) (sym is)
    (named-more f (with_param f b ty) s t (param_more f b ty) same
    (λ y c v at.
    elim (written (y == x && c == b) (length f.values) v (record_of s y c) (sym (recorded y c) ∙ at)) [
      | inl old ↦ inl old
      | inr new ↦ inr (omega (arith, new_inside f b ty, new))
    ])
    (λ c p here. inl (subst (λ entry. Contains (pending_of entry) p) (blocks c) here))
    named)

pub contains_last : (ps : List Pending) (q p : Pending) → Contains (ps ++ q ∷ []) p → Contains ps p ⊎ (q ≡ p)
contains_last [] q p (zero, inside, at) = inr at
contains_last [] q p (suc k, inside, at) = absurd (omega (arith, inside))
contains_last (r ∷ ps) q p (zero, inside, at) = inl (0, omega arith, at)
contains_last (r ∷ ps) q p (suc k, inside, at) =
    elim (contains_last ps q p (k, omega (arith, inside), at)) [ inl here ↦ inl (suc here.0, omega (arith, here.1), here.2) | inr last ↦ inr last ]

-- a new parameter is recorded and waits
pub param-named-waits : (f g : Body) (s t : SsaState) (x b : ℕ) (ty : «Type») → g ≡ with_param f b ty → Records s t x b (length f.values)
    → SamePredecessors s t
    → ((c : ℕ) → sealed_of t c ≡ (if c == b then No (pending_of (sealed_of s c) ++ record { variable = x; param = length f.values } ∷ []) else sealed_of s c))
    → NamesExist f s → NamesExist g t
param-named-waits f g s t x b ty is recorded same blocks named =
    subst (λ h. NamesExist h t) (sym is)
    (named-more f (with_param f b ty) s t (param_more f b ty) same
    (λ y c v at.
    elim (written (y == x && c == b) (length f.values) v (record_of s y c) (sym (recorded y c) ∙ at)) [
      | inl old ↦ inl old
      | inr new ↦ inr (omega (arith, new_inside f b ty, new))
    ])
    (λ c p here. by c p (c == b) (subst (λ entry. Contains (pending_of entry) p) (blocks c) here))
    named)
  where
    by : (c : ℕ) (p : Pending) (test : Bool)
        → Contains (pending_of (if test then No (pending_of (sealed_of s c) ++ record { variable = x; param = length f.values } ∷ []) else sealed_of s c)) p
        → Contains (pending_of (sealed_of s c)) p ⊎ (p.param < length (with_param f b ty).values)
    by c p false here = inl here
    by c p true here =
        elim (contains_last (pending_of (sealed_of s c)) (record { variable = x; param = length f.values }) p here) [
          | inl old ↦ inl old
          | inr last ↦ let at : length f.values ≡ p.param = ap (λ (q : Pending). q.param) last in inr (omega (arith, new_inside f b ty, at))
        ]

pub ruleset naming_rules = (named-more, has_more, more-then, param_more, param-named, param-named-waits)
