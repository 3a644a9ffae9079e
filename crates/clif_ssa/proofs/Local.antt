-- A variable that is used where the value is found in its block alone.
use Rattle.std.proofs.Common.{◌≡◌, ℕ, ◌+◌, List, [], ◌∷◌, ◌++◌, length, refl, ap, sym, ◌∙◌, subst, inl}
use Rattle.std.specs.Prelude.{Some, Contains, MatchOption}
use Rattle.std.specs.Option.{option_to_list}
use Rattle.clif_types.specs.declared.types.«Type».{«Type»}
use Rattle.clif_ir.specs.Body.{Body, value_at}
use Rattle.clif_ir.specs.Changes.{with_param}
use Rattle.clif_ir.specs.Reading.{param_home}
use Rattle.clif_records.specs.Tables.{pending_of}
use Rattle.clif_records.specs.Tracking.{with_binding}
use Rattle.clif_ssa.specs.Ssa.{SsaState, NamesExist, HasMore, Records, SameBlocks, SamePredecessors, SameRecords, Zeroes, zeroed, zeroed_in, zero_value}
use Rattle.clif_ssa.proofs.Naming.{named-more, param_more, param-named}
use Rattle.clif_ssa.proofs.Parameters.{param_home_new}
use Rattle.clif_ssa.proofs.ZeroSteps.{param_zero_value}
use Rattle.clif_ssa.specs.Zeros.{steps_before}

-- NAMES -----------------------------------------------------------------------------------------------------------

-- the function has more
pub named-grows : (f g : Body) (s : SsaState) → HasMore f g → NamesExist f s → NamesExist g s
named-grows f g s more named = named-more f g s s more (λ b. refl) (λ x b v is. inl is) (λ b p here. inl here) named

-- and what the state names is as before
pub named-same : (f g : Body) (s t : SsaState) → HasMore f g → SamePredecessors s t → SameRecords s t → SameBlocks s t → NamesExist f s → NamesExist g t
named-same f g s t more same records blocks named =
    named-more f g s t more same (λ x b v is. inl (sym (records x b) ∙ is)) (λ b p here. inl (subst (λ entry. Contains (pending_of entry) p) (blocks b) here)) named

-- a new parameter isn't recorded yet
pub param-named-unrecorded : (f g : Body) (s t : SsaState) (b : ℕ) (ty : «Type») → g ≡ with_param f b ty → SamePredecessors s t → SameRecords s t → SameBlocks s t
    → NamesExist f s → NamesExist g t
param-named-unrecorded f g s t b ty is same records blocks named = subst (λ h. NamesExist h t) (sym is) (named-same f (with_param f b ty) s t (param_more f b ty) same records blocks named)

-- a new parameter is recorded, and then the function has more
pub param-named-then : (f g h : Body) (s t : SsaState) (x b : ℕ) (ty : «Type») → g ≡ with_param f b ty → HasMore g h → Records s t x b (length f.values)
    → SamePredecessors s t → SameBlocks s t → NamesExist f s → NamesExist h t
param-named-then f g h s t x b ty is more recorded same blocks named = named-grows g h t more (param-named f g s t x b ty is recorded same blocks named)

-- A ZERO ----------------------------------------------------------------------------------------------------------

param_there : (f g : Body) (b v : ℕ) (ty : «Type») → g ≡ with_param f b ty → v ≡ length f.values → param_home g v ≡ Some b
param_there f g b v ty is number = ap (λ k. param_home k v) is ∙ ap (λ w. param_home (with_param f b ty) w) number ∙ param_home_new f b ty

-- the new parameter is another name of a zero
pub param-zeroes : (f g h : Body) (s t : SsaState) (x b v : ℕ) (ty : «Type») → g ≡ with_param f b ty → v ≡ length f.values → h ≡ zeroed_in (param_home g v) g v
    → Records s t x b (length f.values) → t.tracking ≡ with_binding s.tracking x (length f.values) → SameBlocks s t → Zeroes s t f h x ty b
param-zeroes f g h s t x b v ty is number done recorded tracking blocks = record {
  function = done ∙ ap (λ o. zeroed_in o g v) (param_there f g b v ty is number) ∙ ap (λ k. zeroed k b v) is ∙ ap (λ w. zeroed (with_param f b ty) b w) number;
  recorded = recorded;
  tracking = tracking;
  unchanged = blocks;
}

pub param-zero-answer : (f g : Body) (b v answer : ℕ) (ty : «Type») → g ≡ with_param f b ty → v ≡ length f.values
    → MatchOption (param_home g v) (answer ≡ v) (λ _. answer ≡ zero_value g (value_at g v).ty) → answer ≡ length f.values + 1 + steps_before ty
param-zero-answer f g b v answer ty is number case =
    let at : answer ≡ zero_value g (value_at g v).ty =
    subst (λ o. MatchOption o (answer ≡ v) (λ _. answer ≡ zero_value g (value_at g v).ty)) (param_there f g b v ty is number) case in
    let h : Body = with_param f b ty in
    at ∙ ap (λ (k : Body). zero_value k (value_at k v).ty) is ∙ ap (λ w. zero_value h (value_at h w).ty) number ∙ param_zero_value f b ty

pub param-zero-told : (f g : Body) (b v : ℕ) (ty : «Type») (old new : List ℕ) → g ≡ with_param f b ty → v ≡ length f.values
    → old ≡ [] → new ≡ old ++ option_to_list (param_home g v) → new ≡ b ∷ []
param-zero-told f g b v ty old new is number nothing told =
    told ∙ ap (λ xs. xs ++ option_to_list (param_home g v)) nothing ∙ ap (λ o. option_to_list o) (param_there f g b v ty is number)
