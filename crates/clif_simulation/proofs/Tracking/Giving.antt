-- Tables in which values are born have the parameters for variables that they had.
use Rattle.std.proofs.Common.{◌≡◌, ℕ, suc, ◌≤◌, List, [], ◌∷◌, length, ◌⊎◌, inl, inr, refl, sym, ◌∙◌, ap, subst, arith}
use Rattle.std.proofs.Math.Decide.{ℕ_discrete}
use Rattle.clif_types.specs.declared.types.«Type».{«Type»}
use Rattle.clif_ir.specs.Body.{Body}
use Rattle.clif_ir.specs.Changes.{with_param}
use Rattle.clif_paths.specs.Places.{Place}
use Rattle.clif_paths.specs.State.{Definition, Kind, born, complete, pending, unborn}
use Rattle.clif_paths.specs.Steps.{updated}
use Rattle.clif_paths.specs.Blocks.{Blocks, front, with_born}
use Rattle.clif_paths.proofs.Tables.{updated-same, updated-other}
use Rattle.clif_ssa.specs.SoundLaws.{all_born, with_all_born, with_entry}
use Rattle.clif_ssa.specs.Sound.{IsParameterFor}
use Rattle.clif_ssa.specs.Ssa.{SsaState}
use Rattle.clif_ssa.proofs.Parameters.{param_count}
use Rattle.clif_meaning.specs.Name.{answer_of}
use Rattle.clif_meaning.specs.Request.{AnsweredCall}
use Rattle.clif_simulation.specs.Tables.{code}
use Rattle.clif_simulation.specs.Tracks.{IsAskedFor, IsMarkedParameter, TracksOnPaths}
use Rattle.clif_simulation.proofs.Appending.{tables_after}
use Rattle.clif_simulation.proofs.Tracking.Steps.{SameParameters, kinds_apart_born, same_function, same_parameters-then}

-- a kind stays, or is that of a value that is born and wasn't there
abbrev IsBornOrStays : Kind → Kind → Type 0
IsBornOrStays old new = (new ≡ old) ⊎ ((n : ℕ) × (old ≡ unborn) × (new ≡ born n))

unborn_none : (x : ℕ) → (unborn ≡ pending x) ⊎ (unborn ≡ complete x) → ⊥
unborn_none x (inl h) = cc
unborn_none x (inr h) = cc

same_where_born : (T T' : Blocks) → ((v : ℕ) → T'.function.resolve v ≡ T.function.resolve v)
    → ((v : ℕ) → IsBornOrStays (T.function.definition v).kind (T'.function.definition v).kind) → SameParameters T T'
same_where_born T T' resolves kinds = record {
  resolves = resolves;
  forth = λ v x is. forth v x is (kinds v);
  back = λ v x is. back v x is (kinds v);
}
  where
    forth : (v x : ℕ) → IsParameterFor T v x → IsBornOrStays (T.function.definition v).kind (T'.function.definition v).kind → IsParameterFor T' v x
    forth v x is (inl same) = subst (λ (k : Kind). (k ≡ pending x) ⊎ (k ≡ complete x)) (sym same) is
    forth v x is (inr new) = absurd (unborn_none x (subst (λ (k : Kind). (k ≡ pending x) ⊎ (k ≡ complete x)) new.1 is))

    back : (v x : ℕ) → IsParameterFor T' v x → IsBornOrStays (T.function.definition v).kind (T'.function.definition v).kind → IsParameterFor T v x
    back v x is (inl same) = subst (λ (k : Kind). (k ≡ pending x) ⊎ (k ≡ complete x)) same is
    back v x is (inr new) = absurd (kinds_apart_born new.0 x (subst (λ (k : Kind). (k ≡ pending x) ⊎ (k ≡ complete x)) new.2 is))

-- one value
born_kind : (definition : ℕ → Definition) (place : Place) (n u : ℕ) → (definition u).kind ≡ unborn
    → (v : ℕ) → IsBornOrStays (definition v).kind (updated definition u (record { home = place; kind = born n }) v).kind
born_kind definition place n u none v = by (ℕ_discrete v u)
  where
    by : Dec (v ≡ u) → IsBornOrStays (definition v).kind (updated definition u (record { home = place; kind = born n }) v).kind
    by (yes is) = inr (
      n,
      ap (λ (w : ℕ). (definition w).kind) is ∙ none,
      ap (λ (d : Definition). d.kind) (updated-same definition u (record { home = place; kind = born n }) v is),
    )
    by (no other) = inl (ap (λ (d : Definition). d.kind) (updated-other definition u (record { home = place; kind = born n }) v other))

-- several
all_kinds : (place : Place) (names : List ℕ) (definition : ℕ → Definition) (u : ℕ) → ((v : ℕ) → u ≤ v → (definition v).kind ≡ unborn)
    → (v : ℕ) → IsBornOrStays (definition v).kind (all_born place definition names u v).kind
all_kinds place [] definition u none v = inl refl
all_kinds place (n ∷ names) definition u none v =
    by (born_kind definition place n u (none u (omega arith)) v)
    (all_kinds place names (updated definition u (record { home = place; kind = born n })) (suc u)
    (λ w past.
    ap (λ (d : Definition). d.kind) (updated-other definition u (record { home = place; kind = born n }) w (λ same. omega (arith, past, same)))
    ∙ none w (omega (arith, past))) v)
  where
    by : {a b c : Kind} → IsBornOrStays a b → IsBornOrStays b c → IsBornOrStays a c
    by (inl one) (inl two) = inl (two ∙ one)
    by (inl one) (inr two) = inr (two.0, sym one ∙ two.1, two.2)
    by (inr one) (inl two) = inr (one.0, one.1, two ∙ one.2)
    by (inr one) (inr two) = inr (two.0, one.1, two.2)

pub all_born_same : (T : Blocks) (place : Place) (names : List ℕ) (u : ℕ) → ((v : ℕ) → u ≤ v → (T.function.definition v).kind ≡ unborn)
    → SameParameters T (with_all_born T place names u)
all_born_same T place names u none =
    same_where_born T (with_all_born T place names u) (λ v. refl) (all_kinds place names T.function.definition u none)

-- the caller's parameters
pub params_same : (b place : ℕ) (types : List «Type») (T : Blocks) (f : Body) (index : ℕ)
    → ((v : ℕ) → length f.values ≤ v → (T.function.definition v).kind ≡ unborn)
    → SameParameters T (tables_after T f b place index types)
params_same b place [] T f index none = same_function T T refl
params_same b place (ty ∷ types) T f index none =
    let n : ℕ = code (answer_of place index) in
    let T' : Blocks = with_born T (front b) n (length f.values) in
    let more = param_count f b ty in
    same_parameters-then T T' (tables_after T' (with_param f b ty) b place (suc index) types)
    (same_where_born T T' (λ v. refl) (born_kind T.function.definition (front b) n (length f.values) (none (length f.values) (omega arith))))
    (params_same b place types T' (with_param f b ty) (suc index)
    (λ v past.
    ap (λ (d : Definition). d.kind)
    (updated-other T.function.definition (length f.values) (record { home = front b; kind = born n }) v (λ same. omega (arith, past, same, more)))
    ∙ none v (omega (arith, past, more))))

-- a block that comes into the layout changes no value
pub entry_same_function : (layout : List ℕ) (s : SsaState) (b : ℕ) (T : Blocks) → SameParameters T (with_entry layout s b T)
entry_same_function [] s b T = same_function T (with_entry [] s b T) refl
entry_same_function (c ∷ layout) s b T = same_function T T refl

-- so what is recorded is recorded on those tables
pub tracks_same : (calls : List AnsweredCall) (s : SsaState) (T T' : Blocks) → SameParameters T T' → TracksOnPaths calls s T → TracksOnPaths calls s T'
tracks_same calls s T T' same was = record {
  parameters = λ v itself p. was.parameters v (sym (same.resolves v) ∙ itself) (p.0, same.back v p.0 p.1, p.2);
  only = λ v itself is. only v (was.only v (sym (same.resolves v) ∙ itself) is);
  asked = was.asked;
  unassigned = was.unassigned;
  unused = λ x none v itself p. was.unused x none v (sym (same.resolves v) ∙ itself) (same.back v x p);
  values_asked = was.values_asked;
  values_assigned = was.values_assigned;
}
  where
    only : (v : ℕ) → IsMarkedParameter T s v ⊎ IsAskedFor calls s v → IsMarkedParameter T' s v ⊎ IsAskedFor calls s v
    only v (inl p) = inl (p.0, same.forth v p.0 p.1, p.2)
    only v (inr a) = inr a
