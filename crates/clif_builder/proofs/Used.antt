-- A use of a variable in a block that came into the layout first.
use Rattle.std.proofs.Common.{◌≡◌, ◌+◌, ℕ, List, [], ◌∷◌, length, ◌∙◌, ap, subst, sym}
use Rattle.std.specs.Prelude.{true, false, Option, Some, None, IfSome, IfOk, OnOk, Result, Ok, Err}
use Rattle.clif_types.specs.declared.types.«Type».{«Type»}
use Rattle.clif_ir.specs.Body.{Body}
use Rattle.clif_ir.specs.Changes.{inserted_in}
use Rattle.clif_ssa.specs.Ssa.{SsaState, Waits, Zeroes, predecessors_of, record_of, sealed_of}
use Rattle.clif_records.specs.Tables.{is_yes}
use Rattle.clif_ssa.specs.Zeros.{steps_before}
use Rattle.clif_builder.specs.Builder.{UsesIn}
use Rattle.clif_builder.specs.Construction.{IsUse}
use Rattle.clif_builder.specs.Context.{Begins, ContextState, SetsStatus, begun, status_of}
use Rattle.clif_builder.proofs.Growing.{values-inserted}
use Rattle.clif_builder.proofs.Statuses.{begins_cons}

-- what is so of the type that was found for a variable is so of each type that it has
pub typed_so : (Is : «Type» → Type 0) (slot : Option «Type») (found ty : «Type») → slot ≡ Some found → Is found → slot ≡ Some ty → Is ty
typed_so Is slot found ty at so is = subst Is (same_type (sym at ∙ is)) so
  where
    same_type : {x y : «Type»} → ◌≡◌ {A = Option «Type»} (Some x) (Some y) → x ≡ y
    same_type same = cc

at_some : (o : Option ℕ) (v : ℕ) (P : ℕ → Type 0) → o ≡ Some v → IfSome o P → P v
at_some o v P is holds = let Q : Option ℕ → Type 0 = λ p. IfSome p P in subst Q is holds

module _ {E : Type 0} (f mid g : Body) (c m d : ContextState) (x : ℕ) (ty : «Type») (b : ℕ)
    (function : mid ≡ inserted_in f b) (ssa : m.ssa ≡ c.ssa) where
  pub used_in : (r : Result ℕ E)
      → IfSome (record_of m.ssa x b) (λ v. OnOk r ((g ≡ mid) × (d.ssa ≡ m.ssa)) × IfOk r (λ w. w ≡ v))
      → (record_of m.ssa x b ≡ None → is_yes (sealed_of m.ssa b) ≡ false → OnOk r (Waits m.ssa d.ssa mid g x ty b) × IfOk r (λ w. w ≡ length mid.values))
      → (record_of m.ssa x b ≡ None → is_yes (sealed_of m.ssa b) ≡ true → predecessors_of m.ssa b ≡ []
      → OnOk r (Zeroes m.ssa d.ssa mid g x ty b) × IfOk r (λ w. w ≡ length mid.values + 1 + steps_before ty))
      → IfOk r (λ value. UsesIn f c g d x ty b value)
  used_in (Err e) known waits zero = tt
  used_in (Ok w) known waits zero =
      let count : length mid.values ≡ length f.values = ap (λ (h : Body). length h.values) function ∙ values-inserted f b in
      record {
        known = λ v recorded.
            let at = at_some (record_of m.ssa x b) v (λ u. ((g ≡ mid) × (d.ssa ≡ m.ssa)) × (w ≡ u)) (ap (λ (s : SsaState). record_of s x b) ssa ∙ recorded) known in
            (at.0.0 ∙ function, at.0.1 ∙ ssa, at.1);
        waits = λ none unsealed.
            let done = waits (ap (λ (s : SsaState). record_of s x b) ssa ∙ none) (ap (λ (s : SsaState). is_yes (sealed_of s b)) ssa ∙ unsealed) in (
              subst (λ (s : SsaState). Waits s d.ssa (inserted_in f b) g x ty b) ssa (subst (λ (h : Body). Waits m.ssa d.ssa h g x ty b) function done.0),
              done.1 ∙ count,
            );
        zero = λ none sealed alone.
            let done = zero (ap (λ (s : SsaState). record_of s x b) ssa ∙ none) (ap (λ (s : SsaState). is_yes (sealed_of s b)) ssa ∙ sealed)
            (ap (λ (s : SsaState). predecessors_of s b) ssa ∙ alone) in (
              subst (λ (s : SsaState). Zeroes s d.ssa (inserted_in f b) g x ty b) ssa (subst (λ (h : Body). Zeroes m.ssa d.ssa h g x ty b) function done.0),
              done.1 ∙ ap (λ n. n + 1 + steps_before ty) count,
            );
      }

  pub is_use_in : (r : Result ℕ E) → SetsStatus c m b (begun (status_of c b))
      → IfOk r (λ value. (told : List ℕ) × IsUse mid m.ssa g d.ssa x ty b value told × Begins m d told)
      → IfOk r (λ value. (told : List ℕ) × IsUse (inserted_in f b) c.ssa g d.ssa x ty b value told × Begins c d (b ∷ told))
  is_use_in (Err e) status used = tt
  is_use_in (Ok w) status used = (
    used.0,
    subst (λ (s : SsaState). IsUse (inserted_in f b) s g d.ssa x ty b w used.0) ssa (subst (λ (h : Body). IsUse h m.ssa g d.ssa x ty b w used.0) function used.1),
    begins_cons c m d b used.0 status used.2,
  )
