-- A use in a block to which nothing leads leaves a record of its answer.
use Rattle.clif_ssa.proofs.Parameters.{param_count}
use Rattle.clif_ssa.proofs.Alike.{zeroed_count}
use Rattle.clif_ir.specs.Changes.{with_param}
use Rattle.clif_ssa.specs.Steps.{UsesLocally}
use Rattle.clif_types.specs.declared.error.BuildError.{BuildError}
use Rattle.std.proofs.Common.{◌≡◌, ℕ, ◌<◌, ◌+◌, ◌∷◌, [], length, refl, sym, subst, Bool, true, false, ap, arith, ◌∙◌}
use Rattle.std.specs.Prelude.{Result, Ok, Err, OnOk, IfOk, None}
use Rattle.clif_types.specs.declared.types.«Type».{«Type»}
use Rattle.clif_ir.specs.Body.{Body, value_at}
use Rattle.clif_ir.specs.Consistent.{IsConsistent}
use Rattle.clif_records.specs.declared.side_effects.SideEffects.{SideEffects}
use Rattle.clif_records.specs.Tables.{is_yes}
use Rattle.clif_ssa.specs.Ssa.{SsaState, record_of, sealed_of, Waits, Zeroes, zero_value}
use Rattle.clif_ssa.specs.Structure.{HasRecordOf}
use Rattle.clif_ssa.proofs.Losing.{waits_used, zeroes_used}
use Rattle.clif_ssa.specs.Zeros.{steps_before}
use Rattle.clif_ssa.proofs.ZeroSteps.{param_zero_value}

pub local_recorded : (f g : Body) (s t : SsaState) (x : ℕ) (ty : «Type») (b : ℕ) {E : Type 0} (result : Result (ℕ × SideEffects) E)
    → IsConsistent f → b < length f.blocks → record_of s x b ≡ None
    → (is_yes (sealed_of s b) ≡ false → OnOk result (Waits s t f g x ty b) × IfOk result (λ r. (r.0 ≡ length f.values) × (r.1.instructions_added_to_blocks.items ≡ [])))
    → (is_yes (sealed_of s b) ≡ true → OnOk result (Zeroes s t f g x ty b) × IfOk result (λ r. (r.0 ≡ length f.values + 1 + steps_before ty) × (r.1.instructions_added_to_blocks.items ≡ b ∷ [])))
    → IfOk result (λ r. HasRecordOf g t x b r.0)
local_recorded f g s t x ty b (Err error) known there none waits zeroes = tt
local_recorded f g s t x ty b (Ok r) known there none waits zeroes = by (is_yes (sealed_of s b)) refl
  where
    by : (sealed : Bool) → is_yes (sealed_of s b) ≡ sealed → HasRecordOf g t x b r.0
    by true sealed = subst (λ v. HasRecordOf g t x b v) (sym ((zeroes sealed).1).0) (zeroes_used f g s t x b ty known there none (zeroes sealed).0).recorded
    by false unsealed = subst (λ v. HasRecordOf g t x b v) (sym ((waits unsealed).1).0) (waits_used f g s t x b ty known none unsealed (waits unsealed).0).recorded

-- the answer exists
pub used_exists : (x : ℕ) (ty : «Type») (b : ℕ) (f : Body) (s : SsaState) (g : Body) (t : SsaState) (answer : Result (ℕ × SideEffects) BuildError)
    → UsesLocally x ty b f s g t answer → IfOk answer (λ r. r.0 < length g.values)
used_exists x ty b f s g t (Err error) used = tt
used_exists x ty b f s g t (Ok r) used = by (is_yes (sealed_of s b)) refl
  where
    by : (sealed : Bool) → is_yes (sealed_of s b) ≡ sealed → r.0 < length g.values
    by true sealed =
        let h : Body = with_param f b ty in
        let n : ℕ = length f.values in
        let count : length g.values ≡ zero_value h (value_at h n).ty + 1 =
        ap (λ (k : Body). length k.values) (used.zero sealed).0.function ∙ zeroed_count h b n in
        omega (arith, count, param_zero_value f b ty, (used.zero sealed).1.0)
    by false unsealed =
        let count : length g.values ≡ length f.values + 1 = ap (λ (k : Body). length k.values) (used.waits unsealed).0.function ∙ param_count f b ty in
        omega (arith, count, (used.waits unsealed).1.0)
