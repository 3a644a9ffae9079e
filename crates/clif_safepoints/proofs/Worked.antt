-- The worked examples, by the equations.
use Rattle.std.proofs.Common.{◌≡◌, ◌≢◌, ◌⊎◌, ◌||◌, ℕ, zero, suc, Bool, true, false, [], ◌∷◌, refl, inl, inr, arith, eqb, ap}
use Rattle.std.specs.Prelude.{if◌then◌else◌}
use Rattle.std.proofs.lemmas.Bool.{false≢true}
use Rattle.std.proofs.lemmas.Bool.Decides.{eqb_tells}
use Rattle.clif_instructions.specs.Members.{stands_in}
use Rattle.clif_ir.specs.Body.{Body, block_at, follow}
use Rattle.clif_meaning.specs.View.{view_of}
use Rattle.clif_safepoints.specs.Analysis.{IsExact}
use Rattle.clif_safepoints.specs.Examples.{LivenessExamples, edge_body, slot_body}
use Rattle.clif_safepoints.specs.Fronts.{at}
use Rattle.clif_safepoints.specs.Liveness.{IsLiveAcross, every_argument}
use Rattle.clif_safepoints.specs.Transfer.{is_live_before, is_live_in}
use Rattle.clif_safepoints.proofs.Paths.{IsSettled, across_from, across_to, and_cases}

-- nothing is live at the front of a block outside the layout
outside : (f : Body) (live_at : ℕ → Bool) (t v : ℕ) → stands_in t f.layout ≡ false → is_live_in f live_at t v ≡ true → ⊥
outside f live_at t v away live = by (stands_in t f.layout) away (and_cases _ _ live).1
  where
    by : (c : Bool) → c ≡ false → is_live_before f live_at v (if c then (block_at f t).insts else []) ≡ true → ⊥
    by true is h = cc
    by false is h = cc

-- block0 is the only one of the row
another : (t : ℕ) → stands_in (suc t) slot_body.layout ≡ false
another t = by (eqb_tells 0 (suc t))
  where
    by : ((eqb 0 (suc t) ≡ true) × (0 ≡ suc t)) ⊎ ((eqb 0 (suc t) ≡ false) × (0 ≢ suc t)) → (eqb 0 (suc t) || false) ≡ false
    by (inl same) = absurd (omega (arith, same.1))
    by (inr other) = ap (λ (b : Bool). b || false) other.0

settled : (v : ℕ) → (is_live_in slot_body (λ b. false) 0 v ≡ true → ⊥) → IsSettled slot_body v (λ b. false)
settled v first zero reached live = absurd (first live)
settled v first (suc t) reached live = absurd (outside slot_body (λ b. false) (suc t) v (another t) live)

front_0 : is_live_in slot_body (λ b. false) 0 0 ≡ true → ⊥
unfolding follow
front_0 h = false≢true h

front_1 : is_live_in slot_body (λ b. false) 0 1 ≡ true → ⊥
unfolding follow
front_1 h = false≢true h

used_again : IsLiveAcross every_argument (view_of slot_body) (at 0 1) 0
unfolding follow
used_again = across_to slot_body (λ b. false) 0 0 1 1 (λ t h. absurd (false≢true h)) refl refl

used_up : IsLiveAcross every_argument (view_of slot_body) (at 0 2) 0 → ⊥
unfolding follow
used_up h = false≢true (across_from slot_body (λ b. false) 0 (settled 0 front_0) h.1 0 2 2 (inl refl) refl h.0 h.2)

not_yet_defined : IsLiveAcross every_argument (view_of slot_body) (at 0 1) 1 → ⊥
unfolding follow
not_yet_defined h = false≢true (across_from slot_body (λ b. false) 1 (settled 1 front_1) h.1 0 1 1 (inl refl) refl h.0 h.2)

not_all : IsExact slot_body (0 ∷ 1 ∷ []) 2 (0 ∷ 1 ∷ []) → ⊥
not_all h = used_up ((h.members 0).0 (0, omega arith, refl)).live

passed : IsLiveAcross every_argument (view_of edge_body) (at 0 1) 0
unfolding follow
passed = across_to edge_body (λ b. false) 0 0 1 1 (λ t h. absurd (false≢true h)) refl refl

own_result : IsLiveAcross every_argument (view_of edge_body) (at 0 0) 0 → ⊥
own_result h = h.0 (0, omega arith, refl)

pub liveness_examples : LivenessExamples
liveness_examples = record {
  used_again = used_again;
  used_up = used_up;
  not_yet_defined = not_yet_defined;
  not_all = not_all;
  passed = passed;
  own_result = own_result;
}
