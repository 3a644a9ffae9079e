use Rattle.std.proofs.Common.{◌≡◌, ◌+◌, ◌<◌, ◌≤◌, ◌⊎◌, ◌∙◌, ℕ, inl, inr, length, subst, sym, arith}
use Rattle.std.proofs.lemmas.Bool.{false≢true}
use Rattle.clif_safepoints.specs.Contexts.{HasTrackedContext}
use Rattle.clif_safepoints.proofs.contexts.tracked_context.Goals as goal

order : (i j : ℕ) → (i < j) ⊎ (j ≤ i)
order i j = grind arith

-- none below is one
least : (P : ℕ → Type 0) (number : ℕ) → ((i : ℕ) → i < number → P i → ⊥) → (i : ℕ) → P i → number ≤ i
least P number none i h = by (order i number)
  where
    by : (i < number) ⊎ (number ≤ i) → number ≤ i
    by (inl below) = absurd (none i below h)
    by (inr above) = above

-- nor this one
more : (P : ℕ → Type 0) (number : ℕ) → ((i : ℕ) → i < number → P i → ⊥) → (P number → ⊥) → (i : ℕ) → i < number + 1 → P i → ⊥
more P number none here i below h = by (order i number)
  where
    by : (i < number) ⊎ (number ≤ i) → ⊥
    by (inl before) = none i before h
    by (inr last) = here (subst P (let e : i ≡ number = omega (arith, below, last) in e) h)

pub returns-then-has_tracked_context-clause-ok : goal.returns-then-has_tracked_context-clause-ok
returns-then-has_tracked_context-clause-ok c = (
  c.has_tracked_context.ensures.0 c.if-has_tracked_context.true,
  subst (λ n. (i : ℕ) → HasTrackedContext c.args.func.now c.args.recorded.now i → n ≤ i) (sym c.new-inst.ensures)
      (least (HasTrackedContext c.args.func.now c.args.recorded.now) c.loop-number.number c.loop-number.invariant),
)

pub loop-number-preserved : goal.loop-number-preserved
loop-number-preserved c =
    more (HasTrackedContext c.args.func.now c.args.recorded.now) c.loop-number.number c.loop-number.invariant
    (λ h. false≢true (sym c.if-has_tracked_context.false ∙ c.has_tracked_context.ensures.1 (subst (HasTrackedContext c.args.func.now c.args.recorded.now) (sym c.new-inst.ensures) h)))

pub returns-clause-ok : goal.returns-clause-ok
returns-clause-ok c = λ i h. c.loop-number.invariant i (let exists : i < length c.args.func.now.insts = h.exists in omega arith) h
