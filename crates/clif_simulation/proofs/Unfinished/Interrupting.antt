-- As an unsealed block is entered, parameters that wait get their variables' bits.
use Rattle.std.proofs.Common.{◌≡◌, ◌≢◌, ◌⊎◌, ℕ, Bool, true, false, List, [], ◌∷◌, inl, inr, refl, ap, arith}
use Rattle.std.proofs.lemmas.Bool.Decides.{nat_tests}
use Rattle.clif_records.specs.declared.tables.Pending.{Pending}
use Rattle.clif_meaning.specs.FunctionMachine.{same_value}
use Rattle.clif_simulation.specs.Interrupted.{values_entering}
use Rattle.clif_simulation.proofs.Finished.Giving.{In}

-- what waits gets its variable's bits
pub waiting_gets : (waiting : List Pending) (bits old : ℕ → ℕ) (w x : ℕ) → ((p : Pending) → In p waiting → p.param ≡ w → p.variable ≡ x)
    → In (record { variable = x; param = w }) waiting → values_entering waiting bits old w ≡ bits x
waiting_gets [] bits old w x only there = absurd there
waiting_gets (p ∷ waiting) bits old w x only there =
    by (same_value w p.param) refl there (waiting_gets waiting bits old w x (λ q here. only q (inr here)))
  where
    by : (test : Bool) → same_value w p.param ≡ test → (record { variable = x; param = w } ≡ p) ⊎ In (record { variable = x; param = w }) waiting
        → (In (record { variable = x; param = w }) waiting → values_entering waiting bits old w ≡ bits x) → values_entering (p ∷ waiting) bits old w ≡ bits x
    by true one here later =
        let same : p.param ≡ w = grind (arith, nat_tests) in
        rw one (ap bits (only p (inl refl) same))
    by false other (inl here) later =
        let apart : w ≢ p.param = grind (arith, nat_tests) in
        absurd (apart (ap (λ (q : Pending). q.param) here))
    by false other (inr here) later = rw other (later here)

pub waiting_leaves : (waiting : List Pending) (bits old : ℕ → ℕ) (w : ℕ) → ((p : Pending) → In p waiting → p.param ≢ w) → values_entering waiting bits old w ≡ old w
waiting_leaves [] bits old w none = refl
waiting_leaves (p ∷ waiting) bits old w none =
    let apart : p.param ≢ w = none p (inl refl) in
    let other : same_value w p.param ≡ false = grind (arith, nat_tests) in
    rw other (waiting_leaves waiting bits old w (λ q here. none q (inr here)))
