-- Runs of a function's machine through states that are so.
use Rattle.std.proofs.Common.{◌≡◌, ℕ, zero, suc, List, [], ◌∷◌, None, sym, subst, refl}
use Rattle.clif_meaning.specs.FunctionMachine.{FunctionRun, FunctionState, function_step}
use Rattle.clif_meaning.specs.FunctionView.{Placed}
use Rattle.clif_meaning.specs.Typing.{call_shape}

-- code that doesn't begin with a call
abbrev pub BeginsQuietly : List Placed → Type 0
BeginsQuietly [] = Unit {0}
BeginsQuietly (placed ∷ rest) = call_shape placed.instruction.operation ≡ None

-- this many steps lead from the one state to the other, and each state before that is so
abbrev pub Walks : FunctionRun → (FunctionState → Type 0) → ℕ → FunctionState → FunctionState → Type 0
Walks run P zero t u = t ≡ u
Walks run P (suc k) t u = P t × Walks run P k (function_step run t) u

-- some steps do
abbrev pub Passes : FunctionRun → (FunctionState → Type 0) → FunctionState → FunctionState → Type 0
Passes run P t u = (k : ℕ) × Walks run P k t u

-- some steps do, and at least one
abbrev pub PassesOn : FunctionRun → (FunctionState → Type 0) → FunctionState → FunctionState → Type 0
PassesOn run P t u = (k : ℕ) × Walks run P (suc k) t u

module _ (run : FunctionRun) (P : FunctionState → Type 0) where
  pub passes_nothing : (t : FunctionState) → Passes run P t t
  passes_nothing t = (0, refl)

  -- a step, and then others
  pub passes_step : (t u v : FunctionState) → P t → function_step run t ≡ u → Passes run P u v → PassesOn run P t v
  passes_step t u v is step more = let from = subst (λ x. Passes run P x v) (sym step) more in (from.0, (is, from.1))

  pub passes_some : (t u : FunctionState) → PassesOn run P t u → Passes run P t u
  passes_some t u on = (suc on.0, on.1)

  walks_then : (k : ℕ) (t u v : FunctionState) → Walks run P k t u → Passes run P u v → Passes run P t v
  walks_then zero t u v same more = subst (λ x. Passes run P x v) (sym same) more
  walks_then (suc k) t u v walk more = let rest = walks_then k (function_step run t) u v walk.1 more in (suc rest.0, (walk.0, rest.1))

  pub passes_then : (t u v : FunctionState) → Passes run P t u → Passes run P u v → Passes run P t v
  passes_then t u v first more = walks_then first.0 t u v first.1 more

  walks_then_on : (k : ℕ) (t u v : FunctionState) → Walks run P k t u → PassesOn run P u v → PassesOn run P t v
  walks_then_on zero t u v same more = subst (λ x. PassesOn run P x v) (sym same) more
  walks_then_on (suc k) t u v walk more = let rest = walks_then_on k (function_step run t) u v walk.1 more in (suc rest.0, (walk.0, rest.1))

  pub passes_then_on : (t u v : FunctionState) → Passes run P t u → PassesOn run P u v → PassesOn run P t v
  passes_then_on t u v first more = walks_then_on first.0 t u v first.1 more

  pub passes_on_then : (t u v : FunctionState) → PassesOn run P t u → Passes run P u v → PassesOn run P t v
  passes_on_then t u v first more = let rest = walks_then first.0 (function_step run t) u v first.1.1 more in (rest.0, (first.1.0, rest.1))
