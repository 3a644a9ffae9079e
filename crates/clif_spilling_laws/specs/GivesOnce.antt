-- Each value is given once, as in SSA form. Source: the usual definition.
use Rattle.std.specs.Prelude.{◌≡◌, ◌≢◌, ◌<◌, ℕ, [], length, Contains}
use Rattle.clif_ir.specs.Body.{Body}
use Rattle.clif_ir.specs.Consistent.{IsConsistent}
use Rattle.clif_meaning.specs.FunctionView.{FunctionView}
use Rattle.clif_meaning.specs.Path.{Place}
use Rattle.clif_meaning.specs.View.{view_of}
use Rattle.clif_meaning.specs.WellPlaced.{placed_at, placed_gives, placed_targets}

-- A function gives values below this number alone, each one as a parameter of one block or as a result at one place; and an
-- instruction with edges has no results.
pub record GivesOnce (function : FunctionView) (count : ℕ) : Type 0 where
  pub parameters_below : (b v : ℕ) → Contains (function.blocks b).parameters v → v < count
  pub results_below : (p : Place ℕ) (v : ℕ) → Contains (placed_gives (placed_at function p)) v → v < count
  pub one_block : (b c v : ℕ) → Contains (function.blocks b).parameters v → Contains (function.blocks c).parameters v → b ≡ c
  pub one_place : (p q : Place ℕ) (v : ℕ)
      → Contains (placed_gives (placed_at function p)) v → Contains (placed_gives (placed_at function q)) v → p ≡ q
  pub apart : (b : ℕ) (p : Place ℕ) (v : ℕ)
      → Contains (function.blocks b).parameters v → Contains (placed_gives (placed_at function p)) v → ⊥
  pub edges_give_nothing : (p : Place ℕ) → placed_targets (placed_at function p) ≢ [] → placed_gives (placed_at function p) ≡ []

-- A consistent function gives each of its values once.
abbrev pub ConsistentGivesOnce : Type 0
ConsistentGivesOnce = (f : Body) → IsConsistent f → GivesOnce (view_of f) (length f.values)
