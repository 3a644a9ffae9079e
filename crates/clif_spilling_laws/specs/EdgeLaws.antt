-- Matching edges stay matching through a spilling, landing blocks included. Own, after the verifier of Cranelift's IR.
use Rattle.std.specs.Prelude.{◌≡◌, ◌<◌, ◌≤◌, ℕ, Bool, length, Contains}
use Rattle.clif_ir.specs.Body.{Body}
use Rattle.clif_ir.specs.Consistent.{IsConsistent}
use Rattle.clif_meaning.specs.FunctionView.{Placed}
use Rattle.clif_meaning.specs.Instruction.{Edge, Known}
use Rattle.clif_meaning.specs.Typing.{EdgesMatch}
use Rattle.clif_meaning.specs.View.{view_of}
use Rattle.clif_safepoints.specs.Analysis.{IsReached}
use Rattle.clif_typed_runs.specs.ValuesFit.{AliasesTyped}
use Rattle.clif_spilling_laws.specs.GivesOnce.{GivesOnce}
use Rattle.clif_spilling_laws.specs.Rewriting.{IsLandingBlock, IsSpilling}
use Rattle.clif_spilling_laws.specs.Spilling.{Spilling}

-- What edges of blocks that aren't reached pass are values of the function before, and they lead to no landing block. New values and
-- new blocks come after those of a function, whose edges name its own.
pub record LeadsInside (counts : ℕ → ℕ → Bool) (s : Spilling) : Type 0 where
  pub passes : (block : ℕ) (placed : Placed) (edge : Edge ℕ ℕ) (v : ℕ) → (IsReached s.before block → ⊥)
      → Contains (s.before.blocks block).items placed → Contains placed.instruction.edges edge → Contains edge.arguments (Known v) → v < s.count
  pub leads : (block : ℕ) (placed : Placed) (edge : Edge ℕ ℕ) → (IsReached s.before block → ⊥)
      → Contains (s.before.blocks block).items placed → Contains placed.instruction.edges edge → IsLandingBlock counts s edge.target → ⊥

-- The edges of the function after match its parameters, where those of the function before do.
abbrev pub EdgesStayMatched : Type 0
EdgesStayMatched =
    (counts : ℕ → ℕ → Bool) (members : ℕ → Bool) (s : Spilling)
    → IsSpilling counts s members → GivesOnce s.before s.count → AliasesTyped s.before → LeadsInside counts s
    → EdgesMatch s.before → EdgesMatch s.after

-- A consistent function's edges do, where landing blocks come after its blocks.
abbrev pub ConsistentLeadsInside : Type 0
ConsistentLeadsInside =
    (f : Body) (counts : ℕ → ℕ → Bool) (s : Spilling)
    → IsConsistent f → s.before ≡ view_of f → s.count ≡ length f.values
    → ((block : ℕ) → IsLandingBlock counts s block → length f.blocks ≤ block)
    → LeadsInside counts s
