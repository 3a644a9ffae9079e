-- Each place of a block that is reached is reached.
use Rattle.std.proofs.Common.{◌≡◌, ◌<◌, ◌+◌, inl, inr, ℕ, zero, suc, [], ◌∷◌, length, refl, arith}
use Rattle.clif_meaning.specs.FunctionView.{FunctionView}
use Rattle.clif_meaning.specs.Path.{IsReachable}
use Rattle.clif_meaning.specs.WellPlaced.{function_flow}
use Rattle.clif_safepoints.specs.Analysis.{IsReached}
use Rattle.clif_spilling_laws.specs.Live.{place_at}

pub in_reached : (function : FunctionView) (block : ℕ) → IsReached function block → (k : ℕ) → k < length (function.blocks block).items
    → IsReachable (function_flow function) (place_at block k)
in_reached function block (inl entry) zero inside = ([], (entry, (refl, inside)))
in_reached function block (inr from) zero inside = (from.0 ∷ from.1.0, (inr (from.2, (refl, inside)), from.1.1))
in_reached function block reached (suc k) inside =
    let before = in_reached function block reached k (omega (arith, inside)) in (place_at block k ∷ before.0, (inl (refl, one_on k, inside), before.1))
  where
    one_on : (k : ℕ) → suc k ≡ k + 1
    one_on k = omega arith
