use Rattle.std.proofs.Common.{◌≡◌, ◌↔◌, ℕ, true, length, take}
use Rattle.std.specs.Prelude.{Contains}
use Rattle.clif_number_sets.specs.Sets.{is_in}
use Rattle.clif_safepoints.proofs.contexts.reached_blocks.Given as goal

abbrev pub invariant-loop-block : goal.invariant-loop-block
invariant-loop-block l =
    (length l.reached ≡ length l.func.blocks) × ((b : ℕ) → (is_in l.reached b ≡ true) ↔ Contains (take l.block-index l.order) b)
