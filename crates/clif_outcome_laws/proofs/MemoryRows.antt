-- What the examples of memory need beside computation: unequal results, and the bytes that a store leaves.
use Rattle.std.proofs.Common.{◌≡◌, ◌<◌, ℕ, [], ◌∷◌, false, sym, ◌∙◌, ap, arith}
use Rattle.std.specs.Prelude.{◌≢◌}
use Rattle.clif_meaning.specs.Memory.{Memory, lies_in}
use Rattle.clif_meaning.specs.Outcome.{Outcome, Gives}
use Rattle.clif_meaning.proofs.Ranges.{written_leaves}
use Rattle.clif_outcome_laws.specs.MemoryExamples.{stored_memory}

abbrev first_given : Outcome → ℕ
first_given (Gives (x ∷ bits) memory) = x
first_given _ = 0

-- what gives a lesser number doesn't give this one
pub not_greater : (x y : ℕ) (memory : Memory) (outcome : Outcome) → outcome ≡ Gives (x ∷ []) memory → x < y → outcome ≢ Gives (y ∷ []) memory
not_greater x y memory outcome is less other =
    let same : x ≡ y = ap first_given (sym is ∙ other) in
    let no_way : ⊥ = omega (arith, same, less) in no_way

-- another address is none of the two
outside : (address : ℕ) → address ≢ 100 → address ≢ 101 → lies_in (record { width = 64; start = 100; size = 2 }) address ≡ false
outside address not_first not_second = grind arith

pub other_bytes : (memory : Memory) (address : ℕ) → address ≢ 100 → address ≢ 101 → stored_memory memory address ≡ memory address
other_bytes memory address not_first not_second =
    written_leaves memory (record { width = 64; start = 100; size = 2 }) (52 ∷ 18 ∷ []) address (outside address not_first not_second)
