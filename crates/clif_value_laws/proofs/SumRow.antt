-- The worked function of two parameters of 8 bits is typed.
use Rattle.std.proofs.Common.{ℕ, zero, suc, refl, arith, []}
use Rattle.std.specs.List.{AllByRecursion}
use Rattle.clif_meaning.specs.Examples.{i8}
use Rattle.clif_meaning.specs.World.{World}
use Rattle.clif_typed_runs.specs.ValuesFit.{IsFunctionTyped, IsPlacedTyped}
use Rattle.clif_value_laws.specs.FittingExamples.{bytes, sum_function}

each_typed : (block : ℕ) → AllByRecursion (IsPlacedTyped (sum_function (λ v. i8))) ((sum_function (λ v. i8)).blocks block).items
each_typed zero = (
  record { takes = record { made_at = refl; operands = (refl, (refl, tt)); edges = tt }; gives = refl },
  (record { takes = record { made_at = refl; operands = refl; edges = tt }; gives = refl }, tt),
)
each_typed (suc number) = tt

pub sum_typed : (world : World) → IsFunctionTyped (bytes world)
sum_typed world = record { aliases = λ v. refl; items = each_typed; entry = ([], refl); arguments = (omega arith, (omega arith, tt)) }
