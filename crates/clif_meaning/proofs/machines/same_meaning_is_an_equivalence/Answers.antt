use Rattle.std.proofs.Common.{refl}
use Rattle.clif_meaning.proofs.Simulation
use Rattle.clif_meaning.proofs.machines.same_meaning_is_an_equivalence.Goals as goal

pub returns : goal.returns
returns c = record {
  reflexive = λ a. record { there = λ n. (n, refl); back = λ n. (n, refl) };
  symmetric = Simulation.symmetric;
  transitive = Simulation.transitive;
}
