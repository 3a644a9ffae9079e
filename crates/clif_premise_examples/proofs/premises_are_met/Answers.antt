use Rattle.std.proofs.Common.{refl, arith}
use Rattle.clif_premise_examples.proofs.Branches
use Rattle.clif_premise_examples.proofs.Copies
use Rattle.clif_premise_examples.proofs.Memory
use Rattle.clif_premise_examples.proofs.premises_are_met.Goals as goal

pub returns : goal.returns
returns c = λ function world. record {
  memory = Memory.memory function world;
  memory_returns = refl;
  copies = Copies.copies function world;
  copies_return = refl;
  to_trap = Branches.branches 0 function world (omega arith);
  traps = refl;
  by_switch = Branches.branches 1 function world (omega arith);
  switch_returns = refl;
  by_default = Branches.branches 5 function world (omega arith);
  default_returns = refl;
  tries = Branches.tries 64 function world (omega arith);
  try_returns = Branches.try_returns function world;
  try_throws = Branches.try_throws function world;
}
