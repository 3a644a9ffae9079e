use Rattle.clif_premise_examples.proofs.Copies
use Rattle.clif_premise_examples.proofs.Failing
use Rattle.clif_premise_examples.proofs.Memory
use Rattle.clif_premise_examples.proofs.each_premise_fails_alone.Goals as goal

pub returns : goal.returns
returns c = λ function world. record {
  arguments = Memory.arguments function world;
  pointers = Memory.pointers function world;
  slots = Memory.slots function world;
  targets = Failing.not_filled function world;
  entry = Failing.the_entry function world;
  types = Failing.returns_nothing function world;
  parameters = Failing.no_parameter function world;
  given = Failing.not_given function world;
  passed = Failing.not_passed function world;
  tracked = Failing.not_apart function world;
  spills = Memory.spills function world;
  accessible = Memory.accessible function world;
  aligned = Memory.aligned function world;
  apart = Copies.apart function world;
  libc = Failing.not_as_named function world;
}
