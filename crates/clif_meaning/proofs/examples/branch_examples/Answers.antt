use Rattle.std.proofs.Common.{refl}
use Rattle.clif_meaning.proofs.BranchRow
use Rattle.clif_meaning.proofs.examples.branch_examples.Goals as goal

pub returns : goal.returns
returns c = record {
  difference = refl;
  no_difference = refl;
  taken = λ world. refl;
  other = λ world. refl;
  entry = λ world. refl;
  past = λ world. refl;
  greatest = λ world. refl;
  not_default = λ world is. cc;
  script = λ world. refl;
  function = λ world. refl;
  swapped = λ world. refl;
  swapped_differs = BranchRow.swapped_differs;
  accepted = refl;
  edges_match = BranchRow.edges_match;
  one_arm = BranchRow.one_arm;
  served_twice = refl;
  sealed = refl;
}
