use Rattle.std.proofs.Common.{refl}
use Rattle.clif_ir.specs.Body.{follow}
use Rattle.clif_meaning.proofs.ViewRow
use Rattle.clif_meaning.proofs.examples.view_examples.Goals as goal

pub returns : goal.returns
unfolding follow
returns c = record {
  signature = refl;
  entry = refl;
  items = refl;
  parameters = refl;
  alias = refl;
  no_alias = refl;
  answers_seven = λ world. refl;
  means_the_same = ViewRow.same;
  contexts = refl;
  operands = refl;
}
