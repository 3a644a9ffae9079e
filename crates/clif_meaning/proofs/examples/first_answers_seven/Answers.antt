use Rattle.std.proofs.Common.{refl}
use Rattle.clif_meaning.proofs.FirstRow
use Rattle.clif_meaning.proofs.FirstRecords
use Rattle.clif_meaning.proofs.examples.first_answers_seven.Goals as goal

pub returns : goal.returns
returns c = record {
  script = λ world. refl;
  function = λ world. refl;
  accepted = refl;
  well_placed = FirstRow.function_well_placed;
  records = FirstRecords.first_records_placed;
  edges_match = FirstRow.function_edges;
}
